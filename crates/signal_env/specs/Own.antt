-- The selectors that every image has.
use Rattle.std.specs.Prelude.{◌≡◌, true, map}
use Rattle.std.specs.Str.{bytes_eq}
use Rattle.std.specs.List.{list_any}
use Rattle.st_base.specs.BuiltIns.{messages}
use Rattle.st_code.specs.Texts.{Text}
use Rattle.program_image.specs.Spelled.{selector_of}

-- the selector of a built-in message
abbrev pub IsSelector : Text → Type 0
IsSelector t = list_any (bytes_eq t) (map selector_of messages) ≡ true
