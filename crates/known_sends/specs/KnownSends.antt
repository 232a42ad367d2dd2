-- The sends that a loaded program keeps: each with what a lookup finds for it.
use Rattle.std.specs.List.{All}
use Rattle.std.specs.Prelude.{◌≡◌, List, IfSome, Option, Some}
use Rattle.st_code.specs.Lookup.{level, lookup}
use Rattle.st_code.specs.Program.{Program}
use Rattle.program_image.specs.Images.{on_side, as_row}
use Rattle.known_sends.specs.declared.sends.KnownSend.{KnownSend}

-- it found what a lookup finds
pub record IsKnown (p : Program) (k : KnownSend) : Type 0 where
  pub found : lookup p (level (on_side k.side) k.class) k.selector ≡ Some (as_row k.found)

-- so did each that is there
abbrev pub AreKnown : Program → List (Option KnownSend) → Type 0
AreKnown p sends = All (λ k. IfSome k (IsKnown p)) sends
