-- What the program of a file finds, and what its image finds: the same, but for the number by which a method of the file goes.
use Rattle.std.specs.Prelude.{◌≡◌, ℕ, List, [], ◌∷◌, length, get_or, Option, Some, None}
use Rattle.std.specs.Option.{option_map}
use Rattle.st_tree.specs.declared.units.Unit.{Unit}
use Rattle.st_code.specs.Program.{Program}
use Rattle.st_code.specs.Named.{NamedUnit}
use Rattle.st_code.specs.Written.{named_unit, named_units}
use Rattle.st_code.specs.Resolved.{Names}
use Rattle.st_code.specs.Definitions.{Defined, nothing_defined, defined_unit, RunLimits, program_of}
use Rattle.st_code.specs.Lookup.{Level, lookup, Found, UserMethod, BuiltIn}
use Rattle.program_image.specs.Spelled.{names_in}
use Rattle.program_image.specs.Images.{image_names, image_program}

-- what a unit defines
abbrev pub defined_kind : Names → Option NamedUnit → Defined → Defined
defined_kind x None d = d
defined_kind x (Some u) d = defined_unit x u d

-- the number that the body of each unit gets, by the place of the unit
abbrev pub codes_from : Names → List Unit → Defined → List ℕ
codes_from x [] d = []
codes_from x (u ∷ units) d = length d.bodies ∷ codes_from x units (defined_kind x (named_unit u) d)

unfoldable pub unit_codes : List Unit → List ℕ
unit_codes units = codes_from (image_names units) units nothing_defined

-- a method by the number of its body
abbrev pub coded : List ℕ → Found → Found
coded codes (UserMethod place) = UserMethod (get_or codes place 0)
coded codes (BuiltIn row) = BuiltIn row

-- the program that units define, with the numbers of their image
unfoldable pub program_of_image : List Unit → RunLimits → Program
program_of_image units limits = program_of (names_in (named_units units)) (named_units units) limits

-- A program finds what its image finds.
pub record FindsAlike (units : List Unit) (limits : RunLimits) : Type 0 where
  pub alike : (l : Level) (selector : ℕ) → lookup (program_of_image units limits) l selector ≡ option_map (coded (unit_codes units)) (lookup (image_program units) l selector)
