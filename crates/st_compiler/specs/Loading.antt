-- What a program is loaded as: its codes, the code of each unit and the initializers.
use Rattle.std.specs.Prelude.{◌≡◌, ℕ, List, [], ◌∷◌, map}
use Rattle.st_tree.specs.declared.units.Unit.{Unit}
use Rattle.st_code.specs.Program.{Initializer}
use Rattle.st_code.specs.Compiled.{Compiled, compile_of, seen_code}
use Rattle.st_code.specs.Written.{named_unit}
use Rattle.st_code.specs.Resolved.{Names}
use Rattle.st_code.specs.Definitions.{Defined, nothing_defined, RunLimits}
use Rattle.program_image.specs.Images.{image_names}
use Rattle.program_image.specs.Finding.{defined_kind, codes_from, unit_codes, program_of_image}
use Rattle.st_compiler.specs.declared.units.Definitions.{Definitions}
use Rattle.st_compiler.specs.declared.loaded.Parts.{Parts}
use Rattle.st_compiler.specs.Drafted.{seen_initializer, Holds}
use Rattle.st_compiler.specs.Placed.{compiled_drafts}

-- what the units of a file define
abbrev pub defined_file : Names → List Unit → Defined → Defined
defined_file x [] d = d
defined_file x (u ∷ units) d = defined_file x units (defined_kind x (named_unit u) d)

pub record IsDefined (units : List Unit) (now : Definitions) : Type 0 where
  pub holds : Holds now.defining (defined_file (image_names units) units nothing_defined)
  pub numbers : now.unit_codes ≡ codes_from (image_names units) units nothing_defined

-- the program that the units define, whatever the limits of its run
pub record IsLoaded (units : List Unit) (seen : List Compiled) (by_unit : List ℕ) (starters : List Initializer) (count : ℕ) : Type 0 where
  pub codes : (limits : RunLimits) → seen ≡ compile_of (program_of_image units limits)
  pub numbers : by_unit ≡ unit_codes units
  pub initializers : (limits : RunLimits) → starters ≡ (program_of_image units limits).initializers
  pub literals : (limits : RunLimits) → count ≡ (program_of_image units limits).trouble_place

abbrev pub IsParts : List Unit → Parts → Type 0
IsParts units p = IsLoaded units (map seen_code p.codes) p.unit_codes (map seen_initializer p.initializers) p.literals

-- what runs of the definitions of a file: their bodies as code, and the rest as it stands
pub record IsBuilt (made : Definitions) (p : Parts) : Type 0 where
  pub codes : map seen_code p.codes ≡ compiled_drafts made.defining.draft.bodies 0 made.defining.draft.bodies
  pub numbers : p.unit_codes ≡ made.unit_codes
  pub initializers : p.initializers ≡ made.defining.initializers
  pub literals : p.literals ≡ made.defining.draft.objects
