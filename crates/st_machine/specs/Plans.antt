-- The program of a file with its limits and code.
use Rattle.std.specs.Prelude.{◌≡◌, ℕ, ◌+◌, ◌-◌, ◌<◌, ◌^◌, max, min, Bool, true, ◌&&◌, List, [], ◌∷◌, length, map, nat_lt}
use Rattle.st_base.specs.declared.faults.Limits.{Limits}
use Rattle.st_tree.specs.declared.units.Unit.{Unit}
use Rattle.st_code.specs.Texts.{Text, arity}
use Rattle.st_code.specs.Compiled.{Compiled, compile_of}
use Rattle.st_code.specs.Program.{Program, Initializer as Starter}
use Rattle.st_code.specs.Written.{named_units}
use Rattle.st_code.specs.Definitions.{RunLimits, program_of}
use Rattle.program_image.specs.Spelled.{names_in}
use Rattle.st_rules.specs.Flat.{greatest_width}
use Rattle.st_compiler.specs.declared.units.Initializer.{Initializer}
use Rattle.st_machine.specs.Seen.{Plan}

abbrev pub limits_of : Limits → RunLimits
limits_of l = record { steps = l.steps; depth = l.depth; cells = l.cells }

-- the program that units are
abbrev pub program_from : List Unit → Limits → Program
program_from units limits = program_of (names_in (named_units units)) (named_units units) (limits_of limits)

abbrev pub initializer_of : Starter → Initializer
initializer_of i = record { code = i.code; receiver = i.self; target = i.target }

abbrev pub plan_of : List Unit → Limits → Plan
plan_of units limits =
    record { units = units; codes = compile_of (program_from units limits); initializers = map initializer_of (program_from units limits).initializers; troubles = (program_from units limits).trouble_place; limits = limits }

abbrev pub program_in : Plan → Program
program_in p = program_from p.units p.limits

-- the variables of each code can be counted in 32 bits
abbrev pub are_short : List Compiled → Bool
are_short [] = true
are_short (c ∷ codes) = nat_lt (length c.captured) (2 ^ 32) && are_short codes

-- so can the objects of literals and the texts of troubles
pub record IsSmall (p : Plan) : Type 0 where
  pub short : are_short p.codes ≡ true
  pub numbered : p.troubles + 24 < 2 ^ 32

-- ---- the values that a work passes on

-- the greatest count of arguments of a selector, and of parameters of a code
abbrev pub greatest_arity : List Text → ℕ
greatest_arity [] = 0
greatest_arity (name ∷ names) = max (arity name) (greatest_arity names)

abbrev pub greatest_parameters : List Compiled → ℕ
greatest_parameters [] = 0
greatest_parameters (c ∷ codes) = max c.parameters (greatest_parameters codes)

-- there is room for the operands of an activation, for the arguments of each selector and for those of each block
abbrev pub room_in : Plan → ℕ
room_in p = max (greatest_width p.codes) (max (greatest_parameters p.codes) (min (greatest_arity (program_in p).names) (2 ^ 32 - 1)))
