-- A machine at the beginning of a program's run.
use Rattle.std.specs.Prelude.{◌≡◌, ℕ, ◌-◌, ◌<◌, ◌≤◌, ◌^◌, Bool, true, ◌&&◌, List, [], ◌∷◌, length, nat_lt}
use Rattle.st_base.specs.declared.faults.Limits.{Limits}
use Rattle.st_tree.specs.declared.units.Unit.{Unit}
use Rattle.st_code.specs.Compiled.{Compiled}
use Rattle.st_code.specs.Texts.{Text, arity}
use Rattle.st_rules.specs.Flat.{code_at}
use Rattle.st_rules.specs.Flattened.{flat_of}
use Rattle.st_rules.specs.Turns.{opened_run}
use Rattle.st_literals.specs.Numbered.{first_memory}
use Rattle.st_machine.specs.Followed.{Ready}
use Rattle.st_machine.specs.Meaning.{top_of}
use Rattle.st_machine.specs.Plans.{plan_of, program_from, program_in, greatest_arity, room_in}
use Rattle.st_machine.specs.Seen.{Plan, Seen}
use Rattle.st_machine.specs.Steps.{first_seen}

abbrev pub opened_seen : List Unit → Limits → Seen
opened_seen units limits = first_seen (plan_of units limits) (first_memory (program_from units limits))

-- it can make its first step, and stands for the flat machine at the beginning of the program's run
pub record IsOpened (units : List Unit) (limits : Limits) : Type 0 where
  pub ready : Ready (opened_seen units limits)
  pub begins : top_of [] [] (opened_seen units limits) ≡ opened_run (flat_of (program_from units limits)) (program_from units limits)

-- ---- what counts as want of memory

-- each code has fewer than 2^22 instructions
abbrev pub are_few : List Compiled → Bool
are_few [] = true
are_few (c ∷ codes) = nat_lt (length c.instructions) (2 ^ 22) && are_few codes

pub record HaveFew (codes : List Compiled) : Type 0 where
  pub lengths : (code : ℕ) → length (code_at codes code).instructions < 2 ^ 22

-- each selector takes fewer than 2^32 - 1 arguments
abbrev pub are_counted : List Text → Bool
are_counted [] = true
are_counted (name ∷ names) = nat_lt (arity name) (2 ^ 32 - 1) && are_counted names

-- so there is room for the arguments of each
pub record HasRoom (plan : Plan) : Type 0 where
  pub arities : greatest_arity (program_in plan).names ≤ room_in plan
