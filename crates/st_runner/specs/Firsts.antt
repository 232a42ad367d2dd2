-- A machine at the beginning of a run that it can make whole.
use Rattle.std.specs.Prelude.{◌≡◌, ◌-◌, ◌^◌, ◌<◌, ◌≤◌, List}
use Rattle.st_base.specs.declared.faults.Limits.{Limits}
use Rattle.st_tree.specs.declared.units.Unit.{Unit}
use Rattle.st_tree.specs.Numbers.{elements_in}
use Rattle.st_tree.specs.Units.{IsReadable}
use Rattle.st_checks.specs.StaticRules.{MeetsRules}
use Rattle.st_code.specs.Compiled.{compile_of}
use Rattle.st_rules.specs.Instructions.{most_instructions}
use Rattle.st_machine.specs.Plans.{plan_of, program_from, program_in}
use Rattle.st_machine.specs.Seen.{Seen}
use Rattle.st_machine.specs.Steps.{first_seen}
use Rattle.st_machine_laws.specs.WholeRun.{Opened}
use Rattle.st_steady.specs.Steady.{Steady}
use Rattle.st_opening.specs.Opened.{opened_seen, HasRoom, HaveFew}

-- nothing was done, no store will be unsound for a send or a loop, and the instructions of the whole run can be counted
pub record IsFirst (s : Seen) : Type 0 where
  pub first : s ≡ first_seen s.plan s.memory
  pub opened : Opened s.plan s.memory
  pub steady : Steady s.plan
  pub few : most_instructions (program_in s.plan) < 2 ^ 64 - 1

-- so is a machine that is opened on units that are read and meet the static rules, where it is to make at most 10^12 steps
abbrev pub OpensFirst : Type 0
OpensFirst =
    (units : List Unit) (limits : Limits) → IsReadable units → MeetsRules units → elements_in units < 2 ^ 32 - 1 → limits.steps ≤ 10 ^ 12
    → HaveFew (compile_of (program_from units limits)) → HasRoom (plan_of units limits) → IsFirst (opened_seen units limits)
