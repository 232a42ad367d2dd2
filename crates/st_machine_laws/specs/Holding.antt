-- What holds of a machine at each moment of a run, from the first one on: it is ready, each body has its next instruction, and the numbers of activations don't run out.
use Rattle.std.specs.Prelude.{◌≡◌, ℕ, ◌+◌, ◌-◌, ◌*◌, ◌^◌, ◌<◌, ◌≤◌, min, Bool, true, false, List, [], ◌∷◌, length, map}
use Rattle.object_heap.specs.Charges.{Memory}
use Rattle.st_code.specs.Compiled.{Compiled, compile_of}
use Rattle.st_contexts.specs.declared.activation.Activation.{Activation}
use Rattle.st_contexts.specs.declared.activation.Activation.TheVariants as act
use Rattle.st_contexts.specs.declared.outcome.Outcome.{Outcome}
use Rattle.st_contexts.specs.declared.outcome.Outcome.TheVariants as outcome
use Rattle.st_contexts.specs.Stack.{Stack, Standing}
use Rattle.st_rules.specs.Flat.{code_at, greatest_width}
use Rattle.st_machine.specs.declared.work.Mode.{Mode}
use Rattle.st_machine.specs.declared.work.Mode.TheVariants as mode
use Rattle.st_machine.specs.declared.work.Work.{Work}
use Rattle.st_machine.specs.declared.work.Work.TheVariants as work
use Rattle.st_machine.specs.Seen.{Plan, Seen}
use Rattle.st_machine.specs.Plans.{program_in, room_in}
use Rattle.st_machine.specs.Initializers.{seen_initializer}
use Rattle.st_machine.specs.Searches.{asks_nested}
use Rattle.st_machine.specs.Followed.{Roomy, Falling, CanGoOn}

-- ---- a program that is small enough

-- positions fit 32 bits; and activations have numbers below 2^64 - 1, where each step and each initializer takes a few
pub record Moderate (plan : Plan) : Type 0 where
  pub lengths : (code : ℕ) → length (code_at plan.codes code).instructions < 2 ^ 32 - 1
  pub steps : (program_in plan).step_limit ≤ 2 ^ 60
  pub initializers : length plan.initializers ≤ 2 ^ 62

-- ---- what stands, and what no step changes

-- the plan that runs, and how many instructions were begun
pub record Course : Type 0 where
  pub plan : Plan
  pub instructions : ℕ

pub record Firm (course : Course) (plan : Plan) (stack : Stack) (memory : Memory) (room steps begun run : ℕ) : Type 0 where
  pub same : plan ≡ course.plan
  pub wide : stack.width ≡ greatest_width course.plan.codes
  pub ran : run ≡ course.instructions
  pub moderate : Moderate plan
  pub compiled : plan.codes ≡ compile_of (program_in plan)
  pub initializers : map seen_initializer plan.initializers ≡ (program_in plan).initializers
  pub troubles : plan.troubles ≡ (program_in plan).trouble_place
  pub roomy : Roomy plan.codes stack.width
  pub space : 8 ≤ stack.width
  pub passes : stack.width ≤ room
  pub arguments : room ≡ room_in plan
  pub depth : stack.depth ≡ (program_in plan).depth_limit
  pub cells : memory.limit ≡ (program_in plan).cell_limit
  pub within : memory.used ≤ memory.limit
  pub positive : 0 < stack.next
  pub falling : Falling stack.next stack.acts
  pub limited : steps ≤ (program_in plan).step_limit
  pub known : begun ≤ length plan.initializers

-- ---- positions

-- a body that waits stands at an instruction, and the one that runs at one or behind the last one
abbrev pub Waits : List Compiled → Activation → Type 0
Waits codes (act.Body f) = f.position < length (code_at codes f.code).instructions
Waits codes _ = Unit {0}

abbrev pub AllWait : List Compiled → List Standing → Type 0
AllWait codes [] = Unit {0}
AllWait codes (a ∷ acts) = Waits codes a.kept × AllWait codes acts

abbrev pub IsPlaced : List Compiled → Activation → Type 0
IsPlaced codes (act.Body f) = f.position ≤ length (code_at codes f.code).instructions
IsPlaced codes _ = Unit {0}

abbrev pub RunsAtTop : List Compiled → List Standing → Type 0
RunsAtTop codes [] = Unit {0}
RunsAtTop codes (a ∷ acts) = IsPlaced codes a.kept × AllWait codes acts

abbrev pub Placed : Mode → List Compiled → List Standing → Type 0
Placed mode.Run codes acts = RunsAtTop codes acts
Placed _ codes acts = AllWait codes acts

-- ---- numbers

-- how many activations may come to stand before the next step or initializer is counted
abbrev pub search_allowance : Bool → ℕ
search_allowance true = 2
search_allowance false = 1

abbrev pub work_allowance : Work → ℕ
work_allowance (work.Apply receiver env) = 0
work_allowance (work.SendValue receiver env) = 0
work_allowance (work.Activate closure env) = 0
work_allowance (work.Enter code receiver env) = 3
work_allowance (work.SendTo selector receiver env) = 0
work_allowance (work.SuperTo class selector receiver env) = 0
work_allowance (work.Fail trouble env) = 2
work_allowance (work.Raise exception env) = 2
work_allowance (work.RaiseNew class env) = 2
work_allowance (work.Search x rest) = search_allowance (asks_nested x.purpose)
work_allowance (work.TurnBy x entry outside) = search_allowance (asks_nested x.purpose)
work_allowance (work.Ask w k t env) = 1
work_allowance (work.Visit n l v env) = 2

abbrev pub outcome_allowance : Outcome → ℕ
outcome_allowance (outcome.Answer v) = 2
outcome_allowance (outcome.Go t v) = 2
outcome_allowance (outcome.Stop l) = 0

abbrev pub allowance : Mode → ℕ
allowance mode.Run = 2
allowance (mode.Settle o) = outcome_allowance o
allowance (mode.Begin w) = work_allowance w
allowance mode.Next = 2
allowance (mode.Ended e) = 0

-- so many more numbers are within three for each step and one for each initializer
abbrev pub Fits : ℕ → Seen → Type 0
Fits n s = s.stack.next + n ≤ 3 + s.initializers + 3 * s.steps

-- ---- what comes next

-- on its course
pub record Holds (course : Course) (s : Seen) : Type 0 where
  pub firm : Firm course s.plan s.stack s.memory s.passed.room s.steps s.initializers s.instructions
  pub placed : Placed s.mode s.plan.codes s.stack.acts
  pub numbers : Fits (allowance s.mode) s
  pub next : CanGoOn s.mode s

-- one more instruction, where one comes next
abbrev pub begun_by : Mode → ℕ → ℕ
begun_by mode.Run n = min (n + 1) (2 ^ 64 - 1)
begun_by _ n = n

abbrev pub further : Mode → Course → Course
further m c = record { plan = c.plan; instructions = begun_by m c.instructions }

abbrev pub course_of : Plan → Course
course_of plan = record { plan = plan; instructions = 0 }
