-- What is claimed of turns: between two instructions a measure falls at each small step, and so each turn comes to its end. This form is the profile's own.
use Rattle.std.specs.Prelude.{◌≡◌, ℕ, ◌+◌, ◌-◌, ◌<◌, ◌⊎◌, Bool, true, false, List, [], ◌∷◌, length}
use Rattle.st_code.specs.Program.{Program}
use Rattle.st_code.specs.Compiled.{Compiled}
use Rattle.st_rules.specs.State.{State, Answer, Go, Stop}
use Rattle.st_rules.specs.Ends.{asks_nested}
use Rattle.st_rules.specs.Rules.{Use, Apply, Activate, Enter, SendTo, SuperTo, Perform, Raise, RaiseNew, SignalPoint, Resignaled, SearchIn, TurnBy, Ask, Protect, Finish, VisitBy, RunBody}
use Rattle.st_rules.specs.Machine.{Act, BodyAct, Leaving, ProtectAct, EnsureOn, CurtailOn, ActionOff, SignalAct, HandlerRun, OuterAct, ResumeWait, HandlesWait, LoopAct, Mach, Run, Settle, Begin, Over, Stuck, Bodies}
use Rattle.st_rules.specs.Scoped.{scoped}
use Rattle.st_rules.specs.Flat.{flat}
use Rattle.st_rules.specs.SoFar.{state_of}
use Rattle.st_rules.specs.Turns.{Top, On, Ended, top_step, runs_of, Turns}

-- ---- the measure: the steps that are left, and then what is to be done until the next one

module _ {B : Type 0} where
  -- an outcome that reaches an activation drops it, or begins what ends in a send, or searches the entries that it keeps
  abbrev pub act_weight : Act B → ℕ
  act_weight (BodyAct x) = 1
  act_weight (Leaving x) = 1
  act_weight (ProtectAct receiver entry env) = 3
  act_weight (EnsureOn n block env) = 3
  act_weight (CurtailOn n block env) = 3
  act_weight (ActionOff n held) = 1
  act_weight (SignalAct n e env) = 8 + length env
  act_weight (HandlerRun n t) = 1 + length t.outside
  act_weight (OuterAct n) = 1
  act_weight (ResumeWait n w k t env) = 7 + length env + length t.outside
  act_weight (HandlesWait n x entry rest) = 4 + length rest
  act_weight (LoopAct n l env) = 7 + length env

  abbrev pub acts_weight : List (Act B) → ℕ
  acts_weight [] = 0
  acts_weight (a ∷ acts) = act_weight a + acts_weight acts

  -- a search ends in a send; that of `isNested` ends in an outcome
  abbrev pub found_weight : Bool → List (Act B) → ℕ
  found_weight true acts = 2 + acts_weight acts
  found_weight false acts = 3

  abbrev pub use_weight : Use → List (Act B) → ℕ
  use_weight (Apply v args env) acts = 3
  use_weight (Activate c args env) acts = 2
  use_weight (Enter code r args env) acts = 2
  use_weight (SendTo selector r args env) acts = 2
  use_weight (SuperTo class selector r args env) acts = 2
  use_weight (Perform a env) acts = 9 + length env + acts_weight acts + acts_weight acts
  use_weight (Raise e env) acts = 8 + length env
  use_weight (RaiseNew class slots env) acts = 7 + length env
  use_weight (SignalPoint n e env) acts = 6 + length env
  use_weight (Resignaled n e f env) acts = 9 + length env
  use_weight (SearchIn x rest) acts = 2 + length rest + found_weight (asks_nested x) acts
  use_weight (TurnBy x entry outside) acts = 1 + found_weight (asks_nested x) acts
  use_weight (Ask w k t env) acts = 3
  use_weight (Protect receiver entry env) acts = 4
  use_weight (Finish n block held env) acts = 4
  use_weight (VisitBy n v env) acts = 8 + length env + acts_weight acts
  use_weight (RunBody f env) acts = 1

  abbrev pub mach_weight : Mach B → ℕ
  mach_weight (Run x acts st) = 0
  mach_weight (Settle (Answer v) acts st) = 2 + acts_weight acts
  mach_weight (Settle (Go t v) acts st) = 2 + acts_weight acts
  mach_weight (Settle (Stop l) acts st) = 1
  mach_weight (Begin u acts st) = use_weight u acts
  mach_weight (Over o st) = 0
  mach_weight (Stuck st) = 0

  -- with the initializers that are left
  abbrev pub top_weight : Top B → ℕ
  top_weight (On target xs m) = 1 + mach_weight m + length xs + length xs
  top_weight (Ended e st) = 0

  abbrev pub top_state : Top B → State
  top_state (On target xs m) = state_of m
  top_state (Ended e st) = st

  abbrev pub steps_left : Program → Top B → ℕ
  steps_left p t = p.step_limit - (top_state t).steps

  -- fewer steps are left, or as many and less is to be done
  abbrev pub Falls : Program → (before after : Top B) → Type 0
  Falls p before after = (steps_left p after < steps_left p before) ⊎ ((steps_left p after ≡ steps_left p before) × (top_weight after < top_weight before))

  -- no instruction comes next, and the run hasn't ended
  abbrev pub Between : Top B → Type 0
  Between (On target xs (Run x acts st)) = ⊥
  Between (On target xs m) = Unit {0}
  Between (Ended e st) = ⊥

-- at each small step that runs no instruction the measure falls, in each state
abbrev pub MeasureFalls : {B : Type 0} → Bodies B → Program → Type 0
MeasureFalls {B} b p = (t : Top B) → Between t → Falls p t (top_step b p t)

-- and so from each moment, with the instruction that comes next where one does, a moment is reached at which an instruction comes next or the run has ended
abbrev pub TurnsEnd : {B : Type 0} → Bodies B → Program → Type 0
TurnsEnd {B} b p = (t : Top B) → (to : Top B) × Turns b p (runs_of b p t) t to

abbrev pub ScopedMeasureFalls : Type 0
ScopedMeasureFalls = (p : Program) → MeasureFalls (scoped p) p

abbrev pub ScopedTurnsEnd : Type 0
ScopedTurnsEnd = (p : Program) → TurnsEnd (scoped p) p

-- on the flat machine whatever its codes are, and their room
abbrev pub FlatMeasureFalls : Type 0
FlatMeasureFalls = (p : Program) (codes : List Compiled) (room : ℕ) → MeasureFalls (flat p codes room) p

abbrev pub FlatTurnsEnd : Type 0
FlatTurnsEnd = (p : Program) (codes : List Compiled) (room : ℕ) → TurnsEnd (flat p codes room) p
