-- The run of a program by a machine: its initializers in file order; and its turns, each one instruction with what it brings until the next. This form is the profile's own.
use Rattle.std.specs.Prelude.{◌≡◌, ℕ, zero, suc, ◌+◌, List, [], ◌∷◌, Option}
use Rattle.st_code.specs.Program.{Program, Initializer}
use Rattle.st_rules.specs.State.{State, Answer}
use Rattle.st_rules.specs.Ends.{initializer_opening}
use Rattle.st_rules.specs.Machine.{Mach, Run, Settle, Begin, Over, Stuck, Bodies, open_act, step}
use Rattle.st_rules.specs.Runs.{Ending, Done, Stuck as Stranded, kept_value, end_of, first_state}

-- a machine on an initializer, with the variable that takes its value and the initializers behind it; or the end of the run
pub data Top (B : Type 0) : Type 0 where
  On : (target : Option ℕ) → List Initializer → Mach B → Top B
  Ended : Ending → State → Top B

module _ {B : Type 0} (b : Bodies B) (p : Program) where
  -- the next initializer is opened, or the run is done
  abbrev pub open_next : List Initializer → State → Top B
  open_next [] st = Ended Done st
  open_next (x ∷ xs) st = On x.target xs (open_act b p (initializer_opening p x st.next) [] st)

  -- one small step
  abbrev pub top_step : Top B → Top B
  top_step (On target xs (Over (Answer v) st)) = open_next xs (kept_value target v st)
  top_step (On target xs (Over o st)) = Ended (end_of o) st
  top_step (On target xs (Stuck st)) = Ended Stranded st
  top_step (On target xs m) = On target xs (step b p m)
  top_step (Ended e st) = Ended e st

  abbrev pub top_iter : ℕ → Top B → Top B
  top_iter zero t = t
  top_iter (suc n) t = top_iter n (top_step t)

  -- the state in which a run begins
  abbrev pub opened_run : Top B
  opened_run = open_next p.initializers (first_state p)

  -- a small step that runs an instruction counts one
  abbrev pub runs_of : Top B → ℕ
  runs_of (On target xs (Run x acts st)) = 1
  runs_of (On target xs (Settle o acts st)) = 0
  runs_of (On target xs (Begin u acts st)) = 0
  runs_of (On target xs (Over o st)) = 0
  runs_of (On target xs (Stuck st)) = 0
  runs_of (Ended e st) = 0

  -- the instructions among so many small steps
  abbrev pub instructions : ℕ → Top B → ℕ
  instructions zero t = 0
  instructions (suc n) t = runs_of t + instructions n (top_step t)

  -- an instruction comes next, or the run has ended
  abbrev pub AtRest : Top B → Type 0
  AtRest (On target xs (Run x acts st)) = Unit {0}
  AtRest (On target xs m) = ⊥
  AtRest (Ended e st) = Unit {0}

  -- the second state is the first one after so many turns
  pub record Turns (count : ℕ) (from to : Top B) : Type 0 where
    pub steps : ℕ
    pub leads : top_iter steps from ≡ to
    pub counted : instructions steps from ≡ count
    pub rests : AtRest to

  -- the run ends so, in this state, after so many instructions
  pub record MachineRuns (e : Ending) (st : State) (count : ℕ) : Type 0 where
    pub steps : ℕ
    pub leads : top_iter steps opened_run ≡ Ended e st
    pub counted : instructions steps opened_run ≡ count
