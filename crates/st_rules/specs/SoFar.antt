-- What is claimed of a run that isn't over: what a machine has written by then is where the run's Transcript begins.
use Rattle.std.specs.Prelude.{ℕ}
use Rattle.st_code.specs.Texts.{Text}
use Rattle.st_code.specs.Program.{Program}
use Rattle.st_rules.specs.State.{State}
use Rattle.st_rules.specs.Runs.{Ending, Runs}
use Rattle.st_rules.specs.Machine.{Mach, Run, Settle, Begin, Over, Stuck}
use Rattle.st_rules.specs.Scoped.{scoped}
use Rattle.st_rules.specs.Turns.{Top, On, Ended, opened_run, top_iter}
use Rattle.st_rules.specs.Compilable.{Compilable}
use Rattle.st_rules.specs.Flattened.{flat_of}
use Rattle.st_rules.specs.StepLimits.{Begins}

abbrev pub state_of : {B : Type 0} → Mach B → State
state_of (Run x acts st) = st
state_of (Settle o acts st) = st
state_of (Begin u acts st) = st
state_of (Over o st) = st
state_of (Stuck st) = st

-- the Transcript at a moment
abbrev pub written : {B : Type 0} → Top B → Text
written (On target xs m) = (state_of m).transcript
written (Ended e st) = st.transcript

-- after any number of small steps, hence of turns, of the scoped machine
abbrev pub ScopedSoFar : Type 0
ScopedSoFar = (p : Program) (e : Ending) (st : State) → Runs p e st → (n : ℕ) → Begins (written (top_iter (scoped p) p n (opened_run (scoped p) p))) st.transcript

-- and of the flat one, on a compilable program
abbrev pub FlatSoFar : Type 0
FlatSoFar = (p : Program) → Compilable p → (e : Ending) (st : State) → Runs p e st → (n : ℕ) → Begins (written (top_iter (flat_of p) p n (opened_run (flat_of p) p))) st.transcript
