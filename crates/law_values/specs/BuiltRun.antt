-- What is claimed of a run: at each small step of the flat machine each object is built as its class says.
use Rattle.std.specs.Prelude.{ℕ}
use Rattle.st_code.specs.Program.{Program}
use Rattle.st_rules.specs.Compilable.{Compilable}
use Rattle.st_rules.specs.Flat.{FlatBody}
use Rattle.st_rules.specs.Flattened.{flat_of}
use Rattle.st_rules.specs.Machine.{Mach, Run, Settle, Begin, Over, Stuck}
use Rattle.st_rules.specs.Objects.{KnowsLiterals}
use Rattle.st_rules.specs.Selves.{KnowsClasses}
use Rattle.st_rules.specs.State.{State}
use Rattle.st_rules.specs.Turns.{Top, On, Ended, opened_run, top_iter}
use Rattle.st_sound.specs.KnownCollections.{KnowsCollections}
use Rattle.law_values.specs.BuiltObjects.{BuiltStore}
use Rattle.law_values.specs.KnownBuilt.{KnowsBuilt}

-- the state that a machine has in hand, or that a run has ended in
abbrev pub state_of : Mach FlatBody → State
state_of (Run x acts st) = st
state_of (Settle o acts st) = st
state_of (Begin u acts st) = st
state_of (Over o st) = st
state_of (Stuck st) = st

abbrev pub top_state : Top FlatBody → State
top_state (On target xs m) = state_of m
top_state (Ended e st) = st

abbrev pub ObjectsAreBuilt : Type 0
ObjectsAreBuilt =
    (p : Program) → Compilable p → KnowsLiterals p → KnowsClasses p → KnowsCollections p → KnowsBuilt p →
    (n : ℕ) → BuiltStore p (top_state (top_iter (flat_of p) p n (opened_run (flat_of p) p))).store
