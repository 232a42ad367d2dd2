-- What is claimed of compiled programs as a whole: the run of the code by the flat machine is the run of the program by the rules.
use Rattle.std.specs.Prelude.{ℕ, List}
use Rattle.st_code.specs.Texts.{Text}
use Rattle.st_code.specs.Program.{Program}
use Rattle.st_code.specs.Named.{NamedUnit}
use Rattle.st_code.specs.Definitions.{RunLimits, program_of}
use Rattle.st_rules.specs.State.{State}
use Rattle.st_rules.specs.Runs.{Ending, Runs}
use Rattle.st_rules.specs.Turns.{MachineRuns}
use Rattle.st_rules.specs.Flattened.{flat_of, Alike}

-- the flat machine ends the program where the rules do and the rules where it does, with the same ending, Transcript, events, counts and objects
pub record IsTheRun (p : Program) : Type 0 where
  pub of_the_rules : (e : Ending) (st : State) → Runs p e st → (st' : State) × (count : ℕ) × MachineRuns (flat_of p) p e st' count × Alike st st'
  pub of_the_machine : (e : Ending) (st' : State) (count : ℕ) → MachineRuns (flat_of p) p e st' count → (st : State) × Runs p e st × Alike st st'

-- whatever the units of the file are, and whatever the limits
abbrev pub FlatRunIsTheRulesRun : Type 0
FlatRunIsTheRulesRun = (names : List Text) (units : List NamedUnit) (limits : RunLimits) → IsTheRun (program_of names units limits)
