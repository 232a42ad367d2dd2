-- What a function that runs a machine to its end makes of the machine and of the sink: it is the run of the program by the rules.
use Rattle.std.specs.Prelude.{◌≡◌, ℕ, List, Option}
use Rattle.std.specs.Io.KnownBytes.{append_known}
use Rattle.st_base.specs.Streams.{GainsPrefix}
use Rattle.st_code.specs.Program.{Program}
use Rattle.st_rules.specs.Flattened.{flat_of}
use Rattle.st_rules.specs.Runs.{Ending, Runs}
use Rattle.st_rules.specs.State.{State}
use Rattle.st_rules.specs.Turns.{MachineRuns}
use Rattle.st_machine.specs.Plans.{program_in}
use Rattle.st_machine.specs.Seen.{Seen}

-- the machine has ended as the program's run does, and the sink gained its Transcript
pub record EndsAs (p : Program) (e : Ending) (m : Seen) (old new : Option (List ℕ)) : Type 0 where
  pub state : State
  pub flat : State
  pub instructions : ℕ
  pub by_the_rules : Runs p e state
  pub by_the_machine : MachineRuns (flat_of p) p e flat instructions
  pub wrote : new ≡ append_known old state.transcript
  pub program : program_in m.plan ≡ p
  pub steps : m.steps ≡ state.steps
  pub depth : m.deepest ≡ state.depth
  pub cells : m.memory.used ≡ state.cells
  pub counted : m.instructions ≡ instructions
  pub objects : m.memory.store.objects ≡ state.store.objects

-- the sink gained a prefix of the Transcript of the program's run
pub record StopsAs (p : Program) (old new : Option (List ℕ)) : Type 0 where
  pub ending : Ending
  pub state : State
  pub flat : State
  pub instructions : ℕ
  pub by_the_rules : Runs p ending state
  pub by_the_machine : MachineRuns (flat_of p) p ending flat instructions
  pub part : GainsPrefix old new state.transcript
