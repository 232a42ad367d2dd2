-- What is claimed of every program: the rules end it, and they end it so where the scoped machine does. With what is claimed of the index and of the machine, the machine's run is the rules'.
use Rattle.std.specs.Prelude.{◌≡◌, ℕ}
use Rattle.st_code.specs.Program.{Program}
use Rattle.st_rules.specs.State.{State}
use Rattle.st_rules.specs.Runs.{Ending, Runs}
use Rattle.st_rules.specs.Scoped.{scoped}
use Rattle.st_rules.specs.Turns.{Ended, opened_run, top_iter}

-- at some index the rules end the program, whatever its limits: since a step is charged for each activation of a block and each send, they can't go on for ever
abbrev pub RulesEnd : Type 0
RulesEnd = (p : Program) → (e : Ending) × (st : State) × Runs p e st

-- where the scoped machine ends a program, the rules end it alike: with the same ending, Transcript, events, counts and objects
abbrev pub FollowedByTheRules : Type 0
FollowedByTheRules = (p : Program) (n : ℕ) (e : Ending) (st : State) → top_iter (scoped p) p n (opened_run (scoped p) p) ≡ Ended e st → Runs p e st

-- and the scoped machine does end each program
abbrev pub MachineEnds : Type 0
MachineEnds = (p : Program) → (n : ℕ) × (e : Ending) × (st : State) × (top_iter (scoped p) p n (opened_run (scoped p) p) ≡ Ended e st)
