-- What is claimed of the index: a larger one changes no outcome, and so a program has at most one run.
use Rattle.std.specs.Prelude.{◌≡◌, ℕ, ◌≤◌, List}
use Rattle.st_code.specs.Program.{Program}
use Rattle.st_rules.specs.State.{State, Outcome, Mark}
use Rattle.st_rules.specs.Ends.{Yields}
use Rattle.st_rules.specs.Rules.{Use, at_index}
use Rattle.st_rules.specs.Runs.{Ending, Runs}

-- what a use of a rule comes to at an index, it comes to at each larger one
abbrev pub LargerKeeps : Type 0
LargerKeeps =
    (p : Program) (i j : ℕ) → i ≤ j → (u : Use) (standing : List Mark) (st : State) (o : Outcome) (st' : State) →
    (at_index p i).use' u standing st ≡ Yields o st' → (at_index p j).use' u standing st ≡ Yields o st'

-- two runs of a program end alike
abbrev pub OneEnding : Type 0
OneEnding = (p : Program) (e e' : Ending) (st st' : State) → Runs p e st → Runs p e' st' → e ≡ e'

-- and in the same state: with the same Transcript, events and counts
abbrev pub OneState : Type 0
OneState = (p : Program) (e e' : Ending) (st st' : State) → Runs p e st → Runs p e' st' → st ≡ st'
