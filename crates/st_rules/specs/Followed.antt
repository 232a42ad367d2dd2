-- What is claimed of the machine: it does what the rules say.
use Rattle.std.specs.Prelude.{◌≡◌, ℕ}
use Rattle.st_code.specs.Program.{Program}
use Rattle.st_rules.specs.State.{State}
use Rattle.st_rules.specs.Runs.{Ending, Runs}
use Rattle.st_rules.specs.Scoped.{scoped}
use Rattle.st_rules.specs.Turns.{Ended, opened_run, top_iter}

-- where the rules end a program, the scoped machine ends it alike: with the same ending, Transcript, events, counts and objects
abbrev pub FollowsTheRules : Type 0
FollowsTheRules = (p : Program) (e : Ending) (st : State) → Runs p e st → (n : ℕ) × (top_iter (scoped p) p n (opened_run (scoped p) p) ≡ Ended e st)
