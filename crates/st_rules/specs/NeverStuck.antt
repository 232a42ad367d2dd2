-- What is claimed of endings: each run is done, ends with an exception that nothing handled, or ends at a limit. Every unwinding finds its target, so `Stuck` comes never.
use Rattle.std.specs.Prelude.{◌≡◌, ℕ}
use Rattle.st_code.specs.Program.{Program}
use Rattle.st_rules.specs.State.{State}
use Rattle.st_rules.specs.Runs.{Stuck, Runs}
use Rattle.st_rules.specs.Scoped.{scoped}
use Rattle.st_rules.specs.Turns.{Ended, opened_run, top_iter}

-- the rules end no program so
abbrev pub RulesNeverStuck : Type 0
RulesNeverStuck = (p : Program) (st : State) → Runs p Stuck st → ⊥

-- and the scoped machine ends none so
abbrev pub MachineNeverStuck : Type 0
MachineNeverStuck = (p : Program) (n : ℕ) (st : State) → top_iter (scoped p) p n (opened_run (scoped p) p) ≡ Ended Stuck st → ⊥
