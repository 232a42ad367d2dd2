-- The state of a machine after so many turns, or its ended one where the run ends before.
use Rattle.std.specs.Prelude.{◌≡◌, ℕ, ◌≤◌}
use Rattle.st_code.specs.Program.{Program}
use Rattle.st_rules.specs.Machine.{Bodies}
use Rattle.st_rules.specs.Turns.{Top, On, Ended, Turns}

-- all of so many turns were done, unless the run has ended
abbrev pub AllDone : {B : Type 0} → (done count : ℕ) → Top B → Type 0
AllDone done count (On target xs m) = done ≡ count
AllDone done count (Ended e st) = done ≤ count

pub record AfterTurns {B : Type 0} (b : Bodies B) (p : Program) (count : ℕ) (from to : Top B) : Type 0 where
  pub done : ℕ
  pub turns : Turns b p done from to
  pub all : AllDone done count to
