-- What is claimed of step limits: a larger one only extends the Transcript.
use Rattle.std.specs.Prelude.{◌≡◌, ℕ, ◌≤◌, ◌++◌}
use Rattle.st_code.specs.Texts.{Text}
use Rattle.st_code.specs.Program.{Program}
use Rattle.st_rules.specs.State.{State, StepLimit}
use Rattle.st_rules.specs.Runs.{Ending, AtLimit, Runs}

-- the same program under another step limit
abbrev pub with_step_limit : Program → ℕ → Program
with_step_limit p limit = record p { step_limit = limit }

-- the first text is where the second begins
pub record Begins (first second : Text) : Type 0 where
  pub rest : Text
  pub whole : second ≡ first ++ rest

-- under a larger step limit the Transcript begins with what it was
abbrev pub Extends : Type 0
Extends =
    (p : Program) (limit : ℕ) → p.step_limit ≤ limit → (e e' : Ending) (st st' : State) → Runs p e st → Runs (with_step_limit p limit) e' st' →
    Begins st.transcript st'.transcript

-- and a run that the step limit didn't end ends alike: with the same ending, Transcript, events, counts and objects
abbrev pub KeepsOthers : Type 0
KeepsOthers =
    (p : Program) (limit : ℕ) → p.step_limit ≤ limit → (e e' : Ending) (st st' : State) → Runs p e st → Runs (with_step_limit p limit) e' st' →
    (e ≡ AtLimit StepLimit → ⊥) → (e ≡ e') × (st ≡ st')
