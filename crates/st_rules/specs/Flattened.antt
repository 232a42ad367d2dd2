-- What is claimed of the flat machine: it does what the scoped one does, instruction by instruction, and so what the rules say.
use Rattle.std.specs.Prelude.{◌≡◌, ℕ}
use Rattle.st_code.specs.Program.{Program}
use Rattle.st_code.specs.Compiled.{compile_of}
use Rattle.st_rules.specs.State.{State}
use Rattle.st_rules.specs.Runs.{Ending, Runs}
use Rattle.st_rules.specs.Machine.{Bodies}
use Rattle.st_rules.specs.Scoped.{scoped}
use Rattle.st_rules.specs.Flat.{FlatBody, flat, greatest_width}
use Rattle.st_rules.specs.Turns.{Ended, opened_run, top_iter, instructions}
use Rattle.st_rules.specs.Compilable.{Compilable}

-- the flat machine on the program's own code
abbrev pub flat_of : Program → Bodies FlatBody
flat_of p = flat p (compile_of p) (greatest_width (compile_of p))

-- the two states differ in closures and scopes alone: they have the same objects, variables, Transcript, events and counts
abbrev pub Alike : State → State → Type 0
Alike st st' = st' ≡ record st { store = record { objects = st.store.objects; closures = st'.store.closures; scopes = st'.store.scopes } }

-- the flat machine ends so after as many small steps, with as many instructions
pub record EndsAlike (p : Program) (n : ℕ) (e : Ending) (st : State) : Type 0 where
  pub state : State
  pub leads : top_iter (flat_of p) p n (opened_run (flat_of p) p) ≡ Ended e state
  pub alike : Alike st state
  pub counted : instructions (flat_of p) p n (opened_run (flat_of p) p) ≡ instructions (scoped p) p n (opened_run (scoped p) p)

-- where the scoped machine ends a compilable program, the flat one ends it alike
abbrev pub FlatFollows : Type 0
FlatFollows =
    (p : Program) → Compilable p → (n : ℕ) (e : Ending) (st : State) → top_iter (scoped p) p n (opened_run (scoped p) p) ≡ Ended e st → EndsAlike p n e st

-- and so where the rules end it, the flat machine ends it alike
abbrev pub FlatFollowsTheRules : Type 0
FlatFollowsTheRules = (p : Program) → Compilable p → (e : Ending) (st : State) → Runs p e st → (n : ℕ) × EndsAlike p n e st

-- and where the flat machine ends it, the rules do
abbrev pub RulesFollowTheFlat : Type 0
RulesFollowTheFlat =
    (p : Program) → Compilable p → (n : ℕ) (e : Ending) (st : State) → top_iter (flat_of p) p n (opened_run (flat_of p) p) ≡ Ended e st →
    (st' : State) × Runs p e st' × Alike st' st
