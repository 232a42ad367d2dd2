-- The run of a program by the rules: its initializers in file order, and the ending. Source: ANSI 3 and 4 (initializers in file order); the counts are the profile's own.
use Rattle.std.specs.Prelude.{◌≡◌, ℕ, List, [], ◌∷◌, replicate, Option, Some, None}
use Rattle.object_heap.specs.declared.value.Value.{Value}
use Rattle.object_heap.specs.declared.value.Value.TheVariants.{Nil}
use Rattle.st_code.specs.Program.{Program, Initializer}
use Rattle.st_rules.specs.State.{State, Target, Terminate, Limit, Outcome, Answer, Go, Stop}
use Rattle.st_rules.specs.Ends.{Result, Yields, then_value, initializer_opening}
use Rattle.st_rules.specs.Rules.{Next, opened, at_index}
use Rattle.std.specs.Prelude.{slice_set}

-- how a run ends: done, with an exception that nothing handled, at a limit; `Stuck` comes never
pub data Ending : Type 0 where
  Done : Ending
  Unhandled : Value → Ending
  AtLimit : Limit → Ending
  Stuck : Ending

-- the literals stand, all variables are nil, nothing is counted, and activations are numbered from 1
unfoldable pub first_state : Program → State
first_state p =
    record {
      store = record { objects = p.literals; closures = []; scopes = [] };
      variables = replicate p.variables Nil;
      transcript = [];
      events = [];
      steps = 0;
      depth = 0;
      cells = 0;
      next = 1;
    }

-- the value of an initializer is kept where it initializes a variable
abbrev pub kept_value : Option ℕ → Value → State → State
kept_value (Some place) v st = record st { variables = slice_set st.variables place v }
kept_value None v st = st

module _ (p : Program) (next : Next) where
  abbrev pub run_from : List Initializer → State → Result
  run_from [] st = Yields (Answer Nil) st
  run_from (x ∷ xs) st = then_value (opened p next (initializer_opening p x st.next) [] st) (λ v st1. run_from xs (kept_value x.target v st1))

abbrev pub ending_of : Target → Value → Ending
ending_of Terminate v = Unhandled v
ending_of _ v = Stuck

abbrev pub end_of : Outcome → Ending
end_of (Answer v) = Done
end_of (Go t v) = ending_of t v
end_of (Stop l) = AtLimit l

-- the program ends so, in this state: with its Transcript, events and counts
pub record Runs (p : Program) (e : Ending) (st : State) : Type 0 where
  pub index : ℕ
  pub outcome : Outcome
  pub run : run_from p (at_index p index) p.initializers (first_state p) ≡ Yields outcome st
  pub ends : end_of outcome ≡ e
