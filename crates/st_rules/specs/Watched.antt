-- What is claimed of unwindings by the rules: rules that give up at each one whose target doesn't stand end each program as the rules do.
use Rattle.std.specs.Prelude.{◌≡◌, ℕ, zero, suc, Bool, true, false, List, [], ◌∷◌, nat_eq, if◌then◌else◌}
use Rattle.st_code.specs.Program.{Program}
use Rattle.st_rules.specs.State.{State, Target, Home, Protected, Retry, RetryWith, Resume, Resignal, Terminate, Outcome, Answer, Go, Stop, Mark, BodyMark, ProtectMark, SignalMark, OuterMark}
use Rattle.st_rules.specs.Ends.{Result, Yields, NoIndex}
use Rattle.st_rules.specs.Rules.{Next, rule, tree_rule}
use Rattle.st_rules.specs.Runs.{Ending, Runs, run_from, end_of, first_state}

abbrev pub any_mark : (Mark → Bool) → List Mark → Bool
any_mark test [] = false
any_mark test (m ∷ s) = if test m then true else any_mark test s

abbrev pub is_body : ℕ → Mark → Bool
is_body n (BodyMark m) = nat_eq n m
is_body n _ = false

abbrev pub is_protect : ℕ → Mark → Bool
is_protect n (ProtectMark m) = nat_eq n m
is_protect n _ = false

abbrev pub is_point : ℕ → Mark → Bool
is_point n (SignalMark m e) = nat_eq n m
is_point n (OuterMark m) = nat_eq n m
is_point n _ = false

abbrev pub is_source : ℕ → Mark → Bool
is_source n (SignalMark m e) = nat_eq n m
is_source n _ = false

-- the target is among what stands, or it is the end of the program
abbrev pub target_stands : Target → List Mark → Bool
target_stands (Home n) s = any_mark (is_body n) s
target_stands (Protected n) s = any_mark (is_protect n) s
target_stands (Retry n) s = any_mark (is_protect n) s
target_stands (RetryWith n) s = any_mark (is_protect n) s
target_stands (Resume n) s = any_mark (is_point n) s
target_stands (Resignal n f) s = any_mark (is_source n) s
target_stands Terminate s = true

-- an unwinding whose target doesn't stand counts for no outcome
abbrev pub watched_result : List Mark → Result → Result
watched_result s (Yields (Answer v) st) = Yields (Answer v) st
watched_result s (Yields (Go t v) st) = if target_stands t s then Yields (Go t v) st else NoIndex
watched_result s (Yields (Stop l) st) = Yields (Stop l) st
watched_result s NoIndex = NoIndex

-- the rules at an index, where each use of a rule and each expression is watched, at all smaller ones too
unfoldable pub watched_index : Program → ℕ → Next
watched_index p zero = record { use' = λ u standing st. NoIndex; tree = λ t f env standing st. NoIndex }
watched_index p (suc n) =
    record {
      use' = λ u standing st. watched_result standing (rule p (watched_index p n) u standing st);
      tree = λ t f env standing st. watched_result standing (tree_rule p (watched_index p n) t f env standing st);
    }

-- the watched rules end the program so, in this state
pub record WatchedRuns (p : Program) (e : Ending) (st : State) : Type 0 where
  pub index : ℕ
  pub outcome : Outcome
  pub run : run_from p (watched_index p index) p.initializers (first_state p) ≡ Yields outcome st
  pub ends : end_of outcome ≡ e

-- where the rules end a program, the watched ones end it alike
abbrev pub RulesTargetsStand : Type 0
RulesTargetsStand = (p : Program) (e : Ending) (st : State) → Runs p e st → WatchedRuns p e st
