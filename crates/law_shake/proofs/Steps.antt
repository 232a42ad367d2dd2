-- A small step, and a whole run of the scoped machine, under a renaming; what rows and visits do is a premise.
use Rattle.std.proofs.Common.{◌≡◌, ℕ, zero, suc, ◌+◌, ◌≤◌, List, [], ◌∷◌, map, length, replicate, Option, Some, None, Bool, true, false, nat_eq, refl, sym, ap, ◌∙◌, if◌then◌else◌}
use Rattle.std.specs.Option.{option_map}
use Rattle.std.proofs.lemmas.List.{length-map}
use Rattle.object_heap.specs.declared.value.Value.{Value}
use Rattle.object_heap.specs.declared.value.Value.TheVariants.{Nil, True, Object}
use Rattle.object_heap.specs.declared.value.Closure.{Closure}
use Rattle.object_heap.specs.Store.{Store}
use Rattle.st_code.specs.Program.{Program, Body, Initializer, InMethod, InInitializer}
use Rattle.st_code.specs.Messages.{Row}
use Rattle.st_code.specs.Lookup.{Found, UserMethod, BuiltIn, level_of, lookup, super_lookup}
use Rattle.st_collections.specs.Actions.{Action, Misses, Enters, LoopState}
use Rattle.st_collections.specs.Kinds.{is_true}
use Rattle.st_collections.specs.Loops.{first_visit, next_visit}
use Rattle.st_rules.specs.State.{State, Entry, Env, Target, Home, Protected, Retry, RetryWith, Resume, Resignal, Terminate, Outcome, Answer, Go, Stop, Turn, Mark, is_live, is_at_signal}
use Rattle.st_rules.specs.Sends.{row_action, send_action, super_action}
use Rattle.st_rules.specs.Ends.{ended, block_opening, method_opening, initializer_opening, at_home, turn_end, outer_end, SignalVerdict, Ends, Signals, signal_end, Verdict, Leaves, Again, protect_end, asks_nested, Search, Purpose, ForSignal, ForPass, ForOuter, ForNested}
use Rattle.st_rules.specs.Rules.{Use, Apply, Activate, Enter, SendTo, SuperTo, Perform, Raise, RaiseNew, SignalPoint, Resignaled, SearchIn, TurnBy, Ask, Protect, Finish, VisitBy, RunBody, value_selector, closure_for, apply_by}
use Rattle.st_rules.specs.Runs.{first_state, kept_value}
use Rattle.st_rules.specs.Machine.{Act, BodyAct, Leaving, ProtectAct, EnsureOn, CurtailOn, ActionOff, SignalAct, HandlerRun, OuterAct, ResumeWait, HandlesWait, LoopAct, Mach, Run, Settle, Begin, Over, Stuck, Bodies, marks, open_act, raise_act, turn_act, tried_act, asked_act, begin, protect_verdict, signal_verdict, give, unwind, settle, step}
use Rattle.st_rules.specs.Scoped.{ScopedBody, scoped_number, scoped}
use Rattle.st_rules.specs.Turns.{Top, On, Ended, open_next, top_step, top_iter, opened_run, runs_of, instructions}
use Rattle.law_shake.specs.Renaming as r
use Rattle.law_shake.specs.Renaming.{Renaming, placed, taken, object, ren, rens, ren_store, ren_state, ren_closure, ren_action, ren_visit, ren_loop, ren_entry, ren_env, ren_or_none, ren_turn, ren_mark, ren_search, ren_wait, ren_target, ren_outcome, ren_act, ren_acts, ren_use, ren_mach, ren_initializer, ren_top, IsRenamed}
use Rattle.law_shake.proofs.Lookups.{level_ren, ren_found, lookup_ren, super_lookup_ren}
use Rattle.law_shake.proofs.Rows.{nils_ren}
use Rattle.law_shake.proofs.Spreading.{map_set}
use Rattle.law_shake.proofs.Standing.{marks_ren, live_ren, at_signal_ren, step_ren, stood_ren, closure_for_ren}
use Rattle.law_shake.proofs.Control.{raise_ren, raise_new_ren, tried_ren, search_ren, turn_act_ren, asked_ren, visit_act_ren, perform_ren}
use Rattle.law_shake.proofs.Bodies.{open_ren, instruct_ren}

-- what rows and visits do is the same under the renaming
pub record RowsAlike (x : Renaming) (q p : Program) : Type 0 where
  pub rows : (s : Store) → taken x.objects ≤ length s.objects → (row : Row) (v : Value) (args : List Value) → row_action p (ren_store x s) row (ren x v) (rens x args) ≡ ren_action x (row_action q s row v args)
  pub first : (s : Store) → taken x.objects ≤ length s.objects → (l : LoopState) → first_visit p (ren_store x s) (ren_loop x l) ≡ ren_visit x (first_visit q s l)
  pub next : (s : Store) → taken x.objects ≤ length s.objects → (l : LoopState) (v : Value) → next_visit p (ren_store x s) (ren_loop x l) (ren x v) ≡ ren_visit x (next_visit q s l v)

-- ---- outcomes at activations

module _ (x : Renaming) where
  abbrev O : Outcome → Outcome
  O o = ren_outcome x o

  outcome_if : (b : Bool) (o o' : Outcome) → (if b then O o else O o') ≡ O (if b then o else o')
  outcome_if true o o' = refl
  outcome_if false o o' = refl

  home_ren : (n : ℕ) (t : Target) (v : Value) → at_home n (ren_target x t) (ren x v) ≡ O (at_home n t v)
  home_ren n (Home m) v = outcome_if (nat_eq m n) (Answer v) (Go (Home m) v)
  home_ren n (Protected m) v = refl
  home_ren n (Retry m) v = refl
  home_ren n (RetryWith m) v = refl
  home_ren n (Resume m) v = refl
  home_ren n (Resignal m f) v = refl
  home_ren n Terminate v = refl

  outer_ren : (n : ℕ) (t : Target) (v : Value) → outer_end n (O (Go t v)) ≡ O (outer_end n (Go t v))
  outer_ren n (Resume m) v = outcome_if (nat_eq m n) (Answer v) (Go (Resume m) v)
  outer_ren n (Home m) v = refl
  outer_ren n (Protected m) v = refl
  outer_ren n (Retry m) v = refl
  outer_ren n (RetryWith m) v = refl
  outer_ren n (Resignal m f) v = refl
  outer_ren n Terminate v = refl

  abbrev ren_signal : SignalVerdict → SignalVerdict
  ren_signal (Ends o) = Ends (O o)
  ren_signal (Signals f) = Signals (object x f)

  signal_if : (b : Bool) (d d' : SignalVerdict) → (if b then ren_signal d else ren_signal d') ≡ ren_signal (if b then d else d')
  signal_if true d d' = refl
  signal_if false d d' = refl

  signal_ren : (n : ℕ) (t : Target) (v : Value) → signal_end n (O (Go t v)) ≡ ren_signal (signal_end n (Go t v))
  signal_ren n (Resume m) v = signal_if (nat_eq m n) (Ends (Answer v)) (Ends (Go (Resume m) v))
  signal_ren n (Resignal m f) v = signal_if (nat_eq m n) (Signals f) (Ends (Go (Resignal m f) v))
  signal_ren n (Home m) v = refl
  signal_ren n (Protected m) v = refl
  signal_ren n (Retry m) v = refl
  signal_ren n (RetryWith m) v = refl
  signal_ren n Terminate v = refl

  abbrev ren_verdict : Verdict → Verdict
  ren_verdict (Leaves o) = Leaves (O o)
  ren_verdict (Again v) = Again (ren x v)

  verdict_if : (b : Bool) (d d' : Verdict) → (if b then ren_verdict d else ren_verdict d') ≡ ren_verdict (if b then d else d')
  verdict_if true d d' = refl
  verdict_if false d d' = refl

  protect_ren : (n : ℕ) (v : Value) (t : Target) (w : Value) → protect_end n (ren x v) (O (Go t w)) ≡ ren_verdict (protect_end n v (Go t w))
  protect_ren n v (Protected m) w = verdict_if (nat_eq m n) (Leaves (Answer w)) (Leaves (Go (Protected m) w))
  protect_ren n v (Retry m) w = verdict_if (nat_eq m n) (Again v) (Leaves (Go (Retry m) w))
  protect_ren n v (RetryWith m) w = verdict_if (nat_eq m n) (Again w) (Leaves (Go (RetryWith m) w))
  protect_ren n v (Home m) w = refl
  protect_ren n v (Resume m) w = refl
  protect_ren n v (Resignal m f) w = refl
  protect_ren n v Terminate w = refl

  abbrev if_default : Bool → ℕ → Value → Outcome
  if_default true resume v = Answer v
  if_default false resume v = Go (Resume resume) v

  default_ren : (b : Bool) (n : ℕ) (v : Value) → if_default b n (ren x v) ≡ O (if_default b n v)
  default_ren true n v = refl
  default_ren false n v = refl

  turn_by_ren : (entry : Option Entry) (t : Turn) (ms : List Mark) (v : Value) → elim (ren_or_none x entry) [ Some e ↦ Go (Protected e.number) (ren x v) | None ↦ if_default (is_at_signal t.signal (map (ren_mark x) ms)) t.resume_point (ren x v) ] ≡ O (elim entry [ Some e ↦ Go (Protected e.number) v | None ↦ if_default (is_at_signal t.signal ms) t.resume_point v ])
  turn_by_ren None t ms v = ap (λ b. if_default b t.resume_point (ren x v)) (at_signal_ren x t.signal ms) ∙ default_ren (is_at_signal t.signal ms) t.resume_point v
  turn_by_ren (Some e) t ms v = refl

  turn_end_ren : (t : Turn) (acts : List (Act ScopedBody)) (v : Value) → turn_end (ren_turn x t) (marks scoped_number (ren_acts x acts)) (Answer (ren x v)) ≡ O (turn_end t (marks scoped_number acts) (Answer v))
  turn_end_ren t acts v = ap (λ ms. turn_end (ren_turn x t) ms (Answer (ren x v))) (marks_ren x acts) ∙ turn_by_ren t.entry t (marks scoped_number acts) v

  ended_ren : (n : ℕ) (o : Outcome) (st : State) → ended n (O o) (ren_state x st) ≡ ren_state x (ended n o st)
  ended_ren n (Answer v) st = refl
  ended_ren n (Go t v) st = refl
  ended_ren n (Stop l) st = refl

module _ (x : Renaming) (q p : Program) (is : IsRenamed x q p) (alike : RowsAlike x q p) where
  abbrev M : Mach ScopedBody → Mach ScopedBody
  M m = ren_mach x m

  abbrev A : List (Act ScopedBody) → List (Act ScopedBody)
  A acts = ren_acts x acts

  abbrev T : State → State
  T st = ren_state x st

  abbrev E : Env → Env
  E env = ren_env x env

  abbrev S : Bodies ScopedBody
  S = scoped q

  abbrev S' : Bodies ScopedBody
  S' = scoped p

  abbrev Room : State → Type 0
  Room st = taken x.objects ≤ length st.store.objects

  -- ---- sends

  abbrev found_by : Program → Store → Option Found → ℕ → Value → List Value → Action
  found_by w s (Some (UserMethod code)) selector v args = Enters code v args
  found_by w s (Some (BuiltIn row)) selector v args = row_action w s row v args
  found_by w s None selector v args = Misses selector v args

  found_ren : (s : Store) → taken x.objects ≤ length s.objects → (o : Option Found) (selector : ℕ) (v : Value) (args : List Value) → found_by p (ren_store x s) (option_map (ren_found x) o) (x.symbol selector) (ren x v) (rens x args) ≡ ren_action x (found_by q s o selector v args)
  found_ren s room (Some (UserMethod code)) selector v args = refl
  found_ren s room (Some (BuiltIn row)) selector v args = alike.rows s room row v args
  found_ren s room None selector v args = refl

  send_ren : (s : Store) → taken x.objects ≤ length s.objects → (selector : ℕ) (v : Value) (args : List Value) → send_action p (ren_store x s) (x.symbol selector) (ren x v) (rens x args) ≡ ren_action x (send_action q s selector v args)
  unfolding send_action
  send_ren s room selector v args =
      ap (λ l. found_by p (ren_store x s) (lookup p l (x.symbol selector)) (x.symbol selector) (ren x v) (rens x args)) (level_ren x s v)
      ∙ ap (λ o. found_by p (ren_store x s) o (x.symbol selector) (ren x v) (rens x args)) (lookup_ren x q p is (level_of s v) selector)
      ∙ found_ren s room (lookup q (level_of s v) selector) selector v args

  super_ren : (s : Store) → taken x.objects ≤ length s.objects → (class : Value) (selector : ℕ) (v : Value) (args : List Value) → super_action p (ren_store x s) (ren x class) (x.symbol selector) (ren x v) (rens x args) ≡ ren_action x (super_action q s class selector v args)
  unfolding super_action
  super_ren s room class selector v args =
      ap (λ o. found_by p (ren_store x s) o (x.symbol selector) (ren x v) (rens x args)) (super_lookup_ren x q p is class selector)
      ∙ found_ren s room (super_lookup q class selector) selector v args

  -- ---- the beginning of a use

  value_selector_ren : (n : ℕ) → value_selector p n ≡ x.symbol (value_selector q n)
  value_selector_ren zero = is.sent _ r.sends_value
  value_selector_ren (suc zero) = is.sent _ r.sends_value_with
  value_selector_ren (suc (suc n)) = is.sent _ r.sends_values

  apply_ren : (o : Option Closure) (v : Value) (args : List Value) (env : Env) → apply_by p (option_map (ren_closure x) o) (ren x v) (rens x args) (E env) ≡ ren_use x (apply_by q o v args env)
  apply_ren None v args env =
      ap (λ n. SendTo (value_selector p n) (ren x v) (rens x args) (E env)) (length-map args (ren x))
      ∙ ap (λ k. SendTo k (ren x v) (rens x args) (E env)) (value_selector_ren (length args))
  apply_ren (Some c) v args env = refl

  begin_ren : (u : Use) (acts : List (Act ScopedBody)) (st : State) → Room st → begin S' p (ren_use x u) (A acts) (T st) ≡ M (begin S q u acts st)
  begin_ren (Apply v args env) acts st room =
      ap (λ n. Begin (apply_by p (closure_for p (ren_store x st.store) (ren x v) n) (ren x v) (rens x args) (E env)) (A acts) (T st)) (length-map args (ren x))
      ∙ ap (λ o. Begin (apply_by p o (ren x v) (rens x args) (E env)) (A acts) (T st)) (closure_for_ren x q p is st.store v (length args))
      ∙ ap (λ u. Begin u (A acts) (T st)) (apply_ren (closure_for q st.store v (length args)) v args env)
  begin_ren (Activate c args env) acts st room = step_ren x q p is st _ _ _ (λ n. open_ren x q p is (block_opening c args env st.next) acts (record st { steps = n }))
  begin_ren (Enter code v args env) acts st room =
      ap (λ (b : Body). open_act S' p (record { code = x.code code; kind = InMethod; self = ren x v; class = b.class; own = st.next; home = st.next; outer = None; arguments = rens x args; env = E env }) (A acts) (T st)) (is.bodies code)
      ∙ open_ren x q p is (method_opening q code v args env st.next) acts st
  begin_ren (SendTo selector v args env) acts st room =
      step_ren x q p is st _ _ _ (λ n. ap (λ a. Begin (Perform a (E env)) (A acts) (T (record st { steps = n }))) (send_ren st.store room selector v args))
  begin_ren (SuperTo class selector v args env) acts st room =
      step_ren x q p is st _ _ _ (λ n. ap (λ a. Begin (Perform a (E env)) (A acts) (T (record st { steps = n }))) (super_ren st.store room class selector v args))
  begin_ren (Perform a env) acts st room = perform_ren x q p is alike.first a env acts st room
  begin_ren (Raise e env) acts st room =
      ap (λ ms. raise_act S' p (is_live (object x e) ms) (object x e) (E env) (A acts) (T st)) (marks_ren x acts)
      ∙ ap (λ b. raise_act S' p b (object x e) (E env) (A acts) (T st)) (live_ren x e (marks scoped_number acts))
      ∙ raise_ren x q p is (is_live e (marks scoped_number acts)) e env acts st
  begin_ren (RaiseNew class slots env) acts st room = raise_new_ren x q p is class slots env acts st room
  begin_ren (SignalPoint n e env) acts st room = refl
  begin_ren (Resignaled n e f env) acts st room = refl
  begin_ren (SearchIn y rest) acts st room = search_ren x q p is y rest acts st
  begin_ren (TurnBy y entry outside) acts st room = ap (λ b. turn_act S' p b (ren_search x y) (ren_or_none x entry) (E outside) (A acts) (T st)) (nested y) ∙ turn_act_ren x q p is (asks_nested y) y entry outside acts st
    where
      nested_by : (u : Purpose) → asks_nested (ren_search x (record y { purpose = u })) ≡ asks_nested (record y { purpose = u })
      nested_by ForSignal = refl
      nested_by (ForPass t) = refl
      nested_by (ForOuter t point) = refl
      nested_by ForNested = refl

      nested : (y' : Search) → asks_nested (ren_search x y) ≡ asks_nested y
      nested y' = nested_by y.purpose
  begin_ren (Ask w k t env) acts st room =
      stood_ren x q p is acts st _ _ _ (λ d n. ap (λ i. Begin (SendTo i (Object (object x t.exception)) [] (E env)) (A (ResumeWait st.next w k t env ∷ acts)) (T (record st { depth = d; next = n }))) (is.sent _ r.sends_resumable))
  begin_ren (Protect receiver entry env) acts st room = refl
  begin_ren (Finish n block held env) acts st room = refl
  begin_ren (VisitBy n v env) acts st room = visit_act_ren x q p is n v env acts st
  begin_ren (RunBody f env) acts st room = refl

  -- ---- an outcome at an activation

  told_ren : (n : ℕ) (o : Outcome) (acts : List (Act ScopedBody)) (st : State) → Settle (O x o) (A acts) (ended n (O x o) (T st)) ≡ M (Settle o acts (ended n o st))
  told_ren n o acts st = ap (λ s. Settle (O x o) (A acts) s) (ended_ren x n o st)

  verdict_ren : (d : Verdict) (entry : Entry) (env : Env) (acts : List (Act ScopedBody)) (st : State) → protect_verdict S' p (ren_verdict x d) (ren_entry x entry) (E env) (A acts) (T st) ≡ M (protect_verdict S q d entry env acts st)
  verdict_ren (Leaves o) entry env acts st = told_ren entry.number o acts st
  verdict_ren (Again v) entry env acts st = refl

  signaled_ren : (n e : ℕ) (d : SignalVerdict) (env : Env) (acts : List (Act ScopedBody)) (st : State) → signal_verdict S' p n (object x e) (ren_signal x d) (E env) (A acts) (T st) ≡ M (signal_verdict S q n e d env acts st)
  signaled_ren n e (Ends o) env acts st = told_ren n o acts st
  signaled_ren n e (Signals f) env acts st = refl

  is_true_ren : (v : Value) → is_true (ren x v) ≡ is_true v
  is_true_ren True = refl
  is_true_ren v = refl

  give_ren : (v : Value) (a : Act ScopedBody) (acts : List (Act ScopedBody)) (st : State) → Room st → give S' p (ren x v) (ren_act x a) (A acts) (T st) ≡ M (give S q v a acts st)
  give_ren v (BodyAct b) acts st room = refl
  give_ren v (Leaving b) acts st room = refl
  give_ren v (ProtectAct receiver entry env) acts st room = refl
  give_ren v (EnsureOn n block env) acts st room = refl
  give_ren v (CurtailOn n block env) acts st room = refl
  give_ren v (ActionOff n held) acts st room = told_ren n held acts st
  give_ren v (SignalAct n e env) acts st room = refl
  give_ren v (HandlerRun n t) acts st room =
      ap (λ o. Settle o (A acts) (ended n o (T st))) (turn_end_ren x t acts v) ∙ told_ren n (turn_end t (marks scoped_number acts) (Answer v)) acts st
  give_ren v (OuterAct n) acts st room = refl
  give_ren v (ResumeWait n w k t env) acts st room = ap (λ b. asked_act S' p b (ren_wait x w) k (ren_turn x t) (E env) (A acts) (T st)) (is_true_ren v) ∙ asked_ren x q p is (is_true v) w k t env acts st
  give_ren v (HandlesWait n y entry rest) acts st room = ap (λ b. tried_act S' p b (ren_search x y) (ren_entry x entry) (E rest) (A acts) (T (ended n (Answer v) st))) (is_true_ren v) ∙ tried_ren x q p is (is_true v) y entry rest acts (ended n (Answer v) st)
  give_ren v (LoopAct n l env) acts st room = ap (λ w. Begin (VisitBy n w (E env)) (A acts) (T st)) (alike.next st.store room l v)

  unwind_ren : (t : Target) (v : Value) (a : Act ScopedBody) (acts : List (Act ScopedBody)) (st : State) → unwind S' p (ren_target x t) (ren x v) (ren_act x a) (A acts) (T st) ≡ M (unwind S q t v a acts st)
  unwind_ren t v (BodyAct b) acts st = ap (λ o. Settle o (A acts) (T st)) (home_ren x b.frame.own t v)
  unwind_ren t v (Leaving b) acts st = ap (λ o. Settle o (A acts) (T st)) (home_ren x b.frame.own t v)
  unwind_ren t v (ProtectAct receiver entry env) acts st =
      ap (λ d. protect_verdict S' p d (ren_entry x entry) (E env) (A acts) (T st)) (protect_ren x entry.number receiver t v) ∙ verdict_ren (protect_end entry.number receiver (Go t v)) entry env acts st
  unwind_ren t v (EnsureOn n block env) acts st = refl
  unwind_ren t v (CurtailOn n block env) acts st = refl
  unwind_ren t v (ActionOff n held) acts st = refl
  unwind_ren t v (SignalAct n e env) acts st = ap (λ d. signal_verdict S' p n (object x e) d (E env) (A acts) (T st)) (signal_ren x n t v) ∙ signaled_ren n e (signal_end n (Go t v)) env acts st
  unwind_ren t v (HandlerRun n turn) acts st = refl
  unwind_ren t v (OuterAct n) acts st = ap (λ o. Settle o (A acts) (ended n o (T st))) (outer_ren x n t v) ∙ told_ren n (outer_end n (Go t v)) acts st
  unwind_ren t v (ResumeWait n w k turn env) acts st = refl
  unwind_ren t v (HandlesWait n y entry rest) acts st = refl
  unwind_ren t v (LoopAct n l env) acts st = refl

  settle_ren : (o : Outcome) (acts : List (Act ScopedBody)) (st : State) → Room st → settle S' p (O x o) (A acts) (T st) ≡ M (settle S q o acts st)
  settle_ren (Answer v) [] st room = refl
  settle_ren (Answer v) (a ∷ acts) st room = give_ren v a acts st room
  settle_ren (Go t v) [] st room = refl
  settle_ren (Go t v) (a ∷ acts) st room = unwind_ren t v a acts st
  settle_ren (Stop l) acts st room = refl

  abbrev pub HasRoom : Mach ScopedBody → Type 0
  HasRoom (Run b acts st) = Room st
  HasRoom (Settle o acts st) = Room st
  HasRoom (Begin u acts st) = Room st
  HasRoom (Over o st) = Unit {0}
  HasRoom (Stuck st) = Unit {0}

  pub step_same : (m : Mach ScopedBody) → HasRoom m → step S' p (M m) ≡ M (step S q m)
  step_same (Run b acts st) room = instruct_ren x q p is b acts st room
  step_same (Settle o acts st) room = settle_ren o acts st room
  step_same (Begin u acts st) room = begin_ren u acts st room
  step_same (Over o st) room = refl
  step_same (Stuck st) room = refl

  -- ---- a whole run

  abbrev N : Top ScopedBody → Top ScopedBody
  N t = ren_top x t

  opened_ren : (is' : List Initializer) (st : State) → open_next S' p (map (ren_initializer x) is') (T st) ≡ N (open_next S q is' st)
  opened_ren [] st = refl
  opened_ren (i ∷ is') st =
      ap (λ (b : Body). On i.target (map (ren_initializer x) is') (open_act S' p (record { code = x.code i.code; kind = InInitializer; self = ren x i.self; class = b.class; own = st.next; home = st.next; outer = None; arguments = []; env = [] }) [] (T st))) (is.bodies i.code)
      ∙ ap (λ m. On i.target (map (ren_initializer x) is') m) (open_ren x q p is (initializer_opening q i st.next) [] st)

  kept_ren : (target : Option ℕ) (v : Value) (st : State) → kept_value target (ren x v) (T st) ≡ T (kept_value target v st)
  kept_ren None v st = refl
  kept_ren (Some n) v st = ap (λ vs. record (T st) { variables = vs }) (map_set (ren x) st.variables n v)

  abbrev pub TopRoom : Top ScopedBody → Type 0
  TopRoom (On target xs m) = HasRoom m
  TopRoom (Ended e st) = Unit {0}

  end_of_ren : (t : Target) (v : Value) (target : Option ℕ) (xs : List Initializer) (st : State) → top_step S' p (N (On target xs (Over (Go t v) st))) ≡ N (top_step S q (On target xs (Over (Go t v) st)))
  end_of_ren (Home n) v target xs st = refl
  end_of_ren (Protected n) v target xs st = refl
  end_of_ren (Retry n) v target xs st = refl
  end_of_ren (RetryWith n) v target xs st = refl
  end_of_ren (Resume n) v target xs st = refl
  end_of_ren (Resignal n f) v target xs st = refl
  end_of_ren Terminate v target xs st = refl

  top_same : (t : Top ScopedBody) → TopRoom t → top_step S' p (N t) ≡ N (top_step S q t)
  top_same (On target xs (Over (Answer v) st)) room = ap (λ s. open_next S' p (map (ren_initializer x) xs) s) (kept_ren target v st) ∙ opened_ren xs (kept_value target v st)
  top_same (On target xs (Over (Go t v) st)) room = end_of_ren t v target xs st
  top_same (On target xs (Over (Stop l) st)) room = refl
  top_same (On target xs (Stuck st)) room = refl
  top_same (On target xs (Run b acts st)) room = ap (λ m. On target (map (ren_initializer x) xs) m) (step_same (Run b acts st) room)
  top_same (On target xs (Settle o acts st)) room = ap (λ m. On target (map (ren_initializer x) xs) m) (step_same (Settle o acts st) room)
  top_same (On target xs (Begin u acts st)) room = ap (λ m. On target (map (ren_initializer x) xs) m) (step_same (Begin u acts st) room)
  top_same (Ended e st) room = refl

  iter_same : (n : ℕ) (t : Top ScopedBody) → ((k : ℕ) → TopRoom (top_iter S q k t)) → top_iter S' p n (N t) ≡ N (top_iter S q n t)
  iter_same zero t room = refl
  iter_same (suc n) t room = ap (top_iter S' p n) (top_same t (room 0)) ∙ iter_same n (top_step S q t) (λ k. room (suc k))

  runs_same : (t : Top ScopedBody) → runs_of S' p (N t) ≡ runs_of S q t
  runs_same (On target xs (Run b acts st)) = refl
  runs_same (On target xs (Settle o acts st)) = refl
  runs_same (On target xs (Begin u acts st)) = refl
  runs_same (On target xs (Over o st)) = refl
  runs_same (On target xs (Stuck st)) = refl
  runs_same (Ended e st) = refl

  counted_same : (n : ℕ) (t : Top ScopedBody) → ((k : ℕ) → TopRoom (top_iter S q k t)) → instructions S' p n (N t) ≡ instructions S q n t
  counted_same zero t room = refl
  counted_same (suc n) t room =
      ap (λ k. k + instructions S' p n (top_step S' p (N t))) (runs_same t)
      ∙ ap (λ u. runs_of S q t + instructions S' p n u) (top_same t (room 0))
      ∙ ap (λ k. runs_of S q t + k) (counted_same n (top_step S q t) (λ k. room (suc k)))

  first_same : first_state p ≡ T (first_state q)
  unfolding first_state
  first_same =
      ap (λ os. record { store = record { objects = os; closures = []; scopes = [] }; variables = replicate p.variables Nil; transcript = []; events = []; steps = 0; depth = 0; cells = 0; next = 1 }) is.literals
      ∙ ap (λ n. record { store = ren_store x (record { objects = q.literals; closures = []; scopes = [] }); variables = replicate n Nil; transcript = []; events = []; steps = 0; depth = 0; cells = 0; next = 1 }) is.variables
      ∙ ap (λ vs. record { store = ren_store x (record { objects = q.literals; closures = []; scopes = [] }); variables = vs; transcript = []; events = []; steps = 0; depth = 0; cells = 0; next = 1 }) (sym (nils_ren x q.variables))

  opened_same : opened_run S' p ≡ N (opened_run S q)
  opened_same = ap (λ is'. open_next S' p is' (first_state p)) is.initializers ∙ ap (λ s. open_next S' p (map (ren_initializer x) q.initializers) s) first_same ∙ opened_ren q.initializers (first_state q)

  -- the run of the one program is that of the other, renamed, small step by small step and instruction by instruction
  module _ (room : (k : ℕ) → TopRoom (top_iter S q k (opened_run S q))) where
    pub run_same : (n : ℕ) → top_iter S' p n (opened_run S' p) ≡ N (top_iter S q n (opened_run S q))
    run_same n = ap (top_iter S' p n) opened_same ∙ iter_same n (opened_run S q) room

    pub instructions_same : (n : ℕ) → instructions S' p n (opened_run S' p) ≡ instructions S q n (opened_run S q)
    instructions_same n = ap (instructions S' p n) opened_same ∙ counted_same n (opened_run S q) room
