-- What holds of a run's Transcript and variables at each moment, whatever the machine's bodies are, if its instructions keep it.
use Rattle.std.proofs.Common.{ℕ, zero, suc, ◌+◌, max, List, [], ◌∷◌, ◌++◌, length, slice_set, Option, Some, None, Bool, true, false, nat_lt, nat_le, if◌then◌else◌}
use Rattle.object_heap.specs.declared.value.Value.{Value}
use Rattle.object_heap.specs.declared.value.Value.TheVariants.{Object}
use Rattle.object_heap.specs.Store.{object_at}
use Rattle.st_code.specs.Texts.{Text}
use Rattle.st_code.specs.Program.{Program, Initializer, body_at}
use Rattle.st_code.specs.Messages.{Control}
use Rattle.st_code.specs.Lookup.{is_plain, fits, is_exception}
use Rattle.st_collections.specs.Actions.{Action, Gives, Changes, Makes, Writes, Fails, DividesByZero, PassesIntegers, Begins as BeginsWith, Activates, Sends, Misses, Enters, Guards, Ensures, Curtails, Iterates, Raises, RaisesNew, Controls, Terminates, Visit, Applies, Compares, Finishes, Lacks, Charges}
use Rattle.st_collections.specs.Kinds.{is_true}
use Rattle.st_rules.specs.State.{State, Entry, Env, Target, Outcome, Answer, Go, Stop, Turn, Mark, FoundTurn, NoTurn, TurnAt, turn_of, is_live, step_made, stood, used, scope_cells}
use Rattle.st_rules.specs.Ends.{charged, ended, Opening, block_opening, method_opening, initializer_opening, turn_end, outer_end, SignalVerdict, Ends, Signals, signal_end, Verdict, Leaves, Again, protect_end, Search, asks_nested, Wait, ToResume, ToOuter}
use Rattle.st_rules.specs.Rules.{Use, Apply, Activate, Enter, SendTo, SuperTo, Perform, Raise, RaiseNew, SignalPoint, Resignaled, SearchIn, TurnBy, Ask, Protect, Finish, VisitBy, RunBody, exception_cells}
use Rattle.st_rules.specs.Runs.{kept_value}
use Rattle.st_rules.specs.Machine.{Act, BodyAct, Leaving, ProtectAct, EnsureOn, CurtailOn, ActionOff, SignalAct, HandlerRun, OuterAct, ResumeWait, HandlesWait, LoopAct, Mach, Run, Settle, Begin, Over, Stuck, Bodies, marks, open_act, raise_act, raise_new_act, tried_act, judged_act, search_act, turn_act, asked_act, resignal_act, resignal_as_act, control_by_act, control_without_act, control_in_act, control_act, visit_act, perform_act, begin, protect_verdict, signal_verdict, give, unwind, step}
use Rattle.st_rules.specs.Turns.{Top, On, Ended, open_next, top_step, top_iter}
use Rattle.st_rules.specs.SoFar.{state_of}

-- what holds of the Transcript and the variables in a state
abbrev pub Of : (Text → List Value → Type 0) → State → Type 0
Of P st = P st.transcript st.variables

module _ {B : Type 0} where
  -- and of a machine, and of a run
  abbrev pub Told : (Text → List Value → Type 0) → Mach B → Type 0
  Told P m = Of P (state_of m)

  abbrev pub TopTold : (Text → List Value → Type 0) → Top B → Type 0
  TopTold P (On target xs m) = Told P m
  TopTold P (Ended e st) = Of P st

  module _ (p : Program) (P : Text → List Value → Type 0) where
    pub step_told : (st : State) (a : Mach B) (k : State → Mach B) → Of P st → Told P a → ((st1 : State) → Of P st1 → Told P (k st1)) → Told P (charged (step_made p st) a k)
    unfolding step_made
    step_told st a k h stop on = go (nat_lt st.steps p.step_limit)
      where
        go : (c : Bool) → Told P (charged (if c then Some (record st { steps = st.steps + 1 }) else None) a k)
        go true = on _ h
        go false = stop

    pub stood_told : (standing : List Mark) (st : State) (a : Mach B) (k : State → Mach B) → Of P st → Told P a → ((st1 : State) → Of P st1 → Told P (k st1)) → Told P (charged (stood p standing st) a k)
    unfolding stood
    stood_told standing st a k h stop on = go (nat_le (length standing + 1) p.depth_limit)
      where
        go : (c : Bool) → Told P (charged (if c then Some (record st { depth = max st.depth (length standing + 1); next = st.next + 1 }) else None) a k)
        go true = on _ h
        go false = stop

    pub used_told : (n : ℕ) (st : State) (a : Mach B) (k : State → Mach B) → Of P st → Told P a → ((st1 : State) → Of P st1 → Told P (k st1)) → Told P (charged (used p n st) a k)
    unfolding used
    used_told n st a k h stop on = go (nat_le (st.cells + n) p.cell_limit)
      where
        go : (c : Bool) → Told P (charged (if c then Some (record st { cells = st.cells + n }) else None) a k)
        go true = on _ h
        go false = stop

  -- it holds with more text behind, and with another value in a variable
  module _ (b : Bodies B) (p : Program) (P : Text → List Value → Type 0) (more : (t u : Text) (vs : List Value) → P t vs → P (t ++ u) vs) (other : (t : Text) (vs : List Value) (i : ℕ) (v : Value) → P t vs → P t (slice_set vs i v)) where
    ended_told : (n : ℕ) (o : Outcome) (acts : List (Act B)) (st : State) → Of P st → Told P (Settle o acts (ended n o st))
    ended_told n (Answer v) acts st h = h
    ended_told n (Go g v) acts st h = h
    ended_told n (Stop l) acts st h = h

    open_told : (x : Opening) (acts : List (Act B)) (st : State) → Of P st → Told P (open_act b p x acts st)
    open_told x acts st h = stood_told p P (marks b.number acts) st _ _ h h (λ st1 h1. used_told p P (scope_cells (body_at p x.code)) st1 _ _ h1 h1 (λ st2 h2. h2))

    raise_told : (live : Bool) (e : ℕ) (env : Env) (acts : List (Act B)) (st : State) → Of P st → Told P (raise_act b p live e env acts st)
    raise_told true e env acts st h = h
    raise_told false e env acts st h = stood_told p P (marks b.number acts) st _ _ h h (λ st1 h1. h1)

    raise_new_told : (c : ℕ) (slots : List Value) (env : Env) (acts : List (Act B)) (st : State) → Of P st → Told P (raise_new_act b p c slots env acts st)
    raise_new_told c slots env acts st h = stood_told p P (marks b.number acts) st _ _ h h (λ st1 h1. used_told p P (exception_cells p c) _ _ _ h1 h1 (λ st3 h3. h3))

    tried_told : (a : Bool) (x : Search) (entry : Entry) (rest : Env) (acts : List (Act B)) (st : State) → Of P st → Told P (tried_act b p a x entry rest acts st)
    tried_told true x entry rest acts st h = h
    tried_told false x entry rest acts st h = h

    judged_told : (a : Bool) (x : Search) (entry : Entry) (rest : Env) (acts : List (Act B)) (st : State) → Of P st → Told P (judged_act b p a x entry rest acts st)
    judged_told true x entry rest acts st h = tried_told (fits p st.store entry.selector (object_at x.exception st.store).class) x entry rest acts st h
    judged_told false x entry rest acts st h = stood_told p P (marks b.number acts) st _ _ h h (λ st1 h1. h1)

    search_told : (x : Search) (rest : Env) (acts : List (Act B)) (st : State) → Of P st → Told P (search_act b p x rest acts st)
    search_told x [] acts st h = h
    search_told x (entry ∷ rest) acts st h = judged_told (is_plain p st.store entry.selector) x entry rest acts st h

    turn_told : (a : Bool) (x : Search) (entry : Option Entry) (outside : Env) (acts : List (Act B)) (st : State) → Of P st → Told P (turn_act b p a x entry outside acts st)
    turn_told true x None outside acts st h = h
    turn_told true x (Some entry) outside acts st h = h
    turn_told false x None outside acts st h = stood_told p P (marks b.number acts) st _ _ h h (λ st1 h1. h1)
    turn_told false x (Some entry) outside acts st h = stood_told p P (marks b.number acts) st _ _ h h (λ st1 h1. h1)

    asked_told : (a : Bool) (w : Wait) (k : ℕ) (x : Turn) (env : Env) (acts : List (Act B)) (st : State) → Of P st → Told P (asked_act b p a w k x env acts st)
    asked_told true (ToResume v) k x env acts st h = h
    asked_told false (ToResume v) k x env acts st h = h
    asked_told true ToOuter k x env acts st h = stood_told p P (marks b.number acts) st _ _ h h (λ st1 h1. h1)
    asked_told false ToOuter k x env acts st h = h

    resignal_told : (a live : Bool) (x : Turn) (f : ℕ) (v : Value) (env : Env) (acts : List (Act B)) (st : State) → Of P st → Told P (resignal_act b p a live x f v env acts st)
    resignal_told false live x f v env acts st h = h
    resignal_told true true x f v env acts st h = h
    resignal_told true false x f v env acts st h = h

    resignal_as_told : (x : Turn) (v : Value) (env : Env) (acts : List (Act B)) (st : State) → Of P st → Told P (resignal_as_act b p x v env acts st)
    resignal_as_told x (Object f) env acts st h = resignal_told (is_exception p st.store (Object f)) (is_live f (marks b.number acts)) x f (Object f) env acts st h
    resignal_as_told x v env acts st h = h

    control_by_told : (c : Control) (v : Value) (k : ℕ) (x : Turn) (entry : Entry) (env : Env) (acts : List (Act B)) (st : State) → Of P st → Told P (control_by_act b p c v k x entry env acts st)
    control_by_told Control.Return v k x entry env acts st h = h
    control_by_told Control.Retry v k x entry env acts st h = h
    control_by_told Control.RetryUsing v k x entry env acts st h = h
    control_by_told Control.Resume v k x entry env acts st h = h
    control_by_told Control.Pass v k x entry env acts st h = h
    control_by_told Control.Outer v k x entry env acts st h = h
    control_by_told Control.ResignalAs v k x entry env acts st h = resignal_as_told x v env acts st h
    control_by_told Control.IsNested v k x entry env acts st h = h

    control_without_told : (c : Control) (v : Value) (k : ℕ) (x : Turn) (env : Env) (acts : List (Act B)) (st : State) → Of P st → Told P (control_without_act b p c v k x env acts st)
    control_without_told Control.Resume v k x env acts st h = h
    control_without_told c v k x env acts st h = h

    control_in_told : (entry : Option Entry) (c : Control) (v : Value) (k : ℕ) (x : Turn) (env : Env) (acts : List (Act B)) (st : State) → Of P st → Told P (control_in_act b p entry c v k x env acts st)
    control_in_told (Some entry) c v k x env acts st h = control_by_told c v k x entry env acts st h
    control_in_told None c v k x env acts st h = control_without_told c v k x env acts st h

    control_told : (f : FoundTurn) (c : Control) (v : Value) (env : Env) (acts : List (Act B)) (st : State) → Of P st → Told P (control_act b p f c v env acts st)
    control_told NoTurn c v env acts st h = h
    control_told (TurnAt k x) c v env acts st h = control_in_told x.entry c v k x env acts st h

    visit_told : (n : ℕ) (v : Visit) (env : Env) (acts : List (Act B)) (st : State) → Of P st → Told P (visit_act b p n v env acts st)
    visit_told n (Applies l v args) env acts st h = h
    visit_told n (Compares l r v) env acts st h = h
    visit_told n (Finishes v) env acts st h = h
    visit_told n (Lacks l) env acts st h = h
    visit_told n (Charges cells s v) env acts st h = used_told p P cells st _ _ h h (λ st1 h1. visit_told n v env acts _ h1)

    perform_told : (a : Action) (env : Env) (acts : List (Act B)) (st : State) → Of P st → Told P (perform_act b p a env acts st)
    perform_told (Gives v) env acts st h = h
    perform_told (Changes s v) env acts st h = h
    perform_told (Makes cells s v) env acts st h = used_told p P cells st _ _ h h (λ st1 h1. h1)
    perform_told (Writes text v) env acts st h = more st.transcript text st.variables h
    perform_told (Fails trouble) env acts st h = h
    perform_told (DividesByZero dividend) env acts st h = h
    perform_told PassesIntegers env acts st h = h
    perform_told (BeginsWith v args) env acts st h = h
    perform_told (Activates c args) env acts st h = h
    perform_told (Sends selector r args) env acts st h = h
    perform_told (Misses selector r args) env acts st h = used_told p P (1 + length args) st _ _ h h (λ st1 h1. used_told p P 3 _ _ _ h1 h1 (λ st3 h3. h3))
    perform_told (Enters code r args) env acts st h = h
    perform_told (Guards receiver selector handler) env acts st h = stood_told p P (marks b.number acts) st _ _ h h (λ st1 h1. h1)
    perform_told (Ensures receiver block) env acts st h = stood_told p P (marks b.number acts) st _ _ h h (λ st1 h1. h1)
    perform_told (Curtails receiver block) env acts st h = stood_told p P (marks b.number acts) st _ _ h h (λ st1 h1. h1)
    perform_told (Iterates l) env acts st h = stood_told p P (marks b.number acts) st _ _ h h (λ st1 h1. h1)
    perform_told (Raises s e) env acts st h = h
    perform_told (RaisesNew class slots) env acts st h = h
    perform_told (Controls c e v) env acts st h = control_told (turn_of e (marks b.number acts)) c v env acts st h
    perform_told (Terminates v) env acts st h = h

    begin_told : (u : Use) (acts : List (Act B)) (st : State) → Of P st → Told P (begin b p u acts st)
    begin_told (Apply v args env) acts st h = h
    begin_told (Activate c args env) acts st h = step_told p P st _ _ h h (λ st1 h1. open_told (block_opening c args env st1.next) acts st1 h1)
    begin_told (Enter code r args env) acts st h = open_told (method_opening p code r args env st.next) acts st h
    begin_told (SendTo selector r args env) acts st h = step_told p P st _ _ h h (λ st1 h1. h1)
    begin_told (SuperTo class selector r args env) acts st h = step_told p P st _ _ h h (λ st1 h1. h1)
    begin_told (Perform a env) acts st h = perform_told a env acts st h
    begin_told (Raise e env) acts st h = raise_told (is_live e (marks b.number acts)) e env acts st h
    begin_told (RaiseNew class slots env) acts st h = raise_new_told class slots env acts st h
    begin_told (SignalPoint n e env) acts st h = h
    begin_told (Resignaled n e f env) acts st h = h
    begin_told (SearchIn x rest) acts st h = search_told x rest acts st h
    begin_told (TurnBy x entry outside) acts st h = turn_told (asks_nested x) x entry outside acts st h
    begin_told (Ask w k x env) acts st h = stood_told p P (marks b.number acts) st _ _ h h (λ st1 h1. h1)
    begin_told (Protect receiver entry env) acts st h = h
    begin_told (Finish n block held env) acts st h = h
    begin_told (VisitBy n v env) acts st h = visit_told n v env acts st h
    begin_told (RunBody f env) acts st h = h

    protect_told : (d : Verdict) (entry : Entry) (env : Env) (acts : List (Act B)) (st : State) → Of P st → Told P (protect_verdict b p d entry env acts st)
    protect_told (Leaves o) entry env acts st h = ended_told entry.number o acts st h
    protect_told (Again receiver) entry env acts st h = h

    signal_told : (n e : ℕ) (d : SignalVerdict) (env : Env) (acts : List (Act B)) (st : State) → Of P st → Told P (signal_verdict b p n e d env acts st)
    signal_told n e (Ends o) env acts st h = ended_told n o acts st h
    signal_told n e (Signals f) env acts st h = h

    give_told : (v : Value) (a : Act B) (acts : List (Act B)) (st : State) → Of P st → Told P (give b p v a acts st)
    give_told v (BodyAct x) acts st h = h
    give_told v (Leaving x) acts st h = h
    give_told v (ProtectAct receiver entry env) acts st h = protect_told (protect_end entry.number receiver (Answer v)) entry env acts st h
    give_told v (EnsureOn n block env) acts st h = h
    give_told v (CurtailOn n block env) acts st h = h
    give_told v (ActionOff n held) acts st h = ended_told n held acts st h
    give_told v (SignalAct n e env) acts st h = signal_told n e (signal_end n (Answer v)) env acts st h
    give_told v (HandlerRun n x) acts st h = ended_told n (turn_end x (marks b.number acts) (Answer v)) acts st h
    give_told v (OuterAct n) acts st h = ended_told n (outer_end n (Answer v)) acts st h
    give_told v (ResumeWait n w k x env) acts st h = asked_told (is_true v) w k x env acts st h
    give_told v (HandlesWait n x entry rest) acts st h = tried_told (is_true v) x entry rest acts _ h
    give_told v (LoopAct n l env) acts st h = h

    unwind_told : (g : Target) (v : Value) (a : Act B) (acts : List (Act B)) (st : State) → Of P st → Told P (unwind b p g v a acts st)
    unwind_told g v (BodyAct x) acts st h = h
    unwind_told g v (Leaving x) acts st h = h
    unwind_told g v (ProtectAct receiver entry env) acts st h = protect_told (protect_end entry.number receiver (Go g v)) entry env acts st h
    unwind_told g v (EnsureOn n block env) acts st h = h
    unwind_told g v (CurtailOn n block env) acts st h = h
    unwind_told g v (ActionOff n held) acts st h = h
    unwind_told g v (SignalAct n e env) acts st h = signal_told n e (signal_end n (Go g v)) env acts st h
    unwind_told g v (HandlerRun n x) acts st h = h
    unwind_told g v (OuterAct n) acts st h = ended_told n (outer_end n (Go g v)) acts st h
    unwind_told g v (ResumeWait n w k x env) acts st h = h
    unwind_told g v (HandlesWait n x entry rest) acts st h = h
    unwind_told g v (LoopAct n l env) acts st h = h

    -- ---- with instructions that only add

    module _ (instructs : (x : B) (acts : List (Act B)) (st : State) → Of P st → Told P (b.instruct x acts st)) where
      machine_told : (m : Mach B) → Told P m → Told P (step b p m)
      machine_told (Run x acts st) h = instructs x acts st h
      machine_told (Settle (Answer v) [] st) h = h
      machine_told (Settle (Answer v) (a ∷ acts) st) h = give_told v a acts st h
      machine_told (Settle (Go g v) [] st) h = h
      machine_told (Settle (Go g v) (a ∷ acts) st) h = unwind_told g v a acts st h
      machine_told (Settle (Stop l) acts st) h = h
      machine_told (Begin u acts st) h = begin_told u acts st h
      machine_told (Over o st) h = h
      machine_told (Stuck st) h = h

      kept_told : (target : Option ℕ) (v : Value) (st : State) → Of P st → Of P (kept_value target v st)
      kept_told None v st h = h
      kept_told (Some place) v st h = other st.transcript st.variables place v h

      pub opened_told : (xs : List Initializer) (st : State) → Of P st → TopTold P (open_next b p xs st)
      opened_told [] st h = h
      opened_told (x ∷ xs) st h = open_told (initializer_opening p x st.next) [] st h

      top_told : (x : Top B) → TopTold P x → TopTold P (top_step b p x)
      top_told (On target xs (Run y acts st)) h = machine_told (Run y acts st) h
      top_told (On target xs (Settle o acts st)) h = machine_told (Settle o acts st) h
      top_told (On target xs (Begin u acts st)) h = machine_told (Begin u acts st) h
      top_told (On target xs (Over (Answer v) st)) h = opened_told xs (kept_value target v st) (kept_told target v st h)
      top_told (On target xs (Over (Go g v) st)) h = h
      top_told (On target xs (Over (Stop l) st)) h = h
      top_told (On target xs (Stuck st)) h = h
      top_told (Ended e st) h = h

      pub iter_told : (n : ℕ) (x : Top B) → TopTold P x → TopTold P (top_iter b p n x)
      iter_told zero x h = h
      iter_told (suc n) x h = iter_told n (top_step b p x) (top_told x h)
