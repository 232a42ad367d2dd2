-- Each object keeps its slots, each body and closure is of the class of its code, and no loop takes elements out of an object of a class of the file: a law for each small step of the flat machine.
use Rattle.std.proofs.Common.{◌≡◌, ℕ, ◌+◌, ◌<◌, ◌≤◌, max, length, List, [], ◌∷◌, Option, Some, None, Bool, true, false, drop, lt-ltb, refl, sym, ap, subst, arith, nat_lt, nat_le, if◌then◌else◌, ◌++◌, zero, suc, inl, inr, slice_get}
use Rattle.object_heap.specs.declared.value.Value.{Value}
use Rattle.object_heap.specs.declared.value.Value.TheVariants.{Symbol, Object}
use Rattle.object_heap.specs.declared.value.Closure.{Closure}
use Rattle.object_heap.specs.Store.{Store, object_at}
use Rattle.st_code.specs.Program.{Program, body_at}
use Rattle.st_code.specs.BuiltIns.{array_class, message_class}
use Rattle.st_code.specs.Messages.{Control, LoopMessage}
use Rattle.st_code.specs.Lookup.{is_plain, fits, is_exception}
use Rattle.st_collections.specs.Actions.{Action, Gives, Changes, Makes, Writes, Fails, DividesByZero, PassesIntegers, Begins, Activates, Sends, Misses, Enters, Guards, Ensures, Curtails, Iterates, Raises, RaisesNew, Controls, Terminates, Visit, Applies, Compares, Finishes, Lacks, Charges, next_object}
use Rattle.st_collections.specs.Kinds.{is_true}
use Rattle.st_rules.specs.State.{State, Entry, Env, Target, Outcome, Answer, Go, Stop, Turn, Mark, FoundTurn, NoTurn, TurnAt, turn_of, with_store, is_live, step_made, stood, used, scope_cells}
use Rattle.st_rules.specs.Ends.{charged, ended, with_arguments, with_message, Opening, block_opening, method_opening, turn_end, outer_end, SignalVerdict, Ends, Signals, signal_end, Verdict, Leaves, Again, protect_end, Search, asks_nested, Wait, ToResume, ToOuter}
use Rattle.st_rules.specs.Rules.{Use, Apply, Activate, Enter, SendTo, SuperTo, Perform, Raise, RaiseNew, SignalPoint, Resignaled, SearchIn, TurnBy, Ask, Protect, Finish, VisitBy, RunBody, closure_for, apply_by, handler_by, with_exception, exception_cells}
use Rattle.st_rules.specs.Machine.{Act, BodyAct, Leaving, ProtectAct, EnsureOn, CurtailOn, ActionOff, SignalAct, HandlerRun, OuterAct, ResumeWait, HandlesWait, LoopAct, Mach, Run, Settle, Begin, Over, Stuck, Bodies, marks, open_act, raise_act, raise_new_act, tried_act, judged_act, search_act, turn_act, asked_act, resignal_act, resignal_as_act, control_by_act, control_without_act, control_in_act, control_act, visit_act, perform_act, begin, protect_verdict, signal_verdict, give, unwind, step}
use Rattle.st_rules.specs.Flat.{FlatBody, flat_number}
use Rattle.st_rules.specs.Flattened.{flat_of}
use Rattle.st_rules.specs.Objects.{Has, AllHave, ObjectsHave, ClosuresHave, Grown, Made, SameOrOneAgain, VisitHas, ActionHas, UseHas, ActHas, ActsHave, LoopHas, KnowsLiterals}
use Rattle.st_rules.specs.Selves.{KnowsClasses}
use Rattle.st_rules.proofs.ObjectsMachine.{Here, size, grown_here}
use Rattle.st_rules.proofs.SelvesMachine.{UseFits, exception_grows, arguments_grow, arguments_there, message_grows}
use Rattle.st_variables.specs.Known.{InFile, AllFull, KnowsVariables}
use Rattle.st_variables.proofs.Wholes.{ClosureIs, ClosuresAre, NoObject, MessageKeeps, LoopKeeps, VisitKeeps, ActionKeeps, built_full, exception_full}
use Rattle.st_variables.proofs.VisitsKeep.{next_visit_keeps, first_visit_keeps}
use Rattle.st_variables.proofs.SendsKeep.{ClosureOr, closure_for_is, send_keeps, super_keeps}

-- ---- what holds

abbrev pub BodyIs : Program → FlatBody → Type 0
BodyIs p x = x.class ≡ (body_at p x.code).class

abbrev pub ActKeeps : Program → Store → Act FlatBody → Type 0
ActKeeps p s (BodyAct x) = BodyIs p x
ActKeeps p s (LoopAct n l env) = LoopKeeps p s l
ActKeeps p s a = Unit {0}

abbrev pub ActsKeep : Program → Store → List (Act FlatBody) → Type 0
ActsKeep p s [] = Unit {0}
ActsKeep p s (a ∷ acts) = ActKeeps p s a × ActsKeep p s acts

abbrev pub Rest : Program → List (Act FlatBody) → State → Type 0
Rest p acts st = AllFull p st.store.objects × (ClosuresAre p st.store.closures × ActsKeep p st.store acts)

abbrev pub UseKeeps : Program → Store → Use → Type 0
UseKeeps p s (Activate c args env) = ClosureIs p c
UseKeeps p s (Perform a env) = ActionKeeps p s a
UseKeeps p s (VisitBy n v env) = VisitKeeps p s v
UseKeeps p s u = Unit {0}

abbrev pub MachKeeps : Program → Mach FlatBody → Type 0
MachKeeps p (Run x acts st) = Rest p acts st × BodyIs p x
MachKeeps p (Settle o acts st) = Rest p acts st
MachKeeps p (Begin u acts st) = Rest p acts st × UseKeeps p st.store u
MachKeeps p (Over o st) = AllFull p st.store.objects × ClosuresAre p st.store.closures
MachKeeps p (Stuck st) = AllFull p st.store.objects

-- ---- stores that keep classes

module _ (p : Program) (s t : Store) (classes : (n : ℕ) → n < length s.objects → (object_at n t).class ≡ (object_at n s).class) where
  none_later : (r : Value) → Has (length s.objects) r → NoObject p s r → NoObject p t r
  none_later r h none = λ n e f. none n e (subst (λ c. InFile p c) (classes n (subst (λ v. Has (length s.objects) v) e h)) f)

  message_later : (m : LoopMessage) (r : Value) → Has (length s.objects) r → MessageKeeps p s m r → MessageKeeps p t m r
  message_later LoopMessage.Remove r h none = none_later r h none
  message_later LoopMessage.RemoveIfAbsent r h none = none_later r h none
  message_later LoopMessage.RemoveKey r h none = none_later r h none
  message_later LoopMessage.RemoveKeyIfAbsent r h none = none_later r h none
  message_later m r h none = tt

  act_later : (a : Act FlatBody) → ActHas (length s.objects) a → ActKeeps p s a → ActKeeps p t a
  act_later (BodyAct x) h g = g
  act_later (LoopAct n l env) h g = message_later l.message l.receiver h.0.0 g
  act_later a h g = tt

  pub acts_later : (acts : List (Act FlatBody)) → ActsHave (length s.objects) acts → ActsKeep p s acts → ActsKeep p t acts
  acts_later [] h g = tt
  acts_later (a ∷ acts) h g = (act_later a h.0 g.0, acts_later acts h.1 g.1)

pub grown_rest : (p : Program) (acts : List (Act FlatBody)) (st : State) (s : Store) → Here p acts st → Rest p acts st → AllFull p s.objects → Grown st.store s → Rest p acts (record st { store = s })
grown_rest p acts st s h r f e = (f, (subst (λ cs. ClosuresAre p cs) (sym e.closures) r.1.0, acts_later p st.store s e.classes acts h.1 r.1.1))

closure_is : (p : Program) (cs : List Closure) (n : ℕ) (c : Closure) → slice_get cs n ≡ Some c → ClosuresAre p cs → ClosureIs p c
closure_is p [] n c e h = cc
closure_is p (d ∷ cs) zero c e h = let same : d ≡ c = cc in subst (λ x. ClosureIs p x) same h.0
closure_is p (d ∷ cs) (suc n) c e h = closure_is p cs n c e h.1

closure_added : (p : Program) (cs : List Closure) (c : Closure) → ClosuresAre p cs → ClosureIs p c → ClosuresAre p (cs ++ c ∷ [])
closure_added p [] c h g = (g, tt)
closure_added p (d ∷ cs) c h g = (h.0, closure_added p cs c h.1 g)

closures_made : (p : Program) (cs cs' : List Closure) → SameOrOneAgain cs cs' → ClosuresAre p cs → ClosuresAre p cs'
closures_made p cs cs' (inl e) h = subst (λ xs. ClosuresAre p xs) (sym e) h
closures_made p cs cs' (inr a) h = subst (λ xs. ClosuresAre p xs) (sym a.added) (closure_added p cs a.closure h (closure_is p cs a.place a.closure a.is h))

-- the same, where a block may have been copied
made_rest : (p : Program) (acts : List (Act FlatBody)) (st : State) (s : Store) → Here p acts st → Rest p acts st → AllFull p s.objects → Made st.store s → Rest p acts (record st { store = s })
made_rest p acts st s h r f e = (f, (closures_made p st.store.closures s.closures e.closures r.1.0, acts_later p st.store s e.grown.classes acts h.1 r.1.1))

module _ (p : Program) where
  -- ---- charges

  step_keep : (st : State) (m : Mach FlatBody) (k : State → Mach FlatBody) → MachKeeps p m → ((n : ℕ) → MachKeeps p (k (record st { steps = n }))) → MachKeeps p (charged (step_made p st) m k)
  unfolding step_made
  step_keep st m k stop on = go (nat_lt st.steps p.step_limit)
    where
      go : (c : Bool) → MachKeeps p (charged (if c then Some (record st { steps = st.steps + 1 }) else None) m k)
      go true = on _
      go false = stop

  stood_keep : (standing : List Mark) (st : State) (m : Mach FlatBody) (k : State → Mach FlatBody) → MachKeeps p m → ((d n : ℕ) → MachKeeps p (k (record st { depth = d; next = n }))) → MachKeeps p (charged (stood p standing st) m k)
  unfolding stood
  stood_keep standing st m k stop on = go (nat_le (length standing + 1) p.depth_limit)
    where
      go : (c : Bool) → MachKeeps p (charged (if c then Some (record st { depth = max st.depth (length standing + 1); next = st.next + 1 }) else None) m k)
      go true = on _ _
      go false = stop

  pub used_keep : (cells : ℕ) (st : State) (m : Mach FlatBody) (k : State → Mach FlatBody) → MachKeeps p m → ((c : ℕ) → MachKeeps p (k (record st { cells = c }))) → MachKeeps p (charged (used p cells st) m k)
  unfolding used
  used_keep cells st m k stop on = go (nat_le (st.cells + cells) p.cell_limit)
    where
      go : (c : Bool) → MachKeeps p (charged (if c then Some (record st { cells = st.cells + cells }) else None) m k)
      go true = on _
      go false = stop

module _ (p : Program) (known : KnowsVariables p) (literals : KnowsLiterals p) (knows : KnowsClasses p) where
  abbrev F : Bodies FlatBody
  F = flat_of p

  abbrev M : List (Act FlatBody) → List Mark
  M acts = marks flat_number acts

  module _ (opens : (x : Opening) (acts : List (Act FlatBody)) (st : State) → Here p acts st → Rest p acts st → x.class ≡ (body_at p x.code).class → MachKeeps p (Run (F.opened_body x st.store) acts (with_store st (F.opened_store x st.store)))) where
    pub open_keep : (x : Opening) (acts : List (Act FlatBody)) (st : State) → Here p acts st → Rest p acts st → x.class ≡ (body_at p x.code).class → MachKeeps p (open_act F p x acts st)
    open_keep x acts st h r o = stood_keep p (M acts) st _ _ r (λ d n. used_keep p (scope_cells (body_at p x.code)) _ _ _ r (λ c. opens x acts (record st { depth = d; next = n; cells = c }) h r o))

    raise_keep : (live : Bool) (e : ℕ) (env : Env) (acts : List (Act FlatBody)) (st : State) → Rest p acts st → MachKeeps p (raise_act F p live e env acts st)
    raise_keep true e env acts st r = (r, tt)
    raise_keep false e env acts st r = stood_keep p (M acts) st _ _ r (λ d n. (r, tt))

    raise_new_keep : (c : ℕ) (slots : List Value) (env : Env) (acts : List (Act FlatBody)) (st : State) → Here p acts st → AllHave (size st) slots → Rest p acts st → MachKeeps p (raise_new_act F p c slots env acts st)
    raise_new_keep c slots env acts st h g r =
        let y = grown_rest p acts st (with_exception p c slots st.store) h r (exception_full p known c slots st.store r.0) (exception_grows p c slots st h.0.1 g) in
        stood_keep p (M acts) st _ _ r (λ d i. used_keep p (exception_cells p c) _ _ _ r (λ u. (y, tt)))

    tried_keep : (a : Bool) (x : Search) (entry : Entry) (rest : Env) (acts : List (Act FlatBody)) (st : State) → Rest p acts st → MachKeeps p (tried_act F p a x entry rest acts st)
    tried_keep true x entry rest acts st r = (r, tt)
    tried_keep false x entry rest acts st r = (r, tt)

    judged_keep : (a : Bool) (x : Search) (entry : Entry) (rest : Env) (acts : List (Act FlatBody)) (st : State) → Rest p acts st → MachKeeps p (judged_act F p a x entry rest acts st)
    judged_keep true x entry rest acts st r = tried_keep (fits p st.store entry.selector (object_at x.exception st.store).class) x entry rest acts st r
    judged_keep false x entry rest acts st r = stood_keep p (M acts) st _ _ r (λ d n. ((r.0, (r.1.0, (tt, r.1.1))), tt))

    search_keep : (x : Search) (rest : Env) (acts : List (Act FlatBody)) (st : State) → Rest p acts st → MachKeeps p (search_act F p x rest acts st)
    search_keep x [] acts st r = (r, tt)
    search_keep x (entry ∷ rest) acts st r = judged_keep (is_plain p st.store entry.selector) x entry rest acts st r

    handler_keep : (s : Store) (o : Option Closure) (handler : Value) (e : ℕ) (env : Env) → ClosureOr p o → UseKeeps p s (handler_by o handler e env)
    handler_keep s None handler e env g = tt
    handler_keep s (Some c) handler e env g = g

    turn_keep : (a : Bool) (x : Search) (entry : Option Entry) (outside : Env) (acts : List (Act FlatBody)) (st : State) → Rest p acts st → MachKeeps p (turn_act F p a x entry outside acts st)
    turn_keep true x None outside acts st r = r
    turn_keep true x (Some entry) outside acts st r = r
    turn_keep false x None outside acts st r = stood_keep p (M acts) st _ _ r (λ d n. ((r.0, (r.1.0, (tt, r.1.1))), tt))
    turn_keep false x (Some entry) outside acts st r =
        stood_keep p (M acts) st _ _ r (λ d n. ((r.0, (r.1.0, (tt, r.1.1))), handler_keep st.store (closure_for p st.store entry.handler 0) entry.handler x.exception outside (closure_for_is p known st.store r.0 r.1.0 entry.handler 0)))

    asked_keep : (a : Bool) (w : Wait) (k : ℕ) (t : Turn) (env : Env) (acts : List (Act FlatBody)) (st : State) → Rest p acts st → MachKeeps p (asked_act F p a w k t env acts st)
    asked_keep true (ToResume v) k t env acts st r = r
    asked_keep false (ToResume v) k t env acts st r = (r, tt)
    asked_keep true ToOuter k t env acts st r = stood_keep p (M acts) st _ _ r (λ d n. ((r.0, (r.1.0, (tt, r.1.1))), tt))
    asked_keep false ToOuter k t env acts st r = (r, tt)

    resignal_keep : (a live : Bool) (t : Turn) (f : ℕ) (v : Value) (env : Env) (acts : List (Act FlatBody)) (st : State) → Rest p acts st → MachKeeps p (resignal_act F p a live t f v env acts st)
    resignal_keep false live t f v env acts st r = (r, tt)
    resignal_keep true true t f v env acts st r = (r, tt)
    resignal_keep true false t f v env acts st r = r

    resignal_as_keep : (t : Turn) (v : Value) (env : Env) (acts : List (Act FlatBody)) (st : State) → Rest p acts st → MachKeeps p (resignal_as_act F p t v env acts st)
    resignal_as_keep t (Object f) env acts st r = resignal_keep (is_exception p st.store (Object f)) (is_live f (M acts)) t f (Object f) env acts st r
    resignal_as_keep t v env acts st r = (r, tt)

    control_by_keep : (c : Control) (v : Value) (k : ℕ) (t : Turn) (entry : Entry) (env : Env) (acts : List (Act FlatBody)) (st : State) → Rest p acts st → MachKeeps p (control_by_act F p c v k t entry env acts st)
    control_by_keep Control.Return v k t entry env acts st r = r
    control_by_keep Control.Retry v k t entry env acts st r = r
    control_by_keep Control.RetryUsing v k t entry env acts st r = r
    control_by_keep Control.Resume v k t entry env acts st r = (r, tt)
    control_by_keep Control.Pass v k t entry env acts st r = (r, tt)
    control_by_keep Control.Outer v k t entry env acts st r = (r, tt)
    control_by_keep Control.ResignalAs v k t entry env acts st r = resignal_as_keep t v env acts st r
    control_by_keep Control.IsNested v k t entry env acts st r = (r, tt)

    control_without_keep : (c : Control) (v : Value) (k : ℕ) (t : Turn) (env : Env) (acts : List (Act FlatBody)) (st : State) → Rest p acts st → MachKeeps p (control_without_act F p c v k t env acts st)
    control_without_keep Control.Resume v k t env acts st r = (r, tt)
    control_without_keep c v k t env acts st r = (r, tt)

    control_in_keep : (entry : Option Entry) (c : Control) (v : Value) (k : ℕ) (t : Turn) (env : Env) (acts : List (Act FlatBody)) (st : State) → Rest p acts st → MachKeeps p (control_in_act F p entry c v k t env acts st)
    control_in_keep (Some entry) c v k t env acts st r = control_by_keep c v k t entry env acts st r
    control_in_keep None c v k t env acts st r = control_without_keep c v k t env acts st r

    control_keep : (f : FoundTurn) (c : Control) (v : Value) (env : Env) (acts : List (Act FlatBody)) (st : State) → Rest p acts st → MachKeeps p (control_act F p f c v env acts st)
    control_keep NoTurn c v env acts st r = (r, tt)
    control_keep (TurnAt k t) c v env acts st r = control_in_keep t.entry c v k t env acts st r

    -- ---- loops, and what a message does at once

    visit_keep : (n : ℕ) (v : Visit) (env : Env) (acts : List (Act FlatBody)) (st : State) → Here p acts st → VisitHas st.store v → Rest p acts st → VisitKeeps p st.store v → MachKeeps p (visit_act F p n v env acts st)
    visit_keep n (Applies l v args) env acts st h g r f = ((r.0, (r.1.0, (f, r.1.1))), tt)
    visit_keep n (Compares l x v) env acts st h g r f = ((r.0, (r.1.0, (f, r.1.1))), tt)
    visit_keep n (Finishes v) env acts st h g r f = r
    visit_keep n (Lacks l) env acts st h g r f = ((r.0, (r.1.0, (f, r.1.1))), tt)
    visit_keep n (Charges cells s v) env acts st h g r f =
        used_keep p cells st _ _ r (λ c. visit_keep n v env acts (record st { cells = c; store = s }) (grown_here p acts st s h g.0) g.1 (grown_rest p acts st s h r f.0 g.0) f.1)

    arguments_full : (args : List Value) (s : Store) → AllFull p s.objects → AllFull p (with_arguments args s).objects
    unfolding with_arguments
    arguments_full args s f = built_full p known array_class args [] s f (omega arith)

    message_full : (c : ℕ) (array : Value) (s : Store) → AllFull p s.objects → AllFull p (with_message c array s).objects
    unfolding with_message
    message_full c array s f = built_full p known message_class (Symbol c ∷ array ∷ []) [] s f (omega arith)

    missed_keep : (selector : ℕ) (x : Value) (args : List Value) (env : Env) (acts : List (Act FlatBody)) (st : State) → Here p acts st → AllHave (size st) args → Rest p acts st → MachKeeps p (perform_act F p (Misses selector x args) env acts st)
    missed_keep selector x args env acts st h i r =
        let a = arguments_grow args st h.0.1 i in
        let s = with_arguments args st.store in
        let h1 = grown_here p acts st s h a in
        let f1 = arguments_full args st.store r.0 in
        let r1 = grown_rest p acts st s h r f1 a in
        let b = message_grows selector (next_object st.store) s h1.0.1 (arguments_there args st h.0.1) in
        let r2 = grown_rest p acts (record st { store = s }) (with_message selector (next_object st.store) s) h1 r1 (message_full selector (next_object st.store) s f1) b in
        used_keep p (1 + length args) st _ _ r (λ c. used_keep p 3 _ _ _ r1 (λ d. (r2, tt)))

    perform_keep : (a : Action) (env : Env) (acts : List (Act FlatBody)) (st : State) → Here p acts st → ActionHas st.store a → Rest p acts st → ActionKeeps p st.store a → MachKeeps p (perform_act F p a env acts st)
    perform_keep (Gives v) env acts st h g r f = r
    perform_keep (Changes s v) env acts st h g r f = grown_rest p acts st s h r f g.0
    perform_keep (Makes cells s v) env acts st h g r f = used_keep p cells st _ _ r (λ c. made_rest p acts (record st { cells = c }) s h r f g.0)
    perform_keep (Writes text v) env acts st h g r f = r
    perform_keep (Fails trouble) env acts st h g r f = (r, tt)
    perform_keep (DividesByZero dividend) env acts st h g r f = (r, tt)
    perform_keep PassesIntegers env acts st h g r f = r
    perform_keep (Begins v args) env acts st h g r f = (r, tt)
    perform_keep (Activates c args) env acts st h g r f = (r, f)
    perform_keep (Sends selector x args) env acts st h g r f = (r, tt)
    perform_keep (Misses selector x args) env acts st h g r f = missed_keep selector x args env acts st h g.1 r
    perform_keep (Enters code x args) env acts st h g r f = (r, tt)
    perform_keep (Guards receiver selector handler) env acts st h g r f = stood_keep p (M acts) st _ _ r (λ d n. (r, tt))
    perform_keep (Ensures receiver block) env acts st h g r f = stood_keep p (M acts) st _ _ r (λ d n. ((r.0, (r.1.0, (tt, r.1.1))), tt))
    perform_keep (Curtails receiver block) env acts st h g r f = stood_keep p (M acts) st _ _ r (λ d n. ((r.0, (r.1.0, (tt, r.1.1))), tt))
    perform_keep (Iterates l) env acts st h g r f = stood_keep p (M acts) st _ _ r (λ d n. (r, (first_visit_keeps p known st.store r.0 l f).keeps))
    perform_keep (Raises s x) env acts st h g r f = (grown_rest p acts st s h r f g.0, tt)
    perform_keep (RaisesNew class slots) env acts st h g r f = (r, tt)
    perform_keep (Controls c x v) env acts st h g r f = control_keep (turn_of x (M acts)) c v env acts st r
    perform_keep (Terminates v) env acts st h g r f = r

    -- ---- the beginning of a use

    apply_keep : (s : Store) (o : Option Closure) (v : Value) (args : List Value) (env : Env) → ClosureOr p o → UseKeeps p s (apply_by p o v args env)
    apply_keep s None v args env g = tt
    apply_keep s (Some c) v args env g = g

    pub begin_keep : (u : Use) (acts : List (Act FlatBody)) (st : State) → Here p acts st → UseHas st.store u → Rest p acts st → UseFits p st.store u → UseKeeps p st.store u → MachKeeps p (begin F p u acts st)
    begin_keep (Apply v args env) acts st h u r w f = (r, apply_keep st.store (closure_for p st.store v (length args)) v args env (closure_for_is p known st.store r.0 r.1.0 v (length args)))
    begin_keep (Activate c args env) acts st h u r w f = step_keep p st _ _ r (λ n. open_keep (block_opening c args env st.next) acts (record st { steps = n }) h r f)
    begin_keep (Enter code x args env) acts st h u r w f = open_keep (method_opening p code x args env st.next) acts st h r refl
    begin_keep (SendTo selector x args env) acts st h u r w f = step_keep p st _ _ r (λ n. (r, send_keeps p known st.store r.0 r.1.0 selector x args))
    begin_keep (SuperTo class selector x args env) acts st h u r w f = step_keep p st _ _ r (λ n. (r, super_keeps p known st.store r.0 r.1.0 knows class selector x args w))
    begin_keep (Perform a env) acts st h u r w f = perform_keep a env acts st h u.0 r f
    begin_keep (Raise e env) acts st h u r w f = raise_keep (is_live e (M acts)) e env acts st r
    begin_keep (RaiseNew class slots env) acts st h u r w f = raise_new_keep class slots env acts st h u.0 r
    begin_keep (SignalPoint n e env) acts st h u r w f = ((r.0, (r.1.0, (tt, r.1.1))), tt)
    begin_keep (Resignaled n e x env) acts st h u r w f = ((r.0, (r.1.0, (tt, r.1.1))), tt)
    begin_keep (SearchIn x rest) acts st h u r w f = search_keep x rest acts st r
    begin_keep (TurnBy x entry outside) acts st h u r w f = turn_keep (asks_nested x) x entry outside acts st r
    begin_keep (Ask x k t env) acts st h u r w f = stood_keep p (M acts) st _ _ r (λ d n. ((r.0, (r.1.0, (tt, r.1.1))), tt))
    begin_keep (Protect receiver entry env) acts st h u r w f = ((r.0, (r.1.0, (tt, r.1.1))), tt)
    begin_keep (Finish n block held env) acts st h u r w f = ((r.0, (r.1.0, (tt, r.1.1))), tt)
    begin_keep (VisitBy n v env) acts st h u r w f = visit_keep n v env acts st h u.0 r f
    begin_keep (RunBody x env) acts st h u r w f = r.0

    -- ---- an outcome at an activation

    ended_keep : (n : ℕ) (o : Outcome) (acts : List (Act FlatBody)) (st : State) → Rest p acts st → MachKeeps p (Settle o acts (ended n o st))
    ended_keep n (Answer v) acts st r = r
    ended_keep n (Go t v) acts st r = r
    ended_keep n (Stop l) acts st r = r

    protect_keep : (d : Verdict) (entry : Entry) (env : Env) (acts : List (Act FlatBody)) (st : State) → Rest p acts st → MachKeeps p (protect_verdict F p d entry env acts st)
    protect_keep (Leaves o) entry env acts st r = ended_keep entry.number o acts st r
    protect_keep (Again receiver) entry env acts st r = (r, tt)

    signal_keep : (n e : ℕ) (d : SignalVerdict) (env : Env) (acts : List (Act FlatBody)) (st : State) → Rest p acts st → MachKeeps p (signal_verdict F p n e d env acts st)
    signal_keep n e (Ends o) env acts st r = ended_keep n o acts st r
    signal_keep n e (Signals f) env acts st r = (r, tt)

    give_keep : (v : Value) (a : Act FlatBody) (acts : List (Act FlatBody)) (st : State) → Rest p (a ∷ acts) st → MachKeeps p (give F p v a acts st)
    give_keep v (BodyAct x) acts st r = ((r.0, (r.1.0, r.1.1.1)), r.1.1.0)
    give_keep v (Leaving x) acts st r = (r.0, (r.1.0, r.1.1.1))
    give_keep v (ProtectAct receiver entry env) acts st r = protect_keep (protect_end entry.number receiver (Answer v)) entry env acts st (r.0, (r.1.0, r.1.1.1))
    give_keep v (EnsureOn n block env) acts st r = ((r.0, (r.1.0, r.1.1.1)), tt)
    give_keep v (CurtailOn n block env) acts st r = (r.0, (r.1.0, r.1.1.1))
    give_keep v (ActionOff n held) acts st r = ended_keep n held acts st (r.0, (r.1.0, r.1.1.1))
    give_keep v (SignalAct n e env) acts st r = signal_keep n e (signal_end n (Answer v)) env acts st (r.0, (r.1.0, r.1.1.1))
    give_keep v (HandlerRun n t) acts st r = ended_keep n (turn_end t (M acts) (Answer v)) acts st (r.0, (r.1.0, r.1.1.1))
    give_keep v (OuterAct n) acts st r = (r.0, (r.1.0, r.1.1.1))
    give_keep v (ResumeWait n w k t env) acts st r = asked_keep (is_true v) w k t env acts st (r.0, (r.1.0, r.1.1.1))
    give_keep v (HandlesWait n x entry rest) acts st r = tried_keep (is_true v) x entry rest acts (ended n (Answer v) st) (r.0, (r.1.0, r.1.1.1))
    give_keep v (LoopAct n l env) acts st r = ((r.0, (r.1.0, r.1.1.1)), (next_visit_keeps p known st.store r.0 l r.1.1.0 v).keeps)

    unwind_keep : (t : Target) (v : Value) (a : Act FlatBody) (acts : List (Act FlatBody)) (st : State) → Rest p (a ∷ acts) st → MachKeeps p (unwind F p t v a acts st)
    unwind_keep t v (BodyAct x) acts st r = (r.0, (r.1.0, r.1.1.1))
    unwind_keep t v (Leaving x) acts st r = (r.0, (r.1.0, r.1.1.1))
    unwind_keep t v (ProtectAct receiver entry env) acts st r = protect_keep (protect_end entry.number receiver (Go t v)) entry env acts st (r.0, (r.1.0, r.1.1.1))
    unwind_keep t v (EnsureOn n block env) acts st r = ((r.0, (r.1.0, r.1.1.1)), tt)
    unwind_keep t v (CurtailOn n block env) acts st r = ((r.0, (r.1.0, r.1.1.1)), tt)
    unwind_keep t v (ActionOff n held) acts st r = (r.0, (r.1.0, r.1.1.1))
    unwind_keep t v (SignalAct n e env) acts st r = signal_keep n e (signal_end n (Go t v)) env acts st (r.0, (r.1.0, r.1.1.1))
    unwind_keep t v (HandlerRun n turn) acts st r = (r.0, (r.1.0, r.1.1.1))
    unwind_keep t v (OuterAct n) acts st r = ended_keep n (outer_end n (Go t v)) acts st (r.0, (r.1.0, r.1.1.1))
    unwind_keep t v (ResumeWait n w k turn env) acts st r = (r.0, (r.1.0, r.1.1.1))
    unwind_keep t v (HandlesWait n x entry rest) acts st r = (r.0, (r.1.0, r.1.1.1))
    unwind_keep t v (LoopAct n l env) acts st r = (r.0, (r.1.0, r.1.1.1))

    pub settle_keep : (o : Outcome) (acts : List (Act FlatBody)) (st : State) → Rest p acts st → MachKeeps p (step F p (Settle o acts st))
    settle_keep (Answer v) [] st r = (r.0, r.1.0)
    settle_keep (Answer v) (a ∷ acts) st r = give_keep v a acts st r
    settle_keep (Go t v) [] st r = (r.0, r.1.0)
    settle_keep (Go t v) (a ∷ acts) st r = unwind_keep t v a acts st r
    settle_keep (Stop l) acts st r = (r.0, r.1.0)
