-- Each object number that the flat machine has in hand names an object: a law for each small step.
use Rattle.std.proofs.Common.{ℕ, ◌+◌, ◌<◌, max, nat_eq, length, List, [], ◌∷◌, Option, Some, None, Bool, true, false, sym, subst, arith, nat_lt, nat_le, if◌then◌else◌}
use Rattle.object_heap.specs.declared.value.Value.{Value}
use Rattle.object_heap.specs.declared.value.Value.TheVariants.{Symbol, Object}
use Rattle.object_heap.specs.declared.value.Closure.{Closure}
use Rattle.object_heap.specs.declared.trouble.Trouble.{Trouble}
use Rattle.object_heap.specs.declared.trouble.Trouble.TheVariants as trouble
use Rattle.object_heap.specs.Store.{Store, object_at}
use Rattle.st_code.specs.Program.{Program, body_at, class_at}
use Rattle.st_code.specs.Messages.{Control}
use Rattle.st_code.specs.Lookup.{is_plain, fits, is_exception}
use Rattle.st_collections.specs.Actions.{Action, Gives, Changes, Makes, Writes, Fails, DividesByZero, PassesIntegers, Begins, Activates, Sends, Misses, Enters, Guards, Ensures, Curtails, Iterates, Raises, RaisesNew, Controls, Terminates, Visit, Applies, Compares, Finishes, Lacks, Charges, next_object, with_new}
use Rattle.st_collections.specs.Kinds.{is_true}
use Rattle.st_rules.specs.Events.{Event}
use Rattle.st_rules.specs.State.{State, Entry, Env, Target, Home, Protected, Retry, RetryWith, Resume, Resignal, Terminate, CellLimit, Outcome, Answer, Go, Stop, Turn, Mark, FoundTurn, NoTurn, TurnAt, turn_of, told, with_store, is_live, is_at_signal, step_made, stood, used, scope_cells}
use Rattle.st_rules.specs.Ends.{charged, ended, trouble_text, with_arguments, with_message, Opening, block_opening, method_opening, at_home, turn_end, outer_end, SignalVerdict, Ends, Signals, signal_end, Verdict, Leaves, Again, protect_end, Search, Purpose, ForPass, ForOuter, ForNested, turn_for, asks_nested, Wait, ToResume, ToOuter}
use Rattle.st_rules.specs.Rules.{Use, Apply, Activate, Enter, SendTo, SuperTo, Perform, Raise, RaiseNew, SignalPoint, Resignaled, SearchIn, TurnBy, Ask, Protect, Finish, VisitBy, RunBody, closure_for, fail, apply_by, handler_by, sends_not_understood, exception_slots, with_exception, exception_cells}
use Rattle.st_rules.specs.Machine.{Act, BodyAct, Leaving, ProtectAct, EnsureOn, CurtailOn, ActionOff, SignalAct, HandlerRun, OuterAct, ResumeWait, HandlesWait, LoopAct, Mach, Run, Settle, Begin, Bodies, marks, open_act, raise_act, raise_new_act, tried_act, judged_act, search_act, turn_act, pass_act, asked_act, resignal_act, resignal_as_act, control_by_act, control_without_act, control_in_act, control_act, visit_act, perform_act, begin, protect_verdict, signal_verdict, give, unwind, step}
use Rattle.st_rules.specs.Flat.{FlatBody, flat_number}
use Rattle.st_rules.specs.Flattened.{flat_of}
use Rattle.law_values.specs.KnownNumbers.{Has, AllHave, ObjectsHave, ScopesHave, ClosuresHave, EntryHas, EnvHas, EntryOrNone, TurnHas, OutcomeHas, PurposeHas, SearchHas, WaitHas, Grown, VisitHas, ActionHas, UseHas, BodyHas, ActsHave, StateHas, MachHas, KnowsNumbers, Made, with_closures}
use Rattle.law_values.proofs.ValuesThere.{has_later, all_later, scopes_later, closures_later, closures_made, env_later, acts_later, append_has, take_has, nils_have, grown_new, next_new}
use Rattle.law_values.proofs.VisitsThere.{first_visit_has, next_visit_has}
use Rattle.law_values.proofs.SendsThere.{ClosureOr, closure_for_has, send_has, super_has}

module _ (C : ℕ) (low : 29 < C) where
  module _ (p : Program) where
    -- ---- charges

    step_has : (st : State) (m : Mach FlatBody) (k : State → Mach FlatBody) → MachHas C p m → ((n : ℕ) → MachHas C p (k (record st { steps = n }))) → MachHas C p (charged (step_made p st) m k)
    unfolding step_made
    step_has st m k stop on = go (nat_lt st.steps p.step_limit)
      where
        go : (c : Bool) → MachHas C p (charged (if c then Some (record st { steps = st.steps + 1 }) else None) m k)
        go true = on _
        go false = stop

    stood_has : (standing : List Mark) (st : State) (m : Mach FlatBody) (k : State → Mach FlatBody) → MachHas C p m → ((d n : ℕ) → MachHas C p (k (record st { depth = d; next = n }))) → MachHas C p (charged (stood p standing st) m k)
    unfolding stood
    stood_has standing st m k stop on = go (nat_le (length standing + 1) p.depth_limit)
      where
        go : (c : Bool) → MachHas C p (charged (if c then Some (record st { depth = max st.depth (length standing + 1); next = st.next + 1 }) else None) m k)
        go true = on _ _
        go false = stop

    pub used_has : (cells : ℕ) (st : State) (m : Mach FlatBody) (k : State → Mach FlatBody) → MachHas C p m → ((c : ℕ) → MachHas C p (k (record st { cells = c }))) → MachHas C p (charged (used p cells st) m k)
    unfolding used
    used_has cells st m k stop on = go (nat_le (st.cells + cells) p.cell_limit)
      where
        go : (c : Bool) → MachHas C p (charged (if c then Some (record st { cells = st.cells + cells }) else None) m k)
        go true = on _
        go false = stop

  -- ---- stores that grow

  abbrev pub size : State → ℕ
  size st = length st.store.objects

  -- what holds in a state and of what stands
  abbrev pub Here : Program → List (Act FlatBody) → State → Type 0
  Here p acts st = StateHas C p st × ActsHave C (size st) acts

  pub grown_here : (p : Program) (acts : List (Act FlatBody)) (st : State) (s : Store) → Here p acts st → Grown C st.store s → Here p acts (record st { store = s })
  grown_here p acts st s h e = (
    (
      omega (arith, h.0.0, e.more),
      e.objects,
      subst (λ ss. ScopesHave C (length s.objects) ss) (sym e.scopes) (scopes_later C low (size st) (length s.objects) e.more st.store.scopes h.0.2),
      subst (λ cs. ClosuresHave C (length s.objects) cs) (sym e.closures) (closures_later C low (size st) (length s.objects) e.more st.store.closures h.0.3),
      all_later C low (size st) (length s.objects) e.more st.variables h.0.4,
    ),
    acts_later C low (size st) (length s.objects) e.more acts h.1,
  )

  pub made_here : (p : Program) (acts : List (Act FlatBody)) (st : State) (s : Store) → Here p acts st → Made C st.store s → Here p acts (record st { store = s })
  made_here p acts st s h e =
      let x = grown_here p acts st (with_closures C st.store.closures s) h e.grown in
      ((x.0.0, x.0.1, x.0.2, closures_made C low (length s.objects) st.store.closures s.closures e.closures x.0.3, x.0.4), x.1)

  module _ (p : Program) (known : KnowsNumbers C p) where
    abbrev F : Bodies FlatBody
    F = flat_of p

    abbrev M : List (Act FlatBody) → List Mark
    M acts = marks flat_number acts

    -- an activation that is opened
    pub record OpeningHas (k : ℕ) (x : Opening) : Type 0 where
      pub self : Has C k x.self
      pub class : Has C k x.class
      pub arguments : AllHave C k x.arguments
      pub env : EnvHas C k x.env

    module _ (opens : (x : Opening) (acts : List (Act FlatBody)) (st : State) → Here p acts st → OpeningHas (size st) x → MachHas C p (Run (F.opened_body x st.store) acts (with_store st (F.opened_store x st.store)))) where
      pub open_has : (x : Opening) (acts : List (Act FlatBody)) (st : State) → Here p acts st → OpeningHas (size st) x → MachHas C p (open_act F p x acts st)
      open_has x acts st h o =
          stood_has p (M acts) st _ _ (h.0, tt, h.1) (λ d n. used_has p (scope_cells (body_at p x.code)) _ _ _ (h.0, tt, h.1) (λ c. opens x acts (record st { depth = d; next = n; cells = c }) h o))

      -- ---- signals, searches and turns

      text_has : (t : Trouble) (acts : List (Act FlatBody)) (st : State) → Here p acts st → Has C (size st) (trouble_text p t)
      text_has t acts st h = omega (arith, known.troubles t, h.0.0)

      fails : (t : Trouble) (env : Env) (acts : List (Act FlatBody)) (st : State) → Here p acts st → EnvHas C (size st) env → MachHas C p (Begin (fail p t env) acts st)
      fails t env acts st h e = (h.0, ((text_has t acts st h, tt), e), h.1)

      raise_has : (live : Bool) (e : ℕ) (env : Env) (acts : List (Act FlatBody)) (st : State) → Here p acts st → e < size st → EnvHas C (size st) env → MachHas C p (raise_act F p live e env acts st)
      raise_has true e env acts st h l v = fails trouble.AlreadySignaled env acts st h v
      raise_has false e env acts st h l v = stood_has p (M acts) st _ _ (h.0, tt, h.1) (λ d n. (h.0, (l, v), h.1))

      slots_have : (k c : ℕ) (slots : List Value) → AllHave C k slots → AllHave C k (exception_slots p c slots)
      unfolding exception_slots
      slots_have k c slots g = take_has C low k (class_at p c).slots _ (append_has C low k slots _ g (nils_have C low k _))

      exception_grows : (c : ℕ) (slots : List Value) (st : State) → ObjectsHave C (size st) st.store.objects → AllHave C (size st) slots → Grown C st.store (with_exception p c slots st.store)
      unfolding with_exception
      exception_grows c slots st h g = grown_new C low st.store h c (exception_slots p c slots) [] (slots_have (size st) c slots g)

      exception_there : (c : ℕ) (slots : List Value) (st : State) → ObjectsHave C (size st) st.store.objects → size st < length (with_exception p c slots st.store).objects
      unfolding with_exception
      exception_there c slots st h = next_new C low st.store h c (exception_slots p c slots) []

      raise_new_has : (c : ℕ) (slots : List Value) (env : Env) (acts : List (Act FlatBody)) (st : State) → Here p acts st → AllHave C (size st) slots → EnvHas C (size st) env → MachHas C p (raise_new_act F p c slots env acts st)
      raise_new_has c slots env acts st h g v =
          let e = exception_grows c slots st h.0.1 g in
          let n = grown_here p acts st (with_exception p c slots st.store) h e in
          stood_has p (M acts) st _ _ (h.0, tt, h.1) (λ d i.
          used_has p (exception_cells p c) _ _ _ (h.0, tt, h.1) (λ u. (n.0, (exception_there c slots st h.0.1, env_later C low (size st) (length (with_exception p c slots st.store).objects) e.more env v), n.1)))

      tried_has : (a : Bool) (x : Search) (entry : Entry) (rest : Env) (acts : List (Act FlatBody)) (st : State) → Here p acts st → SearchHas C (size st) x → EntryHas C (size st) entry → EnvHas C (size st) rest → MachHas C p (tried_act F p a x entry rest acts st)
      tried_has true x entry rest acts st h s e v = (h.0, (s, e, v), h.1)
      tried_has false x entry rest acts st h s e v = (h.0, (s, v), h.1)

      judged_has : (a : Bool) (x : Search) (entry : Entry) (rest : Env) (acts : List (Act FlatBody)) (st : State) → Here p acts st → SearchHas C (size st) x → EntryHas C (size st) entry → EnvHas C (size st) rest → MachHas C p (judged_act F p a x entry rest acts st)
      judged_has true x entry rest acts st h s e v = tried_has (fits p st.store entry.selector (object_at x.exception st.store).class) x entry rest acts st h s e v
      judged_has false x entry rest acts st h s e v = stood_has p (M acts) st _ _ (h.0, tt, h.1) (λ d n. (h.0, (e.0, (s.0, tt), v), ((s, e, v), h.1)))

      search_has : (x : Search) (rest : Env) (acts : List (Act FlatBody)) (st : State) → Here p acts st → SearchHas C (size st) x → EnvHas C (size st) rest → MachHas C p (search_act F p x rest acts st)
      search_has x [] acts st h s v = (h.0, (s, tt, s.1), h.1)
      search_has x (entry ∷ rest) acts st h s v = judged_has (is_plain p st.store entry.selector) x entry rest acts st h s v.0 v.1

      handler_has : (o : Option Closure) (handler : Value) (e : ℕ) (env : Env) (acts : List (Act FlatBody)) (st : State) → Here p acts st → ClosureOr C low (size st) o → Has C (size st) handler → e < size st → EnvHas C (size st) env → MachHas C p (Begin (handler_by o handler e env) acts st)
      handler_has None handler e env acts st h o g l v = (h.0, (g, (l, tt), v), h.1)
      handler_has (Some c) handler e env acts st h o g l v = (h.0, (o, tt, v), h.1)

      turn_has : (a : Bool) (x : Search) (entry : Option Entry) (outside : Env) (acts : List (Act FlatBody)) (st : State) → Here p acts st → SearchHas C (size st) x → EntryOrNone C (size st) entry → EnvHas C (size st) outside → MachHas C p (turn_act F p a x entry outside acts st)
      turn_has true x None outside acts st h s e v = (h.0, tt, h.1)
      turn_has true x (Some entry) outside acts st h s e v = (h.0, tt, h.1)
      turn_has false x None outside acts st h s e v = stood_has p (M acts) st _ _ (h.0, tt, h.1) (λ d n. (h.0, (s.0, tt, v), ((s.0, tt, v), h.1)))
      turn_has false x (Some entry) outside acts st h s e v =
          stood_has p (M acts) st _ _ (h.0, tt, h.1) (λ d n.
          handler_has (closure_for p st.store entry.handler 0) entry.handler x.exception outside (HandlerRun st.next (turn_for x (Some entry) outside) ∷ acts) (told (Event.Handle st.next entry.number) (record st { depth = d; next = n })) (h.0, ((s.0, e, v), h.1)) (closure_for_has C low p st.store h.0.1 h.0.3 entry.handler 0) e.1 s.0 v)

      -- ---- exception actions

      pass_has : (k e : ℕ) (t : Turn) (purpose : Purpose) (acts : List (Act FlatBody)) (st : State) → Here p acts st → e < size st → TurnHas C (size st) t → PurposeHas C (size st) purpose → MachHas C p (pass_act F p k e t purpose acts st)
      pass_has k e t purpose acts st h l g q = (h.0, ((l, g.2, q), g.2), h.1)

      asked_has : (a : Bool) (w : Wait) (k : ℕ) (t : Turn) (env : Env) (acts : List (Act FlatBody)) (st : State) → Here p acts st → WaitHas C (size st) w → TurnHas C (size st) t → EnvHas C (size st) env → MachHas C p (asked_act F p a w k t env acts st)
      asked_has true (ToResume v) k t env acts st h w g e = (h.0, (tt, w), h.1)
      asked_has false (ToResume v) k t env acts st h w g e = fails trouble.NotResumable env acts st h e
      asked_has true ToOuter k t env acts st h w g e =
          stood_has p (M acts) st _ _ (h.0, tt, h.1) (λ d n. pass_has k t.exception t (ForOuter t st.next) (OuterAct st.next ∷ acts) (told (Event.Outer st.next) (record st { depth = d; next = n })) (h.0, (tt, h.1)) g.0 g g)
      asked_has false ToOuter k t env acts st h w g e = pass_has k t.exception t (ForPass t) acts st h g.0 g g

      resignal_has : (a live : Bool) (t : Turn) (f : ℕ) (env : Env) (acts : List (Act FlatBody)) (st : State) → Here p acts st → f < size st → EnvHas C (size st) env → MachHas C p (resignal_act F p a live t f (Object f) env acts st)
      resignal_has false live t f env acts st h l e = fails trouble.ExceptionExpected env acts st h e
      resignal_has true true t f env acts st h l e = fails trouble.AlreadySignaled env acts st h e
      resignal_has true false t f env acts st h l e = (h.0, (l, l), h.1)

      resignal_as_has : (t : Turn) (v : Value) (env : Env) (acts : List (Act FlatBody)) (st : State) → Here p acts st → Has C (size st) v → EnvHas C (size st) env → MachHas C p (resignal_as_act F p t v env acts st)
      resignal_as_has t (Object f) env acts st h g e = resignal_has (is_exception p st.store (Object f)) (is_live f (M acts)) t f env acts st h g e
      resignal_as_has t v env acts st h g e = fails trouble.ExceptionExpected env acts st h e

      control_by_has : (c : Control) (v : Value) (k : ℕ) (t : Turn) (entry : Entry) (env : Env) (acts : List (Act FlatBody)) (st : State) → Here p acts st → Has C (size st) v → TurnHas C (size st) t → EnvHas C (size st) env → MachHas C p (control_by_act F p c v k t entry env acts st)
      control_by_has Control.Return v k t entry env acts st h g i e = (h.0, (tt, g), h.1)
      control_by_has Control.Retry v k t entry env acts st h g i e = (h.0, (tt, tt), h.1)
      control_by_has Control.RetryUsing v k t entry env acts st h g i e = (h.0, (tt, g), h.1)
      control_by_has Control.Resume v k t entry env acts st h g i e = (h.0, (g, i, e), h.1)
      control_by_has Control.Pass v k t entry env acts st h g i e = pass_has k t.exception t (ForPass t) acts st h i.0 i i
      control_by_has Control.Outer v k t entry env acts st h g i e = (h.0, (tt, i, e), h.1)
      control_by_has Control.ResignalAs v k t entry env acts st h g i e = resignal_as_has t v env acts st h g e
      control_by_has Control.IsNested v k t entry env acts st h g i e = pass_has k t.exception t ForNested acts st h i.0 i tt

      control_without_has : (c : Control) (v : Value) (k : ℕ) (t : Turn) (env : Env) (acts : List (Act FlatBody)) (st : State) → Here p acts st → Has C (size st) v → TurnHas C (size st) t → EnvHas C (size st) env → MachHas C p (control_without_act F p c v k t env acts st)
      control_without_has Control.Resume v k t env acts st h g i e = (h.0, (g, i, e), h.1)
      control_without_has c v k t env acts st h g i e = fails trouble.NotActive env acts st h e

      control_in_has : (entry : Option Entry) (c : Control) (v : Value) (k : ℕ) (t : Turn) (env : Env) (acts : List (Act FlatBody)) (st : State) → Here p acts st → Has C (size st) v → TurnHas C (size st) t → EnvHas C (size st) env → MachHas C p (control_in_act F p entry c v k t env acts st)
      control_in_has (Some entry) c v k t env acts st h g i e = control_by_has c v k t entry env acts st h g i e
      control_in_has None c v k t env acts st h g i e = control_without_has c v k t env acts st h g i e

      -- the turn that is found stands
      abbrev FoundHas : ℕ → FoundTurn → Type 0
      FoundHas k NoTurn = Unit {0}
      FoundHas k (TurnAt n t) = TurnHas C k t

      found_has : (k e : ℕ) (acts : List (Act FlatBody)) → ActsHave C k acts → FoundHas k (turn_of e (M acts))
      unfolding turn_of
      found_has k e [] h = tt
      found_has k e (HandlerRun n t ∷ acts) h = go (nat_eq e t.exception) (found_has k e acts h.1)
        where
          go : (b : Bool) → FoundHas k (turn_of e (M acts)) → FoundHas k (if b then TurnAt n t else turn_of e (M acts))
          go true f = h.0
          go false f = f
      found_has k e (BodyAct x ∷ acts) h = found_has k e acts h.1
      found_has k e (Leaving x ∷ acts) h = found_has k e acts h.1
      found_has k e (ProtectAct receiver entry env ∷ acts) h = found_has k e acts h.1
      found_has k e (EnsureOn n block env ∷ acts) h = found_has k e acts h.1
      found_has k e (CurtailOn n block env ∷ acts) h = found_has k e acts h.1
      found_has k e (ActionOff n held ∷ acts) h = found_has k e acts h.1
      found_has k e (SignalAct n x env ∷ acts) h = found_has k e acts h.1
      found_has k e (OuterAct n ∷ acts) h = found_has k e acts h.1
      found_has k e (ResumeWait n w i t env ∷ acts) h = found_has k e acts h.1
      found_has k e (HandlesWait n x entry rest ∷ acts) h = found_has k e acts h.1
      found_has k e (LoopAct n l env ∷ acts) h = found_has k e acts h.1

      control_has : (f : FoundTurn) (c : Control) (v : Value) (env : Env) (acts : List (Act FlatBody)) (st : State) → Here p acts st → FoundHas (size st) f → Has C (size st) v → EnvHas C (size st) env → MachHas C p (control_act F p f c v env acts st)
      control_has NoTurn c v env acts st h f g e = fails trouble.NotActive env acts st h e
      control_has (TurnAt k t) c v env acts st h f g e = control_in_has t.entry c v k t env acts st h g f e

      -- ---- loops

      visit_has : (n : ℕ) (v : Visit) (env : Env) (acts : List (Act FlatBody)) (st : State) → Here p acts st → VisitHas C st.store v → EnvHas C (size st) env → MachHas C p (visit_act F p n v env acts st)
      visit_has n (Applies l v args) env acts st h g e = (h.0, (g.1, g.2, e), ((g.0, e), h.1))
      visit_has n (Compares l r v) env acts st h g e = (h.0, (g.1, (g.2, tt), e), ((g.0, e), h.1))
      visit_has n (Finishes v) env acts st h g e = (h.0, g, h.1)
      visit_has n (Lacks l) env acts st h g e = fails trouble.NotFound env (LoopAct n l env ∷ acts) st (h.0, ((g, e), h.1)) e
      visit_has n (Charges cells s v) env acts st h g e =
          used_has p cells st _ _ (h.0, tt, h.1) (λ c. visit_has n v env acts (record st { cells = c; store = s }) (grown_here p acts st s h g.0) g.1 (env_later C low (size st) (length s.objects) g.0.more env e))

      -- ---- what a message does at once

      missed : (selector : ℕ) (r : Value) (args : List Value) (env : Env) (acts : List (Act FlatBody)) (st : State) (c d : ℕ) → Here p acts st → Has C (size st) r → AllHave C (size st) args → EnvHas C (size st) env → MachHas C p (Begin (SendTo selector r (next_object (with_arguments args st.store) ∷ []) env) acts (record st { cells = d; store = with_message c (next_object st.store) (with_arguments args st.store) }))
      unfolding with_arguments with_message
      missed selector r args env acts st c d h g i e =
          let a = grown_new C low st.store h.0.1 _ args [] i in
          let x = grown_here p acts st _ h a in
          let n : Has C (length (with_new _ args [] st.store).objects) (next_object st.store) = next_new C low st.store h.0.1 _ args [] in
          let b = grown_new C low _ x.0.1 _ (Symbol c ∷ next_object st.store ∷ []) [] (tt, (n, tt)) in
          let y = grown_here p acts (record st { store = with_new _ args [] st.store }) _ x b in
          (y.0, (has_later C low _ _ b.more r (has_later C low _ _ a.more r g), (next_new C low _ x.0.1 _ (Symbol c ∷ next_object st.store ∷ []) [], tt), env_later C low _ _ b.more env (env_later C low _ _ a.more env e)), y.1)

      kept_has : (args : List Value) (acts : List (Act FlatBody)) (st : State) → Here p acts st → AllHave C (size st) args → MachHas C p (Settle (Stop CellLimit) acts (record st { store = with_arguments args st.store }))
      unfolding with_arguments
      kept_has args acts st h i = let x = grown_here p acts st _ h (grown_new C low st.store h.0.1 _ args [] i) in (x.0, tt, x.1)

      missed_has : (selector : ℕ) (r : Value) (args : List Value) (env : Env) (acts : List (Act FlatBody)) (st : State) → Here p acts st → Has C (size st) r → AllHave C (size st) args → EnvHas C (size st) env → MachHas C p (perform_act F p (Misses selector r args) env acts st)
      missed_has selector r args env acts st h g i e =
          used_has p (1 + length args) st _ _ (h.0, tt, h.1) (λ c. used_has p 3 _ _ _ (kept_has args acts (record st { cells = c }) h i) (λ d. missed (sends_not_understood p) r args env acts st selector d h g i e))

      changed : (v : Value) (s : Store) (acts : List (Act FlatBody)) (st : State) → Here p acts st → Grown C st.store s → Has C (length s.objects) v → MachHas C p (Settle (Answer v) acts (record st { store = s }))
      changed v s acts st h e g = let x = grown_here p acts st s h e in (x.0, g, x.1)

      made : (v : Value) (s : Store) (acts : List (Act FlatBody)) (st : State) → Here p acts st → Made C st.store s → Has C (length s.objects) v → MachHas C p (Settle (Answer v) acts (record st { store = s }))
      made v s acts st h e g = let x = made_here p acts st s h e in (x.0, g, x.1)

      perform_has : (a : Action) (env : Env) (acts : List (Act FlatBody)) (st : State) → Here p acts st → ActionHas C st.store a → EnvHas C (size st) env → MachHas C p (perform_act F p a env acts st)
      perform_has (Gives v) env acts st h g e = (h.0, g, h.1)
      perform_has (Changes s v) env acts st h g e = changed v s acts st h g.0 g.1
      perform_has (Makes cells s v) env acts st h g e = used_has p cells st _ _ (h.0, tt, h.1) (λ c. made v s acts (record st { cells = c }) h g.0 g.1)
      perform_has (Writes text v) env acts st h g e = (h.0, g, h.1)
      perform_has (Fails trouble) env acts st h g e = fails trouble env acts st h e
      perform_has (DividesByZero dividend) env acts st h g e = (h.0, ((text_has trouble.ZeroDivide acts st h, (g, tt)), e), h.1)
      perform_has PassesIntegers env acts st h g e = (h.0, tt, h.1)
      perform_has (Begins v args) env acts st h g e = (h.0, (g.0, g.1, e), h.1)
      perform_has (Activates c args) env acts st h g e = (h.0, (g.0, g.1, e), h.1)
      perform_has (Sends selector r args) env acts st h g e = (h.0, (g.0, g.1, e), h.1)
      perform_has (Misses selector r args) env acts st h g e = missed_has selector r args env acts st h g.0 g.1 e
      perform_has (Enters code r args) env acts st h g e = (h.0, (g.0, g.1, e), h.1)
      perform_has (Guards receiver selector handler) env acts st h g e = stood_has p (M acts) st _ _ (h.0, tt, h.1) (λ d n. (h.0, (g.0, (g.1, g.2), e), h.1))
      perform_has (Ensures receiver block) env acts st h g e = stood_has p (M acts) st _ _ (h.0, tt, h.1) (λ d n. (h.0, (g.0, tt, e), ((g.1, e), h.1)))
      perform_has (Curtails receiver block) env acts st h g e = stood_has p (M acts) st _ _ (h.0, tt, h.1) (λ d n. (h.0, (g.0, tt, e), ((g.1, e), h.1)))
      perform_has (Iterates l) env acts st h g e = stood_has p (M acts) st _ _ (h.0, tt, h.1) (λ d n. (h.0, ((first_visit_has C low p st.store h.0.1 l g).gets, e), h.1))
      perform_has (Raises s x) env acts st h g e = let y = grown_here p acts st s h g.0 in (y.0, (g.1, env_later C low (size st) (length s.objects) g.0.more env e), y.1)
      perform_has (RaisesNew class slots) env acts st h g e = (h.0, (g, e), h.1)
      perform_has (Controls c x v) env acts st h g e = control_has (turn_of x (M acts)) c v env acts st h (found_has (size st) x acts h.1) g.1 e
      perform_has (Terminates v) env acts st h g e = (h.0, (tt, g), h.1)

      -- ---- the beginning of a use

      apply_has : (o : Option Closure) (v : Value) (args : List Value) (env : Env) (acts : List (Act FlatBody)) (st : State) → Here p acts st → ClosureOr C low (size st) o → Has C (size st) v → AllHave C (size st) args → EnvHas C (size st) env → MachHas C p (Begin (apply_by p o v args env) acts st)
      apply_has None v args env acts st h o g i e = (h.0, (g, i, e), h.1)
      apply_has (Some c) v args env acts st h o g i e = (h.0, (o, i, e), h.1)

      pub begin_has : (u : Use) (acts : List (Act FlatBody)) (st : State) → ((n : ℕ) → (object_at n st.store).class < C) → Here p acts st → UseHas C st.store u → MachHas C p (begin F p u acts st)
      begin_has (Apply v args env) acts st cl h u = apply_has (closure_for p st.store v (length args)) v args env acts st h (closure_for_has C low p st.store h.0.1 h.0.3 v (length args)) u.0 u.1 u.2
      begin_has (Activate c args env) acts st cl h u =
          step_has p st _ _ (h.0, tt, h.1) (λ n. open_has (block_opening c args env st.next) acts (record st { steps = n }) h (record { self = u.0.0; class = u.0.1; arguments = u.1; env = u.2 }))
      begin_has (Enter code r args env) acts st cl h u =
          open_has (method_opening p code r args env st.next) acts st h (record { self = u.0; class = has_later C low (length p.literals) (size st) h.0.0 (body_at p code).class (known.classes code); arguments = u.1; env = u.2 })
      begin_has (SendTo selector r args env) acts st cl h u = step_has p st _ _ (h.0, tt, h.1) (λ n. (h.0, (send_has C low p st.store h.0.1 h.0.3 cl known.above selector r args u.0 u.1, u.2), h.1))
      begin_has (SuperTo class selector r args env) acts st cl h u = step_has p st _ _ (h.0, tt, h.1) (λ n. (h.0, (super_has C low p st.store h.0.1 h.0.3 cl known.above class selector r args u.0 u.1, u.2), h.1))
      begin_has (Perform a env) acts st cl h u = perform_has a env acts st h u.0 u.1
      begin_has (Raise e env) acts st cl h u = raise_has (is_live e (M acts)) e env acts st h u.0 u.1
      begin_has (RaiseNew class slots env) acts st cl h u = raise_new_has class slots env acts st h u.0 u.1
      begin_has (SignalPoint n e env) acts st cl h u = (h.0, ((u.0, u.1, tt), u.1), (u, h.1))
      begin_has (Resignaled n e f env) acts st cl h u = (h.0, (u.1, u.2), ((u.0, u.2), h.1))
      begin_has (SearchIn x rest) acts st cl h u = search_has x rest acts st h u.0 u.1
      begin_has (TurnBy x entry outside) acts st cl h u = turn_has (asks_nested x) x entry outside acts st h u.0 u.1 u.2
      begin_has (Ask w k t env) acts st cl h u = stood_has p (M acts) st _ _ (h.0, tt, h.1) (λ d n. (h.0, (u.1.0, tt, u.2), (u, h.1)))
      begin_has (Protect receiver entry env) acts st cl h u = (h.0, (u.0, tt, (u.1, u.2)), (u, h.1))
      begin_has (Finish n block held env) acts st cl h u = (h.0, (u.0, tt, u.2), (u.1, h.1))
      begin_has (VisitBy n v env) acts st cl h u = visit_has n v env acts st h u.0 u.1
      begin_has (RunBody f env) acts st cl h u = h.0

      -- ---- an outcome at an activation

      ended_has : (n : ℕ) (o : Outcome) (acts : List (Act FlatBody)) (st : State) → Here p acts st → OutcomeHas C (size st) o → MachHas C p (Settle o acts (ended n o st))
      ended_has n (Answer v) acts st h g = (h.0, g, h.1)
      ended_has n (Go t v) acts st h g = (h.0, g, h.1)
      ended_has n (Stop l) acts st h g = (h.0, g, h.1)

      abbrev ProtectHas : ℕ → Verdict → Type 0
      ProtectHas k (Leaves o) = OutcomeHas C k o
      ProtectHas k (Again receiver) = Has C k receiver

      protect_has : (d : Verdict) (entry : Entry) (env : Env) (acts : List (Act FlatBody)) (st : State) → Here p acts st → ProtectHas (size st) d → EntryHas C (size st) entry → EnvHas C (size st) env → MachHas C p (protect_verdict F p d entry env acts st)
      protect_has (Leaves o) entry env acts st h g e v = ended_has entry.number o acts st h g
      protect_has (Again receiver) entry env acts st h g e v = (h.0, (g, e, v), h.1)

      verdict_if : (k : ℕ) (b : Bool) (d e : Verdict) → ProtectHas k d → ProtectHas k e → ProtectHas k (if b then d else e)
      verdict_if k true d e g i = g
      verdict_if k false d e g i = i

      protect_end_has : (k n : ℕ) (receiver : Value) (o : Outcome) → Has C k receiver → OutcomeHas C k o → ProtectHas k (protect_end n receiver o)
      protect_end_has k n receiver (Answer v) r g = g
      protect_end_has k n receiver (Stop l) r g = tt
      protect_end_has k n receiver (Go (Home m) v) r g = g
      protect_end_has k n receiver (Go (Protected m) v) r g = verdict_if k (nat_eq m n) (Leaves (Answer v)) (Leaves (Go (Protected m) v)) g.1 g
      protect_end_has k n receiver (Go (Retry m) v) r g = verdict_if k (nat_eq m n) (Again receiver) (Leaves (Go (Retry m) v)) r g
      protect_end_has k n receiver (Go (RetryWith m) v) r g = verdict_if k (nat_eq m n) (Again v) (Leaves (Go (RetryWith m) v)) g.1 g
      protect_end_has k n receiver (Go (Resume m) v) r g = g
      protect_end_has k n receiver (Go (Resignal m f) v) r g = g
      protect_end_has k n receiver (Go Terminate v) r g = g

      abbrev SignalHas : ℕ → SignalVerdict → Type 0
      SignalHas k (Ends o) = OutcomeHas C k o
      SignalHas k (Signals f) = f < k

      signal_has : (n e : ℕ) (d : SignalVerdict) (env : Env) (acts : List (Act FlatBody)) (st : State) → Here p acts st → SignalHas (size st) d → e < size st → EnvHas C (size st) env → MachHas C p (signal_verdict F p n e d env acts st)
      signal_has n e (Ends o) env acts st h g l v = ended_has n o acts st h g
      signal_has n e (Signals f) env acts st h g l v = (h.0, (l, g, v), h.1)

      signal_if : (k : ℕ) (b : Bool) (d e : SignalVerdict) → SignalHas k d → SignalHas k e → SignalHas k (if b then d else e)
      signal_if k true d e g i = g
      signal_if k false d e g i = i

      signal_end_has : (k n : ℕ) (o : Outcome) → OutcomeHas C k o → SignalHas k (signal_end n o)
      signal_end_has k n (Answer v) g = g
      signal_end_has k n (Stop l) g = tt
      signal_end_has k n (Go (Home m) v) g = g
      signal_end_has k n (Go (Protected m) v) g = g
      signal_end_has k n (Go (Retry m) v) g = g
      signal_end_has k n (Go (RetryWith m) v) g = g
      signal_end_has k n (Go (Resume m) v) g = signal_if k (nat_eq m n) (Ends (Answer v)) (Ends (Go (Resume m) v)) g.1 g
      signal_end_has k n (Go (Resignal m f) v) g = signal_if k (nat_eq m n) (Signals f) (Ends (Go (Resignal m f) v)) g.0 g
      signal_end_has k n (Go Terminate v) g = g

      outcome_if : (k : ℕ) (b : Bool) (d e : Outcome) → OutcomeHas C k d → OutcomeHas C k e → OutcomeHas C k (if b then d else e)
      outcome_if k true d e g i = g
      outcome_if k false d e g i = i

      outer_has : (k n : ℕ) (t : Target) (v : Value) → OutcomeHas C k (Go t v) → OutcomeHas C k (outer_end n (Go t v))
      outer_has k n (Home m) v g = g
      outer_has k n (Protected m) v g = g
      outer_has k n (Retry m) v g = g
      outer_has k n (RetryWith m) v g = g
      outer_has k n (Resume m) v g = outcome_if k (nat_eq m n) (Answer v) (Go (Resume m) v) g.1 g
      outer_has k n (Resignal m f) v g = g
      outer_has k n Terminate v g = g

      home_has : (k n : ℕ) (t : Target) (v : Value) → OutcomeHas C k (Go t v) → OutcomeHas C k (at_home n t v)
      home_has k n (Home m) v g = outcome_if k (nat_eq m n) (Answer v) (Go (Home m) v) g.1 g
      home_has k n (Protected m) v g = g
      home_has k n (Retry m) v g = g
      home_has k n (RetryWith m) v g = g
      home_has k n (Resume m) v g = g
      home_has k n (Resignal m f) v g = g
      home_has k n Terminate v g = g

      abbrev if_default : Bool → ℕ → Value → Outcome
      if_default true resume v = Answer v
      if_default false resume v = Go (Resume resume) v

      default_has : (k : ℕ) (b : Bool) (n : ℕ) (v : Value) → Has C k v → OutcomeHas C k (if_default b n v)
      default_has k true n v g = g
      default_has k false n v g = (tt, g)

      turn_end_has : (k : ℕ) (t : Turn) (entry : Option Entry) (s : List Mark) (v : Value) → Has C k v → OutcomeHas C k (elim entry [ Some x ↦ Go (Protected x.number) v | None ↦ if_default (is_at_signal t.signal s) t.resume_point v ])
      turn_end_has k t None s v g = default_has k (is_at_signal t.signal s) t.resume_point v g
      turn_end_has k t (Some x) s v g = (tt, g)

      module _ (given : (v : Value) (x : FlatBody) (k : ℕ) → Has C k v → BodyHas C k x → BodyHas C k (F.given v x)) where
        give_has : (v : Value) (a : Act FlatBody) (acts : List (Act FlatBody)) (st : State) → Here p (a ∷ acts) st → Has C (size st) v → MachHas C p (give F p v a acts st)
        give_has v (BodyAct x) acts st h g = (h.0, given v x (size st) g h.1.0, h.1.1)
        give_has v (Leaving x) acts st h g = (h.0, g, h.1.1)
        give_has v (ProtectAct receiver entry env) acts st h g = protect_has (protect_end entry.number receiver (Answer v)) entry env acts st (h.0, h.1.1) g h.1.0.1 h.1.0.2
        give_has v (EnsureOn n block env) acts st h g = (h.0, (h.1.0.0, g, h.1.0.1), h.1.1)
        give_has v (CurtailOn n block env) acts st h g = (h.0, g, h.1.1)
        give_has v (ActionOff n held) acts st h g = ended_has n held acts st (h.0, h.1.1) h.1.0
        give_has v (SignalAct n e env) acts st h g = signal_has n e (signal_end n (Answer v)) env acts st (h.0, h.1.1) g h.1.0.0 h.1.0.1
        give_has v (HandlerRun n t) acts st h g = ended_has n (turn_end t (M acts) (Answer v)) acts st (h.0, h.1.1) (turn_end_has (size st) t t.entry (M acts) v g)
        give_has v (OuterAct n) acts st h g = (h.0, g, h.1.1)
        give_has v (ResumeWait n w k t env) acts st h g = asked_has (is_true v) w k t env acts st (h.0, h.1.1) h.1.0.0 h.1.0.1 h.1.0.2
        give_has v (HandlesWait n x entry rest) acts st h g = tried_has (is_true v) x entry rest acts (ended n (Answer v) st) (h.0, h.1.1) h.1.0.0 h.1.0.1 h.1.0.2
        give_has v (LoopAct n l env) acts st h g = (h.0, ((next_visit_has C low p st.store h.0.1 l h.1.0.0 v g).gets, h.1.0.1), h.1.1)

        unwind_has : (t : Target) (v : Value) (a : Act FlatBody) (acts : List (Act FlatBody)) (st : State) → Here p (a ∷ acts) st → OutcomeHas C (size st) (Go t v) → MachHas C p (unwind F p t v a acts st)
        unwind_has t v (BodyAct x) acts st h g = (h.0, home_has (size st) x.own t v g, h.1.1)
        unwind_has t v (Leaving x) acts st h g = (h.0, home_has (size st) x.own t v g, h.1.1)
        unwind_has t v (ProtectAct receiver entry env) acts st h g = protect_has (protect_end entry.number receiver (Go t v)) entry env acts st (h.0, h.1.1) (protect_end_has (size st) entry.number receiver (Go t v) h.1.0.0 g) h.1.0.1 h.1.0.2
        unwind_has t v (EnsureOn n block env) acts st h g = (h.0, (h.1.0.0, g, h.1.0.1), h.1.1)
        unwind_has t v (CurtailOn n block env) acts st h g = (h.0, (h.1.0.0, g, h.1.0.1), h.1.1)
        unwind_has t v (ActionOff n held) acts st h g = (h.0, g, h.1.1)
        unwind_has t v (SignalAct n e env) acts st h g = signal_has n e (signal_end n (Go t v)) env acts st (h.0, h.1.1) (signal_end_has (size st) n (Go t v) g) h.1.0.0 h.1.0.1
        unwind_has t v (HandlerRun n turn) acts st h g = (h.0, g, h.1.1)
        unwind_has t v (OuterAct n) acts st h g = ended_has n (outer_end n (Go t v)) acts st (h.0, h.1.1) (outer_has (size st) n t v g)
        unwind_has t v (ResumeWait n w k turn env) acts st h g = (h.0, g, h.1.1)
        unwind_has t v (HandlesWait n x entry rest) acts st h g = (h.0, g, h.1.1)
        unwind_has t v (LoopAct n l env) acts st h g = (h.0, g, h.1.1)

        pub settle_has : (o : Outcome) (acts : List (Act FlatBody)) (st : State) → MachHas C p (Settle o acts st) → MachHas C p (step F p (Settle o acts st))
        settle_has (Answer v) [] st h = (h.0, h.1)
        settle_has (Answer v) (a ∷ acts) st h = give_has v a acts st (h.0, h.2) h.1
        settle_has (Go t v) [] st h = (h.0, h.1)
        settle_has (Go t v) (a ∷ acts) st h = unwind_has t v a acts st (h.0, h.2) h.1
        settle_has (Stop l) acts st h = (h.0, tt)
