-- Stores stay sound, and loops that stand are as their messages take them: a law for each small step of the flat machine.
use Rattle.std.proofs.Common.{◌≡◌, ℕ, ◌+◌, max, length, List, [], ◌∷◌, Option, Some, None, Bool, true, false, refl, sym, subst, nat_lt, nat_le, if◌then◌else◌, ◌++◌, zero, suc, inl, inr, slice_get}
use Rattle.object_heap.specs.declared.value.Value.{Value}
use Rattle.object_heap.specs.declared.value.Value.TheVariants.{Symbol, Object}
use Rattle.object_heap.specs.declared.value.Closure.{Closure}
use Rattle.object_heap.specs.Store.{Store, object_at}
use Rattle.st_code.specs.BuiltIns.{array_class, message_class}
use Rattle.st_code.specs.Lookup.{is_plain, fits, is_exception}
use Rattle.st_code.specs.Messages.{Control}
use Rattle.st_code.specs.Program.{Program, body_at}
use Rattle.st_collections.specs.Actions.{Action, Gives, Changes, Makes, Writes, Fails, DividesByZero, PassesIntegers, Begins, Activates, Sends, Misses, Enters, Guards, Ensures, Curtails, Iterates, Raises, RaisesNew, Controls, Terminates, Visit, Applies, Compares, Finishes, Lacks, Charges, next_object, with_new}
use Rattle.st_collections.specs.Kinds.{is_true}
use Rattle.st_rules.specs.Ends.{charged, ended, with_arguments, with_message, Opening, block_opening, method_opening, turn_end, outer_end, SignalVerdict, Ends, Signals, signal_end, Verdict, Leaves, Again, protect_end, Search, asks_nested, Wait, ToResume, ToOuter}
use Rattle.st_rules.specs.Flat.{FlatBody, flat_number}
use Rattle.st_rules.specs.Flattened.{flat_of}
use Rattle.st_rules.specs.Machine.{Act, BodyAct, Leaving, ProtectAct, EnsureOn, CurtailOn, ActionOff, SignalAct, HandlerRun, OuterAct, ResumeWait, HandlesWait, LoopAct, Mach, Run, Settle, Bodies, marks, open_act, raise_act, raise_new_act, tried_act, judged_act, search_act, turn_act, asked_act, resignal_act, resignal_as_act, control_by_act, control_without_act, control_in_act, control_act, visit_act, perform_act, begin, protect_verdict, signal_verdict, give, unwind, step}
use Rattle.st_rules.specs.Objects.{ActionHas, Grown, Made, SameOrOneAgain, UseHas, VisitHas}
use Rattle.st_rules.specs.Rules.{Use, Apply, Activate, Enter, SendTo, SuperTo, Perform, Raise, RaiseNew, SignalPoint, Resignaled, SearchIn, TurnBy, Ask, Protect, Finish, VisitBy, RunBody, closure_for, apply_by, handler_by, exception_slots, with_exception, exception_cells}
use Rattle.st_rules.specs.Selves.{IsOf, KnowsClasses}
use Rattle.st_rules.specs.State.{State, Entry, Env, Target, Outcome, Answer, Go, Stop, Turn, Mark, FoundTurn, NoTurn, TurnAt, turn_of, with_store, is_live, step_made, stood, used, scope_cells}
use Rattle.st_sound.specs.KnownCollections.{KnowsCollections}
use Rattle.st_sound.specs.SoundActions.{VisitSound, ActionSound, ClosureWritten}
use Rattle.st_sound.specs.SoundRun.{ClosuresWritten, UseSound, ActSound, ActsSound, StateSound, MachSound}
use Rattle.st_sound.specs.SoundStore.{SoundStore, is_free}
use Rattle.st_sound.proofs.Later.{Later, new_later, loop_later}
use Rattle.st_sound.proofs.SoundObjects.{new_free, sound_new}
use Rattle.st_sound.proofs.SoundSends.{WrittenOrNone, closure_for_sound, send_sound, super_sound}
use Rattle.st_sound.proofs.SoundVisits.{first_visit_sound, next_visit_sound}

-- ---- stores that are later

pub grown_later : (s t : Store) → Grown s t → Later s t
grown_later s t e = record { more = e.more; classes = e.classes }

module _ (p : Program) where
  -- what holds of a state and of what stands
  abbrev pub Rest : List (Act FlatBody) → State → Type 0
  Rest acts st = StateSound p st × ActsSound p st.store acts

  act_later : (s t : Store) → Later s t → SoundStore t → (a : Act FlatBody) → ActSound p s a → ActSound p t a
  act_later s t e h (BodyAct x) g = g
  act_later s t e h (Leaving x) g = g
  act_later s t e h (LoopAct n l env) g = loop_later s t e h l g
  act_later s t e h a g = tt

  pub acts_later : (s t : Store) → Later s t → SoundStore t → (acts : List (Act FlatBody)) → ActsSound p s acts → ActsSound p t acts
  acts_later s t e h [] g = tt
  acts_later s t e h (a ∷ acts) g = (act_later s t e h a g.0, acts_later s t e h acts g.1)

  -- another store with the closures that there were
  pub rest_later : (acts : List (Act FlatBody)) (st : State) (s : Store) → Later st.store s → SoundStore s → s.closures ≡ st.store.closures → Rest acts st → Rest acts (record st { store = s })
  rest_later acts st s e h c r = ((h, subst (λ cs. ClosuresWritten p cs) (sym c) r.0.1), acts_later st.store s e h acts r.1)

  rest_grown : (acts : List (Act FlatBody)) (st : State) (s : Store) → Grown st.store s → SoundStore s → Rest acts st → Rest acts (record st { store = s })
  rest_grown acts st s e h r = rest_later acts st s (grown_later st.store s e) h e.closures r

  closure_written : (cs : List Closure) (n : ℕ) (c : Closure) → slice_get cs n ≡ Some c → ClosuresWritten p cs → ClosureWritten p c
  closure_written [] n c e h = cc
  closure_written (d ∷ cs) zero c e h = let same : d ≡ c = cc in subst (λ x. ClosureWritten p x) same h.0
  closure_written (d ∷ cs) (suc n) c e h = closure_written cs n c e h.1

  closure_added : (cs : List Closure) (c : Closure) → ClosuresWritten p cs → ClosureWritten p c → ClosuresWritten p (cs ++ c ∷ [])
  closure_added [] c h g = (g, tt)
  closure_added (d ∷ cs) c h g = (h.0, closure_added cs c h.1 g)

  closures_made : (cs cs' : List Closure) → SameOrOneAgain cs cs' → ClosuresWritten p cs → ClosuresWritten p cs'
  closures_made cs cs' (inl e) h = subst (λ xs. ClosuresWritten p xs) (sym e) h
  closures_made cs cs' (inr a) h = subst (λ xs. ClosuresWritten p xs) (sym a.added) (closure_added cs a.closure h (closure_written cs a.place a.closure a.is h))

  -- the same, where a block may have been copied
  rest_made : (acts : List (Act FlatBody)) (st : State) (s : Store) → Made st.store s → SoundStore s → Rest acts st → Rest acts (record st { store = s })
  rest_made acts st s e h r = ((h, closures_made st.store.closures s.closures e.closures r.0.1), acts_later st.store s (record { more = e.grown.more; classes = e.grown.classes }) h acts r.1)

  same_closures : (class : ℕ) (slots : List Value) (s : Store) → (with_new class slots [] s).closures ≡ s.closures
  unfolding with_new
  same_closures class slots s = refl

  rest_new : (acts : List (Act FlatBody)) (st : State) (class : ℕ) (slots : List Value) → is_free class ≡ true → Rest acts st → Rest acts (record st { store = with_new class slots [] st.store })
  rest_new acts st class slots f r = rest_later acts st (with_new class slots [] st.store) (new_later st.store class slots []) (sound_new st.store class slots [] r.0.0 (new_free class slots [] f)) (same_closures class slots st.store) r

  rest_exception : (acts : List (Act FlatBody)) (st : State) (c : ℕ) (slots : List Value) → is_free c ≡ true → Rest acts st → Rest acts (record st { store = with_exception p c slots st.store })
  unfolding with_exception
  rest_exception acts st c slots f r = rest_new acts st c (exception_slots p c slots) f r

  rest_arguments : (acts : List (Act FlatBody)) (st : State) (args : List Value) → Rest acts st → Rest acts (record st { store = with_arguments args st.store })
  unfolding with_arguments
  rest_arguments acts st args r = rest_new acts st array_class args refl r

  rest_message : (acts : List (Act FlatBody)) (st : State) (selector : ℕ) (array : Value) → Rest acts st → Rest acts (record st { store = with_message selector array st.store })
  unfolding with_message
  rest_message acts st selector array r = rest_new acts st message_class (Symbol selector ∷ array ∷ []) refl r

  -- a body that is opened is of the class that its code is written in
  abbrev pub OpeningWritten : Opening → Type 0
  OpeningWritten x = x.class ≡ (body_at p x.code).class

  -- self is of the class behind which a send to super looks
  abbrev pub SuperIs : Store → Use → Type 0
  SuperIs s (SuperTo class selector x args env) = IsOf p s x class
  SuperIs s u = Unit {0}

  -- ---- charges

  step_sound : (st : State) (m : Mach FlatBody) (k : State → Mach FlatBody) → MachSound p m → ((n : ℕ) → MachSound p (k (record st { steps = n }))) → MachSound p (charged (step_made p st) m k)
  unfolding step_made
  step_sound st m k stop on = go (nat_lt st.steps p.step_limit)
    where
      go : (c : Bool) → MachSound p (charged (if c then Some (record st { steps = st.steps + 1 }) else None) m k)
      go true = on _
      go false = stop

  stood_sound : (standing : List Mark) (st : State) (m : Mach FlatBody) (k : State → Mach FlatBody) → MachSound p m → ((d n : ℕ) → MachSound p (k (record st { depth = d; next = n }))) → MachSound p (charged (stood p standing st) m k)
  unfolding stood
  stood_sound standing st m k stop on = go (nat_le (length standing + 1) p.depth_limit)
    where
      go : (c : Bool) → MachSound p (charged (if c then Some (record st { depth = max st.depth (length standing + 1); next = st.next + 1 }) else None) m k)
      go true = on _ _
      go false = stop

  pub used_sound : (cells : ℕ) (st : State) (m : Mach FlatBody) (k : State → Mach FlatBody) → MachSound p m → ((c : ℕ) → MachSound p (k (record st { cells = c }))) → MachSound p (charged (used p cells st) m k)
  unfolding used
  used_sound cells st m k stop on = go (nat_le (st.cells + cells) p.cell_limit)
    where
      go : (c : Bool) → MachSound p (charged (if c then Some (record st { cells = st.cells + cells }) else None) m k)
      go true = on _
      go false = stop

module _ (p : Program) (classes : KnowsClasses p) (knows : KnowsCollections p) where
  abbrev F : Bodies FlatBody
  F = flat_of p

  abbrev M : List (Act FlatBody) → List Mark
  M acts = marks flat_number acts

  abbrev R : List (Act FlatBody) → State → Type 0
  R acts st = Rest p acts st

  module _ (opens : (x : Opening) (acts : List (Act FlatBody)) (st : State) → R acts st → OpeningWritten p x → MachSound p (Run (F.opened_body x st.store) acts (with_store st (F.opened_store x st.store)))) where
    pub open_sound : (x : Opening) (acts : List (Act FlatBody)) (st : State) → R acts st → OpeningWritten p x → MachSound p (open_act F p x acts st)
    open_sound x acts st r o = stood_sound p (M acts) st _ _ r (λ d n. used_sound p (scope_cells (body_at p x.code)) _ _ _ r (λ c. opens x acts (record st { depth = d; next = n; cells = c }) r o))

    raise_sound : (live : Bool) (e : ℕ) (env : Env) (acts : List (Act FlatBody)) (st : State) → R acts st → MachSound p (raise_act F p live e env acts st)
    raise_sound true e env acts st r = (r.0, refl, r.1)
    raise_sound false e env acts st r = stood_sound p (M acts) st _ _ r (λ d n. (r.0, tt, r.1))

    raise_new_sound : (c : ℕ) (slots : List Value) (env : Env) (acts : List (Act FlatBody)) (st : State) → is_free c ≡ true → R acts st → MachSound p (raise_new_act F p c slots env acts st)
    raise_new_sound c slots env acts st f r =
        let y = rest_exception p acts st c slots f r in
        stood_sound p (M acts) st _ _ r (λ d i. used_sound p (exception_cells p c) _ _ _ r (λ u. (y.0, tt, y.1)))

    tried_sound : (a : Bool) (x : Search) (entry : Entry) (rest : Env) (acts : List (Act FlatBody)) (st : State) → R acts st → MachSound p (tried_act F p a x entry rest acts st)
    tried_sound true x entry rest acts st r = (r.0, tt, r.1)
    tried_sound false x entry rest acts st r = (r.0, tt, r.1)

    judged_sound : (a : Bool) (x : Search) (entry : Entry) (rest : Env) (acts : List (Act FlatBody)) (st : State) → R acts st → MachSound p (judged_act F p a x entry rest acts st)
    judged_sound true x entry rest acts st r = tried_sound (fits p st.store entry.selector (object_at x.exception st.store).class) x entry rest acts st r
    judged_sound false x entry rest acts st r = stood_sound p (M acts) st _ _ r (λ d n. (r.0, tt, (tt, r.1)))

    search_sound : (x : Search) (rest : Env) (acts : List (Act FlatBody)) (st : State) → R acts st → MachSound p (search_act F p x rest acts st)
    search_sound x [] acts st r = (r.0, tt, r.1)
    search_sound x (entry ∷ rest) acts st r = judged_sound (is_plain p st.store entry.selector) x entry rest acts st r

    handler_sound : (s : Store) (o : Option Closure) (handler : Value) (e : ℕ) (env : Env) → WrittenOrNone p o → UseSound p s (handler_by o handler e env)
    handler_sound s None handler e env g = tt
    handler_sound s (Some c) handler e env g = g

    turn_sound : (a : Bool) (x : Search) (entry : Option Entry) (outside : Env) (acts : List (Act FlatBody)) (st : State) → R acts st → MachSound p (turn_act F p a x entry outside acts st)
    turn_sound true x None outside acts st r = r
    turn_sound true x (Some entry) outside acts st r = r
    turn_sound false x None outside acts st r = stood_sound p (M acts) st _ _ r (λ d n. (r.0, tt, (tt, r.1)))
    turn_sound false x (Some entry) outside acts st r =
        stood_sound p (M acts) st _ _ r (λ d n. (r.0, handler_sound st.store (closure_for p st.store entry.handler 0) entry.handler x.exception outside (closure_for_sound p st.store r.0.0 r.0.1 entry.handler 0), (tt, r.1)))

    asked_sound : (a : Bool) (w : Wait) (k : ℕ) (t : Turn) (env : Env) (acts : List (Act FlatBody)) (st : State) → R acts st → MachSound p (asked_act F p a w k t env acts st)
    asked_sound true (ToResume v) k t env acts st r = r
    asked_sound false (ToResume v) k t env acts st r = (r.0, refl, r.1)
    asked_sound true ToOuter k t env acts st r = stood_sound p (M acts) st _ _ r (λ d n. (r.0, tt, (tt, r.1)))
    asked_sound false ToOuter k t env acts st r = (r.0, tt, r.1)

    resignal_sound : (a live : Bool) (t : Turn) (f : ℕ) (v : Value) (env : Env) (acts : List (Act FlatBody)) (st : State) → R acts st → MachSound p (resignal_act F p a live t f v env acts st)
    resignal_sound false live t f v env acts st r = (r.0, refl, r.1)
    resignal_sound true true t f v env acts st r = (r.0, refl, r.1)
    resignal_sound true false t f v env acts st r = r

    resignal_as_sound : (t : Turn) (v : Value) (env : Env) (acts : List (Act FlatBody)) (st : State) → R acts st → MachSound p (resignal_as_act F p t v env acts st)
    resignal_as_sound t (Object f) env acts st r = resignal_sound (is_exception p st.store (Object f)) (is_live f (M acts)) t f (Object f) env acts st r
    resignal_as_sound t v env acts st r = (r.0, refl, r.1)

    control_by_sound : (c : Control) (v : Value) (k : ℕ) (t : Turn) (entry : Entry) (env : Env) (acts : List (Act FlatBody)) (st : State) → R acts st → MachSound p (control_by_act F p c v k t entry env acts st)
    control_by_sound Control.Return v k t entry env acts st r = r
    control_by_sound Control.Retry v k t entry env acts st r = r
    control_by_sound Control.RetryUsing v k t entry env acts st r = r
    control_by_sound Control.Resume v k t entry env acts st r = (r.0, tt, r.1)
    control_by_sound Control.Pass v k t entry env acts st r = (r.0, tt, r.1)
    control_by_sound Control.Outer v k t entry env acts st r = (r.0, tt, r.1)
    control_by_sound Control.ResignalAs v k t entry env acts st r = resignal_as_sound t v env acts st r
    control_by_sound Control.IsNested v k t entry env acts st r = (r.0, tt, r.1)

    control_without_sound : (c : Control) (v : Value) (k : ℕ) (t : Turn) (env : Env) (acts : List (Act FlatBody)) (st : State) → R acts st → MachSound p (control_without_act F p c v k t env acts st)
    control_without_sound Control.Resume v k t env acts st r = (r.0, tt, r.1)
    control_without_sound c v k t env acts st r = (r.0, refl, r.1)

    control_in_sound : (entry : Option Entry) (c : Control) (v : Value) (k : ℕ) (t : Turn) (env : Env) (acts : List (Act FlatBody)) (st : State) → R acts st → MachSound p (control_in_act F p entry c v k t env acts st)
    control_in_sound (Some entry) c v k t env acts st r = control_by_sound c v k t entry env acts st r
    control_in_sound None c v k t env acts st r = control_without_sound c v k t env acts st r

    control_sound : (f : FoundTurn) (c : Control) (v : Value) (env : Env) (acts : List (Act FlatBody)) (st : State) → R acts st → MachSound p (control_act F p f c v env acts st)
    control_sound NoTurn c v env acts st r = (r.0, refl, r.1)
    control_sound (TurnAt k t) c v env acts st r = control_in_sound t.entry c v k t env acts st r

    -- ---- loops, and what a message does at once

    visit_sound : (n : ℕ) (v : Visit) (env : Env) (acts : List (Act FlatBody)) (st : State) → VisitHas st.store v → VisitSound st.store v → R acts st → MachSound p (visit_act F p n v env acts st)
    visit_sound n (Applies l v args) env acts st g f r = (r.0, tt, (f, r.1))
    visit_sound n (Compares l x v) env acts st g f r = (r.0, tt, (f, r.1))
    visit_sound n (Finishes v) env acts st g f r = r
    visit_sound n (Lacks l) env acts st g f r = (r.0, refl, (f, r.1))
    visit_sound n (Charges cells s v) env acts st g f r =
        used_sound p cells st _ _ r (λ c. visit_sound n v env acts (record st { cells = c; store = s }) g.1 f.1 (rest_grown p acts st s g.0 f.0 r))

    missed_sound : (selector : ℕ) (x : Value) (args : List Value) (env : Env) (acts : List (Act FlatBody)) (st : State) → R acts st → MachSound p (perform_act F p (Misses selector x args) env acts st)
    missed_sound selector x args env acts st r =
        let r1 = rest_arguments p acts st args r in
        let r2 = rest_message p acts (record st { store = with_arguments args st.store }) selector (next_object st.store) r1 in
        used_sound p (1 + length args) st _ _ r (λ c. used_sound p 3 _ _ _ r1 (λ d. (r2.0, tt, r2.1)))

    perform_sound : (a : Action) (env : Env) (acts : List (Act FlatBody)) (st : State) → ActionHas st.store a → R acts st → ActionSound p st.store a → MachSound p (perform_act F p a env acts st)
    perform_sound (Gives v) env acts st g r f = r
    perform_sound (Changes s v) env acts st g r f = rest_grown p acts st s g.0 f r
    perform_sound (Makes cells s v) env acts st g r f = used_sound p cells st _ _ r (λ c. rest_made p acts (record st { cells = c }) s g.0 f r)
    perform_sound (Writes text v) env acts st g r f = r
    perform_sound (Fails trouble) env acts st g r f = (r.0, refl, r.1)
    perform_sound (DividesByZero dividend) env acts st g r f = (r.0, refl, r.1)
    perform_sound PassesIntegers env acts st g r f = r
    perform_sound (Begins v args) env acts st g r f = (r.0, tt, r.1)
    perform_sound (Activates c args) env acts st g r f = (r.0, f, r.1)
    perform_sound (Sends selector x args) env acts st g r f = (r.0, tt, r.1)
    perform_sound (Misses selector x args) env acts st g r f = missed_sound selector x args env acts st r
    perform_sound (Enters code x args) env acts st g r f = (r.0, tt, r.1)
    perform_sound (Guards receiver selector handler) env acts st g r f = stood_sound p (M acts) st _ _ r (λ d n. (r.0, tt, r.1))
    perform_sound (Ensures receiver block) env acts st g r f = stood_sound p (M acts) st _ _ r (λ d n. (r.0, tt, (tt, r.1)))
    perform_sound (Curtails receiver block) env acts st g r f = stood_sound p (M acts) st _ _ r (λ d n. (r.0, tt, (tt, r.1)))
    perform_sound (Iterates l) env acts st g r f = stood_sound p (M acts) st _ _ r (λ d n. (r.0, (first_visit_sound p st.store r.0.0 l f).sound, r.1))
    perform_sound (Raises s x) env acts st g r f = let y = rest_grown p acts st s g.0 f r in (y.0, tt, y.1)
    perform_sound (RaisesNew class slots) env acts st g r f = (r.0, f, r.1)
    perform_sound (Controls c x v) env acts st g r f = control_sound (turn_of x (M acts)) c v env acts st r
    perform_sound (Terminates v) env acts st g r f = r

    -- ---- the beginning of a use

    apply_sound : (s : Store) (o : Option Closure) (v : Value) (args : List Value) (env : Env) → WrittenOrNone p o → UseSound p s (apply_by p o v args env)
    apply_sound s None v args env g = tt
    apply_sound s (Some c) v args env g = g

    pub begin_sound : (u : Use) (acts : List (Act FlatBody)) (st : State) → UseHas st.store u → SuperIs p st.store u → R acts st → UseSound p st.store u → MachSound p (begin F p u acts st)
    begin_sound (Apply v args env) acts st u i r f = (r.0, apply_sound st.store (closure_for p st.store v (length args)) v args env (closure_for_sound p st.store r.0.0 r.0.1 v (length args)), r.1)
    begin_sound (Activate c args env) acts st u i r f = step_sound p st _ _ r (λ n. open_sound (block_opening c args env st.next) acts (record st { steps = n }) r f)
    begin_sound (Enter code x args env) acts st u i r f = open_sound (method_opening p code x args env st.next) acts st r refl
    begin_sound (SendTo selector x args env) acts st u i r f = step_sound p st _ _ r (λ n. (r.0, send_sound p st.store r.0.0 r.0.1 knows selector x args, r.1))
    begin_sound (SuperTo class selector x args env) acts st u i r f = step_sound p st _ _ r (λ n. (r.0, super_sound p st.store r.0.0 r.0.1 knows classes class selector x args i, r.1))
    begin_sound (Perform a env) acts st u i r f = perform_sound a env acts st u.0 r f
    begin_sound (Raise e env) acts st u i r f = raise_sound (is_live e (M acts)) e env acts st r
    begin_sound (RaiseNew class slots env) acts st u i r f = raise_new_sound class slots env acts st f r
    begin_sound (SignalPoint n e env) acts st u i r f = (r.0, tt, (tt, r.1))
    begin_sound (Resignaled n e x env) acts st u i r f = (r.0, tt, (tt, r.1))
    begin_sound (SearchIn x rest) acts st u i r f = search_sound x rest acts st r
    begin_sound (TurnBy x entry outside) acts st u i r f = turn_sound (asks_nested x) x entry outside acts st r
    begin_sound (Ask w k t env) acts st u i r f = stood_sound p (M acts) st _ _ r (λ d n. (r.0, tt, (tt, r.1)))
    begin_sound (Protect receiver entry env) acts st u i r f = (r.0, tt, (tt, r.1))
    begin_sound (Finish n block held env) acts st u i r f = (r.0, tt, (tt, r.1))
    begin_sound (VisitBy n v env) acts st u i r f = visit_sound n v env acts st u.0 f r
    begin_sound (RunBody x env) acts st u i r f = r.0

    -- ---- an outcome at an activation

    ended_sound : (n : ℕ) (o : Outcome) (acts : List (Act FlatBody)) (st : State) → R acts st → MachSound p (Settle o acts (ended n o st))
    ended_sound n (Answer v) acts st r = r
    ended_sound n (Go t v) acts st r = r
    ended_sound n (Stop l) acts st r = r

    protect_sound : (d : Verdict) (entry : Entry) (env : Env) (acts : List (Act FlatBody)) (st : State) → R acts st → MachSound p (protect_verdict F p d entry env acts st)
    protect_sound (Leaves o) entry env acts st r = ended_sound entry.number o acts st r
    protect_sound (Again receiver) entry env acts st r = (r.0, tt, r.1)

    signal_sound : (n e : ℕ) (d : SignalVerdict) (env : Env) (acts : List (Act FlatBody)) (st : State) → R acts st → MachSound p (signal_verdict F p n e d env acts st)
    signal_sound n e (Ends o) env acts st r = ended_sound n o acts st r
    signal_sound n e (Signals f) env acts st r = (r.0, tt, r.1)

    give_sound : (v : Value) (a : Act FlatBody) (acts : List (Act FlatBody)) (st : State) → R (a ∷ acts) st → MachSound p (give F p v a acts st)
    give_sound v (BodyAct x) acts st r = (r.0, r.1.0, r.1.1)
    give_sound v (Leaving x) acts st r = (r.0, r.1.1)
    give_sound v (ProtectAct receiver entry env) acts st r = protect_sound (protect_end entry.number receiver (Answer v)) entry env acts st (r.0, r.1.1)
    give_sound v (EnsureOn n block env) acts st r = (r.0, tt, r.1.1)
    give_sound v (CurtailOn n block env) acts st r = (r.0, r.1.1)
    give_sound v (ActionOff n held) acts st r = ended_sound n held acts st (r.0, r.1.1)
    give_sound v (SignalAct n e env) acts st r = signal_sound n e (signal_end n (Answer v)) env acts st (r.0, r.1.1)
    give_sound v (HandlerRun n t) acts st r = ended_sound n (turn_end t (M acts) (Answer v)) acts st (r.0, r.1.1)
    give_sound v (OuterAct n) acts st r = (r.0, r.1.1)
    give_sound v (ResumeWait n w k t env) acts st r = asked_sound (is_true v) w k t env acts st (r.0, r.1.1)
    give_sound v (HandlesWait n x entry rest) acts st r = tried_sound (is_true v) x entry rest acts (ended n (Answer v) st) (r.0, r.1.1)
    give_sound v (LoopAct n l env) acts st r = (r.0, (next_visit_sound p st.store r.0.0 l v r.1.0).sound, r.1.1)

    unwind_sound : (t : Target) (v : Value) (a : Act FlatBody) (acts : List (Act FlatBody)) (st : State) → R (a ∷ acts) st → MachSound p (unwind F p t v a acts st)
    unwind_sound t v (BodyAct x) acts st r = (r.0, r.1.1)
    unwind_sound t v (Leaving x) acts st r = (r.0, r.1.1)
    unwind_sound t v (ProtectAct receiver entry env) acts st r = protect_sound (protect_end entry.number receiver (Go t v)) entry env acts st (r.0, r.1.1)
    unwind_sound t v (EnsureOn n block env) acts st r = (r.0, tt, r.1.1)
    unwind_sound t v (CurtailOn n block env) acts st r = (r.0, tt, r.1.1)
    unwind_sound t v (ActionOff n held) acts st r = (r.0, r.1.1)
    unwind_sound t v (SignalAct n e env) acts st r = signal_sound n e (signal_end n (Go t v)) env acts st (r.0, r.1.1)
    unwind_sound t v (HandlerRun n turn) acts st r = (r.0, r.1.1)
    unwind_sound t v (OuterAct n) acts st r = ended_sound n (outer_end n (Go t v)) acts st (r.0, r.1.1)
    unwind_sound t v (ResumeWait n w k turn env) acts st r = (r.0, r.1.1)
    unwind_sound t v (HandlesWait n x entry rest) acts st r = (r.0, r.1.1)
    unwind_sound t v (LoopAct n l env) acts st r = (r.0, r.1.1)

    pub settle_sound : (o : Outcome) (acts : List (Act FlatBody)) (st : State) → R acts st → MachSound p (step F p (Settle o acts st))
    settle_sound (Answer v) [] st r = r.0
    settle_sound (Answer v) (a ∷ acts) st r = give_sound v a acts st r
    settle_sound (Go t v) [] st r = r.0
    settle_sound (Go t v) (a ∷ acts) st r = unwind_sound t v a acts st r
    settle_sound (Stop l) acts st r = r.0
