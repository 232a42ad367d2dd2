-- Objects stay built: a law for each small step of the flat machine.
use Rattle.std.proofs.Common.{◌≡◌, ℕ, ◌+◌, ◌-◌, ◌≤◌, ◌<◌, max, take, replicate, get_or, length, List, [], ◌∷◌, Option, Some, None, Bool, true, false, refl, ap, arith, nat_lt, nat_le, if◌then◌else◌, ◌++◌, zero, suc}
use Rattle.std.proofs.lemmas.List.{length-append}
use Rattle.object_heap.specs.declared.value.Value.{Value}
use Rattle.object_heap.specs.declared.value.Value.TheVariants.{Nil, Symbol, Object}
use Rattle.object_heap.specs.declared.value.Closure.{Closure}
use Rattle.object_heap.specs.Store.{Store, Object as HeapObject, no_object, object_at}
use Rattle.st_code.specs.BuiltIns.{array_class, message_class}
use Rattle.st_code.specs.Lookup.{is_plain, fits, is_exception}
use Rattle.st_code.specs.Messages.{Control}
use Rattle.st_code.specs.Program.{Program, body_at, class_at}
use Rattle.st_collections.specs.Actions.{Action, Gives, Changes, Makes, Writes, Fails, DividesByZero, PassesIntegers, Begins, Activates, Sends, Misses, Enters, Guards, Ensures, Curtails, Iterates, Raises, RaisesNew, Controls, Terminates, Visit, Applies, Compares, Finishes, Lacks, Charges, next_object, new_object, with_new}
use Rattle.st_collections.specs.Kinds.{is_true}
use Rattle.st_rules.specs.Ends.{charged, ended, with_arguments, with_message, Opening, block_opening, method_opening, turn_end, outer_end, SignalVerdict, Ends, Signals, signal_end, Verdict, Leaves, Again, protect_end, Search, asks_nested, Wait, ToResume, ToOuter}
use Rattle.st_rules.specs.Flat.{FlatBody, flat_number}
use Rattle.st_rules.specs.Flattened.{flat_of}
use Rattle.st_rules.specs.Machine.{Act, BodyAct, Leaving, ProtectAct, EnsureOn, CurtailOn, ActionOff, SignalAct, HandlerRun, OuterAct, ResumeWait, HandlesWait, LoopAct, Mach, Run, Settle, Begin, Over, Stuck, Bodies, marks, open_act, raise_act, raise_new_act, tried_act, judged_act, search_act, turn_act, asked_act, resignal_act, resignal_as_act, control_by_act, control_without_act, control_in_act, control_act, visit_act, perform_act, begin, protect_verdict, signal_verdict, give, unwind, step}
use Rattle.st_rules.specs.Rules.{Use, Apply, Activate, Enter, SendTo, SuperTo, Perform, Raise, RaiseNew, SignalPoint, Resignaled, SearchIn, TurnBy, Ask, Protect, Finish, VisitBy, RunBody, closure_for, apply_by, handler_by, exception_slots, with_exception, exception_cells}
use Rattle.st_rules.specs.Selves.{KnowsClasses}
use Rattle.st_rules.specs.State.{State, Entry, Env, Target, Outcome, Answer, Go, Stop, Turn, Mark, FoundTurn, NoTurn, TurnAt, turn_of, is_live, step_made, stood, used, scope_cells}
use Rattle.st_sound.specs.KnownCollections.{KnowsCollections}
use Rattle.st_sound.specs.SoundActions.{ActionSound}
use Rattle.st_sound.specs.SoundRun.{UseSound, ActSound, ActsSound}
use Rattle.st_sound.proofs.SoundMachine.{SuperIs}
use Rattle.law_values.specs.BuiltObjects.{BuiltStore}
use Rattle.law_values.specs.KnownBuilt.{KnowsBuilt}
use Rattle.law_values.proofs.BuiltActions.{VisitBuilt, ActionBuilt}
use Rattle.law_values.proofs.BuiltObjects.{is_bound, free_object, unbound_object, built_new, new_message}
use Rattle.law_values.proofs.BuiltRows.{not_false}
use Rattle.law_values.proofs.BuiltSends.{send_built, super_built}
use Rattle.law_values.proofs.BuiltTable.{is_open}
use Rattle.law_values.proofs.BuiltVisits.{first_visit_built, next_visit_built}

module _ (p : Program) where
  -- ---- states

  abbrev pub UseBuilt : Use → Type 0
  UseBuilt (Perform a env) = ActionBuilt p a
  UseBuilt (RaiseNew class slots env) = (is_open class ≡ true) × (class < length p.classes)
  UseBuilt (VisitBy n v env) = VisitBuilt p v
  UseBuilt u = Unit {0}

  abbrev pub MachBuilt : Mach FlatBody → Type 0
  MachBuilt (Run x acts st) = BuiltStore p st.store
  MachBuilt (Settle o acts st) = BuiltStore p st.store
  MachBuilt (Begin u acts st) = BuiltStore p st.store × UseBuilt u
  MachBuilt (Over o st) = BuiltStore p st.store
  MachBuilt (Stuck st) = BuiltStore p st.store

  -- ---- new objects

  taken : (k : ℕ) (xs : List Value) → k ≤ length xs → length (take k xs) ≡ k
  taken zero xs l = refl
  taken (suc k) [] l = let none : ⊥ = omega (arith, l) in absurd none
  taken (suc k) (x ∷ xs) l = ap suc (taken k xs (omega (arith, l)))

  nils : (n : ℕ) → length (replicate n Nil) ≡ n
  nils zero = refl
  nils (suc n) = ap suc (nils n)

  exception_length : (c : ℕ) (slots : List Value) → length (exception_slots p c slots) ≡ (class_at p c).slots
  unfolding exception_slots
  exception_length c slots =
      let n = (class_at p c).slots in
      let a = length-append slots (replicate (n - length slots) Nil) in
      let b = nils (n - length slots) in
      taken n (slots ++ replicate (n - length slots) Nil) (omega (arith, a, b))

  exception_built : (s : Store) (c : ℕ) (slots : List Value) → (is_open c ≡ true) × (c < length p.classes) → BuiltStore p s → BuiltStore p (with_exception p c slots s)
  unfolding with_exception
  exception_built s c slots f r = built_new p s c (exception_slots p c slots) [] r (unbound_object p s _ (not_false (is_bound c) f.0) refl (λ e. exception_length c slots) f.1)

  arguments_built : (known : KnowsBuilt p) (s : Store) (args : List Value) → BuiltStore p s → BuiltStore p (with_arguments args s)
  unfolding with_arguments
  arguments_built known s args r = built_new p s array_class args [] r (free_object p s _ refl refl (omega (arith, known.classes)))

  last_read : (os : List HeapObject) (o : HeapObject) → get_or (os ++ o ∷ []) (length os) no_object ≡ o
  last_read [] o = refl
  last_read (q ∷ os) o = last_read os o

  array_last : (s : Store) (args : List Value) → (object_at (length s.objects) (with_arguments args s)).class ≡ array_class
  unfolding with_arguments with_new
  array_last s args = ap (λ (o : HeapObject). o.class) (last_read s.objects (new_object array_class args []))

  message_built : (known : KnowsBuilt p) (s : Store) (selector : ℕ) (args : List Value) → BuiltStore p s → BuiltStore p (with_message selector (next_object s) (with_arguments args s))
  unfolding with_message
  message_built known s selector args r =
      let t = with_arguments args s in
      built_new p t message_class (Symbol selector ∷ next_object s ∷ []) [] (arguments_built known s args r) (new_message p known t selector (length s.objects) (array_last s args))

  -- ---- charges

  step_built : (st : State) (m : Mach FlatBody) (k : State → Mach FlatBody) → MachBuilt m → ((n : ℕ) → MachBuilt (k (record st { steps = n }))) → MachBuilt (charged (step_made p st) m k)
  unfolding step_made
  step_built st m k stop on = go (nat_lt st.steps p.step_limit)
    where
      go : (c : Bool) → MachBuilt (charged (if c then Some (record st { steps = st.steps + 1 }) else None) m k)
      go true = on _
      go false = stop

  stood_built : (standing : List Mark) (st : State) (m : Mach FlatBody) (k : State → Mach FlatBody) → MachBuilt m → ((d n : ℕ) → MachBuilt (k (record st { depth = d; next = n }))) → MachBuilt (charged (stood p standing st) m k)
  unfolding stood
  stood_built standing st m k stop on = go (nat_le (length standing + 1) p.depth_limit)
    where
      go : (c : Bool) → MachBuilt (charged (if c then Some (record st { depth = max st.depth (length standing + 1); next = st.next + 1 }) else None) m k)
      go true = on _ _
      go false = stop

  pub used_built : (cells : ℕ) (st : State) (m : Mach FlatBody) (k : State → Mach FlatBody) → MachBuilt m → ((c : ℕ) → MachBuilt (k (record st { cells = c }))) → MachBuilt (charged (used p cells st) m k)
  unfolding used
  used_built cells st m k stop on = go (nat_le (st.cells + cells) p.cell_limit)
    where
      go : (c : Bool) → MachBuilt (charged (if c then Some (record st { cells = st.cells + cells }) else None) m k)
      go true = on _
      go false = stop

module _ (p : Program) (classes : KnowsClasses p) (knows : KnowsCollections p) (known : KnowsBuilt p) where
  abbrev F : Bodies FlatBody
  F = flat_of p

  abbrev M : List (Act FlatBody) → List Mark
  M acts = marks flat_number acts

  module _ (opens : (x : Opening) (st : State) → BuiltStore p st.store → BuiltStore p (F.opened_store x st.store)) where
    pub open_built : (x : Opening) (acts : List (Act FlatBody)) (st : State) → BuiltStore p st.store → MachBuilt p (open_act F p x acts st)
    open_built x acts st r = stood_built p (M acts) st _ _ r (λ d n. used_built p (scope_cells (body_at p x.code)) _ _ _ r (λ c. opens x (record st { depth = d; next = n; cells = c }) r))

    raise_built : (live : Bool) (e : ℕ) (env : Env) (acts : List (Act FlatBody)) (st : State) → BuiltStore p st.store → MachBuilt p (raise_act F p live e env acts st)
    raise_built true e env acts st r = (r, (refl, omega (arith, known.classes)))
    raise_built false e env acts st r = stood_built p (M acts) st _ _ r (λ d n. (r, tt))

    raise_new_built : (c : ℕ) (slots : List Value) (env : Env) (acts : List (Act FlatBody)) (st : State) → (is_open c ≡ true) × (c < length p.classes) → BuiltStore p st.store → MachBuilt p (raise_new_act F p c slots env acts st)
    raise_new_built c slots env acts st f r =
        let y = exception_built p st.store c slots f r in
        stood_built p (M acts) st _ _ r (λ d i. used_built p (exception_cells p c) _ _ _ r (λ u. (y, tt)))

    tried_built : (a : Bool) (x : Search) (entry : Entry) (rest : Env) (acts : List (Act FlatBody)) (st : State) → BuiltStore p st.store → MachBuilt p (tried_act F p a x entry rest acts st)
    tried_built true x entry rest acts st r = (r, tt)
    tried_built false x entry rest acts st r = (r, tt)

    judged_built : (a : Bool) (x : Search) (entry : Entry) (rest : Env) (acts : List (Act FlatBody)) (st : State) → BuiltStore p st.store → MachBuilt p (judged_act F p a x entry rest acts st)
    judged_built true x entry rest acts st r = tried_built (fits p st.store entry.selector (object_at x.exception st.store).class) x entry rest acts st r
    judged_built false x entry rest acts st r = stood_built p (M acts) st _ _ r (λ d n. (r, tt))

    search_built : (x : Search) (rest : Env) (acts : List (Act FlatBody)) (st : State) → BuiltStore p st.store → MachBuilt p (search_act F p x rest acts st)
    search_built x [] acts st r = (r, tt)
    search_built x (entry ∷ rest) acts st r = judged_built (is_plain p st.store entry.selector) x entry rest acts st r

    handler_built : (o : Option Closure) (handler : Value) (e : ℕ) (env : Env) → UseBuilt p (handler_by o handler e env)
    handler_built None handler e env = tt
    handler_built (Some c) handler e env = tt

    turn_built : (a : Bool) (x : Search) (entry : Option Entry) (outside : Env) (acts : List (Act FlatBody)) (st : State) → BuiltStore p st.store → MachBuilt p (turn_act F p a x entry outside acts st)
    turn_built true x None outside acts st r = r
    turn_built true x (Some entry) outside acts st r = r
    turn_built false x None outside acts st r = stood_built p (M acts) st _ _ r (λ d n. (r, tt))
    turn_built false x (Some entry) outside acts st r =
        stood_built p (M acts) st _ _ r (λ d n. (r, handler_built (closure_for p st.store entry.handler 0) entry.handler x.exception outside))

    asked_built : (a : Bool) (w : Wait) (k : ℕ) (t : Turn) (env : Env) (acts : List (Act FlatBody)) (st : State) → BuiltStore p st.store → MachBuilt p (asked_act F p a w k t env acts st)
    asked_built true (ToResume v) k t env acts st r = r
    asked_built false (ToResume v) k t env acts st r = (r, (refl, omega (arith, known.classes)))
    asked_built true ToOuter k t env acts st r = stood_built p (M acts) st _ _ r (λ d n. (r, tt))
    asked_built false ToOuter k t env acts st r = (r, tt)

    resignal_built : (a live : Bool) (t : Turn) (f : ℕ) (v : Value) (env : Env) (acts : List (Act FlatBody)) (st : State) → BuiltStore p st.store → MachBuilt p (resignal_act F p a live t f v env acts st)
    resignal_built false live t f v env acts st r = (r, (refl, omega (arith, known.classes)))
    resignal_built true true t f v env acts st r = (r, (refl, omega (arith, known.classes)))
    resignal_built true false t f v env acts st r = r

    resignal_as_built : (t : Turn) (v : Value) (env : Env) (acts : List (Act FlatBody)) (st : State) → BuiltStore p st.store → MachBuilt p (resignal_as_act F p t v env acts st)
    resignal_as_built t (Object f) env acts st r = resignal_built (is_exception p st.store (Object f)) (is_live f (M acts)) t f (Object f) env acts st r
    resignal_as_built t v env acts st r = (r, (refl, omega (arith, known.classes)))

    control_by_built : (c : Control) (v : Value) (k : ℕ) (t : Turn) (entry : Entry) (env : Env) (acts : List (Act FlatBody)) (st : State) → BuiltStore p st.store → MachBuilt p (control_by_act F p c v k t entry env acts st)
    control_by_built Control.Return v k t entry env acts st r = r
    control_by_built Control.Retry v k t entry env acts st r = r
    control_by_built Control.RetryUsing v k t entry env acts st r = r
    control_by_built Control.Resume v k t entry env acts st r = (r, tt)
    control_by_built Control.Pass v k t entry env acts st r = (r, tt)
    control_by_built Control.Outer v k t entry env acts st r = (r, tt)
    control_by_built Control.ResignalAs v k t entry env acts st r = resignal_as_built t v env acts st r
    control_by_built Control.IsNested v k t entry env acts st r = (r, tt)

    control_without_built : (c : Control) (v : Value) (k : ℕ) (t : Turn) (env : Env) (acts : List (Act FlatBody)) (st : State) → BuiltStore p st.store → MachBuilt p (control_without_act F p c v k t env acts st)
    control_without_built Control.Resume v k t env acts st r = (r, tt)
    control_without_built c v k t env acts st r = (r, (refl, omega (arith, known.classes)))

    control_in_built : (entry : Option Entry) (c : Control) (v : Value) (k : ℕ) (t : Turn) (env : Env) (acts : List (Act FlatBody)) (st : State) → BuiltStore p st.store → MachBuilt p (control_in_act F p entry c v k t env acts st)
    control_in_built (Some entry) c v k t env acts st r = control_by_built c v k t entry env acts st r
    control_in_built None c v k t env acts st r = control_without_built c v k t env acts st r

    control_built : (f : FoundTurn) (c : Control) (v : Value) (env : Env) (acts : List (Act FlatBody)) (st : State) → BuiltStore p st.store → MachBuilt p (control_act F p f c v env acts st)
    control_built NoTurn c v env acts st r = (r, (refl, omega (arith, known.classes)))
    control_built (TurnAt k t) c v env acts st r = control_in_built t.entry c v k t env acts st r

    -- ---- loops, and what a message does at once

    visit_built : (n : ℕ) (v : Visit) (env : Env) (acts : List (Act FlatBody)) (st : State) → VisitBuilt p v → BuiltStore p st.store → MachBuilt p (visit_act F p n v env acts st)
    visit_built n (Applies l v args) env acts st f r = (r, tt)
    visit_built n (Compares l x v) env acts st f r = (r, tt)
    visit_built n (Finishes v) env acts st f r = r
    visit_built n (Lacks l) env acts st f r = (r, (refl, omega (arith, known.classes)))
    visit_built n (Charges cells s v) env acts st f r = used_built p cells st _ _ r (λ c. visit_built n v env acts (record st { cells = c; store = s }) f.1 f.0)

    missed_built : (selector : ℕ) (x : Value) (args : List Value) (env : Env) (acts : List (Act FlatBody)) (st : State) → BuiltStore p st.store → MachBuilt p (perform_act F p (Misses selector x args) env acts st)
    missed_built selector x args env acts st r =
        used_built p (1 + length args) st _ _ r (λ c. used_built p 3 _ _ _ (arguments_built p known st.store args r) (λ d. (message_built p known st.store selector args r, tt)))

    perform_built : (a : Action) (env : Env) (acts : List (Act FlatBody)) (st : State) → ActionSound p st.store a → BuiltStore p st.store → ActionBuilt p a → MachBuilt p (perform_act F p a env acts st)
    perform_built (Gives v) env acts st g r f = r
    perform_built (Changes s v) env acts st g r f = f
    perform_built (Makes cells s v) env acts st g r f = used_built p cells st _ _ r (λ c. f)
    perform_built (Writes text v) env acts st g r f = r
    perform_built (Fails trouble) env acts st g r f = (r, (refl, omega (arith, known.classes)))
    perform_built (DividesByZero dividend) env acts st g r f = (r, (refl, omega (arith, known.classes)))
    perform_built PassesIntegers env acts st g r f = r
    perform_built (Begins v args) env acts st g r f = (r, tt)
    perform_built (Activates c args) env acts st g r f = (r, tt)
    perform_built (Sends selector x args) env acts st g r f = (r, tt)
    perform_built (Misses selector x args) env acts st g r f = missed_built selector x args env acts st r
    perform_built (Enters code x args) env acts st g r f = (r, tt)
    perform_built (Guards receiver selector handler) env acts st g r f = stood_built p (M acts) st _ _ r (λ d n. (r, tt))
    perform_built (Ensures receiver block) env acts st g r f = stood_built p (M acts) st _ _ r (λ d n. (r, tt))
    perform_built (Curtails receiver block) env acts st g r f = stood_built p (M acts) st _ _ r (λ d n. (r, tt))
    perform_built (Iterates l) env acts st g r f = stood_built p (M acts) st _ _ r (λ d n. (r, (first_visit_built p known st.store r l g).built))
    perform_built (Raises s x) env acts st g r f = (f, tt)
    perform_built (RaisesNew class slots) env acts st g r f = (r, f)
    perform_built (Controls c x v) env acts st g r f = control_built (turn_of x (M acts)) c v env acts st r
    perform_built (Terminates v) env acts st g r f = r

    -- ---- the beginning of a use

    apply_built : (o : Option Closure) (v : Value) (args : List Value) (env : Env) → UseBuilt p (apply_by p o v args env)
    apply_built None v args env = tt
    apply_built (Some c) v args env = tt

    pub begin_built : (u : Use) (acts : List (Act FlatBody)) (st : State) → UseSound p st.store u → SuperIs p st.store u → BuiltStore p st.store → UseBuilt p u → MachBuilt p (begin F p u acts st)
    begin_built (Apply v args env) acts st u i r f = (r, apply_built (closure_for p st.store v (length args)) v args env)
    begin_built (Activate c args env) acts st u i r f = step_built p st _ _ r (λ n. open_built (block_opening c args env st.next) acts (record st { steps = n }) r)
    begin_built (Enter code x args env) acts st u i r f = open_built (method_opening p code x args env st.next) acts st r
    begin_built (SendTo selector x args env) acts st u i r f = step_built p st _ _ r (λ n. (r, send_built p known st.store r knows selector x args))
    begin_built (SuperTo class selector x args env) acts st u i r f = step_built p st _ _ r (λ n. (r, super_built p known st.store r knows classes class selector x args i))
    begin_built (Perform a env) acts st u i r f = perform_built a env acts st u r f
    begin_built (Raise e env) acts st u i r f = raise_built (is_live e (M acts)) e env acts st r
    begin_built (RaiseNew class slots env) acts st u i r f = raise_new_built class slots env acts st f r
    begin_built (SignalPoint n e env) acts st u i r f = (r, tt)
    begin_built (Resignaled n e x env) acts st u i r f = (r, tt)
    begin_built (SearchIn x rest) acts st u i r f = search_built x rest acts st r
    begin_built (TurnBy x entry outside) acts st u i r f = turn_built (asks_nested x) x entry outside acts st r
    begin_built (Ask w k t env) acts st u i r f = stood_built p (M acts) st _ _ r (λ d n. (r, tt))
    begin_built (Protect receiver entry env) acts st u i r f = (r, tt)
    begin_built (Finish n block held env) acts st u i r f = (r, tt)
    begin_built (VisitBy n v env) acts st u i r f = visit_built n v env acts st f r
    begin_built (RunBody x env) acts st u i r f = r

    -- ---- an outcome at an activation

    ended_built : (n : ℕ) (o : Outcome) (acts : List (Act FlatBody)) (st : State) → BuiltStore p st.store → MachBuilt p (Settle o acts (ended n o st))
    ended_built n (Answer v) acts st r = r
    ended_built n (Go t v) acts st r = r
    ended_built n (Stop l) acts st r = r

    protect_built : (d : Verdict) (entry : Entry) (env : Env) (acts : List (Act FlatBody)) (st : State) → BuiltStore p st.store → MachBuilt p (protect_verdict F p d entry env acts st)
    protect_built (Leaves o) entry env acts st r = ended_built entry.number o acts st r
    protect_built (Again receiver) entry env acts st r = (r, tt)

    signal_built : (n e : ℕ) (d : SignalVerdict) (env : Env) (acts : List (Act FlatBody)) (st : State) → BuiltStore p st.store → MachBuilt p (signal_verdict F p n e d env acts st)
    signal_built n e (Ends o) env acts st r = ended_built n o acts st r
    signal_built n e (Signals f) env acts st r = (r, tt)

    give_built : (v : Value) (a : Act FlatBody) (acts : List (Act FlatBody)) (st : State) → ActSound p st.store a → BuiltStore p st.store → MachBuilt p (give F p v a acts st)
    give_built v (BodyAct x) acts st g r = r
    give_built v (Leaving x) acts st g r = r
    give_built v (ProtectAct receiver entry env) acts st g r = protect_built (protect_end entry.number receiver (Answer v)) entry env acts st r
    give_built v (EnsureOn n block env) acts st g r = (r, tt)
    give_built v (CurtailOn n block env) acts st g r = r
    give_built v (ActionOff n held) acts st g r = ended_built n held acts st r
    give_built v (SignalAct n e env) acts st g r = signal_built n e (signal_end n (Answer v)) env acts st r
    give_built v (HandlerRun n t) acts st g r = ended_built n (turn_end t (M acts) (Answer v)) acts st r
    give_built v (OuterAct n) acts st g r = r
    give_built v (ResumeWait n w k t env) acts st g r = asked_built (is_true v) w k t env acts st r
    give_built v (HandlesWait n x entry rest) acts st g r = tried_built (is_true v) x entry rest acts (ended n (Answer v) st) r
    give_built v (LoopAct n l env) acts st g r = (r, (next_visit_built p known st.store r l v g).built)

    unwind_built : (t : Target) (v : Value) (a : Act FlatBody) (acts : List (Act FlatBody)) (st : State) → BuiltStore p st.store → MachBuilt p (unwind F p t v a acts st)
    unwind_built t v (BodyAct x) acts st r = r
    unwind_built t v (Leaving x) acts st r = r
    unwind_built t v (ProtectAct receiver entry env) acts st r = protect_built (protect_end entry.number receiver (Go t v)) entry env acts st r
    unwind_built t v (EnsureOn n block env) acts st r = (r, tt)
    unwind_built t v (CurtailOn n block env) acts st r = (r, tt)
    unwind_built t v (ActionOff n held) acts st r = r
    unwind_built t v (SignalAct n e env) acts st r = signal_built n e (signal_end n (Go t v)) env acts st r
    unwind_built t v (HandlerRun n turn) acts st r = r
    unwind_built t v (OuterAct n) acts st r = ended_built n (outer_end n (Go t v)) acts st r
    unwind_built t v (ResumeWait n w k turn env) acts st r = r
    unwind_built t v (HandlesWait n x entry rest) acts st r = r
    unwind_built t v (LoopAct n l env) acts st r = r

    pub settle_built : (o : Outcome) (acts : List (Act FlatBody)) (st : State) → ActsSound p st.store acts → BuiltStore p st.store → MachBuilt p (step F p (Settle o acts st))
    settle_built (Answer v) [] st g r = r
    settle_built (Answer v) (a ∷ acts) st g r = give_built v a acts st g.0 r
    settle_built (Go t v) [] st g r = r
    settle_built (Go t v) (a ∷ acts) st g r = unwind_built t v a acts st r
    settle_built (Stop l) acts st g r = r
