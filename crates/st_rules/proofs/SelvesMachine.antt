-- Self is of the class that a body is written in: a law for each small step of the flat machine.
use Rattle.std.proofs.Common.{◌≡◌, ℕ, ◌+◌, ◌<◌, ◌≤◌, max, length, List, [], ◌∷◌, Option, Some, None, Bool, true, false, drop, lt-ltb, refl, sym, ap, subst, arith, nat_lt, nat_le, if◌then◌else◌, ◌++◌, zero, suc, inl, inr, slice_get}
use Rattle.object_heap.specs.declared.value.Value.{Value}
use Rattle.object_heap.specs.declared.value.Value.TheVariants.{Nil, True, False, Integer, Character, Symbol, Class, Meta, Transcript, Object}
use Rattle.object_heap.specs.declared.value.Closure.{Closure}
use Rattle.object_heap.specs.Store.{Store, object_at}
use Rattle.st_code.specs.Program.{Program, Initializer, OfInstance, body_at, class_at}
use Rattle.st_code.specs.Messages.{Control}
use Rattle.st_code.specs.Lookup.{level, level_of, walk, class_level, is_plain, fits, is_exception}
use Rattle.st_collections.specs.Actions.{Action, Gives, Changes, Makes, Writes, Fails, DividesByZero, PassesIntegers, Begins, Activates, Sends, Misses, Enters, Guards, Ensures, Curtails, Iterates, Raises, RaisesNew, Controls, Terminates, Visit, Applies, Compares, Finishes, Lacks, Charges, next_object}
use Rattle.st_collections.specs.Kinds.{is_true}
use Rattle.st_rules.specs.State.{State, Entry, Env, Target, Outcome, Answer, Go, Stop, Turn, Mark, FoundTurn, NoTurn, TurnAt, turn_of, with_store, is_live, step_made, stood, used, scope_cells}
use Rattle.st_rules.specs.Ends.{charged, ended, with_arguments, with_message, Opening, block_opening, method_opening, turn_end, outer_end, SignalVerdict, Ends, Signals, signal_end, Verdict, Leaves, Again, protect_end, Search, asks_nested, Wait, ToResume, ToOuter}
use Rattle.st_rules.specs.Rules.{Use, Apply, Activate, Enter, SendTo, SuperTo, Perform, Raise, RaiseNew, SignalPoint, Resignaled, SearchIn, TurnBy, Ask, Protect, Finish, VisitBy, RunBody, closure_for, apply_by, handler_by, exception_slots, with_exception, exception_cells}
use Rattle.st_rules.specs.Machine.{Act, BodyAct, Leaving, ProtectAct, EnsureOn, CurtailOn, ActionOff, SignalAct, HandlerRun, OuterAct, ResumeWait, HandlesWait, LoopAct, Mach, Run, Settle, Begin, Over, Stuck, Bodies, marks, open_act, raise_act, raise_new_act, tried_act, judged_act, search_act, turn_act, asked_act, resignal_act, resignal_as_act, control_by_act, control_without_act, control_in_act, control_act, visit_act, perform_act, begin, protect_verdict, signal_verdict, give, unwind, step}
use Rattle.st_code.specs.declared.instruction.Instruction.{Instruction}
use Rattle.st_code.specs.Compiled.{compile_of}
use Rattle.st_rules.specs.Flat.{FlatBody, flat_number, code_at, operand_pushed, greatest_width}
use Rattle.st_rules.specs.Turns.{On}
use Rattle.st_rules.specs.NothingMissing.{own_count, HasRoom, ValueHas}
use Rattle.st_rules.specs.Flattened.{flat_of}
use Rattle.st_rules.specs.Objects.{Has, AllHave, ObjectsHave, ClosuresHave, Grown, VisitHas, ActionHas, UseHas, ActHas, ActsHave, KnowsLiterals, Made, SameOrOneAgain}
use Rattle.st_rules.specs.Selves.{OnWalk, IsOf, KnowsClasses, BodyFits, ActFits, ActsFit}
use Rattle.st_rules.proofs.SuperSends.{SendsToSelf}
use Rattle.st_rules.proofs.ValuesHave.{append_has, take_has, nils_have, grown_new, next_new}
use Rattle.st_rules.proofs.ObjectsMachine.{Here, size, grown_here}
use Rattle.st_rules.proofs.SelvesSends.{ClosureFits, ClosuresFit, ClosureOrNone, ActionFits, closure_for_fits, send_fits, super_fits}

-- ---- stores that keep classes

module _ (p : Program) (s t : Store) (classes : (n : ℕ) → n < length s.objects → (object_at n t).class ≡ (object_at n s).class) where
  level_same : (v : Value) → Has (length s.objects) v → level_of t v ≡ level_of s v
  unfolding level_of
  level_same (Object n) h = ap (λ c. level OfInstance c) (classes n h)
  level_same Nil h = refl
  level_same True h = refl
  level_same False h = refl
  level_same (Integer n) h = refl
  level_same (Character c) h = refl
  level_same (Symbol n) h = refl
  level_same (Class c) h = refl
  level_same (Meta c) h = refl
  level_same Transcript h = refl

  pub is_of_later : (v class : Value) → Has (length s.objects) v → IsOf p s v class → IsOf p t v class
  is_of_later v class h g = subst (λ l. OnWalk (walk p l) (class_level class)) (sym (level_same v h)) g

  pub closures_later : (cs : List Closure) → ClosuresHave (length s.objects) cs → ClosuresFit p s cs → ClosuresFit p t cs
  closures_later [] h g = tt
  closures_later (c ∷ cs) h g = (is_of_later c.receiver c.class h.0.0 g.0, closures_later cs h.1 g.1)

  act_later : (a : Act FlatBody) → ActHas (length s.objects) a → ActFits p s a → ActFits p t a
  act_later (BodyAct x) h g = is_of_later x.self x.class h.0 g
  act_later (Leaving x) h g = is_of_later x.self x.class h.0 g
  act_later (ProtectAct receiver entry env) h g = tt
  act_later (EnsureOn n block env) h g = tt
  act_later (CurtailOn n block env) h g = tt
  act_later (ActionOff n held) h g = tt
  act_later (SignalAct n e env) h g = tt
  act_later (HandlerRun n x) h g = tt
  act_later (OuterAct n) h g = tt
  act_later (ResumeWait n w k x env) h g = tt
  act_later (HandlesWait n x entry rest) h g = tt
  act_later (LoopAct n l env) h g = tt

  pub acts_later : (acts : List (Act FlatBody)) → ActsHave (length s.objects) acts → ActsFit p s acts → ActsFit p t acts
  acts_later [] h g = tt
  acts_later (a ∷ acts) h g = (act_later a h.0 g.0, acts_later acts h.1 g.1)

-- ---- the operands that are self

abbrev pub Flags : List Bool → List Value → Value → Type 0
Flags [] ops self = Unit {0}
Flags (b ∷ flags) [] self = ⊥
Flags (true ∷ flags) (v ∷ ops) self = (v ≡ self) × Flags flags ops self
Flags (false ∷ flags) (v ∷ ops) self = Flags flags ops self

abbrev pub code_from : Program → FlatBody → ℕ → List Instruction
code_from p x position = drop position (code_at (compile_of p) x.code).instructions

-- a body at its next instruction, and one that waits at the instruction before
abbrev pub Runs : Program → FlatBody → Type 0
Runs p x = (flags : List Bool) × Flags flags x.operands x.self × SendsToSelf (code_from p x x.position) flags × (own_count p x + length flags ≤ length x.operands)

abbrev pub Waits : Program → FlatBody → Type 0
Waits p x = (flags : List Bool) × Flags flags x.operands x.self × SendsToSelf (code_from p x (x.position + 1)) (false ∷ flags) × (own_count p x + length flags ≤ length x.operands)

-- room for a value that a body is given
abbrev pub RoomFor : Program → Act FlatBody → Type 0
RoomFor p (BodyAct x) = HasRoom p x
RoomFor p a = Unit {0}

room_for : (p : Program) (target : Option ℕ) (xs : List Initializer) (v : Value) (a : Act FlatBody) (acts : List (Act FlatBody)) (st : State) → ValueHas p (On target xs (Settle (Answer v) (a ∷ acts) st)) → RoomFor p a
room_for p target xs v (BodyAct x) acts st h = h.1
room_for p target xs v a acts st h = tt

-- operands with one more, where there's room
pub pushed_is : (p : Program) (v : Value) (ops : List Value) → length ops < greatest_width (compile_of p) → operand_pushed (greatest_width (compile_of p)) v ops ≡ v ∷ ops
pushed_is p v ops l = ap (λ b. if b then v ∷ ops else ops) (lt-ltb (length ops) (greatest_width (compile_of p)) l)

pub given_runs : (p : Program) (v : Value) (x : FlatBody) → HasRoom p x → Waits p x → Runs p ((flat_of p).given v x)
given_runs p v x room w =
    let e = pushed_is p v x.operands room in
    (false ∷ w.0, subst (λ ops. Flags (false ∷ w.0) ops x.self) (sym e) w.1, w.2, subst (λ ops. own_count p x + length (false ∷ w.0) ≤ length ops) (sym e) (omega (arith, w.3)))

abbrev pub ActWaits : Program → Act FlatBody → Type 0
ActWaits p (BodyAct x) = Waits p x
ActWaits p a = Unit {0}

abbrev pub ActsWait : Program → List (Act FlatBody) → Type 0
ActsWait p [] = Unit {0}
ActsWait p (a ∷ acts) = ActWaits p a × ActsWait p acts

-- ---- what holds

abbrev pub Rest : Program → List (Act FlatBody) → State → Type 0
Rest p acts st = ClosuresFit p st.store st.store.closures × (ActsFit p st.store acts × ActsWait p acts)

abbrev pub UseFits : Program → Store → Use → Type 0
UseFits p s (Activate c args env) = ClosureFits p s c
UseFits p s (Enter code r args env) = IsOf p s r (body_at p code).class
UseFits p s (SuperTo class selector r args env) = IsOf p s r class
UseFits p s (Perform a env) = ActionFits p s a
UseFits p s u = Unit {0}

abbrev pub MachFits : Program → Mach FlatBody → Type 0
MachFits p (Run x acts st) = Rest p acts st × (BodyFits p st.store x × Runs p x)
MachFits p (Settle o acts st) = Rest p acts st
MachFits p (Begin u acts st) = Rest p acts st × UseFits p st.store u
MachFits p (Over o st) = ClosuresFit p st.store st.store.closures
MachFits p (Stuck st) = Unit {0}

slots_have : (p : Program) (k c : ℕ) (slots : List Value) → AllHave k slots → AllHave k (exception_slots p c slots)
unfolding exception_slots
slots_have p k c slots g = take_has k (class_at p c).slots _ (append_has k slots _ g (nils_have k _))

pub exception_grows : (p : Program) (c : ℕ) (slots : List Value) (st : State) → ObjectsHave (size st) st.store.objects → AllHave (size st) slots → Grown st.store (with_exception p c slots st.store)
unfolding with_exception
exception_grows p c slots st h g = grown_new st.store h c (exception_slots p c slots) [] (slots_have p (size st) c slots g)

pub arguments_grow : (args : List Value) (st : State) → ObjectsHave (size st) st.store.objects → AllHave (size st) args → Grown st.store (with_arguments args st.store)
unfolding with_arguments
arguments_grow args st h i = grown_new st.store h _ args [] i

pub arguments_there : (args : List Value) (st : State) → ObjectsHave (size st) st.store.objects → Has (length (with_arguments args st.store).objects) (next_object st.store)
unfolding with_arguments
arguments_there args st h = next_new st.store h _ args []

pub message_grows : (c : ℕ) (array : Value) (s : Store) → ObjectsHave (length s.objects) s.objects → Has (length s.objects) array → Grown s (with_message c array s)
unfolding with_message
message_grows c array s h g = grown_new s h _ (Symbol c ∷ array ∷ []) [] (tt, (g, tt))

pub grown_rest : (p : Program) (acts : List (Act FlatBody)) (st : State) (s : Store) → Here p acts st → Rest p acts st → Grown st.store s → Rest p acts (record st { store = s })
grown_rest p acts st s h r e =
    (subst (λ cs. ClosuresFit p s cs) (sym e.closures) (closures_later p st.store s e.classes st.store.closures h.0.3 r.0), (acts_later p st.store s e.classes acts h.1 r.1.0, r.1.1))

closure_fits : (p : Program) (s : Store) (cs : List Closure) (n : ℕ) (c : Closure) → slice_get cs n ≡ Some c → ClosuresFit p s cs → ClosureFits p s c
closure_fits p s [] n c e h = cc
closure_fits p s (d ∷ cs) zero c e h = let same : d ≡ c = cc in subst (λ x. ClosureFits p s x) same h.0
closure_fits p s (d ∷ cs) (suc n) c e h = closure_fits p s cs n c e h.1

closure_added : (p : Program) (s : Store) (cs : List Closure) (c : Closure) → ClosuresFit p s cs → ClosureFits p s c → ClosuresFit p s (cs ++ c ∷ [])
closure_added p s [] c h g = (g, tt)
closure_added p s (d ∷ cs) c h g = (h.0, closure_added p s cs c h.1 g)

closures_made : (p : Program) (s : Store) (cs cs' : List Closure) → SameOrOneAgain cs cs' → ClosuresFit p s cs → ClosuresFit p s cs'
closures_made p s cs cs' (inl e) h = subst (λ xs. ClosuresFit p s xs) (sym e) h
closures_made p s cs cs' (inr a) h = subst (λ xs. ClosuresFit p s xs) (sym a.added) (closure_added p s cs a.closure h (closure_fits p s cs a.place a.closure a.is h))

made_rest : (p : Program) (acts : List (Act FlatBody)) (st : State) (s : Store) → Here p acts st → Rest p acts st → Made st.store s → Rest p acts (record st { store = s })
made_rest p acts st s h r e =
    (closures_made p s st.store.closures s.closures e.closures (closures_later p st.store s e.grown.classes st.store.closures h.0.3 r.0), (acts_later p st.store s e.grown.classes acts h.1 r.1.0, r.1.1))

module _ (p : Program) where
  -- ---- charges

  step_fits : (st : State) (m : Mach FlatBody) (k : State → Mach FlatBody) → MachFits p m → ((n : ℕ) → MachFits p (k (record st { steps = n }))) → MachFits p (charged (step_made p st) m k)
  unfolding step_made
  step_fits st m k stop on = go (nat_lt st.steps p.step_limit)
    where
      go : (c : Bool) → MachFits p (charged (if c then Some (record st { steps = st.steps + 1 }) else None) m k)
      go true = on _
      go false = stop

  stood_fits : (standing : List Mark) (st : State) (m : Mach FlatBody) (k : State → Mach FlatBody) → MachFits p m → ((d n : ℕ) → MachFits p (k (record st { depth = d; next = n }))) → MachFits p (charged (stood p standing st) m k)
  unfolding stood
  stood_fits standing st m k stop on = go (nat_le (length standing + 1) p.depth_limit)
    where
      go : (c : Bool) → MachFits p (charged (if c then Some (record st { depth = max st.depth (length standing + 1); next = st.next + 1 }) else None) m k)
      go true = on _ _
      go false = stop

  pub used_fits : (cells : ℕ) (st : State) (m : Mach FlatBody) (k : State → Mach FlatBody) → MachFits p m → ((c : ℕ) → MachFits p (k (record st { cells = c }))) → MachFits p (charged (used p cells st) m k)
  unfolding used
  used_fits cells st m k stop on = go (nat_le (st.cells + cells) p.cell_limit)
    where
      go : (c : Bool) → MachFits p (charged (if c then Some (record st { cells = st.cells + cells }) else None) m k)
      go true = on _
      go false = stop

module _ (p : Program) (known : KnowsLiterals p) (knows : KnowsClasses p) where
  abbrev F : Bodies FlatBody
  F = flat_of p

  abbrev M : List (Act FlatBody) → List Mark
  M acts = marks flat_number acts

  module _ (opens : (x : Opening) (acts : List (Act FlatBody)) (st : State) → Here p acts st → Has (size st) x.self → Rest p acts st → IsOf p st.store x.self x.class → MachFits p (Run (F.opened_body x st.store) acts (with_store st (F.opened_store x st.store)))) where
    pub open_fits : (x : Opening) (acts : List (Act FlatBody)) (st : State) → Here p acts st → Has (size st) x.self → Rest p acts st → IsOf p st.store x.self x.class → MachFits p (open_act F p x acts st)
    open_fits x acts st h g r o = stood_fits p (M acts) st _ _ r (λ d n. used_fits p (scope_cells (body_at p x.code)) _ _ _ r (λ c. opens x acts (record st { depth = d; next = n; cells = c }) h g r o))

    raise_fits : (live : Bool) (e : ℕ) (env : Env) (acts : List (Act FlatBody)) (st : State) → Rest p acts st → MachFits p (raise_act F p live e env acts st)
    raise_fits true e env acts st r = (r, tt)
    raise_fits false e env acts st r = stood_fits p (M acts) st _ _ r (λ d n. (r, tt))

    raise_new_fits : (c : ℕ) (slots : List Value) (env : Env) (acts : List (Act FlatBody)) (st : State) → Here p acts st → AllHave (size st) slots → Rest p acts st → MachFits p (raise_new_act F p c slots env acts st)
    raise_new_fits c slots env acts st h g r =
        let y = grown_rest p acts st (with_exception p c slots st.store) h r (exception_grows p c slots st h.0.1 g) in
        stood_fits p (M acts) st _ _ r (λ d i. used_fits p (exception_cells p c) _ _ _ r (λ u. (y, tt)))

    tried_fits : (a : Bool) (x : Search) (entry : Entry) (rest : Env) (acts : List (Act FlatBody)) (st : State) → Rest p acts st → MachFits p (tried_act F p a x entry rest acts st)
    tried_fits true x entry rest acts st r = (r, tt)
    tried_fits false x entry rest acts st r = (r, tt)

    judged_fits : (a : Bool) (x : Search) (entry : Entry) (rest : Env) (acts : List (Act FlatBody)) (st : State) → Rest p acts st → MachFits p (judged_act F p a x entry rest acts st)
    judged_fits true x entry rest acts st r = tried_fits (fits p st.store entry.selector (object_at x.exception st.store).class) x entry rest acts st r
    judged_fits false x entry rest acts st r = stood_fits p (M acts) st _ _ r (λ d n. ((r.0, ((tt, r.1.0), (tt, r.1.1))), tt))

    search_fits : (x : Search) (rest : Env) (acts : List (Act FlatBody)) (st : State) → Rest p acts st → MachFits p (search_act F p x rest acts st)
    search_fits x [] acts st r = (r, tt)
    search_fits x (entry ∷ rest) acts st r = judged_fits (is_plain p st.store entry.selector) x entry rest acts st r

    handler_fits : (s : Store) (o : Option Closure) (handler : Value) (e : ℕ) (env : Env) → ClosureOrNone p s o → UseFits p s (handler_by o handler e env)
    handler_fits s None handler e env g = tt
    handler_fits s (Some c) handler e env g = g

    turn_fits : (a : Bool) (x : Search) (entry : Option Entry) (outside : Env) (acts : List (Act FlatBody)) (st : State) → Rest p acts st → MachFits p (turn_act F p a x entry outside acts st)
    turn_fits true x None outside acts st r = r
    turn_fits true x (Some entry) outside acts st r = r
    turn_fits false x None outside acts st r = stood_fits p (M acts) st _ _ r (λ d n. ((r.0, ((tt, r.1.0), (tt, r.1.1))), tt))
    turn_fits false x (Some entry) outside acts st r =
        stood_fits p (M acts) st _ _ r (λ d n. ((r.0, ((tt, r.1.0), (tt, r.1.1))), handler_fits st.store (closure_for p st.store entry.handler 0) entry.handler x.exception outside (closure_for_fits p knows st.store r.0 entry.handler 0)))

    asked_fits : (a : Bool) (w : Wait) (k : ℕ) (t : Turn) (env : Env) (acts : List (Act FlatBody)) (st : State) → Rest p acts st → MachFits p (asked_act F p a w k t env acts st)
    asked_fits true (ToResume v) k t env acts st r = r
    asked_fits false (ToResume v) k t env acts st r = (r, tt)
    asked_fits true ToOuter k t env acts st r = stood_fits p (M acts) st _ _ r (λ d n. ((r.0, ((tt, r.1.0), (tt, r.1.1))), tt))
    asked_fits false ToOuter k t env acts st r = (r, tt)

    resignal_fits : (a live : Bool) (t : Turn) (f : ℕ) (v : Value) (env : Env) (acts : List (Act FlatBody)) (st : State) → Rest p acts st → MachFits p (resignal_act F p a live t f v env acts st)
    resignal_fits false live t f v env acts st r = (r, tt)
    resignal_fits true true t f v env acts st r = (r, tt)
    resignal_fits true false t f v env acts st r = r

    resignal_as_fits : (t : Turn) (v : Value) (env : Env) (acts : List (Act FlatBody)) (st : State) → Rest p acts st → MachFits p (resignal_as_act F p t v env acts st)
    resignal_as_fits t (Object f) env acts st r = resignal_fits (is_exception p st.store (Object f)) (is_live f (M acts)) t f (Object f) env acts st r
    resignal_as_fits t v env acts st r = (r, tt)

    control_by_fits : (c : Control) (v : Value) (k : ℕ) (t : Turn) (entry : Entry) (env : Env) (acts : List (Act FlatBody)) (st : State) → Rest p acts st → MachFits p (control_by_act F p c v k t entry env acts st)
    control_by_fits Control.Return v k t entry env acts st r = r
    control_by_fits Control.Retry v k t entry env acts st r = r
    control_by_fits Control.RetryUsing v k t entry env acts st r = r
    control_by_fits Control.Resume v k t entry env acts st r = (r, tt)
    control_by_fits Control.Pass v k t entry env acts st r = (r, tt)
    control_by_fits Control.Outer v k t entry env acts st r = (r, tt)
    control_by_fits Control.ResignalAs v k t entry env acts st r = resignal_as_fits t v env acts st r
    control_by_fits Control.IsNested v k t entry env acts st r = (r, tt)

    control_without_fits : (c : Control) (v : Value) (k : ℕ) (t : Turn) (env : Env) (acts : List (Act FlatBody)) (st : State) → Rest p acts st → MachFits p (control_without_act F p c v k t env acts st)
    control_without_fits Control.Resume v k t env acts st r = (r, tt)
    control_without_fits c v k t env acts st r = (r, tt)

    control_in_fits : (entry : Option Entry) (c : Control) (v : Value) (k : ℕ) (t : Turn) (env : Env) (acts : List (Act FlatBody)) (st : State) → Rest p acts st → MachFits p (control_in_act F p entry c v k t env acts st)
    control_in_fits (Some entry) c v k t env acts st r = control_by_fits c v k t entry env acts st r
    control_in_fits None c v k t env acts st r = control_without_fits c v k t env acts st r

    control_fits : (f : FoundTurn) (c : Control) (v : Value) (env : Env) (acts : List (Act FlatBody)) (st : State) → Rest p acts st → MachFits p (control_act F p f c v env acts st)
    control_fits NoTurn c v env acts st r = (r, tt)
    control_fits (TurnAt k t) c v env acts st r = control_in_fits t.entry c v k t env acts st r

    -- ---- loops, and what a message does at once

    visit_fits : (n : ℕ) (v : Visit) (env : Env) (acts : List (Act FlatBody)) (st : State) → Here p acts st → VisitHas st.store v → Rest p acts st → MachFits p (visit_act F p n v env acts st)
    visit_fits n (Applies l v args) env acts st h g r = ((r.0, ((tt, r.1.0), (tt, r.1.1))), tt)
    visit_fits n (Compares l x v) env acts st h g r = ((r.0, ((tt, r.1.0), (tt, r.1.1))), tt)
    visit_fits n (Finishes v) env acts st h g r = r
    visit_fits n (Lacks l) env acts st h g r = ((r.0, ((tt, r.1.0), (tt, r.1.1))), tt)
    visit_fits n (Charges cells s v) env acts st h g r =
        used_fits p cells st _ _ r (λ c. visit_fits n v env acts (record st { cells = c; store = s }) (grown_here p acts st s h g.0) g.1 (grown_rest p acts st s h r g.0))

    missed_fits : (selector : ℕ) (x : Value) (args : List Value) (env : Env) (acts : List (Act FlatBody)) (st : State) → Here p acts st → AllHave (size st) args → Rest p acts st → MachFits p (perform_act F p (Misses selector x args) env acts st)
    missed_fits selector x args env acts st h i r =
        let a = arguments_grow args st h.0.1 i in
        let s = with_arguments args st.store in
        let h1 = grown_here p acts st s h a in
        let r1 = grown_rest p acts st s h r a in
        let b = message_grows selector (next_object st.store) s h1.0.1 (arguments_there args st h.0.1) in
        let r2 = grown_rest p acts (record st { store = s }) (with_message selector (next_object st.store) s) h1 r1 b in
        used_fits p (1 + length args) st _ _ r (λ c. used_fits p 3 _ _ _ r1 (λ d. (r2, tt)))

    perform_fits : (a : Action) (env : Env) (acts : List (Act FlatBody)) (st : State) → Here p acts st → ActionHas st.store a → Rest p acts st → ActionFits p st.store a → MachFits p (perform_act F p a env acts st)
    perform_fits (Gives v) env acts st h g r f = r
    perform_fits (Changes s v) env acts st h g r f = grown_rest p acts st s h r g.0
    perform_fits (Makes cells s v) env acts st h g r f = used_fits p cells st _ _ r (λ c. made_rest p acts (record st { cells = c }) s h r g.0)
    perform_fits (Writes text v) env acts st h g r f = r
    perform_fits (Fails trouble) env acts st h g r f = (r, tt)
    perform_fits (DividesByZero dividend) env acts st h g r f = (r, tt)
    perform_fits PassesIntegers env acts st h g r f = r
    perform_fits (Begins v args) env acts st h g r f = (r, tt)
    perform_fits (Activates c args) env acts st h g r f = (r, f)
    perform_fits (Sends selector x args) env acts st h g r f = (r, tt)
    perform_fits (Misses selector x args) env acts st h g r f = missed_fits selector x args env acts st h g.1 r
    perform_fits (Enters code x args) env acts st h g r f = (r, f)
    perform_fits (Guards receiver selector handler) env acts st h g r f = stood_fits p (M acts) st _ _ r (λ d n. (r, tt))
    perform_fits (Ensures receiver block) env acts st h g r f = stood_fits p (M acts) st _ _ r (λ d n. ((r.0, ((tt, r.1.0), (tt, r.1.1))), tt))
    perform_fits (Curtails receiver block) env acts st h g r f = stood_fits p (M acts) st _ _ r (λ d n. ((r.0, ((tt, r.1.0), (tt, r.1.1))), tt))
    perform_fits (Iterates l) env acts st h g r f = stood_fits p (M acts) st _ _ r (λ d n. (r, tt))
    perform_fits (Raises s x) env acts st h g r f = (grown_rest p acts st s h r g.0, tt)
    perform_fits (RaisesNew class slots) env acts st h g r f = (r, tt)
    perform_fits (Controls c x v) env acts st h g r f = control_fits (turn_of x (M acts)) c v env acts st r
    perform_fits (Terminates v) env acts st h g r f = r

    -- ---- the beginning of a use

    apply_fits : (s : Store) (o : Option Closure) (v : Value) (args : List Value) (env : Env) → ClosureOrNone p s o → UseFits p s (apply_by p o v args env)
    apply_fits s None v args env g = tt
    apply_fits s (Some c) v args env g = g

    pub begin_fits : (u : Use) (acts : List (Act FlatBody)) (st : State) → Here p acts st → UseHas st.store u → Rest p acts st → UseFits p st.store u → MachFits p (begin F p u acts st)
    begin_fits (Apply v args env) acts st h u r f = (r, apply_fits st.store (closure_for p st.store v (length args)) v args env (closure_for_fits p knows st.store r.0 v (length args)))
    begin_fits (Activate c args env) acts st h u r f = step_fits p st _ _ r (λ n. open_fits (block_opening c args env st.next) acts (record st { steps = n }) h u.0.0 r f)
    begin_fits (Enter code x args env) acts st h u r f = open_fits (method_opening p code x args env st.next) acts st h u.0 r f
    begin_fits (SendTo selector x args env) acts st h u r f = step_fits p st _ _ r (λ n. (r, send_fits p knows st.store r.0 selector x args))
    begin_fits (SuperTo class selector x args env) acts st h u r f = step_fits p st _ _ r (λ n. (r, super_fits p knows st.store r.0 class selector x args f))
    begin_fits (Perform a env) acts st h u r f = perform_fits a env acts st h u.0 r f
    begin_fits (Raise e env) acts st h u r f = raise_fits (is_live e (M acts)) e env acts st r
    begin_fits (RaiseNew class slots env) acts st h u r f = raise_new_fits class slots env acts st h u.0 r
    begin_fits (SignalPoint n e env) acts st h u r f = ((r.0, ((tt, r.1.0), (tt, r.1.1))), tt)
    begin_fits (Resignaled n e x env) acts st h u r f = ((r.0, ((tt, r.1.0), (tt, r.1.1))), tt)
    begin_fits (SearchIn x rest) acts st h u r f = search_fits x rest acts st r
    begin_fits (TurnBy x entry outside) acts st h u r f = turn_fits (asks_nested x) x entry outside acts st r
    begin_fits (Ask w k t env) acts st h u r f = stood_fits p (M acts) st _ _ r (λ d n. ((r.0, ((tt, r.1.0), (tt, r.1.1))), tt))
    begin_fits (Protect receiver entry env) acts st h u r f = ((r.0, ((tt, r.1.0), (tt, r.1.1))), tt)
    begin_fits (Finish n block held env) acts st h u r f = ((r.0, ((tt, r.1.0), (tt, r.1.1))), tt)
    begin_fits (VisitBy n v env) acts st h u r f = visit_fits n v env acts st h u.0 r
    begin_fits (RunBody x env) acts st h u r f = tt

    -- ---- an outcome at an activation

    ended_fits : (n : ℕ) (o : Outcome) (acts : List (Act FlatBody)) (st : State) → Rest p acts st → MachFits p (Settle o acts (ended n o st))
    ended_fits n (Answer v) acts st r = r
    ended_fits n (Go t v) acts st r = r
    ended_fits n (Stop l) acts st r = r

    protect_fits : (d : Verdict) (entry : Entry) (env : Env) (acts : List (Act FlatBody)) (st : State) → Rest p acts st → MachFits p (protect_verdict F p d entry env acts st)
    protect_fits (Leaves o) entry env acts st r = ended_fits entry.number o acts st r
    protect_fits (Again receiver) entry env acts st r = (r, tt)

    signal_fits : (n e : ℕ) (d : SignalVerdict) (env : Env) (acts : List (Act FlatBody)) (st : State) → Rest p acts st → MachFits p (signal_verdict F p n e d env acts st)
    signal_fits n e (Ends o) env acts st r = ended_fits n o acts st r
    signal_fits n e (Signals f) env acts st r = (r, tt)

    give_fits : (v : Value) (a : Act FlatBody) (acts : List (Act FlatBody)) (st : State) → RoomFor p a → Rest p (a ∷ acts) st → MachFits p (give F p v a acts st)
    give_fits v (BodyAct x) acts st room r = ((r.0, (r.1.0.1, r.1.1.1)), (r.1.0.0, given_runs p v x room r.1.1.0))
    give_fits v (Leaving x) acts st room r = (r.0, (r.1.0.1, r.1.1.1))
    give_fits v (ProtectAct receiver entry env) acts st room r = protect_fits (protect_end entry.number receiver (Answer v)) entry env acts st (r.0, (r.1.0.1, r.1.1.1))
    give_fits v (EnsureOn n block env) acts st room r = ((r.0, (r.1.0.1, r.1.1.1)), tt)
    give_fits v (CurtailOn n block env) acts st room r = (r.0, (r.1.0.1, r.1.1.1))
    give_fits v (ActionOff n held) acts st room r = ended_fits n held acts st (r.0, (r.1.0.1, r.1.1.1))
    give_fits v (SignalAct n e env) acts st room r = signal_fits n e (signal_end n (Answer v)) env acts st (r.0, (r.1.0.1, r.1.1.1))
    give_fits v (HandlerRun n t) acts st room r = ended_fits n (turn_end t (M acts) (Answer v)) acts st (r.0, (r.1.0.1, r.1.1.1))
    give_fits v (OuterAct n) acts st room r = (r.0, (r.1.0.1, r.1.1.1))
    give_fits v (ResumeWait n w k t env) acts st room r = asked_fits (is_true v) w k t env acts st (r.0, (r.1.0.1, r.1.1.1))
    give_fits v (HandlesWait n x entry rest) acts st room r = tried_fits (is_true v) x entry rest acts (ended n (Answer v) st) (r.0, (r.1.0.1, r.1.1.1))
    give_fits v (LoopAct n l env) acts st room r = ((r.0, (r.1.0.1, r.1.1.1)), tt)

    unwind_fits : (t : Target) (v : Value) (a : Act FlatBody) (acts : List (Act FlatBody)) (st : State) → Rest p (a ∷ acts) st → MachFits p (unwind F p t v a acts st)
    unwind_fits t v (BodyAct x) acts st r = (r.0, (r.1.0.1, r.1.1.1))
    unwind_fits t v (Leaving x) acts st r = (r.0, (r.1.0.1, r.1.1.1))
    unwind_fits t v (ProtectAct receiver entry env) acts st r = protect_fits (protect_end entry.number receiver (Go t v)) entry env acts st (r.0, (r.1.0.1, r.1.1.1))
    unwind_fits t v (EnsureOn n block env) acts st r = ((r.0, (r.1.0.1, r.1.1.1)), tt)
    unwind_fits t v (CurtailOn n block env) acts st r = ((r.0, (r.1.0.1, r.1.1.1)), tt)
    unwind_fits t v (ActionOff n held) acts st r = (r.0, (r.1.0.1, r.1.1.1))
    unwind_fits t v (SignalAct n e env) acts st r = signal_fits n e (signal_end n (Go t v)) env acts st (r.0, (r.1.0.1, r.1.1.1))
    unwind_fits t v (HandlerRun n turn) acts st r = (r.0, (r.1.0.1, r.1.1.1))
    unwind_fits t v (OuterAct n) acts st r = ended_fits n (outer_end n (Go t v)) acts st (r.0, (r.1.0.1, r.1.1.1))
    unwind_fits t v (ResumeWait n w k turn env) acts st r = (r.0, (r.1.0.1, r.1.1.1))
    unwind_fits t v (HandlesWait n x entry rest) acts st r = (r.0, (r.1.0.1, r.1.1.1))
    unwind_fits t v (LoopAct n l env) acts st r = (r.0, (r.1.0.1, r.1.1.1))

    pub settle_fits : (target : Option ℕ) (xs : List Initializer) (o : Outcome) (acts : List (Act FlatBody)) (st : State) → ValueHas p (On target xs (Settle o acts st)) → Rest p acts st → MachFits p (step F p (Settle o acts st))
    settle_fits target xs (Answer v) [] st room r = r.0
    settle_fits target xs (Answer v) (a ∷ acts) st room r = give_fits v a acts st (room_for p target xs v a acts st room) r
    settle_fits target xs (Go t v) [] st room r = r.0
    settle_fits target xs (Go t v) (a ∷ acts) st room r = unwind_fits t v a acts st r
    settle_fits target xs (Stop l) acts st room r = r.0
