-- What stands, charges, closures and exceptions under a renaming.
use Rattle.std.proofs.Common.{◌≡◌, ℕ, zero, suc, ◌+◌, ◌-◌, ◌≤◌, max, List, [], ◌∷◌, ◌++◌, map, take, length, replicate, Option, Some, None, Bool, true, false, nat_eq, nat_le, nat_lt, refl, sym, ap, ◌∙◌, if◌then◌else◌}
use Rattle.std.specs.Option.{option_map}
use Rattle.std.proofs.lemmas.List.{length-map, map-append}
use Rattle.object_heap.specs.declared.value.Value.{Value}
use Rattle.object_heap.specs.declared.value.Value.TheVariants.{Nil, Class, Object}
use Rattle.object_heap.specs.declared.value.Closure.{Closure}
use Rattle.object_heap.specs.declared.trouble.Trouble.{Trouble}
use Rattle.object_heap.specs.Troubles.{place_of}
use Rattle.object_heap.specs.Store.{Store, Object as HeapObject, object_at}
use Rattle.st_code.specs.Program.{Program, Body, ClassRow, class_at}
use Rattle.st_code.specs.BuiltIns.{error_class}
use Rattle.st_code.specs.Lookup.{fits, fits_class, fits_some}
use Rattle.st_rules.specs.State.{State, Env, Mark, BodyMark, ProtectMark, ActionMark, LoopMark, WaitMark, OuterMark, SignalMark, TurnMark, Turn, FoundTurn, TurnAt, turn_of, is_live, stands, is_at_signal, step_made, stood, used, first_variables}
use Rattle.st_rules.specs.Ends.{charged, trouble_text}
use Rattle.st_rules.specs.ExceptionRows.{closure_of, parameters_of}
use Rattle.st_rules.specs.Rules.{RaiseNew, fail, closure_for, exception_slots, with_exception, exception_cells}
use Rattle.st_rules.specs.Machine.{Act, BodyAct, Leaving, ProtectAct, EnsureOn, CurtailOn, ActionOff, SignalAct, HandlerRun, OuterAct, ResumeWait, HandlesWait, LoopAct, Mach, marks, mark_of}
use Rattle.st_rules.specs.Scoped.{ScopedBody, scoped_number}
use Rattle.law_shake.specs.Renaming.{Renaming, taken, object, ren, rens, ren_closure, ren_store, ren_state, ren_env, ren_turn, ren_mark, ren_found_turn, ren_act, ren_acts, ren_use, ren_mach, IsRenamed}
use Rattle.law_shake.proofs.Spreading.{placed_apart}
use Rattle.law_shake.proofs.Lookups.{object_read, closure_read, class_same, inherits_same}
use Rattle.law_shake.proofs.Rows.{nils_ren, with_new_ren}

-- ---- what stands

module _ (x : Renaming) where
  mark_ren : (a : Act ScopedBody) → mark_of scoped_number (ren_act x a) ≡ ren_mark x (mark_of scoped_number a)
  mark_ren (BodyAct b) = refl
  mark_ren (Leaving b) = refl
  mark_ren (ProtectAct receiver entry env) = refl
  mark_ren (EnsureOn n block env) = refl
  mark_ren (CurtailOn n block env) = refl
  mark_ren (ActionOff n held) = refl
  mark_ren (SignalAct n e env) = refl
  mark_ren (HandlerRun n t) = refl
  mark_ren (OuterAct n) = refl
  mark_ren (ResumeWait n w k t env) = refl
  mark_ren (HandlesWait n y entry rest) = refl
  mark_ren (LoopAct n l env) = refl

  pub marks_ren : (acts : List (Act ScopedBody)) → marks scoped_number (ren_acts x acts) ≡ map (ren_mark x) (marks scoped_number acts)
  marks_ren [] = refl
  marks_ren (a ∷ acts) = ap (λ m. m ∷ marks scoped_number (ren_acts x acts)) (mark_ren a) ∙ ap (λ ms. ren_mark x (mark_of scoped_number a) ∷ ms) (marks_ren acts)

  pub live_ren : (e : ℕ) (ms : List Mark) → is_live (object x e) (map (ren_mark x) ms) ≡ is_live e ms
  unfolding is_live
  live_ren e [] = refl
  live_ren e (SignalMark n y ∷ ms) = ap (λ b. if b then true else is_live (object x e) (map (ren_mark x) ms)) (placed_apart x.objects e y) ∙ ap (λ b. if nat_eq e y then true else b) (live_ren e ms)
  live_ren e (BodyMark n ∷ ms) = live_ren e ms
  live_ren e (ProtectMark n ∷ ms) = live_ren e ms
  live_ren e (ActionMark n ∷ ms) = live_ren e ms
  live_ren e (LoopMark n ∷ ms) = live_ren e ms
  live_ren e (WaitMark n ∷ ms) = live_ren e ms
  live_ren e (OuterMark n ∷ ms) = live_ren e ms
  live_ren e (TurnMark n t ∷ ms) = live_ren e ms

  found_if : (b : Bool) (n : ℕ) (t : Turn) (f : FoundTurn) → (if b then TurnAt n (ren_turn x t) else ren_found_turn x f) ≡ ren_found_turn x (if b then TurnAt n t else f)
  found_if true n t f = refl
  found_if false n t f = refl

  pub turn_ren : (e : ℕ) (ms : List Mark) → turn_of (object x e) (map (ren_mark x) ms) ≡ ren_found_turn x (turn_of e ms)
  unfolding turn_of
  turn_ren e [] = refl
  turn_ren e (TurnMark n t ∷ ms) =
      ap (λ b. if b then TurnAt n (ren_turn x t) else turn_of (object x e) (map (ren_mark x) ms)) (placed_apart x.objects e t.exception)
      ∙ ap (λ f. if nat_eq e t.exception then TurnAt n (ren_turn x t) else f) (turn_ren e ms)
      ∙ found_if (nat_eq e t.exception) n t (turn_of e ms)
  turn_ren e (BodyMark n ∷ ms) = turn_ren e ms
  turn_ren e (ProtectMark n ∷ ms) = turn_ren e ms
  turn_ren e (ActionMark n ∷ ms) = turn_ren e ms
  turn_ren e (LoopMark n ∷ ms) = turn_ren e ms
  turn_ren e (WaitMark n ∷ ms) = turn_ren e ms
  turn_ren e (OuterMark n ∷ ms) = turn_ren e ms
  turn_ren e (SignalMark n y ∷ ms) = turn_ren e ms

  pub stands_ren : (n : ℕ) (ms : List Mark) → stands n (map (ren_mark x) ms) ≡ stands n ms
  unfolding stands
  stands_ren n [] = refl
  stands_ren n (BodyMark k ∷ ms) = ap (λ b. if nat_eq n k then true else b) (stands_ren n ms)
  stands_ren n (ProtectMark k ∷ ms) = ap (λ b. if nat_eq n k then true else b) (stands_ren n ms)
  stands_ren n (ActionMark k ∷ ms) = ap (λ b. if nat_eq n k then true else b) (stands_ren n ms)
  stands_ren n (LoopMark k ∷ ms) = ap (λ b. if nat_eq n k then true else b) (stands_ren n ms)
  stands_ren n (WaitMark k ∷ ms) = ap (λ b. if nat_eq n k then true else b) (stands_ren n ms)
  stands_ren n (OuterMark k ∷ ms) = ap (λ b. if nat_eq n k then true else b) (stands_ren n ms)
  stands_ren n (SignalMark k y ∷ ms) = ap (λ b. if nat_eq n k then true else b) (stands_ren n ms)
  stands_ren n (TurnMark k t ∷ ms) = ap (λ b. if nat_eq n k then true else b) (stands_ren n ms)

  pub at_signal_ren : (n : ℕ) (ms : List Mark) → is_at_signal n (map (ren_mark x) ms) ≡ is_at_signal n ms
  at_signal_ren n [] = refl
  at_signal_ren n (BodyMark k ∷ ms) = refl
  at_signal_ren n (ProtectMark k ∷ ms) = refl
  at_signal_ren n (ActionMark k ∷ ms) = refl
  at_signal_ren n (LoopMark k ∷ ms) = refl
  at_signal_ren n (WaitMark k ∷ ms) = refl
  at_signal_ren n (OuterMark k ∷ ms) = refl
  at_signal_ren n (SignalMark k y ∷ ms) = refl
  at_signal_ren n (TurnMark k t ∷ ms) = refl

  pub first_variables_ren : (captured : List Bool) (args : List Value) → first_variables captured (rens x args) ≡ rens x (first_variables captured args)
  unfolding first_variables
  first_variables_ren [] args = refl
  first_variables_ren (c ∷ captured) [] = ap (λ vs. Nil ∷ vs) (first_variables_ren captured [])
  first_variables_ren (c ∷ captured) (v ∷ args) = ap (λ vs. ren x v ∷ vs) (first_variables_ren captured args)

  map_take : (n : ℕ) (vs : List Value) → take n (rens x vs) ≡ rens x (take n vs)
  map_take zero vs = refl
  map_take (suc n) [] = refl
  map_take (suc n) (v ∷ vs) = ap (λ ws. ren x v ∷ ws) (map_take n vs)

  pub closure_of_ren : (s : Store) (v : Value) → closure_of (ren_store x s) (ren x v) ≡ option_map (ren_closure x) (closure_of s v)
  unfolding closure_of
  closure_of_ren s (Object n) = closure_read x s n
  closure_of_ren s v = refl

module _ (x : Renaming) (q p : Program) (is : IsRenamed x q p) where
  -- ---- charges

  abbrev M : Mach ScopedBody → Mach ScopedBody
  M m = ren_mach x m

  pub step_ren : (st : State) (m : Mach ScopedBody) (k' k : State → Mach ScopedBody) → ((n : ℕ) → k' (ren_state x (record st { steps = n })) ≡ M (k (record st { steps = n }))) → charged (step_made p (ren_state x st)) (M m) k' ≡ M (charged (step_made q st) m k)
  unfolding step_made
  step_ren st m k' k h =
      ap (λ limit. charged (if nat_lt st.steps limit then Some (record (ren_state x st) { steps = st.steps + 1 }) else None) (M m) k') is.steps
      ∙ go (nat_lt st.steps q.step_limit)
    where
      go : (c : Bool) → charged (if c then Some (record (ren_state x st) { steps = st.steps + 1 }) else None) (M m) k' ≡ M (charged (if c then Some (record st { steps = st.steps + 1 }) else None) m k)
      go true = h _
      go false = refl

  pub stood_ren : (acts : List (Act ScopedBody)) (st : State) (m : Mach ScopedBody) (k' k : State → Mach ScopedBody) → ((d n : ℕ) → k' (ren_state x (record st { depth = d; next = n })) ≡ M (k (record st { depth = d; next = n }))) → charged (stood p (marks scoped_number (ren_acts x acts)) (ren_state x st)) (M m) k' ≡ M (charged (stood q (marks scoped_number acts) st) m k)
  unfolding stood
  stood_ren acts st m k' k h =
      ap (λ d. charged (if nat_le (d + 1) p.depth_limit then Some (record (ren_state x st) { depth = max st.depth (d + 1); next = st.next + 1 }) else None) (M m) k') (ap length (marks_ren x acts) ∙ length-map (marks scoped_number acts) (ren_mark x))
      ∙ ap (λ limit. charged (if nat_le (length (marks scoped_number acts) + 1) limit then Some (record (ren_state x st) { depth = max st.depth (length (marks scoped_number acts) + 1); next = st.next + 1 }) else None) (M m) k') is.depth
      ∙ go (nat_le (length (marks scoped_number acts) + 1) q.depth_limit)
    where
      go : (c : Bool) → charged (if c then Some (record (ren_state x st) { depth = max st.depth (length (marks scoped_number acts) + 1); next = st.next + 1 }) else None) (M m) k' ≡ M (charged (if c then Some (record st { depth = max st.depth (length (marks scoped_number acts) + 1); next = st.next + 1 }) else None) m k)
      go true = h _ _
      go false = refl

  pub used_ren : (cells : ℕ) (st : State) (m : Mach ScopedBody) (k' k : State → Mach ScopedBody) → ((c : ℕ) → k' (ren_state x (record st { cells = c })) ≡ M (k (record st { cells = c }))) → charged (used p cells (ren_state x st)) (M m) k' ≡ M (charged (used q cells st) m k)
  unfolding used
  used_ren cells st m k' k h =
      ap (λ limit. charged (if nat_le (st.cells + cells) limit then Some (record (ren_state x st) { cells = st.cells + cells }) else None) (M m) k') is.cells
      ∙ go (nat_le (st.cells + cells) q.cell_limit)
    where
      go : (c : Bool) → charged (if c then Some (record (ren_state x st) { cells = st.cells + cells }) else None) (M m) k' ≡ M (charged (if c then Some (record st { cells = st.cells + cells }) else None) m k)
      go true = h _
      go false = refl

  -- ---- selectors of handlers, closures, exceptions

  fits_class_ren : (c : ℕ) (v : Value) → fits_class p c (ren x v) ≡ fits_class q c v
  fits_class_ren c (Class a) = inherits_same x q p is c a
  fits_class_ren c v = refl

  fits_some_ren : (c : ℕ) (vs : List Value) → fits_some p c (rens x vs) ≡ fits_some q c vs
  fits_some_ren c [] = refl
  fits_some_ren c (v ∷ vs) =
      ap (λ b. elim b [ true ↦ true | false ↦ fits_some p c (rens x vs) ]) (fits_class_ren c v)
      ∙ ap (λ rest. elim (fits_class q c v) [ true ↦ true | false ↦ rest ]) (fits_some_ren c vs)

  pub fits_ren : (s : Store) (v : Value) (c : ℕ) → fits p (ren_store x s) (ren x v) c ≡ fits q s v c
  unfolding fits
  fits_ren s (Object n) c = ap (λ (o : HeapObject). fits_some p c o.slots) (object_read x s n) ∙ fits_some_ren c (object_at n s).slots
  fits_ren s (Class a) c = inherits_same x q p is c a
  fits_ren s v c = refl

  abbrev that_takes : Program → Option Closure → ℕ → Option Closure
  that_takes r None count = None
  that_takes r (Some c) count = elim (nat_eq (parameters_of r c) count) [ true ↦ Some c | false ↦ None ]

  takes_ren : (o : Option Closure) (count : ℕ) → that_takes p (option_map (ren_closure x) o) count ≡ option_map (ren_closure x) (that_takes q o count)
  takes_ren None count = refl
  takes_ren (Some c) count = ap (λ (b : Body). elim (nat_eq b.parameters count) [ true ↦ Some (ren_closure x c) | false ↦ None ]) (is.bodies c.code) ∙ go (nat_eq (parameters_of q c) count)
    where
      go : (t : Bool) → elim t [ true ↦ Some (ren_closure x c) | false ↦ None ] ≡ option_map (ren_closure x) (elim t [ true ↦ Some c | false ↦ None ])
      go true = refl
      go false = refl

  pub closure_for_ren : (s : Store) (v : Value) (count : ℕ) → closure_for p (ren_store x s) (ren x v) count ≡ option_map (ren_closure x) (closure_for q s v count)
  unfolding closure_for
  closure_for_ren s v count = ap (λ o. that_takes p o count) (closure_of_ren x s v) ∙ takes_ren (closure_of s v) count

  pub text_ren : (t : Trouble) → trouble_text p t ≡ ren x (trouble_text q t)
  text_ren t = ap Object (is.troubles (place_of t))

  pub fail_ren : (t : Trouble) (env : Env) → fail p t (ren_env x env) ≡ ren_use x (fail q t env)
  fail_ren t env = ap (λ v. RaiseNew error_class (v ∷ []) (ren_env x env)) (text_ren t)

  pub cells_same : (c : ℕ) → exception_cells p c ≡ exception_cells q c
  cells_same c = ap (λ (r : ClassRow). 1 + r.slots) (class_same x q p is c)

  exception_slots_ren : (c : ℕ) (slots : List Value) → exception_slots p c (rens x slots) ≡ rens x (exception_slots q c slots)
  unfolding exception_slots
  exception_slots_ren c slots =
      ap (λ (r : ClassRow). take r.slots (rens x slots ++ replicate (r.slots - length (rens x slots)) Nil)) (class_same x q p is c)
      ∙ ap (λ k. take (class_at q c).slots (rens x slots ++ replicate ((class_at q c).slots - k) Nil)) (length-map slots (ren x))
      ∙ ap (λ vs. take (class_at q c).slots (rens x slots ++ vs)) (sym (nils_ren x ((class_at q c).slots - length slots)))
      ∙ ap (λ vs. take (class_at q c).slots vs) (sym (map-append (ren x) slots (replicate ((class_at q c).slots - length slots) Nil)))
      ∙ map_take x (class_at q c).slots (slots ++ replicate ((class_at q c).slots - length slots) Nil)

  pub with_exception_ren : (s : Store) (room : taken x.objects ≤ length s.objects) (c : ℕ) (slots : List Value) → with_exception p c (rens x slots) (ren_store x s) ≡ ren_store x (with_exception q c slots s)
  unfolding with_exception
  with_exception_ren s room c slots = rw (exception_slots_ren c slots) (with_new_ren x s room c (exception_slots q c slots) [])
