-- Self is of the class that a body is written in: instructions, openings and a whole run of the flat machine.
use Rattle.std.proofs.Common.{◌≡◌, ℕ, zero, suc, ◌+◌, ◌-◌, ◌<◌, ◌≤◌, length, get_or, reverse, drop, slice_get, slice_set, List, [], ◌∷◌, ◌++◌, Option, Some, None, Bool, true, false, refl, sym, ap, ◌∙◌, subst, arith, if◌then◌else◌}
use Rattle.std.proofs.lemmas.List.{get_or_append_left, length-reverse, reverse-append, set-append_left}
use Rattle.object_heap.specs.declared.value.Value.{Value}
use Rattle.object_heap.specs.declared.value.Value.TheVariants.{Nil, True, False, Integer, Character, Symbol, Class, Meta, Transcript, Object}
use Rattle.object_heap.specs.declared.value.Closure.{Closure}
use Rattle.object_heap.specs.Store.{Store, Object as HeapObject, Scope as StoreScope, no_object, object_at, with_variable, block_object}
use Rattle.st_code.specs.declared.instruction.Variable.{Variable}
use Rattle.st_code.specs.declared.instruction.Variable.TheVariants.{Own, Scope, Instance, ClassInstance, Shared}
use Rattle.st_code.specs.declared.instruction.Instruction.{Instruction}
use Rattle.st_code.specs.declared.instruction.Instruction.TheVariants as instruction
use Rattle.st_code.specs.Program.{Program, Initializer}
use Rattle.st_code.specs.Compiled.{Compiled, compile_of, any_captured, constant_value, count_uncaptured}
use Rattle.st_code.specs.BuiltIns.{block_class}
use Rattle.st_collections.specs.Actions.{next_object}
use Rattle.st_rules.specs.State.{State, Answer, Go, Stop, BodyMark, with_store, scope_up, with_scoped_variable, stands}
use Rattle.st_rules.specs.Ends.{Opening, initializer_opening, with_self_slot}
use Rattle.st_rules.specs.Runs.{first_state, kept_value}
use Rattle.st_rules.specs.Machine.{Act, BodyAct, Run, Settle, Begin, Over, Stuck, Bodies, marks}
use Rattle.st_rules.specs.Flat.{FlatBody, flat_number, code_at, own_variables, captured_variables, with_operand, last_operand, but_last, operands_taken, flat_given, flat_store, with_flat_block, flat_leaves, flat_instruction, flat_next, instruction_at, greatest_width, opened_variables}
use Rattle.st_rules.specs.Turns.{Top, On, Ended, open_next, top_step, top_iter, opened_run}
use Rattle.st_rules.specs.Compilable.{Compilable}
use Rattle.st_rules.specs.Flattened.{flat_of}
use Rattle.st_rules.specs.NothingMissing.{Stands, VariableStands, HasRoom, HasOperands, own_count, Ready, InstructionHas, ValueHas}
use Rattle.st_rules.specs.Objects.{Has, AllHave, StateHas, SelvesHave, KnowsLiterals}
use Rattle.st_rules.specs.Selves.{IsOf, BodyFits, SelvesSit, KnowsClasses, SelvesAre, SelvesFit}
use Rattle.st_rules.proofs.KnownSupers.{supers_known}
use Rattle.st_rules.proofs.SuperSends.{flag_at, rest_of, behind_so_many, SendsToSelf}
use Rattle.st_rules.proofs.ValuesHave.{has_later, grown_slot, set_size}
use Rattle.st_rules.proofs.Variables.{own_size, first_size}
use Rattle.st_rules.proofs.ObjectsMachine.{Here, size}
use Rattle.st_rules.proofs.ObjectsRun.{Goes, TopKeeps, kept_has, opened_keeps, top_keeps, first_has}
use Rattle.st_rules.proofs.NothingMissing.{instructions_at, values_at}
use Rattle.st_rules.proofs.SelvesSends.{ClosuresFit}
use Rattle.st_rules.proofs.SelvesMachine.{is_of_later, closures_later, acts_later, Flags, code_from, Waits, Rest, MachFits, grown_rest, used_fits, pushed_is, open_fits, begin_fits, settle_fits}

-- ---- operands that are self

module _ (self : Value) where
  flags_rest : (flags : List Bool) (ops : List Value) → Flags flags ops self → Flags (rest_of flags) (but_last ops) self
  flags_rest [] ops h = tt
  flags_rest (b ∷ flags) [] h = absurd h
  flags_rest (true ∷ flags) (v ∷ ops) h = h.1
  flags_rest (false ∷ flags) (v ∷ ops) h = h

  flags_taken : (n : ℕ) (flags : List Bool) (ops args : List Value) → Flags flags ops self → Flags (behind_so_many n flags) (operands_taken n ops args).below self
  flags_taken zero flags ops args h = h
  flags_taken (suc n) flags ops args h = flags_taken n (rest_of flags) (but_last ops) (last_operand ops ∷ args) (flags_rest flags ops h)

  -- one more of them is taken with the receiver
  behind_more : (n : ℕ) (flags : List Bool) → behind_so_many (suc n) flags ≡ rest_of (behind_so_many n flags)
  behind_more zero flags = refl
  behind_more (suc n) flags = behind_more n (rest_of flags)

  flag_behind : (n : ℕ) (flags : List Bool) → flag_at n flags ≡ flag_at 0 (behind_so_many n flags)
  flag_behind zero flags = refl
  flag_behind (suc n) [] = none_behind n
    where
      none_behind : (m : ℕ) → false ≡ flag_at 0 (behind_so_many m [])
      none_behind zero = refl
      none_behind (suc m) = none_behind m
  flag_behind (suc n) (b ∷ flags) = flag_behind n flags

  flagged_is : (flags : List Bool) (ops : List Value) → Flags flags ops self → flag_at 0 flags ≡ true → last_operand ops ≡ self
  flagged_is [] ops h e = let none : ⊥ = grind (arith, e) in absurd none
  flagged_is (b ∷ flags) [] h e = absurd h
  flagged_is (true ∷ flags) (v ∷ ops) h e = h.0
  flagged_is (false ∷ flags) (v ∷ ops) h e = let none : ⊥ = grind (arith, e) in absurd none

  receiver_is : (n : ℕ) (flags : List Bool) (ops args : List Value) → Flags flags ops self → flag_at n flags ≡ true → last_operand (operands_taken n ops args).below ≡ self
  receiver_is n flags ops args h e = flagged_is (behind_so_many n flags) (operands_taken n ops args).below (flags_taken n flags ops args h) (sym (flag_behind n flags) ∙ e)

  flags_below : (n : ℕ) (flags : List Bool) (ops args : List Value) → Flags flags ops self → Flags (behind_so_many (suc n) flags) (but_last (operands_taken n ops args).below) self
  flags_below n flags ops args h = subst (λ fs. Flags fs (but_last (operands_taken n ops args).below) self) (sym (behind_more n flags)) (flags_rest (behind_so_many n flags) (operands_taken n ops args).below (flags_taken n flags ops args h))

  -- the flag of the last operand, for one more that is it
  pub flags_dup : (flags : List Bool) (ops : List Value) → Flags flags ops self → Flags (flag_at 0 flags ∷ flags) (last_operand ops ∷ ops) self
  flags_dup [] ops h = h
  flags_dup (b ∷ flags) [] h = absurd h
  flags_dup (true ∷ flags) (v ∷ ops) h = (h.0, h)
  flags_dup (false ∷ flags) (v ∷ ops) h = h

  -- a value that is written below them
  written_below : (i : ℕ) (v u : Value) (ops : List Value) → i < length ops → with_operand i v (u ∷ ops) ≡ u ∷ with_operand i v ops
  unfolding with_operand
  written_below i v u ops l =
      let size : length (reverse ops) ≡ length ops = length-reverse ops in
      ap (λ xs. reverse (slice_set xs i v)) (reverse-append (u ∷ []) ops)
      ∙ ap reverse (set-append_left (reverse ops) (u ∷ []) i v (omega (arith, l, size)))
      ∙ reverse-append (slice_set (reverse ops) i v) (u ∷ [])

  flags_written : (flags : List Bool) (i : ℕ) (v : Value) (ops : List Value) → i + length flags < length ops → Flags flags ops self → Flags flags (with_operand i v ops) self
  flags_written [] i v ops l h = tt
  flags_written (b ∷ flags) i v [] l h = absurd h
  flags_written (true ∷ flags) i v (u ∷ ops) l h = subst (λ us. Flags (true ∷ flags) us self) (sym (written_below i v u ops (omega (arith, l)))) (h.0, flags_written flags i v ops (omega (arith, l)) h.1)
  flags_written (false ∷ flags) i v (u ∷ ops) l h = subst (λ us. Flags (false ∷ flags) us self) (sym (written_below i v u ops (omega (arith, l)))) (flags_written flags i v ops (omega (arith, l)) h)

operand_size : (i : ℕ) (v : Value) (ops : List Value) → length (with_operand i v ops) ≡ length ops
unfolding with_operand
operand_size i v ops = length-reverse (slice_set (reverse ops) i v) ∙ set_size (reverse ops) i v ∙ length-reverse ops

rest_size : (flags : List Bool) → length (rest_of flags) ≡ length flags - 1
rest_size [] = refl
rest_size (b ∷ flags) = omega arith

behind_size : (n : ℕ) (flags : List Bool) → length (behind_so_many n flags) ≡ length flags - n
behind_size zero flags = omega arith
behind_size (suc n) flags = let a = behind_size n (rest_of flags) in let b = rest_size flags in omega (arith, a, b)

but_size : (ops : List Value) → length (but_last ops) ≡ length ops - 1
but_size [] = refl
but_size (v ∷ ops) = omega arith

below_size : (n : ℕ) (ops args : List Value) → length (operands_taken n ops args).below ≡ length ops - n
below_size zero ops args = omega arith
below_size (suc n) ops args = let a = below_size n (but_last ops) (last_operand ops ∷ args) in let b = but_size ops in omega (arith, a, b)

-- ---- the code behind an instruction

drop_taken : (is : List Instruction) (n : ℕ) (i : Instruction) → slice_get is n ≡ Some i → drop n is ≡ i ∷ drop (suc n) is
drop_taken [] n i e = let none : ⊥ = grind (arith, e) in absurd none
drop_taken (j ∷ is) zero i e = ap (λ k. k ∷ is) (same j i e)
  where
    same : (a b : Instruction) → Some a ≡ Some b → a ≡ b
    same a b e = cc
drop_taken (j ∷ is) (suc n) i e = drop_taken is n i e

-- the code from a body's position is its instruction and the code behind it
taken_is : (p : Program) (x : FlatBody) (i : Instruction) → instruction_at (compile_of p) x ≡ Some i → code_from p x x.position ≡ i ∷ code_from p x (x.position + 1)
unfolding instruction_at
taken_is p x i e =
    let n : suc x.position ≡ x.position + 1 = omega arith in
    drop_taken (code_at (compile_of p) x.code).instructions x.position i e ∙ ap (λ k. i ∷ code_from p x k) n

abbrev set_variable_of : Option ℕ → ℕ → Value → Store → Store
set_variable_of None index v s = s
set_variable_of (Some scope) index v s = with_variable scope index v s

module _ (p : Program) (known : KnowsLiterals p) (knows : KnowsClasses p) where
  abbrev F : Bodies FlatBody
  F = flat_of p

  abbrev codes : List Compiled
  codes = compile_of p

  abbrev room : ℕ
  room = greatest_width (compile_of p)

  -- ---- a body that goes on

  abbrev Fit : FlatBody → List (Act FlatBody) → State → Type 0
  Fit x acts st = Rest p acts st × BodyFits p st.store x

  -- with its flags before its next instruction, and behind it
  abbrev From : FlatBody → Instruction → List Bool → Type 0
  From x i flags = Flags flags x.operands x.self × SendsToSelf (i ∷ code_from p x (x.position + 1)) flags

  pushes : (v : Value) (x : FlatBody) (acts : List (Act FlatBody)) (st : State) (flags : List Bool) → Fit x acts st → HasRoom p x → Flags flags (v ∷ x.operands) x.self → SendsToSelf (code_from p x (x.position + 1)) flags → own_count p x + length flags ≤ suc (length x.operands) → MachFits p (Run (flat_given p codes room v x) acts st)
  pushes v x acts st flags h l g s n =
      let e = pushed_is p v x.operands l in
      (h.0, (h.1, (flags, subst (λ ops. Flags flags ops x.self) (sym e) g, s, subst (λ ops. own_count p x + length flags ≤ length ops) (sym e) n)))

  -- a store with the same objects and closures
  rest_same : (acts : List (Act FlatBody)) (st : State) (s : Store) → s.objects ≡ st.store.objects → s.closures ≡ st.store.closures → Here p acts st → Rest p acts st → Rest p acts (record st { store = s })
  rest_same acts st s e c h r =
      let classes : (n : ℕ) → n < size st → (object_at n s).class ≡ (object_at n st.store).class = λ n l. ap (λ (os : List HeapObject). (get_or os n no_object).class) e in
      (subst (λ cs. ClosuresFit p s cs) (sym c) (closures_later p st.store s classes st.store.closures h.0.3 r.0), (acts_later p st.store s classes acts h.1 r.1.0, r.1.1))

  body_same : (x : FlatBody) (st : State) (s : Store) → s.objects ≡ st.store.objects → Has (size st) x.self → BodyFits p st.store x → BodyFits p s x
  body_same x st s e g f = is_of_later p st.store s (λ n l. ap (λ (os : List HeapObject). (get_or os n no_object).class) e) x.self x.class g f

  -- ---- a Store

  scoped_fits : (o : Option ℕ) (index : ℕ) (v : Value) (x : FlatBody) (acts : List (Act FlatBody)) (st : State) → Goes p known x acts st → Fit x acts st → Rest p acts (record st { store = set_variable_of o index v st.store }) × BodyFits p (set_variable_of o index v st.store) x
  scoped_fits None index v x acts st h f = (f.0, f.1)
  scoped_fits (Some n) index v x acts st h f = (rest_same acts st (with_variable n index v st.store) refl refl (h.0, h.2) f.0, body_same x st (with_variable n index v st.store) refl h.1.0 f.1)

  slot_fits : (self : Value) (index : ℕ) (v : Value) (x : FlatBody) (acts : List (Act FlatBody)) (st : State) → Goes p known x acts st → Has (size st) v → Fit x acts st → Rest p acts (record st { store = with_self_slot self index v st.store }) × BodyFits p (with_self_slot self index v st.store) x
  slot_fits (Object n) index v x acts st h g f =
      let e = grown_slot st.store h.0.1 n index v g in
      (grown_rest p acts st _ (h.0, h.2) f.0 e, is_of_later p st.store _ e.classes x.self x.class h.1.0 f.1)
  slot_fits Nil index v x acts st h g f = (f.0, f.1)
  slot_fits True index v x acts st h g f = (f.0, f.1)
  slot_fits False index v x acts st h g f = (f.0, f.1)
  slot_fits (Integer n) index v x acts st h g f = (f.0, f.1)
  slot_fits (Character c) index v x acts st h g f = (f.0, f.1)
  slot_fits (Symbol n) index v x acts st h g f = (f.0, f.1)
  slot_fits (Class c) index v x acts st h g f = (f.0, f.1)
  slot_fits (Meta c) index v x acts st h g f = (f.0, f.1)
  slot_fits Transcript index v x acts st h g f = (f.0, f.1)

  last_has : (k : ℕ) (ops : List Value) → AllHave k ops → Has k (last_operand ops)
  last_has k [] g = tt
  last_has k (v ∷ ops) g = g.0

  -- the body at its next instruction, with these flags
  abbrev On' : FlatBody → List Bool → Type 0
  On' x flags = Flags flags x.operands x.self × SendsToSelf (code_from p x (x.position + 1)) flags × (own_count p x + length flags ≤ length x.operands)

  store_fits : (place : Variable) (v : Value) (x : FlatBody) (acts : List (Act FlatBody)) (st : State) (flags : List Bool) → Goes p known x acts st → Has (size st) v → Fit x acts st → On' x flags → Stands p place x st → MachFits p (flat_store p codes room place v x acts st)
  unfolding with_scoped_variable
  store_fits (Own index) v x acts st flags h g f o l =
      (f.0, (f.1, (flags, flags_written x.self flags index v x.operands (omega (arith, l, o.2)) o.0, o.1, subst (λ n. own_count p x + length flags ≤ n) (sym (operand_size index v x.operands)) o.2)))
  store_fits (Scope up index) v x acts st flags h g f o l = let y = scoped_fits (scope_up st.store up x.scope) index v x acts st h f in (y.0, (y.1, (flags, o.0, o.1, o.2)))
  store_fits (Instance index) v x acts st flags h g f o l = let y = slot_fits x.self index v x acts st h g f in (y.0, (y.1, (flags, o.0, o.1, o.2)))
  store_fits (ClassInstance index) v x acts st flags h g f o l = (f.0, (f.1, (flags, o.0, o.1, o.2)))
  store_fits (Shared index) v x acts st flags h g f o l = (f.0, (f.1, (flags, o.0, o.1, o.2)))

  -- ---- sends, blocks and returns

  sent_rest : (count : ℕ) (x : FlatBody) (acts : List (Act FlatBody)) (st : State) (flags : List Bool) → Fit x acts st → Flags flags x.operands x.self → SendsToSelf (code_from p x (x.position + 1)) (false ∷ behind_so_many (suc count) flags) → HasOperands p (suc count) x → own_count p x + length flags ≤ length x.operands → Rest p (BodyAct (record x { operands = but_last (operands_taken count x.operands []).below }) ∷ acts) st
  sent_rest count x acts st flags f g s o n =
      let a = behind_size (suc count) flags in
      let b = below_size count x.operands [] in
      let c = but_size (operands_taken count x.operands []).below in
      (f.0.0, ((f.1, f.0.1.0), ((behind_so_many (suc count) flags, flags_below x.self count flags x.operands [] g, s, omega (arith, a, b, c, o, n)), f.0.1.1)))

  leaves_fits : (b : Bool) (v : Value) (x : FlatBody) (acts : List (Act FlatBody)) (st : State) → Fit x acts st → Waits p x → MachFits p (flat_leaves p codes room b v x acts st)
  leaves_fits true v x acts st f w = (f.0.0, ((f.1, f.0.1.0), (w, f.0.1.1)))
  leaves_fits false v x acts st f w = ((f.0.0, ((f.1, f.0.1.0), (tt, f.0.1.1))), tt)

  closures_append : (s : Store) (cs ds : List Closure) → ClosuresFit p s cs → ClosuresFit p s ds → ClosuresFit p s (cs ++ ds)
  closures_append s [] ds g h = h
  closures_append s (c ∷ cs) ds g h = (g.0, closures_append s cs ds g.1 h)

  block_fits : (code : ℕ) (x : FlatBody) (acts : List (Act FlatBody)) (st : State) (flags : List Bool) → Goes p known x acts st → Fit x acts st → HasRoom p x → Flags flags x.operands x.self → SendsToSelf (code_from p x (x.position + 1)) (false ∷ flags) → own_count p x + length flags ≤ length x.operands → MachFits p (Run (flat_given p codes room (next_object st.store) x) acts (record st { store = with_flat_block p codes room x code st.store }))
  unfolding with_flat_block
  block_fits code x acts st flags h f l g s n =
      let o = block_object block_class (length st.store.closures) in
      let c : Closure = record { code = code; class = x.class; receiver = x.self; scope = x.scope; home = x.home } in
      let t : Store = record { objects = st.store.objects ++ o ∷ []; closures = st.store.closures ++ c ∷ []; scopes = st.store.scopes } in
      let classes : (m : ℕ) → m < size st → (object_at m t).class ≡ (object_at m st.store).class = λ m k. ap (λ (q : HeapObject). q.class) (get_or_append_left st.store.objects (o ∷ []) no_object m k) in
      let b = is_of_later p st.store t classes x.self x.class h.1.0 f.1 in
      let cs = closures_append t st.store.closures (c ∷ []) (closures_later p st.store t classes st.store.closures h.0.3 f.0.0) (b, tt) in
      pushes (next_object st.store) x acts (record st { store = t }) (false ∷ flags) ((cs, (acts_later p st.store t classes acts h.2 f.0.1.0, f.0.1.1)), b) l g s (omega (arith, n))

  -- ---- an instruction

  instruction_fits : (i : Instruction) (x : FlatBody) (acts : List (Act FlatBody)) (st : State) (flags : List Bool) → Goes p known x acts st → Fit x acts st → From x i flags → own_count p x + length flags ≤ length x.operands → Ready p i x → VariableStands p i x st → MachFits p (flat_instruction p codes room i x acts st)
  instruction_fits (instruction.PushConstant c) x acts st flags h f o n r v = pushes (constant_value c) x acts st (false ∷ flags) f r o.0 o.1 (omega (arith, n))
  instruction_fits instruction.PushSelf x acts st flags h f o n r v = pushes x.self x acts st (true ∷ flags) f r (refl, o.0) o.1 (omega (arith, n))
  instruction_fits (instruction.PushVariable w) x acts st flags h f o n r v = pushes _ x acts st (false ∷ flags) f r o.0 o.1 (omega (arith, n))
  instruction_fits (instruction.Store w) x acts st flags h f o n r v = store_fits w (last_operand x.operands) x acts st flags h (last_has (size st) x.operands h.1.2) f (o.0, o.1, n) v
  instruction_fits instruction.Pop x acts st flags h f o n r v =
      let a = rest_size flags in
      let b = but_size x.operands in
      (f.0, (f.1, (rest_of flags, flags_rest x.self flags x.operands o.0, o.1, omega (arith, a, b, n, r))))
  instruction_fits instruction.Dup x acts st flags h f o n r v = pushes (last_operand x.operands) x acts st (flag_at 0 flags ∷ flags) f r.1 (flags_dup x.self flags x.operands o.0) o.1 (omega (arith, n))
  instruction_fits (instruction.Send selector count) x acts st flags h f o n r v = (sent_rest count x acts st flags f o.0 o.1 r n, tt)
  instruction_fits (instruction.SuperSend selector count) x acts st flags h f o n r v =
      (sent_rest count x acts st flags f o.0 o.1.1 r n, subst (λ w. IsOf p st.store w x.class) (sym (receiver_is x.self count flags x.operands [] o.0 o.1.0)) f.1)
  instruction_fits (instruction.MakeBlock code) x acts st flags h f o n r v =
      used_fits p 2 st _ _ (f.0.0, ((f.1, f.0.1.0), ((flags, o.0, o.1, n), f.0.1.1))) (λ c. block_fits code x acts (record st { cells = c }) flags h f r o.0 o.1 n)
  instruction_fits instruction.MethodReturn x acts st flags h f o n r v = f.0
  instruction_fits instruction.HomeReturn x acts st flags h f o n r v =
      let a = rest_size flags in
      let b = but_size x.operands in
      leaves_fits (stands x.home (BodyMark x.own ∷ marks flat_number acts)) (last_operand x.operands) (record x { operands = but_last x.operands }) acts st (f.0, f.1) (rest_of flags, flags_rest x.self flags x.operands o.0, o.1, omega (arith, a, b, n, r))
  instruction_fits instruction.BlockEnd x acts st flags h f o n r v = f.0

  next_fits : (target : Option ℕ) (xs : List Initializer) (x : FlatBody) (acts : List (Act FlatBody)) (st : State) → Goes p known x acts st → MachFits p (Run x acts st) → InstructionHas p (On target xs (Run x acts st)) → MachFits p (flat_next p codes room (instruction_at codes x) x acts st)
  next_fits target xs x acts st h f t =
      let i = t.1 in
      let r = f.1.1 in
      let s : SendsToSelf (i ∷ code_from p x (x.position + 1)) r.0 = subst (λ is. SendsToSelf is r.0) (taken_is p x i t.2) r.2 in
      subst (λ o. MachFits p (flat_next p codes room o x acts st)) (sym t.2) (instruction_fits i x acts st r.0 h (f.0, f.1.0) (r.1, s) r.3 t.3 t.4)

  -- ---- a body that is opened

  same_objects : (b : Bool) (s : Store) (x : StoreScope) → (if b then record { objects = s.objects; closures = s.closures; scopes = s.scopes ++ x ∷ [] } else s) ≡ record { objects = s.objects; closures = s.closures; scopes = if b then s.scopes ++ x ∷ [] else s.scopes }
  same_objects true s x = refl
  same_objects false s x = refl

  opens : (x : Opening) (acts : List (Act FlatBody)) (st : State) → Here p acts st → Has (size st) x.self → Rest p acts st → IsOf p st.store x.self x.class → MachFits p (Run (F.opened_body x st.store) acts (with_store st (F.opened_store x st.store)))
  opens x acts st h g r o =
      let captured = (code_at codes x.code).captured in
      let vs = opened_variables p codes room x in
      let sc : StoreScope = record { code = x.code; outer = x.outer; variables = captured_variables captured vs } in
      let b = any_captured captured in
      let t : Store = record { objects = st.store.objects; closures = st.store.closures; scopes = if b then st.store.scopes ++ sc ∷ [] else st.store.scopes } in
      let size_is : length (reverse (own_variables captured vs)) ≡ count_uncaptured captured = length-reverse (own_variables captured vs) ∙ own_size captured vs (first_size captured x.arguments) in
      subst (λ s. MachFits p (Run (F.opened_body x st.store) acts (with_store st s))) (sym (same_objects b st.store sc))
      (rest_same acts st t refl refl h r, (is_of_later p st.store t (λ n l. refl) x.self x.class g o, ([], tt, supers_known p x.code, omega (arith, size_is))))

  -- ---- a run

  -- what a run keeps of all this
  abbrev pub TopFits : Top FlatBody → Type 0
  TopFits (On target xs m) = MachFits p m × SelvesSit p xs
  TopFits (Ended e st) = Unit {0}

  kept_fits : (target : Option ℕ) (v : Value) (st : State) → ClosuresFit p st.store st.store.closures → ClosuresFit p (kept_value target v st).store (kept_value target v st).store.closures
  kept_fits None v st r = r
  kept_fits (Some place) v st r = r

  opened_fits : (xs : List Initializer) (st : State) → StateHas p st → SelvesHave (length p.literals) xs → ClosuresFit p st.store st.store.closures → SelvesSit p xs → TopFits (open_next F p xs st)
  opened_fits [] st h k r g = tt
  opened_fits (x ∷ xs) st h k r g =
      (open_fits p known knows opens (initializer_opening p x st.next) [] st (h, tt) (has_later (length p.literals) (size st) h.0 x.self k.0) (r, (tt, tt)) (g.0 st.store), g.1)

  next_opened : (target : Option ℕ) (v : Value) (xs : List Initializer) (st : State) → StateHas p st → Has (size st) v → SelvesHave (length p.literals) xs → ClosuresFit p st.store st.store.closures → SelvesSit p xs → TopFits (open_next F p xs (kept_value target v st))
  next_opened target v xs st h i k r g = opened_fits xs (kept_value target v st) (kept_has p known target v st h i) k (kept_fits target v st r) g

  top_fits : (t : Top FlatBody) → TopKeeps p known t → TopFits t → InstructionHas p t → ValueHas p t → TopFits (top_step F p t)
  top_fits (On target xs (Run x acts st)) k f i v = (next_fits target xs x acts st k.0 f.0 i, f.1)
  top_fits (On target xs (Settle o acts st)) k f i v = (settle_fits p known knows opens target xs o acts st v f.0, f.1)
  top_fits (On target xs (Begin u acts st)) k f i v = (begin_fits p known knows opens u acts st (k.0.0, k.0.2) k.0.1 f.0.0 f.0.1, f.1)
  top_fits (On target xs (Over (Answer w) st)) k f i v = next_opened target w xs st k.0.0 k.0.1 k.1 f.0 f.1
  top_fits (On target xs (Over (Go g w) st)) k f i v = tt
  top_fits (On target xs (Over (Stop l) st)) k f i v = tt
  top_fits (On target xs (Stuck st)) k f i v = tt
  top_fits (Ended e st) k f i v = tt

  -- ---- at each moment

  module _ (ok : Compilable p) where
    abbrev pub at : ℕ → Top FlatBody
    at n = top_iter F p n (opened_run F p)

    step_last : (n : ℕ) (t : Top FlatBody) → top_iter F p (suc n) t ≡ top_step F p (top_iter F p n t)
    step_last zero t = refl
    step_last (suc n) t = step_last n (top_step F p t)

    first_closures : ClosuresFit p (first_state p).store (first_state p).store.closures
    unfolding first_state
    first_closures = tt

    pub both : (n : ℕ) → TopKeeps p known (at n) × TopFits (at n)
    both zero = (opened_keeps p known p.initializers (first_state p) (first_has p known) known.selves, opened_fits p.initializers (first_state p) (first_has p known) known.selves first_closures knows.selves)
    both (suc n) =
        let b = both n in
        let e = step_last n (opened_run F p) in
        (subst (λ t. TopKeeps p known t) (sym e) (top_keeps p known (at n) b.0), subst TopFits (sym e) (top_fits (at n) b.0 b.1 (instructions_at p ok n) (values_at p ok n)))

    selves_are : (t : Top FlatBody) → TopFits t → SelvesAre p t
    selves_are (On target xs (Run x acts st)) f = (f.0.1.0, f.0.0.1.0)
    selves_are (On target xs (Settle o acts st)) f = f.0.1.0
    selves_are (On target xs (Begin u acts st)) f = f.0.0.1.0
    selves_are (On target xs (Over o st)) f = tt
    selves_are (On target xs (Stuck st)) f = tt
    selves_are (Ended e st) f = tt

    pub selves_at : (n : ℕ) → SelvesAre p (at n)
    selves_at n = selves_are (at n) (both n).1

-- all that a run keeps of selves, at each moment
pub fits_at : (p : Program) (ok : Compilable p) (known : KnowsLiterals p) (knows : KnowsClasses p) (n : ℕ) → TopFits p known knows (top_iter (flat_of p) p n (opened_run (flat_of p) p))
fits_at p ok known knows n = (both p known knows ok n).1

pub selves_fit : SelvesFit
selves_fit p ok known knows n = selves_at p known knows ok n
