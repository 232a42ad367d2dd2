-- Each store that a run comes to is sound: instructions, openings and a whole run of the flat machine.
use Rattle.std.proofs.Common.{◌≡◌, ℕ, zero, suc, length, slice_get, nat_lt, List, [], ◌∷◌, ◌++◌, Option, Some, None, Bool, true, false, true≢false, refl, sym, ◌∙◌, subst, arith, if◌then◌else◌}
use Rattle.std.proofs.lemmas.Bool.{lt-ltb}
use Rattle.object_heap.specs.declared.value.Value.{Value}
use Rattle.object_heap.specs.declared.value.Value.TheVariants.{Nil, True, False, Integer, Character, Symbol, Class, Meta, Transcript, Object}
use Rattle.object_heap.specs.declared.value.Closure.{Closure}
use Rattle.object_heap.specs.Store.{Store, Scope as StoreScope, object_at, with_variable, block_object}
use Rattle.st_code.specs.BuiltIns.{block_class, interval_class, exception_set_class}
use Rattle.st_code.specs.Compiled.{Compiled, compile_of, any_captured}
use Rattle.st_code.specs.Lookup.{level, level_of, walk}
use Rattle.st_code.specs.Program.{Program, Initializer, OfInstance}
use Rattle.st_code.specs.declared.instruction.Instruction.{Instruction}
use Rattle.st_code.specs.declared.instruction.Instruction.TheVariants as instruction
use Rattle.st_code.specs.declared.instruction.Variable.{Variable}
use Rattle.st_code.specs.declared.instruction.Variable.TheVariants.{Own, Scope, Instance, ClassInstance, Shared}
use Rattle.st_collections.specs.Actions.{next_object}
use Rattle.st_rules.specs.Compilable.{Compilable}
use Rattle.st_rules.specs.Ends.{Opening, initializer_opening, with_self_slot}
use Rattle.st_rules.specs.Flat.{FlatBody, flat_number, code_at, captured_variables, last_operand, but_last, flat_given, flat_store, with_flat_block, flat_leaves, flat_instruction, flat_next, instruction_at, greatest_width, opened_variables}
use Rattle.st_rules.specs.Flattened.{flat_of}
use Rattle.st_rules.specs.Machine.{Act, Run, Settle, Begin, Over, Stuck, Bodies, marks}
use Rattle.st_rules.specs.Objects.{AllIn, KnowsLiterals, TopHas}
use Rattle.st_rules.specs.Rules.{Use, SuperTo}
use Rattle.st_rules.specs.Runs.{first_state, kept_value}
use Rattle.st_rules.specs.Selves.{IsOf, OnWalk, KnowsClasses}
use Rattle.st_rules.specs.State.{State, Answer, Go, Stop, BodyMark, with_store, scope_up, with_scoped_variable, stands}
use Rattle.st_rules.specs.Turns.{Top, On, Ended, open_next, top_step, top_iter, opened_run}
use Rattle.st_rules.proofs.ObjectsRun.{objects_stand}
use Rattle.st_rules.proofs.SelvesMachine.{UseFits}
use Rattle.st_rules.proofs.SelvesRun.{TopFits, fits_at}
use Rattle.st_sound.specs.KnownCollections.{IsDeclared, Written, KnowsCollections}
use Rattle.st_sound.specs.SoundActions.{ClosureWritten}
use Rattle.st_sound.specs.SoundRun.{BodyWritten, ClosuresWritten, StateSound, MachSound, TopSound, StoresAreSound}
use Rattle.st_sound.specs.SoundStore.{SoundStore}
use Rattle.st_sound.proofs.Later.{added_later, set_later}
use Rattle.st_sound.proofs.SoundMachine.{Rest, acts_later, rest_later, used_sound, OpeningWritten, open_sound, SuperIs, begin_sound, settle_sound}
use Rattle.st_sound.proofs.SoundObjects.{new_block, sound_added, sound_slot}
use Rattle.st_sound.proofs.TableRows.{FailsAll, fails_walk}

abbrev set_variable_of : Option ℕ → ℕ → Value → Store → Store
set_variable_of None index v s = s
set_variable_of (Some scope) index v s = with_variable scope index v s

in_list : (P : Instruction → Type 0) (is : List Instruction) (n : ℕ) (i : Instruction) → AllIn P is → slice_get is n ≡ Some i → P i
in_list P [] n i h e = let none : ⊥ = grind (arith, e) in absurd none
in_list P (j ∷ is) zero i h e = subst P (same j i e) h.0
  where
    same : (a b : Instruction) → Some a ≡ Some b → a ≡ b
    same a b e = cc
in_list P (j ∷ is) (suc n) i h e = in_list P is n i h.1 e

-- a class of the file stands behind the built-in ones
abbrev is_late : ℕ → Bool
is_late class = nat_lt exception_set_class class

module _ (p : Program) (known : KnowsLiterals p) (classes : KnowsClasses p) (knows : KnowsCollections p) where
  abbrev F : Bodies FlatBody
  F = flat_of p

  abbrev codes : List Compiled
  codes = compile_of p

  abbrev room : ℕ
  room = greatest_width (compile_of p)

  -- ---- a slot of self

  -- what is of a class of the file is no Interval
  no_interval : (s : Store) (n : ℕ) (class : Value) → IsOf p s (Object n) class → IsDeclared p class → (object_at n s).class ≡ interval_class → ⊥
  unfolding level_of
  no_interval s n (Class c) g d e =
      let on : OnWalk (walk p (level OfInstance interval_class)) (level OfInstance c) = subst (λ k. OnWalk (walk p (level OfInstance k)) (level OfInstance c)) e g in
      let none : is_late c ≡ false = fails_walk p knows (λ k. is_late k) (record { classes = refl; metaclasses = refl; object = refl }) (level OfInstance interval_class) (level OfInstance c) (subst (λ xs. FailsAll (λ k. is_late k) xs) (sym knows.interval) (refl, (refl, (refl, tt)))) on in
      true≢false (sym (lt-ltb exception_set_class c (knows.declared c d)) ∙ none)
  no_interval s n Nil g d e = d
  no_interval s n True g d e = d
  no_interval s n False g d e = d
  no_interval s n (Integer k) g d e = d
  no_interval s n (Character k) g d e = d
  no_interval s n (Symbol k) g d e = d
  no_interval s n (Meta k) g d e = d
  no_interval s n Transcript g d e = d
  no_interval s n (Object k) g d e = d

  slot_later : (self : Value) (index : ℕ) (v : Value) (class : Value) (acts : List (Act FlatBody)) (st : State) → IsOf p st.store self class → IsDeclared p class → Rest p acts st → Rest p acts (record st { store = with_self_slot self index v st.store })
  slot_later (Object n) index v class acts st g d r = rest_later p acts st (with_self_slot (Object n) index v st.store) (set_later st.store n _ refl) (sound_slot st.store n index v r.0.0 (no_interval st.store n class g d)) refl r
  slot_later Nil index v class acts st g d r = r
  slot_later True index v class acts st g d r = r
  slot_later False index v class acts st g d r = r
  slot_later (Integer n) index v class acts st g d r = r
  slot_later (Character c) index v class acts st g d r = r
  slot_later (Symbol n) index v class acts st g d r = r
  slot_later (Class c) index v class acts st g d r = r
  slot_later (Meta c) index v class acts st g d r = r
  slot_later Transcript index v class acts st g d r = r

  -- ---- instructions

  -- a store with other scopes
  scopes_later : (acts : List (Act FlatBody)) (st : State) (scopes : List StoreScope) → Rest p acts st → Rest p acts (record st { store = record { objects = st.store.objects; closures = st.store.closures; scopes = scopes } })
  scopes_later acts st scopes r = rest_later p acts st (record { objects = st.store.objects; closures = st.store.closures; scopes = scopes }) record { more = omega arith; classes = λ n l. refl } record { each = r.0.0.each } refl r

  scoped_later : (o : Option ℕ) (index : ℕ) (v : Value) (acts : List (Act FlatBody)) (st : State) → Rest p acts st → Rest p acts (record st { store = set_variable_of o index v st.store })
  scoped_later None index v acts st r = r
  scoped_later (Some n) index v acts st r = scopes_later acts st _ r

  -- a body that goes on, and its instruction
  module _ (x : FlatBody) (acts : List (Act FlatBody)) (st : State) (b : BodyWritten p x) (r : Rest p acts st) (g : IsOf p st.store x.self x.class) where
    store_sound : (place : Variable) (v : Value) → Written p x.code (instruction.Store place) → MachSound p (flat_store p codes room place v x acts st)
    unfolding with_scoped_variable
    store_sound (Own index) v w = (r.0, b, r.1)
    store_sound (Scope up index) v w = let y = scoped_later (scope_up st.store up x.scope) index v acts st r in (y.0, b, y.1)
    store_sound (Instance index) v w = let y = slot_later x.self index v x.class acts st g (subst (IsDeclared p) (sym b) w) r in (y.0, b, y.1)
    store_sound (ClassInstance index) v w = (r.0, b, r.1)
    store_sound (Shared index) v w = (r.0, b, r.1)

    leaves_sound : (home : Bool) (v : Value) → MachSound p (flat_leaves p codes room home v (record x { operands = but_last x.operands }) acts st)
    leaves_sound true v = (r.0, (b, r.1))
    leaves_sound false v = (r.0, refl, (b, r.1))

    closures_append : (cs : List Closure) (c : Closure) → ClosuresWritten p cs → ClosureWritten p c → ClosuresWritten p (cs ++ c ∷ [])
    closures_append [] c h i = (i, tt)
    closures_append (d ∷ cs) c h i = (h.0, closures_append cs c h.1 i)

    block_sound : (code cells : ℕ) → Written p x.code (instruction.MakeBlock code) → MachSound p (Run (flat_given p codes room (next_object st.store) x) acts (record st { store = with_flat_block p codes room x code st.store; cells = cells }))
    unfolding with_flat_block
    block_sound code cells w =
        let o = block_object block_class (length st.store.closures) in
        let c : Closure = record { code = code; class = x.class; receiver = x.self; scope = x.scope; home = x.home } in
        let s : Store = record { objects = st.store.objects ++ o ∷ []; closures = st.store.closures; scopes = st.store.scopes } in
        let h : SoundStore s = sound_added st.store o r.0.0 (new_block block_class (Some (length st.store.closures))) in
        let y = acts_later p st.store s (added_later st.store o) h acts r.1 in
        let t : Store = record { objects = st.store.objects ++ o ∷ []; closures = st.store.closures ++ c ∷ []; scopes = st.store.scopes } in
        let z = acts_later p s t record { more = omega arith; classes = λ n l. refl } record { each = h.each } acts y in
        ((record { each = h.each }, closures_append st.store.closures c r.0.1 (b ∙ sym w)), b, z)

    instruction_sound : (i : Instruction) → Written p x.code i → MachSound p (flat_instruction p codes room i x acts st)
    instruction_sound (instruction.PushConstant c) w = (r.0, b, r.1)
    instruction_sound instruction.PushSelf w = (r.0, b, r.1)
    instruction_sound (instruction.PushVariable v) w = (r.0, b, r.1)
    instruction_sound (instruction.Store v) w = store_sound v (last_operand x.operands) w
    instruction_sound instruction.Pop w = (r.0, b, r.1)
    instruction_sound instruction.Dup w = (r.0, b, r.1)
    instruction_sound (instruction.Send selector count) w = (r.0, tt, (b, r.1))
    instruction_sound (instruction.SuperSend selector count) w = (r.0, tt, (b, r.1))
    instruction_sound (instruction.MakeBlock code) w = used_sound p 2 st _ _ (r.0, (b, r.1)) (λ c. block_sound code c w)
    instruction_sound instruction.MethodReturn w = r
    instruction_sound instruction.HomeReturn w = leaves_sound (stands x.home (BodyMark x.own ∷ marks flat_number acts)) (last_operand x.operands)
    instruction_sound instruction.BlockEnd w = r

    next_sound : (o : Option Instruction) → ((i : Instruction) → o ≡ Some i → Written p x.code i) → MachSound p (flat_next p codes room o x acts st)
    next_sound None w = r
    next_sound (Some i) w = instruction_sound i (w i refl)

    written_at : (i : Instruction) → instruction_at codes x ≡ Some i → Written p x.code i
    unfolding instruction_at
    written_at i e = in_list (Written p x.code) (code_at codes x.code).instructions x.position i (knows.code x.code) e

    instruct_sound : MachSound p (flat_next p codes room (instruction_at codes x) x acts st)
    instruct_sound = next_sound (instruction_at codes x) written_at

  -- ---- a body that is opened

  same_objects : (b : Bool) (s : Store) (x : StoreScope) → (if b then record { objects = s.objects; closures = s.closures; scopes = s.scopes ++ x ∷ [] } else s) ≡ record { objects = s.objects; closures = s.closures; scopes = if b then s.scopes ++ x ∷ [] else s.scopes }
  same_objects true s x = refl
  same_objects false s x = refl

  opens : (x : Opening) (acts : List (Act FlatBody)) (st : State) → Rest p acts st → OpeningWritten p x → MachSound p (Run (F.opened_body x st.store) acts (with_store st (F.opened_store x st.store)))
  opens x acts st r o =
      let captured = (code_at codes x.code).captured in
      let vs = opened_variables p codes room x in
      let sc : StoreScope = record { code = x.code; outer = x.outer; variables = captured_variables captured vs } in
      let b = any_captured captured in
      let y = scopes_later acts st (if b then st.store.scopes ++ sc ∷ [] else st.store.scopes) r in
      subst (λ s. MachSound p (Run (F.opened_body x st.store) acts (with_store st s))) (sym (same_objects b st.store sc)) (y.0, o, y.1)

  -- ---- a run

  super_is : (s : Store) (u : Use) → UseFits p s u → SuperIs p s u
  super_is s (SuperTo class selector x args env) f = f
  super_is s u f = tt

  opened_sound : (xs : List Initializer) (st : State) → StateSound p st → TopSound p (open_next F p xs st)
  opened_sound [] st h = h
  opened_sound (x ∷ xs) st h = open_sound p classes knows opens (initializer_opening p x st.next) [] st (h, tt) refl

  kept_sound : (target : Option ℕ) (v : Value) (st : State) → StateSound p st → StateSound p (kept_value target v st)
  kept_sound None v st h = h
  kept_sound (Some place) v st h = h

  top_sound : (t : Top FlatBody) → TopHas p t → TopFits p known classes t → TopSound p t → TopSound p (top_step F p t)
  top_sound (On target xs (Run x acts st)) k f h = instruct_sound x acts st h.1 (h.0, h.2) f.0.1.0
  top_sound (On target xs (Settle o acts st)) k f h = settle_sound p classes knows opens o acts st h
  top_sound (On target xs (Begin u acts st)) k f h = begin_sound p classes knows opens u acts st k.1 (super_is st.store u f.0.1) (h.0, h.2) h.1
  top_sound (On target xs (Over (Answer w) st)) k f h = opened_sound xs (kept_value target w st) (kept_sound target w st h)
  top_sound (On target xs (Over (Go g w) st)) k f h = h
  top_sound (On target xs (Over (Stop l) st)) k f h = h
  top_sound (On target xs (Stuck st)) k f h = h
  top_sound (Ended e st) k f h = h

  first_sound : StateSound p (first_state p)
  unfolding first_state
  first_sound = (record { each = knows.literals }, tt)

  step_last : (n : ℕ) (t : Top FlatBody) → top_iter F p (suc n) t ≡ top_step F p (top_iter F p n t)
  step_last zero t = refl
  step_last (suc n) t = step_last n (top_step F p t)

  pub run_sound : Compilable p → (n : ℕ) → TopSound p (top_iter F p n (opened_run F p))
  run_sound ok zero = opened_sound p.initializers (first_state p) first_sound
  run_sound ok (suc n) =
      subst (TopSound p) (sym (step_last n (opened_run F p)))
      (top_sound (top_iter F p n (opened_run F p)) (objects_stand p known n) (fits_at p ok known classes n) (run_sound ok n))

pub stores_are_sound : StoresAreSound
stores_are_sound p ok known classes knows n = run_sound p known classes knows ok n
