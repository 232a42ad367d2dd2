-- Objects stay built: instructions, openings and a whole run of the flat machine.
use Rattle.std.proofs.Common.{◌≡◌, ℕ, zero, suc, slice_get, nat_lt, List, [], ◌∷◌, ◌++◌, Option, Some, None, Bool, true, false, refl, sym, subst, arith, if◌then◌else◌}
use Rattle.std.proofs.lemmas.Bool.{lt-ltb}
use Rattle.object_heap.specs.declared.value.Value.{Value}
use Rattle.object_heap.specs.declared.value.Value.TheVariants.{Nil, True, False, Integer, Character, Symbol, Class, Meta, Transcript, Object}
use Rattle.object_heap.specs.Store.{Store, Scope as StoreScope, object_at, with_variable}
use Rattle.st_code.specs.BuiltIns.{exception_set_class}
use Rattle.st_code.specs.Compiled.{Compiled, compile_of, any_captured}
use Rattle.st_code.specs.Lookup.{level, level_of}
use Rattle.st_code.specs.Program.{Program, Initializer, OfInstance}
use Rattle.st_code.specs.declared.instruction.Instruction.{Instruction}
use Rattle.st_code.specs.declared.instruction.Instruction.TheVariants as instruction
use Rattle.st_code.specs.declared.instruction.Variable.{Variable}
use Rattle.st_code.specs.declared.instruction.Variable.TheVariants.{Own, Scope, Instance, ClassInstance, Shared}
use Rattle.st_collections.specs.Actions.{next_object}
use Rattle.st_rules.specs.Compilable.{Compilable}
use Rattle.st_rules.specs.Ends.{Opening, initializer_opening, with_self_slot}
use Rattle.st_rules.specs.Flat.{FlatBody, flat_number, code_at, last_operand, but_last, flat_given, flat_store, with_flat_block, flat_leaves, flat_instruction, flat_next, instruction_at, greatest_width}
use Rattle.st_rules.specs.Flattened.{flat_of}
use Rattle.st_rules.specs.Machine.{Act, Run, Settle, Begin, Over, Stuck, Bodies, marks}
use Rattle.st_rules.specs.Objects.{AllIn, KnowsLiterals}
use Rattle.st_rules.specs.Rules.{Use, SuperTo}
use Rattle.st_rules.specs.Runs.{first_state, kept_value}
use Rattle.st_rules.specs.Selves.{IsOf, KnowsClasses}
use Rattle.st_rules.specs.State.{State, Answer, Go, Stop, BodyMark, scope_up, with_scoped_variable, stands}
use Rattle.st_rules.specs.Turns.{Top, On, Ended, open_next, top_step, top_iter, opened_run}
use Rattle.st_rules.proofs.SelvesMachine.{UseFits}
use Rattle.st_rules.proofs.SelvesRun.{TopFits, fits_at}
use Rattle.st_sound.specs.KnownCollections.{IsDeclared, Written, KnowsCollections}
use Rattle.st_sound.specs.SoundRun.{BodyWritten, TopSound}
use Rattle.st_sound.proofs.SoundMachine.{SuperIs}
use Rattle.st_sound.proofs.SoundRun.{run_sound}
use Rattle.law_values.specs.BuiltObjects.{BuiltStore}
use Rattle.law_values.specs.BuiltRun.{top_state, ObjectsAreBuilt}
use Rattle.law_values.specs.KnownBuilt.{KnowsBuilt}
use Rattle.law_values.proofs.BuiltMachine.{MachBuilt, used_built, open_built, begin_built, settle_built}
use Rattle.law_values.proofs.BuiltObjects.{is_bound, built_same, built_slot, built_block}
use Rattle.law_values.proofs.BuiltRows.{not_false}
use Rattle.law_values.proofs.BuiltTable.{is_open, open_from}

in_list : (P : Instruction → Type 0) (is : List Instruction) (n : ℕ) (i : Instruction) → AllIn P is → slice_get is n ≡ Some i → P i
in_list P [] n i h e = let none : ⊥ = grind (arith, e) in absurd none
in_list P (j ∷ is) zero i h e = subst P (same j i e) h.0
  where
    same : (a b : Instruction) → Some a ≡ Some b → a ≡ b
    same a b e = cc
in_list P (j ∷ is) (suc n) i h e = in_list P is n i h.1 e

-- a class of the file stands behind the built-in ones
abbrev is_late : ℕ → Bool
is_late class = nat_lt exception_set_class class

abbrev set_variable_of : Option ℕ → ℕ → Value → Store → Store
set_variable_of None index v s = s
set_variable_of (Some scope) index v s = with_variable scope index v s

module _ (p : Program) (literals : KnowsLiterals p) (classes : KnowsClasses p) (knows : KnowsCollections p) (known : KnowsBuilt p) where
  abbrev F : Bodies FlatBody
  F = flat_of p

  abbrev codes : List Compiled
  codes = compile_of p

  abbrev room : ℕ
  room = greatest_width (compile_of p)

  -- ---- a slot of self

  open_self : (s : Store) (n : ℕ) (class : Value) → IsOf p s (Object n) class → IsDeclared p class → is_open (object_at n s).class ≡ true
  unfolding level_of
  open_self s n (Class c) g d = open_from p knows known (λ k. is_late k) (record { classes = refl; metaclasses = refl; object = refl }) ((refl, (refl, tt)), ((refl, (refl, (refl, tt))), ((refl, (refl, tt)), ((refl, (refl, tt)), tt)))) (level OfInstance (object_at n s).class) (level OfInstance c) g (lt-ltb exception_set_class c (knows.declared c d))
  open_self s n Nil g d = absurd d
  open_self s n True g d = absurd d
  open_self s n False g d = absurd d
  open_self s n (Integer k) g d = absurd d
  open_self s n (Character k) g d = absurd d
  open_self s n (Symbol k) g d = absurd d
  open_self s n (Meta k) g d = absurd d
  open_self s n Transcript g d = absurd d
  open_self s n (Object k) g d = absurd d

  self_built : (self : Value) (index : ℕ) (v class : Value) (s : Store) → IsOf p s self class → IsDeclared p class → BuiltStore p s → BuiltStore p (with_self_slot self index v s)
  self_built (Object n) index v class s g d h = built_slot p s n index v h (not_false (is_bound (object_at n s).class) (open_self s n class g d))
  self_built Nil index v class s g d h = h
  self_built True index v class s g d h = h
  self_built False index v class s g d h = h
  self_built (Integer n) index v class s g d h = h
  self_built (Character c) index v class s g d h = h
  self_built (Symbol n) index v class s g d h = h
  self_built (Class c) index v class s g d h = h
  self_built (Meta c) index v class s g d h = h
  self_built Transcript index v class s g d h = h

  -- ---- instructions

  scoped_built : (o : Option ℕ) (index : ℕ) (v : Value) (s : Store) → BuiltStore p s → BuiltStore p (set_variable_of o index v s)
  scoped_built None index v s h = h
  scoped_built (Some n) index v s h = built_same p s _ refl refl h

  module _ (x : FlatBody) (acts : List (Act FlatBody)) (st : State) (b : BodyWritten p x) (g : IsOf p st.store x.self x.class) (h : BuiltStore p st.store) where
    store_built : (place : Variable) (v : Value) → Written p x.code (instruction.Store place) → MachBuilt p (flat_store p codes room place v x acts st)
    unfolding with_scoped_variable
    store_built (Own index) v w = h
    store_built (Scope up index) v w = scoped_built (scope_up st.store up x.scope) index v st.store h
    store_built (Instance index) v w = self_built x.self index v x.class st.store g (subst (IsDeclared p) (sym b) w) h
    store_built (ClassInstance index) v w = h
    store_built (Shared index) v w = h

    leaves_built : (home : Bool) (v : Value) → MachBuilt p (flat_leaves p codes room home v (record x { operands = but_last x.operands }) acts st)
    leaves_built true v = h
    leaves_built false v = (h, (refl, omega (arith, known.classes)))

    block_built : (code cells : ℕ) → MachBuilt p (Run (flat_given p codes room (next_object st.store) x) acts (record st { store = with_flat_block p codes room x code st.store; cells = cells }))
    unfolding with_flat_block
    block_built code cells = built_block p known.blocks (omega (arith, known.classes)) st.store _ h

    instruction_built : (i : Instruction) → Written p x.code i → MachBuilt p (flat_instruction p codes room i x acts st)
    instruction_built (instruction.PushConstant c) w = h
    instruction_built instruction.PushSelf w = h
    instruction_built (instruction.PushVariable v) w = h
    instruction_built (instruction.Store v) w = store_built v (last_operand x.operands) w
    instruction_built instruction.Pop w = h
    instruction_built instruction.Dup w = h
    instruction_built (instruction.Send selector count) w = (h, tt)
    instruction_built (instruction.SuperSend selector count) w = (h, tt)
    instruction_built (instruction.MakeBlock code) w = used_built p 2 st _ _ h (λ c. block_built code c)
    instruction_built instruction.MethodReturn w = h
    instruction_built instruction.HomeReturn w = leaves_built (stands x.home (BodyMark x.own ∷ marks flat_number acts)) (last_operand x.operands)
    instruction_built instruction.BlockEnd w = h

    next_built : (o : Option Instruction) → ((i : Instruction) → o ≡ Some i → Written p x.code i) → MachBuilt p (flat_next p codes room o x acts st)
    next_built None w = h
    next_built (Some i) w = instruction_built i (w i refl)

    written_at : (i : Instruction) → instruction_at codes x ≡ Some i → Written p x.code i
    unfolding instruction_at
    written_at i e = in_list (Written p x.code) (code_at codes x.code).instructions x.position i (knows.code x.code) e

    instruct_built : MachBuilt p (flat_next p codes room (instruction_at codes x) x acts st)
    instruct_built = next_built (instruction_at codes x) written_at

  -- ---- a body that is opened

  scope_built : (b : Bool) (s : Store) (x : StoreScope) → BuiltStore p s → BuiltStore p (if b then record { objects = s.objects; closures = s.closures; scopes = s.scopes ++ x ∷ [] } else s)
  scope_built true s x h = built_same p s _ refl refl h
  scope_built false s x h = h

  opens : (x : Opening) (st : State) → BuiltStore p st.store → BuiltStore p (F.opened_store x st.store)
  opens x st h = scope_built (any_captured (code_at codes x.code).captured) st.store _ h

  -- ---- a run

  abbrev TopBuilt : Top FlatBody → Type 0
  TopBuilt (On target xs m) = MachBuilt p m
  TopBuilt (Ended e st) = BuiltStore p st.store

  super_is : (s : Store) (u : Use) → UseFits p s u → SuperIs p s u
  super_is s (SuperTo class selector x args env) f = f
  super_is s u f = tt

  opened_built : (xs : List Initializer) (st : State) → BuiltStore p st.store → TopBuilt (open_next F p xs st)
  opened_built [] st h = h
  opened_built (x ∷ xs) st h = open_built p classes knows known opens (initializer_opening p x st.next) [] st h

  kept_built : (target : Option ℕ) (v : Value) (st : State) → BuiltStore p st.store → BuiltStore p (kept_value target v st).store
  kept_built None v st h = h
  kept_built (Some place) v st h = h

  top_built : (t : Top FlatBody) → TopFits p literals classes t → TopSound p t → TopBuilt t → TopBuilt (top_step F p t)
  top_built (On target xs (Run x acts st)) f g h = instruct_built x acts st g.1 f.0.1.0 h
  top_built (On target xs (Settle o acts st)) f g h = settle_built p classes knows known opens o acts st g.1 h
  top_built (On target xs (Begin u acts st)) f g h = begin_built p classes knows known opens u acts st g.1 (super_is st.store u f.0.1) h.0 h.1
  top_built (On target xs (Over (Answer w) st)) f g h = opened_built xs (kept_value target w st) (kept_built target w st h)
  top_built (On target xs (Over (Go t w) st)) f g h = h
  top_built (On target xs (Over (Stop l) st)) f g h = h
  top_built (On target xs (Stuck st)) f g h = h
  top_built (Ended e st) f g h = h

  first_built : BuiltStore p (first_state p).store
  unfolding first_state
  first_built = known.literals

  step_last : (n : ℕ) (t : Top FlatBody) → top_iter F p (suc n) t ≡ top_step F p (top_iter F p n t)
  step_last zero t = refl
  step_last (suc n) t = step_last n (top_step F p t)

  run_built : Compilable p → (n : ℕ) → TopBuilt (top_iter F p n (opened_run F p))
  run_built ok zero = opened_built p.initializers (first_state p) first_built
  run_built ok (suc n) =
      subst TopBuilt (sym (step_last n (opened_run F p)))
      (top_built (top_iter F p n (opened_run F p)) (fits_at p ok literals classes n) (run_sound p literals classes knows ok n) (run_built ok n))

  state_built : (t : Top FlatBody) → TopBuilt t → BuiltStore p (top_state t).store
  state_built (On target xs (Run x acts st)) h = h
  state_built (On target xs (Settle o acts st)) h = h
  state_built (On target xs (Begin u acts st)) h = h.0
  state_built (On target xs (Over o st)) h = h
  state_built (On target xs (Stuck st)) h = h
  state_built (Ended e st) h = h

  pub built_at : Compilable p → (n : ℕ) → BuiltStore p (top_state (top_iter F p n (opened_run F p))).store
  built_at ok n = state_built (top_iter F p n (opened_run F p)) (run_built ok n)

pub objects_are_built : ObjectsAreBuilt
objects_are_built p ok literals classes knows known n = built_at p literals classes knows known ok n
