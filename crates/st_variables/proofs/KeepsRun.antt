-- Each object keeps its slots: instructions, openings and a whole run of the flat machine.
use Rattle.std.proofs.Common.{◌≡◌, ℕ, zero, suc, ◌<◌, length, List, [], ◌∷◌, ◌++◌, Option, Some, None, Bool, true, false, refl, sym, ap, ◌∙◌, subst, arith, if◌then◌else◌}
use Rattle.std.proofs.lemmas.List.{get_or_append_left}
use Rattle.object_heap.specs.declared.value.Value.{Value}
use Rattle.object_heap.specs.declared.value.Value.TheVariants.{Object}
use Rattle.object_heap.specs.declared.value.Closure.{Closure}
use Rattle.object_heap.specs.Store.{Store, Object as HeapObject, Scope as StoreScope, no_object, object_at, with_slot, with_variable, block_object}
use Rattle.st_code.specs.declared.instruction.Variable.{Variable}
use Rattle.st_code.specs.declared.instruction.Variable.TheVariants.{Own, Scope, Instance, ClassInstance, Shared}
use Rattle.st_code.specs.declared.instruction.Instruction.{Instruction}
use Rattle.st_code.specs.declared.instruction.Instruction.TheVariants as instruction
use Rattle.st_code.specs.Program.{Program, Initializer, body_at}
use Rattle.st_code.specs.Compiled.{Compiled, compile_of, any_captured}
use Rattle.st_code.specs.BuiltIns.{block_class}
use Rattle.st_collections.specs.Actions.{next_object}
use Rattle.st_rules.specs.State.{State, Answer, Go, Stop, BodyMark, with_store, scope_up, with_scoped_variable, stands}
use Rattle.st_rules.specs.Ends.{Opening, initializer_opening, with_self_slot}
use Rattle.st_rules.specs.Runs.{first_state, kept_value}
use Rattle.st_rules.specs.Machine.{Act, Run, Settle, Begin, Over, Stuck, Bodies, marks}
use Rattle.st_rules.specs.Flat.{FlatBody, flat_number, code_at, captured_variables, last_operand, but_last, flat_given, flat_store, with_flat_block, flat_leaves, flat_instruction, flat_next, instruction_at, greatest_width, opened_variables}
use Rattle.st_rules.specs.Turns.{Top, On, Ended, open_next, top_step, top_iter, opened_run}
use Rattle.st_rules.specs.Flattened.{flat_of}
use Rattle.st_rules.specs.Compilable.{Compilable}
use Rattle.st_rules.specs.Objects.{StateHas, KnowsLiterals}
use Rattle.st_rules.specs.Selves.{KnowsClasses}
use Rattle.st_rules.proofs.ValuesHave.{set_class as class_kept}
use Rattle.st_rules.proofs.SharedStands.{in_list}
use Rattle.st_rules.proofs.ObjectsMachine.{Here, size}
use Rattle.st_rules.proofs.ObjectsRun.{Goes, TopKeeps, kept_has, first_has}
use Rattle.st_rules.proofs.SelvesRun.{TopFits, both}
use Rattle.st_variables.specs.Known.{AllFull, Knows, KnowsVariables}
use Rattle.st_variables.proofs.Wholes.{ClosuresAre, not_of_file, full_append, slot_full}
use Rattle.st_variables.proofs.KeepsMachine.{BodyIs, Rest, MachKeeps, acts_later, used_keep, open_keep, begin_keep, settle_keep}

abbrev set_variable_of : Option ℕ → ℕ → Value → Store → Store
set_variable_of None index v s = s
set_variable_of (Some scope) index v s = with_variable scope index v s

module _ (p : Program) (known : KnowsVariables p) (literals : KnowsLiterals p) (knows : KnowsClasses p) where
  abbrev F : Bodies FlatBody
  F = flat_of p

  abbrev codes : List Compiled
  codes = compile_of p

  abbrev room : ℕ
  room = greatest_width (compile_of p)

  abbrev Fit : FlatBody → List (Act FlatBody) → State → Type 0
  Fit x acts st = Rest p acts st × BodyIs p x

  -- what the next instruction names is known
  pub fetched : (x : FlatBody) (i : Instruction) → instruction_at codes x ≡ Some i → Knows p (body_at p x.code).class i
  unfolding instruction_at
  fetched x i e = in_list (Knows p (body_at p x.code).class) (code_at (compile_of p) x.code).instructions x.position i (known.own x.code) e

  -- ---- a Store

  rest_later : (acts : List (Act FlatBody)) (st : State) (s : Store) → Here p acts st → ((n : ℕ) → n < size st → (object_at n s).class ≡ (object_at n st.store).class) → AllFull p s.objects → ClosuresAre p s.closures → Rest p acts st → Rest p acts (record st { store = s })
  rest_later acts st s h classes f cs r = (f, (cs, acts_later p st.store s classes acts h.1 r.1.1))

  scoped_keep : (o : Option ℕ) (index : ℕ) (v : Value) (acts : List (Act FlatBody)) (st : State) → Here p acts st → Rest p acts st → Rest p acts (record st { store = set_variable_of o index v st.store })
  scoped_keep None index v acts st h r = r
  scoped_keep (Some n) index v acts st h r = rest_later acts st (with_variable n index v st.store) h (λ m l. refl) r.0 r.1.0 r

  slot_keep : (self : Value) (index : ℕ) (v : Value) (acts : List (Act FlatBody)) (st : State) → Here p acts st → Rest p acts st → Rest p acts (record st { store = with_self_slot self index v st.store })
  slot_keep (Object n) index v acts st h r = rest_later acts st (with_slot n index v st.store) h (λ m l. class_kept st.store.objects n m _ refl) (slot_full p known n index v st.store r.0) r.1.0 r
  slot_keep self index v acts st h r = r

  store_keep : (place : Variable) (v : Value) (x : FlatBody) (acts : List (Act FlatBody)) (st : State) → Goes p literals x acts st → Fit x acts st → MachKeeps p (flat_store p codes room place v x acts st)
  unfolding with_scoped_variable
  store_keep (Own index) v x acts st h f = f
  store_keep (Scope up index) v x acts st h f = (scoped_keep (scope_up st.store up x.scope) index v acts st (h.0, h.2) f.0, f.1)
  store_keep (Instance index) v x acts st h f = (slot_keep x.self index v acts st (h.0, h.2) f.0, f.1)
  store_keep (ClassInstance index) v x acts st h f = f
  store_keep (Shared index) v x acts st h f = f

  -- ---- blocks and returns

  closures_append : (cs ds : List Closure) → ClosuresAre p cs → ClosuresAre p ds → ClosuresAre p (cs ++ ds)
  closures_append [] ds g h = h
  closures_append (c ∷ cs) ds g h = (g.0, closures_append cs ds g.1 h)

  block_keep : (code : ℕ) (x : FlatBody) (acts : List (Act FlatBody)) (st : State) → Here p acts st → Fit x acts st → (body_at p code).class ≡ (body_at p x.code).class → MachKeeps p (Run (flat_given p codes room (next_object st.store) x) acts (record st { store = with_flat_block p codes room x code st.store }))
  unfolding with_flat_block
  block_keep code x acts st h f k =
      let o = block_object block_class (length st.store.closures) in
      let c : Closure = record { code = code; class = x.class; receiver = x.self; scope = x.scope; home = x.home } in
      let t : Store = record { objects = st.store.objects ++ o ∷ []; closures = st.store.closures ++ c ∷ []; scopes = st.store.scopes } in
      let classes : (m : ℕ) → m < size st → (object_at m t).class ≡ (object_at m st.store).class = λ m l. ap (λ (q : HeapObject). q.class) (get_or_append_left st.store.objects (o ∷ []) no_object m l) in
      let full = full_append p known st.store.objects (o ∷ []) f.0.0 ((λ e. absurd (not_of_file p known block_class (omega arith) e)), tt) in
      (rest_later acts st t h classes full (closures_append st.store.closures (c ∷ []) f.0.1.0 (f.1 ∙ sym k, tt)) f.0, f.1)

  leaves_keep : (b : Bool) (v : Value) (x : FlatBody) (acts : List (Act FlatBody)) (st : State) → Fit x acts st → MachKeeps p (flat_leaves p codes room b v x acts st)
  leaves_keep true v x acts st f = (f.0.0, (f.0.1.0, (f.1, f.0.1.1)))
  leaves_keep false v x acts st f = ((f.0.0, (f.0.1.0, (tt, f.0.1.1))), tt)

  -- ---- an instruction

  instruction_keep : (i : Instruction) (x : FlatBody) (acts : List (Act FlatBody)) (st : State) → Goes p literals x acts st → Fit x acts st → Knows p (body_at p x.code).class i → MachKeeps p (flat_instruction p codes room i x acts st)
  instruction_keep (instruction.PushConstant c) x acts st h f k = f
  instruction_keep instruction.PushSelf x acts st h f k = f
  instruction_keep (instruction.PushVariable v) x acts st h f k = f
  instruction_keep (instruction.Store v) x acts st h f k = store_keep v (last_operand x.operands) x acts st h f
  instruction_keep instruction.Pop x acts st h f k = f
  instruction_keep instruction.Dup x acts st h f k = f
  instruction_keep (instruction.Send selector count) x acts st h f k = ((f.0.0, (f.0.1.0, (f.1, f.0.1.1))), tt)
  instruction_keep (instruction.SuperSend selector count) x acts st h f k = ((f.0.0, (f.0.1.0, (f.1, f.0.1.1))), tt)
  instruction_keep (instruction.MakeBlock code) x acts st h f k =
      used_keep p 2 st _ _ (f.0.0, (f.0.1.0, (f.1, f.0.1.1))) (λ c. block_keep code x acts (record st { cells = c }) (h.0, h.2) f k)
  instruction_keep instruction.MethodReturn x acts st h f k = f.0
  instruction_keep instruction.HomeReturn x acts st h f k =
      leaves_keep (stands x.home (BodyMark x.own ∷ marks flat_number acts)) (last_operand x.operands) (record x { operands = but_last x.operands }) acts st f
  instruction_keep instruction.BlockEnd x acts st h f k = f.0

  next_keep : (o : Option Instruction) (x : FlatBody) (acts : List (Act FlatBody)) (st : State) → instruction_at codes x ≡ o → Goes p literals x acts st → Fit x acts st → MachKeeps p (flat_next p codes room o x acts st)
  next_keep None x acts st e h f = f.0
  next_keep (Some i) x acts st e h f = instruction_keep i x acts st h f (fetched x i e)

  -- ---- a body that is opened

  same_objects : (b : Bool) (s : Store) (x : StoreScope) → (if b then record { objects = s.objects; closures = s.closures; scopes = s.scopes ++ x ∷ [] } else s) ≡ record { objects = s.objects; closures = s.closures; scopes = if b then s.scopes ++ x ∷ [] else s.scopes }
  same_objects true s x = refl
  same_objects false s x = refl

  opens : (x : Opening) (acts : List (Act FlatBody)) (st : State) → Here p acts st → Rest p acts st → x.class ≡ (body_at p x.code).class → MachKeeps p (Run (F.opened_body x st.store) acts (with_store st (F.opened_store x st.store)))
  opens x acts st h r o =
      let captured = (code_at codes x.code).captured in
      let sc : StoreScope = record { code = x.code; outer = x.outer; variables = captured_variables captured (opened_variables p codes room x) } in
      let b = any_captured captured in
      let t : Store = record { objects = st.store.objects; closures = st.store.closures; scopes = if b then st.store.scopes ++ sc ∷ [] else st.store.scopes } in
      subst (λ s. MachKeeps p (Run (F.opened_body x st.store) acts (with_store st s))) (sym (same_objects b st.store sc)) (rest_later acts st t h (λ n l. refl) r.0 r.1.0 r, o)

  -- ---- a run

  abbrev pub TopWhole : Top FlatBody → Type 0
  TopWhole (On target xs m) = MachKeeps p m
  TopWhole (Ended e st) = AllFull p st.store.objects

  opened_whole : (xs : List Initializer) (st : State) → StateHas p st → AllFull p st.store.objects → ClosuresAre p st.store.closures → TopWhole (open_next F p xs st)
  opened_whole [] st h f cs = f
  opened_whole (x ∷ xs) st h f cs = open_keep p known literals knows opens (initializer_opening p x st.next) [] st (h, tt) (f, (cs, tt)) refl

  next_opened : (target : Option ℕ) (v : Value) (xs : List Initializer) (st : State) → StateHas p (kept_value target v st) → AllFull p st.store.objects → ClosuresAre p st.store.closures → TopWhole (open_next F p xs (kept_value target v st))
  next_opened None v xs st h f cs = opened_whole xs st h f cs
  next_opened (Some place) v xs st h f cs = opened_whole xs (kept_value (Some place) v st) h f cs

  top_whole : (t : Top FlatBody) → TopKeeps p literals t → TopFits p literals knows t → TopWhole t → TopWhole (top_step F p t)
  top_whole (On target xs (Run x acts st)) k w f = next_keep (instruction_at codes x) x acts st refl k.0 f
  top_whole (On target xs (Settle o acts st)) k w f = settle_keep p known literals knows opens o acts st f
  top_whole (On target xs (Begin u acts st)) k w f = begin_keep p known literals knows opens u acts st (k.0.0, k.0.2) k.0.1 f.0 w.0.1 f.1
  top_whole (On target xs (Over (Answer v) st)) k w f = next_opened target v xs st (kept_has p literals target v st k.0.0 k.0.1) f.0 f.1
  top_whole (On target xs (Over (Go g v) st)) k w f = f.0
  top_whole (On target xs (Over (Stop l) st)) k w f = f.0
  top_whole (On target xs (Stuck st)) k w f = f
  top_whole (Ended e st) k w f = f

  module _ (ok : Compilable p) where
    abbrev at : ℕ → Top FlatBody
    at n = top_iter F p n (opened_run F p)

    step_last : (n : ℕ) (t : Top FlatBody) → top_iter F p (suc n) t ≡ top_step F p (top_iter F p n t)
    step_last zero t = refl
    step_last (suc n) t = step_last n (top_step F p t)

    literals_full : AllFull p (first_state p).store.objects
    unfolding first_state
    literals_full = known.literals

    first_closures : ClosuresAre p (first_state p).store.closures
    unfolding first_state
    first_closures = tt

    pub whole : (n : ℕ) → TopWhole (at n)
    whole zero = opened_whole p.initializers (first_state p) (first_has p literals) literals_full first_closures
    whole (suc n) =
        let b = both p literals knows ok n in
        subst TopWhole (sym (step_last n (opened_run F p))) (top_whole (at n) b.0 b.1 (whole n))
