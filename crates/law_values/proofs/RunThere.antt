-- Each object number in hand names an object: instructions, openings and a whole run of the flat machine.
use Rattle.std.proofs.Common.{◌≡◌, ℕ, zero, suc, ◌+◌, ◌<◌, ◌≤◌, length, get_or, reverse, slice_set, List, [], ◌∷◌, ◌++◌, Option, Some, None, Bool, true, false, refl, sym, subst, arith, nat_lt, if◌then◌else◌}
use Rattle.std.proofs.lemmas.List.{length-append}
use Rattle.object_heap.specs.declared.value.Value.{Value}
use Rattle.object_heap.specs.declared.value.Value.TheVariants.{Nil, True, False, Integer, Character, Symbol, Class, Meta, Transcript, Object}
use Rattle.object_heap.specs.declared.value.Closure.{Closure}
use Rattle.object_heap.specs.declared.trouble.Trouble.TheVariants.{HomeHasReturned}
use Rattle.object_heap.specs.Store.{Store, Scope as StoreScope, object_at, no_scope, scope_at, with_variable, block_object}
use Rattle.st_code.specs.declared.instruction.Variable.{Variable}
use Rattle.st_code.specs.declared.instruction.Variable.TheVariants.{Own, Scope, Instance, ClassInstance, Shared}
use Rattle.st_code.specs.declared.instruction.Instruction.{Instruction}
use Rattle.st_code.specs.declared.instruction.Instruction.TheVariants as instruction
use Rattle.st_code.specs.Program.{Program, Initializer, body_at}
use Rattle.st_code.specs.Compiled.{Compiled, compile_of, any_captured, constant_value}
use Rattle.st_code.specs.BuiltIns.{block_class}
use Rattle.st_collections.specs.Actions.{next_object}
use Rattle.st_rules.specs.State.{State, Answer, Go, Stop, BodyMark, with_store, scope_up, scoped_variable, with_scoped_variable, first_variables, stands}
use Rattle.st_rules.specs.Ends.{Opening, initializer_opening, with_self_slot}
use Rattle.st_rules.specs.Runs.{first_state, kept_value}
use Rattle.st_rules.specs.Machine.{Act, Run, Settle, Begin, Over, Stuck, Bodies, marks}
use Rattle.st_rules.specs.Flat.{FlatBody, flat_number, code_at, own_variables, captured_variables, operand_at, with_operand, last_operand, but_last, operands_taken, operand_pushed, flat_given, flat_read, flat_store, with_flat_block, flat_leaves, flat_instruction, flat_next, instruction_at, greatest_width, opened_variables}
use Rattle.st_rules.specs.Turns.{Top, On, Ended, open_next, top_step, top_iter, opened_run}
use Rattle.st_rules.specs.Flattened.{flat_of}
use Rattle.law_values.specs.BuiltRun.{top_state}
use Rattle.law_values.specs.KnownNumbers.{Has, AllHave, ScopesHave, ClosuresHave, BodyHas, ActsHave, StateHas, MachHas, TopHas, NamesLiteral, SelvesHave, KnowsNumbers}
use Rattle.law_values.proofs.ValuesThere.{has_later, all_later, objects_later, scopes_later, closures_later, body_later, acts_later, get_has, objects_append, set_has, nils_have, reverse_has, grown_slot}
use Rattle.law_values.proofs.RowsThere.{slot_has}
use Rattle.st_rules.proofs.SharedStands.{fetched_is}
use Rattle.law_values.proofs.MachineThere.{Here, size, used_has, grown_here, OpeningHas, open_has, begin_has, settle_has}

module _ (C : ℕ) (low : 29 < C) where
  -- ---- variables and operands

  module _ (k : ℕ) where
    first_have : (captured : List Bool) (args : List Value) → AllHave C k args → AllHave C k (first_variables captured args)
    unfolding first_variables
    first_have [] args g = tt
    first_have (c ∷ captured) [] g = (tt, first_have captured [] tt)
    first_have (c ∷ captured) (v ∷ args) g = (g.0, first_have captured args g.1)

    own_have : (captured : List Bool) (vs : List Value) → AllHave C k vs → AllHave C k (own_variables captured vs)
    unfolding own_variables
    own_have [] vs g = tt
    own_have (c ∷ captured) [] g = tt
    own_have (true ∷ captured) (v ∷ vs) g = own_have captured vs g.1
    own_have (false ∷ captured) (v ∷ vs) g = (g.0, own_have captured vs g.1)

    captured_have : (captured : List Bool) (vs : List Value) → AllHave C k vs → AllHave C k (captured_variables captured vs)
    unfolding captured_variables
    captured_have [] vs g = tt
    captured_have (c ∷ captured) [] g = tt
    captured_have (true ∷ captured) (v ∷ vs) g = (g.0, captured_have captured vs g.1)
    captured_have (false ∷ captured) (v ∷ vs) g = captured_have captured vs g.1

    scopes_append : (ss ts : List StoreScope) → ScopesHave C k ss → ScopesHave C k ts → ScopesHave C k (ss ++ ts)
    scopes_append [] ts g i = i
    scopes_append (s ∷ ss) ts g i = (g.0, scopes_append ss ts g.1 i)

    scopes_set : (ss : List StoreScope) (n : ℕ) (s : StoreScope) → ScopesHave C k ss → AllHave C k s.variables → ScopesHave C k (slice_set ss n s)
    scopes_set [] n s g i = tt
    scopes_set (t ∷ ss) zero s g i = (i, g.1)
    scopes_set (t ∷ ss) (suc n) s g i = (g.0, scopes_set ss n s g.1 i)

    scope_has : (ss : List StoreScope) (n : ℕ) → ScopesHave C k ss → AllHave C k (get_or ss n no_scope).variables
    scope_has [] n g = tt
    scope_has (s ∷ ss) zero g = g.0
    scope_has (s ∷ ss) (suc n) g = scope_has ss n g.1

    closures_append : (cs ds : List Closure) → ClosuresHave C k cs → ClosuresHave C k ds → ClosuresHave C k (cs ++ ds)
    closures_append [] ds g i = i
    closures_append (c ∷ cs) ds g i = (g.0, closures_append cs ds g.1 i)

    last_has : (ops : List Value) → AllHave C k ops → Has C k (last_operand ops)
    last_has [] g = tt
    last_has (v ∷ ops) g = g.0

    but_has : (ops : List Value) → AllHave C k ops → AllHave C k (but_last ops)
    but_has [] g = tt
    but_has (v ∷ ops) g = g.1

    pushed_has : (room : ℕ) (v : Value) (ops : List Value) → Has C k v → AllHave C k ops → AllHave C k (operand_pushed room v ops)
    pushed_has room v ops g i = go (nat_lt (length ops) room)
      where
        go : (b : Bool) → AllHave C k (if b then v ∷ ops else ops)
        go true = (g, i)
        go false = i

    taken_have : (n : ℕ) (ops args : List Value) → AllHave C k ops → AllHave C k args → AllHave C k (operands_taken n ops args).args × AllHave C k (operands_taken n ops args).below
    taken_have zero ops args g i = (i, g)
    taken_have (suc n) ops args g i = taken_have n (but_last ops) (last_operand ops ∷ args) (but_has ops g) (last_has ops g, i)

    operand_has : (i : ℕ) (ops : List Value) → AllHave C k ops → Has C k (operand_at i ops)
    unfolding operand_at
    operand_has i ops g = get_has C low k (reverse ops) i (reverse_has C low k ops g)

    with_operand_have : (i : ℕ) (v : Value) (ops : List Value) → Has C k v → AllHave C k ops → AllHave C k (with_operand i v ops)
    unfolding with_operand
    with_operand_have i v ops g h = reverse_has C low k (slice_set (reverse ops) i v) (set_has C low k (reverse ops) i v (reverse_has C low k ops h) g)

  abbrev variable_of : Option ℕ → ℕ → Store → Value
  variable_of None index s = Nil
  variable_of (Some scope) index s = get_or (scope_at scope s).variables index Nil

  abbrev set_variable_of : Option ℕ → ℕ → Value → Store → Store
  set_variable_of None index v s = s
  set_variable_of (Some scope) index v s = with_variable scope index v s

  module _ (p : Program) (known : KnowsNumbers C p) where
    abbrev F : Bodies FlatBody
    F = flat_of p

    abbrev codes : List Compiled
    codes = compile_of p

    abbrev room : ℕ
    room = greatest_width (compile_of p)

    -- ---- a body that is opened

    same_objects : (b : Bool) (s : Store) (x : StoreScope) → (if b then record { objects = s.objects; closures = s.closures; scopes = s.scopes ++ x ∷ [] } else s) ≡ record { objects = s.objects; closures = s.closures; scopes = if b then s.scopes ++ x ∷ [] else s.scopes }
    same_objects true s x = refl
    same_objects false s x = refl

    scopes_or : (b : Bool) (ss : List StoreScope) (x : StoreScope) (k : ℕ) → ScopesHave C k ss → AllHave C k x.variables → ScopesHave C k (if b then ss ++ x ∷ [] else ss)
    scopes_or true ss x k g i = scopes_append k ss (x ∷ []) g (i, tt)
    scopes_or false ss x k g i = g

    opens : (x : Opening) (acts : List (Act FlatBody)) (st : State) → Here C low p acts st → OpeningHas C low p known (size C low st) x → MachHas C p (Run (F.opened_body x st.store) acts (with_store st (F.opened_store x st.store)))
    opens x acts st h o =
        let captured = (code_at codes x.code).captured in
        let vs = opened_variables p codes room x in
        let all = first_have (size C low st) captured x.arguments o.arguments in
        let sc : StoreScope = record { code = x.code; outer = x.outer; variables = captured_variables captured vs } in
        let b = any_captured captured in
        let scopes = scopes_or b st.store.scopes sc (size C low st) h.0.2 (captured_have (size C low st) captured vs all) in
        subst (λ s. MachHas C p (Run (F.opened_body x st.store) acts (with_store st s))) (sym (same_objects b st.store sc))
        ((h.0.0, h.0.1, scopes, h.0.3, h.0.4), (o.self, o.class, reverse_has C low (size C low st) (own_variables captured vs) (own_have (size C low st) captured vs all), o.env), h.1)

    given : (v : Value) (x : FlatBody) (k : ℕ) → Has C k v → BodyHas C k x → BodyHas C k (F.given v x)
    given v x k g h = (h.0, h.1, pushed_has k room v x.operands g h.2, h.3)

    -- ---- instructions

    -- a body that goes on
    abbrev pub Goes : FlatBody → List (Act FlatBody) → State → Type 0
    Goes x acts st = StateHas C p st × BodyHas C (size C low st) x × ActsHave C (size C low st) acts

    variable_has : (o : Option ℕ) (index : ℕ) (s : Store) → ScopesHave C (length s.objects) s.scopes → Has C (length s.objects) (variable_of o index s)
    variable_has None index s g = tt
    variable_has (Some scope) index s g = get_has C low (length s.objects) (scope_at scope s).variables index (scope_has (length s.objects) s.scopes scope g)

    read_has : (v : Variable) (x : FlatBody) (acts : List (Act FlatBody)) (st : State) → Goes x acts st → Has C (size C low st) (flat_read p codes room v x st)
    unfolding scoped_variable
    read_has (Own index) x acts st h = operand_has (size C low st) index x.operands h.1.2
    read_has (Scope up index) x acts st h = variable_has (scope_up st.store up x.scope) index st.store h.0.2
    read_has (Instance index) x acts st h = slot_has C low p st.store h.0.1 x.self index
    read_has (ClassInstance index) x acts st h = get_has C low (size C low st) st.variables _ h.0.4
    read_has (Shared index) x acts st h = get_has C low (size C low st) st.variables index h.0.4

    moved : (x : FlatBody) (ops : List Value) (n k : ℕ) → BodyHas C k x → AllHave C k ops → BodyHas C k (record x { operands = ops; position = n })
    moved x ops n k h g = (h.0, h.1, g, h.3)

    set_scopes : (o : Option ℕ) (index : ℕ) (v : Value) (s : Store) → ScopesHave C (length s.objects) s.scopes → Has C (length s.objects) v → ScopesHave C (length s.objects) (set_variable_of o index v s).scopes
    set_scopes None index v s g i = g
    set_scopes (Some n) index v s g i = scopes_set (length s.objects) s.scopes n _ g (set_has C low (length s.objects) (scope_at n s).variables index v (scope_has (length s.objects) s.scopes n g) i)

    scoped_here : (o : Option ℕ) (index : ℕ) (v : Value) (x : FlatBody) (acts : List (Act FlatBody)) (st : State) → Goes x acts st → Has C (size C low st) v → Goes x acts (record st { store = set_variable_of o index v st.store })
    scoped_here None index v x acts st h g = h
    scoped_here (Some n) index v x acts st h g = ((h.0.0, h.0.1, set_scopes (Some n) index v st.store h.0.2 g, h.0.3, h.0.4), h.1, h.2)

    slot_here : (self : Value) (index : ℕ) (v : Value) (x : FlatBody) (acts : List (Act FlatBody)) (st : State) → Goes x acts st → Has C (size C low st) v → Goes x acts (record st { store = with_self_slot self index v st.store })
    slot_here (Object n) index v x acts st h g =
        let e = grown_slot C low st.store h.0.1 n index v g in
        let y = grown_here C low p acts st _ (h.0, h.2) e in
        (y.0, body_later C low (size C low st) _ e.more x h.1, y.1)
    slot_here Nil index v x acts st h g = h
    slot_here True index v x acts st h g = h
    slot_here False index v x acts st h g = h
    slot_here (Integer n) index v x acts st h g = h
    slot_here (Character c) index v x acts st h g = h
    slot_here (Symbol n) index v x acts st h g = h
    slot_here (Class c) index v x acts st h g = h
    slot_here (Meta c) index v x acts st h g = h
    slot_here Transcript index v x acts st h g = h

    shared_here : (i : ℕ) (v : Value) (x : FlatBody) (acts : List (Act FlatBody)) (st : State) → Goes x acts st → Has C (size C low st) v → Goes x acts (record st { variables = slice_set st.variables i v })
    shared_here i v x acts st h g = ((h.0.0, h.0.1, h.0.2, h.0.3, set_has C low (size C low st) st.variables i v h.0.4 g), h.1, h.2)

    store_has : (place : Variable) (v : Value) (x : FlatBody) (acts : List (Act FlatBody)) (st : State) → Goes x acts st → Has C (size C low st) v → MachHas C p (flat_store p codes room place v x acts st)
    unfolding with_scoped_variable
    store_has (Own index) v x acts st h g = (h.0, (h.1.0, h.1.1, with_operand_have (size C low st) index v x.operands g h.1.2, h.1.3), h.2)
    store_has (Scope up index) v x acts st h g = scoped_here (scope_up st.store up x.scope) index v x acts st h g
    store_has (Instance index) v x acts st h g = slot_here x.self index v x acts st h g
    store_has (ClassInstance index) v x acts st h g = shared_here _ v x acts st h g
    store_has (Shared index) v x acts st h g = shared_here index v x acts st h g

    pushed_here : (v : Value) (x : FlatBody) (acts : List (Act FlatBody)) (st : State) → Goes x acts st → Has C (size C low st) v → MachHas C p (Run (flat_given p codes room v x) acts st)
    pushed_here v x acts st h g = (h.0, given v x (size C low st) g h.1, h.2)

    leaves_has : (b : Bool) (v : Value) (x : FlatBody) (acts : List (Act FlatBody)) (st : State) → Goes x acts st → Has C (size C low st) v → MachHas C p (flat_leaves p codes room b v x acts st)
    leaves_has true v x acts st h g = (h.0, (tt, g), (h.1, h.2))
    leaves_has false v x acts st h g = (h.0, ((omega (arith, known.troubles HomeHasReturned, h.0.0), tt), h.1.3), (h.1, h.2))

    block_here : (code : ℕ) (x : FlatBody) (acts : List (Act FlatBody)) (st : State) → Goes x acts st → MachHas C p (Run (flat_given p codes room (next_object st.store) x) acts (record st { store = with_flat_block p codes room x code st.store }))
    unfolding with_flat_block
    block_here code x acts st h =
        let k = size C low st in
        let o = block_object block_class (length st.store.closures) in
        let c : Closure = record { code = code; class = x.class; receiver = x.self; scope = x.scope; home = x.home } in
        let e : length (st.store.objects ++ o ∷ []) ≡ k + 1 = length-append st.store.objects (o ∷ []) in
        let j = length (st.store.objects ++ o ∷ []) in
        let le : k ≤ j = omega (arith, e) in
        let n : k < j = omega (arith, e) in
        let b = body_later C low k j le x h.1 in (
          (
            omega (arith, h.0.0, le),
            objects_append C low j st.store.objects (o ∷ []) (objects_later C low k j le st.store.objects h.0.1) (tt, tt),
            scopes_later C low k j le st.store.scopes h.0.2,
            closures_append j st.store.closures (c ∷ []) (closures_later C low k j le st.store.closures h.0.3) ((b.0, b.1), tt),
            all_later C low k j le st.variables h.0.4,
          ),
          given (next_object st.store) x j n b,
          acts_later C low k j le acts h.2,
        )

    instruction_has : (i : Instruction) (x : FlatBody) (acts : List (Act FlatBody)) (st : State) → Goes x acts st → NamesLiteral C (length p.literals) i → MachHas C p (flat_instruction p codes room i x acts st)
    instruction_has (instruction.PushConstant c) x acts st h n = pushed_here (constant_value c) x acts st h (has_later C low (length p.literals) (size C low st) h.0.0 (constant_value c) n)
    instruction_has instruction.PushSelf x acts st h n = pushed_here x.self x acts st h h.1.0
    instruction_has (instruction.PushVariable v) x acts st h n = pushed_here (flat_read p codes room v x st) x acts st h (read_has v x acts st h)
    instruction_has (instruction.Store v) x acts st h n = store_has v (last_operand x.operands) x acts st h (last_has (size C low st) x.operands h.1.2)
    instruction_has instruction.Pop x acts st h n = (h.0, (h.1.0, h.1.1, but_has (size C low st) x.operands h.1.2, h.1.3), h.2)
    instruction_has instruction.Dup x acts st h n = pushed_here (last_operand x.operands) x acts st h (last_has (size C low st) x.operands h.1.2)
    instruction_has (instruction.Send selector count) x acts st h n =
        let t = taken_have (size C low st) count x.operands [] h.1.2 tt in
        let below = (operands_taken count x.operands []).below in
        (h.0, (last_has (size C low st) below t.1, t.0, h.1.3), ((h.1.0, h.1.1, but_has (size C low st) below t.1, h.1.3), h.2))
    instruction_has (instruction.SuperSend selector count) x acts st h n =
        let t = taken_have (size C low st) count x.operands [] h.1.2 tt in
        let below = (operands_taken count x.operands []).below in
        (h.0, (last_has (size C low st) below t.1, t.0, h.1.3), ((h.1.0, h.1.1, but_has (size C low st) below t.1, h.1.3), h.2))
    instruction_has (instruction.MakeBlock code) x acts st h n = used_has C low p 2 st _ _ (h.0, tt, (h.1, h.2)) (λ c. block_here code x acts (record st { cells = c }) h)
    instruction_has instruction.MethodReturn x acts st h n = (h.0, last_has (size C low st) x.operands h.1.2, h.2)
    instruction_has instruction.HomeReturn x acts st h n =
        leaves_has (stands x.home (BodyMark x.own ∷ marks flat_number acts)) (last_operand x.operands) (record x { operands = but_last x.operands }) acts st (h.0, (h.1.0, h.1.1, but_has (size C low st) x.operands h.1.2, h.1.3), h.2) (last_has (size C low st) x.operands h.1.2)
    instruction_has instruction.BlockEnd x acts st h n = (h.0, last_has (size C low st) x.operands h.1.2, h.2)

    next_has : (o : Option Instruction) (x : FlatBody) (acts : List (Act FlatBody)) (st : State) → instruction_at codes x ≡ o → Goes x acts st → MachHas C p (flat_next p codes room o x acts st)
    next_has None x acts st e h = (h.0, tt, h.2)
    next_has (Some i) x acts st e h = instruction_has i x acts st h (fetched_is (NamesLiteral C (length p.literals)) codes x i known.constants e)

    -- ---- a run

    abbrev pub TopKeeps : Top FlatBody → Type 0
    TopKeeps (On target xs m) = MachHas C p m × SelvesHave C (length p.literals) xs
    TopKeeps (Ended e st) = StateHas C p st

    pub kept_has : (target : Option ℕ) (v : Value) (st : State) → StateHas C p st → Has C (size C low st) v → StateHas C p (kept_value target v st)
    kept_has None v st h g = h
    kept_has (Some place) v st h g = (h.0, h.1, h.2, h.3, set_has C low (size C low st) st.variables place v h.4 g)

    pub opened_keeps : (xs : List Initializer) (st : State) → StateHas C p st → SelvesHave C (length p.literals) xs → TopKeeps (open_next F p xs st)
    opened_keeps [] st h g = h
    opened_keeps (x ∷ xs) st h g =
        (open_has C low p known opens (initializer_opening p x st.next) [] st (h, tt) (record { self = has_later C low (length p.literals) (size C low st) h.0 x.self g.0; class = has_later C low (length p.literals) (size C low st) h.0 (body_at p x.code).class (known.classes x.code); arguments = tt; env = tt }), g.1)

    abbrev Classed : Top FlatBody → Type 0
    Classed t = (n : ℕ) → (object_at n (top_state t).store).class < C

    pub top_keeps : (t : Top FlatBody) → Classed t → TopKeeps t → TopKeeps (top_step F p t)
    top_keeps (On target xs (Run x acts st)) cl h = (next_has (instruction_at codes x) x acts st refl h.0, h.1)
    top_keeps (On target xs (Settle o acts st)) cl h = (settle_has C low p known opens given o acts st h.0, h.1)
    top_keeps (On target xs (Begin u acts st)) cl h = (begin_has C low p known opens u acts st cl (h.0.0, h.0.2) h.0.1, h.1)
    top_keeps (On target xs (Over (Answer v) st)) cl h = opened_keeps xs (kept_value target v st) (kept_has target v st h.0.0 h.0.1) h.1
    top_keeps (On target xs (Over (Go g v) st)) cl h = h.0.0
    top_keeps (On target xs (Over (Stop l) st)) cl h = h.0.0
    top_keeps (On target xs (Stuck st)) cl h = h.0
    top_keeps (Ended e st) cl h = h

    iter_keeps : (n : ℕ) (t : Top FlatBody) → ((k : ℕ) → Classed (top_iter F p k t)) → TopKeeps t → TopKeeps (top_iter F p n t)
    iter_keeps zero t cl h = h
    iter_keeps (suc n) t cl h = iter_keeps n (top_step F p t) (λ k. cl (suc k)) (top_keeps t (cl 0) h)

    pub first_has : StateHas C p (first_state p)
    unfolding first_state
    first_has = (omega arith, known.literals, tt, tt, nils_have C low (length p.literals) p.variables)

    top_has : (t : Top FlatBody) → TopKeeps t → TopHas C p t
    top_has (On target xs m) h = h.0
    top_has (Ended e st) h = h

    pub run_has : ((k : ℕ) → Classed (top_iter F p k (opened_run F p))) → (n : ℕ) → TopHas C p (top_iter F p n (opened_run F p))
    run_has cl n = top_has (top_iter F p n (opened_run F p)) (iter_keeps n (opened_run F p) cl (opened_keeps p.initializers (first_state p) first_has known.selves))
