-- Bodies of both machines: a value that is given, and each instruction.
use Rattle.std.proofs.Common.{◌≡◌, ℕ, zero, suc, ◌+◌, ◌-◌, ◌<◌, ◌≤◌, ◌⊎◌, inl, inr, List, [], ◌∷◌, ◌++◌, map, length, get_or, set, reverse, slice_get, Option, Some, None, Bool, true, false, refl, sym, ap, ◌∙◌, subst, arith, lt-ltb, nat_lt, if◌then◌else◌}
use Rattle.std.specs.Option.{option_map}
use Rattle.std.proofs.lemmas.Option.{slice_get-map}
use Rattle.std.proofs.lemmas.List.{length-append, length-reverse, map-append, length-map}
use Rattle.std.proofs.lemmas.Bool.Decides.{eqb_tells}
use Rattle.object_heap.specs.declared.value.Value.{Value}
use Rattle.object_heap.specs.declared.value.Value.TheVariants.{Object}
use Rattle.object_heap.specs.declared.value.Closure.{Closure}
use Rattle.object_heap.specs.Store.{Store, Scope, block_object, block_added, with_variable, variable_written}
use Rattle.st_code.specs.Program.{Program, Kind, Place, Scoped, Slot, ClassSlot, Shared, class_at}
use Rattle.st_code.specs.Code.{Instr, PushConstant, PushSelf, Pop, Dup, PushVariable, Store as StoreVariable, SendMessage, SendSuper, MakeBlock, MethodReturn, HomeReturn, BlockEnd}
use Rattle.st_code.specs.Compiled.{Compiled, count_uncaptured, is_captured, variable_at, instruction_of, compiled_body, compile_of}
use Rattle.st_code.specs.BuiltIns.{block_class}
use Rattle.st_collections.specs.Actions.{next_object}
use Rattle.st_collections.specs.Kinds.{slot_of, slots_of}
use Rattle.st_rules.specs.State.{State, Env, BodyMark, Frame, stands, scope_up, scoped_variable, with_scoped_variable}
use Rattle.st_rules.specs.Ends.{read_place, write_place, with_self_slot, with_block}
use Rattle.st_rules.specs.Machine.{Act, BodyAct, Mach, Run, marks}
use Rattle.st_rules.specs.Scoped.{ScopedBody, scoped_body, scoped_number, scoped_given, Taken as TakenArguments, TooFew, Takes, taken, pushed, sent, super_sent, leaves, instr}
use Rattle.st_rules.specs.Flat.{FlatBody, own_variables, instruction_at, with_operand, operands_taken, flat_given, flat_pushed, flat_read, flat_store as flat_stored, with_flat_block, flat_sent, flat_super_sent, flat_leaves, flat_instruction, greatest_width}
use Rattle.st_rules.specs.Compilable.{Named, Compilable}
use Rattle.st_rules.proofs.Variables.{captured_place, own_size, operand_read, operand_written, own_unchanged}
use Rattle.st_rules.proofs.SameRows.{with_rest}
use Rattle.st_rules.proofs.Flattening.{Places, scope_of, place_of, number_in, placed, flat_closures, flat_store, flat_state, standing_after, most, captured, whole, own_of, running_body, waiting_body, flat_acts, ScopesHold, ClosureHolds, ClosuresHold, StoreHolds, BodyHolds, ActsHold, Keeps, Follows, Goes, marks_same, acts_below}
use Rattle.st_rules.proofs.FlatControl.{used_follows}
use Rattle.st_rules.proofs.FlatScopes.{Agree, body_agrees, acts_agree, closures_agree, wrote_here, wrote_other, wrote_code, wrote_size, write_uncaptured, captured_at, kept_in, flat_wrote, write_captured}
use Rattle.st_rules.proofs.FlatVariables.{kind_at, variable_found, Reached, IsOwn, resolved, caught_read}
use Rattle.st_rules.proofs.FlatCode.{taken_off, most_least, code_is}

-- arguments that are there, before more operands
pub record TakesBefore (count : ℕ) (ops acc args below more : List Value) (r : Value) : Type 0 where
  pub taken_same : operands_taken count (ops ++ more) acc ≡ record { args = args; below = (r ∷ below) ++ more }
  pub sized : length ops ≡ count + suc (length below)

takes_args : (a b c d : List Value) → Takes a b ≡ Takes c d → a ≡ c
takes_args a b c d e = cc

takes_below : (a b c d : List Value) → Takes a b ≡ Takes c d → b ≡ d
takes_below a b c d e = cc

pub taken_before : (count : ℕ) (ops acc args below more : List Value) (r : Value) → taken count ops acc ≡ Takes args (r ∷ below) → TakesBefore count ops acc args below more r
taken_before zero ops acc args below more r e =
    let a = takes_args acc ops args (r ∷ below) e in
    let b = takes_below acc ops args (r ∷ below) e in
    record {
      taken_same = ap (λ us. record { args = us; below = ops ++ more }) a ∙ ap (λ us. record { args = args; below = us ++ more }) b;
      sized = ap length b ∙ omega arith;
    }
taken_before (suc count) [] acc args below more r e = let none : ⊥ = grind (arith, e) in absurd none
taken_before (suc count) (v ∷ ops) acc args below more r e =
    let h = taken_before count ops (v ∷ acc) args below more r e in
    record { taken_same = h.taken_same; sized = omega (arith, h.sized) }

-- a variable of a scope, where there is one
abbrev set_at : Option ℕ → ℕ → Value → Store → Store
set_at None index v s = s
set_at (Some scope) index v s = with_variable scope index v s

module _ (p : Program) where
  abbrev codes : List Compiled
  codes = compile_of p

  abbrev room : ℕ
  room = greatest_width (compile_of p)

  -- ---- a value that is given

  abbrev body_at_place : ScopedBody → ℕ → List Value → Option ℕ → FlatBody
  body_at_place x position operands place = record { code = x.frame.code; position = position; operands = operands; self = x.frame.self; class = x.frame.class; own = x.frame.own; home = x.frame.home; scope = place; env = x.env }

  pub own_length : (ss : List Scope) (pl : List (Option ℕ)) (fs : List Scope) (owners : List ℕ) (late standing : ℕ) (x : ScopedBody) → ScopesHold p ss pl fs owners → BodyHolds p ss late standing x → length (own_of p ss (number_in x.frame.scope)) ≡ count_uncaptured (captured p x.frame.code)
  own_length ss pl fs owners late standing x held h =
      ap (λ o. length (own_of p ss (number_in o))) h.is_scope
      ∙ own_size (captured p (scope_of ss h.scope).code) (scope_of ss h.scope).variables (held.each h.scope h.there).full
      ∙ ap (λ c. count_uncaptured (captured p c)) h.here

  pub given_is : (ss : List Scope) (pl : List (Option ℕ)) (v : Value) (x : ScopedBody) → length (own_of p ss (number_in x.frame.scope)) ≡ count_uncaptured (captured p x.frame.code) → suc (length x.rest) ≤ length (whole p x.frame.code) → count_uncaptured (captured p x.frame.code) + suc (length x.operands) ≤ room → flat_given p codes room v (waiting_body p ss pl x) ≡ running_body p ss pl (scoped_given v x)
  given_is ss pl v x own fits h =
      let ops : List Value = x.operands ++ reverse (own_of p ss (number_in x.frame.scope)) in
      let size : length ops ≡ length x.operands + count_uncaptured (captured p x.frame.code) = length-append x.operands (reverse (own_of p ss (number_in x.frame.scope))) ∙ ap (λ k. length x.operands + k) (length-reverse (own_of p ss (number_in x.frame.scope)) ∙ own) in
      let yes : nat_lt (length ops) room ≡ true = lt-ltb (length ops) room (omega (arith, size, h)) in
      let L = length (whole p x.frame.code) in
      let position : L - suc (length x.rest) + 1 ≡ L - length x.rest = omega (arith, fits) in
      ap (λ b. body_at_place x (L - suc (length x.rest) + 1) (if b then v ∷ ops else ops) (place_of pl x.frame.scope)) yes
      ∙ ap (λ n. body_at_place x n (v ∷ ops) (place_of pl x.frame.scope)) position

  pub body_gives : (g : Places) (v : Value) (x : ScopedBody) (acts : List (Act ScopedBody)) (st : State) → StoreHolds p g st.store.scopes st.store.closures → BodyHolds p st.store.scopes 1 (suc (length x.operands)) x → ActsHold p st.store.scopes (number_in x.frame.scope) acts → Follows p g (Run (flat_given p codes room v (waiting_body p st.store.scopes g.places x)) (flat_acts p st.store.scopes g.places acts) (flat_state g st)) (Run (scoped_given v x) acts st)
  body_gives g v x acts st held h a =
      let l = most_least x.rest (suc (length x.operands)) in (
        ap (λ y. Run y (flat_acts p st.store.scopes g.places acts) (flat_state g st)) (given_is st.store.scopes g.places v x (own_length st.store.scopes g.places g.scopes g.owners 1 (suc (length x.operands)) x held.scopes h) (omega (arith, h.fits)) (omega (arith, h.room, l))),
        held,
        record { scope = h.scope; is_scope = h.is_scope; there = h.there; here = h.here; known = h.known; before = h.before; left = h.left; fits = omega (arith, h.fits); sound = h.sound; room = h.room },
        a,
      )

  -- ---- instructions, in a frame with this scope

  module _ (ok : Compilable p) (g : Places) (st : State) (acts : List (Act ScopedBody)) (held : StoreHolds p g st.store.scopes st.store.closures) (n : ℕ) (there : n < length st.store.scopes) (kind : Kind) (self class : Value) (own home : ℕ) (env : Env) (known : (scope_of st.store.scopes n).code < length p.bodies) (stand : ActsHold p st.store.scopes n acts) where
    abbrev ss : List Scope
    ss = st.store.scopes

    abbrev pl : List (Option ℕ)
    pl = g.places

    abbrev code : ℕ
    code = (scope_of ss n).code

    abbrev f : Frame
    f = record { code = code; kind = kind; self = self; class = class; own = own; home = home; scope = Some n }

    abbrev body : List Value → List Instr → ScopedBody
    body ops rest = scoped_body f env ops rest

    abbrev Fs : State
    Fs = flat_state g st

    abbrev Fa : List (Act FlatBody)
    Fa = flat_acts p ss pl acts

    -- the flat body at the instruction before the rest
    abbrev at : List Value → List Instr → FlatBody
    at ops rest = waiting_body p ss pl (body ops rest)

    abbrev Here : List Value → Instr → List Instr → Type 0
    Here ops i rest = BodyHolds p ss 0 (length ops) (body ops (i ∷ rest))

    next_holds : (late standing : ℕ) (ops ops' : List Value) (i : Instr) (rest : List Instr) → Here ops i rest → standing ≡ standing_after i (length ops) → late ≤ 1 → BodyHolds p ss late standing (body ops' rest)
    next_holds late standing ops ops' i rest h e le =
        record {
          scope = n;
          is_scope = refl;
          there = there;
          here = refl;
          known = known;
          before = suc h.before;
          left = (taken_off h.before (whole p code) i rest h.left).left;
          fits = omega (arith, h.fits, le);
          sound = h.sound.1;
          room = omega (arith, h.room, ap (most rest) e);
        }

    own_here : (ops : List Value) (i : Instr) (rest : List Instr) → Here ops i rest → length (own_of p ss n) ≡ count_uncaptured (captured p code)
    own_here ops i rest h = own_length ss pl g.scopes g.owners 0 (length ops) (body ops (i ∷ rest)) held.scopes h

    pub fetched : (ops : List Value) (i : Instr) (rest : List Instr) → Here ops i rest → instruction_at codes (at ops rest) ≡ Some (instruction_of p code i)
    unfolding instruction_at compiled_body
    fetched ops i rest h =
        let t = taken_off h.before (whole p code) i rest h.left in
        let L = length (whole p code) in
        let position : L - suc (length rest) ≡ h.before = omega (arith, t.size) in
        ap (λ (c : Compiled). slice_get c.instructions (L - suc (length rest))) (code_is p code known)
        ∙ ap (λ k. slice_get (map (instruction_of p code) (whole p code)) k) position
        ∙ slice_get-map (instruction_of p code) (whole p code) h.before
        ∙ ap (option_map (instruction_of p code)) t.there

    -- a value that is pushed
    push_law : (v : Value) (ops : List Value) (i : Instr) (rest : List Instr) → Here ops i rest → suc (length ops) ≡ standing_after i (length ops) → Follows p g (flat_pushed p codes room v (at ops rest) Fa Fs) (pushed p v f env ops rest acts st)
    push_law v ops i rest h e =
        let after = next_holds 1 (suc (length ops)) ops ops i rest h e (omega arith) in
        body_gives g v (body ops rest) acts st held after stand

    -- the next instruction, with these operands
    advanced_is : (ops ops' : List Value) (i : Instr) (rest : List Instr) → Here ops i rest → record (at ops' rest) { position = (at ops' rest).position + 1 } ≡ running_body p ss pl (body ops' rest)
    advanced_is ops ops' i rest h =
        let L = length (whole p code) in
        let position : L - suc (length rest) + 1 ≡ L - length rest = omega (arith, h.fits) in
        ap (λ k. record (at ops' rest) { position = k }) position

    -- ---- variables

    own_read : (up index : ℕ) (ops : List Value) (rest : List Instr) → IsOwn p g st.store held.scopes up n index → flat_read p codes room (variable_at p code (Scoped up index)) (at ops rest) Fs ≡ scoped_variable st.store (Some n) up index
    unfolding scoped_variable scope_up
    own_read up index ops rest o =
        let c = captured p code in
        ap (λ k. flat_read p codes room (variable_at p code (Scoped k index)) (at ops rest) Fs) o.0
        ∙ ap (λ v. flat_read p codes room v (at ops rest) Fs) (variable_found p code 0 index ∙ ap (λ b. kind_at b 0 c index) o.1)
        ∙ operand_read c (scope_of ss n).variables ops index o.1 o.2 (held.scopes.each n there).full
        ∙ ap (λ k. scoped_variable st.store (Some n) k index) (sym o.0)

    read_law : (place : Place) (ops : List Value) (rest : List Instr) → Named p code place → flat_read p codes room (variable_at p code place) (at ops rest) Fs ≡ read_place p f st place
    unfolding read_place variable_at slot_of slots_of class_at
    read_law (Scoped up index) ops rest named = elim (resolved p g st.store held.scopes up n index there named) [
      | inl r ↦ ap (λ v. flat_read p codes room v (at ops rest) Fs) (variable_found p code up index ∙ r.is_found) ∙ caught_read p g st.store held.scopes (get_or pl n None) 0 up n code index r
      | inr o ↦ own_read up index ops rest o
    ]
    read_law (Slot index) ops rest named = refl
    read_law (ClassSlot index) ops rest named = refl
    read_law (Shared index) ops rest named = refl

    -- ---- a variable that is written

    -- with the same scopes and closures in another store
    kept_run : (y : FlatBody) (x : ScopedBody) (s : Store) → Keeps p st.store.closures ss s → Follows p g (Run y Fa Fs) (Run x acts st) → Follows p g (Run y Fa (record Fs { store = with_rest (flat_closures g st.store.closures) g.scopes s })) (Run x acts (record st { store = s }))
    kept_run y x s e h =
        subst (λ z. Follows p g (Run y Fa (record Fs { store = with_rest (flat_closures g st.store.closures) g.scopes z })) (Run x acts (record st { store = z }))) e
        (ap (λ (m : Mach FlatBody). with_state m) h.0, h.1, h.2, h.3)
      where
        with_state : Mach FlatBody → Mach FlatBody
        with_state (Run z as' st') = Run z as' (record st' { store = with_rest (flat_closures g st.store.closures) g.scopes s })
        with_state m = m

    slot_same : (to : Value) (index : ℕ) (v : Value) → (with_self_slot to index v (flat_store g st.store) ≡ with_rest (flat_closures g st.store.closures) g.scopes (with_self_slot to index v st.store)) × Keeps p st.store.closures ss (with_self_slot to index v st.store)
    slot_same (Object number) index v = (refl, refl)
    slot_same v index w = (refl, refl)

    -- a body that goes on with the operands that it has
    goes_on : (ops ops' : List Value) (i : Instr) (rest : List Instr) → Here ops i rest → length ops' ≡ standing_after i (length ops) → Follows p g (Run (record (at ops' rest) { position = (at ops' rest).position + 1 }) Fa Fs) (Run (body ops' rest) acts st)
    goes_on ops ops' i rest h e = (ap (λ y. Run y Fa Fs) (advanced_is ops ops' i rest h), held, next_holds 0 (length ops') ops ops' i rest h e (omega arith), stand)

    own_written : (ops : List Value) (rest : List Instr) (place : Place) (index : ℕ) (v : Value) → is_captured (captured p code) index ≡ false → index < length (captured p code) → Here (v ∷ ops) (StoreVariable place) rest → Goes p (Run (record (at (v ∷ ops) rest) { position = (at (v ∷ ops) rest).position + 1; operands = with_operand (index - captured_place index (captured p code)) v (at (v ∷ ops) rest).operands }) Fa Fs) (Run (body (v ∷ ops) rest) acts (record st { store = with_variable n index v st.store }))
    own_written ops rest place index v e l h =
        let c = captured p code in
        let ss' = set ss n (variable_written index v (scope_of ss n)) in
        let agree : Agree p ss ss' pl pl n = λ m k.
        let other = wrote_other p ss pl g.scopes g.owners held.scopes n there index v m (λ same. let none : ⊥ = omega (arith, k, same) in none) in
        (ap (λ (y : Scope). own_variables (captured p y.code) y.variables) other, ap (λ (y : Scope). y.code) other, refl) in
        let size = wrote_size p ss pl g.scopes g.owners held.scopes n there index v in
        let kept = acts_agree p ss ss' pl pl n acts agree (omega (arith, there, size)) stand in
        let cs = closures_agree p ss ss' pl pl st.store.closures (omega (arith, size)) (λ m k. (wrote_code p ss pl g.scopes g.owners held.scopes n there index v m, refl)) held.closures in
        let L = length (whole p code) in
        let position : L - suc (length rest) + 1 ≡ L - length rest = omega (arith, h.fits) in
        let operands : with_operand (index - captured_place index c) v ((v ∷ ops) ++ reverse (own_of p ss n)) ≡ (v ∷ ops) ++ reverse (own_of p ss' n) =
        operand_written c (scope_of ss n).variables (v ∷ ops) index v e l (held.scopes.each n there).full
        ∙ ap (λ (y : Scope). (v ∷ ops) ++ reverse (own_variables (captured p y.code) y.variables)) (sym (wrote_here p ss pl g.scopes g.owners held.scopes n there index v)) in
        let after = next_holds 0 (length (v ∷ ops)) (v ∷ ops) (v ∷ ops) (StoreVariable place) rest h refl (omega arith) in (
          g,
          (
            ap (λ us. Run (record (at (v ∷ ops) rest) { position = L - suc (length rest) + 1; operands = us }) Fa Fs) operands
                ∙ ap (λ k. Run (record (at (v ∷ ops) rest) { position = k; operands = (v ∷ ops) ++ reverse (own_of p ss' n) }) Fa Fs) position
                ∙ ap (λ rest'. Run (record (at (v ∷ ops) rest) { position = L - length rest; operands = (v ∷ ops) ++ reverse (own_of p ss' n) }) rest' Fs) (sym kept.0),
            record { scopes = write_uncaptured p ss pl g.scopes g.owners held.scopes n there index v e; closures = cs.1 },
            record {
              scope = n;
              is_scope = refl;
              there = omega (arith, there, size);
              here = wrote_code p ss pl g.scopes g.owners held.scopes n there index v n;
              known = known;
              before = after.before;
              left = after.left;
              fits = after.fits;
              sound = after.sound;
              room = after.room;
            },
            kept.1,
          ),
        )

    caught_written : (ops : List Value) (rest : List Instr) (place : Place) (up index : ℕ) (v : Value) (r : Reached p g st.store held.scopes (get_or pl n None) 0 up n code index) → Here (v ∷ ops) (StoreVariable place) rest → Goes p (Run (record (at (v ∷ ops) rest) { position = (at (v ∷ ops) rest).position + 1 }) Fa (record Fs { store = with_variable (kept_in p ss pl g.scopes g.owners held.scopes r.scope r.there index v r.is_caught) (captured_place index (captured p (scope_of ss r.scope).code)) v (flat_store g st.store) })) (Run (body (v ∷ ops) rest) acts (record st { store = with_variable r.scope index v st.store }))
    caught_written ops rest place up index v r h =
        let m = r.scope in
        let ss' = set ss m (variable_written index v (scope_of ss m)) in
        let fs' = flat_wrote p ss pl g.scopes g.owners held.scopes m r.there index v r.is_caught in
        let code_same = wrote_code p ss pl g.scopes g.owners held.scopes m r.there index v in
        let size = wrote_size p ss pl g.scopes g.owners held.scopes m r.there index v in
        let agree : Agree p ss ss' pl pl (suc n) = λ k l. (
          elim (eqb_tells k m) [
            | inl same ↦ ap (λ j. own_of p ss' j) same.1
                ∙ ap (λ (y : Scope). own_variables (captured p y.code) y.variables) (wrote_here p ss pl g.scopes g.owners held.scopes m r.there index v)
                ∙ own_unchanged (captured p (scope_of ss m).code) (scope_of ss m).variables index v r.is_caught
                ∙ ap (λ j. own_of p ss j) (sym same.1)
            | inr same ↦ ap (λ (y : Scope). own_variables (captured p y.code) y.variables) (wrote_other p ss pl g.scopes g.owners held.scopes m r.there index v k same.1)
          ],
          code_same k,
          refl,
        ) in
        let kept = acts_agree p ss ss' pl pl n acts (λ k l. agree k (omega (arith, l))) (omega (arith, there, size)) stand in
        let cs = closures_agree p ss ss' pl pl st.store.closures (omega (arith, size)) (λ k l. (code_same k, refl)) held.closures in
        let body_same = body_agrees p ss ss' pl pl (suc n) (length rest) (body (v ∷ ops) rest) agree (omega arith) in
        let after = next_holds 0 (length (v ∷ ops)) (v ∷ ops) (v ∷ ops) (StoreVariable place) rest h refl (omega arith) in
        let state : State = record Fs { store = with_rest (flat_closures g st.store.closures) fs' st.store } in (
          record { places = pl; scopes = fs'; owners = g.owners },
          (
            ap (λ y. Run y Fa state) (advanced_is (v ∷ ops) (v ∷ ops) (StoreVariable place) rest h ∙ sym body_same)
                ∙ ap (λ rest'. Run (running_body p ss' pl (body (v ∷ ops) rest)) rest' state) (sym kept.0),
            record { scopes = write_captured p ss pl g.scopes g.owners held.scopes m r.there index v r.is_caught; closures = cs.1 },
            record {
              scope = n;
              is_scope = refl;
              there = omega (arith, there, size);
              here = code_same n;
              known = known;
              before = after.before;
              left = after.left;
              fits = after.fits;
              sound = after.sound;
              room = after.room;
            },
            kept.1,
          ),
        )

    store_scoped : (up index : ℕ) (v : Value) (ops : List Value) (rest : List Instr) → Here (v ∷ ops) (StoreVariable (Scoped up index)) rest → (Reached p g st.store held.scopes (get_or pl n None) 0 up n code index) ⊎ IsOwn p g st.store held.scopes up n index → Goes p (flat_stored p codes room (variable_at p code (Scoped up index)) v (at (v ∷ ops) rest) Fa Fs) (pushed p v f env ops rest acts (write_place p f st (Scoped up index) v))
    unfolding write_place with_scoped_variable scope_up
    store_scoped up index v ops rest h (inl r) =
        let c = captured p (scope_of ss r.scope).code in
        let place = captured_place index c in
        let k = captured_at p ss pl g.scopes g.owners held.scopes r.scope r.there index v r.is_caught in
        subst (λ x. Goes p (flat_stored p codes room x v (at (v ∷ ops) rest) Fa Fs) (pushed p v f env ops rest acts (write_place p f st (Scoped up index) v))) (sym (variable_found p code up index ∙ r.is_found))
        (subst (λ o. Goes p (Run (record (at (v ∷ ops) rest) { position = (at (v ∷ ops) rest).position + 1 }) Fa (record Fs { store = set_at o place v (flat_store g st.store) })) (Run (body (v ∷ ops) rest) acts (record st { store = set_at (scope_up st.store up (Some n)) index v st.store }))) (sym (r.is_place ∙ k.1))
        (subst (λ o. Goes p (Run (record (at (v ∷ ops) rest) { position = (at (v ∷ ops) rest).position + 1 }) Fa (record Fs { store = with_variable k.0 place v (flat_store g st.store) })) (Run (body (v ∷ ops) rest) acts (record st { store = set_at o index v st.store }))) (sym r.is_scope)
        (caught_written ops rest (Scoped up index) up index v r h)))
    store_scoped up index v ops rest h (inr o) =
        subst (λ k. Goes p (flat_stored p codes room (variable_at p code (Scoped k index)) v (at (v ∷ ops) rest) Fa Fs) (pushed p v f env ops rest acts (write_place p f st (Scoped k index) v))) (sym o.0)
        (subst (λ x. Goes p (flat_stored p codes room x v (at (v ∷ ops) rest) Fa Fs) (pushed p v f env ops rest acts (write_place p f st (Scoped 0 index) v))) (sym (variable_found p code 0 index ∙ ap (λ b. kind_at b 0 (captured p code) index) o.1))
        (own_written ops rest (Scoped up index) index v o.1 o.2 h))

    written_variables : (ops : List Value) (rest : List Instr) (vs : List Value) → Follows p g (Run (record (at ops rest) { position = (at ops rest).position + 1 }) Fa Fs) (Run (body ops rest) acts st) → Follows p g (Run (record (at ops rest) { position = (at ops rest).position + 1 }) Fa (record Fs { variables = vs })) (Run (body ops rest) acts (record st { variables = vs }))
    written_variables ops rest vs h = (ap (λ (m : Mach FlatBody). with_values m) h.0, h.1, h.2, h.3)
      where
        with_values : Mach FlatBody → Mach FlatBody
        with_values (Run z as' st') = Run z as' (record st' { variables = vs })
        with_values m = m

    store_law : (place : Place) (v : Value) (ops : List Value) (rest : List Instr) → Here (v ∷ ops) (StoreVariable place) rest → Goes p (flat_stored p codes room (variable_at p code place) v (at (v ∷ ops) rest) Fa Fs) (pushed p v f env ops rest acts (write_place p f st place v))
    unfolding write_place variable_at class_at
    store_law (Scoped up index) v ops rest h = store_scoped up index v ops rest h (resolved p g st.store held.scopes up n index there h.sound.0)
    store_law (Slot index) v ops rest h =
        let same = slot_same self index v in
        let on = goes_on (v ∷ ops) (v ∷ ops) (StoreVariable (Slot index)) rest h refl in (
          g,
          subst (λ s. Follows p g (Run (record (at (v ∷ ops) rest) { position = (at (v ∷ ops) rest).position + 1 }) Fa (record Fs { store = s })) (Run (body (v ∷ ops) rest) acts (record st { store = with_self_slot self index v st.store }))) (sym same.0)
              (kept_run (record (at (v ∷ ops) rest) { position = (at (v ∷ ops) rest).position + 1 }) (body (v ∷ ops) rest) (with_self_slot self index v st.store) same.1 on),
        )
    store_law (ClassSlot index) v ops rest h = (g, written_variables (v ∷ ops) rest _ (goes_on (v ∷ ops) (v ∷ ops) (StoreVariable (ClassSlot index)) rest h refl))
    store_law (Shared index) v ops rest h = (g, written_variables (v ∷ ops) rest _ (goes_on (v ∷ ops) (v ∷ ops) (StoreVariable (Shared index)) rest h refl))

    -- ---- blocks

    closures_more : (cs : List Closure) (c : Closure) → ClosuresHold p ss cs → ClosureHolds p ss c → ClosuresHold p ss (cs ++ c ∷ [])
    closures_more [] c h i = (i, tt)
    closures_more (d ∷ cs) c h i = (h.0, closures_more cs c h.1 i)

    block_law : (m : ℕ) (ops : List Value) (rest : List Instr) → Here ops (MakeBlock m) rest → Follows p g (flat_instruction p codes room (instruction_of p code (MakeBlock m)) (at ops rest) Fa Fs) (instr p (MakeBlock m) f env ops rest acts st)
    unfolding with_block with_flat_block
    block_law m ops rest h =
        let after = next_holds 1 (suc (length ops)) ops ops (MakeBlock m) rest h refl (omega arith) in
        let c : Closure = record { code = m; class = class; receiver = self; scope = Some n; home = home } in
        let d : Closure = placed pl c in
        let cs = st.store.closures in
        let size : length (map (placed pl) cs) ≡ length cs = length-map cs (placed pl) in
        let more : map (placed pl) (cs ++ c ∷ []) ≡ map (placed pl) cs ++ d ∷ [] = map-append (placed pl) cs (c ∷ []) in
        used_follows p g 2 (BodyAct (body ops rest) ∷ acts) st _ _ (λ u.
        let v = next_object st.store in
        let st' : State = record st { cells = u; store = block_added block_class c st.store } in
        let held' : StoreHolds p g ss (cs ++ c ∷ []) = record { scopes = held.scopes; closures = closures_more cs c held.closures (record { scope = n; is_scope = refl; there = there; body = h.sound.0 }) } in
        let gives = body_gives g v (body ops rest) acts st' held' after stand in (
          ap (λ k. Run (flat_given p codes room v (at ops rest)) Fa (record Fs { cells = u; store = record { objects = st.store.objects ++ block_object block_class k ∷ []; closures = map (placed pl) cs ++ d ∷ []; scopes = g.scopes } })) size
              ∙ ap (λ ds. Run (flat_given p codes room v (at ops rest)) Fa (record Fs { cells = u; store = record { objects = st.store.objects ++ block_object block_class (length cs) ∷ []; closures = ds; scopes = g.scopes } })) (sym more)
              ∙ gives.0,
          gives.1,
          gives.2,
          gives.3,
        ))

    -- ---- sends and returns

    below_here : ActsHold p ss (length ss) acts
    below_here = acts_below p ss n (length ss) acts (omega (arith, there)) stand

    waits : (ops ops' : List Value) (i : Instr) (rest : List Instr) → Here ops i rest → suc (length ops') ≡ standing_after i (length ops) → ActsHold p ss (length ss) (BodyAct (body ops' rest) ∷ acts)
    waits ops ops' i rest h e = (next_holds 1 (suc (length ops')) ops ops' i rest h e (omega arith), there, stand)

    sent_law : (selector count : ℕ) (t : TakenArguments) (ops : List Value) (rest : List Instr) → Here ops (SendMessage selector count) rest → taken count ops [] ≡ t → Follows p g (flat_sent p codes room selector (operands_taken count (at ops rest).operands []) (at ops rest) Fa Fs) (sent p selector t f env rest acts st)
    sent_law selector count TooFew ops rest h e = tt
    sent_law selector count (Takes args []) ops rest h e = tt
    sent_law selector count (Takes args (r ∷ ops')) ops rest h e =
        let t = taken_before count ops [] args ops' (reverse (own_of p ss n)) r e in
        let standing : suc (length ops') ≡ length ops - count = omega (arith, t.sized) in
        subst (λ o. Follows p g (flat_sent p codes room selector o (at ops rest) Fa Fs) (sent p selector (Takes args (r ∷ ops')) f env rest acts st)) (sym t.taken_same)
        (refl, held, tt, waits ops ops' (SendMessage selector count) rest h standing)

    super_sent_law : (selector count : ℕ) (t : TakenArguments) (ops : List Value) (rest : List Instr) → Here ops (SendSuper selector count) rest → taken count ops [] ≡ t → Follows p g (flat_super_sent p codes room selector (operands_taken count (at ops rest).operands []) (at ops rest) Fa Fs) (super_sent p selector t f env rest acts st)
    super_sent_law selector count TooFew ops rest h e = tt
    super_sent_law selector count (Takes args []) ops rest h e = tt
    super_sent_law selector count (Takes args (r ∷ ops')) ops rest h e =
        let t = taken_before count ops [] args ops' (reverse (own_of p ss n)) r e in
        let standing : suc (length ops') ≡ length ops - count = omega (arith, t.sized) in
        subst (λ o. Follows p g (flat_super_sent p codes room selector o (at ops rest) Fa Fs) (super_sent p selector (Takes args (r ∷ ops')) f env rest acts st)) (sym t.taken_same)
        (refl, held, tt, waits ops ops' (SendSuper selector count) rest h standing)

    leaves_law : (b : Bool) (v : Value) (ops : List Value) (rest : List Instr) → Follows p g (flat_leaves p codes room b v (at ops rest) Fa Fs) (leaves p b v f env ops rest acts st)
    leaves_law true v ops rest = (refl, (held, below_here))
    leaves_law false v ops rest = (refl, held, tt, (there, stand))

    home_law : (v : Value) (ops : List Value) (rest : List Instr) → Follows p g (flat_instruction p codes room (instruction_of p code HomeReturn) (at (v ∷ ops) rest) Fa Fs) (instr p HomeReturn f env (v ∷ ops) rest acts st)
    home_law v ops rest =
        subst (λ ms. Follows p g (flat_leaves p codes room (stands home (BodyMark own ∷ ms)) v (at ops rest) Fa Fs) (instr p HomeReturn f env (v ∷ ops) rest acts st)) (sym (marks_same p ss pl acts))
        (leaves_law (stands home (BodyMark own ∷ marks scoped_number acts)) v ops rest)

    -- ---- the instructions

    pub instr_law : (i : Instr) (ops : List Value) (rest : List Instr) → Here ops i rest → Goes p (flat_instruction p codes room (instruction_of p code i) (at ops rest) Fa Fs) (instr p i f env ops rest acts st)
    instr_law (PushConstant v) ops rest h = (g, subst (λ w. Follows p g (flat_pushed p codes room w (at ops rest) Fa Fs) (pushed p v f env ops rest acts st)) (sym h.sound.0) (push_law v ops (PushConstant v) rest h refl))
    instr_law PushSelf ops rest h = (g, push_law self ops PushSelf rest h refl)
    instr_law (PushVariable place) ops rest h =
        (g, subst (λ w. Follows p g (flat_pushed p codes room w (at ops rest) Fa Fs) (pushed p (read_place p f st place) f env ops rest acts st)) (sym (read_law place ops rest h.sound.0)) (push_law (read_place p f st place) ops (PushVariable place) rest h refl))
    instr_law (StoreVariable place) (v ∷ ops) rest h = store_law place v ops rest h
    instr_law (StoreVariable place) [] rest h = (g, tt)
    instr_law Pop (v ∷ ops) rest h = (g, goes_on (v ∷ ops) ops Pop rest h (omega arith))
    instr_law Pop [] rest h = (g, tt)
    instr_law Dup (v ∷ ops) rest h = (g, push_law v (v ∷ ops) Dup rest h refl)
    instr_law Dup [] rest h = (g, tt)
    instr_law (MakeBlock m) ops rest h = (g, block_law m ops rest h)
    instr_law (SendMessage selector count) ops rest h = (g, sent_law selector count (taken count ops []) ops rest h refl)
    instr_law (SendSuper selector count) ops rest h = (g, super_sent_law selector count (taken count ops []) ops rest h refl)
    instr_law MethodReturn (v ∷ ops) rest h = (g, (refl, (held, below_here)))
    instr_law MethodReturn [] rest h = (g, tt)
    instr_law HomeReturn (v ∷ ops) rest h = (g, home_law v ops rest)
    instr_law HomeReturn [] rest h = (g, tt)
    instr_law BlockEnd (v ∷ ops) rest h = (g, (refl, (held, below_here)))
    instr_law BlockEnd [] rest h = (g, tt)
