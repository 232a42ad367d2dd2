-- What a body that holds has on the flat side: its instruction, operands, room and variables.
use Rattle.std.proofs.Common.{◌≡◌, ℕ, zero, suc, ◌+◌, ◌-◌, ◌<◌, ◌≤◌, inl, inr, List, [], ◌∷◌, map, length, get_or, reverse, slice_get, option_map, Option, Some, None, Bool, true, false, refl, sym, ap, ◌∙◌, subst, arith}
use Rattle.std.proofs.lemmas.List.{length-append, length-reverse}
use Rattle.std.proofs.lemmas.Option.{slice_get-map}
use Rattle.object_heap.specs.declared.value.Value.{Value}
use Rattle.object_heap.specs.declared.value.Closure.{Closure}
use Rattle.object_heap.specs.Store.{Scope as StoreScope}
use Rattle.st_code.specs.declared.instruction.Variable.{Variable}
use Rattle.st_code.specs.declared.instruction.Variable.TheVariants as variable
use Rattle.st_code.specs.Program.{Program, Place, Scoped, Slot, ClassSlot, Shared, Kind, InBlock, body_at}
use Rattle.st_code.specs.Code.{Instr, PushConstant, PushSelf, Pop, Dup, PushVariable, Store as StoreVariable, SendMessage, SendSuper, MakeBlock, MethodReturn, HomeReturn, BlockEnd}
use Rattle.st_code.specs.Compiled.{Compiled, kind_of, count_uncaptured, instruction_of, compiled_body, compile_of, variable_at, any_captured}
use Rattle.st_rules.specs.State.{State, Env, Frame, scope_up}
use Rattle.st_rules.specs.Machine.{Act}
use Rattle.st_rules.specs.Scoped.{ScopedBody, scoped_body, Taken as TakenArguments, TooFew, Takes, taken, sent, super_sent, instr}
use Rattle.st_rules.specs.Flat.{FlatBody, code_at, instruction_at, greatest_width}
use Rattle.st_rules.specs.Turns.{On}
use Rattle.st_code.specs.Program.{Initializer}
use Rattle.st_rules.specs.Compilable.{AllSound, Body, Named, Compilable}
use Rattle.st_rules.specs.NothingMissing.{Ready, Stands, VariableStands, IsCode, NamesCode}
use Rattle.st_rules.proofs.Variables.{captured_place, own_place_is, own_read, own_size, captured_there}
use Rattle.st_rules.proofs.Flattening.{Places, scope_of, place_of, number_in, flat_state, most, captured, whole, own_of, flat_body, running_body, Chained, PlacedAt, ClosureHolds, StoreHolds, BodyHolds}
use Rattle.st_rules.proofs.FlatVariables.{kind_at, variable_found, Reached, IsOwn, resolved, placed_at}
use Rattle.st_rules.proofs.FlatBodies.{taken_before, own_length}
use Rattle.st_rules.proofs.FlatCode.{taken_off, most_least, list_size, code_is}
use Rattle.st_rules.proofs.AimedRun.{NotStuck}

-- ---- codes

module _ (p : Program) where
  pub code_there : (code : ℕ) → code < length p.bodies → code < length (compile_of p)
  unfolding compile_of
  code_there code l = omega (arith, l, list_size p 0 p.bodies)

  captured_same : (code : ℕ) → code < length p.bodies → (code_at (compile_of p) code).captured ≡ captured p code
  unfolding compiled_body
  captured_same code l = ap (λ (c : Compiled). c.captured) (code_is p code l)

  kind_same : (code : ℕ) → code < length p.bodies → (code_at (compile_of p) code).kind ≡ kind_of (body_at p code).kind
  unfolding compiled_body
  kind_same code l = ap (λ (c : Compiled). c.kind) (code_is p code l)

  pub is_code : (code : ℕ) (kind : Kind) (outer : Option ℕ) → Body p code kind outer → IsCode p code (kind_of kind)
  is_code code kind outer b = (code_there code b.known, kind_same code b.known ∙ ap kind_of b.is_kind)

  -- ---- operands

  module _ (g : Places) (st : State) (held : StoreHolds p g st.store.scopes st.store.closures) where
    abbrev ss : List StoreScope
    ss = st.store.scopes

    -- the operands of a body on the flat side
    pub operand_count : (late standing left : ℕ) (x : ScopedBody) → BodyHolds p ss late standing x → length (flat_body p ss g.places left x).operands ≡ length x.operands + count_uncaptured (code_at (compile_of p) x.frame.code).captured
    operand_count late standing left x h =
        length-append x.operands (reverse (own_of p ss (number_in x.frame.scope)))
        ∙ ap (λ k. length x.operands + k) (length-reverse (own_of p ss (number_in x.frame.scope)) ∙ own_length p ss g.places g.scopes g.owners late standing x held.scopes h ∙ sym (ap count_uncaptured (captured_same x.frame.code h.known)))

    -- room for one more where so many stand
    pub has_room : (late standing left n : ℕ) (x : ScopedBody) → BodyHolds p ss late standing x → length x.operands ≡ n → suc n ≤ most x.rest standing → length (flat_body p ss g.places left x).operands < greatest_width (compile_of p)
    has_room late standing left n x h e l =
        let c = operand_count late standing left x h in
        let s = ap count_uncaptured (captured_same x.frame.code h.known) in
        omega (arith, c, s, e, l, h.room)

    -- ---- an instruction, and its operands

    module _ (f : Frame) (env : Env) (ops : List Value) (i : Instr) (rest : List Instr) (h : BodyHolds p ss 0 (length ops) (scoped_body f env ops (i ∷ rest))) where
      abbrev sx : ScopedBody
      sx = scoped_body f env ops (i ∷ rest)

      abbrev x : FlatBody
      x = running_body p ss g.places sx

      pub fetched_here : instruction_at (compile_of p) x ≡ Some (instruction_of p f.code i)
      unfolding instruction_at compiled_body
      fetched_here =
          let t = taken_off h.before (whole p f.code) i rest h.left in
          let L = length (whole p f.code) in
          let position : L - suc (length rest) ≡ h.before = omega (arith, t.size) in
          ap (λ (c : Compiled). slice_get c.instructions (L - suc (length rest))) (code_is p f.code h.known)
          ∙ ap (λ k. slice_get (map (instruction_of p f.code) (whole p f.code)) k) position
          ∙ slice_get-map (instruction_of p f.code) (whole p f.code) h.before
          ∙ ap (option_map (instruction_of p f.code)) t.there

    has : (f : Frame) (env : Env) (ops : List Value) (is : List Instr) → BodyHolds p ss 0 (length ops) (scoped_body f env ops is) → (n : ℕ) → n ≤ length ops → count_uncaptured (code_at (compile_of p) f.code).captured + n ≤ length (running_body p ss g.places (scoped_body f env ops is)).operands
    has f env ops is h n l = let c = operand_count 0 (length ops) (length is) (scoped_body f env ops is) h in omega (arith, l, c)

    more : (rest : List Instr) (n : ℕ) → suc n ≤ most rest (suc n)
    more rest n = most_least rest (suc n)

    room : (f : Frame) (env : Env) (ops : List Value) (is : List Instr) → BodyHolds p ss 0 (length ops) (scoped_body f env ops is) → suc (length ops) ≤ most is (length ops) → length (running_body p ss g.places (scoped_body f env ops is)).operands < greatest_width (compile_of p)
    room f env ops is h l = has_room 0 (length ops) (length is) (length ops) (scoped_body f env ops is) h refl l

    -- a send whose operands are there
    module _ (ok : Compilable p) (target : Option ℕ) (xs : List Initializer) (acts : List (Act ScopedBody)) where
      sent_takes : (selector count : ℕ) (f : Frame) (env : Env) (ops : List Value) (rest : List Instr) (t : TakenArguments) → taken count ops [] ≡ t → NotStuck p ok (On target xs (sent p selector t f env rest acts st)) → suc count ≤ length ops
      sent_takes selector count f env ops rest TooFew e never = absurd never
      sent_takes selector count f env ops rest (Takes args []) e never = absurd never
      sent_takes selector count f env ops rest (Takes args (r ∷ below)) e never = let t = taken_before count ops [] args below [] r e in omega (arith, t.sized)

      super_takes : (selector count : ℕ) (f : Frame) (env : Env) (ops : List Value) (rest : List Instr) (t : TakenArguments) → taken count ops [] ≡ t → NotStuck p ok (On target xs (super_sent p selector t f env rest acts st)) → suc count ≤ length ops
      super_takes selector count f env ops rest TooFew e never = absurd never
      super_takes selector count f env ops rest (Takes args []) e never = absurd never
      super_takes selector count f env ops rest (Takes args (r ∷ below)) e never = let t = taken_before count ops [] args below [] r e in omega (arith, t.sized)

      pub ready : (f : Frame) (env : Env) (i : Instr) (ops : List Value) (rest : List Instr) → BodyHolds p ss 0 (length ops) (scoped_body f env ops (i ∷ rest)) → NotStuck p ok (On target xs (instr p i f env ops rest acts st)) → Ready p (instruction_of p f.code i) (running_body p ss g.places (scoped_body f env ops (i ∷ rest)))
      ready f env (PushConstant v) ops rest h never = let m = more rest (length ops) in room f env ops _ h (omega (arith, m))
      ready f env PushSelf ops rest h never = let m = more rest (length ops) in room f env ops _ h (omega (arith, m))
      ready f env (PushVariable place) ops rest h never = let m = more rest (length ops) in room f env ops _ h (omega (arith, m))
      ready f env (StoreVariable place) (v ∷ ops) rest h never = has f env (v ∷ ops) _ h 1 (omega arith)
      ready f env (StoreVariable place) [] rest h never = absurd never
      ready f env Pop (v ∷ ops) rest h never = has f env (v ∷ ops) _ h 1 (omega arith)
      ready f env Pop [] rest h never = absurd never
      ready f env Dup (v ∷ ops) rest h never = let m = more rest (suc (length ops)) in (has f env (v ∷ ops) _ h 1 (omega arith), room f env (v ∷ ops) _ h (omega (arith, m)))
      ready f env Dup [] rest h never = absurd never
      ready f env (MakeBlock code) ops rest h never = let m = more rest (length ops) in room f env ops _ h (omega (arith, m))
      ready f env (SendMessage selector count) ops rest h never = has f env ops _ h (suc count) (sent_takes selector count f env ops rest (taken count ops []) refl never)
      ready f env (SendSuper selector count) ops rest h never = has f env ops _ h (suc count) (super_takes selector count f env ops rest (taken count ops []) refl never)
      ready f env MethodReturn (v ∷ ops) rest h never = has f env (v ∷ ops) _ h 1 (omega arith)
      ready f env MethodReturn [] rest h never = absurd never
      ready f env HomeReturn (v ∷ ops) rest h never = has f env (v ∷ ops) _ h 1 (omega arith)
      ready f env HomeReturn [] rest h never = absurd never
      ready f env BlockEnd (v ∷ ops) rest h never = has f env (v ∷ ops) _ h 1 (omega arith)
      ready f env BlockEnd [] rest h never = absurd never

    -- ---- variables

    module _ (n : ℕ) (there : n < length ss) (known : (scope_of ss n).code < length p.bodies) where
      abbrev code : ℕ
      code = (scope_of ss n).code

      -- what a body in this scope has
      abbrev Seen : Variable → FlatBody → Type 0
      Seen v x = Stands p v x (flat_state g st)

      caught_stands : (up index : ℕ) (x : FlatBody) → x.scope ≡ get_or g.places n None → Reached p g st.store held.scopes (get_or g.places n None) 0 up n code index → Seen (variable_at p code (Scoped up index)) x
      caught_stands up index x e r =
          let c = captured p (scope_of ss r.scope).code in
          let h = placed_at p g st.store held.scopes r.scope index r.there r.is_caught in
          let size = captured_there c (scope_of ss r.scope).variables index r.is_caught (held.scopes.each r.scope r.there).full in
          let long : captured_place index c < length (scope_of g.scopes h.0).variables = subst (λ (y : StoreScope). captured_place index c < length y.variables) (sym h.3) size in
          subst (λ v. Seen v x) (sym (variable_found p code up index ∙ r.is_found)) (h.0, ap (λ o. scope_up (flat_state g st).store r.outwards o) e ∙ r.is_place ∙ h.1, h.2, long)

      own_stands : (up index : ℕ) (x : FlatBody) → x.code ≡ code → IsOwn p g st.store held.scopes up n index → Seen (variable_at p code (Scoped up index)) x
      own_stands up index x e o =
          let c = captured p code in
          let vs = (scope_of ss n).variables in
          let full = (held.scopes.each n there).full in
          let l = (own_read c vs index o.1 o.2 full).0 in
          let count : count_uncaptured (code_at (compile_of p) x.code).captured ≡ count_uncaptured c = ap (λ k. count_uncaptured (code_at (compile_of p) k).captured) e ∙ ap count_uncaptured (captured_same code known) in
          let is : variable_at p code (Scoped up index) ≡ variable.Own (index - captured_place index c) =
          ap (λ k. variable_at p code (Scoped k index)) o.0 ∙ variable_found p code 0 index ∙ ap (λ b. kind_at b 0 c index) o.1 in
          subst (λ v. Seen v x) (sym is) (omega (arith, l, own_place_is index c, own_size c vs full, count))

      place_stands : (place : Place) (x : FlatBody) → x.code ≡ code → x.scope ≡ get_or g.places n None → Named p code place → Seen (variable_at p code place) x
      unfolding variable_at
      place_stands (Scoped up index) x e s named = elim (resolved p g st.store held.scopes up n index there named) [
        | inl r ↦ caught_stands up index x s r
        | inr o ↦ own_stands up index x e o
      ]
      place_stands (Slot index) x e s named = tt
      place_stands (ClassSlot index) x e s named = tt
      place_stands (Shared index) x e s named = tt

    -- in the frame of a body that holds
    pub body_stands : (place : Place) (late standing left : ℕ) (x : ScopedBody) → BodyHolds p ss late standing x → Named p x.frame.code place → Stands p (variable_at p x.frame.code place) (flat_body p ss g.places left x) (flat_state g st)
    body_stands place late standing left x h named =
        subst (λ c. Stands p (variable_at p c place) (flat_body p ss g.places left x) (flat_state g st)) h.here
        (place_stands h.scope h.there (subst (λ c. c < length p.bodies) (sym h.here) h.known) place (flat_body p ss g.places left x) (sym h.here) (ap (place_of g.places) h.is_scope) (subst (λ c. Named p c place) (sym h.here) named))

    pub instruction_stands : (i : Instr) (late standing left : ℕ) (x : ScopedBody) (rest : List Instr) → x.rest ≡ i ∷ rest → BodyHolds p ss late standing x → VariableStands p (instruction_of p x.frame.code i) (flat_body p ss g.places left x) (flat_state g st) × NamesCode p (instruction_of p x.frame.code i)
    instruction_stands (PushConstant v) late standing left x rest e h = (tt, tt)
    instruction_stands PushSelf late standing left x rest e h = (tt, tt)
    instruction_stands Pop late standing left x rest e h = (tt, tt)
    instruction_stands Dup late standing left x rest e h = (tt, tt)
    instruction_stands (PushVariable place) late standing left x rest e h = (body_stands place late standing left x h (subst (λ is. AllSound p x.frame.code is) e h.sound).0, tt)
    instruction_stands (StoreVariable place) late standing left x rest e h = (body_stands place late standing left x h (subst (λ is. AllSound p x.frame.code is) e h.sound).0, tt)
    instruction_stands (MakeBlock code) late standing left x rest e h = (tt, is_code code InBlock (Some x.frame.code) (subst (λ is. AllSound p x.frame.code is) e h.sound).0)
    instruction_stands (SendMessage selector count) late standing left x rest e h = (tt, tt)
    instruction_stands (SendSuper selector count) late standing left x rest e h = (tt, tt)
    instruction_stands MethodReturn late standing left x rest e h = (tt, tt)
    instruction_stands HomeReturn late standing left x rest e h = (tt, tt)
    instruction_stands BlockEnd late standing left x rest e h = (tt, tt)

    -- ---- the scope of a closure

    -- a place is a scope that is there
    abbrev PlaceThere : ℕ → Type 0
    PlaceThere n = (k : ℕ) → get_or g.places n None ≡ Some k → k < length g.scopes

    abbrev OfOuter : Option ℕ → Type 0
    OfOuter o = (k : ℕ) → place_of g.places o ≡ Some k → k < length g.scopes

    same_number : (j k : ℕ) → Some j ≡ Some k → j ≡ k
    same_number j k e = cc

    none_is : (k : ℕ) → None ≡ Some k → ⊥
    none_is k e = grind (arith, e)

    outer_there : (n : ℕ) (o outer : Option ℕ) → Chained p ss n o outer → ((m : ℕ) → m < n → PlaceThere m) → OfOuter outer
    outer_there n None outer h below k e = let none : ⊥ = none_is k (sym (ap (place_of g.places) h) ∙ e) in absurd none
    outer_there n (Some c) outer h below k e = below h.0 h.2 k (sym (ap (place_of g.places) h.1) ∙ e)

    placed_there : (b : Bool) (n : ℕ) (x : StoreScope) → PlacedAt p b g.places g.scopes g.owners n x → OfOuter x.outer → PlaceThere n
    placed_there true n x h outer k e = subst (λ j. j < length g.scopes) (same_number h.0 k (sym h.1 ∙ e)) h.2
    placed_there false n x h outer k e = outer k (sym h ∙ e)

    place_there : (bound n : ℕ) → n < bound → n < length ss → PlaceThere n
    place_there zero n l there = let none : ⊥ = omega (arith, l) in absurd none
    place_there (suc bound) n l there =
        let h = held.scopes.each n there in
        placed_there (any_captured (captured p (scope_of ss n).code)) n (scope_of ss n) h.at (outer_there n (body_at p (scope_of ss n).code).outer (scope_of ss n).outer h.chained (λ m k. place_there bound m (omega (arith, k, l)) (omega (arith, k, there))))

    pub closure_scope : (c : Closure) → ClosureHolds p ss c → (k : ℕ) → place_of g.places c.scope ≡ Some k → k < length g.scopes
    closure_scope c h k e = place_there (suc h.scope) h.scope (omega arith) h.there k (sym (ap (place_of g.places) h.is_scope) ∙ e)
