-- A program that the computed test finds compilable is so.
use Rattle.std.proofs.Common.{◌≡◌, ℕ, zero, suc, ◌+◌, Bool, true, false, ◌&&◌, List, [], ◌∷◌, length, get_or, inl, inr, Option, Some, None, refl, sym, ap, ◌∙◌, subst, arith, nat_eq, nat_lt, ltb-true, true≢false}
use Rattle.std.proofs.lemmas.Bool.Decides.{eqb_tells}
use Rattle.object_heap.specs.declared.value.Value.{Value}
use Rattle.object_heap.specs.declared.value.Value.TheVariants.{Nil, True, False, Integer, Character, Symbol, Class, Meta, Transcript, Object}
use Rattle.st_code.specs.Program.{Program, Place, Scoped, Slot, ClassSlot, Shared, Kind, InMethod, InBlock, InInitializer, MethodRow, Initializer, Body as BodyRow, body_at}
use Rattle.st_code.specs.Code.{Instr, PushConstant, PushSelf, Pop, Dup, PushVariable, Store, SendMessage, SendSuper, MakeBlock, MethodReturn, HomeReturn, BlockEnd, code_body}
use Rattle.st_code.specs.Compiled.{constant_value, constant_of}
use Rattle.st_rules.specs.Compilable.{Captured, Named, Body, Sound, AllSound, AllMethods, AllInitializers, is_captured_outwards, is_named, same_kind, same_outer, is_body, is_constant, is_sound, are_sound, bodies_sound, methods_sound, initializers_sound, is_compilable, Computed}

other_way : {A : Type 0} → false ≡ true → A
other_way e = let none : ⊥ = true≢false (sym e) in absurd none

both : (a b : Bool) → (a && b) ≡ true → (a ≡ true) × (b ≡ true)
both true b e = (refl, e)
both false b e = other_way e

kind_is : (a b : Kind) → same_kind a b ≡ true → a ≡ b
kind_is InMethod InMethod e = refl
kind_is InBlock InBlock e = refl
kind_is InInitializer InInitializer e = refl
kind_is InMethod InBlock e = other_way e
kind_is InMethod InInitializer e = other_way e
kind_is InBlock InMethod e = other_way e
kind_is InBlock InInitializer e = other_way e
kind_is InInitializer InMethod e = other_way e
kind_is InInitializer InBlock e = other_way e

number_is : (a b : ℕ) → nat_eq a b ≡ true → a ≡ b
number_is a b e = elim (eqb_tells a b) [
  | inl is ↦ is.1
  | inr is ↦ other_way (sym is.0 ∙ e)
]

outer_is : (a b : Option ℕ) → same_outer a b ≡ true → a ≡ b
outer_is None None e = refl
outer_is (Some n) (Some m) e = ap (λ k. Some k) (number_is n m e)
outer_is None (Some m) e = other_way e
outer_is (Some n) None e = other_way e

constant_is : (v : Value) → is_constant v ≡ true → constant_value (constant_of v) ≡ v
constant_is Nil e = refl
constant_is True e = refl
constant_is False e = refl
constant_is (Integer n) e = refl
constant_is (Character b) e = refl
constant_is (Symbol n) e = refl
constant_is (Class c) e = refl
constant_is (Meta c) e = other_way e
constant_is Transcript e = refl
constant_is (Object n) e = refl

module _ (p : Program) where
  body_held : (code : ℕ) (kind : Kind) (outer : Option ℕ) → is_body p code kind outer ≡ true → Body p code kind outer
  body_held code kind outer e =
      let a = both (nat_lt code (length p.bodies) && same_kind (body_at p code).kind kind) (same_outer (body_at p code).outer outer) e in
      let b = both (nat_lt code (length p.bodies)) (same_kind (body_at p code).kind kind) a.0 in
      record { known = ltb-true code (length p.bodies) b.0; is_kind = kind_is (body_at p code).kind kind b.1; stands = outer_is (body_at p code).outer outer a.1 }

  abbrev CapturedIn : ℕ → ℕ → Option ℕ → Type 0
  CapturedIn up index None = ⊥
  CapturedIn up index (Some n) = Captured p up n index

  captured_on : (up index : ℕ) → ((n : ℕ) → is_captured_outwards p up n index ≡ true → Captured p up n index) → (o : Option ℕ) → elim o [ None ↦ false | Some n ↦ is_captured_outwards p up n index ] ≡ true → CapturedIn up index o
  captured_on up index on None e = other_way e
  captured_on up index on (Some n) e = on n e

  captured_held : (up code index : ℕ) → is_captured_outwards p up code index ≡ true → Captured p up code index
  captured_held zero code index e = e
  captured_held (suc up) code index e = captured_on up index (λ n. captured_held up n index) (body_at p code).outer e

  named_held : (code : ℕ) (place : Place) → is_named p code place ≡ true → Named p code place
  named_held code (Scoped zero index) e = ltb-true index (length (body_at p code).captured) e
  named_held code (Scoped (suc up) index) e = captured_held (suc up) code index e
  named_held code (Slot index) e = tt
  named_held code (ClassSlot index) e = tt
  named_held code (Shared index) e = tt

  sound_held : (code : ℕ) (i : Instr) → is_sound p code i ≡ true → Sound p code i
  sound_held code (PushConstant v) e = constant_is v e
  sound_held code (PushVariable place) e = named_held code place e
  sound_held code (Store place) e = named_held code place e
  sound_held code (MakeBlock n) e = body_held n InBlock (Some code) e
  sound_held code PushSelf e = tt
  sound_held code Pop e = tt
  sound_held code Dup e = tt
  sound_held code (SendMessage selector count) e = tt
  sound_held code (SendSuper selector count) e = tt
  sound_held code MethodReturn e = tt
  sound_held code HomeReturn e = tt
  sound_held code BlockEnd e = tt

  all_held : (code : ℕ) (is : List Instr) → are_sound p code is ≡ true → AllSound p code is
  all_held code [] e = tt
  all_held code (i ∷ is) e = let h = both (is_sound p code i) (are_sound p code is) e in (sound_held code i h.0, all_held code is h.1)

  -- the body of this number, or the one that stands for none
  bodies_held : (bodies : List BodyRow) (k i : ℕ) (d : BodyRow) → bodies_sound p k bodies ≡ true → AllSound p (k + i) (code_body d.kind d.statements) → AllSound p (k + i) (code_body (get_or bodies i d).kind (get_or bodies i d).statements)
  bodies_held [] k i d e h = h
  bodies_held (body ∷ bodies) k zero d e h =
      let same : k ≡ k + 0 = omega arith in
      subst (λ n. AllSound p n (code_body body.kind body.statements)) same (all_held k (code_body body.kind body.statements) (both (are_sound p k (code_body body.kind body.statements)) (bodies_sound p (suc k) bodies) e).0)
  bodies_held (body ∷ bodies) k (suc i) d e h =
      let same : suc k + i ≡ k + suc i = omega arith in
      subst (λ n. AllSound p n (code_body (get_or bodies i d).kind (get_or bodies i d).statements)) same
      (bodies_held bodies (suc k) i d (both (are_sound p k (code_body body.kind body.statements)) (bodies_sound p (suc k) bodies) e).1 (subst (λ n. AllSound p n (code_body d.kind d.statements)) (sym same) h))

  methods_held : (methods : List MethodRow) → methods_sound p methods ≡ true → AllMethods p methods
  methods_held [] e = tt
  methods_held (m ∷ methods) e = let h = both (is_body p m.code InMethod None) (methods_sound p methods) e in (body_held m.code InMethod None h.0, methods_held methods h.1)

  initializers_held : (xs : List Initializer) → initializers_sound p xs ≡ true → AllInitializers p xs
  initializers_held [] e = tt
  initializers_held (x ∷ xs) e = let h = both (is_body p x.code InInitializer None) (initializers_sound p xs) e in (body_held x.code InInitializer None h.0, initializers_held xs h.1)

  every_body : bodies_sound p 0 p.bodies ≡ true → (code : ℕ) → AllSound p code (code_body (body_at p code).kind (body_at p code).statements)
  unfolding body_at
  every_body e code =
      let same : 0 + code ≡ code = omega arith in
      subst (λ n. AllSound p n (code_body (body_at p code).kind (body_at p code).statements)) same (bodies_held p.bodies 0 code _ e (refl, (tt, tt)))

pub computed : Computed
unfolding is_compilable
computed p e =
    let a = both (bodies_sound p 0 p.bodies && methods_sound p p.methods) (initializers_sound p p.initializers) e in
    let b = both (bodies_sound p 0 p.bodies) (methods_sound p p.methods) a.0 in
    record { bodies = every_body p b.0; methods = methods_held p p.methods b.1; initializers = initializers_held p p.initializers a.1 }
