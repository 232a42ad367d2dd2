-- Names in bodies: where each is found, and that a variable of a body further out is captured.
use Rattle.std.proofs.Common.{◌≡◌, ℕ, zero, suc, ◌+◌, ◌-◌, ◌<◌, ◌≤◌, inl, inr, List, [], ◌∷◌, ◌++◌, map, length, get_or, Option, Some, None, Bool, true, false, refl, sym, ap, ◌∙◌, subst, arith, true≢false, eq-eqb}
use Rattle.std.proofs.lemmas.Bool.Decides.{eqb_tells}
use Rattle.object_heap.specs.declared.value.Value.TheVariants.{Transcript, Class}
use Rattle.st_code.specs.Texts.{Text, same_text}
use Rattle.st_code.specs.Program.{Program, Place, Scoped, Slot, ClassSlot, Shared, Side, OfInstance, OfClass, OfMeta, body_at}
use Rattle.st_code.specs.Resolved.{has_text, Meant, At, Value', Names, SharedName, ClassName, PoolName, GlobalName, place_in, class_in, class_names_at, ClassNames, meant_outside, meant}
use Rattle.st_code.specs.Compiled.{constant_value, constant_of, is_captured}
use Rattle.st_rules.specs.Compilable.{Captured, Named}

other_way : {A : Type 0} → false ≡ true → A
other_way e = let none : ⊥ = true≢false (sym e) in absurd none

-- ---- lists of names

abbrev pub Has : List Text → Text → Type 0
Has ts t = has_text ts t ≡ true

pub same_is : (a b : Text) → same_text a b ≡ true → a ≡ b
unfolding same_text
same_is [] [] e = refl
same_is [] (y ∷ ys) e = other_way e
same_is (x ∷ xs) [] e = other_way e
same_is (x ∷ xs) (y ∷ ys) e = elim (eqb_tells x y) [
  | inl is ↦ ap (λ k. k ∷ xs) is.1 ∙ ap (λ zs. y ∷ zs) (same_is xs ys (sym (ap (λ b. elim b [ true ↦ same_text xs ys | false ↦ false ]) is.0) ∙ e))
  | inr is ↦ other_way (sym (ap (λ b. elim b [ true ↦ same_text xs ys | false ↦ false ]) is.0) ∙ e)
]

pub same_itself : (a : Text) → same_text a a ≡ true
unfolding same_text
same_itself [] = refl
same_itself (x ∷ xs) = ap (λ b. elim b [ true ↦ same_text xs xs | false ↦ false ]) (eq-eqb x x refl) ∙ same_itself xs

pub has_left : (xs ys : List Text) (t : Text) → Has xs t → Has (xs ++ ys) t
has_left [] ys t e = other_way e
has_left (x ∷ xs) ys t e = go (same_text x t) e (has_left xs ys t)
  where
    go : (b : Bool) → elim b [ true ↦ true | false ↦ has_text xs t ] ≡ true → (Has xs t → Has (xs ++ ys) t) → elim b [ true ↦ true | false ↦ has_text (xs ++ ys) t ] ≡ true
    go true e on = refl
    go false e on = on e

pub has_right : (xs ys : List Text) (t : Text) → Has ys t → Has (xs ++ ys) t
has_right [] ys t e = e
has_right (x ∷ xs) ys t e = go (same_text x t) (has_right xs ys t e)
  where
    go : (b : Bool) → Has (xs ++ ys) t → elim b [ true ↦ true | false ↦ has_text (xs ++ ys) t ] ≡ true
    go true h = refl
    go false h = h

-- ---- a name's place in a scope

abbrev pub text_at : ℕ → List Text → Text → Option ℕ
text_at n [] t = None
text_at n (u ∷ us) t = elim (same_text u t) [ true ↦ Some n | false ↦ text_at (suc n) us t ]

-- a variable that is found, whose name is among these
pub record Found (n : ℕ) (us : List Text) (t : Text) (i : ℕ) : Type 0 where
  pub least : n ≤ i
  pub inside : i < n + length us
  pub caught : (names : List Text) → Has names t → get_or (map (has_text names) us) (i - n) false ≡ true

some_is : (n i : ℕ) → Some n ≡ Some i → n ≡ i
some_is n i e = cc

pub found : (n : ℕ) (us : List Text) (t : Text) (i : ℕ) → text_at n us t ≡ Some i → Found n us t i
found n [] t i e = let none : ⊥ = grind (arith, e) in absurd none
found n (u ∷ us) t i e = go (same_text u t) refl e (found (suc n) us t i)
  where
    go : (b : Bool) → same_text u t ≡ b → elim b [ true ↦ Some n | false ↦ text_at (suc n) us t ] ≡ Some i → (text_at (suc n) us t ≡ Some i → Found (suc n) us t i) → Found n (u ∷ us) t i
    go true s e on =
        let same : n ≡ i = some_is n i e in
        let place : i - n ≡ 0 = omega arith in
        record { least = omega arith; inside = omega arith; caught = λ names h. ap (λ k. get_or (map (has_text names) (u ∷ us)) k false) place ∙ ap (has_text names) (same_is u t s) ∙ h }
    go false s e on =
        let f = on e in
        let place : i - n ≡ suc (i - suc n) = omega (arith, f.least) in
        record { least = omega (arith, f.least); inside = omega (arith, f.inside); caught = λ names h. ap (λ k. get_or (map (has_text names) (u ∷ us)) k false) place ∙ f.caught names h }

abbrev next_at : ℕ → List Text → Text → Bool → Option ℕ
next_at n us t b = elim b [ true ↦ Some n | false ↦ text_at (suc n) us t ]

pub not_found : (n : ℕ) (us : List Text) (t : Text) → text_at n us t ≡ None → has_text us t ≡ false
not_found n [] t e = refl
not_found n (u ∷ us) t e = go (same_text u t) e (not_found (suc n) us t)
  where
    go : (b : Bool) → next_at n us t b ≡ None → (text_at (suc n) us t ≡ None → has_text us t ≡ false) → elim b [ true ↦ true | false ↦ has_text us t ] ≡ false
    go true e on = let none : ⊥ = grind (arith, e) in absurd none
    go false e on = on e

-- ---- what a name stands for

abbrev pub MeantSound : Program → ℕ → Meant → Type 0
MeantSound p c (At place) = Named p c place
MeantSound p c (Value' v) = constant_value (constant_of v) ≡ v

module _ (p : Program) where
  -- the scopes of a body and those around it
  abbrev pub Chain : ℕ → List (List Text) → Type 0
  Chain c [] = ⊥
  Chain c (scope ∷ scopes) = (length (body_at p c).captured ≡ length scope) × elim (body_at p c).outer [ None ↦ scopes ≡ [] | Some m ↦ Chain m scopes ]

  -- where a name is declared in these scopes, it is captured
  abbrev pub Caught : ℕ → List (List Text) → Text → Type 0
  Caught c [] t = Unit {0}
  Caught c (scope ∷ scopes) t = ((n : ℕ) → text_at 0 scope t ≡ Some n → is_captured (body_at p c).captured n ≡ true) × (text_at 0 scope t ≡ None → elim (body_at p c).outer [ None ↦ Unit {0} | Some m ↦ Caught m scopes t ])

  -- the same of the scopes further out
  abbrev pub Beyond : ℕ → List (List Text) → Text → Type 0
  Beyond c [] t = Unit {0}
  Beyond c (scope ∷ scopes) t = text_at 0 scope t ≡ None → elim (body_at p c).outer [ None ↦ Unit {0} | Some m ↦ Caught m scopes t ]

  -- ---- behind the scopes

  abbrev Plain : Meant → Type 0
  Plain (At (Scoped up index)) = ⊥
  Plain (At (Slot index)) = Unit {0}
  Plain (At (ClassSlot index)) = Unit {0}
  Plain (At (Shared index)) = Unit {0}
  Plain (Value' v) = constant_value (constant_of v) ≡ v

  abbrev AllPlain : Option Meant → Type 0
  AllPlain None = Unit {0}
  AllPlain (Some m) = Plain m

  abbrev or_meant : Option Meant → Option Meant → Option Meant
  or_meant (Some m) o = Some m
  or_meant None o = o

  or_plain : (a b : Option Meant) → AllPlain a → AllPlain b → AllPlain (or_meant a b)
  or_plain (Some m) b h i = h
  or_plain None b h i = i

  abbrev shared_meant : Option ℕ → Option Meant
  shared_meant (Some n) = Some (At (Shared n))
  shared_meant None = None

  shared_plain : (o : Option ℕ) → AllPlain (shared_meant o)
  shared_plain None = tt
  shared_plain (Some n) = tt

  abbrev class_meant : Option ℕ → Option Meant
  class_meant (Some c) = Some (Value' (Class c))
  class_meant None = None

  class_plain : (o : Option ℕ) → AllPlain (class_meant o)
  class_plain None = tt
  class_plain (Some n) = refl

  abbrev pools_meant : List SharedName → List Text → Text → Option Meant
  pools_meant shared [] t = None
  pools_meant shared (pool ∷ pools) t = or_meant (shared_meant (place_in 0 shared (PoolName pool t))) (pools_meant shared pools t)

  pools_plain : (shared : List SharedName) (pools : List Text) (t : Text) → AllPlain (pools_meant shared pools t)
  pools_plain shared [] t = tt
  pools_plain shared (pool ∷ pools) t = or_plain (shared_meant (place_in 0 shared (PoolName pool t))) (pools_meant shared pools t) (shared_plain (place_in 0 shared (PoolName pool t))) (pools_plain shared pools t)

  abbrev classes_meant : Names → ℕ → ℕ → Text → Option Meant
  classes_meant x zero class t = None
  classes_meant x (suc n) class t =
      or_meant (shared_meant (place_in 0 x.shared (ClassName class t)))
      (or_meant (pools_meant x.shared (class_names_at x.classes class).pools t)
      (elim (class_names_at x.classes class).row.superclass [ None ↦ None | Some above ↦ classes_meant x n above t ]))

  above_plain : (o : Option ℕ) (f : ℕ → Option Meant) → ((n : ℕ) → AllPlain (f n)) → AllPlain (elim o [ None ↦ None | Some above ↦ f above ])
  above_plain None f h = tt
  above_plain (Some n) f h = h n

  classes_plain : (x : Names) (n class : ℕ) (t : Text) → AllPlain (classes_meant x n class t)
  classes_plain x zero class t = tt
  classes_plain x (suc n) class t =
      or_plain (shared_meant (place_in 0 x.shared (ClassName class t))) _ (shared_plain (place_in 0 x.shared (ClassName class t)))
      (or_plain (pools_meant x.shared (class_names_at x.classes class).pools t) _ (pools_plain x.shared (class_names_at x.classes class).pools t)
      (above_plain (class_names_at x.classes class).row.superclass (λ above. classes_meant x n above t) (λ above. classes_plain x n above t)))

  abbrev slot_meant : (ℕ → Place) → Option ℕ → Option Meant
  slot_meant place (Some n) = Some (At (place n))
  slot_meant place None = None

  slot_plain : (place : ℕ → Place) (o : Option ℕ) → ((n : ℕ) → Plain (At (place n))) → AllPlain (slot_meant place o)
  slot_plain place None h = tt
  slot_plain place (Some n) h = h n

  abbrev own_meant : ClassNames → Side → Text → Option Meant
  own_meant c OfInstance t = slot_meant (λ n. Slot (c.base + n)) (text_at 0 c.instance_names t)
  own_meant c side t = slot_meant ClassSlot (text_at 0 c.class_instance_names t)

  own_plain : (c : ClassNames) (side : Side) (t : Text) → AllPlain (own_meant c side t)
  own_plain c OfInstance t = slot_plain (λ n. Slot (c.base + n)) (text_at 0 c.instance_names t) (λ n. tt)
  own_plain c OfClass t = slot_plain ClassSlot (text_at 0 c.class_instance_names t) (λ n. tt)
  own_plain c OfMeta t = slot_plain ClassSlot (text_at 0 c.class_instance_names t) (λ n. tt)

  abbrev or_transcript : Option Meant → Meant
  or_transcript (Some m) = m
  or_transcript None = Value' Transcript

  transcript_plain : (o : Option Meant) → AllPlain o → Plain (or_transcript o)
  transcript_plain None h = refl
  transcript_plain (Some m) h = h

  outside_plain : (x : Names) (class : ℕ) (side : Side) (t : Text) → Plain (meant_outside x class side t)
  unfolding meant_outside
  outside_plain x class side t =
      transcript_plain _ (or_plain (own_meant (class_names_at x.classes class) side t) _ (own_plain (class_names_at x.classes class) side t)
      (or_plain (classes_meant x (suc class) class t) _ (classes_plain x (suc class) class t)
      (or_plain (class_meant (class_in 0 x.classes t)) (shared_meant (place_in 0 x.shared (GlobalName t))) (class_plain (class_in 0 x.classes t)) (shared_plain (place_in 0 x.shared (GlobalName t))))))

  plain_sound : (c : ℕ) (m : Meant) → Plain m → MeantSound p c m
  plain_sound c (At (Scoped up index)) h = absurd h
  plain_sound c (At (Slot index)) h = tt
  plain_sound c (At (ClassSlot index)) h = tt
  plain_sound c (At (Shared index)) h = tt
  plain_sound c (Value' v) h = h

  -- ---- in the scopes

  abbrev meant_by : Names → ℕ → Side → ℕ → List (List Text) → Text → Meant
  meant_by x class side up [] t = meant_outside x class side t
  meant_by x class side up (scope ∷ scopes) t = elim (text_at 0 scope t) [ Some n ↦ At (Scoped up n) | None ↦ meant_by x class side (suc up) scopes t ]

  module _ (x : Names) (class : ℕ) (side : Side) (t : Text) (c0 : ℕ) where
    -- what is captured so many bodies further out from this one is so from the first
    abbrev Lifts : ℕ → ℕ → Type 0
    Lifts up c = (k index : ℕ) → Captured p k c index → Captured p (up + k) c0 index

    abbrev CapturedOut : ℕ → ℕ → Option ℕ → Type 0
    CapturedOut k index None = ⊥
    CapturedOut k index (Some n) = Captured p k n index

    lifts_out : (up c m : ℕ) → (body_at p c).outer ≡ Some m → Lifts up c → Lifts (suc up) m
    lifts_out up c m e lift k index h =
        let same : up + suc k ≡ suc up + k = omega arith in
        subst (λ n. Captured p n c0 index) same (lift (suc k) index (subst (λ o. CapturedOut k index o) (sym e) h))

    abbrev OuterChain : Option ℕ → List (List Text) → Type 0
    OuterChain o scopes = elim o [ None ↦ scopes ≡ [] | Some m ↦ Chain m scopes ]

    abbrev OuterCaught : Option ℕ → List (List Text) → Type 0
    OuterCaught o scopes = elim o [ None ↦ Unit {0} | Some m ↦ Caught m scopes t ]

    outer_sound : (scopes : List (List Text)) (up c : ℕ) (o : Option ℕ) → (body_at p c).outer ≡ o → Lifts up c → OuterChain o scopes → OuterCaught o scopes → MeantSound p c0 (meant_by x class side (suc up) scopes t)
    outer_sound [] up c o e lift h i = plain_sound c0 (meant_outside x class side t) (outside_plain x class side t)
    outer_sound (scope ∷ scopes) up c None e lift h i = let none : ⊥ = grind (arith, h) in absurd none
    outer_sound (scope ∷ scopes) up c (Some m) e lift h i =
        in_scope (text_at 0 scope t) refl (λ s. outer_sound scopes (suc up) m (body_at p m).outer refl (lifts_out up c m e lift) h.1 (i.1 s))
      where
        in_scope : (f : Option ℕ) → text_at 0 scope t ≡ f → (text_at 0 scope t ≡ None → MeantSound p c0 (meant_by x class side (suc (suc up)) scopes t)) → MeantSound p c0 (elim f [ Some n ↦ At (Scoped (suc up) n) | None ↦ meant_by x class side (suc (suc up)) scopes t ])
        in_scope None s on = on s
        in_scope (Some n) s on = let same : suc up + 0 ≡ suc up = omega arith in subst (λ k. Captured p k c0 n) same (lifts_out up c m e lift 0 n (i.0 n s))

    pub name_sound : (scopes : List (List Text)) → Chain c0 scopes → Beyond c0 scopes t → MeantSound p c0 (meant x class side scopes t)
    unfolding meant
    name_sound [] h i = absurd h
    name_sound (scope ∷ scopes) h i = in_scope (text_at 0 scope t) refl
      where
        same_level : Lifts 0 c0
        same_level k index h = let same : k ≡ 0 + k = omega arith in subst (λ n. Captured p n c0 index) same h

        in_scope : (f : Option ℕ) → text_at 0 scope t ≡ f → MeantSound p c0 (elim f [ Some n ↦ At (Scoped 0 n) | None ↦ meant_by x class side 1 scopes t ])
        in_scope None s = outer_sound scopes 0 c0 (body_at p c0).outer refl same_level h.1 (i s)
        in_scope (Some n) s = let f = found 0 scope t n s in omega (arith, f.inside, h.0)
