-- What lists of places contain.
use Rattle.std.proofs.Common.{◌≡◌, ◌<◌, ◌≤◌, ℕ, zero, suc, min, Bool, true, false, ◌⊎◌, inl, inr, cond, List, [], ◌∷◌, ◌++◌, length, get_or, Option, Some, None, refl, sym, subst, arith}
use Rattle.std.specs.List.{Contains}
use Rattle.std.proofs.lemmas.List.Elements.{Contains-append_left, Contains-append_right, Contains-append_cases}
use Rattle.st_checks.specs.Bodies.{Scope, Mention}
use Rattle.st_checks.specs.StaticRules.{lesser, least, repeated_from, repeated_in, places}

cons-at : {A : Type 0} (x y : A) (xs : List A) (k : ℕ) → k < length (x ∷ xs) → get_or (x ∷ xs) k y ≡ y → (x ≡ y) ⊎ Contains xs y
cons-at x y xs zero low is = inl is
cons-at x y xs (suc k) low is = inr (k, omega arith, is)

pub Contains-cases : {A : Type 0} (x y : A) (xs : List A) → Contains (x ∷ xs) y → (x ≡ y) ⊎ Contains xs y
Contains-cases x y xs h = cons-at x y xs h.0 h.1 h.2

pub Contains-here : {A : Type 0} (x : A) (xs : List A) → Contains (x ∷ xs) x
Contains-here x xs = (0, omega arith, refl)

pub Contains-there : {A : Type 0} (x y : A) (xs : List A) → Contains xs y → Contains (x ∷ xs) y
Contains-there x y xs h = Contains-append_right (x ∷ []) xs y h

pub Contains-nil : {A : Type 0} (y : A) → Contains [] y → ⊥
Contains-nil y h = omega (arith, h.1)

-- ---- the least

cases_le : (m n : ℕ) → (m ≤ n) ⊎ (n ≤ m)
cases_le zero n = inl (omega arith)
cases_le (suc m) zero = inr (omega arith)
cases_le (suc m) (suc n) = elim (cases_le m n) [ inl h ↦ inl (omega arith) | inr h ↦ inr (omega arith) ]

least-two : (n m k : ℕ) (ns : List ℕ) → Contains ns k → (n ≤ k) ⊎ (k ≤ n) → min n k ≡ m → Contains (n ∷ ns) m
least-two n m k ns more (inl low) is =
    let same : n ≡ m = omega arith in
    subst (λ (x : ℕ). Contains (n ∷ ns) x) same (Contains-here n ns)
least-two n m k ns more (inr low) is =
    let same : k ≡ m = omega arith in
    subst (λ (x : ℕ). Contains (n ∷ ns) x) same (Contains-there n k ns more)

least-one : (n m : ℕ) (o : Option ℕ) (ns : List ℕ) → ((k : ℕ) → o ≡ Some k → Contains ns k) → Some (lesser n o) ≡ Some m → Contains (n ∷ ns) m
least-one n m None ns more is =
    let same : n ≡ m = cc in
    subst (λ (x : ℕ). Contains (n ∷ ns) x) same (Contains-here n ns)
least-one n m (Some k) ns more is = least-two n m k ns (more k refl) (cases_le n k) cc

pub least-in : (xs : List ℕ) (m : ℕ) → least xs ≡ Some m → Contains xs m
least-in [] m is = absurd (cc)
least-in (n ∷ ns) m is = least-one n m (least ns) ns (λ k h. least-in ns k h) is

lesser-low : (n x : ℕ) (o : Option ℕ) → (n ≡ x) ⊎ ((k : ℕ) × (o ≡ Some k) × (k ≤ x)) → lesser n o ≤ x
lesser-low n x None (inl is) = omega arith
lesser-low n x None (inr h) = absurd (let no : None ≡ Some h.0 = h.1 in cc)
lesser-low n x (Some k) (inl is) = omega arith
lesser-low n x (Some k) (inr h) =
    let same : Some k ≡ Some h.0 = h.1 in
    let here : k ≡ h.0 = cc in
    omega (arith, h.2)

pub least-low : (xs : List ℕ) (x : ℕ) → Contains xs x → (m : ℕ) × (least xs ≡ Some m) × (m ≤ x)
least-low [] x h = absurd (Contains-nil x h)
least-low (n ∷ ns) x h = (lesser n (least ns), refl, lesser-low n x (least ns) (elim (Contains-cases n x ns h) [ inl same ↦ inl same | inr k ↦ inr (least-low ns x k) ]))

-- ---- the places of mentions

-- the place is that of a mention that the test holds of
pub record FromMention (test : Mention → Bool) (ms : List Mention) (byte : ℕ) : Type 0 where
  pub mention : Mention
  pub among : Contains ms mention
  pub holds : test mention ≡ true
  pub at : mention.name.at ≡ byte

from-there : (test : Mention → Bool) (m : Mention) (ms : List Mention) (byte : ℕ) → FromMention test ms byte → FromMention test (m ∷ ms) byte
from-there test m ms byte f = record { mention = f.mention; among = Contains-there m f.mention ms f.among; holds = f.holds; at = f.at }

places-first : (test : Mention → Bool) (m : Mention) (ms : List Mention) (rest : List ℕ) (byte : ℕ) → test m ≡ true → (Contains rest byte → FromMention test ms byte) → (m.name.at ≡ byte) ⊎ Contains rest byte → FromMention test (m ∷ ms) byte
places-first test m ms rest byte is more (inl at) = record { mention = m; among = Contains-here m ms; holds = is; at = at }
places-first test m ms rest byte is more (inr h) = from-there test m ms byte (more h)

places-one : (test : Mention → Bool) (b : Bool) (m : Mention) (ms : List Mention) (rest : List ℕ) (byte : ℕ) → test m ≡ b → (Contains rest byte → FromMention test ms byte)
    → Contains (cond b (m.name.at ∷ rest) rest) byte → FromMention test (m ∷ ms) byte
places-one test true m ms rest byte is more h = places-first test m ms rest byte is more (Contains-cases m.name.at byte rest h)
places-one test false m ms rest byte is more h = from-there test m ms byte (more h)

pub places-in : (test : Mention → Bool) (ms : List Mention) (byte : ℕ) → Contains (places test ms) byte → FromMention test ms byte
places-in test [] byte h = absurd (Contains-nil byte h)
places-in test (m ∷ ms) byte h = places-one test (test m) m ms (places test ms) byte refl (places-in test ms byte) h

place-here : (b : Bool) (at : ℕ) (rest : List ℕ) → b ≡ true → Contains (cond b (at ∷ rest) rest) at
place-here true at rest is = Contains-here at rest
place-here false at rest is = absurd (cc)

place-there : (b : Bool) (at byte : ℕ) (rest : List ℕ) → Contains rest byte → Contains (cond b (at ∷ rest) rest) byte
place-there true at byte rest h = Contains-there at byte rest h
place-there false at byte rest h = h

place-cases : (test : Mention → Bool) (n m : Mention) (ms : List Mention) → test m ≡ true → (Contains ms m → Contains (places test ms) m.name.at) → (n ≡ m) ⊎ Contains ms m → Contains (places test (n ∷ ms)) m.name.at
place-cases test n m ms is more (inl same) = subst (λ (x : Mention). Contains (places test (x ∷ ms)) m.name.at) (sym same) (place-here (test m) m.name.at (places test ms) is)
place-cases test n m ms is more (inr h) = place-there (test n) n.name.at m.name.at (places test ms) (more h)

pub places-from : (test : Mention → Bool) (ms : List Mention) (m : Mention) → Contains ms m → test m ≡ true → Contains (places test ms) m.name.at
places-from test [] m h is = absurd (Contains-nil m h)
places-from test (n ∷ ms) m h is = place-cases test n m ms is (λ k. places-from test ms m k is) (Contains-cases n m ms h)

-- ---- the places of repeated names

-- the place is that of a name that a scope repeats
pub record FromScope (scopes : List Scope) (byte : ℕ) : Type 0 where
  pub scope : Scope
  pub among : Contains scopes scope
  pub there : Contains (repeated_from [] (scope.parameters ++ scope.temporaries)) byte

abbrev pub repeated_of : Scope → List ℕ
repeated_of s = repeated_from [] (s.parameters ++ s.temporaries)

repeated-cases : (s : Scope) (scopes : List Scope) (byte : ℕ) → (Contains (repeated_in scopes) byte → FromScope scopes byte) → Contains (repeated_of s) byte ⊎ Contains (repeated_in scopes) byte → FromScope (s ∷ scopes) byte
repeated-cases s scopes byte more (inl h) = record { scope = s; among = Contains-here s scopes; there = h }
repeated-cases s scopes byte more (inr h) =
    let f = more h in record { scope = f.scope; among = Contains-there s f.scope scopes f.among; there = f.there }

pub repeated-in : (scopes : List Scope) (byte : ℕ) → Contains (repeated_in scopes) byte → FromScope scopes byte
repeated-in [] byte h = absurd (Contains-nil byte h)
repeated-in (s ∷ scopes) byte h = repeated-cases s scopes byte (repeated-in scopes byte) (Contains-append_cases (repeated_of s) (repeated_in scopes) byte h)

repeated-there : (n s : Scope) (scopes : List Scope) (byte : ℕ) → Contains (repeated_of s) byte → (Contains scopes s → Contains (repeated_in scopes) byte) → (n ≡ s) ⊎ Contains scopes s → Contains (repeated_in (n ∷ scopes)) byte
repeated-there n s scopes byte h more (inl same) = Contains-append_left (repeated_of n) (repeated_in scopes) byte (subst (λ (x : Scope). Contains (repeated_of x) byte) (sym same) h)
repeated-there n s scopes byte h more (inr k) = Contains-append_right (repeated_of n) (repeated_in scopes) byte (more k)

pub repeated-from : (scopes : List Scope) (s : Scope) (byte : ℕ) → Contains scopes s → Contains (repeated_of s) byte → Contains (repeated_in scopes) byte
repeated-from [] s byte k h = absurd (Contains-nil s k)
repeated-from (n ∷ scopes) s byte k h = repeated-there n s scopes byte h (λ m. repeated-from scopes s byte m h) (Contains-cases n s scopes k)
