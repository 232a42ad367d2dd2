-- The first entry with a key, in a list and in the table that a stable sort makes of it.
use Rattle.std.proofs.Common.{◌≡◌, ◌⊎◌, inl, inr, ℕ, zero, suc, ◌<◌, ◌≤◌, Bool, true, false, not, ◌&&◌, cond, List, [], ◌∷◌, drop, length, get_or, Option, Some, None, refl, ap, sym, ◌∙◌, arith, nat_eq}
use Rattle.std.specs.List.{filter}
use Rattle.std.specs.List.Sorted.{IsSortedByKey, IsStableByKey, ties}
use Rattle.std.specs.Ordering.{nat_cmp, is_lt, is_eq, ordering_then, ordering_reverse, ordering_index}
use Rattle.std.proofs.Math.Seq.{drop-cons, drop-length}
use Rattle.std.specs.declared.cmp.Ordering.{Ordering}
use Rattle.std.specs.declared.cmp.Ordering.TheVariants.{Less, Equal, Greater}
use Rattle.std.proofs.lemmas.Bool.{cases_lt}
use Rattle.std.proofs.lemmas.Bool.Decides.{nat_tests}
use denote.Enum.Bare.{sameb}
use Rattle.program_image.specs.contracts.table.Side as side_type
use Rattle.program_image.specs.declared.table.Side.{Side}
use Rattle.program_image.specs.declared.table.Side.TheVariants as side
use Rattle.program_image.specs.declared.table.Found.{Found}
use Rattle.program_image.specs.declared.table.Found.TheVariants.{User}
use Rattle.program_image.specs.declared.table.Key.{Key}
use Rattle.program_image.specs.declared.table.Entry.{Entry}
use Rattle.program_image.specs.Tables.{same_side, same_key, first_found, key_cmp, key_of, side_rank, Searched, HasFirsts}
use Rattle.program_image.specs.contracts.table.KeyOrd.TheImpl as key_ord
use Rattle.program_image.proofs.Order.{key_same, key_total, rises}

-- ---- keys that tie are equal

nat-equal : (m n : ℕ) → is_eq (nat_cmp m n) ≡ nat_eq m n
nat-equal m n = grind (arith, nat_tests)

side-equal : (a b : Side) → is_eq (nat_cmp (side_rank a) (side_rank b)) ≡ same_side a b
side-equal side.Instance side.Instance = refl
side-equal side.Instance side.Class = refl
side-equal side.Instance side.Meta = refl
side-equal side.Class side.Instance = refl
side-equal side.Class side.Class = refl
side-equal side.Class side.Meta = refl
side-equal side.Meta side.Instance = refl
side-equal side.Meta side.Class = refl
side-equal side.Meta side.Meta = refl

then-equal : (o p : Ordering) → is_eq (ordering_then o p) ≡ (is_eq o && is_eq p)
then-equal Less p = refl
then-equal Equal p = refl
then-equal Greater p = refl

pub key-equal : (a b : Key) → is_eq (key_cmp a b) ≡ same_key a b
key-equal a b =
    then-equal (nat_cmp a.selector b.selector) (ordering_then (nat_cmp (side_rank a.side) (side_rank b.side)) (nat_cmp a.class b.class))
    ∙ ap (λ c. c && is_eq (ordering_then (nat_cmp (side_rank a.side) (side_rank b.side)) (nat_cmp a.class b.class))) (nat-equal a.selector b.selector)
    ∙ ap (λ c. nat_eq a.selector b.selector && c)
    (then-equal (nat_cmp (side_rank a.side) (side_rank b.side)) (nat_cmp a.class b.class)
    ∙ ap (λ c. c && is_eq (nat_cmp a.class b.class)) (side-equal a.side b.side)
    ∙ ap (λ c. same_side a.side b.side && c) (nat-equal a.class b.class))

-- what `==` says of two keys
side-tells : (a b : Side) → sameb side_type.the_type a b ≡ same_side a b
side-tells side.Instance side.Instance = refl
side-tells side.Instance side.Class = refl
side-tells side.Instance side.Meta = refl
side-tells side.Class side.Instance = refl
side-tells side.Class side.Class = refl
side-tells side.Class side.Meta = refl
side-tells side.Meta side.Instance = refl
side-tells side.Meta side.Class = refl
side-tells side.Meta side.Meta = refl

pub key-tells : (a b : Key) → (nat_eq a.selector b.selector && (sameb side_type.the_type a.side b.side && nat_eq a.class b.class)) ≡ same_key a b
key-tells a b = ap (λ c. nat_eq a.selector b.selector && (c && nat_eq a.class b.class)) (side-tells a.side b.side)

neither : (o p : Ordering) → p ≡ ordering_reverse o → (not (is_lt p) && not (is_lt o)) ≡ is_eq o
neither Less p is = ap (λ q. not (is_lt q) && false) is
neither Equal p is = ap (λ q. not (is_lt q) && true) is
neither Greater p is = ap (λ q. not (is_lt q) && true) is

abbrev at_key : Key → Entry
at_key key = record { key = key; found = User 0 }

abbrev goes_first : Entry → Entry → Bool
goes_first a b = is_lt (key_ord.ghosts.cmp (key_of a) (key_of b))

tie-same : (key : Key) (e : Entry) → ties goes_first (at_key key) e ≡ same_key e.key key
tie-same key e =
    ap (λ o. not (is_lt o) && not (is_lt (key_ord.ghosts.cmp e.key key))) (key_same key e.key)
    ∙ ap (λ o. not (is_lt (key_cmp key e.key)) && not (is_lt o)) (key_same e.key key)
    ∙ neither (key_cmp e.key key) (key_cmp key e.key) (key_total.antisymm key e.key) ∙ key-equal e.key key

-- ---- a stable sort keeps the firsts

abbrev head_found : List Entry → Option Found
head_found [] = None
head_found (e ∷ entries) = Some e.found

head-step : (b c : Bool) (e : Entry) (rest : List Entry) (found : Option Found) → b ≡ c → found ≡ head_found rest → elim c [ true ↦ Some e.found | false ↦ found ] ≡ head_found (cond b (e ∷ rest) rest)
head-step true true e rest found same is = refl
head-step false false e rest found same is = is
head-step true false e rest found same is = absurd (grind (arith, same))
head-step false true e rest found same is = absurd (grind (arith, same))

head-filter : (entries : List Entry) (key : Key) → first_found entries key ≡ head_found (filter (ties goes_first (at_key key)) entries)
unfolding first_found
head-filter [] key = refl
head-filter (e ∷ entries) key =
    head-step (ties goes_first (at_key key) e) (same_key e.key key) e (filter (ties goes_first (at_key key)) entries) (first_found entries key) (tie-same key e) (head-filter entries key)

pub stable-firsts : (entries table : List Entry) → IsStableByKey key_of key_ord.ghosts.cmp entries table → HasFirsts entries table
stable-firsts entries table stable = record { same = λ key. head-filter table key ∙ ap head_found (stable (at_key key)) ∙ sym (head-filter entries key) }

-- ---- where the first entry stands

first-not : (b : Bool) (f : Found) (rest : Option Found) → b ≡ false → elim b [ true ↦ Some f | false ↦ rest ] ≡ rest
first-not b f rest is = rw is refl

first-is : (b : Bool) (f : Found) (rest : Option Found) → b ≡ true → elim b [ true ↦ Some f | false ↦ rest ] ≡ Some f
first-is b f rest is = rw is refl

first-head : (e : Entry) (entries : List Entry) (key : Key) → same_key e.key key ≡ false → first_found (e ∷ entries) key ≡ first_found entries key
unfolding first_found
first-head e entries key is = first-not (same_key e.key key) e.found (first_found entries key) is

first-here : (e : Entry) (entries : List Entry) (key : Key) → same_key e.key key ≡ true → first_found (e ∷ entries) key ≡ Some e.found
unfolding first_found
first-here e entries key is = first-is (same_key e.key key) e.found (first_found entries key) is

first-nothing : (key : Key) → first_found [] key ≡ None
unfolding first_found
first-nothing key = refl

first-behind : (entries : List Entry) (key : Key) (p : ℕ) → p ≤ length entries → ((i : ℕ) (d : Entry) → i < p → same_key (get_or entries i d).key key ≡ false) → first_found entries key ≡ first_found (drop p entries) key
first-behind entries key zero low none = refl
first-behind [] key (suc p) low none = refl
first-behind (e ∷ entries) key (suc p) low none = first-head e entries key (none 0 e (omega arith)) ∙ first-behind entries key p (omega (arith, low)) (λ i d below. none (suc i) d (omega (arith, below)))

first-none : (entries : List Entry) (key : Key) → ((i : ℕ) (d : Entry) → i < length entries → same_key (get_or entries i d).key key ≡ false) → first_found entries key ≡ None
first-none entries key none =
    first-behind entries key (length entries) (omega arith) none ∙ ap (λ es. first_found es key) (drop-length entries) ∙ first-nothing key

not-less : (o : Ordering) → is_lt o ≡ true → is_eq o ≡ false
not-less Less is = refl
not-less Equal is = absurd (grind (arith, is))
not-less Greater is = refl

not-equal : (o : Ordering) → is_lt o ≡ false → is_eq o ≡ false → 2 ≤ ordering_index o
not-equal Less is not = absurd (grind (arith, is))
not-equal Equal is not = absurd (grind (arith, not))
not-equal Greater is not = omega arith

greater-not : (o : Ordering) → 2 ≤ ordering_index o → is_eq o ≡ false
greater-not Less up = refl
greater-not Equal up = absurd (omega (arith, up))
greater-not Greater up = refl

module _ (entries : List Entry) (key : Key) (p : ℕ) (searched : Searched entries key p p) where
  passed : (i : ℕ) (d : Entry) → i < p → same_key (get_or entries i d).key key ≡ false
  passed i d below = sym (key-equal (get_or entries i d).key key) ∙ not-less (key_cmp (get_or entries i d).key key) (searched.before i d below)

  -- no entry is left behind those that come before the key
  pub first-past : p ≡ length entries → first_found entries key ≡ None
  first-past is = first-none entries key (λ i d low. passed i d (omega (arith, is, low)))

  -- the entry there has the key
  pub first-at : (e : Entry) → e ≡ get_or entries p e → p < length entries → same_key e.key key ≡ true → first_found entries key ≡ Some e.found
  first-at e there low is =
      first-behind entries key p searched.within passed
      ∙ ap (λ es. first_found es key) (drop-cons entries p e low ∙ ap (λ x. x ∷ drop (suc p) entries) (sym there)) ∙ first-here e (drop (suc p) entries) key is

  -- it hasn't, and then none behind it has
  pub first-off : IsSortedByKey key_of key_cmp entries → (e : Entry) → ((d : Entry) → e ≡ get_or entries p d) → p < length entries → same_key e.key key ≡ false → first_found entries key ≡ None
  first-off sorted e there low is = first-none entries key off
    where
      above : (d : Entry) → 2 ≤ ordering_index (key_cmp (get_or entries p d).key key)
      above d = not-equal (key_cmp (get_or entries p d).key key) (searched.behind p d (omega arith) low) (key-equal (get_or entries p d).key key ∙ ap (λ (x : Entry). same_key x.key key) (sym (there d)) ∙ is)

      later : (i : ℕ) (d : Entry) → p ≤ i → i < length entries → same_key (get_or entries i d).key key ≡ false
      later i d up within = sym (key-equal (get_or entries i d).key key)
          ∙ greater-not (key_cmp (get_or entries i d).key key) (let rise = rises entries key sorted p i d up within in let high = above d in omega (arith, rise, high))

      either : (i : ℕ) (d : Entry) → i < length entries → (i < p) ⊎ (p ≤ i) → same_key (get_or entries i d).key key ≡ false
      either i d within (inl below) = passed i d below
      either i d within (inr up) = later i d up within

      off : (i : ℕ) (d : Entry) → i < length entries → same_key (get_or entries i d).key key ≡ false
      off i d within = either i d within (cases_lt i p)
