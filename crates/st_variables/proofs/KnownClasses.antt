-- The classes of a file by number: each has the slots and class instance variables of the class above it, and its own.
use Rattle.std.proofs.Common.{◌≡◌, ℕ, zero, suc, ◌+◌, ◌<◌, ◌≤◌, ◌⊎◌, inl, inr, List, [], ◌∷◌, ◌++◌, map, length, append_assoc, append-nil, Option, Some, None, Bool, true, false, not, ◌&&◌, ◌||◌, refl, sym, ap, ◌∙◌, subst, arith, nat_lt, nat_eq, eqb-true, ltb-true, true≢false}
use Rattle.std.proofs.lemmas.Bool.{le-leb}
use Rattle.std.proofs.lemmas.List.{length-append, length-map}
use Rattle.st_code.specs.Texts.{Text, same_text}
use Rattle.st_code.specs.Program.{ClassRow}
use Rattle.st_code.specs.Named.{NamedClass, NamedUnit, ClassUnit, GlobalUnit, PoolVariableUnit, InitializerUnit, PoolInitializerUnit, ProgramUnit, MethodUnit, ClassMethodUnit}
use Rattle.st_code.specs.Resolved.{SharedName, ClassName, ClassInstanceName, ClassNames, Names, no_names, class_names_at, class_in}
use Rattle.st_code.specs.Definitions.{built_in_names, class_over, class_variables, declared_unit, declared_units, names_of, or_zero}
use Rattle.st_code.specs.BuiltIns.{built_in_classes, built_in_class_rows, exception_set_class, class_class}
use Rattle.st_variables.specs.Known.{is_open}
use Rattle.st_variables.specs.Assigned.{IsExtensible, Extends}

abbrev pub built : List ClassNames
built = map built_in_names built_in_class_rows

-- a class, and the one above it
pub record Above (c b : ClassNames) (k a : ℕ) : Type 0 where
  pub open' : is_open k ≡ true → is_open a ≡ true
  pub file : b.row.in_file ≡ true → c.row.in_file ≡ true
  pub slots : b.row.slots ≤ c.row.slots
  pub variables : length b.class_instance_names ≤ length c.class_instance_names

-- classes where there are so many variables of the program
pub record Rows (cs : List ClassNames) (m : ℕ) : Type 0 where
  pub extra : List ClassNames
  pub begins : cs ≡ built ++ extra
  pub enough : exception_set_class < length cs
  pub low : (k : ℕ) → k ≤ exception_set_class → (class_names_at cs k).row.in_file ≡ false
  pub plain : (k : ℕ) → (class_names_at cs k).row.in_file ≡ false → ((class_names_at cs k).instance_names ≡ []) × ((class_names_at cs k).class_instance_names ≡ [])
  pub sized : (k : ℕ) → (class_names_at cs k).row.slots ≡ (class_names_at cs k).base + length (class_names_at cs k).instance_names
  pub falls : (k a : ℕ) → (class_names_at cs k).row.superclass ≡ Some a → (a < k) × (k < length cs)
  pub above : (k a : ℕ) → (class_names_at cs k).row.superclass ≡ Some a → Above (class_names_at cs k) (class_names_at cs a) k a
  pub placed : (k : ℕ) → (class_names_at cs k).row.class_slots + length (class_names_at cs k).class_instance_names ≤ m

same_some : (a b : ℕ) → Some a ≡ Some b → a ≡ b
same_some a b e = cc

or_true : (b : Bool) → (b || true) ≡ true
or_true true = refl
or_true false = refl

both_true : (a b : Bool) → (a && b) ≡ true → (a ≡ true) × (b ≡ true)
both_true true b e = (refl, e)
both_true false b e = let none : ⊥ = true≢false (sym e) in absurd none

-- ---- the built-in classes

abbrev slots_in : List ClassNames → ℕ → ℕ
slots_in cs a = (class_names_at cs a).row.slots

abbrev implied : Bool → Bool → Bool
implied true b = b
implied false b = true

abbrev fits_above : List ClassNames → ℕ → ClassNames → Option ℕ → Bool
fits_above all k c None = true
fits_above all k c (Some a) = nat_lt a k && (implied (is_open k) (is_open a) && nat_lt (slots_in all a) (suc c.row.slots))

-- none is the file's, none has variables of its own, and each fits the one above
abbrev all_fit : List ClassNames → ℕ → List ClassNames → Bool
all_fit all k [] = true
all_fit all k (c ∷ cs) = (not c.row.in_file && (nat_eq c.row.class_slots 0 && fits_above all k c c.row.superclass)) && all_fit all (suc k) cs

built_fit : all_fit built 0 built ≡ true
unfolding built_in_class_rows built_in_classes
built_fit = refl

pub built_size : length built ≡ suc exception_set_class
unfolding built_in_class_rows built_in_classes
built_size = refl

-- what the test tells of each class
pub record Built (all : List ClassNames) (k : ℕ) (c : ClassNames) : Type 0 where
  pub file : c.row.in_file ≡ false
  pub slots : c.row.class_slots ≡ 0
  pub above : fits_above all k c c.row.superclass ≡ true

not_true : (b : Bool) → not b ≡ true → b ≡ false
not_true true e = let none : ⊥ = true≢false (sym e) in absurd none
not_true false e = refl

default_built : (all : List ClassNames) (k : ℕ) → Built all k no_names
default_built all k = record { file = refl; slots = refl; above = refl }

told_at : (all : List ClassNames) (k : ℕ) (cs : List ClassNames) (i : ℕ) → all_fit all k cs ≡ true → Built all (k + i) (class_names_at cs i)
told_at all k [] i e = default_built all (k + i)
told_at all k (c ∷ cs) zero e =
    let h = both_true (not c.row.in_file && (nat_eq c.row.class_slots 0 && fits_above all k c c.row.superclass)) (all_fit all (suc k) cs) e in
    let f = both_true (not c.row.in_file) (nat_eq c.row.class_slots 0 && fits_above all k c c.row.superclass) h.0 in
    let g = both_true (nat_eq c.row.class_slots 0) (fits_above all k c c.row.superclass) f.1 in
    let here : k ≡ k + 0 = omega arith in
    record { file = not_true c.row.in_file f.0; slots = eqb-true c.row.class_slots 0 g.0; above = subst (λ n. fits_above all n c c.row.superclass ≡ true) here g.1 }
told_at all k (c ∷ cs) (suc i) e =
    let h = both_true (not c.row.in_file && (nat_eq c.row.class_slots 0 && fits_above all k c c.row.superclass)) (all_fit all (suc k) cs) e in
    let here : suc k + i ≡ k + suc i = omega arith in
    subst (λ n. Built all n (class_names_at cs i)) here (told_at all (suc k) cs i h.1)

built_told : (k : ℕ) → Built built k (class_names_at built k)
built_told k = let here : 0 + k ≡ k = omega arith in subst (λ n. Built built n (class_names_at built k)) here (told_at built 0 built k built_fit)

-- they name no variables
names_none : (rows : List ClassRow) (k : ℕ) → ((class_names_at (map built_in_names rows) k).instance_names ≡ []) × (((class_names_at (map built_in_names rows) k).class_instance_names ≡ []) × ((class_names_at (map built_in_names rows) k).row.slots ≡ (class_names_at (map built_in_names rows) k).base))
names_none [] k = (refl, (refl, refl))
names_none (row ∷ rows) zero = (refl, (refl, refl))
names_none (row ∷ rows) (suc k) = names_none rows k

there_by : (cs : List ClassNames) (k a : ℕ) → (class_names_at cs k).row.superclass ≡ Some a → k < length cs
there_by [] k a e = let none : ⊥ = grind (arith, e) in absurd none
there_by (c ∷ cs) zero a e = omega arith
there_by (c ∷ cs) (suc k) a e = let l = there_by cs k a e in omega (arith, l)

implies : (a b : Bool) → implied a b ≡ true → a ≡ true → b ≡ true
implies true b e f = e
implies false b e f = let none : ⊥ = true≢false (sym f) in absurd none

built_above : (k a : ℕ) → (class_names_at built k).row.superclass ≡ Some a → (a < k) × ((is_open k ≡ true → is_open a ≡ true) × (slots_in built a ≤ (class_names_at built k).row.slots))
built_above k a e =
    let c = class_names_at built k in
    let t : fits_above built k c (Some a) ≡ true = subst (λ o. fits_above built k c o ≡ true) e (built_told k).above in
    let f = both_true (nat_lt a k) (implied (is_open k) (is_open a) && nat_lt (slots_in built a) (suc c.row.slots)) t in
    let g = both_true (implied (is_open k) (is_open a)) (nat_lt (slots_in built a) (suc c.row.slots)) f.1 in
    let l = ltb-true (slots_in built a) (suc c.row.slots) g.1 in
    (ltb-true a k f.0, (implies (is_open k) (is_open a) g.0, omega (arith, l)))

no_length : (xs : List Text) → xs ≡ [] → length xs ≡ 0
no_length xs e = ap length e

built_rows : Rows built 0
built_rows =
    record {
      extra = [];
      begins = sym (append-nil built);
      enough = omega (arith, built_size);
      low = λ k l. (built_told k).file;
      plain = λ k e. let n = names_none built_in_class_rows k in (n.0, n.1.0);
      sized = λ k. let n = names_none built_in_class_rows k in let z = no_length (class_names_at built k).instance_names n.0 in omega (arith, n.1.1, z);
      falls = λ k a e. ((built_above k a e).0, there_by built k a e);
      above = λ k a e. let b = built_above k a e in record {
        open' = b.1.0;
        file = λ f. let none : ⊥ = true≢false (sym f ∙ (built_told a).file) in absurd none;
        slots = b.1.1;
        variables = let z = no_length (class_names_at built a).class_instance_names (names_none built_in_class_rows a).1.0 in omega (arith, z);
      };
      placed = λ k. let z = no_length (class_names_at built k).class_instance_names (names_none built_in_class_rows k).1.0 in let s = (built_told k).slots in omega (arith, z, s);
    }

-- ---- one more class

-- a number names what it did, or the new class
pub after : (cs : List ClassNames) (new : ClassNames) (k : ℕ) → (class_names_at (cs ++ new ∷ []) k ≡ class_names_at cs k) ⊎ ((k ≡ length cs) × (class_names_at (cs ++ new ∷ []) k ≡ new))
after [] new zero = inr (refl, refl)
after [] new (suc k) = inl refl
after (c ∷ cs) new zero = inl refl
after (c ∷ cs) new (suc k) = elim (after cs new k) [ inl e ↦ inl e | inr h ↦ inr (ap suc h.0, h.1) ]

-- a superclass that is found among the first classes, or behind them
abbrev or_behind : Option ℕ → Option ℕ → Option ℕ
or_behind (Some k) o = Some k
or_behind None o = o

found_in : (n : ℕ) (cs ds : List ClassNames) (t : Text) → class_in n (cs ++ ds) t ≡ or_behind (class_in n cs t) (class_in (n + length cs) ds t)
found_in n [] ds t = let e : n ≡ n + 0 = omega arith in ap (λ m. class_in m ds t) e
found_in n (c ∷ cs) ds t = go (same_text c.row.name t) (found_in (suc n) cs ds t)
  where
    go : (b : Bool) → class_in (suc n) (cs ++ ds) t ≡ or_behind (class_in (suc n) cs t) (class_in (suc n + length cs) ds t) → elim b [ true ↦ Some n | false ↦ class_in (suc n) (cs ++ ds) t ] ≡ or_behind (elim b [ true ↦ Some n | false ↦ class_in (suc n) cs t ]) (class_in (n + length (c ∷ cs)) ds t)
    go true e = refl
    go false e = let l : suc n + length cs ≡ n + length (c ∷ cs) = omega arith in e ∙ ap (λ m. or_behind (class_in (suc n) cs t) (class_in m ds t)) l

abbrev pub Between : ℕ → ℕ → Option ℕ → Type 0
Between n m None = Unit {0}
Between n m (Some a) = (n ≤ a) × (a < m)

pub found_between : (n : ℕ) (cs : List ClassNames) (t : Text) → Between n (n + length cs) (class_in n cs t)
found_between n [] t = tt
found_between n (c ∷ cs) t = go (same_text c.row.name t) (found_between (suc n) cs t)
  where
    wider : (o : Option ℕ) → Between (suc n) (suc n + length cs) o → Between n (n + length (c ∷ cs)) o
    wider None h = tt
    wider (Some a) h = (omega (arith, h.0), omega (arith, h.1))

    go : (b : Bool) → Between (suc n) (suc n + length cs) (class_in (suc n) cs t) → Between n (n + length (c ∷ cs)) (elim b [ true ↦ Some n | false ↦ class_in (suc n) cs t ])
    go true h = (omega arith, omega arith)
    go false h = wider (class_in (suc n) cs t) h

pub open_from : (a : ℕ) → class_class ≤ a → is_open a ≡ true
open_from a l = ap (λ b. nat_eq a 0 || b) (le-leb class_class a l) ∙ or_true (nat_eq a 0)

open_above : (cs extra : List ClassNames) (t : Text) → cs ≡ built ++ extra → IsExtensible t → is_open (or_zero (class_in 0 cs t)) ≡ true
open_above cs extra t e free = ap (λ ys. is_open (or_zero (class_in 0 ys t))) e ∙ (ap (λ o. is_open (or_zero o)) (found_in 0 built extra t) ∙ go (class_in 0 built t) refl)
  where
    behind : (o : Option ℕ) → Between (0 + length built) (0 + length built + length extra) o → is_open (or_zero o) ≡ true
    behind None h = refl
    behind (Some a) h = open_from a (omega (arith, h.0, built_size))

    go : (o : Option ℕ) → class_in 0 built t ≡ o → is_open (or_zero (or_behind o (class_in (0 + length built) extra t))) ≡ true
    go None e = behind (class_in (0 + length built) extra t) (found_between (0 + length built) extra t)
    go (Some a) e = free a e

below_zero : (n : ℕ) (o : Option ℕ) → 0 < n → Between 0 n o → or_zero o < n
below_zero n None l h = l
below_zero n (Some a) l h = h.1

module _ (cs : List ClassNames) (m : ℕ) (h : Rows cs m) (c : NamedClass) (s : ℕ) (there : s < length cs) (opened : is_open s ≡ true) where
  abbrev new : ClassNames
  new = class_over c s (class_names_at cs s) m

  abbrev all : List ClassNames
  all = cs ++ new ∷ []

  abbrev more : ℕ
  more = m + length c.class_names + length (class_names_at cs s).class_instance_names + length c.class_instance_names

  old_or_new : (P : ℕ → ClassNames → Type 0) → ((k : ℕ) → P k (class_names_at cs k)) → P (length cs) new → (k : ℕ) → P k (class_names_at all k)
  old_or_new P old one k = elim (after cs new k) [
    | inl e ↦ subst (λ y. P k y) (sym e) (old k)
    | inr e ↦ subst (λ y. P k y) (sym e.1) (subst (λ n. P n new) (sym e.0) one)
  ]

  size : length all ≡ length cs + 1
  size = length-append cs (new ∷ [])

  -- a number below is what it was
  kept : (a : ℕ) → a < length cs → class_names_at all a ≡ class_names_at cs a
  kept a l = elim (after cs new a) [ inl e ↦ e | inr e ↦ (let none : ⊥ = omega (arith, l, e.0) in absurd none) ]

  new_above : Above new (class_names_at cs s) (length cs) s
  new_above =
      let b = class_names_at cs s in
      let z = h.sized s in
      let i = length-append b.instance_names c.instance_names in
      let v = length-append b.class_instance_names c.class_instance_names in
      record { open' = λ e. opened; file = λ e. refl; slots = omega (arith, z, i); variables = omega (arith, v) }

  falls_either : (k a : ℕ) → (class_names_at all k).row.superclass ≡ Some a → (a < k) × ((k < length all) × ((a < length cs) × Above (class_names_at all k) (class_names_at cs a) k a))
  falls_either k a = old_or_new (λ n y. y.row.superclass ≡ Some a → (a < n) × ((n < length all) × ((a < length cs) × Above y (class_names_at cs a) n a))) old one k
    where
      old : (n : ℕ) → (class_names_at cs n).row.superclass ≡ Some a → (a < n) × ((n < length all) × ((a < length cs) × Above (class_names_at cs n) (class_names_at cs a) n a))
      old n e = let f = h.falls n a e in (f.0, (omega (arith, f.1, size), (omega (arith, f.0, f.1), h.above n a e)))

      one : new.row.superclass ≡ Some a → (a < length cs) × ((length cs < length all) × ((a < length cs) × Above new (class_names_at cs a) (length cs) a))
      one e = let i : s ≡ a = same_some s a e in let l : a < length cs = omega (arith, there, i) in (l, (omega (arith, size), (l, subst (λ b. Above new (class_names_at cs b) (length cs) b) i new_above)))

  pub one_more : Rows all more
  one_more =
      record {
        extra = h.extra ++ new ∷ [];
        begins = ap (λ ys. ys ++ new ∷ []) h.begins ∙ append_assoc built h.extra (new ∷ []);
        enough = let l = h.enough in omega (arith, l, size);
        low = old_or_new (λ k y. k ≤ exception_set_class → y.row.in_file ≡ false) (λ k l. h.low k l) (λ l. let n = h.enough in let none : ⊥ = omega (arith, l, n) in absurd none);
        plain = old_or_new (λ k y. y.row.in_file ≡ false → (y.instance_names ≡ []) × (y.class_instance_names ≡ [])) (λ k e. h.plain k e) (λ e. let none : ⊥ = true≢false e in absurd none);
        sized = old_or_new (λ k y. y.row.slots ≡ y.base + length y.instance_names) (λ k. h.sized k) refl;
        falls = λ k a e. let f = falls_either k a e in (f.0, f.1.0);
        above = λ k a e. let f = falls_either k a e in subst (λ y. Above (class_names_at all k) y k a) (sym (kept a f.1.1.0)) f.1.1.1;
        placed = old_or_new (λ k y. y.row.class_slots + length y.class_instance_names ≤ more) (λ k. let l = h.placed k in omega (arith, l)) (let v = length-append (class_names_at cs s).class_instance_names c.class_instance_names in omega (arith, v));
      }

-- ---- unit by unit

variables_more : (x : Names) (class : ℕ) (c : ClassNames) → length (x.shared ++ class_variables class c) ≡ length x.shared + length c.class_names + length c.class_instance_names
variables_more x class c =
    let a = length-append x.shared (class_variables class c) in
    let b = length-append (map (ClassName class) c.class_names) (map (ClassInstanceName class) c.class_instance_names) in
    let d : length (map (ClassName class) c.class_names) ≡ length c.class_names = length-map c.class_names (ClassName class) in
    let e : length (map (ClassInstanceName class) c.class_instance_names) ≡ length c.class_instance_names = length-map c.class_instance_names (ClassInstanceName class) in
    omega (arith, a, b, d, e)

later : (cs : List ClassNames) (m n : ℕ) → m ≤ n → Rows cs m → Rows cs n
later cs m n l h =
    record { extra = h.extra; begins = h.begins; enough = h.enough; low = h.low; plain = h.plain; sized = h.sized; falls = h.falls; above = h.above; placed = λ k. let p = h.placed k in omega (arith, p, l) }

abbrev Known : Names → Type 0
Known x = Rows x.classes (length x.shared)

one_variable : (x : Names) (v : SharedName) → Known x → Rows x.classes (length (x.shared ++ v ∷ []))
one_variable x v h = let e = length-append x.shared (v ∷ []) in later x.classes (length x.shared) (length (x.shared ++ v ∷ [])) (omega (arith, e)) h

class_known : (x : Names) (c : NamedClass) → IsExtensible c.superclass → Known x → Known (declared_unit x (ClassUnit c))
class_known x c free h =
    let s = or_zero (class_in 0 x.classes c.superclass) in
    let k = h.enough in
    let there : s < 0 + length x.classes = below_zero (0 + length x.classes) (class_in 0 x.classes c.superclass) (omega (arith, k)) (found_between 0 x.classes c.superclass) in
    let b = class_names_at x.classes s in
    let y = class_over c s b (length x.shared) in
    let size = variables_more x (length x.classes) y in
    let v = length-append b.class_instance_names c.class_instance_names in
    later (x.classes ++ y ∷ []) _ (length (x.shared ++ class_variables (length x.classes) y)) (omega (arith, size, v)) (one_more x.classes (length x.shared) h c s (omega (arith, there)) (open_above x.classes h.extra c.superclass h.begins free))

units_known : (units : List NamedUnit) (x : Names) → Extends units → Known x → Known (declared_units x units)
units_known [] x e h = h
units_known (ClassUnit c ∷ units) x e h = units_known units (declared_unit x (ClassUnit c)) e.1 (class_known x c e.0 h)
units_known (GlobalUnit name ∷ units) x e h = units_known units (declared_unit x (GlobalUnit name)) e (one_variable x _ h)
units_known (PoolVariableUnit pool name ∷ units) x e h = units_known units (declared_unit x (PoolVariableUnit pool name)) e (one_variable x _ h)
units_known (InitializerUnit target b ∷ units) x e h = units_known units x e h
units_known (PoolInitializerUnit pool name b ∷ units) x e h = units_known units x e h
units_known (ProgramUnit b ∷ units) x e h = units_known units x e h
units_known (MethodUnit class m ∷ units) x e h = units_known units x e h
units_known (ClassMethodUnit class m ∷ units) x e h = units_known units x e h

pub rows_known : (names : List Text) (units : List NamedUnit) → Extends units → Rows (names_of names units).classes (length (names_of names units).shared)
unfolding names_of
rows_known names units e = units_known units (record { names = names; classes = built; shared = [] }) e built_rows
