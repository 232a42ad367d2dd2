-- The elements of a collection, one by one.
use Rattle.std.proofs.Common.{◌≡◌, ℕ, zero, suc, ◌+◌, ◌-◌, ◌<◌, ◌≤◌, ◌^◌, Bool, true, false, List, [], ◌∷◌, ◌++◌, map, reverse, length, get_or, nat_eq, nat_lt, refl, ap, sym, ◌∙◌, arith, add-zero, IsTrue, Some, None, Ok, nat_le, ◌&&◌, if◌then◌else◌, ◌||◌}
use Rattle.std.specs.Prelude.{ℤ, pos, negsuc, int_lt}
use Rattle.std.specs.List.{range_with_len}
use Rattle.std.specs.Option.{ok_or}
use borrow.Author.Tests.{eq-eqb}
use Rattle.std.proofs.lemmas.Bool.{le-ltb, or_left, le-leb, leb-true, and_parts, and_from, ltb-true, ltb-false}
use Rattle.std.proofs.lemmas.List.{length-reverse, length-append, get_or-reverse, get_or_append_left, get_or-append_right}
use Rattle.std.proofs.lemmas.List.FromFn.{fill_by_all}
use Rattle.object_heap.specs.declared.value.Value.{Value}
use Rattle.object_heap.specs.declared.value.Value.TheVariants.{Nil, True, False, Integer, Character, Symbol, Class, Meta, Transcript, Object}
use Rattle.object_heap.specs.declared.trouble.Trouble.TheVariants.{ByteExpected, IndexOutOfRange}
use Rattle.object_heap.specs.Store.{Store, object_at}
use Rattle.st_code.specs.Program.{Program}
use Rattle.st_code.specs.BuiltIns.{array_class, byte_array_class, interval_class, ordered_collection_class}
use Rattle.st_collections.specs.declared.items.Items.{Items}
use Rattle.st_collections.specs.declared.kinds.ElementKind.{ElementKind}
use Rattle.st_collections.specs.Actions.{makes_slots}
use Rattle.st_collections.specs.Answers.{place_of_index}
use Rattle.st_collections.specs.Items.{IsIndex, Reads, is_byte_item, is_of_kind, all_of_kind, item_at, items_of}
use Rattle.st_collections.specs.Kinds.{element, elements, elements_from, is_a, is_sequence, size_of, some_elements, species}
use Rattle.st_collections.specs.SequenceRows.{all_values, copy_between, element_trouble, is_byte, is_index, join, makes_sequence}
use Rattle.st_collections.proofs.TextItems.{known_of_size}

-- ---- as lists

pub length-elements_from : (p : Program) (s : Store) (v : Value) (i n : ℕ) → length (elements_from p s v i n) ≡ n
length-elements_from p s v i zero = refl
length-elements_from p s v i (suc n) = ap (λ (k : ℕ). suc k) (length-elements_from p s v (i + 1) n)

pub get_or-elements_from : (p : Program) (s : Store) (v : Value) (i n k : ℕ) (d : Value) → k < n → get_or (elements_from p s v i n) k d ≡ element p s v (i + k)
get_or-elements_from p s v i zero k d h = absurd (omega arith)
get_or-elements_from p s v i (suc n) zero d h = ap (λ (j : ℕ). element p s v j) (sym (add-zero i))
get_or-elements_from p s v i (suc n) (suc k) d h =
    let e : i + 1 + k ≡ i + suc k = omega arith in
    get_or-elements_from p s v (i + 1) n k d (omega arith) ∙ ap (λ (j : ℕ). element p s v j) e

pub length-elements : (p : Program) (s : Store) (v : Value) → length (elements p s v) ≡ size_of p s v
unfolding elements some_elements
length-elements p s v = length-elements_from p s v 1 (size_of p s v)

pub get_or-elements : (p : Program) (s : Store) (v : Value) (k : ℕ) (d : Value) → k < size_of p s v → get_or (elements p s v) k d ≡ element p s v (1 + k)
unfolding elements some_elements
get_or-elements p s v k d h = get_or-elements_from p s v 1 (size_of p s v) k d h

-- a list of so many elements is made by their places
by_places : (f : ℕ → Value) (xs : List Value) (n : ℕ) → length xs ≡ n → ((k : ℕ) → k < n → get_or xs k Nil ≡ f k) → xs ≡ map f (range_with_len 0 n)
by_places f xs n e each = fill_by_all f xs n Nil e each

pub part_items : (p : Program) (s : Store) (v : Value) (from n : ℕ) → some_elements p s v from n ≡ items_of p s (Items.From v from) n
unfolding some_elements
part_items p s v from n = by_places (item_at p s (Items.From v from)) (elements_from p s v from n) n (length-elements_from p s v from n) (λ k h. get_or-elements_from p s v from n k Nil h)

pub whole_items : (p : Program) (s : Store) (v : Value) (n : ℕ) → n ≡ size_of p s v → elements p s v ≡ items_of p s (Items.From v 1) n
unfolding elements
whole_items p s v n e = rw (← e) (part_items p s v 1 n)

pub backward_items : (p : Program) (s : Store) (v : Value) (n : ℕ) → n ≡ size_of p s v → reverse (elements p s v) ≡ items_of p s (Items.Backwards v n) n
backward_items p s v n e =
    let xs = elements p s v in
    let long : length xs ≡ n = length-elements p s v ∙ sym e in
    by_places (item_at p s (Items.Backwards v n)) (reverse xs) n (length-reverse xs ∙ long)
    (λ k h.
    let low : k < length xs = omega arith in
    let at : 1 + (length xs - 1 - k) ≡ n - k = omega arith in
    get_or-reverse xs k Nil low ∙ get_or-elements p s v (length xs - 1 - k) Nil (omega arith) ∙ ap (λ (j : ℕ). element p s v j) at)

joined_item : (b : Bool) (p : Program) (s : Store) (v w : Value) (n m k : ℕ) → n ≡ size_of p s v → m ≡ size_of p s w → nat_lt k n ≡ b → k < n + m → get_or (elements p s v ++ elements p s w) k Nil ≡ (if b then element p s v (k + 1) else element p s w (k - n + 1))
joined_item true p s v w n m k e f t h =
    let low : k < n = ltb-true k n t in
    let low' : k < length (elements p s v) = rw (length-elements p s v) (omega arith) in
    let at : 1 + k ≡ k + 1 = omega arith in
    get_or_append_left (elements p s v) (elements p s w) Nil k low' ∙ get_or-elements p s v k Nil (omega arith) ∙ ap (λ (j : ℕ). element p s v j) at
joined_item false p s v w n m k e f t h =
    let high : n ≤ k = ltb-false k n t in
    let at : 1 + (k - n) ≡ k - n + 1 = omega arith in
    get_or-append_right (elements p s v) (elements p s w) n k Nil (length-elements p s v ∙ sym e) high ∙ get_or-elements p s w (k - n) Nil (omega arith) ∙ ap (λ (j : ℕ). element p s w j) at

pub joined_items : (p : Program) (s : Store) (v w : Value) (n m : ℕ) → n ≡ size_of p s v → m ≡ size_of p s w → elements p s v ++ elements p s w ≡ items_of p s (Items.Joined v n w) (n + m)
joined_items p s v w n m e f =
    let long : length (elements p s v ++ elements p s w) ≡ n + m = length-append (elements p s v) (elements p s w) ∙ (rw (length-elements p s v, length-elements p s w, ← e, ← f) refl) in
    by_places (item_at p s (Items.Joined v n w)) (elements p s v ++ elements p s w) (n + m) long (λ k h. joined_item (nat_lt k n) p s v w n m k e f refl h)

-- ---- indexes

pub index_of : (p : Program) (s : Store) (v : Value) (i n : ℕ) → n ≡ size_of p s v → n < 2 ^ 127 → 0 < n → i ≤ n → IsIndex p s v i
index_of p s v i n e small some h = record { within = omega arith; bound = omega arith; known = known_of_size p s v (omega arith) }

pub reads_joined : (p : Program) (s : Store) (v w : Value) (n m k : ℕ) → n ≡ size_of p s v → m ≡ size_of p s w → n < 2 ^ 127 → m < 2 ^ 127 → k < n + m → Reads p s (Items.Joined v n w) k
reads_joined p s v w n m k e f small small' h =
    ((λ low. index_of p s v (k + 1) n e small (omega arith) (omega arith)), (λ high. index_of p s w (k - n + 1) m f small' (omega arith) (omega arith)))

found_case : (b : Bool) (size n i : ℕ) → ok_or (if b then Some (n - 1) else None) IndexOutOfRange ≡ Ok i → (b ≡ true) × (n - 1 ≡ i)
found_case true size n i e = (refl, cc)
found_case false size n i e = cc

-- an index that was found
pub index_found : (size : ℕ) (z : ℤ) (i : ℕ) → Ok i ≡ place_of_index size (Integer z) → z ≡ pos (i + 1)
index_found size (pos n) i e =
    let h = found_case (nat_le 1 n && nat_le n size) size n i (sym e) in
    let b = and_parts (nat_le 1 n) (nat_le n size) h.0 in
    let low : 1 ≤ n = leb-true 1 n b.0 in
    ap pos (omega (arith, h.1))
index_found size (negsuc n) i e = cc

-- ---- bytes

species_case : (b : Bool) (c : ℕ) → nat_eq c interval_class ≡ b → (if b then array_class else c) ≡ byte_array_class → nat_eq c byte_array_class ≡ true
species_case true c e h = absurd (omega arith)
species_case false c e h = eq-eqb c byte_array_class h

pub bytes_of_species : (s : Store) (v : Value) → species s v ≡ byte_array_class → is_a s byte_array_class v ≡ true
unfolding species is_a
bytes_of_species s (Object n) h = species_case (nat_eq (object_at n s).class interval_class) (object_at n s).class refl h
bytes_of_species s (Symbol n) h = absurd (omega arith)
bytes_of_species s Nil h = absurd (omega arith)
bytes_of_species s True h = absurd (omega arith)
bytes_of_species s False h = absurd (omega arith)
bytes_of_species s (Integer n) h = absurd (omega arith)
bytes_of_species s (Character n) h = absurd (omega arith)
bytes_of_species s (Class n) h = absurd (omega arith)
bytes_of_species s (Meta n) h = absurd (omega arith)
bytes_of_species s Transcript h = absurd (omega arith)

all_case : (b : Bool) (test : Value → Bool) (x : Value) (xs : List Value) (k : ℕ) (d : Value) → test x ≡ b → elim b [ true ↦ all_values test xs | false ↦ false ] ≡ true → ((i : ℕ) → k ≡ suc i → all_values test xs ≡ true → test (get_or xs i d) ≡ true) → test (get_or (x ∷ xs) k d) ≡ true
all_case true test x xs zero d e h rest = e
all_case true test x xs (suc k) d e h rest = rest k refl h
all_case false test x xs k d e h rest = cc

pub all_values_at : (test : Value → Bool) (xs : List Value) (k : ℕ) (d : Value) → all_values test xs ≡ true → k < length xs → test (get_or xs k d) ≡ true
all_values_at test [] k d h low = absurd (omega arith)
all_values_at test (x ∷ xs) k d h low = all_case (test x) test x xs k d refl h (λ i e all. all_values_at test xs i d all (omega arith))

no_trouble_case : (b : Bool) → None ≡ (if b then None else Some ByteExpected) → b ≡ true
no_trouble_case true e = refl
no_trouble_case false e = cc

pub no_trouble : (class : ℕ) (xs : List Value) → class ≡ byte_array_class → None ≡ element_trouble class xs → all_values is_byte xs ≡ true
no_trouble class xs e h = no_trouble_case (all_values is_byte xs) (rw e at h)

joined_byte : (b : Bool) (p : Program) (s : Store) (v w : Value) (n m k : ℕ) → m ≡ size_of p s w → nat_lt k n ≡ b → k < n + m → is_a s byte_array_class v ≡ true → all_values is_byte (elements p s w) ≡ true → ((if b then is_a s byte_array_class v else false) || is_byte (if b then element p s v (k + 1) else element p s w (k - n + 1))) ≡ true
joined_byte true p s v w n m k f t h is all = or_left (is_a s byte_array_class v) (is_byte (element p s v (k + 1))) is
joined_byte false p s v w n m k f t h is all =
    let high : n ≤ k = ltb-false k n t in
    let low : k - n < size_of p s w = omega arith in
    let low' : k - n < length (elements p s w) = rw (length-elements p s w) low in
    let at : 1 + (k - n) ≡ k - n + 1 = omega arith in
    rw (← at, ← get_or-elements p s w (k - n) Nil low) (all_values_at is_byte (elements p s w) (k - n) Nil all low')

pub bytes_joined : (p : Program) (s : Store) (v w : Value) (n m k : ℕ) → m ≡ size_of p s w → k < n + m → is_a s byte_array_class v ≡ true → all_values is_byte (elements p s w) ≡ true → IsTrue (is_byte_item p s (Items.Joined v n w) k)
bytes_joined p s v w n m k f h is all = joined_byte (nat_lt k n) p s v w n m k f refl h is all

-- ---- actions

pub slots_array : (items : List Value) (s : Store) → makes_slots array_class items s ≡ makes_sequence array_class items s
unfolding makes_sequence
slots_array items s = refl

pub slots_ordered : (items : List Value) (s : Store) → makes_slots ordered_collection_class items s ≡ makes_sequence ordered_collection_class items s
unfolding makes_sequence
slots_ordered items s = refl

pub join_is : (p : Program) (s : Store) (v w : Value) (n m : ℕ) → is_sequence s w ≡ true → None ≡ element_trouble (species s v) (elements p s w) → n ≡ size_of p s v → m ≡ size_of p s w → join p s v w ≡ makes_sequence (species s v) (items_of p s (Items.Joined v n w) (n + m)) s
join_is p s v w n m is none e f = rw (is, ← none, joined_items p s v w n m e f) refl

is_index_case : (b : Bool) (n : ℕ) → b ≡ true → elim (if b then Some n else None) [ Some k ↦ true | None ↦ false ] ≡ true
is_index_case true n e = refl
is_index_case false n e = cc

is_index_pos : (size n : ℕ) → 1 ≤ n → n ≤ size → is_index size (pos n) ≡ true
is_index_pos size n h k = is_index_case (nat_le 1 n && nat_le n size) (n - 1) (and_from (nat_le 1 n) (nat_le n size) (le-leb 1 n h) (le-leb n size k))

pub copy_is : (p : Program) (s : Store) (v : Value) (i j : ℤ) (a b size : ℕ) → size ≡ size_of p s v → i ≡ pos (a + 1) → j ≡ pos (b + 1) → a ≤ b → b < size → copy_between p s v i j ≡ makes_sequence (species s v) (items_of p s (Items.From v (a + 1)) (b - a + 1)) s
copy_is p s v i j a b size e ei ej ab h =
    let down : nat_lt (b + 1) (a + 1) ≡ false = le-ltb (b + 1) (a + 1) (omega arith) in
    let first : is_index (size_of p s v) (pos (a + 1)) ≡ true = is_index_pos (size_of p s v) (a + 1) (omega arith) (omega arith) in
    let last : is_index (size_of p s v) (pos (b + 1)) ≡ true = is_index_pos (size_of p s v) (b + 1) (omega arith) (omega arith) in
    let count : b + 1 + 1 - (a + 1) ≡ b - a + 1 = omega arith in
    rw (ei, ej, down, first, last, count, part_items p s v (a + 1) (b - a + 1)) refl

pub copy_nothing : (p : Program) (s : Store) (v : Value) (i j : ℤ) → int_lt j i ≡ true → copy_between p s v i j ≡ makes_sequence (species s v) [] s
copy_nothing p s v i j e = rw e refl

pub backward_is : (p : Program) (s : Store) (v : Value) (n : ℕ) → n ≡ size_of p s v → makes_sequence (species s v) (reverse (elements p s v)) s ≡ makes_sequence (species s v) (items_of p s (Items.Backwards v n) n) s
backward_is p s v n e = ap (λ (xs : List Value). makes_sequence (species s v) xs s) (backward_items p s v n e)

pub array_is : (p : Program) (s : Store) (v : Value) (n : ℕ) → n ≡ size_of p s v → makes_slots array_class (elements p s v) s ≡ makes_sequence array_class (items_of p s (Items.From v 1) n) s
array_is p s v n e = slots_array (elements p s v) s ∙ ap (λ (xs : List Value). makes_sequence array_class xs s) (whole_items p s v n e)

pub ordered_is : (p : Program) (s : Store) (v : Value) (n : ℕ) → n ≡ size_of p s v → makes_slots ordered_collection_class (elements p s v) s ≡ makes_sequence ordered_collection_class (items_of p s (Items.From v 1) n) s
ordered_is p s v n e = slots_ordered (elements p s v) s ∙ ap (λ (xs : List Value). makes_sequence ordered_collection_class xs s) (whole_items p s v n e)

pub part_order : (i j : ℤ) (a b : ℕ) → i ≡ pos (a + 1) → j ≡ pos (b + 1) → int_lt j i ≡ false → a ≤ b
part_order i j a b ei ej h = let t : nat_lt (b + 1) (a + 1) ≡ false = rw (ei, ej) at h in omega (arith, ltb-false (b + 1) (a + 1) t)

-- ---- from an index on

pub all_first : (p : Program) (s : Store) (kind : ElementKind) (v : Value) (n : ℕ) → n ≡ size_of p s v → all_of_kind kind (elements p s v) ≡ all_of_kind kind (some_elements p s v 1 (n + 1 - 1))
unfolding elements
all_first p s kind v n e = let one : n + 1 - 1 ≡ n = omega arith in rw (one, e) refl

pick_true : (b : Bool) (x : Bool) → b ≡ true → elim b [ true ↦ x | false ↦ false ] ≡ x
pick_true true x e = refl
pick_true false x e = cc

pick_false : (b : Bool) (x : Bool) → b ≡ false → elim b [ true ↦ x | false ↦ false ] ≡ false
pick_false true x e = cc
pick_false false x e = refl

all_more : (p : Program) (s : Store) (kind : ElementKind) (v : Value) (i n : ℕ) → i ≤ n → all_of_kind kind (some_elements p s v i (n + 1 - i)) ≡ elim (is_of_kind kind (element p s v i)) [ true ↦ all_of_kind kind (some_elements p s v (i + 1) (n + 1 - (i + 1))) | false ↦ false ]
unfolding some_elements
all_more p s kind v i n h = let e : n + 1 - i ≡ suc (n + 1 - (i + 1)) = omega arith in rw e refl

pub all_true : (p : Program) (s : Store) (kind : ElementKind) (v x : Value) (i n : ℕ) → i ≤ n → x ≡ element p s v i → true ≡ is_of_kind kind x → all_of_kind kind (some_elements p s v i (n + 1 - i)) ≡ all_of_kind kind (some_elements p s v (i + 1) (n + 1 - (i + 1)))
all_true p s kind v x i n h e t = all_more p s kind v i n h ∙ pick_true (is_of_kind kind (element p s v i)) (all_of_kind kind (some_elements p s v (i + 1) (n + 1 - (i + 1)))) (rw (← e) (sym t))

pub all_false : (p : Program) (s : Store) (kind : ElementKind) (v x : Value) (i n : ℕ) → i ≤ n → x ≡ element p s v i → false ≡ is_of_kind kind x → all_of_kind kind (some_elements p s v i (n + 1 - i)) ≡ false
all_false p s kind v x i n h e t = all_more p s kind v i n h ∙ pick_false (is_of_kind kind (element p s v i)) (all_of_kind kind (some_elements p s v (i + 1) (n + 1 - (i + 1)))) (rw (← e) (sym t))

pub all_end : (p : Program) (s : Store) (kind : ElementKind) (v : Value) (i n : ℕ) → n < i → all_of_kind kind (some_elements p s v i (n + 1 - i)) ≡ true
unfolding some_elements
all_end p s kind v i n h = let e : n + 1 - i ≡ 0 = omega arith in rw e refl
