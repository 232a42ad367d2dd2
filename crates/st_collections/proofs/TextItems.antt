-- The items of a text are its bytes as Characters.
use Rattle.std.proofs.Common.{◌≡◌, ℕ, ◌+◌, ◌-◌, ◌<◌, ◌^◌, Bool, true, false, List, [], ◌∷◌, map, length, get_or, nat_eq, inl, inr, refl, ap, sym, ◌∙◌, arith, if◌then◌else◌, Some, None, add_comm, replicate}
use Rattle.std.specs.List.{range_with_len}
use Rattle.std.proofs.lemmas.Bool.{cases_lt}
use Rattle.std.proofs.lemmas.List.{get_or_past, length-map, get_or-map, map-id, length-replicate, get_or-replicate}
use Rattle.std.proofs.lemmas.List.FromFn.{fill_by_all}
use Rattle.object_heap.specs.declared.value.Value.{Value}
use Rattle.object_heap.specs.declared.value.Value.TheVariants.{Nil, True, False, Integer, Character, Symbol, Class, Meta, Transcript, Object}
use Rattle.object_heap.specs.Store.{Store, no_object, object_at}
use Rattle.st_code.specs.Program.{Program}
use Rattle.st_code.specs.Texts.{Text, to_upper, to_lower}
use Rattle.st_code.specs.BuiltIns.{string_class}
use Rattle.st_collections.specs.declared.items.Items.{Items}
use Rattle.st_collections.specs.Actions.{makes_string, makes_bytes}
use Rattle.st_collections.specs.Items.{IsKnown, IsIndex, item_at, items_of}
use Rattle.st_collections.specs.Kinds.{bytes_of, size_of, size_at, element, element_at}
use Rattle.st_collections.specs.Orders.{text_of}
use Rattle.st_collections.specs.SequenceRows.{makes_sequence}
use Rattle.st_collections.specs.TextRows.{byte_of, or_empty}

pub map-map : {X Y Z : Type 0} (f : Y → Z) (g : X → Y) → (xs : List X) → map f (map g xs) ≡ map (λ x. f (g x)) xs
map-map f g [] = refl
map-map f g (x ∷ xs) = ap (λ ys. f (g x) ∷ ys) (map-map f g xs)

-- what has elements stands
pub known_of_size : (p : Program) (s : Store) (v : Value) → 0 < size_of p s v → IsKnown s v
unfolding size_of
known_of_size p s (Object n) h = elim (cases_lt n (length s.objects)) [
  | inl low ↦ low
  | inr past ↦
      let none : object_at n s ≡ no_object = get_or_past s.objects n no_object past in
      let empty : size_at (object_at n s).class (object_at n s).slots (object_at n s).bytes ≡ 0 = rw none refl in
      absurd (omega arith)
]
known_of_size p s (Symbol n) h = tt
known_of_size p s Nil h = tt
known_of_size p s True h = tt
known_of_size p s False h = tt
known_of_size p s (Integer n) h = tt
known_of_size p s (Character n) h = tt
known_of_size p s (Class n) h = tt
known_of_size p s (Meta n) h = tt
known_of_size p s Transcript h = tt

last_place : (k : ℕ) → k + 1 - 1 ≡ k
last_place k = omega arith

text_size : (b : Bool) (class : ℕ) (slots : List Value) (bytes : Text) (k : ℕ) → nat_eq class string_class ≡ b → k < length (or_empty (if b then Some bytes else None)) → size_at class slots bytes ≡ length (or_empty (if b then Some bytes else None))
text_size true class slots bytes k e h = rw e refl
text_size false class slots bytes k e h = absurd (omega arith)

pub size_of-text : (p : Program) (s : Store) (v : Value) (k : ℕ) → k < length (text_of p s v) → size_of p s v ≡ length (text_of p s v)
unfolding size_of bytes_of
size_of-text p s (Object n) k h = let o = object_at n s in text_size (nat_eq o.class string_class) o.class o.slots o.bytes k refl h
size_of-text p s (Symbol n) k h = refl
size_of-text p s Nil k h = refl
size_of-text p s True k h = refl
size_of-text p s False k h = refl
size_of-text p s (Integer n) k h = refl
size_of-text p s (Character n) k h = refl
size_of-text p s (Class n) k h = refl
size_of-text p s (Meta n) k h = refl
size_of-text p s Transcript k h = refl

text_element : (b : Bool) (class : ℕ) (slots : List Value) (bytes : Text) (k : ℕ) → nat_eq class string_class ≡ b → k < length (or_empty (if b then Some bytes else None)) → element_at class slots bytes k ≡ Character (get_or (or_empty (if b then Some bytes else None)) k 0)
text_element true class slots bytes k e h = rw e refl
text_element false class slots bytes k e h = absurd (omega arith)

pub element-text : (p : Program) (s : Store) (v : Value) (k : ℕ) → k < length (text_of p s v) → element p s v (k + 1) ≡ Character (get_or (text_of p s v) k 0)
unfolding element bytes_of
element-text p s (Object n) k h = let o = object_at n s in rw (last_place k) (text_element (nat_eq o.class string_class) o.class o.slots o.bytes k refl h)
element-text p s (Symbol n) k h = rw (last_place k) refl
element-text p s Nil k h = absurd (omega arith)
element-text p s True k h = absurd (omega arith)
element-text p s False k h = absurd (omega arith)
element-text p s (Integer n) k h = absurd (omega arith)
element-text p s (Character n) k h = absurd (omega arith)
element-text p s (Class n) k h = absurd (omega arith)
element-text p s (Meta n) k h = absurd (omega arith)
element-text p s Transcript k h = absurd (omega arith)

pub index-text : (p : Program) (s : Store) (v : Value) (k count : ℕ) → count ≡ length (text_of p s v) → count < 2 ^ 127 → k < count → IsIndex p s v (k + 1)
index-text p s v k count e small h =
    let low : k < length (text_of p s v) = omega arith in
    let size : size_of p s v ≡ length (text_of p s v) = size_of-text p s v k low in
    record { within = omega arith; bound = omega arith; known = known_of_size p s v (omega arith) }

-- ---- new Strings

text_items : (f : ℕ → ℕ) (t : Text) (g : ℕ → Value) (n : ℕ) → n ≡ length t → ((k : ℕ) → k < n → byte_of (g k) ≡ f (get_or t k 0)) → map f t ≡ map byte_of (map g (range_with_len 0 n))
text_items f t g n e each =
    fill_by_all (λ k. byte_of (g k)) (map f t) n 0 (length-map t f ∙ sym e) (λ k h. get_or-map f t k 0 0 (rw (← e) h) ∙ sym (each k h))
    ∙ sym (map-map byte_of g (range_with_len 0 n))

string_is : (p : Program) (s : Store) (items : Items) (n : ℕ) (f : ℕ → ℕ) (t : Text) → n ≡ length t → ((k : ℕ) → k < n → byte_of (item_at p s items k) ≡ f (get_or t k 0)) → makes_string (map f t) s ≡ makes_sequence string_class (items_of p s items n) s
unfolding makes_string makes_sequence
string_is p s items n f t e each = ap (λ bytes. makes_bytes string_class bytes s) (text_items f t (item_at p s items) n e each)

pub upper_is : (p : Program) (s : Store) (v : Value) (n : ℕ) → n ≡ length (text_of p s v) → makes_string (map to_upper (text_of p s v)) s ≡ makes_sequence string_class (items_of p s (Items.Upper v) n) s
upper_is p s v n e = string_is p s (Items.Upper v) n to_upper (text_of p s v) e (λ k h. rw (element-text p s v k (rw (← e) h)) refl)

pub lower_is : (p : Program) (s : Store) (v : Value) (n : ℕ) → n ≡ length (text_of p s v) → makes_string (map to_lower (text_of p s v)) s ≡ makes_sequence string_class (items_of p s (Items.Lower v) n) s
lower_is p s v n e = string_is p s (Items.Lower v) n to_lower (text_of p s v) e (λ k h. rw (element-text p s v k (rw (← e) h)) refl)

pub copy_is : (p : Program) (s : Store) (v : Value) (n : ℕ) → n ≡ length (text_of p s v) → makes_string (text_of p s v) s ≡ makes_sequence string_class (items_of p s (Items.From v 1) n) s
copy_is p s v n e =
    ap (λ t. makes_string t s) (sym (map-id (text_of p s v)))
    ∙ string_is p s (Items.From v 1) n (λ b. b) (text_of p s v) e (λ k h. rw (add_comm 1 k, element-text p s v k (rw (← e) h)) refl)

pub spaces_is : (p : Program) (s : Store) (v : Value) (n : ℕ) → makes_string (replicate n (byte_of v)) s ≡ makes_sequence string_class (items_of p s (Items.Repeated v) n) s
unfolding makes_string makes_sequence
spaces_is p s v n = ap (λ bytes. makes_bytes string_class bytes s) (fill_by_all (λ k. byte_of v) (replicate n (byte_of v)) n 0 (length-replicate n (byte_of v)) (λ k h. get_or-replicate n k (byte_of v) 0 h) ∙ sym (map-map byte_of (λ k. v) (range_with_len 0 n)))
