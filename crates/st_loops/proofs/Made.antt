-- New objects of the slots of a collection, slot by slot.
use Rattle.std.proofs.Common.{◌≡◌, ℕ, ◌+◌, ◌<◌, ◌≤◌, List, [], ◌∷◌, map, length, get_or, replicate, set, inl, inr, refl, ap, sym, ◌∙◌, arith}
use Rattle.std.proofs.lemmas.Bool.{cases_lt, le-leb}
use Rattle.std.proofs.lemmas.List.{get_or_past, get_or_append_left}
use Rattle.std.proofs.lemmas.List.FromFn.{fill_by_all}
use Rattle.object_heap.specs.declared.value.Value.{Value}
use Rattle.object_heap.specs.declared.value.Value.TheVariants.{Nil, True, False, Integer, Character, Symbol, Class, Meta, Transcript, Object}
use Rattle.object_heap.specs.Store.{Store, Object as HeapObject, no_object, object_added, object_at, with_byte}
use Rattle.object_heap.specs.Charges.{Memory, charged, made, object_charge, with_store}
use Rattle.st_code.specs.BuiltIns.{string_class}
use Rattle.st_collections.specs.Actions.{new_object, with_new}
use Rattle.st_collections.specs.Kinds.{slots_of}
use Rattle.st_collections.specs.TextRows.{byte_of}
use Rattle.st_collections.proofs.Objects.{item_written_last, makes_slots-is, map-replicate, slots_all, slots_filled, so_far, so_far_all, so_far_more}
use Rattle.st_loops.specs.Steps.{paid}

-- ---- what stood before stays

stands : (s : Store) (n k : ℕ) → k < length (object_at n s).slots → n < length s.objects
stands s n k h = elim (cases_lt n (length s.objects)) [
  | inl low ↦ low
  | inr past ↦
      let none : object_at n s ≡ no_object = get_or_past s.objects n no_object past in
      let empty : length (object_at n s).slots ≡ 0 = rw none refl in
      absurd (omega arith)
]

pub slots_kept : (o : HeapObject) (s : Store) (v : Value) (k : ℕ) → k < length (slots_of s v) → slots_of (object_added o s) v ≡ slots_of s v
unfolding slots_of
slots_kept o s (Object n) k h = ap (λ (x : HeapObject). x.slots) (get_or_append_left s.objects (o ∷ []) no_object n (stands s n k h))
slots_kept o s Nil k h = refl
slots_kept o s True k h = refl
slots_kept o s False k h = refl
slots_kept o s (Integer n) k h = refl
slots_kept o s (Character n) k h = refl
slots_kept o s (Symbol n) k h = refl
slots_kept o s (Class n) k h = refl
slots_kept o s (Meta n) k h = refl
slots_kept o s Transcript k h = refl

-- ---- slots

pub filled_paid : (m : Memory) (class : ℕ) (values : List Value) (count : ℕ) → length values ≡ count → m.used + (1 + count) ≤ m.limit → slots_filled m class values count count ≡ paid (1 + count) (with_new class values [] m.store) m
filled_paid m class values count e h =
    slots_all m class values count e h ∙ (rw (makes_slots-is class values count m.store e, le-leb (m.used + (1 + count)) m.limit h) refl)

-- ---- bytes

abbrev pub bytes_filled : Memory → List Value → ℕ → ℕ → Memory
bytes_filled m values count k = record {
  store = object_added (new_object string_class [] (map byte_of (so_far (λ i. get_or values i Nil) count k))) m.store;
  used = m.used + object_charge 0 count;
  limit = m.limit;
}

pub bytes_more : (m : Memory) (values : List Value) (count k : ℕ) (v : Value) → k < count → v ≡ get_or values k Nil → with_store (with_byte (length m.store.objects) k (byte_of v) (bytes_filled m values count k).store) (bytes_filled m values count k) ≡ bytes_filled m values count (k + 1)
bytes_more m values count k v h e =
    let f = λ (i : ℕ). get_or values i Nil in
    let written : with_byte (length m.store.objects) k (byte_of (f k)) (object_added (new_object string_class [] (map byte_of (so_far f count k))) m.store) ≡ object_added (new_object string_class [] (map byte_of (set (so_far f count k) k (f k)))) m.store =
    item_written_last string_class k (f k) (so_far f count k) m.store in
    rw (e, written, so_far_more f count k h) refl

pub bytes_paid : (m : Memory) (values : List Value) (count : ℕ) → length values ≡ count → bytes_filled m values count count ≡ paid (object_charge 0 count) (with_new string_class [] (map byte_of values) m.store) m
unfolding with_new
bytes_paid m values count e =
    let all : so_far (λ i. get_or values i Nil) count count ≡ values =
    so_far_all (λ i. get_or values i Nil) count ∙ sym (fill_by_all (λ i. get_or values i Nil) values count Nil e (λ k h. refl)) in
    rw all refl

pub made_string : (n : ℕ) (m : Memory) → made string_class 0 n m ≡ charged (object_charge 0 n) (object_added (new_object string_class [] (map byte_of (replicate n Nil))) m.store) m
made_string n m = rw (map-replicate byte_of n Nil) refl
