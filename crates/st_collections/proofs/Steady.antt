-- What is read of a store doesn't change where an object is added to it.
use Rattle.std.proofs.Common.{◌≡◌, ℕ, ◌+◌, ◌-◌, ◌<◌, length-append, if◌then◌else◌, Bool, true, false, [], ◌∷◌, length, nat_eq, nat_lt, refl, ap, arith, ◌*◌}
use borrow.Author.Tests.{ltb-true, ltb-false}
use Rattle.std.proofs.lemmas.List.{get_or_append_left}
use Rattle.object_heap.specs.declared.value.Value.{Value}
use Rattle.object_heap.specs.declared.value.Value.TheVariants.{Nil, True, False, Integer, Character, Symbol, Class, Meta, Transcript, Object}
use Rattle.object_heap.specs.Store.{Store, Object as HeapObject, no_object, object_at, object_added}
use Rattle.st_code.specs.Texts.{to_upper, to_lower}
use Rattle.st_code.specs.BuiltIns.{byte_array_class}
use Rattle.st_code.specs.Program.{Program}
use Rattle.st_collections.specs.declared.items.Items.{Items}
use Rattle.st_collections.specs.Items.{IsKnown, IsIndex, Reads, item_at, from_bytes, cased}
use Rattle.st_collections.specs.Kinds.{size_of, size_at, element, element_at, key, is_a, slots_of, slot_of}

pub object_steady : (n : ℕ) (o : HeapObject) (s : Store) → n < length s.objects → object_at n (object_added o s) ≡ object_at n s
object_steady n o s h = get_or_append_left s.objects (o ∷ []) no_object n h

pub size_steady : (p : Program) (v : Value) (o : HeapObject) (s : Store) → IsKnown s v → size_of p (object_added o s) v ≡ size_of p s v
unfolding size_of
size_steady p (Object n) o s h = ap (λ (x : HeapObject). size_at x.class x.slots x.bytes) (object_steady n o s h)
size_steady p (Symbol n) o s h = refl
size_steady p Nil o s h = refl
size_steady p True o s h = refl
size_steady p False o s h = refl
size_steady p (Integer n) o s h = refl
size_steady p (Character n) o s h = refl
size_steady p (Class n) o s h = refl
size_steady p (Meta n) o s h = refl
size_steady p Transcript o s h = refl

pub element_steady : (p : Program) (v : Value) (i : ℕ) (o : HeapObject) (s : Store) → IsKnown s v → element p (object_added o s) v i ≡ element p s v i
unfolding element
element_steady p (Object n) i o s h = ap (λ (x : HeapObject). element_at x.class x.slots x.bytes (i - 1)) (object_steady n o s h)
element_steady p (Symbol n) i o s h = refl
element_steady p Nil i o s h = refl
element_steady p True i o s h = refl
element_steady p False i o s h = refl
element_steady p (Integer n) i o s h = refl
element_steady p (Character n) i o s h = refl
element_steady p (Class n) i o s h = refl
element_steady p (Meta n) i o s h = refl
element_steady p Transcript i o s h = refl

pub slots_steady : (v : Value) (o : HeapObject) (s : Store) → IsKnown s v → slots_of (object_added o s) v ≡ slots_of s v
unfolding slots_of
slots_steady (Object n) o s h = ap (λ (x : HeapObject). x.slots) (object_steady n o s h)
slots_steady (Symbol n) o s h = refl
slots_steady Nil o s h = refl
slots_steady True o s h = refl
slots_steady False o s h = refl
slots_steady (Integer n) o s h = refl
slots_steady (Character n) o s h = refl
slots_steady (Class n) o s h = refl
slots_steady (Meta n) o s h = refl
slots_steady Transcript o s h = refl

pub key_steady : (v : Value) (i : ℕ) (o : HeapObject) (s : Store) → IsKnown s v → key (object_added o s) v i ≡ key s v i
unfolding key slot_of
key_steady v i o s h = rw (slots_steady v o s h) refl

pub slot_steady : (v : Value) (i : ℕ) (o : HeapObject) (s : Store) → IsKnown s v → slot_of (object_added o s) v i ≡ slot_of s v i
unfolding slot_of
slot_steady v i o s h = rw (slots_steady v o s h) refl

pub is_a_steady : (class : ℕ) (v : Value) (o : HeapObject) (s : Store) → IsKnown s v → is_a (object_added o s) class v ≡ is_a s class v
unfolding is_a
is_a_steady class (Object n) o s h = ap (λ (x : HeapObject). nat_eq x.class class) (object_steady n o s h)
is_a_steady class (Symbol n) o s h = refl
is_a_steady class Nil o s h = refl
is_a_steady class True o s h = refl
is_a_steady class False o s h = refl
is_a_steady class (Integer n) o s h = refl
is_a_steady class (Character n) o s h = refl
is_a_steady class (Class n) o s h = refl
is_a_steady class (Meta n) o s h = refl
is_a_steady class Transcript o s h = refl

pub known_steady : (v : Value) (o : HeapObject) (s : Store) → IsKnown s v → IsKnown (object_added o s) v
known_steady (Object n) o s h = omega (arith, length-append s.objects (o ∷ []), h)
known_steady (Symbol n) o s h = tt
known_steady Nil o s h = tt
known_steady True o s h = tt
known_steady False o s h = tt
known_steady (Integer n) o s h = tt
known_steady (Character n) o s h = tt
known_steady (Class n) o s h = tt
known_steady (Meta n) o s h = tt
known_steady Transcript o s h = tt

pub index_steady : (p : Program) (v : Value) (i : ℕ) (o : HeapObject) (s : Store) → IsIndex p s v i → IsIndex p (object_added o s) v i
index_steady p v i o s h = record {
  within = rw (size_steady p v o s h.known) h.within;
  bound = rw (size_steady p v o s h.known) h.bound;
  known = known_steady v o s h.known;
}

-- ---- items

pub reads_steady : (p : Program) (items : Items) (k : ℕ) (o : HeapObject) (s : Store) → Reads p s items k → Reads p (object_added o s) items k
reads_steady p (Items.From v from) k o s h = index_steady p v (from + k) o s h
reads_steady p (Items.Backwards v last) k o s h = index_steady p v (last - k) o s h
reads_steady p (Items.Joined v size w) k o s h = ((λ low. index_steady p v (k + 1) o s (h.0 low)), (λ high. index_steady p w (k - size + 1) o s (h.1 high)))
reads_steady p (Items.Keys v) k o s h = known_steady v o s h
reads_steady p (Items.Values v) k o s h = known_steady v o s h
reads_steady p (Items.Upper v) k o s h = index_steady p v (k + 1) o s h
reads_steady p (Items.Lower v) k o s h = index_steady p v (k + 1) o s h
reads_steady p (Items.Repeated v) k o s h = tt

joined_steady : (b : Bool) (k size : ℕ) (p : Program) (v w : Value) (o : HeapObject) (s : Store) → nat_lt k size ≡ b → Reads p s (Items.Joined v size w) k → (if b then element p (object_added o s) v (k + 1) else element p (object_added o s) w (k - size + 1)) ≡ (if b then element p s v (k + 1) else element p s w (k - size + 1))
joined_steady true k size p v w o s e h = element_steady p v (k + 1) o s (h.0 (ltb-true k size e)).known
joined_steady false k size p v w o s e h = element_steady p w (k - size + 1) o s (h.1 (ltb-false k size e)).known

joined_bytes : (b : Bool) (k size : ℕ) (p : Program) (v w : Value) (o : HeapObject) (s : Store) → nat_lt k size ≡ b → Reads p s (Items.Joined v size w) k → (if b then is_a (object_added o s) byte_array_class v else false) ≡ (if b then is_a s byte_array_class v else false)
joined_bytes true k size p v w o s e h = is_a_steady byte_array_class v o s (h.0 (ltb-true k size e)).known
joined_bytes false k size p v w o s e h = refl

pub item_steady : (p : Program) (items : Items) (k : ℕ) (o : HeapObject) (s : Store) → Reads p s items k → item_at p (object_added o s) items k ≡ item_at p s items k
item_steady p (Items.From v from) k o s h = element_steady p v (from + k) o s h.known
item_steady p (Items.Backwards v last) k o s h = element_steady p v (last - k) o s h.known
item_steady p (Items.Joined v size w) k o s h = joined_steady (nat_lt k size) k size p v w o s refl h
item_steady p (Items.Keys v) k o s h = key_steady v (k + 1) o s h
item_steady p (Items.Values v) k o s h = slot_steady v (2 * k + 1) o s h
item_steady p (Items.Upper v) k o s h = ap (λ (x : Value). cased to_upper x) (element_steady p v (k + 1) o s h.known)
item_steady p (Items.Lower v) k o s h = ap (λ (x : Value). cased to_lower x) (element_steady p v (k + 1) o s h.known)
item_steady p (Items.Repeated v) k o s h = refl

pub from_bytes_steady : (p : Program) (items : Items) (k : ℕ) (o : HeapObject) (s : Store) → Reads p s items k → from_bytes (object_added o s) items k ≡ from_bytes s items k
from_bytes_steady p (Items.From v from) k o s h = is_a_steady byte_array_class v o s h.known
from_bytes_steady p (Items.Backwards v last) k o s h = is_a_steady byte_array_class v o s h.known
from_bytes_steady p (Items.Joined v size w) k o s h = joined_bytes (nat_lt k size) k size p v w o s refl h
from_bytes_steady p (Items.Keys v) k o s h = refl
from_bytes_steady p (Items.Values v) k o s h = refl
from_bytes_steady p (Items.Upper v) k o s h = refl
from_bytes_steady p (Items.Lower v) k o s h = refl
from_bytes_steady p (Items.Repeated v) k o s h = refl
