-- The items of a new collection, by their places from 0, and the object that holds them.
use Rattle.std.specs.Prelude.{ℕ, ◌+◌, ◌-◌, ◌*◌, ◌<◌, ◌≤◌, ◌^◌, Bool, true, false, not, List, [], map, length, nat_eq, nat_lt, ◌||◌, ◌≡◌, if◌then◌else◌}
use Rattle.std.specs.List.{range_with_len}
use Rattle.object_heap.specs.declared.value.Value.{Value}
use Rattle.object_heap.specs.declared.value.Value.TheVariants.{Character, Object}
use Rattle.object_heap.specs.Store.{Store, Object as HeapObject, object_at, with_slot, with_byte}
use Rattle.object_heap.specs.Charges.{object_charge}
use Rattle.st_code.specs.Texts.{to_upper, to_lower}
use Rattle.st_code.specs.Program.{Program}
use Rattle.st_code.specs.BuiltIns.{string_class, byte_array_class, interval_class}
use Rattle.st_collections.specs.declared.items.Items.{Items}
use Rattle.st_collections.specs.declared.kinds.ElementKind.{ElementKind}
use Rattle.st_collections.specs.Actions.{new_object}
use Rattle.st_collections.specs.Kinds.{is_a, size_of, size_at, element, key, slot_of}
use Rattle.st_collections.specs.TextRows.{byte_of}
use Rattle.st_collections.specs.SequenceRows.{all_values, byte_in, is_byte, is_character}

-- an Interval has less than 2^127 elements
abbrev pub IsMeasured : Store → Value → Type 0
IsMeasured s (Object n) = (object_at n s).class ≡ interval_class → size_at interval_class (object_at n s).slots (object_at n s).bytes < 2 ^ 127
IsMeasured s v = Unit {0}

-- the same as a test
unfoldable pub is_measured : Store → Value → Bool
is_measured s (Object n) = not (nat_eq (object_at n s).class interval_class) || nat_lt (size_at interval_class (object_at n s).slots (object_at n s).bytes) (2 ^ 127)
is_measured s v = true

-- a Character with another byte
abbrev pub cased : (ℕ → ℕ) → Value → Value
cased case (Character byte) = Character (case byte)
cased case v = v

-- the item at a place
abbrev pub item_at : Program → Store → Items → ℕ → Value
item_at p s (Items.From v from) k = element p s v (from + k)
item_at p s (Items.Backwards v last) k = element p s v (last - k)
item_at p s (Items.Joined v size w) k = if nat_lt k size then element p s v (k + 1) else element p s w (k - size + 1)
item_at p s (Items.Keys v) k = key s v (k + 1)
item_at p s (Items.Values v) k = slot_of s v (2 * k + 1)
item_at p s (Items.Upper v) k = cased to_upper (element p s v (k + 1))
item_at p s (Items.Lower v) k = cased to_lower (element p s v (k + 1))
item_at p s (Items.Repeated v) k = v

-- so many items
abbrev pub items_of : Program → Store → Items → ℕ → List Value
items_of p s items count = map (item_at p s items) (range_with_len 0 count)

-- the item at a place is read from a ByteArray
abbrev pub from_bytes : Store → Items → ℕ → Bool
from_bytes s (Items.From v from) k = is_a s byte_array_class v
from_bytes s (Items.Backwards v last) k = is_a s byte_array_class v
from_bytes s (Items.Joined v size w) k = if nat_lt k size then is_a s byte_array_class v else false
from_bytes s items k = false

-- it is a byte
abbrev pub is_byte_item : Program → Store → Items → ℕ → Bool
is_byte_item p s items k = from_bytes s items k || is_byte (item_at p s items k)

-- an object of the store, or no object at all
abbrev pub IsKnown : Store → Value → Type 0
IsKnown s (Object number) = number < length s.objects
IsKnown s v = Unit {0}

-- an index of a collection that stands
pub record IsIndex (p : Program) (s : Store) (v : Value) (i : ℕ) : Type 0 where
  pub within : i ≤ size_of p s v
  pub bound : size_of p s v < 2 ^ 127
  pub known : IsKnown s v

-- what is read at a place stands
abbrev pub Reads : Program → Store → Items → ℕ → Type 0
Reads p s (Items.From v from) k = IsIndex p s v (from + k)
Reads p s (Items.Backwards v last) k = IsIndex p s v (last - k)
Reads p s (Items.Joined v size w) k = (k < size → IsIndex p s v (k + 1)) × (size ≤ k → IsIndex p s w (k - size + 1))
Reads p s (Items.Keys v) k = IsKnown s v
Reads p s (Items.Values v) k = IsKnown s v
Reads p s (Items.Upper v) k = IsIndex p s v (k + 1)
Reads p s (Items.Lower v) k = IsIndex p s v (k + 1)
Reads p s (Items.Repeated v) k = Unit {0}

-- a new object of these items, and the cells that it takes
abbrev pub sequence_object : ℕ → List Value → HeapObject
sequence_object class items =
    if nat_eq class string_class then new_object class [] (map byte_of items) else
    (if nat_eq class byte_array_class then new_object class [] (map byte_in items) else new_object class items [])

abbrev pub sequence_charge : ℕ → ℕ → ℕ
sequence_charge class count = if nat_eq class string_class || nat_eq class byte_array_class then object_charge 0 count else object_charge count 0

-- the store after an item was written into such an object
abbrev pub item_written : ℕ → ℕ → ℕ → Value → Store → Store
item_written class number k v s =
    if nat_eq class string_class then with_byte number k (byte_of v) s else
    (if nat_eq class byte_array_class then with_byte number k (byte_in v) s else with_slot number k v s)

-- ---- kinds of elements

abbrev pub is_of_kind : ElementKind → Value → Bool
is_of_kind ElementKind.Character v = is_character v
is_of_kind ElementKind.Byte v = is_byte v

abbrev pub all_of_kind : ElementKind → List Value → Bool
all_of_kind kind items = all_values (is_of_kind kind) items
