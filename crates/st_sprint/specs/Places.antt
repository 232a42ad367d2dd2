-- What is read in place at an index of a collection.
use Rattle.std.specs.Prelude.{◌≡◌, ℕ, ◌-◌, ℤ, pos, ◌+ℤ◌, ◌*ℤ◌, Bool, true, false, ◌&&◌, ◌||◌, List, length, get_or, nat_eq, nat_le}
use Rattle.object_heap.specs.declared.value.Value.{Value}
use Rattle.object_heap.specs.declared.value.Value.TheVariants.{Nil, Integer, Character}
use Rattle.object_heap.specs.Store.{Store}
use Rattle.st_code.specs.BuiltIns.{array_class, ordered_collection_class, set_class}
use Rattle.st_code.specs.Program.{Program}
use Rattle.st_collections.specs.Kinds.{element, interval_size, natural_of, size_of}
use Rattle.st_sprint.specs.declared.places.Place.{Place}

-- this value stands there, or there is none
abbrev pub Stands : (there : Bool) → Value → Place → Type 0
Stands there v (Place.Element w) = (there ≡ true) × (v ≡ w)
Stands there v Place.Past = there ≡ false
Stands there v Place.Unread = Unit {0}

-- so many elements have this index
abbrev pub is_index : ℤ → (size : ℕ) → Bool
is_index i size = nat_le 1 (natural_of i) && nat_le (natural_of i) size

-- what is read is what stands at the index of a collection
abbrev pub IsPlace : Program → Store → Value → ℤ → Place → Type 0
IsPlace p s r i place = Stands (is_index i (size_of p s r)) (element p s r (natural_of i)) place

-- the same of slots, of bytes and of an Interval
abbrev pub IsSlot : List Value → ℤ → Place → Type 0
IsSlot slots i place = Stands (is_index i (length slots)) (get_or slots (natural_of i - 1) Nil) place

abbrev pub IsByte : List ℕ → ℤ → Place → Type 0
IsByte bytes i place = Stands (is_index i (length bytes)) (Character (get_or bytes (natural_of i - 1) 0)) place

abbrev pub IsStep : (start stop by : ℤ) → ℤ → Place → Type 0
IsStep start stop by i place = Stands (is_index i (interval_size start stop by)) (Integer (start +ℤ pos (natural_of i - 1) *ℤ by)) place

-- the elements of an object of this class are its slots
abbrev pub has_slots : ℕ → Bool
has_slots class = nat_eq class array_class || nat_eq class ordered_collection_class || nat_eq class set_class
