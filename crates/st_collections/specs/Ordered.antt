-- OrderedCollections as they stand, and the room that more elements ask for.
use Rattle.std.specs.Prelude.{ℕ, ◌+◌, ◌*◌, ◌≤◌, ◌≡◌, max, Bool, true, false, not, ◌&&◌, List, ◌++◌, length, get_or, nat_eq, nat_le, nat_lt, Result, Ok, Err, if◌then◌else◌}
use Rattle.object_heap.specs.declared.value.Value.{Value}
use Rattle.object_heap.specs.declared.value.Value.TheVariants.{Nil, Object}
use Rattle.object_heap.specs.declared.heap.HeapStop.{HeapStop}
use Rattle.object_heap.specs.Charges.{Memory}
use Rattle.object_heap.specs.Store.{Store, object_at, object_set, with_slots}
use Rattle.st_code.specs.BuiltIns.{ordered_collection_class}
use Rattle.object_heap.specs.declared.trouble.Trouble.TheVariants.{CollectionExpected, CollectionIsEmpty}
use Rattle.st_code.specs.Program.{Program}
use Rattle.st_collections.specs.Kinds.{elements, is_collection}
use Rattle.st_collections.specs.Actions.{Action, Changes, Fails}
use Rattle.st_collections.specs.Answers.{told}
use Rattle.st_collections.specs.SequenceRows.{Room, adds, without_element}

-- an OrderedCollection: it is no literal, and has no more elements than it has room for
pub record IsOpen (s : Store) (n : ℕ) : Type 0 where
  pub ordered : (object_at n s).class ≡ ordered_collection_class
  pub writable : (object_at n s).read_only ≡ false
  pub room : length (object_at n s).slots ≤ (object_at n s).capacity

-- an object among these is such a one
abbrev pub IsOrdered : Store → Value → Type 0
IsOrdered s (Object n) = IsOpen s n
IsOrdered s v = Unit {0}

-- the same as a test
unfoldable pub is_ordered : Store → Value → Bool
is_ordered s (Object n) = nat_eq (object_at n s).class ordered_collection_class && not (object_at n s).read_only && nat_le (length (object_at n s).slots) (object_at n s).capacity
is_ordered s v = true

-- the room for one more element, and the cells that it takes
abbrev pub room_for_one : (size room : ℕ) → Room
room_for_one size room =
    if nat_lt size room then record { elements = room; cells = 0 } else record { elements = max 4 (2 * room); cells = max 4 (2 * room) }

-- the store with other slots of an object
abbrev pub slots_set : ℕ → List Value → Store → Store
slots_set n slots s = object_set n (with_slots slots (object_at n s)) s

-- what the room for one more answers
abbrev pub room_answer : ℕ → Memory → Result (Unit {0}) HeapStop
room_answer cells m = if nat_le (m.used + cells) m.limit then Ok tt else Err (HeapStop.Limit m.used (told cells))

-- all elements of a collection added at the end
abbrev pub all_added : Program → Store → ℕ → Value → Action
all_added p s n v = if is_collection s v then adds s n ((object_at n s).slots ++ elements p s v) v else Fails CollectionExpected

-- the element at a place taken out, unless there is none
abbrev pub removal : Store → ℕ → ℕ → Action
removal s n i =
    if nat_eq (length (object_at n s).slots) 0 then Fails CollectionIsEmpty else Changes (without_element s n i) (get_or (object_at n s).slots i Nil)
