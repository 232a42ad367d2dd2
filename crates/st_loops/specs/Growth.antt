-- Collections that a loop adds to or takes from.
use Rattle.std.specs.Prelude.{ℕ, ◌*◌, ◌/◌, ◌≤◌, ◌<◌, ◌≡◌, length, nat_lt, if◌then◌else◌}
use Rattle.object_heap.specs.Store.{Store, object_at}
use Rattle.st_code.specs.BuiltIns.{dictionary_class}
use Rattle.st_collections.specs.SequenceRows.{Room}

-- an object that has room for its slots
pub record IsRoomy (s : Store) (n : ℕ) : Type 0 where
  pub stands : n < length s.objects
  pub room : length (object_at n s).slots ≤ (object_at n s).capacity

-- an object whose slots come one by one
pub record IsSingle (s : Store) (n : ℕ) : Type 0 where
  pub roomy : IsRoomy s n
  pub single : (object_at n s).class ≡ dictionary_class → ⊥

-- a Dictionary: its slots come in pairs
pub record IsPaired (s : Store) (n : ℕ) : Type 0 where
  pub roomy : IsRoomy s n
  pub paired : (object_at n s).class ≡ dictionary_class
  pub slots_even : length (object_at n s).slots ≡ 2 * (length (object_at n s).slots / 2)
  pub room_even : (object_at n s).capacity ≡ 2 * ((object_at n s).capacity / 2)

-- the room where there is some, else so much more, which is charged
abbrev pub room_or : (size room more : ℕ) → Room
room_or size room more = if nat_lt size room then record { elements = room; cells = 0 } else record { elements = more; cells = more }
