-- Objects and stores as the messages of collections and the loops take them: slots have room, an Interval has less than 2^127 elements, what grows is no literal, and a Dictionary's slots come in pairs.
use Rattle.std.specs.Prelude.{ℕ, ◌*◌, ◌/◌, ◌^◌, ◌<◌, ◌≤◌, ◌≡◌, Bool, true, false, not, ◌&&◌, ◌||◌, length, nat_eq}
use Rattle.object_heap.specs.Store.{Store, Object, object_at}
use Rattle.st_code.specs.BuiltIns.{ordered_collection_class, set_class, dictionary_class, interval_class}
use Rattle.st_collections.specs.Kinds.{size_at}

-- the classes whose instances take more elements
abbrev pub grows : ℕ → Bool
grows class = nat_eq class ordered_collection_class || nat_eq class set_class || nat_eq class dictionary_class

-- neither a Dictionary nor an Interval, whose slots are bound to their class
abbrev pub is_free : ℕ → Bool
is_free class = not (nat_eq class dictionary_class) && not (nat_eq class interval_class)

pub record SoundObject (o : Object) : Type 0 where
  pub room : length o.slots ≤ o.capacity
  pub measured : o.class ≡ interval_class → size_at interval_class o.slots o.bytes < 2 ^ 127
  pub writable : grows o.class ≡ true → o.read_only ≡ false
  pub slots_even : o.class ≡ dictionary_class → length o.slots ≡ 2 * (length o.slots / 2)
  pub room_even : o.class ≡ dictionary_class → o.capacity ≡ 2 * (o.capacity / 2)

-- each object is so; and so is what a number stands for that names nothing
pub record SoundStore (s : Store) : Type 0 where
  pub each : (n : ℕ) → SoundObject (object_at n s)
