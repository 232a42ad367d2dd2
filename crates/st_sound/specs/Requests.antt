-- What the code of collections and loops asks of values, receivers and loops is so in a sound store.
use Rattle.std.specs.Prelude.{◌≡◌, true}
use Rattle.object_heap.specs.declared.value.Value.{Value}
use Rattle.object_heap.specs.Store.{Store}
use Rattle.st_code.specs.BuiltIns.{ordered_collection_class}
use Rattle.st_code.specs.Lookup.{level_of}
use Rattle.st_code.specs.Messages.{LoopMessage}
use Rattle.st_collections.specs.Items.{IsMeasured}
use Rattle.st_collections.specs.Ordered.{IsOrdered}
use Rattle.st_loops.specs.Requests.{IsReceiver}
use Rattle.st_sound.specs.Receivers.{takes_loop}
use Rattle.st_sound.specs.SoundStore.{SoundStore}

-- no Interval has 2^127 elements
abbrev pub ValuesAreMeasured : Type 0
ValuesAreMeasured = (s : Store) → SoundStore s → (v : Value) → IsMeasured s v

-- an OrderedCollection is one as it stands
abbrev pub OrderedAreOpen : Type 0
OrderedAreOpen = (s : Store) → SoundStore s → (r : Value) → (level_of s r).class ≡ ordered_collection_class → IsOrdered s r

-- a loop's receiver is a collection as it stands
abbrev pub ReceiversStand : Type 0
ReceiversStand = (s : Store) → SoundStore s → (m : LoopMessage) (r : Value) → takes_loop m (level_of s r).class ≡ true → IsReceiver s m r
