-- What a loop asks of its receiver and of the collection that it makes.
use Rattle.std.specs.Prelude.{ℕ, ◌<ℤ◌, ◌≡◌}
use Rattle.object_heap.specs.declared.value.Value.{Value}
use Rattle.object_heap.specs.declared.value.Value.TheVariants.{Object}
use Rattle.object_heap.specs.Store.{Store, object_at}
use Rattle.st_code.specs.BuiltIns.{ordered_collection_class}
use Rattle.st_code.specs.Messages.{LoopMessage}
use Rattle.st_collections.specs.Actions.{LoopState as State}
use Rattle.st_collections.specs.Kinds.{integer_of}
use Rattle.st_loops.specs.Growth.{IsPaired, IsRoomy, IsSingle}

-- no object, or one that has room for its slots, whose slots come one by one, or in pairs
abbrev pub HasRoom : Store → Value → Type 0
HasRoom s (Object n) = IsRoomy s n
HasRoom s v = Unit {0}

abbrev pub HasElements : Store → Value → Type 0
HasElements s (Object n) = IsSingle s n
HasElements s v = Unit {0}

abbrev pub HasPairs : Store → Value → Type 0
HasPairs s (Object n) = IsPaired s n
HasPairs s v = Unit {0}

-- what the message changes is a collection as it stands
abbrev pub IsReceiver : Store → LoopMessage → Value → Type 0
IsReceiver s LoopMessage.AddToSet r = HasElements s r
IsReceiver s LoopMessage.AtPut r = HasPairs s r
IsReceiver s LoopMessage.AtIfAbsentPut r = HasPairs s r
IsReceiver s LoopMessage.Remove r = HasRoom s r
IsReceiver s LoopMessage.RemoveIfAbsent r = HasRoom s r
IsReceiver s LoopMessage.RemoveKey r = HasRoom s r
IsReceiver s LoopMessage.RemoveKeyIfAbsent r = HasRoom s r
IsReceiver s m r = Unit {0}

-- the collection that a loop makes is an OrderedCollection as it stands
pub record IsGathered (s : Store) (n : ℕ) : Type 0 where
  pub roomy : IsRoomy s n
  pub ordered : (object_at n s).class ≡ ordered_collection_class

abbrev pub HasGathered : Store → Value → Type 0
HasGathered s (Object n) = IsGathered s n
HasGathered s v = Unit {0}

-- what a loop keeps between its visits: the collection that it makes, or a count below its index
abbrev pub IsKept : Store → LoopMessage → State → Type 0
IsKept s LoopMessage.Collect l = HasGathered s l.made
IsKept s LoopMessage.Select l = HasGathered s l.made
IsKept s LoopMessage.Reject l = HasGathered s l.made
IsKept s LoopMessage.OccurrencesOf l = integer_of l.made <ℤ l.index
IsKept s m l = Unit {0}
