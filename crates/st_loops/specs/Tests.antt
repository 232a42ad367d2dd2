-- What a loop asks of its receiver and of what it keeps, as tests.
use Rattle.std.specs.Prelude.{ℕ, ◌%◌, Bool, true, not, ◌&&◌, length, nat_eq, nat_le, int_lt}
use Rattle.object_heap.specs.declared.value.Value.{Value}
use Rattle.object_heap.specs.declared.value.Value.TheVariants.{Object}
use Rattle.object_heap.specs.Store.{Store, object_at}
use Rattle.st_code.specs.BuiltIns.{dictionary_class, ordered_collection_class}
use Rattle.st_code.specs.Messages.{LoopMessage}
use Rattle.st_collections.specs.Actions.{LoopState as State}
use Rattle.st_collections.specs.Items.{is_measured}
use Rattle.st_collections.specs.Kinds.{integer_of}

-- an object that has room for its slots; what is no object has class 0
abbrev pub is_roomy : Store → ℕ → Bool
is_roomy s n = not (nat_eq (object_at n s).class 0) && nat_le (length (object_at n s).slots) (object_at n s).capacity

abbrev pub is_paired : Store → ℕ → Bool
is_paired s n =
    nat_eq (object_at n s).class dictionary_class && nat_eq (length (object_at n s).slots % 2) 0 && nat_eq ((object_at n s).capacity % 2) 0 && is_roomy s n

-- no object, or one that has room for its slots, whose slots come one by one, or in pairs
abbrev pub has_room : Store → Value → Bool
has_room s (Object n) = is_roomy s n
has_room s v = true

abbrev pub has_elements : Store → Value → Bool
has_elements s (Object n) = not (nat_eq (object_at n s).class dictionary_class) && is_roomy s n
has_elements s v = true

abbrev pub has_pairs : Store → Value → Bool
has_pairs s (Object n) = is_paired s n
has_pairs s v = true

abbrev pub has_gathered : Store → Value → Bool
has_gathered s (Object n) = nat_eq (object_at n s).class ordered_collection_class && is_roomy s n
has_gathered s v = true

-- what the message changes is a collection as it stands
abbrev pub may_change : Store → LoopMessage → Value → Bool
may_change s LoopMessage.AddToSet r = has_elements s r
may_change s LoopMessage.AtPut r = has_pairs s r
may_change s LoopMessage.AtIfAbsentPut r = has_pairs s r
may_change s LoopMessage.Remove r = has_room s r
may_change s LoopMessage.RemoveIfAbsent r = has_room s r
may_change s LoopMessage.RemoveKey r = has_room s r
may_change s LoopMessage.RemoveKeyIfAbsent r = has_room s r
may_change s m r = true

-- a value may be the receiver of a loop
abbrev pub may_begin : Store → LoopMessage → Value → Bool
may_begin s m r = is_measured s r && may_change s m r

-- a loop may go on from what it keeps
abbrev pub may_keep : Store → LoopMessage → State → Bool
may_keep s LoopMessage.Collect l = has_gathered s l.made
may_keep s LoopMessage.Select l = has_gathered s l.made
may_keep s LoopMessage.Reject l = has_gathered s l.made
may_keep s LoopMessage.OccurrencesOf l = int_lt (integer_of l.made) l.index
may_keep s m l = true
