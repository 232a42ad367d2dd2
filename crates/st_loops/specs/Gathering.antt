-- The loops that make a collection.
use Rattle.std.specs.Prelude.{pos, ◌+ℤ◌, Bool, true, false, [], ◌∷◌, ◌++◌}
use Rattle.object_heap.specs.declared.value.Value.{Value}
use Rattle.object_heap.specs.Store.{Store}
use Rattle.st_code.specs.Program.{Program}
use Rattle.st_code.specs.BuiltIns.{ordered_collection_class}
use Rattle.st_code.specs.Messages.{LoopMessage}
use Rattle.st_collections.specs.Actions.{LoopState as State, Visit, Charges, next_object, with_new}
use Rattle.st_collections.specs.Kinds.{slots_of}
use Rattle.st_collections.specs.Loops.{visit_at}
use Rattle.st_loops.specs.States.{at_index, made_to}
use Rattle.st_loops.specs.Visits.{appended}

abbrev pub gathers : LoopMessage → Bool
gathers LoopMessage.Collect = true
gathers LoopMessage.Select = true
gathers LoopMessage.Reject = true
gathers m = false

-- a value more in the collection made, then the next index
abbrev pub added : Program → Store → State → Value → Visit
added p s l v = appended s l.made (slots_of s l.made ++ v ∷ []) (λ s'. visit_at p s' l.message (at_index (l.index +ℤ pos 1) l))

-- the collection made is charged first
abbrev pub with_made : Program → Store → State → Visit
with_made p s l = let s' = with_new ordered_collection_class [] [] s in Charges 1 s' (visit_at p s' l.message (made_to (next_object s) l))
