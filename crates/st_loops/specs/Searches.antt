-- The searches by `=`: what a match brings.
use Rattle.std.specs.Prelude.{ℕ, ◌-◌, ◌*◌, pos, ◌+ℤ◌, ◌&&◌, get_or, if◌then◌else◌}
use Rattle.object_heap.specs.declared.value.Value.{Value}
use Rattle.object_heap.specs.declared.value.Value.TheVariants.{Nil, True, Integer, Object}
use Rattle.object_heap.specs.Store.{Store, with_slot}
use Rattle.st_code.specs.Program.{Program}
use Rattle.st_code.specs.Messages.{LoopMessage}
use Rattle.st_collections.specs.Actions.{LoopState as State, Visit, Finishes, Charges, first, second}
use Rattle.st_collections.specs.Kinds.{element, integer_of, is_true, natural_of, slots_of}
use Rattle.st_collections.specs.Loops.{visit_at}
use Rattle.st_collections.specs.SequenceRows.{without_element}
use Rattle.st_loops.specs.declared.places.Place.{Place}
use Rattle.st_loops.specs.States.{at_index, made_to}
use Rattle.st_loops.specs.Visits.{is_place}

-- the element that matched, or none
abbrev pub match_at : Program → Store → State → Value → Place
match_at p s l v = if is_true v && is_place p s l.receiver l.index then Place.Element (element p s l.receiver (natural_of l.index)) else Place.Past

abbrev pub further : Program → Store → State → Visit
further p s l = visit_at p s l.message (at_index (l.index +ℤ pos 1) l)

-- ---- a match

abbrev pub without : Store → Value → ℕ → Store
without s (Object n) i = without_element s n i
without s v i = s

abbrev pub value_at : Store → State → Value
value_at s l = get_or (slots_of s l.receiver) (2 * natural_of l.index - 1) Nil

abbrev pub set_value : Store → State → Value → Store
set_value s l v = elim l.receiver [ Object n ↦ with_slot n (2 * natural_of l.index - 1) v s | _ ↦ s ]

abbrev pub removed : Store → State → Value → Visit
removed s l v = Charges 0 (without s l.receiver (natural_of l.index - 1)) (Finishes v)

abbrev pub pair_removed : Store → State → Visit
pair_removed s l = Charges 0 (without (without s l.receiver (2 * natural_of l.index - 1)) l.receiver (2 * natural_of l.index - 2)) (Finishes (value_at s l))

-- what a search does with the element that matched
abbrev pub found_at : Store → LoopMessage → State → Value → Visit
found_at s LoopMessage.IndexOf l v = Finishes (Integer l.index)
found_at s LoopMessage.AddToSet l v = Finishes (first l.arguments)
found_at s LoopMessage.Remove l v = removed s l v
found_at s LoopMessage.RemoveIfAbsent l v = removed s l v
found_at s LoopMessage.At l v = Finishes (value_at s l)
found_at s LoopMessage.AtIfAbsent l v = Finishes (value_at s l)
found_at s LoopMessage.AtPut l v = Charges 0 (set_value s l (second l.arguments)) (Finishes (second l.arguments))
found_at s LoopMessage.AtIfAbsentPut l v = Finishes (value_at s l)
found_at s LoopMessage.RemoveKey l v = pair_removed s l
found_at s LoopMessage.RemoveKeyIfAbsent l v = pair_removed s l
found_at s m l v = Finishes True

abbrev pub searched : Program → Store → State → Value → Visit
searched p s l v = if is_true v && is_place p s l.receiver l.index then found_at s l.message l (element p s l.receiver (natural_of l.index)) else further p s l

-- a match is counted
abbrev pub counted : Program → Store → State → Value → Visit
counted p s l v = if is_true v && is_place p s l.receiver l.index then further p s (made_to (Integer (integer_of l.made +ℤ pos 1)) l) else further p s l
