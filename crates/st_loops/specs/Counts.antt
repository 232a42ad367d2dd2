-- The loops that count, and those that ask their receiver each time.
use Rattle.std.specs.Prelude.{ℤ, pos, negsuc, int_lt, int_le, Bool, false, List, [], ◌∷◌, if◌then◌else◌}
use Rattle.object_heap.specs.declared.value.Value.{Value}
use Rattle.object_heap.specs.declared.value.Value.TheVariants.{Nil, Integer}
use Rattle.st_collections.specs.Actions.{LoopState as State, Visit, Applies, Finishes, first}
use Rattle.st_collections.specs.Kinds.{integer_of}
use Rattle.st_loops.specs.States.{beside}

-- the receiver again, or first the argument
abbrev pub while_argument : State → List Value → Visit
while_argument l [] = Applies l l.receiver []
while_argument l (block ∷ args) = Applies (beside l) block []

abbrev pub while_given : State → Bool → Visit
while_given l goes_on = if l.aside then Applies (record l { aside = false }) l.receiver [] else (if goes_on then while_argument l l.arguments else Finishes Nil)

abbrev pub times_visit : State → Visit
times_visit l = if int_le l.index (integer_of l.receiver) then Applies l (first l.arguments) [] else Finishes l.receiver

-- a number is past the stop
abbrev pub is_past : ℤ → ℤ → ℤ → Bool
is_past (pos by) value stop = int_lt stop value
is_past (negsuc by) value stop = int_lt value stop

abbrev pub count_visit : (step stop : ℤ) → Value → State → Visit
count_visit step stop block l = if is_past step l.index stop then Finishes l.receiver else Applies l block (Integer l.index ∷ [])
