-- What a loop's state and its arguments are, as the definitions of the loops see them.
use Rattle.std.specs.Prelude.{true, false, ℤ, pos, List, [], ◌∷◌}
use Rattle.object_heap.specs.declared.value.Value.{Value}
use Rattle.object_heap.specs.declared.value.Value.TheVariants.{Nil}
use Rattle.st_collections.specs.Actions.{LoopState as State}
use Rattle.st_loops.specs.declared.state.Arguments.{Arguments}
use Rattle.st_loops.specs.declared.state.LoopState.{LoopState}
use Rattle.st_loops.specs.Kinds.{message_of}

-- the arguments as a list
abbrev pub values_of : Arguments → List Value
values_of Arguments.None = []
values_of (Arguments.One v) = v ∷ []
values_of (Arguments.Two v w) = v ∷ w ∷ []
values_of (Arguments.Three v w x) = v ∷ w ∷ x ∷ []

abbrev pub state_of : LoopState → State
state_of l = record { message = message_of l.kind; receiver = l.receiver; arguments = values_of l.arguments; index = l.index; made = l.made; visited = l.visited; aside = l.aside }

-- ---- moves of a state

abbrev pub at_index : ℤ → State → State
at_index i l = record l { index = i; aside = false; visited = Nil }

abbrev pub made_to : Value → State → State
made_to v l = record l { made = v }

-- the loop while it waits for something else than a visit, and where none matched
abbrev pub beside : State → State
beside l = record l { aside = true }

abbrev pub past_all : State → State
past_all l = record l { index = pos 0; aside = true; visited = Nil }

abbrev pub visiting : Value → State → State
visiting v l = record l { visited = v }
