-- Where a loop begins, and what is wrong with its arguments.
use Rattle.std.specs.Prelude.{ℤ, pos, int_le, nat_eq, Bool, false, ◌&&◌, List, length, Option, Some, None, if◌then◌else◌}
use Rattle.object_heap.specs.declared.value.Value.{Value}
use Rattle.object_heap.specs.declared.value.Value.TheVariants.{Nil, Integer, Object}
use Rattle.object_heap.specs.declared.trouble.Trouble.{Trouble}
use Rattle.object_heap.specs.declared.trouble.Trouble.TheVariants.{NumberExpected, StepIsZero}
use Rattle.object_heap.specs.Store.{Store, object_at}
use Rattle.st_code.specs.Program.{Program}
use Rattle.st_code.specs.Messages.{LoopMessage}
use Rattle.st_collections.specs.Actions.{Action, Fails, LoopState as State, first, second}
use Rattle.st_collections.specs.Kinds.{integer_of, is_a, natural_of, size_of, slots_of}

-- the trouble of a loop message
abbrev pub trouble_of : Action → Option Trouble
trouble_of (Fails t) = Some t
trouble_of action = None

abbrev pub stop_trouble : Value → Option Trouble
stop_trouble (Integer n) = None
stop_trouble v = Some NumberExpected

abbrev pub step_trouble : Value → Option Trouble
step_trouble (Integer n) = if nat_eq (natural_of n) 0 && int_le (pos 0) n then Some StepIsZero else None
step_trouble v = Some NumberExpected

abbrev pub or_trouble : Option Trouble → Option Trouble → Option Trouble
or_trouble (Some t) o = Some t
or_trouble None o = o

abbrev pub loop_trouble : LoopMessage → List Value → Option Trouble
loop_trouble LoopMessage.ToDo args = stop_trouble (first args)
loop_trouble LoopMessage.ToByDo args = or_trouble (stop_trouble (first args)) (step_trouble (second args))
loop_trouble m args = None

abbrev pub begun : LoopMessage → Value → List Value → ℤ → Value → State
begun m r args index made = record { message = m; receiver = r; arguments = args; index = index; made = made; visited = Nil; aside = false }

-- the state in which a loop begins
abbrev pub started : Program → Store → LoopMessage → Value → List Value → State
started p s LoopMessage.WhileTrue r args = begun LoopMessage.WhileTrue r args (pos 0) Nil
started p s LoopMessage.WhileFalse r args = begun LoopMessage.WhileFalse r args (pos 0) Nil
started p s LoopMessage.ToDo r args = begun LoopMessage.ToDo r args (integer_of r) Nil
started p s LoopMessage.ToByDo r args = begun LoopMessage.ToByDo r args (integer_of r) Nil
started p s LoopMessage.ReverseDo r args = begun LoopMessage.ReverseDo r args (pos (size_of p s r)) Nil
started p s LoopMessage.InjectInto r args = begun LoopMessage.InjectInto r args (pos 1) (first args)
started p s LoopMessage.OccurrencesOf r args = begun LoopMessage.OccurrencesOf r args (pos 1) (Integer (pos 0))
started p s LoopMessage.NotEqual r args = begun LoopMessage.NotEqual r args (pos 0) Nil
started p s m r args = begun m r args (pos 1) Nil

-- `=`: the argument is of the same class and size
abbrev pub same_kind : Store → State → Bool
same_kind s l = elim l.receiver [
  | Object n ↦ is_a s (object_at n s).class (first l.arguments) && nat_eq (length (object_at n s).slots) (length (slots_of s (first l.arguments)))
  | _ ↦ false
]
