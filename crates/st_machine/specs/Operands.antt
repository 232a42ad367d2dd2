-- What becomes of the operands and the position of the innermost activation.
use Rattle.std.specs.Prelude.{ℕ, zero, suc, ◌+◌, ◌-◌, ◌^◌, min, Bool, true, false, List, [], ◌∷◌}
use Rattle.object_heap.specs.declared.value.Value.{Value}
use Rattle.st_contexts.specs.declared.activation.Activation.TheVariants.{Body}
use Rattle.st_contexts.specs.declared.activation.Frame.{Frame}
use Rattle.st_contexts.specs.Stack.{Stack, with_kept, value_pushed, value_popped, top_value}
use Rattle.st_collections.specs.Actions.{first}

-- the frame at its next instruction
abbrev pub moved : Frame → Frame
moved f = record { code = f.code; position = min (f.position + 1) (2 ^ 32 - 1); receiver = f.receiver; class = f.class; scope = f.scope; home = f.home }

abbrev pub moved_on : Frame → Stack → Stack
moved_on f s = with_kept (Body (moved f)) s

-- a value is one more operand, and the next instruction comes
abbrev pub delivered : Frame → Value → Stack → Stack
delivered f v s = moved_on f (value_pushed v s)

-- a stack from which operands were taken, and these in their order before the others
pub record Taken : Type 0 where
  pub stack : Stack
  pub values : List Value

unfoldable pub taken : ℕ → Stack → List Value → Taken
taken zero s values = record { stack = s; values = values }
taken (suc n) s values = taken n (value_popped s) (top_value s ∷ values)

abbrev pub but_first : List Value → List Value
but_first [] = []
but_first (v ∷ values) = values

-- each variable that no block names is one more operand: the argument in its place, or nil
unfoldable pub own_pushed : List Bool → List Value → Stack → Stack
own_pushed [] arguments s = s
own_pushed (true ∷ captured) arguments s = own_pushed captured (but_first arguments) s
own_pushed (false ∷ captured) arguments s = own_pushed captured (but_first arguments) (value_pushed (first arguments) s)
