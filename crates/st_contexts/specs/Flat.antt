-- How a flat stack of activations is a list of them. Both lists of the stack are turned round, so that the innermost comes first.
use Rattle.std.specs.Prelude.{ℕ, ◌*◌, ◌≤◌, ◌<◌, ◌≡◌, List, [], ◌∷◌, length, take, drop, reverse, Option, Some, None, nat_eq, if◌then◌else◌}
use Rattle.object_heap.specs.declared.value.Value.{Value}
use Rattle.st_contexts.specs.declared.contexts.Slot.{Slot}
use Rattle.st_contexts.specs.Stack.{Standing, Stack}

abbrev pub standing : Slot → List Value → Standing
standing s ops = record { number = s.number; kept = s.kept; env = s.env; operands = ops }

-- each activation has the topmost values that the ones inside it leave
abbrev pub standings : List Slot → List Value → List Standing
standings [] vs = []
standings (s ∷ ss) vs = standing s (take s.count vs) ∷ standings ss (drop s.count vs)

-- each activation's values are there, no more than its width, and begin where it says; none is left
abbrev pub Windows : ℕ → List Slot → List Value → Type 0
Windows w [] vs = vs ≡ []
Windows w (s ∷ ss) vs = (s.count ≤ w) × (s.count ≤ length vs) × (s.start ≡ length (drop s.count vs)) × Windows w ss (drop s.count vs)

-- the numbers fall, from below a bound
abbrev pub Falls : ℕ → List Slot → Type 0
Falls n [] = Unit {0}
Falls n (s ∷ ss) = (s.number < n) × Falls s.number ss

-- the room is that of the vectors
pub record Flat (depth width next : ℕ) (slots : List Slot) (values : List Value) (room value_room : ℕ) : Type 0 where
  pub windows : Windows width (reverse slots) (reverse values)
  pub falls : Falls next (reverse slots)
  pub fits : length slots ≤ depth
  pub has_room : depth ≤ room
  pub has_value_room : depth * width ≤ value_room

-- the stack that these vectors stand for
abbrev pub stack_of : List Slot → List Value → ℕ → ℕ → ℕ → Stack
stack_of slots values next depth width = record { acts = standings (reverse slots) (reverse values); next = next; depth = depth; width = width }

-- how many activations are outside the one with this number, the innermost first
unfoldable pub place_in : ℕ → List Slot → Option ℕ
place_in n [] = None
place_in n (s ∷ ss) = if nat_eq n s.number then Some (length ss) else place_in n ss
