-- What becomes of the scopes and objects of the heap.
use Rattle.std.specs.Prelude.{ℕ, suc, ◌+◌, Bool, true, false, List, [], ◌∷◌, Option, Some, None, nat_le, if◌then◌else◌}
use Rattle.object_heap.specs.declared.value.Value.{Value}
use Rattle.object_heap.specs.Store.{Store, with_variable}
use Rattle.object_heap.specs.Charges.{Memory}
use Rattle.st_collections.specs.Actions.{first}
use Rattle.st_machine.specs.Operands.{but_first}

-- each variable that a block names is written to the scope, from this place on: the argument in its place, or nil
unfoldable pub captured_put : List Bool → List Value → (scope place : ℕ) → Store → Store
captured_put [] arguments scope place s = s
captured_put (true ∷ captured) arguments scope place s = captured_put captured (but_first arguments) scope (suc place) (with_variable scope place (first arguments) s)
captured_put (false ∷ captured) arguments scope place s = captured_put captured (but_first arguments) scope place s

-- the number of a new block or scope, where its cells are there
abbrev pub if_room : ℕ → ℕ → Memory → Option ℕ
if_room charge number m = if nat_le (m.used + charge) m.limit then Some number else None
