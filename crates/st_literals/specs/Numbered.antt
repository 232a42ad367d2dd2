-- The objects of literals, numbered one behind the other: an array stands before its items.
use Rattle.std.specs.Prelude.{ℕ, ◌+◌, List, [], ◌∷◌, ◌++◌, length}
use Rattle.object_heap.specs.declared.value.Value.{Value}
use Rattle.object_heap.specs.Store.{Object}
use Rattle.object_heap.specs.Charges.{Memory, with_store}
use Rattle.st_code.specs.Texts.{Text}
use Rattle.st_code.specs.Program.{Program}
use Rattle.st_code.specs.Named.{Literal}
use Rattle.st_code.specs.Resolved.{literal_made}

-- the objects of a literal, numbered from here on
abbrev pub objects_of : (names : List Text) → (next : ℕ) → Literal → List Object
objects_of names n l = (literal_made names n l).objects

abbrev pub value_of : (names : List Text) → (next : ℕ) → Literal → Value
value_of names n l = (literal_made names n l).item

-- those of literals one behind the other
abbrev pub objects_from : (names : List Text) → (next : ℕ) → List Literal → List Object
objects_from names n [] = []
objects_from names n (l ∷ ls) = objects_of names n l ++ objects_from names (n + length (objects_of names n l)) ls

-- the memory with more objects
abbrev pub with_objects : List Object → Memory → Memory
with_objects objects m = with_store (record { objects = m.store.objects ++ objects; closures = m.store.closures; scopes = m.store.scopes }) m

-- the memory at the beginning of a program's run: its literals stand, and no cell is used
abbrev pub first_memory : Program → Memory
first_memory p = record { store = record { objects = p.literals; closures = []; scopes = [] }; used = 0; limit = p.cell_limit }
