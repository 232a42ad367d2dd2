-- What a search for a handler comes to, up to its first question. Source: ANSI 5 (exceptions).
use Rattle.std.specs.Prelude.{ℕ, Bool, true, false, List, [], ◌∷◌, if◌then◌else◌}
use Rattle.object_heap.specs.declared.value.Value.{Value}
use Rattle.object_heap.specs.declared.value.Value.TheVariants.{Class}
use Rattle.object_heap.specs.Store.{Store}
use Rattle.st_code.specs.Program.{Program}
use Rattle.st_code.specs.Lookup.{is_plain, fits, inherits}
use Rattle.st_contexts.specs.declared.activation.Entry.{Entry}
use Rattle.signal_env.specs.declared.handlers.Search.{Search}
use Rattle.signal_env.specs.declared.handlers.Search.TheVariants.{Found, Nobody, Ask}

-- a class is the exception's or one above it
abbrev pub class_fits : Program → (class : ℕ) → Value → Bool
class_fits p class (Class ancestor) = inherits p class ancestor
class_fits p class _ = false

-- some value is such a class
unfoldable pub some_fits : Program → (class : ℕ) → List Value → Bool
some_fits p class [] = false
some_fits p class (v ∷ vs) = if class_fits p class v then true else some_fits p class vs

-- the innermost entry that fits, or that has to be asked; plain entries that don't fit are passed over
unfoldable pub search_in : Program → Store → (class : ℕ) → List Entry → Search
search_in p s class [] = Nobody
search_in p s class (entry ∷ entries) =
    if is_plain p s entry.selector then (if fits p s entry.selector class then Found entry else search_in p s class entries) else Ask entry
