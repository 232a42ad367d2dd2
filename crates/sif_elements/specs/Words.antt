-- Words and comments that are taken byte by byte: what stands in front of those to come.
use Rattle.std.specs.Prelude.{ℕ, Bool, true, false, List, [], ◌∷◌}
use Rattle.st_tree.specs.Headers.{onto_word}

-- bytes in front of the first word
abbrev pub in_front : List ℕ → List (List ℕ) → List (List ℕ)
in_front [] words = words
in_front (b ∷ bs) words = onto_word b (in_front bs words)

-- the bytes of a comment that is open, in front of the first comment
abbrev pub if_open : Bool → List ℕ → List (List ℕ) → List (List ℕ)
if_open false comment comments = comments
if_open true comment comments = in_front comment comments
