-- What a writer writes.
use Rattle.std.specs.Prelude.{ℕ, List, [], ◌∷◌, ◌++◌}
use Rattle.sif_chunks.specs.Split.{doubled}

-- the end of an element: a bang and a line end
abbrev pub closing : List ℕ
closing = 33 ∷ 10 ∷ []

-- an element with its end
abbrev pub closed : List ℕ → List ℕ
closed text = doubled text ++ closing

-- elements, one behind another
abbrev pub all_closed : List (List ℕ) → List ℕ
all_closed [] = []
all_closed (text ∷ texts) = closed text ++ all_closed texts

-- each text behind the line end of the one before it
abbrev pub on_new_lines : List (List ℕ) → List (List ℕ)
on_new_lines [] = []
on_new_lines (text ∷ texts) = (10 ∷ text) ∷ on_new_lines texts
