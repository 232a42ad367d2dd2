-- How many variables are captured, and how many before each.
use Rattle.std.specs.Prelude.{ℕ, ◌+◌, Bool, true, false, List, [], ◌∷◌}

abbrev pub one_if : Bool → ℕ
one_if true = 1
one_if false = 0

abbrev pub befores : ℕ → List Bool → List ℕ
befores count [] = []
befores count (b ∷ captured) = count ∷ befores (count + one_if b) captured

abbrev pub count_captured : List Bool → ℕ
count_captured [] = 0
count_captured (b ∷ captured) = one_if b + count_captured captured
