-- The line of the statistics by its pieces.
use Rattle.std.proofs.Common.{◌≡◌, ℕ, List, ◌++◌, codes, decimal}
use Rattle.std.proofs.lemmas.List.{append_assoc}
use Rattle.st_run.specs.Reports.{stats_line, limit_line}

pieces : (a d b e c f w i n : List ℕ) → a ++ d ++ b ++ e ++ c ++ f ++ w ++ i ++ n ≡ (a ++ d) ++ ((b ++ e) ++ ((c ++ f) ++ (w ++ i ++ n)))
pieces a d b e c f w i n = simp append_assoc

abbrev pub steps_piece : (steps : ℕ) → List ℕ
steps_piece steps = codes "stx: steps " ++ decimal steps

abbrev pub depth_piece : (depth : ℕ) → List ℕ
depth_piece depth = codes " depth " ++ decimal depth

abbrev pub cells_piece : (cells : ℕ) → List ℕ
cells_piece cells = codes " cells " ++ decimal cells

pub stats_pieces : (steps depth cells instructions : ℕ) → stats_line steps depth cells instructions ≡ steps_piece steps ++ (depth_piece depth ++ (cells_piece cells ++ limit_line (codes " instructions ") instructions))
unfolding stats_line
stats_pieces steps depth cells instructions = pieces (codes "stx: steps ") (decimal steps) (codes " depth ") (decimal depth) (codes " cells ") (decimal cells) (codes " instructions ") (decimal instructions) (codes "\n")
