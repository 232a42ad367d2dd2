-- The cells that the objects of literals take, which a run doesn't count.
use Rattle.std.specs.Prelude.{ℕ, suc, ◌+◌, List, [], ◌∷◌, length}
use Rattle.object_heap.specs.Charges.{object_charge}
use Rattle.st_code.specs.Texts.{Text}
use Rattle.st_code.specs.Named.{Literal, NilLiteral, TrueLiteral, FalseLiteral, IntegerLiteral, CharacterLiteral, StringLiteral, SymbolLiteral, ArrayLiteral, Literals, no_literals, more_literals}

abbrev pub text_cells : Text → ℕ
text_cells t = object_charge 0 (length t)

abbrev pub count_in : Literals → ℕ
count_in no_literals = 0
count_in (more_literals l row) = suc (count_in row)

abbrev mutual
  pub literal_cells : Literal → ℕ
  literal_cells NilLiteral = 0
  literal_cells TrueLiteral = 0
  literal_cells FalseLiteral = 0
  literal_cells (IntegerLiteral n) = 0
  literal_cells (CharacterLiteral byte) = 0
  literal_cells (StringLiteral t) = text_cells t
  literal_cells (SymbolLiteral t) = 0
  literal_cells (ArrayLiteral row) = object_charge (count_in row) 0 + row_cells row

  pub row_cells : Literals → ℕ
  row_cells no_literals = 0
  row_cells (more_literals l row) = literal_cells l + row_cells row

abbrev pub cells_of : List Literal → ℕ
cells_of [] = 0
cells_of (l ∷ ls) = literal_cells l + cells_of ls

abbrev pub texts_cells : List Text → ℕ
texts_cells [] = 0
texts_cells (t ∷ texts) = text_cells t + texts_cells texts
