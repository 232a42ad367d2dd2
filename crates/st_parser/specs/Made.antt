-- What the second pass over the tokens makes.
use Rattle.std.specs.Prelude.{◌≡◌, List, Some}
use Rattle.st_tree.specs.Symbols.{Sym}
use Rattle.st_tree.specs.Grammar.{Production, Tree}
use Rattle.st_parser.specs.Machine.{parse, start}

-- it is the tree, if the machine accepts
pub record Makes (p : Production) (a : List Sym) (made : Tree) : Type 0 where
  pub gives : (tree : Tree) → parse (start p) a ≡ Some tree → tree ≡ made
