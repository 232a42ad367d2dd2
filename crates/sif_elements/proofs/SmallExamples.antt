-- Small bodies, weighed by hand.
use Rattle.std.proofs.Common.{◌≡◌, ◌+◌, List, [], ◌∷◌, codes, false, arith}
use Rattle.st_tree.specs.declared.tree.Literal.{Literal}
use Rattle.st_tree.specs.declared.tree.Literal.TheVariants as literal
use Rattle.st_tree.specs.declared.tree.Expr.{Expr}
use Rattle.st_tree.specs.declared.tree.Message.{Message}
use Rattle.st_tree.specs.declared.tree.Operand.{Operand}
use Rattle.st_tree.specs.declared.tree.Statement.{Statement}
use Rattle.st_tree.specs.Trees.{name, variable, integer, constant, message, operand, expr, body, block, paren, stated}
use Rattle.std.specs.Prelude.{pos}
use Rattle.st_tree.specs.Small.{Weights, parts, moves, body_weight}
use Rattle.sif_elements.proofs.Weighing.{message_weighs, operand_weighs, expr_weighs, stated_weighs, variable_weighs, constant_weighs, block_weighs, paren_weighs, body_weighs, str_size, integer_size}

-- `Transcript show: 'hi'; cr`
abbrev hi : Literal
hi = literal.Str (codes "hi")

abbrev show : Message
show = message (codes "show:") 11 (operand (constant hi) [] ∷ [])

abbrev cr : Message
cr = message (codes "cr") 23 []

abbrev transcript : Operand
transcript = operand (variable (name (codes "Transcript") 0)) (show ∷ [])

abbrev greeting : List Statement
greeting = stated false (expr [] transcript (cr ∷ [])) ∷ []

greeting_weighs : (w : Weights) → body_weight w (body [] greeting) ≡ w.statement + (w.variable + w.text (codes "Transcript")) + (w.message + w.text (codes "show:")) + w.literal hi + (w.message + w.text (codes "cr"))
greeting_weighs w = omega (
  arith,
  body_weighs w [] greeting,
  stated_weighs w false (expr [] transcript (cr ∷ [])),
  expr_weighs w [] transcript (cr ∷ []),
  operand_weighs w (variable (name (codes "Transcript") 0)) (show ∷ []),
  variable_weighs w (name (codes "Transcript") 0),
  message_weighs w (codes "show:") 11 (operand (constant hi) [] ∷ []),
  operand_weighs w (constant hi) [],
  constant_weighs w hi,
  message_weighs w (codes "cr") 23 [],
)

-- a statement, a variable, two messages and a literal
greeting_moves : body_weight moves (body [] greeting) ≡ 5
greeting_moves = omega (arith, greeting_weighs moves)

-- and with their bytes: 1, 11, 6 and 3, and a literal of 3
greeting_parts : body_weight parts (body [] greeting) ≡ 24
greeting_parts = omega (arith, greeting_weighs parts, str_size (codes "hi"))

-- `x := ([:e | 3])`
abbrev three : List Statement
three = stated false (expr [] (operand (constant (integer 3)) []) []) ∷ []

abbrev inner : Expr
inner = expr [] (operand (block 6 (name (codes "e") 8 ∷ []) [] three) []) []

abbrev assigned : List Statement
assigned = stated false (expr (name (codes "x") 0 ∷ []) (operand (paren inner) []) []) ∷ []

assigned_weighs : (w : Weights) → body_weight w (body [] assigned) ≡ w.statement + (w.target + w.text (codes "x")) + w.block + (w.declared_name + w.text (codes "e")) + w.statement + w.literal (integer 3)
assigned_weighs w = omega (
  arith,
  body_weighs w [] assigned,
  stated_weighs w false (expr (name (codes "x") 0 ∷ []) (operand (paren inner) []) []),
  expr_weighs w (name (codes "x") 0 ∷ []) (operand (paren inner) []) [],
  operand_weighs w (paren inner) [],
  paren_weighs w inner,
  expr_weighs w [] (operand (block 6 (name (codes "e") 8 ∷ []) [] three) []) [],
  operand_weighs w (block 6 (name (codes "e") 8 ∷ []) [] three) [],
  block_weighs w 6 (name (codes "e") 8 ∷ []) [] three,
  stated_weighs w false (expr [] (operand (constant (integer 3)) []) []),
  expr_weighs w [] (operand (constant (integer 3)) []) [],
  operand_weighs w (constant (integer 3)) [],
  constant_weighs w (integer 3),
)

-- two statements, a target, a block and a literal; neither the parameter nor the parentheses
assigned_moves : body_weight moves (body [] assigned) ≡ 5
assigned_moves = omega (arith, assigned_weighs moves)

assigned_parts : body_weight parts (body [] assigned) ≡ 8
assigned_parts = omega (arith, assigned_weighs parts, integer_size (pos 3))
