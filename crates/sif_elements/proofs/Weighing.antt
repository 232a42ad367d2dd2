-- What the parts of a tree weigh, each by its own parts.
use Rattle.std.proofs.Common.{◌≡◌, ℕ, ◌+◌, List, ap, sym, ◌∙◌, true, false, Bool, ℤ}
use Rattle.std.specs.List.{sum_by}
use Rattle.std.proofs.lemmas.List.Sums.{sum-map}
use Rattle.st_tree.specs.declared.tree.Name.{Name}
use Rattle.st_tree.specs.declared.tree.Literal.{Literal, fold-roll-Literal}
use Rattle.st_tree.specs.declared.tree.Literal.TheVariants as literal
use Rattle.st_tree.specs.declared.tree.Literal.TheOpen.{Literal-F}
use Rattle.st_tree.specs.declared.tree.Primary.{Primary}
use Rattle.st_tree.specs.declared.tree.Primary.TheOpen.{Primary-F, Statement-F}
use Rattle.st_tree.specs.declared.tree.Statement.TheVariants as statement
use Rattle.st_tree.specs.declared.tree.Primary.TheVariants as primary
use Rattle.st_tree.specs.declared.tree.Primary.TheFolds.{fold-Primary, fold-Statement, fold-Block, fold-Expr, fold-Message, fold-Operand, fold-roll-Primary, fold-roll-Statement, fold-roll-Block, fold-roll-Body, fold-roll-Expr, fold-roll-Message, fold-roll-Operand}
use Rattle.st_tree.specs.declared.tree.Statement.{Statement}
use Rattle.st_tree.specs.declared.tree.Block.{Block, roll-Block}
use Rattle.st_tree.specs.declared.tree.Body.{Body}
use Rattle.st_tree.specs.declared.tree.Expr.{Expr}
use Rattle.st_tree.specs.declared.tree.Message.{Message}
use Rattle.st_tree.specs.declared.tree.Operand.{Operand}
use Rattle.st_tree.specs.Trees.{variable, array, constant, message, operand, expr, body, paren, block, stated}
use Rattle.st_tree.specs.Small.{Weights, text_size, literal_layer, literal_size, primary_weight, statement_weight, names_weight, block_weight, layer_weight, expr_weight, message_weight, operand_weight, body_weight}

unfoldable pub primary_in : Weights → Primary → ℕ
primary_in w = fold-Primary ℕ ℕ ℕ ℕ ℕ ℕ ℕ (primary_weight w) (statement_weight w) (block_weight w) (layer_weight w) (expr_weight w) (message_weight w) operand_weight

unfoldable pub statement_in : Weights → Statement → ℕ
statement_in w = fold-Statement ℕ ℕ ℕ ℕ ℕ ℕ ℕ (primary_weight w) (statement_weight w) (block_weight w) (layer_weight w) (expr_weight w) (message_weight w) operand_weight

unfoldable pub block_in : Weights → Block → ℕ
block_in w = fold-Block ℕ ℕ ℕ ℕ ℕ ℕ ℕ (primary_weight w) (statement_weight w) (block_weight w) (layer_weight w) (expr_weight w) (message_weight w) operand_weight

unfoldable pub expr_in : Weights → Expr → ℕ
expr_in w = fold-Expr ℕ ℕ ℕ ℕ ℕ ℕ ℕ (primary_weight w) (statement_weight w) (block_weight w) (layer_weight w) (expr_weight w) (message_weight w) operand_weight

unfoldable pub message_in : Weights → Message → ℕ
message_in w = fold-Message ℕ ℕ ℕ ℕ ℕ ℕ ℕ (primary_weight w) (statement_weight w) (block_weight w) (layer_weight w) (expr_weight w) (message_weight w) operand_weight

unfoldable pub operand_in : Weights → Operand → ℕ
operand_in w = fold-Operand ℕ ℕ ℕ ℕ ℕ ℕ ℕ (primary_weight w) (statement_weight w) (block_weight w) (layer_weight w) (expr_weight w) (message_weight w) operand_weight

pub message_weighs : (w : Weights) (t : List ℕ) (at : ℕ) (os : List Operand) → message_in w (message t at os) ≡ w.message + w.text t + sum_by (operand_in w) os
unfolding message_in operand_in message
message_weighs w t at os = fold-roll-Message ℕ ℕ ℕ ℕ ℕ ℕ ℕ (primary_weight w) (statement_weight w) (block_weight w) (layer_weight w) (expr_weight w) (message_weight w) operand_weight (record { selector = t; at = at; arguments = os }) ∙ ap (λ (n : ℕ). w.message + w.text t + n) (sum-map (operand_in w) os)

pub operand_weighs : (w : Weights) (p : Primary) (ms : List Message) → operand_in w (operand p ms) ≡ primary_in w p + sum_by (message_in w) ms
unfolding operand_in primary_in message_in operand
operand_weighs w p ms = fold-roll-Operand ℕ ℕ ℕ ℕ ℕ ℕ ℕ (primary_weight w) (statement_weight w) (block_weight w) (layer_weight w) (expr_weight w) (message_weight w) operand_weight (record { primary = p; chain = ms }) ∙ ap (λ (n : ℕ). primary_in w p + n) (sum-map (message_in w) ms)

pub expr_weighs : (w : Weights) (ns : List Name) (o : Operand) (cs : List Message) → expr_in w (expr ns o cs) ≡ sum_by (λ n. w.target + w.text n.text) ns + operand_in w o + sum_by (message_in w) cs
unfolding expr_in operand_in message_in expr
expr_weighs w ns o cs = fold-roll-Expr ℕ ℕ ℕ ℕ ℕ ℕ ℕ (primary_weight w) (statement_weight w) (block_weight w) (layer_weight w) (expr_weight w) (message_weight w) operand_weight (record { targets = ns; operand = o; cascade = cs }) ∙ ap (λ (n : ℕ). sum_by (λ n. w.target + w.text n.text) ns + operand_in w o + n) (sum-map (message_in w) cs)

pub body_weighs : (w : Weights) (ts : List Name) (ss : List Statement) → body_weight w (body ts ss) ≡ names_weight w ts + sum_by (statement_in w) ss
unfolding body_weight statement_in body
body_weighs w ts ss = fold-roll-Body ℕ ℕ ℕ ℕ ℕ ℕ ℕ (primary_weight w) (statement_weight w) (block_weight w) (layer_weight w) (expr_weight w) (message_weight w) operand_weight (record { temporaries = ts; statements = ss }) ∙ ap (λ (n : ℕ). names_weight w ts + n) (sum-map (statement_in w) ss)

pub stated_weighs : (w : Weights) (b : Bool) (e : Expr) → statement_in w (stated b e) ≡ w.statement + expr_in w e
unfolding statement_in expr_in
stated_weighs w true e = ap (statement_in w) (sym (statement.rolls-Return e)) ∙ fold-roll-Statement ℕ ℕ ℕ ℕ ℕ ℕ ℕ (primary_weight w) (statement_weight w) (block_weight w) (layer_weight w) (expr_weight w) (message_weight w) operand_weight (Statement-F.Return e)
stated_weighs w false e = ap (statement_in w) (sym (statement.rolls-Value e)) ∙ fold-roll-Statement ℕ ℕ ℕ ℕ ℕ ℕ ℕ (primary_weight w) (statement_weight w) (block_weight w) (layer_weight w) (expr_weight w) (message_weight w) operand_weight (Statement-F.Value e)

pub variable_weighs : (w : Weights) (n : Name) → primary_in w (variable n) ≡ w.variable + w.text n.text
unfolding primary_in
variable_weighs w n = ap (primary_in w) (sym (primary.rolls-Variable n)) ∙ fold-roll-Primary ℕ ℕ ℕ ℕ ℕ ℕ ℕ (primary_weight w) (statement_weight w) (block_weight w) (layer_weight w) (expr_weight w) (message_weight w) operand_weight (Primary-F.Variable n)

pub self_weighs : (w : Weights) → primary_in w primary.SelfValue ≡ w.reserved
unfolding primary_in
self_weighs w = ap (primary_in w) (sym primary.rolls-SelfValue) ∙ fold-roll-Primary ℕ ℕ ℕ ℕ ℕ ℕ ℕ (primary_weight w) (statement_weight w) (block_weight w) (layer_weight w) (expr_weight w) (message_weight w) operand_weight Primary-F.SelfValue

pub super_weighs : (w : Weights) → primary_in w primary.SuperValue ≡ w.reserved
unfolding primary_in
super_weighs w = ap (primary_in w) (sym primary.rolls-SuperValue) ∙ fold-roll-Primary ℕ ℕ ℕ ℕ ℕ ℕ ℕ (primary_weight w) (statement_weight w) (block_weight w) (layer_weight w) (expr_weight w) (message_weight w) operand_weight Primary-F.SuperValue

pub constant_weighs : (w : Weights) (l : Literal) → primary_in w (constant l) ≡ w.literal l
unfolding primary_in
constant_weighs w l = ap (primary_in w) (sym (primary.rolls-Literal l)) ∙ fold-roll-Primary ℕ ℕ ℕ ℕ ℕ ℕ ℕ (primary_weight w) (statement_weight w) (block_weight w) (layer_weight w) (expr_weight w) (message_weight w) operand_weight (Primary-F.Literal l)

pub paren_weighs : (w : Weights) (e : Expr) → primary_in w (paren e) ≡ expr_in w e
unfolding primary_in expr_in paren
paren_weighs w e = ap (primary_in w) (sym (primary.rolls-Paren e)) ∙ fold-roll-Primary ℕ ℕ ℕ ℕ ℕ ℕ ℕ (primary_weight w) (statement_weight w) (block_weight w) (layer_weight w) (expr_weight w) (message_weight w) operand_weight (Primary-F.Paren e)

layer_weighs : (w : Weights) (at : ℕ) (ns : List Name) (b : Body) → block_in w (roll-Block (record { at = at; parameters = ns; body = b })) ≡ w.block + names_weight w ns + body_weight w b
unfolding block_in body_weight
layer_weighs w at ns b = fold-roll-Block ℕ ℕ ℕ ℕ ℕ ℕ ℕ (primary_weight w) (statement_weight w) (block_weight w) (layer_weight w) (expr_weight w) (message_weight w) operand_weight (record { at = at; parameters = ns; body = b })

inner_block : (w : Weights) (b : Block) → primary_in w (primary.Block b) ≡ block_in w b
unfolding primary_in block_in
inner_block w b = ap (primary_in w) (sym (primary.rolls-Block b)) ∙ fold-roll-Primary ℕ ℕ ℕ ℕ ℕ ℕ ℕ (primary_weight w) (statement_weight w) (block_weight w) (layer_weight w) (expr_weight w) (message_weight w) operand_weight (Primary-F.Block b)

pub block_weighs : (w : Weights) (at : ℕ) (ns ts : List Name) (ss : List Statement) → primary_in w (block at ns ts ss) ≡ w.block + names_weight w ns + (names_weight w ts + sum_by (statement_in w) ss)
unfolding block
block_weighs w at ns ts ss = inner_block w _ ∙ layer_weighs w at ns (body ts ss) ∙ ap (λ (n : ℕ). w.block + names_weight w ns + n) (body_weighs w ts ss)

-- ---- literals

pub array_size : (ls : List Literal) → literal_size (array ls) ≡ sum_by literal_size ls + 1
unfolding literal_size array
array_size ls = ap literal_size (sym (literal.rolls-Array ls)) ∙ fold-roll-Literal ℕ literal_layer (Literal-F.Array ls) ∙ ap (λ (n : ℕ). n + 1) (sum-map literal_size ls)

pub symbol_size : (t : List ℕ) → literal_size (literal.Symbol t) ≡ text_size t
unfolding literal_size
symbol_size t = ap literal_size (sym (literal.rolls-Symbol t)) ∙ fold-roll-Literal ℕ literal_layer (Literal-F.Symbol t)

pub str_size : (t : List ℕ) → literal_size (literal.Str t) ≡ text_size t
unfolding literal_size
str_size t = ap literal_size (sym (literal.rolls-Str t)) ∙ fold-roll-Literal ℕ literal_layer (Literal-F.Str t)

pub integer_size : (n : ℤ) → literal_size (literal.Integer n) ≡ 1
unfolding literal_size
integer_size n = ap literal_size (sym (literal.rolls-Integer n)) ∙ fold-roll-Literal ℕ literal_layer (Literal-F.Integer n)

pub character_size : (b : ℕ) → literal_size (literal.Character b) ≡ 1
unfolding literal_size
character_size b = ap literal_size (sym (literal.rolls-Character b)) ∙ fold-roll-Literal ℕ literal_layer (Literal-F.Character b)

pub nil_size : literal_size literal.Nil ≡ 1
unfolding literal_size
nil_size = ap literal_size (sym literal.rolls-Nil) ∙ fold-roll-Literal ℕ literal_layer Literal-F.Nil

pub true_size : literal_size literal.True ≡ 1
unfolding literal_size
true_size = ap literal_size (sym literal.rolls-True) ∙ fold-roll-Literal ℕ literal_layer Literal-F.True

pub false_size : literal_size literal.False ≡ 1
unfolding literal_size
false_size = ap literal_size (sym literal.rolls-False) ∙ fold-roll-Literal ℕ literal_layer Literal-F.False
