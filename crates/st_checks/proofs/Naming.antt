-- What one level of a body's trees says of names, as code opens it.
use Rattle.std.proofs.Common.{◌≡◌, true, false, List, [], ◌∷◌, map, ap, sym, ◌∙◌}
use Rattle.st_tree.specs.declared.tree.Primary.TheFolds.{fold_out-Block, fold_out-Body, fold_out-Expr, fold_out-Message, fold_out-Operand, fold-roll-Primary, fold-roll-Statement, fold-Primary, fold-Statement}
use Rattle.st_tree.specs.declared.tree.Name.{Name}
use Rattle.st_tree.specs.declared.tree.Literal.{Literal}
use Rattle.st_tree.specs.declared.tree.Primary.TheOpen.{Primary-F, Statement-F}
use Rattle.st_tree.specs.declared.tree.Primary.TheVariants as primary
use Rattle.st_tree.specs.declared.tree.Primary.TheVariants.{rolls-Block, rolls-Paren, rolls-Variable, rolls-Literal, rolls-SelfValue, rolls-SuperValue}
use Rattle.st_tree.specs.declared.tree.Primary.TheViews.{rolls-Value, rolls-Return}
use Rattle.st_tree.specs.declared.tree.Statement.TheVariants.{Value, Return}
use Rattle.st_tree.specs.declared.tree.Block.{Block, out-Block}
use Rattle.st_tree.specs.declared.tree.Body.{Body, out-Body}
use Rattle.st_tree.specs.declared.tree.Expr.{Expr, out-Expr}
use Rattle.st_tree.specs.declared.tree.Message.{Message, out-Message}
use Rattle.st_tree.specs.declared.tree.Operand.{Operand, out-Operand}
use Rattle.st_checks.specs.Bodies.{Scope, Within, OfBody, mention, nothing_named, only_mentions, both, all_within, in_own_scope, in_primary, in_statement, in_block, in_body, in_expr, in_message, in_operand, names_in_primary, names_in_statement, names_in_block, names_in_body, names_in_expr, names_in_message, names_in_operand}

pub body_out : (b : Body) (parameters : List Name) (scopes : List Scope) → names_in_body b parameters scopes ≡ in_own_scope (record { parameters = parameters; temporaries = (out-Body b).temporaries }) (map names_in_statement (out-Body b).statements) scopes
unfolding names_in_body names_in_statement
body_out b parameters scopes = ap (λ (f : OfBody). f parameters scopes) (fold_out-Body Within Within Within OfBody Within Within Within in_primary in_statement in_block in_body in_expr in_message in_operand b)

pub block_out : (b : Block) (scopes : List Scope) → names_in_block b scopes ≡ names_in_body (out-Block b).body (out-Block b).parameters scopes
unfolding names_in_body names_in_block
block_out b scopes = ap (λ (f : Within). f scopes) (fold_out-Block Within Within Within OfBody Within Within Within in_primary in_statement in_block in_body in_expr in_message in_operand b)

pub message_out : (m : Message) (scopes : List Scope) → names_in_message m scopes ≡ all_within (map names_in_operand (out-Message m).arguments) scopes
unfolding names_in_operand names_in_message
message_out m scopes = ap (λ (f : Within). f scopes) (fold_out-Message Within Within Within OfBody Within Within Within in_primary in_statement in_block in_body in_expr in_message in_operand m)

pub operand_out : (o : Operand) (scopes : List Scope) → names_in_operand o scopes ≡ both (names_in_primary (out-Operand o).primary scopes) (all_within (map names_in_message (out-Operand o).chain) scopes)
unfolding names_in_operand names_in_primary names_in_message
operand_out o scopes = ap (λ (f : Within). f scopes) (fold_out-Operand Within Within Within OfBody Within Within Within in_primary in_statement in_block in_body in_expr in_message in_operand o)

pub expr_out : (e : Expr) (scopes : List Scope) → names_in_expr e scopes ≡ both (only_mentions (map (mention true scopes) (out-Expr e).targets)) (both (names_in_operand (out-Expr e).operand scopes) (all_within (map names_in_message (out-Expr e).cascade) scopes))
unfolding names_in_operand names_in_expr names_in_message
expr_out e scopes = ap (λ (f : Within). f scopes) (fold_out-Expr Within Within Within OfBody Within Within Within in_primary in_statement in_block in_body in_expr in_message in_operand e)

pub variable_in : (name : Name) (scopes : List Scope) → names_in_primary (primary.Variable name) scopes ≡ only_mentions (mention false scopes name ∷ [])
unfolding names_in_primary
variable_in name scopes = ap (λ (f : Within). f scopes) (ap (fold-Primary Within Within Within OfBody Within Within Within in_primary in_statement in_block in_body in_expr in_message in_operand) (sym (rolls-Variable name)) ∙ fold-roll-Primary Within Within Within OfBody Within Within Within in_primary in_statement in_block in_body in_expr in_message in_operand (Primary-F.Variable name))

pub self_in : (scopes : List Scope) → names_in_primary primary.SelfValue scopes ≡ nothing_named
unfolding names_in_primary
self_in scopes = ap (λ (f : Within). f scopes) (ap (fold-Primary Within Within Within OfBody Within Within Within in_primary in_statement in_block in_body in_expr in_message in_operand) (sym rolls-SelfValue) ∙ fold-roll-Primary Within Within Within OfBody Within Within Within in_primary in_statement in_block in_body in_expr in_message in_operand Primary-F.SelfValue)

pub super_in : (scopes : List Scope) → names_in_primary primary.SuperValue scopes ≡ nothing_named
unfolding names_in_primary
super_in scopes = ap (λ (f : Within). f scopes) (ap (fold-Primary Within Within Within OfBody Within Within Within in_primary in_statement in_block in_body in_expr in_message in_operand) (sym rolls-SuperValue) ∙ fold-roll-Primary Within Within Within OfBody Within Within Within in_primary in_statement in_block in_body in_expr in_message in_operand Primary-F.SuperValue)

pub literal_in : (literal : Literal) (scopes : List Scope) → names_in_primary (primary.Literal literal) scopes ≡ nothing_named
unfolding names_in_primary
literal_in literal scopes = ap (λ (f : Within). f scopes) (ap (fold-Primary Within Within Within OfBody Within Within Within in_primary in_statement in_block in_body in_expr in_message in_operand) (sym (rolls-Literal literal)) ∙ fold-roll-Primary Within Within Within OfBody Within Within Within in_primary in_statement in_block in_body in_expr in_message in_operand (Primary-F.Literal literal))

pub block_in : (b : Block) (scopes : List Scope) → names_in_primary (primary.Block b) scopes ≡ names_in_block b scopes
unfolding names_in_primary names_in_block
block_in b scopes = ap (λ (f : Within). f scopes) (ap (fold-Primary Within Within Within OfBody Within Within Within in_primary in_statement in_block in_body in_expr in_message in_operand) (sym (rolls-Block b)) ∙ fold-roll-Primary Within Within Within OfBody Within Within Within in_primary in_statement in_block in_body in_expr in_message in_operand (Primary-F.Block b))

pub paren_in : (e : Expr) (scopes : List Scope) → names_in_primary (primary.Paren e) scopes ≡ names_in_expr e scopes
unfolding names_in_primary names_in_expr
paren_in e scopes = ap (λ (f : Within). f scopes) (ap (fold-Primary Within Within Within OfBody Within Within Within in_primary in_statement in_block in_body in_expr in_message in_operand) (sym (rolls-Paren e)) ∙ fold-roll-Primary Within Within Within OfBody Within Within Within in_primary in_statement in_block in_body in_expr in_message in_operand (Primary-F.Paren e))

pub value_in : (e : Expr) (scopes : List Scope) → names_in_statement (Value e) scopes ≡ names_in_expr e scopes
unfolding names_in_statement names_in_expr
value_in e scopes = ap (λ (f : Within). f scopes) (ap (fold-Statement Within Within Within OfBody Within Within Within in_primary in_statement in_block in_body in_expr in_message in_operand) (sym (rolls-Value e)) ∙ fold-roll-Statement Within Within Within OfBody Within Within Within in_primary in_statement in_block in_body in_expr in_message in_operand (Statement-F.Value e))

pub return_in : (e : Expr) (scopes : List Scope) → names_in_statement (Return e) scopes ≡ names_in_expr e scopes
unfolding names_in_statement names_in_expr
return_in e scopes = ap (λ (f : Within). f scopes) (ap (fold-Statement Within Within Within OfBody Within Within Within in_primary in_statement in_block in_body in_expr in_message in_operand) (sym (rolls-Return e)) ∙ fold-roll-Statement Within Within Within OfBody Within Within Within in_primary in_statement in_block in_body in_expr in_message in_operand (Statement-F.Return e))

pub ruleset opened = (body_out, block_out, message_out, operand_out, expr_out, variable_in, self_in, super_in, literal_in, block_in, paren_in, value_in, return_in)
