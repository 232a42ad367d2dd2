-- Trees, as the code builds them.
use Rattle.std.proofs.Common.{◌≡◌, ℕ, List, refl}
use Rattle.st_tree.specs.declared.tree.Name.{Name}
use Rattle.st_tree.specs.declared.tree.Primary.{Primary}
use Rattle.st_tree.specs.declared.tree.Primary.TheVariants as primary
use Rattle.st_tree.specs.declared.tree.Statement.{Statement}
use Rattle.st_tree.specs.declared.tree.Block.{roll-Block}
use Rattle.st_tree.specs.declared.tree.Body.{roll-Body}
use Rattle.st_tree.specs.declared.tree.Expr.{Expr, roll-Expr}
use Rattle.st_tree.specs.declared.tree.Message.{Message, roll-Message}
use Rattle.st_tree.specs.declared.tree.Operand.{Operand, roll-Operand}
use Rattle.st_tree.specs.Trees.{message, operand, expr, body, paren, block}

pub message_is : (selector : List ℕ) (at : ℕ) (arguments : List Operand) → message selector at arguments ≡ roll-Message (record { selector = selector; at = at; arguments = arguments })
unfolding message
message_is selector at arguments = refl

pub operand_is : (p : Primary) (chain : List Message) → operand p chain ≡ roll-Operand (record { primary = p; chain = chain })
unfolding operand
operand_is p chain = refl

pub expr_is : (targets : List Name) (o : Operand) (cascade : List Message) → expr targets o cascade ≡ roll-Expr (record { targets = targets; operand = o; cascade = cascade })
unfolding expr
expr_is targets o cascade = refl

pub body_is : (temporaries : List Name) (statements : List Statement) → body temporaries statements ≡ roll-Body (record { temporaries = temporaries; statements = statements })
unfolding body
body_is temporaries statements = refl

pub paren_is : (e : Expr) → paren e ≡ primary.Paren e
unfolding paren
paren_is e = refl

pub block_is : (at : ℕ) (parameters temporaries : List Name) (statements : List Statement) → block at parameters temporaries statements ≡ primary.Block (roll-Block (record { at = at; parameters = parameters; body = roll-Body (record { temporaries = temporaries; statements = statements }) }))
unfolding block body
block_is at parameters temporaries statements = refl
