-- Trees, built from their parts.
use Rattle.std.specs.Prelude.{ℕ, List, Bool, true, false, pos, ◌-ℤ◌}
use Rattle.st_tree.specs.declared.tree.Name.{Name}
use Rattle.st_tree.specs.declared.tree.Literal.{Literal}
use Rattle.st_tree.specs.declared.tree.Literal.TheVariants as literal
use Rattle.st_tree.specs.declared.tree.Primary.{Primary}
use Rattle.st_tree.specs.declared.tree.Primary.TheVariants as primary
use Rattle.st_tree.specs.declared.tree.Statement.{Statement}
use Rattle.st_tree.specs.declared.tree.Statement.TheVariants as statement
use Rattle.st_tree.specs.declared.tree.Block.{roll-Block}
use Rattle.st_tree.specs.declared.tree.Body.{Body, roll-Body}
use Rattle.st_tree.specs.declared.tree.Expr.{Expr, roll-Expr}
use Rattle.st_tree.specs.declared.tree.Message.{Message, roll-Message}
use Rattle.st_tree.specs.declared.tree.Operand.{Operand, roll-Operand}

abbrev pub name : List ℕ → ℕ → Name
name text at = record { text = text; at = at }

abbrev pub variable : Name → Primary
variable n = primary.Variable n

-- an integer without a sign, and one behind `-`
abbrev pub integer : ℕ → Literal
integer n = literal.Integer (pos n)

abbrev pub negative : ℕ → Literal
negative n = literal.Integer (pos 0 -ℤ pos n)

unfoldable pub array : List Literal → Literal
array items = literal.Array items

abbrev pub constant : Literal → Primary
constant l = primary.Literal l

unfoldable pub message : List ℕ → ℕ → List Operand → Message
message selector at arguments = roll-Message (record { selector = selector; at = at; arguments = arguments })

unfoldable pub operand : Primary → List Message → Operand
operand p chain = roll-Operand (record { primary = p; chain = chain })

unfoldable pub expr : List Name → Operand → List Message → Expr
expr targets o cascade = roll-Expr (record { targets = targets; operand = o; cascade = cascade })

unfoldable pub body : List Name → List Statement → Body
body temporaries statements = roll-Body (record { temporaries = temporaries; statements = statements })

unfoldable pub paren : Expr → Primary
paren e = primary.Paren e

unfoldable pub block : ℕ → List Name → List Name → List Statement → Primary
block at parameters temporaries statements = primary.Block (roll-Block (record { at = at; parameters = parameters; body = body temporaries statements }))

-- a statement, with or without `^`
abbrev pub stated : Bool → Expr → Statement
stated true e = statement.Return e
stated false e = statement.Value e
