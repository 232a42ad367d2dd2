-- When two trees are the same: they differ at most in their places, which are no part of a program.
use Rattle.std.specs.Prelude.{◌≡◌, ℕ, List, map}
use Rattle.st_tree.specs.declared.tree.Name.{Name}
use Rattle.st_tree.specs.declared.tree.Primary.TheOpen.{Primary-F, Statement-F, Block-F, Body-F, Expr-F, Message-F, Operand-F}
use Rattle.st_tree.specs.declared.tree.Primary.TheFolds.{fold-Body}
use Rattle.st_tree.specs.declared.tree.Primary.{Primary, roll-Primary}
use Rattle.st_tree.specs.declared.tree.Statement.{Statement, roll-Statement}
use Rattle.st_tree.specs.declared.tree.Block.{Block, roll-Block}
use Rattle.st_tree.specs.declared.tree.Body.{Body, roll-Body}
use Rattle.st_tree.specs.declared.tree.Expr.{Expr, roll-Expr}
use Rattle.st_tree.specs.declared.tree.Message.{Message, roll-Message}
use Rattle.st_tree.specs.declared.tree.Operand.{Operand, roll-Operand}
use Rattle.st_tree.specs.declared.tree.Method.{Method}
use Rattle.st_tree.specs.declared.units.UnitKind.{UnitKind}
use Rattle.st_tree.specs.declared.units.UnitKind.TheVariants as kind
use Rattle.st_tree.specs.declared.units.Unit as unit
use Rattle.st_tree.specs.declared.units.Definition.{Definition}

-- a name at place 0
abbrev pub bare_name : Name → Name
bare_name n = record n { at = 0 }

-- one level of each, at place 0, of parts that are bare
abbrev pub bare_primary : Primary-F Primary Statement Block Body Expr Message Operand → Primary
bare_primary (Primary-F.Variable name) = roll-Primary (Primary-F.Variable (bare_name name))
bare_primary Primary-F.SelfValue = roll-Primary Primary-F.SelfValue
bare_primary Primary-F.SuperValue = roll-Primary Primary-F.SuperValue
bare_primary (Primary-F.Literal literal) = roll-Primary (Primary-F.Literal literal)
bare_primary (Primary-F.Block b) = roll-Primary (Primary-F.Block b)
bare_primary (Primary-F.Paren e) = roll-Primary (Primary-F.Paren e)

abbrev pub bare_statement : Statement-F Primary Statement Block Body Expr Message Operand → Statement
bare_statement = roll-Statement

abbrev pub bare_block : Block-F Primary Statement Block Body Expr Message Operand → Block
bare_block b = roll-Block (record b { at = 0; parameters = map bare_name b.parameters })

abbrev pub bare_body : Body-F Primary Statement Block Body Expr Message Operand → Body
bare_body b = roll-Body (record b { temporaries = map bare_name b.temporaries })

abbrev pub bare_expr : Expr-F Primary Statement Block Body Expr Message Operand → Expr
bare_expr e = roll-Expr (record e { targets = map bare_name e.targets })

abbrev pub bare_message : Message-F Primary Statement Block Body Expr Message Operand → Message
bare_message m = roll-Message (record m { at = 0 })

abbrev pub bare_operand : Operand-F Primary Statement Block Body Expr Message Operand → Operand
bare_operand = roll-Operand

-- a body with every place 0, down to its innermost parts
unfoldable pub bare : Body → Body
bare = fold-Body Primary Statement Block Body Expr Message Operand bare_primary bare_statement bare_block bare_body bare_expr bare_message bare_operand

abbrev pub bare_method : Method → Method
bare_method m = record m { parameters = map bare_name m.parameters; body = bare m.body }

-- the kinds that hold a body or a method; the others have no places
abbrev pub bare_kind : UnitKind → UnitKind
bare_kind (kind.Initializer target body) = kind.Initializer target (bare body)
bare_kind (kind.PoolInitializer pool name body) = kind.PoolInitializer pool name (bare body)
bare_kind (kind.ProgramInitializer body) = kind.ProgramInitializer (bare body)
bare_kind (kind.Method class method) = kind.Method class (bare_method method)
bare_kind (kind.ClassMethod class method) = kind.ClassMethod class (bare_method method)
bare_kind k = k

abbrev pub bare_unit : unit.Unit → unit.Unit
bare_unit u = record u { kind = bare_kind u.kind }

abbrev pub bare_definition : Definition → Definition
bare_definition d = record { units = map bare_unit d.units }

-- the two bodies are the same
unfoldable pub SameBody : Body → Body → Type 0
SameBody a b = bare a ≡ bare b

-- the two methods are the same
unfoldable pub SameMethod : Method → Method → Type 0
SameMethod a b = bare_method a ≡ bare_method b

-- the two programs are the same
unfoldable pub SameDefinition : Definition → Definition → Type 0
SameDefinition a b = bare_definition a ≡ bare_definition b

-- what is equal is the same, and to be the same is an equivalence
pub record IsSameness {A : Type 0} (Same : A → A → Type 0) : Type 0 where
  pub of_equal : (a b : A) → a ≡ b → Same a b
  pub reflexive : (a : A) → Same a a
  pub symmetric : (a b : A) → Same a b → Same b a
  pub transitive : (a b c : A) → Same a b → Same b c → Same a c
