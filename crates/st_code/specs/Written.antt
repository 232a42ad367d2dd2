-- The program that the units of a file write: their trees without the places of the text. Comments, versions, annotations and pools without variables are no part of it. Source: ANSI 3.4 and 4.1.
use Rattle.std.specs.Prelude.{Bool, true, false, List, [], ◌∷◌, map, Option, Some, None}
use Rattle.st_tree.specs.declared.tree.Name.{Name}
use Rattle.st_tree.specs.declared.tree.Literal.{Literal}
use Rattle.st_tree.specs.declared.tree.Literal.TheOpen.{Literal-F}
use Rattle.st_tree.specs.declared.tree.Literal.TheFolds.{fold-Literal}
use Rattle.st_tree.specs.declared.tree.Primary.{Primary}
use Rattle.st_tree.specs.declared.tree.Primary.TheOpen.{Primary-F, Statement-F, Block-F, Body-F, Expr-F, Message-F, Operand-F}
use Rattle.st_tree.specs.declared.tree.Primary.TheFolds.{fold-Primary, fold-Statement, fold-Block, fold-Body, fold-Expr, fold-Message, fold-Operand}
use Rattle.st_tree.specs.declared.tree.Statement.{Statement}
use Rattle.st_tree.specs.declared.tree.Block.{Block}
use Rattle.st_tree.specs.declared.tree.Body.{Body}
use Rattle.st_tree.specs.declared.tree.Expr.{Expr}
use Rattle.st_tree.specs.declared.tree.Message.{Message}
use Rattle.st_tree.specs.declared.tree.Operand.{Operand}
use Rattle.st_tree.specs.declared.tree.Method.{Method}
use Rattle.st_tree.specs.declared.units.Indexed.{Indexed}
use Rattle.st_tree.specs.declared.units.Indexed.TheVariants as indexed
use Rattle.st_tree.specs.declared.units.ClassUnit as class_unit
use Rattle.st_tree.specs.declared.units.UnitKind.{UnitKind}
use Rattle.st_tree.specs.declared.units.UnitKind.TheVariants as kind
use Rattle.st_tree.specs.declared.units.Unit.{Unit}
use Rattle.st_code.specs.Texts.{Text}
use Rattle.st_code.specs.Program.{Indexed as IndexedBy, NoIndexes, ByObject, ByByte}
use Rattle.st_code.specs.Named.{Literal as NamedLiteral, NilLiteral, TrueLiteral, FalseLiteral, IntegerLiteral, CharacterLiteral, StringLiteral, SymbolLiteral, ArrayLiteral, Literals, no_literals, more_literals, NamedPrimary, NameOf, SelfName, SuperName, LiteralOf, BlockOf, ParenOf, NamedOperand, OperandOf, NamedOperands, no_operands, more_operands, NamedMessages, none_sent, then_sent, NamedExpr, ExprOf, NamedStatements, no_statements, more_statements, NamedBody, NamedMethod, NamedClass, NamedUnit, ClassUnit, GlobalUnit, PoolVariableUnit, InitializerUnit, PoolInitializerUnit, ProgramUnit, MethodUnit, ClassMethodUnit}

abbrev pub name_text : Name → Text
name_text n = n.text

-- ---- literals

abbrev pub literal_row : List NamedLiteral → Literals
literal_row [] = no_literals
literal_row (l ∷ ls) = more_literals l (literal_row ls)

abbrev pub literal_step : Literal-F NamedLiteral → NamedLiteral
literal_step Literal-F.Nil = NilLiteral
literal_step Literal-F.True = TrueLiteral
literal_step Literal-F.False = FalseLiteral
literal_step (Literal-F.Integer value) = IntegerLiteral value
literal_step (Literal-F.Character byte) = CharacterLiteral byte
literal_step (Literal-F.Str text) = StringLiteral text
literal_step (Literal-F.Symbol text) = SymbolLiteral text
literal_step (Literal-F.Array items) = ArrayLiteral (literal_row items)

unfoldable pub named_literal : Literal → NamedLiteral
named_literal = fold-Literal NamedLiteral literal_step

-- ---- expressions: one level of each, whose parts are named

pub record NamedMessage : Type 0 where
  pub selector : Text
  pub arguments : NamedOperands

pub record NamedStatement : Type 0 where
  pub returns : Bool
  pub expr : NamedExpr

pub record NamedBlock : Type 0 where
  pub parameters : List Text
  pub body : NamedBody

abbrev pub message_row : List NamedMessage → NamedMessages
message_row [] = none_sent
message_row (m ∷ ms) = then_sent m.selector m.arguments (message_row ms)

abbrev pub operand_row : List NamedOperand → NamedOperands
operand_row [] = no_operands
operand_row (o ∷ os) = more_operands o (operand_row os)

abbrev pub statement_row : List NamedStatement → NamedStatements
statement_row [] = no_statements
statement_row (s ∷ ss) = more_statements s.returns s.expr (statement_row ss)

abbrev pub primary_step : Primary-F NamedPrimary NamedStatement NamedBlock NamedBody NamedExpr NamedMessage NamedOperand → NamedPrimary
primary_step (Primary-F.Variable name) = NameOf name.text
primary_step Primary-F.SelfValue = SelfName
primary_step Primary-F.SuperValue = SuperName
primary_step (Primary-F.Literal literal) = LiteralOf (named_literal literal)
primary_step (Primary-F.Block b) = BlockOf b.parameters b.body.temporaries b.body.statements
primary_step (Primary-F.Paren e) = ParenOf e

abbrev pub statement_step : Statement-F NamedPrimary NamedStatement NamedBlock NamedBody NamedExpr NamedMessage NamedOperand → NamedStatement
statement_step (Statement-F.Value e) = record { returns = false; expr = e }
statement_step (Statement-F.Return e) = record { returns = true; expr = e }

abbrev pub block_step : Block-F NamedPrimary NamedStatement NamedBlock NamedBody NamedExpr NamedMessage NamedOperand → NamedBlock
block_step b = record { parameters = map name_text b.parameters; body = b.body }

abbrev pub body_step : Body-F NamedPrimary NamedStatement NamedBlock NamedBody NamedExpr NamedMessage NamedOperand → NamedBody
body_step b = record { temporaries = map name_text b.temporaries; statements = statement_row b.statements }

abbrev pub expr_step : Expr-F NamedPrimary NamedStatement NamedBlock NamedBody NamedExpr NamedMessage NamedOperand → NamedExpr
expr_step e = ExprOf (map name_text e.targets) e.operand (message_row e.cascade)

abbrev pub message_step : Message-F NamedPrimary NamedStatement NamedBlock NamedBody NamedExpr NamedMessage NamedOperand → NamedMessage
message_step m = record { selector = m.selector; arguments = operand_row m.arguments }

abbrev pub operand_step : Operand-F NamedPrimary NamedStatement NamedBlock NamedBody NamedExpr NamedMessage NamedOperand → NamedOperand
operand_step o = OperandOf o.primary (message_row o.chain)

unfoldable pub named_primary : Primary → NamedPrimary
named_primary = fold-Primary NamedPrimary NamedStatement NamedBlock NamedBody NamedExpr NamedMessage NamedOperand primary_step statement_step block_step body_step expr_step message_step operand_step

unfoldable pub named_statement : Statement → NamedStatement
named_statement = fold-Statement NamedPrimary NamedStatement NamedBlock NamedBody NamedExpr NamedMessage NamedOperand primary_step statement_step block_step body_step expr_step message_step operand_step

unfoldable pub named_block : Block → NamedBlock
named_block = fold-Block NamedPrimary NamedStatement NamedBlock NamedBody NamedExpr NamedMessage NamedOperand primary_step statement_step block_step body_step expr_step message_step operand_step

unfoldable pub named_body : Body → NamedBody
named_body = fold-Body NamedPrimary NamedStatement NamedBlock NamedBody NamedExpr NamedMessage NamedOperand primary_step statement_step block_step body_step expr_step message_step operand_step

unfoldable pub named_expr : Expr → NamedExpr
named_expr = fold-Expr NamedPrimary NamedStatement NamedBlock NamedBody NamedExpr NamedMessage NamedOperand primary_step statement_step block_step body_step expr_step message_step operand_step

unfoldable pub named_message : Message → NamedMessage
named_message = fold-Message NamedPrimary NamedStatement NamedBlock NamedBody NamedExpr NamedMessage NamedOperand primary_step statement_step block_step body_step expr_step message_step operand_step

unfoldable pub named_operand : Operand → NamedOperand
named_operand = fold-Operand NamedPrimary NamedStatement NamedBlock NamedBody NamedExpr NamedMessage NamedOperand primary_step statement_step block_step body_step expr_step message_step operand_step

-- ---- rows of parts

abbrev pub named_messages : List Message → NamedMessages
named_messages ms = message_row (map named_message ms)

abbrev pub named_operands : List Operand → NamedOperands
named_operands os = operand_row (map named_operand os)

abbrev pub named_statements : List Statement → NamedStatements
named_statements ss = statement_row (map named_statement ss)

-- ---- methods and units

abbrev pub named_method : Method → NamedMethod
named_method m = record { selector = m.selector; parameters = map name_text m.parameters; body = named_body m.body }

abbrev pub indexed_by : Indexed → IndexedBy
indexed_by indexed.None = NoIndexes
indexed_by indexed.Object = ByObject
indexed_by indexed.Byte = ByByte

abbrev pub named_class : class_unit.ClassUnit → NamedClass
named_class c =
    record {
      name = c.name;
      superclass = c.superclass;
      indexed = indexed_by c.indexed;
      instance_names = c.instance_names;
      class_names = c.class_names;
      pools = c.pools;
      class_instance_names = c.class_instance_names;
    }

-- what a unit says of a run
abbrev pub named_kind : UnitKind → Option NamedUnit
named_kind (kind.Version text) = None
named_kind (kind.Class c) = Some (ClassUnit (named_class c))
named_kind (kind.GlobalVariable name) = Some (GlobalUnit name)
named_kind (kind.GlobalConstant name) = Some (GlobalUnit name)
named_kind (kind.Pool name) = None
named_kind (kind.PoolVariable pool name) = Some (PoolVariableUnit pool name)
named_kind (kind.PoolConstant pool name) = Some (PoolVariableUnit pool name)
named_kind (kind.Initializer target body) = Some (InitializerUnit target (named_body body))
named_kind (kind.PoolInitializer pool name body) = Some (PoolInitializerUnit pool name (named_body body))
named_kind (kind.ProgramInitializer body) = Some (ProgramUnit (named_body body))
named_kind (kind.Method class method) = Some (MethodUnit class (named_method method))
named_kind (kind.ClassMethod class method) = Some (ClassMethodUnit class (named_method method))
named_kind (kind.Comment texts) = None

abbrev pub named_unit : Unit → Option NamedUnit
named_unit u = named_kind u.kind

abbrev pub with_named : Option NamedUnit → List NamedUnit → List NamedUnit
with_named None units = units
with_named (Some u) units = u ∷ units

-- what the units of a file say of a run, in their order
unfoldable pub named_units : List Unit → List NamedUnit
named_units [] = []
named_units (u ∷ units) = with_named (named_unit u) (named_units units)
