-- The literals that a program writes, in the order of its text. Source: ANSI 3.4.6.
use Rattle.std.specs.Prelude.{List, [], ◌∷◌, ◌++◌, map, Option, Some, None}
use Rattle.std.specs.Borrow.{Bor}
use Rattle.st_tree.specs.declared.tree.Literal.{Literal as Tree}
use Rattle.st_code.specs.Named.{Literal, NamedPrimary, NameOf, SelfName, SuperName, LiteralOf, BlockOf, ParenOf, NamedOperand, OperandOf, NamedOperands, no_operands, more_operands, NamedMessages, none_sent, then_sent, NamedExpr, ExprOf, NamedStatements, no_statements, more_statements, NamedUnit, ClassUnit, GlobalUnit, PoolVariableUnit, InitializerUnit, PoolInitializerUnit, ProgramUnit, MethodUnit, ClassMethodUnit}
use Rattle.st_code.specs.Written.{NamedMessage, named_literal}

abbrev mutual
  pub primary_literals : NamedPrimary → List Literal
  primary_literals (NameOf t) = []
  primary_literals SelfName = []
  primary_literals SuperName = []
  primary_literals (LiteralOf l) = l ∷ []
  primary_literals (BlockOf parameters temporaries row) = statements_literals row
  primary_literals (ParenOf e) = expr_literals e

  pub operand_literals : NamedOperand → List Literal
  operand_literals (OperandOf primary chain) = primary_literals primary ++ messages_literals chain

  pub operands_literals : NamedOperands → List Literal
  operands_literals no_operands = []
  operands_literals (more_operands o row) = operand_literals o ++ operands_literals row

  pub messages_literals : NamedMessages → List Literal
  messages_literals none_sent = []
  messages_literals (then_sent selector args row) = operands_literals args ++ messages_literals row

  pub expr_literals : NamedExpr → List Literal
  expr_literals (ExprOf targets o cascade) = operand_literals o ++ messages_literals cascade

  pub statements_literals : NamedStatements → List Literal
  statements_literals no_statements = []
  statements_literals (more_statements returns e row) = expr_literals e ++ statements_literals row

abbrev pub message_literals : NamedMessage → List Literal
message_literals m = operands_literals m.arguments

abbrev pub unit_literals : NamedUnit → List Literal
unit_literals (ClassUnit c) = []
unit_literals (GlobalUnit name) = []
unit_literals (PoolVariableUnit pool name) = []
unit_literals (InitializerUnit target b) = statements_literals b.statements
unit_literals (PoolInitializerUnit pool name b) = statements_literals b.statements
unit_literals (ProgramUnit b) = statements_literals b.statements
unit_literals (MethodUnit class m) = statements_literals m.body.statements
unit_literals (ClassMethodUnit class m) = statements_literals m.body.statements

abbrev pub kind_literals : Option NamedUnit → List Literal
kind_literals None = []
kind_literals (Some u) = unit_literals u

abbrev pub units_literals : List NamedUnit → List Literal
units_literals [] = []
units_literals (u ∷ units) = unit_literals u ++ units_literals units

-- literals of a tree, each behind a reference
abbrev pub seen_literal : Bor Tree → Literal
seen_literal r = named_literal r.now

abbrev pub seen_literals : List (Bor Tree) → List Literal
seen_literals rs = map seen_literal rs
