-- The selectors and symbols of a program, each numbered by the place of its first spelling: first those of the built-in messages, then those of the units in the order of the text.
use Rattle.std.specs.Prelude.{List, [], ◌∷◌, ◌++◌, map, Option, Some, None}
use Rattle.std.specs.Str.{bytes_eq}
use Rattle.indexmap.specs.IndexSet.{insert_key}
use Rattle.st_base.specs.BuiltIns.{MessageRow, messages}
use Rattle.st_code.specs.Texts.{Text}
use Rattle.st_code.specs.Named.{Literal, NilLiteral, TrueLiteral, FalseLiteral, IntegerLiteral, CharacterLiteral, StringLiteral, SymbolLiteral, ArrayLiteral, Literals, no_literals, more_literals, NamedPrimary, NameOf, SelfName, SuperName, LiteralOf, BlockOf, ParenOf, NamedOperand, OperandOf, NamedOperands, no_operands, more_operands, NamedMessages, none_sent, then_sent, NamedExpr, ExprOf, NamedStatements, no_statements, more_statements, NamedMethod, NamedUnit, ClassUnit, GlobalUnit, PoolVariableUnit, InitializerUnit, PoolInitializerUnit, ProgramUnit, MethodUnit, ClassMethodUnit}
use Rattle.st_code.specs.Written.{NamedMessage}

abbrev mutual
  pub literal_texts : Literal → List Text
  literal_texts NilLiteral = []
  literal_texts TrueLiteral = []
  literal_texts FalseLiteral = []
  literal_texts (IntegerLiteral n) = []
  literal_texts (CharacterLiteral byte) = []
  literal_texts (StringLiteral t) = []
  literal_texts (SymbolLiteral t) = t ∷ []
  literal_texts (ArrayLiteral row) = literals_texts row

  pub literals_texts : Literals → List Text
  literals_texts no_literals = []
  literals_texts (more_literals l row) = literal_texts l ++ literals_texts row

abbrev mutual
  pub primary_texts : NamedPrimary → List Text
  primary_texts (NameOf t) = []
  primary_texts SelfName = []
  primary_texts SuperName = []
  primary_texts (LiteralOf l) = literal_texts l
  primary_texts (BlockOf parameters temporaries row) = statements_texts row
  primary_texts (ParenOf e) = expr_texts e

  pub operand_texts : NamedOperand → List Text
  operand_texts (OperandOf primary chain) = primary_texts primary ++ messages_texts chain

  pub operands_texts : NamedOperands → List Text
  operands_texts no_operands = []
  operands_texts (more_operands o row) = operand_texts o ++ operands_texts row

  pub messages_texts : NamedMessages → List Text
  messages_texts none_sent = []
  messages_texts (then_sent selector args row) = (selector ∷ operands_texts args) ++ messages_texts row

  pub expr_texts : NamedExpr → List Text
  expr_texts (ExprOf targets o cascade) = operand_texts o ++ messages_texts cascade

  pub statements_texts : NamedStatements → List Text
  statements_texts no_statements = []
  statements_texts (more_statements returns e row) = expr_texts e ++ statements_texts row

abbrev pub message_texts : NamedMessage → List Text
message_texts m = m.selector ∷ operands_texts m.arguments

abbrev pub method_texts : NamedMethod → List Text
method_texts m = m.selector ∷ statements_texts m.body.statements

abbrev pub unit_texts : NamedUnit → List Text
unit_texts (ClassUnit c) = []
unit_texts (GlobalUnit name) = []
unit_texts (PoolVariableUnit pool name) = []
unit_texts (InitializerUnit target b) = statements_texts b.statements
unit_texts (PoolInitializerUnit pool name b) = statements_texts b.statements
unit_texts (ProgramUnit b) = statements_texts b.statements
unit_texts (MethodUnit class m) = method_texts m
unit_texts (ClassMethodUnit class m) = method_texts m

abbrev pub kind_texts : Option NamedUnit → List Text
kind_texts None = []
kind_texts (Some u) = unit_texts u

abbrev pub units_texts : List NamedUnit → List Text
units_texts [] = []
units_texts (u ∷ units) = unit_texts u ++ units_texts units

-- the texts behind those that are there, each where it isn't there yet
abbrev pub spelled : List Text → List Text → List Text
spelled names [] = names
spelled names (t ∷ texts) = spelled (insert_key bytes_eq names t) texts

abbrev pub selector_of : MessageRow → Text
selector_of m = m.selector

-- the selectors and symbols of a program, by number
unfoldable pub names_in : List NamedUnit → List Text
names_in units = spelled (spelled [] (map selector_of messages)) (units_texts units)
