-- Units whose messages have as many arguments as their selectors take, as a text that is parsed has them: `at: 1 put: 2` has two, `+ 1` has one, `size` has none (ANSI 3.4.5); and a cascade stands behind a message.
use Rattle.std.specs.Prelude.{◌≡◌, ℕ, suc, List, [], ◌∷◌}
use Rattle.st_code.specs.Definitions.{RunLimits, program_of}
use Rattle.st_code.specs.Named.{NamedPrimary, NameOf, SelfName, SuperName, LiteralOf, BlockOf, ParenOf, NamedOperand, OperandOf, NamedOperands, no_operands, more_operands, NamedMessages, none_sent, then_sent, NamedExpr, ExprOf, NamedStatements, no_statements, more_statements, NamedUnit, InitializerUnit, PoolInitializerUnit, ProgramUnit, MethodUnit, ClassMethodUnit}
use Rattle.st_code.specs.Texts.{Text, arity}
use Rattle.st_sends.specs.Arguments.{KnowsSelectors}

abbrev pub operand_count : NamedOperands → ℕ
operand_count no_operands = 0
operand_count (more_operands o row) = suc (operand_count row)

-- the messages of a cascade stand behind one
abbrev pub StandsBehind : NamedMessages → NamedMessages → Type 0
StandsBehind none_sent none_sent = Unit {0}
StandsBehind none_sent (then_sent selector args row) = ⊥
StandsBehind (then_sent selector args row) cascade = Unit {0}

abbrev mutual
  pub PrimaryFits : NamedPrimary → Type 0
  PrimaryFits (NameOf t) = Unit {0}
  PrimaryFits SelfName = Unit {0}
  PrimaryFits SuperName = Unit {0}
  PrimaryFits (LiteralOf l) = Unit {0}
  PrimaryFits (BlockOf parameters temporaries row) = StatementsFit row
  PrimaryFits (ParenOf e) = ExprFits e

  pub OperandFits : NamedOperand → Type 0
  OperandFits (OperandOf primary chain) = PrimaryFits primary × MessagesFit chain

  pub OperandsFit : NamedOperands → Type 0
  OperandsFit no_operands = Unit {0}
  OperandsFit (more_operands o row) = OperandFits o × OperandsFit row

  pub MessagesFit : NamedMessages → Type 0
  MessagesFit none_sent = Unit {0}
  MessagesFit (then_sent selector args row) = (operand_count args ≡ arity selector) × OperandsFit args × MessagesFit row

  pub ExprFits : NamedExpr → Type 0
  ExprFits (ExprOf targets (OperandOf primary chain) cascade) = PrimaryFits primary × MessagesFit chain × MessagesFit cascade × StandsBehind chain cascade

  pub StatementsFit : NamedStatements → Type 0
  StatementsFit no_statements = Unit {0}
  StatementsFit (more_statements returns e row) = ExprFits e × StatementsFit row

abbrev pub UnitFits : NamedUnit → Type 0
UnitFits (InitializerUnit target b) = StatementsFit b.statements
UnitFits (PoolInitializerUnit pool name b) = StatementsFit b.statements
UnitFits (ProgramUnit b) = StatementsFit b.statements
UnitFits (MethodUnit class m) = StatementsFit m.body.statements
UnitFits (ClassMethodUnit class m) = StatementsFit m.body.statements
UnitFits u = Unit {0}

abbrev pub UnitsFit : List NamedUnit → Type 0
UnitsFit [] = Unit {0}
UnitsFit (u ∷ units) = UnitFits u × UnitsFit units

-- the program that such units are sends so
abbrev pub ProgramsKnowSelectors : Type 0
ProgramsKnowSelectors = (names : List Text) (units : List NamedUnit) (limits : RunLimits) → UnitsFit units → KnowsSelectors (program_of names units limits)
