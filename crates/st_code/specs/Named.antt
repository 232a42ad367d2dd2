-- Programs as they are written: trees with names, without the places of the text. This form is the profile's own.
use Rattle.std.specs.Prelude.{ℕ, ℤ, Bool, List}
use Rattle.st_code.specs.Texts.{Text}
use Rattle.st_code.specs.Program.{Indexed}

mutual
  pub data Literal : Type 0 where
    NilLiteral TrueLiteral FalseLiteral : Literal
    IntegerLiteral : ℤ → Literal
    CharacterLiteral : (byte : ℕ) → Literal
    StringLiteral SymbolLiteral : Text → Literal
    ArrayLiteral : Literals → Literal

  pub data Literals : Type 0 where
    no_literals : Literals
    more_literals : Literal → Literals → Literals

mutual
  -- what stands at the head of an expression
  pub data NamedPrimary : Type 0 where
    NameOf : Text → NamedPrimary
    SelfName SuperName : NamedPrimary
    LiteralOf : Literal → NamedPrimary
    BlockOf : (parameters temporaries : List Text) → NamedStatements → NamedPrimary
    ParenOf : NamedExpr → NamedPrimary

  -- a primary and the messages that are sent to it one behind the other
  pub data NamedOperand : Type 0 where
    OperandOf : NamedPrimary → NamedMessages → NamedOperand

  pub data NamedOperands : Type 0 where
    no_operands : NamedOperands
    more_operands : NamedOperand → NamedOperands → NamedOperands

  pub data NamedMessages : Type 0 where
    none_sent : NamedMessages
    then_sent : (selector : Text) → NamedOperands → NamedMessages → NamedMessages

  -- assignments, an operand, and the further messages of a cascade
  pub data NamedExpr : Type 0 where
    ExprOf : (targets : List Text) → NamedOperand → (cascade : NamedMessages) → NamedExpr

  pub data NamedStatements : Type 0 where
    no_statements : NamedStatements
    more_statements : (returns : Bool) → NamedExpr → NamedStatements → NamedStatements

-- the temporaries and statements of a method or initializer
pub record NamedBody : Type 0 where
  pub temporaries : List Text
  pub statements : NamedStatements

pub record NamedMethod : Type 0 where
  pub selector : Text
  pub parameters : List Text
  pub body : NamedBody

pub record NamedClass : Type 0 where
  pub name : Text
  pub superclass : Text
  pub indexed : Indexed
  pub instance_names : List Text
  pub class_names : List Text
  pub pools : List Text
  pub class_instance_names : List Text

-- the units that say something of a run: classes, globals, variables of pools, initializers and methods
pub data NamedUnit : Type 0 where
  ClassUnit : NamedClass → NamedUnit
  GlobalUnit : (name : Text) → NamedUnit
  PoolVariableUnit : (pool name : Text) → NamedUnit
  InitializerUnit : (target : Text) → NamedBody → NamedUnit
  PoolInitializerUnit : (pool name : Text) → NamedBody → NamedUnit
  ProgramUnit : NamedBody → NamedUnit
  MethodUnit ClassMethodUnit : (class : Text) → NamedMethod → NamedUnit
