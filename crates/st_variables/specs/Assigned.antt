-- What the static rules say of the units of a file, as far as variables stand on it: each name that is assigned to stands for a variable, and no class lies over a built-in one other than Object, an exception class or what describes classes (ANSI 3.3, 3.4).
use Rattle.std.specs.Prelude.{◌≡◌, ℕ, List, [], ◌∷◌, ◌++◌, map, Option, Some, None, true}
use Rattle.st_code.specs.Texts.{Text}
use Rattle.st_code.specs.Program.{Side, OfInstance, OfClass}
use Rattle.st_code.specs.Named.{NamedPrimary, NameOf, SelfName, SuperName, LiteralOf, BlockOf, ParenOf, NamedOperand, OperandOf, NamedOperands, no_operands, more_operands, NamedMessages, none_sent, then_sent, NamedExpr, ExprOf, NamedStatements, no_statements, more_statements, NamedBody, NamedUnit, ClassUnit, InitializerUnit, PoolInitializerUnit, ProgramUnit, MethodUnit, ClassMethodUnit}
use Rattle.st_code.specs.Resolved.{Names, Meant, At, Value', meant, class_in}
use Rattle.st_code.specs.Definitions.{RunLimits, built_in_names, names_of, or_zero, program_of}
use Rattle.st_code.specs.BuiltIns.{undefined_object_class, built_in_class_rows}
use Rattle.st_variables.specs.Known.{is_open, KnowsVariables}

abbrev pub IsPlace : Meant → Type 0
IsPlace (At place) = Unit {0}
IsPlace (Value' v) = ⊥

-- in bodies of this class and side, from the innermost scope on
module _ (x : Names) (class : ℕ) (side : Side) where
  abbrev pub AllPlaces : List (List Text) → List Text → Type 0
  AllPlaces scopes [] = Unit {0}
  AllPlaces scopes (t ∷ ts) = IsPlace (meant x class side scopes t) × AllPlaces scopes ts

  abbrev mutual
    pub PrimaryAssigns : List (List Text) → NamedPrimary → Type 0
    PrimaryAssigns scopes (NameOf t) = Unit {0}
    PrimaryAssigns scopes SelfName = Unit {0}
    PrimaryAssigns scopes SuperName = Unit {0}
    PrimaryAssigns scopes (LiteralOf l) = Unit {0}
    PrimaryAssigns scopes (BlockOf parameters temporaries row) = StatementsAssign ((parameters ++ temporaries) ∷ scopes) row
    PrimaryAssigns scopes (ParenOf e) = ExprAssigns scopes e

    pub OperandAssigns : List (List Text) → NamedOperand → Type 0
    OperandAssigns scopes (OperandOf primary chain) = PrimaryAssigns scopes primary × MessagesAssign scopes chain

    pub OperandsAssign : List (List Text) → NamedOperands → Type 0
    OperandsAssign scopes no_operands = Unit {0}
    OperandsAssign scopes (more_operands o row) = OperandAssigns scopes o × OperandsAssign scopes row

    pub MessagesAssign : List (List Text) → NamedMessages → Type 0
    MessagesAssign scopes none_sent = Unit {0}
    MessagesAssign scopes (then_sent selector args row) = OperandsAssign scopes args × MessagesAssign scopes row

    pub ExprAssigns : List (List Text) → NamedExpr → Type 0
    ExprAssigns scopes (ExprOf targets o cascade) = AllPlaces scopes targets × OperandAssigns scopes o × MessagesAssign scopes cascade

    pub StatementsAssign : List (List Text) → NamedStatements → Type 0
    StatementsAssign scopes no_statements = Unit {0}
    StatementsAssign scopes (more_statements returns e row) = ExprAssigns scopes e × StatementsAssign scopes row

  abbrev pub BodyAssigns : (parameters : List Text) → NamedBody → Type 0
  BodyAssigns parameters b = StatementsAssign ((parameters ++ b.temporaries) ∷ []) b.statements

abbrev pub InitializerAssigns : Names → Option ℕ → NamedBody → Type 0
InitializerAssigns x (Some class) b = BodyAssigns x class OfClass [] b
InitializerAssigns x None b = BodyAssigns x undefined_object_class OfInstance [] b

-- in the bodies of a unit
abbrev pub UnitAssigns : Names → NamedUnit → Type 0
UnitAssigns x (InitializerUnit target b) = InitializerAssigns x (class_in 0 x.classes target) b
UnitAssigns x (PoolInitializerUnit pool name b) = BodyAssigns x undefined_object_class OfInstance [] b
UnitAssigns x (ProgramUnit b) = BodyAssigns x undefined_object_class OfInstance [] b
UnitAssigns x (MethodUnit class m) = BodyAssigns x (or_zero (class_in 0 x.classes class)) OfInstance m.parameters m.body
UnitAssigns x (ClassMethodUnit class m) = BodyAssigns x (or_zero (class_in 0 x.classes class)) OfClass m.parameters m.body
UnitAssigns x u = Unit {0}

abbrev pub UnitsAssign : Names → List NamedUnit → Type 0
UnitsAssign x [] = Unit {0}
UnitsAssign x (u ∷ units) = UnitAssigns x u × UnitsAssign x units

-- a name that no built-in class of another kind has
abbrev pub IsExtensible : Text → Type 0
IsExtensible t = (class : ℕ) → class_in 0 (map built_in_names built_in_class_rows) t ≡ Some class → is_open class ≡ true

abbrev pub Extends : List NamedUnit → Type 0
Extends [] = Unit {0}
Extends (ClassUnit c ∷ units) = IsExtensible c.superclass × Extends units
Extends (u ∷ units) = Extends units

pub record Assigned (names : List Text) (units : List NamedUnit) : Type 0 where
  pub places : UnitsAssign (names_of names units) units
  pub superclasses : Extends units

-- the programs that such units are have what each_variable_stands asks for
abbrev pub ProgramsKnowVariables : Type 0
ProgramsKnowVariables = (names : List Text) (units : List NamedUnit) (limits : RunLimits) → Assigned names units → KnowsVariables (program_of names units limits)
