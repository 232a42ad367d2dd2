-- What the static rules give: in units that meet them each name that is assigned to stands for a variable, and each class extends one that may be extended. So their program knows its variables.
use Rattle.std.specs.Prelude.{List}
use Rattle.st_tree.specs.declared.units.Unit.{Unit}
use Rattle.st_code.specs.Texts.{Text}
use Rattle.st_code.specs.Written.{named_units}
use Rattle.st_code.specs.Definitions.{RunLimits, program_of}
use Rattle.st_checks.specs.StaticRules.{MeetsRules}
use Rattle.st_variables.specs.Known.{KnowsVariables}
use Rattle.st_rules.specs.NothingMissing.{Always}
use Rattle.st_variables.specs.Assigned.{Assigned}
use Rattle.st_variables.specs.VariablesStand.{VariableHas, SlotsHave}

abbrev pub CheckedUnitsAssign : Type 0
CheckedUnitsAssign = (names : List Text) (units : List Unit) → MeetsRules units → Assigned names (named_units units)

abbrev pub CheckedProgramsKnowVariables : Type 0
CheckedProgramsKnowVariables = (names : List Text) (units : List Unit) (limits : RunLimits) → MeetsRules units → KnowsVariables (program_of names (named_units units) limits)

-- and in its run, under all limits, each variable that an instruction names stands, and each object has the slots that its class names
abbrev pub CheckedVariablesStand : Type 0
CheckedVariablesStand = (names : List Text) (units : List Unit) (limits : RunLimits) → MeetsRules units → Always (program_of names (named_units units) limits) (VariableHas (program_of names (named_units units) limits))

abbrev pub CheckedObjectsAreFull : Type 0
CheckedObjectsAreFull = (names : List Text) (units : List Unit) (limits : RunLimits) → MeetsRules units → Always (program_of names (named_units units) limits) (SlotsHave (program_of names (named_units units) limits))
