-- What a check of a program answers.
use Rattle.std.specs.Prelude.{◌≡◌, List, Some}
use Rattle.st_tree.specs.Numbers.{element_of}
use Rattle.st_tree.specs.declared.units.Definition.{Definition}
use Rattle.st_tree.specs.declared.units.Unit.{Unit as FileUnit}
use Rattle.st_checks.specs.StaticRules.{Break, broken, break_of, first_break, MeetsRules}
use Rattle.st_checks.specs.Faults.{fault_of}
use Rattle.st_checks.specs.declared.answer.CheckAnswer.{CheckAnswer}
use Rattle.st_checks.specs.declared.answer.CheckAnswer.TheVariants as answers
use Rattle.st_checks.specs.declared.answer.UnitFault.{UnitFault}

-- the fault of a unit, with its place in the file
abbrev pub located : List FileUnit → UnitFault → Break
located units f = break_of (element_of units f.unit) (fault_of f.broken)

-- The program that was handed in where it meets the rules, else its first break; or memory was wanted.
abbrev pub Answers : Definition → CheckAnswer → Type 0
Answers definition (answers.Checked c) = (c ≡ definition) × MeetsRules definition.units
Answers definition (answers.Refused place reason) = first_break definition.units ≡ Some (broken place reason)
Answers definition answers.OutOfMemory = Unit {0}
