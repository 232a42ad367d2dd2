use Rattle.st_compiler.proofs.Loading.{Underway}
use Rattle.st_compiler.proofs.units.definitions_of.Given as goal

abbrev pub invariant-loop-unit : goal.invariant-loop-unit
invariant-loop-unit l = Underway l.lookups l.definitions.defining l.definitions.unit_codes l.unit-index l.unit-items
