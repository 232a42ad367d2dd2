use Rattle.std.proofs.Common.{◌≡◌, drop}
use Rattle.st_code.specs.Written.{named_units}
use Rattle.program_image.specs.Spelled.{spelled, units_texts, names_in}
use Rattle.program_image.proofs.spelled.names_of.Given as goal

abbrev pub invariant-loop-unit : goal.invariant-loop-unit
invariant-loop-unit l = spelled l.names (units_texts (named_units (drop l.unit-index l.units))) ≡ names_in (named_units l.units)
