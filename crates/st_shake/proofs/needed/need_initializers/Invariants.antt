use Rattle.std.proofs.Common.{◌≡◌, drop}
use Rattle.st_code.specs.Written.{named_units}
use Rattle.program_image.specs.Spelled.{spelled}
use Rattle.st_shake.specs.Needed.{texts_of}
use Rattle.st_shake.proofs.needed.need_initializers.Given as goal

abbrev pub invariant-loop-unit : goal.invariant-loop-unit
invariant-loop-unit l = spelled l.names (texts_of (named_units (drop l.unit-index l.units))) ≡ spelled l.fn.names (texts_of (named_units l.units))
