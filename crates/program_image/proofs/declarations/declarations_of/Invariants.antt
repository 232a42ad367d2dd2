use Rattle.std.proofs.Common.{◌≡◌, drop}
use Rattle.st_code.specs.Written.{named_units}
use Rattle.st_code.specs.Definitions.{declared_units}
use Rattle.program_image.specs.Images.{image_names}
use Rattle.program_image.proofs.declarations.declarations_of.Given as goal

abbrev pub invariant-loop-unit : goal.invariant-loop-unit
invariant-loop-unit l = declared_units l.declarations (named_units (drop l.unit-index l.units)) ≡ image_names l.units
