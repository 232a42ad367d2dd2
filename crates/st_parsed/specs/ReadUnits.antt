-- Units that texts are: what their messages have.
use Rattle.std.specs.Prelude.{List}
use Rattle.st_tree.specs.declared.units.Unit.{Unit as FileUnit}
use Rattle.st_tree.specs.Units.{IsReadable}
use Rattle.st_code.specs.Written.{named_units}
use Rattle.st_sends.specs.Fitting.{UnitsFit}

-- each message in units that are read has as many arguments as its selector takes
abbrev pub ReadUnitsFit : Type 0
ReadUnitsFit = (units : List FileUnit) → IsReadable units → UnitsFit (named_units units)
