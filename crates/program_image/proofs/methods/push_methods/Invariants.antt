use Rattle.std.proofs.Common.{◌≡◌, ◌++◌, drop, map}
use Rattle.program_image.specs.Images.{method_entry, methods_from}
use Rattle.program_image.proofs.methods.push_methods.Given as goal

abbrev pub invariant-loop-unit : goal.invariant-loop-unit
invariant-loop-unit l = l.entries.items ++ map method_entry (methods_from l.declarations l.place (drop l.unit-index l.units)) ≡ l.fn.entries.items ++ map method_entry (methods_from l.declarations 0 l.units)
