use Rattle.std.proofs.Common.{◌≡◌, take}
use Rattle.st_code.specs.Written.{named_units}
use Rattle.st_shake.specs.Needed.{methods_of}
use Rattle.st_shake.specs.Table.{entry_methods, IsTable}
use Rattle.st_shake.proofs.methods.Methods.new.Given as goal

abbrev pub invariant-loop-unit : goal.invariant-loop-unit
invariant-loop-unit l = record {
  table : IsTable l.entries.items l.last;
  methods : entry_methods l.entries.items ≡ methods_of (named_units (take l.unit-index l.units));
}
