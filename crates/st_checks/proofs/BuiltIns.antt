-- Tests of the rows of the built-in tables.
use Rattle.std.proofs.Common.{ℕ, Bool, List}
use Rattle.std.specs.Str.{bytes_eq}
use Rattle.st_base.specs.BuiltIns.{class_row}
use Rattle.st_base.specs.declared.builtins.BuiltInClass.{BuiltInClass}

abbrev pub named : List ℕ → BuiltInClass → Bool
named name c = bytes_eq name (class_row c).name
