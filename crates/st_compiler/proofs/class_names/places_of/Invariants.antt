use Rattle.std.proofs.Common.{take}
use Rattle.st_compiler.specs.Bytes.{HasPlaces}
use Rattle.st_compiler.proofs.class_names.places_of.Given as goal

abbrev pub invariant-loop-index : goal.invariant-loop-index
invariant-loop-index l = HasPlaces (take l.index l.texts) l.places
