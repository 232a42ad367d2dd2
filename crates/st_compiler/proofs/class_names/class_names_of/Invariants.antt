use Rattle.std.proofs.Common.{◌≡◌, take}
use Rattle.st_compiler.proofs.class_names.class_names_of.Given as goal

abbrev pub invariant-loop-class : goal.invariant-loop-class
invariant-loop-class l = l.all ≡ take l.class-index l.classes
