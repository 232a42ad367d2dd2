use Rattle.std.proofs.Common.{◌≡◌, take, map}
use Rattle.st_base.specs.BuiltIns.{class_row}
use Rattle.program_image.specs.Classes.{seen_class, built_in_class}
use Rattle.program_image.proofs.declarations.first_classes.Given as goal

abbrev pub invariant-loop-class : goal.invariant-loop-class
invariant-loop-class l = map seen_class l.classes ≡ map built_in_class (map class_row (take l.class-index l.class-items))
