use Rattle.std.proofs.Common.{List, map, ap, ◌∙◌}
use Rattle.std.proofs.lemmas.List.{take_all}
use Rattle.st_base.specs.BuiltIns as base
use Rattle.st_base.specs.declared.builtins.BuiltInClass.{BuiltInClass}
use Rattle.program_image.specs.Classes.{built_in_class}
use Rattle.program_image.proofs.Classes.{built_ins}
use Rattle.program_image.proofs.declarations.first_classes.Goals as goal

pub returns : goal.returns
returns c = c.loop-class.invariant
    ∙ ap (λ (rows : List BuiltInClass). map built_in_class (map base.class_row rows)) (take_all c.loop-class.class-index c.built_in_classes-class-items.result.now c.loop-class-test.false)
    ∙ ap (λ (rows : List base.ClassRow). map built_in_class rows) c.built_in_classes-class-items.ensures ∙ built_ins
