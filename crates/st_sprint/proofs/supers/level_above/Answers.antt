use Rattle.std.proofs.Common.{◌≡◌, Some, sym, ◌∙◌, ap}
use Rattle.program_image.specs.Images.{image_program, on_side}
use Rattle.st_code.specs.Lookup.{level}
use Rattle.st_code.specs.Program.{class_at}
use Rattle.st_machine.specs.Seen.{Seen}
use Rattle.st_sprint.specs.declared.sends.Level.{Level}
use Rattle.st_sprint.proofs.FoundAbove.{stands_above, stands_above_class}
use Rattle.st_sprint.proofs.supers.level_above.Goals as goal

pub returns-in-Some : goal.returns-in-Some
returns-in-Some g c =
    let units : c.image.result.now ≡ c.args.machine.now.plan.units = c.image.ensures ∙ ap (λ (s : Seen). s.plan.units) c.machine.view_is in
    let above : (class_at (image_program c.args.machine.now.plan.units) c.in-Class.number).superclass ≡ Some c.in-Some.above = ap (λ us. (class_at (image_program us) c.in-Class.number).superclass) (sym units) ∙ sym c.superclass.ensures.value ∙ c.in-Some.is in
    stands_above (level (on_side c.instances_of.result.side) c.instances_of.result.class) c.in-Class.number c.in-Some.above c.args.class c.args.machine.now c.in-Class.is (ap (λ (l : Level). level (on_side l.side) l.class) c.instances_of.ensures) above

pub returns-in-Some-superclass : goal.returns-in-Some-superclass
returns-in-Some-superclass g c =
    let units : c.image-in-Meta.result.now ≡ c.args.machine.now.plan.units = c.image-in-Meta.ensures ∙ ap (λ (s : Seen). s.plan.units) c.machine.view_is in
    let above : (class_at (image_program c.args.machine.now.plan.units) c.in-Meta.number).superclass ≡ Some c.in-Some-superclass.above = ap (λ us. (class_at (image_program us) c.in-Meta.number).superclass) (sym units) ∙ sym c.superclass-in-Meta.ensures.value ∙ c.in-Some-superclass.is in
    stands_above_class c.in-Meta.number c.in-Some-superclass.above c.args.class c.args.machine.now c.in-Meta.is above
