use Rattle.std.proofs.Common.{◌≡◌, List, Some, None, ap, sym, ◌∙◌}
use Rattle.st_tree.specs.declared.units.Unit.{Unit}
use Rattle.st_code.specs.Program.{class_at}
use Rattle.program_image.specs.Images.{image_program}
use Rattle.st_machine.proofs.Known.{super-above, super-alone}
use Rattle.st_machine.proofs.loaded.Loaded.found_above.Goals as goal

pub returns-in-Some : goal.returns-in-Some
returns-in-Some c =
    let is : (class_at (image_program c.args.self.now.units) c.args.class).superclass ≡ Some c.in-Some.above =
    sym (ap (λ (us : List Unit). (class_at (image_program us) c.args.class).superclass) c.image.ensures) ∙ sym c.superclass.ensures.value ∙ c.in-Some.is in
    c.found.ensures ∙ sym (super-above c.args.self.now c.args.class c.args.selector c.in-Some.above is)

pub returns-in-None : goal.returns-in-None
returns-in-None c =
    let is : (class_at (image_program c.args.self.now.units) c.args.class).superclass ≡ None =
    sym (ap (λ (us : List Unit). (class_at (image_program us) c.args.class).superclass) c.image.ensures) ∙ sym c.superclass.ensures.value ∙ c.in-None.is in
    sym (super-alone c.args.self.now c.args.class c.args.selector is)
