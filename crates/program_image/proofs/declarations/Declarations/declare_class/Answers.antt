use Rattle.std.proofs.Common.{◌≡◌, List, map, get_or, Some, ap, ◌∙◌}
use Rattle.st_code.specs.Texts.{Text}
use Rattle.st_code.specs.Resolved.{Names, class_in}
use Rattle.st_code.specs.Definitions.{declared_class, or_zero}
use Rattle.st_code.specs.Written.{named_class}
use Rattle.program_image.specs.declared.class.Class.{Class}
use Rattle.program_image.specs.Classes.{seen_class, seen_names}
use Rattle.program_image.proofs.Declared.{class-declared, class-numbered, on-ok, over-superclass}
use Rattle.program_image.proofs.declarations.Declarations.declare_class.Goals as goal

pub invariant_of-self-2 : goal.invariant_of-self-2
invariant_of-self-2 c =
    let above : c.in_ok-class.class.superclass ≡ Some c.superclass_place-superclass.result = over-superclass c.in_ok-class.class (named_class c.args.unit.now) c.superclass_place-superclass.result (seen_class c.index-as_slice-superclass.result) c.len.result c.in_ok-class.ensures in
    class-numbered c.push.result c.self.inside.names c.self.inside.classes c.push.new.self c.self.inside.shared c.push_class_instance_variables.new.shared c.in_ok-class.class c.superclass_place-superclass.result
    c.self.invariant c.push.ensures.ok c.push.ensures.err c.push.ensures.fits c.push_class_instance_variables.ensures.fits above c.superclass_place-superclass.ensures.there

pub returns : goal.returns
returns c =
    let place : c.superclass_place-superclass.result ≡ or_zero (class_in 0 (map seen_class c.self.inside.classes) c.args.unit.now.superclass) =
    c.superclass_place-superclass.ensures.place ∙ ap (λ (t : Text). or_zero (class_in 0 (map seen_class c.self.inside.classes) t)) c.as_bytes.ensures in
    let there : c.index-as_slice-superclass.result ≡ get_or c.self.inside.classes c.superclass_place-superclass.result c.index-as_slice-superclass.result =
    c.index-as_slice-superclass.is ∙ ap (λ (xs : List Class). get_or xs c.superclass_place-superclass.result c.index-as_slice-superclass.result) c.as_slice.ensures in
    on-ok c.push.result (λ pushed. ap (λ (cs : List Class). seen_names c.self.inside.names cs c.push_class_instance_variables.new.shared) pushed
    ∙ class-declared c.self.inside.names (named_class c.args.unit.now) c.self.inside.classes c.in_ok-class.class c.index-as_slice-superclass.result c.self.inside.shared c.push_class_variables.new.shared c.push_class_instance_variables.new.shared c.superclass_place-superclass.result c.len-number.result c.len.result
    c.in_ok-class.ensures place there c.superclass_place-superclass.ensures.there c.len-number.ensures c.len.ensures c.in_ok-push_class_variables.ensures.ok c.in_ok-push_class_instance_variables.ensures.ok
    ∙ ap (λ (x : Names). declared_class x (named_class c.args.unit.now)) c.self.view_is) c.push.ensures.ok
