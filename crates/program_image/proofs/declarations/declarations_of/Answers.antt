use Rattle.std.proofs.Common.{List, [], map, ap, sym, ◌∙◌}
use Rattle.std.proofs.lemmas.List.{drop_all}
use Rattle.st_tree.specs.declared.units.Unit.{Unit}
use Rattle.st_code.specs.Written.{named_units}
use Rattle.st_code.specs.Resolved.{Names}
use Rattle.st_code.specs.Definitions.{declared_units, names_of, built_in_names}
use Rattle.st_code.specs.BuiltIns.{built_in_class_rows}
use Rattle.program_image.specs.Images.{image_names}
use Rattle.program_image.proofs.Declared.{units-declared}
use Rattle.program_image.proofs.declarations.declarations_of.Goals as goal

pub loop-unit-init : goal.loop-unit-init
unfolding image_names names_of
loop-unit-init c = ap (λ (x : Names). declared_units x (named_units c.args.units.now))
    (c.in_ok-declarations.ensures ∙ ap (λ names. record { names = names; classes = map built_in_names built_in_class_rows; shared = [] }) c.in_ok-names_of.ensures)

pub loop-unit-preserved : goal.loop-unit-preserved
loop-unit-preserved c = units-declared c.loop-unit.declarations c.declare.new.self (image_names c.args.units.now) c.args.units.now c.loop-unit.unit-index c.unit-item.result c.unit-item.is c.loop-unit-test.true c.loop-unit.invariant c.in_ok-declare.ensures

pub returns : goal.returns
unfolding named_units
returns c = sym (ap (λ (us : List Unit). declared_units c.loop-unit.declarations (named_units us)) (drop_all c.loop-unit.unit-index c.args.units.now c.loop-unit-test.false)) ∙ c.loop-unit.invariant
