use Rattle.std.proofs.Common.{List, map, refl, ap, ◌∙◌}
use Rattle.st_base.specs.BuiltIns.{messages}
use Rattle.st_tree.specs.declared.units.Unit.{Unit}
use Rattle.st_code.specs.Texts.{Text}
use Rattle.st_code.specs.Written.{named_unit, named_units}
use Rattle.program_image.specs.Spelled.{spelled, names_in, selector_of, kind_texts, units_texts}
use Rattle.program_image.proofs.Spelling.{spelled-next, spelled-end, unit-texts}
use Rattle.program_image.proofs.spelled.names_of.Goals as goal

pub loop-unit-init : goal.loop-unit-init
unfolding names_in
loop-unit-init c = ap (λ (names : List Text). spelled names (units_texts (named_units c.args.units.now)))
    (c.in_ok-spell_built_ins.ensures ∙ ap (λ (names : List Text). spelled names (map selector_of messages)) c.new-names.ensures)

pub loop-unit-preserved : goal.loop-unit-preserved
loop-unit-preserved c =
    spelled-next (λ (us : List Unit). units_texts (named_units us)) (λ (u : Unit). kind_texts (named_unit u)) (λ u us. unit-texts u us) c.loop-unit.names c.spell_unit.new.names (names_in (named_units c.args.units.now)) c.args.units.now c.loop-unit.unit-index c.unit-item.result c.unit-item.is c.loop-unit-test.true c.loop-unit.invariant c.in_ok-spell_unit.ensures

pub returns : goal.returns
unfolding named_units
returns c =
    spelled-end (λ (us : List Unit). units_texts (named_units us)) refl c.loop-unit.names (names_in (named_units c.args.units.now)) c.args.units.now c.loop-unit.unit-index c.loop-unit-test.false c.loop-unit.invariant
