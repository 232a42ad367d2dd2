use Rattle.std.proofs.Common.{◌≡◌, ◌∙◌, ap, sym, slice_get, List}
use Rattle.st_tree.specs.declared.units.Unit.{Unit as FileUnit}
use Rattle.st_checks.specs.Keys.{first_unit, has_key, text_key}
use Rattle.st_checks.proofs.Places.{placed, find-placed}
use Rattle.st_checks.proofs.table.Table.unit.Goals as goal

pub returns-in-Some : goal.returns-in-Some
unfolding first_unit
returns-in-Some c =
    let same : c.self.inside.units.now ≡ c.args.self.now = cc in
    c.at.ensures ∙ ap (λ (units : List FileUnit). slice_get units c.in-Some.place) same ∙ ap (placed c.args.self.now) (sym c.in-Some.is ∙ c.first.ensures) ∙ sym (find-placed (has_key (text_key c.args.key)) c.args.self.now)

pub returns-in-None : goal.returns-in-None
unfolding first_unit
returns-in-None c = ap (placed c.args.self.now) (sym c.in-None.is ∙ c.first.ensures) ∙ sym (find-placed (has_key (text_key c.args.key)) c.args.self.now)
