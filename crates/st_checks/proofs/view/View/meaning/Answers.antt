use Rattle.std.proofs.Common.{◌∙◌, Bor, List, map, ap}
use Rattle.st_tree.specs.declared.units.ClassUnit.{ClassUnit}
use Rattle.st_checks.specs.Views.{Viewpoint, meant}
use Rattle.st_checks.proofs.Outside.{outside-own, outside-shared}
use Rattle.st_checks.proofs.view.View.meaning.Goals as goal

pub returns-then-any_has_own : goal.returns-then-any_has_own
returns-then-any_has_own c =
    let view : Viewpoint = record { units = c.self.inside.table.now; class = c.self.inside.class.now; side = c.self.inside.side } in
    let line : List ClassUnit = map (λ (k : Bor ClassUnit). k.now) c.as_slice-line.result.now in
    rw (← c.self.view_is) (outside-own view line c.args.name.now c.any_has_own.result (ap (map (λ (k : Bor ClassUnit). k.now)) c.as_slice-line.ensures.value ∙ c.self.invariant) c.any_has_own.ensures c.if-any_has_own.true)

pub returns-else-any_has_own : goal.returns-else-any_has_own
returns-else-any_has_own c =
    let view : Viewpoint = record { units = c.self.inside.table.now; class = c.self.inside.class.now; side = c.self.inside.side } in
    let line : List ClassUnit = map (λ (k : Bor ClassUnit). k.now) c.as_slice-line.result.now in
    rw (← c.self.view_is) (outside-shared view line c.args.name.now c.any_has_own.result (meant c.shared.result) (ap (map (λ (k : Bor ClassUnit). k.now)) c.as_slice-line.ensures.value ∙ c.self.invariant) c.any_has_own.ensures c.if-any_has_own.false c.shared.ensures)
