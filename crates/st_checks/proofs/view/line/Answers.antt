use Rattle.std.proofs.Common.{◌≡◌, ◌∙◌, ◌-◌, ◌++◌, [], Bor, List, Option, map, length, ap, sym, arith}
use Rattle.std.specs.Option.{option_copied}
use Rattle.std.proofs.lemmas.List.{map_push}
use Rattle.st_tree.specs.declared.units.ClassUnit.{ClassUnit}
use Rattle.st_tree.specs.declared.units.Unit.{Unit as FileUnit}
use Rattle.st_checks.specs.Declarations.{class_named, from_class, ancestors}
use Rattle.st_checks.proofs.Ancestors.{ancestors_init, ancestors_none, ancestors_all, ancestors_more}
use Rattle.st_checks.proofs.view.line.Goals as goal

pub loop-step-init : goal.loop-step-init
loop-step-init c =
    let none : map (λ (k : Bor ClassUnit). k.now) c.new-line.result.items ≡ [] = ap (map (λ (k : Bor ClassUnit). k.now)) c.new-line.ensures.items in
    rw none (ancestors_init c.args.table.now c.args.name.now (length c.units-step-end.result.now) (option_copied c.class_names-above.result) (ap (λ (units : List FileUnit). length units) c.units-step-end.ensures) c.class_names-above.ensures)

pub returns-in_default : goal.returns-in_default
returns-in_default c =
    ancestors_none c.args.table.now (map (λ (k : Bor ClassUnit). k.now) c.loop-step.line.items) (ancestors c.args.table.now c.args.name.now) (length c.units-step-end.result.now - c.loop-step._step)
    (ap (λ (o : Option (Bor ClassUnit)). map (λ (k : Bor ClassUnit). k.now) c.loop-step.line.items ++ from_class (length c.units-step-end.result.now - c.loop-step._step) c.args.table.now (option_copied o)) (sym c.in_default.is) ∙ c.loop-step.invariant)

pub loop-step-preserved : goal.loop-step-preserved
loop-step-preserved c =
    ancestors_more c.args.table.now (map (λ (k : Bor ClassUnit). k.now) c.loop-step.line.items) (map (λ (k : Bor ClassUnit). k.now) c.push.new.self.items) (ancestors c.args.table.now c.args.name.now) (length c.units-step-end.result.now) c.loop-step._step c.in-Some.class.now (option_copied c.class_names-above-in-loop-step.result)
    (omega arith)
    (ap (map (λ (k : Bor ClassUnit). k.now)) c.in_ok-push.ensures.items ∙ map_push (λ (k : Bor ClassUnit). k.now) c.loop-step.line.items c.in-Some.class)
    (c.class_names-above-in-loop-step.ensures ∙ ap (class_named c.args.table.now) c.superclass.ensures)
    (ap (λ (o : Option (Bor ClassUnit)). map (λ (k : Bor ClassUnit). k.now) c.loop-step.line.items ++ from_class (length c.units-step-end.result.now - c.loop-step._step) c.args.table.now (option_copied o)) (sym c.in-Some.is) ∙ c.loop-step.invariant)

pub returns : goal.returns
returns c =
    ancestors_all c.args.table.now (map (λ (k : Bor ClassUnit). k.now) c.loop-step.line.items) (ancestors c.args.table.now c.args.name.now) (length c.units-step-end.result.now) c.loop-step._step (option_copied c.loop-step.above) (omega arith) c.loop-step.invariant
