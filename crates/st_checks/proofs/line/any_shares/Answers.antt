use Rattle.std.proofs.Common.{◌≡◌, ◌∙◌, ◌||◌, Bool, true, Bor, List, ap, sym, arith}
use Rattle.st_tree.specs.declared.units.ClassUnit.{ClassUnit}
use Rattle.st_checks.specs.Declarations.{Text, share}
use Rattle.st_checks.specs.Lists.{shares}
use Rattle.st_checks.proofs.Places.{list_any_mapped}
use Rattle.st_checks.proofs.NameLists.{or-right}
use Rattle.st_checks.proofs.line.any_shares.Goals as goal

pub returns-then-share : goal.returns-then-share
returns-then-share c =
    let here : share c.class-item.result.now.instance_names c.args.instance_names.now ≡ true = ap (λ (names : List Text). share names c.args.instance_names.now) (sym c.as_slice.ensures) ∙ sym c.share.ensures ∙ c.if-share.true in
    list_any_mapped (λ (k : Bor ClassUnit). k.now) (shares c.args.instance_names.now c.args.class_instance_names.now) c.args.line.now c.loop-class.class-index c.class-item.result c.class-item.result (omega arith) c.class-item.is
    (ap (λ (b : Bool). b || share c.class-item.result.now.class_instance_names c.args.class_instance_names.now) here)

pub returns-then-share-2 : goal.returns-then-share-2
returns-then-share-2 c =
    let here : share c.class-item.result.now.class_instance_names c.args.class_instance_names.now ≡ true = ap (λ (names : List Text). share names c.args.class_instance_names.now) (sym c.as_slice-in-loop-class.ensures) ∙ sym c.share-in-loop-class.ensures ∙ c.if-share-2.true in
    list_any_mapped (λ (k : Bor ClassUnit). k.now) (shares c.args.instance_names.now c.args.class_instance_names.now) c.args.line.now c.loop-class.class-index c.class-item.result c.class-item.result (omega arith) c.class-item.is
    (ap (λ (b : Bool). share c.class-item.result.now.instance_names c.args.instance_names.now || b) here ∙ or-right (share c.class-item.result.now.instance_names c.args.instance_names.now))
