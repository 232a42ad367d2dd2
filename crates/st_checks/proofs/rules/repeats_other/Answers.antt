use Rattle.std.proofs.Common.{◌≡◌, ◌∙◌, sym, ap, Some, None, Bor, map, false}
use Rattle.st_tree.specs.declared.units.ClassUnit.{ClassUnit}
use Rattle.st_checks.specs.Declarations.{repeats}
use Rattle.st_checks.specs.Lists.{distinct}
use Rattle.st_checks.proofs.NameLists.{distinct-some, distinct-none}
use Rattle.st_checks.proofs.ClassLists.{other-all, other-none}
use Rattle.st_checks.proofs.rules.repeats_other.Goals as goal

pub returns-in-Some : goal.returns-in-Some
returns-in-Some c =
    let classes : repeats c.args.class.now.class_names ≡ false = ap repeats (sym c.as_slice.ensures) ∙ sym c.in_ok-classes.ensures ∙ c.if-classes.false in
    let pools : repeats c.args.class.now.pools ≡ false = ap repeats (sym c.as_slice-2.ensures) ∙ sym c.in_ok-pools.ensures ∙ c.if-pools.false in
    let set : Some c.in-Some.names ≡ distinct c.args.class.now.class_instance_names = sym c.in-Some.is ∙ c.in_ok-class_instance_names.ensures ∙ ap distinct c.as_slice-3.ensures in
    other-all (map (λ (k : Bor ClassUnit). k.now) c.args.line.now) c.args.instance_names.now c.in-Some.names c.args.class.now c.any_shares.result classes pools (distinct-some c.args.class.now.class_instance_names c.in-Some.names set) c.any_shares.ensures

pub returns-in-None : goal.returns-in-None
returns-in-None c =
    let classes : repeats c.args.class.now.class_names ≡ false = ap repeats (sym c.as_slice.ensures) ∙ sym c.in_ok-classes.ensures ∙ c.if-classes.false in
    let pools : repeats c.args.class.now.pools ≡ false = ap repeats (sym c.as_slice-2.ensures) ∙ sym c.in_ok-pools.ensures ∙ c.if-pools.false in
    let none : None ≡ distinct c.args.class.now.class_instance_names = sym c.in-None.is ∙ c.in_ok-class_instance_names.ensures ∙ ap distinct c.as_slice-3.ensures in
    other-none (map (λ (k : Bor ClassUnit). k.now) c.args.line.now) c.args.instance_names.now c.args.class.now classes pools (distinct-none c.args.class.now.class_instance_names none)
