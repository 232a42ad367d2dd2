use Rattle.std.proofs.Common.{◌≡◌, ◌∙◌, sym, ap, subst, IfOk, Some, None, Bool, Bor, map}
use Rattle.st_tree.specs.declared.units.ClassUnit.{ClassUnit}
use Rattle.st_checks.specs.Lists.{distinct, repeats_other}
use Rattle.st_checks.specs.StaticRules.{repeats_variable}
use Rattle.st_checks.proofs.NameLists.{distinct-some, distinct-none}
use Rattle.st_checks.proofs.ClassLists.{variable-all, variable-none}
use Rattle.st_checks.proofs.rules.repeats_variable.Goals as goal

pub returns-in-Some : goal.returns-in-Some
returns-in-Some c =
    let set : Some c.in-Some.names ≡ distinct c.args.class.now.instance_names = sym c.in-Some.is ∙ c.in_ok-instance_names.ensures ∙ ap distinct c.as_slice.ensures in
    let same : repeats_other (map (λ (k : Bor ClassUnit). k.now) c.args.line.now) c.in-Some.names c.args.class.now ≡ repeats_variable (map (λ (k : Bor ClassUnit). k.now) c.args.line.now) c.args.class.now
    = variable-all (map (λ (k : Bor ClassUnit). k.now) c.args.line.now) c.in-Some.names c.args.class.now (distinct-some c.args.class.now.instance_names c.in-Some.names set) in
    subst (λ (x : Bool). IfOk c.repeats_other.result (λ b. b ≡ x)) same c.repeats_other.ensures

pub returns-in-None : goal.returns-in-None
returns-in-None c =
    let none : None ≡ distinct c.args.class.now.instance_names = sym c.in-None.is ∙ c.in_ok-instance_names.ensures ∙ ap distinct c.as_slice.ensures in
    variable-none (map (λ (k : Bor ClassUnit). k.now) c.args.line.now) c.args.class.now (distinct-none c.args.class.now.instance_names none)
