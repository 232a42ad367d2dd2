use Rattle.std.proofs.Common.{[]}
use Rattle.st_checks.proofs.Variables.{empty-seen, seen-gains, repeated-both}
use Rattle.st_checks.specs.declared.scopes.Variable.TheVariants as variables
use Rattle.st_checks.proofs.Repeats.{seen_after}
use Rattle.st_checks.proofs.scopes.Declared.new.Goals as goal

pub returns-clause-repeated : goal.returns-clause-repeated
returns-clause-repeated c =
    let none = empty-seen c.new-variables.result c.new-variables.ensures.empty in
    repeated-both c.args.repeated.now c.declare.new.repeated c.args.parameters.now c.args.temporaries.now c.declare-2.new.repeated
    (c.in_ok-declare.ensures.repeated [] none)
    (c.in_ok-declare-2.ensures.repeated (seen_after [] c.args.parameters.now) (seen-gains c.new-variables.result c.declare.new.variables [] c.args.parameters.now variables.Parameter none c.in_ok-declare.ensures.declared))
