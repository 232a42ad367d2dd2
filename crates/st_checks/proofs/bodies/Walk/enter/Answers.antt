use Rattle.st_checks.specs.Bodies.{Scope}
use Rattle.st_checks.proofs.Walking.{entered-scope}
use Rattle.st_checks.proofs.bodies.Walk.enter.Goals as goal

pub returns : goal.returns
returns c =
    let s : Scope = record { parameters = c.args.parameters.now; temporaries = c.args.temporaries.now } in
    entered-scope c.args.self.now s c.enter.new.self c.enter.new.repeated c.in_ok-enter.ensures.scopes c.in_ok-enter.ensures.repeated
