use Rattle.std.proofs.Common.{◌∙◌, ap}
use Rattle.st_checks.specs.Walks.{noted}
use Rattle.st_checks.proofs.Walking.{target, targets-all, so_far-none, so_far-more, so_far-all}
use Rattle.st_checks.proofs.bodies.Walk.assign_all.Goals as goal

pub loop-name-init : goal.loop-name-init
loop-name-init c = so_far-none target c.args.self.now

pub loop-name-preserved : goal.loop-name-preserved
loop-name-preserved c = so_far-more target c.args.self.now c.loop-name.self c.assign.new.self c.args.names.now c.loop-name.name-index c.name-item.result c.loop-name-test.true c.name-item.is c.loop-name.invariant c.assign.ensures

pub returns : goal.returns
returns c = so_far-all target c.args.self.now c.loop-name.self c.args.names.now c.loop-name.name-index c.loop-name-test.false c.loop-name.invariant ∙ ap (noted c.args.self.now) (targets-all c.args.names.now c.args.self.now.scopes)
