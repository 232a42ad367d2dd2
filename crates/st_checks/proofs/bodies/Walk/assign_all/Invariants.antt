use Rattle.std.proofs.Common.{◌≡◌, map, take}
use Rattle.st_checks.specs.Bodies.{all_within}
use Rattle.st_checks.specs.Walks.{noted}
use Rattle.st_checks.proofs.Walking.{target}
use Rattle.st_checks.proofs.bodies.Walk.assign_all.Given as goal

abbrev pub invariant-loop-name : goal.invariant-loop-name
invariant-loop-name l = l.self ≡ noted l.initial.self (all_within (map target (take l.name-index l.names)) l.initial.self.scopes)
