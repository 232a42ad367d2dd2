use Rattle.std.proofs.Common.{◌≡◌, take, false, map}
use Rattle.std.specs.List.{list_any}
use Rattle.st_checks.specs.Lists.{shares}
use Rattle.st_checks.proofs.line.any_shares.Given as goal

abbrev pub invariant-loop-class : goal.invariant-loop-class
invariant-loop-class l = list_any (shares l.instance_names l.class_instance_names) (map (λ c. c.now) (take l.class-index l.line)) ≡ false
