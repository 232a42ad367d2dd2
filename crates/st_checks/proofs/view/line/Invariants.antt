use Rattle.std.proofs.Common.{◌≡◌, ◌-◌, ◌++◌, map}
use Rattle.std.specs.Option.{option_copied}
use Rattle.st_checks.specs.Declarations.{ancestors, from_class}
use Rattle.st_checks.proofs.view.line.Given as goal

abbrev pub invariant-loop-step : goal.invariant-loop-step
invariant-loop-step l = map (λ c. c.now) l.line.items ++ from_class (l._step-end - l._step) l.table (option_copied l.above) ≡ ancestors l.table l.name
