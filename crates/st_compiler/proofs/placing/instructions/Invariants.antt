use Rattle.std.proofs.Common.{◌≡◌, take, map}
use Rattle.st_compiler.specs.Steps.{seen_step}
use Rattle.st_compiler.specs.Placed.{instruction_in}
use Rattle.st_compiler.proofs.placing.instructions.Given as goal

abbrev pub invariant-loop-step : goal.invariant-loop-step
invariant-loop-step l = l.all.items ≡ map (instruction_in l.bodies l.code) (map seen_step (take l.step-index l.steps))
