use Rattle.st_code.specs.Lookup.{level}
use Rattle.program_image.specs.Images.{on_side}
use Rattle.st_sprint.proofs.AtOnce.{finds_if}
use Rattle.st_sprint.proofs.sends.found_for.Goals as goal

pub returns-clause-found : goal.returns-clause-found
returns-clause-found g c = rw c.found_from.ensures.same (finds_if c.found_from.result (level (on_side c.level_for-from.result.side) c.level_for-from.result.class) c.args.selector c.args.receiver c.args.machine.now c.level_for-from.ensures c.found_from.ensures.found)
