use Rattle.st_checks.proofs.FirstBreaks.{first_break_init}
use Rattle.st_checks.proofs.answer.first_fault.Goals as goal

pub loop-n-init : goal.loop-n-init
loop-n-init c = first_break_init c.args.definition.now.units
