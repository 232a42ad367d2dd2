-- The line was written, or the output failed.
use Rattle.std.proofs.Common.{refl}
use Rattle.st_run.proofs.RunLemmas.{summed, summed_part}
use Rattle.st_run.proofs.generating.write_summary.Goals as goal

pub returns-in-Ok : goal.returns-in-Ok
returns-in-Ok g c = λ units bytes transcript ended same. summed c.args.command units bytes transcript c.args.ending c.args.machine.now ended c.args.line.now same _ _ _ c.in-Ok.ensures.all c.report_ending.ensures.told c.report_ending.ensures.part

pub returns-in-Err : goal.returns-in-Err
returns-in-Err g c = λ units bytes transcript ended same. summed_part c.args.command units bytes transcript c.args.ending c.args.machine.now ended c.args.line.now same _ _ _ refl c.in-Err.ensures.cause.failed c.in-Err.ensures.part refl
