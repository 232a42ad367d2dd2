-- A run that ends, and one whose output fails.
use Rattle.std.proofs.Common.{refl}
use Rattle.st_run.proofs.TraceLemmas.{traced, trace_stopped}
use Rattle.st_run.proofs.tracing.trace_machine.Goals as goal

pub returns-in-Ok : goal.returns-in-Ok
returns-in-Ok g c = λ units same. traced c.args.command units _ same _ _ _ c.in-Ok.ending _ c.in-Ok.ensures.traces c.report_ending.ensures.told c.report_ending.ensures.part

pub returns : goal.returns
returns g c = λ units same. trace_stopped c.args.command units _ same _ _ _ refl c.in-Err.ensures.stops c.in-Err.ensures.cause refl
