-- Each command but `audit` reads a program.
use Rattle.st_run.proofs.CallLemmas.{reads_program}
use Rattle.st_run.proofs.top.obey.Goals as goal

pub obey_on_program-requires-clause-program : goal.obey_on_program-requires-clause-program
obey_on_program-requires-clause-program g c = reads_program c.args.command.task c.in_default.not-Audit
