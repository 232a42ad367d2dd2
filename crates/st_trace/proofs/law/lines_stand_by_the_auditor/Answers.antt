-- Why lines stand: behind any that the auditor accepts a stop at a limit may come.
use Rattle.st_trace.proofs.law.lines_stand_by_the_auditor.Goals as goal
use Rattle.st_trace.proofs.Agreement.{stands_by_auditor}

pub returns : goal.returns
returns c = stands_by_auditor
