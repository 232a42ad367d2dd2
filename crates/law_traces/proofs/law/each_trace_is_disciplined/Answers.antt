-- Why each trace is disciplined: the law of runs.
use Rattle.law_traces.proofs.Disciplining.{traces_are_disciplined}
use Rattle.law_traces.proofs.law.each_trace_is_disciplined.Goals as goal

pub returns : goal.returns
returns c = traces_are_disciplined
