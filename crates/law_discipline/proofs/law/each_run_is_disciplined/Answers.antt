-- Why each run is disciplined: the auditor accepts it.
use Rattle.law_discipline.proofs.law.each_run_is_disciplined.Goals as goal
use Rattle.law_discipline.proofs.Whole.{runs_are_accepted}
use Rattle.law_discipline.proofs.Disciplining.{runs_are_disciplined}

pub returns-clause-runs : goal.returns-clause-runs
returns-clause-runs c = runs_are_disciplined

pub returns-clause-accepted : goal.returns-clause-accepted
returns-clause-accepted c = runs_are_accepted
