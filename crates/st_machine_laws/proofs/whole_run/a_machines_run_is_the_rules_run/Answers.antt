-- Why a machine's run is the rules' run: the laws of WholeRun.antt, by the law of a step.
use Rattle.st_machine.proofs.Follows.{follows}
use Rattle.st_machine_laws.proofs.StepLaw.{step_law}
use Rattle.st_machine_laws.proofs.WholeRun.{is_run, so_far}
use Rattle.st_machine_laws.proofs.whole_run.a_machines_run_is_the_rules_run.Goals as goal

pub returns-clause-run : goal.returns-clause-run
returns-clause-run c = λ plan memory o. is_run plan memory o (step_law plan follows)

pub returns-clause-written : goal.returns-clause-written
returns-clause-written c = λ plan memory o. so_far plan memory o (step_law plan follows)
