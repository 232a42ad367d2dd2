-- Why a program has a run: the laws of SomeRun.antt.
use Rattle.st_rules.proofs.some_run.a_program_has_a_run.Goals as goal
use Rattle.st_rules.proofs.SomeRun.{rules_end, followed_by_the_rules, machine_ends}

pub returns-clause-rules : goal.returns-clause-rules
returns-clause-rules c = rules_end

pub returns-clause-followed : goal.returns-clause-followed
returns-clause-followed c = followed_by_the_rules

pub returns-clause-machine : goal.returns-clause-machine
returns-clause-machine c = machine_ends
