-- Why a run is never stuck: the laws of Aims.antt and NeverStuck.antt.
use Rattle.st_rules.proofs.never_stuck.a_run_is_never_stuck.Goals as goal
use Rattle.st_rules.proofs.NeverStuck.{rules_never_stuck, machine_never_stuck}

pub returns-clause-rules : goal.returns-clause-rules
returns-clause-rules c = rules_never_stuck

pub returns-clause-machine : goal.returns-clause-machine
returns-clause-machine c = machine_never_stuck
