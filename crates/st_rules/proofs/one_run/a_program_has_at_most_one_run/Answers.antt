-- Why a program has at most one run: the laws of Larger.antt.
use Rattle.st_rules.proofs.one_run.a_program_has_at_most_one_run.Goals as goal
use Rattle.st_rules.proofs.Larger.{larger_keeps, one_ending, one_state}

pub returns-clause-larger : goal.returns-clause-larger
returns-clause-larger c = larger_keeps

pub returns-clause-ending : goal.returns-clause-ending
returns-clause-ending c = one_ending

pub returns-clause-state : goal.returns-clause-state
returns-clause-state c = one_state
