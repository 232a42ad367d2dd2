-- Why what is written stays written: the laws of Writing.antt and SoFar.antt.
use Rattle.st_rules.proofs.so_far.what_is_written_stays_written.Goals as goal
use Rattle.st_rules.proofs.SoFar.{scoped_so_far, flat_so_far}

pub returns-clause-scoped : goal.returns-clause-scoped
returns-clause-scoped c = scoped_so_far

pub returns-clause-flat : goal.returns-clause-flat
returns-clause-flat c = flat_so_far
