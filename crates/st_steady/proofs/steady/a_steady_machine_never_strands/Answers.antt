-- Why a steady machine never strands: the laws of Laws.antt.
use Rattle.st_steady.proofs.Laws.{never_strands_so, ends_so}
use Rattle.st_steady.proofs.steady.a_steady_machine_never_strands.Goals as goal

pub returns-clause-never : goal.returns-clause-never
returns-clause-never c = never_strands_so

pub returns-clause-ends : goal.returns-clause-ends
returns-clause-ends c = ends_so
