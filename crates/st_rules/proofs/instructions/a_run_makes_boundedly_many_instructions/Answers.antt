-- Why a run makes boundedly many instructions: the laws of CodeLeft.antt and FewInstructions.antt.
use Rattle.st_rules.proofs.instructions.a_run_makes_boundedly_many_instructions.Goals as goal
use Rattle.st_rules.proofs.FewInstructions.{few_instructions, few_in_a_run}

pub returns-clause-so_far : goal.returns-clause-so_far
returns-clause-so_far c = few_instructions

pub returns-clause-whole : goal.returns-clause-whole
returns-clause-whole c = few_in_a_run
