-- Why codes grow with bodies alone: the laws of SmallPrograms.antt.
use Rattle.st_sizes.proofs.short_codes.small_programs_have_short_codes.Goals as goal
use Rattle.st_sizes.proofs.SmallPrograms.{codes_grow, small_programs}

pub returns-clause-growth : goal.returns-clause-growth
returns-clause-growth c = codes_grow

pub returns-clause-small : goal.returns-clause-small
returns-clause-small c = small_programs
