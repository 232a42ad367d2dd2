-- Why what is found is ready: the laws of ReadySends.antt.
use Rattle.st_readiness.proofs.sends.what_is_found_is_ready.Goals as goal
use Rattle.st_readiness.proofs.ReadySends.{found_is_ready, super_found_is_ready}

pub returns-clause-sends : goal.returns-clause-sends
returns-clause-sends c = found_is_ready

pub returns-clause-supers : goal.returns-clause-supers
returns-clause-supers c = super_found_is_ready
