-- Why what a send does stands: the laws of ReadySends.antt.
use Rattle.st_readiness.proofs.sends.what_a_send_does_stands.Goals as goal
use Rattle.st_readiness.proofs.ReadySends.{sends_stand, super_sends_stand}

pub returns-clause-sends : goal.returns-clause-sends
returns-clause-sends c = sends_stand

pub returns-clause-supers : goal.returns-clause-supers
returns-clause-supers c = super_sends_stand
