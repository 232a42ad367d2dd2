use Rattle.st_machine_laws.proofs.Steps.{first, stays, ready}
use Rattle.st_machine_laws.proofs.stays_ready.a_machine_stays_ready.Goals as goal

pub returns-clause-first : goal.returns-clause-first
returns-clause-first c = first

pub returns-clause-stays : goal.returns-clause-stays
returns-clause-stays c = stays

pub returns-clause-ready : goal.returns-clause-ready
returns-clause-ready c = ready
