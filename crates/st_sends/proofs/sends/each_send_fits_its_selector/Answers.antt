-- Why each send fits its selector: the laws of PassingRun.antt and PassingSends.antt.
use Rattle.st_sends.proofs.sends.each_send_fits_its_selector.Goals as goal
use Rattle.st_sends.proofs.PassingRun.{sends_fit}
use Rattle.st_sends.proofs.PassingSends.{sends_pass, super_sends_pass}

pub returns-clause-runs : goal.returns-clause-runs
returns-clause-runs c = sends_fit

pub returns-clause-sends : goal.returns-clause-sends
returns-clause-sends c = sends_pass

pub returns-clause-supers : goal.returns-clause-supers
returns-clause-supers c = super_sends_pass
