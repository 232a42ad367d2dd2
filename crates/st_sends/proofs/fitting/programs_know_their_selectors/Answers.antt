-- Why programs know their selectors: the law of FittingMade.antt.
use Rattle.st_sends.proofs.fitting.programs_know_their_selectors.Goals as goal
use Rattle.st_sends.proofs.FittingMade.{programs_know_selectors}

pub returns : goal.returns
returns c = programs_know_selectors
