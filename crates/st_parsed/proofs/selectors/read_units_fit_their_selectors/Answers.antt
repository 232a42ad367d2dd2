-- Why what is read fits its selectors: the law of ReadFits.antt.
use Rattle.st_parsed.proofs.selectors.read_units_fit_their_selectors.Goals as goal
use Rattle.st_parsed.proofs.ReadFits.{read_fits}

pub returns : goal.returns
returns c = read_fits
