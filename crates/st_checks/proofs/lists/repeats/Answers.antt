use Rattle.st_checks.proofs.NameLists.{distinct-is_none}
use Rattle.st_checks.proofs.lists.repeats.Goals as goal

pub returns : goal.returns
returns c = distinct-is_none c.args.names.now c.in_ok-set.set c.is_none.result c.is_none.ensures c.in_ok-set.ensures
