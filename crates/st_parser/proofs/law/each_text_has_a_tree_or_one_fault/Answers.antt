use Rattle.st_parser.proofs.Verdicts.{either}
use Rattle.st_parser.proofs.law.each_text_has_a_tree_or_one_fault.Goals as goal

pub returns-clause-either : goal.returns-clause-either
returns-clause-either c = either
