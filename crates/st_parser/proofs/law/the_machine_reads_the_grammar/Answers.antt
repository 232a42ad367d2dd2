use Rattle.st_parser.proofs.Verdicts.{machine_fronts}
use Rattle.st_parser.proofs.law.the_machine_reads_the_grammar.Goals as goal

pub returns-clause-fronts : goal.returns-clause-fronts
returns-clause-fronts c = machine_fronts
