use Rattle.std.proofs.Common.{◌∙◌}
use Rattle.st_machine.specs.Plans.{program_in}
use Rattle.st_machine.proofs.Known.{super-other}
use Rattle.st_machine.proofs.facts.LoadedProgramFacts.find_above.Goals as goal

pub returns-in-Class : goal.returns-in-Class
returns-in-Class c = rw c.in-Class.is c.found_above.ensures

pub returns-in-Meta : goal.returns-in-Meta
returns-in-Meta c = rw c.in-Meta.is c.found_above_class.ensures

pub returns-in_default : goal.returns-in_default
returns-in_default c = c.found_above-in_default.ensures ∙ super-other (program_in c.args.self.now) c.args.class c.args.selector c.in_default.not-Class c.in_default.not-Meta
