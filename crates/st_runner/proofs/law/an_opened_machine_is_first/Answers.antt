-- Why a machine that is opened can make its whole run: the law of Firsts.antt.
use Rattle.st_runner.proofs.Firsts.{opens-first}
use Rattle.st_runner.proofs.law.an_opened_machine_is_first.Goals as goal

pub returns : goal.returns
returns c = opens-first
