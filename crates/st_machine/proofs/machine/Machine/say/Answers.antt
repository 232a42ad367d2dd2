use Rattle.st_machine.proofs.Replied.{written_there}
use Rattle.st_machine.proofs.machine.Machine.say.Goals as goal

pub returns-clause-written : goal.returns-clause-written
returns-clause-written g c = rw c.written_in-written.ensures (written_there c.args.reply c.args.self.now c.go_on-events.new.self c.args.env c.go_on-events.ensures.said)
