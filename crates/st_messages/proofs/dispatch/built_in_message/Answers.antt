use Rattle.st_messages.proofs.dispatch.built_in_message.Goals as goal

pub returns-clause-memory : goal.returns-clause-memory
returns-clause-memory g c = rw c.row_of.ensures at c.row_message.ensures.memory

pub returns-clause-reply : goal.returns-clause-reply
returns-clause-reply g c = rw c.row_of.ensures at c.row_message.ensures.reply

pub returns-clause-here : goal.returns-clause-here
returns-clause-here g c = rw c.row_of.ensures at c.row_message.ensures.here
