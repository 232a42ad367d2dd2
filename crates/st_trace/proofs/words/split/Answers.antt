-- The first space parts the first word from the rest.
use Rattle.st_trace.proofs.Finding.{words_some, words_none}
use Rattle.st_trace.proofs.words.split.Goals as goal

pub returns-in-Some : goal.returns-in-Some
returns-in-Some c = words_some c.args.bytes.now c.in-Some.end c.in-Some.ensures

pub returns-in-None : goal.returns-in-None
returns-in-None c = words_none c.args.bytes.now c.in-None.ensures
