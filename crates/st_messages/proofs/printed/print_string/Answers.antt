use Rattle.st_collections.specs.Kinds.{print_text}
use Rattle.st_messages.proofs.printed.print_string.Goals as goal

pub returns-in-Transcript-clause-answer : goal.returns-in-Transcript-clause-answer
unfolding print_text
returns-in-Transcript-clause-answer g c = rw c.in-Transcript.is c.print_words-in-Transcript.ensures.answer
