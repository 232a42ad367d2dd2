-- The first line, then the second.
use Rattle.st_machine.specs.Meaning.{event_of}
use Rattle.st_trace.specs.Bytes.{line_text}
use Rattle.st_trace.specs.Lines.{Tells}
use Rattle.st_tracer.proofs.Texts.{first_fails, second_follows}
use Rattle.st_tracer.proofs.lines.put_two.Goals as goal

pub returns-in-Ok-clause-text : goal.returns-in-Ok-clause-text
returns-in-Ok-clause-text g c = second_follows _ _ _ c.put_event-in-Ok.result (line_text (Tells (event_of c.args.first))) (line_text (Tells (event_of c.args.second))) c.in-Ok.ensures.text c.put_event-in-Ok.ensures.text

pub returns-in-Err-clause-text : goal.returns-in-Err-clause-text
returns-in-Err-clause-text g c = first_fails _ _ (line_text (Tells (event_of c.args.first))) (line_text (Tells (event_of c.args.second))) c.in-Err.ensures.text
