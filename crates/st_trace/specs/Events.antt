-- The lines of the code are those of the definitions: an event is that of the rules.
use Rattle.st_contexts.specs.declared.watch.Event.{Event}
use Rattle.st_contexts.specs.declared.watch.Event.TheVariants as told
use Rattle.st_rules.specs.Events as rules
use Rattle.st_trace.specs.declared.line.Line as code
use Rattle.st_trace.specs.declared.line.Line.TheVariants as line
use Rattle.st_trace.specs.Lines.{Line, Tells, Stops}

abbrev pub event_of : Event → rules.Event
event_of (told.Protect n) = rules.Protect n
event_of (told.Ensure n) = rules.Ensure n
event_of (told.Curtail n) = rules.Curtail n
event_of (told.Signal n) = rules.Signal n
event_of (told.Outer n) = rules.Outer n
event_of (told.Search n) = rules.Search n
event_of (told.Tried entry fits) = rules.Tried entry fits
event_of (told.Handle turn entry) = rules.Handle turn entry
event_of (told.Default n) = rules.Default n
event_of told.Known = rules.Known
event_of (told.Action n) = rules.Action n
event_of (told.Again n) = rules.Again n
event_of (told.Ask wait entry) = rules.Ask wait entry
event_of (told.End number cut) = rules.End number cut

abbrev pub line_of : code.Line → Line
line_of (line.Tells e) = Tells (event_of e)
line_of (line.Stops w) = Stops w
