-- What is claimed of each run: its events, and then its stop, are disciplined, and the auditor accepts them.
use Rattle.std.specs.Prelude.{◌≡◌, true}
use Rattle.st_code.specs.Program.{Program}
use Rattle.st_rules.specs.State.{State}
use Rattle.st_rules.specs.Runs.{Ending, Runs}
use Rattle.st_trace.specs.Automaton.{auditor_after, stops_by}
use Rattle.st_trace.specs.Disciplined.{Disciplined}
use Rattle.st_trace.specs.Told.{trace_of, word_of}

-- the lines of each run are disciplined, whatever its limits are
abbrev pub RunsAreDisciplined : Type 0
RunsAreDisciplined = (p : Program) (e : Ending) (st : State) → Runs p e st → Disciplined (trace_of st.events (word_of e))

abbrev pub RunsAreAccepted : Type 0
RunsAreAccepted = (p : Program) (e : Ending) (st : State) → Runs p e st → stops_by (word_of e) (auditor_after st.events) ≡ true
