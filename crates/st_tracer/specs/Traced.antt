-- What a function that traces a machine to its end makes of the machine and of the sink: the lines are the events of the program's run by the rules, and its stop.
use Rattle.std.specs.Prelude.{◌≡◌, ℕ, List, [], ◌∷◌, ◌++◌, Option, Some, None}
use Rattle.std.specs.Io.KnownBytes.{append_known}
use Rattle.st_base.specs.Streams.{GainsPrefix}
use Rattle.st_code.specs.Program.{Program}
use Rattle.st_code.specs.Texts.{Text}
use Rattle.st_rules.specs.Events.{Event}
use Rattle.st_rules.specs.Flattened.{flat_of}
use Rattle.st_rules.specs.Runs.{Ending, Runs}
use Rattle.st_rules.specs.State.{State}
use Rattle.st_rules.specs.Turns.{MachineRuns}
use Rattle.st_machine.specs.declared.work.Ending as work
use Rattle.st_machine.specs.declared.work.Mode.{Mode}
use Rattle.st_machine.specs.declared.work.Mode.TheVariants as mode
use Rattle.st_machine.specs.Seen.{Seen}
use Rattle.st_runner.specs.RunToEnd.{EndsAs}
use Rattle.st_trace.specs.Bytes.{line_text, text_of}
use Rattle.st_trace.specs.Lines.{Tells}
use Rattle.st_trace.specs.Told.{trace_of, word_of}

abbrev pub ended_in : Mode → Option work.Ending
ended_in (mode.Ended e) = Some e
ended_in _ = None

-- the lines of events
abbrev pub events_text : List Event → Text
events_text [] = []
events_text (e ∷ es) = line_text (Tells e) ++ events_text es

-- the lines of a run that ended so in this state
abbrev pub trace_text : Ending → State → Text
trace_text e st = text_of (trace_of st.events (word_of e))

-- the machine has ended as the program's run does, with a Transcript that went nowhere, and the sink gained the lines
pub record TracesAs (p : Program) (e : Ending) (m : Seen) (old new : Option Text) : Type 0 where
  pub transcript : Text
  pub ends : EndsAs p e m (Some []) (Some transcript)
  pub wrote : new ≡ append_known old (trace_text e ends.state)

-- the sink gained a prefix of the lines of the program's run
pub record StopsTracing (p : Program) (old new : Option Text) : Type 0 where
  pub ending : Ending
  pub state : State
  pub flat : State
  pub instructions : ℕ
  pub by_the_rules : Runs p ending state
  pub by_the_machine : MachineRuns (flat_of p) p ending flat instructions
  pub part : GainsPrefix old new (trace_text ending state)
