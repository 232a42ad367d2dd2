-- The lines of a run: its events, and how it stopped.
use Rattle.std.specs.Prelude.{List, [], ◌∷◌}
use Rattle.st_rules.specs.Events.{Event}
use Rattle.st_rules.specs.State.{Limit, StepLimit, DepthLimit, CellLimit, IntegerLimit}
use Rattle.st_rules.specs.Runs.{Ending, Done as RunDone, Unhandled as RunUnhandled, AtLimit, Stuck}
use Rattle.st_trace.specs.declared.line.StopWord.{StopWord}
use Rattle.st_trace.specs.declared.line.StopWord.TheVariants.{Done, Unhandled, Steps, Depth, Cells, Integer}
use Rattle.st_trace.specs.Lines.{Line, Tells, Stops}

abbrev pub word_of_limit : Limit → StopWord
word_of_limit StepLimit = Steps
word_of_limit DepthLimit = Depth
word_of_limit CellLimit = Cells
word_of_limit IntegerLimit = Integer

-- the word of an ending; of a run that is stuck nothing is said, since none is
abbrev pub word_of : Ending → StopWord
word_of RunDone = Done
word_of (RunUnhandled v) = Unhandled
word_of (AtLimit l) = word_of_limit l
word_of Stuck = Integer

-- the events, and then the stop
abbrev pub trace_of : List Event → StopWord → List Line
trace_of [] w = Stops w ∷ []
trace_of (e ∷ es) w = Tells e ∷ trace_of es w
