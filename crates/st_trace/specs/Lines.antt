-- The lines of a trace: what a run tells, and how it stopped.
use Rattle.st_rules.specs.Events.{Event}
use Rattle.st_trace.specs.declared.line.StopWord.{StopWord}

pub data Line : Type 0 where
  Tells : Event → Line
  Stops : StopWord → Line
