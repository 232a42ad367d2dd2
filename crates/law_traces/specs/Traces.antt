-- What is claimed of the output of `trace`: its lines are disciplined.
use Rattle.std.specs.Prelude.{◌≡◌, ℕ, List, Some}
use Rattle.st_words.specs.declared.command.Command.{Command}
use Rattle.st_words.specs.declared.command.Task.TheVariants.{Trace}
use Rattle.st_trace.specs.Bytes.{text_of}
use Rattle.st_trace.specs.Disciplined.{Disciplined}
use Rattle.st_trace.specs.Lines.{Line}
use Rattle.st_run.specs.Commands.{Does}
use Rattle.st_run.specs.Outcomes.{Outcome}
use Rattle.st_run.specs.Statuses.{IsEnding}

-- the text of lines that are disciplined
pub record DisciplinedText (text : List ℕ) : Type 0 where
  pub lines : List Line
  pub disciplined : Disciplined lines
  pub whole : text ≡ text_of lines

-- for every file and all limits, where the run came to an ending
abbrev pub TracesAreDisciplined : Type 0
TracesAreDisciplined =
    (c : Command) (bytes : List ℕ) (o : Outcome) → c.task ≡ Trace → Does (Some c) bytes o → IsEnding o.status
    → DisciplinedText o.output
