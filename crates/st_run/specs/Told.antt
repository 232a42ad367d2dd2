-- What is known of a machine whose run ended, and what is reported of it, as the code has it.
use Rattle.std.specs.Prelude.{◌≡◌, ℕ, List, [], ◌++◌, length, Some}
use Rattle.st_tree.specs.declared.units.Unit as unit
use Rattle.st_words.specs.declared.command.Command.{Command}
use Rattle.st_machine.specs.declared.work.Ending.{Ending}
use Rattle.st_machine.specs.Meaning.{ending_of}
use Rattle.st_machine.specs.Plans.{program_in}
use Rattle.st_machine.specs.Seen.{Seen}
use Rattle.st_run.specs.Reports.{stats_if, ending_line}
use Rattle.st_run.specs.Outcomes.{program_for}
use Rattle.st_runner.specs.RunToEnd.{EndsAs}

-- the statistics where they are asked for, and the line of the ending
unfoldable pub ending_report : Command → Seen → Ending → List ℕ
ending_report c s e =
    stats_if c.stats s.steps s.deepest s.memory.used s.instructions
    ++ ending_line (program_in s.plan) c.limits s.memory.store (ending_of e)

-- the run of the program that these units are has ended so, with a Transcript of so many bytes
pub record HasEnded (c : Command) (us : List unit.Unit) (s : Seen) (e : Ending) (transcript : ℕ) : Type 0 where
  pub text : List ℕ
  pub ends : EndsAs (program_for c us) (ending_of e) s (Some []) (Some text)
  pub count : transcript ≡ length text
