-- The moments of a run: what a machine is after so many small steps, and what these told, wrote and counted.
use Rattle.std.specs.Prelude.{ℕ, zero, suc, ◌+◌, List, [], ◌++◌}
use Rattle.st_code.specs.Texts.{Text}
use Rattle.st_rules.specs.Events.{Event}
use Rattle.st_rules.specs.State.{State}
use Rattle.st_machine.specs.Seen.{Seen}
use Rattle.st_machine.specs.Steps.{advanced, advance_told, advance_written}
use Rattle.st_machine.specs.Meaning.{events_of, state_of}
use Rattle.st_machine.specs.Followed.{runs_in}

abbrev pub after : ℕ → Seen → Seen
after zero s = s
after (suc n) s = after n (advanced s)

abbrev pub told_by : ℕ → Seen → List Event
told_by zero s = []
told_by (suc n) s = events_of (advance_told s) ++ told_by n (advanced s)

abbrev pub written_by : ℕ → Seen → Text
written_by zero s = []
written_by (suc n) s = advance_written s ++ written_by n (advanced s)

-- the instructions among these steps
abbrev pub runs_by : ℕ → Seen → ℕ
runs_by zero s = 0
runs_by (suc n) s = runs_in s.mode + runs_by n (advanced s)

-- the state of the rules at that moment
abbrev pub state_after : ℕ → Seen → State
state_after n s = state_of (written_by n s) (told_by n s) (after n s)
