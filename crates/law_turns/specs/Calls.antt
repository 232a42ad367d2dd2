-- What is claimed of a call of `go` for so many turns, and of several calls in a row: the flat machine's turns lead from what the machine stood for to what it stands for.
use Rattle.std.specs.Prelude.{◌≡◌, ℕ, ◌+◌, List, [], ◌++◌, map}
use Rattle.st_code.specs.Texts.{Text}
use Rattle.st_contexts.specs.declared.watch.Event as watch
use Rattle.st_rules.specs.Events.{Event}
use Rattle.st_rules.specs.Flattened.{flat_of}
use Rattle.st_rules.specs.Turns.{opened_run}
use Rattle.st_machine.specs.declared.work.Mode.{Mode}
use Rattle.st_machine.specs.declared.work.Mode.TheVariants as mode
use Rattle.st_machine.specs.Meaning.{event_of, top_of}
use Rattle.st_machine.specs.Plans.{program_in}
use Rattle.st_machine.specs.Running.{gone, gone_told, gone_written}
use Rattle.st_machine.specs.Seen.{Seen}
use Rattle.st_machine_laws.specs.Moments.{after, told_by, written_by}
use Rattle.st_runner.specs.Firsts.{IsFirst}
use Rattle.law_turns.specs.AfterTurns.{AfterTurns}

-- the events of the rules that a watcher was told
abbrev pub told_in : List watch.Event → List Event
told_in events = map event_of events

-- small steps led from the beginning of a run to this machine, and wrote and told this on the way
pub record CameTo (first : Seen) (text : Text) (events : List Event) (s : Seen) : Type 0 where
  pub steps : ℕ
  pub is : s ≡ after steps first
  pub wrote : text ≡ written_by steps first
  pub told : events ≡ told_by steps first

-- so many turns were done, by the count of instructions before and now: an instruction comes next and so many were begun, or the run has ended
abbrev pub IsDone : Mode → (turns before now : ℕ) → Type 0
IsDone mode.Run turns before now = now ≡ before + turns
IsDone (mode.Ended e) turns before now = Unit {0}
IsDone _ turns before now = ⊥

-- from the one machine to the other so many turns were done, or fewer and the run has ended; and the second is on the same way
pub record WentOn (first : Seen) (turns : ℕ) (text : Text) (events : List Event) (s : Seen) (text' : Text) (events' : List Event) (s' : Seen) : Type 0 where
  pub came : CameTo first text' events' s'
  pub after : AfterTurns (flat_of (program_in first.plan)) (program_in first.plan) turns (top_of text events s) (top_of text' events' s')

-- a call that does so many turns goes where the flat machine goes, with what it writes and tells
abbrev pub GoesByTurns : Type 0
GoesByTurns =
    (first : Seen) → IsFirst first → (text : Text) (events : List Event) (s : Seen) → CameTo first text events s
    → (steps turns : ℕ) → IsDone (gone steps turns s).mode turns s.instructions (gone steps turns s).instructions
    → WentOn first turns text events s (text ++ gone_written steps turns s) (events ++ told_in (gone_told steps turns s)) (gone steps turns s)

-- and each call does, unless it is cut off: so many small steps are enough, and more change nothing of that
pub record Enough (turns : ℕ) (s : Seen) : Type 0 where
  pub steps : ℕ
  pub done : (more : ℕ) → IsDone (gone (steps + more) turns s).mode turns s.instructions (gone (steps + more) turns s).instructions

abbrev pub SomeStepsAreEnough : Type 0
SomeStepsAreEnough = (first : Seen) → IsFirst first → (text : Text) (events : List Event) (s : Seen) → CameTo first text events s → (turns : ℕ) → Enough turns s

-- an opened machine has come to itself, and stands for the flat machine at the beginning of the run
pub record Begins (first : Seen) : Type 0 where
  pub came : CameTo first [] [] first
  pub opened : top_of [] [] first ≡ opened_run (flat_of (program_in first.plan)) (program_in first.plan)

abbrev pub EachBegins : Type 0
EachBegins = (first : Seen) → IsFirst first → Begins first
