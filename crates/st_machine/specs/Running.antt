-- Turns: so many instructions with what they bring until the next, what is told of them, and how a call ends.
use Rattle.std.specs.Prelude.{◌≡◌, ℕ, zero, suc, ◌-◌, ◌<◌, Bool, true, false, List, [], ◌∷◌, ◌++◌, length, take, slice_get, Option, None, Result, Ok, Err, nat_eq, if◌then◌else◌}
use Rattle.std.specs.Io.KnownBytes.{append_known}
use Rattle.std.specs.Option.{option_map}
use Rattle.st_base.specs.Streams.{GainsPrefix, Rose}
use Rattle.st_code.specs.Texts.{Text}
use Rattle.st_contexts.specs.declared.watch.Event.{Event}
use Rattle.st_machine.specs.declared.work.Mode.{Mode}
use Rattle.st_machine.specs.declared.work.Mode.TheVariants as mode
use Rattle.st_machine.specs.declared.work.Told.{Told}
use Rattle.st_machine.specs.declared.work.Told.TheVariants.{Nothing, One, Two}
use Rattle.st_machine.specs.declared.running.Progress.{Progress}
use Rattle.st_machine.specs.declared.running.Progress.TheVariants as progress
use Rattle.st_machine.specs.declared.running.Stats.{Stats}
use Rattle.st_machine.specs.Seen.{Seen}
use Rattle.st_machine.specs.Steps.{advanced, advance_told, advance_written}

-- ---- events

abbrev pub listed : Told → List Event
listed Nothing = []
listed (One e) = e ∷ []
listed (Two d e) = d ∷ e ∷ []

-- these events were told, where what was told is known
abbrev pub all_seen : List Event → Option (List Event) → Option (List Event)
all_seen more seen = option_map (λ events. events ++ more) seen

-- the telling broke off: the first of these events were told, and it broke at the next
pub record BreaksOff (events : List Event) (before now : Option (List Event)) (broken : Option Event) : Type 0 where
  pub count : ℕ
  pub within : count < length events
  pub told : now ≡ all_seen (take count events) before
  pub behind : broken ≡ slice_get events count

-- ---- what steps that write and tell did to a sink and a watcher

-- what a sink got and how often it failed; what a watcher was told, where it broke, and how often it failed
pub record SinkSeen : Type 0 where
  pub written : Option Text
  pub faults : ℕ

pub record WatchSeen : Type 0 where
  pub seen : Option (List Event)
  pub broken : Option Event
  pub faults : ℕ

abbrev pub sink_seen : Option Text → ℕ → SinkSeen
sink_seen written faults = record { written = written; faults = faults }

abbrev pub watch_seen : Option (List Event) → Option Event → ℕ → WatchSeen
watch_seen seen broken faults = record { seen = seen; broken = broken; faults = faults }

-- all was written and told
pub record AllRan (text : Text) (events : List Event) (k k' : SinkSeen) (w w' : WatchSeen) : Type 0 where
  pub wrote : k'.written ≡ append_known k.written text
  pub sound : k'.faults ≡ k.faults
  pub told : w'.seen ≡ all_seen events w.seen
  pub whole : w'.broken ≡ None
  pub awake : w'.faults ≡ w.faults

-- the sink failed, and the watcher was told the first of the events; or the watcher failed
pub data PartRan (text : Text) (events : List Event) (k k' : SinkSeen) (w w' : WatchSeen) : Type 0 where
  stops_writing : GainsPrefix k.written k'.written text → Rose k.faults k'.faults → (first rest : List Event) → events ≡ first ++ rest → w'.seen ≡ all_seen first w.seen → w'.broken ≡ None → w'.faults ≡ w.faults → PartRan text events k k' w w'
  stops_telling : GainsPrefix k.written k'.written text → k'.faults ≡ k.faults → BreaksOff events w.seen w'.seen w'.broken → Rose w.faults w'.faults → PartRan text events k k' w w'

abbrev pub Ran : {T E : Type 0} → Text → List Event → SinkSeen → SinkSeen → WatchSeen → WatchSeen → Result T E → Type 0
Ran text events k k' w w' (Ok x) = AllRan text events k k' w w'
Ran text events k k' w w' (Err e) = PartRan text events k k' w w'

-- ---- small steps until so many instructions are done

-- an instruction is begun only while some are left
abbrev pub goes_on : Mode → ℕ → Bool
goes_on mode.Run left = if nat_eq left 0 then false else true
goes_on (mode.Ended e) left = false
goes_on _ left = true

abbrev pub left_after : Mode → ℕ → ℕ
left_after mode.Run left = left - 1
left_after _ left = left

-- at most so many small steps, and so many instructions
unfoldable pub gone : (steps left : ℕ) → Seen → Seen
gone zero left s = s
gone (suc steps) left s = if goes_on s.mode left then gone steps (left_after s.mode left) (advanced s) else s

-- the events that these steps tell
unfoldable pub gone_told : (steps left : ℕ) → Seen → List Event
gone_told zero left s = []
gone_told (suc steps) left s = if goes_on s.mode left then listed (advance_told s) ++ gone_told steps (left_after s.mode left) (advanced s) else []

-- what they write
unfoldable pub gone_written : (steps left : ℕ) → Seen → Text
gone_written zero left s = []
gone_written (suc steps) left s = if goes_on s.mode left then advance_written s ++ gone_written steps (left_after s.mode left) (advanced s) else []

-- ---- what a caller sees

abbrev pub progress_of : Mode → Progress
progress_of (mode.Ended e) = progress.Ended e
progress_of _ = progress.Running

-- where a call didn't break off
abbrev pub OnProgress : Progress → Type 0 → Type 0
OnProgress progress.WriteFault P = Unit {0}
OnProgress _ P = P

abbrev pub OnFault : Progress → Type 0 → Type 0
OnFault progress.WriteFault P = P
OnFault _ P = Unit {0}

abbrev pub stats_of : Seen → Stats
stats_of s = record { steps = s.steps; depth = s.deepest; cells = s.memory.used; instructions = s.instructions }
