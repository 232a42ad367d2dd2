-- What sends and loops ask of a store holds in a sound one.
use Rattle.std.specs.Prelude.{◌≡◌, ℕ, true, ◌&&◌, List}
use Rattle.object_heap.specs.declared.value.Value.{Value}
use Rattle.object_heap.specs.Store.{Store}
use Rattle.st_code.specs.Lookup.{level_of, lookup, super_lookup}
use Rattle.st_code.specs.Program.{Program}
use Rattle.st_collections.specs.Actions.{LoopState}
use Rattle.st_loops.specs.Tests.{may_begin, may_keep}
use Rattle.st_messages.specs.Sent.{is_ready}
use Rattle.st_rules.specs.Selves.{IsOf, KnowsClasses}
use Rattle.st_rules.specs.Sends.{send_action, super_action}
use Rattle.st_sound.specs.KnownCollections.{KnowsCollections}
use Rattle.st_sound.specs.SoundActions.{LoopStands, ActionSound}
use Rattle.st_sound.specs.SoundRun.{ClosuresWritten}
use Rattle.st_sound.specs.SoundStore.{SoundStore}

-- what a send finds is ready
abbrev pub FoundIsReady : Type 0
FoundIsReady = (p : Program) → KnowsCollections p → (s : Store) → SoundStore s → (selector : ℕ) (r : Value) (args : List Value) → is_ready s (lookup p (level_of s r) selector) r args ≡ true

-- and so is what a send to super finds
abbrev pub SuperFoundIsReady : Type 0
SuperFoundIsReady = (p : Program) → KnowsClasses p → KnowsCollections p → (s : Store) → SoundStore s → (class r : Value) (selector : ℕ) (args : List Value) → IsOf p s r class → is_ready s (super_lookup p class selector) r args ≡ true

-- ---- loops

-- a loop that stands well may begin
abbrev pub LoopsMayBegin : Type 0
LoopsMayBegin = (s : Store) → SoundStore s → (l : LoopState) → LoopStands s l → may_begin s l.message l.receiver ≡ true

-- and go on from what it keeps
abbrev pub LoopsGoOn : Type 0
LoopsGoOn = (s : Store) → SoundStore s → (l : LoopState) → LoopStands s l → (may_begin s l.message l.receiver && may_keep s l.message l) ≡ true

-- ---- what a send does at once

-- it leaves a sound store, activates a closure of the class that its code is written in, or begins a loop that stands
abbrev pub SendsStand : Type 0
SendsStand = (p : Program) → KnowsCollections p → (s : Store) → SoundStore s → ClosuresWritten p s.closures → (selector : ℕ) (r : Value) (args : List Value) → ActionSound p s (send_action p s selector r args)

abbrev pub SuperSendsStand : Type 0
SuperSendsStand = (p : Program) → KnowsClasses p → KnowsCollections p → (s : Store) → SoundStore s → ClosuresWritten p s.closures → (class r : Value) (selector : ℕ) (args : List Value) → IsOf p s r class → ActionSound p s (super_action p s class selector r args)
