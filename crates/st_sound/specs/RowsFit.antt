-- What a lookup finds is for its receiver.
use Rattle.std.specs.Prelude.{◌≡◌, ℕ, true, Some}
use Rattle.object_heap.specs.declared.value.Value.{Value}
use Rattle.object_heap.specs.Store.{Store}
use Rattle.st_code.specs.Lookup.{Level, BuiltIn, level_of, lookup, super_lookup}
use Rattle.st_code.specs.Messages.{Row, Collections, Loops}
use Rattle.st_code.specs.Program.{Program}
use Rattle.st_collections.specs.Ordered.{IsOrdered}
use Rattle.st_loops.specs.Requests.{IsReceiver}
use Rattle.st_rules.specs.Selves.{IsOf, KnowsClasses}
use Rattle.st_sound.specs.KnownCollections.{KnowsCollections}
use Rattle.st_sound.specs.Receivers.{changes, takes}
use Rattle.st_sound.specs.SoundStore.{SoundStore}

-- a row that a lookup finds is one for its receiver's class
abbrev pub RowsFit : Type 0
RowsFit = (p : Program) → KnowsCollections p → (from : Level) (selector : ℕ) (row : Row) → lookup p from selector ≡ Some (BuiltIn row) → takes row from.class ≡ true

-- and so is one that a send to super finds
abbrev pub SuperRowsFit : Type 0
SuperRowsFit = (p : Program) → KnowsClasses p → KnowsCollections p → (s : Store) (class r : Value) (selector : ℕ) (row : Row) → IsOf p s r class → super_lookup p class selector ≡ Some (BuiltIn row) → takes row (level_of s r).class ≡ true

-- ---- so what the code of collections and loops asks of a receiver is so, where the store is sound

-- a row that changes an OrderedCollection has an open one as its receiver, and a loop a receiver as it takes it
abbrev pub RowReady : Store → Row → Value → Type 0
RowReady s (Collections m) r = changes m ≡ true → IsOrdered s r
RowReady s (Loops m) r = IsReceiver s m r
RowReady s row r = Unit {0}

abbrev pub SendsAreReady : Type 0
SendsAreReady = (p : Program) → KnowsCollections p → (s : Store) → SoundStore s → (r : Value) (selector : ℕ) (row : Row) → lookup p (level_of s r) selector ≡ Some (BuiltIn row) → RowReady s row r

abbrev pub SuperSendsAreReady : Type 0
SuperSendsAreReady = (p : Program) → KnowsClasses p → KnowsCollections p → (s : Store) → SoundStore s → (class r : Value) (selector : ℕ) (row : Row) → IsOf p s r class → super_lookup p class selector ≡ Some (BuiltIn row) → RowReady s row r
