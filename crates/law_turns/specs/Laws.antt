-- What is claimed of turns on the flat machine, from each of its states: so many lead to a state, to one only, and turns join.
use Rattle.std.specs.Prelude.{◌≡◌, ℕ, ◌+◌, List}
use Rattle.st_code.specs.Compiled.{Compiled}
use Rattle.st_code.specs.Program.{Program}
use Rattle.st_rules.specs.Flat.{FlatBody, flat}
use Rattle.st_rules.specs.Turns.{Top}
use Rattle.law_turns.specs.AfterTurns.{AfterTurns}

-- whatever the codes are, and their room
module _ (p : Program) (codes : List Compiled) (room : ℕ) where
  abbrev pub SomeState : Type 0
  SomeState = (count : ℕ) (from : Top FlatBody) → (to : Top FlatBody) × AfterTurns (flat p codes room) p count from to

  abbrev pub OneState : Type 0
  OneState = (count : ℕ) (from to to' : Top FlatBody) → AfterTurns (flat p codes room) p count from to → AfterTurns (flat p codes room) p count from to' → to ≡ to'

  abbrev pub TurnsJoin : Type 0
  TurnsJoin =
      (j k : ℕ) (from mid to : Top FlatBody) → AfterTurns (flat p codes room) p j from mid → AfterTurns (flat p codes room) p k mid to → AfterTurns (flat p codes room) p (j + k) from to

abbrev pub SomeStateAlways : Type 0
SomeStateAlways = (p : Program) (codes : List Compiled) (room : ℕ) → SomeState p codes room

abbrev pub OneStateAlways : Type 0
OneStateAlways = (p : Program) (codes : List Compiled) (room : ℕ) → OneState p codes room

abbrev pub TurnsAlwaysJoin : Type 0
TurnsAlwaysJoin = (p : Program) (codes : List Compiled) (room : ℕ) → TurnsJoin p codes room
