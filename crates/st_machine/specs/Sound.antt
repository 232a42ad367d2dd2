-- What sends and loops ask of the store, so that each is done.
use Rattle.std.specs.Prelude.{◌≡◌, Bool, true}
use Rattle.st_collections.specs.Actions.{Action, Begins, Activates, Sends, Enters, Iterates, RaisesNew, LoopState as State}
use Rattle.st_machine.specs.Seen.{Seen}
use Rattle.st_machine.specs.Passing.{fits_in}
use Rattle.st_machine.specs.Loops.{loop_begins, loop_goes_on}

-- what an action passes on has room, and a loop that it begins may begin
abbrev pub is_fit : Action → Seen → Bool
is_fit (Begins v args) s = fits_in args s.passed
is_fit (Activates c args) s = fits_in args s.passed
is_fit (Sends selector r args) s = fits_in args s.passed
is_fit (Enters code r args) s = fits_in args s.passed
is_fit (RaisesNew class slots) s = fits_in slots s.passed
is_fit (Iterates l) s = loop_begins s.memory.store l
is_fit _ s = true

-- a send is done at once
pub record IsSent (here : Bool) (a : Action) (s : Seen) : Type 0 where
  pub done : here ≡ true
  pub fit : is_fit a s ≡ true

-- a loop goes on with what it keeps
pub record IsKept (l : State) (s : Seen) : Type 0 where
  pub kept : loop_goes_on s.memory.store l ≡ true
