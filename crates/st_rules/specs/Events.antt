-- What a run tells about handlers and termination blocks, as it happens. This form is the profile's own.
use Rattle.std.specs.Prelude.{ℕ, Bool}

-- an activation for `on:do:`, `ensure:`, `ifCurtailed:`, a signal or an outer point was pushed; a search began for this signal or turn; an entry was judged; a turn was pushed, with its entry or for a default action; the search of `isNested` is over; a termination block is about to be applied; a receiver is about to be applied again; a wait for `handles:` was pushed; an activation was dropped, and whether it gave an unwinding
pub data Event : Type 0 where
  Protect Ensure Curtail Signal Outer Search : (number : ℕ) → Event
  Tried : (entry : ℕ) (fits : Bool) → Event
  Handle : (turn entry : ℕ) → Event
  Default : (turn : ℕ) → Event
  Known : Event
  Action Again : (number : ℕ) → Event
  Ask : (wait entry : ℕ) → Event
  End : (number : ℕ) (cut : Bool) → Event
