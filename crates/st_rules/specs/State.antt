-- What a run has at a moment, what stands, and where an unwinding goes. Source: ANSI 3 (scopes, activations, homes) and 5 (exceptions); the counts are the profile's own.
use Rattle.std.specs.Prelude.{ℕ, zero, suc, ◌+◌, max, Bool, true, false, List, [], ◌∷◌, ◌++◌, length, Option, Some, None, nat_eq, nat_lt, nat_le, if◌then◌else◌}
use Rattle.object_heap.specs.declared.value.Value.{Value}
use Rattle.object_heap.specs.declared.value.Value.TheVariants.{Nil}
use Rattle.object_heap.specs.Store.{Store, scope_at, variable_at, with_variable, scope_added}
use Rattle.st_code.specs.Texts.{Text}
use Rattle.st_code.specs.Program.{Program, Body, Kind}
use Rattle.st_rules.specs.Events.{Event}

-- the objects, closures and scopes; the program's variables; the Transcript; the events; the steps made, the greatest depth, the cells used, and the next activation's number
pub record State : Type 0 where
  pub store : Store
  pub variables : List Value
  pub transcript : Text
  pub events : List Event
  pub steps : ℕ
  pub depth : ℕ
  pub cells : ℕ
  pub next : ℕ

-- an `on:do:` that stands: its number, selector and handler. Its outside is the rest of the environment behind it
pub record Entry : Type 0 where
  pub number : ℕ
  pub selector : Value
  pub handler : Value

-- the entries that a signal searches, the innermost first
abbrev pub Env : Type 0
Env = List Entry

-- where an unwinding goes: a home, an `on:do:` to end or to begin again, a resume point, the signal in whose place another exception is signaled, or the end of the program
pub data Target : Type 0 where
  Home Protected Retry RetryWith Resume : (number : ℕ) → Target
  Resignal : (signal exception : ℕ) → Target
  Terminate : Target

pub data Limit : Type 0 where
  StepLimit DepthLimit CellLimit IntegerLimit : Limit

-- what the evaluation of something comes to
pub data Outcome : Type 0 where
  Answer : Value → Outcome
  Go : Target → Value → Outcome
  Stop : Limit → Outcome

-- a run of a handler, or of a default action where there is no entry: its exception, the environment in which it runs, its resume point and its signal
pub record Turn : Type 0 where
  pub exception : ℕ
  pub entry : Option Entry
  pub outside : Env
  pub resume_point : ℕ
  pub signal : ℕ

-- what stands: bodies, `on:do:`, `ensure:` and `ifCurtailed:` (whose action is a termination block), signals, outer points, turns, loops and waits
pub data Mark : Type 0 where
  BodyMark ProtectMark ActionMark LoopMark WaitMark OuterMark : (number : ℕ) → Mark
  SignalMark : (number exception : ℕ) → Mark
  TurnMark : (number : ℕ) → Turn → Mark

abbrev pub number_of_mark : Mark → ℕ
number_of_mark (BodyMark n) = n
number_of_mark (ProtectMark n) = n
number_of_mark (ActionMark n) = n
number_of_mark (LoopMark n) = n
number_of_mark (WaitMark n) = n
number_of_mark (OuterMark n) = n
number_of_mark (SignalMark n e) = n
number_of_mark (TurnMark n t) = n

-- the frame of a body: its code, what it is, self, the class that it is written in, its own number, the number of its home, and its scope
pub record Frame : Type 0 where
  pub code : ℕ
  pub kind : Kind
  pub self : Value
  pub class : Value
  pub own : ℕ
  pub home : ℕ
  pub scope : Option ℕ

abbrev pub with_store : State → Store → State
with_store st s = record st { store = s }

abbrev pub told : Event → State → State
told event st = record st { events = st.events ++ event ∷ [] }

-- ---- counts and limits

-- a step, unless the limit is reached
unfoldable pub step_made : Program → State → Option State
step_made p st = if nat_lt st.steps p.step_limit then Some (record st { steps = st.steps + 1 }) else None

-- one more activation over those that stand, unless the limit is reached
unfoldable pub stood : Program → List Mark → State → Option State
stood p standing st =
    let d = length standing + 1 in
    if nat_le d p.depth_limit then Some (record st { depth = max st.depth d; next = st.next + 1 }) else None

-- so many cells, unless the limit is passed
unfoldable pub used : Program → ℕ → State → Option State
used p n st = if nat_le (st.cells + n) p.cell_limit then Some (record st { cells = st.cells + n }) else None

-- ---- scopes

-- the scope that is so many steps outwards
unfoldable pub scope_up : Store → ℕ → Option ℕ → Option ℕ
scope_up s zero scope = scope
scope_up s (suc up) None = None
scope_up s (suc up) (Some scope) = scope_up s up (scope_at scope s).outer

abbrev variable_of : Option ℕ → ℕ → Store → Value
variable_of None index s = Nil
variable_of (Some scope) index s = variable_at scope index s

unfoldable pub scoped_variable : Store → Option ℕ → ℕ → ℕ → Value
scoped_variable s scope up index = variable_of (scope_up s up scope) index s

abbrev set_variable_of : Option ℕ → ℕ → Value → Store → Store
set_variable_of None index v s = s
set_variable_of (Some scope) index v s = with_variable scope index v s

unfoldable pub with_scoped_variable : Store → Option ℕ → ℕ → ℕ → Value → Store
with_scoped_variable s scope up index v = set_variable_of (scope_up s up scope) index v s

-- the variables of an activation: its arguments, and nil in each other one
unfoldable pub first_variables : List Bool → List Value → List Value
first_variables [] args = []
first_variables (c ∷ captured) [] = Nil ∷ first_variables captured []
first_variables (c ∷ captured) (v ∷ args) = v ∷ first_variables captured args

unfoldable pub count_true : List Bool → ℕ
count_true [] = 0
count_true (true ∷ bs) = suc (count_true bs)
count_true (false ∷ bs) = count_true bs

abbrev cells_of : ℕ → ℕ
cells_of zero = 0
cells_of (suc k) = suc (suc k)

-- a scope takes a cell and one for each captured variable, and nothing where none is captured
unfoldable pub scope_cells : Body → ℕ
scope_cells body = cells_of (count_true body.captured)

-- the store with the scope of an activation of this code
unfoldable pub with_scope : Store → (code : ℕ) → Option ℕ → List Value → Store
with_scope s code outer variables = scope_added (record { code = code; outer = outer; variables = variables }) s

-- ---- searches through what stands

-- an activation with this number stands
unfoldable pub stands : ℕ → List Mark → Bool
stands n [] = false
stands n (m ∷ standing) = if nat_eq n (number_of_mark m) then true else stands n standing

abbrev signals : ℕ → Mark → Bool
signals e (SignalMark n x) = nat_eq e x
signals e _ = false

-- a signal of this exception stands
unfoldable pub is_live : ℕ → List Mark → Bool
is_live e [] = false
is_live e (m ∷ standing) = if signals e m then true else is_live e standing

-- a turn with its number
pub data FoundTurn : Type 0 where
  NoTurn : FoundTurn
  TurnAt : (number : ℕ) → Turn → FoundTurn

abbrev turn_at : ℕ → Mark → FoundTurn → FoundTurn
turn_at e (TurnMark n t) rest = if nat_eq e t.exception then TurnAt n t else rest
turn_at e _ rest = rest

-- the innermost turn of an exception
unfoldable pub turn_of : ℕ → List Mark → FoundTurn
turn_of e [] = NoTurn
turn_of e (m ∷ standing) = turn_at e m (turn_of e standing)

abbrev is_signal : ℕ → Mark → Bool
is_signal n (SignalMark s e) = nat_eq n s
is_signal n _ = false

-- the signal of this number stands directly here
abbrev pub is_at_signal : ℕ → List Mark → Bool
is_at_signal n [] = false
is_at_signal n (m ∷ standing) = is_signal n m
