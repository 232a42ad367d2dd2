-- What the rules and the machine share: charges, variables, and what each activation makes of an outcome that reaches it. Source: ANSI 3 (bodies) and 5 (exceptions, termination blocks).
use Rattle.std.specs.Prelude.{ℕ, ◌+◌, Bool, true, false, List, [], ◌∷◌, length, get_or, slice_set, Option, Some, None, nat_eq, if◌then◌else◌}
use Rattle.object_heap.specs.declared.value.Value.{Value}
use Rattle.object_heap.specs.declared.value.Value.TheVariants.{Nil, Symbol, Class, Object}
use Rattle.object_heap.specs.declared.value.Closure.{Closure}
use Rattle.object_heap.specs.declared.trouble.Trouble.{Trouble}
use Rattle.object_heap.specs.Troubles.{place_of}
use Rattle.object_heap.specs.Store.{Store, with_slot, block_added}
use Rattle.st_code.specs.Program.{Program, Place, Scoped, Slot, ClassSlot, Shared, Kind, InMethod, InBlock, InInitializer, Initializer, body_at, class_at}
use Rattle.st_rules.specs.Events.{Event}
use Rattle.st_rules.specs.State.{State, Entry, Env, Target, Home, Protected, Retry, RetryWith, Resume, Resignal, Limit, Outcome, Answer, Go, Stop, Turn, Mark, Frame, with_store, told, scoped_variable, with_scoped_variable, first_variables, with_scope, is_at_signal}
use Rattle.st_code.specs.BuiltIns.{array_class, block_class, message_class}
use Rattle.st_collections.specs.Actions.{with_new}
use Rattle.st_collections.specs.Kinds.{slot_of}

-- an outcome and a state, or none at this index
pub data Result : Type 0 where
  Yields : Outcome → State → Result
  NoIndex : Result

-- goes on where a charge was made
abbrev pub charged {ℓ} : {A : Type ℓ} → Option State → A → (State → A) → A
charged None a k = a
charged (Some st) a k = k st

-- goes on with each outcome
abbrev pub handle : Result → (Outcome → State → Result) → Result
handle (Yields o st) k = k o st
handle NoIndex k = NoIndex

-- goes on with a value; any other outcome is that of the whole
abbrev pub then_value : Result → (Value → State → Result) → Result
then_value (Yields (Answer v) st) k = k v st
then_value (Yields (Go t v) st) k = Yields (Go t v) st
then_value (Yields (Stop l) st) k = Yields (Stop l) st
then_value NoIndex k = NoIndex

abbrev pub stop : Limit → State → Result
stop l st = Yields (Stop l) st

-- tells that an activation was dropped with this outcome; a limit drops nothing
abbrev pub ended : ℕ → Outcome → State → State
ended n (Answer v) st = told (Event.End n false) st
ended n (Go t v) st = told (Event.End n true) st
ended n (Stop l) st = st

-- the value of the text of a trouble, which stands behind the program's literals
abbrev pub trouble_text : Program → Trouble → Value
trouble_text p trouble = Object (p.trouble_place + place_of trouble)

-- ---- variables

abbrev pub shared : List Value → ℕ → Value
shared variables i = get_or variables i Nil

abbrev pub first_class_slot : Program → Value → ℕ
first_class_slot p (Class class) = (class_at p class).class_slots
first_class_slot p v = 0

unfoldable pub read_place : Program → Frame → State → Place → Value
read_place p f st (Scoped up index) = scoped_variable st.store f.scope up index
read_place p f st (Slot index) = slot_of st.store f.self index
read_place p f st (ClassSlot index) = shared st.variables (first_class_slot p f.self + index)
read_place p f st (Shared index) = shared st.variables index

abbrev pub with_self_slot : Value → ℕ → Value → Store → Store
with_self_slot (Object number) index v s = with_slot number index v s
with_self_slot self index v s = s

unfoldable pub write_place : Program → Frame → State → Place → Value → State
write_place p f st (Scoped up index) v = with_store st (with_scoped_variable st.store f.scope up index v)
write_place p f st (Slot index) v = with_store st (with_self_slot f.self index v st.store)
write_place p f st (ClassSlot index) v = record st { variables = slice_set st.variables (first_class_slot p f.self + index) v }
write_place p f st (Shared index) v = record st { variables = slice_set st.variables index v }

-- ---- new objects of the rules

-- the store with a block of this code, made in this frame
unfoldable pub with_block : Frame → (code : ℕ) → Store → Store
with_block f code s = block_added block_class (record { code = code; class = f.class; receiver = f.self; scope = f.scope; home = f.home }) s

-- the store with the Array of a failed send's arguments, and then with its Message
unfoldable pub with_arguments : List Value → Store → Store
with_arguments args s = with_new array_class args [] s

unfoldable pub with_message : (selector : ℕ) → (array : Value) → Store → Store
with_message selector array s = with_new message_class (Symbol selector ∷ array ∷ []) [] s

-- ---- bodies that are opened

-- the activation of a body: its code, what it is, self, the class that it is written in, its number, that of its home, the scope around it, its arguments and its environment
pub record Opening : Type 0 where
  pub code : ℕ
  pub kind : Kind
  pub self : Value
  pub class : Value
  pub own : ℕ
  pub home : ℕ
  pub outer : Option ℕ
  pub arguments : List Value
  pub env : Env

abbrev pub block_opening : Closure → List Value → Env → ℕ → Opening
block_opening c args env own = record { code = c.code; kind = InBlock; self = c.receiver; class = c.class; own = own; home = c.home; outer = c.scope; arguments = args; env = env }

abbrev pub method_opening : Program → ℕ → Value → List Value → Env → ℕ → Opening
method_opening p code self args env own = record { code = code; kind = InMethod; self = self; class = (body_at p code).class; own = own; home = own; outer = None; arguments = args; env = env }

abbrev pub initializer_opening : Program → Initializer → ℕ → Opening
initializer_opening p x own = record { code = x.code; kind = InInitializer; self = x.self; class = (body_at p x.code).class; own = own; home = own; outer = None; arguments = []; env = [] }

-- its frame, whose scope is the next one that is made
abbrev pub frame_of : Opening → Store → Frame
frame_of x s = record { code = x.code; kind = x.kind; self = x.self; class = x.class; own = x.own; home = x.home; scope = Some (length s.scopes) }

-- the store with its scope
unfoldable pub with_opened : Program → Opening → Store → Store
with_opened p x s = with_scope s x.code x.outer (first_variables (body_at p x.code).captured x.arguments)

-- ---- outcomes at activations

-- a body takes an unwinding to its own number as its value; a method that falls off its end answers self
abbrev pub at_home : ℕ → Target → Value → Outcome
at_home n (Home m) v = if nat_eq m n then Answer v else Go (Home m) v
at_home n t v = Go t v

abbrev pub body_value : Kind → Frame → Value → Value
body_value InMethod f v = f.self
body_value InBlock f v = v
body_value InInitializer f v = v

abbrev pub body_end : Frame → Outcome → Outcome
body_end f (Answer v) = Answer (body_value f.kind f v)
body_end f (Go t v) = at_home f.own t v
body_end f (Stop l) = Stop l

-- `^` past a home that is gone ends the block with what the signal answers
abbrev pub left_end : Frame → Outcome → Outcome
left_end f (Answer v) = Go (Home f.own) v
left_end f (Go t v) = Go t v
left_end f (Stop l) = Stop l

-- a turn: a handler's value ends its `on:do:`; a default action's is the signal's where the turn stands directly at its signal, else it resumes
abbrev pub default_value : Bool → ℕ → Value → Outcome
default_value true resume v = Answer v
default_value false resume v = Go (Resume resume) v

abbrev pub turn_value : Turn → List Mark → Value → Outcome
turn_value t standing v = elim t.entry [ Some entry ↦ Go (Protected entry.number) v | None ↦ default_value (is_at_signal t.signal standing) t.resume_point v ]

abbrev pub turn_end : Turn → List Mark → Outcome → Outcome
turn_end t standing (Answer v) = turn_value t standing v
turn_end t standing (Go g v) = Go g v
turn_end t standing (Stop l) = Stop l

-- an outer point takes what resumes it
abbrev pub at_outer : ℕ → Target → Value → Outcome
at_outer n (Resume m) v = if nat_eq m n then Answer v else Go (Resume m) v
at_outer n t v = Go t v

abbrev pub outer_end : ℕ → Outcome → Outcome
outer_end n (Answer v) = Answer v
outer_end n (Go t v) = at_outer n t v
outer_end n (Stop l) = Stop l

-- a signal point: an outcome, or the signal of another exception in its place
pub data SignalVerdict : Type 0 where
  Ends : Outcome → SignalVerdict
  Signals : (exception : ℕ) → SignalVerdict

abbrev pub at_signal : ℕ → Target → Value → SignalVerdict
at_signal n (Resume m) v = if nat_eq m n then Ends (Answer v) else Ends (Go (Resume m) v)
at_signal n (Resignal m f) v = if nat_eq m n then Signals f else Ends (Go (Resignal m f) v)
at_signal n t v = Ends (Go t v)

abbrev pub signal_end : ℕ → Outcome → SignalVerdict
signal_end n (Answer v) = Ends (Answer v)
signal_end n (Go t v) = at_signal n t v
signal_end n (Stop l) = Ends (Stop l)

-- an `on:do:`: an outcome, or the application of a receiver once more
pub data Verdict : Type 0 where
  Leaves : Outcome → Verdict
  Again : (receiver : Value) → Verdict

abbrev pub at_protect : ℕ → Value → Target → Value → Verdict
at_protect n receiver (Protected m) v = if nat_eq m n then Leaves (Answer v) else Leaves (Go (Protected m) v)
at_protect n receiver (Retry m) v = if nat_eq m n then Again receiver else Leaves (Go (Retry m) v)
at_protect n receiver (RetryWith m) v = if nat_eq m n then Again v else Leaves (Go (RetryWith m) v)
at_protect n receiver t v = Leaves (Go t v)

abbrev pub protect_end : ℕ → Value → Outcome → Verdict
protect_end n receiver (Answer v) = Leaves (Answer v)
protect_end n receiver (Go t v) = at_protect n receiver t v
protect_end n receiver (Stop l) = Leaves (Stop l)

-- a termination block: the outcome that was held, unless the block itself leaves
abbrev pub action_end : Outcome → Outcome → Outcome
action_end held (Answer v) = held
action_end held (Go t v) = Go t v
action_end held (Stop l) = Stop l

-- ---- searches and waits

-- what a search is for: a signal, `pass`, `outer` with its point, `isNested`
pub data Purpose : Type 0 where
  ForSignal : Purpose
  ForPass : Turn → Purpose
  ForOuter : Turn → (point : ℕ) → Purpose
  ForNested : Purpose

-- a search: its exception, the signal or turn that searches, the whole environment, and what it is for
pub record Search : Type 0 where
  pub exception : ℕ
  pub who : ℕ
  pub whole : Env
  pub purpose : Purpose

abbrev pub signal_search : ℕ → ℕ → Env → Search
signal_search n e env = record { exception = e; who = n; whole = env; purpose = ForSignal }

abbrev pub turn_search : ℕ → ℕ → Turn → Purpose → Search
turn_search k e t purpose = record { exception = e; who = k; whole = t.outside; purpose = purpose }

abbrev resume_of : Search → ℕ
resume_of x = elim x.purpose [ ForSignal ↦ x.who | ForPass t ↦ t.resume_point | ForOuter t point ↦ point | ForNested ↦ x.who ]

abbrev signal_of : Search → ℕ
signal_of x = elim x.purpose [ ForSignal ↦ x.who | ForPass t ↦ t.signal | ForOuter t point ↦ t.signal | ForNested ↦ x.who ]

-- the turn that a search begins, with its entry and in its environment
abbrev pub turn_for : Search → Option Entry → Env → Turn
turn_for x entry outside = record { exception = x.exception; entry = entry; outside = outside; resume_point = resume_of x; signal = signal_of x }

abbrev pub asks_nested : Search → Bool
asks_nested x = elim x.purpose [ ForSignal ↦ false | ForPass t ↦ false | ForOuter t point ↦ false | ForNested ↦ true ]

-- what waits for the answer of `isResumable`
pub data Wait : Type 0 where
  ToResume : Value → Wait
  ToOuter : Wait

-- the first list turned round, before the second
abbrev pub onto : List Value → List Value → List Value
onto [] vs = vs
onto (w ∷ ws) vs = onto ws (w ∷ vs)
