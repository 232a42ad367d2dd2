-- The law of the machine: what it does is what the flat machine does.
use Rattle.std.specs.Prelude.{◌≡◌, ℕ, ◌-◌, ◌<◌, ◌≤◌, ◌^◌, List, [], ◌∷◌, ◌++◌, map, slice_get, Option, Some, None}
use Rattle.st_code.specs.Texts.{Text}
use Rattle.st_code.specs.declared.instruction.Instruction.{Instruction}
use Rattle.st_code.specs.declared.instruction.Instruction.TheVariants.{Send, SuperSend}
use Rattle.st_code.specs.Compiled.{Compiled, compile_of, count_uncaptured}
use Rattle.st_contexts.specs.declared.activation.Activation.{Activation}
use Rattle.st_contexts.specs.declared.activation.Activation.TheVariants as act
use Rattle.st_contexts.specs.declared.activation.Purpose.{Purpose}
use Rattle.st_contexts.specs.declared.activation.Purpose.TheVariants as purpose
use Rattle.st_contexts.specs.declared.activation.SearchState.{SearchState}
use Rattle.st_contexts.specs.declared.activation.Turn.{Turn}
use Rattle.st_contexts.specs.declared.activation.Env.{Env}
use Rattle.st_contexts.specs.Stack.{Standing}
use Rattle.st_loops.specs.States.{state_of}
use Rattle.st_rules.specs.Events.{Event}
use Rattle.st_rules.specs.Flat.{FlatBody, code_at}
use Rattle.st_rules.specs.Turns.{Top, top_iter, instructions}
use Rattle.st_machine.specs.declared.work.Mode.{Mode}
use Rattle.st_machine.specs.declared.work.Mode.TheVariants as mode
use Rattle.st_machine.specs.declared.work.Work.{Work}
use Rattle.st_machine.specs.declared.work.Work.TheVariants as work
use Rattle.st_machine.specs.Seen.{Seen}
use Rattle.st_machine.specs.Plans.{program_in, room_in}
use Rattle.st_machine.specs.Initializers.{seen_initializer}
use Rattle.st_machine.specs.Sound.{IsSent, IsKept}
use Rattle.st_machine.specs.Sending.{send_is_sound, send_of, super_send_is_sound, super_send_of, value_in}
use Rattle.st_machine.specs.Steps.{advanced, advance_told, advance_written}
use Rattle.st_machine.specs.Meaning.{events_of, flat_of, top_of}

-- ---- links name activations further out

abbrev pub EntryBelow : ℕ → Option ℕ → Type 0
EntryBelow n None = Unit {0}
EntryBelow n (Some entry) = entry < n

abbrev pub TurnBelow : ℕ → Turn → Type 0
TurnBelow n t = (t.outside.0 < n) × EntryBelow n t.entry

abbrev pub PurposeBelow : ℕ → Purpose → Type 0
PurposeBelow n purpose.Signal = Unit {0}
PurposeBelow n (purpose.Pass t) = TurnBelow n t
PurposeBelow n (purpose.Outer t point) = TurnBelow n t
PurposeBelow n purpose.IsNested = Unit {0}

abbrev pub SearchBelow : ℕ → SearchState → Type 0
SearchBelow n x = (x.whole.0 < n) × PurposeBelow n x.purpose

-- what an activation of this number keeps names activations of smaller ones, and a body has a next position
abbrev pub KeptBelow : ℕ → Activation → Type 0
KeptBelow n (act.Body f) = f.position < 2 ^ 32 - 1
KeptBelow n (act.HandlerRun t) = TurnBelow n t
KeptBelow n (act.ResumeWait w k t) = TurnBelow n t
KeptBelow n (act.HandlesWait x entry) = SearchBelow n x × (entry < n)
KeptBelow n _ = Unit {0}

pub record Below (n : ℕ) (a : Standing) : Type 0 where
  pub number : a.number < n
  pub env : a.env.0 < a.number
  pub kept : KeptBelow a.number a.kept

-- numbers fall, from below a bound
abbrev pub Falling : ℕ → List Standing → Type 0
Falling n [] = Unit {0}
Falling n (a ∷ acts) = Below n a × Falling a.number acts

-- ---- codes

abbrev pub CountFits : ℕ → Option Instruction → Type 0
CountFits room (Some (Send selector count)) = count ≤ room
CountFits room (Some (SuperSend selector count)) = count ≤ room
CountFits room _ = Unit {0}

-- there is room for the arguments of each send and for the variables of each body
pub record Roomy (codes : List Compiled) (room : ℕ) : Type 0 where
  pub counts : (code position : ℕ) → CountFits room (slice_get (code_at codes code).instructions position)
  pub variables : (code : ℕ) → count_uncaptured (code_at codes code).captured ≤ room

-- ---- a machine that can make its next step

abbrev pub IsBody : List Standing → Type 0
IsBody [] = ⊥
IsBody (a ∷ acts) = elim a.kept [ act.Body f ↦ Unit {0} | _ ↦ ⊥ ]

abbrev pub WorkBelow : ℕ → Work → Type 0
WorkBelow n (work.Apply receiver env) = env.0 < n
WorkBelow n (work.SendValue receiver env) = env.0 < n
WorkBelow n (work.Activate closure env) = env.0 < n
WorkBelow n (work.Enter code receiver env) = env.0 < n
WorkBelow n (work.SendTo selector receiver env) = env.0 < n
WorkBelow n (work.SuperTo class selector receiver env) = env.0 < n
WorkBelow n (work.Fail trouble env) = env.0 < n
WorkBelow n (work.Raise exception env) = env.0 < n
WorkBelow n (work.RaiseNew class env) = env.0 < n
WorkBelow n (work.Search x rest) = SearchBelow n x × (rest.0 < n)
WorkBelow n (work.TurnBy x entry outside) = (SearchBelow n x × EntryBelow n entry) × (outside.0 < n)
WorkBelow n (work.Ask w k t env) = TurnBelow n t × (env.0 < n)
WorkBelow n (work.Visit number l v env) = env.0 < n

-- the loop that gets a value stands innermost
abbrev pub AtLoop : Work → List Standing → Type 0
AtLoop (work.Visit number l v env) [] = ⊥
AtLoop (work.Visit number l v env) (a ∷ acts) = (a.number ≡ number) × (a.env ≡ env)
AtLoop _ acts = Unit {0}

abbrev pub CanGoOn : Mode → Seen → Type 0
CanGoOn mode.Run s = IsBody s.stack.acts
CanGoOn (mode.Begin w) s = WorkBelow s.stack.next w × AtLoop w s.stack.acts
CanGoOn mode.Next s = s.stack.acts ≡ []
CanGoOn _ s = Unit {0}

-- what the next work asks of the store holds
abbrev pub IsSound : Mode → Seen → Type 0
IsSound (mode.Begin (work.SendValue receiver env)) s = IsSent (send_is_sound (value_in s) receiver s) (send_of (value_in s) receiver s) s
IsSound (mode.Begin (work.SendTo selector receiver env)) s = IsSent (send_is_sound selector receiver s) (send_of selector receiver s) s
IsSound (mode.Begin (work.SuperTo class selector receiver env)) s = IsSent (super_send_is_sound class selector receiver s) (super_send_of class selector receiver s) s
IsSound (mode.Begin (work.Visit n l v env)) s = IsKept (state_of l) s
IsSound _ s = Unit {0}

pub record Ready (s : Seen) : Type 0 where
  pub compiled : s.plan.codes ≡ compile_of (program_in s.plan)
  pub initializers : map seen_initializer s.plan.initializers ≡ (program_in s.plan).initializers
  pub troubles : s.plan.troubles ≡ (program_in s.plan).trouble_place
  pub roomy : Roomy s.plan.codes s.stack.width
  pub space : 8 ≤ s.stack.width
  pub passes : s.stack.width ≤ s.passed.room
  pub arguments : s.passed.room ≡ room_in s.plan
  pub depth : s.stack.depth ≡ (program_in s.plan).depth_limit
  pub cells : s.memory.limit ≡ (program_in s.plan).cell_limit
  pub within : s.memory.used ≤ s.memory.limit
  pub numbers : s.stack.next < 2 ^ 64 - 1
  pub falling : Falling s.stack.next s.stack.acts
  pub next : CanGoOn s.mode s
  pub sound : IsSound s.mode s

-- a step makes a small step at least, but for the opening of the next initializer, which belongs to the small step before it
abbrev pub Moves : Mode → ℕ → Type 0
Moves mode.Next count = Unit {0}
Moves (mode.Ended e) count = Unit {0}
Moves _ count = 0 < count

-- how many instructions it runs
abbrev pub runs_in : Mode → ℕ
runs_in mode.Run = 1
runs_in _ = 0

-- so many small steps of the flat machine
pub record Leads (s : Seen) (from to : Top FlatBody) : Type 0 where
  pub count : ℕ
  pub moves : Moves s.mode count
  pub counted : instructions (flat_of s) (program_in s.plan) count from ≡ runs_in s.mode
  pub leads : top_iter (flat_of s) (program_in s.plan) count from ≡ to

-- a step of a machine that is ready is some small steps of the flat machine, writes what these write, and tells the events that they tell
abbrev pub FollowsTheFlat : Type 0
FollowsTheFlat = (s : Seen) (transcript : Text) (events : List Event) → Ready s → Leads s (top_of transcript events s) (top_of (transcript ++ advance_written s) (events ++ events_of (advance_told s)) (advanced s))
