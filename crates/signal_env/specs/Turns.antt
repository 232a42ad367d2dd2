-- The innermost turn of an exception among what stands, and whether a signal of it stands. Source: ANSI 5 (exceptions).
use Rattle.std.specs.Prelude.{ℕ, Bool, true, false, List, [], ◌∷◌, Option, Some, None, nat_eq, if◌then◌else◌}
use Rattle.st_contexts.specs.declared.activation.Activation.{Activation}
use Rattle.st_contexts.specs.declared.activation.Activation.TheVariants.{HandlerRun, Signal}
use Rattle.st_contexts.specs.declared.activation.Numbered.{Numbered}
use Rattle.st_contexts.specs.declared.activation.Turn.{Turn}
use Rattle.st_contexts.specs.Stack.{Standing, numbered}
use Rattle.signal_env.specs.declared.turns.FoundTurn.{FoundTurn}

abbrev pub turn_kept : Activation → Option Turn
turn_kept (HandlerRun turn) = Some turn
turn_kept _ = None

abbrev pub if_of : ℕ → ℕ → Option Turn → Option FoundTurn
if_of exception number None = None
if_of exception number (Some turn) = if nat_eq turn.exception exception then Some (record { number = number; turn = turn }) else None

-- the turn that an activation is, if it is one of this exception
abbrev pub turn_at : ℕ → Numbered → Option FoundTurn
turn_at exception a = if_of exception a.number (turn_kept a.kept)

abbrev pub or_turn : Option FoundTurn → Option FoundTurn → Option FoundTurn
or_turn None rest = rest
or_turn (Some found) rest = Some found

-- the innermost turn of an exception
unfoldable pub turn_in : ℕ → List Standing → Option FoundTurn
turn_in exception [] = None
turn_in exception (a ∷ acts) = or_turn (turn_at exception (numbered a)) (turn_in exception acts)

abbrev pub signals : ℕ → Activation → Bool
signals exception (Signal signaled) = nat_eq signaled exception
signals exception _ = false

abbrev pub signals_at : ℕ → Numbered → Bool
signals_at exception a = signals exception a.kept

-- a signal of this exception stands
unfoldable pub live_in : ℕ → List Standing → Bool
live_in exception [] = false
live_in exception (a ∷ acts) = if signals_at exception (numbered a) then true else live_in exception acts
