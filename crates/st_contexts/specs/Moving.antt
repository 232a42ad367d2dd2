-- The innermost body, and how it comes to its next instruction in place; the innermost loop, and how it moves in place.
use Rattle.std.specs.Prelude.{ℕ, ◌+◌, ◌-◌, ◌^◌, min, ℤ, Bool, false, Option, Some, None}
use Rattle.object_heap.specs.declared.value.Value.{Value}
use Rattle.object_heap.specs.declared.value.Value.TheVariants.{Nil}
use Rattle.st_loops.specs.declared.state.LoopState.{LoopState}
use Rattle.st_contexts.specs.declared.activation.Activation.{Activation}
use Rattle.st_contexts.specs.declared.activation.Activation.TheVariants.{Body, Loop}
use Rattle.st_contexts.specs.declared.activation.Frame.{Frame}
use Rattle.st_contexts.specs.Stack.{Stack, with_acts, at_top, of_top}

-- what a body runs that goes on
abbrev pub body_in : Activation → Option Frame
body_in (Body f) = Some f
body_in _ = None

abbrev pub body_of : Stack → Option Frame
body_of s = of_top None (λ a. body_in a.kept) s.acts

-- the frame at its next instruction
abbrev pub next_frame : Frame → Frame
next_frame f = record { code = f.code; position = min (f.position + 1) (2 ^ 32 - 1); receiver = f.receiver; class = f.class; scope = f.scope; home = f.home }

-- a body goes on, and all else stays as it is
abbrev pub next_in : Activation → Activation
next_in (Body f) = Body (next_frame f)
next_in kept = kept

abbrev pub moved_here : Stack → Stack
moved_here s = with_acts s (at_top (λ a. record { number = a.number; kept = next_in a.kept; env = a.env; operands = a.operands }) s.acts)

-- ---- the innermost loop

-- where a loop is that goes on
abbrev pub loop_in : Activation → Option LoopState
loop_in (Loop l) = Some l
loop_in _ = None

abbrev pub loop_of : Stack → Option LoopState
loop_of s = of_top None (λ a. loop_in a.kept) s.acts

-- a loop changed, and all else as it is
abbrev pub with_loop : (LoopState → LoopState) → Activation → Activation
with_loop f (Loop l) = Loop (f l)
with_loop f kept = kept

abbrev pub kept_changed : (Activation → Activation) → Stack → Stack
kept_changed f s = with_acts s (at_top (λ a. record { number = a.number; kept = f a.kept; env = a.env; operands = a.operands }) s.acts)

abbrev pub loop_changed : (LoopState → LoopState) → Stack → Stack
loop_changed f s = kept_changed (with_loop f) s

-- the loop at another index, where it waits for a visit
abbrev pub loop_at : ℤ → LoopState → LoopState
loop_at i l = record { kind = l.kind; receiver = l.receiver; arguments = l.arguments; index = i; made = l.made; visited = Nil; aside = false }

-- the loop with another value made so far
abbrev pub loop_made : Value → LoopState → LoopState
loop_made v l = record { kind = l.kind; receiver = l.receiver; arguments = l.arguments; index = l.index; made = v; visited = l.visited; aside = l.aside }

-- the loop where it waits for something else than a visit, or for a visit again
abbrev pub loop_aside : Bool → LoopState → LoopState
loop_aside aside l = record { kind = l.kind; receiver = l.receiver; arguments = l.arguments; index = l.index; made = l.made; visited = l.visited; aside = aside }
