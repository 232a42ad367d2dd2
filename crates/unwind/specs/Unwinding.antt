-- What an unwinding drops, and which termination block it comes to. Source: ANSI 5 (ensure:, ifCurtailed:).
use Rattle.std.specs.Prelude.{ℕ, List, [], ◌∷◌, Option, Some, None, nat_eq, if◌then◌else◌}
use Rattle.object_heap.specs.declared.value.Value.{Value}
use Rattle.st_contexts.specs.declared.activation.Activation.{Activation}
use Rattle.st_contexts.specs.declared.activation.Activation.TheVariants.{EnsureOn, CurtailOn, ActionOff}
use Rattle.st_contexts.specs.declared.outcome.Outcome.{Outcome}
use Rattle.st_contexts.specs.Stack.{Standing}
use Rattle.unwind.specs.declared.unwound.Unwound.{Unwound}
use Rattle.unwind.specs.declared.unwound.Unwound.TheVariants.{Reached, Termination}

-- the termination block of an activation, if it is still to run
abbrev pub action_of : Activation → Option Value
action_of (EnsureOn block) = Some block
action_of (CurtailOn block) = Some block
action_of _ = None

-- an activation whose termination block was taken off, and what is done after the block
abbrev pub taken_off : Outcome → Standing → Standing
taken_off held a = record { number = a.number; kept = ActionOff held; env = a.env; operands = a.operands }

-- at one activation: it is the target, it has a termination block, or it is dropped
abbrev pub at_action : {A : Type 0} → Option Value → (Value → A) → A → A
at_action None found dropped = dropped
at_action (Some block) found dropped = found block

-- what stands after an unwinding
unfoldable pub unwound : (target : ℕ) → (held : Outcome) → List Standing → List Standing
unwound target held [] = []
unwound target held (a ∷ acts) =
    if nat_eq a.number target then a ∷ acts else at_action (action_of a.kept) (λ block. taken_off held a ∷ acts) (unwound target held acts)

-- how far it came
unfoldable pub unwound_answer : (target : ℕ) → List Standing → Unwound
unwound_answer target [] = Reached
unwound_answer target (a ∷ acts) =
    if nat_eq a.number target then Reached else at_action (action_of a.kept) (λ block. Termination block a.env) (unwound_answer target acts)
