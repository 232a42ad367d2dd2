-- How activations come to stand: the counts of steps and depth, and a body with its variables.
use Rattle.std.specs.Prelude.{ℕ, ◌+◌, ◌-◌, ◌^◌, max, Bool, false, List, length, Option, Some, None, nat_eq, nat_lt, nat_le, if◌then◌else◌}
use Rattle.object_heap.specs.declared.value.Value.{Value}
use Rattle.object_heap.specs.declared.value.Value.TheVariants.{Object}
use Rattle.object_heap.specs.declared.value.Closure.{Closure}
use Rattle.object_heap.specs.Store.{closure_at}
use Rattle.object_heap.specs.Charges.{with_store, scope_made, scope_charge}
use Rattle.st_contexts.specs.declared.activation.Activation.{Activation}
use Rattle.st_contexts.specs.declared.activation.Activation.TheVariants.{Body}
use Rattle.st_contexts.specs.declared.activation.Frame.{Frame}
use Rattle.st_contexts.specs.declared.activation.Env.{Env}
use Rattle.st_contexts.specs.declared.outcome.Outcome.{Outcome}
use Rattle.st_contexts.specs.declared.outcome.Outcome.TheVariants.{Stop}
use Rattle.st_contexts.specs.declared.outcome.Limit.{Limit}
use Rattle.st_contexts.specs.declared.outcome.Limit.TheVariants as limit
use Rattle.st_contexts.specs.Stack.{pushed, popped, with_kept}
use Rattle.st_rules.specs.State.{count_true}
use Rattle.st_rules.specs.Flat.{code_at}
use Rattle.st_machine.specs.declared.work.Mode.TheVariants.{Run, Settle, Begin}
use Rattle.st_machine.specs.declared.work.Work.{Work}
use Rattle.st_machine.specs.declared.work.Work.TheVariants.{SendValue, Activate}
use Rattle.st_machine.specs.declared.opening.Opening.{Opening}
use Rattle.st_machine.specs.Seen.{Seen, with_stack, with_memory, with_mode}
use Rattle.st_machine.specs.Plans.{program_in}
use Rattle.st_machine.specs.Operands.{own_pushed}
use Rattle.st_machine.specs.Scopes.{captured_put, if_room}

-- ---- counts and limits

-- one more activation may stand, and has a number
abbrev pub has_place : Seen → Bool
has_place s = if nat_eq s.stack.next (2 ^ 64 - 1) then false else nat_le (length s.stack.acts + 1) s.stack.depth

abbrev pub stood : Activation → Env → Seen → Seen
stood kept env s = if has_place s then record s { stack = pushed kept env s.stack; deepest = max s.deepest (length s.stack.acts + 1) } else s

abbrev pub stood_number : Seen → Option ℕ
stood_number s = if has_place s then Some s.stack.next else None

abbrev pub has_step : Seen → Bool
has_step s = nat_lt s.steps (program_in s.plan).step_limit

abbrev pub stepped : Seen → Seen
stepped s = if has_step s then record s { steps = s.steps + 1 } else s

-- an outcome is in hand
abbrev pub settling : Outcome → Seen → Seen
settling o s = with_mode s (Settle o)

abbrev pub stopped : Limit → Seen → Seen
stopped l s = settling (Stop l) s

abbrev pub beginning : Work → Seen → Seen
beginning work s = with_mode s (Begin work)

-- the innermost activation is dropped, with an outcome in hand
abbrev pub left_with : Outcome → Seen → Seen
left_with o s = settling o (with_stack s (popped s.stack))

-- ---- bodies

abbrev pub home_or : ℕ → Option ℕ → ℕ
home_or own None = own
home_or own (Some home) = home

abbrev pub frame_for : Opening → ℕ → Frame
frame_for x own = record { code = x.code; position = 0; receiver = x.receiver; class = x.class; scope = x.outer; home = home_or own x.home }

abbrev pub captured_in : Seen → ℕ → List Bool
captured_in s code = (code_at s.plan.codes code).captured

abbrev pub in_scope : ℕ → Frame → Frame
in_scope scope f = record { code = f.code; position = f.position; receiver = f.receiver; class = f.class; scope = Some scope; home = f.home }

-- the variables that no block names are its first operands, and it runs
abbrev pub own_furnished : Frame → Seen → Seen
own_furnished f s = with_mode (with_stack s (own_pushed (captured_in s f.code) s.passed.values s.stack)) Run

-- the others stand in this new scope
abbrev pub filled : Frame → ℕ → Seen → Seen
filled f scope s =
    own_furnished f (with_stack
    (with_memory s (with_store (captured_put (captured_in s f.code) s.passed.values scope 0 s.memory.store) s.memory))
    (with_kept (Body (in_scope scope f)) s.stack))

abbrev pub scope_furnished : Option ℕ → Frame → Seen → Seen
scope_furnished (Some scope) f s = filled f scope s
scope_furnished None f s = stopped limit.Cells (with_stack s (popped s.stack))

-- a body with variables that a block names has a scope
abbrev pub furnished_with : ℕ → Frame → Seen → Seen
furnished_with n f s =
    if nat_eq n 0 then own_furnished f s else
    scope_furnished (if_room (scope_charge n) (length s.memory.store.scopes) s.memory) f (with_memory s (scope_made f.code n f.scope s.memory))

abbrev pub furnished : Frame → Seen → Seen
furnished f s = furnished_with (count_true (captured_in s f.code)) f s

abbrev pub opened : Opening → Seen → Seen
opened x s = if has_place s then furnished (frame_for x s.stack.next) (stood (Body (frame_for x s.stack.next)) x.env s) else stopped limit.Depth s

abbrev pub block_opening : Closure → Env → Opening
block_opening c env = record { code = c.code; receiver = c.receiver; class = c.class; home = Some c.home; outer = c.scope; env = env }

-- a block costs a step
abbrev pub activated : Closure → Env → Seen → Seen
activated c env s = if has_step s then opened (block_opening c env) (stepped s) else stopped limit.Steps s

abbrev pub entered : ℕ → Value → Env → Seen → Seen
entered code receiver env s = opened (record { code = code; receiver = receiver; class = (code_at s.plan.codes code).class; home = None; outer = None; env = env }) s

-- ---- applications

abbrev pub closure_in : Value → Seen → Option Closure
closure_in (Object number) s = closure_at number s.memory.store
closure_in v s = None

abbrev pub fitting : Option Closure → Seen → Option Closure
fitting None s = None
fitting (Some c) s = if nat_eq (code_at s.plan.codes c.code).parameters (length s.passed.values) then Some c else None

abbrev pub apply_work : Option Closure → Value → Env → Work
apply_work (Some c) receiver env = Activate c env
apply_work None receiver env = SendValue receiver env

abbrev pub applied : Value → Env → Seen → Seen
applied receiver env s = beginning (apply_work (fitting (closure_in receiver s) s) receiver env) s
