-- What an instruction makes of the machine.
use Rattle.std.specs.Prelude.{ℕ, ◌+◌, ◌-◌, ◌^◌, min, Bool, true, false, [], length, get_or, slice_get, slice_set, Option, Some, None}
use Rattle.object_heap.specs.declared.value.Value.{Value}
use Rattle.object_heap.specs.declared.value.Value.TheVariants.{Nil, Object}
use Rattle.object_heap.specs.declared.value.Closure.{Closure}
use Rattle.object_heap.specs.declared.trouble.Trouble.TheVariants.{HomeHasReturned}
use Rattle.object_heap.specs.Charges.{with_store, closure_made}
use Rattle.st_code.specs.declared.instruction.Variable.{Variable}
use Rattle.st_code.specs.declared.instruction.Variable.TheVariants.{Own, Scope, Instance, ClassInstance, Shared}
use Rattle.st_code.specs.declared.instruction.Instruction.{Instruction}
use Rattle.st_code.specs.declared.instruction.Instruction.TheVariants.{PushConstant, PushSelf, PushVariable, Store, Pop, Dup, Send, SuperSend, MakeBlock, MethodReturn, HomeReturn, BlockEnd}
use Rattle.st_code.specs.Compiled.{constant_value}
use Rattle.st_code.specs.BuiltIns.{block_class}
use Rattle.st_collections.specs.Kinds.{slot_of}
use Rattle.st_contexts.specs.declared.activation.Activation.{Activation}
use Rattle.st_contexts.specs.declared.activation.Activation.TheVariants.{Body, Leaving}
use Rattle.st_contexts.specs.declared.activation.Frame.{Frame}
use Rattle.st_contexts.specs.declared.outcome.Outcome.TheVariants.{Answer, Go}
use Rattle.st_contexts.specs.declared.outcome.Target.TheVariants.{Home}
use Rattle.st_contexts.specs.declared.outcome.Limit.TheVariants as limit
use Rattle.st_contexts.specs.Stack.{top_kept, top_env, top_value, value_popped, variable_of, with_variable, with_kept, stands_in}
use Rattle.st_rules.specs.State.{scoped_variable, with_scoped_variable}
use Rattle.st_rules.specs.Ends.{first_class_slot, with_self_slot}
use Rattle.st_rules.specs.Flat.{code_at}
use Rattle.st_machine.specs.declared.work.Work.{Work}
use Rattle.st_machine.specs.declared.work.Work.TheVariants.{SendTo, SuperTo, Fail}
use Rattle.st_machine.specs.Seen.{Seen, with_stack, with_memory, with_variables, with_passed, passing}
use Rattle.st_machine.specs.Plans.{program_in}
use Rattle.st_machine.specs.Operands.{moved_on, delivered, taken}
use Rattle.st_machine.specs.Scopes.{if_room}
use Rattle.st_machine.specs.Opening.{stopped, settling, left_with, beginning}

abbrev pub value_delivered : Frame → Value → Seen → Seen
value_delivered f v s = with_stack s (delivered f v s.stack)

abbrev pub gone_on : Frame → Seen → Seen
gone_on f s = with_stack s (moved_on f s.stack)

-- ---- variables

abbrev pub class_slot_of : Frame → ℕ → Seen → ℕ
class_slot_of f index s = first_class_slot (program_in s.plan) f.receiver + index

abbrev pub variable_read : Variable → Frame → Seen → Value
variable_read (Own index) f s = variable_of index s.stack
variable_read (Scope up index) f s = scoped_variable s.memory.store f.scope up index
variable_read (Instance index) f s = slot_of s.memory.store f.receiver index
variable_read (ClassInstance index) f s = get_or s.variables (class_slot_of f index s) Nil
variable_read (Shared index) f s = get_or s.variables index Nil

abbrev pub variable_written : Variable → Value → Frame → Seen → Seen
variable_written (Own index) v f s = with_stack s (with_variable index v s.stack)
variable_written (Scope up index) v f s = with_memory s (with_store (with_scoped_variable s.memory.store f.scope up index v) s.memory)
variable_written (Instance index) v f s = with_memory s (with_store (with_self_slot f.receiver index v s.memory.store) s.memory)
variable_written (ClassInstance index) v f s = with_variables s (slice_set s.variables (class_slot_of f index s) v)
variable_written (Shared index) v f s = with_variables s (slice_set s.variables index v)

abbrev pub stored : Variable → Frame → Seen → Seen
stored variable f s = gone_on f (variable_written variable (top_value s.stack) f s)

-- ---- blocks

abbrev pub closure_of : ℕ → Frame → Closure
closure_of code f = record { code = code; class = f.class; receiver = f.receiver; scope = f.scope; home = f.home }

abbrev pub block_delivered : Option ℕ → Frame → Seen → Seen
block_delivered (Some number) f s = value_delivered f (Object number) s
block_delivered None f s = stopped limit.Cells s

abbrev pub block_made : ℕ → Frame → Seen → Seen
block_made code f s = block_delivered (if_room 2 (length s.memory.store.objects) s.memory) f (with_memory s (closure_made block_class (closure_of code f) s.memory))

-- ---- sends and returns

-- the arguments are taken, and then the receiver
abbrev pub arguments_taken : ℕ → Seen → Seen
arguments_taken count s =
    with_passed (with_stack s (taken (min count s.passed.room) s.stack []).stack) (passing (taken (min count s.passed.room) s.stack []).values s.passed)

abbrev pub operand_dropped : Seen → Seen
operand_dropped s = with_stack s (value_popped s.stack)

abbrev pub sending : (Value → Work) → Seen → Seen
sending work s = beginning (work (top_value s.stack)) (operand_dropped s)

abbrev pub sent : ℕ → ℕ → Seen → Seen
sent selector count s = sending (λ receiver. SendTo selector receiver (top_env s.stack)) (arguments_taken count s)

abbrev pub super_sent : ℕ → ℕ → Frame → Seen → Seen
super_sent selector count f s = sending (λ receiver. SuperTo f.class selector receiver (top_env s.stack)) (arguments_taken count s)

abbrev pub answering : Seen → Seen
answering s = left_with (Answer (top_value s.stack)) s

abbrev pub leaves_home : Bool → Value → Frame → Seen → Seen
leaves_home true v f s = settling (Go (Home f.home) v) s
leaves_home false v f s = beginning (Fail HomeHasReturned (top_env s.stack)) (with_stack s (with_kept (Leaving f) s.stack))

abbrev pub returned_home : Frame → Seen → Seen
returned_home f s = leaves_home (stands_in f.home (value_popped s.stack).acts) (top_value s.stack) f (operand_dropped s)

-- ---- instructions

abbrev pub performed : Instruction → Frame → Seen → Seen
performed (PushConstant c) f s = value_delivered f (constant_value c) s
performed PushSelf f s = value_delivered f f.receiver s
performed (PushVariable variable) f s = value_delivered f (variable_read variable f s) s
performed (Store variable) f s = stored variable f s
performed Pop f s = gone_on f (operand_dropped s)
performed Dup f s = value_delivered f (top_value s.stack) s
performed (Send selector count) f s = sent selector count s
performed (SuperSend selector count) f s = super_sent selector count f s
performed (MakeBlock code) f s = block_made code f s
performed MethodReturn f s = answering s
performed HomeReturn f s = returned_home f s
performed BlockEnd f s = answering s

-- the next instruction counts, also where a body is at its end
abbrev pub counted : Seen → Seen
counted s = record s { instructions = min (s.instructions + 1) (2 ^ 64 - 1) }

abbrev pub next_performed : Option Instruction → Frame → Seen → Seen
next_performed (Some i) f s = performed i f s
next_performed None f s = left_with (Answer Nil) s

abbrev pub instructed_at : Option Activation → Seen → Seen
instructed_at (Some (Body f)) s = next_performed (slice_get (code_at s.plan.codes f.code).instructions f.position) f (counted s)
instructed_at _ s = s

-- the innermost body runs its next instruction
abbrev pub instructed : Seen → Seen
instructed s = instructed_at (top_kept s.stack) s
