-- What a message that is sent brings: its step is counted, and what it does at once is performed. Source: ANSI 3.3 and 5.
use Rattle.std.specs.Prelude.{ℕ, Bool, true, false, List, [], ◌∷◌, length, Option, Some, None, if◌then◌else◌}
use Rattle.object_heap.specs.declared.value.Value.{Value}
use Rattle.object_heap.specs.declared.value.Value.TheVariants.{Symbol, Object}
use Rattle.object_heap.specs.declared.trouble.Trouble.TheVariants.{ZeroDivide}
use Rattle.object_heap.specs.Charges.{Memory}
use Rattle.st_code.specs.Texts.{Text}
use Rattle.st_code.specs.BuiltIns.{array_class, message_class, zero_divide_class}
use Rattle.st_collections.specs.declared.answer.Built.{Built}
use Rattle.st_collections.specs.Actions.{Action, Gives, Changes, Makes, Fails, PassesIntegers, DividesByZero, Writes, Begins, Activates, Sends, Misses, Enters, Guards, Ensures, Curtails, Iterates, Raises, RaisesNew, Controls, Terminates}
use Rattle.st_contexts.specs.declared.activation.Activation.{Activation}
use Rattle.st_contexts.specs.declared.activation.Activation.TheVariants as act
use Rattle.st_contexts.specs.declared.activation.Env.{Env}
use Rattle.st_contexts.specs.declared.outcome.Outcome.TheVariants.{Answer, Go}
use Rattle.st_contexts.specs.declared.outcome.Target.TheVariants.{Terminate}
use Rattle.st_contexts.specs.declared.outcome.Limit.TheVariants as limit
use Rattle.st_contexts.specs.declared.watch.Event.{Event}
use Rattle.st_contexts.specs.declared.watch.Event.TheVariants as event
use Rattle.st_rules.specs.Rules.{sends_not_understood}
use Rattle.st_messages.specs.declared.reply.Reply.{Reply}
use Rattle.st_messages.specs.declared.reply.Written.{Written}
use Rattle.st_messages.specs.Replies.{Seen as Said, Answered, Raised, GoesOn, told_by, memory_after}
use Rattle.st_machine.specs.declared.work.Ending.TheVariants as ending
use Rattle.st_machine.specs.declared.work.Told.{Told}
use Rattle.st_machine.specs.declared.work.Told.TheVariants.{Nothing, One}
use Rattle.st_machine.specs.declared.work.Work.TheVariants as work
use Rattle.st_machine.specs.Seen.{Seen, with_memory, with_passed, passing}
use Rattle.st_machine.specs.Plans.{program_in}
use Rattle.st_machine.specs.Opening.{has_place, stood, stopped, settling, beginning}
use Rattle.st_machine.specs.Settling.{ended}
use Rattle.st_machine.specs.Signals.{text_in, if_object, exception_made}
use Rattle.st_machine.specs.Controls.{controlled, control_told}
use Rattle.st_machine.specs.Passing.{passing_on}
use Rattle.st_machine.specs.Loops.{iterated}

-- ---- a message that nothing answers

-- its arguments stand in a new Array, and that in a new Message, which `doesNotUnderstand:` gets
abbrev pub message_sent : Option ℕ → Value → Env → Seen → Seen
message_sent (Some message) r env s = passing_on (Object message ∷ []) (beginning (work.SendTo (sends_not_understood (program_in s.plan)) r env)) s
message_sent None r env s = stopped limit.Cells s

abbrev pub message_slots : (selector array : ℕ) → List Value
message_slots selector array = Symbol selector ∷ Object array ∷ []

abbrev pub message_made : Option ℕ → (selector : ℕ) → Value → Env → Seen → Seen
message_made (Some array) selector r env s =
    message_sent (if_object 2 s.memory) r env (with_memory s (exception_made message_class 2 (message_slots selector array) s.memory))
message_made None selector r env s = stopped limit.Cells s

abbrev pub missed : (selector : ℕ) → Value → List Value → Env → Seen → Seen
missed selector r args env s =
    message_made (if_object (length args) s.memory) selector r env (with_memory s (exception_made array_class (length args) args s.memory))

-- ---- `on:do:`, `ensure:` and `ifCurtailed:`

-- an activation stands, and a receiver is applied to nothing under it
abbrev pub guarded : Activation → Value → Env → Env → Seen → Seen
guarded kept receiver inside env s =
    if has_place s then beginning (work.Apply receiver inside) (with_passed (stood kept env s) (passing [] s.passed)) else stopped limit.Depth s

abbrev pub guard_told : (ℕ → Event) → Seen → Told
guard_told of s = if has_place s then One (of s.stack.next) else Nothing

-- ---- what a message does at once

abbrev pub answered_so : Built → Env → Seen → Seen
answered_so (Built.Value v) env s = settling (Answer v) s
answered_so (Built.Trouble t) env s = beginning (work.Fail t env) s
answered_so (Built.Cells used charge) env s = stopped limit.Cells s
answered_so Built.IntegerLimit env s = stopped limit.Integer s
answered_so Built.OutOfMemory env s = ended ending.Stranded s

-- an action that goes on. The first five and the signal of an exception that is there are told otherwise
abbrev pub gone_on : Action → Env → Seen → Seen
gone_on (Gives v) env s = ended ending.Stranded s
gone_on (Changes t v) env s = ended ending.Stranded s
gone_on (Makes cells t v) env s = ended ending.Stranded s
gone_on (Fails trouble) env s = ended ending.Stranded s
gone_on PassesIntegers env s = ended ending.Stranded s
gone_on (Raises t e) env s = ended ending.Stranded s
gone_on (Writes text v) env s = settling (Answer v) s
gone_on (DividesByZero dividend) env s = passing_on (text_in s.plan ZeroDivide ∷ dividend ∷ []) (beginning (work.RaiseNew zero_divide_class env)) s
gone_on (Begins v args) env s = passing_on args (beginning (work.Apply v env)) s
gone_on (Activates c args) env s = passing_on args (beginning (work.Activate c env)) s
gone_on (Sends selector r args) env s = passing_on args (beginning (work.SendTo selector r env)) s
gone_on (Misses selector r args) env s = missed selector r args env s
gone_on (Enters code r args) env s = passing_on args (beginning (work.Enter code r env)) s
gone_on (Guards receiver selector handler) env s = guarded (act.Protect receiver selector handler) receiver (record { 0 = s.stack.next }) env s
gone_on (Ensures receiver block) env s = guarded (act.EnsureOn block) receiver env env s
gone_on (Curtails receiver block) env s = guarded (act.CurtailOn block) receiver env env s
gone_on (Iterates l) env s = iterated l env s
gone_on (RaisesNew class slots) env s = passing_on slots (beginning (work.RaiseNew class env)) s
gone_on (Controls c e v) env s = controlled c e v env s
gone_on (Terminates v) env s = settling (Go Terminate v) s

abbrev pub gone_on_told : Action → Seen → Told
gone_on_told (Guards receiver selector handler) s = guard_told event.Protect s
gone_on_told (Ensures receiver block) s = guard_told event.Ensure s
gone_on_told (Curtails receiver block) s = guard_told event.Curtail s
gone_on_told (Controls c e v) s = control_told c e s
gone_on_told _ s = Nothing

abbrev pub gone_on_written : Action → Text
gone_on_written (Writes text v) = text
gone_on_written _ = []

-- what a reply says, in the memory that is left
abbrev pub said : Said → Env → Seen → Seen
said (Answered b) env s = answered_so b env s
said (Raised e) env s = beginning (work.Raise e env) s
said (GoesOn a) env s = gone_on a env s

abbrev pub said_told : Said → Seen → Told
said_told (GoesOn a) s = gone_on_told a s
said_told _ s = Nothing

abbrev pub said_written : Said → Text
said_written (GoesOn a) = gone_on_written a
said_written _ = []

abbrev pub performed : Action → Env → Seen → Seen
performed a env s = said (told_by a s.memory) env (with_memory s (memory_after a s.memory))

abbrev pub performed_told : Action → Seen → Told
performed_told a s = said_told (told_by a s.memory) s

abbrev pub performed_written : Action → Seen → Text
performed_written a s = said_written (told_by a s.memory)

-- what a reply writes
abbrev pub reply_written : Reply → Written
reply_written (Reply.Writes written v) = written
reply_written _ = Written.Nothing
