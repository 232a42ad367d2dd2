-- Loops as activations keep them, and what a step of a loop makes of the machine. Source: ANSI 5.4.3, 5.7.
use Rattle.std.specs.Prelude.{ℕ, Bool, true, false, ◌&&◌, List, [], ◌∷◌, length, nat_le, pos, if◌then◌else◌}
use Rattle.object_heap.specs.declared.value.Value.{Value}
use Rattle.object_heap.specs.declared.value.Value.TheVariants.{Nil}
use Rattle.object_heap.specs.declared.trouble.Trouble.TheVariants.{NotFound}
use Rattle.object_heap.specs.Store.{Store}
use Rattle.object_heap.specs.Charges.{Memory}
use Rattle.st_code.specs.Messages.{LoopMessage}
use Rattle.st_collections.specs.Actions.{LoopState as State, Visit, Applies, Compares, Finishes, Lacks, Charges}
use Rattle.st_collections.specs.Loops.{first_visit, next_visit}
use Rattle.st_contexts.specs.declared.activation.Activation.TheVariants as act
use Rattle.st_contexts.specs.declared.activation.Env.{Env}
use Rattle.st_contexts.specs.declared.outcome.Outcome.TheVariants.{Answer}
use Rattle.st_contexts.specs.declared.outcome.Limit.TheVariants as limit
use Rattle.st_contexts.specs.Stack.{popped, with_kept}
use Rattle.st_loops.specs.declared.kind.LoopKind.{LoopKind}
use Rattle.st_loops.specs.declared.state.Arguments.{Arguments}
use Rattle.st_loops.specs.declared.state.LoopState.{LoopState}
use Rattle.st_loops.specs.States.{state_of}
use Rattle.st_loops.specs.Steps.{Seen as Step, Next, Full, Out, told_of, memory_after}
use Rattle.st_loops.specs.Tests.{may_begin, may_keep}
use Rattle.st_rules.specs.Rules.{sends_equal}
use Rattle.st_machine.specs.declared.work.Ending.TheVariants as ending
use Rattle.st_machine.specs.declared.work.Work.TheVariants as work
use Rattle.st_machine.specs.Seen.{Seen, with_stack, with_memory}
use Rattle.st_machine.specs.Plans.{program_in}
use Rattle.st_machine.specs.Opening.{has_place, stood, stopped, settling, beginning, left_with}
use Rattle.st_machine.specs.Settling.{ended}
use Rattle.st_machine.specs.Passing.{passing_on}

-- ---- a loop as an activation keeps it

abbrev pub kind_of : LoopMessage → LoopKind
kind_of LoopMessage.WhileTrue = LoopKind.WhileTrue
kind_of LoopMessage.WhileFalse = LoopKind.WhileFalse
kind_of LoopMessage.TimesRepeat = LoopKind.TimesRepeat
kind_of LoopMessage.ToDo = LoopKind.ToDo
kind_of LoopMessage.ToByDo = LoopKind.ToByDo
kind_of LoopMessage.Do = LoopKind.Do
kind_of LoopMessage.DoSeparatedBy = LoopKind.DoSeparatedBy
kind_of LoopMessage.ReverseDo = LoopKind.ReverseDo
kind_of LoopMessage.KeysAndValuesDo = LoopKind.KeysAndValuesDo
kind_of LoopMessage.KeysDo = LoopKind.KeysDo
kind_of LoopMessage.InjectInto = LoopKind.InjectInto
kind_of LoopMessage.Detect = LoopKind.Detect
kind_of LoopMessage.DetectIfNone = LoopKind.DetectIfNone
kind_of LoopMessage.AnySatisfy = LoopKind.AnySatisfy
kind_of LoopMessage.AllSatisfy = LoopKind.AllSatisfy
kind_of LoopMessage.Collect = LoopKind.Collect
kind_of LoopMessage.Select = LoopKind.Select
kind_of LoopMessage.Reject = LoopKind.Reject
kind_of LoopMessage.Includes = LoopKind.Includes
kind_of LoopMessage.OccurrencesOf = LoopKind.OccurrencesOf
kind_of LoopMessage.IndexOf = LoopKind.IndexOf
kind_of LoopMessage.AddToSet = LoopKind.AddToSet
kind_of LoopMessage.Remove = LoopKind.Remove
kind_of LoopMessage.RemoveIfAbsent = LoopKind.RemoveIfAbsent
kind_of LoopMessage.At = LoopKind.At
kind_of LoopMessage.AtIfAbsent = LoopKind.AtIfAbsent
kind_of LoopMessage.AtPut = LoopKind.AtPut
kind_of LoopMessage.AtIfAbsentPut = LoopKind.AtIfAbsentPut
kind_of LoopMessage.IncludesKey = LoopKind.IncludesKey
kind_of LoopMessage.RemoveKey = LoopKind.RemoveKey
kind_of LoopMessage.RemoveKeyIfAbsent = LoopKind.RemoveKeyIfAbsent
kind_of LoopMessage.EqualElements = LoopKind.EqualElements
kind_of LoopMessage.NotEqual = LoopKind.NotEqual

-- a loop message has at most three arguments
abbrev pub arguments_kept : List Value → Arguments
arguments_kept [] = Arguments.None
arguments_kept (u ∷ []) = Arguments.One u
arguments_kept (u ∷ v ∷ []) = Arguments.Two u v
arguments_kept (u ∷ v ∷ w ∷ vs) = Arguments.Three u v w

-- the loop of a state of the rules
unfoldable pub loop_kept : State → LoopState
loop_kept l = record { kind = kind_of l.message; receiver = l.receiver; arguments = arguments_kept l.arguments; index = l.index; made = l.made; visited = l.visited; aside = l.aside }

-- what stands while a loop makes its first visit
abbrev pub no_loop : LoopState
no_loop = record { kind = LoopKind.WhileTrue; receiver = Nil; arguments = Arguments.None; index = pos 0; made = Nil; visited = Nil; aside = false }

-- ---- a step of the loop that stands innermost

abbrev pub standing_so : State → Seen → Seen
standing_so l s = with_stack s (with_kept (act.Loop (loop_kept l)) s.stack)

-- an application, a send of `=`, the answer, nothing found
abbrev pub visit_made : Visit → Env → Seen → Seen
visit_made (Applies l block args) env s = passing_on args (beginning (work.Apply block env)) (standing_so l s)
visit_made (Compares l r v) env s = passing_on (v ∷ []) (beginning (work.SendTo (sends_equal (program_in s.plan)) r env)) (standing_so l s)
visit_made (Finishes v) env s = left_with (Answer v) s
visit_made (Lacks l) env s = beginning (work.Fail NotFound env) (standing_so l s)
visit_made (Charges cells t v) env s = ended ending.Stranded s

abbrev pub loop_stepped : Step → Env → Seen → Seen
loop_stepped (Next v) env s = visit_made v env s
loop_stepped (Full used charge) env s = stopped limit.Cells (with_stack s (popped s.stack))
loop_stepped Out env s = ended ending.Stranded s

-- a visit whose charges are paid first
abbrev pub visited_by : Visit → Env → Seen → Seen
visited_by v env s = loop_stepped (told_of v s.memory) env (with_memory s (memory_after v s.memory))

-- ---- the beginning of a loop, and its next visit

-- what a loop changes is a collection as it stands, and it has at most three arguments
abbrev pub loop_begins : Store → State → Bool
loop_begins s l = nat_le (length l.arguments) 3 && may_begin s l.message l.receiver

abbrev pub loop_goes_on : Store → State → Bool
loop_goes_on s l = may_begin s l.message l.receiver && may_keep s l.message l

abbrev pub iterated_by : Bool → State → Env → Seen → Seen
iterated_by true l env s =
    if has_place s then visited_by (first_visit (program_in s.plan) s.memory.store l) env (stood (act.Loop no_loop) env s) else stopped limit.Depth s
iterated_by false l env s = ended ending.Stranded s

-- a loop stands and makes its first visit
abbrev pub iterated : State → Env → Seen → Seen
iterated l env s = iterated_by (loop_begins s.memory.store l) l env s

abbrev pub given_by : Bool → State → Value → Env → Seen → Seen
given_by true l v env s = visited_by (next_visit (program_in s.plan) s.memory.store l v) env s
given_by false l v env s = ended ending.Stranded s

-- the loop that stands innermost gets a value, and makes its next visit
abbrev pub visited : LoopState → Value → Env → Seen → Seen
visited l v env s = given_by (loop_goes_on s.memory.store (state_of l)) (state_of l) v env s
