-- Which loops move in place, and that each may go on.
use Rattle.std.proofs.Common.{◌≡◌, pos, ◌+ℤ◌, true, Option, Some, None, IfSome, refl, sym}
use Rattle.object_heap.specs.declared.value.Value.{Value}
use Rattle.object_heap.specs.declared.value.Value.TheVariants.{True, False}
use Rattle.st_code.specs.Messages.{LoopMessage}
use Rattle.st_code.specs.Program.{Program}
use Rattle.st_collections.specs.Actions.{first, second, third}
use Rattle.st_collections.specs.Items.{is_measured}
use Rattle.st_collections.specs.Kinds.{integer_of, same_value}
use Rattle.st_collections.specs.Loops.{at_index, given_at, made_to, next_visit, visit_at}
use Rattle.st_contexts.specs.Moving.{loop_of}
use Rattle.st_loops.specs.declared.kind.LoopKind.{LoopKind}
use Rattle.st_loops.specs.declared.state.LoopState.{LoopState}
use Rattle.st_loops.specs.Counts.{count_visit, times_visit, while_given}
use Rattle.st_loops.specs.States.{state_of, values_of}
use Rattle.st_machine.specs.Plans.{program_in}
use Rattle.st_machine.specs.Seen.{Seen}
use Rattle.st_sprint.specs.declared.moves.Move.{Move}
use Rattle.st_sprint.specs.Moves.{LoopMoves, Moves, visit_by}

if_so : (o : Option Move) (P Q : Move → Type 0) → ((m : Move) → P m → Q m) → IfSome o P → IfSome o Q
if_so None P Q h p = tt
if_so (Some m) P Q h p = h m p

module _ (l : LoopState) (v : Value) (s : Seen) (measured : is_measured s.memory.store l.receiver ≡ true) where
  pub while_true_moves : (m : Move) → l.kind ≡ LoopKind.WhileTrue → visit_by m (state_of l) v ≡ while_given (state_of l) (same_value v True) → Moves m (state_of l) v s
  unfolding next_visit given_at
  while_true_moves m e h = record { sound = rw (e, measured) refl; makes = rw e (sym (rw e at h)) }

  pub while_false_moves : (m : Move) → l.kind ≡ LoopKind.WhileFalse → visit_by m (state_of l) v ≡ while_given (state_of l) (same_value v False) → Moves m (state_of l) v s
  unfolding next_visit given_at
  while_false_moves m e h = record { sound = rw (e, measured) refl; makes = rw e (sym (rw e at h)) }

  times_one : (m : Move) → l.kind ≡ LoopKind.TimesRepeat → ((w : Value) → visit_by m (state_of l) w ≡ times_visit (at_index (l.index +ℤ pos 1) (state_of l))) → Moves m (state_of l) v s
  unfolding next_visit given_at visit_at
  times_one m e h = record { sound = rw (e, measured) refl; makes = rw e (sym (rw e at (h v))) }

  pub times_moves : (o : Option Move) → l.kind ≡ LoopKind.TimesRepeat → IfSome o (λ m. (w : Value) → visit_by m (state_of l) w ≡ times_visit (at_index (l.index +ℤ pos 1) (state_of l))) → IfSome o (λ m. Moves m (state_of l) v s)
  times_moves o e h = if_so o _ _ (λ m p. times_one m e p) h

  to_one : (m : Move) → l.kind ≡ LoopKind.ToDo → ((w : Value) → visit_by m (state_of l) w ≡ count_visit (pos 1) (integer_of (first (values_of l.arguments))) (second (values_of l.arguments)) (at_index (l.index +ℤ pos 1) (state_of l))) → Moves m (state_of l) v s
  unfolding next_visit given_at
  to_one m e h = record { sound = rw (e, measured) refl; makes = rw e (sym (rw e at (h v))) }

  pub to_moves : (o : Option Move) → l.kind ≡ LoopKind.ToDo → IfSome o (λ m. (w : Value) → visit_by m (state_of l) w ≡ count_visit (pos 1) (integer_of (first (values_of l.arguments))) (second (values_of l.arguments)) (at_index (l.index +ℤ pos 1) (state_of l))) → IfSome o (λ m. Moves m (state_of l) v s)
  to_moves o e h = if_so o _ _ (λ m p. to_one m e p) h

  to_by_one : (m : Move) → l.kind ≡ LoopKind.ToByDo → ((w : Value) → visit_by m (state_of l) w ≡ count_visit (integer_of (second (values_of l.arguments))) (integer_of (first (values_of l.arguments))) (third (values_of l.arguments)) (at_index (l.index +ℤ integer_of (second (values_of l.arguments))) (state_of l))) → Moves m (state_of l) v s
  unfolding next_visit given_at
  to_by_one m e h = record { sound = rw (e, measured) refl; makes = rw e (sym (rw e at (h v))) }

  pub to_by_moves : (o : Option Move) → l.kind ≡ LoopKind.ToByDo → IfSome o (λ m. (w : Value) → visit_by m (state_of l) w ≡ count_visit (integer_of (second (values_of l.arguments))) (integer_of (first (values_of l.arguments))) (third (values_of l.arguments)) (at_index (l.index +ℤ integer_of (second (values_of l.arguments))) (state_of l))) → IfSome o (λ m. Moves m (state_of l) v s)
  to_by_moves o e h = if_so o _ _ (λ m p. to_by_one m e p) h

  do_one : (m : Move) → l.kind ≡ LoopKind.Do → ((p : Program) (w : Value) → visit_by m (state_of l) w ≡ visit_at p s.memory.store LoopMessage.Do (at_index (l.index +ℤ pos 1) (state_of l))) → Moves m (state_of l) v s
  unfolding next_visit given_at
  do_one m e h = record { sound = rw (e, measured) refl; makes = rw e (sym (rw e at (h (program_in s.plan) v))) }

  pub do_moves : (o : Option Move) → l.kind ≡ LoopKind.Do → IfSome o (λ m. (p : Program) (w : Value) → visit_by m (state_of l) w ≡ visit_at p s.memory.store LoopMessage.Do (at_index (l.index +ℤ pos 1) (state_of l))) → IfSome o (λ m. Moves m (state_of l) v s)
  do_moves o e h = if_so o _ _ (λ m p. do_one m e p) h

  inject_one : (m : Move) → l.kind ≡ LoopKind.InjectInto → ((p : Program) → visit_by m (state_of l) v ≡ visit_at p s.memory.store LoopMessage.InjectInto (made_to v (at_index (l.index +ℤ pos 1) (state_of l)))) → Moves m (state_of l) v s
  unfolding next_visit given_at
  inject_one m e h = record { sound = rw (e, measured) refl; makes = rw e (sym (rw e at (h (program_in s.plan)))) }

  pub inject_moves : (o : Option Move) → l.kind ≡ LoopKind.InjectInto → IfSome o (λ m. (p : Program) → visit_by m (state_of l) v ≡ visit_at p s.memory.store LoopMessage.InjectInto (made_to v (at_index (l.index +ℤ pos 1) (state_of l)))) → IfSome o (λ m. Moves m (state_of l) v s)
  inject_moves o e h = if_so o _ _ (λ m p. inject_one m e p) h

-- ---- the loop that stands innermost

pub innermost_moves : (o : Option Move) (l : LoopState) (v : Value) (s : Seen) → loop_of s.stack ≡ Some l → IfSome o (λ m. Moves m (state_of l) v s) → IfSome o (λ m. LoopMoves m v s)
innermost_moves o l v s e h = if_so o _ _ (λ m p. record { loop = l; stands = e; moves = p }) h
