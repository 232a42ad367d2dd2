-- A value that reaches a loop which moves in place: two small steps, up to what the loop applies or answers.
use Rattle.std.proofs.Common.{◌≡◌, ℕ, ◌-◌, ◌<◌, List, Bool, true, Some, refl, ap, sym, ◌∙◌}
use Rattle.object_heap.specs.declared.value.Value.{Value}
use Rattle.st_collections.specs.Actions.{LoopState as State, Visit, Applies, Finishes}
use Rattle.st_collections.specs.Loops.{next_visit}
use Rattle.st_contexts.specs.declared.activation.Activation.TheVariants as act
use Rattle.st_contexts.specs.declared.activation.Env.{Env}
use Rattle.st_contexts.specs.declared.outcome.Outcome.TheVariants.{Answer}
use Rattle.st_contexts.specs.Moving.{loop_of}
use Rattle.st_contexts.specs.Stack.{Stack, of_top, top_env, with_kept}
use Rattle.st_loops.specs.declared.state.LoopState.{LoopState}
use Rattle.st_loops.specs.States.{state_of}
use Rattle.st_machine.specs.declared.work.Work.TheVariants as work
use Rattle.st_machine.specs.Loops.{given_by, loop_goes_on, standing_so, visited_by}
use Rattle.st_machine.specs.Opening.{beginning, left_with, settling}
use Rattle.st_machine.specs.Passing.{passing_on}
use Rattle.st_machine.specs.Plans.{program_in}
use Rattle.st_machine.specs.Seen.{Seen, with_stack}
use Rattle.st_machine.proofs.LoopStates.{kept_same}
use Rattle.st_sprint.specs.declared.moves.Move.{Move}
use Rattle.st_sprint.specs.Moves.{LoopMoves, loop_moved, visit_by}
use Rattle.st_sprint.specs.Sprinting.{SameRun}
use Rattle.st_sprint.proofs.LoopTops.{changed_top, numbered_top}
use Rattle.st_sprint.proofs.Visits.{reaches_loop}

given_so : (b : Bool) (w : Visit) (l : State) (v : Value) (env : Env) (s : Seen) → b ≡ true → next_visit (program_in s.plan) s.memory.store l v ≡ w → given_by b l v env s ≡ visited_by w env s
given_so b w l v env s eb ew = rw (eb, ew) refl

-- the loop as it stands, changed in place
stands_so : (f : LoopState → LoopState) (l : LoopState) (s : Seen) → loop_of s.stack ≡ Some l → standing_so (state_of (f l)) s ≡ loop_moved f s
stands_so f l s e = ap (λ (k : LoopState). with_stack s (with_kept (act.Loop k) s.stack)) (kept_same (f l)) ∙ ap (λ (x : Stack). with_stack s x) (changed_top l f s.stack e)

module _ (n left : ℕ) (v : Value) (m : Move) (s : Seen) (more : 1 < n) (a : LoopMoves m v s) where
  visits_so : (w : Visit) → visit_by m (state_of a.loop) v ≡ w → SameRun n left (settling (Answer v) s) (n - 1 - 1) left (visited_by w (top_env s.stack) s)
  visits_so w e =
      reaches_loop n left (of_top 0 (λ x. x.number) s.stack.acts) (top_env s.stack) a.loop v s (visited_by w (top_env s.stack) s) more
      (numbered_top a.loop s.stack a.stands)
      (sym (given_so (loop_goes_on s.memory.store (state_of a.loop)) w (state_of a.loop) v (top_env s.stack) s a.moves.sound (a.moves.makes ∙ e)))

  pub applies_so : (f : LoopState → LoopState) (block : Value) (args : List Value) (env : Env) (t : Seen) → visit_by m (state_of a.loop) v ≡ Applies (state_of (f a.loop)) block args → env ≡ top_env s.stack → t ≡ loop_moved f s
      → SameRun n left (settling (Answer v) s) (n - 1 - 1) left (passing_on args (beginning (work.Apply block env)) t)
  applies_so f block args env t e ee et =
      let there : t ≡ standing_so (state_of (f a.loop)) s = et ∙ sym (stands_so f a.loop s a.stands) in
      rw (there, ee) (visits_so (Applies (state_of (f a.loop)) block args) e)

  pub finishes_so : (w : Value) → visit_by m (state_of a.loop) v ≡ Finishes w → SameRun n left (settling (Answer v) s) (n - 1 - 1) left (left_with (Answer w) s)
  finishes_so w e = visits_so (Finishes w) e
