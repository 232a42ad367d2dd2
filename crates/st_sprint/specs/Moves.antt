-- Loops that move in place: what such a move is among the visits of the rules, and what it makes of the loop.
use Rattle.std.specs.Prelude.{◌≡◌, [], ◌∷◌, Some, true}
use Rattle.object_heap.specs.declared.value.Value.{Value}
use Rattle.st_collections.specs.Actions.{LoopState as State, Visit, Applies, Finishes}
use Rattle.st_collections.specs.Loops.{at_index, made_to, next_visit}
use Rattle.st_contexts.specs.Moving.{loop_of, loop_changed}
use Rattle.st_loops.specs.declared.state.LoopState.{LoopState}
use Rattle.st_loops.specs.States.{state_of}
use Rattle.st_machine.specs.Loops.{loop_goes_on}
use Rattle.st_machine.specs.Plans.{program_in}
use Rattle.st_machine.specs.Seen.{Seen, with_stack}
use Rattle.st_sprint.specs.declared.moves.Move.{Move}

-- the visit of a loop that gets this value
abbrev pub visit_by : Move → State → Value → Visit
visit_by (Move.Visit index block element) l v = Applies (at_index index l) block (element ∷ [])
visit_by (Move.Repeat index block) l v = Applies (at_index index l) block []
visit_by (Move.Turn aside block) l v = Applies (record l { aside = aside }) block []
visit_by (Move.Inject index block element) l v = Applies (made_to v (at_index index l)) block (v ∷ element ∷ [])
visit_by (Move.Finish w) l v = Finishes w

-- a loop that gets this value moves so
pub record Moves (m : Move) (l : State) (v : Value) (s : Seen) : Type 0 where
  pub sound : loop_goes_on s.memory.store l ≡ true
  pub makes : next_visit (program_in s.plan) s.memory.store l v ≡ visit_by m l v

-- the same of the loop that stands innermost
pub record LoopMoves (m : Move) (v : Value) (s : Seen) : Type 0 where
  pub loop : LoopState
  pub stands : loop_of s.stack ≡ Some loop
  pub moves : Moves m (state_of loop) v s

-- ---- the loop that stands innermost, changed in place

abbrev pub loop_moved : (LoopState → LoopState) → Seen → Seen
loop_moved f s = with_stack s (loop_changed f s.stack)
