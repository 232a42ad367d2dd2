-- No unwinding loses a termination block, and none hands one back twice.
use Rattle.std.specs.Prelude.{◌≡◌, ℕ, ◌<◌, List, [], ◌∷◌, ◌++◌}
use Rattle.st_contexts.specs.declared.outcome.Outcome.{Outcome}
use Rattle.st_contexts.specs.Stack.{Standing}
use Rattle.unwind.specs.declared.unwound.Unwound.{Unwound}
use Rattle.unwind.specs.declared.unwound.Unwound.TheVariants.{Reached, Termination}
use Rattle.unwind.specs.Unwinding.{action_of, at_action, unwound, unwound_answer}

-- the numbers of the activations whose termination blocks are still to run, the innermost first
unfoldable pub actions : List Standing → List ℕ
actions [] = []
actions (a ∷ acts) = at_action (action_of a.kept) (λ block. a.number ∷ actions acts) (actions acts)

-- one unwinding: where it goes, and what is done after a termination block
pub record Unwinding : Type 0 where
  pub target : ℕ
  pub held : Outcome

-- what stands after some unwindings
abbrev pub after : List Unwinding → List Standing → List Standing
after [] acts = acts
after (u ∷ us) acts = after us (unwound u.target u.held acts)

-- the number of the innermost activation, where a termination block was handed back
abbrev pub handed_at : Unwound → List Standing → List ℕ
handed_at Reached acts = []
handed_at (Termination block env) [] = []
handed_at (Termination block env) (a ∷ acts) = a.number ∷ []

-- the numbers of the activations whose termination blocks these unwindings hand back, in order
abbrev pub handed : List Unwinding → List Standing → List ℕ
handed [] acts = []
handed (u ∷ us) acts = handed_at (unwound_answer u.target acts) (unwound u.target u.held acts) ++ handed us (unwound u.target u.held acts)

-- the numbers fall
abbrev pub Fall : ℕ → List ℕ → Type 0
Fall bound [] = Unit {0}
Fall bound (n ∷ ns) = (n < bound) × Fall n ns

abbrev pub numbers : List Standing → List ℕ
numbers [] = []
numbers (a ∷ acts) = a.number ∷ numbers acts

-- what some unwindings in a row do, where nothing is pushed between them
pub record EachActionOnce (us : List Unwinding) (acts : List Standing) : Type 0 where
  -- the termination blocks that were to run are those handed back, and then those still to run
  pub kept : actions acts ≡ handed us acts ++ actions (after us acts)
  -- and where the numbers of what stands fall, none is among them twice
  pub falling : (bound : ℕ) → Fall bound (numbers acts) → Fall bound (handed us acts ++ actions (after us acts))
