-- No unwinding loses a termination block, and none hands one back twice.
use Rattle.std.proofs.Common.{◌≡◌, ℕ, ◌≤◌, List, [], ◌∷◌, ◌++◌, Bool, true, false, Option, Some, None, nat_eq, refl, ap, sym, ◌∙◌, subst, append_assoc, arith}
use Rattle.object_heap.specs.declared.value.Value.{Value}
use Rattle.st_contexts.specs.declared.outcome.Outcome.{Outcome}
use Rattle.st_contexts.specs.Stack.{Standing}
use Rattle.unwind.specs.Unwinding.{action_of, unwound, unwound_answer}
use Rattle.unwind.specs.Once.{actions, Unwinding, after, handed_at, handed, Fall, numbers, EachActionOnce}

-- one unwinding
one_kept : (target : ℕ) (held : Outcome) (acts : List Standing) → actions acts ≡ handed_at (unwound_answer target acts) (unwound target held acts) ++ actions (unwound target held acts)
unfolding actions unwound unwound_answer
one_kept target held [] = refl
one_kept target held (a ∷ acts) = at_number (nat_eq a.number target) refl (one_kept target held acts)
  where
    at_block : (o : Option Value) → action_of a.kept ≡ o → nat_eq a.number target ≡ false → actions acts ≡ handed_at (unwound_answer target acts) (unwound target held acts) ++ actions (unwound target held acts) → actions (a ∷ acts) ≡ handed_at (unwound_answer target (a ∷ acts)) (unwound target held (a ∷ acts)) ++ actions (unwound target held (a ∷ acts))
    at_block None e other ih = rw (other, e) ih
    at_block (Some block) e other ih = rw (other, e) refl

    at_number : (b : Bool) → nat_eq a.number target ≡ b → actions acts ≡ handed_at (unwound_answer target acts) (unwound target held acts) ++ actions (unwound target held acts) → actions (a ∷ acts) ≡ handed_at (unwound_answer target (a ∷ acts)) (unwound target held (a ∷ acts)) ++ actions (unwound target held (a ∷ acts))
    at_number true here ih = rw here refl
    at_number false other ih = at_block (action_of a.kept) refl other ih

all_kept : (us : List Unwinding) (acts : List Standing) → actions acts ≡ handed us acts ++ actions (after us acts)
all_kept [] acts = refl
all_kept (u ∷ us) acts =
    let now : List Standing = unwound u.target u.held acts in
    one_kept u.target u.held acts ∙ ap (λ rest. handed_at (unwound_answer u.target acts) now ++ rest) (all_kept us now)
    ∙ sym (append_assoc (handed_at (unwound_answer u.target acts) now) (handed us now) (actions (after us now)))

fall_less : (m n : ℕ) (ns : List ℕ) → m ≤ n → Fall m ns → Fall n ns
fall_less m n [] l h = h
fall_less m n (k ∷ ns) l h = (omega (arith, l, h.0), h.1)

actions_fall : (bound : ℕ) (acts : List Standing) → Fall bound (numbers acts) → Fall bound (actions acts)
unfolding actions
actions_fall bound [] h = h
actions_fall bound (a ∷ acts) h = at_block (action_of a.kept) refl (actions_fall a.number acts h.1)
  where
    at_block : (o : Option Value) → action_of a.kept ≡ o → Fall a.number (actions acts) → Fall bound (actions (a ∷ acts))
    at_block None e ih = rw e (fall_less a.number bound (actions acts) (omega (arith, h.0)) ih)
    at_block (Some block) e ih = rw e (h.0, ih)

pub each_action_once : (us : List Unwinding) (acts : List Standing) → EachActionOnce us acts
each_action_once us acts =
    record {
      kept = all_kept us acts;
      falling = λ bound h. let P : List ℕ → Type 0 = λ ns. Fall bound ns in subst P (all_kept us acts) (actions_fall bound acts h);
    }
