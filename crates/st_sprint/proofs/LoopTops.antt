-- The loop that stands innermost, and what of it changes in place.
use Rattle.std.proofs.Common.{◌≡◌, List, [], ◌∷◌, Some, None, refl, ap}
use Rattle.st_contexts.specs.declared.activation.Activation.{Activation}
use Rattle.st_contexts.specs.declared.activation.Activation.TheVariants as act
use Rattle.st_contexts.specs.Moving.{loop_in, loop_of, loop_changed, with_loop}
use Rattle.st_contexts.specs.Stack.{Stack, Standing, with_acts, at_top, of_top, no_env, numbered_at, with_kept}
use Rattle.st_loops.specs.declared.state.LoopState.{LoopState}

is_loop : (kept : Activation) (l : LoopState) → loop_in kept ≡ Some l → kept ≡ act.Loop l
is_loop (act.Loop k) l e = cc
is_loop _ l e = cc

module _ (l : LoopState) where
  abbrev Loops : List Standing → Type 0
  Loops acts = of_top None (λ a. loop_in a.kept) acts ≡ Some l

  numbered_in : (acts : List Standing) → Loops acts → numbered_at 0 acts ≡ Some (record { number = of_top 0 (λ a. a.number) acts; env = of_top no_env (λ a. a.env) acts; kept = act.Loop l })
  numbered_in [] e = cc
  numbered_in (a ∷ acts) e = ap (λ (k : Activation). Some (record { number = a.number; env = a.env; kept = k })) (is_loop a.kept l e)

  changed_in : (f : LoopState → LoopState) (acts : List Standing) → Loops acts → at_top (λ a. record { number = a.number; kept = act.Loop (f l); env = a.env; operands = a.operands }) acts ≡ at_top (λ a. record { number = a.number; kept = with_loop f a.kept; env = a.env; operands = a.operands }) acts
  changed_in f [] e = cc
  changed_in f (a ∷ acts) e = rw (is_loop a.kept l e) refl

  pub numbered_top : (s : Stack) → loop_of s ≡ Some l → numbered_at 0 s.acts ≡ Some (record { number = of_top 0 (λ a. a.number) s.acts; env = of_top no_env (λ a. a.env) s.acts; kept = act.Loop l })
  numbered_top s e = numbered_in s.acts e

  pub changed_top : (f : LoopState → LoopState) (s : Stack) → loop_of s ≡ Some l → with_kept (act.Loop (f l)) s ≡ loop_changed f s
  changed_top f s e = ap (λ (acts : List Standing). with_acts s acts) (changed_in f s.acts e)

-- ---- two changes are one

module _ (f g : LoopState → LoopState) where
  both : (kept : Activation) → with_loop g (with_loop f kept) ≡ with_loop (λ l. g (f l)) kept
  both (act.Loop l) = refl
  both _ = refl

  both_in : (acts : List Standing) → at_top (λ a. record { number = a.number; kept = with_loop g a.kept; env = a.env; operands = a.operands }) (at_top (λ a. record { number = a.number; kept = with_loop f a.kept; env = a.env; operands = a.operands }) acts) ≡ at_top (λ a. record { number = a.number; kept = with_loop (λ l. g (f l)) a.kept; env = a.env; operands = a.operands }) acts
  both_in [] = refl
  both_in (a ∷ acts) = ap (λ (k : Activation). record { number = a.number; kept = k; env = a.env; operands = a.operands } ∷ acts) (both a.kept)

  pub both_changed : (s : Stack) → loop_changed g (loop_changed f s) ≡ loop_changed (λ l. g (f l)) s
  both_changed s = ap (λ (acts : List Standing). with_acts s acts) (both_in s.acts)
