-- One round of an unwinding: what is innermost is dropped, or the unwinding ends there.
use Rattle.std.proofs.Common.{◌≡◌, ◌≢◌, ℕ, List, [], ◌∷◌, Some, None, true, false, nat_eq, refl, ap, sym, ◌∙◌}
use Rattle.std.proofs.lemmas.Bool.{eq-eqb, ne_eqb}
use Rattle.object_heap.specs.declared.value.Value.{Value}
use Rattle.st_contexts.specs.declared.activation.Activation.TheVariants.{ActionOff}
use Rattle.st_contexts.specs.declared.activation.Numbered.{Numbered}
use Rattle.st_contexts.specs.declared.outcome.Outcome.{Outcome}
use Rattle.st_contexts.specs.Stack.{Standing, Stack, with_acts, with_kept, popped, numbered, numbered_at, outer_acts, at_top}
use Rattle.unwind.specs.declared.unwound.Unwound.TheVariants.{Reached, Termination}
use Rattle.unwind.specs.Unwinding.{action_of, taken_off, unwound, unwound_answer}

-- what an unwinding has dropped makes no difference to it
pub record Drops (target : ℕ) (held : Outcome) (old now : Stack) : Type 0 where
  pub only_acts : now ≡ with_acts old now.acts
  pub same : unwound target held now.acts ≡ unwound target held old.acts
  pub answers : unwound_answer target now.acts ≡ unwound_answer target old.acts

pub no_drop : (target : ℕ) (held : Outcome) (s : Stack) → Drops target held s s
no_drop target held s = record { only_acts = refl; same = refl; answers = refl }

-- ---- what the innermost one is

ends : (target : ℕ) (held : Outcome) (acts : List Standing) → None ≡ numbered_at 0 acts → (unwound target held acts ≡ acts) × (unwound_answer target acts ≡ Reached)
unfolding unwound unwound_answer
ends target held [] e = (refl, refl)
ends target held (a ∷ acts) e = cc

reaches : (target : ℕ) (held : Outcome) (acts : List Standing) (n : Numbered) → Some n ≡ numbered_at 0 acts → n.number ≡ target → (unwound target held acts ≡ acts) × (unwound_answer target acts ≡ Reached)
unfolding unwound unwound_answer
reaches target held [] n e t = cc
reaches target held (a ∷ acts) n e t =
    let is : n ≡ numbered a = cc in
    let here : nat_eq a.number target ≡ true = eq-eqb a.number target (ap (λ m. m.number) (sym is) ∙ t) in
    (rw here refl, rw here refl)

takes : (target : ℕ) (held : Outcome) (acts : List Standing) (n : Numbered) (block : Value) → Some n ≡ numbered_at 0 acts → n.number ≢ target → action_of n.kept ≡ Some block → (unwound target held acts ≡ at_top (taken_off held) acts) × (unwound_answer target acts ≡ Termination block n.env)
unfolding unwound unwound_answer
takes target held [] n block e t b = cc
takes target held (a ∷ acts) n block e t b =
    let is : n ≡ numbered a = cc in
    let other : nat_eq a.number target ≡ false = ne_eqb a.number target (λ same. t (ap (λ m. m.number) is ∙ same)) in
    let action : action_of a.kept ≡ Some block = ap (λ m. action_of m.kept) (sym is) ∙ b in
    let env : a.env ≡ n.env = ap (λ m. m.env) (sym is) in
    (rw (other, action) refl, rw (other, action) (ap (λ x. Termination block x) env))

drops : (target : ℕ) (held : Outcome) (acts : List Standing) (n : Numbered) → Some n ≡ numbered_at 0 acts → n.number ≢ target → action_of n.kept ≡ None
    → (unwound target held (outer_acts acts) ≡ unwound target held acts) × (unwound_answer target (outer_acts acts) ≡ unwound_answer target acts)
unfolding unwound unwound_answer
drops target held [] n e t b = cc
drops target held (a ∷ acts) n e t b =
    let is : n ≡ numbered a = cc in
    let other : nat_eq a.number target ≡ false = ne_eqb a.number target (λ same. t (ap (λ m. m.number) is ∙ same)) in
    let action : action_of a.kept ≡ None = ap (λ m. action_of m.kept) (sym is) ∙ b in
    (rw (other, action) refl, rw (other, action) refl)

-- ---- as the code has it

module _ (target : ℕ) (held : Outcome) (old now : Stack) (h : Drops target held old now) where
  stays : unwound target held now.acts ≡ now.acts → now ≡ with_acts old (unwound target held old.acts)
  stays all = h.only_acts ∙ ap (with_acts old) (sym all ∙ h.same)

  pub ended_contexts : None ≡ numbered_at 0 now.acts → now ≡ with_acts old (unwound target held old.acts)
  ended_contexts e = stays (ends target held now.acts e).0

  pub ended_answer : None ≡ numbered_at 0 now.acts → Reached ≡ unwound_answer target old.acts
  ended_answer e = sym (ends target held now.acts e).1 ∙ h.answers

  module _ (n : Numbered) (e : Some n ≡ numbered_at 0 now.acts) where
    pub reached_contexts : n.number ≡ target → now ≡ with_acts old (unwound target held old.acts)
    reached_contexts t = stays (reaches target held now.acts n e t).0

    pub reached_answer : n.number ≡ target → Reached ≡ unwound_answer target old.acts
    reached_answer t = sym (reaches target held now.acts n e t).1 ∙ h.answers

    pub taken_contexts : (block : Value) → n.number ≢ target → Some block ≡ action_of n.kept → with_kept (ActionOff held) now ≡ with_acts old (unwound target held old.acts)
    taken_contexts block t b =
        let all : unwound target held now.acts ≡ at_top (taken_off held) now.acts = (takes target held now.acts n block e t (sym b)).0 in
        ap (λ s. with_kept (ActionOff held) s) h.only_acts ∙ ap (with_acts old) (sym all ∙ h.same)

    pub taken_answer : (block : Value) → n.number ≢ target → Some block ≡ action_of n.kept → Termination block n.env ≡ unwound_answer target old.acts
    taken_answer block t b = sym (takes target held now.acts n block e t (sym b)).1 ∙ h.answers

    pub one_drop : n.number ≢ target → None ≡ action_of n.kept → Drops target held old (popped now)
    one_drop t b =
        let all : (unwound target held (outer_acts now.acts) ≡ unwound target held now.acts) × (unwound_answer target (outer_acts now.acts) ≡ unwound_answer target now.acts) = drops target held now.acts n e t (sym b) in
        record {
          only_acts = ap popped h.only_acts;
          same = all.0 ∙ h.same;
          answers = all.1 ∙ h.answers;
        }
