-- What is done where nothing stands is what the flat machine does: a value is kept, and the next initializer is opened.
use Rattle.std.proofs.Common.{◌≡◌, ℕ, suc, zero, ◌+◌, ◌-◌, ◌<◌, ◌≤◌, ◌^◌, List, [], ◌∷◌, map, drop, slice_get, Option, Some, None, refl, ap, sym, ◌∙◌, arith}
use Rattle.object_heap.specs.declared.value.Value.{Value}
use Rattle.object_heap.specs.Charges.{Memory}
use Rattle.st_code.specs.Texts.{Text}
use Rattle.st_code.specs.Program as program
use Rattle.st_code.specs.Program.{Program, InInitializer}
use Rattle.st_code.specs.Compiled.{compile_of, count_uncaptured}
use Rattle.st_contexts.specs.Stack.{env_in}
use Rattle.st_contexts.specs.declared.outcome.Outcome.TheVariants as outcome
use Rattle.st_rules.specs.Events.{Event}
use Rattle.st_rules.specs.State.{Env}
use Rattle.st_rules.specs.Ends.{Opening}
use Rattle.st_rules.specs.Machine.{open_act}
use Rattle.st_rules.specs.Flat.{FlatBody, flat, code_at}
use Rattle.st_rules.specs.Runs.{kept_value}
use Rattle.st_rules.specs.Turns.{Top, On, open_next, top_iter}
use Rattle.st_compiler.specs.declared.units.Initializer.{Initializer}
use Rattle.st_machine.specs.declared.work.Mode.{Mode}
use Rattle.st_machine.specs.declared.work.Mode.TheVariants as mode
use Rattle.st_machine.specs.Seen.{Plan, Passed, Seen, passing, with_mode}
use Rattle.st_machine.specs.Plans.{program_in}
use Rattle.st_machine.specs.Initializers.{seen_initializer, opened_by, next_opened, target_by, kept_at, value_kept}
use Rattle.st_machine.specs.Meaning.{top_of, state_of, target_in, behind, env_of}
use Rattle.st_machine.proofs.Furnishing.{same_class}
use Rattle.st_machine.proofs.FollowsOpening.{seen, opens}

-- ---- the initializers from one on

abbrev first_seen : Option Initializer → program.Initializer → program.Initializer
first_seen (Some x) y = seen_initializer x
first_seen None y = y

next_of : (n : ℕ) → n + 1 ≡ suc n
next_of n = omega arith

last_of : (n : ℕ) → n + 1 - 1 ≡ n
last_of n = omega arith

behind_none : (xs : List Initializer) (n : ℕ) → slice_get xs n ≡ None → drop n (map seen_initializer xs) ≡ []
behind_none [] zero e = refl
behind_none [] (suc n) e = refl
behind_none (x ∷ xs) zero e = grind (arith, e)
behind_none (x ∷ xs) (suc n) e = behind_none xs n e

behind_some : (xs : List Initializer) (n : ℕ) (x : Initializer) → slice_get xs n ≡ Some x → drop n (map seen_initializer xs) ≡ seen_initializer x ∷ drop (suc n) (map seen_initializer xs)
behind_some [] zero x e = grind (arith, e)
behind_some [] (suc n) x e = grind (arith, e)
behind_some (y ∷ xs) zero x e = ap (λ o. first_seen o (seen_initializer y) ∷ map seen_initializer xs) e
behind_some (y ∷ xs) (suc n) x e = behind_some xs n x e

module _ (p : Program) (xs : List Initializer) (same : map seen_initializer xs ≡ p.initializers) where
  no_more : (n : ℕ) → slice_get xs n ≡ None → behind p n ≡ []
  unfolding behind
  no_more n e = ap (λ ys. drop n ys) (sym same) ∙ behind_none xs n e

  one_more : (n : ℕ) (x : Initializer) → slice_get xs n ≡ Some x → behind p n ≡ seen_initializer x ∷ behind p (n + 1)
  unfolding behind
  one_more n x e = rw (← same, next_of n) (behind_some xs n x e)

  target_more : (n : ℕ) (x : Initializer) → slice_get xs n ≡ Some x → target_in p (n + 1) ≡ x.target
  unfolding target_in
  target_more n x e = rw (← same, last_of n, behind_some xs n x e) refl

  target_same : (n : ℕ) → target_in p n ≡ target_by (slice_get xs (n - 1))
  unfolding target_in
  target_same n = by (slice_get xs (n - 1)) refl
    where
      by : (o : Option Initializer) → slice_get xs (n - 1) ≡ o → target_in p n ≡ target_by o
      by None e = rw (← same, behind_none xs (n - 1) e) refl
      by (Some x) e = rw (← same, behind_some xs (n - 1) x e) refl

module _ (plan : Plan) (next depth width : ℕ) (vars : List Value) (passed : Passed) (steps deepest inits instrs : ℕ) (tr : Text) (ev : List Event) (mem : Memory) where
  abbrev p : Program
  p = program_in plan

  abbrev here : Mode → Seen
  here m = seen plan next depth width vars passed steps deepest inits instrs tr ev [] mem next steps deepest m

  module _ (same : map seen_initializer plan.initializers ≡ p.initializers) where
    -- ---- a value with nothing standing

    keeps_by : (v : Value) (o : Option ℕ) → target_in p inits ≡ o → open_next (flat p plan.codes width) p (behind p inits) (kept_value (target_in p inits) v (state_of tr ev (here (mode.Settle (outcome.Answer v))))) ≡ top_of tr ev (with_mode (kept_at o v (here (mode.Settle (outcome.Answer v)))) mode.Next)
    keeps_by v None e = rw e refl
    keeps_by v (Some place) e = rw e refl

    pub keeps : (v : Value) → top_iter (flat p plan.codes width) p 2 (top_of tr ev (here (mode.Settle (outcome.Answer v)))) ≡ top_of tr ev (value_kept v (here (mode.Settle (outcome.Answer v))))
    keeps v = keeps_by v (target_by (slice_get plan.initializers (inits - 1))) (target_same p plan.initializers same inits)

    -- ---- the next initializer

    module _ (compiled : plan.codes ≡ compile_of p) (same_depth : depth ≡ p.depth_limit) (numbers : next < 2 ^ 64 - 1) (cells : mem.limit ≡ p.cell_limit) (within : mem.used ≤ mem.limit) (fits : (code : ℕ) → count_uncaptured (code_at plan.codes code).captured ≤ width) where
      nothing_named : env_of [] (record { 0 = 0 }) ≡ []
      unfolding env_of env_in
      nothing_named = refl

      abbrev opening : Initializer → Value → Env → Opening
      opening x class env = record { code = x.code; kind = InInitializer; self = x.receiver; class = class; own = next; home = next; outer = None; arguments = []; env = env }

      abbrev goes : Initializer → Value → Env → Top FlatBody
      goes x class env = On (target_in p (inits + 1)) (behind p (inits + 1)) (open_act (flat p plan.codes width) p (opening x class env) [] (state_of tr ev (here mode.Next)))

      begins : (x : Initializer) → slice_get plan.initializers inits ≡ Some x → goes x (code_at plan.codes x.code).class (env_of [] (record { 0 = 0 })) ≡ top_of tr ev (opened_by (Some x) (here mode.Next))
      begins x e = opens plan next depth width vars (passing [] passed) steps deepest (inits + 1) instrs tr ev compiled same_depth numbers [] mem cells within (record { code = x.code; receiver = x.receiver; class = (code_at plan.codes x.code).class; home = None; outer = None; env = record { 0 = 0 } }) InInitializer mode.Next (fits x.code)

      opens_by : (o : Option Initializer) → slice_get plan.initializers inits ≡ o → top_of tr ev (here mode.Next) ≡ top_of tr ev (opened_by o (here mode.Next))
      unfolding program.body_at
      opens_by None e = rw (no_more p plan.initializers same inits e) refl
      opens_by (Some x) e =
          rw (one_more p plan.initializers same inits x e, ← target_more p plan.initializers same inits x e, ← same_class p plan.codes x.code compiled, ← nothing_named) (begins x e)

      pub next_opens : top_of tr ev (here mode.Next) ≡ top_of tr ev (next_opened (here mode.Next))
      next_opens = opens_by (slice_get plan.initializers inits) refl
