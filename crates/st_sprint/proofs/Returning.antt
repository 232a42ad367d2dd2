-- A value that returns to a home: the instruction, each body or loop that it passes, and the home.
use Rattle.std.proofs.Common.{◌≡◌, ℕ, ◌-◌, ◌<◌, List, [], ◌∷◌, Bool, true, false, not, refl, ap, sym, ◌∙◌, nat_eq, if◌then◌else◌}
use Rattle.object_heap.specs.declared.value.Value.{Value}
use Rattle.st_code.specs.declared.instruction.Instruction.TheVariants.{HomeReturn}
use Rattle.st_contexts.specs.declared.activation.Activation.{Activation}
use Rattle.st_contexts.specs.declared.activation.Activation.TheVariants.{Body, Loop}
use Rattle.st_contexts.specs.declared.activation.Env.{Env}
use Rattle.st_contexts.specs.declared.activation.Frame.{Frame}
use Rattle.st_contexts.specs.declared.outcome.Outcome.TheVariants.{Answer, Go}
use Rattle.st_contexts.specs.declared.outcome.Target.TheVariants.{Home}
use Rattle.st_contexts.specs.Stack.{Standing, at_top, of_top, with_operands, but_last, numbered_at, popped, stands_in, top_value, value_popped}
use Rattle.st_machine.specs.declared.work.Told.TheVariants.{Nothing}
use Rattle.st_machine.specs.Instructions.{counted, leaves_home, operand_dropped}
use Rattle.st_machine.specs.Opening.{left_with, settling}
use Rattle.st_machine.specs.Seen.{Seen, with_stack}
use Rattle.st_machine.specs.Settling.{unwound_by, unwinding_told, unwound_at, unwinding_told_at}
use Rattle.st_sprint.specs.Dashes.{Comes}
use Rattle.st_sprint.specs.Returns.{ReturnsTo, is_home_by, is_home, lets_pass_by, lets_pass}
use Rattle.st_sprint.specs.Sprinting.{SameRun}
use Rattle.st_sprint.proofs.Sprints.{does_next, quiet_step, runs_step}

-- ---- the instruction

still_stands : (n : ℕ) (acts : List Standing) → stands_in n (at_top (λ a. with_operands (but_last a.operands) a) acts) ≡ stands_in n acts
unfolding stands_in
still_stands n [] = refl
still_stands n (a ∷ acts) = refl

leaves_so : (b : Bool) (v : Value) (f : Frame) (s : Seen) → b ≡ true → leaves_home b v f s ≡ settling (Go (Home f.home) v) s
leaves_so b v f s e = rw e refl

pub returns_so : (n left home : ℕ) (v : Value) (s t : Seen) → 0 < n → 0 < left → Comes HomeReturn s → ReturnsTo home s → v ≡ top_value s.stack → t ≡ operand_dropped (counted s) → SameRun n left s (n - 1) (left - 1) (settling (Go (Home home) v) t)
returns_so n left home v s t ln ll c r ev et =
    let named : c.frame.home ≡ home = ap (λ (f : Frame). f.home) (let same : c.frame ≡ r.frame = cc (c.body, r.body) in same) ∙ r.names in
    let there : stands_in c.frame.home (value_popped s.stack).acts ≡ true = still_stands c.frame.home s.stack.acts ∙ ap (λ (k : ℕ). stands_in k s.stack.acts) named ∙ r.stands in
    runs_step n left s (settling (Go (Home home) v) t) ln ll c.runs
    (ap (λ (x : Seen). settling (Go (Home home) v) x) et ∙ ap (λ (w : Value). settling (Go (Home home) w) (operand_dropped (counted s))) ev ∙ ap (λ (k : ℕ). settling (Go (Home k) (top_value s.stack)) (operand_dropped (counted s))) (sym named)
    ∙ sym (does_next HomeReturn s c ∙ leaves_so (stands_in c.frame.home (value_popped s.stack).acts) (top_value s.stack) c.frame (operand_dropped (counted s)) there))

-- ---- what stands on the way

module _ (home : ℕ) (v : Value) (s : Seen) where
  passes_by : (kept : Activation) (n : ℕ) (env : Env) → lets_pass_by kept (nat_eq home n) ≡ true → unwound_by kept n env (Home home) v s ≡ left_with (Go (Home home) v) s
  passes_by (Body f) n env e = by_test (nat_eq home n) e
    where
      by_test : (b : Bool) → not b ≡ true → left_with (if b then Answer v else Go (Home home) v) s ≡ left_with (Go (Home home) v) s
      by_test true e = cc
      by_test false e = refl
  passes_by (Loop l) n env e = refl
  passes_by _ n env e = cc

  passes_quietly_by : (kept : Activation) (n : ℕ) → lets_pass_by kept (nat_eq home n) ≡ true → unwinding_told kept n (Home home) v ≡ Nothing
  passes_quietly_by (Body f) n e = refl
  passes_quietly_by (Loop l) n e = refl
  passes_quietly_by _ n e = cc

  passes_at : (acts : List Standing) → of_top false (λ a. lets_pass_by a.kept (nat_eq home a.number)) acts ≡ true → unwound_at (numbered_at 0 acts) (Home home) v s ≡ left_with (Go (Home home) v) s
  passes_at [] e = cc
  passes_at (a ∷ acts) e = passes_by a.kept a.number a.env e

  passes_quietly : (acts : List Standing) → of_top false (λ a. lets_pass_by a.kept (nat_eq home a.number)) acts ≡ true → unwinding_told_at (numbered_at 0 acts) (Home home) v ≡ Nothing
  passes_quietly [] e = cc
  passes_quietly (a ∷ acts) e = passes_quietly_by a.kept a.number e

  arrives_by : (kept : Activation) (n : ℕ) (env : Env) → is_home_by kept (nat_eq home n) ≡ true → unwound_by kept n env (Home home) v s ≡ left_with (Answer v) s
  arrives_by (Body f) n env e = ap (λ (b : Bool). left_with (if b then Answer v else Go (Home home) v) s) e
  arrives_by _ n env e = cc

  arrives_quietly_by : (kept : Activation) (n : ℕ) → is_home_by kept (nat_eq home n) ≡ true → unwinding_told kept n (Home home) v ≡ Nothing
  arrives_quietly_by (Body f) n e = refl
  arrives_quietly_by _ n e = cc

  arrives_at : (acts : List Standing) → of_top false (λ a. is_home_by a.kept (nat_eq home a.number)) acts ≡ true → unwound_at (numbered_at 0 acts) (Home home) v s ≡ left_with (Answer v) s
  arrives_at [] e = cc
  arrives_at (a ∷ acts) e = arrives_by a.kept a.number a.env e

  arrives_quietly : (acts : List Standing) → of_top false (λ a. is_home_by a.kept (nat_eq home a.number)) acts ≡ true → unwinding_told_at (numbered_at 0 acts) (Home home) v ≡ Nothing
  arrives_quietly [] e = cc
  arrives_quietly (a ∷ acts) e = arrives_quietly_by a.kept a.number e

pub passes_so : (n left home : ℕ) (v : Value) (s s' : Seen) → 0 < n → lets_pass home s.stack ≡ true → s' ≡ with_stack s (popped s.stack) → SameRun n left (settling (Go (Home home) v) s) (n - 1) left (settling (Go (Home home) v) s')
passes_so n left home v s s' ln e es =
    quiet_step n left (settling (Go (Home home) v) s) left (settling (Go (Home home) v) s') ln refl
    (passes_quietly home v s s.stack.acts e) refl refl
    (ap (λ (x : Seen). settling (Go (Home home) v) x) es ∙ sym (passes_at home v (settling (Go (Home home) v) s) s.stack.acts e))

pub arrives_so : (n left home : ℕ) (v : Value) (s s' : Seen) → 0 < n → is_home home s.stack ≡ true → s' ≡ with_stack s (popped s.stack) → SameRun n left (settling (Go (Home home) v) s) (n - 1) left (settling (Answer v) s')
arrives_so n left home v s s' ln e es =
    quiet_step n left (settling (Go (Home home) v) s) left (settling (Answer v) s') ln refl
    (arrives_quietly home v s s.stack.acts e) refl refl
    (ap (λ (x : Seen). settling (Answer v) x) es ∙ sym (arrives_at home v (settling (Go (Home home) v) s) s.stack.acts e))
