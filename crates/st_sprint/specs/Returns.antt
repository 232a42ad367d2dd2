-- A value that returns to the home of a block, and what stands on its way.
use Rattle.std.specs.Prelude.{◌≡◌, ℕ, Bool, true, false, not, Some, nat_eq}
use Rattle.st_contexts.specs.declared.activation.Activation.{Activation}
use Rattle.st_contexts.specs.declared.activation.Activation.TheVariants.{Body, Loop}
use Rattle.st_contexts.specs.declared.activation.Frame.{Frame}
use Rattle.st_contexts.specs.Moving.{body_of}
use Rattle.st_contexts.specs.Stack.{Stack, of_top, stands_in}
use Rattle.st_machine.specs.Seen.{Seen}

-- the body that runs has this home, which stands
pub record ReturnsTo (home : ℕ) (s : Seen) : Type 0 where
  pub frame : Frame
  pub body : body_of s.stack ≡ Some frame
  pub names : frame.home ≡ home
  pub stands : stands_in home s.stack.acts ≡ true

-- the innermost activation has this number
abbrev pub is_number : ℕ → Stack → Bool
is_number n s = of_top false (λ a. nat_eq n a.number) s.acts

-- a body is the home where it has the home's number
abbrev pub is_home_by : Activation → (has_number : Bool) → Bool
is_home_by (Body f) has_number = has_number
is_home_by kept has_number = false

abbrev pub is_home : ℕ → Stack → Bool
is_home home s = of_top false (λ a. is_home_by a.kept (nat_eq home a.number)) s.acts

-- any other body lets the value pass, and any loop
abbrev pub lets_pass_by : Activation → (has_number : Bool) → Bool
lets_pass_by (Body f) has_number = not has_number
lets_pass_by (Loop l) has_number = true
lets_pass_by kept has_number = false

abbrev pub lets_pass : ℕ → Stack → Bool
lets_pass home s = of_top false (λ a. lets_pass_by a.kept (nat_eq home a.number)) s.acts
