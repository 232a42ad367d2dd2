-- A send that isn't done at once ends the machine, and so does a loop that finds its receiver changed.
use Rattle.std.proofs.Common.{◌≡◌, ℕ, ◌+◌, ◌-◌, ◌^◌, ◌≤◌, ◌<◌, ◌⊎◌, inl, inr, List, [], ◌∷◌, length, Bool, true, false, ◌&&◌, true≢false, nat_le, nat_lt, if◌then◌else◌, refl, ap, sym, ◌∙◌, arith}
use Rattle.std.proofs.lemmas.Bool.Decides.{nat_tests}
use Rattle.object_heap.specs.declared.value.Value.{Value}
use Rattle.st_code.specs.Texts.{Text}
use Rattle.st_collections.specs.Actions.{Action, Gives, Changes, Makes, Fails, PassesIntegers, DividesByZero, Writes, Begins, Activates, Sends, Misses, Enters, Guards, Ensures, Curtails, Iterates, Raises, RaisesNew, Controls, Terminates, LoopState as State}
use Rattle.st_contexts.specs.declared.activation.Env.{Env}
use Rattle.st_loops.specs.declared.state.LoopState.{LoopState}
use Rattle.st_loops.specs.States.{state_of}
use Rattle.st_machine.specs.declared.work.Ending.TheVariants as ending
use Rattle.st_machine.specs.declared.work.Mode.TheVariants as mode
use Rattle.st_machine.specs.Seen.{Seen}
use Rattle.st_machine.specs.Plans.{program_in}
use Rattle.st_machine.specs.Loops.{loop_goes_on, given_by}
use Rattle.st_machine.specs.Performing.{performed, performed_written}
use Rattle.st_machine.specs.Sending.{acted, acted_written}
use Rattle.st_machine.specs.Sound.{is_fit, IsSent, IsKept}
use Rattle.st_machine_laws.specs.Holding.{Course}
use Rattle.st_machine_laws.proofs.Blocks.{F, firm_counts}

clash : {A : Type 0} → true ≡ false → A
clash e = absurd (true≢false e)

-- ---- what isn't done at once

-- the machine ends, and writes nothing
pub record Stops (s : Seen) (text : Text) : Type 0 where
  pub mode : s.mode ≡ mode.Ended ending.Stranded
  pub written : text ≡ []

module _ {course : Course} (s : Seen) (f : F course s) (env : Env) where
  abbrev Unfit : Action → Type 0
  Unfit a = is_fit a s ≡ false → Stops (performed a env s) (performed_written a s)

  unfit : (a : Action) → Unfit a
  unfit (Gives v) e = clash e
  unfit (Changes t v) e = clash e
  unfit (Makes cells t v) e = clash e
  unfit (Fails trouble) e = clash e
  unfit PassesIntegers e = clash e
  unfit (Raises t x) e = clash e
  unfit (Writes text v) e = clash e
  unfit (DividesByZero dividend) e = clash e
  unfit (Begins v args) e = record { mode = rw e refl; written = refl }
  unfit (Activates c args) e = record { mode = rw e refl; written = refl }
  unfit (Sends selector r args) e = record { mode = rw e refl; written = refl }
  unfit (Misses selector r args) e = clash e
  unfit (Enters code r args) e = record { mode = rw e refl; written = refl }
  unfit (Guards receiver selector handler) e = clash e
  unfit (Ensures receiver block) e = clash e
  unfit (Curtails receiver block) e = clash e
  unfit (Iterates l) e = record { mode = rw e refl; written = refl }
  unfit (RaisesNew class slots) e = record { mode = rw e refl; written = refl }
  unfit (Controls c x v) e = clash e
  unfit (Terminates v) e = clash e

no_message : (a : Action) (env : Env) (s : Seen) → nat_lt s.steps (program_in s.plan).step_limit ≡ true → Stops (acted false a env s) (acted_written false a s)
no_message a env s e = record { mode = rw e refl; written = rw e refl }

-- the step that a send costs changes nothing of this
fit_behind : (a : Action) (s : Seen) (steps : ℕ) → is_fit a (record s { steps = steps }) ≡ is_fit a s
fit_behind (Gives v) s steps = refl
fit_behind (Changes t v) s steps = refl
fit_behind (Makes cells t v) s steps = refl
fit_behind (Fails trouble) s steps = refl
fit_behind PassesIntegers s steps = refl
fit_behind (Raises t x) s steps = refl
fit_behind (Writes text v) s steps = refl
fit_behind (DividesByZero dividend) s steps = refl
fit_behind (Begins v args) s steps = refl
fit_behind (Activates c args) s steps = refl
fit_behind (Sends selector r args) s steps = refl
fit_behind (Misses selector r args) s steps = refl
fit_behind (Enters code r args) s steps = refl
fit_behind (Guards receiver selector handler) s steps = refl
fit_behind (Ensures receiver block) s steps = refl
fit_behind (Curtails receiver block) s steps = refl
fit_behind (Iterates l) s steps = refl
fit_behind (RaisesNew class slots) s steps = refl
fit_behind (Controls c x v) s steps = refl
fit_behind (Terminates v) s steps = refl

below_limit : (n m : ℕ) → nat_lt n m ≡ true → n + 1 ≤ m
below_limit n m e = grind (arith, nat_tests)

no_room : {course : Course} → (a : Action) (env : Env) (s : Seen) → F course s → nat_lt s.steps (program_in s.plan).step_limit ≡ true → is_fit a s ≡ false → Stops (acted true a env s) (acted_written true a s)
no_room a env s f e without =
    let s' : Seen = record s { steps = s.steps + 1 } in
    let f' : F _ s' = firm_counts s.plan s.memory s.passed.room s.steps s.initializers s.instructions s.stack (s.steps + 1) s.initializers f (below_limit s.steps (program_in s.plan).step_limit e) f.known in
    let x : Stops (performed a env s') (performed_written a s') = unfit s' f' env a (fit_behind a s (s.steps + 1) ∙ without) in
    record { mode = rw e x.mode; written = rw e x.written }

-- a send is done at once, or the machine ends
pub sends_or_stops : {course : Course} → (here fit : Bool) (a : Action) (env : Env) (s : Seen) → is_fit a s ≡ fit → F course s → nat_lt s.steps (program_in s.plan).step_limit ≡ true
    → IsSent here a s ⊎ Stops (acted here a env s) (acted_written here a s)
sends_or_stops false fit a env s is f e = inr (no_message a env s e)
sends_or_stops true true a env s is f e = inl (record { done = refl; fit = is })
sends_or_stops true false a env s is f e = inr (no_room a env s f e is)

-- ---- a loop that gets a value

pub gives_or_stops : (b : Bool) (l : LoopState) (v : Value) (env : Env) (s : Seen) → loop_goes_on s.memory.store (state_of l) ≡ b → IsKept (state_of l) s ⊎ Stops (given_by b (state_of l) v env s) []
gives_or_stops true l v env s is = inl (record { kept = is })
gives_or_stops false l v env s is = inr (record { mode = refl; written = refl })
