-- What holds of a machine holds after a step of the loop that stands innermost.
use Rattle.std.proofs.Common.{◌≡◌, ℕ, ◌+◌, ◌-◌, ◌^◌, ◌<◌, ◌≤◌, List, [], ◌∷◌, Bool, true, false, nat_le, if◌then◌else◌, refl, arith}
use Rattle.std.proofs.lemmas.Bool.Decides.{nat_tests}
use Rattle.object_heap.specs.declared.value.Value.{Value}
use Rattle.object_heap.specs.declared.trouble.Trouble.TheVariants.{NotFound}
use Rattle.object_heap.specs.Store.{Store}
use Rattle.object_heap.specs.Charges.{Memory}
use Rattle.st_collections.specs.Actions.{LoopState as State, Visit, Applies, Compares, Finishes, Lacks, Charges}
use Rattle.st_collections.specs.Loops.{first_visit, next_visit}
use Rattle.st_contexts.specs.declared.activation.Activation.{Activation}
use Rattle.st_contexts.specs.declared.activation.Activation.TheVariants as act
use Rattle.st_contexts.specs.declared.activation.Env.{Env}
use Rattle.st_contexts.specs.declared.outcome.Outcome.TheVariants.{Answer}
use Rattle.st_contexts.specs.declared.outcome.Limit.TheVariants as limit
use Rattle.st_contexts.specs.Stack.{Standing, popped}
use Rattle.st_loops.specs.declared.state.LoopState.{LoopState}
use Rattle.st_loops.specs.States.{state_of}
use Rattle.st_loops.specs.Steps.{Seen as Step, Next, Full, Out, told_of, paid, memory_after}
use Rattle.st_rules.specs.Rules.{sends_equal}
use Rattle.st_machine.specs.declared.work.Ending.TheVariants as ending
use Rattle.st_machine.specs.declared.work.Mode.{Mode}
use Rattle.st_machine.specs.declared.work.Work.TheVariants as work
use Rattle.st_machine.specs.Seen.{Seen, with_stack, with_memory}
use Rattle.st_machine.specs.Plans.{program_in}
use Rattle.st_machine.specs.Loops.{loop_kept, no_loop, visit_made, loop_stepped, visited_by, loop_begins, loop_goes_on, iterated_by, iterated, given_by, visited}
use Rattle.st_machine.specs.Followed.{AtLoop}
use Rattle.st_machine_laws.specs.Holding.{Course, Fits, Holds}
use Rattle.st_machine_laws.proofs.Blocks.{F, W, numbers, firm_memory, firm_popped, stops, begins, ends, leaves, passes, place, placed, firm_placed, fits_placed, fewer}
use Rattle.st_machine_laws.proofs.Settling.{with, stand, firm_kept}

-- ---- the memory that is left

within_limit : (n m : ℕ) → nat_le n m ≡ true → n ≤ m
within_limit n m e = grind (arith, nat_tests)

charge_by : {course : Course} → (b : Bool) (v : Visit) (cells : ℕ) (t : Store) (s : Seen) (m : Memory) → nat_le (m.used + cells) m.limit ≡ b → F course (with_memory s m)
    → (F course (with_memory s (paid cells t m)) → F course (with_memory s (memory_after v (paid cells t m)))) → F course (with_memory s (memory_after (Charges cells t v) m))
charge_by true v cells t s m is f more = rw is (more (firm_memory s.plan m s.passed.room s.steps s.initializers s.instructions s.stack t (m.used + cells) f (within_limit (m.used + cells) m.limit is)))
charge_by false v cells t s m is f more = rw is f

firm_after : {course : Course} → (v : Visit) (s : Seen) (m : Memory) → F course (with_memory s m) → F course (with_memory s (memory_after v m))
firm_after (Charges cells t v) s m f = charge_by (nat_le (m.used + cells) m.limit) v cells t s m refl f (λ g. firm_after v s (paid cells t m) g)
firm_after (Applies l v args) s m f = f
firm_after (Compares l r v) s m f = f
firm_after (Finishes v) s m f = f
firm_after (Lacks l) s m f = f

-- ---- a visit

module _ (s : Seen) (m : Mode) (k : Activation) (n : ℕ) (inner : Env) (ops : List Value) (acts : List Standing) where
  abbrev here : Seen
  here = with s (stand k n inner ops ∷ acts) m

  module _ {course : Course} (f : F course here) (w : W here) (h : Fits 2 s) (env : Env) (l : env.0 < s.stack.next) where
    abbrev at_loop : State → Seen
    at_loop x = with s (stand (act.Loop (loop_kept x)) n inner ops ∷ acts) m

    firm_loop : (x : State) → F course (at_loop x)
    firm_loop x = firm_kept s m n inner ops acts k (act.Loop (loop_kept x)) ops f tt

    makes_visit : (v : Visit) → Holds course (visit_made v env here)
    makes_visit (Applies x block args) = passes args (work.Apply block env) (at_loop x) (firm_loop x) (tt, w.1) (fewer 2 0 s (omega arith) h) l tt
    makes_visit (Compares x r v) = passes (v ∷ []) (work.SendTo (sends_equal (program_in s.plan)) r env) (at_loop x) (firm_loop x) (tt, w.1) (fewer 2 0 s (omega arith) h) l tt
    makes_visit (Finishes v) = leaves (Answer v) here f w.1 h
    makes_visit (Lacks x) = begins (work.Fail NotFound env) (at_loop x) (firm_loop x) (tt, w.1) h l tt
    makes_visit (Charges cells t v) = ends ending.Stranded here f w (fewer 2 0 s (omega arith) h)

    steps : (v : Step) → Holds course (loop_stepped v env here)
    steps (Next v) = makes_visit v
    steps (Full used charge) = stops limit.Cells (with_stack here (popped here.stack)) (firm_popped here f) w.1 (fewer 2 0 s (omega arith) h)
    steps Out = ends ending.Stranded here f w (fewer 2 0 s (omega arith) h)

visits_by : {course : Course} → (v : Visit) (s : Seen) (m : Mode) (k : Activation) (n : ℕ) (inner : Env) (ops : List Value) (acts : List Standing) → F course (here s m k n inner ops acts) → W (here s m k n inner ops acts) → Fits 2 s → (env : Env) → env.0 < s.stack.next
    → Holds course (visited_by v env (here s m k n inner ops acts))
visits_by v s m k n inner ops acts f w h env l =
    steps (with_memory s (memory_after v s.memory)) m k n inner ops acts (firm_after v (here s m k n inner ops acts) s.memory f) w h env l (told_of v s.memory)

-- ---- a loop that begins

iterates_by : {course : Course} → (b : Bool) (l : State) (env : Env) (s : Seen) → F course s → W s → Fits 3 s → env.0 < s.stack.next → Holds course (iterated_by b l env s)
iterates_by true l env s f w h below =
    let small : env.0 < s.stack.next + 1 = omega (arith, below) in
    place (Holds _) (λ y. visited_by (first_visit (program_in s.plan) s.memory.store l) env y) (act.Loop no_loop) env s (numbers 3 s f h)
    (visits_by (first_visit (program_in s.plan) s.memory.store l) (placed (act.Loop no_loop) env s) s.mode (act.Loop no_loop) s.stack.next env [] s.stack.acts (firm_placed (act.Loop no_loop) env s f below tt) (tt, w) (fits_placed 3 2 (act.Loop no_loop) env s (omega arith) h) env small)
    (stops limit.Depth s f w (fewer 3 0 s (omega arith) h))
iterates_by false l env s f w h below = ends ending.Stranded s f w (fewer 3 0 s (omega arith) h)

pub iterates : {course : Course} → (l : State) (env : Env) (s : Seen) → F course s → W s → Fits 3 s → env.0 < s.stack.next → Holds course (iterated l env s)
iterates l env s f w h below = iterates_by (loop_begins s.memory.store l) l env s f w h below

-- ---- a loop that gets a value

gives_by : {course : Course} → (b : Bool) (l : State) (v : Value) (env : Env) (s : Seen) (m : Mode) (k : Activation) (n : ℕ) (inner : Env) (ops : List Value) (acts : List Standing) → F course (here s m k n inner ops acts) → W (here s m k n inner ops acts) → Fits 2 s → env.0 < s.stack.next
    → Holds course (given_by b l v env (here s m k n inner ops acts))
gives_by true l v env s m k n inner ops acts f w h below = visits_by (next_visit (program_in s.plan) s.memory.store l v) s m k n inner ops acts f w h env below
gives_by false l v env s m k n inner ops acts f w h below = ends ending.Stranded (here s m k n inner ops acts) f w (fewer 2 0 s (omega arith) h)

pub visits : {course : Course} → (n : ℕ) (l : LoopState) (v : Value) (env : Env) (s : Seen) (acts : List Standing) (m : Mode) → F course (with s acts m) → W (with s acts m) → Fits 2 s → env.0 < s.stack.next → AtLoop (work.Visit n l v env) acts → Holds course (visited l v env (with s acts m))
visits n l v env s [] m f w h below at = absurd at
visits n l v env s (a ∷ acts) m f w h below at = gives_by (loop_goes_on s.memory.store (state_of l)) (state_of l) v env s m a.kept a.number a.env a.operands acts f w h below
