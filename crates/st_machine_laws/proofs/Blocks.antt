-- What transitions are made of: an activation more or less, another one kept in its place, and what comes next.
use Rattle.std.proofs.Common.{◌≡◌, ℕ, ◌+◌, ◌-◌, ◌*◌, ◌^◌, ◌<◌, ◌≤◌, max, List, [], ◌∷◌, length, Bool, true, false, nat_le, if◌then◌else◌, refl, arith}
use Rattle.std.proofs.lemmas.Bool.Decides.{nat_tests}
use Rattle.object_heap.specs.declared.value.Value.{Value}
use Rattle.object_heap.specs.Store.{Store}
use Rattle.object_heap.specs.Charges.{Memory}
use Rattle.st_code.specs.Compiled.{Compiled}
use Rattle.st_contexts.specs.declared.activation.Activation.{Activation}
use Rattle.st_contexts.specs.declared.activation.Env.{Env}
use Rattle.st_contexts.specs.declared.outcome.Outcome.{Outcome}
use Rattle.st_contexts.specs.declared.outcome.Outcome.TheVariants as outcome
use Rattle.st_contexts.specs.declared.outcome.Limit.{Limit}
use Rattle.st_contexts.specs.declared.outcome.Limit.TheVariants as limit
use Rattle.st_contexts.specs.Stack.{Stack, Standing, popped, outer_acts, with_acts, new_standing}
use Rattle.st_machine.specs.declared.work.Work.{Work}
use Rattle.st_machine.specs.declared.work.Ending.{Ending}
use Rattle.st_machine.specs.declared.work.Ending.TheVariants as ending
use Rattle.st_machine.specs.Seen.{Plan, Seen, with_stack, with_passed, passing}
use Rattle.st_machine.specs.Plans.{program_in}
use Rattle.st_machine.specs.Opening.{has_place, stood, stopped, settling, left_with, beginning}
use Rattle.st_machine.specs.Settling.{ended}
use Rattle.st_machine.specs.Passing.{passing_on}
use Rattle.st_machine.specs.Followed.{Below, Falling, KeptBelow, WorkBelow, AtLoop}
use Rattle.st_machine.proofs.Links.{other_number}
use Rattle.st_machine_laws.specs.Holding.{Course, Firm, Waits, AllWait, Fits, outcome_allowance, work_allowance, Holds}

abbrev pub F : Course → Seen → Type 0
F course s = Firm course s.plan s.stack s.memory s.passed.room s.steps s.initializers s.instructions

abbrev pub W : Seen → Type 0
W s = AllWait s.plan.codes s.stack.acts

-- ---- numbers

pub fewer : (n m : ℕ) (s : Seen) → m ≤ n → Fits n s → Fits m s
fewer n m s l h = omega (arith, l, h)

pub numbers : {course : Course} → (n : ℕ) (s : Seen) → F course s → Fits n s → s.stack.next < 2 ^ 64 - 1
numbers n s f h =
    let a : s.steps ≤ (program_in s.plan).step_limit = f.limited in
    let b : (program_in s.plan).step_limit ≤ 2 ^ 60 = f.moderate.steps in
    let c : s.initializers ≤ length s.plan.initializers = f.known in
    let d : length s.plan.initializers ≤ 2 ^ 62 = f.moderate.initializers in
    omega (arith, a, b, c, d, h)

-- ---- what stands

below_further : (n m : ℕ) (a : Standing) → n ≤ m → Below n a → Below m a
below_further n m a l b = record { number = (let further : a.number < m = omega (arith, l, b.number) in further); env = b.env; kept = b.kept }

pub falling_further : (n m : ℕ) (acts : List Standing) → n ≤ m → Falling n acts → Falling m acts
falling_further n m [] l h = tt
falling_further n m (a ∷ acts) l h = (below_further n m a l h.0, h.1)

falling_outer : (n : ℕ) (acts : List Standing) → Falling n acts → Falling n (outer_acts acts)
falling_outer n [] h = tt
falling_outer n (a ∷ acts) h = falling_further a.number n acts (let l : a.number ≤ n = omega (arith, h.0.number) in l) h.1

pub wait_outer : (codes : List Compiled) (acts : List Standing) → AllWait codes acts → AllWait codes (outer_acts acts)
wait_outer codes [] h = tt
wait_outer codes (a ∷ acts) h = h.1

module _ (plan : Plan) (memory : Memory) (room steps begun run : ℕ) where
  -- other activations stand
  pub firm_stack : {course : Course} → (stack : Stack) (acts : List Standing) (next : ℕ) → Firm course plan stack memory room steps begun run → 0 < next → Falling next acts
      → Firm course plan (record { acts = acts; next = next; depth = stack.depth; width = stack.width }) memory room steps begun run
  firm_stack stack acts next f some h =
      record {
        same = f.same;
        wide = f.wide;
        ran = f.ran;
        moderate = f.moderate;
        compiled = f.compiled;
        initializers = f.initializers;
        troubles = f.troubles;
        roomy = f.roomy;
        space = f.space;
        passes = f.passes;
        arguments = f.arguments;
        depth = f.depth;
        cells = f.cells;
        within = f.within;
        positive = some;
        falling = h;
        limited = f.limited;
        known = f.known;
      }

  -- another store, and more cells
  pub firm_memory : {course : Course} → (stack : Stack) (store : Store) (used : ℕ) → Firm course plan stack memory room steps begun run → used ≤ memory.limit
      → Firm course plan stack (record { store = store; used = used; limit = memory.limit }) room steps begun run
  firm_memory stack store used f l =
      record {
        same = f.same;
        wide = f.wide;
        ran = f.ran;
        moderate = f.moderate;
        compiled = f.compiled;
        initializers = f.initializers;
        troubles = f.troubles;
        roomy = f.roomy;
        space = f.space;
        passes = f.passes;
        arguments = f.arguments;
        depth = f.depth;
        cells = f.cells;
        within = l;
        positive = f.positive;
        falling = f.falling;
        limited = f.limited;
        known = f.known;
      }

  -- more steps, and more initializers
  pub firm_counts : {course : Course} → (stack : Stack) (steps' begun' : ℕ) → Firm course plan stack memory room steps begun run → steps' ≤ (program_in plan).step_limit → begun' ≤ length plan.initializers
      → Firm course plan stack memory room steps' begun' run
  firm_counts stack steps' begun' f l k =
      record {
        same = f.same;
        wide = f.wide;
        ran = f.ran;
        moderate = f.moderate;
        compiled = f.compiled;
        initializers = f.initializers;
        troubles = f.troubles;
        roomy = f.roomy;
        space = f.space;
        passes = f.passes;
        arguments = f.arguments;
        depth = f.depth;
        cells = f.cells;
        within = f.within;
        positive = f.positive;
        falling = f.falling;
        limited = l;
        known = k;
      }

-- ---- what comes next

outcome_most : (o : Outcome) → outcome_allowance o ≤ 2
outcome_most (outcome.Answer v) = omega arith
outcome_most (outcome.Go t v) = omega arith
outcome_most (outcome.Stop l) = omega arith

pub settles : {course : Course} → (o : Outcome) (s : Seen) → F course s → W s → Fits 2 s → Holds course (settling o s)
settles o s f w h = record { firm = f; placed = w; numbers = fewer 2 (outcome_allowance o) s (outcome_most o) h; next = tt }

pub stops : {course : Course} → (l : Limit) (s : Seen) → F course s → W s → Fits 0 s → Holds course (stopped l s)
stops l s f w h = record { firm = f; placed = w; numbers = h; next = tt }

pub begins : {course : Course} → (work : Work) (s : Seen) → F course s → W s → Fits (work_allowance work) s → WorkBelow s.stack.next work → AtLoop work s.stack.acts → Holds course (beginning work s)
begins work s f w h names at = record { firm = f; placed = w; numbers = h; next = (names, at) }

pub ends : {course : Course} → (e : Ending) (s : Seen) → F course s → W s → Fits 0 s → Holds course (ended e s)
ends e s f w h = record { firm = f; placed = w; numbers = h; next = tt }

-- values are passed on, where there is room for them
passes_by : {course : Course} → (b : Bool) (values : List Value) (work : Work) (s : Seen) → nat_le (length values) s.passed.room ≡ b → F course s → W s → Fits (work_allowance work) s → WorkBelow s.stack.next work → AtLoop work s.stack.acts
    → Holds course (passing_on values (beginning work) s)
passes_by true values work s is f w h names at = rw is (begins work (with_passed s (passing values s.passed)) f w h names at)
passes_by false values work s is f w h names at = rw is (ends ending.Stranded s f w (fewer (work_allowance work) 0 s (omega arith) h))

pub passes : {course : Course} → (values : List Value) (work : Work) (s : Seen) → F course s → W s → Fits (work_allowance work) s → WorkBelow s.stack.next work → AtLoop work s.stack.acts
    → Holds course (passing_on values (beginning work) s)
passes values work s f w h names at = passes_by (nat_le (length values) s.passed.room) values work s refl f w h names at

-- the innermost activation is dropped
pub firm_popped : {course : Course} → (s : Seen) → F course s → F course (with_stack s (popped s.stack))
firm_popped s f = firm_stack s.plan s.memory s.passed.room s.steps s.initializers s.instructions s.stack (outer_acts s.stack.acts) s.stack.next f f.positive (falling_outer s.stack.next s.stack.acts f.falling)

pub leaves : {course : Course} → (o : Outcome) (s : Seen) → F course s → AllWait s.plan.codes (outer_acts s.stack.acts) → Fits 2 s → Holds course (left_with o s)
leaves o s f w h = settles o (with_stack s (popped s.stack)) (firm_popped s f) w h

-- ---- one more activation

-- where it has its place
abbrev pub placed : Activation → Env → Seen → Seen
placed kept env s =
    record s { stack = record { acts = new_standing kept env s.stack.next ∷ s.stack.acts; next = s.stack.next + 1; depth = s.stack.depth; width = s.stack.width }; deepest = max s.deepest (length s.stack.acts + 1) }

place_by : (P : Seen → Type 0) (go : Seen → Seen) (kept : Activation) (env : Env) (s : Seen) (b : Bool) → nat_le (length s.stack.acts + 1) s.stack.depth ≡ b → s.stack.next < 2 ^ 64 - 1
    → P (go (placed kept env s)) → P (stopped limit.Depth s) → P (if has_place s then go (stood kept env s) else stopped limit.Depth s)
place_by P go kept env s true e l there not_there = rw (other_number s.stack.next 18446744073709551615 l, e) there
place_by P go kept env s false e l there not_there = rw (other_number s.stack.next 18446744073709551615 l, e) not_there

pub place : (P : Seen → Type 0) (go : Seen → Seen) (kept : Activation) (env : Env) (s : Seen) → s.stack.next < 2 ^ 64 - 1
    → P (go (placed kept env s)) → P (stopped limit.Depth s) → P (if has_place s then go (stood kept env s) else stopped limit.Depth s)
place P go kept env s l there not_there = place_by P go kept env s (nat_le (length s.stack.acts + 1) s.stack.depth) refl l there not_there

pub firm_placed : {course : Course} → (kept : Activation) (env : Env) (s : Seen) → F course s → env.0 < s.stack.next → KeptBelow s.stack.next kept → F course (placed kept env s)
firm_placed kept env s f l k =
    firm_stack s.plan s.memory s.passed.room s.steps s.initializers s.instructions s.stack (new_standing kept env s.stack.next ∷ s.stack.acts) (s.stack.next + 1) f (let some : 0 < s.stack.next + 1 = omega arith in some)
    (record { number = (let more : s.stack.next < s.stack.next + 1 = omega arith in more); env = l; kept = k }, f.falling)

pub fits_placed : (n m : ℕ) (kept : Activation) (env : Env) (s : Seen) → m + 1 ≤ n → Fits n s → Fits m (placed kept env s)
fits_placed n m kept env s l h = omega (arith, l, h)
