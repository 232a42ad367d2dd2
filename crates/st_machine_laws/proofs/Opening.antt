-- What holds of a machine holds after a body was opened.
use Rattle.std.proofs.Common.{◌≡◌, ℕ, suc, ◌+◌, ◌*◌, ◌-◌, ◌^◌, ◌<◌, ◌≤◌, List, [], ◌∷◌, length, Bool, true, false, Option, Some, None, nat_eq, nat_lt, nat_le, slice_get, if◌then◌else◌, refl, arith}
use Rattle.std.proofs.lemmas.Bool.Decides.{nat_tests}
use Rattle.std.proofs.lemmas.Option.{slice_get_within}
use Rattle.object_heap.specs.declared.value.Value.{Value}
use Rattle.object_heap.specs.declared.value.Closure.{Closure}
use Rattle.object_heap.specs.Store.{Store, scope_added, blank_scope}
use Rattle.object_heap.specs.Charges.{scope_charge, scope_made}
use Rattle.st_contexts.specs.declared.activation.Activation.{Activation}
use Rattle.st_contexts.specs.declared.activation.Activation.TheVariants as act
use Rattle.st_contexts.specs.declared.activation.Env.{Env}
use Rattle.st_contexts.specs.declared.activation.Frame.{Frame}
use Rattle.st_contexts.specs.declared.outcome.Limit.TheVariants as limit
use Rattle.st_contexts.specs.Stack.{Standing, operand_pushed}
use Rattle.st_collections.specs.Actions.{first}
use Rattle.st_rules.specs.State.{count_true}
use Rattle.st_rules.specs.Flat.{code_at}
use Rattle.st_machine.specs.declared.work.Mode.{Mode}
use Rattle.st_machine.specs.declared.work.Mode.TheVariants as mode
use Rattle.st_machine.specs.declared.work.Ending.TheVariants as ending
use Rattle.st_machine.specs.declared.work.Work.TheVariants as work
use Rattle.st_machine.specs.declared.opening.Opening.{Opening}
use Rattle.st_compiler.specs.declared.units.Initializer.{Initializer}
use Rattle.st_machine.specs.Seen.{Plan, Seen, with_memory}
use Rattle.st_machine.specs.Operands.{but_first, own_pushed}
use Rattle.st_machine.specs.Plans.{program_in}
use Rattle.st_machine.specs.Scopes.{captured_put, if_room}
use Rattle.st_machine.specs.Opening.{beginning, frame_for, captured_in, in_scope, own_furnished, scope_furnished, furnished_with, furnished, opened, block_opening, activated, entered, closure_in, fitting, apply_work, applied}
use Rattle.st_machine.specs.Initializers.{counted, opened_by, next_opened}
use Rattle.st_machine.specs.Followed.{Falling}
use Rattle.st_machine_laws.specs.Holding.{Course, AllWait, Fits, Holds}
use Rattle.st_machine_laws.proofs.Blocks.{F, W, numbers, firm_stack, firm_memory, firm_counts, firm_popped, falling_further, stops, begins, ends, place, placed, firm_placed, fits_placed, fewer}
use Rattle.st_machine_laws.proofs.Settling.{with, stand}

-- ---- the first operands

-- the operands with each variable that no block names
unfoldable own_ops : List Bool → List Value → ℕ → List Value → List Value
own_ops [] arguments width ops = ops
own_ops (true ∷ captured) arguments width ops = own_ops captured (but_first arguments) width ops
own_ops (false ∷ captured) arguments width ops = own_ops captured (but_first arguments) width (operand_pushed width (first arguments) ops)

own_top : (captured : List Bool) (arguments : List Value) (k : Activation) (n : ℕ) (env : Env) (ops : List Value) (acts : List Standing) (next depth width : ℕ)
    → own_pushed captured arguments (record { acts = stand k n env ops ∷ acts; next = next; depth = depth; width = width })
    ≡ record { acts = stand k n env (own_ops captured arguments width ops) ∷ acts; next = next; depth = depth; width = width }
unfolding own_pushed own_ops
own_top [] arguments k n env ops acts next depth width = refl
own_top (true ∷ captured) arguments k n env ops acts next depth width = own_top captured (but_first arguments) k n env ops acts next depth width
own_top (false ∷ captured) arguments k n env ops acts next depth width = own_top captured (but_first arguments) k n env (operand_pushed width (first arguments) ops) acts next depth width

-- ---- a body

within_limit : (n m : ℕ) → nat_le n m ≡ true → n ≤ m
within_limit n m e = grind (arith, nat_tests)

module _ (s : Seen) (n : ℕ) (env : Env) (acts : List Standing) (m : Mode) where
  abbrev over : Frame → Seen
  over f = with s (stand (act.Body f) n env [] ∷ acts) m

  -- it runs from its first instruction on
  runs : {course : Course} → (f f' : Frame) → f'.position ≡ 0 → F course (over f) → AllWait s.plan.codes acts → Fits 2 s → Holds course (own_furnished f (over f'))
  runs {course = course} f f' first firm w h =
      let start : f'.position ≤ length (code_at s.plan.codes f'.code).instructions = omega (arith, first) in
      let below : f'.position < 2 ^ 32 - 1 = omega (arith, first) in
      let firm' : F course (with s (stand (act.Body f') n env (own_ops (captured_in s f.code) s.passed.values s.stack.width []) ∷ acts) mode.Run) =
      firm_stack s.plan s.memory s.passed.room s.steps s.initializers s.instructions (over f).stack (stand (act.Body f') n env (own_ops (captured_in s f.code) s.passed.values s.stack.width []) ∷ acts) s.stack.next firm firm.positive (record { number = firm.falling.0.number; env = firm.falling.0.env; kept = below }, firm.falling.1) in
      rw (own_top (captured_in s f.code) s.passed.values (act.Body f') n env [] acts s.stack.next s.stack.depth s.stack.width)
      (record { firm = firm'; placed = (start, w); numbers = h; next = tt })

-- it has the scope that was made for it
filled_by : {course : Course} → (b : Bool) (count : ℕ) (s : Seen) (n : ℕ) (env : Env) (acts : List Standing) (m : Mode) (f : Frame) → f.position ≡ 0 → nat_le (s.memory.used + scope_charge count) s.memory.limit ≡ b
    → F course (over s n env acts m f) → AllWait s.plan.codes acts → Fits 2 s
    → Holds course (scope_furnished (if_room (scope_charge count) (length s.memory.store.scopes) s.memory) f (with_memory (over s n env acts m f) (scope_made f.code count f.scope s.memory)))
filled_by {course = course} true count s n env acts m f start e firm w h =
    let store : Store = captured_put (captured_in s f.code) s.passed.values (length s.memory.store.scopes) 0 (scope_added (blank_scope f.code count f.scope) s.memory.store) in
    let s' : Seen = with_memory s (record { store = store; used = s.memory.used + scope_charge count; limit = s.memory.limit }) in
    let firm' : F course (over s' n env acts m f) = firm_memory s.plan s.memory s.passed.room s.steps s.initializers s.instructions (over s n env acts m f).stack store (s.memory.used + scope_charge count) firm (within_limit (s.memory.used + scope_charge count) s.memory.limit e) in
    rw e (runs s' n env acts m f (in_scope (length s.memory.store.scopes) f) start firm' w h)
filled_by {course = course} false count s n env acts m f start e firm w h = rw e (stops limit.Cells (with s acts m) (firm_popped (over s n env acts m f) firm) w (fewer 2 0 s (omega arith) h))

furnishes_by : {course : Course} → (b : Bool) (count : ℕ) (s : Seen) (n : ℕ) (env : Env) (acts : List Standing) (m : Mode) (f : Frame) → f.position ≡ 0 → nat_eq count 0 ≡ b
    → F course (over s n env acts m f) → AllWait s.plan.codes acts → Fits 2 s → Holds course (furnished_with count f (over s n env acts m f))
furnishes_by true count s n env acts m f start e firm w h = rw e (runs s n env acts m f f start firm w h)
furnishes_by false count s n env acts m f start e firm w h = rw e (filled_by (nat_le (s.memory.used + scope_charge count) s.memory.limit) count s n env acts m f start refl firm w h)

pub opens : {course : Course} → (x : Opening) (s : Seen) → F course s → W s → Fits 3 s → x.env.0 < s.stack.next → Holds course (opened x s)
opens x s f w h l =
    let fr : Frame = frame_for x s.stack.next in
    let y : Seen = placed (act.Body fr) x.env s in
    let count : ℕ = count_true (captured_in s fr.code) in
    place (Holds _) (λ y. furnished (frame_for x s.stack.next) y) (act.Body fr) x.env s (numbers 3 s f h)
    (furnishes_by (nat_eq count 0) count y s.stack.next x.env s.stack.acts s.mode fr refl refl (firm_placed (act.Body fr) x.env s f l (let start : 0 < 2 ^ 32 - 1 = omega arith in start)) w (fits_placed 3 2 (act.Body fr) x.env s (omega arith) h))
    (stops limit.Depth s f w (fewer 3 0 s (omega arith) h))

-- ---- blocks and methods

below_limit : (n m : ℕ) → nat_lt n m ≡ true → n + 1 ≤ m
below_limit n m e = grind (arith, nat_tests)

activates_by : {course : Course} → (b : Bool) (c : Closure) (env : Env) (s : Seen) → nat_lt s.steps (program_in s.plan).step_limit ≡ b → F course s → W s → Fits 0 s → env.0 < s.stack.next → Holds course (activated c env s)
activates_by true c env s e f w h l =
    rw e (opens (block_opening c env) (record s { steps = s.steps + 1 }) (firm_counts s.plan s.memory s.passed.room s.steps s.initializers s.instructions s.stack (s.steps + 1) s.initializers f (below_limit s.steps (program_in s.plan).step_limit e) f.known) w (omega (arith, h)) l)
activates_by false c env s e f w h l = rw e (stops limit.Steps s f w h)

pub activates : {course : Course} → (c : Closure) (env : Env) (s : Seen) → F course s → W s → Fits 0 s → env.0 < s.stack.next → Holds course (activated c env s)
activates c env s f w h l = activates_by (nat_lt s.steps (program_in s.plan).step_limit) c env s refl f w h l

pub enters : {course : Course} → (code : ℕ) (receiver : Value) (env : Env) (s : Seen) → F course s → W s → Fits 3 s → env.0 < s.stack.next → Holds course (entered code receiver env s)
enters code receiver env s f w h l = opens (record { code = code; receiver = receiver; class = (code_at s.plan.codes code).class; home = None; outer = None; env = env }) s f w h l

applies_by : {course : Course} → (o : Option Closure) (receiver : Value) (env : Env) (s : Seen) → F course s → W s → Fits 0 s → env.0 < s.stack.next → Holds course (beginning (apply_work o receiver env) s)
applies_by (Some c) receiver env s f w h l = begins (work.Activate c env) s f w h l tt
applies_by None receiver env s f w h l = begins (work.SendValue receiver env) s f w h l tt

pub applies : {course : Course} → (receiver : Value) (env : Env) (s : Seen) → F course s → W s → Fits 0 s → env.0 < s.stack.next → Holds course (applied receiver env s)
applies receiver env s f w h l = applies_by (fitting (closure_in receiver s) s) receiver env s f w h l

-- ---- the next initializer

nexts_by : {course : Course} → (o : Option Initializer) (s : Seen) → slice_get s.plan.initializers s.initializers ≡ o → F course s → W s → Fits 2 s → Holds course (opened_by o s)
nexts_by None s is f w h = ends ending.Done s f w (fewer 2 0 s (omega arith) h)
nexts_by (Some x) s is f w h =
    let within : s.initializers < length s.plan.initializers = slice_get_within s.plan.initializers s.initializers x is in
    let more : s.initializers + 1 ≤ length s.plan.initializers = omega (arith, within) in
    enters x.code x.receiver (record { 0 = 0 }) (counted s) (firm_counts s.plan s.memory s.passed.room s.steps s.initializers s.instructions s.stack s.steps (s.initializers + 1) f f.limited more) w (omega (arith, h)) f.positive

pub opens_next : {course : Course} → (s : Seen) → F course s → W s → Fits 2 s → Holds course (next_opened s)
opens_next s f w h = nexts_by (slice_get s.plan.initializers s.initializers) s refl f w h
