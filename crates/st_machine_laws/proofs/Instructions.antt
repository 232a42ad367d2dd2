-- What holds of a machine holds after an instruction.
use Rattle.std.proofs.Common.{◌≡◌, ℕ, zero, suc, ◌+◌, ◌-◌, ◌^◌, min, ◌<◌, ◌≤◌, List, [], ◌∷◌, length, Bool, true, false, Option, Some, None, nat_le, slice_get, slice_set, if◌then◌else◌, refl, ap, arith}
use Rattle.std.proofs.lemmas.Bool.Decides.{nat_tests}
use Rattle.std.proofs.lemmas.Option.{slice_get_within}
use Rattle.object_heap.specs.declared.value.Value.{Value}
use Rattle.object_heap.specs.declared.value.Value.TheVariants.{Nil, Object}
use Rattle.object_heap.specs.declared.trouble.Trouble.TheVariants.{HomeHasReturned}
use Rattle.object_heap.specs.Store.{Store, block_added}
use Rattle.st_code.specs.declared.instruction.Variable.{Variable}
use Rattle.st_code.specs.declared.instruction.Variable.TheVariants as variable
use Rattle.st_code.specs.declared.instruction.Instruction.{Instruction}
use Rattle.st_code.specs.declared.instruction.Instruction.TheVariants as instruction
use Rattle.st_code.specs.Compiled.{constant_value}
use Rattle.st_code.specs.BuiltIns.{block_class}
use Rattle.st_contexts.specs.declared.activation.Activation.{Activation}
use Rattle.st_contexts.specs.declared.activation.Activation.TheVariants as act
use Rattle.st_contexts.specs.declared.activation.Env.{Env}
use Rattle.st_contexts.specs.declared.activation.Frame.{Frame}
use Rattle.st_contexts.specs.declared.outcome.Outcome.TheVariants as outcome
use Rattle.st_contexts.specs.declared.outcome.Target.TheVariants as target
use Rattle.st_contexts.specs.declared.outcome.Limit.TheVariants as limit
use Rattle.st_contexts.specs.Stack.{Standing, operand_pushed, but_last, last_operand, with_operand, stands_in, value_popped}
use Rattle.st_rules.specs.State.{with_scoped_variable}
use Rattle.st_rules.specs.Ends.{with_self_slot}
use Rattle.st_rules.specs.Flat.{code_at, Operands, operands_taken}
use Rattle.st_machine.specs.declared.work.Mode.{Mode}
use Rattle.st_machine.specs.declared.work.Mode.TheVariants as mode
use Rattle.st_machine.specs.declared.work.Work.{Work}
use Rattle.st_machine.specs.declared.work.Work.TheVariants as work
use Rattle.st_machine.specs.Seen.{Plan, Seen, with_memory, with_variables, with_passed, passing}
use Rattle.st_machine.specs.Operands.{moved, taken}
use Rattle.st_machine.specs.Instructions.{class_slot_of, variable_read, closure_of, block_made, arguments_taken, sending, leaves_home, performed, next_performed, instructed}
use Rattle.st_machine.specs.Followed.{IsBody, WorkBelow, AtLoop}
use Rattle.st_machine_laws.specs.Holding.{Course, AllWait, RunsAtTop, work_allowance, Fits, Holds, further}
use Rattle.st_machine_laws.proofs.Blocks.{F, W, firm_stack, firm_memory, settles, stops, begins, leaves, fewer}
use Rattle.st_machine_laws.proofs.Settling.{with, stand, moves, firm_kept}

-- operands that are taken
taken_top : (n : ℕ) (a : Standing) (acts : List Standing) (next depth width : ℕ) (ops vs : List Value)
    → taken n (record { acts = record { number = a.number; kept = a.kept; env = a.env; operands = ops } ∷ acts; next = next; depth = depth; width = width }) vs
    ≡ record { stack = record { acts = record { number = a.number; kept = a.kept; env = a.env; operands = (operands_taken n ops vs).below } ∷ acts; next = next; depth = depth; width = width }; values = (operands_taken n ops vs).args }
unfolding taken
taken_top zero a acts next depth width ops vs = refl
taken_top (suc n) a acts next depth width [] vs = taken_top n a acts next depth width [] (Nil ∷ vs)
taken_top (suc n) a acts next depth width (v ∷ ops) vs = taken_top n a acts next depth width ops (v ∷ vs)

within_limit : (n m : ℕ) → nat_le n m ≡ true → n ≤ m
within_limit n m e = grind (arith, nat_tests)

module _ (s : Seen) (f : Frame) (n : ℕ) (env : Env) (ops : List Value) (acts : List Standing) where
  abbrev here : Seen
  here = with s (stand (act.Body f) n env ops ∷ acts) mode.Run

  below_next : {course : Course} → F course here → env.0 < s.stack.next
  below_next firm = let l : n < s.stack.next = firm.falling.0.number in let e : env.0 < n = firm.falling.0.env in omega (arith, l, e)

  module _ {course : Course} (firm : F course here) (l : f.position < length (code_at s.plan.codes f.code).instructions) (w : AllWait s.plan.codes acts) (h : Fits 2 s) where
    -- it goes on, with other operands
    goes : (ops' : List Value) → Holds course (with s (stand (act.Body (moved f)) n env ops' ∷ acts) mode.Run)
    goes ops' = moves s mode.Run n env ops acts f (moved f) ops' firm refl refl l w h

    -- it goes on, with another store or other variables
    stores : (store : Store) → Holds course (with (with_memory s (record { store = store; used = s.memory.used; limit = s.memory.limit })) (stand (act.Body (moved f)) n env ops ∷ acts) mode.Run)
    stores store =
        moves (with_memory s (record { store = store; used = s.memory.used; limit = s.memory.limit })) mode.Run n env ops acts f (moved f) ops (firm_memory s.plan s.memory s.passed.room s.steps s.initializers s.instructions here.stack store s.memory.used firm firm.within) refl refl l w h

    shares : (vs : List Value) → Holds course (with (with_variables s vs) (stand (act.Body (moved f)) n env ops ∷ acts) mode.Run)
    shares vs = moves (with_variables s vs) mode.Run n env ops acts f (moved f) ops firm refl refl l w h

    writes : (v : Variable) → Holds course (performed (instruction.Store v) f here)
    writes (variable.Own index) = goes (with_operand index (last_operand ops) ops)
    writes (variable.Scope up index) = stores (with_scoped_variable s.memory.store f.scope up index (last_operand ops))
    writes (variable.Instance index) = stores (with_self_slot f.receiver index (last_operand ops) s.memory.store)
    writes (variable.ClassInstance index) = shares (slice_set s.variables (class_slot_of f index here) (last_operand ops))
    writes (variable.Shared index) = shares (slice_set s.variables index (last_operand ops))

    makes_by : (code : ℕ) (b : Bool) → nat_le (s.memory.used + 2) s.memory.limit ≡ b → Holds course (block_made code f here)
    makes_by code true e =
        let store : Store = block_added block_class (closure_of code f) s.memory.store in
        let s' : Seen = with_memory s (record { store = store; used = s.memory.used + 2; limit = s.memory.limit }) in
        rw e (moves s' mode.Run n env ops acts f (moved f) (operand_pushed s.stack.width (Object (length s.memory.store.objects)) ops) (firm_memory s.plan s.memory s.passed.room s.steps s.initializers s.instructions here.stack store (s.memory.used + 2) firm (within_limit (s.memory.used + 2) s.memory.limit e)) refl refl l w h)
    makes_by code false e = rw e (stops limit.Cells here firm (l, w) (fewer 2 0 s (omega arith) h))

    -- other operands
    firm_with : (ops' : List Value) → F course (with s (stand (act.Body f) n env ops' ∷ acts) mode.Run)
    firm_with ops' = firm_kept s mode.Run n env ops acts (act.Body f) (act.Body f) ops' firm firm.falling.0.kept

    -- the body waits for an answer
    sends : (count : ℕ) (work : (receiver : Value) → Work) → ((receiver : Value) → WorkBelow s.stack.next (work receiver)) → ((receiver : Value) (acts : List Standing) → AtLoop (work receiver) acts) → ((receiver : Value) → Fits (work_allowance (work receiver)) s) → Holds course (sending work (arguments_taken count here))
    sends count work names at fits =
        let o : Operands = operands_taken (min count s.passed.room) ops [] in
        rw (taken_top (min count s.passed.room) (stand (act.Body f) n env ops) acts s.stack.next s.stack.depth s.stack.width ops [])
        (begins (work (last_operand o.below)) (with_passed (with s (stand (act.Body f) n env (but_last o.below) ∷ acts) mode.Run) (passing o.args s.passed)) (firm_with (but_last o.below)) (l, w) (fits (last_operand o.below)) (names (last_operand o.below)) (at (last_operand o.below) (stand (act.Body f) n env (but_last o.below) ∷ acts)))

    homes : (b : Bool) (v : Value) → Holds course (leaves_home b v f (with s (stand (act.Body f) n env (but_last ops) ∷ acts) mode.Run))
    homes true v = settles (outcome.Go (target.Home f.home) v) (with s (stand (act.Body f) n env (but_last ops) ∷ acts) mode.Run) (firm_with (but_last ops)) (l, w) h
    homes false v =
        begins (work.Fail HomeHasReturned env) (with s (stand (act.Leaving f) n env (but_last ops) ∷ acts) mode.Run) (firm_kept s mode.Run n env ops acts (act.Body f) (act.Leaving f) (but_last ops) firm tt) (tt, w) h (below_next firm) tt

    performs : (i : Instruction) → Holds course (performed i f here)
    performs (instruction.PushConstant c) = goes (operand_pushed s.stack.width (constant_value c) ops)
    performs instruction.PushSelf = goes (operand_pushed s.stack.width f.receiver ops)
    performs (instruction.PushVariable v) = goes (operand_pushed s.stack.width (variable_read v f here) ops)
    performs (instruction.Store v) = writes v
    performs instruction.Pop = goes (but_last ops)
    performs instruction.Dup = goes (operand_pushed s.stack.width (last_operand ops) ops)
    performs (instruction.Send selector count) = sends count (λ receiver. work.SendTo selector receiver env) (λ receiver. below_next firm) (λ receiver acts. tt) (λ receiver. fewer 2 0 s (omega arith) h)
    performs (instruction.SuperSend selector count) = sends count (λ receiver. work.SuperTo f.class selector receiver env) (λ receiver. below_next firm) (λ receiver acts. tt) (λ receiver. fewer 2 0 s (omega arith) h)
    performs (instruction.MakeBlock code) = makes_by code (nat_le (s.memory.used + 2) s.memory.limit) refl
    performs instruction.MethodReturn = leaves (outcome.Answer (last_operand ops)) here firm w h
    performs instruction.HomeReturn = homes (stands_in f.home (value_popped here.stack).acts) (last_operand ops)
    performs instruction.BlockEnd = leaves (outcome.Answer (last_operand ops)) here firm w h

-- ---- the next one

next_by : {course : Course} → (o : Option Instruction) (s : Seen) (f : Frame) (n : ℕ) (env : Env) (ops : List Value) (acts : List Standing) → slice_get (code_at s.plan.codes f.code).instructions f.position ≡ o
    → F course (here s f n env ops acts) → AllWait s.plan.codes acts → Fits 2 s → Holds course (next_performed o f (here s f n env ops acts))
next_by (Some i) s f n env ops acts is firm w h = performs s f n env ops acts firm (slice_get_within (code_at s.plan.codes f.code).instructions f.position i is) w h i
next_by None s f n env ops acts is firm w h = leaves (outcome.Answer Nil) (here s f n env ops acts) firm w h

-- one more instruction is begun
firm_further : {course : Course} → (s : Seen) → F course s → F (further mode.Run course) (record s { instructions = min (s.instructions + 1) (2 ^ 64 - 1) })
firm_further s f =
    record {
      same = f.same;
      wide = f.wide;
      ran = ap (λ n. min (n + 1) (2 ^ 64 - 1)) f.ran;
      moderate = f.moderate;
      compiled = f.compiled;
      initializers = f.initializers;
      troubles = f.troubles;
      roomy = f.roomy;
      space = f.space;
      passes = f.passes;
      arguments = f.arguments;
      depth = f.depth;
      cells = f.cells;
      within = f.within;
      positive = f.positive;
      falling = f.falling;
      limited = f.limited;
      known = f.known;
    }

body_runs : {course : Course} → (s : Seen) (k : Activation) (n : ℕ) (env : Env) (ops : List Value) (acts : List Standing) → F course (with s (stand k n env ops ∷ acts) mode.Run) → AllWait s.plan.codes acts → Fits 2 s → IsBody (stand k n env ops ∷ acts) → Holds (further mode.Run course) (instructed (with s (stand k n env ops ∷ acts) mode.Run))
body_runs s (act.Body f) n env ops acts firm w h is = next_by (slice_get (code_at s.plan.codes f.code).instructions f.position) (record s { instructions = min (s.instructions + 1) (2 ^ 64 - 1) }) f n env ops acts refl (firm_further (with s (stand (act.Body f) n env ops ∷ acts) mode.Run) firm) w h
body_runs s (act.Leaving f) n env ops acts firm w h is = absurd is
body_runs s (act.Protect r c d) n env ops acts firm w h is = absurd is
body_runs s (act.EnsureOn b) n env ops acts firm w h is = absurd is
body_runs s (act.CurtailOn b) n env ops acts firm w h is = absurd is
body_runs s (act.ActionOff o) n env ops acts firm w h is = absurd is
body_runs s (act.Signal e) n env ops acts firm w h is = absurd is
body_runs s (act.HandlerRun t) n env ops acts firm w h is = absurd is
body_runs s act.Outer n env ops acts firm w h is = absurd is
body_runs s (act.ResumeWait x c t) n env ops acts firm w h is = absurd is
body_runs s (act.HandlesWait x e) n env ops acts firm w h is = absurd is
body_runs s (act.Loop x) n env ops acts firm w h is = absurd is

pub instructs : {course : Course} → (s : Seen) (acts : List Standing) → F course (with s acts mode.Run) → RunsAtTop s.plan.codes acts → Fits 2 s → IsBody acts → Holds (further mode.Run course) (instructed (with s acts mode.Run))
instructs s [] firm w h is = absurd is
instructs s (a ∷ acts) firm w h is = body_runs s a.kept a.number a.env a.operands acts firm w.1 h is
