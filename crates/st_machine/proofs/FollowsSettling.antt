-- An outcome at the innermost activation is one or two small steps of the flat machine.
use Rattle.std.proofs.Common.{◌≡◌, ℕ, suc, ◌+◌, ◌-◌, ◌<◌, ◌^◌, min, List, [], ◌∷◌, ◌++◌, length, Bool, true, false, nat_eq, nat_le, if◌then◌else◌, Option, Some, None, refl, ap, sym, arith}
use Rattle.std.specs.Option.{option_map}
use Rattle.std.proofs.lemmas.List.{append-nil, append_assoc}
use Rattle.object_heap.specs.declared.value.Value.{Value}
use Rattle.object_heap.specs.declared.trouble.Trouble.TheVariants.{NotResumable}
use Rattle.object_heap.specs.Charges.{Memory}
use Rattle.st_code.specs.Texts.{Text}
use Rattle.st_code.specs.Program.{Program}
use Rattle.st_collections.specs.Kinds.{is_true}
use Rattle.st_contexts.specs.declared.activation.Activation.{Activation}
use Rattle.st_contexts.specs.declared.activation.Activation.TheVariants as act
use Rattle.st_contexts.specs.declared.activation.Frame.{Frame}
use Rattle.st_contexts.specs.declared.activation.Env.{Env}
use Rattle.st_contexts.specs.declared.activation.Turn as linked
use Rattle.st_contexts.specs.declared.activation.Wait as waiting
use Rattle.st_contexts.specs.declared.activation.Wait.TheVariants as wait
use Rattle.st_contexts.specs.declared.activation.SearchState.{SearchState}
use Rattle.st_loops.specs.declared.state.LoopState.{LoopState}
use Rattle.st_contexts.specs.declared.outcome.Outcome as hand
use Rattle.st_contexts.specs.declared.outcome.Outcome.TheVariants as outcome
use Rattle.st_contexts.specs.declared.outcome.Target as aim
use Rattle.st_contexts.specs.declared.outcome.Target.TheVariants as target
use Rattle.st_contexts.specs.Stack.{Standing}
use Rattle.st_rules.specs.Events.{Event}
use Rattle.st_rules.specs.State.{State, Entry, Mark, Answer, Go, stood, told, is_at_signal}
use Rattle.st_rules.specs.Rules.{Apply, Raise}
use Rattle.st_rules.specs.Ends as rules
use Rattle.st_rules.specs.Machine.{ProtectAct, ActionOff, SignalAct, Mach, Settle, Begin, give, unwind, asked_act, marks}
use Rattle.st_rules.specs.Flat.{FlatBody, flat, flat_number}
use Rattle.st_rules.specs.Turns.{Top, On, top_iter, instructions}
use Rattle.st_machine.specs.declared.work.Mode.{Mode}
use Rattle.st_machine.specs.declared.work.Work.TheVariants as work
use Rattle.st_machine.specs.Seen.{Plan, Passed, Seen}
use Rattle.st_machine.specs.Plans.{program_in}
use Rattle.st_machine.specs.Opening.{left_with, beginning, settling}
use Rattle.st_machine.specs.Settling.{at_home, at_outer, end_told, turn_outcome, at_signal, asked, asked_told, answered_by, answer_told, unwound_by, unwinding_told, finished, again, outcome_in, default_outcome}
use Rattle.st_machine.specs.Meaning.{top_of, state_of, acts_of, act_by, env_of, turn_of, entry_named, wait_of, outcome_of, target_of, events_of, target_in, behind}
use Rattle.st_machine.specs.Followed.{EntryBelow, TurnBelow, KeptBelow}
use Rattle.st_machine.proofs.Links.{other_number, env_skip, turn_skip, signal_same, env_here}
use Rattle.st_machine.proofs.FollowsOpening.{marks_length}

-- ---- outcomes

home_same : (n : ℕ) (t : aim.Target) (v : Value) → rules.at_home n (target_of t) v ≡ outcome_of (at_home n t v)
home_same n (target.Home m) v = by (nat_eq m n)
  where
    by : (b : Bool) → (if b then Answer v else Go (target_of (target.Home m)) v) ≡ outcome_of (if b then outcome.Answer v else outcome.Go (target.Home m) v)
    by true = refl
    by false = refl
home_same n (target.Protected m) v = refl
home_same n (target.Retry m) v = refl
home_same n (target.RetryWith m) v = refl
home_same n (target.Resume m) v = refl
home_same n (target.Resignal m e) v = refl
home_same n target.Terminate v = refl

outer_same : (n : ℕ) (t : aim.Target) (v : Value) → rules.at_outer n (target_of t) v ≡ outcome_of (at_outer n t v)
outer_same n (target.Resume m) v = by (nat_eq m n)
  where
    by : (b : Bool) → (if b then Answer v else Go (target_of (target.Resume m)) v) ≡ outcome_of (if b then outcome.Answer v else outcome.Go (target.Resume m) v)
    by true = refl
    by false = refl
outer_same n (target.Home m) v = refl
outer_same n (target.Protected m) v = refl
outer_same n (target.Retry m) v = refl
outer_same n (target.RetryWith m) v = refl
outer_same n (target.Resignal m e) v = refl
outer_same n target.Terminate v = refl

-- some small steps, without an instruction
pub record Comes (plan : Plan) (width : ℕ) (from to : Top FlatBody) : Type 0 where
  pub count : ℕ
  pub comes : top_iter (flat (program_in plan) plan.codes width) (program_in plan) count from ≡ to
  pub counted : instructions (flat (program_in plan) plan.codes width) (program_in plan) count from ≡ 0

-- one small step and some more, without an instruction
pub record Moved (plan : Plan) (width : ℕ) (from to : Top FlatBody) : Type 0 where
  pub more : ℕ
  pub comes : top_iter (flat (program_in plan) plan.codes width) (program_in plan) (suc more) from ≡ to
  pub counted : instructions (flat (program_in plan) plan.codes width) (program_in plan) (suc more) from ≡ 0

entry_further : (n m : ℕ) (entry : Option ℕ) → n < m → EntryBelow n entry → EntryBelow m entry
entry_further n m None l h = tt
entry_further n m (Some e) l h = let further : e < m = omega (arith, l, h) in further

pub turn_further : (n m : ℕ) (t : linked.Turn) → n < m → TurnBelow n t → TurnBelow m t
turn_further n m t l h = ((let further : t.outside.0 < m = omega (arith, l, h.0) in further), entry_further n m t.entry l h.1)

module _ (plan : Plan) (next depth width : ℕ) (vars : List Value) (passed : Passed) (steps deepest inits instrs : ℕ) (tr : Text) (ev : List Event) (mem : Memory) (m : Mode) where
  abbrev p : Program
  p = program_in plan

  abbrev here : List Standing → Seen
  here acts = record { plan = plan; stack = record { acts = acts; next = next; depth = depth; width = width }; memory = mem; variables = vars; passed = passed; mode = m; steps = steps; deepest = deepest; initializers = inits; instructions = instrs }

  abbrev state : State
  state = state_of tr ev (here [])

  abbrev goes : Mach FlatBody → Top FlatBody
  goes x = On (target_in p inits) (behind p inits) x

  -- nothing more was told
  untold : (s : Seen) → top_of tr ev s ≡ top_of tr (ev ++ []) s
  untold s = ap (λ e. top_of tr e s) (sym (append-nil ev))

  pub end_law : (a : Standing) (acts : List Standing) (n : ℕ) (o : hand.Outcome) → goes (Settle (outcome_of o) (acts_of acts) (rules.ended n (outcome_of o) state)) ≡ top_of tr (ev ++ events_of (end_told n o)) (left_with o (here (a ∷ acts)))
  end_law a acts n (outcome.Answer v) = refl
  end_law a acts n (outcome.Go t v) = refl
  end_law a acts n (outcome.Stop l) = untold (left_with (outcome.Stop l) (here (a ∷ acts)))

  module _ (n : ℕ) (env : Env) (ops : List Value) (acts : List Standing) (below : env.0 < n) where
    abbrev stand : Activation → Standing
    stand k = record { number = n; kept = k; env = env; operands = ops }

    abbrev over : Activation → Seen
    over k = here (stand k ∷ acts)

    -- a termination block runs
    finish_law : (k : Activation) (block : Value) (held : hand.Outcome)
        → goes (Begin (Apply block [] (env_of acts env)) (ActionOff n (outcome_of held) ∷ acts_of acts) (told (Event.Action n) state)) ≡ top_of tr (ev ++ Event.Action n ∷ []) (finished block held env (over k))
    finish_law k block held = rw (env_skip (stand (act.ActionOff held)) acts env below) refl

    again_law : (k : Activation) (receiver selector handler : Value)
        → goes (Begin (Apply receiver [] (record { number = n; selector = selector; handler = handler } ∷ env_of acts env)) (ProtectAct receiver (record { number = n; selector = selector; handler = handler }) (env_of acts env) ∷ acts_of acts) (told (Event.Again n) state))
        ≡ top_of tr (ev ++ Event.Again n ∷ []) (again n receiver selector handler (over k))
    again_law k receiver selector handler = rw (env_here n receiver selector handler env ops acts below) refl

    instead_law : (e f : ℕ) → goes (Begin (Raise f (env_of acts env)) (SignalAct n e (env_of acts env) ∷ acts_of acts) state) ≡ top_of tr (ev ++ []) (beginning (work.Raise f env) (over (act.Signal e)))
    instead_law e f = rw (env_skip (stand (act.Signal e)) acts env below, append-nil ev) refl

    -- ---- a value

    module _ (v : Value) where
      abbrev Answers : ℕ → Activation → Type 0
      Answers count k = top_iter (flat p plan.codes width) p count (goes (give (flat p plan.codes width) p v (act_by k n env ops acts) (acts_of acts) state)) ≡ top_of tr (ev ++ events_of (answer_told k n v (over k))) (answered_by k n env v (over k))

      body_answers : (f : Frame) → min (f.position + 1) (2 ^ 32 - 1) ≡ f.position + 1 → Answers 0 (act.Body f)
      body_answers f moves = rw (moves, append-nil ev) refl

      leaving_answers : (f : Frame) → Answers 0 (act.Leaving f)
      leaving_answers f = untold (left_with (outcome.Answer v) (over (act.Leaving f)))

      protect_answers : (r s h : Value) → Answers 0 (act.Protect r s h)
      protect_answers r s h = refl

      ensure_answers : (block : Value) → Answers 1 (act.EnsureOn block)
      ensure_answers block = finish_law (act.EnsureOn block) block (outcome.Answer v)

      curtail_answers : (block : Value) → Answers 0 (act.CurtailOn block)
      curtail_answers block = refl

      action_answers : (held : hand.Outcome) → Answers 0 (act.ActionOff held)
      action_answers held = end_law (stand (act.ActionOff held)) acts n held

      signal_answers : (e : ℕ) → Answers 0 (act.Signal e)
      signal_answers e = refl

      outer_answers : Answers 0 act.Outer
      outer_answers = refl

      default_same : (b : Bool) (resume : ℕ) → rules.default_value b resume v ≡ outcome_of (default_outcome b resume v)
      default_same true resume = refl
      default_same false resume = refl

      outcome_same : (entry : Option ℕ) (b : Bool) (resume signal exception : ℕ) (outside : List Entry) (standing : List Mark) → is_at_signal signal standing ≡ b
          → rules.turn_value (record { exception = exception; entry = option_map (entry_named acts) entry; outside = outside; resume_point = resume; signal = signal }) standing v ≡ outcome_of (outcome_in entry b resume v)
      unfolding entry_named
      outcome_same None b resume signal exception outside standing is = rw is (default_same b resume)
      outcome_same (Some entry) b resume signal exception outside standing is = refl

      turn_same : (t : linked.Turn) → rules.turn_end (turn_of acts t) (marks flat_number (acts_of acts)) (Answer v) ≡ outcome_of (turn_outcome t (record { acts = acts; next = next; depth = depth; width = width }) v)
      turn_same t = outcome_same t.entry (at_signal t.signal (record { acts = acts; next = next; depth = depth; width = width })) t.resume_point t.signal t.exception (env_of acts t.outside) (marks flat_number (acts_of acts)) (signal_same acts t.signal depth next width)

      turn_answers : (t : linked.Turn) → Answers 0 (act.HandlerRun t)
      turn_answers t = rw (turn_same t) (end_law (stand (act.HandlerRun t)) acts n (turn_outcome t (record { acts = acts; next = next; depth = depth; width = width }) v))

      loop_answers : (l : LoopState) → Answers 0 (act.Loop l)
      loop_answers l = untold (beginning (work.Visit n l v env) (over (act.Loop l)))

      -- ---- waits

      two : (d e : Event) → (ev ++ d ∷ []) ++ e ∷ [] ≡ ev ++ d ∷ e ∷ []
      two d e = append_assoc ev (d ∷ []) (e ∷ [])

      module _ (k : ℕ) (t : linked.Turn) (turn_below : TurnBelow next t) (numbers : next < 2 ^ 64 - 1) (same_depth : depth ≡ p.depth_limit) where
        abbrev Asks : Bool → waiting.Wait → Type 0
        Asks b w = goes (asked_act (flat p plan.codes width) p b (wait_of w) k (turn_of acts t) (env_of acts env) (acts_of acts) state) ≡ top_of tr (ev ++ events_of (asked_told b w k (here acts))) (asked b w k t env (here acts))

        resume_asks : (b : Bool) (w : Value) → Asks b (wait.Resume w)
        resume_asks true w = untold (settling (outcome.Go (target.Resume t.resume_point) w) (here acts))
        resume_asks false w = untold (beginning (work.Fail NotResumable env) (here acts))

        abbrev point : Standing
        point = record { number = next; kept = act.Outer; env = env; operands = [] }

        point_asks : (b : Bool) → nat_le (length acts + 1) depth ≡ b → nat_le (length acts + 1) p.depth_limit ≡ b → Asks true wait.Outer
        unfolding stood
        point_asks false e e' = rw (other_number next 18446744073709551615 numbers, marks_length acts, e, e', append-nil ev) refl
        point_asks true e e' = rw (other_number next 18446744073709551615 numbers, marks_length acts, e, e', turn_skip point acts t turn_below, env_skip point acts t.outside turn_below.0, ← two (Event.Outer next) (Event.Search k)) refl

        asks : (b : Bool) (w : waiting.Wait) → Asks b w
        asks b (wait.Resume w) = resume_asks b w
        asks true wait.Outer = point_asks (nat_le (length acts + 1) depth) refl (ap (λ d. nat_le (length acts + 1) d) (sym same_depth))
        asks false wait.Outer = refl

      judges_by : (x : SearchState) (entry : ℕ) (b : Bool) → is_true v ≡ b → Answers 0 (act.HandlesWait x entry)
      unfolding entry_named
      judges_by x entry true is = rw (is, ← two (Event.End n false) (Event.Tried entry true)) refl
      judges_by x entry false is = rw (is, ← two (Event.End n false) (Event.Tried entry false)) refl

      judges : (x : SearchState) (entry : ℕ) → Answers 0 (act.HandlesWait x entry)
      judges x entry = judges_by x entry (is_true v) refl

      -- a value at any activation
      pub value_law : (k : Activation) → KeptBelow n k → n < next → next < 2 ^ 64 - 1 → depth ≡ p.depth_limit → Comes plan width (goes (give (flat p plan.codes width) p v (act_by k n env ops acts) (acts_of acts) state)) (top_of tr (ev ++ events_of (answer_told k n v (over k))) (answered_by k n env v (over k)))
      value_law (act.Body f) h l numbers same_depth = record { count = 0; counted = refl; comes = body_answers f (let moves : min (f.position + 1) (2 ^ 32 - 1) ≡ f.position + 1 = omega (arith, h) in moves) }
      value_law (act.Leaving f) h l numbers same_depth = record { count = 0; counted = refl; comes = leaving_answers f }
      value_law (act.Protect r s t) h l numbers same_depth = record { count = 0; counted = refl; comes = protect_answers r s t }
      value_law (act.EnsureOn block) h l numbers same_depth = record { count = 1; counted = refl; comes = ensure_answers block }
      value_law (act.CurtailOn block) h l numbers same_depth = record { count = 0; counted = refl; comes = curtail_answers block }
      value_law (act.ActionOff held) h l numbers same_depth = record { count = 0; counted = refl; comes = action_answers held }
      value_law (act.Signal e) h l numbers same_depth = record { count = 0; counted = refl; comes = signal_answers e }
      value_law (act.HandlerRun t) h l numbers same_depth = record { count = 0; counted = refl; comes = turn_answers t }
      value_law act.Outer h l numbers same_depth = record { count = 0; counted = refl; comes = outer_answers }
      value_law (act.ResumeWait w k t) h l numbers same_depth = record { count = 0; counted = refl; comes = asks k t (turn_further n next t l h) numbers same_depth (is_true v) w }
      value_law (act.HandlesWait x entry) h l numbers same_depth = record { count = 0; counted = refl; comes = judges x entry }
      value_law (act.Loop state) h l numbers same_depth = record { count = 0; counted = refl; comes = loop_answers state }

      -- ---- an unwinding

      module _ (t : aim.Target) where
        abbrev Unwinds : Activation → Type 0
        Unwinds k = Comes plan width (goes (unwind (flat p plan.codes width) p (target_of t) v (act_by k n env ops acts) (acts_of acts) state)) (top_of tr (ev ++ events_of (unwinding_told k n t v)) (unwound_by k n env t v (over k)))

        at_once : (x y : Top FlatBody) → x ≡ y → Comes plan width x y
        at_once x y e = record { count = 0; counted = refl; comes = e }

        body_unwinds : (f : Frame) → Unwinds (act.Body f)
        body_unwinds f = record { count = 0; counted = refl; comes = rw (home_same n t v, append-nil ev) refl }

        leaving_unwinds : (f : Frame) → Unwinds (act.Leaving f)
        leaving_unwinds f = record { count = 0; counted = refl; comes = rw (home_same n t v, append-nil ev) refl }

        outer_unwinds : Unwinds act.Outer
        outer_unwinds = record { count = 0; counted = refl; comes = rw (outer_same n t v) (end_law (stand act.Outer) acts n (at_outer n t v)) }

        wait_unwinds : (w : waiting.Wait) (k : ℕ) (turn : linked.Turn) → Unwinds (act.ResumeWait w k turn)
        wait_unwinds w k turn = record { count = 0; counted = refl; comes = untold (left_with (outcome.Go t v) (over (act.ResumeWait w k turn))) }

        loop_unwinds : (l : LoopState) → Unwinds (act.Loop l)
        loop_unwinds l = record { count = 0; counted = refl; comes = untold (left_with (outcome.Go t v) (over (act.Loop l))) }

      retries : (m : ℕ) (r s h : Value) (b : Bool) → nat_eq m n ≡ b → Unwinds (target.Retry m) (act.Protect r s h)
      retries m r s h true is = record { count = 1; counted = rw is refl; comes = rw is (again_law (act.Protect r s h) r s h) }
      retries m r s h false is = record { count = 0; counted = refl; comes = rw is refl }

      retries_with : (m : ℕ) (r s h : Value) (b : Bool) → nat_eq m n ≡ b → Unwinds (target.RetryWith m) (act.Protect r s h)
      retries_with m r s h true is = record { count = 1; counted = rw is refl; comes = rw is (again_law (act.Protect r s h) v s h) }
      retries_with m r s h false is = record { count = 0; counted = refl; comes = rw is refl }

      returns_by : (m : ℕ) (r s h : Value) (b : Bool) → nat_eq m n ≡ b → Unwinds (target.Protected m) (act.Protect r s h)
      returns_by m r s h true is = record { count = 0; counted = refl; comes = rw is refl }
      returns_by m r s h false is = record { count = 0; counted = refl; comes = rw is refl }

      protect_unwinds : (t : aim.Target) (r s h : Value) → Unwinds t (act.Protect r s h)
      protect_unwinds (target.Home m) r s h = record { count = 0; counted = refl; comes = refl }
      protect_unwinds (target.Protected m) r s h = returns_by m r s h (nat_eq m n) refl
      protect_unwinds (target.Retry m) r s h = retries m r s h (nat_eq m n) refl
      protect_unwinds (target.RetryWith m) r s h = retries_with m r s h (nat_eq m n) refl
      protect_unwinds (target.Resume m) r s h = record { count = 0; counted = refl; comes = refl }
      protect_unwinds (target.Resignal m e) r s h = record { count = 0; counted = refl; comes = refl }
      protect_unwinds target.Terminate r s h = record { count = 0; counted = refl; comes = refl }

      resumes_by : (m e : ℕ) (b : Bool) → nat_eq m n ≡ b → Unwinds (target.Resume m) (act.Signal e)
      resumes_by m e true is = record { count = 0; counted = refl; comes = rw is refl }
      resumes_by m e false is = record { count = 0; counted = refl; comes = rw is refl }

      instead_by : (m f e : ℕ) (b : Bool) → nat_eq m n ≡ b → Unwinds (target.Resignal m f) (act.Signal e)
      instead_by m f e true is = record { count = 1; counted = rw is refl; comes = rw is (instead_law e f) }
      instead_by m f e false is = record { count = 0; counted = refl; comes = rw is refl }

      signal_unwinds : (t : aim.Target) (e : ℕ) → Unwinds t (act.Signal e)
      signal_unwinds (target.Home m) e = record { count = 0; counted = refl; comes = refl }
      signal_unwinds (target.Protected m) e = record { count = 0; counted = refl; comes = refl }
      signal_unwinds (target.Retry m) e = record { count = 0; counted = refl; comes = refl }
      signal_unwinds (target.RetryWith m) e = record { count = 0; counted = refl; comes = refl }
      signal_unwinds (target.Resume m) e = resumes_by m e (nat_eq m n) refl
      signal_unwinds (target.Resignal m f) e = instead_by m f e (nat_eq m n) refl
      signal_unwinds target.Terminate e = record { count = 0; counted = refl; comes = refl }

      -- an unwinding at any activation
      pub unwinding_law : (t : aim.Target) (k : Activation) → Unwinds t k
      unwinding_law t (act.Body f) = body_unwinds t f
      unwinding_law t (act.Leaving f) = leaving_unwinds t f
      unwinding_law t (act.Protect r s h) = protect_unwinds t r s h
      unwinding_law t (act.EnsureOn block) = record { count = 1; counted = refl; comes = finish_law (act.EnsureOn block) block (outcome.Go t v) }
      unwinding_law t (act.CurtailOn block) = record { count = 1; counted = refl; comes = finish_law (act.CurtailOn block) block (outcome.Go t v) }
      unwinding_law t (act.ActionOff held) = record { count = 0; counted = refl; comes = refl }
      unwinding_law t (act.Signal e) = signal_unwinds t e
      unwinding_law t (act.HandlerRun turn) = record { count = 0; counted = refl; comes = refl }
      unwinding_law t act.Outer = outer_unwinds t
      unwinding_law t (act.ResumeWait w k turn) = wait_unwinds t w k turn
      unwinding_law t (act.HandlesWait x entry) = record { count = 0; counted = refl; comes = refl }
      unwinding_law t (act.Loop l) = loop_unwinds t l
