-- What holds of a machine holds after an outcome reached its innermost activation.
use Rattle.std.proofs.Common.{◌≡◌, ℕ, suc, ◌+◌, ◌-◌, ◌^◌, min, ◌<◌, ◌≤◌, List, [], ◌∷◌, length, Bool, true, false, Option, Some, None, if◌then◌else◌, refl, arith}
use Rattle.object_heap.specs.declared.value.Value.{Value}
use Rattle.object_heap.specs.declared.trouble.Trouble.TheVariants.{NotResumable}
use Rattle.st_collections.specs.Kinds.{is_true}
use Rattle.st_contexts.specs.declared.activation.Activation.{Activation}
use Rattle.st_contexts.specs.declared.activation.Activation.TheVariants as act
use Rattle.st_contexts.specs.declared.activation.Env.{Env}
use Rattle.st_contexts.specs.declared.activation.Frame.{Frame}
use Rattle.st_contexts.specs.declared.activation.Turn.{Turn}
use Rattle.st_contexts.specs.declared.activation.SearchState.{SearchState}
use Rattle.st_contexts.specs.declared.activation.Purpose.{Purpose}
use Rattle.st_contexts.specs.declared.activation.Purpose.TheVariants as purpose
use Rattle.st_contexts.specs.declared.activation.Wait.{Wait}
use Rattle.st_contexts.specs.declared.activation.Wait.TheVariants as wait
use Rattle.st_contexts.specs.declared.outcome.Outcome.{Outcome}
use Rattle.st_contexts.specs.declared.outcome.Outcome.TheVariants as outcome
use Rattle.st_contexts.specs.declared.outcome.Target.{Target}
use Rattle.st_contexts.specs.declared.outcome.Target.TheVariants as target
use Rattle.st_contexts.specs.declared.outcome.Limit.{Limit}
use Rattle.st_contexts.specs.declared.outcome.Limit.TheVariants as limit
use Rattle.st_contexts.specs.Stack.{Standing, operand_pushed, popped}
use Rattle.st_rules.specs.Flat.{code_at}
use Rattle.st_machine.specs.declared.work.Mode.{Mode}
use Rattle.st_machine.specs.declared.work.Mode.TheVariants as mode
use Rattle.st_machine.specs.declared.work.Work.TheVariants as work
use Rattle.st_machine.specs.Seen.{Seen, with_mode, with_passed, passing}
use Rattle.st_machine.specs.Operands.{moved}
use Rattle.st_machine.specs.Instructions.{value_delivered}
use Rattle.st_machine.specs.Initializers.{target_on, kept_at, value_kept}
use Rattle.st_machine.specs.Searches.{asks_nested}
use Rattle.st_machine.specs.Settling.{at_home, at_outer, at_protect, receiver_again, signaled_instead, finished, again, turn_outcome, search_of, searching, pointed, asked, judged, answered_by, protected_by, signaled_by, unwound_by, ended, ending_of, limit_ending, settled}
use Rattle.st_machine.specs.Followed.{KeptBelow, Below, TurnBelow, SearchBelow, PurposeBelow, EntryBelow, Falling}
use Rattle.st_machine_laws.specs.Holding.{Course, AllWait, Fits, search_allowance, outcome_allowance, Holds}
use Rattle.st_machine_laws.proofs.Blocks.{F, W, numbers, firm_stack, firm_popped, falling_further, settles, stops, begins, ends, leaves, place, placed, firm_placed, fits_placed, fewer}
use Rattle.st_machine_laws.proofs.Searches.{judges}

-- the machine with these activations and this mode
abbrev pub with : Seen → List Standing → Mode → Seen
with s acts m = record { plan = s.plan; stack = record { acts = acts; next = s.stack.next; depth = s.stack.depth; width = s.stack.width }; memory = s.memory; variables = s.variables; passed = s.passed; mode = m; steps = s.steps; deepest = s.deepest; initializers = s.initializers; instructions = s.instructions }

abbrev pub stand : Activation → ℕ → Env → List Value → Standing
stand k n env ops = record { number = n; kept = k; env = env; operands = ops }

-- ---- the value of an initializer

keeps_at : {course : Course} → (o : Option ℕ) (v : Value) (s : Seen) (m : Mode) → F course (with s [] m) → Fits 2 s → Holds course (with_mode (kept_at o v (with s [] m)) mode.Next)
keeps_at (Some place) v s m f h = record { firm = f; placed = tt; numbers = h; next = refl }
keeps_at None v s m f h = record { firm = f; placed = tt; numbers = h; next = refl }

pub keeps : {course : Course} → (v : Value) (s : Seen) (m : Mode) → F course (with s [] m) → Fits 2 s → Holds course (value_kept v (with s [] m))
keeps v s m f h = keeps_at (target_on (with s [] m)) v s m f h

-- ---- links to activations further out

entry_further : (n m : ℕ) (entry : Option ℕ) → n < m → EntryBelow n entry → EntryBelow m entry
entry_further n m None l h = tt
entry_further n m (Some e) l h = let further : e < m = omega (arith, l, h) in further

pub turn_further : (n m : ℕ) (t : Turn) → n < m → TurnBelow n t → TurnBelow m t
turn_further n m t l h = (let further : t.outside.0 < m = omega (arith, l, h.0) in further, entry_further n m t.entry l h.1)

purpose_further : (n m : ℕ) (p : Purpose) → n < m → PurposeBelow n p → PurposeBelow m p
purpose_further n m purpose.Signal l h = tt
purpose_further n m (purpose.Pass t) l h = turn_further n m t l h
purpose_further n m (purpose.Outer t point) l h = turn_further n m t l h
purpose_further n m purpose.IsNested l h = tt

search_further : (n m : ℕ) (x : SearchState) → n < m → SearchBelow n x → SearchBelow m x
search_further n m x l h = (let further : x.whole.0 < m = omega (arith, l, h.0) in further, purpose_further n m x.purpose l h.1)

most_allowance : (b : Bool) → search_allowance b ≤ 2
most_allowance true = omega arith
most_allowance false = omega arith

-- ---- an activation that stays

module _ (s : Seen) (m : Mode) (n : ℕ) (env : Env) (ops : List Value) (acts : List Standing) where
  abbrev over : Activation → Seen
  over k = with s (stand k n env ops ∷ acts) m

  -- it keeps something else
  pub firm_kept : {course : Course} → (k k' : Activation) (ops' : List Value) → F course (over k) → KeptBelow n k' → F course (with s (stand k' n env ops' ∷ acts) m)
  firm_kept k k' ops' f below =
      firm_stack s.plan s.memory s.passed.room s.steps s.initializers s.instructions (over k).stack (stand k' n env ops' ∷ acts) s.stack.next f f.positive (record { number = f.falling.0.number; env = f.falling.0.env; kept = below }, f.falling.1)

  below_next : {course : Course} → (k : Activation) → F course (over k) → env.0 < s.stack.next
  below_next k f = let l : n < s.stack.next = f.falling.0.number in let e : env.0 < n = f.falling.0.env in omega (arith, l, e)

  firm_without : {course : Course} → (k : Activation) → F course (over k) → F course (with s acts m)
  firm_without k f = firm_popped (over k) f

  -- a body goes on
  pub moves : {course : Course} → (f f' : Frame) (ops' : List Value) → F course (over (act.Body f)) → f'.code ≡ f.code → f'.position ≡ min (f.position + 1) (2 ^ 32 - 1) → f.position < length (code_at s.plan.codes f.code).instructions → AllWait s.plan.codes acts → Fits 2 s
      → Holds course (with s (stand (act.Body f') n env ops' ∷ acts) mode.Run)
  moves f f' ops' firm same next l w h =
      let short : length (code_at s.plan.codes f.code).instructions < 2 ^ 32 - 1 = firm.moderate.lengths f.code in
      let within : f'.position ≤ length (code_at s.plan.codes f'.code).instructions = rw (same, next) (omega (arith, l, short)) in
      let below : f'.position < 2 ^ 32 - 1 = omega (arith, next, l, short) in
      record { firm = firm_kept (act.Body f) (act.Body f') ops' firm below; placed = (within, w); numbers = h; next = tt }

  module _ {course : Course} (k : Activation) (f : F course (over k)) (w : AllWait s.plan.codes acts) (h : Fits 2 s) where
    finishes : (block : Value) (held : Outcome) → Holds course (finished block held env (over k))
    finishes block held = begins (work.Apply block env) (with_passed (over (act.ActionOff held)) (passing [] s.passed)) (firm_kept k (act.ActionOff held) ops f tt) (tt, w) (fewer 2 0 s (omega arith) h) (below_next k f) tt

    begins_again : (receiver selector handler : Value) → Holds course (again n receiver selector handler (over k))
    begins_again receiver selector handler = begins (work.Apply receiver (record { 0 = n })) (with_passed (over (act.Protect receiver selector handler)) (passing [] s.passed)) (firm_kept k (act.Protect receiver selector handler) ops f tt) (tt, w) (fewer 2 0 s (omega arith) h) f.falling.0.number tt

    drops : (o : Outcome) → Holds course (with s acts (mode.Settle o))
    drops o = leaves o (over k) f w h

    -- ---- waits

    abbrev dropped : Seen
    dropped = with s acts m

    points : (who : ℕ) (t : Turn) → TurnBelow s.stack.next t → Holds course (pointed who t env dropped)
    points who t below =
        let further : s.stack.next < s.stack.next + 1 = omega arith in
        let t' : TurnBelow (s.stack.next + 1) t = turn_further s.stack.next (s.stack.next + 1) t further below in
        place (Holds _) (λ y. searching (search_of who t (purpose.Outer t s.stack.next)) y) act.Outer env dropped (numbers 2 dropped (firm_without k f) h)
        (begins (work.Search (search_of who t (purpose.Outer t s.stack.next)) t.outside) (placed act.Outer env dropped) (firm_placed act.Outer env dropped (firm_without k f) (below_next k f) tt) (tt, w) (fits_placed 2 1 act.Outer env dropped (omega arith) h) ((t'.0, t'), t'.0) tt)
        (stops limit.Depth dropped (firm_without k f) w (fewer 2 0 dropped (omega arith) h))

    asks_so : (b : Bool) (v : Wait) (who : ℕ) (t : Turn) → TurnBelow s.stack.next t → Holds course (asked b v who t env dropped)
    asks_so true (wait.Resume v) who t below = settles (outcome.Go (target.Resume t.resume_point) v) dropped (firm_without k f) w h
    asks_so false (wait.Resume v) who t below = begins (work.Fail NotResumable env) dropped (firm_without k f) w h (below_next k f) tt
    asks_so true wait.Outer who t below = points who t below
    asks_so false wait.Outer who t below = begins (work.Search (search_of who t (purpose.Pass t)) t.outside) dropped (firm_without k f) w (fewer 2 1 dropped (omega arith) h) ((below.0, below), below.0) tt

  -- ---- a value

  pub answers_by : {course : Course} → (k : Activation) (v : Value) → F course (over k) → AllWait s.plan.codes (stand k n env ops ∷ acts) → Fits 2 s → Holds course (answered_by k n env v (over k))
  answers_by (act.Body fr) v f w h = moves fr (moved fr) (operand_pushed s.stack.width v ops) f refl refl w.0 w.1 h
  answers_by (act.Leaving fr) v f w h = drops (act.Leaving fr) f w.1 h (outcome.Answer v)
  answers_by (act.Protect r t d) v f w h = drops (act.Protect r t d) f w.1 h (outcome.Answer v)
  answers_by (act.EnsureOn block) v f w h = finishes (act.EnsureOn block) f w.1 h block (outcome.Answer v)
  answers_by (act.CurtailOn block) v f w h = drops (act.CurtailOn block) f w.1 h (outcome.Answer v)
  answers_by (act.ActionOff held) v f w h = drops (act.ActionOff held) f w.1 h held
  answers_by (act.Signal e) v f w h = drops (act.Signal e) f w.1 h (outcome.Answer v)
  answers_by (act.HandlerRun t) v f w h = drops (act.HandlerRun t) f w.1 h (turn_outcome t (with s acts m).stack v)
  answers_by act.Outer v f w h = drops act.Outer f w.1 h (outcome.Answer v)
  answers_by (act.ResumeWait x c t) v f w h = asks_so (act.ResumeWait x c t) f w.1 h (is_true v) x c t (turn_further n s.stack.next t f.falling.0.number f.falling.0.kept)
  answers_by (act.HandlesWait x entry) v f w h =
      let l : entry < s.stack.next = omega (arith, f.falling.0.number, f.falling.0.kept.1) in
      judges (is_true v) x entry env (with s acts m) (firm_without (act.HandlesWait x entry) f) w.1 (fewer 2 (search_allowance (asks_nested x.purpose)) s (most_allowance (asks_nested x.purpose)) h)
      (search_further n s.stack.next x f.falling.0.number f.falling.0.kept.0) l (below_next (act.HandlesWait x entry) f)
  answers_by (act.Loop l) v f w h = begins (work.Visit n l v env) (over (act.Loop l)) f w h (below_next (act.Loop l) f) (refl, refl)

  -- ---- an unwinding

  protects : {course : Course} → (o : Option Value) (k : Activation) (selector handler : Value) (out : Outcome) → F course (over k) → AllWait s.plan.codes acts → Fits 2 s → Holds course (protected_by o n selector handler out (over k))
  protects (Some receiver) k selector handler out f w h = begins_again k f w h receiver selector handler
  protects None k selector handler out f w h = drops k f w h out

  resignals : {course : Course} → (o : Option ℕ) (k : Activation) (out : Outcome) → F course (over k) → AllWait s.plan.codes (stand k n env ops ∷ acts) → Fits 2 s → Holds course (signaled_by o out env (over k))
  resignals (Some other) k out f w h = begins (work.Raise other env) (over k) f w h (below_next k f) tt
  resignals None k out f w h = drops k f w.1 h out

  pub unwinds_by : {course : Course} → (k : Activation) (t : Target) (v : Value) → F course (over k) → AllWait s.plan.codes (stand k n env ops ∷ acts) → Fits 2 s → Holds course (unwound_by k n env t v (over k))
  unwinds_by (act.Body fr) t v f w h = drops (act.Body fr) f w.1 h (at_home n t v)
  unwinds_by (act.Leaving fr) t v f w h = drops (act.Leaving fr) f w.1 h (at_home n t v)
  unwinds_by (act.Protect r c d) t v f w h = protects (receiver_again n r t v) (act.Protect r c d) c d (at_protect n t v) f w.1 h
  unwinds_by (act.EnsureOn block) t v f w h = finishes (act.EnsureOn block) f w.1 h block (outcome.Go t v)
  unwinds_by (act.CurtailOn block) t v f w h = finishes (act.CurtailOn block) f w.1 h block (outcome.Go t v)
  unwinds_by (act.ActionOff held) t v f w h = drops (act.ActionOff held) f w.1 h (outcome.Go t v)
  unwinds_by (act.Signal e) t v f w h = resignals (signaled_instead n t) (act.Signal e) (at_outer n t v) f w h
  unwinds_by (act.HandlerRun c) t v f w h = drops (act.HandlerRun c) f w.1 h (outcome.Go t v)
  unwinds_by act.Outer t v f w h = drops act.Outer f w.1 h (at_outer n t v)
  unwinds_by (act.ResumeWait x c d) t v f w h = drops (act.ResumeWait x c d) f w.1 h (outcome.Go t v)
  unwinds_by (act.HandlesWait x entry) t v f w h = drops (act.HandlesWait x entry) f w.1 h (outcome.Go t v)
  unwinds_by (act.Loop l) t v f w h = drops (act.Loop l) f w.1 h (outcome.Go t v)

-- ---- an outcome

pub outcomes : {course : Course} → (o : Outcome) (s : Seen) (acts : List Standing) (m : Mode) → F course (with s acts m) → W (with s acts m) → Fits (outcome_allowance o) s → Holds course (settled o (with s acts m))
outcomes (outcome.Answer v) s [] m f w h = keeps v s m f h
outcomes (outcome.Answer v) s (a ∷ acts) m f w h = answers_by s m a.number a.env a.operands acts a.kept v f w h
outcomes (outcome.Go t v) s [] m f w h = ends (ending_of t v) (with s [] m) f w (fewer 2 0 s (omega arith) h)
outcomes (outcome.Go t v) s (a ∷ acts) m f w h = unwinds_by s m a.number a.env a.operands acts a.kept t v f w h
outcomes (outcome.Stop l) s acts m f w h = ends (limit_ending l) (with s acts m) f w h
