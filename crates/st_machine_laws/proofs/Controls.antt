-- What holds of a machine holds after a handler told its exception what to do.
use Rattle.std.proofs.Common.{◌≡◌, ℕ, ◌+◌, ◌-◌, ◌^◌, ◌<◌, ◌≤◌, List, [], ◌∷◌, Bool, true, false, nat_eq, Option, Some, None, if◌then◌else◌, refl, arith}
use Rattle.object_heap.specs.declared.value.Value.{Value}
use Rattle.object_heap.specs.declared.value.Value.TheVariants.{Nil, Object}
use Rattle.object_heap.specs.declared.trouble.Trouble.TheVariants.{ExceptionExpected, AlreadySignaled, NotActive}
use Rattle.st_code.specs.Messages.{Control}
use Rattle.st_code.specs.Lookup.{is_exception}
use Rattle.st_contexts.specs.declared.activation.Activation.{Activation}
use Rattle.st_contexts.specs.declared.activation.Activation.TheVariants as act
use Rattle.st_contexts.specs.declared.activation.Env.{Env}
use Rattle.st_contexts.specs.declared.activation.Turn.{Turn}
use Rattle.st_contexts.specs.declared.activation.Purpose.TheVariants as purpose
use Rattle.st_contexts.specs.declared.activation.Wait.TheVariants as wait
use Rattle.st_contexts.specs.declared.outcome.Outcome.TheVariants.{Go}
use Rattle.st_contexts.specs.declared.outcome.Target.TheVariants as target
use Rattle.st_contexts.specs.Stack.{Standing, numbered}
use Rattle.signal_env.specs.declared.turns.FoundTurn.{FoundTurn}
use Rattle.signal_env.specs.Turns.{turn_kept, if_of, turn_at, or_turn, turn_in, live_in}
use Rattle.st_machine.specs.declared.work.Work.TheVariants as work
use Rattle.st_machine.specs.Seen.{Seen}
use Rattle.st_machine.specs.Plans.{program_in}
use Rattle.st_machine.specs.Settling.{search_of}
use Rattle.st_machine.specs.Controls.{resignaled, resignaled_as, controlled_by, controlled_without, controlled_in, controlled_at, controlled}
use Rattle.st_machine.specs.Followed.{Falling, KeptBelow, TurnBelow}
use Rattle.st_machine_laws.specs.Holding.{Course, Fits, Holds}
use Rattle.st_machine_laws.proofs.Blocks.{F, W, settles, begins, fewer}
use Rattle.st_machine_laws.proofs.Settling.{turn_further}

-- ---- the turn that is found

abbrev FoundBelow : ℕ → Option FoundTurn → Type 0
FoundBelow n None = Unit {0}
FoundBelow n (Some found) = TurnBelow n found.turn

if_below : (b : Bool) (n m : ℕ) (t : Turn) → TurnBelow n t → FoundBelow n (if b then Some (record { number = m; turn = t }) else None)
if_below true n m t h = h
if_below false n m t h = tt

kept_below : (k : Activation) (e n m : ℕ) → KeptBelow n k → FoundBelow n (if_of e m (turn_kept k))
kept_below (act.HandlerRun t) e n m h = if_below (nat_eq t.exception e) n m t h
kept_below (act.Body f) e n m h = tt
kept_below (act.Leaving f) e n m h = tt
kept_below (act.Protect r s d) e n m h = tt
kept_below (act.EnsureOn b) e n m h = tt
kept_below (act.CurtailOn b) e n m h = tt
kept_below (act.ActionOff o) e n m h = tt
kept_below (act.Signal x) e n m h = tt
kept_below act.Outer e n m h = tt
kept_below (act.ResumeWait w k t) e n m h = tt
kept_below (act.HandlesWait x c) e n m h = tt
kept_below (act.Loop l) e n m h = tt

or_below : (o rest : Option FoundTurn) (n : ℕ) → FoundBelow n o → FoundBelow n rest → FoundBelow n (or_turn o rest)
or_below None rest n h h' = h'
or_below (Some found) rest n h h' = h

found_further : (o : Option FoundTurn) (n m : ℕ) → n < m → FoundBelow n o → FoundBelow m o
found_further None n m l h = tt
found_further (Some found) n m l h = turn_further n m found.turn l h

turn_below : (e n : ℕ) (acts : List Standing) → Falling n acts → FoundBelow n (turn_in e acts)
unfolding turn_in
turn_below e n [] h = tt
turn_below e n (a ∷ acts) h =
    or_below (turn_at e (numbered a)) (turn_in e acts) n
    (found_further (turn_at e (numbered a)) a.number n h.0.number (kept_below a.kept e a.number a.number h.0.kept))
    (found_further (turn_in e acts) a.number n h.0.number (turn_below e a.number acts h.1))

-- ---- what it is told

module _ {course : Course} (s : Seen) (f : F course s) (w : W s) (h : Fits 2 s) (env : Env) (l : env.0 < s.stack.next) where
  resignals : (b live : Bool) (t : Turn) (n : ℕ) → Holds course (resignaled b live t n env s)
  resignals false live t n = begins (work.Fail ExceptionExpected env) s f w h l tt
  resignals true true t n = begins (work.Fail AlreadySignaled env) s f w h l tt
  resignals true false t n = settles (Go (target.Resignal t.signal n) (Object n)) s f w h

  resignals_as : (t : Turn) (v : Value) → Holds course (resignaled_as t v env s)
  resignals_as t (Object n) = resignals (is_exception (program_in s.plan) s.memory.store (Object n)) (live_in n s.stack.acts) t n
  resignals_as t _ = begins (work.Fail ExceptionExpected env) s f w h l tt

  controls_by : (c : Control) (v : Value) (k : ℕ) (t : Turn) (entry : ℕ) → TurnBelow s.stack.next t → Holds course (controlled_by c v k t entry env s)
  controls_by Control.Return v k t entry below = settles (Go (target.Protected entry) v) s f w h
  controls_by Control.Retry v k t entry below = settles (Go (target.Retry entry) Nil) s f w h
  controls_by Control.RetryUsing v k t entry below = settles (Go (target.RetryWith entry) v) s f w h
  controls_by Control.Resume v k t entry below = begins (work.Ask (wait.Resume v) k t env) s f w (fewer 2 1 s (omega arith) h) (below, l) tt
  controls_by Control.Pass v k t entry below = begins (work.Search (search_of k t (purpose.Pass t)) t.outside) s f w (fewer 2 1 s (omega arith) h) ((below.0, below), below.0) tt
  controls_by Control.Outer v k t entry below = begins (work.Ask wait.Outer k t env) s f w (fewer 2 1 s (omega arith) h) (below, l) tt
  controls_by Control.ResignalAs v k t entry below = resignals_as t v
  controls_by Control.IsNested v k t entry below = begins (work.Search (search_of k t purpose.IsNested) t.outside) s f w h ((below.0, tt), below.0) tt

  controls_without : (c : Control) (v : Value) (k : ℕ) (t : Turn) → TurnBelow s.stack.next t → Holds course (controlled_without c v k t env s)
  controls_without Control.Resume v k t below = begins (work.Ask (wait.Resume v) k t env) s f w (fewer 2 1 s (omega arith) h) (below, l) tt
  controls_without _ v k t below = begins (work.Fail NotActive env) s f w h l tt

  controls_in : (entry : Option ℕ) (c : Control) (v : Value) (k : ℕ) (t : Turn) → TurnBelow s.stack.next t → Holds course (controlled_in entry c v k t env s)
  controls_in (Some entry) c v k t below = controls_by c v k t entry below
  controls_in None c v k t below = controls_without c v k t below

  controls_at : (o : Option FoundTurn) (c : Control) (v : Value) → FoundBelow s.stack.next o → Holds course (controlled_at o c v env s)
  controls_at (Some found) c v below = controls_in found.turn.entry c v found.number found.turn below
  controls_at None c v below = begins (work.Fail NotActive env) s f w h l tt

  pub controls : (c : Control) (e : ℕ) (v : Value) → Holds course (controlled c e v env s)
  controls c e v = controls_at (turn_in e s.stack.acts) c v (turn_below e s.stack.next s.stack.acts f.falling)
