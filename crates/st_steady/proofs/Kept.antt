-- What each step of a machine keeps: values that are passed on have room, and a loop that is to be visited stands well.
use Rattle.std.proofs.Common.{ℕ, List, [], ◌∷◌, Bool, true, false, Option, Some, None, arith}
use Rattle.object_heap.specs.declared.value.Value.{Value}
use Rattle.object_heap.specs.Store.{Store}
use Rattle.st_collections.specs.Kinds.{is_true}
use Rattle.st_contexts.specs.declared.activation.Activation.{Activation}
use Rattle.st_contexts.specs.declared.activation.Activation.TheVariants as act
use Rattle.st_contexts.specs.declared.activation.Env.{Env}
use Rattle.st_contexts.specs.declared.activation.Turn.{Turn}
use Rattle.st_contexts.specs.declared.activation.Purpose.TheVariants as purpose
use Rattle.st_contexts.specs.declared.activation.Wait.{Wait}
use Rattle.st_contexts.specs.declared.activation.Wait.TheVariants as wait
use Rattle.st_contexts.specs.declared.outcome.Outcome.{Outcome}
use Rattle.st_contexts.specs.declared.outcome.Outcome.TheVariants as outcome
use Rattle.st_contexts.specs.declared.outcome.Target.{Target}
use Rattle.st_contexts.specs.declared.outcome.Limit.TheVariants as limit
use Rattle.st_contexts.specs.Stack.{Standing}
use Rattle.st_loops.specs.States.{state_of}
use Rattle.st_machine.specs.declared.work.Mode.{Mode}
use Rattle.st_machine.specs.declared.work.Mode.TheVariants as mode
use Rattle.st_machine.specs.declared.work.Work.{Work}
use Rattle.st_machine.specs.declared.work.Work.TheVariants as work
use Rattle.st_machine.specs.Initializers.{target_on, kept_at, value_kept}
use Rattle.st_machine.specs.Opening.{has_place, stood, stopped}
use Rattle.st_machine.specs.Seen.{Seen, with_mode}
use Rattle.st_machine.specs.Settling.{receiver_again, signaled_instead, at_protect, at_outer, search_of, searching, asked, without_top, protected_by, signaled_by, answered_by, unwound_by, settled}
use Rattle.st_machine.specs.Steps.{advanced}
use Rattle.st_machine_laws.proofs.Settling.{with}
use Rattle.st_sound.specs.SoundActions.{LoopStands}
use Rattle.st_steady.proofs.Plain.{NoVisit, Few, Plain, either, few_stood, judges, works, opens_next}
use Rattle.st_steady.proofs.Instructing.{instructs}

-- a loop that is to be visited stands well
abbrev pub AtVisit : Mode → Store → Type 0
AtVisit (mode.Begin (work.Visit n l v env)) t = LoopStands t (state_of l)
AtVisit _ t = Unit {0}

pub record Kept (s : Seen) : Type 0 where
  pub visit : AtVisit s.mode s.memory.store
  pub few : Few s

-- and so does the loop that an outcome reaches
abbrev pub LoopKept : Activation → Store → Type 0
LoopKept (act.Loop l) t = LoopStands t (state_of l)
LoopKept _ t = Unit {0}

abbrev pub LoopInnermost : List Standing → Store → Type 0
LoopInnermost [] t = Unit {0}
LoopInnermost (a ∷ acts) t = LoopKept a.kept t

abbrev pub AtOutcome : Mode → Seen → Type 0
AtOutcome (mode.Settle o) s = LoopInnermost s.stack.acts s.memory.store
AtOutcome _ s = Unit {0}

-- ---- where no visit comes

no_visit_of : (w : Work) (t : Store) → NoVisit (mode.Begin w) → AtVisit (mode.Begin w) t
no_visit_of (work.Apply receiver env) t h = tt
no_visit_of (work.SendValue receiver env) t h = tt
no_visit_of (work.Activate c env) t h = tt
no_visit_of (work.Enter code receiver env) t h = tt
no_visit_of (work.SendTo selector receiver env) t h = tt
no_visit_of (work.SuperTo class selector receiver env) t h = tt
no_visit_of (work.Fail trouble env) t h = tt
no_visit_of (work.Raise e env) t h = tt
no_visit_of (work.RaiseNew class env) t h = tt
no_visit_of (work.Search x rest) t h = tt
no_visit_of (work.TurnBy x entry outside) t h = tt
no_visit_of (work.Ask w k turn env) t h = tt
no_visit_of (work.Visit n l v env) t h = absurd h

no_visit : (m : Mode) (t : Store) → NoVisit m → AtVisit m t
no_visit mode.Run t h = tt
no_visit (mode.Settle o) t h = tt
no_visit (mode.Begin w) t h = no_visit_of w t h
no_visit mode.Next t h = tt
no_visit (mode.Ended e) t h = tt

plain : (s : Seen) → Plain s → Kept s
plain s h = record { visit = no_visit s.mode s.memory.store h.mode; few = h.few }

-- ---- an outcome at the innermost activation

keeps_at : (o : Option ℕ) (v : Value) (s : Seen) → Few s → Plain (with_mode (kept_at o v s) mode.Next)
keeps_at (Some place) v s h = record { mode = tt; few = h }
keeps_at None v s h = record { mode = tt; few = h }

asks : (b : Bool) (w : Wait) (who : ℕ) (t : Turn) (env : Env) (s : Seen) → Few s → Plain (asked b w who t env s)
asks true (wait.Resume v) who t env s h = record { mode = tt; few = h }
asks false (wait.Resume v) who t env s h = record { mode = tt; few = h }
asks true wait.Outer who t env s h =
    either (has_place s) (searching (search_of who t (purpose.Outer t s.stack.next)) (stood act.Outer env s)) (stopped limit.Depth s) (record { mode = tt; few = few_stood act.Outer env s h }) (record { mode = tt; few = h })
asks false wait.Outer who t env s h = record { mode = tt; few = h }

protects : (o : Option Value) (n : ℕ) (selector handler : Value) (out : Outcome) (s : Seen) → Few s → Plain (protected_by o n selector handler out s)
protects (Some receiver) n selector handler out s h = record { mode = tt; few = omega arith }
protects None n selector handler out s h = record { mode = tt; few = h }

resignals : (o : Option ℕ) (out : Outcome) (env : Env) (s : Seen) → Few s → Plain (signaled_by o out env s)
resignals (Some other) out env s h = record { mode = tt; few = h }
resignals None out env s h = record { mode = tt; few = h }

-- the loop that gets a value is the one that stood
answers_by : (k : Activation) (n : ℕ) (env : Env) (v : Value) (s : Seen) → Few s → LoopKept k s.memory.store → Kept (answered_by k n env v s)
answers_by (act.Body f) n env v s h x = record { visit = tt; few = h }
answers_by (act.Leaving f) n env v s h x = record { visit = tt; few = h }
answers_by (act.Protect receiver selector handler) n env v s h x = record { visit = tt; few = h }
answers_by (act.EnsureOn block) n env v s h x = record { visit = tt; few = omega arith }
answers_by (act.CurtailOn block) n env v s h x = record { visit = tt; few = h }
answers_by (act.ActionOff held) n env v s h x = record { visit = tt; few = h }
answers_by (act.Signal e) n env v s h x = record { visit = tt; few = h }
answers_by (act.HandlerRun t) n env v s h x = record { visit = tt; few = h }
answers_by act.Outer n env v s h x = record { visit = tt; few = h }
answers_by (act.ResumeWait w k t) n env v s h x = plain (answered_by (act.ResumeWait w k t) n env v s) (asks (is_true v) w k t env (without_top s) h)
answers_by (act.HandlesWait sought entry) n env v s h x = plain (answered_by (act.HandlesWait sought entry) n env v s) (judges (is_true v) sought entry env (without_top s) h)
answers_by (act.Loop l) n env v s h x = record { visit = x; few = h }

unwinds_by : (k : Activation) (n : ℕ) (env : Env) (t : Target) (v : Value) (s : Seen) → Few s → Plain (unwound_by k n env t v s)
unwinds_by (act.Body f) n env t v s h = record { mode = tt; few = h }
unwinds_by (act.Leaving f) n env t v s h = record { mode = tt; few = h }
unwinds_by (act.Protect receiver selector handler) n env t v s h = protects (receiver_again n receiver t v) n selector handler (at_protect n t v) s h
unwinds_by (act.EnsureOn block) n env t v s h = record { mode = tt; few = omega arith }
unwinds_by (act.CurtailOn block) n env t v s h = record { mode = tt; few = omega arith }
unwinds_by (act.ActionOff held) n env t v s h = record { mode = tt; few = h }
unwinds_by (act.Signal e) n env t v s h = resignals (signaled_instead n t) (at_outer n t v) env s h
unwinds_by (act.HandlerRun turn) n env t v s h = record { mode = tt; few = h }
unwinds_by act.Outer n env t v s h = record { mode = tt; few = h }
unwinds_by (act.ResumeWait w k turn) n env t v s h = record { mode = tt; few = h }
unwinds_by (act.HandlesWait sought entry) n env t v s h = record { mode = tt; few = h }
unwinds_by (act.Loop l) n env t v s h = record { mode = tt; few = h }

outcomes : (o : Outcome) (s : Seen) (acts : List Standing) (m : Mode) → Few s → LoopInnermost acts s.memory.store → Kept (settled o (with s acts m))
outcomes (outcome.Answer v) s [] m h x = plain (value_kept v (with s [] m)) (keeps_at (target_on (with s [] m)) v (with s [] m) h)
outcomes (outcome.Answer v) s (a ∷ acts) m h x = answers_by a.kept a.number a.env v (with s (a ∷ acts) m) h x
outcomes (outcome.Go t v) s [] m h x = record { visit = tt; few = h }
outcomes (outcome.Go t v) s (a ∷ acts) m h x = plain (settled (outcome.Go t v) (with s (a ∷ acts) m)) (unwinds_by a.kept a.number a.env t v (with s (a ∷ acts) m) h)
outcomes (outcome.Stop l) s acts m h x = record { visit = tt; few = h }

-- ---- any step

by_mode : (m : Mode) (s : Seen) → Few s → AtOutcome m s → Kept (advanced (with s s.stack.acts m))
by_mode mode.Run s h x = let t : Seen = with s s.stack.acts mode.Run in plain (advanced t) (instructs t (record { mode = tt; few = h }))
by_mode (mode.Settle o) s h x = outcomes o s s.stack.acts (mode.Settle o) h x
by_mode (mode.Begin w) s h x = let t : Seen = with s s.stack.acts (mode.Begin w) in plain (advanced t) (works w t h)
by_mode mode.Next s h x = let t : Seen = with s s.stack.acts mode.Next in plain (advanced t) (opens_next t h)
by_mode (mode.Ended e) s h x = record { visit = tt; few = h }

pub stays_kept : (s : Seen) → Few s → AtOutcome s.mode s → Kept (advanced s)
stays_kept s h x = by_mode s.mode s h x
