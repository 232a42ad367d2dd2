-- At each moment of a machine's run the store is sound for what comes next, so the machine never strands.
use Rattle.std.proofs.Common.{◌≡◌, ℕ, zero, suc, ◌+◌, List, [], ◌∷◌, ◌++◌, length, true, refl, ap, sym, ◌∙◌, subst, arith}
use Rattle.object_heap.specs.declared.value.Value.{Value}
use Rattle.object_heap.specs.Charges.{Memory}
use Rattle.object_heap.specs.Store.{Store}
use Rattle.program_image.specs.Spelled.{names_in}
use Rattle.st_code.specs.Texts.{Text}
use Rattle.st_code.specs.Written.{named_units}
use Rattle.st_code.specs.Lookup.{level_of, lookup, super_lookup}
use Rattle.st_code.specs.Program.{Program}
use Rattle.st_contexts.specs.declared.activation.Activation.{Activation}
use Rattle.st_contexts.specs.declared.activation.Activation.TheVariants as act
use Rattle.st_contexts.specs.declared.activation.Env.{Env}
use Rattle.st_contexts.specs.Stack.{Standing}
use Rattle.st_loops.specs.States.{state_of as state_of_loop}
use Rattle.st_messages.specs.Sent.{is_ready}
use Rattle.st_rules.specs.Compilable.{Compilable}
use Rattle.st_rules.specs.Events.{Event}
use Rattle.st_rules.specs.Flat.{FlatBody, flat, greatest_width}
use Rattle.st_rules.specs.Flattened.{flat_of}
use Rattle.st_rules.specs.Objects.{KnowsLiterals}
use Rattle.st_rules.specs.Runs as rules
use Rattle.st_rules.specs.Runs.{first_state}
use Rattle.st_rules.specs.SameRun.{IsTheRun}
use Rattle.st_rules.specs.Selves.{IsOf, KnowsClasses}
use Rattle.st_rules.specs.Sends.{send_action, super_action}
use Rattle.st_rules.specs.State.{State}
use Rattle.st_rules.specs.Turns.{Top, Ended, open_next, opened_run, top_iter}
use Rattle.st_rules.proofs.KnownClasses.{programs_know_classes}
use Rattle.st_rules.proofs.KnownProgram.{programs_know_literals}
use Rattle.st_rules.proofs.NeverStuck.{rules_never_stuck}
use Rattle.st_rules.proofs.SameRun.{flat_run_is_the_rules_run}
use Rattle.st_rules.proofs.SelvesRun.{TopFits as TopSelves, fits_at}
use Rattle.st_rules.proofs.SoundProgram.{programs_are_compilable}
use Rattle.st_machine.specs.declared.work.Ending.{Ending}
use Rattle.st_machine.specs.declared.work.Ending.TheVariants as ending
use Rattle.st_machine.specs.declared.work.Mode.{Mode}
use Rattle.st_machine.specs.declared.work.Mode.TheVariants as mode
use Rattle.st_machine.specs.declared.work.Work.{Work}
use Rattle.st_machine.specs.declared.work.Work.TheVariants as work
use Rattle.st_machine.specs.Followed.{IsSound, Leads, FollowsTheFlat}
use Rattle.st_machine.specs.Meaning.{act_by, acts_of, behind, events_of, loop_of, state_of, top_by, top_of}
use Rattle.st_machine.specs.Plans.{limits_of, program_in, room_in}
use Rattle.st_machine.specs.Seen.{Plan, Seen}
use Rattle.st_machine.specs.Sending.{send_is_sound, send_of, super_send_is_sound, super_send_of, value_in}
use Rattle.st_machine.specs.Sound.{is_fit, IsSent}
use Rattle.st_machine.specs.Steps.{first_seen, advanced, advance_told, advance_written}
use Rattle.st_machine_laws.specs.Holding.{Holds, begun_by}
use Rattle.st_machine_laws.specs.Moments.{after}
use Rattle.st_machine_laws.specs.WholeRun.{Opened, EndsAsTheRules}
use Rattle.st_machine_laws.proofs.Moments.{P, B, at, Reached, steps_add}
use Rattle.st_machine_laws.proofs.Settling.{with}
use Rattle.st_machine_laws.proofs.StepLaw.{step_law}
use Rattle.st_machine_laws.proofs.Steps.{first, stays, ready}
use Rattle.st_machine_laws.proofs.WholeRun.{ends_so}
use Rattle.st_sends.specs.Arguments.{Takes}
use Rattle.st_sends.specs.SendsFit.{TopFits}
use Rattle.st_sends.proofs.PassingRun.{sends_fit}
use Rattle.st_sends.proofs.PassingSends.{sends_pass, super_sends_pass}
use Rattle.st_sound.specs.SoundRun.{StateSound, ActSound, ActsSound, TopSound}
use Rattle.st_sound.proofs.SoundRun.{stores_are_sound}
use Rattle.st_steady.specs.Steady.{Steady}
use Rattle.st_readiness.specs.Readiness.{FoundIsReady, SuperFoundIsReady, LoopsMayBegin, LoopsGoOn, SendsStand, SuperSendsStand}
use Rattle.st_steady.proofs.Kept.{Kept, LoopKept, LoopInnermost, AtOutcome, stays_kept}
use Rattle.st_steady.proofs.Rooms.{Roomy, roomy, fits}

-- ---- the loop that an outcome reaches

loop_kept : (p : Program) (k : Activation) (n : ℕ) (env : Env) (operands : List Value) (acts : List Standing) (t : Store) → ActSound p t (act_by k n env operands acts) → LoopKept k t
unfolding loop_of
loop_kept p (act.Loop l) n env operands acts t h = h
loop_kept p (act.Body f) n env operands acts t h = tt
loop_kept p (act.Leaving f) n env operands acts t h = tt
loop_kept p (act.Protect receiver selector handler) n env operands acts t h = tt
loop_kept p (act.EnsureOn block) n env operands acts t h = tt
loop_kept p (act.CurtailOn block) n env operands acts t h = tt
loop_kept p (act.ActionOff held) n env operands acts t h = tt
loop_kept p (act.Signal e) n env operands acts t h = tt
loop_kept p (act.HandlerRun turn) n env operands acts t h = tt
loop_kept p act.Outer n env operands acts t h = tt
loop_kept p (act.ResumeWait w k turn) n env operands acts t h = tt
loop_kept p (act.HandlesWait x entry) n env operands acts t h = tt

innermost : (p : Program) (acts : List Standing) (t : Store) → ActsSound p t (acts_of acts) → LoopInnermost acts t
innermost p [] t h = tt
innermost p (a ∷ acts) t h = loop_kept p a.kept a.number a.env a.operands acts t h.0

module _ (found : FoundIsReady) (super_found : SuperFoundIsReady) (stand : SendsStand) (super_stand : SuperSendsStand) (begin : LoopsMayBegin) (go_on : LoopsGoOn) (law : FollowsTheFlat) where
  module _ (plan : Plan) (memory : Memory) (o : Opened plan memory) (steady : Steady plan) where
    abbrev s0 : Seen
    s0 = first_seen plan memory

    -- ---- the program

    compilable : Compilable (P plan)
    compilable = programs_are_compilable (names_in (named_units plan.units)) (named_units plan.units) (limits_of plan.limits)

    literals : KnowsLiterals (P plan)
    literals = programs_know_literals (names_in (named_units plan.units)) (named_units plan.units) (limits_of plan.limits)

    classes : KnowsClasses (P plan)
    classes = programs_know_classes (names_in (named_units plan.units)) (named_units plan.units) (limits_of plan.limits)

    same_run : IsTheRun (P plan)
    same_run = flat_run_is_the_rules_run (names_in (named_units plan.units)) (named_units plan.units) (limits_of plan.limits)

    room : Roomy (P plan) (room_in plan)
    room = roomy plan (greatest_width plan.codes) steady o.ready.compiled o.ready.space o.ready.passes

    -- ---- what holds of the flat machine

    same_bodies : flat_of (P plan) ≡ B plan
    same_bodies = ap (λ codes. flat (P plan) codes (greatest_width codes)) (sym o.ready.compiled)

    in_run : (t : Top FlatBody) (r : Reached plan t) → top_iter (flat_of (P plan)) (P plan) r.count (opened_run (flat_of (P plan)) (P plan)) ≡ t
    in_run t r = ap (λ b. top_iter b (P plan) r.count (opened_run b (P plan))) same_bodies ∙ r.reached

    sound_top : (t : Top FlatBody) → Reached plan t → TopSound (P plan) t
    sound_top t r = subst (λ u. TopSound (P plan) u) (in_run t r) (stores_are_sound (P plan) compilable literals classes steady.collections r.count)

    fitting_top : (t : Top FlatBody) → Reached plan t → TopFits (P plan) t
    fitting_top t r = subst (λ u. TopFits (P plan) u) (in_run t r) (sends_fit (P plan) steady.selectors r.count)

    selves_top : (t : Top FlatBody) → Reached plan t → TopSelves (P plan) literals classes t
    selves_top t r = subst (λ u. TopSelves (P plan) literals classes u) (in_run t r) (fits_at (P plan) compilable literals classes r.count)

    -- ---- a machine at a moment

    module _ (i : ℕ) (tr : Text) (ev : List Event) where
      room_at : (s : Seen) → Holds (at plan i) s → Roomy (P plan) s.passed.room
      room_at s h = subst (λ n. Roomy (P plan) n) (sym (h.firm.arguments ∙ ap room_in h.firm.same)) room

      sends : (selector : ℕ) (receiver : Value) (s : Seen) → Holds (at plan i) s → Kept s → StateSound (P plan) (state_of tr ev s) → Takes (P plan) selector (length s.passed.values) → IsSent (send_is_sound selector receiver s) (send_of selector receiver s) s
      sends selector receiver s h k sound takes =
          record {
            done = subst (λ (q : Plan). is_ready s.memory.store (lookup (program_in q) (level_of s.memory.store receiver) selector) receiver s.passed.values ≡ true) (sym h.firm.same) (found (P plan) steady.collections s.memory.store sound.0 selector receiver s.passed.values);
            fit =
                subst (λ (q : Plan). is_fit (send_action (program_in q) s.memory.store selector receiver s.passed.values) s ≡ true) (sym h.firm.same)
                (fits begin (P plan) (send_action (P plan) s.memory.store selector receiver s.passed.values) s (room_at s h) k.few sound.0 (sends_pass (P plan) s.memory.store selector receiver s.passed.values takes)
                (stand (P plan) steady.collections s.memory.store sound.0 sound.1 selector receiver s.passed.values));
          }

      super_sends : (class : Value) (selector : ℕ) (receiver : Value) (s : Seen) → Holds (at plan i) s → Kept s → StateSound (P plan) (state_of tr ev s) → Takes (P plan) selector (length s.passed.values) → IsOf (P plan) s.memory.store receiver class
          → IsSent (super_send_is_sound class selector receiver s) (super_send_of class selector receiver s) s
      super_sends class selector receiver s h k sound takes is =
          record {
            done = subst (λ (q : Plan). is_ready s.memory.store (super_lookup (program_in q) class selector) receiver s.passed.values ≡ true) (sym h.firm.same) (super_found (P plan) classes steady.collections s.memory.store sound.0 class receiver selector s.passed.values is);
            fit =
                subst (λ (q : Plan). is_fit (super_action (program_in q) s.memory.store class selector receiver s.passed.values) s ≡ true) (sym h.firm.same)
                (fits begin (P plan) (super_action (P plan) s.memory.store class selector receiver s.passed.values) s (room_at s h) k.few sound.0 (super_sends_pass (P plan) s.memory.store class selector receiver s.passed.values takes)
                (super_stand (P plan) classes steady.collections s.memory.store sound.0 sound.1 class receiver selector s.passed.values is));
          }

      abbrev begins : Work → Seen → Seen
      begins w s = with s s.stack.acts (mode.Begin w)

      works : (w : Work) (s : Seen) → Holds (at plan i) (begins w s) → Kept (begins w s) → TopSound (P plan) (top_of tr ev (begins w s)) → TopFits (P plan) (top_of tr ev (begins w s)) → TopSelves (P plan) literals classes (top_of tr ev (begins w s)) → IsSound (mode.Begin w) (begins w s)
      works (work.SendTo selector receiver env) s h k x y z = sends selector receiver (begins (work.SendTo selector receiver env) s) h k x.0 y.0
      works (work.SendValue receiver env) s h k x y z = let t : Seen = begins (work.SendValue receiver env) s in sends (value_in t) receiver t h k x.0 y.0
      works (work.SuperTo class selector receiver env) s h k x y z = super_sends class selector receiver (begins (work.SuperTo class selector receiver env) s) h k x.0 y.0 z.0.1
      works (work.Visit n l v env) s h k x y z = record { kept = go_on s.memory.store x.0.0 (state_of_loop l) k.visit }
      works (work.Apply receiver env) s h k x y z = tt
      works (work.Activate c env) s h k x y z = tt
      works (work.Enter code receiver env) s h k x y z = tt
      works (work.Fail trouble env) s h k x y z = tt
      works (work.Raise e env) s h k x y z = tt
      works (work.RaiseNew class env) s h k x y z = tt
      works (work.Search sought rest) s h k x y z = tt
      works (work.TurnBy sought entry outside) s h k x y z = tt
      works (work.Ask w n turn env) s h k x y z = tt

      sound_by : (m : Mode) (s : Seen) → Holds (at plan i) (with s s.stack.acts m) → Kept (with s s.stack.acts m) → Reached plan (top_of tr ev (with s s.stack.acts m)) → IsSound m (with s s.stack.acts m)
      sound_by (mode.Begin w) s h k r =
          let t : Top FlatBody = top_of tr ev (begins w s) in
          works w s h k (sound_top t r) (fitting_top t r) (selves_top t r)
      sound_by mode.Run s h k r = tt
      sound_by (mode.Settle x) s h k r = tt
      sound_by mode.Next s h k r = tt
      sound_by (mode.Ended e) s h k r = tt

      sound_at : (s : Seen) → Holds (at plan i) s → Kept s → Reached plan (top_of tr ev s) → IsSound s.mode s
      sound_at s h k r = sound_by s.mode s h k r

      outcome_by : (m : Mode) (s : Seen) → Reached plan (top_of tr ev (with s s.stack.acts m)) → AtOutcome m (with s s.stack.acts m)
      outcome_by (mode.Settle x) s r = innermost (P plan) s.stack.acts s.memory.store (sound_top (top_of tr ev (with s s.stack.acts (mode.Settle x))) r).1
      outcome_by mode.Run s r = tt
      outcome_by (mode.Begin w) s r = tt
      outcome_by mode.Next s r = tt
      outcome_by (mode.Ended e) s r = tt

      outcome_at : (s : Seen) → Reached plan (top_of tr ev s) → AtOutcome s.mode s
      outcome_at s r = outcome_by s.mode s r

      same_steps : (q : Plan) (w n : ℕ) (t : Top FlatBody) → q ≡ plan → w ≡ greatest_width plan.codes → top_iter (flat (program_in q) q.codes w) (program_in q) n t ≡ top_iter (B plan) (P plan) n t
      same_steps q w n t e l = ap (λ w. top_iter (flat (program_in q) q.codes w) (program_in q) n t) l ∙ ap (λ (q : Plan). top_iter (flat (program_in q) q.codes (greatest_width plan.codes)) (program_in q) n t) e

      -- the small steps of the flat machine lead on
      reaches : (s : Seen) → Holds (at plan i) s → Kept s → Reached plan (top_of tr ev s) → Reached plan (top_of (tr ++ advance_written s) (ev ++ events_of (advance_told s)) (advanced s))
      reaches s h k r =
          let c : Leads s (top_of tr ev s) (top_of (tr ++ advance_written s) (ev ++ events_of (advance_told s)) (advanced s)) = law s tr ev (ready (at plan i) s h (sound_at s h k r)) in
          let leads : top_iter (B plan) (P plan) c.count (top_of tr ev s) ≡ top_of (tr ++ advance_written s) (ev ++ events_of (advance_told s)) (advanced s) =
          sym (same_steps s.plan s.stack.width c.count (top_of tr ev s) h.firm.same h.firm.wide) ∙ c.leads in
          record { count = r.count + c.count; reached = steps_add (B plan) (P plan) r.count c.count (opened_run (B plan) (P plan)) ∙ ap (λ t. top_iter (B plan) (P plan) c.count t) r.reached ∙ leads }

    -- ---- each moment

    pub record Moment (s : Seen) : Type 0 where
      pub instructions : ℕ
      pub transcript : Text
      pub events : List Event
      pub holds : Holds (at plan instructions) s
      pub reached : Reached plan (top_of transcript events s)
      pub kept : Kept s

    next : (s : Seen) → Moment s → Moment (advanced s)
    next s m =
        record {
          instructions = begun_by s.mode m.instructions;
          transcript = m.transcript ++ advance_written s;
          events = m.events ++ events_of (advance_told s);
          holds = stays (at plan m.instructions) s m.holds;
          reached = reaches m.instructions m.transcript m.events s m.holds m.kept m.reached;
          kept = stays_kept s m.kept.few (outcome_at m.instructions m.transcript m.events s m.reached);
        }

    moments : (n : ℕ) (s : Seen) → Moment s → Moment (after n s)
    moments zero s m = m
    moments (suc n) s m = moments n (advanced s) (next s m)

    state_first : state_of [] [] s0 ≡ first_state (P plan)
    unfolding first_state
    state_first = rw (o.store, o.unused) refl

    top_first : top_of [] [] s0 ≡ opened_run (B plan) (P plan)
    unfolding behind
    top_first = ap (λ st. open_next (B plan) (P plan) (P plan).initializers st) state_first

    first_moment : Moment s0
    first_moment =
        record {
          instructions = 0;
          transcript = [];
          events = [];
          holds = first plan memory o.moderate o.ready;
          reached = record { count = 0; reached = sym top_first };
          kept = record { visit = tt; few = omega arith };
        }

    -- ---- the end

    -- the flat machine is never stuck
    not_stuck : (st : State) → Reached plan (Ended rules.Stuck st) → ⊥
    not_stuck st r =
        let (st', run, alike) = same_run.of_the_machine rules.Stuck st _ (record { steps = r.count; leads = in_run (Ended rules.Stuck st) r; counted = refl }) in
        rules_never_stuck (P plan) st' run

    stranded : (s : Seen) → Moment s → s.mode ≡ mode.Ended ending.Stranded → ⊥
    stranded s m is =
        let st : State = state_of m.transcript m.events s in
        not_stuck st (record { count = m.reached.count; reached = m.reached.reached ∙ ap (λ x. top_by x s st) is })

    pub never_strands : (n : ℕ) → (after n s0).mode ≡ mode.Ended ending.Stranded → ⊥
    never_strands n is = stranded (after n s0) (moments n s0 first_moment) is

    pub ends_always : (n : ℕ) (e : Ending) → (after n s0).mode ≡ mode.Ended e → EndsAsTheRules plan s0 n e
    ends_always n e is = ends_so plan memory o (step_law plan law) n e is (λ same. never_strands n (is ∙ ap mode.Ended same))
