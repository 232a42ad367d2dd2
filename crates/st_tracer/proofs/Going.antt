-- A machine whose events are written as it runs, beside the program's run by the rules.
use Rattle.std.proofs.Common.{◌≡◌, ℕ, zero, suc, ◌+◌, ◌<◌, List, [], ◌++◌, append_assoc, Option, Some, None, Result, Ok, Err, IfOk, OnOk, OnErr, refl, ap, sym, ◌∙◌, subst, arith}
use Rattle.std.proofs.lemmas.List.{append-nil}
use Rattle.std.specs.Io.KnownBytes.{append_known}
use Rattle.st_base.specs.Streams.{GainsPrefix, HasCause, Rose}
use Rattle.st_base.proofs.Known.{append_known-append}
use Rattle.st_code.specs.Texts.{Text}
use Rattle.st_rules.specs.Events.{Event}
use Rattle.st_rules.specs.State.{State}
use Rattle.st_rules.proofs.Larger.{one_state}
use Rattle.st_machine.specs.declared.work.Ending.{Ending}
use Rattle.st_machine.specs.declared.work.Mode.{Mode}
use Rattle.st_machine.specs.declared.work.Mode.TheVariants as mode
use Rattle.st_machine.specs.Meaning.{ending_of, events_of}
use Rattle.st_machine.specs.Plans.{program_in}
use Rattle.st_machine.specs.Seen.{Seen}
use Rattle.st_machine.specs.Steps.{advanced, advance_told}
use Rattle.st_machine.proofs.Follows.{follows}
use Rattle.st_machine_laws.specs.Moments.{after, told_by, written_by, runs_by, state_after}
use Rattle.st_machine_laws.specs.WholeRun.{EndsAsTheRules}
use Rattle.st_machine_laws.proofs.Moments.{IsOver, after_last}
use Rattle.st_machine_laws.proofs.Gone.{after_after, left_in, left_falls, over_after}
use Rattle.st_machine_laws.proofs.StepLaw.{step_law}
use Rattle.st_machine_laws.proofs.WholeRun.{bound_of, over_within}
use Rattle.st_steady.specs.Steady.{EndsSo}
use Rattle.st_runner.specs.Firsts.{IsFirst}
use Rattle.st_runner.specs.RunToEnd.{EndsAs}
use Rattle.st_runner.proofs.Ending.{ended}
use Rattle.st_trace.specs.Bytes.{line_text}
use Rattle.st_trace.specs.Lines.{Stops}
use Rattle.st_trace.specs.Told.{word_of}
use Rattle.st_transcript.specs.Gained.{Gains}
use Rattle.st_transcript.proofs.Gaining.{Wrote, wrote_part}
use Rattle.st_tracer.specs.Traced.{ended_in, events_text, trace_text, TracesAs, StopsTracing}
use Rattle.st_tracer.proofs.Texts.{events_more, trace_is}

-- ---- moments

told_last : (n : ℕ) (s : Seen) → told_by (suc n) s ≡ told_by n s ++ events_of (advance_told (after n s))
told_last zero s = append-nil (events_of (advance_told s))
told_last (suc n) s = ap (λ es. events_of (advance_told s) ++ es) (told_last n (advanced s)) ∙ sym (append_assoc (events_of (advance_told s)) (told_by n (advanced s)) (events_of (advance_told (after n (advanced s)))))

told_after : (j k : ℕ) (s : Seen) → told_by (j + k) s ≡ told_by j s ++ told_by k (after j s)
told_after zero k s = let same : 0 + k ≡ k = omega arith in ap (λ n. told_by n s) same
told_after (suc j) k s =
    let same : suc j + k ≡ suc (j + k) = omega arith in
    ap (λ n. told_by n s) same ∙ ap (λ es. events_of (advance_told s) ++ es) (told_after j k (advanced s)) ∙ sym (append_assoc (events_of (advance_told s)) (told_by j (advanced s)) (told_by k (after j (advanced s))))

record Over (m : Mode) : Type 0 where
  ending : Ending
  is : m ≡ mode.Ended ending

over_in : (m : Mode) → IsOver m → Over m
over_in (mode.Ended e) h = record { ending = e; is = refl }
over_in mode.Run h = absurd h
over_in (mode.Settle o) h = absurd h
over_in (mode.Begin w) h = absurd h
over_in mode.Next h = absurd h

pub ended_is : (m : Mode) (e : Ending) → Some e ≡ ended_in m → m ≡ mode.Ended e
ended_is (mode.Ended x) e is = let same : e ≡ x = cc in ap (λ y. mode.Ended y) (sym same)
ended_is mode.Run e is = absurd cc
ended_is (mode.Settle o) e is = absurd cc
ended_is (mode.Begin w) e is = absurd cc
ended_is mode.Next e is = absurd cc

not_over : (m : Mode) → None ≡ ended_in m → IsOver m → ⊥
not_over (mode.Ended e) is over = absurd cc
not_over mode.Run is over = over
not_over (mode.Settle o) is over = over
not_over (mode.Begin w) is over = over
not_over mode.Next is over = over

-- ---- between two steps

pub record Tracing (s0 s : Seen) (before now : Option Text) (faults faults' : ℕ) : Type 0 where
  pub count : ℕ
  pub is : s ≡ after count s0
  pub wrote : now ≡ append_known before (events_text (told_by count s0))
  pub sound : faults' ≡ faults

known_none : (b : Option Text) → b ≡ append_known b []
known_none None = refl
known_none (Some t) = ap (λ u. Some u) (sym (append-nil t))

pub begins : (s : Seen) (b : Option Text) (n : ℕ) → Tracing s s b b n n
begins s b n = record { count = 0; is = refl; wrote = known_none b; sound = refl }

module _ (s0 s : Seen) (before now : Option Text) (faults faults' : ℕ) (first : IsFirst s0) (t : Tracing s0 s before now faults faults') where
  -- the step that comes
  abbrev told : List Event
  told = events_of (advance_told s)

  lines_so_far : events_text (told_by t.count s0) ++ events_text told ≡ events_text (told_by (suc t.count) s0)
  lines_so_far =
      ap (λ x. events_text (told_by t.count s0) ++ events_text (events_of (advance_told x))) t.is
      ∙ sym (events_more (told_by t.count s0) (events_of (advance_told (after t.count s0)))) ∙ ap events_text (sym (told_last t.count s0))

  pub goes_on : (s' : Seen) (now' : Option Text) (faults'' : ℕ) → s' ≡ advanced s → now' ≡ append_known now (events_text told) → faults'' ≡ faults' → Tracing s0 s' before now' faults faults''
  goes_on s' now' faults'' is wrote sound = record {
    count = suc t.count;
    is = is ∙ ap advanced t.is ∙ sym (after_last t.count s0);
    wrote = wrote ∙ ap (λ b. append_known b (events_text told)) t.wrote ∙ append_known-append before (events_text (told_by t.count s0)) (events_text told) ∙ ap (append_known before) lines_so_far;
    sound = sound ∙ t.sound;
  }

  -- less is left
  over : IsOver (after (bound_of s0.plan) s0).mode
  over = subst (λ (x : Seen). IsOver (after (bound_of s0.plan) x).mode) (sym first.first) (over_within s0.plan s0.memory first.opened (step_law s0.plan follows))

  pub falls : (s' : Seen) → s' ≡ advanced s → None ≡ ended_in s.mode → left_in (bound_of s0.plan) s' < left_in (bound_of s0.plan) s
  falls s' is not =
      let still : IsOver (after (bound_of s0.plan) s).mode = subst (λ (x : Seen). IsOver (after (bound_of s0.plan) x).mode) (sym t.is) (over_after t.count (bound_of s0.plan) s0 over) in
      let less : left_in (bound_of s0.plan) (after 1 s) < left_in (bound_of s0.plan) s = left_falls 1 (bound_of s0.plan) s (omega arith) (not_over s.mode not) still in
      subst (λ x. left_in (bound_of s0.plan) x < left_in (bound_of s0.plan) s) (sym is) less

  -- ---- the end

  module _ (law : EndsSo) where
    as_the_rules : (n : ℕ) (e : Ending) → (after n s0).mode ≡ mode.Ended e → EndsAsTheRules s0.plan s0 n e
    as_the_rules n e is =
        subst (λ (x : Seen). EndsAsTheRules s0.plan x n e) (sym first.first)
        (law s0.plan s0.memory first.opened first.steady n e (ap (λ (x : Seen). (after n x).mode) (sym first.first) ∙ is))

    -- where a whole run has told this, and so much was written
    part_of : (n : ℕ) (e : Ending) → (after n s0).mode ≡ mode.Ended e → (more rest : Text) (now' : Option Text) → events_text (told_by n s0) ++ line_text (Stops (word_of (ending_of e))) ≡ events_text (told_by t.count s0) ++ (more ++ rest)
        → GainsPrefix now now' more → StopsTracing (program_in s0.plan) before now'
    part_of n e is more rest now' all part =
        let r = as_the_rules n e is in
        let events : r.state.events ≡ told_by n s0 = sym (ap (λ (st : State). st.events) r.alike) in
        let whole : trace_text (ending_of e) r.state ≡ events_text (told_by t.count s0) ++ (more ++ rest) =
        trace_is r.state.events (word_of (ending_of e)) ∙ ap (λ es. events_text es ++ line_text (Stops (word_of (ending_of e)))) events ∙ all in
        let wrote : Wrote (trace_text (ending_of e) r.state) (more ++ rest) before now = record { prior = events_text (told_by t.count s0); split = whole; wrote = t.wrote } in
        record {
          ending = ending_of e;
          state = r.state;
          flat = state_after n s0;
          instructions = runs_by n s0;
          by_the_rules = r.rules;
          by_the_machine = r.runs;
          part = wrote_part (trace_text (ending_of e) r.state) more rest before now now' wrote part;
        }

    -- the sink failed in a step
    pub stops_in_step : (now' : Option Text) → GainsPrefix now now' (events_text told) → StopsTracing (program_in s0.plan) before now'
    stops_in_step now' part =
        let n : ℕ = suc t.count in
        let k : ℕ = bound_of s0.plan in
        let there : IsOver (after (n + k) s0).mode = subst (λ (x : Seen). IsOver x.mode) (after_after n k s0) (over_after n k s0 over) in
        let last = over_in (after (n + k) s0).mode there in
        let stop : Text = line_text (Stops (word_of (ending_of last.ending))) in
        let behind : Text = events_text (told_by k (after n s0)) in
        let all : events_text (told_by (n + k) s0) ++ stop ≡ events_text (told_by t.count s0) ++ (events_text told ++ (behind ++ stop)) =
        ap (λ es. events_text es ++ stop) (told_after n k s0) ∙ ap (λ x. x ++ stop) (events_more (told_by n s0) (told_by k (after n s0)))
        ∙ append_assoc (events_text (told_by n s0)) behind stop ∙ ap (λ x. x ++ (behind ++ stop)) (sym lines_so_far) ∙ append_assoc (events_text (told_by t.count s0)) (events_text told) (behind ++ stop) in
        part_of (n + k) last.ending last.is (events_text told) (behind ++ stop) now' all part

    module _ (e : Ending) (is : s.mode ≡ mode.Ended e) where
      here : (after t.count s0).mode ≡ mode.Ended e
      here = ap (λ (x : Seen). x.mode) (sym t.is) ∙ is

      -- the sink failed in the last line
      stops_in_stop : (now' : Option Text) → GainsPrefix now now' (line_text (Stops (word_of (ending_of e)))) → StopsTracing (program_in s0.plan) before now'
      stops_in_stop now' part =
          part_of t.count e here (line_text (Stops (word_of (ending_of e)))) [] now' (ap (λ x. events_text (told_by t.count s0) ++ x) (sym (append-nil (line_text (Stops (word_of (ending_of e))))))) part

      traces : (now' : Option Text) → now' ≡ append_known now (line_text (Stops (word_of (ending_of e)))) → TracesAs (program_in s0.plan) (ending_of e) s before now'
      traces now' wrote =
          let r = as_the_rules t.count e here in
          let x : EndsAs (program_in s0.plan) (ending_of e) (after t.count s0) (Some []) (Some (written_by t.count s0)) = ended s0 first law t.count e (Some []) (Some (written_by t.count s0)) here refl in
          let same : x.state ≡ r.state = one_state (program_in s0.plan) (ending_of e) (ending_of e) x.state r.state x.by_the_rules r.rules in
          let events : x.state.events ≡ told_by t.count s0 = ap (λ (st : State). st.events) same ∙ sym (ap (λ (st : State). st.events) r.alike) in
          let whole : trace_text (ending_of e) x.state ≡ events_text (told_by t.count s0) ++ line_text (Stops (word_of (ending_of e))) =
          trace_is x.state.events (word_of (ending_of e)) ∙ ap (λ es. events_text es ++ line_text (Stops (word_of (ending_of e)))) events in
          let all : now' ≡ append_known before (trace_text (ending_of e) x.state) =
          wrote ∙ ap (λ b. append_known b (line_text (Stops (word_of (ending_of e))))) t.wrote ∙ append_known-append before (events_text (told_by t.count s0)) (line_text (Stops (word_of (ending_of e)))) ∙ ap (append_known before) (sym whole) in
          subst (λ (m : Seen). TracesAs (program_in s0.plan) (ending_of e) m before now') (sym t.is) (record { transcript = written_by t.count s0; ends = x; wrote = all })

    module _ (e : Ending) (is : Some e ≡ ended_in s.mode) (now' : Option Text) {E : Type 0} where
      pub finishes_traces : (r : Result Ending E) → IfOk r (λ x. x ≡ e) → Gains now now' r (line_text (Stops (word_of (ending_of e)))) → IfOk r (λ x. TracesAs (program_in s0.plan) (ending_of x) s before now')
      finishes_traces (Ok x) same g = subst (λ y. TracesAs (program_in s0.plan) (ending_of y) s before now') (sym same) (traces e (ended_is s.mode e is) now' g)
      finishes_traces (Err f) same g = tt

      pub finishes_mode : (r : Result Ending E) → IfOk r (λ x. x ≡ e) → IfOk r (λ x. s.mode ≡ mode.Ended x)
      finishes_mode (Ok x) same = ended_is s.mode e is ∙ ap (λ y. mode.Ended y) (sym same)
      finishes_mode (Err f) same = tt

      pub finishes_stops : (r : Result Ending E) → Gains now now' r (line_text (Stops (word_of (ending_of e)))) → OnErr r (StopsTracing (program_in s0.plan) before now')
      finishes_stops (Ok x) g = tt
      finishes_stops (Err f) g = stops_in_stop e (ended_is s.mode e is) now' g

  pub kept_of : {A E : Type 0} (r : Result A E) (faults'' : ℕ) → HasCause faults' faults'' r → OnOk r (faults'' ≡ faults)
  kept_of (Ok x) faults'' h = h.kept ∙ t.sound
  kept_of (Err f) faults'' h = tt

  pub cause_of : {A E : Type 0} (r : Result A E) (faults'' : ℕ) → HasCause faults' faults'' r → OnErr r (Rose faults faults'')
  cause_of (Ok x) faults'' h = tt
  cause_of (Err f) faults'' h = subst (λ n. Rose n faults'') t.sound h.failed
