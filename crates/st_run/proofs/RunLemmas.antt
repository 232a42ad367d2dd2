-- What comes of a machine whose run ended, or whose output failed.
use Rattle.std.proofs.Common.{◌≡◌, ◌≢◌, ◌∙◌, inl, inr, ℕ, List, [], ◌++◌, length, Option, Some, IfSome, codes, refl, ap, subst}
use Rattle.std.specs.Io.KnownBytes.{append_known}
use Rattle.object_heap.specs.Store.{Store}
use Rattle.st_base.specs.declared.faults.Limits.{Limits}
use Rattle.st_base.specs.Streams.{GainsPrefix}
use Rattle.st_tree.specs.declared.units.Unit as unit
use Rattle.st_words.specs.declared.command.Command.{Command}
use Rattle.st_code.specs.Program.{Program}
use Rattle.st_rules.specs.State.{State, StepLimit, DepthLimit, CellLimit, IntegerLimit}
use Rattle.st_rules.specs.Runs.{Ending, Done, Unhandled, AtLimit, Stuck}
use Rattle.st_machine.specs.declared.work.Ending as machine
use Rattle.st_machine.specs.Meaning.{ending_of}
use Rattle.st_machine.specs.Plans.{program_in}
use Rattle.st_machine.specs.Seen.{Seen}
use Rattle.st_run.specs.declared.status.Status.{Status}
use Rattle.st_run.specs.declared.status.Status.TheVariants.{WriteFault}
use Rattle.st_run.specs.Statuses.{IsEnding}
use Rattle.st_run.specs.Devices.{Device, Fails, Keeps, Gained, GainedPart}
use Rattle.st_run.specs.Reports.{stats_if, ending_line}
use Rattle.st_run.specs.Outcomes.{Outcome, program_for, ending_status, line_of, transcript, summary, ended, IsOfRun}
use Rattle.st_run.specs.Ends.{stops_in_output, stops_in_report, finished, EndsBy}
use Rattle.st_run.specs.Told.{ending_report, HasEnded}
use Rattle.st_runner.specs.RunToEnd.{EndsAs, StopsAs}
use Rattle.st_transcript.specs.Unhandled.{unhandled_text}
use Rattle.st_runner.proofs.Unhandled.{unhandled-same}
use Rattle.st_run.proofs.SomeOutcome.{has_status}
use Rattle.st_run.proofs.StatusLemmas.{ending_answers, write_fault_tells}

-- ---- the report

same_ending_line : (p q : Program) (limits : Limits) (s s' : Store) (e : Ending) → p ≡ q → s.objects ≡ s'.objects → ending_line p limits s e ≡ ending_line q limits s' e
same_ending_line p q limits s s' Done same objects = refl
same_ending_line p q limits s s' (Unhandled v) same objects =
    ap (λ (t : List ℕ). codes "stx: unhandled " ++ t ++ codes "\n") (ap (λ (x : Program). unhandled_text x s v) same ∙ unhandled-same q s s' v objects)
same_ending_line p q limits s s' (AtLimit StepLimit) same objects = refl
same_ending_line p q limits s s' (AtLimit DepthLimit) same objects = refl
same_ending_line p q limits s s' (AtLimit CellLimit) same objects = refl
same_ending_line p q limits s s' (AtLimit IntegerLimit) same objects = refl
same_ending_line p q limits s s' Stuck same objects = refl

pub report_pieces : (c : Command) (s : Seen) (e : machine.Ending) → ending_report c s e ≡ stats_if c.stats s.steps s.deepest s.memory.used s.instructions ++ ending_line (program_in s.plan) c.limits s.memory.store (ending_of e)
unfolding ending_report
report_pieces c s e = refl

-- ---- a run that ended

answers : (by : Option Status) (s status : Status) → by ≡ Some s → IfSome by (λ x. status ≡ x) → status ≡ s
answers by s status is same = rw is at same

module _ (c : Command) (us : List unit.Unit) (e : machine.Ending) (s : Seen) (old new : Option (List ℕ)) (ends : EndsAs (program_for c us) (ending_of e) s old new) (output : Ending → State → List ℕ) where
  abbrev status_of : (s : Status) × (ending_status (ending_of e) ≡ Some s)
  status_of = has_status (program_for c us) (ending_of e) ends.state ends.by_the_rules

  abbrev outcome_of : Outcome
  outcome_of = ended c us (ending_of e) status_of.0 ends.state ends.instructions (output (ending_of e) ends.state)

  is_of_run : IsOfRun c us output outcome_of
  is_of_run = record {
    ending = ending_of e;
    state = ends.state;
    instructions = ends.instructions;
    status = status_of.0;
    run = record { by_the_rules = ends.by_the_rules; state = ends.flat; by_the_machine = ends.by_the_machine };
    answered = status_of.1;
    outcome = refl;
  }

  same_stats : stats_if c.stats s.steps s.deepest s.memory.used s.instructions ≡ stats_if c.stats ends.state.steps ends.state.depth ends.state.cells ends.instructions
  same_stats = rw (ends.steps, ends.depth, ends.cells, ends.counted) refl

  same_line : ending_line (program_in s.plan) c.limits s.memory.store (ending_of e) ≡ ending_line (program_for c us) c.limits ends.state.store (ending_of e)
  same_line = same_ending_line (program_in s.plan) (program_for c us) c.limits s.memory.store ends.state.store (ending_of e) ends.program ends.objects

  same_report : ending_report c s e ≡ outcome_of.report
  same_report =
      report_pieces c s e
      ∙ ap (λ (t : List ℕ). t ++ ending_line (program_in s.plan) c.limits s.memory.store (ending_of e)) same_stats
      ∙ ap (λ (t : List ℕ). stats_if c.stats ends.state.steps ends.state.depth ends.state.cells ends.instructions ++ t) same_line

  pub reported : (out report : Device) (status : Status) → Gained out (output (ending_of e) ends.state)
      → (status ≢ WriteFault → IsEnding status × IfSome (ending_status (ending_of e)) (λ x. status ≡ x) × (report.after ≡ append_known report.before (ending_report c s e)))
      → (status ≡ WriteFault → GainsPrefix report.before report.after (ending_report c s e) × Fails report)
      → EndsBy (IsOfRun c us output) out report status
  reported out report status wrote whole part = elim (write_fault_tells status) [
    | inl at ↦ record {
      outcome = outcome_of;
      is = is_of_run;
      ends = stops_in_report at (part at).1 wrote (subst (λ (t : List ℕ). GainsPrefix report.before report.after t) same_report (part at).0);
    }
    | inr differs ↦ record {
      outcome = outcome_of;
      is = is_of_run;
      ends = finished wrote ((whole differs).2 ∙ ap (append_known report.before) same_report) (answers (ending_status (ending_of e)) status_of.0 status status_of.1 (whole differs).1) (ending_answers status (whole differs).0);
    }
  ]

  -- the output failed, of which this was to be written
  pub cut_short : (out report : Device) (status : Status) → Keeps report → Fails out → GainedPart out (output (ending_of e) ends.state) → status ≡ WriteFault → EndsBy (IsOfRun c us output) out report status
  cut_short out report status same w part fault = record { outcome = outcome_of; is = is_of_run; ends = stops_in_output fault w part same }

-- ---- `run`

module _ (c : Command) (us : List unit.Unit) (p : Program) (same : p ≡ program_for c us) (out report : Device) (status : Status) where
  pub ran : (e : machine.Ending) (s : Seen) → EndsAs p (ending_of e) s out.before out.after
      → (status ≢ WriteFault → IsEnding status × IfSome (ending_status (ending_of e)) (λ x. status ≡ x) × (report.after ≡ append_known report.before (ending_report c s e)))
      → (status ≡ WriteFault → GainsPrefix report.before report.after (ending_report c s e) × Fails report)
      → EndsBy (IsOfRun c us transcript) out report status
  ran e s ends whole part =
      let of_it : EndsAs (program_for c us) (ending_of e) s out.before out.after = subst (λ (q : Program). EndsAs q (ending_of e) s out.before out.after) same ends in
      reported c us e s out.before out.after of_it transcript out report status of_it.wrote whole part

  pub stopped : Keeps report → StopsAs p out.before out.after → Fails out → status ≡ WriteFault → EndsBy (IsOfRun c us transcript) out report status
  stopped kept stops w fault =
      let of_it : StopsAs (program_for c us) out.before out.after = subst (λ (q : Program). StopsAs q out.before out.after) same stops in
      let by = has_status (program_for c us) of_it.ending of_it.state of_it.by_the_rules in
      record {
        outcome = ended c us of_it.ending by.0 of_it.state of_it.instructions of_it.state.transcript;
        is = record {
          ending = of_it.ending;
          state = of_it.state;
          instructions = of_it.instructions;
          status = by.0;
          run = record { by_the_rules = of_it.by_the_rules; state = of_it.flat; by_the_machine = of_it.by_the_machine };
          answered = by.1;
          outcome = refl;
        };
        ends = stops_in_output fault w of_it.part kept;
      }

-- ---- `gen`

pub has_ended : (c : Command) (us : List unit.Unit) (p : Program) (s : Seen) (e : machine.Ending) (old text : List ℕ) (count : ℕ) → p ≡ program_for c us → old ≡ [] → EndsAs p (ending_of e) s (Some old) (Some text) → count ≡ length text → HasEnded c us s e count
has_ended c us p s e old text count same none ends is =
    record {
      text = text;
      ends = subst (λ (t : List ℕ). EndsAs (program_for c us) (ending_of e) s (Some t) (Some text)) none (subst (λ (q : Program). EndsAs q (ending_of e) s (Some old) (Some text)) same ends);
      count = is;
    }

same_text_of : (text more : List ℕ) → Some text ≡ append_known (Some []) more → text ≡ more
same_text_of text more is = cc

module _ (c : Command) (us : List unit.Unit) (bytes count : ℕ) (e : machine.Ending) (s : Seen) (h : HasEnded c us s e count) (line : List ℕ) (same : line ≡ line_of (length us) bytes count s.steps (ending_of e)) where
  same_summary : line ≡ summary us bytes (ending_of e) h.ends.state
  same_summary =
      same
      ∙ ap (λ n. line_of (length us) bytes n s.steps (ending_of e)) (h.count ∙ ap length (same_text_of h.text h.ends.state.transcript h.ends.wrote))
      ∙ ap (λ n. line_of (length us) bytes (length h.ends.state.transcript) n (ending_of e)) h.ends.steps

  pub summed : (out report : Device) (status : Status) → Gained out line
      → (status ≢ WriteFault → IsEnding status × IfSome (ending_status (ending_of e)) (λ x. status ≡ x) × (report.after ≡ append_known report.before (ending_report c s e)))
      → (status ≡ WriteFault → GainsPrefix report.before report.after (ending_report c s e) × Fails report)
      → EndsBy (IsOfRun c us (summary us bytes)) out report status
  summed out report status wrote whole part =
      reported c us e s (Some []) (Some h.text) h.ends (summary us bytes) out report status (wrote ∙ ap (append_known out.before) same_summary) whole part

  pub summed_part : (out report : Device) (status : Status) → Keeps report → Fails out → GainedPart out line → status ≡ WriteFault → EndsBy (IsOfRun c us (summary us bytes)) out report status
  summed_part out report status kept w part fault =
      cut_short c us e s (Some []) (Some h.text) h.ends (summary us bytes) out report status kept w (subst (λ (t : List ℕ). GainsPrefix out.before out.after t) same_summary part) fault
