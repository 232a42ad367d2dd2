-- What comes of a machine whose events are written, and of one whose output failed.
use Rattle.std.proofs.Common.{◌≡◌, ◌≢◌, List, [], Some, IfSome, refl, subst}
use Rattle.std.specs.Io.KnownBytes.{append_known}
use Rattle.st_base.specs.Streams.{GainsPrefix}
use Rattle.st_tree.specs.declared.units.Unit as unit
use Rattle.st_words.specs.declared.command.Command.{Command}
use Rattle.st_code.specs.Program.{Program}
use Rattle.st_machine.specs.declared.work.Ending as machine
use Rattle.st_machine.specs.Meaning.{ending_of}
use Rattle.st_machine.specs.Seen.{Seen}
use Rattle.st_run.specs.declared.status.Status.{Status}
use Rattle.st_run.specs.declared.status.Status.TheVariants.{WriteFault}
use Rattle.st_run.specs.Statuses.{IsEnding}
use Rattle.st_run.specs.Devices.{Device, Fails, Keeps}
use Rattle.st_run.specs.Outcomes.{program_for, ending_status, trace_lines, ended, IsOfRun}
use Rattle.st_run.specs.Ends.{stops_in_output, EndsBy}
use Rattle.st_run.specs.Told.{ending_report}
use Rattle.st_run.proofs.RunLemmas.{reported}
use Rattle.st_run.proofs.SomeOutcome.{has_status}
use Rattle.st_tracer.specs.Traced.{TracesAs, StopsTracing}

module _ (c : Command) (us : List unit.Unit) (p : Program) (same : p ≡ program_for c us) (out report : Device) (status : Status) where
  pub traced : (e : machine.Ending) (s : Seen) → TracesAs p (ending_of e) s out.before out.after
      → (status ≢ WriteFault → IsEnding status × IfSome (ending_status (ending_of e)) (λ x. status ≡ x) × (report.after ≡ append_known report.before (ending_report c s e)))
      → (status ≡ WriteFault → GainsPrefix report.before report.after (ending_report c s e) × Fails report)
      → EndsBy (IsOfRun c us trace_lines) out report status
  traced e s traces whole part =
      let of_it : TracesAs (program_for c us) (ending_of e) s out.before out.after = subst (λ (q : Program). TracesAs q (ending_of e) s out.before out.after) same traces in
      reported c us e s (Some []) (Some of_it.transcript) of_it.ends trace_lines out report status of_it.wrote whole part

  pub trace_stopped : Keeps report → StopsTracing p out.before out.after → Fails out → status ≡ WriteFault → EndsBy (IsOfRun c us trace_lines) out report status
  trace_stopped kept stops w fault =
      let of_it : StopsTracing (program_for c us) out.before out.after = subst (λ (q : Program). StopsTracing q out.before out.after) same stops in
      let by = has_status (program_for c us) of_it.ending of_it.state of_it.by_the_rules in
      record {
        outcome = ended c us of_it.ending by.0 of_it.state of_it.instructions (trace_lines of_it.ending of_it.state);
        is = record {
          ending = of_it.ending;
          state = of_it.state;
          instructions = of_it.instructions;
          status = by.0;
          run = record { by_the_rules = of_it.by_the_rules; state = of_it.flat; by_the_machine = of_it.by_the_machine };
          answered = by.1;
          outcome = refl;
        };
        ends = stops_in_output fault w of_it.part kept;
      }
