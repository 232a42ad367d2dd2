-- How a call comes to its end by the answer of an audit.
use Rattle.std.proofs.Common.{◌≡◌, ◌≢◌, ℕ, List, [], Option, None, Some, IfSome, refl, sym, subst}
use Rattle.std.specs.Io.KnownBytes.{append_known}
use Rattle.st_base.specs.Streams.{GainsPrefix}
use Rattle.st_words.specs.declared.command.Command.{Command}
use Rattle.st_words.specs.declared.command.Task.{Task}
use Rattle.st_words.specs.declared.command.Task.TheVariants as task
use Rattle.st_trace.specs.Answering.{Judged, LeavesAuditOpen}
use Rattle.st_trace.specs.declared.auditing.AuditAnswer.TheVariants as audit
use Rattle.st_trace.specs.declared.auditing.AuditReason.{AuditReason}
use Rattle.st_run.specs.declared.status.Status.{Status}
use Rattle.st_run.specs.declared.status.Status.TheVariants as final
use Rattle.st_run.specs.Devices.{Device, Fails, Keeps}
use Rattle.st_run.specs.Reports.{disciplined_line, read_fault_line}
use Rattle.st_run.specs.Outcomes.{Outcome, audited, done, OfAudit}
use Rattle.st_run.specs.Commands.{Does, LeavesOpenBy, OfInput}
use Rattle.st_run.specs.Ends.{Finishes, Calls, finishes}
use Rattle.st_run.proofs.CallLemmas.{fault_calls, no_ending}

module _ (c : Command) (same : c.task ≡ task.Audit) where
  of_audit : (bytes : List ℕ) (o : Outcome) → OfAudit bytes o → Does (Some c) bytes o
  of_audit bytes o is = subst (λ (t : Task). OfInput t c bytes o) (sym same) is

  disciplined_does : (left : Option (List ℕ)) (lines : ℕ) → IfSome left (λ bytes. Judged bytes (audit.Disciplined lines)) → IfSome left (λ bytes. Does (Some c) bytes (done (disciplined_line lines)))
  disciplined_does None lines h = tt
  disciplined_does (Some bytes) lines h = of_audit bytes (done (disciplined_line lines)) (record { answer = audit.Disciplined lines; audits = h; outcome = refl })

  refused_does : (left : Option (List ℕ)) (line : ℕ) (why : AuditReason) → IfSome left (λ bytes. Judged bytes (audit.Refused line why)) → IfSome left (λ bytes. Does (Some c) bytes (audited (audit.Refused line why)))
  refused_does None line why h = tt
  refused_does (Some bytes) line why h = of_audit bytes (audited (audit.Refused line why)) (record { answer = audit.Refused line why; audits = h; outcome = refl })

  opens_audit : (left left' : Option (List ℕ)) → IfSome left (λ bytes. LeavesAuditOpen bytes left') → IfSome left (λ bytes. LeavesOpenBy c.task bytes left')
  opens_audit left left' h = subst (λ (t : Task). IfSome left (λ bytes. LeavesOpenBy t bytes left')) (sym same) h

  module _ (source out report : Device) (status : Status) where
    pub disciplined_calls : (lines : ℕ) → IfSome source.before (λ bytes. Judged bytes (audit.Disciplined lines)) → IfSome source.after (λ bytes. bytes ≡ []) → Finishes (done (disciplined_line lines)) out report status → Calls (Some c) source out report status
    disciplined_calls lines h end f = finishes (done (disciplined_line lines)) f (disciplined_does source.before lines h) (λ at. end)

    pub refused_trace_calls : (line : ℕ) (why : AuditReason) → IfSome source.before (λ bytes. Judged bytes (audit.Refused line why)) → Finishes (audited (audit.Refused line why)) out report status → Calls (Some c) source out report status
    refused_trace_calls line why h f =
        finishes (audited (audit.Refused line why)) f (refused_does source.before line why h) (λ at. absurd (no_ending (audited (audit.Refused line why)) out report status (λ at. at) f at))

    pub audit_fault_calls : Keeps out
        → (status ≢ final.WriteFault → (status ≡ final.ReadFault) × (report.after ≡ append_known report.before read_fault_line))
        → (status ≡ final.WriteFault → GainsPrefix report.before report.after read_fault_line × Fails report)
        → Fails source → IfSome source.before (λ bytes. LeavesAuditOpen bytes source.after) → Calls (Some c) source out report status
    audit_fault_calls same whole part r opens = fault_calls source out report status same c whole part r (opens_audit source.before source.after opens)
