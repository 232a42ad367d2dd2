-- What comes of the audit's answer.
use Rattle.std.proofs.Common.{refl}
use Rattle.st_trace.specs.declared.auditing.AuditAnswer.TheVariants as audit
use Rattle.st_run.specs.Reports.{disciplined_line}
use Rattle.st_run.proofs.AuditLemmas.{refused_trace_calls, disciplined_calls, audit_fault_calls}
use Rattle.st_run.proofs.CallLemmas.{want_calls}
use Rattle.st_run.proofs.auditing.audit_trace.Goals as goal

pub returns-in-Disciplined : goal.returns-in-Disciplined
returns-in-Disciplined g c =
    disciplined_calls c.args.command c.requires _ _ _ _ c.in-Disciplined.lines c.in-Disciplined.ensures.judged c.in-Disciplined.ensures.read_to_end (c.write_made.ensures (disciplined_line c.in-Disciplined.lines) c.disciplined_line.ensures)

pub returns-in-Refused : goal.returns-in-Refused
returns-in-Refused g c =
    refused_trace_calls c.args.command c.requires _ _ _ _ c.in-Refused.line c.in-Refused.reason c.in-Refused.ensures.judged (c.refuse_trace.ensures _ refl)

pub returns-in-ReadFault : goal.returns-in-ReadFault
returns-in-ReadFault g c =
    audit_fault_calls c.args.command c.requires _ _ _ _ refl c.tell.ensures.told (λ fault. c.tell.ensures.part (λ is. cc) fault) c.in-ReadFault.ensures.cause c.in-ReadFault.ensures.fault

pub returns-in-OutOfMemory : goal.returns-in-OutOfMemory
returns-in-OutOfMemory g c = want_calls _ _ _ _ _ c.report_want_of_memory.ensures.status (λ o. c.report_want_of_memory.ensures.finishes o _ refl)
