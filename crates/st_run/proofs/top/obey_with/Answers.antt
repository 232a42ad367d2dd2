-- A file that was read, one that was refused, a fault, and want of memory.
use Rattle.std.proofs.Common.{refl, ◌∙◌}
use Rattle.st_run.proofs.CallLemmas.{read_calls, refused_calls, program_fault_calls, want_calls, count_is}
use Rattle.st_run.proofs.top.obey_with.Goals as goal

pub returns-in-Read : goal.returns-in-Read
returns-in-Read g c =
    let end = rw c.in-Read.is at c.read_file-read.ensures.ended in
    let count = count_is _ _ c.read_file-read.result.bytes c.read_file-read.ensures.counted.0 c.read_file-read.ensures.counted.1 end in
    read_calls c.args.command c.requires.program _ _ _ c.new-appendix.result c.read_file-read.new.appendix _ c.in-Read.definition.units c.read_file-read.result.bytes (c.new-appendix.ensures ∙ c.requires.lines) (rw c.in-Read.is at c.read_file-read.ensures.told) count end c.judge.ensures

pub returns-in-Refused : goal.returns-in-Refused
returns-in-Refused g c =
    refused_calls c.args.command c.requires.program _ _ _ c.new-appendix.result c.read_file-read.new.appendix _ c.in-Refused.place c.in-Refused.reason (c.new-appendix.ensures ∙ c.requires.lines) (rw c.in-Refused.is at c.read_file-read.ensures.told) (c.refuse.ensures _ refl)

pub returns-in-ReadFault : goal.returns-in-ReadFault
returns-in-ReadFault g c =
    program_fault_calls _ _ _ _ refl c.args.command c.requires.program c.tell.ensures.told (λ fault. c.tell.ensures.part (λ is. cc) fault)
    (c.read_file-read.ensures.failed c.in-ReadFault.is) (c.read_file-read.ensures.source_unsettled c.in-ReadFault.is)

pub returns-in-OutOfMemory : goal.returns-in-OutOfMemory
returns-in-OutOfMemory g c = want_calls _ _ _ _ _ c.report_want_of_memory.ensures.status (λ o. c.report_want_of_memory.ensures.finishes o _ refl)
