-- Bytes that are no line are refused at their byte 10.
use Rattle.std.proofs.Common.{◌≡◌, None}
use Rattle.st_trace.specs.Reading.{read_line}
use Rattle.st_trace.proofs.Opening.{whole_refused}
use Rattle.st_trace.proofs.auditing.judge_whole.Goals as goal

pub returns-in-None-clause-judges : goal.returns-in-None-clause-judges
returns-in-None-clause-judges c =
    let a = c.in-None.ensures in
    let b = c.so_far.ensures in
    let e : read_line c.args.audit.now.so_far ≡ None = cc in
    whole_refused c.args.audit.now c.args.audit.now c.line.result c.requires c.line.ensures e
