-- The bytes up to the first byte 10 are kept, and then the line is judged.
use Rattle.st_trace.proofs.Opening.{some_kept, some_whole}
use Rattle.st_trace.proofs.auditing.judge_some.Goals as goal

pub returns-in-None-clause-judges : goal.returns-in-None-clause-judges
returns-in-None-clause-judges c = some_kept c.args.audit.now c.keep.new.self c.args.bytes.now c.in-None.ensures c.requires.room c.keep.ensures

pub returns-in-Some-clause-judges : goal.returns-in-Some-clause-judges
returns-in-Some-clause-judges c =
    some_whole c.args.audit.now c.keep-in-Some.new.self c.judge_whole.new.audit c.args.bytes.now c.in-Some.end c.judge_whole.result c.in-Some.ensures c.requires.room c.keep-in-Some.ensures c.judge_whole.ensures.judges
