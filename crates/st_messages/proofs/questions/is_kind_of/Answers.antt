use Rattle.std.proofs.Common.{refl}
use Rattle.st_messages.proofs.KindLaws.{kind_of-is}
use Rattle.st_messages.proofs.questions.is_kind_of.Goals as goal

pub returns-clause-reply : goal.returns-clause-reply
returns-clause-reply g c =
    let p = g.P.ProgramFacts.meaning c.args.program.now in
    let s = (g.H.Heap.meaning c.args.heap.now).store in
    rw (c.answer_truth.ensures, c.is_kind.ensures, c.level_now-level.ensures, c.first_of.ensures, kind_of-is p s c.args.receiver c.args.arguments.now) refl

pub returns-clause-kept : goal.returns-clause-kept
returns-clause-kept g c =
    let p = g.P.ProgramFacts.meaning c.args.program.now in
    let s = (g.H.Heap.meaning c.args.heap.now).store in
    rw (kind_of-is p s c.args.receiver c.args.arguments.now) refl
