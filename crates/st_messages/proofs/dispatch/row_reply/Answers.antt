use Rattle.std.proofs.Common.{◌≡◌, ◌∙◌, ap}
use Rattle.st_collections.specs.AtOnce.{making_action, pair_action}
use Rattle.st_rules.specs.Sends.{row_action}
use Rattle.st_messages.specs.declared.row.MessageRow.{MessageRow}
use Rattle.st_messages.specs.Rows.{making_of, table_row}
use Rattle.st_messages.proofs.RowLaws.{makers_same, pairs_same}
use Rattle.st_messages.proofs.dispatch.row_reply.Goals as goal

pub returns-in-Pair-clause-memory : goal.returns-in-Pair-clause-memory
returns-in-Pair-clause-memory g c =
    let p = g.P.ProgramFacts.meaning c.args.program.now in
    let s = (g.H.Heap.meaning c.args.heap.now).store in
    let same : row_action p s (table_row c.args.row) c.args.receiver c.args.arguments.now ≡ pair_action p s c.in-Pair.m c.args.receiver
    = ap (λ (row : MessageRow). row_action p s (table_row row) c.args.receiver c.args.arguments.now) c.in-Pair.is ∙ pairs_same p s c.in-Pair.m c.args.receiver c.args.arguments.now in
    rw same c.collection_reply-in-Pair.ensures.memory

pub returns-in-Pair-clause-reply : goal.returns-in-Pair-clause-reply
returns-in-Pair-clause-reply g c =
    let p = g.P.ProgramFacts.meaning c.args.program.now in
    let s = (g.H.Heap.meaning c.args.heap.now).store in
    let same : row_action p s (table_row c.args.row) c.args.receiver c.args.arguments.now ≡ pair_action p s c.in-Pair.m c.args.receiver
    = ap (λ (row : MessageRow). row_action p s (table_row row) c.args.receiver c.args.arguments.now) c.in-Pair.is ∙ pairs_same p s c.in-Pair.m c.args.receiver c.args.arguments.now in
    rw same c.collection_reply-in-Pair.ensures.reply

pub returns-in-Maker-clause-memory : goal.returns-in-Maker-clause-memory
returns-in-Maker-clause-memory g c =
    let p = g.P.ProgramFacts.meaning c.args.program.now in
    let s = (g.H.Heap.meaning c.args.heap.now).store in
    let same : row_action p s (table_row c.args.row) c.args.receiver c.args.arguments.now ≡ making_action p s (making_of c.in-Maker.m) c.args.receiver c.args.arguments.now
    = ap (λ (row : MessageRow). row_action p s (table_row row) c.args.receiver c.args.arguments.now) c.in-Maker.is ∙ makers_same p s c.in-Maker.m c.args.receiver c.args.arguments.now in
    rw same (rw c.maker_of.ensures at c.collection_reply-in-Maker.ensures.memory)

pub returns-in-Maker-clause-reply : goal.returns-in-Maker-clause-reply
returns-in-Maker-clause-reply g c =
    let p = g.P.ProgramFacts.meaning c.args.program.now in
    let s = (g.H.Heap.meaning c.args.heap.now).store in
    let same : row_action p s (table_row c.args.row) c.args.receiver c.args.arguments.now ≡ making_action p s (making_of c.in-Maker.m) c.args.receiver c.args.arguments.now
    = ap (λ (row : MessageRow). row_action p s (table_row row) c.args.receiver c.args.arguments.now) c.in-Maker.is ∙ makers_same p s c.in-Maker.m c.args.receiver c.args.arguments.now in
    rw same (rw c.maker_of.ensures at c.collection_reply-in-Maker.ensures.reply)
