use Rattle.st_lexer.proofs.SpanLemmas.{string_len-quote, string_len-other}
use Rattle.st_lexer.proofs.spans.string_len.Goals as goal
use Rattle.st_lexer.proofs.spans.string_len.Goals.{then-byte-eq39, else-byte-eq39+else-closing}

pub loop-i-preserved : goal.loop-i-preserved
loop-i-preserved c =
    elim c.if-byte-eq39.branch [
      | then-byte-eq39 w ↦ rw w.closing-is (string_len-quote c.args.bytes.now c.loop-i.i c.loop-i.closing _ c.loop-i-test.true w.if-byte-eq39.true c.loop-i.invariant)
      | else-byte-eq39+else-closing w ↦ rw (w.closing-is, w.if-closing.false) (string_len-other c.args.bytes.now c.loop-i.i _ c.loop-i-test.true w.if-byte-eq39.false (rw w.if-closing.false at c.loop-i.invariant))
    ]
