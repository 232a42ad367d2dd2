use Rattle.std.proofs.Common.{arith}
use Rattle.sif_elements.proofs.WordLemmas.{comments_open, comments_closed}
use Rattle.sif_elements.proofs.comments.comments_of.Goals as goal
use Rattle.sif_elements.proofs.comments.comments_of.Goals.{then-is_open+in_ok-from_bytes+in_ok-push, else-is_open}

pub returns : goal.returns
returns c =
    elim c.if-is_open.branch [
      | then-is_open+in_ok-from_bytes+in_ok-push w ↦
          rw (w.comments-is, w.in_ok-push.ensures.ok, w.in_ok-from_bytes.ensures, w.as_slice.ensures.value)
          (comments_open c.args.text.now c.loop-byte.comments c.loop-byte.comment.items c.loop-byte.byte-index (omega (arith, c.loop-byte-test.false, c.loop-byte.auto.byte-index-end)) (rw w.if-is_open.true at c.loop-byte.invariant))
      | else-is_open w ↦
          rw w.comments-is
          (comments_closed c.args.text.now c.loop-byte.comments c.loop-byte.byte-index (omega (arith, c.loop-byte-test.false, c.loop-byte.auto.byte-index-end)) (rw w.if-is_open.false at c.loop-byte.invariant))
    ]
