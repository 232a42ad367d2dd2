use Rattle.sif_elements.proofs.WordLemmas.{comment_done, comment_more}
use Rattle.sif_elements.proofs.comments.take_into_comments.Goals as goal

pub returns-then-byte-eq34 : goal.returns-then-byte-eq34
returns-then-byte-eq34 c = λ more. rw (c.in_ok-push.ensures.ok, c.in_ok-from_bytes.ensures, c.as_slice.ensures.value, c.if-is_open.true, c.if-byte-eq34.true) (comment_done c.args.comments.now c.args.comment.now.items more)

pub returns-then-is_open : goal.returns-then-is_open
returns-then-is_open c = λ more. rw (c.in_ok-push-2.ensures.items, c.if-is_open.true) (comment_more c.args.comments.now c.args.comment.now.items c.args.byte more c.if-byte-eq34.false)
