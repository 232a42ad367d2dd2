use Rattle.sif_elements.proofs.WordLemmas.{word_more, word_done}
use Rattle.sif_elements.proofs.words.take_into_words.Goals as goal

pub returns-then-not-is_white_byte : goal.returns-then-not-is_white_byte
returns-then-not-is_white_byte c = λ more. rw c.in_ok-push.ensures.items (word_more c.args.words.now c.args.word.now.items c.args.white c.args.byte more (cc))

pub returns-in_ok-push-2 : goal.returns-in_ok-push-2
returns-in_ok-push-2 c = λ more. rw (c.in_ok-push-2.ensures.ok, c.clear.ensures.items, c.in_ok-from_bytes.ensures, c.as_slice.ensures.value, c.if-not-white.true) (word_done c.args.words.now c.args.word.now.items c.args.byte more (cc))
