use Rattle.std.proofs.Common.{◌∙◌, sym, arith}
use Rattle.sif_elements.proofs.WordLemmas.{words_done, words_of-some}
use Rattle.sif_elements.proofs.words.words_of.Goals as goal

pub returns : goal.returns
returns c =
    rw (c.in_ok-push.ensures.ok, c.in_ok-from_bytes.ensures, c.as_slice.ensures.value)
    (words_done c.args.bytes.now c.loop-byte.words c.loop-byte.word.items c.loop-byte.white c.loop-byte.byte-index (omega (arith, c.loop-byte-test.false, c.loop-byte.auto.byte-index-end)) c.loop-byte.invariant
    ∙ sym (words_of-some c.args.bytes.now (cc)))
