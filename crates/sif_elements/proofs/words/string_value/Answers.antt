use Rattle.std.proofs.Common.{◌∙◌, arith}
use Rattle.sif_elements.proofs.WordLemmas.{string_done}
use Rattle.sif_elements.proofs.words.string_value.Goals as goal

pub returns : goal.returns
returns c = c.in_ok-from_bytes.ensures ∙ c.deref.ensures.value ∙ string_done c.args.text.now c.between_quotes-byte-items.result.now c.loop-byte.bytes.items c.loop-byte.skips c.loop-byte.byte-index (omega (arith, c.loop-byte-test.false, c.loop-byte.auto.byte-index-end)) c.loop-byte.invariant c.between_quotes-byte-items.ensures
