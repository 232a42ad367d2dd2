use Rattle.std.proofs.Common.{◌≡◌, ◌∙◌, drop, refl, sym, true, true≢false, arith}
use Rattle.std.proofs.lemmas.List.{take_rest}
use Rattle.st_base.specs.TokenBytes.{begins_colon}
use Rattle.st_lexer.proofs.SpanLemmas.{keywords_len-goes, keywords_len-closes, keywords_len-begins, within_next}
use Rattle.st_lexer.proofs.spans.keywords_len.Goals as goal
use Rattle.st_lexer.proofs.spans.keywords_len.Goals.{then-begun+then-not-is_word_byte+else-not-begins_colon, then-begun+else-not-is_word_byte, else-begun+else-not-is_letter}

pub loop-i-preserved : goal.loop-i-preserved
loop-i-preserved c =
    elim c.if-begun.branch [
      | then-begun+then-not-is_word_byte+else-not-begins_colon w ↦
          let colon : begins_colon (drop c.loop-i.i c.args.bytes.now) ≡ true = rw take_rest at (sym w.begins_colon.ensures ∙ w.if-not-begins_colon.false) in
          rw (w.whole-is, w.begun-is) record {
            same = keywords_len-closes c.args.bytes.now c.loop-i.i _ c.loop-i.whole c.loop-i-test.true (sym w.is_word_byte.ensures ∙ w.if-not-is_word_byte.true) colon (rw w.if-begun.true at c.loop-i.invariant.same);
            between = λ is. refl;
            within = omega arith;
          }
      | then-begun+else-not-is_word_byte w ↦
          rw (w.whole-is, w.begun-is, w.if-begun.true) record {
            same = keywords_len-goes c.args.bytes.now c.loop-i.i _ c.loop-i.whole c.loop-i-test.true (sym w.is_word_byte.ensures ∙ w.if-not-is_word_byte.false) (rw w.if-begun.true at c.loop-i.invariant.same);
            between = λ is. absurd (true≢false is);
            within = within_next c.loop-i.whole c.loop-i.i c.loop-i.invariant.within;
          }
      | else-begun+else-not-is_letter w ↦
          rw (w.whole-is, w.begun-is) record {
            same = keywords_len-begins c.args.bytes.now c.loop-i.i _ c.loop-i.whole c.loop-i-test.true (sym w.is_letter.ensures ∙ w.if-not-is_letter.false) (c.loop-i.invariant.between w.if-begun.false) (rw w.if-begun.false at c.loop-i.invariant.same);
            between = λ is. absurd (true≢false is);
            within = within_next c.loop-i.whole c.loop-i.i c.loop-i.invariant.within;
          }
    ]
