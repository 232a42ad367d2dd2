use Rattle.std.proofs.Common.{◌-◌, ◌/◌, ◌∙◌, arith}
use Rattle.std.proofs.lemmas.List.{length-set}
use Rattle.st_messages.proofs.RadixTexts.{digits_last, digits_more, fewer, places, smaller}
use Rattle.st_messages.proofs.radix.digits_of.Goals as goal

pub returns-then-rest-eq0-clause-text : goal.returns-then-rest-eq0-clause-text
returns-then-rest-eq0-clause-text c =
    let l = c.loop-rest in
    let i = l.invariant in
    digits_last l.bytes l.start c.args.radix l.rest c.glyph.result i.behind (omega (arith, i.within, i.bytes)) c.if-rest-eq0.true c.glyph.ensures ∙ i.text

pub loop-rest-preserved : goal.loop-rest-preserved
loop-rest-preserved c =
    let l = c.loop-rest in
    let i = l.invariant in
    record {
      text = digits_more l.bytes l.start c.args.radix l.rest c.glyph.result i.behind (omega (arith, i.within, i.bytes)) c.if-rest-eq0.false c.glyph.ensures ∙ i.text;
      behind = places (l.rest / c.args.radix) (l.start - 1) c.if-rest-eq0.false (fewer l.rest c.args.radix l.start c.requires.least i.behind i.rest);
      within = omega (arith, i.within);
      bytes = length-set l.bytes (l.start - 1) c.glyph.result ∙ i.bytes;
      rest = fewer l.rest c.args.radix l.start c.requires.least i.behind i.rest;
    }

pub loop-rest-smaller : goal.loop-rest-smaller
loop-rest-smaller c = smaller c.loop-rest.rest c.args.radix c.requires.least c.if-rest-eq0.false
