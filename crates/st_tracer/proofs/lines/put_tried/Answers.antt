-- The entry, then whether it fits.
use Rattle.std.proofs.Common.{◌++◌, ◌∷◌, [], codes, decimal}
use Rattle.st_transcript.proofs.Gaining.{gains_as}
use Rattle.st_trace.specs.Bytes.{answer_word}
use Rattle.st_tracer.proofs.Texts.{first_fails, second_follows, part_as, tried_is}
use Rattle.st_tracer.proofs.lines.put_tried.Goals as goal

pub returns-in-Ok-clause-text : goal.returns-in-Ok-clause-text
returns-in-Ok-clause-text g c =
    gains_as _ _ c.put.result _ _ (tried_is (codes "tried ") (decimal c.args.entry) (answer_word c.args.fits))
    (second_follows _ _ _ c.put.result (codes "tried " ++ decimal c.args.entry) (32 ∷ (answer_word c.args.fits ++ 10 ∷ [])) c.in-Ok.ensures.text (gains_as _ _ c.put.result _ _ c.answer.ensures c.put.ensures.text))

pub returns-in-Err-clause-text : goal.returns-in-Err-clause-text
returns-in-Err-clause-text g c =
    part_as _ _ _ _ (tried_is (codes "tried ") (decimal c.args.entry) (answer_word c.args.fits))
    (first_fails _ _ (codes "tried " ++ decimal c.args.entry) (32 ∷ (answer_word c.args.fits ++ 10 ∷ [])) c.in-Err.ensures.text)
