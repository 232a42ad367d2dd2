-- The word and the first number, then the second.
use Rattle.std.proofs.Common.{◌++◌, ◌∷◌, [], decimal}
use Rattle.st_transcript.proofs.Gaining.{gains_as}
use Rattle.st_tracer.proofs.Texts.{first_fails, second_follows, part_as, twice_is}
use Rattle.st_tracer.proofs.lines.put_twice_numbered.Goals as goal

pub returns-in-Ok-clause-text : goal.returns-in-Ok-clause-text
returns-in-Ok-clause-text g c =
    gains_as _ _ c.put_numbered.result _ _ (twice_is c.args.word.now (decimal c.args.first) (decimal c.args.second))
    (second_follows _ _ _ c.put_numbered.result (c.args.word.now ++ decimal c.args.first) (((32 ∷ []) ++ decimal c.args.second) ++ 10 ∷ []) c.in-Ok.ensures.text c.put_numbered.ensures.text)

pub returns-in-Err-clause-text : goal.returns-in-Err-clause-text
returns-in-Err-clause-text g c =
    part_as _ _ _ _ (twice_is c.args.word.now (decimal c.args.first) (decimal c.args.second))
    (first_fails _ _ (c.args.word.now ++ decimal c.args.first) (((32 ∷ []) ++ decimal c.args.second) ++ 10 ∷ []) c.in-Err.ensures.text)
