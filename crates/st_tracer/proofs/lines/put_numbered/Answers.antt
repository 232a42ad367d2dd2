-- The word and the number, then the end of the line.
use Rattle.std.proofs.Common.{◌++◌, ◌∷◌, [], decimal}
use Rattle.st_tracer.proofs.Texts.{first_fails, second_follows}
use Rattle.st_tracer.proofs.lines.put_numbered.Goals as goal

pub returns-in-Ok-clause-text : goal.returns-in-Ok-clause-text
returns-in-Ok-clause-text g c = second_follows _ _ _ c.put.result (c.args.word.now ++ decimal c.args.number) (10 ∷ []) c.in-Ok.ensures.text c.put.ensures.text

pub returns-in-Err-clause-text : goal.returns-in-Err-clause-text
returns-in-Err-clause-text g c = first_fails _ _ (c.args.word.now ++ decimal c.args.number) (10 ∷ []) c.in-Err.ensures.text
