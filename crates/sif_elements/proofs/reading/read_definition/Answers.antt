-- A file that a source gives alone.
use Rattle.std.proofs.Common.{◌≡◌, IfSome, []}
use Rattle.sif_chunks.proofs.Alone.{of_alone}
use Rattle.sif_chunks.proofs.Leaving.{none_behind}
use Rattle.sif_elements.specs.Steps.{reading}
use Rattle.sif_elements.specs.Answered.{said, IfRead, Took}
use Rattle.sif_elements.proofs.reading.read_definition.Goals as goal

pub returns-clause-told : goal.returns-clause-told
returns-clause-told g c =
    of_alone (λ left now. IfSome left (λ file. IfSome (said c.read_file-read.result.answer) (λ answer. reading file ≡ answer))) (g.S.Source.left c.args.source.now) (g.S.Source.left c.read_file-read.new.source) c.read_file-read.new.appendix
    (none_behind (g.S.Source.left c.args.source.now) (g.S.Source.left c.read_file-read.new.source) c.none-none.result c.read_file-read.new.appendix c.read_file-read.ensures.leaves c.none-none.ensures) (rw c.none-none.ensures at c.read_file-read.ensures.told)

pub returns-clause-ended : goal.returns-clause-ended
returns-clause-ended g c =
    of_alone (λ left now. IfRead c.read_file-read.result.answer (λ units. IfSome now (λ bytes. bytes ≡ []))) (g.S.Source.left c.args.source.now) (g.S.Source.left c.read_file-read.new.source) c.read_file-read.new.appendix
    (none_behind (g.S.Source.left c.args.source.now) (g.S.Source.left c.read_file-read.new.source) c.none-none.result c.read_file-read.new.appendix c.read_file-read.ensures.leaves c.none-none.ensures) c.read_file-read.ensures.ended

pub returns-clause-took : goal.returns-clause-took
returns-clause-took g c =
    of_alone Took (g.S.Source.left c.args.source.now) (g.S.Source.left c.read_file-read.new.source) c.read_file-read.new.appendix
    (none_behind (g.S.Source.left c.args.source.now) (g.S.Source.left c.read_file-read.new.source) c.none-none.result c.read_file-read.new.appendix c.read_file-read.ensures.leaves c.none-none.ensures) (rw c.none-none.ensures at c.read_file-read.ensures.took)

pub returns-clause-unsettled : goal.returns-clause-unsettled
returns-clause-unsettled g c = c.read_file-read.ensures.source_unsettled
