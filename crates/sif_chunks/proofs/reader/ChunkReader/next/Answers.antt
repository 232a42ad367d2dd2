use Rattle.std.proofs.Common.{◌≡◌}
use Rattle.std.specs.Option.{option_map}
use Rattle.sif_chunks.specs.Reading.{outlook, told, Settled}
use Rattle.sif_chunks.proofs.Alone.{of_alone}
use Rattle.sif_chunks.proofs.Leaving.{none_behind}
use Rattle.sif_chunks.proofs.reader.ChunkReader.next.Goals as goal

pub returns-clause-answer : goal.returns-clause-answer
returns-clause-answer g c =
    of_alone (λ left now. option_map (outlook c.args.self.now) left ≡ option_map (told c.next_with.result c.next_with.new.self) now) _ _ c.next_with.new.appendix
    (none_behind (g.S.Source.left c.args.source.now) (g.S.Source.left c.next_with.new.source) c.none-none.result c.next_with.new.appendix c.next_with.ensures.leaves c.none-none.ensures) (rw c.none-none.ensures at c.next_with.ensures.answer)

pub returns-clause-settled : goal.returns-clause-settled
returns-clause-settled g c =
    of_alone (λ left now. Settled c.next_with.result c.args.self.now left c.next_with.new.self now) _ _ c.next_with.new.appendix
    (none_behind (g.S.Source.left c.args.source.now) (g.S.Source.left c.next_with.new.source) c.none-none.result c.next_with.new.appendix c.next_with.ensures.leaves c.none-none.ensures) (rw c.none-none.ensures at c.next_with.ensures.settled)
