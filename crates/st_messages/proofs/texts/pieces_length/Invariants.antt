use Rattle.std.proofs.Common.{◌≡◌, ◌*◌, ◌^◌, ◌≤◌, length, take}
use Rattle.st_messages.specs.Pieces.{pieces_text}
use Rattle.st_messages.proofs.texts.pieces_length.Given as goal

abbrev pub invariant-loop-piece : goal.invariant-loop-piece
invariant-loop-piece g l = record {
  counted : l.count ≡ length (pieces_text (g.P.ProgramFacts.meaning l.program) (g.H.Heap.meaning l.heap).store (take l.piece-index l.pieces));
  small : l.count ≤ l.piece-index * 2 ^ 65;
}
