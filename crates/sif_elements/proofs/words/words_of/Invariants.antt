use Rattle.std.proofs.Common.{◌≡◌, ◌++◌, drop, false}
use Rattle.st_tree.specs.Headers.{words_behind}
use Rattle.sif_elements.specs.Words.{in_front}
use Rattle.sif_elements.proofs.words.words_of.Given as goal

abbrev pub invariant-loop-byte : goal.invariant-loop-byte
invariant-loop-byte l = l.words ++ in_front l.word.items (words_behind l.white (drop l.byte-index l.bytes)) ≡ words_behind false l.bytes
