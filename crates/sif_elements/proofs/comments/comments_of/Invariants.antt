use Rattle.std.proofs.Common.{◌≡◌, ◌++◌, drop, false}
use Rattle.st_tree.specs.Headers.{comments_in}
use Rattle.sif_elements.specs.Words.{if_open}
use Rattle.sif_elements.proofs.comments.comments_of.Given as goal

abbrev pub invariant-loop-byte : goal.invariant-loop-byte
invariant-loop-byte l = l.comments ++ if_open l.is_open l.comment.items (comments_in l.is_open (drop l.byte-index l.text)) ≡ comments_in false l.text
