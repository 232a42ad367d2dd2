use Rattle.std.proofs.Common.{◌≡◌, ◌++◌, drop, false}
use Rattle.st_tree.specs.Symbols.{unquoted}
use Rattle.sif_elements.proofs.words.string_value.Given as goal

abbrev pub invariant-loop-byte : goal.invariant-loop-byte
invariant-loop-byte l = l.bytes.items ++ unquoted l.skips (drop l.byte-index l.byte-items) ≡ unquoted false l.byte-items
