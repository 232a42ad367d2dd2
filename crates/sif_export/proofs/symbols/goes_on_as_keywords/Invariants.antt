use Rattle.std.proofs.Common.{◌≡◌, drop}
use Rattle.sif_export.specs.Words.{goes_on_as_keywords}
use Rattle.sif_export.proofs.symbols.goes_on_as_keywords.Given as goal

abbrev pub invariant-loop-byte : goal.invariant-loop-byte
invariant-loop-byte l = goes_on_as_keywords l.begun (drop l.byte-index l.text) ≡ goes_on_as_keywords l.fn.begun l.text
