use Rattle.std.proofs.Common.{◌≡◌, drop, map}
use Rattle.st_code.specs.Written.{named_literal, literal_row}
use Rattle.program_image.specs.Spelled.{spelled, literals_texts}
use Rattle.program_image.proofs.spelled.+spell_literal.Given as goal

abbrev pub invariant-loop-item : goal.invariant-loop-item
invariant-loop-item l = spelled l.names (literals_texts (literal_row (map named_literal (drop l.item-index l.item-items)))) ≡ spelled l.fn.names (literals_texts (literal_row (map named_literal l.item-items)))
