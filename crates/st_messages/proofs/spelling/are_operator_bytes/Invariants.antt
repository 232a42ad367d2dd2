use Rattle.std.proofs.Common.{◌≡◌, drop}
use Rattle.st_code.specs.Texts.{all_bytes}
use Rattle.st_messages.specs.Spellings.{is_operator}
use Rattle.st_messages.proofs.spelling.are_operator_bytes.Given as goal

-- what is behind decides
abbrev pub invariant-loop-byte : goal.invariant-loop-byte
invariant-loop-byte l = all_bytes is_operator (drop l.byte-index l.text) ≡ all_bytes is_operator l.fn.text
