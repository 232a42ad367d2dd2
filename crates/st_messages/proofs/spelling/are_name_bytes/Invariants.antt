use Rattle.std.proofs.Common.{◌≡◌, drop}
use Rattle.st_code.specs.Texts.{all_bytes}
use Rattle.st_messages.specs.Spellings.{continues}
use Rattle.st_messages.proofs.spelling.are_name_bytes.Given as goal

-- what is behind decides
abbrev pub invariant-loop-byte : goal.invariant-loop-byte
invariant-loop-byte l = all_bytes continues (drop l.byte-index l.text) ≡ all_bytes continues l.fn.text
