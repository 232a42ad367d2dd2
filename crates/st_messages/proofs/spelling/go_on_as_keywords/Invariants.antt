use Rattle.std.proofs.Common.{◌≡◌, drop}
use Rattle.st_code.specs.Texts.{are_keywords}
use Rattle.st_messages.proofs.spelling.go_on_as_keywords.Given as goal

-- what is behind decides
abbrev pub invariant-loop-byte : goal.invariant-loop-byte
invariant-loop-byte l = are_keywords l.begun (drop l.byte-index l.text) ≡ are_keywords l.fn.begun l.fn.text
