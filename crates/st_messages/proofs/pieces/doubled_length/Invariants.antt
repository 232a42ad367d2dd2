use Rattle.std.proofs.Common.{◌≡◌, ◌+◌, ◌≤◌, drop, length}
use Rattle.st_code.specs.Texts.{quotes_doubled}
use Rattle.st_messages.proofs.pieces.doubled_length.Given as goal

-- those behind are still to be counted
abbrev pub invariant-loop-byte : goal.invariant-loop-byte
invariant-loop-byte l = record {
  counted : l.quotes + (l.byte-index + length (quotes_doubled (drop l.byte-index l.bytes))) ≡ length (quotes_doubled l.bytes);
  few : l.quotes ≤ l.byte-index;
}
