use Rattle.std.proofs.Common.{◌≡◌, ◌+◌, ◌≤◌, drop}
use Rattle.st_code.specs.Texts.{count_byte}
use Rattle.st_messages.proofs.spelling.count_of.Given as goal

-- those behind are still to be counted
abbrev pub invariant-loop-other : goal.invariant-loop-other
invariant-loop-other l = record {
  counted : l.count + count_byte l.byte (drop l.other-index l.text) ≡ count_byte l.byte l.fn.text;
  few : l.count ≤ l.other-index;
}
