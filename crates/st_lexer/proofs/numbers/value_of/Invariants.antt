use Rattle.std.proofs.Common.{◌≡◌, ◌≤◌, ◌^◌, drop}
use Rattle.st_base.specs.Lexed.{value_of, value_behind}
use Rattle.st_lexer.proofs.numbers.value_of.Given as goal

-- the digits read so far make the value, and it is held
abbrev pub invariant-loop-byte : goal.invariant-loop-byte
invariant-loop-byte l = record {
  same : value_of l.radix l.digits ≡ value_behind l.radix l.value (drop l.byte-index l.digits);
  small : l.value ≤ 2 ^ 127;
}
