use Rattle.std.proofs.Common.{◌≡◌, ◌<◌, ◌≤◌, ◌-◌, ◌^◌, [], drop, length}
use Rattle.st_rules.specs.NumberRows.{last_digits}
use Rattle.st_messages.proofs.radix.digits_of.Given as goal

-- the digits so far stand from here on, and the rest has fewer than there are places before
abbrev pub invariant-loop-rest : goal.invariant-loop-rest
invariant-loop-rest l = record {
  text : last_digits (l.start - 1) l.radix l.rest (drop l.start l.bytes) ≡ last_digits 128 l.radix l.size [];
  behind : 2 ≤ l.start;
  within : l.start ≤ 129;
  bytes : length l.bytes ≡ 129;
  rest : l.rest < 2 ^ (l.start - 1);
}

abbrev pub decreases-loop-rest : goal.decreases-loop-rest
decreases-loop-rest l = l.rest
