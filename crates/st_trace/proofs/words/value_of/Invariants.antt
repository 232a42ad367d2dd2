use Rattle.std.proofs.Common.{◌≡◌, drop, Some}
use Rattle.st_trace.specs.Reading.{value_behind}
use Rattle.st_trace.proofs.words.value_of.Given as goal

-- what is left is read behind what was read
abbrev pub invariant-loop-digit : goal.invariant-loop-digit
invariant-loop-digit l = value_behind (Some 0) l.digits ≡ value_behind (Some l.value) (drop l.digit-index l.digits)
