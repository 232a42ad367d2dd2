use Rattle.std.proofs.Common.{◌≡◌, ◌<◌, length, IfSome}
use Rattle.program_image.specs.Spelled.{spelled}
use Rattle.st_shake.specs.Table.{from_place}
use Rattle.st_shake.proofs.Tables.{reach}
use Rattle.st_shake.proofs.methods.Methods.spell_from.Given as goal

abbrev pub invariant-loop-next : goal.invariant-loop-next
invariant-loop-next l = record {
  within : IfSome l.next (λ n. n < length l.self);
  so_far : spelled l.names (from_place l.self l.next) ≡ spelled l.fn.names (from_place l.self l.fn.place);
}

abbrev pub decreases-loop-next : goal.decreases-loop-next
decreases-loop-next l = reach l.next
