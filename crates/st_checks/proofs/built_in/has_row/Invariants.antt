use Rattle.std.proofs.Common.{◌≡◌, false, take}
use Rattle.std.specs.List.{list_any}
use Rattle.st_base.specs.BuiltIns.{message_row}
use Rattle.st_checks.specs.Declarations.{is_message}
use Rattle.st_checks.proofs.built_in.has_row.Given as goal

abbrev pub invariant-loop-message : goal.invariant-loop-message
invariant-loop-message l = list_any (λ m. is_message l.class l.side l.selector (message_row m)) (take l.message-index l.messages) ≡ false
