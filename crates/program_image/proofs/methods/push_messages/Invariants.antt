use Rattle.std.proofs.Common.{◌≡◌, ◌++◌, drop, map, length}
use Rattle.st_base.specs.BuiltIns.{message_row}
use Rattle.program_image.specs.Images.{message_entries}
use Rattle.program_image.proofs.methods.push_messages.Given as goal

abbrev pub invariant-loop-message : goal.invariant-loop-message
invariant-loop-message l = record {
  counted : l.number ≡ l.message-index;
  few : length l.message-items ≡ 416;
  added : l.entries.items ++ message_entries l.declarations.names l.number (map message_row (drop l.message-index l.message-items)) ≡ l.fn.entries.items ++ message_entries l.declarations.names 0 (map message_row l.message-items);
}
