use Rattle.std.proofs.Common.{◌≡◌, drop, map}
use Rattle.st_base.specs.BuiltIns.{message_row}
use Rattle.program_image.specs.Spelled.{spelled, selector_of}
use Rattle.program_image.proofs.spelled.spell_built_ins.Given as goal

abbrev pub invariant-loop-message : goal.invariant-loop-message
invariant-loop-message l = spelled l.names (map selector_of (map message_row (drop l.message-index l.message-items))) ≡ spelled l.fn.names (map selector_of (map message_row l.message-items))
