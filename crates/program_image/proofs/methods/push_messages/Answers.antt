use Rattle.std.proofs.Common.{length, refl, ap, sym, ◌∙◌}
use Rattle.std.proofs.lemmas.List.{length-map}
use Rattle.st_base.specs.BuiltIns.{message_row}
use Rattle.program_image.proofs.Entries.{message-count}
use Rattle.program_image.proofs.methods.push_messages.Goals as goal

pub loop-message-init : goal.loop-message-init
loop-message-init c =
    record {
      counted = refl;
      few = sym (length-map c.built_in_messages-message-items.result.now message_row) ∙ ap length c.built_in_messages-message-items.ensures ∙ message-count;
      added = refl;
    }
