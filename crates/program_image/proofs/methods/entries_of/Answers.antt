use Rattle.std.proofs.Common.{◌++◌, List, map, ap, ◌∙◌}
use Rattle.st_base.specs.BuiltIns.{messages}
use Rattle.program_image.specs.declared.table.Entry.{Entry}
use Rattle.program_image.specs.Images as image
use Rattle.program_image.proofs.methods.entries_of.Goals as goal

pub returns : goal.returns
unfolding image.entries_with
returns c =
    c.in_ok-push_messages.ensures
    ∙ ap (λ (es : List Entry). es ++ image.message_entries c.args.declarations.now.names 0 messages)
    (c.in_ok-push_methods.ensures ∙ ap (λ (es : List Entry). es ++ map image.method_entry (image.methods_from c.args.declarations.now 0 c.args.units.now)) c.new-entries.ensures.items)
