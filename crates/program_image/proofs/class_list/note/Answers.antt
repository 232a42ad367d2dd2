use Rattle.std.proofs.Common.{ap, sym, ◌∙◌}
use Rattle.std.specs.HashMap.{get_by}
use Rattle.std.specs.Option.{is_some}
use Rattle.st_code.specs.Texts.{Text}
use Rattle.program_image.specs.Classes.{is_name}
use Rattle.program_image.proofs.ByName.{gains-new}
use Rattle.program_image.proofs.class_list.note.Goals as goal

pub returns : goal.returns
returns c = gains-new c.args.numbers.now c.insert.new.self c.args.name c.args.number
    (ap (λ (t : Text). is_some (get_by (is_name t) c.args.numbers.now)) (sym c.as_slice.ensures.value) ∙ sym c.contains_key.ensures ∙ c.if-contains_key.false) c.in-Ok.ensures.entries
