use Rattle.std.proofs.Common.{sym, ◌∙◌, ap, Some}
use Rattle.std.specs.Option.{option_map}
use Rattle.program_image.specs.Images.{image_program, as_row}
use Rattle.signal_env.proofs.Plain.{built_in_is_plain, method_is_not, nothing_is_not}
use Rattle.signal_env.proofs.handlers.is_plain.Goals as goal

pub returns-in-Some-BuiltIn : goal.returns-in-Some-BuiltIn
returns-in-Some-BuiltIn g c = built_in_is_plain (image_program c.args.image.now) (g.H.Heap.meaning c.args.heap.now).store c.args.selector c.args.handles c.requires c.in-Some-BuiltIn.field-0-0 (ap (option_map as_row) (sym (c.in-Some-BuiltIn.is ∙ ap Some c.in-Some-BuiltIn.field-0-is)) ∙ c.found_for.ensures)

pub returns-in-Some-User : goal.returns-in-Some-User
returns-in-Some-User g c = method_is_not (image_program c.args.image.now) (g.H.Heap.meaning c.args.heap.now).store c.args.selector c.args.handles c.requires c.in-Some-User.field-0-0 (ap (option_map as_row) (sym (c.in-Some-User.is ∙ ap Some c.in-Some-User.field-0-is)) ∙ c.found_for.ensures)

pub returns-in-None : goal.returns-in-None
returns-in-None g c = nothing_is_not (image_program c.args.image.now) (g.H.Heap.meaning c.args.heap.now).store c.args.selector c.args.handles c.requires (ap (option_map as_row) (sym c.in-None.is) ∙ c.found_for.ensures)
