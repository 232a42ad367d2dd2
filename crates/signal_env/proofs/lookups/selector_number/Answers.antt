use Rattle.std.proofs.Common.{◌≡◌, Some, None, sym, ◌∙◌}
use Rattle.std.specs.Str.{bytes_eq}
use Rattle.std.specs.List.{position}
use Rattle.program_image.specs.Images.{image_names}
use Rattle.program_image.proofs.There.{selector-there}
use Rattle.signal_env.proofs.Own.{number-there, found-some}
use Rattle.signal_env.proofs.lookups.selector_number.Goals as goal

pub unreachable-requires : goal.unreachable-requires
unreachable-requires c =
    let none : None ≡ position (bytes_eq c.args.selector.now) (image_names c.args.image.now).names = rw c.names.ensures at (sym c.in-None.is ∙ c.find.ensures) in
    found-some (bytes_eq c.args.selector.now) (image_names c.args.image.now).names (selector-there c.args.image.now c.args.selector.now c.requires) none

pub returns-clause-number : goal.returns-clause-number
returns-clause-number c =
    let some : Some c.in-Some.number ≡ position (bytes_eq c.args.selector.now) (image_names c.args.image.now).names = rw c.names.ensures at (sym c.in-Some.is ∙ c.find.ensures) in
    number-there c.args.image.now c.args.selector.now c.in-Some.number some
