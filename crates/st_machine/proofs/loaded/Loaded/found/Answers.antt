use Rattle.std.proofs.Common.{List, Option, ap, ◌∙◌}
use Rattle.std.specs.Option.{option_map}
use Rattle.st_tree.specs.declared.units.Unit.{Unit}
use Rattle.st_code.specs.Lookup.{Found, level, lookup}
use Rattle.program_image.specs.Finding.{coded, unit_codes}
use Rattle.program_image.specs.Images.{image_program, on_side}
use Rattle.st_machine.proofs.Known.{found-alike}
use Rattle.st_machine.proofs.loaded.Loaded.found.Goals as goal

pub returns : goal.returns
returns c =
    c.coded_found.ensures
    ∙ ap (λ (o : Option Found). option_map (coded (unit_codes c.args.self.now.units)) o) (c.lookup.ensures.row ∙ ap (λ (us : List Unit). lookup (image_program us) (level (on_side c.args.side) c.args.class) c.args.selector) c.image.ensures)
    ∙ found-alike c.args.self.now (level (on_side c.args.side) c.args.class) c.args.selector
