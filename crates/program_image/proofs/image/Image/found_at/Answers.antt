use Rattle.std.proofs.Common.{List, ap, ◌∙◌}
use Rattle.st_tree.specs.declared.units.Unit.{Unit}
use Rattle.program_image.specs.Tables.{first_found}
use Rattle.program_image.specs.Images.{image_names, entries_with, key_at}
use Rattle.program_image.proofs.Entries.{entry-found}
use Rattle.program_image.proofs.image.Image.found_at.Goals as goal

pub returns : goal.returns
returns c =
    c.find.ensures ∙ c.self.invariant.firsts.same (key_at c.args.selector c.args.side c.args.class)
    ∙ ap (λ (us : List Unit). first_found (entries_with (image_names us) us) (key_at c.args.selector c.args.side c.args.class)) c.self.view_is
    ∙ entry-found c.args.self.now c.args.selector c.args.side c.args.class
