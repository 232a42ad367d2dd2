use Rattle.std.proofs.Common.{Option, ap, ◌∙◌}
use Rattle.std.specs.Option.{option_map}
use Rattle.program_image.specs.declared.table.Found.{Found}
use Rattle.program_image.specs.Images.{as_row}
use Rattle.program_image.proofs.Lookups.{lookup-same}
use Rattle.program_image.proofs.image.Image.lookup.Goals as goal

pub returns-clause-row : goal.returns-clause-row
returns-clause-row c = ap (λ (o : Option Found). option_map as_row o) c.found_on_walk.ensures ∙ lookup-same c.args.self.now c.args.side c.args.class c.args.selector
