use Rattle.std.proofs.Common.{List, ap, ◌∙◌}
use Rattle.st_tree.specs.declared.units.Unit.{Unit}
use Rattle.st_code.specs.Resolved.{place_in}
use Rattle.program_image.specs.Images.{image_names}
use Rattle.st_compiler.specs.Around.{seen_key}
use Rattle.st_compiler.proofs.Shared.{get-key}
use Rattle.st_compiler.proofs.lookup.Lookups.shared_place.Goals as goal

pub returns : goal.returns
returns c =
    c.copied.ensures ∙ c.get.ensures.value ∙ get-key c.self.inside.places c.args.key ∙ c.self.invariant.0.each c.args.key
    ∙ ap (λ (units : List Unit). place_in 0 (image_names units).shared (seen_key c.args.key)) c.self.view_is
