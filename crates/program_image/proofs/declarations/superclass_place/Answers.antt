use Rattle.std.proofs.Common.{rules, ◌≡◌, map, arith}
use Rattle.std.proofs.lemmas.List.{length-map}
use Rattle.st_code.specs.Resolved.{class_in}
use Rattle.st_code.specs.Definitions.{or_zero}
use Rattle.program_image.specs.Classes.{seen_class}
use Rattle.program_image.proofs.Places.{superclass-below}
use Rattle.program_image.proofs.declarations.superclass_place.Goals as goal

pub returns-clause-there : goal.returns-clause-there
returns-clause-there c =
    let same : c.unwrap_or.result ≡ or_zero (class_in 0 (map seen_class c.args.classes.now) c.args.name.now) = search rules in
    let count = length-map c.args.classes.now seen_class in
    let low = superclass-below (map seen_class c.args.classes.now) c.args.name.now (omega (arith, count, c.requires)) in
    omega (arith, same, count, low)
