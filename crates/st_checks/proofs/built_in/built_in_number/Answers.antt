use Rattle.std.proofs.Common.{◌∙◌, sym, ap}
use Rattle.std.specs.Str.{bytes_eq}
use Rattle.st_base.specs.BuiltIns.{class_row}
use Rattle.st_checks.specs.Declarations.{built_in_number, first_place}
use Rattle.st_checks.proofs.Places.{first_place-map}
use Rattle.st_checks.proofs.built_in.built_in_number.Goals as goal

pub returns : goal.returns
unfolding built_in_number
returns c = c.number_among.ensures ∙ sym (first_place-map class_row (λ x. bytes_eq c.args.name.now x.name) c.built_in_classes.result.now) ∙ ap (first_place (λ x. bytes_eq c.args.name.now x.name)) c.built_in_classes.ensures
