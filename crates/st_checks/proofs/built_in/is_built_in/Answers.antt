use Rattle.std.proofs.Common.{◌∙◌, ap, is_some}
use Rattle.std.specs.Str.{bytes_eq}
use Rattle.st_base.specs.BuiltIns.{classes}
use Rattle.st_checks.specs.Declarations.{built_in_number, is_built_in}
use Rattle.st_checks.proofs.Places.{first_place-some}
use Rattle.st_checks.proofs.built_in.is_built_in.Goals as goal

pub returns : goal.returns
unfolding built_in_number is_built_in
returns c = c.is_some.ensures ∙ ap is_some c.built_in_number.ensures ∙ first_place-some (λ x. bytes_eq c.args.name.now x.name) classes
