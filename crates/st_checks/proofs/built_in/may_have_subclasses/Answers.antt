use Rattle.st_checks.specs.Declarations.{superclasses}
use Rattle.st_checks.proofs.built_in.may_have_subclasses.Goals as goal

pub returns : goal.returns
unfolding superclasses
returns c = c.is_among.ensures
