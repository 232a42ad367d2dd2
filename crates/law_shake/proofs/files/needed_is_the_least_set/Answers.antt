use Rattle.std.proofs.Common.{◌++◌}
use Rattle.st_shake.specs.Needed.{always_needed, methods_of, texts_of}
use Rattle.st_shake.proofs.Closing.{closure_is_least}
use Rattle.law_shake.proofs.files.needed_is_the_least_set.Goals as goal

pub returns : goal.returns
returns c = λ units. closure_is_least (methods_of units) (always_needed ++ texts_of units)
