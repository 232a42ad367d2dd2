use Rattle.st_code.specs.Written.{named_units}
use Rattle.st_shake.specs.Needed.{always_needed, methods_of, texts_of}
use Rattle.st_shake.proofs.Visiting.{least_of}
use Rattle.st_shake.proofs.needed.needed.Goals as goal

pub returns : goal.returns
returns c =
    least_of c.in_ok-methods.methods (methods_of (named_units c.args.units.now)) always_needed (texts_of (named_units c.args.units.now)) c.new-names.result c.need_always.new.names c.need_initializers.new.names c.take_in.new.names c.in_ok-methods.ensures c.new-names.ensures c.in_ok-need_always.ensures c.in_ok-need_initializers.ensures c.in_ok-take_in.ensures
