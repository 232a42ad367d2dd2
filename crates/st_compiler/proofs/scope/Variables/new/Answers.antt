use Rattle.std.proofs.Common.{length, refl}
use Rattle.st_compiler.proofs.Scopes.{has-places}
use Rattle.st_compiler.proofs.scope.Variables.new.Goals as goal

pub invariant_of-result : goal.invariant_of-result
invariant_of-result c =
    has-places c.new-places.result c.note_all.new.places c.note_all-2.new.places c.args.parameters.now c.args.temporaries.now (length c.args.parameters.now) c.new-places.ensures.empty refl c.in_ok-note_all.ensures c.in_ok-note_all-2.ensures
