use Rattle.std.proofs.Common.{refl}
use Rattle.std.specs.Prelude.{is_some}
use Rattle.st_messages.specs.Sent.{is_ready}
use Rattle.st_messages.proofs.Sound.{here_built_in, here_user}
use Rattle.st_messages.proofs.dispatch.found_message.Goals as goal

pub returns-in-None-clause-here : goal.returns-in-None-clause-here
unfolding is_ready
returns-in-None-clause-here g c = rw c.in-None.is refl

pub returns-in-Some-User-clause-here : goal.returns-in-Some-User-clause-here
returns-in-Some-User-clause-here g c = here_user (g.H.Heap.meaning c.args.heap.now).store c.args.found c.in-Some-User.field-0 c.in-Some-User.code c.args.receiver c.args.arguments.now c.in-Some-User.is (rw c.in-Some-User.is at c.in-Some-User.field-0-is)

pub returns-in-Some-BuiltIn-clause-here : goal.returns-in-Some-BuiltIn-clause-here
returns-in-Some-BuiltIn-clause-here g c = here_built_in (g.H.Heap.meaning c.args.heap.now).store c.args.found c.in-Some-BuiltIn.field-0 c.in-Some-BuiltIn.message c.args.receiver c.args.arguments.now (is_some c.built_in_message.result) c.in-Some-BuiltIn.is (rw c.in-Some-BuiltIn.is at c.in-Some-BuiltIn.field-0-is) c.built_in_message.ensures.here
