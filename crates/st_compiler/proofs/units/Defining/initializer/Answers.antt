use Rattle.st_code.specs.Written.{named_body}
use Rattle.program_image.specs.Images.{image_names}
use Rattle.st_compiler.specs.Around.{side_of}
use Rattle.st_compiler.proofs.Defined.{initializer-made}
use Rattle.st_compiler.proofs.units.Defining.initializer.Goals as goal

pub returns-clause-holds : goal.returns-clause-holds
returns-clause-holds c d holds =
    initializer-made (image_names c.args.self.now.lookups.now) c.args.class (side_of c.args.side) c.args.receiver c.args.target (named_body c.args.body.now) d c.args.self.now c.top.new.self c.in_ok-code.code c.push.new.self
    holds c.in_ok-code.ensures.made c.in_ok-code.ensures.code c.in_ok-push.ensures.ok
