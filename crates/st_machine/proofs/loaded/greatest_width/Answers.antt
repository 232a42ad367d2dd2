use Rattle.std.proofs.Common.{map, ◌∙◌, arith}
use Rattle.st_code.specs.Compiled.{seen_code}
use Rattle.st_machine.proofs.Codes.{at_least, width_end}
use Rattle.st_machine.proofs.loaded.greatest_width.Goals as goal

pub loop-code-init : goal.loop-code-init
loop-code-init c =
    let least = at_least (map seen_code c.args.codes.now) in
    record { same = omega (arith, least); least = omega arith }

pub returns : goal.returns
returns c = width_end c.args.codes.now c.loop-code.code-index c.loop-code.greatest c.loop-code-test.false c.loop-code.invariant.least ∙ c.loop-code.invariant.same
