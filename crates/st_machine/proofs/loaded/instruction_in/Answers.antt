use Rattle.std.proofs.Common.{◌<◌, ◌≤◌, length, arith}
use Rattle.st_machine.proofs.Codes.{instruction-here, instruction-past}
use Rattle.st_machine.proofs.loaded.instruction_in.Goals as goal

pub returns-then-position-len : goal.returns-then-position-len
returns-then-position-len c =
    let low : c.args.position < length c.args.code.now.instructions.items = omega (arith, c.len.ensures, c.args.code.now.instructions.ok.0, c.if-position-len.true) in
    instruction-here c.args.code.now.instructions.items c.args.position c.index.result.now low c.index.ensures

pub returns : goal.returns
returns c =
    let past : length c.args.code.now.instructions.items ≤ c.args.position = omega (arith, c.len.ensures, c.args.code.now.instructions.ok.0, c.if-position-len.false) in
    instruction-past c.args.code.now.instructions.items c.args.position past
