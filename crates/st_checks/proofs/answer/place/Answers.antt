use Rattle.std.proofs.Common.{◌+◌, ◌^◌, ◌<◌, arith}
use Rattle.st_tree.specs.Numbers.{element_of}
use Rattle.st_checks.proofs.FirstBreaks.{element_fits}
use Rattle.st_checks.proofs.answer.place.Goals as goal

pub overflow_add-result : goal.overflow_add-result
overflow_add-result c =
    let fits : element_of c.args.definition.now.units c.args.fault.unit + 1 < 2 ^ 32 = element_fits c.args.definition.now.units c.args.fault.unit c.requires.there c.requires.few in
    omega arith
