use Rattle.st_compiler.proofs.Chains.{direct-then, direct-else}
use Rattle.st_compiler.proofs.walk.is_direct.Goals as goal

pub returns-then-is_super : goal.returns-then-is_super
returns-then-is_super c = direct-then c.args.operand.now c.len.result c.len.ensures c.if-is_super.ensures

pub returns-else-is_super : goal.returns-else-is_super
returns-else-is_super c = direct-else c.args.operand.now c.is_super.result c.is_super.ensures c.if-is_super.false
