use Rattle.std.proofs.Common.{sym}
use Rattle.st_loops.specs.declared.kind.LoopKind.TheVariants.{WhileTrue}
use Rattle.st_loops.specs.Kinds.{message_of}
use Rattle.st_loops.proofs.Numbered.{before, behind_at, past}
use Rattle.st_loops.proofs.kind.loop_kind.Goals as goal

pub returns-then-number-lt-FIRST : goal.returns-then-number-lt-FIRST
returns-then-number-lt-FIRST c = sym (before c.args.message c.if-number-lt-FIRST.true)

pub returns-then-place-loops : goal.returns-then-place-loops
returns-then-place-loops c = behind_at message_of c.loops-loops.result.now WhileTrue c.args.message c.loops-loops.ensures c.if-number-lt-FIRST.false c.if-place-loops.true

pub returns : goal.returns
returns c = past message_of c.loops-loops.result.now c.args.message c.loops-loops.ensures c.if-number-lt-FIRST.false c.if-place-loops.false
