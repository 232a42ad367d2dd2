use Rattle.std.proofs.Common.{◌∙◌, Option, ap, sym}
use Rattle.std.specs.Option.{option_map}
use Rattle.st_code.specs.BuiltIns.{numbered_row}
use Rattle.st_loops.specs.Kinds.{message_of}
use Rattle.st_loops.specs.declared.kind.LoopKind.{LoopKind}
use Rattle.st_messages.proofs.RowLaws.{loop-is, row_below, row_past}
use Rattle.st_messages.proofs.table.row_of.Goals as goal

pub returns-in-Some : goal.returns-in-Some
returns-in-Some c = loop-is (numbered_row c.args.message) (message_of c.in-Some.kind) (ap (λ (o : Option LoopKind). option_map message_of o) (sym c.in-Some.is) ∙ c.loop_kind.ensures)

pub returns-then-message-rows : goal.returns-then-message-rows
returns-then-message-rows c = row_past c.rows-rows.result.now c.args.message c.rows-rows.ensures c.if-message-rows.true (ap (λ (o : Option LoopKind). option_map message_of o) (sym c.in_default.is) ∙ c.loop_kind.ensures)

pub returns : goal.returns
returns c = row_below c.rows-rows.result.now c.args.message _ c.rows-rows.ensures c.if-message-rows.false
