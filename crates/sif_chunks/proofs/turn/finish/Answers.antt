use Rattle.std.proofs.Common.{◌∙◌, sym}
use Rattle.sif_chunks.proofs.Turned.{ends-white, ends-unfinished, ends-element, none_left, some_left}
use Rattle.sif_chunks.proofs.turn.finish.Goals as goal

pub returns-then-is_white : goal.returns-then-is_white
returns-then-is_white c = ends-white c.args.text.now c.args.window.now c.clear.new.self c.clear.ensures c.requires.spent c.requires.short (sym c.is_white.ensures ∙ c.if-is_white.true)

pub returns-then-is_empty : goal.returns-then-is_empty
returns-then-is_empty c =
    ends-unfinished c.args.text.now c.args.window.now (none_left c.args.window.now.pending (rw (← c.bytes.ensures.bytes) (sym c.is_empty.ensures ∙ c.if-is_empty.true))) c.requires.short (sym c.is_white.ensures ∙ c.if-is_white.false)

pub returns : goal.returns
returns c =
    rw c.pass.ensures (ends-element c.args.text.now c.args.window.now c.requires.spent (some_left c.args.window.now.pending (rw (← c.bytes.ensures.bytes) (sym c.is_empty.ensures ∙ c.if-is_empty.false))) c.requires.short (sym c.is_white.ensures ∙ c.if-is_white.false))
