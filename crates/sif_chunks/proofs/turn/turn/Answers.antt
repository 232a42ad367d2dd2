-- Each way out of a turn.
use Rattle.std.proofs.Common.{◌∙◌, [], ◌≤◌, length, sym}
use Rattle.std.specs.Io.KnownBytes.{append_known}
use Rattle.sif_chunks.specs.Step.{Steps}
use Rattle.sif_chunks.specs.Window.{Held}
use Rattle.sif_chunks.specs.declared.step.Step.TheVariants.{Doubled, Separator, TooLong as TooLongStep, More}
use Rattle.sif_chunks.specs.declared.next.Next.TheVariants.{InputTooLong, ReadFault}
use Rattle.sif_chunks.proofs.Moves.{moves_moves, moves_gives, end_gives}
use Rattle.sif_chunks.proofs.Turned.{passed, after_doubled, after_white, after_more, after_element, after_too_long, after_bytes, after_beyond, after_fault, further, further_bytes}
use Rattle.sif_chunks.proofs.Leaving.{leaves_all}
use Rattle.sif_chunks.proofs.turn.turn.Goals as goal

pub returns-in-Doubled-clause-turns : goal.returns-in-Doubled-clause-turns
returns-in-Doubled-clause-turns g c =
    let steps : Steps c.args.text.now c.args.window.now.pending c.go_on-count.result.0 Doubled c.go_on-count.new.text = rw (c.in-Doubled.is, c.bytes.ensures.bytes) at c.go_on-count.ensures in
    let counted : length c.args.window.now.pending ≤ c.args.window.now.taken = rw c.bytes.ensures.bytes at c.bytes.ensures.counted in
    rw c.pass.ensures (
      ([], after_doubled c.args.text.now c.go_on-count.new.text c.args.window.now c.go_on-count.result.0 (append_known (g.S.Source.left c.args.source.now) c.args.appendix.now) c.requires steps),
      further c.args.window.now c.go_on-count.result.0 counted steps.within steps.cases.1,
    )

pub returns-in-TooLong-clause-turns : goal.returns-in-TooLong-clause-turns
returns-in-TooLong-clause-turns g c =
    let steps : Steps c.args.text.now c.args.window.now.pending c.go_on-count.result.0 TooLongStep c.go_on-count.new.text = rw (c.in-TooLong.is, c.bytes.ensures.bytes) at c.go_on-count.ensures in
    rw c.pass.ensures (after_too_long c.args.text.now c.go_on-count.new.text c.args.window.now c.go_on-count.result.0 (append_known (g.S.Source.left c.args.source.now) c.args.appendix.now) c.requires steps)

pub returns-then-not-is_white-clause-turns : goal.returns-then-not-is_white-clause-turns
returns-then-not-is_white-clause-turns g c =
    let steps : Steps c.args.text.now c.args.window.now.pending c.go_on-count.result.0 Separator c.go_on-count.new.text = rw (c.in-Separator.is, c.bytes.ensures.bytes) at c.go_on-count.ensures in
    rw c.pass.ensures (after_element c.args.text.now c.go_on-count.new.text c.args.window.now c.go_on-count.result.0 (append_known (g.S.Source.left c.args.source.now) c.args.appendix.now) c.requires steps (sym c.is_white.ensures ∙ c.if-not-is_white.true))

pub returns-else-not-is_white-clause-turns : goal.returns-else-not-is_white-clause-turns
returns-else-not-is_white-clause-turns g c =
    let steps : Steps c.args.text.now c.args.window.now.pending c.go_on-count.result.0 Separator c.go_on-count.new.text = rw (c.in-Separator.is, c.bytes.ensures.bytes) at c.go_on-count.ensures in
    let counted : length c.args.window.now.pending ≤ c.args.window.now.taken = rw c.bytes.ensures.bytes at c.bytes.ensures.counted in
    rw (c.pass.ensures, c.clear.ensures) (
      ([], after_white c.args.text.now c.go_on-count.new.text c.args.window.now c.go_on-count.result.0 (append_known (g.S.Source.left c.args.source.now) c.args.appendix.now) c.requires steps (sym c.is_white.ensures ∙ c.if-not-is_white.false)),
      further c.args.window.now c.go_on-count.result.0 counted steps.within steps.cases.1,
    )

pub returns-in-Some-clause-turns : goal.returns-in-Some-clause-turns
returns-in-Some-clause-turns g c =
    let steps : Steps c.args.text.now c.args.window.now.pending c.go_on-count.result.0 More c.go_on-count.new.text = rw (c.in-More.is, c.bytes.ensures.bytes) at c.go_on-count.ensures in
    let counted : length c.args.window.now.pending ≤ c.args.window.now.taken = rw c.bytes.ensures.bytes at c.bytes.ensures.counted in
    let rest : Held = passed c.args.window.now c.go_on-count.result.0 in
    let came = rw c.pass.ensures at c.in-Some.ensures.bytes in
    let left = append_known (g.S.Source.left c.args.source.now) c.args.appendix.now in
    let now = append_known (g.S.Source.left c.refill.new.source) c.refill.new.appendix in (
      (
        came.0.0,
        moves_moves c.args.text.now c.go_on-count.new.text c.go_on-count.new.text c.args.window.now rest c.refill.new.self left left now [] came.0.0
            (after_more c.args.text.now c.go_on-count.new.text c.args.window.now c.go_on-count.result.0 left c.requires steps)
            (after_bytes c.go_on-count.new.text rest c.refill.new.self left now came.0.0 came.1 came.0.1),
      ),
      further_bytes c.args.window.now c.refill.new.self left now c.go_on-count.result.0 came.0.0 counted steps.within came.0.1,
    )

pub returns-in-End-clause-turns : goal.returns-in-End-clause-turns
returns-in-End-clause-turns g c =
    let steps : Steps c.args.text.now c.args.window.now.pending c.go_on-count.result.0 More c.go_on-count.new.text = rw (c.in-More.is, c.bytes.ensures.bytes) at c.go_on-count.ensures in
    let rest : Held = passed c.args.window.now c.go_on-count.result.0 in
    let none = c.in-End.ensures.bytes in
    let left = append_known (g.S.Source.left c.args.source.now) c.args.appendix.now in
    let now = append_known (g.S.Source.left c.refill.new.source) c.refill.new.appendix in
    moves_gives c.finish.result c.args.text.now c.go_on-count.new.text c.finish.new.text c.args.window.now rest c.finish.new.window left left now []
    (after_more c.args.text.now c.go_on-count.new.text c.args.window.now c.go_on-count.result.0 left c.requires steps)
    (end_gives c.finish.result c.go_on-count.new.text c.finish.new.text rest c.finish.new.window left now none.1 none.2 (rw (none.0, c.pass.ensures) at c.finish.ensures))

pub returns-in-Beyond-clause-turns : goal.returns-in-Beyond-clause-turns
returns-in-Beyond-clause-turns g c =
    let steps : Steps c.args.text.now c.args.window.now.pending c.go_on-count.result.0 More c.go_on-count.new.text = rw (c.in-More.is, c.bytes.ensures.bytes) at c.go_on-count.ensures in
    let rest : Held = passed c.args.window.now c.go_on-count.result.0 in
    let came = rw c.pass.ensures at c.in-Beyond.ensures.bytes in
    let left = append_known (g.S.Source.left c.args.source.now) c.args.appendix.now in
    let now = append_known (g.S.Source.left c.refill.new.source) c.refill.new.appendix in
    moves_gives InputTooLong c.args.text.now c.go_on-count.new.text c.go_on-count.new.text c.args.window.now rest c.refill.new.self left left now []
    (after_more c.args.text.now c.go_on-count.new.text c.args.window.now c.go_on-count.result.0 left c.requires steps)
    (after_beyond c.go_on-count.new.text rest c.refill.new.self left now came.0.0 came.1 steps.short steps.cases.1 came.0.1)

pub returns-in-Failed-clause-turns : goal.returns-in-Failed-clause-turns
returns-in-Failed-clause-turns g c =
    let steps : Steps c.args.text.now c.args.window.now.pending c.go_on-count.result.0 More c.go_on-count.new.text = rw (c.in-More.is, c.bytes.ensures.bytes) at c.go_on-count.ensures in
    let rest : Held = passed c.args.window.now c.go_on-count.result.0 in
    let none = rw c.pass.ensures at c.in-Failed.ensures.bytes in
    let left = append_known (g.S.Source.left c.args.source.now) c.args.appendix.now in
    let now = append_known (g.S.Source.left c.refill.new.source) c.refill.new.appendix in
    moves_gives ReadFault c.args.text.now c.go_on-count.new.text c.go_on-count.new.text c.args.window.now rest c.refill.new.self left left now []
    (after_more c.args.text.now c.go_on-count.new.text c.args.window.now c.go_on-count.result.0 left c.requires steps)
    (after_fault c.go_on-count.new.text rest c.refill.new.self left now none.0 none.1 steps.short steps.cases.1)

pub returns-in-Doubled-clause-leaves : goal.returns-in-Doubled-clause-leaves
returns-in-Doubled-clause-leaves g c = leaves_all (g.S.Source.left c.args.source.now) c.args.appendix.now

pub returns-in-TooLong-clause-leaves : goal.returns-in-TooLong-clause-leaves
returns-in-TooLong-clause-leaves g c = leaves_all (g.S.Source.left c.args.source.now) c.args.appendix.now

pub returns-then-not-is_white-clause-leaves : goal.returns-then-not-is_white-clause-leaves
returns-then-not-is_white-clause-leaves g c = leaves_all (g.S.Source.left c.args.source.now) c.args.appendix.now

pub returns-else-not-is_white-clause-leaves : goal.returns-else-not-is_white-clause-leaves
returns-else-not-is_white-clause-leaves g c = leaves_all (g.S.Source.left c.args.source.now) c.args.appendix.now
