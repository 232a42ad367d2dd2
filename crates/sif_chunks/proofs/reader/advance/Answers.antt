use Rattle.std.proofs.Common.{arith, ◌∙◌, [], ◌++◌, refl}
use Rattle.std.specs.Io.KnownBytes.{append_known}
use Rattle.sif_chunks.proofs.Moves.{moves_none, moves_moves, moves_gives}
use Rattle.sif_chunks.proofs.Leaving.{leaves_all, leaves_leaves}
use Rattle.sif_chunks.proofs.reader.advance.Goals as goal

pub loop-answer-init : goal.loop-answer-init
loop-answer-init g c = record {
  moves = ([], moves_none c.args.text.now c.args.window.now (append_known (g.S.Source.left c.args.source.now) c.args.appendix.now) c.requires);
  moved = omega arith;
  leaves = leaves_all (g.S.Source.left c.args.source.now) c.args.appendix.now;
  faults = refl;
}

pub loop-answer-preserved : goal.loop-answer-preserved
loop-answer-preserved g c =
    let before = c.loop-answer.invariant.moves in
    let now = c.in_default.ensures.turns.0 in
    record {
      moves = (before.0 ++ now.0, moves_moves c.args.text.now c.loop-answer.text c.turn.new.text c.args.window.now c.loop-answer.window c.turn.new.window (append_known (g.S.Source.left c.args.source.now) c.args.appendix.now) (append_known (g.S.Source.left c.loop-answer.source) c.loop-answer.appendix) (append_known (g.S.Source.left c.turn.new.source) c.turn.new.appendix) before.0 now.0 before.1 now.1);
      moved = omega (arith, c.in_default.ensures.moved, c.loop-answer.invariant.moved);
      leaves = leaves_leaves (g.S.Source.left c.args.source.now) (g.S.Source.left c.loop-answer.source) (g.S.Source.left c.turn.new.source) c.args.appendix.now c.loop-answer.appendix c.turn.new.appendix c.loop-answer.invariant.leaves c.in_default.ensures.leaves;
      faults = c.in_default.ensures.kept (λ e. cc) ∙ c.loop-answer.invariant.faults;
    }

pub loop-answer-smaller : goal.loop-answer-smaller
loop-answer-smaller g c = omega (arith, c.in_default.ensures.turns.1, c.in_default.ensures.turns.0.1.input)

pub returns-in-Some-clause-gives : goal.returns-in-Some-clause-gives
returns-in-Some-clause-gives g c =
    let before = c.loop-answer.invariant.moves in
    moves_gives c.in-Some.answer c.args.text.now c.loop-answer.text c.turn.new.text c.args.window.now c.loop-answer.window c.turn.new.window (append_known (g.S.Source.left c.args.source.now) c.args.appendix.now) (append_known (g.S.Source.left c.loop-answer.source) c.loop-answer.appendix) (append_known (g.S.Source.left c.turn.new.source) c.turn.new.appendix) before.0 before.1 c.in-Some.ensures.turns

pub returns-in-Some-clause-leaves : goal.returns-in-Some-clause-leaves
returns-in-Some-clause-leaves g c =
    leaves_leaves (g.S.Source.left c.args.source.now) (g.S.Source.left c.loop-answer.source) (g.S.Source.left c.turn.new.source) c.args.appendix.now c.loop-answer.appendix c.turn.new.appendix c.loop-answer.invariant.leaves c.in-Some.ensures.leaves
