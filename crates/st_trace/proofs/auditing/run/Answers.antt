-- Each turn leads on from where those before it led.
use Rattle.std.proofs.Common.{◌∙◌}
use Rattle.st_trace.proofs.Opening.{moves_moves, moves_answers}
use Rattle.st_trace.proofs.auditing.run.Goals as goal

pub returns-in-Some-clause-answers : goal.returns-in-Some-clause-answers
returns-in-Some-clause-answers g c =
    moves_answers c.args.audit.now c.loop-answer.audit c.turn.new.audit (g.S.Source.left c.args.source.now) (g.S.Source.left c.loop-answer.source) (g.S.Source.left c.turn.new.source) c.in-Some.answer c.loop-answer.invariant.leads c.in-Some.ensures.turns

pub loop-answer-preserved : goal.loop-answer-preserved
loop-answer-preserved g c = record {
  leads = moves_moves c.args.audit.now c.loop-answer.audit c.turn.new.audit (g.S.Source.left c.args.source.now) (g.S.Source.left c.loop-answer.source) (g.S.Source.left c.turn.new.source) c.loop-answer.invariant.leads c.in_default.ensures.turns.0;
  sound = c.in_default.ensures.cause ∙ c.loop-answer.invariant.sound;
  buffer = c.in_default.ensures.buffer;
}
