-- Each step leads on from where those before it led.
use Rattle.std.proofs.Common.{◌≡◌, ◌+◌, ◌-◌, None, Some, length, take, drop, arith, subst, ap, ◌∙◌}
use Rattle.std.proofs.lemmas.List.{length-drop}
use Rattle.st_trace.specs.Opened.{Judges}
use Rattle.st_trace.proofs.Finding.{take_rest}
use Rattle.st_trace.proofs.Opening.{judges_more, judges_on}
use Rattle.st_trace.proofs.auditing.judge.Goals as goal

pub returns-in-Some-clause-judges : goal.returns-in-Some-clause-judges
returns-in-Some-clause-judges c =
    let step : Judges c.loop-at.audit (take c.judge_some-step.result.count (take (length c.args.bytes.now - c.loop-at.at) (drop c.loop-at.at c.args.bytes.now))) (Some c.in-Some.answer) c.judge_some-step.new.audit = subst (λ o. Judges c.loop-at.audit (take c.judge_some-step.result.count (take (length c.args.bytes.now - c.loop-at.at) (drop c.loop-at.at c.args.bytes.now))) o c.judge_some-step.new.audit) c.in-Some.is c.judge_some-step.ensures.judges in
    judges_on c.args.audit.now c.judge_some-step.new.audit c.args.bytes.now (c.loop-at.at + c.judge_some-step.result.count) c.in-Some.answer
    (judges_more c.args.audit.now c.loop-at.audit c.judge_some-step.new.audit c.args.bytes.now c.loop-at.at c.judge_some-step.result.count (Some c.in-Some.answer) c.loop-at.invariant.leads step)

pub loop-at-preserved : goal.loop-at-preserved
loop-at-preserved c =
    let step : Judges c.loop-at.audit (take c.judge_some-step.result.count (take (length c.args.bytes.now - c.loop-at.at) (drop c.loop-at.at c.args.bytes.now))) None c.judge_some-step.new.audit = subst (λ o. Judges c.loop-at.audit (take c.judge_some-step.result.count (take (length c.args.bytes.now - c.loop-at.at) (drop c.loop-at.at c.args.bytes.now))) o c.judge_some-step.new.audit) c.in_default.is c.judge_some-step.ensures.judges in
    let room : c.judge_some-step.new.audit.room + c.judge_some-step.result.count ≡ c.loop-at.audit.room = c.judge_some-step.ensures.room c.in_default.is in
    let rest : length (take (length c.args.bytes.now - c.loop-at.at) (drop c.loop-at.at c.args.bytes.now)) ≡ length c.args.bytes.now - c.loop-at.at = ap length (take_rest c.args.bytes.now c.loop-at.at) ∙ length-drop c.loop-at.at c.args.bytes.now in
    record {
      within = omega (arith, c.judge_some-step.ensures.within, rest, c.loop-at.invariant.within);
      leads = judges_more c.args.audit.now c.loop-at.audit c.judge_some-step.new.audit c.args.bytes.now c.loop-at.at c.judge_some-step.result.count None c.loop-at.invariant.leads step;
      room = omega (arith, room, c.loop-at.invariant.room);
    }
