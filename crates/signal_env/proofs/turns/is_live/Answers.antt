use Rattle.std.proofs.Common.{◌≤◌, length, sym, ◌∙◌, arith}
use Rattle.std.proofs.lemmas.List.{drop_all}
use Rattle.signal_env.proofs.Walked.{live_found, live_passed, live_none}
use Rattle.signal_env.proofs.turns.is_live.Goals as goal

pub returns-then-signals_at : goal.returns-then-signals_at
returns-then-signals_at c = live_found c.args.exception c.loop-place.place c.args.contexts.now.acts c.in-Some.standing c.loop-place.invariant (sym c.in-Some.is ∙ c.numbered.ensures) (sym c.if-signals_at.true ∙ c.signals_at.ensures)

pub loop-place-preserved : goal.loop-place-preserved
loop-place-preserved c = live_passed c.args.exception c.loop-place.place c.args.contexts.now.acts c.in-Some.standing c.loop-place.invariant (sym c.in-Some.is ∙ c.numbered.ensures) (sym c.if-signals_at.false ∙ c.signals_at.ensures)

pub returns : goal.returns
returns c =
    let past : length c.args.contexts.now.acts ≤ c.loop-place.place = omega (arith, c.depth-place-end.ensures, c.loop-place-test.false) in
    live_none c.args.exception c.loop-place.place c.args.contexts.now.acts c.loop-place.invariant (drop_all c.loop-place.place c.args.contexts.now.acts past)
