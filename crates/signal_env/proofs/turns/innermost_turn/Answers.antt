use Rattle.std.proofs.Common.{◌≤◌, length, sym, ◌∙◌, arith}
use Rattle.std.proofs.lemmas.List.{drop_all}
use Rattle.signal_env.proofs.Walked.{turn_found, turn_passed, turn_none}
use Rattle.signal_env.proofs.turns.innermost_turn.Goals as goal

pub returns-in-Some-turn_at : goal.returns-in-Some-turn_at
returns-in-Some-turn_at c = turn_found c.args.exception c.loop-place.place c.args.contexts.now.acts c.in-Some.standing c.in-Some-turn_at.found c.loop-place.invariant (sym c.in-Some.is ∙ c.numbered.ensures) (sym c.in-Some-turn_at.is ∙ c.turn_at.ensures)

pub loop-place-preserved : goal.loop-place-preserved
loop-place-preserved c = turn_passed c.args.exception c.loop-place.place c.args.contexts.now.acts c.in-Some.standing c.loop-place.invariant (sym c.in-Some.is ∙ c.numbered.ensures) (sym c.in_default-turn_at.is ∙ c.turn_at.ensures)

pub returns : goal.returns
returns c =
    let past : length c.args.contexts.now.acts ≤ c.loop-place.place = omega (arith, c.depth-place-end.ensures, c.loop-place-test.false) in
    turn_none c.args.exception c.loop-place.place c.args.contexts.now.acts c.loop-place.invariant (drop_all c.loop-place.place c.args.contexts.now.acts past)
