use Rattle.std.proofs.Common.{◌≡◌, ◌-◌, [], ◌∷◌, FitsSigned, rules, ◌∙◌, ap}
use Rattle.std.specs.Int.{w128}
use Rattle.std.proofs.Math.Facts.{to_z-of_z}
use Rattle.st_contexts.specs.Moving.{loop_aside, loop_at, loop_made}
use Rattle.st_contexts.specs.Stack.{top_env}
use Rattle.st_loops.specs.declared.state.LoopState.{LoopState}
use Rattle.st_loops.specs.States.{state_of}
use Rattle.st_machine.specs.Seen.{Seen}
use Rattle.st_sprint.specs.declared.budget.Budget.{Budget}
use Rattle.st_sprint.specs.declared.moves.Move.{Move}
use Rattle.st_sprint.specs.Moves.{visit_by}
use Rattle.st_sprint.proofs.InPlace.{applies_so, finishes_so}
use Rattle.st_sprint.proofs.Sprints.{then_run}
use Rattle.st_sprint.proofs.moving.move_on.Goals as goal

pub returns-in-Visit : goal.returns-in-Visit
returns-in-Visit g c =
    let f : FitsSigned w128 c.in-Visit.index = search rules in
    let env : c.env-env.result ≡ top_env c.args.machine.now.stack = c.env-env.ensures ∙ ap (λ (s : Seen). top_env s.stack) c.machine.view_is in
    let rest : c.after_step-left.result ≡ record { steps = c.args.budget.steps - 1 - 1; turns = c.args.budget.turns } = c.after_step-left.ensures ∙ ap (λ (b : Budget). record { steps = b.steps - 1; turns = b.turns }) c.after_step.ensures in
    then_run (applies_so c.args.budget.steps c.args.budget.turns c.args.given c.args.next c.args.machine.now c.requires.more c.requires.moves (loop_at c.in-Visit.index) c.in-Visit.block (c.in-Visit.element ∷ []) c.env-env.result c.go_to.new.machine (ap (λ (m : Move). visit_by m (state_of c.requires.moves.loop) c.args.given) c.in-Visit.is) env (rw (to_z-of_z f) at c.go_to.ensures)) (rw rest at c.apply_to.ensures)

pub returns-in-Repeat : goal.returns-in-Repeat
returns-in-Repeat g c =
    let f : FitsSigned w128 c.in-Repeat.index = search rules in
    let env : c.env-env.result ≡ top_env c.args.machine.now.stack = c.env-env.ensures ∙ ap (λ (s : Seen). top_env s.stack) c.machine.view_is in
    let rest : c.after_step-left.result ≡ record { steps = c.args.budget.steps - 1 - 1; turns = c.args.budget.turns } = c.after_step-left.ensures ∙ ap (λ (b : Budget). record { steps = b.steps - 1; turns = b.turns }) c.after_step.ensures in
    then_run (applies_so c.args.budget.steps c.args.budget.turns c.args.given c.args.next c.args.machine.now c.requires.more c.requires.moves (loop_at c.in-Repeat.index) c.in-Repeat.block [] c.env-env.result c.go_to-in-Repeat.new.machine (ap (λ (m : Move). visit_by m (state_of c.requires.moves.loop) c.args.given) c.in-Repeat.is) env (rw (to_z-of_z f) at c.go_to-in-Repeat.ensures)) (rw rest at c.apply_to-in-Repeat.ensures)

pub returns-in-Turn : goal.returns-in-Turn
returns-in-Turn g c =
    let env : c.env-env.result ≡ top_env c.args.machine.now.stack = c.env-env.ensures ∙ ap (λ (s : Seen). top_env s.stack) c.machine.view_is in
    let rest : c.after_step-left.result ≡ record { steps = c.args.budget.steps - 1 - 1; turns = c.args.budget.turns } = c.after_step-left.ensures ∙ ap (λ (b : Budget). record { steps = b.steps - 1; turns = b.turns }) c.after_step.ensures in
    then_run (applies_so c.args.budget.steps c.args.budget.turns c.args.given c.args.next c.args.machine.now c.requires.more c.requires.moves (loop_aside c.in-Turn.aside) c.in-Turn.block [] c.env-env.result c.turn.new.machine (ap (λ (m : Move). visit_by m (state_of c.requires.moves.loop) c.args.given) c.in-Turn.is) env c.turn.ensures) (rw rest at c.apply_to-in-Turn.ensures)

pub returns-in-Inject : goal.returns-in-Inject
returns-in-Inject g c =
    let f : FitsSigned w128 c.in-Inject.index = search rules in
    let env : c.env-env.result ≡ top_env c.args.machine.now.stack = c.env-env.ensures ∙ ap (λ (s : Seen). top_env s.stack) c.machine.view_is in
    let rest : c.after_step-left.result ≡ record { steps = c.args.budget.steps - 1 - 1; turns = c.args.budget.turns } = c.after_step-left.ensures ∙ ap (λ (b : Budget). record { steps = b.steps - 1; turns = b.turns }) c.after_step.ensures in
    then_run (applies_so c.args.budget.steps c.args.budget.turns c.args.given c.args.next c.args.machine.now c.requires.more c.requires.moves (λ (l : LoopState). loop_made c.args.given (loop_at c.in-Inject.index l)) c.in-Inject.block (c.args.given ∷ c.in-Inject.element ∷ []) c.env-env.result c.go_with.new.machine (ap (λ (m : Move). visit_by m (state_of c.requires.moves.loop) c.args.given) c.in-Inject.is) env (rw (to_z-of_z f) at c.go_with.ensures)) (rw rest at c.apply_to-in-Inject.ensures)

pub returns-in-Finish : goal.returns-in-Finish
returns-in-Finish g c =
    let rest : c.after_step-left.result ≡ record { steps = c.args.budget.steps - 1 - 1; turns = c.args.budget.turns } = c.after_step-left.ensures ∙ ap (λ (b : Budget). record { steps = b.steps - 1; turns = b.turns }) c.after_step.ensures in
    then_run (finishes_so c.args.budget.steps c.args.budget.turns c.args.given c.args.next c.args.machine.now c.requires.more c.requires.moves c.in-Finish.value (ap (λ (m : Move). visit_by m (state_of c.requires.moves.loop) c.args.given) c.in-Finish.is)) (rw rest at c.finish.ensures)
