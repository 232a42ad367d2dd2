use Rattle.std.proofs.Common.{sym, ◌∙◌, ap, Bool}
use Rattle.st_loops.specs.Counts.{while_given}
use Rattle.st_loops.specs.States.{state_of}
use Rattle.st_sprint.proofs.MoveKinds.{while_true_moves, while_false_moves, times_moves, to_moves, to_by_moves, do_moves, inject_moves}
use Rattle.st_sprint.proofs.moves.move_of.Goals as goal

pub returns-in-WhileTrue : goal.returns-in-WhileTrue
returns-in-WhileTrue g c = rw (← c.machine.view_is) (while_true_moves c.args.state.now c.args.given _ (sym c.is_measured.ensures.test ∙ c.if-not-is_measured.false) c.while_move.result c.in-WhileTrue.is (c.while_move.ensures c.args.given ∙ ap (λ (b : Bool). while_given (state_of c.args.state.now) b) c.is_true.ensures))

pub returns-in-WhileFalse : goal.returns-in-WhileFalse
returns-in-WhileFalse g c = rw (← c.machine.view_is) (while_false_moves c.args.state.now c.args.given _ (sym c.is_measured.ensures.test ∙ c.if-not-is_measured.false) c.while_move-in-WhileFalse.result c.in-WhileFalse.is (c.while_move-in-WhileFalse.ensures c.args.given ∙ ap (λ (b : Bool). while_given (state_of c.args.state.now) b) c.is_false.ensures))

pub returns-in-TimesRepeat : goal.returns-in-TimesRepeat
returns-in-TimesRepeat g c = rw (← c.machine.view_is) (times_moves c.args.state.now c.args.given _ (sym c.is_measured.ensures.test ∙ c.if-not-is_measured.false) c.times_move.result c.in-TimesRepeat.is c.times_move.ensures)

pub returns-in-ToDo : goal.returns-in-ToDo
returns-in-ToDo g c = rw (← c.machine.view_is) (to_moves c.args.state.now c.args.given _ (sym c.is_measured.ensures.test ∙ c.if-not-is_measured.false) c.to_move.result c.in-ToDo.is c.to_move.ensures)

pub returns-in-ToByDo : goal.returns-in-ToByDo
returns-in-ToByDo g c = rw (← c.machine.view_is) (to_by_moves c.args.state.now c.args.given _ (sym c.is_measured.ensures.test ∙ c.if-not-is_measured.false) c.to_by_move.result c.in-ToByDo.is c.to_by_move.ensures)

pub returns-in-Do : goal.returns-in-Do
returns-in-Do g c = rw (← c.machine.view_is) (do_moves c.args.state.now c.args.given _ (sym c.is_measured.ensures.test ∙ c.if-not-is_measured.false) c.do_move.result c.in-Do.is c.do_move.ensures)

pub returns-in-InjectInto : goal.returns-in-InjectInto
returns-in-InjectInto g c = rw (← c.machine.view_is) (inject_moves c.args.state.now c.args.given _ (sym c.is_measured.ensures.test ∙ c.if-not-is_measured.false) c.inject_move.result c.in-InjectInto.is c.inject_move.ensures)
