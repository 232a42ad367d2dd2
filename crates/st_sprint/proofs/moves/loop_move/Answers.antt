use Rattle.std.proofs.Common.{◌≡◌, Some, sym, ◌∙◌, ap}
use Rattle.st_contexts.specs.Moving.{loop_of}
use Rattle.st_machine.specs.Seen.{Seen}
use Rattle.st_sprint.proofs.MoveKinds.{innermost_moves}
use Rattle.st_sprint.proofs.moves.loop_move.Goals as goal

pub returns-in-Some : goal.returns-in-Some
returns-in-Some g c =
    let stands : loop_of c.args.machine.now.stack ≡ Some c.in-Some.state.now = ap (λ (s : Seen). loop_of s.stack) (sym c.machine.view_is) ∙ sym c.in-Some.ensures in
    innermost_moves c.move_of.result c.in-Some.state.now c.args.given c.args.machine.now stands c.move_of.ensures
