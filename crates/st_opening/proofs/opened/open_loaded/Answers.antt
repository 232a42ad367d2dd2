use Rattle.std.proofs.Common.{◌≡◌, true, ap, sym, ◌∙◌}
use Rattle.st_machine.specs.Plans.{program_in}
use Rattle.st_opening.specs.Opened.{are_counted, HasRoom}
use Rattle.st_opening.proofs.Counts.{has-room, if-any}
use Rattle.st_opening.proofs.opened.open_loaded.Goals as goal

pub returns-clause-room : goal.returns-clause-room
returns-clause-room c =
    let counted : are_counted (program_in c.args.loaded).names ≡ true = sym (ap are_counted c.names.ensures) ∙ sym c.are_counted.ensures ∙ c.if-not-are_counted.false in
    if-any c.open.result (HasRoom c.args.loaded) (has-room c.args.loaded counted)
