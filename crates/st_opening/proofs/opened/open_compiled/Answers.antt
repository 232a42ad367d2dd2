use Rattle.std.proofs.Common.{◌≡◌, true, IfOk, refl, ap, sym, ◌∙◌, subst}
use Rattle.object_heap.specs.Charges.{Memory}
use Rattle.program_image.specs.Finding.{program_of_image}
use Rattle.st_code.specs.Compiled.{compile_of}
use Rattle.st_literals.specs.Numbered.{first_memory}
use Rattle.st_machine.specs.Plans.{limits_of, plan_of, program_from}
use Rattle.st_machine.specs.Steps.{first_seen}
use Rattle.st_opening.specs.Opened.{are_few, HaveFew}
use Rattle.st_opening.proofs.Counts.{have-few, if-any}
use Rattle.st_opening.proofs.opened.open_compiled.Goals as goal

pub returns-clause-opened : goal.returns-clause-opened
unfolding program_of_image
returns-clause-opened c =
    let memory : c.in-Ok.heap.memory ≡ first_memory (program_from c.args.program c.args.limits) =
    c.in-Ok.ensures (limits_of c.args.limits) refl ∙ ap (λ us. first_memory (program_of_image us (limits_of c.args.limits))) c.image.ensures in
    subst (λ (m : Memory). IfOk c.open_over.result (λ machine. machine ≡ first_seen (plan_of c.args.program c.args.limits) m)) memory c.open_over.ensures.opened

pub returns-clause-few : goal.returns-clause-few
unfolding program_of_image
returns-clause-few c =
    let few : are_few (compile_of (program_from c.args.program c.args.limits)) ≡ true = sym (ap are_few (c.codes.ensures (limits_of c.args.limits))) ∙ sym c.are_few.ensures ∙ c.if-not-are_few.false in
    if-any c.open_over.result (HaveFew (compile_of (program_from c.args.program c.args.limits))) (have-few (compile_of (program_from c.args.program c.args.limits)) few)
