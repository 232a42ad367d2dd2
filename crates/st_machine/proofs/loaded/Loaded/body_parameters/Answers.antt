use Rattle.std.proofs.Common.{List, slice_get, ap, ◌∙◌}
use Rattle.st_code.specs.Compiled.{Compiled, seen_code}
use Rattle.program_image.specs.Finding.{program_of_image}
use Rattle.st_machine.specs.Plans.{limits_of, program_from}
use Rattle.st_machine.proofs.Codes.{body-some, body-none}
use Rattle.st_machine.proofs.loaded.Loaded.body_parameters.Goals as goal

pub returns-in-Some : goal.returns-in-Some
unfolding program_of_image
returns-in-Some c =
    rw (← c.self.view_is)
    (body-some (program_from c.self.inside.program c.self.inside.limits) c.args.code (seen_code c.in-Some.code.now) (c.in-Some.ensures ∙ ap (λ (cs : List Compiled). slice_get cs c.args.code) (c.codes.ensures (limits_of c.self.inside.limits))))

pub returns-in-None : goal.returns-in-None
unfolding program_of_image
returns-in-None c =
    rw (← c.self.view_is)
    (body-none (program_from c.self.inside.program c.self.inside.limits) c.args.code (c.in-None.ensures ∙ ap (λ (cs : List Compiled). slice_get cs c.args.code) (c.codes.ensures (limits_of c.self.inside.limits))))
