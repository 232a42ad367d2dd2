use Rattle.std.proofs.Common.{◌≡◌, List, true, map, slice_get, ap, sym, ◌∙◌}
use Rattle.st_code.specs.Compiled.{Compiled, seen_code}
use Rattle.program_image.specs.Finding.{program_of_image}
use Rattle.st_machine.specs.Seen.{Plan}
use Rattle.st_machine.specs.Plans.{limits_of, are_short}
use Rattle.st_machine.proofs.Codes.{if-short}
use Rattle.st_machine.proofs.loaded.Loaded.code.Goals as goal

pub returns-clause-code : goal.returns-clause-code
unfolding program_of_image
returns-clause-code c =
    let are : map seen_code c.codes.result.now ≡ c.args.self.now.codes = rw (← c.self.view_is) (c.codes.ensures (limits_of c.self.inside.limits)) in
    c.code_in.ensures ∙ ap (λ (cs : List Compiled). slice_get cs c.args.code) are

pub returns-clause-short : goal.returns-clause-short
unfolding program_of_image
returns-clause-short c =
    let are : map seen_code c.codes.result.now ≡ c.args.self.now.codes = rw (← c.self.view_is) (c.codes.ensures (limits_of c.self.inside.limits)) in
    let short : are_short c.args.self.now.codes ≡ true = sym (ap (λ (p : Plan). are_short p.codes) c.self.view_is) ∙ c.self.invariant.0.short in
    if-short c.code_in.result c.args.self.now.codes c.args.code (c.code_in.ensures ∙ ap (λ (cs : List Compiled). slice_get cs c.args.code) are) short
