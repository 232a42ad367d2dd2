use Rattle.std.proofs.Common.{◌≡◌, ◌+◌, ap, ◌∙◌, arith}
use Rattle.object_heap.specs.declared.value.Value.TheVariants.{Object}
use Rattle.program_image.specs.Finding.{program_of_image}
use Rattle.st_machine.specs.Plans.{limits_of, program_from}
use Rattle.st_machine.proofs.loaded.Loaded.trouble_text.Goals as goal

pub overflow_add-result : goal.overflow_add-result
unfolding program_of_image
overflow_add-result c =
    let is : c.literals.result ≡ (program_from c.self.inside.program c.self.inside.limits).trouble_place = c.literals.ensures (limits_of c.self.inside.limits) in
    omega (arith, is, c.self.invariant.0.numbered, c.place.ensures.within)

pub returns : goal.returns
unfolding program_of_image
returns c =
    let is : c.literals.result ≡ (program_from c.self.inside.program c.self.inside.limits).trouble_place = c.literals.ensures (limits_of c.self.inside.limits) in
    rw (← c.self.view_is) (ap (λ k. Object (k + c.place.result)) is ∙ ap (λ k. Object ((program_from c.self.inside.program c.self.inside.limits).trouble_place + k)) c.place.ensures.place)
