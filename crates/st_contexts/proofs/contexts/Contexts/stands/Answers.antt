use Rattle.std.proofs.Common.{◌≡◌, Some, None, reverse, sym, ◌∙◌}
use Rattle.st_contexts.specs.Flat.{place_in}
use Rattle.st_contexts.proofs.Standing.{code_stands, code_stands_not}
use Rattle.st_contexts.proofs.contexts.Contexts.stands.Goals as goal

pub returns-in-Some : goal.returns-in-Some
returns-in-Some c =
    let e : Some c.in-Some.field-0 ≡ place_in c.args.activation (reverse c.self.inside.slots.items) = rw c.deref.ensures.value at (sym c.in-Some.is ∙ c.place_of.ensures) in
    rw (← c.self.view_is) (code_stands c.args.activation c.self.inside.slots.items c.self.inside.values.items c.in-Some.field-0 e)

pub returns-in-None : goal.returns-in-None
returns-in-None c =
    let e : None ≡ place_in c.args.activation (reverse c.self.inside.slots.items) = rw c.deref.ensures.value at (sym c.in-None.is ∙ c.place_of.ensures) in
    rw (← c.self.view_is) (code_stands_not c.args.activation c.self.inside.slots.items c.self.inside.values.items e)
