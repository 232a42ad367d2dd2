use Rattle.std.proofs.Common.{◌≡◌, Some, None, reverse, sym, ◌∙◌, arith}
use Rattle.st_contexts.specs.Flat.{place_in}
use Rattle.st_contexts.proofs.Standing.{found_place, code_outer, code_outermost, code_no_outer}
use Rattle.st_contexts.proofs.contexts.Contexts.outer_of.Goals as goal

pub index-requires : goal.index-requires
index-requires c =
    let e : Some c.in-Some.place ≡ place_in c.args.activation (reverse c.self.inside.slots.items) = rw c.deref.ensures.value at (sym c.in-Some.is ∙ c.place_of.ensures) in
    omega (arith, found_place c.args.activation c.self.inside.slots.items c.in-Some.place e, c.self.inside.slots.ok.0)

pub returns-in-Some : goal.returns-in-Some
returns-in-Some c =
    let e : Some c.in-Some.place ≡ place_in c.args.activation (reverse c.self.inside.slots.items) = rw c.deref.ensures.value at (sym c.in-Some.is ∙ c.place_of.ensures) in
    rw (← c.self.view_is) (code_outer c.args.activation c.self.inside.slots.items c.self.inside.values.items c.in-Some.place c.index.result.now e c.if-place-gt0.true c.index.ensures)

pub returns-in_default : goal.returns-in_default
returns-in_default c =
    let e : Some c.in-Some.place ≡ place_in c.args.activation (reverse c.self.inside.slots.items) = rw c.deref.ensures.value at (sym c.in-Some.is ∙ c.place_of.ensures) in
    rw (← c.self.view_is) (code_outermost c.args.activation c.self.inside.slots.items c.self.inside.values.items c.in-Some.place e c.if-place-gt0.false)

pub returns-in_default-2 : goal.returns-in_default-2
returns-in_default-2 c =
    let e : None ≡ place_in c.args.activation (reverse c.self.inside.slots.items) = rw c.deref.ensures.value at (sym c.in_default.is ∙ c.place_of.ensures) in
    rw (← c.self.view_is) (code_no_outer c.args.activation c.self.inside.slots.items c.self.inside.values.items e)
