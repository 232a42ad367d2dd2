use Rattle.std.proofs.Common.{◌≡◌, Some, None, reverse, sym, ◌∙◌, arith}
use Rattle.st_contexts.specs.Flat.{place_in}
use Rattle.st_contexts.proofs.Standing.{found_place, code_operand, code_operand_within, code_no_operand}
use Rattle.st_contexts.proofs.contexts.Contexts.operand.Goals as goal

pub index-requires : goal.index-requires
index-requires c =
    let e : Some c.in-Some.place ≡ place_in c.args.activation (reverse c.self.inside.slots.items) = rw c.deref.ensures.value at (sym c.in-Some.is ∙ c.place_of.ensures) in
    omega (arith, found_place c.args.activation c.self.inside.slots.items c.in-Some.place e, c.self.inside.slots.ok.0)

pub operand_in-requires : goal.operand_in-requires
operand_in-requires c =
    let e : Some c.in-Some.place ≡ place_in c.args.activation (reverse c.self.inside.slots.items) = rw c.deref.ensures.value at (sym c.in-Some.is ∙ c.place_of.ensures) in
    rw c.deref-in-Some.ensures.value (code_operand_within c.self.inside.width c.args.activation c.self.inside.slots.items c.self.inside.values.items c.in-Some.place c.index.result.now c.self.invariant.windows e c.index.ensures)

pub returns-in-Some : goal.returns-in-Some
returns-in-Some c =
    let e : Some c.in-Some.place ≡ place_in c.args.activation (reverse c.self.inside.slots.items) = rw c.deref.ensures.value at (sym c.in-Some.is ∙ c.place_of.ensures) in
    rw (← c.self.view_is) (rw c.deref-in-Some.ensures.value at c.operand_in.ensures ∙ code_operand c.self.inside.width c.args.activation c.self.inside.slots.items c.self.inside.values.items c.in-Some.place c.index.result.now c.self.invariant.windows e c.index.ensures c.args.index)

pub returns-in-None : goal.returns-in-None
returns-in-None c =
    let e : None ≡ place_in c.args.activation (reverse c.self.inside.slots.items) = rw c.deref.ensures.value at (sym c.in-None.is ∙ c.place_of.ensures) in
    rw (← c.self.view_is) (code_no_operand c.args.activation c.self.inside.slots.items c.self.inside.values.items e c.args.index)
