use Rattle.std.proofs.Common.{◌≡◌, ◌+◌, ◌-◌, ◌<◌, length, get_or, ℕ, refl, ◌∙◌}
use Rattle.std.proofs.lemmas.List.{get_or_default}
use Rattle.object_heap.specs.declared.value.Value.TheVariants.{Nil}
use Rattle.st_contexts.proofs.Coded.{code_view_variable, code_no_variable, code_variable_in}
use Rattle.st_contexts.proofs.contexts.Contexts.variable.Goals as goal

pub returns-in-Some : goal.returns-in-Some
returns-in-Some c =
    let is : c.in-Some.slot.now ≡ get_or c.self.inside.slots.items (length c.self.inside.slots.items - 1) c.in-Some.slot.now = rw c.deref.ensures.value at c.in-Some.ensures.item.1 in
    let some : 0 < length c.self.inside.slots.items = rw c.deref.ensures.value at c.in-Some.ensures.item.3.0 in
    let i : ℕ = c.in-Some.slot.now.start + c.args.index in
    let within : i < length c.self.inside.values.items = code_variable_in c.self.inside.depth c.self.inside.width c.self.inside.next c.self.inside.slots.cap c.self.inside.values.cap c.self.inside.slots.items c.self.inside.values.items c.self.invariant (length c.self.inside.slots.items) refl some c.in-Some.slot.now is c.args.index c.if-index-slot.true in
    rw (← c.self.view_is) (c.index.ensures ∙ get_or_default c.self.inside.values.items i c.index.result.now Nil within ∙ code_view_variable c.self.inside.depth c.self.inside.width c.self.inside.next c.self.inside.slots.cap c.self.inside.values.cap c.self.inside.slots.items c.self.inside.values.items c.self.invariant (length c.self.inside.slots.items) refl some c.in-Some.slot.now is c.args.index)

pub returns-in_default : goal.returns-in_default
returns-in_default c =
    let is : c.in-Some.slot.now ≡ get_or c.self.inside.slots.items (length c.self.inside.slots.items - 1) c.in-Some.slot.now = rw c.deref.ensures.value at c.in-Some.ensures.item.1 in
    let some : 0 < length c.self.inside.slots.items = rw c.deref.ensures.value at c.in-Some.ensures.item.3.0 in
    rw (← c.self.view_is) (code_no_variable c.self.inside.depth c.self.inside.width c.self.inside.next c.self.inside.slots.cap c.self.inside.values.cap c.self.inside.slots.items c.self.inside.values.items c.self.invariant (length c.self.inside.slots.items) refl some c.in-Some.slot.now is c.args.index c.if-index-slot.false)
