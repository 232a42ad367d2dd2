use Rattle.std.proofs.Common.{◌≡◌, ◌-◌, ◌<◌, length, get_or, refl}
use Rattle.st_contexts.proofs.Coded.{code_flat_with_variable, code_view_with_variable, code_no_with_variable}
use Rattle.st_contexts.proofs.contexts.Contexts.set_variable.Goals as goal

pub invariant_of-self : goal.invariant_of-self
invariant_of-self c =
    let is : c.in-Some.slot.now ≡ get_or c.self.inside.slots.items (length c.self.inside.slots.items - 1) c.in-Some.slot.now = rw c.deref.ensures.value at c.in-Some.ensures.item.1 in
    let some : 0 < length c.self.inside.slots.items = rw c.deref.ensures.value at c.in-Some.ensures.item.3.0 in
    code_flat_with_variable c.self.inside.depth c.self.inside.width c.self.inside.next c.self.inside.slots.cap c.self.inside.values.cap c.self.inside.slots.items c.self.inside.values.items c.self.invariant (length c.self.inside.slots.items) refl some c.in-Some.slot.now is c.args.index c.args.value c.if-index-slot.true

pub returns-then-index-slot : goal.returns-then-index-slot
returns-then-index-slot c =
    let is : c.in-Some.slot.now ≡ get_or c.self.inside.slots.items (length c.self.inside.slots.items - 1) c.in-Some.slot.now = rw c.deref.ensures.value at c.in-Some.ensures.item.1 in
    let some : 0 < length c.self.inside.slots.items = rw c.deref.ensures.value at c.in-Some.ensures.item.3.0 in
    rw (← c.self.view_is) (code_view_with_variable c.self.inside.depth c.self.inside.width c.self.inside.next c.self.inside.slots.cap c.self.inside.values.cap c.self.inside.slots.items c.self.inside.values.items c.self.invariant (length c.self.inside.slots.items) refl some c.in-Some.slot.now is c.args.index c.args.value c.if-index-slot.true)

pub returns-else-index-slot : goal.returns-else-index-slot
returns-else-index-slot c =
    let is : c.in-Some.slot.now ≡ get_or c.self.inside.slots.items (length c.self.inside.slots.items - 1) c.in-Some.slot.now = rw c.deref.ensures.value at c.in-Some.ensures.item.1 in
    let some : 0 < length c.self.inside.slots.items = rw c.deref.ensures.value at c.in-Some.ensures.item.3.0 in
    rw (← c.self.view_is) (code_no_with_variable c.self.inside.depth c.self.inside.width c.self.inside.next c.self.inside.slots.cap c.self.inside.values.cap c.self.inside.slots.items c.self.inside.values.items c.self.invariant (length c.self.inside.slots.items) refl some c.in-Some.slot.now is c.args.index c.args.value c.if-index-slot.false)
