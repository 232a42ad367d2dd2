use Rattle.std.proofs.Common.{◌≡◌, ◌-◌, ◌<◌, length, get_or, refl, ◌∙◌}
use Rattle.std.proofs.lemmas.List.{get_or_default}
use Rattle.object_heap.specs.declared.value.Value.TheVariants.{Nil}
use Rattle.st_contexts.specs.Stack.{top_value}
use Rattle.st_contexts.specs.Flat.{stack_of}
use Rattle.st_contexts.proofs.Coded.{code_top_value}
use Rattle.st_contexts.proofs.contexts.Contexts.top.Goals as goal

pub returns-in-Some : goal.returns-in-Some
returns-in-Some c =
    let is : c.in-Some.slot.now ≡ get_or c.self.inside.slots.items (length c.self.inside.slots.items - 1) c.in-Some.slot.now = rw c.deref.ensures.value at c.in-Some.ensures.item.1 in
    let some : 0 < length c.self.inside.slots.items = rw c.deref.ensures.value at c.in-Some.ensures.item.3.0 in
    let lv : c.len.result ≡ length c.self.inside.values.items = c.len.ensures ∙ c.self.inside.values.ok.0 in
    let both : (c.len.result - 1 < length c.self.inside.values.items) × (get_or c.self.inside.values.items (c.len.result - 1) Nil ≡ top_value (stack_of c.self.inside.slots.items c.self.inside.values.items c.self.inside.next c.self.inside.depth c.self.inside.width)) = code_top_value c.self.inside.depth c.self.inside.width c.self.inside.next c.self.inside.slots.cap c.self.inside.values.cap c.self.inside.slots.items c.self.inside.values.items c.self.invariant (length c.self.inside.slots.items) refl some c.in-Some.slot.now is c.len.result c.if-slot-gt0.true lv in
    rw (← c.self.view_is) (c.index.ensures ∙ get_or_default c.self.inside.values.items (c.len.result - 1) c.index.result.now Nil both.0 ∙ both.1)
