use Rattle.std.proofs.Common.{◌≤◌, refl, arith}
use Rattle.st_contexts.proofs.Coded.{code_flat_value_pop, code_view_value_pop, code_top_value_pop}
use Rattle.st_contexts.proofs.contexts.Contexts.pop_value.Goals as goal

pub invariant_of-self : goal.invariant_of-self
invariant_of-self c =
    let lv : c.self.inside.values.cap ≤ c.pop.new.self.cap = omega (arith, c.pop.ensures.capacity) in
    code_flat_value_pop c.self.inside.depth c.self.inside.width c.self.inside.next c.self.inside.slots.cap c.self.inside.values.cap c.self.inside.slots.items c.self.inside.values.items c.self.invariant c.self.inside.slots.len c.self.inside.slots.ok.0 (c.in-Some.ensures.variant.0 refl) c.in-Some.slot.now c.in-Some.ensures.value c.pop.new.self.cap c.pop.new.self.items c.in-Some-pop.value c.if-slot-gt0.true c.in-Some-pop.ensures.items lv

pub returns-in-Some-pop-clause-popped : goal.returns-in-Some-pop-clause-popped
returns-in-Some-pop-clause-popped c = rw (← c.self.view_is) (code_view_value_pop c.self.inside.depth c.self.inside.width c.self.inside.next c.self.inside.slots.cap c.self.inside.values.cap c.self.inside.slots.items c.self.inside.values.items c.self.invariant c.self.inside.slots.len c.self.inside.slots.ok.0 (c.in-Some.ensures.variant.0 refl) c.in-Some.slot.now c.in-Some.ensures.value c.pop.new.self.items c.in-Some-pop.value c.if-slot-gt0.true c.in-Some-pop.ensures.items)

pub returns-in-Some-pop-clause-value : goal.returns-in-Some-pop-clause-value
returns-in-Some-pop-clause-value c = rw (← c.self.view_is) (code_top_value_pop c.self.inside.depth c.self.inside.width c.self.inside.next c.self.inside.slots.cap c.self.inside.values.cap c.self.inside.slots.items c.self.inside.values.items c.self.invariant c.self.inside.slots.len c.self.inside.slots.ok.0 (c.in-Some.ensures.variant.0 refl) c.in-Some.slot.now c.in-Some.ensures.value c.pop.new.self.items c.in-Some-pop.value c.if-slot-gt0.true c.in-Some-pop.ensures.items)
