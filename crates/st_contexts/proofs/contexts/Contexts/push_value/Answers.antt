use Rattle.std.proofs.Common.{refl, arith}
use Rattle.st_contexts.proofs.Coded.{code_flat_value_push, code_room, code_view_value_push}
use Rattle.st_contexts.proofs.contexts.Contexts.push_value.Goals as goal

pub invariant_of-self : goal.invariant_of-self
invariant_of-self c = code_flat_value_push c.self.inside.depth c.self.inside.width c.self.inside.next c.self.inside.slots.cap c.self.inside.values.cap c.self.inside.slots.items c.self.inside.values.items c.self.invariant c.self.inside.slots.len c.self.inside.slots.ok.0 (c.in-Some.ensures.variant.0 refl) c.in-Some.slot.now c.in-Some.ensures.value c.push.new.self.cap c.push.new.self.items c.args.value c.if-slot-self.true c.in-Ok.ensures.items c.in-Ok.ensures.capacity

pub unreachable-requires : goal.unreachable-requires
unreachable-requires c = omega (arith, c.self.inside.values.ok.0, c.in-Err.ensures.full, code_room c.self.inside.depth c.self.inside.width c.self.inside.next c.self.inside.slots.cap c.self.inside.values.cap c.self.inside.slots.items c.self.inside.values.items c.self.invariant c.self.inside.slots.len c.self.inside.slots.ok.0 (c.in-Some.ensures.variant.0 refl) c.in-Some.slot.now c.in-Some.ensures.value c.if-slot-self.true)

pub returns-in-Ok : goal.returns-in-Ok
returns-in-Ok c = rw (← c.self.view_is) (code_view_value_push c.self.inside.depth c.self.inside.width c.self.inside.next c.self.inside.slots.cap c.self.inside.values.cap c.self.inside.slots.items c.self.inside.values.items c.self.invariant c.self.inside.slots.len c.self.inside.slots.ok.0 (c.in-Some.ensures.variant.0 refl) c.in-Some.slot.now c.in-Some.ensures.value c.push.new.self.items c.args.value c.if-slot-self.true c.in-Ok.ensures.items)
