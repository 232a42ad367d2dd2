use Rattle.std.proofs.Common.{◌≤◌, arith}
use Rattle.st_contexts.proofs.Coded.{code_flat_pop, code_view_pop}
use Rattle.st_contexts.proofs.contexts.Contexts.pop.Goals as goal

pub invariant_of-self : goal.invariant_of-self
invariant_of-self c =
    let lr : c.self.inside.slots.cap ≤ c.pop.new.self.cap = omega (arith, c.pop.ensures.capacity) in
    let lv : c.self.inside.values.cap ≤ c.truncate.new.self.cap = omega (arith, c.truncate.ensures.capacity) in
    code_flat_pop c.self.inside.depth c.self.inside.width c.self.inside.next c.self.inside.slots.cap c.self.inside.values.cap c.self.inside.slots.items c.self.inside.values.items c.self.invariant c.pop.new.self.cap c.truncate.new.self.cap c.pop.new.self.items c.in-Some.slot c.truncate.new.self.items c.in-Some.ensures.items c.truncate.ensures.items lr lv

pub returns-in-Some : goal.returns-in-Some
returns-in-Some c = rw (← c.self.view_is) (code_view_pop c.self.inside.depth c.self.inside.width c.self.inside.next c.self.inside.slots.cap c.self.inside.values.cap c.self.inside.slots.items c.self.inside.values.items c.self.invariant c.pop.new.self.items c.in-Some.slot c.truncate.new.self.items c.in-Some.ensures.items c.truncate.ensures.items)
