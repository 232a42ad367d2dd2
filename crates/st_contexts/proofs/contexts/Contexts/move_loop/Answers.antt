use Rattle.std.proofs.Common.{refl}
use Rattle.std.specs.Int.{w128}
use Rattle.std.proofs.lemmas.Int.{to_z-of_z}
use Rattle.st_contexts.specs.Moving.{loop_at, with_loop}
use Rattle.st_contexts.proofs.Coded.{code_flat_same, code_view_changed}
use Rattle.st_contexts.proofs.contexts.Contexts.move_loop.Goals as goal

pub invariant_of-self-2 : goal.invariant_of-self-2
invariant_of-self-2 c = code_flat_same c.self.inside.depth c.self.inside.width c.self.inside.next c.self.inside.slots.cap c.self.inside.values.cap c.self.inside.slots.items c.self.inside.values.items c.self.invariant c.self.inside.slots.len c.self.inside.slots.ok.0 (c.in-Some.ensures.variant.0 refl) c.in-Some.slot.now c.in-Some.ensures.value _ refl refl refl

pub returns : goal.returns
returns c = rw (← c.self.view_is, c.move_loop.ensures, to_z-of_z w128 c.args.index c.ranges.index) (code_view_changed c.self.inside.depth c.self.inside.width c.self.inside.next c.self.inside.slots.cap c.self.inside.values.cap c.self.inside.slots.items c.self.inside.values.items c.self.invariant c.self.inside.slots.len c.self.inside.slots.ok.0 (c.in-Some.ensures.variant.0 refl) c.in-Some.slot.now c.in-Some.ensures.value (with_loop (loop_at c.args.index)))
