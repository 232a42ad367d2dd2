use Rattle.std.proofs.Common.{◌≡◌, ◌<◌, ◌≤◌, ◌-◌, length, get_or, ◌∙◌, arith}
use Rattle.st_contexts.proofs.Standing.{code_numbered, code_numbered_past}
use Rattle.st_contexts.proofs.contexts.Contexts.numbered.Goals as goal

pub returns-then-place-len : goal.returns-then-place-len
returns-then-place-len c =
    let past : length c.self.inside.slots.items ≤ c.args.place = omega (arith, c.if-place-len.true, c.len.ensures, c.self.inside.slots.ok.0) in
    rw (← c.self.view_is) (code_numbered_past c.self.inside.slots.items c.self.inside.values.items c.args.place past)

pub returns : goal.returns
returns c =
    let within : c.args.place < length c.self.inside.slots.items = omega (arith, c.if-place-len.false, c.len.ensures, c.self.inside.slots.ok.0) in
    let is : c.index-slot.result.now ≡ get_or c.self.inside.slots.items (length c.self.inside.slots.items - 1 - c.args.place) c.index-slot.result.now = rw (c.len-2.ensures ∙ c.self.inside.slots.ok.0) at c.index-slot.ensures in
    rw (← c.self.view_is) (code_numbered c.self.inside.slots.items c.self.inside.values.items c.args.place c.index-slot.result.now within is)
