use Rattle.std.proofs.Common.{◌<◌, ◌≤◌, length, sym, arith}
use Rattle.st_contexts.proofs.Flatten.{view_push, answer_push, full_push, full_answer}
use Rattle.st_contexts.proofs.contexts.Contexts.push.Goals as goal

pub returns-in-Ok-clause-pushed : goal.returns-in-Ok-clause-pushed
returns-in-Ok-clause-pushed c =
    let h : length c.self.inside.slots.items < c.self.inside.depth = omega (arith, c.self.inside.slots.ok.0, c.len.ensures, c.if-len-self.true) in
    rw (← c.self.view_is, c.in-Ok.ensures.items) (view_push c.args.kept c.args.env c.self.inside.next c.self.inside.depth c.self.inside.width c.self.inside.slots.items c.self.inside.values.items c.len-start.result h)

pub returns-in-Ok-clause-answer : goal.returns-in-Ok-clause-answer
returns-in-Ok-clause-answer c =
    let h : length c.self.inside.slots.items < c.self.inside.depth = omega (arith, c.self.inside.slots.ok.0, c.len.ensures, c.if-len-self.true) in
    rw (← c.self.view_is) (sym (answer_push c.self.inside.next c.self.inside.depth c.self.inside.width c.self.inside.slots.items c.self.inside.values.items h))

pub returns-else-len-self-clause-pushed : goal.returns-else-len-self-clause-pushed
returns-else-len-self-clause-pushed c =
    let h : c.self.inside.depth ≤ length c.self.inside.slots.items = omega (arith, c.self.inside.slots.ok.0, c.len.ensures, c.if-len-self.false) in
    rw (← c.self.view_is) (sym (full_push c.args.kept c.args.env c.self.inside.next c.self.inside.depth c.self.inside.width c.self.inside.slots.items c.self.inside.values.items h))

pub returns-else-len-self-clause-answer : goal.returns-else-len-self-clause-answer
returns-else-len-self-clause-answer c =
    let h : c.self.inside.depth ≤ length c.self.inside.slots.items = omega (arith, c.self.inside.slots.ok.0, c.len.ensures, c.if-len-self.false) in
    rw (← c.self.view_is) (sym (full_answer c.self.inside.next c.self.inside.depth c.self.inside.width c.self.inside.slots.items c.self.inside.values.items h))
