use Rattle.std.proofs.Common.{◌∙◌, sym, refl, length}
use Rattle.object_heap.specs.Store.{object_at}
use Rattle.std.proofs.lemmas.Bool.{ne_eqb}
use Rattle.st_collections.proofs.ordered.remove_last.Goals as goal

pub returns-then-length-eq0-clause-memory : goal.returns-then-length-eq0-clause-memory
returns-then-length-eq0-clause-memory g c =
    let m = g.H.Heap.meaning c.args.heap.now in
    let o = object_at c.args.object m.store in
    rw (sym c.length-length.ensures ∙ c.if-length-eq0.true) refl

pub returns-then-length-eq0-clause-answer : goal.returns-then-length-eq0-clause-answer
returns-then-length-eq0-clause-answer g c =
    let m = g.H.Heap.meaning c.args.heap.now in
    let o = object_at c.args.object m.store in
    rw (sym c.length-length.ensures ∙ c.if-length-eq0.true) refl

pub returns-clause-memory : goal.returns-clause-memory
returns-clause-memory g c =
    let m = g.H.Heap.meaning c.args.heap.now in
    let o = object_at c.args.object m.store in
    rw (ne_eqb (length o.slots) 0 (λ e. c.if-length-eq0.false (c.length-length.ensures ∙ e)), ← c.length-length.ensures) c.remove_at.ensures.memory

pub returns-clause-answer : goal.returns-clause-answer
returns-clause-answer g c =
    let m = g.H.Heap.meaning c.args.heap.now in
    let o = object_at c.args.object m.store in
    rw (ne_eqb (length o.slots) 0 (λ e. c.if-length-eq0.false (c.length-length.ensures ∙ e)), ← c.length-length.ensures) c.remove_at.ensures.answer
