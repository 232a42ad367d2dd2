use Rattle.std.proofs.Common.{◌≡◌, ◌+◌, List, [], ◌∷◌, drop, ap}
use Rattle.std.specs.Borrow.{Bor}
use Rattle.std.proofs.lemmas.List.{drop_all}
use Rattle.st_tree.specs.declared.tree.Literal.{Literal}
use Rattle.st_literals.specs.Gathered.{seen_literal, seen_literals}
use Rattle.st_literals.proofs.Counted.{drop-next}
use Rattle.st_literals.proofs.Making.{all-first, all-next, all-few, all-room, all-end, all-left}
use Rattle.st_literals.proofs.make.make_all.Goals as goal

pub loop-literal-init : goal.loop-literal-init
loop-literal-init g c = all-first c.args.names.now (g.H.Heap.meaning c.args.heap.now) (seen_literals c.args.literals.now) g.H.Heap.reserved (g.H.Heap.literal_room c.args.heap.now)

pub make-requires-clause-few : goal.make-requires-clause-few
make-requires-clause-few g c =
    let at : seen_literals (drop c.loop-literal.literal-index c.args.literals.now) ≡ seen_literal c.literal-item.result ∷ seen_literals (drop (c.loop-literal.literal-index + 1) c.args.literals.now) =
    ap (λ (rs : List (Bor Literal)). seen_literals rs) (drop-next c.args.literals.now c.loop-literal.literal-index c.literal-item.result c.literal-item.is c.loop-literal-test.true) in
    all-few c.loop-literal.invariant at c.requires.few

pub make-requires-clause-room : goal.make-requires-clause-room
make-requires-clause-room g c =
    let at : seen_literals (drop c.loop-literal.literal-index c.args.literals.now) ≡ seen_literal c.literal-item.result ∷ seen_literals (drop (c.loop-literal.literal-index + 1) c.args.literals.now) =
    ap (λ (rs : List (Bor Literal)). seen_literals rs) (drop-next c.args.literals.now c.loop-literal.literal-index c.literal-item.result c.literal-item.is c.loop-literal-test.true) in
    λ r. all-room c.loop-literal.invariant at r (c.requires.room r)

pub loop-literal-preserved : goal.loop-literal-preserved
loop-literal-preserved g c =
    let at : seen_literals (drop c.loop-literal.literal-index c.args.literals.now) ≡ seen_literal c.literal-item.result ∷ seen_literals (drop (c.loop-literal.literal-index + 1) c.args.literals.now) =
    ap (λ (rs : List (Bor Literal)). seen_literals rs) (drop-next c.args.literals.now c.loop-literal.literal-index c.literal-item.result c.literal-item.is c.loop-literal-test.true) in
    all-next c.args.names.now (g.H.Heap.meaning c.args.heap.now) (g.H.Heap.meaning c.loop-literal.heap) (g.H.Heap.meaning c.make.new.heap) (seen_literals c.args.literals.now) (seen_literals (drop (c.loop-literal.literal-index + 1) c.args.literals.now))
    (seen_literals (drop c.loop-literal.literal-index c.args.literals.now)) g.H.Heap.reserved (g.H.Heap.literal_room c.args.heap.now) (g.H.Heap.literal_room c.loop-literal.heap) (g.H.Heap.literal_room c.make.new.heap) (seen_literal c.literal-item.result) at c.loop-literal.invariant c.in_ok-make.ensures.made c.in_ok-make.ensures.room

pub returns : goal.returns
returns g c =
    let none : seen_literals (drop c.loop-literal.literal-index c.args.literals.now) ≡ [] = ap (λ (rs : List (Bor Literal)). seen_literals rs) (drop_all c.loop-literal.literal-index c.args.literals.now c.loop-literal-test.false) in
    record {
      made = all-end c.args.names.now (g.H.Heap.meaning c.args.heap.now) (g.H.Heap.meaning c.loop-literal.heap) (seen_literals c.args.literals.now) (seen_literals (drop c.loop-literal.literal-index c.args.literals.now)) g.H.Heap.reserved (g.H.Heap.literal_room c.args.heap.now) (g.H.Heap.literal_room c.loop-literal.heap) none c.loop-literal.invariant;
      room = all-left c.args.names.now (g.H.Heap.meaning c.args.heap.now) (g.H.Heap.meaning c.loop-literal.heap) (seen_literals c.args.literals.now) (seen_literals (drop c.loop-literal.literal-index c.args.literals.now)) g.H.Heap.reserved (g.H.Heap.literal_room c.args.heap.now) (g.H.Heap.literal_room c.loop-literal.heap) none c.loop-literal.invariant;
    }
