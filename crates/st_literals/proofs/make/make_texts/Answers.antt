use Rattle.std.proofs.Common.{◌≡◌, ◌+◌, ◌∷◌, [], map, drop, ap}
use Rattle.std.proofs.lemmas.List.{drop_all}
use Rattle.object_heap.specs.declared.trouble.Trouble.TheVariants.{WrongNumberOfArguments}
use Rattle.object_heap.specs.Troubles.{text_of}
use Rattle.st_literals.proofs.Making.{texts-first, texts-few, texts-room, texts-next, texts-end, trouble-next}
use Rattle.st_literals.proofs.make.make_texts.Goals as goal

pub loop-trouble-init : goal.loop-trouble-init
loop-trouble-init g c = texts-first (g.H.Heap.meaning c.args.heap.now) (map text_of c.args.troubles.now) g.H.Heap.reserved (g.H.Heap.literal_room c.args.heap.now)

pub make_text-requires-clause-few : goal.make_text-requires-clause-few
make_text-requires-clause-few g c =
    let at : map text_of (drop c.loop-trouble.trouble-index c.args.troubles.now) ≡ c.text.result.now ∷ map text_of (drop (c.loop-trouble.trouble-index + 1) c.args.troubles.now) =
    trouble-next c.args.troubles.now c.loop-trouble.trouble-index WrongNumberOfArguments c.text.result.now c.loop-trouble-test.true c.text.ensures in
    texts-few c.loop-trouble.invariant at c.requires.few

pub make_text-requires-clause-room : goal.make_text-requires-clause-room
make_text-requires-clause-room g c =
    let at : map text_of (drop c.loop-trouble.trouble-index c.args.troubles.now) ≡ c.text.result.now ∷ map text_of (drop (c.loop-trouble.trouble-index + 1) c.args.troubles.now) =
    trouble-next c.args.troubles.now c.loop-trouble.trouble-index WrongNumberOfArguments c.text.result.now c.loop-trouble-test.true c.text.ensures in
    λ r. texts-room c.loop-trouble.invariant at r (c.requires.room r)

pub loop-trouble-preserved : goal.loop-trouble-preserved
loop-trouble-preserved g c =
    let at : map text_of (drop c.loop-trouble.trouble-index c.args.troubles.now) ≡ c.text.result.now ∷ map text_of (drop (c.loop-trouble.trouble-index + 1) c.args.troubles.now) =
    trouble-next c.args.troubles.now c.loop-trouble.trouble-index WrongNumberOfArguments c.text.result.now c.loop-trouble-test.true c.text.ensures in
    texts-next (g.H.Heap.meaning c.args.heap.now) (g.H.Heap.meaning c.loop-trouble.heap) (g.H.Heap.meaning c.make_text.new.heap) (map text_of c.args.troubles.now) (map text_of (drop (c.loop-trouble.trouble-index + 1) c.args.troubles.now)) (map text_of (drop c.loop-trouble.trouble-index c.args.troubles.now))
    g.H.Heap.reserved (g.H.Heap.literal_room c.args.heap.now) (g.H.Heap.literal_room c.loop-trouble.heap) (g.H.Heap.literal_room c.make_text.new.heap) c.text.result.now at c.loop-trouble.invariant c.in_ok-make_text.ensures.made c.in_ok-make_text.ensures.room

pub returns : goal.returns
returns g c =
    let none : map text_of (drop c.loop-trouble.trouble-index c.args.troubles.now) ≡ [] = ap (map text_of) (drop_all c.loop-trouble.trouble-index c.args.troubles.now c.loop-trouble-test.false) in
    texts-end (g.H.Heap.meaning c.args.heap.now) (g.H.Heap.meaning c.loop-trouble.heap) (map text_of c.args.troubles.now) (map text_of (drop c.loop-trouble.trouble-index c.args.troubles.now)) g.H.Heap.reserved (g.H.Heap.literal_room c.args.heap.now) (g.H.Heap.literal_room c.loop-trouble.heap) none c.loop-trouble.invariant
