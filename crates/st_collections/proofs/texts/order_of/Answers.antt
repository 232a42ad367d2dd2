use Rattle.std.proofs.Common.{◌<◌, length, arith}
use Rattle.st_collections.specs.Answers.{program_of}
use Rattle.st_collections.specs.Orders.{text_of}
use Rattle.st_collections.proofs.TextOrders.{behind_less, behind_greater, behind_more, end_less, end_greater, end_equal}
use Rattle.st_collections.proofs.texts.order_of.Goals as goal

pub returns-then-byte-against : goal.returns-then-byte-against
returns-then-byte-against g c =
    let text = text_of (program_of c.args.names.now) (g.H.Heap.meaning c.args.heap.now).store in
    let low : c.loop-place.place < length (text c.args.left) = omega arith in
    let low' : c.loop-place.place < length (text c.args.right) = omega arith in
    behind_less c.args.folding (text c.args.left) (text c.args.right) c.loop-place.place c.compared_byte-byte.result c.compared_byte-against.result c.loop-place.invariant low low' (rw c.text_byte.ensures at c.compared_byte-byte.ensures) (rw c.text_byte-in-loop-place.ensures at c.compared_byte-against.ensures) c.if-byte-against.true

pub returns-then-against-byte : goal.returns-then-against-byte
returns-then-against-byte g c =
    let text = text_of (program_of c.args.names.now) (g.H.Heap.meaning c.args.heap.now).store in
    let low : c.loop-place.place < length (text c.args.left) = omega arith in
    let low' : c.loop-place.place < length (text c.args.right) = omega arith in
    behind_greater c.args.folding (text c.args.left) (text c.args.right) c.loop-place.place c.compared_byte-byte.result c.compared_byte-against.result c.loop-place.invariant low low' (rw c.text_byte.ensures at c.compared_byte-byte.ensures) (rw c.text_byte-in-loop-place.ensures at c.compared_byte-against.ensures) c.if-against-byte.true

pub loop-place-preserved : goal.loop-place-preserved
loop-place-preserved g c =
    let text = text_of (program_of c.args.names.now) (g.H.Heap.meaning c.args.heap.now).store in
    let low : c.loop-place.place < length (text c.args.left) = omega arith in
    let low' : c.loop-place.place < length (text c.args.right) = omega arith in
    behind_more c.args.folding (text c.args.left) (text c.args.right) c.loop-place.place c.compared_byte-byte.result c.compared_byte-against.result c.loop-place.invariant low low' (rw c.text_byte.ensures at c.compared_byte-byte.ensures) (rw c.text_byte-in-loop-place.ensures at c.compared_byte-against.ensures) (omega arith)

pub returns-then-length-other : goal.returns-then-length-other
returns-then-length-other g c =
    let text = text_of (program_of c.args.names.now) (g.H.Heap.meaning c.args.heap.now).store in
    end_less c.args.folding (text c.args.left) (text c.args.right) c.loop-place.place c.loop-place.invariant (omega arith) (omega arith)

pub returns-then-other-length : goal.returns-then-other-length
returns-then-other-length g c =
    let text = text_of (program_of c.args.names.now) (g.H.Heap.meaning c.args.heap.now).store in
    end_greater c.args.folding (text c.args.left) (text c.args.right) c.loop-place.place c.loop-place.invariant (omega arith) (omega arith)

pub returns : goal.returns
returns g c =
    let text = text_of (program_of c.args.names.now) (g.H.Heap.meaning c.args.heap.now).store in
    end_equal c.args.folding (text c.args.left) (text c.args.right) c.loop-place.place c.loop-place.invariant (omega arith) (omega arith)
