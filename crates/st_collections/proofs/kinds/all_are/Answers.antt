use Rattle.std.proofs.Common.{◌∙◌, sym, arith}
use Rattle.st_collections.specs.Answers.{program_of}
use Rattle.st_collections.proofs.ElementLists.{all_first, all_true, all_false, all_end}
use Rattle.st_collections.proofs.kinds.all_are.Goals as goal

pub loop-index-init : goal.loop-index-init
loop-index-init g c =
    let p = program_of c.args.names.now in
    let s = (g.H.Heap.meaning c.args.heap.now).store in
    record { low = omega arith; high = omega arith; rest = all_first p s c.args.kind c.args.value c.args.size c.requires.size }

pub returns-then-not-is_kind : goal.returns-then-not-is_kind
returns-then-not-is_kind g c =
    let p = program_of c.args.names.now in
    let s = (g.H.Heap.meaning c.args.heap.now).store in
    sym (c.loop-index.invariant.rest ∙ all_false p s c.args.kind c.args.value c.element_now.result c.loop-index.index c.args.size c.loop-index-test.true c.element_now.ensures.element c.if-not-is_kind.ensures)

pub loop-index-preserved : goal.loop-index-preserved
loop-index-preserved g c =
    let p = program_of c.args.names.now in
    let s = (g.H.Heap.meaning c.args.heap.now).store in
    record { low = omega arith; high = omega arith; rest = c.loop-index.invariant.rest ∙ all_true p s c.args.kind c.args.value c.element_now.result c.loop-index.index c.args.size c.loop-index-test.true c.element_now.ensures.element c.if-not-is_kind.ensures }

pub returns : goal.returns
returns g c =
    let p = program_of c.args.names.now in
    let s = (g.H.Heap.meaning c.args.heap.now).store in
    sym (c.loop-index.invariant.rest ∙ all_end p s c.args.kind c.args.value c.loop-index.index c.args.size (omega arith))
