use Rattle.std.proofs.Common.{◌≡◌, ◌+◌, List, ap, sym, ◌∙◌}
use Rattle.std.specs.Borrow.{Bor}
use Rattle.st_tree.specs.declared.tree.Literal.{Literal}
use Rattle.st_tree.specs.declared.units.Unit.{Unit}
use Rattle.st_code.specs.Written.{named_units}
use Rattle.cell_heap.specs.Flat.{CellMemory}
use Rattle.st_literals.specs.Gathered.{seen_literals, units_literals}
use Rattle.st_literals.specs.Cells.{cells_of}
use Rattle.st_literals.proofs.Making.{heap-few, heap-first}
use Rattle.st_literals.proofs.opened.literal_heap.Goals as goal

pub make_troubles-requires-clause-few : goal.make_troubles-requires-clause-few
make_troubles-requires-clause-few c =
    let texts : c.trouble_cells.result ≡ 62 = c.trouble_cells.ensures in
    heap-few c.names.result.now (seen_literals c.as_slice-3.result.now) c.in_ok-heap.heap.memory c.make_all.new.heap.memory c.args.cells c.in_ok-cells_of.field-0 62 c.in_ok-room.room
    (ap (λ (h : CellMemory). h.memory) c.in_ok-heap.ensures) c.in_ok-make_all.ensures.made
    (c.in_ok-cells_of.ensures ∙ ap (λ (rs : List (Bor Literal)). cells_of (seen_literals rs)) (c.as_slice-2.ensures ∙ sym c.as_slice-3.ensures)) (c.in_ok-room.ensures.sum ∙ ap (λ k. c.in_ok-cells_of.field-0 + k) texts) c.in_ok-room.ensures.few

pub returns : goal.returns
returns c = λ limits is.
    heap-first c.args.image.now limits c.names.result.now (seen_literals c.as_slice-3.result.now) c.in_ok-heap.heap.memory c.make_all.new.heap.memory c.make_troubles.new.heap.memory c.args.cells
    (ap (λ (h : CellMemory). h.memory) c.in_ok-heap.ensures) c.in_ok-make_all.ensures.made c.in_ok-make_troubles.ensures c.names.ensures
    (ap (λ (rs : List (Bor Literal)). seen_literals rs) c.as_slice-3.ensures ∙ c.in_ok-literals.ensures ∙ ap (λ (us : List Unit). units_literals (named_units us)) (c.as_slice.ensures ∙ c.definition.ensures)) is
