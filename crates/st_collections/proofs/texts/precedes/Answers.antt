use Rattle.std.proofs.Common.{◌∙◌, ap, sym}
use Rattle.std.specs.Ordering.{is_lt}
use Rattle.st_collections.specs.Answers.{program_of}
use Rattle.st_collections.specs.Orders.{text_of}
use Rattle.st_collections.proofs.TextOrders.{text_less-is}
use Rattle.st_collections.proofs.texts.precedes.Goals as goal

pub returns : goal.returns
returns g c =
    let text = text_of (program_of c.args.names.now) (g.H.Heap.meaning c.args.heap.now).store in
    c.is_lt.ensures ∙ ap is_lt c.order_of-order.ensures ∙ sym (text_less-is (text c.args.left) (text c.args.right))
