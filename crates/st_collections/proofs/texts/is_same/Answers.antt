use Rattle.std.proofs.Common.{◌∙◌, ap, sym}
use Rattle.std.specs.Ordering.{is_eq}
use Rattle.st_collections.specs.Answers.{program_of}
use Rattle.st_collections.specs.Orders.{folded, text_of}
use Rattle.st_collections.proofs.TextOrders.{same_text-is}
use Rattle.st_collections.proofs.texts.is_same.Goals as goal

pub returns : goal.returns
returns g c =
    let text = text_of (program_of c.args.names.now) (g.H.Heap.meaning c.args.heap.now).store in
    c.is_eq.ensures ∙ ap is_eq c.order_of-order.ensures ∙ sym (same_text-is (folded c.args.folding (text c.args.left)) (folded c.args.folding (text c.args.right)))
