use Rattle.std.proofs.Common.{◌≡◌, ◌≤◌, ◌++◌, take, drop, map, length}
use Rattle.st_tree.specs.declared.tree.Operand.{out-Operand}
use Rattle.st_tree.specs.declared.tree.Expr.{out-Expr}
use Rattle.st_tree.specs.declared.tree.Body.{out-Body}
use Rattle.sif_export.specs.Words.{Done, Mark}
use Rattle.sif_export.specs.declared.sign.Sign.TheVariants as sign
use Rattle.sif_export.specs.TreeWords.{joined, each_behind, parted, sent_words, primary_words, each_message, target_words, operand_words, statement_words, temporary_words}
use Rattle.sif_export.proofs.Steps.{others, has}
use Rattle.sif_export.proofs.trees.+export.Given as goal

abbrev pub invariant-operand-loop-item : goal.invariant-operand-loop-item
invariant-operand-loop-item g l = record {
  text : Done l.fn.gap (g.K.Sink.written l.fn.sink) l.gap (g.K.Sink.written l.sink) (primary_words (out-Operand l.fn.value).primary ++ joined (map each_message (take l.item-index l.item-items)));
  faults : g.K.Sink.faults l.sink ≡ g.K.Sink.faults l.fn.sink;
}

abbrev pub invariant-expr-loop-item : goal.invariant-expr-loop-item
invariant-expr-loop-item g l = record {
  text : Done l.fn.gap (g.K.Sink.written l.fn.sink) l.gap (g.K.Sink.written l.sink) (target_words (out-Expr l.fn.value).targets ++ operand_words (out-Expr l.fn.value).operand ++ each_behind (Mark sign.Semicolon) (map each_message (take l.item-index l.item-items)));
  faults : g.K.Sink.faults l.sink ≡ g.K.Sink.faults l.fn.sink;
}

abbrev pub invariant-message-loop-argument : goal.invariant-message-loop-argument
invariant-message-loop-argument g l = record {
  text : Done l.fn.gap (g.K.Sink.written l.fn.sink) l.gap (g.K.Sink.written l.sink) (sent_words l.selector (map operand_words (take l.argument-index l.argument-items)));
  within : l.at ≤ length l.selector;
  rest : drop l.at l.selector ≡ others (map operand_words (take l.argument-index l.argument-items)) l.selector;
  faults : g.K.Sink.faults l.sink ≡ g.K.Sink.faults l.fn.sink;
}

abbrev pub invariant-parts-loop-item : goal.invariant-parts-loop-item
invariant-parts-loop-item g l = record {
  text : Done l.fn.gap (g.K.Sink.written l.fn.sink) l.gap (g.K.Sink.written l.sink) (temporary_words l.fn.bar (out-Body l.fn.value).temporaries ++ parted (Mark l.fn.stop) (map statement_words (take l.item-index l.item-items)));
  due : l.due ≡ has (map statement_words (take l.item-index l.item-items));
  faults : g.K.Sink.faults l.sink ≡ g.K.Sink.faults l.fn.sink;
}
