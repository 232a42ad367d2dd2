use Rattle.std.proofs.Common.{rules, ◌≡◌, ◌∙◌, ◌++◌, refl, ap, sym, take, drop, map, ◌+◌, ◌-◌, ◌∷◌, [], arith, ◌≤◌, length, List, true≢false, append_assoc, if◌then◌else◌}
use Rattle.std.proofs.lemmas.List.{append-nil, take_rest, drop-drop, length-drop}
use Rattle.std.proofs.lemmas.Result.{err_from_is_err_and}
use Rattle.st_tree.specs.declared.tree.Block.{out-Block}
use Rattle.st_tree.specs.declared.tree.Body.{out-Body}
use Rattle.st_tree.specs.declared.tree.Expr.{out-Expr}
use Rattle.st_tree.specs.declared.tree.Message.{out-Message}
use Rattle.st_tree.specs.declared.tree.Operand.{out-Operand}
use Rattle.sif_export.specs.Words.{Word, Named, Mark}
use Rattle.sif_export.specs.declared.sign.Sign.TheVariants as sign
use Rattle.sif_export.specs.TreeWords.{primary_words, statement_words, body_parts, expr_words, each_message, operand_words, target_words, temporary_words, parameter_words, joined, each_behind, parted, sent_words, message_words, first_part, other_parts, part_word}
use Rattle.sif_export.proofs.LaidLemmas.{done_none, done_more, done_then, done_as, lays_as, lays_more, stopped, stopped_then}
use Rattle.sif_export.proofs.Steps.{operand_out, expr_out, message_out, block_out, parts_out, block_in, paren_in, variable_in, literal_in, self_in, super_in, value_in, return_in, joined_cut, joined_more, behind_cut, behind_more, sent_cut, sent_more, others_more, in_place, part_spelled, spelled_as, has_more, parted_cut, parted_more, whole_list, whole_message, others}
use Rattle.sif_export.proofs.trees.+export.Goals as goal

-- a primary

pub primary-returns-in-Variable-clause-text : goal.primary-returns-in-Variable-clause-text
primary-returns-in-Variable-clause-text g t c = lays_as _ _ _ _ _ _ (c.word.ensures.text (Named c.in-Variable.name.text) (sym c.as_bytes.ensures, refl, refl)) (ap primary_words c.in-Variable.is ∙ variable_in c.in-Variable.name)

pub primary-returns-in-SelfValue-clause-text : goal.primary-returns-in-SelfValue-clause-text
primary-returns-in-SelfValue-clause-text g t c = lays_as _ _ _ _ _ _ (c.word-in-SelfValue.ensures.text (Named (115 ∷ 101 ∷ 108 ∷ 102 ∷ [])) (refl, refl, refl)) (ap primary_words c.in-SelfValue.is ∙ self_in)

pub primary-returns-in-SuperValue-clause-text : goal.primary-returns-in-SuperValue-clause-text
primary-returns-in-SuperValue-clause-text g t c = lays_as _ _ _ _ _ _ (c.word-in-SuperValue.ensures.text (Named (115 ∷ 117 ∷ 112 ∷ 101 ∷ 114 ∷ [])) (refl, refl, refl)) (ap primary_words c.in-SuperValue.is ∙ super_in)

pub primary-returns-in-Literal-clause-text : goal.primary-returns-in-Literal-clause-text
primary-returns-in-Literal-clause-text g t c = lays_as _ _ _ _ _ _ c.literal.ensures.text (ap primary_words c.in-Literal.is ∙ literal_in c.in-Literal.value)

pub primary-returns-in-Block-clause-text : goal.primary-returns-in-Block-clause-text
primary-returns-in-Block-clause-text g t c = lays_as _ _ _ _ _ _ c.block.ensures.text (ap primary_words c.in-Block.is ∙ block_in c.in-Block.value)

pub primary-returns-in_err-gap-in-Paren-clause-text : goal.primary-returns-in_err-gap-in-Paren-clause-text
primary-returns-in_err-gap-in-Paren-clause-text g t c =
    let p = err_from_is_err_and c.from_residual.result c.from_residual.ensures.1 in
    rw p.1 (stopped _ _ _ _ _ [] (Mark sign.ParenOpen ∷ []) (expr_words c.in-Paren.value ++ Mark sign.ParenClose ∷ []) _ (done_none _ _) c.in_err-gap-in-Paren.ensures.text (ap primary_words c.in-Paren.is ∙ paren_in c.in-Paren.value))

pub primary-returns-in_err-gap-in-Paren-2-clause-text : goal.primary-returns-in_err-gap-in-Paren-2-clause-text
primary-returns-in_err-gap-in-Paren-2-clause-text g t c =
    let p = err_from_is_err_and c.from_residual-in_err-gap-in-Paren-2.result c.from_residual-in_err-gap-in-Paren-2.ensures.1 in
    rw p.1 (stopped _ _ _ _ _ (Mark sign.ParenOpen ∷ []) (expr_words c.get.result.now) (Mark sign.ParenClose ∷ []) _ c.in_ok-gap-in-Paren.ensures.text c.in_err-gap-in-Paren-2.ensures.text
    (ap primary_words c.in-Paren.is ∙ paren_in c.in-Paren.value ∙ ap (λ e. Mark sign.ParenOpen ∷ expr_words e ++ Mark sign.ParenClose ∷ []) (sym c.get.ensures)))

pub primary-returns-in_ok-gap-in-Paren-2-clause-text : goal.primary-returns-in_ok-gap-in-Paren-2-clause-text
primary-returns-in_ok-gap-in-Paren-2-clause-text g t c =
    lays_as _ _ _ _ _ _ (lays_more _ _ _ _ _ _ (Mark sign.ParenOpen ∷ expr_words c.get.result.now) (Mark sign.ParenClose ∷ []) (done_more _ _ _ _ _ _ (Mark sign.ParenOpen ∷ []) (expr_words c.get.result.now) c.in_ok-gap-in-Paren.ensures.text c.in_ok-gap-in-Paren-2.ensures.text) c.mark-in-Paren.ensures.text)
    (ap primary_words c.in-Paren.is ∙ paren_in c.in-Paren.value ∙ ap (λ e. Mark sign.ParenOpen ∷ expr_words e ++ Mark sign.ParenClose ∷ []) (sym c.get.ensures))

-- a statement

pub statement-returns-in-Value-clause-text : goal.statement-returns-in-Value-clause-text
statement-returns-in-Value-clause-text g t c = lays_as _ _ _ _ _ _ c.expr.ensures.text (ap statement_words c.in-Value.is ∙ value_in c.in-Value.value)

pub statement-returns-in_err-gap-in-Return-clause-text : goal.statement-returns-in_err-gap-in-Return-clause-text
statement-returns-in_err-gap-in-Return-clause-text g t c =
    let p = err_from_is_err_and c.from_residual.result c.from_residual.ensures.1 in
    rw p.1 (stopped _ _ _ _ _ [] (Mark sign.Caret ∷ []) (expr_words c.in-Return.value) _ (done_none _ _) c.in_err-gap-in-Return.ensures.text (ap statement_words c.in-Return.is ∙ return_in c.in-Return.value))

pub statement-returns-in_ok-gap-in-Return-clause-text : goal.statement-returns-in_ok-gap-in-Return-clause-text
statement-returns-in_ok-gap-in-Return-clause-text g t c =
    lays_as _ _ _ _ _ _ (lays_more _ _ _ _ _ _ (Mark sign.Caret ∷ []) (expr_words c.in-Return.value) c.in_ok-gap-in-Return.ensures.text c.expr-in-Return.ensures.text) (ap statement_words c.in-Return.is ∙ return_in c.in-Return.value)

-- a block

pub block-returns-in_err-gap-clause-text : goal.block-returns-in_err-gap-clause-text
block-returns-in_err-gap-clause-text g t c =
    let b = out-Block c.args.value.now in
    let p = err_from_is_err_and c.from_residual.result c.from_residual.ensures.1 in
    rw p.1 (stopped _ _ _ _ _ [] (Mark sign.BlockOpen ∷ []) (parameter_words b.parameters ++ body_parts sign.Period sign.Bar b.body ++ Mark sign.BlockClose ∷ []) _ (done_none _ _) c.in_err-gap.ensures.text (block_out c.args.value.now))

pub block-returns-in_err-gap-2-clause-text : goal.block-returns-in_err-gap-2-clause-text
block-returns-in_err-gap-2-clause-text g t c =
    let b = out-Block c.args.value.now in
    let p = err_from_is_err_and c.from_residual-in_err-gap-2.result c.from_residual-in_err-gap-2.ensures.1 in
    rw p.1 (stopped _ _ _ _ _ (Mark sign.BlockOpen ∷ []) (parameter_words b.parameters) (body_parts sign.Period sign.Bar b.body ++ Mark sign.BlockClose ∷ []) _ c.in_ok-gap.ensures.text c.in_err-gap-2.ensures.text
    (block_out c.args.value.now ∙ ap (λ (ws : List Word). Mark sign.BlockOpen ∷ ws) (append_assoc (parameter_words b.parameters) (body_parts sign.Period sign.Bar b.body) (Mark sign.BlockClose ∷ []))))

pub block-returns-in_err-gap-3-clause-text : goal.block-returns-in_err-gap-3-clause-text
block-returns-in_err-gap-3-clause-text g t c =
    let b = out-Block c.args.value.now in
    let p = err_from_is_err_and c.from_residual-in_err-gap-3.result c.from_residual-in_err-gap-3.ensures.1 in
    rw p.1 (stopped_then _ _ _ _ _ _ _ (Mark sign.BlockOpen ∷ []) (parameter_words b.parameters) (body_parts sign.Period sign.Bar b.body) (Mark sign.BlockClose ∷ []) _ c.in_ok-gap.ensures.text c.in_ok-gap-2.ensures.text c.in_err-gap-3.ensures.text
    (block_out c.args.value.now ∙ ap (λ (ws : List Word). Mark sign.BlockOpen ∷ ws) (append_assoc (parameter_words b.parameters) (body_parts sign.Period sign.Bar b.body) (Mark sign.BlockClose ∷ []))))

pub block-returns-clause-text : goal.block-returns-clause-text
block-returns-clause-text g t c =
    let b = out-Block c.args.value.now in
    lays_as _ _ _ _ _ _ (lays_more _ _ _ _ _ _ (Mark sign.BlockOpen ∷ (parameter_words b.parameters ++ body_parts sign.Period sign.Bar b.body)) (Mark sign.BlockClose ∷ []) (done_then _ _ _ _ _ _ _ _ (Mark sign.BlockOpen ∷ []) (parameter_words b.parameters) (body_parts sign.Period sign.Bar b.body) c.in_ok-gap.ensures.text c.in_ok-gap-2.ensures.text c.in_ok-gap-3.ensures.text) c.mark-2.ensures.text) (block_out c.args.value.now)

-- an operand

pub operand-returns-in_err-gap-clause-text : goal.operand-returns-in_err-gap-clause-text
operand-returns-in_err-gap-clause-text g t c =
    let o = out-Operand c.args.value.now in
    let p = err_from_is_err_and c.from_residual.result c.from_residual.ensures.1 in
    rw p.1 (stopped _ _ _ _ _ [] (primary_words o.primary) (joined (map each_message o.chain)) _ (done_none _ _) c.in_err-gap.ensures.text (operand_out c.args.value.now))

pub operand-returns-in_err-gap-2-clause-text : goal.operand-returns-in_err-gap-2-clause-text
operand-returns-in_err-gap-2-clause-text g t c =
    let o = out-Operand c.args.value.now in
    let items = c.as_slice-item-items.result.now in
    let i = c.loop-item.item-index in
    let x = c.item-item.result in
    let p = err_from_is_err_and c.from_residual-in_err-gap-2.result c.from_residual-in_err-gap-2.ensures.1 in
    rw p.1 (stopped _ _ _ _ _ (primary_words o.primary ++ joined (map each_message (take i items))) (each_message x) (joined (map each_message (drop (i + 1) items))) _ c.loop-item.invariant.text c.in_err-gap-2.ensures.text
    (operand_out c.args.value.now ∙ in_place (primary_words o.primary) _ _ (each_message x) _ (ap (λ ys. joined (map each_message ys)) (sym c.as_slice-item-items.ensures) ∙ joined_cut each_message items i x (omega arith) c.item-item.is)))

pub operand-loop-item-preserved : goal.operand-loop-item-preserved
operand-loop-item-preserved g t c =
    let o = out-Operand c.args.value.now in
    let items = c.as_slice-item-items.result.now in
    let i = c.loop-item.item-index in
    let x = c.item-item.result in
    record {
      text = done_as _ _ _ _ _ _ (done_more _ _ _ _ _ _ (primary_words o.primary ++ joined (map each_message (take i items))) (each_message x) c.loop-item.invariant.text c.in_ok-gap-2.ensures.text)
          (ap (λ (ws : List Word). primary_words o.primary ++ ws) (joined_more each_message items i x (omega arith) c.item-item.is) ∙ sym (append_assoc (primary_words o.primary) (joined (map each_message (take i items))) (each_message x)));
      faults = search rules;
    }

pub operand-returns-clause-text : goal.operand-returns-clause-text
operand-returns-clause-text g t c =
    let items = c.as_slice-item-items.result.now in
    done_as _ _ _ _ _ _ c.loop-item.invariant.text (operand_out c.args.value.now ∙ ap (λ ys. primary_words (out-Operand c.args.value.now).primary ++ joined (map each_message ys)) (sym c.as_slice-item-items.ensures ∙ sym (whole_list _ items (omega arith))))

-- an expression

pub expr-returns-in_err-gap-clause-text : goal.expr-returns-in_err-gap-clause-text
expr-returns-in_err-gap-clause-text g t c =
    let e = out-Expr c.args.value.now in
    let p = err_from_is_err_and c.from_residual.result c.from_residual.ensures.1 in
    rw p.1 (stopped _ _ _ _ _ [] (target_words e.targets) (operand_words e.operand ++ each_behind (Mark sign.Semicolon) (map each_message e.cascade)) _ (done_none _ _) c.in_err-gap.ensures.text
    (expr_out c.args.value.now ∙ append_assoc (target_words e.targets) (operand_words e.operand) (each_behind (Mark sign.Semicolon) (map each_message e.cascade))))

pub expr-returns-in_err-gap-2-clause-text : goal.expr-returns-in_err-gap-2-clause-text
expr-returns-in_err-gap-2-clause-text g t c =
    let e = out-Expr c.args.value.now in
    let p = err_from_is_err_and c.from_residual-in_err-gap-2.result c.from_residual-in_err-gap-2.ensures.1 in
    rw p.1 (stopped _ _ _ _ _ (target_words e.targets) (operand_words e.operand) (each_behind (Mark sign.Semicolon) (map each_message e.cascade)) _ c.in_ok-gap.ensures.text c.in_err-gap-2.ensures.text
    (expr_out c.args.value.now ∙ append_assoc (target_words e.targets) (operand_words e.operand) (each_behind (Mark sign.Semicolon) (map each_message e.cascade))))

pub expr-loop-item-init : goal.expr-loop-item-init
expr-loop-item-init g t c =
    let e = out-Expr c.args.value.now in
    record {
      text = done_as _ _ _ _ _ _ (done_more _ _ _ _ _ _ (target_words e.targets) (operand_words e.operand) c.in_ok-gap.ensures.text c.in_ok-gap-2.ensures.text) (append-nil (target_words e.targets ++ operand_words e.operand));
      faults = search rules;
    }

pub expr-returns-in_err-gap-3-clause-text : goal.expr-returns-in_err-gap-3-clause-text
expr-returns-in_err-gap-3-clause-text g t c =
    let e = out-Expr c.args.value.now in
    let items = c.as_slice-item-items.result.now in
    let i = c.loop-item.item-index in
    let x = c.item-item.result in
    let p = err_from_is_err_and c.from_residual-in_err-gap-3.result c.from_residual-in_err-gap-3.ensures.1 in
    rw p.1 (stopped _ _ _ _ _ ((target_words e.targets ++ operand_words e.operand) ++ each_behind (Mark sign.Semicolon) (map each_message (take i items))) (Mark sign.Semicolon ∷ []) (each_message x ++ each_behind (Mark sign.Semicolon) (map each_message (drop (i + 1) items))) _ c.loop-item.invariant.text c.in_err-gap-3.ensures.text
    (expr_out c.args.value.now ∙ in_place (target_words e.targets ++ operand_words e.operand) _ _ (Mark sign.Semicolon ∷ []) _ (ap (λ ys. each_behind (Mark sign.Semicolon) (map each_message ys)) (sym c.as_slice-item-items.ensures) ∙ behind_cut (Mark sign.Semicolon) each_message items i x (omega arith) c.item-item.is)))

pub expr-returns-in_err-gap-4-clause-text : goal.expr-returns-in_err-gap-4-clause-text
expr-returns-in_err-gap-4-clause-text g t c =
    let e = out-Expr c.args.value.now in
    let items = c.as_slice-item-items.result.now in
    let i = c.loop-item.item-index in
    let x = c.item-item.result in
    let p = err_from_is_err_and c.from_residual-in_err-gap-4.result c.from_residual-in_err-gap-4.ensures.1 in
    rw p.1 (stopped_then _ _ _ _ _ _ _ ((target_words e.targets ++ operand_words e.operand) ++ each_behind (Mark sign.Semicolon) (map each_message (take i items))) (Mark sign.Semicolon ∷ []) (each_message x) (each_behind (Mark sign.Semicolon) (map each_message (drop (i + 1) items))) _ c.loop-item.invariant.text c.in_ok-gap-3.ensures.text c.in_err-gap-4.ensures.text
    (expr_out c.args.value.now ∙ in_place (target_words e.targets ++ operand_words e.operand) _ _ (Mark sign.Semicolon ∷ []) _ (ap (λ ys. each_behind (Mark sign.Semicolon) (map each_message ys)) (sym c.as_slice-item-items.ensures) ∙ behind_cut (Mark sign.Semicolon) each_message items i x (omega arith) c.item-item.is)))

pub expr-loop-item-preserved : goal.expr-loop-item-preserved
expr-loop-item-preserved g t c =
    let e = out-Expr c.args.value.now in
    let items = c.as_slice-item-items.result.now in
    let i = c.loop-item.item-index in
    let x = c.item-item.result in
    record {
      text = done_as _ _ _ _ _ _ (done_then _ _ _ _ _ _ _ _ ((target_words e.targets ++ operand_words e.operand) ++ each_behind (Mark sign.Semicolon) (map each_message (take i items))) (Mark sign.Semicolon ∷ []) (each_message x) c.loop-item.invariant.text c.in_ok-gap-3.ensures.text c.in_ok-gap-4.ensures.text)
          (in_place (target_words e.targets ++ operand_words e.operand) _ _ (Mark sign.Semicolon ∷ []) (each_message x) (behind_more (Mark sign.Semicolon) each_message items i x (omega arith) c.item-item.is));
      faults = search rules;
    }

pub expr-returns-clause-text : goal.expr-returns-clause-text
expr-returns-clause-text g t c =
    let items = c.as_slice-item-items.result.now in
    done_as _ _ _ _ _ _ c.loop-item.invariant.text (expr_out c.args.value.now ∙ ap (λ ys. target_words (out-Expr c.args.value.now).targets ++ operand_words (out-Expr c.args.value.now).operand ++ each_behind (Mark sign.Semicolon) (map each_message ys)) (sym c.as_slice-item-items.ensures ∙ sym (whole_list _ items (omega arith))))

-- a body

pub parts-returns-in_err-gap-clause-text : goal.parts-returns-in_err-gap-clause-text
parts-returns-in_err-gap-clause-text g t c =
    let b = out-Body c.args.value.now in
    let p = err_from_is_err_and c.from_residual.result c.from_residual.ensures.1 in
    rw p.1 (stopped _ _ _ _ _ [] (temporary_words c.args.bar b.temporaries) (parted (Mark c.args.stop) (map statement_words b.statements)) _ (done_none _ _) c.in_err-gap.ensures.text (parts_out c.args.stop c.args.bar c.args.value.now))

pub parts-returns-in_err-gap-2-clause-text : goal.parts-returns-in_err-gap-2-clause-text
parts-returns-in_err-gap-2-clause-text g t c =
    let b = out-Body c.args.value.now in
    let items = c.as_slice-item-items.result.now in
    let i = c.loop-item.item-index in
    let x = c.item-item.result in
    let p = err_from_is_err_and c.from_residual-in_err-gap-2.result c.from_residual-in_err-gap-2.ensures.1 in
    rw p.1 (stopped _ _ _ _ _ (temporary_words c.args.bar b.temporaries ++ parted (Mark c.args.stop) (map statement_words (take i items))) (if c.loop-item.due then Mark c.args.stop ∷ [] else []) (statement_words x ++ each_behind (Mark c.args.stop) (map statement_words (drop (i + 1) items))) _ c.loop-item.invariant.text c.in_err-gap-2.ensures.text
    (parts_out c.args.stop c.args.bar c.args.value.now ∙ in_place (temporary_words c.args.bar b.temporaries) _ _ (if c.loop-item.due then Mark c.args.stop ∷ [] else []) _ (ap (λ ys. parted (Mark c.args.stop) (map statement_words ys)) (sym c.as_slice-item-items.ensures) ∙ parted_cut (Mark c.args.stop) statement_words items i x c.loop-item.due (omega arith) c.item-item.is c.loop-item.invariant.due)))

pub parts-returns-in_err-gap-3-clause-text : goal.parts-returns-in_err-gap-3-clause-text
parts-returns-in_err-gap-3-clause-text g t c =
    let b = out-Body c.args.value.now in
    let items = c.as_slice-item-items.result.now in
    let i = c.loop-item.item-index in
    let x = c.item-item.result in
    let p = err_from_is_err_and c.from_residual-in_err-gap-3.result c.from_residual-in_err-gap-3.ensures.1 in
    rw p.1 (stopped_then _ _ _ _ _ _ _ (temporary_words c.args.bar b.temporaries ++ parted (Mark c.args.stop) (map statement_words (take i items))) (if c.loop-item.due then Mark c.args.stop ∷ [] else []) (statement_words x) (each_behind (Mark c.args.stop) (map statement_words (drop (i + 1) items))) _ c.loop-item.invariant.text c.in_ok-gap-2.ensures.text c.in_err-gap-3.ensures.text
    (parts_out c.args.stop c.args.bar c.args.value.now ∙ in_place (temporary_words c.args.bar b.temporaries) _ _ (if c.loop-item.due then Mark c.args.stop ∷ [] else []) _ (ap (λ ys. parted (Mark c.args.stop) (map statement_words ys)) (sym c.as_slice-item-items.ensures) ∙ parted_cut (Mark c.args.stop) statement_words items i x c.loop-item.due (omega arith) c.item-item.is c.loop-item.invariant.due)))

pub parts-loop-item-preserved : goal.parts-loop-item-preserved
parts-loop-item-preserved g t c =
    let b = out-Body c.args.value.now in
    let items = c.as_slice-item-items.result.now in
    let i = c.loop-item.item-index in
    let x = c.item-item.result in
    record {
      text = done_as _ _ _ _ _ _ (done_then _ _ _ _ _ _ _ _ (temporary_words c.args.bar b.temporaries ++ parted (Mark c.args.stop) (map statement_words (take i items))) (if c.loop-item.due then Mark c.args.stop ∷ [] else []) (statement_words x) c.loop-item.invariant.text c.in_ok-gap-2.ensures.text c.in_ok-gap-3.ensures.text)
          (in_place (temporary_words c.args.bar b.temporaries) _ _ (if c.loop-item.due then Mark c.args.stop ∷ [] else []) (statement_words x) (parted_more (Mark c.args.stop) statement_words items i x c.loop-item.due (omega arith) c.item-item.is c.loop-item.invariant.due));
      due = has_more statement_words items i x (omega arith) c.item-item.is;
      faults = search rules;
    }

pub parts-returns-clause-text : goal.parts-returns-clause-text
parts-returns-clause-text g t c =
    let items = c.as_slice-item-items.result.now in
    done_as _ _ _ _ _ _ c.loop-item.invariant.text (parts_out c.args.stop c.args.bar c.args.value.now ∙ ap (λ ys. temporary_words c.args.bar (out-Body c.args.value.now).temporaries ++ parted (Mark c.args.stop) (map statement_words ys)) (sym c.as_slice-item-items.ensures ∙ sym (whole_list _ items (omega arith))))

-- a message

pub message-returns-then-is_empty-clause-text : goal.message-returns-then-is_empty-clause-text
message-returns-then-is_empty-clause-text g t c =
    let m = out-Message c.args.value.now in
    lays_as _ _ _ _ _ _ (c.word.ensures.text (Named m.selector) (sym c.as_bytes.ensures, refl, refl)) (message_out c.args.value.now ∙ ap (λ xs. message_words m.selector (map operand_words xs)) (c.if-is_empty.ensures.0 refl))

pub message-loop-argument-init : goal.message-loop-argument-init
message-loop-argument-init g t c = record { text = done_none _ _; within = omega arith; rest = refl; faults = refl }

pub message-returns-in_err-gap-clause-text : goal.message-returns-in_err-gap-clause-text
message-returns-in_err-gap-clause-text g t c =
    let m = out-Message c.args.value.now in
    let s = c.as_bytes-selector.result.now in
    let items = c.as_slice-argument-items.result.now in
    let i = c.loop-argument.argument-index in
    let x = c.argument-item.result in
    let before = others (map operand_words (take i items)) s in
    let w = part_word (first_part before) in
    let p = err_from_is_err_and c.from_residual.result c.from_residual.ensures.1 in
    let part : first_part before ≡ take c.part_end-end.result (take (length s - c.loop-argument.at) (drop c.loop-argument.at s)) = ap first_part (sym c.loop-argument.invariant.rest) ∙ rw take_rest (sym (rw take_rest at c.part_end-end.ensures.part)) in
    rw p.1 (stopped _ _ _ _ _ (sent_words s (map operand_words (take i items))) (w ∷ []) (operand_words x ++ sent_words (other_parts before) (map operand_words (drop (i + 1) items))) _ c.loop-argument.invariant.text
    (c.in_err-gap.ensures.text w (spelled_as w (first_part before) _ (part_spelled (first_part before)) part))
    (whole_message c.args.value.now s items (sym c.as_bytes-selector.ensures) (sym c.as_slice-argument-items.ensures) (λ e. true≢false (sym (c.if-is_empty.ensures.1 e))) ∙ sent_cut s operand_words items i x (omega arith) c.argument-item.is))

pub message-returns-in_err-gap-2-clause-text : goal.message-returns-in_err-gap-2-clause-text
message-returns-in_err-gap-2-clause-text g t c =
    let m = out-Message c.args.value.now in
    let s = c.as_bytes-selector.result.now in
    let items = c.as_slice-argument-items.result.now in
    let i = c.loop-argument.argument-index in
    let x = c.argument-item.result in
    let before = others (map operand_words (take i items)) s in
    let w = part_word (first_part before) in
    let p = err_from_is_err_and c.from_residual-in_err-gap-2.result c.from_residual-in_err-gap-2.ensures.1 in
    let part : first_part before ≡ take c.part_end-end.result (take (length s - c.loop-argument.at) (drop c.loop-argument.at s)) = ap first_part (sym c.loop-argument.invariant.rest) ∙ rw take_rest (sym (rw take_rest at c.part_end-end.ensures.part)) in
    rw p.1 (stopped_then _ _ _ _ _ _ _ (sent_words s (map operand_words (take i items))) (w ∷ []) (operand_words x) (sent_words (other_parts before) (map operand_words (drop (i + 1) items))) _ c.loop-argument.invariant.text
    (c.in_ok-gap.ensures.text w (spelled_as w (first_part before) _ (part_spelled (first_part before)) part)) c.in_err-gap-2.ensures.text
    (whole_message c.args.value.now s items (sym c.as_bytes-selector.ensures) (sym c.as_slice-argument-items.ensures) (λ e. true≢false (sym (c.if-is_empty.ensures.1 e))) ∙ sent_cut s operand_words items i x (omega arith) c.argument-item.is))

pub message-loop-argument-preserved : goal.message-loop-argument-preserved
message-loop-argument-preserved g t c =
    let s = c.as_bytes-selector.result.now in
    let items = c.as_slice-argument-items.result.now in
    let i = c.loop-argument.argument-index in
    let x = c.argument-item.result in
    let before = others (map operand_words (take i items)) s in
    let w = part_word (first_part before) in
    let part : first_part before ≡ take c.part_end-end.result (take (length s - c.loop-argument.at) (drop c.loop-argument.at s)) = ap first_part (sym c.loop-argument.invariant.rest) ∙ rw take_rest (sym (rw take_rest at c.part_end-end.ensures.part)) in
    let end : c.part_end-end.result ≤ length (drop c.loop-argument.at s) = rw take_rest at c.part_end-end.ensures.within in
    record {
      text = done_as _ _ _ _ _ _ (done_then _ _ _ _ _ _ _ _ (sent_words s (map operand_words (take i items))) (w ∷ []) (operand_words x) c.loop-argument.invariant.text
          (c.in_ok-gap.ensures.text w (spelled_as w (first_part before) _ (part_spelled (first_part before)) part)) c.in_ok-gap-2.ensures.text)
          (sent_more s operand_words items i x (omega arith) c.argument-item.is);
      within = omega (arith, length-drop c.loop-argument.at s);
      rest = sym (drop-drop c.part_end-end.result c.loop-argument.at s) ∙ (rw take_rest at c.part_end-end.ensures.others) ∙ ap other_parts c.loop-argument.invariant.rest ∙ sym (others_more s operand_words items i x (omega arith) c.argument-item.is);
      faults = search rules;
    }

pub message-returns-clause-text : goal.message-returns-clause-text
message-returns-clause-text g t c =
    let s = c.as_bytes-selector.result.now in
    let items = c.as_slice-argument-items.result.now in
    done_as _ _ _ _ _ _ c.loop-argument.invariant.text
    (whole_message c.args.value.now s items (sym c.as_bytes-selector.ensures) (sym c.as_slice-argument-items.ensures) (λ e. true≢false (sym (c.if-is_empty.ensures.1 e))) ∙ ap (λ xs. sent_words s (map operand_words xs)) (sym (whole_list _ items (omega arith))))
