use Rattle.std.proofs.Common.{rules, ◌≡◌, ◌∙◌, ◌++◌, refl, ap, sym, take, drop, map, ◌+◌, ◌-◌, ◌∷◌, [], arith, ◌≤◌, length, true≢false}
use Rattle.std.proofs.lemmas.List.{take_rest, drop-drop, length-drop}
use Rattle.std.proofs.lemmas.Result.{err_from_is_err_and}
use Rattle.sif_export.specs.Words.{Named}
use Rattle.sif_export.specs.TreeWords.{sent_words, name_words, first_part, other_parts, part_word}
use Rattle.sif_export.proofs.LaidLemmas.{done_none, done_then, done_as, lays_as, stopped, stopped_then}
use Rattle.sif_export.proofs.Steps.{sent_cut, sent_more, others_more, part_spelled, spelled_as, whole_list, whole_pattern, plain_pattern, others}
use Rattle.sif_export.proofs.elements.pattern.Goals as goal

pub returns-then-is_empty-clause-text : goal.returns-then-is_empty-clause-text
returns-then-is_empty-clause-text g c =
    lays_as _ _ _ _ _ _ (c.word.ensures.text (Named c.args.method.now.selector) (sym c.as_bytes-selector.ensures, refl, refl)) (plain_pattern c.args.method.now (c.if-is_empty.ensures.0 refl))

pub loop-parameter-init : goal.loop-parameter-init
loop-parameter-init g c = record { text = done_none _ _; within = omega arith; rest = refl; faults = refl }

pub returns-in_err-gap-clause-text : goal.returns-in_err-gap-clause-text
returns-in_err-gap-clause-text g c =
    let s = c.as_bytes-selector.result.now in
    let items = c.as_slice-parameter-items.result.now in
    let i = c.loop-parameter.parameter-index in
    let x = c.parameter-item.result in
    let before = others (map name_words (take i items)) s in
    let w = part_word (first_part before) in
    let p = err_from_is_err_and c.from_residual.result c.from_residual.ensures.1 in
    let part : first_part before ≡ take c.part_end-end.result (take (length s - c.loop-parameter.at) (drop c.loop-parameter.at s)) = ap first_part (sym c.loop-parameter.invariant.rest) ∙ rw take_rest (sym (rw take_rest at c.part_end-end.ensures.part)) in
    rw p.1 (stopped _ _ _ _ _ (sent_words s (map name_words (take i items))) (w ∷ []) (name_words x ++ sent_words (other_parts before) (map name_words (drop (i + 1) items))) _ c.loop-parameter.invariant.text
    (c.in_err-gap.ensures.text w (spelled_as w (first_part before) _ (part_spelled (first_part before)) part))
    (whole_pattern c.args.method.now s items (sym c.as_bytes-selector.ensures) (sym c.as_slice-parameter-items.ensures) (λ e. true≢false (sym (c.if-is_empty.ensures.1 e))) ∙ sent_cut s name_words items i x (omega arith) c.parameter-item.is))

pub returns-in_err-gap-2-clause-text : goal.returns-in_err-gap-2-clause-text
returns-in_err-gap-2-clause-text g c =
    let s = c.as_bytes-selector.result.now in
    let items = c.as_slice-parameter-items.result.now in
    let i = c.loop-parameter.parameter-index in
    let x = c.parameter-item.result in
    let before = others (map name_words (take i items)) s in
    let w = part_word (first_part before) in
    let p = err_from_is_err_and c.from_residual-in_err-gap-2.result c.from_residual-in_err-gap-2.ensures.1 in
    let part : first_part before ≡ take c.part_end-end.result (take (length s - c.loop-parameter.at) (drop c.loop-parameter.at s)) = ap first_part (sym c.loop-parameter.invariant.rest) ∙ rw take_rest (sym (rw take_rest at c.part_end-end.ensures.part)) in
    rw p.1 (stopped_then _ _ _ _ _ _ _ (sent_words s (map name_words (take i items))) (w ∷ []) (name_words x) (sent_words (other_parts before) (map name_words (drop (i + 1) items))) _ c.loop-parameter.invariant.text
    (c.in_ok-gap.ensures.text w (spelled_as w (first_part before) _ (part_spelled (first_part before)) part)) (c.in_err-gap-2.ensures.text (Named x.text) (sym c.as_bytes.ensures, refl, refl))
    (whole_pattern c.args.method.now s items (sym c.as_bytes-selector.ensures) (sym c.as_slice-parameter-items.ensures) (λ e. true≢false (sym (c.if-is_empty.ensures.1 e))) ∙ sent_cut s name_words items i x (omega arith) c.parameter-item.is))

pub loop-parameter-preserved : goal.loop-parameter-preserved
loop-parameter-preserved g c =
    let s = c.as_bytes-selector.result.now in
    let items = c.as_slice-parameter-items.result.now in
    let i = c.loop-parameter.parameter-index in
    let x = c.parameter-item.result in
    let before = others (map name_words (take i items)) s in
    let w = part_word (first_part before) in
    let part : first_part before ≡ take c.part_end-end.result (take (length s - c.loop-parameter.at) (drop c.loop-parameter.at s)) = ap first_part (sym c.loop-parameter.invariant.rest) ∙ rw take_rest (sym (rw take_rest at c.part_end-end.ensures.part)) in
    let end : c.part_end-end.result ≤ length (drop c.loop-parameter.at s) = rw take_rest at c.part_end-end.ensures.within in
    record {
      text = done_as _ _ _ _ _ _ (done_then _ _ _ _ _ _ _ _ (sent_words s (map name_words (take i items))) (w ∷ []) (name_words x) c.loop-parameter.invariant.text
          (c.in_ok-gap.ensures.text w (spelled_as w (first_part before) _ (part_spelled (first_part before)) part)) (c.in_ok-gap-2.ensures.text (Named x.text) (sym c.as_bytes.ensures, refl, refl)))
          (sent_more s name_words items i x (omega arith) c.parameter-item.is);
      within = omega (arith, length-drop c.loop-parameter.at s);
      rest = sym (drop-drop c.part_end-end.result c.loop-parameter.at s) ∙ (rw take_rest at c.part_end-end.ensures.others) ∙ ap other_parts c.loop-parameter.invariant.rest ∙ sym (others_more s name_words items i x (omega arith) c.parameter-item.is);
      faults = search rules;
    }

pub returns-clause-text : goal.returns-clause-text
returns-clause-text g c =
    let s = c.as_bytes-selector.result.now in
    let items = c.as_slice-parameter-items.result.now in
    done_as _ _ _ _ _ _ c.loop-parameter.invariant.text
    (whole_pattern c.args.method.now s items (sym c.as_bytes-selector.ensures) (sym c.as_slice-parameter-items.ensures) (λ e. true≢false (sym (c.if-is_empty.ensures.1 e))) ∙ ap (λ xs. sent_words s (map name_words xs)) (sym (whole_list _ items (omega arith))))
