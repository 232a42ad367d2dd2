use Rattle.std.proofs.Common.{to_z-of_z, to_z, of_z, rules, ◌≡◌, ◌∙◌, ◌++◌, refl, ap, sym, take, drop, map, ◌+◌, ◌∷◌, [], arith, List}
use Rattle.std.specs.Int.{w128}
use Rattle.std.proofs.lemmas.Result.{err_from_is_err_and}
use Rattle.sif_export.specs.Words.{quoted, Word, Named, Mark, Char, Str, Symbol, Number}
use Rattle.sif_export.specs.declared.sign.Sign.TheVariants as sign
use Rattle.sif_export.specs.TreeWords.{literal_words, joined}
use Rattle.sif_export.proofs.LaidLemmas.{done_none, done_more, done_as, lays_as, lays_more, stopped}
use Rattle.sif_export.proofs.Steps.{joined_cut, joined_more, in_place_of, literal_array, literal_nil, literal_true, literal_false, literal_integer, literal_character, literal_str, literal_symbol, whole_list}
use Rattle.sif_export.proofs.trees.+literal.Goals as goal

pub returns-in-Nil-clause-text : goal.returns-in-Nil-clause-text
returns-in-Nil-clause-text g t c = lays_as _ _ _ _ _ _ (c.word.ensures.text (Named (110 ∷ 105 ∷ 108 ∷ [])) (refl, refl, refl)) (ap literal_words c.in-Nil.is ∙ literal_nil)

pub returns-in-True-clause-text : goal.returns-in-True-clause-text
returns-in-True-clause-text g t c = lays_as _ _ _ _ _ _ (c.word-in-True.ensures.text (Named (116 ∷ 114 ∷ 117 ∷ 101 ∷ [])) (refl, refl, refl)) (ap literal_words c.in-True.is ∙ literal_true)

pub returns-in-False-clause-text : goal.returns-in-False-clause-text
returns-in-False-clause-text g t c = lays_as _ _ _ _ _ _ (c.word-in-False.ensures.text (Named (102 ∷ 97 ∷ 108 ∷ 115 ∷ 101 ∷ [])) (refl, refl, refl)) (ap literal_words c.in-False.is ∙ literal_false)

pub returns-in-Integer-clause-text : goal.returns-in-Integer-clause-text
returns-in-Integer-clause-text g t c =
    let same : to_z w128 (of_z w128 c.in-Integer.n) ≡ c.in-Integer.n = grind (arith, to_z-of_z) in
    lays_as _ _ _ _ _ _ c.number.ensures.text (ap literal_words c.in-Integer.is ∙ literal_integer c.in-Integer.n ∙ ap (λ z. Number z ∷ []) (sym same))

pub returns-in-Character-clause-text : goal.returns-in-Character-clause-text
returns-in-Character-clause-text g t c = lays_as _ _ _ _ _ _ (c.word_of_two.ensures.text (Char c.in-Character.c) (refl, refl, refl)) (ap literal_words c.in-Character.is ∙ literal_character c.in-Character.c)

pub returns-in-Str-clause-text : goal.returns-in-Str-clause-text
returns-in-Str-clause-text g t c = lays_as _ _ _ _ _ _ (c.quoted_word.ensures.text (Str c.in-Str.t) (ap quoted (sym c.as_bytes.ensures), refl, refl)) (ap literal_words c.in-Str.is ∙ literal_str c.in-Str.t)

pub returns-in-Symbol-clause-text : goal.returns-in-Symbol-clause-text
returns-in-Symbol-clause-text g t c = lays_as _ _ _ _ _ _ c.symbol.ensures.text (ap literal_words c.in-Symbol.is ∙ literal_symbol c.in-Symbol.t ∙ ap (λ u. Symbol u ∷ []) (sym c.as_bytes-in-Symbol.ensures))

pub returns-in_err-gap-in-Array-clause-text : goal.returns-in_err-gap-in-Array-clause-text
returns-in_err-gap-in-Array-clause-text g t c =
    let p = err_from_is_err_and c.from_residual.result c.from_residual.ensures.1 in
    rw p.1 (stopped _ _ _ _ _ [] (Mark sign.ArrayOpen ∷ []) (joined (map literal_words c.in-Array.items) ++ Mark sign.ParenClose ∷ []) _ (done_none _ _) c.in_err-gap-in-Array.ensures.text (ap literal_words c.in-Array.is ∙ literal_array c.in-Array.items))

pub returns-in_err-gap-in-Array-2-clause-text : goal.returns-in_err-gap-in-Array-2-clause-text
returns-in_err-gap-in-Array-2-clause-text g t c =
    let items = c.as_slice-item-items.result.now in
    let i = c.loop-item.item-index in
    let x = c.item-item.result in
    let p = err_from_is_err_and c.from_residual-in_err-gap-in-Array-2.result c.from_residual-in_err-gap-in-Array-2.ensures.1 in
    rw p.1 (stopped _ _ _ _ _ (Mark sign.ArrayOpen ∷ joined (map literal_words (take i items))) (literal_words x) (joined (map literal_words (drop (i + 1) items)) ++ Mark sign.ParenClose ∷ []) _ c.loop-item.invariant.text c.in_err-gap-in-Array-2.ensures.text
    (ap literal_words c.in-Array.is ∙ literal_array c.in-Array.items ∙ ap (λ ys. Mark sign.ArrayOpen ∷ joined (map literal_words ys) ++ Mark sign.ParenClose ∷ []) (sym c.as_slice-item-items.ensures)
    ∙ in_place_of (Mark sign.ArrayOpen ∷ []) _ (joined (map literal_words (take i items))) (literal_words x) (joined (map literal_words (drop (i + 1) items))) (Mark sign.ParenClose ∷ []) (joined_cut literal_words items i x (omega arith) c.item-item.is)))

pub loop-item-preserved : goal.loop-item-preserved
loop-item-preserved g t c =
    let items = c.as_slice-item-items.result.now in
    let i = c.loop-item.item-index in
    let x = c.item-item.result in
    record {
      text = done_as _ _ _ _ _ _ (done_more _ _ _ _ _ _ (Mark sign.ArrayOpen ∷ joined (map literal_words (take i items))) (literal_words x) c.loop-item.invariant.text c.in_ok-gap-in-Array-2.ensures.text)
          (ap (λ (ws : List Word). Mark sign.ArrayOpen ∷ ws) (joined_more literal_words items i x (omega arith) c.item-item.is));
      faults = search rules;
    }

pub returns-after-loop-item-clause-text : goal.returns-after-loop-item-clause-text
returns-after-loop-item-clause-text g t c =
    let items = c.as_slice-item-items.result.now in
    lays_as _ _ _ _ _ _ (lays_more _ _ _ _ _ _ (Mark sign.ArrayOpen ∷ joined (map literal_words (take c.loop-item.item-index items))) (Mark sign.ParenClose ∷ []) c.loop-item.invariant.text c.mark-in-Array.ensures.text)
    (ap literal_words c.in-Array.is ∙ literal_array c.in-Array.items ∙ ap (λ ys. Mark sign.ArrayOpen ∷ joined (map literal_words ys) ++ Mark sign.ParenClose ∷ []) (sym c.as_slice-item-items.ensures ∙ sym (whole_list _ items (omega arith))))
