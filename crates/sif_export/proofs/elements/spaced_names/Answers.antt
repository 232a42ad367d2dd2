use Rattle.std.proofs.Common.{◌∙◌, ap, [], List, ℕ}
use Rattle.std.proofs.lemmas.Result.{err_from_is_err_and}
use Rattle.sif_chunks.specs.Split.{doubled}
use Rattle.sif_export.specs.Words.{quotes_doubled}
use Rattle.sif_export.specs.ExportText.{spaced, spaced_behind}
use Rattle.sif_export.proofs.PieceLemmas.{started, fails_then, puts_then, gains_as}
use Rattle.sif_export.proofs.Steps.{spaced-front}
use Rattle.sif_export.proofs.elements.spaced_names.Goals as goal

pub returns-in_err-inner_piece-in-Some-clause-text : goal.returns-in_err-inner_piece-in-Some-clause-text
returns-in_err-inner_piece-in-Some-clause-text g c =
    let first = c.in-Some.first.now in
    let others = c.in-Some.others.now in
    let p = err_from_is_err_and c.from_residual.result c.from_residual.ensures.1 in
    rw p.1 (fails_then _ _ _ [] (quotes_doubled first) (quotes_doubled (spaced_behind others)) _ (started _) (rw c.as_bytes.ensures at c.in_err-inner_piece-in-Some.ensures.text)
    (ap (λ (ns : List (List ℕ)). quotes_doubled (spaced ns)) c.in-Some.ensures.cases.0 ∙ spaced-front first others))

pub returns-in_ok-inner_piece-in-Some-clause-text : goal.returns-in_ok-inner_piece-in-Some-clause-text
returns-in_ok-inner_piece-in-Some-clause-text g c =
    let first = c.in-Some.first.now in
    let others = c.in-Some.others.now in
    gains_as _ _ _ _ _ (puts_then _ _ _ c.names_behind.result (quotes_doubled first) (quotes_doubled (spaced_behind others)) (rw c.as_bytes.ensures at c.in_ok-inner_piece-in-Some.ensures.text) c.names_behind.ensures.text)
    (ap (λ (ns : List (List ℕ)). doubled (quotes_doubled (spaced ns))) c.in-Some.ensures.cases.0 ∙ ap doubled (spaced-front first others))
