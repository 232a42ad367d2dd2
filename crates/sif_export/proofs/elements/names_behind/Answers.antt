use Rattle.std.proofs.Common.{rules, ◌∙◌, refl, ap, sym, take, drop, ◌+◌, ◌++◌, ◌∷◌, [], arith, List, ℕ, append_assoc}
use Rattle.std.proofs.lemmas.Result.{err_from_is_err_and}
use Rattle.std.specs.Io.KnownBytes.{append_known}
use Rattle.sif_chunks.specs.Split.{doubled}
use Rattle.sif_export.specs.Words.{quotes_doubled}
use Rattle.sif_export.specs.ExportText.{spaced_behind}
use Rattle.sif_export.proofs.PieceLemmas.{started, fails_then, written_then}
use Rattle.sif_export.proofs.Steps.{names_cut, names_more}
use Rattle.sif_export.proofs.elements.names_behind.Goals as goal

pub loop-name-init : goal.loop-name-init
loop-name-init g c = record { written = started _; faults = refl }

pub returns-in_err-piece-clause-text : goal.returns-in_err-piece-clause-text
returns-in_err-piece-clause-text g c =
    let items = c.args.names.now in
    let i = c.loop-name.name-index in
    let x = c.name-item.result in
    let so_far = quotes_doubled (spaced_behind (take i items)) in
    let rest = quotes_doubled (spaced_behind (drop (i + 1) items)) in
    let p = err_from_is_err_and c.from_residual.result c.from_residual.ensures.1 in
    rw p.1 (fails_then _ _ _ so_far (32 ∷ []) (quotes_doubled x ++ rest) _ c.loop-name.invariant.written c.in_err-piece.ensures.text (names_cut items i x (omega arith) c.name-item.is))

pub returns-in_err-inner_piece-clause-text : goal.returns-in_err-inner_piece-clause-text
returns-in_err-inner_piece-clause-text g c =
    let items = c.args.names.now in
    let i = c.loop-name.name-index in
    let x = c.name-item.result in
    let so_far = quotes_doubled (spaced_behind (take i items)) in
    let rest = quotes_doubled (spaced_behind (drop (i + 1) items)) in
    let p = err_from_is_err_and c.from_residual-in_err-inner_piece.result c.from_residual-in_err-inner_piece.ensures.1 in
    rw p.1 (fails_then _ _ _ (so_far ++ 32 ∷ []) (quotes_doubled x) rest _ (written_then _ _ _ so_far (32 ∷ []) c.loop-name.invariant.written c.in_ok-piece.ensures.text) (rw c.as_bytes.ensures at c.in_err-inner_piece.ensures.text)
    (names_cut items i x (omega arith) c.name-item.is ∙ sym (append_assoc so_far (32 ∷ []) (quotes_doubled x ++ rest))))

pub loop-name-preserved : goal.loop-name-preserved
loop-name-preserved g c =
    let items = c.args.names.now in
    let i = c.loop-name.name-index in
    let x = c.name-item.result in
    let so_far = quotes_doubled (spaced_behind (take i items)) in
    let rest = quotes_doubled (spaced_behind (drop (i + 1) items)) in
    record {
      written = written_then _ _ _ (so_far ++ 32 ∷ []) (quotes_doubled x) (written_then _ _ _ so_far (32 ∷ []) c.loop-name.invariant.written c.in_ok-piece.ensures.text) (rw c.as_bytes.ensures at c.in_ok-inner_piece.ensures.text)
          ∙ ap (λ (ys : List ℕ). append_known (g.K.Sink.written c.args.sink.now) (doubled ys)) (sym (names_more items i x (omega arith) c.name-item.is));
      faults = search rules;
    }
