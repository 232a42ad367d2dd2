use Rattle.std.proofs.Common.{rules, ◌∙◌, refl, ap, sym, take, drop, ◌+◌, arith}
use Rattle.std.proofs.lemmas.Result.{err_from_is_err_and}
use Rattle.std.specs.Io.KnownBytes.{append_known}
use Rattle.sif_chunks.specs.Writing.{all_closed}
use Rattle.sif_export.specs.ExportText.{unit_texts, element_texts}
use Rattle.sif_export.proofs.PieceLemmas.{started, gains_stop, gained_then}
use Rattle.sif_export.proofs.Steps.{units_cut, units_more}
use Rattle.sif_export.proofs.units.units.Goals as goal

pub loop-item-init : goal.loop-item-init
loop-item-init g c = record { written = started _; faults = refl }

pub returns-in_err-unit-clause-text : goal.returns-in_err-unit-clause-text
returns-in_err-unit-clause-text g c =
    let items = c.args.units.now in
    let i = c.loop-item.item-index in
    let x = c.item-item.result in
    let p = err_from_is_err_and c.from_residual.result c.from_residual.ensures.1 in
    rw p.1 (gains_stop _ _ _ (all_closed (element_texts (take i items))) (all_closed (unit_texts x)) (all_closed (element_texts (drop (i + 1) items))) _ c.loop-item.invariant.written c.in_err-unit.ensures.text (units_cut items i x (omega arith) c.item-item.is))

pub loop-item-preserved : goal.loop-item-preserved
loop-item-preserved g c =
    let items = c.args.units.now in
    let i = c.loop-item.item-index in
    let x = c.item-item.result in
    record {
      written = gained_then _ _ _ (all_closed (element_texts (take i items))) (all_closed (unit_texts x)) c.loop-item.invariant.written c.in_ok-unit.ensures.text ∙ ap (append_known (g.K.Sink.written c.args.sink.now)) (sym (units_more items i x (omega arith) c.item-item.is));
      faults = search rules;
    }
