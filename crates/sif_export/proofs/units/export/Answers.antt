use Rattle.std.proofs.Common.{ap, sym}
use Rattle.sif_chunks.specs.Writing.{all_closed}
use Rattle.sif_export.specs.ExportText.{element_texts, export_text}
use Rattle.sif_export.proofs.PieceLemmas.{gains_all, gains_part, gains_as}
use Rattle.sif_export.proofs.units.export.Goals as goal

pub returns-clause-all : goal.returns-clause-all
unfolding export_text
returns-clause-all g c = gains_all _ _ _ _ (gains_as _ _ c.units.result _ _ c.units.ensures.text (ap (λ us. all_closed (element_texts us)) (sym c.as_slice.ensures)))

pub returns-clause-part : goal.returns-clause-part
unfolding export_text
returns-clause-part g c = gains_part _ _ _ _ (gains_as _ _ c.units.result _ _ c.units.ensures.text (ap (λ us. all_closed (element_texts us)) (sym c.as_slice.ensures)))
