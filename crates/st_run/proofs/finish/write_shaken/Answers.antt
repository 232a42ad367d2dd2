-- The text is written, or memory was wanted for what is kept.
use Rattle.std.proofs.Common.{refl, ap}
use Rattle.sif_export.specs.ExportText.{export_text}
use Rattle.st_shake.specs.Shaken.{shaken}
use Rattle.st_run.specs.Outcomes.{done}
use Rattle.st_run.proofs.CallLemmas.{made_text}
use Rattle.st_run.proofs.finish.write_shaken.Goals as goal

pub returns-in-Ok : goal.returns-in-Ok
returns-in-Ok g c =
    made_text (export_text (shaken c.args.definition.now.units)) (export_text c.in-Ok.smaller.units) _ _ _ (ap export_text c.in-Ok.ensures) (c.write_text.ensures _ refl)

pub returns-in-Err : goal.returns-in-Err
returns-in-Err g c = c.report_want_of_memory.ensures.finishes (done (export_text (shaken c.args.definition.now.units))) _ refl
