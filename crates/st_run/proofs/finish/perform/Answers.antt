-- Each task has its outcome.
use Rattle.std.proofs.Common.{[], refl}
use Rattle.sif_export.specs.ExportText.{export_text}
use Rattle.st_answers.specs.Listing.{ok_line, listing}
use Rattle.st_shake.specs.Shaken.{shaken}
use Rattle.st_words.specs.declared.command.Task.TheVariants as task
use Rattle.st_run.specs.Outcomes.{done, OfTask}
use Rattle.st_run.proofs.CallLemmas.{ends_by, of_task}
use Rattle.st_run.proofs.finish.perform.Goals as goal

pub returns-in-Run : goal.returns-in-Run
returns-in-Run g c = of_task task.Run c.args.command c.args.definition.units c.args.bytes _ _ _ c.in-Run.is c.run.ensures

pub returns-in-Check : goal.returns-in-Check
returns-in-Check g c =
    let us = c.args.definition.units in
    of_task task.Check c.args.command us c.args.bytes _ _ _ c.in-Check.is (ends_by (OfTask task.Check c.args.command us c.args.bytes) (done (ok_line us)) _ _ _ refl (c.write_made.ensures (ok_line us) c.ok_line.ensures))

pub returns-in-List : goal.returns-in-List
returns-in-List g c =
    let us = c.args.definition.units in
    of_task task.List c.args.command us c.args.bytes _ _ _ c.in-List.is (ends_by (OfTask task.List c.args.command us c.args.bytes) (done (listing us)) _ _ _ refl (c.write_made-in-List.ensures (listing us) (rw c.as_slice.ensures at c.listing.ensures)))

pub returns-in-Export : goal.returns-in-Export
returns-in-Export g c =
    let us = c.args.definition.units in
    of_task task.Export c.args.command us c.args.bytes _ _ _ c.in-Export.is (ends_by (OfTask task.Export c.args.command us c.args.bytes) (done (export_text us)) _ _ _ refl (c.write_text.ensures _ refl))

pub returns-in-Gen : goal.returns-in-Gen
returns-in-Gen g c = of_task task.Gen c.args.command c.args.definition.units c.args.bytes _ _ _ c.in-Gen.is c.generate.ensures

pub returns-in-Trace : goal.returns-in-Trace
returns-in-Trace g c = of_task task.Trace c.args.command c.args.definition.units c.args.bytes _ _ _ c.in-Trace.is c.trace.ensures

pub returns-in-Audit : goal.returns-in-Audit
returns-in-Audit g c = of_task task.Audit c.args.command c.args.definition.units c.args.bytes _ _ _ c.in-Audit.is (ends_by (OfTask task.Audit c.args.command c.args.definition.units c.args.bytes) (done []) _ _ _ refl (c.write_out.ensures _ refl))

pub returns-in-Shake : goal.returns-in-Shake
returns-in-Shake g c =
    let us = c.args.definition.units in
    of_task task.Shake c.args.command us c.args.bytes _ _ _ c.in-Shake.is (ends_by (OfTask task.Shake c.args.command us c.args.bytes) (done (export_text (shaken us))) _ _ _ refl c.write_shaken.ensures)
