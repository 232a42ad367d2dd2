use Rattle.sif_elements.proofs.StepLemmas.{told_made, step_refused}
use Rattle.sif_elements.proofs.progress.behind_text.Goals as goal

pub returns-in-Ok : goal.returns-in-Ok
returns-in-Ok c = told_made c.with_unit.result c.args.units c.args.target c.args.text.now c.in-Ok.kind c.in-Ok.ensures.unit c.with_unit.ensures

pub returns-in-Err-Fault : goal.returns-in-Err-Fault
returns-in-Err-Fault c = rw c.in-Err-Fault.field-0-is (step_refused c.args.units c.args.target c.args.text.now c.in-Err-Fault.byte c.in-Err-Fault.reason (rw c.in-Err-Fault.field-0-is at c.in-Err-Fault.ensures.fault))
