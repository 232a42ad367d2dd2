-- The lines of limits.
use Rattle.st_run.proofs.report.put_ending.Goals as goal

pub returns-in-Depth-clause-text : goal.returns-in-Depth-clause-text
returns-in-Depth-clause-text g c = rw c.in-Depth.is (rw c.from.ensures at c.put_limit-in-Depth.ensures.text)

pub returns-in-Cells-clause-text : goal.returns-in-Cells-clause-text
returns-in-Cells-clause-text g c = rw c.in-Cells.is (rw c.from-in-Cells.ensures at c.put_limit-in-Cells.ensures.text)

pub returns-in-Integer-clause-text : goal.returns-in-Integer-clause-text
returns-in-Integer-clause-text g c = rw c.in-Integer.is c.put-in-Integer.ensures.text
