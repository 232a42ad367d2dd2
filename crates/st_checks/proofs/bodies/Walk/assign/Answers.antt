use Rattle.std.proofs.Common.{true}
use Rattle.st_checks.proofs.Walking.{saw-undeclared, saw-assignable, assigned-fixed}
use Rattle.st_checks.proofs.bodies.Walk.assign.Goals as goal

pub returns-in-Undeclared : goal.returns-in-Undeclared
returns-in-Undeclared c = saw-undeclared c.args.self.now c.args.name.now true c.note_place.new.least (rw (← c.as_bytes.ensures) c.in-Undeclared.ensures) c.note_place.ensures

pub returns-in-Fixed : goal.returns-in-Fixed
returns-in-Fixed c = assigned-fixed c.args.self.now c.args.name.now c.note_place-in-Fixed.new.least (rw (← c.as_bytes.ensures) c.in-Fixed.ensures) c.note_place-in-Fixed.ensures

pub returns-in-Assignable : goal.returns-in-Assignable
returns-in-Assignable c = saw-assignable c.args.self.now c.args.name.now true (rw (← c.as_bytes.ensures) c.in-Assignable.ensures)
