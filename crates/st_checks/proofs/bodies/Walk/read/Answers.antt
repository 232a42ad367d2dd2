use Rattle.std.proofs.Common.{false}
use Rattle.st_checks.proofs.Walking.{saw-undeclared, saw-known}
use Rattle.st_checks.proofs.bodies.Walk.read.Goals as goal

pub returns-in-Undeclared : goal.returns-in-Undeclared
returns-in-Undeclared c = saw-undeclared c.args.self.now c.args.name.now false c.note_place.new.least (rw (← c.as_bytes.ensures) c.in-Undeclared.ensures) c.note_place.ensures

pub returns-in-Fixed : goal.returns-in-Fixed
returns-in-Fixed c = saw-known c.args.self.now c.args.name.now c.meaning.result c.in-Fixed.is (rw (← c.as_bytes.ensures) c.meaning.ensures)
