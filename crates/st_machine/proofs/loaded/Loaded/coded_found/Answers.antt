use Rattle.std.proofs.Common.{Some, refl, ap}
use Rattle.st_code.specs.Lookup.{Found}
use Rattle.st_machine.proofs.loaded.Loaded.coded_found.Goals as goal

pub returns-in-Some : goal.returns-in-Some
returns-in-Some c = rw c.in-Some.is (ap (λ (f : Found). Some f) c.coded.ensures)

pub returns-in-None : goal.returns-in-None
returns-in-None c = rw c.in-None.is refl
