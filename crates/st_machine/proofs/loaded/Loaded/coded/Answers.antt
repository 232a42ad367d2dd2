use Rattle.std.proofs.Common.{refl, ap}
use Rattle.st_code.specs.Lookup.{UserMethod}
use Rattle.st_machine.proofs.loaded.Loaded.coded.Goals as goal

pub returns-in-User : goal.returns-in-User
returns-in-User c = rw c.in-User.is (ap (λ k. UserMethod k) c.unit_code.ensures)

pub returns-in-BuiltIn : goal.returns-in-BuiltIn
returns-in-BuiltIn c = rw c.in-BuiltIn.is refl
