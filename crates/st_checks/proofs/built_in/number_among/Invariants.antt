use Rattle.std.proofs.Common.{◌≡◌, None, take}
use Rattle.st_checks.specs.Declarations.{first_place}
use Rattle.st_checks.proofs.BuiltIns.{named}
use Rattle.st_checks.proofs.built_in.number_among.Given as goal

abbrev pub invariant-loop-number : goal.invariant-loop-number
invariant-loop-number l = first_place (named l.name) (take l.number l.classes) ≡ None
