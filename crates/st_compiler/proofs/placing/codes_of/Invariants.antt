use Rattle.std.proofs.Common.{◌≡◌, ◌++◌, drop, map}
use Rattle.st_code.specs.Compiled.{seen_code}
use Rattle.st_compiler.specs.Placed.{compiled_drafts}
use Rattle.st_compiler.proofs.placing.codes_of.Given as goal

abbrev pub invariant-loop-body : goal.invariant-loop-body
invariant-loop-body l = map seen_code l.codes ++ compiled_drafts l.bodies l.code (drop l.body-index l.bodies) ≡ compiled_drafts l.bodies 0 l.bodies
