use Rattle.std.proofs.Common.{take, map}
use Rattle.program_image.specs.Classes.{seen_variable}
use Rattle.st_compiler.specs.Shared.{HasPlaces}
use Rattle.st_compiler.proofs.lookup.places_of.Given as goal

abbrev pub invariant-loop-index : goal.invariant-loop-index
invariant-loop-index l = HasPlaces (map seen_variable (take l.index l.variables)) l.places
