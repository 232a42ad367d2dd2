use Rattle.std.proofs.Common.{◌≡◌, drop}
use Rattle.st_code.specs.Resolved.{in_pools}
use Rattle.program_image.specs.Images.{image_names}
use Rattle.st_compiler.proofs.around.in_pools.Given as goal

abbrev pub invariant-loop-pool : goal.invariant-loop-pool
invariant-loop-pool l = in_pools (image_names l.lookups).shared l.pools l.text ≡ in_pools (image_names l.lookups).shared (drop l.pool-index l.pools) l.text
