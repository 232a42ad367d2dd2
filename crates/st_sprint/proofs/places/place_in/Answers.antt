use Rattle.std.proofs.Math.Facts.{to_z-of_z}
use Rattle.st_sprint.proofs.places.place_in.Goals as goal

pub returns-in-Object : goal.returns-in-Object
returns-in-Object g c p = rw c.in-Object.is (rw (to_z-of_z c.ranges.index) at c.object_place.ensures p)
