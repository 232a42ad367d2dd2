-- What is claimed of a step: what holds of a machine holds after it too, and a machine of which it holds is ready.
use Rattle.object_heap.specs.Charges.{Memory}
use Rattle.st_machine.specs.Seen.{Plan, Seen}
use Rattle.st_machine.specs.Steps.{first_seen, advanced}
use Rattle.st_machine.specs.Followed.{IsSound, Ready}
use Rattle.st_machine_laws.specs.Holding.{Moderate, Course, Holds, further, course_of}

-- at the beginning, where the machine is ready and the program moderate
abbrev pub HoldsFirst : Type 0
HoldsFirst = (plan : Plan) (memory : Memory) → Moderate plan → Ready (first_seen plan memory) → Holds (course_of plan) (first_seen plan memory)

-- after each small step
abbrev pub StaysSo : Type 0
StaysSo = (course : Course) (s : Seen) → Holds course s → Holds (further s.mode course) (advanced s)

abbrev pub MakesReady : Type 0
MakesReady = (course : Course) (s : Seen) → Holds course s → IsSound s.mode s → Ready s
