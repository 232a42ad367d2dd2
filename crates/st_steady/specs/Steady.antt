-- What is claimed of a machine on a steady program: it never finds a store that isn't sound for a send or a loop, so its whole run is the run by the rules.
use Rattle.std.specs.Prelude.{◌≡◌, ℕ, ◌≤◌}
use Rattle.object_heap.specs.Charges.{Memory}
use Rattle.st_sound.specs.KnownCollections.{KnowsCollections}
use Rattle.st_sends.specs.Arguments.{KnowsSelectors}
use Rattle.st_machine.specs.declared.work.Ending.{Ending}
use Rattle.st_machine.specs.declared.work.Ending.TheVariants.{Stranded}
use Rattle.st_machine.specs.declared.work.Mode.TheVariants as mode
use Rattle.st_machine.specs.Seen.{Plan}
use Rattle.st_machine.specs.Plans.{program_in, greatest_arity, room_in}
use Rattle.st_machine.specs.Steps.{first_seen}
use Rattle.st_machine_laws.specs.Moments.{after}
use Rattle.st_machine_laws.specs.WholeRun.{Opened, EndsAsTheRules}

-- a program whose collections stay sound, whose sends have as many arguments as their selectors take, and whose selectors take no more than there is room for
pub record Steady (plan : Plan) : Type 0 where
  pub collections : KnowsCollections (program_in plan)
  pub selectors : KnowsSelectors (program_in plan)
  pub arities : greatest_arity (program_in plan).names ≤ room_in plan

-- a machine on it never ends so, after however many small steps
abbrev pub NeverStrands : Type 0
NeverStrands = (plan : Plan) (memory : Memory) → Opened plan memory → Steady plan → (n : ℕ) → (after n (first_seen plan memory)).mode ≡ mode.Ended Stranded → ⊥

-- and as it ends, the rules do, without exception
abbrev pub EndsSo : Type 0
EndsSo =
    (plan : Plan) (memory : Memory) → Opened plan memory → Steady plan → (n : ℕ) (e : Ending) → (after n (first_seen plan memory)).mode ≡ mode.Ended e
    → EndsAsTheRules plan (first_seen plan memory) n e
