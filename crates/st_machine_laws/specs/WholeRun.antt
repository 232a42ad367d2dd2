-- What is claimed of a machine's whole run: it ends, with the ending, the Transcript, the events and the counts of the run by the rules.
use Rattle.std.specs.Prelude.{◌≡◌, ℕ, ◌-◌, ◌^◌, min}
use Rattle.object_heap.specs.Charges.{Memory}
use Rattle.st_rules.specs.State.{State}
use Rattle.st_rules.specs.Runs as rules
use Rattle.st_rules.specs.Runs.{Runs, first_state}
use Rattle.st_rules.specs.StepLimits.{Begins}
use Rattle.st_rules.specs.Turns.{MachineRuns}
use Rattle.st_rules.specs.Flattened.{flat_of, Alike}
use Rattle.st_machine.specs.declared.work.Ending.{Ending}
use Rattle.st_machine.specs.declared.work.Ending.TheVariants.{Stranded}
use Rattle.st_machine.specs.declared.work.Mode.TheVariants as mode
use Rattle.st_machine.specs.Seen.{Plan, Seen}
use Rattle.st_machine.specs.Plans.{program_in}
use Rattle.st_machine.specs.Steps.{first_seen}
use Rattle.st_machine.specs.Meaning.{ending_of}
use Rattle.st_machine.specs.Followed.{Ready}
use Rattle.st_machine_laws.specs.Holding.{Moderate}
use Rattle.st_machine_laws.specs.Moments.{after, written_by, runs_by, state_after}

-- a machine on a moderate program, whose literals alone stand in its heap
pub record Opened (plan : Plan) (memory : Memory) : Type 0 where
  pub moderate : Moderate plan
  pub ready : Ready (first_seen plan memory)
  pub store : memory.store ≡ (first_state (program_in plan)).store
  pub unused : memory.used ≡ 0

-- after so many small steps the run has ended as the flat machine ends it, and so as the rules do
pub record EndsAsTheRules (plan : Plan) (first : Seen) (steps : ℕ) (ending : Ending) : Type 0 where
  pub runs : MachineRuns (flat_of (program_in plan)) (program_in plan) (ending_of ending) (state_after steps first) (runs_by steps first)
  -- a count stands still at the end of its type
  pub counted : (after steps first).instructions ≡ min (runs_by steps first) (2 ^ 64 - 1)
  pub state : State
  pub rules : Runs (program_in plan) (ending_of ending) state
  pub alike : Alike state (state_after steps first)

-- the machine's run ends; and as the rules', unless it finds a store that isn't sound
pub record IsRun (plan : Plan) (first : Seen) : Type 0 where
  pub steps : ℕ
  pub ending : Ending
  pub ended : (after steps first).mode ≡ mode.Ended ending
  pub follows : (ending ≡ Stranded → ⊥) → EndsAsTheRules plan first steps ending

abbrev pub RunsAsTheRules : Type 0
RunsAsTheRules = (plan : Plan) (memory : Memory) → Opened plan memory → IsRun plan (first_seen plan memory)

-- at each moment, what was written is where the run's Transcript begins
abbrev pub WritesAsTheRules : Type 0
WritesAsTheRules = (plan : Plan) (memory : Memory) → Opened plan memory → (e : rules.Ending) (st : State) → Runs (program_in plan) e st → (n : ℕ) → Begins (written_by n (first_seen plan memory)) st.transcript
