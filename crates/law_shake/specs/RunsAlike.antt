-- What is claimed of a shaken file: it runs alike, whatever the limits.
use Rattle.std.specs.Prelude.{◌≡◌, ℕ, List}
use Rattle.st_tree.specs.declared.units.Unit.{Unit}
use Rattle.st_code.specs.Definitions.{RunLimits, program_of}
use Rattle.st_code.specs.Program.{Program}
use Rattle.st_code.specs.Written.{named_units}
use Rattle.program_image.specs.Spelled.{names_in}
use Rattle.st_rules.specs.State.{State}
use Rattle.st_rules.specs.Runs.{Ending, Runs}
use Rattle.st_rules.specs.Turns.{MachineRuns}
use Rattle.st_rules.specs.Flattened.{flat_of}
use Rattle.st_shake.specs.Shaken.{shaken}
use Rattle.law_shake.specs.Told.{told}

-- the program that the units of a file are, with these limits
abbrev pub program_with : RunLimits → List Unit → Program
program_with limits units = program_of (names_in (named_units units)) (named_units units) limits

-- the same Transcript, ending and counts, and as many instructions of the flat machine
pub record SameRuns (q p : Program) (e e' : Ending) (st st' : State) : Type 0 where
  pub transcript : st.transcript ≡ st'.transcript
  pub ending : told q st.store e ≡ told p st'.store e'
  pub steps : st.steps ≡ st'.steps
  pub depth : st.depth ≡ st'.depth
  pub cells : st.cells ≡ st'.cells
  pub instructions : (d d' : Ending) (u u' : State) (n n' : ℕ) → MachineRuns (flat_of q) q d u n → MachineRuns (flat_of p) p d' u' n' → n ≡ n'

-- A run of a shaken file by the rules is that of the file, whatever the limits.
abbrev pub ShakenFilesRunAlike : Type 0
ShakenFilesRunAlike =
    (units : List Unit) (limits : RunLimits) (e e' : Ending) (st st' : State) → Runs (program_with limits (shaken units)) e st → Runs (program_with limits units) e' st' →
    SameRuns (program_with limits (shaken units)) (program_with limits units) e e' st st'
