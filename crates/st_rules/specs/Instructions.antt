-- What is claimed of instructions: a run makes boundedly many.
use Rattle.std.specs.Prelude.{ℕ, ◌+◌, ◌*◌, ◌≤◌, max, List, [], ◌∷◌, length}
use Rattle.st_code.specs.Program.{Program}
use Rattle.st_code.specs.Compiled.{Compiled, compile_of}
use Rattle.st_rules.specs.State.{State}
use Rattle.st_rules.specs.Runs.{Ending}
use Rattle.st_rules.specs.Turns.{opened_run, instructions, MachineRuns}
use Rattle.st_rules.specs.Compilable.{Compilable}
use Rattle.st_rules.specs.Flattened.{flat_of}

-- the length of the longest code
abbrev pub longest : List Compiled → ℕ
longest [] = 0
longest (c ∷ codes) = max (length c.instructions) (longest codes)

-- code has no jumps, and each activation but those of the initializers costs a step
abbrev pub most_instructions : Program → ℕ
most_instructions p = (p.step_limit + length p.initializers) * longest (compile_of p)

-- after any number of small steps of the flat machine on a compilable program
abbrev pub FewInstructions : Type 0
FewInstructions = (p : Program) → Compilable p → (n : ℕ) → instructions (flat_of p) p n (opened_run (flat_of p) p) ≤ most_instructions p

-- and so in its whole run
abbrev pub FewInARun : Type 0
FewInARun = (p : Program) → Compilable p → (e : Ending) (st : State) (count : ℕ) → MachineRuns (flat_of p) p e st count → count ≤ most_instructions p
