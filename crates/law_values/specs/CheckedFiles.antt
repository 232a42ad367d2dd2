-- What is claimed of files that meet the static rules: all of it holds in each state of their runs.
use Rattle.std.specs.Prelude.{ℕ, List, length}
use Rattle.st_tree.specs.declared.units.Unit.{Unit}
use Rattle.st_checks.specs.StaticRules.{MeetsRules}
use Rattle.st_code.specs.Definitions.{RunLimits, program_of}
use Rattle.st_code.specs.Program.{Program}
use Rattle.st_code.specs.Texts.{Text}
use Rattle.st_code.specs.Written.{named_units}
use Rattle.st_rules.specs.Flat.{FlatBody}
use Rattle.st_rules.specs.Flattened.{flat_of}
use Rattle.st_rules.specs.Turns.{Top, opened_run, top_iter}
use Rattle.law_values.specs.BuiltObjects.{BuiltStore}
use Rattle.law_values.specs.BuiltRun.{top_state}
use Rattle.law_values.specs.KnownNumbers.{TopHas}

-- what the flat machine comes to after so many small steps
abbrev pub flat_after : Program → ℕ → Top FlatBody
flat_after p n = top_iter (flat_of p) p n (opened_run (flat_of p) p)

abbrev pub CheckedObjectsAreBuilt : Type 0
CheckedObjectsAreBuilt =
    (names : List Text) (units : List Unit) (limits : RunLimits) → MeetsRules units →
    (n : ℕ) → BuiltStore (program_of names (named_units units) limits) (top_state (flat_after (program_of names (named_units units) limits) n)).store

abbrev pub CheckedNumbersAreNamed : Type 0
CheckedNumbersAreNamed =
    (names : List Text) (units : List Unit) (limits : RunLimits) → MeetsRules units →
    (n : ℕ) → TopHas (length (program_of names (named_units units) limits).classes) (program_of names (named_units units) limits) (flat_after (program_of names (named_units units) limits) n)
