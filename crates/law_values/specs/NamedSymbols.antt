-- What is claimed of the numbers of symbols and selectors: in each state of a run each names something.
use Rattle.std.specs.Prelude.{◌≡◌, ℕ, ◌<◌, List, length, get_or}
use Rattle.object_heap.specs.declared.value.Value.TheVariants.{Nil, Symbol}
use Rattle.object_heap.specs.Store.{object_at}
use Rattle.st_tree.specs.declared.units.Unit.{Unit}
use Rattle.st_code.specs.Definitions.{RunLimits}
use Rattle.st_code.specs.Program.{Program}
use Rattle.st_code.specs.Texts.{Text}
use Rattle.st_rules.specs.Flattened.{flat_of}
use Rattle.st_rules.specs.Scoped.{ScopedBody, scoped}
use Rattle.st_rules.specs.State.{State}
use Rattle.st_rules.specs.Turns.{Top, opened_run, top_iter}
use Rattle.law_shake.specs.Renaming.{Renaming, ren_top}
use Rattle.law_shake.specs.RunsAlike.{program_with}
use Rattle.law_values.specs.BuiltRun.{top_state}

-- In a state stand no numbers of symbols or selectors but those of these names: two renamings that give each other number two numbers make the same of it.
pub record HasNamed (names : List Text) (t : Top ScopedBody) : Type 0 where
  pub one : Renaming
  pub other : Renaming
  pub same_objects : one.objects ≡ other.objects
  pub alike : ren_top one t ≡ ren_top other t
  pub told_apart : (n : ℕ) → one.symbol n ≡ other.symbol n → n < length names

-- Each state that a file's run by the scoped machine comes to has only symbols and selectors that are named.
abbrev pub SymbolsAreNamed : Type 0
SymbolsAreNamed =
    (units : List Unit) (limits : RunLimits) (steps : ℕ) →
    HasNamed (program_with limits units).names (top_iter (scoped (program_with limits units)) (program_with limits units) steps (opened_run (scoped (program_with limits units)) (program_with limits units)))

-- each Symbol in a slot of an object and in a variable of the program
pub record NamesSymbols (p : Program) (st : State) : Type 0 where
  pub slots : (n i symbol : ℕ) → get_or (object_at n st.store).slots i Nil ≡ Symbol symbol → symbol < length p.names
  pub variables : (i symbol : ℕ) → get_or st.variables i Nil ≡ Symbol symbol → symbol < length p.names

-- And so are those in the objects and the program's variables, in each state of the flat machine's run.
abbrev pub HeldSymbolsAreNamed : Type 0
HeldSymbolsAreNamed =
    (units : List Unit) (limits : RunLimits) (steps : ℕ) →
    NamesSymbols (program_with limits units) (top_state (top_iter (flat_of (program_with limits units)) (program_with limits units) steps (opened_run (flat_of (program_with limits units)) (program_with limits units))))
