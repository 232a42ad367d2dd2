-- What else is claimed of shaken files.
use Rattle.std.specs.Prelude.{◌≡◌, ℕ, ◌<◌, List, [], ◌++◌, length, get_or}
use Rattle.st_tree.specs.declared.units.Unit.{Unit}
use Rattle.st_tree.specs.Units.{IsReadable}
use Rattle.st_checks.specs.StaticRules.{MeetsRules}
use Rattle.st_code.specs.Definitions.{RunLimits}
use Rattle.st_code.specs.Texts.{Text}
use Rattle.st_code.specs.Named.{NamedUnit}
use Rattle.st_code.specs.Written.{named_units}
use Rattle.program_image.specs.Spelled.{names_in}
use Rattle.st_rules.specs.Scoped.{ScopedBody, scoped}
use Rattle.st_rules.specs.Turns.{Top, opened_run, top_iter}
use Rattle.st_shake.specs.Needed.{always_needed, methods_of, needed, texts_of, Has, IsLeast}
use Rattle.st_shake.specs.Shaken.{shaken}
use Rattle.law_shake.specs.Renaming.{Renaming, ren_top}
use Rattle.law_shake.specs.RunsAlike.{program_with}

-- Needed is the least set that has what is always needed, what initializers spell, and what each method spells whose selector it has.
abbrev pub NeededIsLeast : Type 0
NeededIsLeast = (units : List NamedUnit) → IsLeast (methods_of units) (always_needed ++ texts_of units) (needed units)

abbrev pub ShakenFilesAreReadable : Type 0
ShakenFilesAreReadable = (units : List Unit) → IsReadable units → IsReadable (shaken units)

abbrev pub ShakenFilesMeetTheRules : Type 0
ShakenFilesMeetTheRules = (units : List Unit) → MeetsRules units → MeetsRules (shaken units)

abbrev pub ShakingTwiceIsShakingOnce : Type 0
ShakingTwiceIsShakingOnce = (units : List Unit) → shaken (shaken units) ≡ shaken units

-- In a state stand no numbers of symbols or selectors but those of these texts: two renamings that give each other number two numbers make the same of it.
pub record HasOnly (texts names : List Text) (t : Top ScopedBody) : Type 0 where
  pub one : Renaming
  pub other : Renaming
  pub alike : ren_top one t ≡ ren_top other t
  pub told_apart : (n : ℕ) → n < length names → one.symbol n ≡ other.symbol n → Has texts (get_or names n [])

-- Each state that a run of a shaken file comes to has only symbols and selectors that the file needs.
abbrev pub OnlyNeededStands : Type 0
OnlyNeededStands =
    (units : List Unit) (limits : RunLimits) (steps : ℕ) →
    HasOnly (needed (named_units units)) (names_in (named_units (shaken units))) (top_iter (scoped (program_with limits (shaken units))) (program_with limits (shaken units)) steps (opened_run (scoped (program_with limits (shaken units))) (program_with limits (shaken units))))
