-- Runs of shaken files, by the names that their programs have.
use Rattle.std.proofs.Common.{sym, subst}
use Rattle.st_code.specs.Written.{named_units}
use Rattle.st_code.specs.Definitions.{program_of}
use Rattle.program_image.specs.Spelled.{names_in}
use Rattle.st_rules.specs.Runs.{Runs}
use Rattle.st_rules.specs.Scoped.{scoped}
use Rattle.st_rules.specs.Turns.{opened_run, top_iter}
use Rattle.st_shake.specs.Needed.{needed}
use Rattle.law_shake.specs.Kept.{shaken_units}
use Rattle.law_shake.specs.RunsAlike.{SameRuns, ShakenFilesRunAlike, program_with}
use Rattle.law_shake.specs.Laws.{HasOnly, OnlyNeededStands}
use Rattle.law_shake.proofs.Shaken.{shaken_runs_alike}
use Rattle.law_shake.proofs.Spellings.{base, names_spell, own_names}
use Rattle.law_shake.proofs.SymbolsHeld.{held, one, other, told_apart}
use Rattle.law_shake.proofs.FileLaws.{shaken_written}

pub files_run_alike : ShakenFilesRunAlike
files_run_alike units limits e e' st st' =
    let named = named_units units in
    subst (λ us. Runs (program_of (names_in us) us limits) e st → Runs (program_with limits units) e' st' → SameRuns (program_of (names_in us) us limits) (program_with limits units) e e' st st') (sym (shaken_written units))
    (shaken_runs_alike base (names_in (shaken_units named)) (names_in named) named limits own_names (names_spell (shaken_units named)) (names_spell named) e e' st st')

pub only_needed : OnlyNeededStands
only_needed units limits steps =
    let named = named_units units in
    let names = names_in (shaken_units named) in
    let spells = names_spell (shaken_units named) in
    subst (λ us. HasOnly (needed named) (names_in us) (top_iter (scoped (program_of (names_in us) us limits)) (program_of (names_in us) us limits) steps (opened_run (scoped (program_of (names_in us) us limits)) (program_of (names_in us) us limits)))) (sym (shaken_written units))
    (record {
      one = one base names named limits own_names spells;
      other = other base names named limits own_names spells;
      alike = held base names named limits own_names spells steps;
      told_apart = told_apart base names named limits own_names spells;
    })
