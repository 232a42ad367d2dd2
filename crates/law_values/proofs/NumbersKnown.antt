-- Each number of an object and of a class that a run has in hand names one.
use Rattle.std.proofs.Common.{length, arith}
use Rattle.law_values.specs.KnownNumbers.{NumbersAreNamed, ProgramsKnowNumbers}
use Rattle.law_values.proofs.BuiltRun.{built_at}
use Rattle.law_values.proofs.KnownPrograms.{programs_know_built}
use Rattle.law_values.proofs.ProgramThere.{literals_known}
use Rattle.law_values.proofs.RunThere.{run_has}

pub numbers_are_named : NumbersAreNamed
numbers_are_named p ok literals classes knows built known n = run_has (length p.classes) built.classes p known (λ k m. ((built_at p literals classes knows built ok k).each m).classed) n

pub programs_know_numbers : ProgramsKnowNumbers
programs_know_numbers names units limits e = literals_known _ (programs_know_built names units limits e).classes names units limits (omega arith)
