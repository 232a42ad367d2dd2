-- Why each number is named.
use Rattle.law_values.proofs.numbers.each_number_is_named.Goals as goal
use Rattle.law_values.proofs.CheckedFiles.{checked_numbers_are_named}
use Rattle.law_values.proofs.NumbersKnown.{numbers_are_named, programs_know_numbers}

pub returns-clause-runs : goal.returns-clause-runs
returns-clause-runs c = numbers_are_named

pub returns-clause-programs : goal.returns-clause-programs
returns-clause-programs c = programs_know_numbers

pub returns-clause-files : goal.returns-clause-files
returns-clause-files c = checked_numbers_are_named
