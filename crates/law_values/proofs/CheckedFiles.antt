-- A file that meets the static rules has all that the laws ask for.
use Rattle.st_code.specs.Written.{named_units}
use Rattle.st_rules.proofs.KnownClasses.{programs_know_classes}
use Rattle.st_rules.proofs.KnownProgram.{programs_know_literals}
use Rattle.st_rules.proofs.SoundProgram.{programs_are_compilable}
use Rattle.st_sound.proofs.WrittenUnits.{programs_know_collections}
use Rattle.st_checked.proofs.CheckedClasses.{classes_extend}
use Rattle.law_values.specs.CheckedFiles.{CheckedObjectsAreBuilt, CheckedNumbersAreNamed}
use Rattle.law_values.proofs.BuiltRun.{objects_are_built}
use Rattle.law_values.proofs.KnownPrograms.{programs_know_built}
use Rattle.law_values.proofs.NumbersKnown.{numbers_are_named, programs_know_numbers}

pub checked_objects_are_built : CheckedObjectsAreBuilt
checked_objects_are_built names units limits meets n =
    let us = named_units units in
    let e = classes_extend units meets in
    objects_are_built _ (programs_are_compilable names us limits) (programs_know_literals names us limits) (programs_know_classes names us limits) (programs_know_collections names us limits e) (programs_know_built names us limits e) n

pub checked_numbers_are_named : CheckedNumbersAreNamed
checked_numbers_are_named names units limits meets n =
    let us = named_units units in
    let e = classes_extend units meets in
    numbers_are_named _ (programs_are_compilable names us limits) (programs_know_literals names us limits) (programs_know_classes names us limits) (programs_know_collections names us limits e) (programs_know_built names us limits e) (programs_know_numbers names us limits e) n
