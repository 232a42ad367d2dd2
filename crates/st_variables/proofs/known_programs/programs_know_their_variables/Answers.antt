-- Why programs know their variables: the law of KnownPrograms.antt.
use Rattle.st_variables.proofs.known_programs.programs_know_their_variables.Goals as goal
use Rattle.st_variables.proofs.KnownPrograms.{programs_know_variables}

pub returns : goal.returns
returns c = programs_know_variables
