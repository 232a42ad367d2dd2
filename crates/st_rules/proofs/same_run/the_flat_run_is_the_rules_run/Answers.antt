-- Why the flat run is the rules' run: the laws of FlatTop.antt and SoundProgram.antt.
use Rattle.st_rules.proofs.same_run.the_flat_run_is_the_rules_run.Goals as goal
use Rattle.st_rules.proofs.SameRun.{flat_run_is_the_rules_run}

pub returns : goal.returns
returns c = flat_run_is_the_rules_run
