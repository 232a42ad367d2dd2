-- Why a shaken file runs alike: RunLaws.antt.
use Rattle.law_shake.proofs.RunLaws.{files_run_alike}
use Rattle.law_shake.proofs.runs.a_shaken_file_runs_alike.Goals as goal

pub returns : goal.returns
returns c = files_run_alike
