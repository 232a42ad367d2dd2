-- Why a larger step limit only extends the Transcript: the laws of LongerRun.antt.
use Rattle.st_rules.proofs.step_limits.a_larger_step_limit_only_extends_the_transcript.Goals as goal
use Rattle.st_rules.proofs.LongerRun.{extends, keeps_others}

pub returns-clause-transcript : goal.returns-clause-transcript
returns-clause-transcript c = extends

pub returns-clause-others : goal.returns-clause-others
returns-clause-others c = keeps_others
