-- Why the machine follows the rules: the laws of RuleLaws.antt and FollowedRun.antt.
use Rattle.st_rules.proofs.follows.the_machine_follows_the_rules.Goals as goal
use Rattle.st_rules.proofs.FollowedRun.{follows_the_rules}

pub returns : goal.returns
returns c = follows_the_rules
