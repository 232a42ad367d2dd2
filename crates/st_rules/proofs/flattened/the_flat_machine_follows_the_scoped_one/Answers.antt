-- Why the flat machine follows the scoped one: the laws of FlatRun.antt and FlatTop.antt.
use Rattle.st_rules.proofs.flattened.the_flat_machine_follows_the_scoped_one.Goals as goal
use Rattle.st_rules.proofs.CompilableCheck.{computed}
use Rattle.st_rules.proofs.SoundProgram.{programs_are_compilable}
use Rattle.st_rules.proofs.FlatTop.{flat_follows, flat_follows_the_rules, rules_follow_the_flat}

pub returns-clause-scoped : goal.returns-clause-scoped
returns-clause-scoped c = flat_follows

pub returns-clause-rules : goal.returns-clause-rules
returns-clause-rules c = flat_follows_the_rules

pub returns-clause-flat : goal.returns-clause-flat
returns-clause-flat c = rules_follow_the_flat

pub returns-clause-programs : goal.returns-clause-programs
returns-clause-programs c = programs_are_compilable

pub returns-clause-computed : goal.returns-clause-computed
returns-clause-computed c = computed
