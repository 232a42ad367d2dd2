-- Why a machine goes by turns: the laws of Going.antt.
use Rattle.law_turns.proofs.Going.{each_begins, goes_by_turns, some_steps_are_enough}
use Rattle.law_turns.proofs.machines.a_machine_goes_by_turns.Goals as goal

pub returns-clause-begins : goal.returns-clause-begins
returns-clause-begins c = each_begins

pub returns-clause-goes : goal.returns-clause-goes
returns-clause-goes c = goes_by_turns

pub returns-clause-enough : goal.returns-clause-enough
returns-clause-enough c = some_steps_are_enough
