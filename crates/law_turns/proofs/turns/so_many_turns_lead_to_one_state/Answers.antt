-- Why so many turns lead to one state: the laws of FlatTurns.antt.
use Rattle.law_turns.proofs.FlatTurns.{joins, one, some}
use Rattle.law_turns.proofs.turns.so_many_turns_lead_to_one_state.Goals as goal

pub returns-clause-some : goal.returns-clause-some
returns-clause-some c = some

pub returns-clause-one : goal.returns-clause-one
returns-clause-one c = one

pub returns-clause-join : goal.returns-clause-join
returns-clause-join c = joins
