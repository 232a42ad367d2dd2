-- Why a sound store meets each request: the laws of Requests.antt.
use Rattle.st_sound.proofs.requests.a_sound_store_meets_each_request.Goals as goal
use Rattle.st_sound.proofs.Meets.{values_measured, ordered_open, receivers_stand}

pub returns-clause-values : goal.returns-clause-values
returns-clause-values c = values_measured

pub returns-clause-ordered : goal.returns-clause-ordered
returns-clause-ordered c = ordered_open

pub returns-clause-receivers : goal.returns-clause-receivers
returns-clause-receivers c = receivers_stand
