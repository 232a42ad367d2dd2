-- Why each store is sound: the laws of SoundRun.antt and WrittenUnits.antt.
use Rattle.st_sound.proofs.stores.each_store_is_sound.Goals as goal
use Rattle.st_sound.proofs.SoundRun.{stores_are_sound}
use Rattle.st_sound.proofs.WrittenUnits.{programs_know_collections}

pub returns-clause-runs : goal.returns-clause-runs
returns-clause-runs c = stores_are_sound

pub returns-clause-programs : goal.returns-clause-programs
returns-clause-programs c = programs_know_collections
