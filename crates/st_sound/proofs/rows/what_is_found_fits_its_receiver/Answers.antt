-- Why what is found fits its receiver: the laws of TableRows.antt.
use Rattle.st_sound.proofs.rows.what_is_found_fits_its_receiver.Goals as goal
use Rattle.st_sound.proofs.TableRows.{rows_fit, super_rows_fit, sends_ready, super_sends_ready}

pub returns-clause-sends : goal.returns-clause-sends
returns-clause-sends c = rows_fit

pub returns-clause-supers : goal.returns-clause-supers
returns-clause-supers c = super_rows_fit

pub returns-clause-ready : goal.returns-clause-ready
returns-clause-ready c = sends_ready

pub returns-clause-super_ready : goal.returns-clause-super_ready
returns-clause-super_ready c = super_sends_ready
