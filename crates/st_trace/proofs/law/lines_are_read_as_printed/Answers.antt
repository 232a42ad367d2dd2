-- Why a line is read as it is printed: its words hold no space, and std's laws of decimals.
use Rattle.st_trace.proofs.law.lines_are_read_as_printed.Goals as goal
use Rattle.st_trace.proofs.Reading.{reads_lines}

pub returns : goal.returns
returns c = reads_lines
