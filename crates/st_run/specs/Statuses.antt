-- The statuses of a call: their numbers, and what they say.
use Rattle.std.specs.Prelude.{ℕ}
use Rattle.st_run.specs.declared.status.Status.{Status}
use Rattle.st_run.specs.declared.status.Status.TheVariants as final

abbrev pub code : Status → ℕ
code final.Done = 0
code final.Refused = 1
code final.Usage = 2
code final.Unhandled = 3
code final.StepLimit = 4
code final.DepthLimit = 5
code final.CellLimit = 6
code final.IntegerLimit = 7
code final.ReadFault = 8
code final.WriteFault = 9
code final.OutOfMemory = 10
code final.Undisciplined = 11

-- no device failed, and memory wasn't wanted
abbrev pub IsAnswer : Status → Type 0
IsAnswer final.ReadFault = ⊥
IsAnswer final.WriteFault = ⊥
IsAnswer final.OutOfMemory = ⊥
IsAnswer _ = Unit {0}

-- a task is done with a program, or its run came to another ending
abbrev pub IsEnding : Status → Type 0
IsEnding final.Done = Unit {0}
IsEnding final.Unhandled = Unit {0}
IsEnding final.StepLimit = Unit {0}
IsEnding final.DepthLimit = Unit {0}
IsEnding final.CellLimit = Unit {0}
IsEnding final.IntegerLimit = Unit {0}
IsEnding _ = ⊥
