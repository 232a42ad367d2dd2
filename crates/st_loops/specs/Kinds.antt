-- The loops as their messages, and which rows of the table of built-in messages are loops.
use Rattle.std.specs.Prelude.{List, [], ◌∷◌, Option, Some, None}
use Rattle.st_code.specs.BuiltIns.{BuiltInMessage}
use Rattle.st_code.specs.Messages.{LoopMessage, Row, Loops}
use Rattle.st_loops.specs.declared.kind.LoopKind.{LoopKind}

-- the message of a loop
abbrev pub message_of : LoopKind → LoopMessage
message_of LoopKind.WhileTrue = LoopMessage.WhileTrue
message_of LoopKind.WhileFalse = LoopMessage.WhileFalse
message_of LoopKind.TimesRepeat = LoopMessage.TimesRepeat
message_of LoopKind.ToDo = LoopMessage.ToDo
message_of LoopKind.ToByDo = LoopMessage.ToByDo
message_of LoopKind.Do = LoopMessage.Do
message_of LoopKind.DoSeparatedBy = LoopMessage.DoSeparatedBy
message_of LoopKind.ReverseDo = LoopMessage.ReverseDo
message_of LoopKind.KeysAndValuesDo = LoopMessage.KeysAndValuesDo
message_of LoopKind.KeysDo = LoopMessage.KeysDo
message_of LoopKind.InjectInto = LoopMessage.InjectInto
message_of LoopKind.Detect = LoopMessage.Detect
message_of LoopKind.DetectIfNone = LoopMessage.DetectIfNone
message_of LoopKind.AnySatisfy = LoopMessage.AnySatisfy
message_of LoopKind.AllSatisfy = LoopMessage.AllSatisfy
message_of LoopKind.Collect = LoopMessage.Collect
message_of LoopKind.Select = LoopMessage.Select
message_of LoopKind.Reject = LoopMessage.Reject
message_of LoopKind.Includes = LoopMessage.Includes
message_of LoopKind.OccurrencesOf = LoopMessage.OccurrencesOf
message_of LoopKind.IndexOf = LoopMessage.IndexOf
message_of LoopKind.AddToSet = LoopMessage.AddToSet
message_of LoopKind.Remove = LoopMessage.Remove
message_of LoopKind.RemoveIfAbsent = LoopMessage.RemoveIfAbsent
message_of LoopKind.At = LoopMessage.At
message_of LoopKind.AtIfAbsent = LoopMessage.AtIfAbsent
message_of LoopKind.AtPut = LoopMessage.AtPut
message_of LoopKind.AtIfAbsentPut = LoopMessage.AtIfAbsentPut
message_of LoopKind.IncludesKey = LoopMessage.IncludesKey
message_of LoopKind.RemoveKey = LoopMessage.RemoveKey
message_of LoopKind.RemoveKeyIfAbsent = LoopMessage.RemoveKeyIfAbsent
message_of LoopKind.EqualElements = LoopMessage.EqualElements
message_of LoopKind.NotEqual = LoopMessage.NotEqual

-- the loop that a row is
abbrev pub loop_of : Row → Option LoopMessage
loop_of (Loops m) = Some m
loop_of r = None

-- the loops among messages, in their order
abbrev pub loops_in : List BuiltInMessage → List LoopMessage
loops_in [] = []
loops_in (m ∷ messages) = elim (loop_of m.row) [ Some l ↦ l ∷ loops_in messages | None ↦ loops_in messages ]
