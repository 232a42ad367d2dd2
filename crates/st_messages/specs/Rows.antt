-- The rows of the table of built-in messages that these rows are.
use Rattle.std.specs.Prelude.{List, map, take}
use Rattle.st_code.specs.Messages.{ObjectMessage, ClassMessage, BooleanMessage, NumberMessage as NumberRow, TranscriptMessage, BlockMessage, ExceptionMessage, CollectionMessage as CollectionRow, Row, Objects, Classes, Booleans, Numbers, Characters, Transcripts, Strings, Sequences, Collections, Blocks, Exceptions, Loops, Slots}
use Rattle.st_code.specs.BuiltIns.{numbered_messages}
use Rattle.st_numbers.specs.declared.message.NumberMessage.{NumberMessage}
use Rattle.st_collections.specs.declared.message.OfMaking.{OfMaking}
use Rattle.st_collections.specs.declared.message.OfOrdered.{OfOrdered}
use Rattle.st_collections.specs.declared.message.OfPair.{OfPair}
use Rattle.st_collections.specs.AtOnce.{character_row, string_row, sequence_row}
use Rattle.st_messages.specs.declared.row.MessageRow.{MessageRow}
use Rattle.st_messages.specs.declared.row.OfObject.{OfObject}
use Rattle.st_messages.specs.declared.row.OfQuestion.{OfQuestion}
use Rattle.st_messages.specs.declared.row.OfClass.{OfClass}
use Rattle.st_messages.specs.declared.row.OfBoolean.{OfBoolean}
use Rattle.st_messages.specs.declared.row.OfNumber.{OfNumber}
use Rattle.st_messages.specs.declared.row.OfMaker.{OfMaker}
use Rattle.st_messages.specs.declared.row.OfTranscript.{OfTranscript}
use Rattle.st_messages.specs.declared.row.OfBlock.{OfBlock}
use Rattle.st_messages.specs.declared.row.OfSelector.{OfSelector}
use Rattle.st_messages.specs.declared.row.OfException.{OfException}
use Rattle.st_loops.specs.Kinds.{message_of}
use Rattle.st_messages.specs.Replies.{control_row}

abbrev pub question_row : OfQuestion → ObjectMessage
question_row OfQuestion.Same = ObjectMessage.Same
question_row OfQuestion.NotSame = ObjectMessage.NotSame
question_row OfQuestion.ClassOf = ObjectMessage.ClassOf
question_row OfQuestion.IsNil = ObjectMessage.IsNil
question_row OfQuestion.NotNil = ObjectMessage.NotNil
question_row OfQuestion.IsString = ObjectMessage.IsString
question_row OfQuestion.IsSymbol = ObjectMessage.IsSymbol
question_row OfQuestion.IsKindOf = ObjectMessage.IsKindOf
question_row OfQuestion.IsMemberOf = ObjectMessage.IsMemberOf
question_row OfQuestion.RespondsTo = ObjectMessage.RespondsTo
question_row OfQuestion.Hash = ObjectMessage.Hash
question_row OfQuestion.Yourself = ObjectMessage.Yourself

abbrev pub object_row : OfObject → ObjectMessage
object_row (OfObject.Question m) = question_row m
object_row OfObject.Copy = ObjectMessage.Copy
object_row OfObject.PrintString = ObjectMessage.PrintString
object_row OfObject.DisplayString = ObjectMessage.DisplayString
object_row OfObject.Size = ObjectMessage.Size
object_row OfObject.At = ObjectMessage.At
object_row OfObject.AtPut = ObjectMessage.AtPut
object_row OfObject.ErrorText = ObjectMessage.ErrorText
object_row OfObject.SubclassResponsibility = ObjectMessage.SubclassResponsibility
object_row OfObject.NotUnderstood = ObjectMessage.NotUnderstood
object_row OfObject.Perform = ObjectMessage.Perform
object_row OfObject.PerformWithArguments = ObjectMessage.PerformWithArguments

abbrev pub class_row : OfClass → ClassMessage
class_row OfClass.Name = ClassMessage.Name
class_row OfClass.Superclass = ClassMessage.Superclass
class_row OfClass.New = ClassMessage.New
class_row OfClass.NewSize = ClassMessage.NewSize

abbrev pub boolean_row : OfBoolean → BooleanMessage
boolean_row OfBoolean.And = BooleanMessage.And
boolean_row OfBoolean.Or = BooleanMessage.Or
boolean_row OfBoolean.Not = BooleanMessage.Not
boolean_row OfBoolean.Xor = BooleanMessage.Xor
boolean_row OfBoolean.AndThen = BooleanMessage.AndThen
boolean_row OfBoolean.OrElse = BooleanMessage.OrElse
boolean_row OfBoolean.IfTrue = BooleanMessage.IfTrue
boolean_row OfBoolean.IfFalse = BooleanMessage.IfFalse
boolean_row OfBoolean.IfTrueIfFalse = BooleanMessage.IfTrueIfFalse
boolean_row OfBoolean.IfFalseIfTrue = BooleanMessage.IfFalseIfTrue

abbrev pub arithmetic_row : NumberMessage → NumberRow
arithmetic_row NumberMessage.Add = NumberRow.Add
arithmetic_row NumberMessage.Subtract = NumberRow.Subtract
arithmetic_row NumberMessage.Multiply = NumberRow.Multiply
arithmetic_row NumberMessage.Divide = NumberRow.Divide
arithmetic_row NumberMessage.FloorDivide = NumberRow.FloorDivide
arithmetic_row NumberMessage.Modulo = NumberRow.FloorModulo
arithmetic_row NumberMessage.Quo = NumberRow.Quotient
arithmetic_row NumberMessage.Rem = NumberRow.Remainder
arithmetic_row NumberMessage.Less = NumberRow.Less
arithmetic_row NumberMessage.Greater = NumberRow.Greater
arithmetic_row NumberMessage.LessOrEqual = NumberRow.LessOrEqual
arithmetic_row NumberMessage.GreaterOrEqual = NumberRow.GreaterOrEqual
arithmetic_row NumberMessage.Equal = NumberRow.Equal
arithmetic_row NumberMessage.Negated = NumberRow.Negated
arithmetic_row NumberMessage.Abs = NumberRow.Abs
arithmetic_row NumberMessage.Sign = NumberRow.Sign
arithmetic_row NumberMessage.Even = NumberRow.Even
arithmetic_row NumberMessage.Odd = NumberRow.Odd
arithmetic_row NumberMessage.IsZero = NumberRow.IsZero
arithmetic_row NumberMessage.Max = NumberRow.Max
arithmetic_row NumberMessage.Min = NumberRow.Min
arithmetic_row NumberMessage.Gcd = NumberRow.Gcd
arithmetic_row NumberMessage.Lcm = NumberRow.Lcm
arithmetic_row NumberMessage.BitAnd = NumberRow.BitAnd
arithmetic_row NumberMessage.BitOr = NumberRow.BitOr
arithmetic_row NumberMessage.BitXor = NumberRow.BitXor
arithmetic_row NumberMessage.BitShift = NumberRow.BitShift
arithmetic_row NumberMessage.Numerator = NumberRow.Numerator
arithmetic_row NumberMessage.Denominator = NumberRow.Denominator
arithmetic_row NumberMessage.Truncated = NumberRow.Truncated
arithmetic_row NumberMessage.Reciprocal = NumberRow.Reciprocal

abbrev pub number_row : OfNumber → NumberRow
number_row (OfNumber.Computes m) = arithmetic_row m
number_row OfNumber.AsString = NumberRow.AsString
number_row OfNumber.PrintRadix = NumberRow.PrintRadix
number_row OfNumber.FromNumerator = NumberRow.FromNumerator

abbrev pub transcript_row : OfTranscript → TranscriptMessage
transcript_row OfTranscript.Show = TranscriptMessage.Show
transcript_row OfTranscript.NextPut = TranscriptMessage.NextPut
transcript_row OfTranscript.Flush = TranscriptMessage.Flush
transcript_row (OfTranscript.WriteByte byte) = TranscriptMessage.WriteByte byte

abbrev pub block_row : OfBlock → BlockMessage
block_row OfBlock.Value = BlockMessage.Value
block_row OfBlock.ValueWithArguments = BlockMessage.ValueWithArguments
block_row OfBlock.NumArgs = BlockMessage.NumArgs
block_row OfBlock.OnDo = BlockMessage.OnDo
block_row OfBlock.Ensure = BlockMessage.Ensure
block_row OfBlock.IfCurtailed = BlockMessage.IfCurtailed

abbrev pub selector_row : OfSelector → ExceptionMessage
selector_row OfSelector.New = ExceptionMessage.New
selector_row OfSelector.SignalNew = ExceptionMessage.SignalNew
selector_row OfSelector.Join = ExceptionMessage.Join
selector_row OfSelector.Handles = ExceptionMessage.Handles

abbrev pub exception_row : OfException → ExceptionMessage
exception_row OfException.Signal = ExceptionMessage.Signal
exception_row OfException.SignalText = ExceptionMessage.SignalText
exception_row OfException.MessageText = ExceptionMessage.MessageText
exception_row OfException.SetMessageText = ExceptionMessage.SetMessageText
exception_row OfException.Description = ExceptionMessage.Description
exception_row (OfException.Controls control) = ExceptionMessage.Controls (control_row control)
exception_row (OfException.IsResumable answer) = ExceptionMessage.IsResumable answer
exception_row OfException.TerminatesProgram = ExceptionMessage.TerminatesProgram
exception_row OfException.AnswersNil = ExceptionMessage.AnswersNil
exception_row OfException.Warns = ExceptionMessage.Warns

abbrev pub maker_row : OfMaker → Row
maker_row OfMaker.Array = Collections CollectionRow.NewArray
maker_row OfMaker.ByteArray = Collections CollectionRow.NewByteArray
maker_row OfMaker.With = Collections CollectionRow.With
maker_row OfMaker.WithAll = Collections CollectionRow.WithAll
maker_row OfMaker.Empty = Collections CollectionRow.NewEmpty
maker_row OfMaker.KeyValue = Collections CollectionRow.KeyValue
maker_row OfMaker.Arrow = Objects ObjectMessage.Arrow
maker_row OfMaker.To = Numbers NumberRow.To
maker_row OfMaker.ToBy = Numbers NumberRow.ToBy

-- the same as a message of collections
abbrev pub making_of : OfMaker → OfMaking
making_of OfMaker.Array = OfMaking.Array
making_of OfMaker.ByteArray = OfMaking.ByteArray
making_of OfMaker.With = OfMaking.With
making_of OfMaker.WithAll = OfMaking.WithAll
making_of OfMaker.Empty = OfMaking.Empty
making_of OfMaker.KeyValue = OfMaking.KeyValue
making_of OfMaker.Arrow = OfMaking.Arrow
making_of OfMaker.To = OfMaking.To
making_of OfMaker.ToBy = OfMaking.ToBy

abbrev pub ordered_row : OfOrdered → CollectionRow
ordered_row OfOrdered.Add = CollectionRow.Add
ordered_row OfOrdered.AddFirst = CollectionRow.AddFirst
ordered_row OfOrdered.AddAll = CollectionRow.AddAll
ordered_row OfOrdered.RemoveFirst = CollectionRow.RemoveFirst
ordered_row OfOrdered.RemoveLast = CollectionRow.RemoveLast
ordered_row OfOrdered.AddBeforeIndex = CollectionRow.AddBeforeIndex
ordered_row OfOrdered.RemoveAtIndex = CollectionRow.RemoveAtIndex

abbrev pub pair_row : OfPair → Row
pair_row OfPair.Keys = Collections CollectionRow.Keys
pair_row OfPair.Values = Collections CollectionRow.Values
pair_row OfPair.Key = Slots 0
pair_row OfPair.Value = Slots 1

-- the row of the table
abbrev pub table_row : MessageRow → Row
table_row (MessageRow.Object m) = Objects (object_row m)
table_row (MessageRow.Class m) = Classes (class_row m)
table_row (MessageRow.Boolean m) = Booleans (boolean_row m)
table_row (MessageRow.Number m) = Numbers (number_row m)
table_row (MessageRow.Transcript m) = Transcripts (transcript_row m)
table_row (MessageRow.Character m) = Characters (character_row m)
table_row (MessageRow.String m) = Strings (string_row m)
table_row (MessageRow.Sequence m) = Sequences (sequence_row m)
table_row (MessageRow.Maker m) = maker_row m
table_row (MessageRow.Ordered m) = Collections (ordered_row m)
table_row (MessageRow.Pair m) = pair_row m
table_row (MessageRow.Block m) = Blocks (block_row m)
table_row (MessageRow.Selector m) = Exceptions (selector_row m)
table_row (MessageRow.Exception m) = Exceptions (exception_row m)
table_row (MessageRow.Loop kind) = Loops (message_of kind)
table_row (MessageRow.Slot slot) = Slots slot

-- the rows before the loops, by number
unfoldable pub plain_rows : List Row
plain_rows = take 278 (map (λ m. m.row) numbered_messages)
