-- The built-in messages of each class (ANSI 5): the selectors, and what each does.
use Rattle.std.specs.Prelude.{true, false, List, [], ◌∷◌, codes}
use Prim.Native.String.{String}
use Rattle.st_code.specs.Texts.{Text}
use Rattle.st_code.specs.Messages.{ObjectMessage, ClassMessage, BooleanMessage, NumberMessage, CharacterMessage, TranscriptMessage, StringMessage, SequenceMessage, CollectionMessage, BlockMessage, Control, ExceptionMessage, LoopMessage, Row, Objects, Classes, Booleans, Numbers, Characters, Transcripts, Strings, Sequences, Collections, Blocks, Exceptions, Loops, Slots}

-- a selector with what it does
pub record RowAt : Type 0 where
  pub selector : Text
  pub row : Row

abbrev row : String → Row → RowAt
row selector r = record { selector = codes selector; row = r }

-- Object
unfoldable pub object_rows : List RowAt
object_rows =
    row "=" (Objects ObjectMessage.Same) ∷
    row "==" (Objects ObjectMessage.Same) ∷
    row "~~" (Objects ObjectMessage.NotSame) ∷
    row "class" (Objects ObjectMessage.ClassOf) ∷
    row "isNil" (Objects ObjectMessage.IsNil) ∷
    row "notNil" (Objects ObjectMessage.NotNil) ∷
    row "isString" (Objects ObjectMessage.IsString) ∷
    row "isSymbol" (Objects ObjectMessage.IsSymbol) ∷
    row "isKindOf:" (Objects ObjectMessage.IsKindOf) ∷
    row "isMemberOf:" (Objects ObjectMessage.IsMemberOf) ∷
    row "respondsTo:" (Objects ObjectMessage.RespondsTo) ∷
    row "hash" (Objects ObjectMessage.Hash) ∷
    row "yourself" (Objects ObjectMessage.Yourself) ∷
    row "copy" (Objects ObjectMessage.Copy) ∷
    row "printString" (Objects ObjectMessage.PrintString) ∷
    row "displayString" (Objects ObjectMessage.DisplayString) ∷
    row "size" (Objects ObjectMessage.Size) ∷
    row "at:" (Objects ObjectMessage.At) ∷
    row "at:put:" (Objects ObjectMessage.AtPut) ∷
    row "error:" (Objects ObjectMessage.ErrorText) ∷
    row "subclassResponsibility" (Objects ObjectMessage.SubclassResponsibility) ∷
    row "doesNotUnderstand:" (Objects ObjectMessage.NotUnderstood) ∷
    row "perform:" (Objects ObjectMessage.Perform) ∷
    row "perform:with:" (Objects ObjectMessage.Perform) ∷
    row "perform:with:with:" (Objects ObjectMessage.Perform) ∷
    row "perform:withArguments:" (Objects ObjectMessage.PerformWithArguments) ∷
    []

-- Class
unfoldable pub class_rows : List RowAt
class_rows =
    row "name" (Classes ClassMessage.Name) ∷
    row "superclass" (Classes ClassMessage.Superclass) ∷
    row "new" (Classes ClassMessage.New) ∷
    row "new:" (Classes ClassMessage.NewSize) ∷
    []

-- Boolean
unfoldable pub boolean_rows : List RowAt
boolean_rows =
    row "&" (Booleans BooleanMessage.And) ∷
    row "|" (Booleans BooleanMessage.Or) ∷
    row "not" (Booleans BooleanMessage.Not) ∷
    row "xor:" (Booleans BooleanMessage.Xor) ∷
    row "and:" (Booleans BooleanMessage.AndThen) ∷
    row "or:" (Booleans BooleanMessage.OrElse) ∷
    row "ifTrue:" (Booleans BooleanMessage.IfTrue) ∷
    row "ifFalse:" (Booleans BooleanMessage.IfFalse) ∷
    row "ifTrue:ifFalse:" (Booleans BooleanMessage.IfTrueIfFalse) ∷
    row "ifFalse:ifTrue:" (Booleans BooleanMessage.IfFalseIfTrue) ∷
    []

-- Integer
unfoldable pub integer_rows : List RowAt
integer_rows =
    row "+" (Numbers NumberMessage.Add) ∷
    row "-" (Numbers NumberMessage.Subtract) ∷
    row "*" (Numbers NumberMessage.Multiply) ∷
    row "/" (Numbers NumberMessage.Divide) ∷
    row "//" (Numbers NumberMessage.FloorDivide) ∷
    row "\\\\" (Numbers NumberMessage.FloorModulo) ∷
    row "quo:" (Numbers NumberMessage.Quotient) ∷
    row "rem:" (Numbers NumberMessage.Remainder) ∷
    row "<" (Numbers NumberMessage.Less) ∷
    row ">" (Numbers NumberMessage.Greater) ∷
    row "<=" (Numbers NumberMessage.LessOrEqual) ∷
    row ">=" (Numbers NumberMessage.GreaterOrEqual) ∷
    row "=" (Numbers NumberMessage.Equal) ∷
    row "negated" (Numbers NumberMessage.Negated) ∷
    row "abs" (Numbers NumberMessage.Abs) ∷
    row "sign" (Numbers NumberMessage.Sign) ∷
    row "even" (Numbers NumberMessage.Even) ∷
    row "odd" (Numbers NumberMessage.Odd) ∷
    row "isZero" (Numbers NumberMessage.IsZero) ∷
    row "max:" (Numbers NumberMessage.Max) ∷
    row "min:" (Numbers NumberMessage.Min) ∷
    row "gcd:" (Numbers NumberMessage.Gcd) ∷
    row "lcm:" (Numbers NumberMessage.Lcm) ∷
    row "bitAnd:" (Numbers NumberMessage.BitAnd) ∷
    row "bitOr:" (Numbers NumberMessage.BitOr) ∷
    row "bitXor:" (Numbers NumberMessage.BitXor) ∷
    row "bitShift:" (Numbers NumberMessage.BitShift) ∷
    row "printString:" (Numbers NumberMessage.PrintRadix) ∷
    row "asString" (Numbers NumberMessage.AsString) ∷
    row "numerator" (Numbers NumberMessage.Numerator) ∷
    row "denominator" (Numbers NumberMessage.Denominator) ∷
    row "truncated" (Numbers NumberMessage.Truncated) ∷
    row "reciprocal" (Numbers NumberMessage.Reciprocal) ∷
    []

-- Fraction class
unfoldable pub fraction_class_rows : List RowAt
fraction_class_rows =
    row "numerator:denominator:" (Numbers NumberMessage.FromNumerator) ∷
    []

-- Fraction
unfoldable pub fraction_rows : List RowAt
fraction_rows =
    row "+" (Numbers NumberMessage.Add) ∷
    row "-" (Numbers NumberMessage.Subtract) ∷
    row "*" (Numbers NumberMessage.Multiply) ∷
    row "/" (Numbers NumberMessage.Divide) ∷
    row "<" (Numbers NumberMessage.Less) ∷
    row ">" (Numbers NumberMessage.Greater) ∷
    row "<=" (Numbers NumberMessage.LessOrEqual) ∷
    row ">=" (Numbers NumberMessage.GreaterOrEqual) ∷
    row "=" (Numbers NumberMessage.Equal) ∷
    row "negated" (Numbers NumberMessage.Negated) ∷
    row "abs" (Numbers NumberMessage.Abs) ∷
    row "sign" (Numbers NumberMessage.Sign) ∷
    row "isZero" (Numbers NumberMessage.IsZero) ∷
    row "max:" (Numbers NumberMessage.Max) ∷
    row "min:" (Numbers NumberMessage.Min) ∷
    row "numerator" (Numbers NumberMessage.Numerator) ∷
    row "denominator" (Numbers NumberMessage.Denominator) ∷
    row "truncated" (Numbers NumberMessage.Truncated) ∷
    row "reciprocal" (Numbers NumberMessage.Reciprocal) ∷
    row "asString" (Numbers NumberMessage.AsString) ∷
    []

-- Character class
unfoldable pub character_class_rows : List RowAt
character_class_rows =
    row "codePoint:" (Characters CharacterMessage.FromCodePoint) ∷
    row "cr" (Characters (CharacterMessage.Fixed 13)) ∷
    row "lf" (Characters (CharacterMessage.Fixed 10)) ∷
    row "tab" (Characters (CharacterMessage.Fixed 9)) ∷
    row "space" (Characters (CharacterMessage.Fixed 32)) ∷
    []

-- Character
unfoldable pub character_rows : List RowAt
character_rows =
    row "codePoint" (Characters CharacterMessage.CodePoint) ∷
    row "asLowercase" (Characters CharacterMessage.AsLowercase) ∷
    row "asUppercase" (Characters CharacterMessage.AsUppercase) ∷
    row "asString" (Characters CharacterMessage.AsString) ∷
    row "isLetter" (Characters CharacterMessage.IsLetter) ∷
    row "isDigit" (Characters CharacterMessage.IsDigit) ∷
    row "isAlphaNumeric" (Characters CharacterMessage.IsAlphaNumeric) ∷
    row "isLowercase" (Characters CharacterMessage.IsLowercase) ∷
    row "isUppercase" (Characters CharacterMessage.IsUppercase) ∷
    row "<" (Characters CharacterMessage.Less) ∷
    row ">" (Characters CharacterMessage.Greater) ∷
    row "<=" (Characters CharacterMessage.LessOrEqual) ∷
    row ">=" (Characters CharacterMessage.GreaterOrEqual) ∷
    []

-- TranscriptWriter
unfoldable pub transcript_rows : List RowAt
transcript_rows =
    row "show:" (Transcripts TranscriptMessage.Show) ∷
    row "nextPutAll:" (Transcripts TranscriptMessage.Show) ∷
    row "nextPut:" (Transcripts TranscriptMessage.NextPut) ∷
    row "cr" (Transcripts (TranscriptMessage.WriteByte 10)) ∷
    row "tab" (Transcripts (TranscriptMessage.WriteByte 9)) ∷
    row "space" (Transcripts (TranscriptMessage.WriteByte 32)) ∷
    row "flush" (Transcripts TranscriptMessage.Flush) ∷
    []

-- String
unfoldable pub string_rows : List RowAt
string_rows =
    row "=" (Strings StringMessage.Equal) ∷
    row "<" (Strings StringMessage.Less) ∷
    row ">" (Strings StringMessage.Greater) ∷
    row "<=" (Strings StringMessage.LessOrEqual) ∷
    row ">=" (Strings StringMessage.GreaterOrEqual) ∷
    row "asUppercase" (Strings StringMessage.AsUppercase) ∷
    row "asLowercase" (Strings StringMessage.AsLowercase) ∷
    row "asString" (Strings StringMessage.AsString) ∷
    row "sameAs:" (Strings StringMessage.SameAs) ∷
    []

-- String class
unfoldable pub string_class_rows : List RowAt
string_class_rows =
    row "new:" (Strings StringMessage.NewSize) ∷
    []

-- Symbol
unfoldable pub symbol_rows : List RowAt
symbol_rows =
    row "=" (Objects ObjectMessage.Same) ∷
    row "asString" (Strings StringMessage.AsString) ∷
    []

-- String, Symbol, Array, ByteArray, OrderedCollection, Interval
unfoldable pub sequence_rows : List RowAt
sequence_rows =
    row "at:" (Sequences SequenceMessage.At) ∷
    row "size" (Sequences SequenceMessage.Size) ∷
    row "isEmpty" (Sequences SequenceMessage.IsEmpty) ∷
    row "notEmpty" (Sequences SequenceMessage.NotEmpty) ∷
    row "first" (Sequences SequenceMessage.First) ∷
    row "last" (Sequences SequenceMessage.Last) ∷
    row "," (Sequences SequenceMessage.Join) ∷
    row "copyFrom:to:" (Sequences SequenceMessage.CopyFromTo) ∷
    row "reverse" (Sequences SequenceMessage.Reverse) ∷
    row "asArray" (Sequences SequenceMessage.AsArray) ∷
    row "asOrderedCollection" (Sequences SequenceMessage.AsOrderedCollection) ∷
    []

-- String, Array, ByteArray, OrderedCollection
unfoldable pub at_put_rows : List RowAt
at_put_rows =
    row "at:put:" (Sequences SequenceMessage.AtPut) ∷
    []

-- Array class
unfoldable pub array_class_rows : List RowAt
array_class_rows =
    row "new:" (Collections CollectionMessage.NewArray) ∷
    row "with:" (Collections CollectionMessage.With) ∷
    row "with:with:" (Collections CollectionMessage.With) ∷
    row "with:with:with:" (Collections CollectionMessage.With) ∷
    row "with:with:with:with:" (Collections CollectionMessage.With) ∷
    row "withAll:" (Collections CollectionMessage.WithAll) ∷
    []

-- ByteArray class
unfoldable pub byte_array_class_rows : List RowAt
byte_array_class_rows =
    row "new:" (Collections CollectionMessage.NewByteArray) ∷
    []

-- OrderedCollection class
unfoldable pub ordered_class_rows : List RowAt
ordered_class_rows =
    row "new" (Collections CollectionMessage.NewEmpty) ∷
    row "new:" (Collections CollectionMessage.NewEmpty) ∷
    []

-- OrderedCollection
unfoldable pub ordered_rows : List RowAt
ordered_rows =
    row "add:" (Collections CollectionMessage.Add) ∷
    row "addLast:" (Collections CollectionMessage.Add) ∷
    row "addFirst:" (Collections CollectionMessage.AddFirst) ∷
    row "addAll:" (Collections CollectionMessage.AddAll) ∷
    row "removeFirst" (Collections CollectionMessage.RemoveFirst) ∷
    row "removeLast" (Collections CollectionMessage.RemoveLast) ∷
    row "add:beforeIndex:" (Collections CollectionMessage.AddBeforeIndex) ∷
    row "removeAtIndex:" (Collections CollectionMessage.RemoveAtIndex) ∷
    []

-- Set class
unfoldable pub set_class_rows : List RowAt
set_class_rows =
    row "new" (Collections CollectionMessage.NewEmpty) ∷
    []

-- Dictionary class
unfoldable pub dictionary_class_rows : List RowAt
dictionary_class_rows =
    row "new" (Collections CollectionMessage.NewEmpty) ∷
    []

-- Set
unfoldable pub set_size_rows : List RowAt
set_size_rows =
    row "size" (Sequences SequenceMessage.Size) ∷
    row "isEmpty" (Sequences SequenceMessage.IsEmpty) ∷
    row "notEmpty" (Sequences SequenceMessage.NotEmpty) ∷
    []

-- Dictionary
unfoldable pub dictionary_size_rows : List RowAt
dictionary_size_rows =
    row "size" (Sequences SequenceMessage.Size) ∷
    row "isEmpty" (Sequences SequenceMessage.IsEmpty) ∷
    row "notEmpty" (Sequences SequenceMessage.NotEmpty) ∷
    row "keys" (Collections CollectionMessage.Keys) ∷
    row "values" (Collections CollectionMessage.Values) ∷
    []

-- Association class
unfoldable pub association_class_rows : List RowAt
association_class_rows =
    row "key:value:" (Collections CollectionMessage.KeyValue) ∷
    []

-- Association
unfoldable pub association_rows : List RowAt
association_rows =
    row "key" (Slots 0) ∷
    row "value" (Slots 1) ∷
    []

-- Object
unfoldable pub arrow_rows : List RowAt
arrow_rows =
    row "->" (Objects ObjectMessage.Arrow) ∷
    []

-- Integer
unfoldable pub interval_making_rows : List RowAt
interval_making_rows =
    row "to:" (Numbers NumberMessage.To) ∷
    row "to:by:" (Numbers NumberMessage.ToBy) ∷
    []

-- Block
unfoldable pub block_rows : List RowAt
block_rows =
    row "value" (Blocks BlockMessage.Value) ∷
    row "value:" (Blocks BlockMessage.Value) ∷
    row "value:value:" (Blocks BlockMessage.Value) ∷
    row "value:value:value:" (Blocks BlockMessage.Value) ∷
    row "value:value:value:value:" (Blocks BlockMessage.Value) ∷
    row "valueWithArguments:" (Blocks BlockMessage.ValueWithArguments) ∷
    row "numArgs" (Blocks BlockMessage.NumArgs) ∷
    row "on:do:" (Blocks BlockMessage.OnDo) ∷
    row "ensure:" (Blocks BlockMessage.Ensure) ∷
    row "ifCurtailed:" (Blocks BlockMessage.IfCurtailed) ∷
    []

-- Exception class
unfoldable pub exception_class_rows : List RowAt
exception_class_rows =
    row "new" (Exceptions ExceptionMessage.New) ∷
    row "signal" (Exceptions ExceptionMessage.SignalNew) ∷
    row "signal:" (Exceptions ExceptionMessage.SignalNew) ∷
    row "," (Exceptions ExceptionMessage.Join) ∷
    row "handles:" (Exceptions ExceptionMessage.Handles) ∷
    []

-- Exception
unfoldable pub exception_rows : List RowAt
exception_rows =
    row "signal" (Exceptions ExceptionMessage.Signal) ∷
    row "signal:" (Exceptions ExceptionMessage.SignalText) ∷
    row "messageText" (Exceptions ExceptionMessage.MessageText) ∷
    row "messageText:" (Exceptions ExceptionMessage.SetMessageText) ∷
    row "description" (Exceptions ExceptionMessage.Description) ∷
    row "return" (Exceptions (ExceptionMessage.Controls Control.Return)) ∷
    row "return:" (Exceptions (ExceptionMessage.Controls Control.Return)) ∷
    row "retry" (Exceptions (ExceptionMessage.Controls Control.Retry)) ∷
    row "retryUsing:" (Exceptions (ExceptionMessage.Controls Control.RetryUsing)) ∷
    row "resume" (Exceptions (ExceptionMessage.Controls Control.Resume)) ∷
    row "resume:" (Exceptions (ExceptionMessage.Controls Control.Resume)) ∷
    row "pass" (Exceptions (ExceptionMessage.Controls Control.Pass)) ∷
    row "outer" (Exceptions (ExceptionMessage.Controls Control.Outer)) ∷
    row "resignalAs:" (Exceptions (ExceptionMessage.Controls Control.ResignalAs)) ∷
    row "isNested" (Exceptions (ExceptionMessage.Controls Control.IsNested)) ∷
    row "isResumable" (Exceptions (ExceptionMessage.IsResumable false)) ∷
    row "defaultAction" (Exceptions ExceptionMessage.TerminatesProgram) ∷
    []

-- Notification
unfoldable pub notification_action_rows : List RowAt
notification_action_rows =
    row "defaultAction" (Exceptions ExceptionMessage.AnswersNil) ∷
    []

-- Warning
unfoldable pub warning_action_rows : List RowAt
warning_action_rows =
    row "defaultAction" (Exceptions ExceptionMessage.Warns) ∷
    []

-- Notification
unfoldable pub notification_resumable_rows : List RowAt
notification_resumable_rows =
    row "isResumable" (Exceptions (ExceptionMessage.IsResumable true)) ∷
    []

-- ZeroDivide
unfoldable pub zero_divide_rows : List RowAt
zero_divide_rows =
    row "dividend" (Slots 1) ∷
    row "isResumable" (Exceptions (ExceptionMessage.IsResumable true)) ∷
    []

-- MessageNotUnderstood
unfoldable pub not_understood_rows : List RowAt
not_understood_rows =
    row "message" (Slots 1) ∷
    row "receiver" (Slots 2) ∷
    row "isResumable" (Exceptions (ExceptionMessage.IsResumable true)) ∷
    []

-- Message
unfoldable pub message_rows : List RowAt
message_rows =
    row "selector" (Slots 0) ∷
    row "arguments" (Slots 1) ∷
    []

-- ExceptionSet
unfoldable pub exception_set_rows : List RowAt
exception_set_rows =
    row "," (Exceptions ExceptionMessage.Join) ∷
    row "handles:" (Exceptions ExceptionMessage.Handles) ∷
    []

-- Block
unfoldable pub while_rows : List RowAt
while_rows =
    row "whileTrue:" (Loops LoopMessage.WhileTrue) ∷
    row "whileFalse:" (Loops LoopMessage.WhileFalse) ∷
    row "whileTrue" (Loops LoopMessage.WhileTrue) ∷
    row "whileFalse" (Loops LoopMessage.WhileFalse) ∷
    []

-- Integer
unfoldable pub count_rows : List RowAt
count_rows =
    row "timesRepeat:" (Loops LoopMessage.TimesRepeat) ∷
    row "to:do:" (Loops LoopMessage.ToDo) ∷
    row "to:by:do:" (Loops LoopMessage.ToByDo) ∷
    []

-- String, Symbol, Array, ByteArray, OrderedCollection, Set, Dictionary, Interval
unfoldable pub do_rows : List RowAt
do_rows =
    row "do:" (Loops LoopMessage.Do) ∷
    row "do:separatedBy:" (Loops LoopMessage.DoSeparatedBy) ∷
    []

-- String, Symbol, Array, ByteArray, OrderedCollection, Interval
unfoldable pub reverse_do_rows : List RowAt
reverse_do_rows =
    row "reverseDo:" (Loops LoopMessage.ReverseDo) ∷
    []

-- String, Symbol, Array, ByteArray, OrderedCollection, Interval
unfoldable pub keys_do_rows : List RowAt
keys_do_rows =
    row "keysAndValuesDo:" (Loops LoopMessage.KeysAndValuesDo) ∷
    []

-- Dictionary
unfoldable pub dictionary_keys_do_rows : List RowAt
dictionary_keys_do_rows =
    row "keysAndValuesDo:" (Loops LoopMessage.KeysAndValuesDo) ∷
    row "keysDo:" (Loops LoopMessage.KeysDo) ∷
    []

-- String, Symbol, Array, ByteArray, OrderedCollection, Set, Dictionary, Interval
unfoldable pub inject_rows : List RowAt
inject_rows =
    row "inject:into:" (Loops LoopMessage.InjectInto) ∷
    []

-- String, Symbol, Array, ByteArray, OrderedCollection, Set, Dictionary, Interval
unfoldable pub detect_rows : List RowAt
detect_rows =
    row "detect:" (Loops LoopMessage.Detect) ∷
    row "detect:ifNone:" (Loops LoopMessage.DetectIfNone) ∷
    []

-- String, Symbol, Array, ByteArray, OrderedCollection, Set, Dictionary, Interval
unfoldable pub satisfy_rows : List RowAt
satisfy_rows =
    row "anySatisfy:" (Loops LoopMessage.AnySatisfy) ∷
    row "allSatisfy:" (Loops LoopMessage.AllSatisfy) ∷
    []

-- String, Symbol, Array, ByteArray, OrderedCollection, Set, Dictionary, Interval
unfoldable pub collect_rows : List RowAt
collect_rows =
    row "collect:" (Loops LoopMessage.Collect) ∷
    row "select:" (Loops LoopMessage.Select) ∷
    row "reject:" (Loops LoopMessage.Reject) ∷
    []

-- String, Symbol, Array, ByteArray, OrderedCollection, Set, Dictionary, Interval
unfoldable pub includes_rows : List RowAt
includes_rows =
    row "includes:" (Loops LoopMessage.Includes) ∷
    row "occurrencesOf:" (Loops LoopMessage.OccurrencesOf) ∷
    []

-- String, Symbol, Array, ByteArray, OrderedCollection, Interval
unfoldable pub index_rows : List RowAt
index_rows =
    row "indexOf:" (Loops LoopMessage.IndexOf) ∷
    []

-- Set
unfoldable pub set_rows : List RowAt
set_rows =
    row "add:" (Loops LoopMessage.AddToSet) ∷
    row "remove:" (Loops LoopMessage.Remove) ∷
    row "remove:ifAbsent:" (Loops LoopMessage.RemoveIfAbsent) ∷
    []

-- OrderedCollection
unfoldable pub remove_rows : List RowAt
remove_rows =
    row "remove:" (Loops LoopMessage.Remove) ∷
    row "remove:ifAbsent:" (Loops LoopMessage.RemoveIfAbsent) ∷
    []

-- Dictionary
unfoldable pub dictionary_rows : List RowAt
dictionary_rows =
    row "at:" (Loops LoopMessage.At) ∷
    row "at:ifAbsent:" (Loops LoopMessage.AtIfAbsent) ∷
    row "at:put:" (Loops LoopMessage.AtPut) ∷
    row "at:ifAbsentPut:" (Loops LoopMessage.AtIfAbsentPut) ∷
    row "includesKey:" (Loops LoopMessage.IncludesKey) ∷
    row "removeKey:" (Loops LoopMessage.RemoveKey) ∷
    row "removeKey:ifAbsent:" (Loops LoopMessage.RemoveKeyIfAbsent) ∷
    []

-- Array, OrderedCollection
unfoldable pub equal_rows : List RowAt
equal_rows =
    row "=" (Loops LoopMessage.EqualElements) ∷
    []

-- Object
unfoldable pub not_equal_rows : List RowAt
not_equal_rows =
    row "~=" (Loops LoopMessage.NotEqual) ∷
    []
