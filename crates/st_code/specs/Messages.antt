-- The built-in messages, each by what it does (ANSI 5).
use Rattle.std.specs.Prelude.{ℕ, Bool}

-- of every object
pub data ObjectMessage : Type 0 where
  Same NotSame ClassOf IsNil NotNil IsString IsSymbol IsKindOf IsMemberOf RespondsTo Hash Yourself Copy PrintString DisplayString Size At AtPut ErrorText SubclassResponsibility NotUnderstood Perform PerformWithArguments Arrow : ObjectMessage

-- of classes
pub data ClassMessage : Type 0 where
  Name Superclass New NewSize : ClassMessage

pub data BooleanMessage : Type 0 where
  And Or Not Xor AndThen OrElse IfTrue IfFalse IfTrueIfFalse IfFalseIfTrue : BooleanMessage

-- of Integers and Fractions
pub data NumberMessage : Type 0 where
  Add Subtract Multiply Divide FloorDivide FloorModulo Quotient Remainder Less Greater LessOrEqual GreaterOrEqual Equal Negated Abs Sign Even Odd IsZero Max Min Gcd Lcm BitAnd BitOr BitXor BitShift Numerator Denominator Truncated Reciprocal AsString PrintRadix To ToBy FromNumerator : NumberMessage

pub data CharacterMessage : Type 0 where
  FromCodePoint : CharacterMessage
  Fixed : (byte : ℕ) → CharacterMessage
  CodePoint AsLowercase AsUppercase AsString IsLetter IsDigit IsAlphaNumeric IsLowercase IsUppercase Less Greater LessOrEqual GreaterOrEqual : CharacterMessage

pub data TranscriptMessage : Type 0 where
  Show NextPut Flush : TranscriptMessage
  WriteByte : (byte : ℕ) → TranscriptMessage

-- of Strings, and those that Symbols inherit
pub data StringMessage : Type 0 where
  Equal Less Greater LessOrEqual GreaterOrEqual AsUppercase AsLowercase AsString SameAs NewSize : StringMessage

-- of all that has elements at indexes
pub data SequenceMessage : Type 0 where
  At Size IsEmpty NotEmpty First Last Join CopyFromTo Reverse AsArray AsOrderedCollection AtPut : SequenceMessage

-- of Arrays, ByteArrays, OrderedCollections, Sets, Dictionaries and Associations
pub data CollectionMessage : Type 0 where
  NewArray NewByteArray With WithAll NewEmpty Add AddFirst AddAll RemoveFirst RemoveLast AddBeforeIndex RemoveAtIndex Keys Values KeyValue : CollectionMessage

-- of Blocks
pub data BlockMessage : Type 0 where
  Value ValueWithArguments NumArgs OnDo Ensure IfCurtailed : BlockMessage

-- what a handler tells its exception to do
pub data Control : Type 0 where
  Return Retry RetryUsing Resume Pass Outer ResignalAs IsNested : Control

-- of Exceptions, their classes and ExceptionSets
pub data ExceptionMessage : Type 0 where
  New SignalNew Join Handles Signal SignalText MessageText SetMessageText Description : ExceptionMessage
  Controls : Control → ExceptionMessage
  IsResumable : Bool → ExceptionMessage
  TerminatesProgram AnswersNil Warns : ExceptionMessage

-- the loops
pub data LoopMessage : Type 0 where
  WhileTrue WhileFalse TimesRepeat ToDo ToByDo Do DoSeparatedBy ReverseDo KeysAndValuesDo KeysDo InjectInto Detect DetectIfNone AnySatisfy AllSatisfy Collect Select Reject Includes OccurrencesOf IndexOf AddToSet Remove RemoveIfAbsent At AtIfAbsent AtPut AtIfAbsentPut IncludesKey RemoveKey RemoveKeyIfAbsent EqualElements NotEqual : LoopMessage

-- a row of the table of built-in messages; `Slots n` answers the receiver's slot n
pub data Row : Type 0 where
  Objects : ObjectMessage → Row
  Classes : ClassMessage → Row
  Booleans : BooleanMessage → Row
  Numbers : NumberMessage → Row
  Characters : CharacterMessage → Row
  Transcripts : TranscriptMessage → Row
  Strings : StringMessage → Row
  Sequences : SequenceMessage → Row
  Collections : CollectionMessage → Row
  Blocks : BlockMessage → Row
  Exceptions : ExceptionMessage → Row
  Loops : LoopMessage → Row
  Slots : (slot : ℕ) → Row
