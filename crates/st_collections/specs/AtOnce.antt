-- What the messages of this crate do, one by one, by the table of built-in messages.
use Rattle.std.specs.Prelude.{List, [], if◌then◌else◌}
use Rattle.object_heap.specs.declared.value.Value.{Value}
use Rattle.object_heap.specs.declared.trouble.Trouble.TheVariants.{CollectionExpected}
use Rattle.object_heap.specs.Store.{Store}
use Rattle.st_code.specs.BuiltIns.{array_class}
use Rattle.st_code.specs.Program.{Program}
use Rattle.st_code.specs.Messages.{CharacterMessage, StringMessage, SequenceMessage, ObjectMessage, CollectionMessage as CollectionRow}
use Rattle.st_collections.specs.declared.message.CollectionMessage.{CollectionMessage}
use Rattle.st_collections.specs.declared.message.OfCharacter.{OfCharacter}
use Rattle.st_collections.specs.declared.message.OfMaking.{OfMaking}
use Rattle.st_collections.specs.declared.message.OfOrdered.{OfOrdered}
use Rattle.st_collections.specs.declared.message.OfPair.{OfPair}
use Rattle.st_collections.specs.declared.message.OfSequence.{OfSequence}
use Rattle.st_collections.specs.declared.message.OfString.{OfString}
use Rattle.st_collections.specs.Actions.{Action, Gives, Fails, first, second, makes_slots}
use Rattle.st_collections.specs.TextRows.{character_action, string_action}
use Rattle.st_collections.specs.SequenceRows.{sequence_action, collection_action}
use Rattle.st_collections.specs.Ordered.{IsOrdered}
use Rattle.st_collections.specs.ObjectRows.{object_action}
use Rattle.st_collections.specs.IntervalRows.{to_action, to_by_action}
use Rattle.st_collections.specs.Kinds.{elements, is_collection, slot_of}

-- the row of a message of Characters
abbrev pub character_row : OfCharacter → CharacterMessage
character_row OfCharacter.FromCodePoint = CharacterMessage.FromCodePoint
character_row OfCharacter.Cr = CharacterMessage.Fixed 13
character_row OfCharacter.Lf = CharacterMessage.Fixed 10
character_row OfCharacter.Tab = CharacterMessage.Fixed 9
character_row OfCharacter.Space = CharacterMessage.Fixed 32
character_row OfCharacter.CodePoint = CharacterMessage.CodePoint
character_row OfCharacter.AsLowercase = CharacterMessage.AsLowercase
character_row OfCharacter.AsUppercase = CharacterMessage.AsUppercase
character_row OfCharacter.AsString = CharacterMessage.AsString
character_row OfCharacter.IsLetter = CharacterMessage.IsLetter
character_row OfCharacter.IsDigit = CharacterMessage.IsDigit
character_row OfCharacter.IsAlphaNumeric = CharacterMessage.IsAlphaNumeric
character_row OfCharacter.IsLowercase = CharacterMessage.IsLowercase
character_row OfCharacter.IsUppercase = CharacterMessage.IsUppercase
character_row OfCharacter.Less = CharacterMessage.Less
character_row OfCharacter.Greater = CharacterMessage.Greater
character_row OfCharacter.LessOrEqual = CharacterMessage.LessOrEqual
character_row OfCharacter.GreaterOrEqual = CharacterMessage.GreaterOrEqual

-- the row of a message of Strings
abbrev pub string_row : OfString → StringMessage
string_row OfString.Equal = StringMessage.Equal
string_row OfString.Less = StringMessage.Less
string_row OfString.Greater = StringMessage.Greater
string_row OfString.LessOrEqual = StringMessage.LessOrEqual
string_row OfString.GreaterOrEqual = StringMessage.GreaterOrEqual
string_row OfString.AsUppercase = StringMessage.AsUppercase
string_row OfString.AsLowercase = StringMessage.AsLowercase
string_row OfString.AsString = StringMessage.AsString
string_row OfString.SameAs = StringMessage.SameAs
string_row OfString.NewSize = StringMessage.NewSize

-- the row of a message of sequences
abbrev pub sequence_row : OfSequence → SequenceMessage
sequence_row OfSequence.At = SequenceMessage.At
sequence_row OfSequence.Size = SequenceMessage.Size
sequence_row OfSequence.IsEmpty = SequenceMessage.IsEmpty
sequence_row OfSequence.NotEmpty = SequenceMessage.NotEmpty
sequence_row OfSequence.First = SequenceMessage.First
sequence_row OfSequence.Last = SequenceMessage.Last
sequence_row OfSequence.Join = SequenceMessage.Join
sequence_row OfSequence.CopyFromTo = SequenceMessage.CopyFromTo
sequence_row OfSequence.Reverse = SequenceMessage.Reverse
sequence_row OfSequence.AsArray = SequenceMessage.AsArray
sequence_row OfSequence.AsOrderedCollection = SequenceMessage.AsOrderedCollection
sequence_row OfSequence.AtPut = SequenceMessage.AtPut

-- `withAll:`
abbrev pub with_all : Program → Store → Value → Action
with_all p s v = if is_collection s v then makes_slots array_class (elements p s v) s else Fails CollectionExpected

-- messages that make a collection, an Association or an Interval
abbrev pub making_action : Program → Store → OfMaking → Value → List Value → Action
making_action p s OfMaking.Array r args = collection_action p s CollectionRow.NewArray r args
making_action p s OfMaking.ByteArray r args = collection_action p s CollectionRow.NewByteArray r args
making_action p s OfMaking.With r args = collection_action p s CollectionRow.With r args
making_action p s OfMaking.WithAll r args = collection_action p s CollectionRow.WithAll r args
making_action p s OfMaking.Empty r args = collection_action p s CollectionRow.NewEmpty r args
making_action p s OfMaking.KeyValue r args = collection_action p s CollectionRow.KeyValue r args
making_action p s OfMaking.Arrow r args = object_action p s ObjectMessage.Arrow r args
making_action p s OfMaking.To r args = to_action s r (first args)
making_action p s OfMaking.ToBy r args = to_by_action s r (first args) (second args)

-- messages that read the pairs of Dictionaries and Associations
abbrev pub pair_action : Program → Store → OfPair → Value → Action
pair_action p s OfPair.Keys r = collection_action p s CollectionRow.Keys r []
pair_action p s OfPair.Values r = collection_action p s CollectionRow.Values r []
pair_action p s OfPair.Key r = Gives (slot_of s r 0)
pair_action p s OfPair.Value r = Gives (slot_of s r 1)

-- messages of OrderedCollections that add and remove
abbrev pub ordered_action : Program → Store → OfOrdered → Value → List Value → Action
ordered_action p s OfOrdered.Add r args = collection_action p s CollectionRow.Add r args
ordered_action p s OfOrdered.AddFirst r args = collection_action p s CollectionRow.AddFirst r args
ordered_action p s OfOrdered.AddAll r args = collection_action p s CollectionRow.AddAll r args
ordered_action p s OfOrdered.RemoveFirst r args = collection_action p s CollectionRow.RemoveFirst r args
ordered_action p s OfOrdered.RemoveLast r args = collection_action p s CollectionRow.RemoveLast r args
ordered_action p s OfOrdered.AddBeforeIndex r args = collection_action p s CollectionRow.AddBeforeIndex r args
ordered_action p s OfOrdered.RemoveAtIndex r args = collection_action p s CollectionRow.RemoveAtIndex r args

-- what a message does
abbrev pub action_of : Program → Store → CollectionMessage → Value → List Value → Action
action_of p s (CollectionMessage.Character m) r args = character_action s (character_row m) r args
action_of p s (CollectionMessage.String m) r args = string_action p s (string_row m) r args
action_of p s (CollectionMessage.Sequence m) r args = sequence_action p s (sequence_row m) r args
action_of p s (CollectionMessage.Making m) r args = making_action p s m r args
action_of p s (CollectionMessage.Pair m) r args = pair_action p s m r
action_of p s (CollectionMessage.Ordered m) r args = ordered_action p s m r args

-- an OrderedCollection that a message changes is one as it stands
abbrev pub IsReceiver : Store → CollectionMessage → Value → Type 0
IsReceiver s (CollectionMessage.Ordered m) r = IsOrdered s r
IsReceiver s _ r = Unit {0}
