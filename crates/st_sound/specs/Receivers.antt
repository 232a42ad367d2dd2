-- Which classes the receivers of a built-in message have, where that counts: what changes an OrderedCollection, a Set or a Dictionary is found by these alone, and what makes a sequence like its receiver by no Dictionary.
use Rattle.std.specs.Prelude.{ℕ, Bool, true, false, not, ◌||◌, nat_eq}
use Rattle.st_code.specs.BuiltIns.{ordered_collection_class, set_class, dictionary_class}
use Rattle.st_code.specs.Messages.{Row, Sequences, Collections, Exceptions, Loops, SequenceMessage, CollectionMessage, LoopMessage}
use Rattle.st_sound.specs.SoundStore.{is_free}

-- an OrderedCollection or a Set
abbrev pub is_listed : ℕ → Bool
is_listed class = nat_eq class ordered_collection_class || nat_eq class set_class

abbrev pub takes_sequence : SequenceMessage → ℕ → Bool
takes_sequence SequenceMessage.Join class = not (nat_eq class dictionary_class)
takes_sequence SequenceMessage.CopyFromTo class = not (nat_eq class dictionary_class)
takes_sequence SequenceMessage.Reverse class = not (nat_eq class dictionary_class)
takes_sequence SequenceMessage.AtPut class = is_free class
takes_sequence m class = true

-- what changes an OrderedCollection
abbrev pub changes : CollectionMessage → Bool
changes CollectionMessage.Add = true
changes CollectionMessage.AddFirst = true
changes CollectionMessage.AddAll = true
changes CollectionMessage.RemoveFirst = true
changes CollectionMessage.RemoveLast = true
changes CollectionMessage.AddBeforeIndex = true
changes CollectionMessage.RemoveAtIndex = true
changes m = false

abbrev pub takes_collection : CollectionMessage → ℕ → Bool
takes_collection m class = not (changes m) || nat_eq class ordered_collection_class

abbrev pub takes_loop : LoopMessage → ℕ → Bool
takes_loop LoopMessage.AddToSet class = nat_eq class set_class
takes_loop LoopMessage.Remove class = is_listed class
takes_loop LoopMessage.RemoveIfAbsent class = is_listed class
takes_loop LoopMessage.AtPut class = nat_eq class dictionary_class
takes_loop LoopMessage.AtIfAbsentPut class = nat_eq class dictionary_class
takes_loop LoopMessage.RemoveKey class = nat_eq class dictionary_class
takes_loop LoopMessage.RemoveKeyIfAbsent class = nat_eq class dictionary_class
takes_loop m class = true

-- the row may be found by receivers of this class, or by the class itself
abbrev pub takes : Row → ℕ → Bool
takes (Sequences m) class = takes_sequence m class
takes (Collections m) class = takes_collection m class
takes (Exceptions m) class = is_free class
takes (Loops m) class = takes_loop m class
takes row class = true
