-- What a send does at once, once its step is charged (ANSI 3.3).
use Rattle.std.specs.Prelude.{ℕ, List, Option, Some, None}
use Rattle.object_heap.specs.declared.value.Value.{Value}
use Rattle.object_heap.specs.Store.{Store}
use Rattle.st_code.specs.Program.{Program}
use Rattle.st_code.specs.Messages.{Row, Objects, Classes, Booleans, Numbers, Characters, Transcripts, Strings, Sequences, Collections, Blocks, Exceptions, Loops, Slots}
use Rattle.st_code.specs.Lookup.{Found, UserMethod, BuiltIn, level_of, lookup, super_lookup}
use Rattle.st_collections.specs.Actions.{Action, Gives, Enters, Misses}
use Rattle.st_collections.specs.Kinds.{slot_of}
use Rattle.st_collections.specs.ObjectRows.{object_action, class_action, boolean_action}
use Rattle.st_rules.specs.NumberRows.{number_action}
use Rattle.st_collections.specs.TextRows.{character_action, string_action, transcript_action}
use Rattle.st_collections.specs.SequenceRows.{sequence_action, collection_action}
use Rattle.st_rules.specs.ExceptionRows.{block_action, exception_action}
use Rattle.st_collections.specs.Loops.{loop_action}

-- a row of the table
unfoldable pub row_action : Program → Store → Row → Value → List Value → Action
row_action p s (Objects m) r args = object_action p s m r args
row_action p s (Classes m) r args = class_action p s m r args
row_action p s (Booleans m) r args = boolean_action m r args
row_action p s (Numbers m) r args = number_action p s m r args
row_action p s (Characters m) r args = character_action s m r args
row_action p s (Transcripts m) r args = transcript_action p s m r args
row_action p s (Strings m) r args = string_action p s m r args
row_action p s (Sequences m) r args = sequence_action p s m r args
row_action p s (Collections m) r args = collection_action p s m r args
row_action p s (Blocks m) r args = block_action p s m r args
row_action p s (Exceptions m) r args = exception_action p s m r args
row_action p s (Loops m) r args = loop_action p s m r args
row_action p s (Slots slot) r args = Gives (slot_of s r slot)

abbrev found_action : Program → Store → Option Found → ℕ → Value → List Value → Action
found_action p s (Some (UserMethod code)) selector r args = Enters code r args
found_action p s (Some (BuiltIn row)) selector r args = row_action p s row r args
found_action p s None selector r args = Misses selector r args

-- a send, and a send to super in a body of this class
unfoldable pub send_action : Program → Store → (selector : ℕ) → Value → List Value → Action
send_action p s selector r args = found_action p s (lookup p (level_of s r) selector) selector r args

unfoldable pub super_action : Program → Store → (class : Value) → (selector : ℕ) → Value → List Value → Action
super_action p s class selector r args = found_action p s (super_lookup p class selector) selector r args
