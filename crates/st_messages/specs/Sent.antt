-- What is found for a send, and what is asked of its receiver.
use Rattle.std.specs.Prelude.{◌≡◌, ℕ, Bool, true, false, not, ◌&&◌, ◌||◌, List, Option, Some, None}
use Rattle.object_heap.specs.declared.value.Value.{Value}
use Rattle.object_heap.specs.Store.{Store}
use Rattle.st_code.specs.Lookup.{Found, UserMethod, BuiltIn}
use Rattle.st_code.specs.Messages.{CollectionMessage as CollectionRow, Row, Collections}
use Rattle.st_code.specs.Program.{Program}
use Rattle.st_collections.specs.Actions.{Action, Enters, Misses, first}
use Rattle.st_collections.specs.Items.{IsMeasured, is_measured}
use Rattle.st_collections.specs.Ordered.{IsOrdered, is_ordered}
use Rattle.st_collections.specs.declared.message.OfOrdered.{OfOrdered}
use Rattle.st_rules.specs.Sends.{row_action}
use Rattle.st_messages.specs.declared.row.MessageRow.{MessageRow}
use Rattle.st_messages.specs.Rows.{ordered_row}

-- what is found does this
abbrev pub found_does : Program → Store → Option Found → ℕ → Value → List Value → Action
found_does p s (Some (UserMethod code)) selector r args = Enters code r args
found_does p s (Some (BuiltIn row)) selector r args = row_action p s row r args
found_does p s None selector r args = Misses selector r args

-- a row that changes an OrderedCollection
abbrev pub is_changing : Row → Bool
is_changing (Collections CollectionRow.Add) = true
is_changing (Collections CollectionRow.AddFirst) = true
is_changing (Collections CollectionRow.AddAll) = true
is_changing (Collections CollectionRow.RemoveFirst) = true
is_changing (Collections CollectionRow.RemoveLast) = true
is_changing (Collections CollectionRow.AddBeforeIndex) = true
is_changing (Collections CollectionRow.RemoveAtIndex) = true
is_changing row = false

-- no Interval among the receiver and the first argument has 2^127 elements or more, and an OrderedCollection that a row changes is one as it stands
unfoldable pub is_sound : Store → Row → Value → List Value → Bool
is_sound s row r args = is_measured s r && is_measured s (first args) && (not (is_changing row) || is_ordered s r)

-- the same for what a send finds
unfoldable pub is_ready : Store → Option Found → Value → List Value → Bool
is_ready s (Some (BuiltIn row)) r args = is_sound s row r args
is_ready s found r args = true

-- the same as facts
pub record IsSound (s : Store) (row : MessageRow) (r : Value) (args : List Value) : Type 0 where
  pub receiver : IsMeasured s r
  pub argument : IsMeasured s (first args)
  pub ordered : (m : OfOrdered) → row ≡ MessageRow.Ordered m → IsOrdered s r

pub record IsReady (s : Store) (found : Option Found) (r : Value) (args : List Value) : Type 0 where
  pub receiver : IsMeasured s r
  pub argument : IsMeasured s (first args)
  pub ordered : (m : OfOrdered) → found ≡ Some (BuiltIn (Collections (ordered_row m))) → IsOrdered s r

-- where these facts hold, what is found is ready
abbrev pub ReadyIsDone : Type 0
ReadyIsDone = (s : Store) (found : Option Found) (r : Value) (args : List Value) → IsReady s found r args → is_ready s found r args ≡ true
