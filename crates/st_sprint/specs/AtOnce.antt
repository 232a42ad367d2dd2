-- Built-in messages that are done in place, and what they reply.
use Rattle.std.specs.Prelude.{◌≡◌, Bool, true, false}
use Rattle.object_heap.specs.declared.value.Value.{Value}
use Rattle.st_collections.specs.Actions.{Action}
use Rattle.st_contexts.specs.declared.activation.Env.{Env}
use Rattle.st_rules.specs.Sends.{row_action}
use Rattle.st_messages.specs.declared.reply.Reply.{Reply}
use Rattle.st_messages.specs.declared.row.MessageRow.{MessageRow}
use Rattle.st_messages.specs.Replies.{seen, told_by, memory_after}
use Rattle.st_messages.specs.Rows.{table_row}
use Rattle.st_messages.specs.Sent.{is_sound}
use Rattle.st_machine.specs.Performing.{said}
use Rattle.st_machine.specs.Plans.{program_in}
use Rattle.st_machine.specs.Seen.{Seen, with_memory}

-- what a row of the table does for a receiver with the values that are passed on
abbrev pub does_of : MessageRow → Value → Seen → Action
does_of row r s = row_action (program_in s.plan) s.memory.store (table_row row) r s.passed.values

-- a reply that tells nothing and writes nothing, whatever stands
abbrev pub is_quiet : Reply → Bool
is_quiet (Reply.Answer b) = true
is_quiet (Reply.DividesByZero v) = true
is_quiet (Reply.Writes w v) = false
is_quiet (Reply.Begins v passed) = true
is_quiet (Reply.Activates c passed) = true
is_quiet (Reply.Sends selector v passed) = true
is_quiet (Reply.Misses selector v) = false
is_quiet (Reply.Enters code v) = true
is_quiet (Reply.Guards r selector handler) = false
is_quiet (Reply.Ensures r block) = false
is_quiet (Reply.Curtails r block) = false
is_quiet (Reply.Iterates kind v) = true
is_quiet (Reply.Raises exception) = true
is_quiet (Reply.RaisesNew class passed) = true
is_quiet (Reply.Controls control exception v) = false
is_quiet (Reply.Terminates v) = true

-- a row was done, and this is its reply
pub record Replies (row : MessageRow) (r : Value) (reply : Reply) (s s' : Seen) : Type 0 where
  pub sound : is_sound s.memory.store (table_row row) r s.passed.values ≡ true
  pub told : seen (program_in s.plan) s.memory.store s.passed.values reply ≡ told_by (does_of row r s) s.memory
  pub made : s' ≡ with_memory s (memory_after (does_of row r s) s.memory)

-- the same, where the reply tells and writes nothing
pub record RepliesQuietly (row : MessageRow) (r : Value) (reply : Reply) (s s' : Seen) : Type 0 where
  pub replies : Replies row r reply s s'
  pub quiet : is_quiet reply ≡ true

-- a machine goes on with what a reply says
abbrev pub replied : Reply → Env → Seen → Seen
replied reply env s = said (seen (program_in s.plan) s.memory.store s.passed.values reply) env s
