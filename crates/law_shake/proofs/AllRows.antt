-- All rows and visits are the same under a renaming.
use Rattle.std.proofs.Common.{◌≡◌, ◌≤◌, List, length, ap}
use Rattle.object_heap.specs.declared.value.Value.{Value}
use Rattle.object_heap.specs.Store.{Store}
use Rattle.st_code.specs.Program.{Program}
use Rattle.st_code.specs.Messages.{Row, Objects, Classes, Booleans, Numbers, Characters, Transcripts, Strings, Sequences, Collections, Blocks, Exceptions, Loops, Slots}
use Rattle.st_collections.specs.Actions.{Gives}
use Rattle.st_rules.specs.Sends.{row_action}
use Rattle.law_shake.specs.Renaming.{Renaming, taken, ren, rens, ren_store, ren_action, IsRenamed}
use Rattle.law_shake.proofs.Lookups.{slot_ren}
use Rattle.law_shake.proofs.Rows.{object_ren}
use Rattle.law_shake.proofs.PlainRows.{class_ren, boolean_ren, character_ren, string_ren, transcript_ren, block_ren}
use Rattle.law_shake.proofs.PlainAnswers.{plain_answer}
use Rattle.law_shake.proofs.NumberRows.{number_ren}
use Rattle.law_shake.proofs.ElementRows.{sequence_ren, collection_ren}
use Rattle.law_shake.proofs.ExceptionRows.{exception_ren}
use Rattle.law_shake.proofs.LoopRows.{loop_ren, first_visit_ren, next_visit_ren}
use Rattle.law_shake.proofs.Steps.{RowsAlike}

module _ (x : Renaming) (q p : Program) (is : IsRenamed x q p) where
  row_ren : (s : Store) → taken x.objects ≤ length s.objects → (row : Row) (v : Value) (args : List Value) → row_action p (ren_store x s) row (ren x v) (rens x args) ≡ ren_action x (row_action q s row v args)
  unfolding row_action
  row_ren s room (Objects m) v args = object_ren x q p is s room m v args
  row_ren s room (Classes m) v args = class_ren x q p is s room m v args
  row_ren s room (Booleans m) v args = boolean_ren x q p is s room m v args
  row_ren s room (Numbers m) v args = number_ren x q p is s room (plain_answer x) m v args
  row_ren s room (Characters m) v args = character_ren x q p is s room m v args
  row_ren s room (Transcripts m) v args = transcript_ren x q p is s room m v args
  row_ren s room (Strings m) v args = string_ren x q p is s room m v args
  row_ren s room (Sequences m) v args = sequence_ren x q p is s room m v args
  row_ren s room (Collections m) v args = collection_ren x q p is s room m v args
  row_ren s room (Blocks m) v args = block_ren x q p is s room m v args
  row_ren s room (Exceptions m) v args = exception_ren x q p is s room m v args
  row_ren s room (Loops m) v args = loop_ren x q p is s room m v args
  row_ren s room (Slots slot) v args = ap Gives (slot_ren x s v slot)

  pub rows_alike : RowsAlike x q p
  rows_alike =
      record {
        rows = row_ren;
        first = λ s room l. first_visit_ren x q p is s room l;
        next = λ s room l v. next_visit_ren x q p is s room l v;
      }
