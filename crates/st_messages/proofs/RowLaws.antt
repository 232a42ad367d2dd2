-- The rows of the table that are here, by their numbers.
use Rattle.std.proofs.Common.{◌≡◌, ◌-◌, ◌≤◌, ◌<◌, ℕ, zero, suc, List, [], ◌∷◌, Some, None, get_or, length, map, refl, ap, sym, arith, ◌∙◌}
use Rattle.std.specs.List.{slice_get}
use Rattle.std.proofs.Math.ListN.{get_or-map}
use Rattle.std.proofs.lemmas.List.{get_or-map as get_or-map_below, get_or-take, get_or_past, length-map}
use Rattle.object_heap.specs.declared.value.Value.{Value}
use Rattle.object_heap.specs.declared.value.Value.TheVariants.{Nil, True, False, Integer, Character, Symbol, Class, Meta, Transcript, Object}
use Rattle.object_heap.specs.Store.{Store}
use Rattle.st_code.specs.BuiltIns.{BuiltInMessage, no_message, numbered_messages, numbered_row}
use Rattle.st_code.specs.Messages.{ObjectMessage, LoopMessage, Row, Objects, Classes, Booleans, Numbers, Characters, Transcripts, Strings, Sequences, Collections, Blocks, Exceptions, Loops, Slots}
use Rattle.st_code.specs.Program.{Program}
use Rattle.st_collections.specs.AtOnce.{making_action, ordered_action, pair_action}
use Rattle.st_collections.specs.SequenceRows.{collection_action}
use Rattle.st_collections.specs.declared.message.OfOrdered.{OfOrdered}
use Rattle.st_collections.specs.declared.message.OfPair.{OfPair}
use Rattle.st_rules.specs.NumberRows.{number_action}
use Rattle.st_rules.specs.Sends.{row_action}
use Rattle.st_messages.specs.declared.row.MessageRow.{MessageRow}
use Rattle.st_messages.specs.declared.row.OfMaker.{OfMaker}
use Rattle.st_loops.specs.Kinds.{loop_of, loops_in}
use Rattle.st_loops.proofs.Numbered.{behind}
use Rattle.st_messages.specs.Rows.{maker_row, making_of, ordered_row, pair_row, plain_rows, table_row}

-- what is no message is `=`
abbrev same : Row
same = Objects ObjectMessage.Same

plain_count : length plain_rows ≡ 278
unfolding plain_rows numbered_messages
plain_count = refl

plain-number : (n : ℕ) → n < 278 → get_or plain_rows n same ≡ numbered_row n
unfolding plain_rows numbered_row
plain-number n h = get_or-take 278 (map (λ (m : BuiltInMessage). m.row) numbered_messages) n same h ∙ get_or-map (λ (m : BuiltInMessage). m.row) numbered_messages n no_message

rows_count : (rows : List MessageRow) → map table_row rows ≡ plain_rows → length rows ≡ 278
rows_count rows e = sym (length-map rows table_row) ∙ (ap (λ (xs : List Row). length xs) e ∙ plain_count)

pub row_below : (rows : List MessageRow) (n : ℕ) (d : MessageRow) → map table_row rows ≡ plain_rows → n < length rows → table_row (get_or rows n d) ≡ numbered_row n
row_below rows n d e h =
    let below : n < 278 = rw (rows_count rows e) at h in
    sym (get_or-map_below table_row rows n d same h) ∙ (ap (λ (xs : List Row). get_or xs n same) e ∙ plain-number n below)

-- ---- the loops, and what is no message

none_past : {X : Type 0} → (xs : List X) (k : ℕ) → slice_get xs k ≡ None → length xs ≤ k
none_past [] k e = omega arith
none_past (x ∷ xs) zero e = cc
none_past (x ∷ xs) (suc k) e = omega (arith, none_past xs k e)

loop_count : length (loops_in numbered_messages) ≡ 138
unfolding numbered_messages
loop_count = refl

message_count : length numbered_messages ≡ 416
unfolding numbered_messages
message_count = refl

past_all : (n : ℕ) → 416 ≤ n → numbered_row n ≡ same
unfolding numbered_row
past_all n h = ap (λ (m : BuiltInMessage). m.row) (get_or_past numbered_messages n no_message (rw message_count h))

pub row_past : (rows : List MessageRow) (n : ℕ) → map table_row rows ≡ plain_rows → length rows ≤ n → None ≡ loop_of (numbered_row n) → same ≡ numbered_row n
row_past rows n e h none =
    let behind_plain : 278 ≤ n = rw (rows_count rows e) at h in
    let past : length (loops_in numbered_messages) ≤ n - 278 = none_past (loops_in numbered_messages) (n - 278) (sym (none ∙ behind n behind_plain)) in
    let far : 416 ≤ n = omega (arith, loop_count) in
    sym (past_all n far)

pub loop-is : (x : Row) (m : LoopMessage) → Some m ≡ loop_of x → Loops m ≡ x
loop-is (Objects k) m e = cc
loop-is (Classes k) m e = cc
loop-is (Booleans k) m e = cc
loop-is (Numbers k) m e = cc
loop-is (Characters k) m e = cc
loop-is (Transcripts k) m e = cc
loop-is (Strings k) m e = cc
loop-is (Sequences k) m e = cc
loop-is (Collections k) m e = cc
loop-is (Blocks k) m e = cc
loop-is (Exceptions k) m e = cc
loop-is (Loops k) m e = cc
loop-is (Slots k) m e = cc

-- ---- rows of collections

pub makers_same : (p : Program) (s : Store) (m : OfMaker) (r : Value) (args : List Value) → row_action p s (maker_row m) r args ≡ making_action p s (making_of m) r args
unfolding row_action number_action
makers_same p s OfMaker.Array r args = refl
makers_same p s OfMaker.ByteArray r args = refl
makers_same p s OfMaker.With r args = refl
makers_same p s OfMaker.WithAll r args = refl
makers_same p s OfMaker.Empty r args = refl
makers_same p s OfMaker.KeyValue r args = refl
makers_same p s OfMaker.Arrow r args = refl
makers_same p s OfMaker.To r args = refl
makers_same p s OfMaker.ToBy r args = refl

pub ordered_same : (p : Program) (s : Store) (m : OfOrdered) (r : Value) (args : List Value) → row_action p s (Collections (ordered_row m)) r args ≡ ordered_action p s m r args
unfolding row_action
ordered_same p s OfOrdered.Add r args = refl
ordered_same p s OfOrdered.AddFirst r args = refl
ordered_same p s OfOrdered.AddAll r args = refl
ordered_same p s OfOrdered.RemoveFirst r args = refl
ordered_same p s OfOrdered.RemoveLast r args = refl
ordered_same p s OfOrdered.AddBeforeIndex r args = refl
ordered_same p s OfOrdered.RemoveAtIndex r args = refl

pub pairs_same : (p : Program) (s : Store) (m : OfPair) (r : Value) (args : List Value) → row_action p s (pair_row m) r args ≡ pair_action p s m r
unfolding row_action collection_action
pairs_same p s OfPair.Keys Nil args = refl
pairs_same p s OfPair.Keys True args = refl
pairs_same p s OfPair.Keys False args = refl
pairs_same p s OfPair.Keys (Integer n) args = refl
pairs_same p s OfPair.Keys (Character n) args = refl
pairs_same p s OfPair.Keys (Symbol n) args = refl
pairs_same p s OfPair.Keys (Class n) args = refl
pairs_same p s OfPair.Keys (Meta n) args = refl
pairs_same p s OfPair.Keys Transcript args = refl
pairs_same p s OfPair.Keys (Object n) args = refl
pairs_same p s OfPair.Values Nil args = refl
pairs_same p s OfPair.Values True args = refl
pairs_same p s OfPair.Values False args = refl
pairs_same p s OfPair.Values (Integer n) args = refl
pairs_same p s OfPair.Values (Character n) args = refl
pairs_same p s OfPair.Values (Symbol n) args = refl
pairs_same p s OfPair.Values (Class n) args = refl
pairs_same p s OfPair.Values (Meta n) args = refl
pairs_same p s OfPair.Values Transcript args = refl
pairs_same p s OfPair.Values (Object n) args = refl
pairs_same p s OfPair.Key r args = refl
pairs_same p s OfPair.Value r args = refl
