-- What the tests of a row's receiver and arguments tell.
use Rattle.std.proofs.Common.{◌≡◌, ℕ, Bool, true, false, not, ◌&&◌, ◌||◌, List, Option, Some, None, refl, ap, ◌∙◌}
use Rattle.std.specs.Option.{option_map}
use Rattle.object_heap.specs.declared.value.Value.{Value}
use Rattle.object_heap.specs.Store.{Store}
use Rattle.st_code.specs.BuiltIns.{numbered_row}
use Rattle.st_code.specs.Lookup.{Found, UserMethod, BuiltIn}
use Rattle.program_image.specs.Images.{as_row}
use Rattle.program_image.specs.declared.table.Found.{Found as ImageFound}
use Rattle.st_code.specs.Messages.{CollectionMessage as CollectionRow, Row, Collections}
use Rattle.st_collections.specs.Actions.{first}
use Rattle.st_collections.specs.Items.{is_measured}
use Rattle.st_collections.specs.Ordered.{IsOrdered, is_ordered}
use Rattle.st_collections.specs.declared.message.OfOrdered.{OfOrdered}
use Rattle.st_collections.proofs.Conditions.{measured_so, ordered_so, so_measured, so_ordered}
use Rattle.st_messages.specs.declared.row.MessageRow.{MessageRow}
use Rattle.st_messages.specs.Rows.{ordered_row, table_row}
use Rattle.st_messages.specs.Sent.{IsReady, IsSound, is_changing, is_ready, is_sound}

first_holds : (a b c : Bool) → (a && b && c) ≡ true → a ≡ true
first_holds true b c e = refl
first_holds false b c e = e

second_holds : (a b c : Bool) → (a && b && c) ≡ true → b ≡ true
second_holds true true c e = refl
second_holds true false c e = e
second_holds false b c e = cc

third_holds : (a b c : Bool) → (a && b && c) ≡ true → c ≡ true
third_holds true true c e = e
third_holds true false c e = cc
third_holds false b c e = cc

changing : (m : OfOrdered) → is_changing (Collections (ordered_row m)) ≡ true
changing OfOrdered.Add = refl
changing OfOrdered.AddFirst = refl
changing OfOrdered.AddAll = refl
changing OfOrdered.RemoveFirst = refl
changing OfOrdered.RemoveLast = refl
changing OfOrdered.AddBeforeIndex = refl
changing OfOrdered.RemoveAtIndex = refl

unless : (a b : Bool) → a ≡ true → (not a || b) ≡ true → b ≡ true
unless true b e h = h
unless false b e h = cc

-- ---- a row that may act

pub sound_so : (s : Store) (row : MessageRow) (r : Value) (args : List Value) → is_sound s (table_row row) r args ≡ true → IsSound s row r args
unfolding is_sound
sound_so s row r args e =
    let a = is_measured s r in
    let b = is_measured s (first args) in
    let c = not (is_changing (table_row row)) || is_ordered s r in
    record {
      receiver = measured_so s r (first_holds a b c e);
      argument = measured_so s (first args) (second_holds a b c e);
      ordered = λ m is. ordered_so s r (unless (is_changing (table_row row)) (is_ordered s r) (ap (λ (x : MessageRow). is_changing (table_row x)) is ∙ changing m) (third_holds a b c e));
    }

-- ---- and one that is ready

changed : (s : Store) (r : Value) (row : Row) → ((m : OfOrdered) → row ≡ Collections (ordered_row m) → IsOrdered s r) → (not (is_changing row) || is_ordered s r) ≡ true
changed s r (Collections CollectionRow.Add) h = so_ordered s r (h OfOrdered.Add refl)
changed s r (Collections CollectionRow.AddFirst) h = so_ordered s r (h OfOrdered.AddFirst refl)
changed s r (Collections CollectionRow.AddAll) h = so_ordered s r (h OfOrdered.AddAll refl)
changed s r (Collections CollectionRow.RemoveFirst) h = so_ordered s r (h OfOrdered.RemoveFirst refl)
changed s r (Collections CollectionRow.RemoveLast) h = so_ordered s r (h OfOrdered.RemoveLast refl)
changed s r (Collections CollectionRow.AddBeforeIndex) h = so_ordered s r (h OfOrdered.AddBeforeIndex refl)
changed s r (Collections CollectionRow.RemoveAtIndex) h = so_ordered s r (h OfOrdered.RemoveAtIndex refl)
changed s r row h = refl

all_hold : (a b c : Bool) → a ≡ true → b ≡ true → c ≡ true → (a && b && c) ≡ true
all_hold a b c e f g = cc

pub ready_done : (s : Store) (found : Option Found) (r : Value) (args : List Value) → IsReady s found r args → is_ready s found r args ≡ true
unfolding is_ready is_sound
ready_done s (Some (BuiltIn row)) r args h =
    all_hold (is_measured s r) (is_measured s (first args)) (not (is_changing row) || is_ordered s r) (so_measured s r h.receiver) (so_measured s (first args) h.argument)
    (changed s r row (λ m is. h.ordered m (ap (λ (x : Row). Some (BuiltIn x)) is)))
ready_done s (Some (UserMethod code)) r args h = refl
ready_done s None r args h = refl

-- ---- what is found, as the code has it

pub here_user : (s : Store) (o : Option ImageFound) (f : ImageFound) (code : ℕ) (r : Value) (args : List Value) → o ≡ Some f → f ≡ ImageFound.User code → true ≡ is_ready s (option_map as_row o) r args
unfolding is_ready
here_user s o f code r args e e' = rw (e, e') refl

pub here_built_in : (s : Store) (o : Option ImageFound) (f : ImageFound) (message : ℕ) (r : Value) (args : List Value) (b : Bool) → o ≡ Some f → f ≡ ImageFound.BuiltIn message
    → b ≡ is_sound s (numbered_row message) r args → b ≡ is_ready s (option_map as_row o) r args
unfolding is_ready
here_built_in s o f message r args b e e' h = rw (e, e') h
