-- Under another step limit each message does the same at once.
use Rattle.std.proofs.Common.{◌≡◌, ℕ, List, [], ◌∷◌, ◌++◌, Option, Some, None, Bool, true, false, refl, sym, ap, ◌∙◌, nat_eq, if◌then◌else◌}
use Rattle.object_heap.specs.declared.value.Value.{Value}
use Rattle.object_heap.specs.declared.value.Value.TheVariants.{Nil, Integer, Character, Symbol, Object}
use Rattle.object_heap.specs.declared.trouble.Trouble.{Trouble}
use Rattle.object_heap.specs.declared.trouble.Trouble.TheVariants.{CharacterExpected, ByteExpected, CollectionExpected}
use Rattle.object_heap.specs.Store.{Store, object_at}
use Rattle.st_code.specs.Program.{Program, body_at, class_at, name_at, number_of}
use Rattle.st_code.specs.BuiltIns.{string_class, byte_array_class}
use Rattle.st_code.specs.Messages.{LoopMessage, Row, Objects, Sequences, Collections, Exceptions, ObjectMessage, SequenceMessage, CollectionMessage, ExceptionMessage}
use Rattle.st_code.specs.Lookup.{level_of, Found, UserMethod, BuiltIn, lookup, super_lookup}
use Rattle.st_collections.specs.Actions.{Action, Fails, LoopState, first}
use Rattle.st_collections.specs.Kinds.{is_sequence, bytes_of, slot_of, size_of, element, elements, species, natural_of, print_text}
use Rattle.st_collections.specs.Loops.{is_within, visit_at, given_at, next_visit, first_of_message, first_visit, loop_action}
use Rattle.st_collections.specs.ObjectRows.{byte_value, object_action, class_action}
use Rattle.st_collections.specs.TextRows.{string_action, transcript_action}
use Rattle.st_collections.specs.SequenceRows.{makes_sequence, sequence_action, collection_action}
use Rattle.st_rules.specs.NumberRows.{number_action}
use Rattle.st_rules.specs.ExceptionRows.{block_action, exception_action}
use Rattle.st_rules.specs.Sends.{row_action, send_action, super_action}
use Rattle.st_rules.specs.StepLimits.{with_step_limit}
use Rattle.st_rules.proofs.SameProgram.{walk_same, lookup_same, super_lookup_same, is_exception_same, is_plain_same, fits_same, exception_text_same, some_elements_same, elements_same}

-- what `,` answers, by the elements of both
abbrev holds_byte : Value → Bool
holds_byte v = elim (byte_value v) [ Some n ↦ true | None ↦ false ]

abbrev holds_character : Value → Bool
holds_character (Character b) = true
holds_character v = false

abbrev all_hold : (Value → Bool) → List Value → Bool
all_hold test [] = true
all_hold test (v ∷ vs) = elim (test v) [ true ↦ all_hold test vs | false ↦ false ]

abbrev join_trouble : ℕ → List Value → Option Trouble
join_trouble class items =
    if nat_eq class string_class then (if all_hold holds_character items then None else Some CharacterExpected) else
    (if nat_eq class byte_array_class then (if all_hold holds_byte items then None else Some ByteExpected) else None)

abbrev joined : Store → Value → Value → List Value → List Value → Action
joined s r v mine other = if is_sequence s v then elim (join_trouble (species s r) other) [
  | Some trouble ↦ Fails trouble
  | None ↦ makes_sequence (species s r) (mine ++ other) s
] else Fails CollectionExpected

module _ (p : Program) (limit : ℕ) where
  abbrev q : Program
  q = with_step_limit p limit

  -- ---- loops

  visit_at_same : (s : Store) (m : LoopMessage) (l : LoopState) → visit_at p s m l ≡ visit_at q s m l
  unfolding visit_at is_within size_of element name_at
  visit_at_same s m l = refl

  pub next_visit_same : (s : Store) (l : LoopState) (v : Value) → next_visit p s l v ≡ next_visit q s l v
  unfolding next_visit given_at visit_at is_within size_of element name_at
  next_visit_same s l v = refl

  pub first_visit_same : (s : Store) (l : LoopState) → first_visit p s l ≡ first_visit q s l
  unfolding first_visit first_of_message visit_at is_within size_of element name_at
  first_visit_same s l = refl

  -- ---- rows

  object_same : (s : Store) (m : ObjectMessage) (r : Value) (args : List Value) → object_action p s m r args ≡ object_action q s m r args
  unfolding object_action bytes_of print_text class_at name_at number_of
  object_same s ObjectMessage.IsKindOf r args = rw (walk_same p limit (level_of s r)) refl
  object_same s ObjectMessage.RespondsTo r (Symbol name ∷ args) = rw (lookup_same p limit (level_of s r) name) refl
  object_same s m r args = refl

  collection_same : (s : Store) (m : CollectionMessage) (r : Value) (args : List Value) → collection_action p s m r args ≡ collection_action q s m r args
  unfolding collection_action size_of name_at
  collection_same s CollectionMessage.WithAll r args = rw (elements_same p limit s (first args)) refl
  collection_same s CollectionMessage.AddAll (Object n) args = rw (elements_same p limit s (first args)) refl
  collection_same s m r args = refl

  sequence_same : (s : Store) (m : SequenceMessage) (r : Value) (args : List Value) → sequence_action p s m r args ≡ sequence_action q s m r args
  unfolding sequence_action size_of element name_at
  sequence_same s SequenceMessage.Join r args =
      ap (λ mine. joined s r (first args) mine (elements p s (first args))) (elements_same p limit s r)
      ∙ ap (λ other. joined s r (first args) (elements q s r) other) (elements_same p limit s (first args))
  sequence_same s SequenceMessage.CopyFromTo r (Integer i ∷ Integer j ∷ args) = rw (some_elements_same p limit s r (natural_of i) _) refl
  sequence_same s SequenceMessage.Reverse r args = rw (elements_same p limit s r) refl
  sequence_same s SequenceMessage.AsArray r args = rw (elements_same p limit s r) refl
  sequence_same s SequenceMessage.AsOrderedCollection r args = rw (elements_same p limit s r) refl
  sequence_same s m r args = refl

  message_text_same : (s : Store) (n : ℕ) (v : Value) → slot_of s (Object n) 0 ≡ v → exception_action p s ExceptionMessage.MessageText (Object n) [] ≡ exception_action q s ExceptionMessage.MessageText (Object n) []
  unfolding exception_action
  message_text_same s n Nil e = rw (e, exception_text_same p limit s n) refl
  message_text_same s n v e = rw e refl

  exception_same : (s : Store) (m : ExceptionMessage) (r : Value) (args : List Value) → exception_action p s m r args ≡ exception_action q s m r args
  unfolding exception_action class_at
  exception_same s ExceptionMessage.Join r args = rw (is_plain_same p limit s r, is_plain_same p limit s (first args)) refl
  exception_same s ExceptionMessage.Handles r (Object n ∷ args) = rw (is_exception_same p limit s (Object n), fits_same p limit s r (object_at n s).class) refl
  exception_same s ExceptionMessage.MessageText (Object n) args = message_text_same s n (slot_of s (Object n) 0) refl
  exception_same s ExceptionMessage.Warns (Object n) args = rw (exception_text_same p limit s n) refl
  exception_same s m r args = refl

  row_same : (s : Store) (row : Row) (r : Value) (args : List Value) → row_action p s row r args ≡ row_action q s row r args
  unfolding row_action class_action number_action transcript_action string_action block_action loop_action bytes_of size_of print_text body_at class_at name_at
  row_same s (Objects m) r args = object_same s m r args
  row_same s (Sequences m) r args = sequence_same s m r args
  row_same s (Collections m) r args = collection_same s m r args
  row_same s (Exceptions m) r args = exception_same s m r args
  row_same s row r args = refl

  -- ---- sends

  found_same : (s : Store) (selector : ℕ) (r : Value) (args : List Value) (f : Option Found) → lookup p (level_of s r) selector ≡ f → send_action p s selector r args ≡ send_action q s selector r args
  unfolding send_action
  found_same s selector r args None e = rw (e, sym (lookup_same p limit (level_of s r) selector) ∙ e) refl
  found_same s selector r args (Some (UserMethod code)) e = rw (e, sym (lookup_same p limit (level_of s r) selector) ∙ e) refl
  found_same s selector r args (Some (BuiltIn row)) e = rw (e, sym (lookup_same p limit (level_of s r) selector) ∙ e) (row_same s row r args)

  pub send_same : (s : Store) (selector : ℕ) (r : Value) (args : List Value) → send_action p s selector r args ≡ send_action q s selector r args
  send_same s selector r args = found_same s selector r args (lookup p (level_of s r) selector) refl

  super_found_same : (s : Store) (class : Value) (selector : ℕ) (r : Value) (args : List Value) (f : Option Found) → super_lookup p class selector ≡ f → super_action p s class selector r args ≡ super_action q s class selector r args
  unfolding super_action
  super_found_same s class selector r args None e = rw (e, sym (super_lookup_same p limit class selector) ∙ e) refl
  super_found_same s class selector r args (Some (UserMethod code)) e = rw (e, sym (super_lookup_same p limit class selector) ∙ e) refl
  super_found_same s class selector r args (Some (BuiltIn row)) e = rw (e, sym (super_lookup_same p limit class selector) ∙ e) (row_same s row r args)

  pub super_same : (s : Store) (class : Value) (selector : ℕ) (r : Value) (args : List Value) → super_action p s class selector r args ≡ super_action q s class selector r args
  super_same s class selector r args = super_found_same s class selector r args (super_lookup p class selector) refl
