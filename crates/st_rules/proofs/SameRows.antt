-- What a message does at once reads neither scopes nor closures, and leaves them as they are: only `copy` and the messages of Blocks do.
use Rattle.std.proofs.Common.{◌≡◌, ℕ, zero, suc, ◌+◌, ℤ, pos, negsuc, nat_abs, nat_eq, nat_le, nat_lt, ◌^◌, ◌&&◌, if◌then◌else◌, List, [], ◌∷◌, Option, Some, None, Bool, true, false, refl, ap, arith}
use Rattle.object_heap.specs.declared.value.Value.{Value}
use Rattle.object_heap.specs.declared.value.Value.TheVariants.{Nil, Integer, Symbol, Object}
use Rattle.object_heap.specs.declared.value.Closure.{Closure}
use Rattle.object_heap.specs.declared.trouble.Trouble.{Trouble}
use Rattle.object_heap.specs.declared.trouble.Trouble.TheVariants.{IndexOutOfRange}
use Rattle.object_heap.specs.Store.{Store, Scope, object_at, with_slot, with_byte}
use Rattle.st_code.specs.Program.{Program, Indexed, NoIndexes, ByObject, ByByte}
use Rattle.st_code.specs.BuiltIns.{string_class, byte_array_class}
use Rattle.st_code.specs.Lookup.{level_of, class_of, is_exception, is_plain, fits}
use Rattle.st_code.specs.Messages.{Control, ObjectMessage, ClassMessage, NumberMessage, CharacterMessage, StringMessage, SequenceMessage, ExceptionMessage, LoopMessage, BooleanMessage, CollectionMessage, TranscriptMessage}
use Rattle.st_collections.specs.Actions.{Activates, Enters, Gives, first, second, Action, Changes, Makes, Fails, Raises, with_new, makes_slots, makes_bytes, makes_string, makes_blank}
use Rattle.st_collections.specs.IntervalRows.{with_integer, interval}
use Rattle.st_collections.specs.Kinds.{interval_size, integer_of, is_a, bytes_of, slots_of, slot_of, size_of, element, some_elements, elements, is_sequence, is_collection, species, print_text, exception_text}
use Rattle.st_collections.specs.ObjectRows.{indexed, index_in, byte_put, object_action, class_action, boolean_action}
use Rattle.st_collections.specs.TextRows.{with_character, character_action, string_action, transcript_action}
use Rattle.st_collections.specs.SequenceRows.{makes_sequence, with_elements, without_element, sequence_action, collection_action}
use Rattle.st_collections.specs.Loops.{loop_action}
use Rattle.st_numbers.specs.Answers.{answer_of}
use Rattle.st_numbers.specs.declared.message.Number.{Number}
use Rattle.st_numbers.specs.declared.message.NumberAnswer.{NumberAnswer}
use Rattle.st_numbers.specs.declared.message.NumberMessage.{NumberMessage as Arithmetic}
use Rattle.st_rules.specs.NumberRows.{as_number, argument_of, dividend_of, numeric_action, of_number, arithmetic_action, in_radix, Asked, asked, number_at, number_action}
use Rattle.st_rules.specs.ExceptionRows.{exception_action}

-- the store with other closures and scopes
abbrev pub with_rest : List Closure → List Scope → Store → Store
with_rest cl sc s = record { objects = s.objects; closures = cl; scopes = sc }

-- an action with other closures and scopes; no row but those of Blocks activates a closure, and none enters a method
abbrev pub relabeled : List Closure → List Scope → Action → Action
relabeled cl sc (Changes s v) = Changes (with_rest cl sc s) v
relabeled cl sc (Makes n s v) = Makes n (with_rest cl sc s) v
relabeled cl sc (Raises s e) = Raises (with_rest cl sc s) e
relabeled cl sc (Activates c args) = Gives Nil
relabeled cl sc (Enters code r args) = Gives Nil
relabeled cl sc a = a

-- what is written at an index, as the row has it
abbrev put_given : Store → ℕ → ℕ → ℕ → Value → Action
put_given s number class i v =
    if nat_eq class string_class then with_character v (λ b. Changes (with_byte number i b s) v) else
    (if nat_eq class byte_array_class then byte_put s number i v else Changes (with_slot number i v s) v)

-- a message of objects that reads no closure: all but `copy`
abbrev pub IsFree : ObjectMessage → Type 0
IsFree ObjectMessage.Copy = ⊥
IsFree m = Unit {0}

module _ (p : Program) (s : Store) (cl : List Closure) (sc : List Scope) where
  abbrev other : Store
  other = with_rest cl sc s

  some_elements_free : (v : Value) (from count : ℕ) → some_elements p other v from count ≡ some_elements p s v from count
  unfolding some_elements element
  some_elements_free v from zero = refl
  some_elements_free v from (suc count) = ap (λ rest. element p s v from ∷ rest) (some_elements_free v (from + 1) count)

  elements_free : (v : Value) → elements p other v ≡ elements p s v
  unfolding elements size_of
  elements_free v = some_elements_free v 1 (size_of p s v)

  size_free : (v : Value) → size_of p other v ≡ size_of p s v
  unfolding size_of
  size_free v = refl

  element_free : (v : Value) (i : ℕ) → element p other v i ≡ element p s v i
  unfolding element
  element_free v i = refl

  species_free : (v : Value) → species other v ≡ species s v
  unfolding species
  species_free v = refl

  is_sequence_free : (v : Value) → is_sequence other v ≡ is_sequence s v
  unfolding is_sequence
  is_sequence_free v = refl

  is_collection_free : (v : Value) → is_collection other v ≡ is_collection s v
  unfolding is_collection is_sequence is_a
  is_collection_free v = refl

  makes_sequence_free : (class : ℕ) (items : List Value) → makes_sequence class items other ≡ relabeled cl sc (makes_sequence class items s)
  unfolding makes_sequence makes_bytes makes_slots with_new
  makes_sequence_free class items = grind arith

  -- ---- what the rows are made of

  bytes_free : (v : Value) → bytes_of p other v ≡ bytes_of p s v
  unfolding bytes_of
  bytes_free v = refl

  exception_text_free : (n : ℕ) → exception_text p other n ≡ exception_text p s n
  unfolding exception_text bytes_of class_of level_of is_a slots_of slot_of
  exception_text_free n = refl

  slot_free : (v : Value) (i : ℕ) → slot_of other v i ≡ slot_of s v i
  unfolding slot_of slots_of
  slot_free v i = refl

  index_by : (o : Option ℕ) (f g : ℕ → Action) → ((i : ℕ) → f i ≡ relabeled cl sc (g i)) → elim o [ Some i ↦ f i | None ↦ Fails IndexOutOfRange ] ≡ relabeled cl sc (elim o [ Some i ↦ g i | None ↦ Fails IndexOutOfRange ])
  index_by None f g h = refl
  index_by (Some i) f g h = h i

  indexed_by : (v : Value) (size : ℕ) (f g : ℕ → Action) → ((i : ℕ) → f i ≡ relabeled cl sc (g i)) → indexed v size f ≡ relabeled cl sc (indexed v size g)
  indexed_by (Integer n) size f g h = index_by (index_in size n) f g h
  indexed_by v size f g h = refl

  kind_by : (k : Indexed) (a b c a' b' c' : Action) → a ≡ relabeled cl sc a' → b ≡ relabeled cl sc b' → c ≡ relabeled cl sc c' → elim k [ NoIndexes ↦ a | ByObject ↦ b | ByByte ↦ c ] ≡ relabeled cl sc (elim k [ NoIndexes ↦ a' | ByObject ↦ b' | ByByte ↦ c' ])
  kind_by NoIndexes a b c a' b' c' h i j = h
  kind_by ByObject a b c a' b' c' h i j = i
  kind_by ByByte a b c a' b' c' h i j = j

  if_by : (t : Bool) (a b a' b' : Action) → a ≡ relabeled cl sc a' → b ≡ relabeled cl sc b' → (if t then a else b) ≡ relabeled cl sc (if t then a' else b')
  if_by true a b a' b' h i = h
  if_by false a b a' b' h i = i

  byte_put_free : (n i : ℕ) (v : Value) → byte_put other n i v ≡ relabeled cl sc (byte_put s n i v)
  byte_put_free n i v = grind arith

  put_free : (number class i : ℕ) (v : Value) → put_given other number class i v ≡ relabeled cl sc (put_given s number class i v)
  put_free number class i v = grind arith

  -- ---- rows

  object_responds_to : (r : Value) (args : List Value) → object_action p other ObjectMessage.RespondsTo r args ≡ relabeled cl sc (object_action p s ObjectMessage.RespondsTo r args)
  unfolding object_action class_of level_of bytes_of print_text is_a slots_of slot_of with_new makes_slots makes_bytes makes_string makes_blank
  object_responds_to r args = grind arith

  object_size : (r : Value) (args : List Value) → object_action p other ObjectMessage.Size r args ≡ relabeled cl sc (object_action p s ObjectMessage.Size r args)
  unfolding object_action class_of level_of bytes_of print_text is_a slots_of slot_of with_new makes_slots makes_bytes makes_string makes_blank
  object_size r args = grind arith

  object_read_at : (r : Value) (args : List Value) → object_action p other ObjectMessage.At r args ≡ relabeled cl sc (object_action p s ObjectMessage.At r args)
  unfolding object_action class_of level_of bytes_of print_text is_a slots_of slot_of with_new makes_slots makes_bytes makes_string makes_blank
  object_read_at r args = grind arith

  object_perform : (r : Value) (args : List Value) → object_action p other ObjectMessage.Perform r args ≡ relabeled cl sc (object_action p s ObjectMessage.Perform r args)
  unfolding object_action class_of level_of bytes_of print_text is_a slots_of slot_of with_new makes_slots makes_bytes makes_string makes_blank
  object_perform r args = grind arith

  object_perform_with_arguments : (r : Value) (args : List Value) → object_action p other ObjectMessage.PerformWithArguments r args ≡ relabeled cl sc (object_action p s ObjectMessage.PerformWithArguments r args)
  unfolding object_action class_of level_of bytes_of print_text is_a slots_of slot_of with_new makes_slots makes_bytes makes_string makes_blank
  object_perform_with_arguments r args = grind arith

  object_display : (r : Value) (args : List Value) → object_action p other ObjectMessage.DisplayString r args ≡ relabeled cl sc (object_action p s ObjectMessage.DisplayString r args)
  unfolding object_action makes_string makes_bytes with_new
  object_display r args = grind (arith, bytes_free)

  object_at_put : (n : ℕ) (args : List Value) → object_action p other ObjectMessage.AtPut (Object n) args ≡ relabeled cl sc (object_action p s ObjectMessage.AtPut (Object n) args)
  unfolding object_action
  object_at_put n args = kind_by _ _ _ _ _ _ _ refl (indexed_by (first args) _ _ _ (λ i. refl)) (indexed_by (first args) _ _ _ (λ i. byte_put_free n i (second args)))

  pub object_free : (m : ObjectMessage) (r : Value) (args : List Value) → IsFree m → object_action p other m r args ≡ relabeled cl sc (object_action p s m r args)
  unfolding object_action class_of level_of bytes_of print_text is_a slots_of slot_of with_new makes_slots makes_bytes makes_string makes_blank
  object_free ObjectMessage.RespondsTo r args h = object_responds_to r args
  object_free ObjectMessage.Copy r args h = absurd h
  object_free ObjectMessage.Size r args h = object_size r args
  object_free ObjectMessage.At r args h = object_read_at r args
  object_free ObjectMessage.Perform r args h = object_perform r args
  object_free ObjectMessage.PerformWithArguments r args h = object_perform_with_arguments r args
  object_free ObjectMessage.DisplayString r args h = object_display r args
  object_free ObjectMessage.AtPut (Object n) args h = object_at_put n args
  object_free ObjectMessage.IsSymbol (Symbol name) args h = refl
  object_free m r args h = refl

  numeric_free : (dividend r v : Value) (a : NumberAnswer) → numeric_action other dividend r v a ≡ relabeled cl sc (numeric_action s dividend r v a)
  unfolding makes_slots with_new
  numeric_free dividend r v (NumberAnswer.Trouble Trouble.ZeroDivide) = refl
  numeric_free dividend r v (NumberAnswer.Trouble t) = refl
  numeric_free dividend r v a = refl

  of_number_free : (m : Arithmetic) (o : Option Number) (r : Value) (args : List Value) → of_number other m o r args ≡ relabeled cl sc (of_number s m o r args)
  unfolding argument_of as_number is_a slot_of slots_of
  of_number_free m None r args = refl
  of_number_free m (Some x) r args = numeric_free (dividend_of m r) r (first args) (answer_of m x (argument_of s args))

  arithmetic_free : (m : Arithmetic) (r : Value) (args : List Value) → arithmetic_action other m r args ≡ relabeled cl sc (arithmetic_action s m r args)
  unfolding arithmetic_action as_number is_a slot_of slots_of
  arithmetic_free m r args = of_number_free m (as_number s r) r args

  integer_by : (v : Value) (f g : ℤ → Action) → ((n : ℤ) → f n ≡ relabeled cl sc (g n)) → with_integer v f ≡ relabeled cl sc (with_integer v g)
  integer_by (Integer n) f g h = h n
  integer_by v f g h = refl

  radix_free : (r radix : ℤ) → in_radix other r radix ≡ relabeled cl sc (in_radix s r radix)
  unfolding makes_string makes_bytes with_new
  radix_free r (pos radix) = if_by (nat_le 2 radix && nat_le radix 36) _ _ _ _ refl refl
  radix_free r (negsuc radix) = refl

  interval_free : (start stop by : ℤ) → interval other start stop by ≡ relabeled cl sc (interval s start stop by)
  unfolding makes_slots with_new
  interval_free start stop by = if_by (nat_lt (interval_size start stop by) (2 ^ 127)) _ _ _ _ refl refl

  number_at_free : (m : Asked) (r : Value) (args : List Value) → number_at p other m r args ≡ relabeled cl sc (number_at p s m r args)
  unfolding print_text makes_string makes_bytes with_new is_a slot_of slots_of
  number_at_free (Asked.Computes m) r args = arithmetic_free m r args
  number_at_free Asked.AsString r args = refl
  number_at_free Asked.PrintRadix r args = integer_by (first args) _ _ (λ radix. radix_free (integer_of r) radix)
  number_at_free Asked.To r args = integer_by (first args) _ _ (λ stop. interval_free (integer_of r) stop (pos 1))
  number_at_free Asked.ToBy r args = integer_by (first args) _ _ (λ stop. integer_by (second args) _ _ (λ by. if_by (nat_eq (nat_abs by) 0) _ _ _ _ refl (interval_free (integer_of r) stop by)))
  number_at_free Asked.FromNumerator r args = integer_by (first args) _ _ (λ n. integer_by (second args) _ _ (λ d. arithmetic_free Arithmetic.Divide (Integer n) (Integer d ∷ [])))

  pub number_free : (m : NumberMessage) (r : Value) (args : List Value) → number_action p other m r args ≡ relabeled cl sc (number_action p s m r args)
  unfolding number_action
  number_free m r args = number_at_free (asked m) r args

  sequence_first : (r : Value) (args : List Value) → sequence_action p other SequenceMessage.First r args ≡ relabeled cl sc (sequence_action p s SequenceMessage.First r args)
  unfolding sequence_action with_new makes_slots makes_bytes
  sequence_first r args = grind (arith, elements_free, some_elements_free, size_free, element_free, species_free, is_sequence_free, makes_sequence_free)

  sequence_last : (r : Value) (args : List Value) → sequence_action p other SequenceMessage.Last r args ≡ relabeled cl sc (sequence_action p s SequenceMessage.Last r args)
  unfolding sequence_action with_new makes_slots makes_bytes
  sequence_last r args = grind (arith, elements_free, some_elements_free, size_free, element_free, species_free, is_sequence_free, makes_sequence_free)

  sequence_join : (r : Value) (args : List Value) → sequence_action p other SequenceMessage.Join r args ≡ relabeled cl sc (sequence_action p s SequenceMessage.Join r args)
  unfolding sequence_action with_new makes_slots makes_bytes
  sequence_join r args = grind (arith, elements_free, some_elements_free, size_free, element_free, species_free, is_sequence_free, makes_sequence_free)

  sequence_at : (r : Value) (args : List Value) → sequence_action p other SequenceMessage.At r args ≡ relabeled cl sc (sequence_action p s SequenceMessage.At r args)
  unfolding sequence_action size_of element
  sequence_at r args = indexed_by (first args) (size_of p s r) _ _ (λ i. refl)

  sequence_copy : (r : Value) (i j : ℤ) (args : List Value) → sequence_action p other SequenceMessage.CopyFromTo r (Integer i ∷ Integer j ∷ args) ≡ relabeled cl sc (sequence_action p s SequenceMessage.CopyFromTo r (Integer i ∷ Integer j ∷ args))
  unfolding sequence_action
  sequence_copy r i j args = grind (arith, some_elements_free, size_free, species_free, makes_sequence_free)

  sequence_at_put : (n : ℕ) (args : List Value) → sequence_action p other SequenceMessage.AtPut (Object n) args ≡ relabeled cl sc (sequence_action p s SequenceMessage.AtPut (Object n) args)
  unfolding sequence_action size_of
  sequence_at_put n args = if_by (object_at n s).read_only _ _ _ _ refl (indexed_by (first args) _ _ _ (λ i. put_free n (object_at n s).class i (second args)))

  sequence_reverse : (r : Value) (args : List Value) → sequence_action p other SequenceMessage.Reverse r args ≡ relabeled cl sc (sequence_action p s SequenceMessage.Reverse r args)
  unfolding sequence_action with_new makes_slots makes_bytes
  sequence_reverse r args = grind (arith, elements_free, species_free, makes_sequence_free)

  sequence_as_array : (r : Value) (args : List Value) → sequence_action p other SequenceMessage.AsArray r args ≡ relabeled cl sc (sequence_action p s SequenceMessage.AsArray r args)
  unfolding sequence_action with_new makes_slots makes_bytes
  sequence_as_array r args = grind (arith, elements_free, species_free, makes_sequence_free)

  sequence_as_ordered_collection : (r : Value) (args : List Value) → sequence_action p other SequenceMessage.AsOrderedCollection r args ≡ relabeled cl sc (sequence_action p s SequenceMessage.AsOrderedCollection r args)
  unfolding sequence_action with_new makes_slots makes_bytes
  sequence_as_ordered_collection r args = grind (arith, elements_free, species_free, makes_sequence_free)

  pub sequence_free : (m : SequenceMessage) (r : Value) (args : List Value) → sequence_action p other m r args ≡ relabeled cl sc (sequence_action p s m r args)
  unfolding sequence_action size_of element species with_new makes_slots makes_bytes
  sequence_free SequenceMessage.First r args = sequence_first r args
  sequence_free SequenceMessage.Last r args = sequence_last r args
  sequence_free SequenceMessage.Join r args = sequence_join r args
  sequence_free SequenceMessage.At r args = sequence_at r args
  sequence_free SequenceMessage.CopyFromTo r (Integer i ∷ Integer j ∷ args) = sequence_copy r i j args
  sequence_free SequenceMessage.AtPut (Object n) args = sequence_at_put n args
  sequence_free SequenceMessage.Reverse r args = sequence_reverse r args
  sequence_free SequenceMessage.AsArray r args = sequence_as_array r args
  sequence_free SequenceMessage.AsOrderedCollection r args = sequence_as_ordered_collection r args
  sequence_free m r args = refl

  collection_new_array : (r : Value) (args : List Value) → collection_action p other CollectionMessage.NewArray r args ≡ relabeled cl sc (collection_action p s CollectionMessage.NewArray r args)
  unfolding collection_action with_elements without_element with_new makes_slots makes_bytes
  collection_new_array r args = grind (arith, elements_free, size_free, is_collection_free)

  collection_new_byte_array : (r : Value) (args : List Value) → collection_action p other CollectionMessage.NewByteArray r args ≡ relabeled cl sc (collection_action p s CollectionMessage.NewByteArray r args)
  unfolding collection_action with_elements without_element with_new makes_slots makes_bytes
  collection_new_byte_array r args = grind (arith, elements_free, size_free, is_collection_free)

  collection_with_all : (r : Value) (args : List Value) → collection_action p other CollectionMessage.WithAll r args ≡ relabeled cl sc (collection_action p s CollectionMessage.WithAll r args)
  unfolding collection_action with_elements without_element with_new makes_slots makes_bytes
  collection_with_all r args = grind (arith, elements_free, size_free, is_collection_free)

  collection_add : (r : Value) (args : List Value) → collection_action p other CollectionMessage.Add r args ≡ relabeled cl sc (collection_action p s CollectionMessage.Add r args)
  unfolding collection_action with_elements without_element with_new makes_slots makes_bytes
  collection_add r args = grind (arith, elements_free, size_free, is_collection_free)

  collection_add_first : (r : Value) (args : List Value) → collection_action p other CollectionMessage.AddFirst r args ≡ relabeled cl sc (collection_action p s CollectionMessage.AddFirst r args)
  unfolding collection_action with_elements without_element with_new makes_slots makes_bytes
  collection_add_first r args = grind (arith, elements_free, size_free, is_collection_free)

  collection_add_all : (r : Value) (args : List Value) → collection_action p other CollectionMessage.AddAll r args ≡ relabeled cl sc (collection_action p s CollectionMessage.AddAll r args)
  unfolding collection_action with_elements without_element with_new makes_slots makes_bytes
  collection_add_all r args = grind (arith, elements_free, size_free, is_collection_free)

  collection_keys : (r : Value) (args : List Value) → collection_action p other CollectionMessage.Keys r args ≡ relabeled cl sc (collection_action p s CollectionMessage.Keys r args)
  unfolding collection_action with_elements without_element with_new makes_slots makes_bytes
  collection_keys r args = grind (arith, elements_free, size_free, is_collection_free)

  collection_values : (r : Value) (args : List Value) → collection_action p other CollectionMessage.Values r args ≡ relabeled cl sc (collection_action p s CollectionMessage.Values r args)
  unfolding collection_action with_elements without_element with_new makes_slots makes_bytes
  collection_values r args = grind (arith, elements_free, size_free, is_collection_free)

  collection_remove_first : (n : ℕ) (args : List Value) → collection_action p other CollectionMessage.RemoveFirst (Object n) args ≡ relabeled cl sc (collection_action p s CollectionMessage.RemoveFirst (Object n) args)
  unfolding collection_action size_of without_element
  collection_remove_first n args = if_by (nat_eq (size_of p s (Object n)) 0) _ _ _ _ refl refl

  collection_remove_last : (n : ℕ) (args : List Value) → collection_action p other CollectionMessage.RemoveLast (Object n) args ≡ relabeled cl sc (collection_action p s CollectionMessage.RemoveLast (Object n) args)
  unfolding collection_action size_of without_element
  collection_remove_last n args = if_by (nat_eq (size_of p s (Object n)) 0) _ _ _ _ refl refl

  collection_add_before : (n : ℕ) (args : List Value) → collection_action p other CollectionMessage.AddBeforeIndex (Object n) args ≡ relabeled cl sc (collection_action p s CollectionMessage.AddBeforeIndex (Object n) args)
  unfolding collection_action with_elements
  collection_add_before n args = indexed_by (second args) _ _ _ (λ i. refl)

  collection_remove_at : (n : ℕ) (args : List Value) → collection_action p other CollectionMessage.RemoveAtIndex (Object n) args ≡ relabeled cl sc (collection_action p s CollectionMessage.RemoveAtIndex (Object n) args)
  unfolding collection_action without_element
  collection_remove_at n args = indexed_by (first args) _ _ _ (λ i. refl)

  pub collection_free : (m : CollectionMessage) (r : Value) (args : List Value) → collection_action p other m r args ≡ relabeled cl sc (collection_action p s m r args)
  unfolding collection_action with_elements without_element with_new makes_slots makes_bytes
  collection_free CollectionMessage.NewArray r args = collection_new_array r args
  collection_free CollectionMessage.NewByteArray r args = collection_new_byte_array r args
  collection_free CollectionMessage.WithAll r args = collection_with_all r args
  collection_free CollectionMessage.Add r args = collection_add r args
  collection_free CollectionMessage.AddFirst r args = collection_add_first r args
  collection_free CollectionMessage.AddAll r args = collection_add_all r args
  collection_free CollectionMessage.Keys r args = collection_keys r args
  collection_free CollectionMessage.Values r args = collection_values r args
  collection_free CollectionMessage.RemoveFirst (Object n) args = collection_remove_first n args
  collection_free CollectionMessage.RemoveLast (Object n) args = collection_remove_last n args
  collection_free CollectionMessage.AddBeforeIndex (Object n) args = collection_add_before n args
  collection_free CollectionMessage.RemoveAtIndex (Object n) args = collection_remove_at n args
  collection_free m r args = refl

  exception_new : (r : Value) (args : List Value) → exception_action p other ExceptionMessage.New r args ≡ relabeled cl sc (exception_action p s ExceptionMessage.New r args)
  unfolding exception_action is_plain is_exception fits level_of exception_text bytes_of class_of is_a slots_of slot_of with_new makes_slots makes_bytes makes_string makes_blank
  exception_new r args = grind arith

  exception_signal_new : (r : Value) (args : List Value) → exception_action p other ExceptionMessage.SignalNew r args ≡ relabeled cl sc (exception_action p s ExceptionMessage.SignalNew r args)
  unfolding exception_action is_plain is_exception fits level_of exception_text bytes_of class_of is_a slots_of slot_of with_new makes_slots makes_bytes makes_string makes_blank
  exception_signal_new r args = grind arith

  exception_join : (r : Value) (args : List Value) → exception_action p other ExceptionMessage.Join r args ≡ relabeled cl sc (exception_action p s ExceptionMessage.Join r args)
  unfolding exception_action is_plain is_exception fits level_of exception_text bytes_of class_of is_a slots_of slot_of with_new makes_slots makes_bytes makes_string makes_blank
  exception_join r args = grind arith

  exception_handles : (r : Value) (args : List Value) → exception_action p other ExceptionMessage.Handles r args ≡ relabeled cl sc (exception_action p s ExceptionMessage.Handles r args)
  unfolding exception_action is_plain is_exception fits level_of exception_text bytes_of class_of is_a slots_of slot_of with_new makes_slots makes_bytes makes_string makes_blank
  exception_handles r args = grind arith

  exception_signal : (r : Value) (args : List Value) → exception_action p other ExceptionMessage.Signal r args ≡ relabeled cl sc (exception_action p s ExceptionMessage.Signal r args)
  unfolding exception_action is_plain is_exception fits level_of exception_text bytes_of class_of is_a slots_of slot_of with_new makes_slots makes_bytes makes_string makes_blank
  exception_signal r args = grind arith

  exception_signal_text : (r : Value) (args : List Value) → exception_action p other ExceptionMessage.SignalText r args ≡ relabeled cl sc (exception_action p s ExceptionMessage.SignalText r args)
  unfolding exception_action is_plain is_exception fits level_of exception_text bytes_of class_of is_a slots_of slot_of with_new makes_slots makes_bytes makes_string makes_blank
  exception_signal_text r args = grind arith

  exception_set_message_text : (r : Value) (args : List Value) → exception_action p other ExceptionMessage.SetMessageText r args ≡ relabeled cl sc (exception_action p s ExceptionMessage.SetMessageText r args)
  unfolding exception_action is_plain is_exception fits level_of exception_text bytes_of class_of is_a slots_of slot_of with_new makes_slots makes_bytes makes_string makes_blank
  exception_set_message_text r args = grind arith

  exception_description : (r : Value) (args : List Value) → exception_action p other ExceptionMessage.Description r args ≡ relabeled cl sc (exception_action p s ExceptionMessage.Description r args)
  unfolding exception_action is_plain is_exception fits level_of exception_text bytes_of class_of is_a slots_of slot_of with_new makes_slots makes_bytes makes_string makes_blank
  exception_description r args = grind arith

  exception_controls : (control : Control) (r : Value) (args : List Value) → exception_action p other (ExceptionMessage.Controls control) r args ≡ relabeled cl sc (exception_action p s (ExceptionMessage.Controls control) r args)
  unfolding exception_action is_plain is_exception fits level_of exception_text bytes_of class_of is_a slots_of slot_of with_new makes_slots makes_bytes makes_string makes_blank
  exception_controls control r args = grind arith

  exception_is_resumable : (answer : Bool) (r : Value) (args : List Value) → exception_action p other (ExceptionMessage.IsResumable answer) r args ≡ relabeled cl sc (exception_action p s (ExceptionMessage.IsResumable answer) r args)
  unfolding exception_action is_plain is_exception fits level_of exception_text bytes_of class_of is_a slots_of slot_of with_new makes_slots makes_bytes makes_string makes_blank
  exception_is_resumable answer r args = grind arith

  exception_terminates_program : (r : Value) (args : List Value) → exception_action p other ExceptionMessage.TerminatesProgram r args ≡ relabeled cl sc (exception_action p s ExceptionMessage.TerminatesProgram r args)
  unfolding exception_action is_plain is_exception fits level_of exception_text bytes_of class_of is_a slots_of slot_of with_new makes_slots makes_bytes makes_string makes_blank
  exception_terminates_program r args = grind arith

  exception_warns : (r : Value) (args : List Value) → exception_action p other ExceptionMessage.Warns r args ≡ relabeled cl sc (exception_action p s ExceptionMessage.Warns r args)
  unfolding exception_action is_plain is_exception fits level_of exception_text bytes_of class_of is_a slots_of slot_of with_new makes_slots makes_bytes makes_string makes_blank
  exception_warns r args = grind arith

  exception_message_text : (n : ℕ) (args : List Value) → exception_action p other ExceptionMessage.MessageText (Object n) args ≡ relabeled cl sc (exception_action p s ExceptionMessage.MessageText (Object n) args)
  unfolding exception_action makes_string makes_bytes with_new
  exception_message_text n args = grind (arith, exception_text_free, slot_free)

  exception_answers_nil : (r : Value) (args : List Value) → exception_action p other ExceptionMessage.AnswersNil r args ≡ relabeled cl sc (exception_action p s ExceptionMessage.AnswersNil r args)
  unfolding exception_action is_plain is_exception fits level_of exception_text bytes_of class_of is_a slots_of slot_of with_new makes_slots makes_bytes makes_string makes_blank
  exception_answers_nil r args = grind arith

  pub exception_free : (m : ExceptionMessage) (r : Value) (args : List Value) → exception_action p other m r args ≡ relabeled cl sc (exception_action p s m r args)
  unfolding exception_action is_plain is_exception fits level_of exception_text bytes_of class_of is_a slots_of slot_of with_new makes_slots makes_bytes makes_string makes_blank
  exception_free ExceptionMessage.New r args = exception_new r args
  exception_free ExceptionMessage.SignalNew r args = exception_signal_new r args
  exception_free ExceptionMessage.Join r args = exception_join r args
  exception_free ExceptionMessage.Handles r args = exception_handles r args
  exception_free ExceptionMessage.Signal r args = exception_signal r args
  exception_free ExceptionMessage.SignalText r args = exception_signal_text r args
  exception_free ExceptionMessage.SetMessageText r args = exception_set_message_text r args
  exception_free ExceptionMessage.Description r args = exception_description r args
  exception_free (ExceptionMessage.Controls control) r args = exception_controls control r args
  exception_free (ExceptionMessage.IsResumable answer) r args = exception_is_resumable answer r args
  exception_free ExceptionMessage.TerminatesProgram r args = exception_terminates_program r args
  exception_free ExceptionMessage.Warns r args = exception_warns r args
  exception_free ExceptionMessage.MessageText (Object n) args = exception_message_text n args
  exception_free ExceptionMessage.AnswersNil r args = exception_answers_nil r args
  exception_free m r args = refl

  pub class_free : (m : ClassMessage) (r : Value) (args : List Value) → class_action p other m r args ≡ relabeled cl sc (class_action p s m r args)
  unfolding class_action with_new makes_slots makes_bytes makes_string makes_blank
  class_free m r args = grind arith

  pub boolean_free : (m : BooleanMessage) (r : Value) (args : List Value) → boolean_action m r args ≡ relabeled cl sc (boolean_action m r args)
  unfolding boolean_action
  boolean_free m r args = grind arith

  pub character_free : (m : CharacterMessage) (r : Value) (args : List Value) → character_action other m r args ≡ relabeled cl sc (character_action s m r args)
  unfolding character_action with_new makes_bytes makes_string
  character_free m r args = grind arith

  pub transcript_free : (m : TranscriptMessage) (r : Value) (args : List Value) → transcript_action p other m r args ≡ relabeled cl sc (transcript_action p s m r args)
  unfolding transcript_action bytes_of
  transcript_free m r args = grind arith

  pub string_free : (m : StringMessage) (r : Value) (args : List Value) → string_action p other m r args ≡ relabeled cl sc (string_action p s m r args)
  unfolding string_action bytes_of with_new makes_bytes makes_string
  string_free m r args = grind arith

  pub loop_free : (m : LoopMessage) (r : Value) (args : List Value) → loop_action p other m r args ≡ relabeled cl sc (loop_action p s m r args)
  unfolding loop_action size_of
  loop_free m r args = grind arith
