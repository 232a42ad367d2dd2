-- What messages to objects, classes, texts, exceptions and collections do at once leaves each object its slots.
use Rattle.std.proofs.Common.{◌≡◌, ℕ, zero, suc, ◌+◌, ◌-◌, ◌≤◌, ℤ, pos, negsuc, nat_eq, nat_le, nat_lt, int_lt, int_le, is_some, codes, length, get_or, take, drop, reverse, replicate, map, insert, List, [], ◌∷◌, ◌++◌, Option, Some, None, Bool, true, false, not, ◌&&◌, ◌||◌, refl, sym, ◌∙◌, arith, if◌then◌else◌, slice_get}
use Rattle.std.proofs.lemmas.List.{length-append, length-replicate}
use Rattle.object_heap.specs.declared.value.Value.{Value}
use Rattle.object_heap.specs.declared.value.Value.TheVariants.{Nil, True, False, Integer, Character, Symbol, Class, Transcript, Object}
use Rattle.object_heap.specs.declared.trouble.Trouble.{Trouble}
use Rattle.object_heap.specs.declared.trouble.Trouble.TheVariants as trouble
use Rattle.std.specs.Option.{option_and_then}
use Rattle.object_heap.specs.declared.value.Closure.{Closure}
use Rattle.object_heap.specs.Store.{Store, Object as HeapObject, closure_at, object_at, object_added, with_slot, with_byte}
use Rattle.st_code.specs.Texts.{Text, arity, same_text, text_less, to_lower}
use Rattle.st_code.specs.Program.{Program, Indexed, NoIndexes, ByObject, ByByte, class_at, name_at, number_of}
use Rattle.st_code.specs.BuiltIns.{string_class, symbol_class, array_class, ordered_collection_class, association_class, byte_array_class, interval_class, exception_set_class}
use Rattle.st_code.specs.Lookup.{level_of, lookup, is_plain, is_exception, fits}
use Rattle.st_code.specs.Messages.{ObjectMessage, ClassMessage, CharacterMessage, StringMessage, SequenceMessage, ExceptionMessage, LoopMessage, BooleanMessage, CollectionMessage, TranscriptMessage}
use Rattle.st_collections.specs.Actions.{Action, Gives, Changes, Makes, Writes, Fails, Begins, Sends, Iterates, first, second, boolean, next_object, makes_slots, makes_bytes, makes_string, makes_blank}
use Rattle.st_collections.specs.Kinds.{is_true, is_a, bytes_of, slots_of, slot_of, size_of, element, some_elements, elements, is_sequence, is_collection, species, print_text, exception_text, integer_of, natural_of}
use Rattle.st_collections.specs.ObjectRows.{copied, copy, indexed, index_in, byte_value, byte_put, object_action, class_action, boolean_action}
use Rattle.st_collections.specs.TextRows.{with_character, from_code_point, with_text, new_string, string_at, or_empty, byte_of, character_action, string_action, transcript_action}
use Rattle.st_collections.specs.SequenceRows.{makes_sequence, element_trouble, at_put, join, copy_between, copy_from_to, with_elements, without_element, firsts, seconds, written, is_index, ordered_at, changed, class_number, sequence_action, collection_action}
use Rattle.st_collections.specs.Loops.{loop_action}
use Rattle.st_rules.specs.ExceptionRows.{exception_at, to_exception, kept_or_text, handles, new_exception, signal_new, selectors_of, exception_action}
use Rattle.st_variables.specs.Known.{InFile, AllFull, KnowsVariables}
use Rattle.st_variables.proofs.Wholes.{NoObject, NoClass, MessageKeeps, ActionKeeps, not_of_file, full_at, full_append, new_full, built_full, slot_full, byte_full, elements_full, removed_full}

module _ (p : Program) (known : KnowsVariables p) (s : Store) (h : AllFull p s.objects) where
  pub record Keeps (a : Action) : Type 0 where
    pub keeps : ActionKeeps p s a

  -- ---- what rows are made of

  pub if_keeps : (b : Bool) (x y : Action) → Keeps x → Keeps y → Keeps (if b then x else y)
  if_keeps true x y g i = g
  if_keeps false x y g i = i

  pub fails : (t : Trouble) → Keeps (Fails t)
  fails t = record { keeps = tt }

  pub gives : (v : Value) → Keeps (Gives v)
  gives v = record { keeps = tt }

  index_keeps : (o : Option ℕ) (act : ℕ → Action) → ((i : ℕ) → Keeps (act i)) → Keeps (elim o [ Some i ↦ act i | None ↦ Fails trouble.IndexOutOfRange ])
  index_keeps None act g = record { keeps = tt }
  index_keeps (Some i) act g = g i

  indexed_keeps : (v : Value) (size : ℕ) (act : ℕ → Action) → ((i : ℕ) → Keeps (act i)) → Keeps (indexed v size act)
  indexed_keeps (Integer n) size act g = index_keeps (index_in size n) act g
  indexed_keeps v size act g = record { keeps = tt }

  slots_made : (class : ℕ) (slots : List Value) → (InFile p class → (class_at p class).slots ≤ length slots) → Keeps (makes_slots class slots s)
  unfolding makes_slots
  slots_made class slots l = record { keeps = new_full p known class slots [] s h l }

  -- an object of a built-in class
  pub built_made : (class : ℕ) (slots : List Value) → class ≤ exception_set_class → Keeps (makes_slots class slots s)
  unfolding makes_slots
  built_made class slots l = record { keeps = built_full p known class slots [] s h l }

  bytes_made : (class : ℕ) (bytes : List ℕ) → class ≤ exception_set_class → Keeps (makes_bytes class bytes s)
  unfolding makes_bytes
  bytes_made class bytes l = record { keeps = built_full p known class [] bytes s h l }

  pub string_made : (bytes : List ℕ) → Keeps (makes_string bytes s)
  unfolding makes_string
  string_made bytes = bytes_made string_class bytes (omega arith)

  blank_made : (class slots bytes : ℕ) → (InFile p class → (class_at p class).slots ≤ slots) → Keeps (makes_blank class slots bytes s)
  unfolding makes_blank
  blank_made class slots bytes l =
      let e : length (replicate slots Nil) ≡ slots = length-replicate slots Nil in
      record { keeps = new_full p known class (replicate slots Nil) (replicate bytes 0) s h (λ i. let k = l i in omega (arith, k, e)) }

  sequence_made : (class : ℕ) (items : List Value) → (InFile p class → ⊥) → Keeps (makes_sequence class items s)
  unfolding makes_sequence
  sequence_made class items none =
      if_keeps (nat_eq class string_class) _ _ (bytes_made string_class _ (omega arith))
      (if_keeps (nat_eq class byte_array_class) _ _ (bytes_made byte_array_class _ (omega arith)) (slots_made class items (λ e. absurd (none e))))

  byte_given : (n i : ℕ) (v : Value) (o : Option ℕ) → Keeps (elim o [ Some byte ↦ Changes (with_byte n i byte s) v | None ↦ Fails trouble.ByteExpected ])
  byte_given n i v None = record { keeps = tt }
  byte_given n i v (Some byte) = record { keeps = byte_full p known n i byte s h }

  byte_written : (n i : ℕ) (v : Value) → Keeps (byte_put s n i v)
  byte_written n i v = byte_given n i v (byte_value v)

  slot_written : (n i : ℕ) (v w : Value) → Keeps (Changes (with_slot n i v s) w)
  slot_written n i v w = record { keeps = slot_full p known n i v s h }

  character_keeps : (v : Value) (act : ℕ → Action) → ((b : ℕ) → Keeps (act b)) → Keeps (with_character v act)
  character_keeps (Character c) act g = g c
  character_keeps v act g = record { keeps = tt }

  -- ---- every object

  responds : (r v : Value) → Keeps (elim v [ Symbol name ↦ Gives (boolean (is_some (lookup p (level_of s r) name))) | _ ↦ Fails trouble.SymbolExpected ])
  responds r (Symbol name) = record { keeps = tt }
  responds r v = record { keeps = tt }

  no_closure : (o : Option ℕ) (c : Closure) → o ≡ None → option_and_then (λ k. slice_get s.closures k) o ≡ Some c → ⊥
  no_closure None c e f = grind (arith, f)
  no_closure (Some k) c e f = grind (arith, e)

  copied_keeps : (n : ℕ) (c : Option Closure) → closure_at n s ≡ c → Keeps (copied s (object_at n s) c)
  copied_keeps n None e = record { keeps = full_append p known s.objects _ h ((λ i. (refl, (full_at p known s.objects n h i).1)), tt) }
  copied_keeps n (Some c) e = record { keeps = full_append p known s.objects _ h ((λ i. absurd (no_closure (object_at n s).closure c (full_at p known s.objects n h i).0 e)), tt) }

  copies : (v : Value) → Keeps (copy s v)
  copies (Object number) = copied_keeps number (closure_at number s) refl
  copies v = record { keeps = tt }

  text_or_sent : (o : Option Text) (selector : ℕ) (r : Value) → Keeps (elim o [ Some bytes ↦ makes_string bytes s | None ↦ Sends selector r [] ])
  text_or_sent None selector r = record { keeps = tt }
  text_or_sent (Some bytes) selector r = string_made bytes

  abbrev display : Value → Action
  display (Character byte) = makes_string (byte ∷ []) s
  display r = elim (bytes_of p s r) [ Some bytes ↦ makes_string bytes s | None ↦ Sends (number_of p (codes "printString")) r [] ]

  displays : (r : Value) → Keeps (display r)
  displays (Character byte) = string_made (byte ∷ [])
  displays r = text_or_sent (bytes_of p s r) (number_of p (codes "printString")) r

  abbrev of_object : Value → (ℕ → Action) → Action
  of_object (Object number) act = act number
  of_object v act = Fails trouble.NotIndexed

  of_object_keeps : (v : Value) (act : ℕ → Action) → ((n : ℕ) → Keeps (act n)) → Keeps (of_object v act)
  of_object_keeps (Object n) act g = g n
  of_object_keeps v act g = record { keeps = tt }

  abbrev index_kind : ℕ → Indexed
  index_kind class = if (class_at p class).in_file then (class_at p class).indexed else NoIndexes

  kind_keeps : (kind : Indexed) (a b c : Action) → Keeps a → Keeps b → Keeps c → Keeps (elim kind [ NoIndexes ↦ a | ByObject ↦ b | ByByte ↦ c ])
  kind_keeps NoIndexes a b c x y z = x
  kind_keeps ByObject a b c x y z = y
  kind_keeps ByByte a b c x y z = z

  abbrev sized_at : HeapObject → Action
  sized_at o = elim (index_kind o.class) [
    | NoIndexes ↦ Fails trouble.NotIndexed
    | ByObject ↦ Gives (Integer (pos (length o.slots - (class_at p o.class).slots)))
    | ByByte ↦ Gives (Integer (pos (length o.bytes)))
  ]

  sized_keeps : (o : HeapObject) → Keeps (sized_at o)
  sized_keeps o = kind_keeps (index_kind o.class) (Fails trouble.NotIndexed) (Gives (Integer (pos (length o.slots - (class_at p o.class).slots)))) (Gives (Integer (pos (length o.bytes)))) (fails trouble.NotIndexed) (gives _) (gives _)

  abbrev read_at : HeapObject → Value → Action
  read_at o at = elim (index_kind o.class) [
    | NoIndexes ↦ Fails trouble.NotIndexed
    | ByObject ↦ indexed at (length o.slots - (class_at p o.class).slots) (λ i. Gives (get_or o.slots ((class_at p o.class).slots + i) Nil))
    | ByByte ↦ indexed at (length o.bytes) (λ i. Gives (Integer (pos (get_or o.bytes i 0))))
  ]

  read_keeps : (o : HeapObject) (at : Value) → Keeps (read_at o at)
  read_keeps o at =
      kind_keeps (index_kind o.class) (Fails trouble.NotIndexed) (indexed at (length o.slots - (class_at p o.class).slots) (λ i. Gives (get_or o.slots ((class_at p o.class).slots + i) Nil))) (indexed at (length o.bytes) (λ i. Gives (Integer (pos (get_or o.bytes i 0))))) (fails trouble.NotIndexed)
      (indexed_keeps at (length o.slots - (class_at p o.class).slots) (λ i. Gives (get_or o.slots ((class_at p o.class).slots + i) Nil)) (λ i. gives _))
      (indexed_keeps at (length o.bytes) (λ i. Gives (Integer (pos (get_or o.bytes i 0)))) (λ i. gives _))

  abbrev put_at : ℕ → HeapObject → Value → Value → Action
  put_at number o at v = elim (index_kind o.class) [
    | NoIndexes ↦ Fails trouble.NotIndexed
    | ByObject ↦ indexed at (length o.slots - (class_at p o.class).slots) (λ i. Changes (with_slot number ((class_at p o.class).slots + i) v s) v)
    | ByByte ↦ indexed at (length o.bytes) (λ i. byte_put s number i v)
  ]

  put_keeps : (number : ℕ) (o : HeapObject) (at v : Value) → Keeps (put_at number o at v)
  put_keeps number o at v =
      kind_keeps (index_kind o.class) (Fails trouble.NotIndexed) (indexed at (length o.slots - (class_at p o.class).slots) (λ i. Changes (with_slot number ((class_at p o.class).slots + i) v s) v)) (indexed at (length o.bytes) (λ i. byte_put s number i v)) (fails trouble.NotIndexed)
      (indexed_keeps at (length o.slots - (class_at p o.class).slots) (λ i. Changes (with_slot number ((class_at p o.class).slots + i) v s) v) (λ i. slot_written number ((class_at p o.class).slots + i) v v))
      (indexed_keeps at (length o.bytes) (λ i. byte_put s number i v) (λ i. byte_written number i v))

  abbrev perform : Value → ℕ → List Value → Action
  perform r name values = if nat_eq (arity (name_at p name)) (length values) then Sends name r values else Fails trouble.WrongNumberOfArguments

  performs : (r : Value) (name : ℕ) (values : List Value) → Keeps (perform r name values)
  performs r name values = if_keeps (nat_eq (arity (name_at p name)) (length values)) (Sends name r values) (Fails trouble.WrongNumberOfArguments) record { keeps = tt } (fails trouble.WrongNumberOfArguments)

  abbrev performed : Value → Value → List Value → Action
  performed r (Symbol name) values = perform r name values
  performed r v values = Fails trouble.SymbolExpected

  performed_keeps : (r v : Value) (values : List Value) → Keeps (performed r v values)
  performed_keeps r (Symbol name) values = performs r name values
  performed_keeps r v values = record { keeps = tt }

  abbrev performed_with : Value → Value → Value → Action
  performed_with r (Symbol name) array = if is_a s array_class array then perform r name (slots_of s array) else Fails trouble.CollectionExpected
  performed_with r v array = Fails trouble.SymbolExpected

  performed_with_keeps : (r v array : Value) → Keeps (performed_with r v array)
  performed_with_keeps r (Symbol name) array = if_keeps (is_a s array_class array) (perform r name (slots_of s array)) (Fails trouble.CollectionExpected) (performs r name (slots_of s array)) (fails trouble.CollectionExpected)
  performed_with_keeps r v array = record { keeps = tt }

  abbrev behind_first : List Value → List Value
  behind_first [] = []
  behind_first (v ∷ vs) = vs

  pub objects_keep : (m : ObjectMessage) (r : Value) (args : List Value) → Keeps (object_action p s m r args)
  unfolding object_action
  objects_keep ObjectMessage.IsSymbol (Symbol name) args = record { keeps = tt }
  objects_keep ObjectMessage.IsSymbol r args = record { keeps = tt }
  objects_keep ObjectMessage.RespondsTo r args = responds r (first args)
  objects_keep ObjectMessage.Copy r args = copies r
  objects_keep ObjectMessage.PrintString r args = string_made (print_text p s r)
  objects_keep ObjectMessage.DisplayString r args = displays r
  objects_keep ObjectMessage.Size r args = of_object_keeps r (λ n. sized_at (object_at n s)) (λ n. sized_keeps (object_at n s))
  objects_keep ObjectMessage.At r args = of_object_keeps r (λ n. read_at (object_at n s) (first args)) (λ n. read_keeps (object_at n s) (first args))
  objects_keep ObjectMessage.AtPut r args = of_object_keeps r (λ n. put_at n (object_at n s) (first args) (second args)) (λ n. put_keeps n (object_at n s) (first args) (second args))
  objects_keep ObjectMessage.Perform r args = performed_keeps r (first args) (behind_first args)
  objects_keep ObjectMessage.PerformWithArguments r args = performed_with_keeps r (first args) (second args)
  objects_keep ObjectMessage.Arrow r args = built_made association_class (r ∷ first args ∷ []) (omega arith)
  objects_keep m r args = record { keeps = tt }

  -- ---- classes and Booleans

  abbrev sized : Value → (ℕ → Action) → Action
  sized (Integer (pos n)) act = act n
  sized (Integer (negsuc n)) act = Fails trouble.IndexOutOfRange
  sized v act = Fails trouble.NumberExpected

  sized_by : (v : Value) (act : ℕ → Action) → ((n : ℕ) → Keeps (act n)) → Keeps (sized v act)
  sized_by (Integer (pos n)) act g = g n
  sized_by (Integer (negsuc n)) act g = record { keeps = tt }
  sized_by v act g = record { keeps = tt }

  abbrev new_by : ℕ → Value → Action
  new_by class v = elim (class_at p class).indexed [
    | NoIndexes ↦ Fails trouble.NotIndexed
    | ByObject ↦ sized v (λ n. makes_blank class ((class_at p class).slots + n) 0 s)
    | ByByte ↦ sized v (λ n. makes_blank class (class_at p class).slots n s)
  ]

  new_keeps : (class : ℕ) (v : Value) → Keeps (new_by class v)
  new_keeps class v =
      kind_keeps (class_at p class).indexed (Fails trouble.NotIndexed) (sized v (λ n. makes_blank class ((class_at p class).slots + n) 0 s)) (sized v (λ n. makes_blank class (class_at p class).slots n s)) (fails trouble.NotIndexed)
      (sized_by v (λ n. makes_blank class ((class_at p class).slots + n) 0 s) (λ n. blank_made class ((class_at p class).slots + n) 0 (λ e. omega arith)))
      (sized_by v (λ n. makes_blank class (class_at p class).slots n s) (λ n. blank_made class (class_at p class).slots n (λ e. omega arith)))

  class_messages : (m : ClassMessage) (c : ℕ) (args : List Value) → Keeps (class_action p s m (Class c) args)
  unfolding class_action
  class_messages ClassMessage.Name c args = string_made (class_at p c).name
  class_messages ClassMessage.Superclass c args = record { keeps = tt }
  class_messages ClassMessage.New c args = if_keeps (class_at p c).in_file (makes_blank c (class_at p c).slots 0 s) (Fails trouble.CannotBeInstantiated) (blank_made c (class_at p c).slots 0 (λ e. omega arith)) (fails trouble.CannotBeInstantiated)
  class_messages ClassMessage.NewSize c args = if_keeps (class_at p c).in_file (new_by c (first args)) (Fails trouble.CannotBeInstantiated) (new_keeps c (first args)) (fails trouble.CannotBeInstantiated)

  pub classes_keep : (m : ClassMessage) (r : Value) (args : List Value) → Keeps (class_action p s m r args)
  unfolding class_action
  classes_keep m (Class c) args = class_messages m c args
  classes_keep m r args = record { keeps = tt }

  abbrev with_boolean : Value → (Bool → Action) → Action
  with_boolean True act = act true
  with_boolean False act = act false
  with_boolean v act = Fails trouble.BooleanExpected

  boolean_by : (v : Value) (test : Bool → Bool) → Keeps (with_boolean v (λ b. Gives (boolean (test b))))
  boolean_by True test = gives _
  boolean_by False test = gives _
  boolean_by v test = record { keeps = tt }

  begins : (v : Value) → Keeps (Begins v [])
  begins v = record { keeps = tt }

  pub booleans_keep : (m : BooleanMessage) (r : Value) (args : List Value) → Keeps (boolean_action m r args)
  unfolding boolean_action
  booleans_keep BooleanMessage.And r args = boolean_by (first args) (λ b. is_true r && b)
  booleans_keep BooleanMessage.Or r args = boolean_by (first args) (λ b. is_true r || b)
  booleans_keep BooleanMessage.Xor r args = xor (first args)
    where
      xor : (v : Value) → Keeps (boolean_action BooleanMessage.Xor r (v ∷ []))
      xor True = gives _
      xor False = gives _
      xor v = record { keeps = tt }
  booleans_keep BooleanMessage.Not r args = gives _
  booleans_keep BooleanMessage.AndThen r args = if_keeps (is_true r) (Begins (first args) []) (Gives r) (begins (first args)) (gives r)
  booleans_keep BooleanMessage.OrElse r args = if_keeps (is_true r) (Gives r) (Begins (first args) []) (gives r) (begins (first args))
  booleans_keep BooleanMessage.IfTrue r args = if_keeps (is_true r) (Begins (first args) []) (Gives Nil) (begins (first args)) (gives Nil)
  booleans_keep BooleanMessage.IfFalse r args = if_keeps (is_true r) (Gives Nil) (Begins (first args) []) (gives Nil) (begins (first args))
  booleans_keep BooleanMessage.IfTrueIfFalse r args = begins (if is_true r then first args else second args)
  booleans_keep BooleanMessage.IfFalseIfTrue r args = begins (if is_true r then second args else first args)

  -- ---- Characters, the Transcript, Strings and Symbols

  code_point_keeps : (v : Value) → Keeps (from_code_point v)
  code_point_keeps (Integer (pos n)) = if_keeps (nat_le n 255) (Gives (Character n)) (Fails trouble.IndexOutOfRange) (gives (Character n)) (fails trouble.IndexOutOfRange)
  code_point_keeps (Integer (negsuc n)) = record { keeps = tt }
  code_point_keeps v = record { keeps = tt }

  character_test : (v : Value) (test : ℕ → Bool) → Keeps (with_character v (λ b. Gives (boolean (test b))))
  character_test v test = character_keeps v (λ b. Gives (boolean (test b))) (λ b. gives _)

  pub characters_keep : (m : CharacterMessage) (r : Value) (args : List Value) → Keeps (character_action s m r args)
  unfolding character_action
  characters_keep CharacterMessage.FromCodePoint r args = code_point_keeps (first args)
  characters_keep CharacterMessage.AsString r args = string_made _
  characters_keep CharacterMessage.Less r args = character_test (first args) (λ b. nat_lt (byte_of r) b)
  characters_keep CharacterMessage.Greater r args = character_test (first args) (λ b. nat_lt b (byte_of r))
  characters_keep CharacterMessage.LessOrEqual r args = character_test (first args) (λ b. nat_le (byte_of r) b)
  characters_keep CharacterMessage.GreaterOrEqual r args = character_test (first args) (λ b. nat_le b (byte_of r))
  characters_keep m r args = record { keeps = tt }

  text_given : (o : Option Text) (act : Text → Action) → ((t : Text) → Keeps (act t)) → Keeps (elim o [ Some t ↦ act t | None ↦ Fails trouble.StringExpected ])
  text_given None act g = record { keeps = tt }
  text_given (Some t) act g = g t

  text_keeps : (v : Value) (act : Text → Action) → ((t : Text) → Keeps (act t)) → Keeps (with_text p s v act)
  text_keeps v act g = text_given (bytes_of p s v) act g

  pub transcripts_keep : (m : TranscriptMessage) (r : Value) (args : List Value) → Keeps (transcript_action p s m r args)
  unfolding transcript_action
  transcripts_keep TranscriptMessage.Show r args = text_keeps (first args) (λ t. Writes t r) (λ t. record { keeps = tt })
  transcripts_keep TranscriptMessage.NextPut r args = character_keeps (first args) (λ b. Writes (b ∷ []) r) (λ b. record { keeps = tt })
  transcripts_keep TranscriptMessage.Flush r args = record { keeps = tt }
  transcripts_keep (TranscriptMessage.WriteByte byte) r args = record { keeps = tt }

  text_test : (v : Value) (test : Text → Bool) → Keeps (with_text p s v (λ u. Gives (boolean (test u))))
  text_test v test = text_keeps v (λ u. Gives (boolean (test u))) (λ u. gives _)

  new_string_keeps : (r v : Value) → Keeps (new_string s r v)
  new_string_keeps (Class c) (Integer (pos n)) = if_keeps (nat_eq c symbol_class) (Fails trouble.CannotBeInstantiated) (makes_string (replicate n 32) s) (fails trouble.CannotBeInstantiated) (string_made (replicate n 32))
  new_string_keeps (Class c) (Integer (negsuc n)) = if_keeps (nat_eq c symbol_class) (Fails trouble.CannotBeInstantiated) (Fails trouble.IndexOutOfRange) (fails trouble.CannotBeInstantiated) (fails trouble.IndexOutOfRange)
  new_string_keeps (Class c) v = if_keeps (nat_eq c symbol_class) (Fails trouble.CannotBeInstantiated) (Fails trouble.NumberExpected) (fails trouble.CannotBeInstantiated) (fails trouble.NumberExpected)
  new_string_keeps r v = record { keeps = tt }

  strings_at : (m : StringMessage) (r : Value) (t : Text) (args : List Value) → Keeps (string_at p s m r t args)
  strings_at StringMessage.Equal r t args = gives _
  strings_at StringMessage.Less r t args = text_test (first args) (λ u. text_less t u)
  strings_at StringMessage.Greater r t args = text_test (first args) (λ u. text_less u t)
  strings_at StringMessage.LessOrEqual r t args = text_test (first args) (λ u. not (text_less u t))
  strings_at StringMessage.GreaterOrEqual r t args = text_test (first args) (λ u. not (text_less t u))
  strings_at StringMessage.AsUppercase r t args = string_made _
  strings_at StringMessage.AsLowercase r t args = string_made _
  strings_at StringMessage.AsString r t args = string_made t
  strings_at StringMessage.SameAs r t args = text_test (first args) (λ u. same_text (map to_lower t) (map to_lower u))
  strings_at StringMessage.NewSize r t args = new_string_keeps r (first args)

  pub strings_keep : (m : StringMessage) (r : Value) (args : List Value) → Keeps (string_action p s m r args)
  unfolding string_action
  strings_keep m r args = strings_at m r (or_empty (bytes_of p s r)) args

  -- ---- sequences, of which none is of a class of the file

  written_keeps : (n class i : ℕ) (v : Value) → Keeps (written s n class i v)
  written_keeps n class i v =
      if_keeps (nat_eq class string_class) (with_character v (λ b. Changes (with_byte n i b s) v)) (if nat_eq class byte_array_class then byte_put s n i v else Changes (with_slot n i v s) v)
      (character_keeps v (λ b. Changes (with_byte n i b s) v) (λ b. record { keeps = byte_full p known n i b s h }))
      (if_keeps (nat_eq class byte_array_class) (byte_put s n i v) (Changes (with_slot n i v s) v) (byte_written n i v) (slot_written n i v v))

  at_put_keeps : (r at v : Value) → Keeps (at_put p s r at v)
  at_put_keeps (Object n) at v =
      if_keeps (object_at n s).read_only (Fails trouble.LiteralIsReadOnly) (indexed at (size_of p s (Object n)) (λ i. written s n (object_at n s).class i v)) (fails trouble.LiteralIsReadOnly)
      (indexed_keeps at (size_of p s (Object n)) (λ i. written s n (object_at n s).class i v) (λ i. written_keeps n (object_at n s).class i v))
  at_put_keeps r at v = record { keeps = tt }

  unless_empty_keeps : (r : Value) (act : Action) → Keeps act → Keeps (if nat_eq (size_of p s r) 0 then Fails trouble.CollectionIsEmpty else act)
  unless_empty_keeps r act g = if_keeps (nat_eq (size_of p s r) 0) (Fails trouble.CollectionIsEmpty) act (fails trouble.CollectionIsEmpty) g

  species_built : (r : Value) → NoObject p s r → InFile p (species s r) → ⊥
  unfolding species
  species_built (Object n) none e = go (nat_eq (object_at n s).class interval_class) e
    where
      go : (b : Bool) → InFile p (if b then array_class else (object_at n s).class) → ⊥
      go true e = not_of_file p known array_class (omega arith) e
      go false e = none n refl e
  species_built r none e = not_of_file p known string_class (omega arith) e

  joined : (o : Option Trouble) (class : ℕ) (items : List Value) → (InFile p class → ⊥) → Keeps (elim o [ Some t ↦ Fails t | None ↦ makes_sequence class items s ])
  joined None class items none = sequence_made class items none
  joined (Some t) class items none = record { keeps = tt }

  join_keeps : (r v : Value) → NoObject p s r → Keeps (join p s r v)
  join_keeps r v none =
      if_keeps (is_sequence s v) (elim (element_trouble (species s r) (elements p s v)) [ Some t ↦ Fails t | None ↦ makes_sequence (species s r) (elements p s r ++ elements p s v) s ]) (Fails trouble.CollectionExpected)
      (joined (element_trouble (species s r) (elements p s v)) (species s r) (elements p s r ++ elements p s v) (species_built r none)) (fails trouble.CollectionExpected)

  between_keeps : (r : Value) (i j : ℤ) → NoObject p s r → Keeps (copy_between p s r i j)
  between_keeps r i j none =
      let items = some_elements p s r (natural_of i) (natural_of j + 1 - natural_of i) in
      if_keeps (int_lt j i) (makes_sequence (species s r) [] s) (if is_index (size_of p s r) i && is_index (size_of p s r) j then makes_sequence (species s r) items s else Fails trouble.IndexOutOfRange) (sequence_made (species s r) [] (species_built r none))
      (if_keeps (is_index (size_of p s r) i && is_index (size_of p s r) j) (makes_sequence (species s r) items s) (Fails trouble.IndexOutOfRange) (sequence_made (species s r) items (species_built r none)) (fails trouble.IndexOutOfRange))

  part_keeps : (r v w : Value) → NoObject p s r → Keeps (copy_from_to p s r v w)
  part_keeps r (Integer i) (Integer j) none = between_keeps r i j none
  part_keeps r v w none = record { keeps = tt }

  pub sequences_keep : (m : SequenceMessage) (r : Value) (args : List Value) → NoObject p s r → Keeps (sequence_action p s m r args)
  unfolding sequence_action
  sequences_keep SequenceMessage.At r args none = indexed_keeps (first args) (size_of p s r) (λ j. Gives (element p s r (j + 1))) (λ j. gives _)
  sequences_keep SequenceMessage.First r args none = unless_empty_keeps r (Gives (element p s r 1)) (gives _)
  sequences_keep SequenceMessage.Last r args none = unless_empty_keeps r (Gives (element p s r (size_of p s r))) (gives _)
  sequences_keep SequenceMessage.Join r args none = join_keeps r (first args) none
  sequences_keep SequenceMessage.CopyFromTo r args none = part_keeps r (first args) (second args) none
  sequences_keep SequenceMessage.Reverse r args none = sequence_made (species s r) (reverse (elements p s r)) (species_built r none)
  sequences_keep SequenceMessage.AsArray r args none = built_made array_class (elements p s r) (omega arith)
  sequences_keep SequenceMessage.AsOrderedCollection r args none = built_made ordered_collection_class (elements p s r) (omega arith)
  sequences_keep SequenceMessage.AtPut r args none = at_put_keeps r (first args) (second args)
  sequences_keep m r args none = record { keeps = tt }

  -- ---- collections that grow

  added_keeps : (n : ℕ) (slots : List Value) (v : Value) → length (object_at n s).slots ≤ length slots → Keeps (Makes (with_elements s n slots).cells (with_elements s n slots).store v)
  added_keeps n slots v l = record { keeps = elements_full p known n slots s h l }

  removed_keeps : (n i : ℕ) → NoObject p s (Object n) → Keeps (Changes (without_element s n i) (get_or (object_at n s).slots i Nil))
  removed_keeps n i none = record { keeps = removed_full p known n i s h (none n refl) }

  inserted_size : (slots : List Value) (i : ℕ) (v : Value) → length slots ≤ length (insert slots i v)
  inserted_size slots zero v = omega arith
  inserted_size [] (suc i) v = omega arith
  inserted_size (u ∷ slots) (suc i) v = let l = inserted_size slots i v in omega (arith, l)

  longer : (vs ws : List Value) → length vs ≤ length (vs ++ ws)
  longer vs ws = let e = length-append vs ws in omega (arith, e)

  ordered_keeps : (m : CollectionMessage) (n : ℕ) (args : List Value) → NoObject p s (Object n) → Keeps (ordered_at p s m n args)
  ordered_keeps CollectionMessage.Add n args none = added_keeps n ((object_at n s).slots ++ first args ∷ []) (first args) (longer (object_at n s).slots (first args ∷ []))
  ordered_keeps CollectionMessage.AddFirst n args none = added_keeps n (first args ∷ (object_at n s).slots) (first args) (omega arith)
  ordered_keeps CollectionMessage.AddAll n args none =
      let slots = (object_at n s).slots ++ elements p s (first args) in
      if_keeps (is_collection s (first args)) (Makes (with_elements s n slots).cells (with_elements s n slots).store (first args)) (Fails trouble.CollectionExpected) (added_keeps n slots (first args) (longer (object_at n s).slots (elements p s (first args)))) (fails trouble.CollectionExpected)
  ordered_keeps CollectionMessage.RemoveFirst n args none = unless_empty_keeps (Object n) (Changes (without_element s n 0) (get_or (object_at n s).slots 0 Nil)) (removed_keeps n 0 none)
  ordered_keeps CollectionMessage.RemoveLast n args none =
      let last = length (object_at n s).slots - 1 in unless_empty_keeps (Object n) (Changes (without_element s n last) (get_or (object_at n s).slots last Nil)) (removed_keeps n last none)
  ordered_keeps CollectionMessage.AddBeforeIndex n args none =
      indexed_keeps (second args) (length (object_at n s).slots + 1) (λ j. Makes (with_elements s n (insert (object_at n s).slots j (first args))).cells (with_elements s n (insert (object_at n s).slots j (first args))).store (first args))
      (λ j. added_keeps n (insert (object_at n s).slots j (first args)) (first args) (inserted_size (object_at n s).slots j (first args)))
  ordered_keeps CollectionMessage.RemoveAtIndex n args none = indexed_keeps (first args) (length (object_at n s).slots) (λ j. Changes (without_element s n j) (get_or (object_at n s).slots j Nil)) (λ j. removed_keeps n j none)
  ordered_keeps CollectionMessage.Keys n args none = built_made array_class (firsts (object_at n s).slots) (omega arith)
  ordered_keeps CollectionMessage.Values n args none = built_made array_class (seconds (object_at n s).slots) (omega arith)
  ordered_keeps m n args none = record { keeps = tt }

  changed_keeps : (m : CollectionMessage) (r : Value) (args : List Value) → NoObject p s r → Keeps (changed p s m r args)
  changed_keeps m (Object n) args none = ordered_keeps m n args none
  changed_keeps m r args none = record { keeps = tt }

  empty_keeps : (r : Value) → NoClass p r → Keeps (makes_slots (class_number r) [] s)
  empty_keeps (Class c) none = slots_made c [] (λ e. absurd (none c refl e))
  empty_keeps r none = built_made 0 [] (omega arith)

  pub collections_keep : (m : CollectionMessage) (r : Value) (args : List Value) → NoObject p s r → NoClass p r → Keeps (collection_action p s m r args)
  unfolding collection_action
  collections_keep CollectionMessage.NewArray r args o c = sized_by (first args) (λ n. makes_slots array_class (replicate n Nil) s) (λ n. built_made array_class (replicate n Nil) (omega arith))
  collections_keep CollectionMessage.NewByteArray r args o c = sized_by (first args) (λ n. makes_bytes byte_array_class (replicate n 0) s) (λ n. bytes_made byte_array_class (replicate n 0) (omega arith))
  collections_keep CollectionMessage.With r args o c = built_made array_class args (omega arith)
  collections_keep CollectionMessage.WithAll r args o c = if_keeps (is_collection s (first args)) (makes_slots array_class (elements p s (first args)) s) (Fails trouble.CollectionExpected) (built_made array_class (elements p s (first args)) (omega arith)) (fails trouble.CollectionExpected)
  collections_keep CollectionMessage.NewEmpty r args o c = empty_keeps r c
  collections_keep CollectionMessage.KeyValue r args o c = built_made association_class (first args ∷ second args ∷ []) (omega arith)
  collections_keep m r args o c = changed_keeps m r args o

  -- ---- exceptions

  kept_keeps : (n : ℕ) (v : Value) → Keeps (kept_or_text p s n v)
  kept_keeps n Nil = string_made (exception_text p s n)
  kept_keeps n v = record { keeps = tt }

  exceptions_at : (m : ExceptionMessage) (n : ℕ) (args : List Value) → Keeps (exception_at p s m n args)
  exceptions_at ExceptionMessage.Signal n args = record { keeps = h }
  exceptions_at ExceptionMessage.SignalText n args = record { keeps = slot_full p known n 0 (first args) s h }
  exceptions_at ExceptionMessage.MessageText n args = kept_keeps n (slot_of s (Object n) 0)
  exceptions_at ExceptionMessage.SetMessageText n args = slot_written n 0 (first args) (Object n)
  exceptions_at ExceptionMessage.Description n args = string_made _
  exceptions_at m n args = record { keeps = tt }

  to_keeps : (m : ExceptionMessage) (r : Value) (args : List Value) → Keeps (to_exception p s m r args)
  to_keeps m (Object n) args = exceptions_at m n args
  to_keeps m r args = record { keeps = tt }

  handles_keeps : (r v : Value) → Keeps (handles p s r v)
  handles_keeps r (Object n) = if_keeps (is_exception p s (Object n)) (Gives (boolean (fits p s r (object_at n s).class))) (Fails trouble.ExceptionExpected) (gives _) (fails trouble.ExceptionExpected)
  handles_keeps r v = record { keeps = tt }

  new_exception_keeps : (r : Value) → Keeps (new_exception p s r)
  new_exception_keeps (Class c) = blank_made c (class_at p c).slots 0 (λ e. omega arith)
  new_exception_keeps r = record { keeps = tt }

  signal_new_keeps : (r : Value) (args : List Value) → Keeps (signal_new r args)
  signal_new_keeps (Class c) args = record { keeps = tt }
  signal_new_keeps r args = record { keeps = tt }

  pub exceptions_keep : (m : ExceptionMessage) (r : Value) (args : List Value) → Keeps (exception_action p s m r args)
  unfolding exception_action
  exceptions_keep ExceptionMessage.New r args = new_exception_keeps r
  exceptions_keep ExceptionMessage.SignalNew r args = signal_new_keeps r args
  exceptions_keep ExceptionMessage.Join r args =
      if_keeps (is_plain p s r && is_plain p s (first args)) (makes_slots exception_set_class (selectors_of s r ++ selectors_of s (first args)) s) (Fails trouble.ExceptionSelectorExpected)
      (built_made exception_set_class (selectors_of s r ++ selectors_of s (first args)) (omega arith)) (fails trouble.ExceptionSelectorExpected)
  exceptions_keep ExceptionMessage.Handles r args = handles_keeps r (first args)
  exceptions_keep m r args = to_keeps m r args

  -- ---- the beginning of a loop

  abbrev with_stop : Value → Action → Action
  with_stop (Integer n) act = act
  with_stop v act = Fails trouble.NumberExpected

  abbrev with_step : Value → Action → Action
  with_step (Integer n) act = if nat_eq (natural_of n) 0 && int_le (pos 0) n then Fails trouble.StepIsZero else act
  with_step v act = Fails trouble.NumberExpected

  abbrev counted : LoopMessage → Value → List Value → Action
  counted m r args = Iterates (record { message = m; receiver = r; arguments = args; index = integer_of r; made = Nil; visited = Nil; aside = false })

  stop_keeps : (v : Value) (act : Action) → Keeps act → Keeps (with_stop v act)
  stop_keeps (Integer n) act g = g
  stop_keeps v act g = record { keeps = tt }

  step_keeps : (v : Value) (act : Action) → Keeps act → Keeps (with_step v act)
  step_keeps (Integer n) act g = if_keeps (nat_eq (natural_of n) 0 && int_le (pos 0) n) (Fails trouble.StepIsZero) act (fails trouble.StepIsZero) g
  step_keeps v act g = record { keeps = tt }

  pub loops_keep : (m : LoopMessage) (r : Value) (args : List Value) → MessageKeeps p s m r → Keeps (loop_action p s m r args)
  unfolding loop_action
  loops_keep LoopMessage.ToDo r args g = stop_keeps (first args) (counted LoopMessage.ToDo r args) record { keeps = tt }
  loops_keep LoopMessage.ToByDo r args g = stop_keeps (first args) (with_step (second args) (counted LoopMessage.ToByDo r args)) (step_keeps (second args) (counted LoopMessage.ToByDo r args) record { keeps = tt })
  loops_keep m r args g = record { keeps = g }
