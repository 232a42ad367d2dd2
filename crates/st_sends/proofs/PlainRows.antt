-- What messages to objects, classes, characters, strings, collections and numbers pass on: few arguments, or as many as a selector takes.
use Rattle.std.proofs.Common.{◌≡◌, ℕ, ◌+◌, ◌-◌, inl, ℤ, pos, negsuc, int_lt, is_some, nat_abs, nat_eq, nat_le, nat_lt, not, ◌&&◌, ◌||◌, codes, length, get_or, map, reverse, replicate, insert, List, [], ◌∷◌, ◌++◌, Option, Some, None, Bool, true, false, eqb-true, refl, sym, arith, if◌then◌else◌}
use Rattle.object_heap.specs.declared.value.Value.{Value}
use Rattle.object_heap.specs.declared.value.Value.TheVariants.{Nil, True, False, Integer, Character, Symbol, Class, Object}
use Rattle.object_heap.specs.declared.value.Closure.{Closure}
use Rattle.object_heap.specs.declared.trouble.Trouble.{Trouble}
use Rattle.object_heap.specs.declared.trouble.Trouble.TheVariants as trouble
use Rattle.object_heap.specs.Store.{Store, Object as HeapObject, object_at, closure_at, with_slot, with_byte}
use Rattle.st_code.specs.Texts.{Text, arity, same_text, text_less, to_lower}
use Rattle.st_code.specs.Program.{Program, Indexed, NoIndexes, ByObject, ByByte, class_at, name_at, number_of}
use Rattle.st_code.specs.BuiltIns.{string_class, symbol_class, array_class, ordered_collection_class, association_class, byte_array_class, interval_class, fraction_class}
use Rattle.st_code.specs.Lookup.{level_of, lookup}
use Rattle.st_code.specs.Messages.{ObjectMessage, ClassMessage, CharacterMessage, StringMessage, SequenceMessage, BooleanMessage, CollectionMessage, TranscriptMessage, NumberMessage}
use Rattle.st_collections.specs.Actions.{Action, Gives, Changes, Makes, Writes, Fails, PassesIntegers, Begins, Sends, first, second, boolean, makes_slots, makes_bytes, makes_string, makes_blank}
use Rattle.st_collections.specs.IntervalRows.{with_integer, interval, interval_by}
use Rattle.st_collections.specs.Kinds.{is_true, is_a, bytes_of, slots_of, size_of, element, some_elements, elements, is_sequence, is_collection, species, print_text, natural_of, integer_of}
use Rattle.st_collections.specs.ObjectRows.{copied, indexed, index_in, byte_value, byte_put, sized, object_action, class_action, boolean_action}
use Rattle.st_collections.specs.TextRows.{with_character, from_code_point, with_text, new_string, string_at, or_empty, byte_of, character_action, string_action, transcript_action}
use Rattle.st_collections.specs.SequenceRows.{makes_sequence, element_trouble, at_put, join, copy_between, copy_from_to, with_elements, without_element, firsts, seconds, written, is_index, ordered_at, changed, sequence_action, collection_action}
use Rattle.st_numbers.specs.Answers.{answer_of}
use Rattle.st_numbers.specs.declared.message.Number.{Number}
use Rattle.st_numbers.specs.declared.message.NumberAnswer.{NumberAnswer}
use Rattle.st_numbers.specs.declared.message.NumberMessage.{NumberMessage as Arithmetic}
use Rattle.st_rules.specs.NumberRows.{as_number, argument_of, dividend_of, troubled, numeric_action, of_number, arithmetic_action, radix_text, in_radix, Asked, asked, number_at, number_action}
use Rattle.st_sends.specs.Arguments.{ActionPasses}
use Rattle.st_sends.proofs.SelectorNames.{print_takes}

module _ (p : Program) (s : Store) (n : ℕ) where
  pub record Passes (a : Action) : Type 0 where
    pub passes : ActionPasses p n a

  -- ---- what rows are made of

  pub fails : (t : Trouble) → Passes (Fails t)
  fails t = record { passes = tt }

  pub if_passes : (b : Bool) (x y : Action) → Passes x → Passes y → Passes (if b then x else y)
  if_passes true x y g i = g
  if_passes false x y g i = i

  index_passes : (o : Option ℕ) (act : ℕ → Action) → ((i : ℕ) → Passes (act i)) → Passes (elim o [ Some i ↦ act i | None ↦ Fails trouble.IndexOutOfRange ])
  index_passes None act g = record { passes = tt }
  index_passes (Some i) act g = g i

  indexed_passes : (v : Value) (size : ℕ) (act : ℕ → Action) → ((i : ℕ) → Passes (act i)) → Passes (indexed v size act)
  indexed_passes (Integer i) size act g = index_passes (index_in size i) act g
  indexed_passes v size act g = record { passes = tt }

  pub slots_pass : (class : ℕ) (slots : List Value) → Passes (makes_slots class slots s)
  unfolding makes_slots
  slots_pass class slots = record { passes = tt }

  bytes_pass : (class : ℕ) (bytes : List ℕ) → Passes (makes_bytes class bytes s)
  unfolding makes_bytes
  bytes_pass class bytes = record { passes = tt }

  pub string_passes : (bytes : List ℕ) → Passes (makes_string bytes s)
  unfolding makes_string
  string_passes bytes = bytes_pass string_class bytes

  pub blank_passes : (class slots bytes : ℕ) → Passes (makes_blank class slots bytes s)
  unfolding makes_blank
  blank_passes class slots bytes = record { passes = tt }

  sequence_passes : (class : ℕ) (items : List Value) → Passes (makes_sequence class items s)
  unfolding makes_sequence
  sequence_passes class items = if_passes (nat_eq class string_class) _ _ (bytes_pass string_class _) (if_passes (nat_eq class byte_array_class) _ _ (bytes_pass byte_array_class _) (slots_pass class items))

  byte_passes : (number i : ℕ) (v : Value) → Passes (byte_put s number i v)
  byte_passes number i v = go (byte_value v)
    where
      go : (o : Option ℕ) → Passes (elim o [ Some byte ↦ Changes (with_byte number i byte s) v | None ↦ Fails trouble.ByteExpected ])
      go None = record { passes = tt }
      go (Some byte) = record { passes = tt }

  character_passes : (v : Value) (act : ℕ → Action) → ((b : ℕ) → Passes (act b)) → Passes (with_character v act)
  character_passes (Character c) act g = g c
  character_passes v act g = record { passes = tt }

  text_passes : (v : Value) (act : Text → Action) → ((t : Text) → Passes (act t)) → Passes (with_text p s v act)
  text_passes v act g = go (bytes_of p s v)
    where
      go : (o : Option Text) → Passes (elim o [ Some t ↦ act t | None ↦ Fails trouble.StringExpected ])
      go None = record { passes = tt }
      go (Some t) = g t

  sized_passes : (v : Value) (act : ℕ → Action) → ((i : ℕ) → Passes (act i)) → Passes (sized v act)
  sized_passes (Integer (pos i)) act g = g i
  sized_passes (Integer (negsuc i)) act g = record { passes = tt }
  sized_passes v act g = record { passes = tt }

  -- ---- every object

  copied_passes : (o : HeapObject) (c : Option Closure) → Passes (copied s o c)
  copied_passes o None = record { passes = tt }
  copied_passes o (Some closure) = record { passes = tt }

  display_passes : (o : Option Text) (r : Value) → Passes (elim o [ Some bytes ↦ makes_string bytes s | None ↦ Sends (number_of p (codes "printString")) r [] ])
  display_passes None r = record { passes = (print_takes p, omega arith) }
  display_passes (Some bytes) r = string_passes bytes

  kind_passes : (i : Indexed) (a b c : Action) → Passes a → Passes b → Passes c → Passes (elim i [ NoIndexes ↦ a | ByObject ↦ b | ByByte ↦ c ])
  kind_passes NoIndexes a b c x y z = x
  kind_passes ByObject a b c x y z = y
  kind_passes ByByte a b c x y z = z

  abbrev kind_of : Bool → Indexed → Indexed
  kind_of in_file kind = if in_file then kind else NoIndexes

  abbrev perform : Value → ℕ → List Value → Action
  perform r name values = if nat_eq (arity (name_at p name)) (length values) then Sends name r values else Fails trouble.WrongNumberOfArguments

  performs : (r : Value) (name : ℕ) (values : List Value) → Passes (perform r name values)
  performs r name values = go (nat_eq (arity (name_at p name)) (length values)) refl
    where
      go : (b : Bool) → nat_eq (arity (name_at p name)) (length values) ≡ b → Passes (if b then Sends name r values else Fails trouble.WrongNumberOfArguments)
      go true e =
          let same : length values ≡ arity (name_at p name) = sym (eqb-true (arity (name_at p name)) (length values) e) in
          record { passes = (inl same, omega (arith, same)) }
      go false e = record { passes = tt }

  abbrev performed : Value → Value → List Value → Action
  performed r (Symbol name) values = perform r name values
  performed r v values = Fails trouble.SymbolExpected

  performed_passes : (r v : Value) (values : List Value) → Passes (performed r v values)
  performed_passes r (Symbol name) values = performs r name values
  performed_passes r v values = record { passes = tt }

  abbrev performed_with : Value → Value → Value → Action
  performed_with r (Symbol name) array = if is_a s array_class array then perform r name (slots_of s array) else Fails trouble.CollectionExpected
  performed_with r v array = Fails trouble.SymbolExpected

  performed_with_passes : (r v array : Value) → Passes (performed_with r v array)
  performed_with_passes r (Symbol name) array = if_passes (is_a s array_class array) (perform r name (slots_of s array)) (Fails trouble.CollectionExpected) (performs r name (slots_of s array)) (fails trouble.CollectionExpected)
  performed_with_passes r v array = record { passes = tt }

  abbrev behind_first : List Value → List Value
  behind_first [] = []
  behind_first (v ∷ vs) = vs

  abbrev responded : Value → Value → Action
  responded r (Symbol name) = Gives (boolean (is_some (lookup p (level_of s r) name)))
  responded r v = Fails trouble.SymbolExpected

  responds : (r v : Value) → Passes (responded r v)
  responds r (Symbol name) = record { passes = tt }
  responds r v = record { passes = tt }

  put_passes : (number named m : ℕ) (in_file : Bool) (i : Indexed) (o : HeapObject) (at v : Value) → Passes (elim (kind_of in_file i) [
    | NoIndexes ↦ Fails trouble.NotIndexed
    | ByObject ↦ indexed at (length o.slots - named) (λ j. Changes (with_slot number (named + j) v s) v)
    | ByByte ↦ indexed at (length o.bytes) (λ j. byte_put s number j v)
  ])
  put_passes number named m in_file i o at v =
      kind_passes (kind_of in_file i) (Fails trouble.NotIndexed) (indexed at (length o.slots - named) (λ j. Changes (with_slot number (named + j) v s) v)) (indexed at (length o.bytes) (λ j. byte_put s number j v)) record { passes = tt }
      (indexed_passes at (length o.slots - named) (λ j. Changes (with_slot number (named + j) v s) v) (λ j. record { passes = tt })) (indexed_passes at (length o.bytes) (λ j. byte_put s number j v) (λ j. byte_passes number j v))

  read_passes : (i : Indexed) (at : Value) (m k : ℕ) (f g : ℕ → Value) → Passes (elim i [ NoIndexes ↦ Fails trouble.NotIndexed | ByObject ↦ indexed at m (λ j. Gives (f j)) | ByByte ↦ indexed at k (λ j. Gives (g j)) ])
  read_passes i at m k f g =
      kind_passes i (Fails trouble.NotIndexed) (indexed at m (λ j. Gives (f j))) (indexed at k (λ j. Gives (g j))) record { passes = tt } (indexed_passes at m (λ j. Gives (f j)) (λ j. record { passes = tt })) (indexed_passes at k (λ j. Gives (g j)) (λ j. record { passes = tt }))

  pub objects_pass : (m : ObjectMessage) (r : Value) (args : List Value) → Passes (object_action p s m r args)
  unfolding object_action
  objects_pass ObjectMessage.IsSymbol (Symbol name) args = record { passes = tt }
  objects_pass ObjectMessage.IsSymbol r args = record { passes = tt }
  objects_pass ObjectMessage.RespondsTo r args = responds r (first args)
  objects_pass ObjectMessage.Copy (Object k) args = copied_passes (object_at k s) (closure_at k s)
  objects_pass ObjectMessage.Copy r args = record { passes = tt }
  objects_pass ObjectMessage.PrintString r args = string_passes _
  objects_pass ObjectMessage.DisplayString (Character byte) args = string_passes (byte ∷ [])
  objects_pass ObjectMessage.DisplayString r args = display_passes (bytes_of p s r) r
  objects_pass ObjectMessage.Size (Object k) args = let o = object_at k s in kind_passes (kind_of (class_at p o.class).in_file (class_at p o.class).indexed) _ (Gives _) (Gives _) record { passes = tt } record { passes = tt } record { passes = tt }
  objects_pass ObjectMessage.Size r args = record { passes = tt }
  objects_pass ObjectMessage.At (Object k) args =
      let o = object_at k s in read_passes (kind_of (class_at p o.class).in_file (class_at p o.class).indexed) (first args) (length o.slots - (class_at p o.class).slots) (length o.bytes) (λ i. get_or o.slots ((class_at p o.class).slots + i) Nil) (λ i. Integer (pos (get_or o.bytes i 0)))
  objects_pass ObjectMessage.At r args = record { passes = tt }
  objects_pass ObjectMessage.AtPut (Object k) args =
      let o = object_at k s in put_passes k (class_at p o.class).slots 0 (class_at p o.class).in_file (class_at p o.class).indexed o (first args) (second args)
  objects_pass ObjectMessage.AtPut r args = record { passes = tt }
  objects_pass ObjectMessage.ErrorText r args = record { passes = omega arith }
  objects_pass ObjectMessage.NotUnderstood r args = record { passes = omega arith }
  objects_pass ObjectMessage.Perform r args = performed_passes r (first args) (behind_first args)
  objects_pass ObjectMessage.PerformWithArguments r args = performed_with_passes r (first args) (second args)
  objects_pass ObjectMessage.Arrow r args = slots_pass association_class (r ∷ first args ∷ [])
  objects_pass m r args = record { passes = tt }

  -- ---- classes and Booleans

  new_by : (i : Indexed) (class : ℕ) (v : Value) → Passes (elim i [
    | NoIndexes ↦ Fails trouble.NotIndexed
    | ByObject ↦ sized v (λ k. makes_blank class ((class_at p class).slots + k) 0 s)
    | ByByte ↦ sized v (λ k. makes_blank class (class_at p class).slots k s)
  ])
  new_by NoIndexes class v = record { passes = tt }
  new_by ByObject class v = sized_passes v (λ k. makes_blank class ((class_at p class).slots + k) 0 s) (λ k. blank_passes class ((class_at p class).slots + k) 0)
  new_by ByByte class v = sized_passes v (λ k. makes_blank class (class_at p class).slots k s) (λ k. blank_passes class (class_at p class).slots k)

  class_messages : (m : ClassMessage) (c : ℕ) (args : List Value) → Passes (class_action p s m (Class c) args)
  unfolding class_action
  class_messages ClassMessage.Name c args = string_passes (class_at p c).name
  class_messages ClassMessage.Superclass c args = record { passes = tt }
  class_messages ClassMessage.New c args = if_passes (class_at p c).in_file (makes_blank c (class_at p c).slots 0 s) (Fails trouble.CannotBeInstantiated) (blank_passes c (class_at p c).slots 0) (fails trouble.CannotBeInstantiated)
  class_messages ClassMessage.NewSize c args = if_passes (class_at p c).in_file _ (Fails trouble.CannotBeInstantiated) (new_by (class_at p c).indexed c (first args)) (fails trouble.CannotBeInstantiated)

  pub classes_pass : (m : ClassMessage) (r : Value) (args : List Value) → Passes (class_action p s m r args)
  unfolding class_action
  classes_pass m (Class c) args = class_messages m c args
  classes_pass m r args = record { passes = tt }

  abbrev with_boolean : Value → (Bool → Action) → Action
  with_boolean True act = act true
  with_boolean False act = act false
  with_boolean v act = Fails trouble.BooleanExpected

  boolean_by : (v : Value) (answer : Bool → Value) → Passes (with_boolean v (λ b. Gives (answer b)))
  boolean_by True answer = record { passes = tt }
  boolean_by False answer = record { passes = tt }
  boolean_by v answer = record { passes = tt }

  xor_by : (r v : Value) → Passes (boolean_action BooleanMessage.Xor r (v ∷ []))
  unfolding boolean_action
  xor_by r True = record { passes = tt }
  xor_by r False = record { passes = tt }
  xor_by r v = record { passes = tt }

  begins : (v : Value) → Passes (Begins v [])
  begins v = record { passes = omega arith }

  pub booleans_pass : (m : BooleanMessage) (r : Value) (args : List Value) → Passes (boolean_action m r args)
  unfolding boolean_action
  booleans_pass BooleanMessage.And r args = boolean_by (first args) (λ b. boolean (is_true r && b))
  booleans_pass BooleanMessage.Or r args = boolean_by (first args) (λ b. boolean (is_true r || b))
  booleans_pass BooleanMessage.Xor r args = xor_by r (first args)
  booleans_pass BooleanMessage.Not r args = record { passes = tt }
  booleans_pass BooleanMessage.AndThen r args = if_passes (is_true r) (Begins (first args) []) (Gives r) (begins (first args)) record { passes = tt }
  booleans_pass BooleanMessage.OrElse r args = if_passes (is_true r) (Gives r) (Begins (first args) []) record { passes = tt } (begins (first args))
  booleans_pass BooleanMessage.IfTrue r args = if_passes (is_true r) (Begins (first args) []) (Gives Nil) (begins (first args)) record { passes = tt }
  booleans_pass BooleanMessage.IfFalse r args = if_passes (is_true r) (Gives Nil) (Begins (first args) []) record { passes = tt } (begins (first args))
  booleans_pass BooleanMessage.IfTrueIfFalse r args = begins _
  booleans_pass BooleanMessage.IfFalseIfTrue r args = begins _

  -- ---- Characters, the Transcript, Strings and Symbols

  code_point : (v : Value) → Passes (from_code_point v)
  code_point (Integer (pos k)) = if_passes (nat_le k 255) (Gives (Character k)) (Fails trouble.IndexOutOfRange) record { passes = tt } record { passes = tt }
  code_point (Integer (negsuc k)) = record { passes = tt }
  code_point v = record { passes = tt }

  character_test : (v : Value) (test : ℕ → Bool) → Passes (with_character v (λ b. Gives (boolean (test b))))
  character_test v test = character_passes v (λ b. Gives (boolean (test b))) (λ b. record { passes = tt })

  pub characters_pass : (m : CharacterMessage) (r : Value) (args : List Value) → Passes (character_action s m r args)
  unfolding character_action
  characters_pass CharacterMessage.FromCodePoint r args = code_point (first args)
  characters_pass CharacterMessage.AsString r args = string_passes _
  characters_pass CharacterMessage.Less r args = character_test (first args) (λ b. nat_lt (byte_of r) b)
  characters_pass CharacterMessage.Greater r args = character_test (first args) (λ b. nat_lt b (byte_of r))
  characters_pass CharacterMessage.LessOrEqual r args = character_test (first args) (λ b. nat_le (byte_of r) b)
  characters_pass CharacterMessage.GreaterOrEqual r args = character_test (first args) (λ b. nat_le b (byte_of r))
  characters_pass m r args = record { passes = tt }

  pub transcripts_pass : (m : TranscriptMessage) (r : Value) (args : List Value) → Passes (transcript_action p s m r args)
  unfolding transcript_action
  transcripts_pass TranscriptMessage.Show r args = text_passes (first args) (λ t. Writes t r) (λ t. record { passes = tt })
  transcripts_pass TranscriptMessage.NextPut r args = character_passes (first args) (λ b. Writes (b ∷ []) r) (λ b. record { passes = tt })
  transcripts_pass m r args = record { passes = tt }

  text_test : (v : Value) (test : Text → Bool) → Passes (with_text p s v (λ u. Gives (boolean (test u))))
  text_test v test = text_passes v (λ u. Gives (boolean (test u))) (λ u. record { passes = tt })

  new_string_passes : (r v : Value) → Passes (new_string s r v)
  new_string_passes (Class c) (Integer (pos k)) = if_passes (nat_eq c symbol_class) (Fails trouble.CannotBeInstantiated) (makes_string (replicate k 32) s) (fails trouble.CannotBeInstantiated) (string_passes (replicate k 32))
  new_string_passes (Class c) (Integer (negsuc k)) = if_passes (nat_eq c symbol_class) (Fails trouble.CannotBeInstantiated) (Fails trouble.IndexOutOfRange) (fails trouble.CannotBeInstantiated) (fails trouble.IndexOutOfRange)
  new_string_passes (Class c) v = if_passes (nat_eq c symbol_class) (Fails trouble.CannotBeInstantiated) (Fails trouble.NumberExpected) (fails trouble.CannotBeInstantiated) (fails trouble.NumberExpected)
  new_string_passes r v = record { passes = tt }

  strings_at : (m : StringMessage) (r : Value) (t : Text) (args : List Value) → Passes (string_at p s m r t args)
  strings_at StringMessage.Equal r t args = record { passes = tt }
  strings_at StringMessage.Less r t args = text_test (first args) (λ u. text_less t u)
  strings_at StringMessage.Greater r t args = text_test (first args) (λ u. text_less u t)
  strings_at StringMessage.LessOrEqual r t args = text_test (first args) (λ u. not (text_less u t))
  strings_at StringMessage.GreaterOrEqual r t args = text_test (first args) (λ u. not (text_less t u))
  strings_at StringMessage.AsUppercase r t args = string_passes _
  strings_at StringMessage.AsLowercase r t args = string_passes _
  strings_at StringMessage.AsString r t args = string_passes t
  strings_at StringMessage.SameAs r t args = text_test (first args) (λ u. same_text (map to_lower t) (map to_lower u))
  strings_at StringMessage.NewSize r t args = new_string_passes r (first args)

  pub strings_pass : (m : StringMessage) (r : Value) (args : List Value) → Passes (string_action p s m r args)
  unfolding string_action
  strings_pass m r args = strings_at m r (or_empty (bytes_of p s r)) args

  -- ---- sequences and collections that grow

  written_passes : (k class i : ℕ) (v : Value) → Passes (written s k class i v)
  written_passes k class i v =
      if_passes (nat_eq class string_class) (with_character v (λ b. Changes (with_byte k i b s) v)) (if nat_eq class byte_array_class then byte_put s k i v else Changes (with_slot k i v s) v)
      (character_passes v (λ b. Changes (with_byte k i b s) v) (λ b. record { passes = tt }))
      (if_passes (nat_eq class byte_array_class) (byte_put s k i v) (Changes (with_slot k i v s) v) (byte_passes k i v) record { passes = tt })

  put_at_passes : (r at v : Value) → Passes (at_put p s r at v)
  put_at_passes (Object k) at v =
      if_passes (object_at k s).read_only (Fails trouble.LiteralIsReadOnly) (indexed at (size_of p s (Object k)) (λ i. written s k (object_at k s).class i v)) (fails trouble.LiteralIsReadOnly)
      (indexed_passes at (size_of p s (Object k)) (λ i. written s k (object_at k s).class i v) (λ i. written_passes k (object_at k s).class i v))
  put_at_passes r at v = record { passes = tt }

  unless_empty_passes : (r : Value) (act : Action) → Passes act → Passes (if nat_eq (size_of p s r) 0 then Fails trouble.CollectionIsEmpty else act)
  unless_empty_passes r act g = if_passes (nat_eq (size_of p s r) 0) (Fails trouble.CollectionIsEmpty) act record { passes = tt } g

  joined_passes : (o : Option Trouble) (class : ℕ) (items : List Value) → Passes (elim o [ Some t ↦ Fails t | None ↦ makes_sequence class items s ])
  joined_passes None class items = sequence_passes class items
  joined_passes (Some t) class items = record { passes = tt }

  join_passes : (r v : Value) → Passes (join p s r v)
  join_passes r v =
      if_passes (is_sequence s v) (elim (element_trouble (species s r) (elements p s v)) [ Some t ↦ Fails t | None ↦ makes_sequence (species s r) (elements p s r ++ elements p s v) s ]) (Fails trouble.CollectionExpected)
      (joined_passes (element_trouble (species s r) (elements p s v)) (species s r) (elements p s r ++ elements p s v)) (fails trouble.CollectionExpected)

  between_passes : (r : Value) (i j : ℤ) → Passes (copy_between p s r i j)
  between_passes r i j =
      let items = some_elements p s r (natural_of i) (natural_of j + 1 - natural_of i) in
      if_passes (int_lt j i) (makes_sequence (species s r) [] s) (if is_index (size_of p s r) i && is_index (size_of p s r) j then makes_sequence (species s r) items s else Fails trouble.IndexOutOfRange) (sequence_passes (species s r) [])
      (if_passes (is_index (size_of p s r) i && is_index (size_of p s r) j) (makes_sequence (species s r) items s) (Fails trouble.IndexOutOfRange) (sequence_passes (species s r) items) (fails trouble.IndexOutOfRange))

  part_passes : (r v w : Value) → Passes (copy_from_to p s r v w)
  part_passes r (Integer i) (Integer j) = between_passes r i j
  part_passes r v w = record { passes = tt }

  pub sequences_pass : (m : SequenceMessage) (r : Value) (args : List Value) → Passes (sequence_action p s m r args)
  unfolding sequence_action
  sequences_pass SequenceMessage.At r args = indexed_passes (first args) (size_of p s r) (λ j. Gives (element p s r (j + 1))) (λ j. record { passes = tt })
  sequences_pass SequenceMessage.First r args = unless_empty_passes r (Gives (element p s r 1)) record { passes = tt }
  sequences_pass SequenceMessage.Last r args = unless_empty_passes r (Gives (element p s r (size_of p s r))) record { passes = tt }
  sequences_pass SequenceMessage.Join r args = join_passes r (first args)
  sequences_pass SequenceMessage.CopyFromTo r args = part_passes r (first args) (second args)
  sequences_pass SequenceMessage.Reverse r args = sequence_passes (species s r) (reverse (elements p s r))
  sequences_pass SequenceMessage.AsArray r args = slots_pass array_class (elements p s r)
  sequences_pass SequenceMessage.AsOrderedCollection r args = slots_pass ordered_collection_class (elements p s r)
  sequences_pass SequenceMessage.AtPut r args = put_at_passes r (first args) (second args)
  sequences_pass m r args = record { passes = tt }

  ordered_passes : (m : CollectionMessage) (k : ℕ) (args : List Value) → Passes (ordered_at p s m k args)
  ordered_passes CollectionMessage.AddAll k args =
      let slots = (object_at k s).slots ++ elements p s (first args) in
      if_passes (is_collection s (first args)) (Makes (with_elements s k slots).cells (with_elements s k slots).store (first args)) (Fails trouble.CollectionExpected) record { passes = tt } (fails trouble.CollectionExpected)
  ordered_passes CollectionMessage.RemoveFirst k args = unless_empty_passes (Object k) (Changes (without_element s k 0) (get_or (object_at k s).slots 0 Nil)) record { passes = tt }
  ordered_passes CollectionMessage.RemoveLast k args =
      let last = length (object_at k s).slots - 1 in unless_empty_passes (Object k) (Changes (without_element s k last) (get_or (object_at k s).slots last Nil)) record { passes = tt }
  ordered_passes CollectionMessage.AddBeforeIndex k args =
      indexed_passes (second args) (length (object_at k s).slots + 1) (λ j. Makes (with_elements s k (insert (object_at k s).slots j (first args))).cells (with_elements s k (insert (object_at k s).slots j (first args))).store (first args)) (λ j. record { passes = tt })
  ordered_passes CollectionMessage.RemoveAtIndex k args = indexed_passes (first args) (length (object_at k s).slots) (λ j. Changes (without_element s k j) (get_or (object_at k s).slots j Nil)) (λ j. record { passes = tt })
  ordered_passes CollectionMessage.Keys k args = slots_pass array_class (firsts (object_at k s).slots)
  ordered_passes CollectionMessage.Values k args = slots_pass array_class (seconds (object_at k s).slots)
  ordered_passes m k args = record { passes = tt }

  changed_passes : (m : CollectionMessage) (r : Value) (args : List Value) → Passes (changed p s m r args)
  changed_passes m (Object k) args = ordered_passes m k args
  changed_passes m r args = record { passes = tt }

  pub collections_pass : (m : CollectionMessage) (r : Value) (args : List Value) → Passes (collection_action p s m r args)
  unfolding collection_action
  collections_pass CollectionMessage.NewArray r args = sized_passes (first args) (λ k. makes_slots array_class (replicate k Nil) s) (λ k. slots_pass array_class (replicate k Nil))
  collections_pass CollectionMessage.NewByteArray r args = sized_passes (first args) (λ k. makes_bytes byte_array_class (replicate k 0) s) (λ k. bytes_pass byte_array_class (replicate k 0))
  collections_pass CollectionMessage.With r args = slots_pass array_class args
  collections_pass CollectionMessage.WithAll r args = if_passes (is_collection s (first args)) (makes_slots array_class (elements p s (first args)) s) (Fails trouble.CollectionExpected) (slots_pass array_class (elements p s (first args))) (fails trouble.CollectionExpected)
  collections_pass CollectionMessage.NewEmpty r args = slots_pass _ []
  collections_pass CollectionMessage.KeyValue r args = slots_pass association_class (first args ∷ second args ∷ [])
  collections_pass m r args = changed_passes m r args

  -- ---- numbers

  integer_passes : (v : Value) (act : ℤ → Action) → ((i : ℤ) → Passes (act i)) → Passes (with_integer v act)
  integer_passes (Integer i) act g = g i
  integer_passes v act g = record { passes = tt }

  troubled_passes : (dividend : Value) (t : Trouble) → Passes (troubled dividend t)
  troubled_passes dividend trouble.ZeroDivide = record { passes = tt }
  troubled_passes dividend t = record { passes = tt }

  numeric_passes : (dividend r v : Value) (a : NumberAnswer) → Passes (numeric_action s dividend r v a)
  numeric_passes dividend r v (NumberAnswer.Value w) = record { passes = tt }
  numeric_passes dividend r v (NumberAnswer.Fraction i d) = slots_pass fraction_class (Integer i ∷ Integer d ∷ [])
  numeric_passes dividend r v NumberAnswer.Receiver = record { passes = tt }
  numeric_passes dividend r v NumberAnswer.Argument = record { passes = tt }
  numeric_passes dividend r v (NumberAnswer.Trouble t) = troubled_passes dividend t
  numeric_passes dividend r v NumberAnswer.IntegerLimit = record { passes = tt }

  of_passes : (m : Arithmetic) (o : Option Number) (r : Value) (args : List Value) → Passes (of_number s m o r args)
  of_passes m None r args = record { passes = tt }
  of_passes m (Some x) r args = numeric_passes (dividend_of m r) r (first args) (answer_of m x (argument_of s args))

  arithmetic_passes : (m : Arithmetic) (r : Value) (args : List Value) → Passes (arithmetic_action s m r args)
  unfolding arithmetic_action
  arithmetic_passes m r args = of_passes m (as_number s r) r args

  interval_passes : (start stop by : ℤ) → Passes (interval s start stop by)
  interval_passes start stop by = if_passes _ _ PassesIntegers (slots_pass interval_class _) record { passes = tt }

  by_passes : (start stop by : ℤ) → Passes (interval_by s start stop by)
  by_passes start stop by = if_passes (nat_eq (nat_abs by) 0) (Fails trouble.StepIsZero) (interval s start stop by) (fails trouble.StepIsZero) (interval_passes start stop by)

  radix_passes : (i radix : ℤ) → Passes (in_radix s i radix)
  radix_passes i (pos radix) = if_passes (nat_le 2 radix && nat_le radix 36) (makes_string (radix_text radix i) s) (Fails trouble.BadRadix) (string_passes (radix_text radix i)) (fails trouble.BadRadix)
  radix_passes i (negsuc radix) = record { passes = tt }

  numbers_at : (a : Asked) (r : Value) (args : List Value) → Passes (number_at p s a r args)
  numbers_at (Asked.Computes m) r args = arithmetic_passes m r args
  numbers_at Asked.AsString r args = string_passes (print_text p s r)
  numbers_at Asked.PrintRadix r args = integer_passes (first args) (λ radix. in_radix s (integer_of r) radix) (λ radix. radix_passes (integer_of r) radix)
  numbers_at Asked.To r args = integer_passes (first args) (λ i. interval s (integer_of r) i (pos 1)) (λ i. interval_passes (integer_of r) i (pos 1))
  numbers_at Asked.ToBy r args =
      integer_passes (first args) (λ i. with_integer (second args) (λ by. interval_by s (integer_of r) i by))
      (λ i. integer_passes (second args) (λ by. interval_by s (integer_of r) i by) (λ by. by_passes (integer_of r) i by))
  numbers_at Asked.FromNumerator r args =
      integer_passes (first args) (λ i. with_integer (second args) (λ d. arithmetic_action s Arithmetic.Divide (Integer i) (Integer d ∷ [])))
      (λ i. integer_passes (second args) (λ d. arithmetic_action s Arithmetic.Divide (Integer i) (Integer d ∷ [])) (λ d. arithmetic_passes Arithmetic.Divide (Integer i) (Integer d ∷ [])))

  pub numbers_pass : (m : NumberMessage) (r : Value) (args : List Value) → Passes (number_action p s m r args)
  unfolding number_action
  numbers_pass m r args = numbers_at (asked m) r args
