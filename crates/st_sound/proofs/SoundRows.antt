-- What messages to objects, classes, characters, strings and collections do at once leaves a sound store sound.
use Rattle.std.proofs.Common.{◌≡◌, ℕ, ◌+◌, ◌-◌, ℤ, pos, negsuc, int_lt, is_some, nat_eq, nat_le, nat_lt, not, ◌&&◌, ◌||◌, length, get_or, map, reverse, replicate, insert, List, [], ◌∷◌, ◌++◌, Option, Some, None, Bool, true, false, eqb-true, true≢false, refl, sym, subst, if◌then◌else◌}
use Rattle.object_heap.specs.declared.value.Value.{Value}
use Rattle.object_heap.specs.declared.value.Value.TheVariants.{Nil, True, False, Integer, Character, Symbol, Class, Object}
use Rattle.object_heap.specs.declared.trouble.Trouble.{Trouble}
use Rattle.object_heap.specs.declared.trouble.Trouble.TheVariants as trouble
use Rattle.object_heap.specs.declared.value.Closure.{Closure}
use Rattle.object_heap.specs.Store.{Store, Object as HeapObject, closure_at, object_at, object_added, with_slot, with_byte}
use Rattle.st_code.specs.Texts.{Text, arity, same_text, text_less, to_lower}
use Rattle.st_code.specs.Program.{Program, Indexed, NoIndexes, ByObject, ByByte, class_at, name_at}
use Rattle.st_code.specs.BuiltIns.{string_class, symbol_class, array_class, ordered_collection_class, association_class, byte_array_class, dictionary_class, interval_class}
use Rattle.st_code.specs.Lookup.{level_of, lookup}
use Rattle.st_code.specs.Messages.{ObjectMessage, ClassMessage, CharacterMessage, StringMessage, SequenceMessage, BooleanMessage, CollectionMessage, TranscriptMessage}
use Rattle.st_collections.specs.Actions.{Action, Gives, Changes, Makes, Writes, Fails, Begins, Sends, first, second, boolean, makes_slots, makes_bytes, makes_string, makes_blank}
use Rattle.st_collections.specs.Kinds.{is_true, is_a, bytes_of, slots_of, size_of, element, some_elements, elements, is_sequence, is_collection, species, natural_of}
use Rattle.st_collections.specs.ObjectRows.{copied, indexed, index_in, byte_value, byte_put, object_action, class_action, boolean_action}
use Rattle.st_collections.specs.TextRows.{with_character, from_code_point, with_text, new_string, string_at, or_empty, byte_of, character_action, string_action, transcript_action}
use Rattle.st_collections.specs.SequenceRows.{makes_sequence, element_trouble, at_put, join, copy_between, copy_from_to, with_elements, without_element, firsts, seconds, written, is_index, ordered_at, changed, sequence_action, collection_action}
use Rattle.st_sound.specs.Receivers.{takes_sequence, takes_collection}
use Rattle.st_sound.specs.SoundActions.{ActionSound}
use Rattle.st_sound.specs.SoundStore.{SoundStore, is_free}
use Rattle.st_sound.proofs.SoundObjects.{free_interval, free_dictionary, new_free, new_empty, new_like, new_block, sound_added, sound_new, sound_slot, sound_byte, sound_grown, sound_removed}

-- a class of which instances of others are none
pub class_free : (class other : ℕ) → class ≡ other → is_free other ≡ true → is_free class ≡ true
class_free class other e f = subst (λ c. is_free c ≡ true) (sym e) f

module _ (p : Program) (s : Store) (h : SoundStore s) where
  pub record Sounds (a : Action) : Type 0 where
    pub sound : ActionSound p s a

  -- ---- what rows are made of

  pub fails : (t : Trouble) → Sounds (Fails t)
  fails t = record { sound = tt }

  pub gives : (v : Value) → Sounds (Gives v)
  gives v = record { sound = tt }

  pub if_sound : (b : Bool) (x y : Action) → Sounds x → Sounds y → Sounds (if b then x else y)
  if_sound true x y g i = g
  if_sound false x y g i = i

  index_sound : (o : Option ℕ) (act : ℕ → Action) → ((i : ℕ) → Sounds (act i)) → Sounds (elim o [ Some i ↦ act i | None ↦ Fails trouble.IndexOutOfRange ])
  index_sound None act g = record { sound = tt }
  index_sound (Some i) act g = g i

  pub indexed_sound : (v : Value) (size : ℕ) (act : ℕ → Action) → ((i : ℕ) → Sounds (act i)) → Sounds (indexed v size act)
  indexed_sound (Integer n) size act g = index_sound (index_in size n) act g
  indexed_sound v size act g = record { sound = tt }

  pub slots_made : (class : ℕ) (slots : List Value) → is_free class ≡ true → Sounds (makes_slots class slots s)
  unfolding makes_slots
  slots_made class slots f = record { sound = sound_new s class slots [] h (new_free class slots [] f) }

  pub bytes_made : (class : ℕ) (bytes : List ℕ) → is_free class ≡ true → Sounds (makes_bytes class bytes s)
  unfolding makes_bytes
  bytes_made class bytes f = record { sound = sound_new s class [] bytes h (new_free class [] bytes f) }

  pub string_made : (bytes : List ℕ) → Sounds (makes_string bytes s)
  unfolding makes_string
  string_made bytes = bytes_made string_class bytes refl

  pub blank_made : (class slots bytes : ℕ) → is_free class ≡ true → Sounds (makes_blank class slots bytes s)
  unfolding makes_blank
  blank_made class slots bytes f = record { sound = sound_new s class (replicate slots Nil) (replicate bytes 0) h (new_free class (replicate slots Nil) (replicate bytes 0) f) }

  pub sequence_made : (class : ℕ) (items : List Value) → is_free class ≡ true → Sounds (makes_sequence class items s)
  unfolding makes_sequence
  sequence_made class items f = if_sound (nat_eq class string_class) _ _ (bytes_made string_class _ refl) (if_sound (nat_eq class byte_array_class) _ _ (bytes_made byte_array_class _ refl) (slots_made class items f))

  byte_given : (n i : ℕ) (v : Value) (o : Option ℕ) → Sounds (elim o [ Some byte ↦ Changes (with_byte n i byte s) v | None ↦ Fails trouble.ByteExpected ])
  byte_given n i v None = record { sound = tt }
  byte_given n i v (Some byte) = record { sound = sound_byte s n i byte h }

  byte_set : (n i : ℕ) (v : Value) → Sounds (byte_put s n i v)
  byte_set n i v = byte_given n i v (byte_value v)

  pub slot_set : (n i : ℕ) (v w : Value) → is_free (object_at n s).class ≡ true → Sounds (Changes (with_slot n i v s) w)
  slot_set n i v w f = record { sound = sound_slot s n i v h (free_interval (object_at n s).class f) }

  character_sound : (v : Value) (act : ℕ → Action) → ((b : ℕ) → Sounds (act b)) → Sounds (with_character v act)
  character_sound (Character c) act g = g c
  character_sound v act g = record { sound = tt }

  text_sound : (v : Value) (act : Text → Action) → ((t : Text) → Sounds (act t)) → Sounds (with_text p s v act)
  text_sound v act g = go (bytes_of p s v)
    where
      go : (o : Option Text) → Sounds (elim o [ Some t ↦ act t | None ↦ Fails trouble.StringExpected ])
      go None = record { sound = tt }
      go (Some t) = g t

  -- ---- every object

  copied_sound : (o : HeapObject) (c : Option Closure) → SoundStore (object_added (record { class = o.class; slots = o.slots; bytes = o.bytes; capacity = length o.slots; read_only = false; closure = None }) s) → Sounds (copied s o c)
  copied_sound o None g = record { sound = g }
  copied_sound o (Some closure) g = let added = sound_added s _ h (new_block o.class (Some (length s.closures))) in record { sound = record { each = added.each } }

  display_by : (o : Option Text) (selector : ℕ) (r : Value) → Sounds (elim o [ Some bytes ↦ makes_string bytes s | None ↦ Sends selector r [] ])
  display_by None selector r = record { sound = tt }
  display_by (Some bytes) selector r = string_made bytes

  size_by : (i : Indexed) (v w : Value) → Sounds (elim i [ NoIndexes ↦ Fails trouble.NotIndexed | ByObject ↦ Gives v | ByByte ↦ Gives w ])
  size_by NoIndexes v w = record { sound = tt }
  size_by ByObject v w = record { sound = tt }
  size_by ByByte v w = record { sound = tt }

  read_by : (i : Indexed) (at : Value) (n m : ℕ) (f g : ℕ → Value) → Sounds (elim i [ NoIndexes ↦ Fails trouble.NotIndexed | ByObject ↦ indexed at n (λ j. Gives (f j)) | ByByte ↦ indexed at m (λ j. Gives (g j)) ])
  read_by NoIndexes at n m f g = record { sound = tt }
  read_by ByObject at n m f g = indexed_sound at n _ (λ j. gives (f j))
  read_by ByByte at n m f g = indexed_sound at m _ (λ j. gives (g j))

  -- an indexed variable of an object whose class is of the file
  written_by : (in_file : Bool) (i : Indexed) (number named m : ℕ) (at v : Value) → (in_file ≡ true → is_free (object_at number s).class ≡ true) → Sounds (elim (if in_file then i else NoIndexes) [
    | NoIndexes ↦ Fails trouble.NotIndexed
    | ByObject ↦ indexed at (length (object_at number s).slots - named) (λ j. Changes (with_slot number (named + j) v s) v)
    | ByByte ↦ indexed at m (λ j. byte_put s number j v)
  ])
  written_by false i number named m at v f = record { sound = tt }
  written_by true NoIndexes number named m at v f = record { sound = tt }
  written_by true ByObject number named m at v f = indexed_sound at (length (object_at number s).slots - named) (λ j. Changes (with_slot number (named + j) v s) v) (λ j. slot_set number (named + j) v v (f refl))
  written_by true ByByte number named m at v f = indexed_sound at m (λ j. byte_put s number j v) (λ j. byte_set number j v)

  abbrev perform : Value → ℕ → List Value → Action
  perform r name values = if nat_eq (arity (name_at p name)) (length values) then Sends name r values else Fails trouble.WrongNumberOfArguments

  performs : (r : Value) (name : ℕ) (values : List Value) → Sounds (perform r name values)
  performs r name values = if_sound (nat_eq (arity (name_at p name)) (length values)) (Sends name r values) (Fails trouble.WrongNumberOfArguments) record { sound = tt } record { sound = tt }

  abbrev performed : Value → Value → List Value → Action
  performed r (Symbol name) values = perform r name values
  performed r v values = Fails trouble.SymbolExpected

  performed_sound : (r v : Value) (values : List Value) → Sounds (performed r v values)
  performed_sound r (Symbol name) values = performs r name values
  performed_sound r v values = record { sound = tt }

  abbrev performed_with : Value → Value → Value → Action
  performed_with r (Symbol name) array = if is_a s array_class array then perform r name (slots_of s array) else Fails trouble.CollectionExpected
  performed_with r v array = Fails trouble.SymbolExpected

  performed_with_sound : (r v array : Value) → Sounds (performed_with r v array)
  performed_with_sound r (Symbol name) array = if_sound (is_a s array_class array) (perform r name (slots_of s array)) (Fails trouble.CollectionExpected) (performs r name (slots_of s array)) (fails trouble.CollectionExpected)
  performed_with_sound r v array = record { sound = tt }

  abbrev behind_first : List Value → List Value
  behind_first [] = []
  behind_first (v ∷ vs) = vs

  abbrev responded : Value → Value → Action
  responded r (Symbol name) = Gives (boolean (is_some (lookup p (level_of s r) name)))
  responded r v = Fails trouble.SymbolExpected

  responds : (r v : Value) → Sounds (responded r v)
  responds r (Symbol name) = record { sound = tt }
  responds r v = record { sound = tt }

  abbrev kind_of : Bool → Indexed → Indexed
  kind_of in_file kind = if in_file then kind else NoIndexes

  -- what is asked of the classes of the file
  abbrev pub Declared : Type 0
  Declared = (class : ℕ) → (class_at p class).in_file ≡ true → is_free class ≡ true

  pub objects_sound : Declared → (m : ObjectMessage) (r : Value) (args : List Value) → Sounds (object_action p s m r args)
  unfolding object_action
  objects_sound d ObjectMessage.IsSymbol (Symbol name) args = record { sound = tt }
  objects_sound d ObjectMessage.IsSymbol r args = record { sound = tt }
  objects_sound d ObjectMessage.RespondsTo r args = responds r (first args)
  objects_sound d ObjectMessage.Copy (Object n) args = let o = object_at n s in copied_sound o (closure_at n s) (sound_added s _ h (new_like o (h.each n)))
  objects_sound d ObjectMessage.Copy r args = record { sound = tt }
  objects_sound d ObjectMessage.PrintString r args = string_made _
  objects_sound d ObjectMessage.DisplayString (Character byte) args = string_made (byte ∷ [])
  objects_sound d ObjectMessage.DisplayString r args = display_by (bytes_of p s r) _ r
  objects_sound d ObjectMessage.Size (Object n) args = let o = object_at n s in size_by (kind_of (class_at p o.class).in_file (class_at p o.class).indexed) _ _
  objects_sound d ObjectMessage.Size r args = record { sound = tt }
  objects_sound d ObjectMessage.At (Object n) args =
      let o = object_at n s in read_by (kind_of (class_at p o.class).in_file (class_at p o.class).indexed) (first args) (length o.slots - (class_at p o.class).slots) (length o.bytes) (λ i. get_or o.slots ((class_at p o.class).slots + i) Nil) (λ i. Integer (pos (get_or o.bytes i 0)))
  objects_sound d ObjectMessage.At r args = record { sound = tt }
  objects_sound d ObjectMessage.AtPut (Object n) args =
      let o = object_at n s in written_by (class_at p o.class).in_file (class_at p o.class).indexed n (class_at p o.class).slots (length o.bytes) (first args) (second args) (d o.class)
  objects_sound d ObjectMessage.AtPut r args = record { sound = tt }
  objects_sound d ObjectMessage.ErrorText r args = record { sound = refl }
  objects_sound d ObjectMessage.NotUnderstood r args = record { sound = refl }
  objects_sound d ObjectMessage.Perform r args = performed_sound r (first args) (behind_first args)
  objects_sound d ObjectMessage.PerformWithArguments r args = performed_with_sound r (first args) (second args)
  objects_sound d ObjectMessage.Arrow r args = slots_made association_class (r ∷ first args ∷ []) refl
  objects_sound d m r args = record { sound = tt }

  -- ---- classes and Booleans

  abbrev sized : Value → (ℕ → Action) → Action
  sized (Integer (pos n)) act = act n
  sized (Integer (negsuc n)) act = Fails trouble.IndexOutOfRange
  sized v act = Fails trouble.NumberExpected

  pub sized_by : (v : Value) (act : ℕ → Action) → ((n : ℕ) → Sounds (act n)) → Sounds (sized v act)
  sized_by (Integer (pos n)) act g = g n
  sized_by (Integer (negsuc n)) act g = record { sound = tt }
  sized_by v act g = record { sound = tt }

  new_by : (i : Indexed) (class : ℕ) (v : Value) (f g : ℕ → ℕ) (k : ℕ) → is_free class ≡ true → Sounds (elim i [
    | NoIndexes ↦ Fails trouble.NotIndexed
    | ByObject ↦ sized v (λ n. makes_blank class (f n) 0 s)
    | ByByte ↦ sized v (λ n. makes_blank class k n s)
  ])
  new_by NoIndexes class v f g k e = record { sound = tt }
  new_by ByObject class v f g k e = sized_by v (λ n. makes_blank class (f n) 0 s) (λ n. blank_made class (f n) 0 e)
  new_by ByByte class v f g k e = sized_by v (λ n. makes_blank class k n s) (λ n. blank_made class k n e)

  new_if : (b : Bool) (class : ℕ) → (b ≡ true → is_free class ≡ true) → Sounds (if b then makes_blank class (class_at p class).slots 0 s else Fails trouble.CannotBeInstantiated)
  new_if true class d = blank_made class (class_at p class).slots 0 (d refl)
  new_if false class d = record { sound = tt }

  new_sized_if : (b : Bool) (class : ℕ) (v : Value) → (b ≡ true → is_free class ≡ true) → Sounds (if b then elim (class_at p class).indexed [
    | NoIndexes ↦ Fails trouble.NotIndexed
    | ByObject ↦ sized v (λ n. makes_blank class ((class_at p class).slots + n) 0 s)
    | ByByte ↦ sized v (λ n. makes_blank class (class_at p class).slots n s)
  ] else Fails trouble.CannotBeInstantiated)
  new_sized_if true class v d = new_by (class_at p class).indexed class v (λ n. (class_at p class).slots + n) (λ n. n) (class_at p class).slots (d refl)
  new_sized_if false class v d = record { sound = tt }

  class_messages : Declared → (m : ClassMessage) (c : ℕ) (args : List Value) → Sounds (class_action p s m (Class c) args)
  unfolding class_action
  class_messages d ClassMessage.Name c args = string_made (class_at p c).name
  class_messages d ClassMessage.Superclass c args = record { sound = tt }
  class_messages d ClassMessage.New c args = new_if (class_at p c).in_file c (d c)
  class_messages d ClassMessage.NewSize c args = new_sized_if (class_at p c).in_file c (first args) (d c)

  pub classes_sound : Declared → (m : ClassMessage) (r : Value) (args : List Value) → Sounds (class_action p s m r args)
  unfolding class_action
  classes_sound d m (Class c) args = class_messages d m c args
  classes_sound d m r args = record { sound = tt }

  abbrev with_boolean : Value → (Bool → Action) → Action
  with_boolean True act = act true
  with_boolean False act = act false
  with_boolean v act = Fails trouble.BooleanExpected

  boolean_by : (v : Value) (answer : Bool → Value) → Sounds (with_boolean v (λ b. Gives (answer b)))
  boolean_by True answer = record { sound = tt }
  boolean_by False answer = record { sound = tt }
  boolean_by v answer = record { sound = tt }

  xor_by : (r v : Value) → Sounds (boolean_action BooleanMessage.Xor r (v ∷ []))
  unfolding boolean_action
  xor_by r True = record { sound = tt }
  xor_by r False = record { sound = tt }
  xor_by r v = record { sound = tt }

  begins : (b : Bool) (x y : Action) → Sounds x → Sounds y → Sounds (if b then x else y)
  begins b x y g i = if_sound b x y g i

  pub booleans_sound : (m : BooleanMessage) (r : Value) (args : List Value) → Sounds (boolean_action m r args)
  unfolding boolean_action
  booleans_sound BooleanMessage.And r args = boolean_by (first args) (λ b. boolean (is_true r && b))
  booleans_sound BooleanMessage.Or r args = boolean_by (first args) (λ b. boolean (is_true r || b))
  booleans_sound BooleanMessage.Xor r args = xor_by r (first args)
  booleans_sound BooleanMessage.Not r args = record { sound = tt }
  booleans_sound BooleanMessage.AndThen r args = if_sound (is_true r) (Begins (first args) []) (Gives r) record { sound = tt } record { sound = tt }
  booleans_sound BooleanMessage.OrElse r args = if_sound (is_true r) (Gives r) (Begins (first args) []) record { sound = tt } record { sound = tt }
  booleans_sound BooleanMessage.IfTrue r args = if_sound (is_true r) (Begins (first args) []) (Gives Nil) record { sound = tt } record { sound = tt }
  booleans_sound BooleanMessage.IfFalse r args = if_sound (is_true r) (Gives Nil) (Begins (first args) []) record { sound = tt } record { sound = tt }
  booleans_sound BooleanMessage.IfTrueIfFalse r args = record { sound = tt }
  booleans_sound BooleanMessage.IfFalseIfTrue r args = record { sound = tt }

  -- ---- Characters, the Transcript, Strings and Symbols

  code_point : (v : Value) → Sounds (from_code_point v)
  code_point (Integer (pos n)) = if_sound (nat_le n 255) (Gives (Character n)) (Fails trouble.IndexOutOfRange) record { sound = tt } record { sound = tt }
  code_point (Integer (negsuc n)) = record { sound = tt }
  code_point v = record { sound = tt }

  character_test : (v : Value) (test : ℕ → Bool) → Sounds (with_character v (λ b. Gives (boolean (test b))))
  character_test v test = character_sound v (λ b. Gives (boolean (test b))) (λ b. record { sound = tt })

  pub characters_sound : (m : CharacterMessage) (r : Value) (args : List Value) → Sounds (character_action s m r args)
  unfolding character_action
  characters_sound CharacterMessage.FromCodePoint r args = code_point (first args)
  characters_sound CharacterMessage.AsString r args = string_made _
  characters_sound CharacterMessage.Less r args = character_test (first args) (λ b. nat_lt (byte_of r) b)
  characters_sound CharacterMessage.Greater r args = character_test (first args) (λ b. nat_lt b (byte_of r))
  characters_sound CharacterMessage.LessOrEqual r args = character_test (first args) (λ b. nat_le (byte_of r) b)
  characters_sound CharacterMessage.GreaterOrEqual r args = character_test (first args) (λ b. nat_le b (byte_of r))
  characters_sound m r args = record { sound = tt }

  pub transcripts_sound : (m : TranscriptMessage) (r : Value) (args : List Value) → Sounds (transcript_action p s m r args)
  unfolding transcript_action
  transcripts_sound TranscriptMessage.Show r args = text_sound (first args) (λ t. Writes t r) (λ t. record { sound = tt })
  transcripts_sound TranscriptMessage.NextPut r args = character_sound (first args) (λ b. Writes (b ∷ []) r) (λ b. record { sound = tt })
  transcripts_sound m r args = record { sound = tt }

  text_test : (v : Value) (test : Text → Bool) → Sounds (with_text p s v (λ u. Gives (boolean (test u))))
  text_test v test = text_sound v (λ u. Gives (boolean (test u))) (λ u. record { sound = tt })

  new_string_sound : (r v : Value) → Sounds (new_string s r v)
  new_string_sound (Class c) (Integer (pos n)) = if_sound (nat_eq c symbol_class) (Fails trouble.CannotBeInstantiated) (makes_string (replicate n 32) s) (fails trouble.CannotBeInstantiated) (string_made (replicate n 32))
  new_string_sound (Class c) (Integer (negsuc n)) = if_sound (nat_eq c symbol_class) (Fails trouble.CannotBeInstantiated) (Fails trouble.IndexOutOfRange) (fails trouble.CannotBeInstantiated) (fails trouble.IndexOutOfRange)
  new_string_sound (Class c) v = if_sound (nat_eq c symbol_class) (Fails trouble.CannotBeInstantiated) (Fails trouble.NumberExpected) (fails trouble.CannotBeInstantiated) (fails trouble.NumberExpected)
  new_string_sound r v = record { sound = tt }

  strings_at : (m : StringMessage) (r : Value) (t : Text) (args : List Value) → Sounds (string_at p s m r t args)
  strings_at StringMessage.Equal r t args = record { sound = tt }
  strings_at StringMessage.Less r t args = text_test (first args) (λ u. text_less t u)
  strings_at StringMessage.Greater r t args = text_test (first args) (λ u. text_less u t)
  strings_at StringMessage.LessOrEqual r t args = text_test (first args) (λ u. not (text_less u t))
  strings_at StringMessage.GreaterOrEqual r t args = text_test (first args) (λ u. not (text_less t u))
  strings_at StringMessage.AsUppercase r t args = string_made _
  strings_at StringMessage.AsLowercase r t args = string_made _
  strings_at StringMessage.AsString r t args = string_made t
  strings_at StringMessage.SameAs r t args = text_test (first args) (λ u. same_text (map to_lower t) (map to_lower u))
  strings_at StringMessage.NewSize r t args = new_string_sound r (first args)

  pub strings_sound : (m : StringMessage) (r : Value) (args : List Value) → Sounds (string_action p s m r args)
  unfolding string_action
  strings_sound m r args = strings_at m r (or_empty (bytes_of p s r)) args

  -- ---- sequences

  written_sound : (n class i : ℕ) (v : Value) → is_free (object_at n s).class ≡ true → Sounds (written s n class i v)
  written_sound n class i v f =
      if_sound (nat_eq class string_class) (with_character v (λ b. Changes (with_byte n i b s) v)) (if nat_eq class byte_array_class then byte_put s n i v else Changes (with_slot n i v s) v)
      (character_sound v (λ b. Changes (with_byte n i b s) v) (λ b. record { sound = sound_byte s n i b h }))
      (if_sound (nat_eq class byte_array_class) (byte_put s n i v) (Changes (with_slot n i v s) v) (byte_set n i v) (slot_set n i v v f))

  put_sound : (r at v : Value) → is_free (level_of s r).class ≡ true → Sounds (at_put p s r at v)
  unfolding level_of
  put_sound (Object n) at v f =
      if_sound (object_at n s).read_only (Fails trouble.LiteralIsReadOnly) (indexed at (size_of p s (Object n)) (λ i. written s n (object_at n s).class i v)) (fails trouble.LiteralIsReadOnly)
      (indexed_sound at (size_of p s (Object n)) (λ i. written s n (object_at n s).class i v) (λ i. written_sound n (object_at n s).class i v f))
  put_sound r at v f = record { sound = tt }

  pub unless_empty_sound : (r : Value) (act : Action) → Sounds act → Sounds (if nat_eq (size_of p s r) 0 then Fails trouble.CollectionIsEmpty else act)
  unless_empty_sound r act g = if_sound (nat_eq (size_of p s r) 0) (Fails trouble.CollectionIsEmpty) act record { sound = tt } g

  -- the class of a sequence like its receiver, which is no Dictionary
  free_species : (i d : Bool) (c : ℕ) → nat_eq c interval_class ≡ i → nat_eq c dictionary_class ≡ d → not d ≡ true → is_free (if i then array_class else c) ≡ true
  free_species true d c e f g = refl
  free_species false false c e f g = rw (e, f) refl
  free_species false true c e f g = absurd (true≢false (sym g))

  species_free : (r : Value) → not (nat_eq (level_of s r).class dictionary_class) ≡ true → is_free (species s r) ≡ true
  unfolding level_of species
  species_free (Object n) f = let c = (object_at n s).class in free_species (nat_eq c interval_class) (nat_eq c dictionary_class) c refl refl f
  species_free r f = refl

  joined_sound : (o : Option Trouble) (class : ℕ) (items : List Value) → is_free class ≡ true → Sounds (elim o [ Some t ↦ Fails t | None ↦ makes_sequence class items s ])
  joined_sound None class items f = sequence_made class items f
  joined_sound (Some t) class items f = record { sound = tt }

  join_sound : (r v : Value) → is_free (species s r) ≡ true → Sounds (join p s r v)
  join_sound r v f =
      if_sound (is_sequence s v) (elim (element_trouble (species s r) (elements p s v)) [ Some t ↦ Fails t | None ↦ makes_sequence (species s r) (elements p s r ++ elements p s v) s ]) (Fails trouble.CollectionExpected)
      (joined_sound (element_trouble (species s r) (elements p s v)) (species s r) (elements p s r ++ elements p s v) f) (fails trouble.CollectionExpected)

  between_sound : (r : Value) (i j : ℤ) → is_free (species s r) ≡ true → Sounds (copy_between p s r i j)
  between_sound r i j f =
      let items = some_elements p s r (natural_of i) (natural_of j + 1 - natural_of i) in
      if_sound (int_lt j i) (makes_sequence (species s r) [] s) (if is_index (size_of p s r) i && is_index (size_of p s r) j then makes_sequence (species s r) items s else Fails trouble.IndexOutOfRange) (sequence_made (species s r) [] f)
      (if_sound (is_index (size_of p s r) i && is_index (size_of p s r) j) (makes_sequence (species s r) items s) (Fails trouble.IndexOutOfRange) (sequence_made (species s r) items f) (fails trouble.IndexOutOfRange))

  part_sound : (r v w : Value) → is_free (species s r) ≡ true → Sounds (copy_from_to p s r v w)
  part_sound r (Integer i) (Integer j) f = between_sound r i j f
  part_sound r v w f = record { sound = tt }

  pub sequences_sound : (m : SequenceMessage) (r : Value) (args : List Value) → takes_sequence m (level_of s r).class ≡ true → Sounds (sequence_action p s m r args)
  unfolding sequence_action
  sequences_sound SequenceMessage.At r args f = indexed_sound (first args) (size_of p s r) (λ j. Gives (element p s r (j + 1))) (λ j. gives (element p s r (j + 1)))
  sequences_sound SequenceMessage.First r args f = unless_empty_sound r (Gives (element p s r 1)) record { sound = tt }
  sequences_sound SequenceMessage.Last r args f = unless_empty_sound r (Gives (element p s r (size_of p s r))) record { sound = tt }
  sequences_sound SequenceMessage.Join r args f = join_sound r (first args) (species_free r f)
  sequences_sound SequenceMessage.CopyFromTo r args f = part_sound r (first args) (second args) (species_free r f)
  sequences_sound SequenceMessage.Reverse r args f = sequence_made (species s r) (reverse (elements p s r)) (species_free r f)
  sequences_sound SequenceMessage.AsArray r args f = slots_made array_class (elements p s r) refl
  sequences_sound SequenceMessage.AsOrderedCollection r args f = slots_made ordered_collection_class (elements p s r) refl
  sequences_sound SequenceMessage.AtPut r args f = put_sound r (first args) (second args) f
  sequences_sound m r args f = record { sound = tt }

  -- ---- collections that grow

  module _ (n : ℕ) (e : (object_at n s).class ≡ ordered_collection_class) where
    free_ordered : is_free (object_at n s).class ≡ true
    free_ordered = class_free (object_at n s).class ordered_collection_class e refl

    grown_sound : (slots : List Value) (v : Value) → Sounds (Makes (with_elements s n slots).cells (with_elements s n slots).store v)
    grown_sound slots v = record { sound = sound_grown s n slots h (free_interval (object_at n s).class free_ordered) (λ d. absurd (free_dictionary (object_at n s).class free_ordered d)) }

    less_sound : (i : ℕ) → Sounds (Changes (without_element s n i) (get_or (object_at n s).slots i Nil))
    less_sound i = record { sound = sound_removed s n i h free_ordered }

  ordered_sound : (m : CollectionMessage) (n : ℕ) (args : List Value) → takes_collection m (object_at n s).class ≡ true → Sounds (ordered_at p s m n args)
  ordered_sound CollectionMessage.Add n args f = grown_sound n (eqb-true (object_at n s).class ordered_collection_class f) ((object_at n s).slots ++ first args ∷ []) (first args)
  ordered_sound CollectionMessage.AddFirst n args f = grown_sound n (eqb-true (object_at n s).class ordered_collection_class f) (first args ∷ (object_at n s).slots) (first args)
  ordered_sound CollectionMessage.AddAll n args f =
      let slots = (object_at n s).slots ++ elements p s (first args) in
      if_sound (is_collection s (first args)) (Makes (with_elements s n slots).cells (with_elements s n slots).store (first args)) (Fails trouble.CollectionExpected) (grown_sound n (eqb-true (object_at n s).class ordered_collection_class f) slots (first args)) (fails trouble.CollectionExpected)
  ordered_sound CollectionMessage.RemoveFirst n args f = unless_empty_sound (Object n) (Changes (without_element s n 0) (get_or (object_at n s).slots 0 Nil)) (less_sound n (eqb-true (object_at n s).class ordered_collection_class f) 0)
  ordered_sound CollectionMessage.RemoveLast n args f =
      let last = length (object_at n s).slots - 1 in unless_empty_sound (Object n) (Changes (without_element s n last) (get_or (object_at n s).slots last Nil)) (less_sound n (eqb-true (object_at n s).class ordered_collection_class f) last)
  ordered_sound CollectionMessage.AddBeforeIndex n args f =
      indexed_sound (second args) (length (object_at n s).slots + 1) (λ j. Makes (with_elements s n (insert (object_at n s).slots j (first args))).cells (with_elements s n (insert (object_at n s).slots j (first args))).store (first args))
      (λ j. grown_sound n (eqb-true (object_at n s).class ordered_collection_class f) (insert (object_at n s).slots j (first args)) (first args))
  ordered_sound CollectionMessage.RemoveAtIndex n args f = indexed_sound (first args) (length (object_at n s).slots) (λ j. Changes (without_element s n j) (get_or (object_at n s).slots j Nil)) (λ j. less_sound n (eqb-true (object_at n s).class ordered_collection_class f) j)
  ordered_sound CollectionMessage.Keys n args f = slots_made array_class (firsts (object_at n s).slots) refl
  ordered_sound CollectionMessage.Values n args f = slots_made array_class (seconds (object_at n s).slots) refl
  ordered_sound m n args f = record { sound = tt }

  changed_sound : (m : CollectionMessage) (r : Value) (args : List Value) → takes_collection m (level_of s r).class ≡ true → Sounds (changed p s m r args)
  unfolding level_of
  changed_sound m (Object n) args f = ordered_sound m n args f
  changed_sound m r args f = record { sound = tt }

  empty_made : (class : ℕ) → Sounds (makes_slots class [] s)
  unfolding makes_slots
  empty_made class = record { sound = sound_new s class [] [] h (new_empty class) }

  pub collections_sound : (m : CollectionMessage) (r : Value) (args : List Value) → takes_collection m (level_of s r).class ≡ true → Sounds (collection_action p s m r args)
  unfolding collection_action
  collections_sound CollectionMessage.NewArray r args f = sized_by (first args) (λ n. makes_slots array_class (replicate n Nil) s) (λ n. slots_made array_class (replicate n Nil) refl)
  collections_sound CollectionMessage.NewByteArray r args f = sized_by (first args) (λ n. makes_bytes byte_array_class (replicate n 0) s) (λ n. bytes_made byte_array_class (replicate n 0) refl)
  collections_sound CollectionMessage.With r args f = slots_made array_class args refl
  collections_sound CollectionMessage.WithAll r args f = if_sound (is_collection s (first args)) (makes_slots array_class (elements p s (first args)) s) (Fails trouble.CollectionExpected) (slots_made array_class (elements p s (first args)) refl) (fails trouble.CollectionExpected)
  collections_sound CollectionMessage.NewEmpty r args f = empty_made _
  collections_sound CollectionMessage.KeyValue r args f = slots_made association_class (first args ∷ second args ∷ []) refl
  collections_sound m r args f = changed_sound m r args f
