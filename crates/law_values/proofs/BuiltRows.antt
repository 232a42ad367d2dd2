-- What messages to objects, classes, characters, strings and collections do at once leaves objects built.
use Rattle.std.proofs.Common.{◌≡◌, ℕ, zero, suc, ◌+◌, ◌-◌, ◌<◌, inl, inr, ℤ, pos, negsuc, int_lt, is_some, nat_eq, nat_le, nat_lt, not, ◌&&◌, ◌||◌, length, get_or, map, reverse, replicate, insert, List, [], ◌∷◌, ◌++◌, Option, Some, None, Bool, true, false, eqb-true, true≢false, refl, sym, ap, ◌∙◌, subst, slice_get, arith, if◌then◌else◌}
use Rattle.std.specs.Option.{option_and_then}
use Rattle.std.proofs.lemmas.Bool.{ltb-true}
use Rattle.object_heap.specs.declared.value.Value.{Value}
use Rattle.object_heap.specs.declared.value.Value.TheVariants.{Nil, True, False, Integer, Character, Symbol, Class, Object}
use Rattle.object_heap.specs.declared.trouble.Trouble.{Trouble}
use Rattle.object_heap.specs.declared.trouble.Trouble.TheVariants as trouble
use Rattle.object_heap.specs.declared.value.Closure.{Closure}
use Rattle.object_heap.specs.Store.{Store, Object as HeapObject, closure_at, object_at, block_added, with_slot, with_byte}
use Rattle.st_code.specs.Texts.{Text, arity, same_text, text_less, to_lower}
use Rattle.st_code.specs.Program.{Program, Indexed, NoIndexes, ByObject, ByByte, class_at, name_at}
use Rattle.st_code.specs.BuiltIns.{string_class, symbol_class, fraction_class, block_class, array_class, ordered_collection_class, association_class, byte_array_class, interval_class}
use Rattle.st_code.specs.Lookup.{level_of, lookup}
use Rattle.st_code.specs.Messages.{ObjectMessage, ClassMessage, CharacterMessage, StringMessage, SequenceMessage, BooleanMessage, CollectionMessage, TranscriptMessage}
use Rattle.st_collections.specs.Actions.{Action, Gives, Changes, Makes, Writes, Fails, Begins, Sends, first, second, boolean, makes_slots, makes_bytes, makes_string, makes_blank}
use Rattle.st_collections.specs.Kinds.{is_true, is_a, bytes_of, slots_of, size_of, element, some_elements, elements, is_sequence, is_collection, species, natural_of}
use Rattle.st_collections.specs.ObjectRows.{copied, indexed, index_in, byte_value, byte_put, object_action, class_action, boolean_action}
use Rattle.st_collections.specs.TextRows.{with_character, from_code_point, with_text, new_string, string_at, or_empty, byte_of, character_action, string_action, transcript_action}
use Rattle.st_collections.specs.SequenceRows.{makes_sequence, element_trouble, at_put, join, copy_between, copy_from_to, with_elements, without_element, firsts, seconds, written, is_index, ordered_at, changed, class_number, sequence_action, collection_action}
use Rattle.st_sound.specs.Receivers.{takes_collection}
use Rattle.law_values.specs.BuiltObjects.{BuiltObject, BuiltStore, HasClosure}
use Rattle.law_values.specs.KnownBuilt.{KnowsBuilt}
use Rattle.law_values.proofs.BuiltActions.{ActionBuilt}
use Rattle.law_values.proofs.BuiltObjects.{is_bound, is_fixed, unbound, unbound_object, free_object, like_object, built_added, built_block, built_new, built_slot, built_byte, built_grown, built_removed}
use Rattle.law_values.proofs.BuiltTable.{is_open, is_loose, is_wide, sequence_fits, CollectionFits}

-- ---- classes

pub not_false : (b : Bool) → not b ≡ true → b ≡ false
not_false true e = absurd (true≢false (sym e))
not_false false e = refl

pub loose_open : (class : ℕ) → is_loose class ≡ true → is_open class ≡ true
loose_open class f = ap not (unbound class (not_false (is_fixed class) f))

pub fixed_not : (class : ℕ) → is_loose class ≡ true → is_fixed class ≡ false
fixed_not class f = not_false (is_fixed class) f

module _ (p : Program) (known : KnowsBuilt p) (s : Store) (h : BuiltStore p s) where
  pub record Builds (a : Action) : Type 0 where
    pub built : ActionBuilt p a

  -- ---- what rows are made of

  -- a class whose slots are free, that is there
  abbrev pub Loose : ℕ → Type 0
  Loose class = (is_loose class ≡ true) × (class < length p.classes)

  pub literal : (class : ℕ) → is_loose class ≡ true → nat_lt class 30 ≡ true → Loose class
  literal class f e = let l = ltb-true class 30 e in (f, omega (arith, l, known.classes))

  pub fails : (t : Trouble) → Builds (Fails t)
  fails t = record { built = tt }

  pub gives : (v : Value) → Builds (Gives v)
  gives v = record { built = tt }

  pub if_built : (b : Bool) (x y : Action) → Builds x → Builds y → Builds (if b then x else y)
  if_built true x y g i = g
  if_built false x y g i = i

  index_built : (o : Option ℕ) (act : ℕ → Action) → ((i : ℕ) → Builds (act i)) → Builds (elim o [ Some i ↦ act i | None ↦ Fails trouble.IndexOutOfRange ])
  index_built None act g = record { built = tt }
  index_built (Some i) act g = g i

  pub indexed_built : (v : Value) (size : ℕ) (act : ℕ → Action) → ((i : ℕ) → Builds (act i)) → Builds (indexed v size act)
  indexed_built (Integer n) size act g = index_built (index_in size n) act g
  indexed_built v size act g = record { built = tt }

  pub slots_made : (class : ℕ) (slots : List Value) → Loose class → Builds (makes_slots class slots s)
  unfolding makes_slots
  slots_made class slots f = record { built = built_new p s class slots [] h (free_object p s _ (fixed_not class f.0) refl f.1) }

  association_made : (k v : Value) → Builds (makes_slots association_class (k ∷ v ∷ []) s)
  unfolding makes_slots
  association_made k v = record { built = built_new p s association_class (k ∷ v ∷ []) [] h (unbound_object p s _ refl refl (λ e. sym known.associations) (omega (arith, known.classes))) }

  pub bytes_made : (class : ℕ) (bytes : List ℕ) → Loose class → Builds (makes_bytes class bytes s)
  unfolding makes_bytes
  bytes_made class bytes f = record { built = built_new p s class [] bytes h (free_object p s _ (fixed_not class f.0) refl f.1) }

  pub string_made : (bytes : List ℕ) → Builds (makes_string bytes s)
  unfolding makes_string
  string_made bytes = bytes_made string_class bytes (literal string_class refl refl)

  pub blank_made : (class slots bytes : ℕ) → Loose class → Builds (makes_blank class slots bytes s)
  unfolding makes_blank
  blank_made class slots bytes f = record { built = built_new p s class (replicate slots Nil) (replicate bytes 0) h (free_object p s _ (fixed_not class f.0) refl f.1) }

  pub sequence_made : (class : ℕ) (items : List Value) → Loose class → Builds (makes_sequence class items s)
  unfolding makes_sequence
  sequence_made class items f = if_built (nat_eq class string_class) _ _ (bytes_made string_class _ (literal string_class refl refl)) (if_built (nat_eq class byte_array_class) _ _ (bytes_made byte_array_class _ (literal byte_array_class refl refl)) (slots_made class items f))

  byte_given : (n i : ℕ) (v : Value) (o : Option ℕ) → Builds (elim o [ Some byte ↦ Changes (with_byte n i byte s) v | None ↦ Fails trouble.ByteExpected ])
  byte_given n i v None = record { built = tt }
  byte_given n i v (Some byte) = record { built = built_byte p s n i byte h }

  byte_set : (n i : ℕ) (v : Value) → Builds (byte_put s n i v)
  byte_set n i v = byte_given n i v (byte_value v)

  pub slot_set : (n i : ℕ) (v w : Value) → is_open (object_at n s).class ≡ true → Builds (Changes (with_slot n i v s) w)
  slot_set n i v w f = record { built = built_slot p s n i v h (not_false (is_bound (object_at n s).class) f) }

  character_built : (v : Value) (act : ℕ → Action) → ((b : ℕ) → Builds (act b)) → Builds (with_character v act)
  character_built (Character c) act g = g c
  character_built v act g = record { built = tt }

  text_built : (v : Value) (act : Text → Action) → ((t : Text) → Builds (act t)) → Builds (with_text p s v act)
  text_built v act g = go (bytes_of p s v)
    where
      go : (o : Option Text) → Builds (elim o [ Some t ↦ act t | None ↦ Fails trouble.StringExpected ])
      go None = record { built = tt }
      go (Some t) = g t

  -- ---- every object

  closure_there : (cs : List Closure) (k : ℕ) → k < length cs → slice_get cs k ≡ None → ⊥
  closure_there [] k l e = let none : ⊥ = omega (arith, l) in none
  closure_there (c ∷ cs) zero l e = cc
  closure_there (c ∷ cs) (suc k) l e = closure_there cs k (omega (arith, l)) e

  -- an object without a closure in the store has none, and one with a closure is a Block
  no_closure : (o : HeapObject) (x : Option ℕ) → o.closure ≡ x → option_and_then (λ k. slice_get s.closures k) x ≡ None → BuiltObject p s o → x ≡ None
  no_closure o None c e g = refl
  no_closure o (Some k) c e g = elim g.only_blocks [
    | inl n ↦ sym c ∙ n
    | inr b ↦ absurd (closure_there s.closures k (subst (λ y. HasClosure s y) c (g.block b)) e)
  ]

  has_closure : (o : HeapObject) (x : Option ℕ) (closure : Closure) → o.closure ≡ x → option_and_then (λ k. slice_get s.closures k) x ≡ Some closure → BuiltObject p s o → o.class ≡ block_class
  has_closure o None closure c e g = cc
  has_closure o (Some k) closure c e g = elim g.only_blocks [
    | inl n ↦ let none : ⊥ = cc in absurd none
    | inr b ↦ b
  ]

  copied_built : (n : ℕ) (c : Option Closure) → closure_at n s ≡ c → Builds (copied s (object_at n s) c)
  copied_built n None e =
      let o = object_at n s in
      record { built = built_added p s _ h (like_object p s o _ refl refl (sym (no_closure o o.closure refl e (h.each n))) (h.each n)) }
  copied_built n (Some closure) e =
      let o = object_at n s in
      record { built = subst (λ k. BuiltStore p (block_added k closure s)) (sym (has_closure o o.closure closure refl e (h.each n))) (built_block p known.blocks (omega (arith, known.classes)) s closure h) }

  display_by : (o : Option Text) (selector : ℕ) (r : Value) → Builds (elim o [ Some bytes ↦ makes_string bytes s | None ↦ Sends selector r [] ])
  display_by None selector r = record { built = tt }
  display_by (Some bytes) selector r = string_made bytes

  size_by : (i : Indexed) (v w : Value) → Builds (elim i [ NoIndexes ↦ Fails trouble.NotIndexed | ByObject ↦ Gives v | ByByte ↦ Gives w ])
  size_by NoIndexes v w = record { built = tt }
  size_by ByObject v w = record { built = tt }
  size_by ByByte v w = record { built = tt }

  read_by : (i : Indexed) (at : Value) (n m : ℕ) (f g : ℕ → Value) → Builds (elim i [ NoIndexes ↦ Fails trouble.NotIndexed | ByObject ↦ indexed at n (λ j. Gives (f j)) | ByByte ↦ indexed at m (λ j. Gives (g j)) ])
  read_by NoIndexes at n m f g = record { built = tt }
  read_by ByObject at n m f g = indexed_built at n _ (λ j. gives (f j))
  read_by ByByte at n m f g = indexed_built at m _ (λ j. gives (g j))

  -- an indexed variable of an object whose class is of the file
  written_by : (in_file : Bool) (i : Indexed) (number named m : ℕ) (at v : Value) → (in_file ≡ true → Loose (object_at number s).class) → Builds (elim (if in_file then i else NoIndexes) [
    | NoIndexes ↦ Fails trouble.NotIndexed
    | ByObject ↦ indexed at (length (object_at number s).slots - named) (λ j. Changes (with_slot number (named + j) v s) v)
    | ByByte ↦ indexed at m (λ j. byte_put s number j v)
  ])
  written_by false i number named m at v f = record { built = tt }
  written_by true NoIndexes number named m at v f = record { built = tt }
  written_by true ByObject number named m at v f = indexed_built at (length (object_at number s).slots - named) (λ j. Changes (with_slot number (named + j) v s) v) (λ j. slot_set number (named + j) v v (loose_open (object_at number s).class (f refl).0))
  written_by true ByByte number named m at v f = indexed_built at m (λ j. byte_put s number j v) (λ j. byte_set number j v)

  abbrev perform : Value → ℕ → List Value → Action
  perform r name values = if nat_eq (arity (name_at p name)) (length values) then Sends name r values else Fails trouble.WrongNumberOfArguments

  performs : (r : Value) (name : ℕ) (values : List Value) → Builds (perform r name values)
  performs r name values = if_built (nat_eq (arity (name_at p name)) (length values)) (Sends name r values) (Fails trouble.WrongNumberOfArguments) record { built = tt } record { built = tt }

  abbrev performed : Value → Value → List Value → Action
  performed r (Symbol name) values = perform r name values
  performed r v values = Fails trouble.SymbolExpected

  performed_built : (r v : Value) (values : List Value) → Builds (performed r v values)
  performed_built r (Symbol name) values = performs r name values
  performed_built r v values = record { built = tt }

  abbrev performed_with : Value → Value → Value → Action
  performed_with r (Symbol name) array = if is_a s array_class array then perform r name (slots_of s array) else Fails trouble.CollectionExpected
  performed_with r v array = Fails trouble.SymbolExpected

  performed_with_built : (r v array : Value) → Builds (performed_with r v array)
  performed_with_built r (Symbol name) array = if_built (is_a s array_class array) (perform r name (slots_of s array)) (Fails trouble.CollectionExpected) (performs r name (slots_of s array)) (fails trouble.CollectionExpected)
  performed_with_built r v array = record { built = tt }

  abbrev behind_first : List Value → List Value
  behind_first [] = []
  behind_first (v ∷ vs) = vs

  abbrev responded : Value → Value → Action
  responded r (Symbol name) = Gives (boolean (is_some (lookup p (level_of s r) name)))
  responded r v = Fails trouble.SymbolExpected

  responds : (r v : Value) → Builds (responded r v)
  responds r (Symbol name) = record { built = tt }
  responds r v = record { built = tt }

  abbrev kind_of : Bool → Indexed → Indexed
  kind_of in_file kind = if in_file then kind else NoIndexes

  -- what is asked of the classes of the file
  abbrev pub Declared : Type 0
  Declared = (class : ℕ) → (class_at p class).in_file ≡ true → Loose class

  pub objects_built : Declared → (m : ObjectMessage) (r : Value) (args : List Value) → Builds (object_action p s m r args)
  unfolding object_action
  objects_built d ObjectMessage.IsSymbol (Symbol name) args = record { built = tt }
  objects_built d ObjectMessage.IsSymbol r args = record { built = tt }
  objects_built d ObjectMessage.RespondsTo r args = responds r (first args)
  objects_built d ObjectMessage.Copy (Object n) args = copied_built n (closure_at n s) refl
  objects_built d ObjectMessage.Copy r args = record { built = tt }
  objects_built d ObjectMessage.PrintString r args = string_made _
  objects_built d ObjectMessage.DisplayString (Character byte) args = string_made (byte ∷ [])
  objects_built d ObjectMessage.DisplayString r args = display_by (bytes_of p s r) _ r
  objects_built d ObjectMessage.Size (Object n) args = let o = object_at n s in size_by (kind_of (class_at p o.class).in_file (class_at p o.class).indexed) _ _
  objects_built d ObjectMessage.Size r args = record { built = tt }
  objects_built d ObjectMessage.At (Object n) args =
      let o = object_at n s in read_by (kind_of (class_at p o.class).in_file (class_at p o.class).indexed) (first args) (length o.slots - (class_at p o.class).slots) (length o.bytes) (λ i. get_or o.slots ((class_at p o.class).slots + i) Nil) (λ i. Integer (pos (get_or o.bytes i 0)))
  objects_built d ObjectMessage.At r args = record { built = tt }
  objects_built d ObjectMessage.AtPut (Object n) args =
      let o = object_at n s in written_by (class_at p o.class).in_file (class_at p o.class).indexed n (class_at p o.class).slots (length o.bytes) (first args) (second args) (d o.class)
  objects_built d ObjectMessage.AtPut r args = record { built = tt }
  objects_built d ObjectMessage.ErrorText r args = record { built = (refl, omega (arith, known.classes)) }
  objects_built d ObjectMessage.NotUnderstood r args = record { built = (refl, omega (arith, known.classes)) }
  objects_built d ObjectMessage.Perform r args = performed_built r (first args) (behind_first args)
  objects_built d ObjectMessage.PerformWithArguments r args = performed_with_built r (first args) (second args)
  objects_built d ObjectMessage.Arrow r args = association_made r (first args)
  objects_built d m r args = record { built = tt }

  -- ---- classes and Booleans

  abbrev sized : Value → (ℕ → Action) → Action
  sized (Integer (pos n)) act = act n
  sized (Integer (negsuc n)) act = Fails trouble.IndexOutOfRange
  sized v act = Fails trouble.NumberExpected

  pub sized_by : (v : Value) (act : ℕ → Action) → ((n : ℕ) → Builds (act n)) → Builds (sized v act)
  sized_by (Integer (pos n)) act g = g n
  sized_by (Integer (negsuc n)) act g = record { built = tt }
  sized_by v act g = record { built = tt }

  new_by : (i : Indexed) (class : ℕ) (v : Value) (f g : ℕ → ℕ) (k : ℕ) → Loose class → Builds (elim i [
    | NoIndexes ↦ Fails trouble.NotIndexed
    | ByObject ↦ sized v (λ n. makes_blank class (f n) 0 s)
    | ByByte ↦ sized v (λ n. makes_blank class k n s)
  ])
  new_by NoIndexes class v f g k e = record { built = tt }
  new_by ByObject class v f g k e = sized_by v (λ n. makes_blank class (f n) 0 s) (λ n. blank_made class (f n) 0 e)
  new_by ByByte class v f g k e = sized_by v (λ n. makes_blank class k n s) (λ n. blank_made class k n e)

  new_if : (b : Bool) (class : ℕ) → (b ≡ true → Loose class) → Builds (if b then makes_blank class (class_at p class).slots 0 s else Fails trouble.CannotBeInstantiated)
  new_if true class d = blank_made class (class_at p class).slots 0 (d refl)
  new_if false class d = record { built = tt }

  new_sized_if : (b : Bool) (class : ℕ) (v : Value) → (b ≡ true → Loose class) → Builds (if b then elim (class_at p class).indexed [
    | NoIndexes ↦ Fails trouble.NotIndexed
    | ByObject ↦ sized v (λ n. makes_blank class ((class_at p class).slots + n) 0 s)
    | ByByte ↦ sized v (λ n. makes_blank class (class_at p class).slots n s)
  ] else Fails trouble.CannotBeInstantiated)
  new_sized_if true class v d = new_by (class_at p class).indexed class v (λ n. (class_at p class).slots + n) (λ n. n) (class_at p class).slots (d refl)
  new_sized_if false class v d = record { built = tt }

  class_messages : Declared → (m : ClassMessage) (c : ℕ) (args : List Value) → Builds (class_action p s m (Class c) args)
  unfolding class_action
  class_messages d ClassMessage.Name c args = string_made (class_at p c).name
  class_messages d ClassMessage.Superclass c args = record { built = tt }
  class_messages d ClassMessage.New c args = new_if (class_at p c).in_file c (d c)
  class_messages d ClassMessage.NewSize c args = new_sized_if (class_at p c).in_file c (first args) (d c)

  pub classes_built : Declared → (m : ClassMessage) (r : Value) (args : List Value) → Builds (class_action p s m r args)
  unfolding class_action
  classes_built d m (Class c) args = class_messages d m c args
  classes_built d m r args = record { built = tt }

  abbrev with_boolean : Value → (Bool → Action) → Action
  with_boolean True act = act true
  with_boolean False act = act false
  with_boolean v act = Fails trouble.BooleanExpected

  boolean_by : (v : Value) (answer : Bool → Value) → Builds (with_boolean v (λ b. Gives (answer b)))
  boolean_by True answer = record { built = tt }
  boolean_by False answer = record { built = tt }
  boolean_by v answer = record { built = tt }

  xor_by : (r v : Value) → Builds (boolean_action BooleanMessage.Xor r (v ∷ []))
  unfolding boolean_action
  xor_by r True = record { built = tt }
  xor_by r False = record { built = tt }
  xor_by r v = record { built = tt }

  begins : (b : Bool) (x y : Action) → Builds x → Builds y → Builds (if b then x else y)
  begins b x y g i = if_built b x y g i

  pub booleans_built : (m : BooleanMessage) (r : Value) (args : List Value) → Builds (boolean_action m r args)
  unfolding boolean_action
  booleans_built BooleanMessage.And r args = boolean_by (first args) (λ b. boolean (is_true r && b))
  booleans_built BooleanMessage.Or r args = boolean_by (first args) (λ b. boolean (is_true r || b))
  booleans_built BooleanMessage.Xor r args = xor_by r (first args)
  booleans_built BooleanMessage.Not r args = record { built = tt }
  booleans_built BooleanMessage.AndThen r args = if_built (is_true r) (Begins (first args) []) (Gives r) record { built = tt } record { built = tt }
  booleans_built BooleanMessage.OrElse r args = if_built (is_true r) (Gives r) (Begins (first args) []) record { built = tt } record { built = tt }
  booleans_built BooleanMessage.IfTrue r args = if_built (is_true r) (Begins (first args) []) (Gives Nil) record { built = tt } record { built = tt }
  booleans_built BooleanMessage.IfFalse r args = if_built (is_true r) (Gives Nil) (Begins (first args) []) record { built = tt } record { built = tt }
  booleans_built BooleanMessage.IfTrueIfFalse r args = record { built = tt }
  booleans_built BooleanMessage.IfFalseIfTrue r args = record { built = tt }

  -- ---- Characters, the Transcript, Strings and Symbols

  code_point : (v : Value) → Builds (from_code_point v)
  code_point (Integer (pos n)) = if_built (nat_le n 255) (Gives (Character n)) (Fails trouble.IndexOutOfRange) record { built = tt } record { built = tt }
  code_point (Integer (negsuc n)) = record { built = tt }
  code_point v = record { built = tt }

  character_test : (v : Value) (test : ℕ → Bool) → Builds (with_character v (λ b. Gives (boolean (test b))))
  character_test v test = character_built v (λ b. Gives (boolean (test b))) (λ b. record { built = tt })

  pub characters_built : (m : CharacterMessage) (r : Value) (args : List Value) → Builds (character_action s m r args)
  unfolding character_action
  characters_built CharacterMessage.FromCodePoint r args = code_point (first args)
  characters_built CharacterMessage.AsString r args = string_made _
  characters_built CharacterMessage.Less r args = character_test (first args) (λ b. nat_lt (byte_of r) b)
  characters_built CharacterMessage.Greater r args = character_test (first args) (λ b. nat_lt b (byte_of r))
  characters_built CharacterMessage.LessOrEqual r args = character_test (first args) (λ b. nat_le (byte_of r) b)
  characters_built CharacterMessage.GreaterOrEqual r args = character_test (first args) (λ b. nat_le b (byte_of r))
  characters_built m r args = record { built = tt }

  pub transcripts_built : (m : TranscriptMessage) (r : Value) (args : List Value) → Builds (transcript_action p s m r args)
  unfolding transcript_action
  transcripts_built TranscriptMessage.Show r args = text_built (first args) (λ t. Writes t r) (λ t. record { built = tt })
  transcripts_built TranscriptMessage.NextPut r args = character_built (first args) (λ b. Writes (b ∷ []) r) (λ b. record { built = tt })
  transcripts_built m r args = record { built = tt }

  text_test : (v : Value) (test : Text → Bool) → Builds (with_text p s v (λ u. Gives (boolean (test u))))
  text_test v test = text_built v (λ u. Gives (boolean (test u))) (λ u. record { built = tt })

  new_string_built : (r v : Value) → Builds (new_string s r v)
  new_string_built (Class c) (Integer (pos n)) = if_built (nat_eq c symbol_class) (Fails trouble.CannotBeInstantiated) (makes_string (replicate n 32) s) (fails trouble.CannotBeInstantiated) (string_made (replicate n 32))
  new_string_built (Class c) (Integer (negsuc n)) = if_built (nat_eq c symbol_class) (Fails trouble.CannotBeInstantiated) (Fails trouble.IndexOutOfRange) (fails trouble.CannotBeInstantiated) (fails trouble.IndexOutOfRange)
  new_string_built (Class c) v = if_built (nat_eq c symbol_class) (Fails trouble.CannotBeInstantiated) (Fails trouble.NumberExpected) (fails trouble.CannotBeInstantiated) (fails trouble.NumberExpected)
  new_string_built r v = record { built = tt }

  strings_at : (m : StringMessage) (r : Value) (t : Text) (args : List Value) → Builds (string_at p s m r t args)
  strings_at StringMessage.Equal r t args = record { built = tt }
  strings_at StringMessage.Less r t args = text_test (first args) (λ u. text_less t u)
  strings_at StringMessage.Greater r t args = text_test (first args) (λ u. text_less u t)
  strings_at StringMessage.LessOrEqual r t args = text_test (first args) (λ u. not (text_less u t))
  strings_at StringMessage.GreaterOrEqual r t args = text_test (first args) (λ u. not (text_less t u))
  strings_at StringMessage.AsUppercase r t args = string_made _
  strings_at StringMessage.AsLowercase r t args = string_made _
  strings_at StringMessage.AsString r t args = string_made t
  strings_at StringMessage.SameAs r t args = text_test (first args) (λ u. same_text (map to_lower t) (map to_lower u))
  strings_at StringMessage.NewSize r t args = new_string_built r (first args)

  pub strings_built : (m : StringMessage) (r : Value) (args : List Value) → Builds (string_action p s m r args)
  unfolding string_action
  strings_built m r args = strings_at m r (or_empty (bytes_of p s r)) args

  -- ---- sequences

  written_built : (n class i : ℕ) (v : Value) → is_open (object_at n s).class ≡ true → Builds (written s n class i v)
  written_built n class i v f =
      if_built (nat_eq class string_class) (with_character v (λ b. Changes (with_byte n i b s) v)) (if nat_eq class byte_array_class then byte_put s n i v else Changes (with_slot n i v s) v)
      (character_built v (λ b. Changes (with_byte n i b s) v) (λ b. record { built = built_byte p s n i b h }))
      (if_built (nat_eq class byte_array_class) (byte_put s n i v) (Changes (with_slot n i v s) v) (byte_set n i v) (slot_set n i v v f))

  put_built : (r at v : Value) → is_open (level_of s r).class ≡ true → Builds (at_put p s r at v)
  unfolding level_of
  put_built (Object n) at v f =
      if_built (object_at n s).read_only (Fails trouble.LiteralIsReadOnly) (indexed at (size_of p s (Object n)) (λ i. written s n (object_at n s).class i v)) (fails trouble.LiteralIsReadOnly)
      (indexed_built at (size_of p s (Object n)) (λ i. written s n (object_at n s).class i v) (λ i. written_built n (object_at n s).class i v f))
  put_built r at v f = record { built = tt }

  pub unless_empty_built : (r : Value) (act : Action) → Builds act → Builds (if nat_eq (size_of p s r) 0 then Fails trouble.CollectionIsEmpty else act)
  unless_empty_built r act g = if_built (nat_eq (size_of p s r) 0) (Fails trouble.CollectionIsEmpty) act record { built = tt } g

  -- the class of a sequence like its receiver, if that has one
  loose_species : (b : Bool) (c : ℕ) → nat_eq c interval_class ≡ b → is_wide c ≡ true → is_loose (if b then array_class else c) ≡ true
  loose_species true c e f = refl
  loose_species false c e f = go (nat_eq c fraction_class) (nat_eq c interval_class) _ e f
    where
      go : (a i b : Bool) → i ≡ false → not (a || b) ≡ true → not (a || (i || b)) ≡ true
      go true i b e f = f
      go false true b e f = absurd (true≢false e)
      go false false b e f = f

  species_there : (b : Bool) (n : ℕ) → (if b then array_class else (object_at n s).class) < length p.classes
  species_there true n = omega (arith, known.classes)
  species_there false n = (h.each n).classed

  species_loose : (r : Value) → is_wide (level_of s r).class ≡ true → Loose (species s r)
  unfolding level_of species
  species_loose (Object n) f = (loose_species (nat_eq (object_at n s).class interval_class) (object_at n s).class refl f, species_there (nat_eq (object_at n s).class interval_class) n)
  species_loose r f = (refl, omega (arith, known.classes))

  joined_built : (o : Option Trouble) (class : ℕ) (items : List Value) → Loose class → Builds (elim o [ Some t ↦ Fails t | None ↦ makes_sequence class items s ])
  joined_built None class items f = sequence_made class items f
  joined_built (Some t) class items f = record { built = tt }

  join_built : (r v : Value) → Loose (species s r) → Builds (join p s r v)
  join_built r v f =
      if_built (is_sequence s v) (elim (element_trouble (species s r) (elements p s v)) [ Some t ↦ Fails t | None ↦ makes_sequence (species s r) (elements p s r ++ elements p s v) s ]) (Fails trouble.CollectionExpected)
      (joined_built (element_trouble (species s r) (elements p s v)) (species s r) (elements p s r ++ elements p s v) f) (fails trouble.CollectionExpected)

  between_built : (r : Value) (i j : ℤ) → Loose (species s r) → Builds (copy_between p s r i j)
  between_built r i j f =
      let items = some_elements p s r (natural_of i) (natural_of j + 1 - natural_of i) in
      if_built (int_lt j i) (makes_sequence (species s r) [] s) (if is_index (size_of p s r) i && is_index (size_of p s r) j then makes_sequence (species s r) items s else Fails trouble.IndexOutOfRange) (sequence_made (species s r) [] f)
      (if_built (is_index (size_of p s r) i && is_index (size_of p s r) j) (makes_sequence (species s r) items s) (Fails trouble.IndexOutOfRange) (sequence_made (species s r) items f) (fails trouble.IndexOutOfRange))

  part_built : (r v w : Value) → Loose (species s r) → Builds (copy_from_to p s r v w)
  part_built r (Integer i) (Integer j) f = between_built r i j f
  part_built r v w f = record { built = tt }

  pub sequences_built : (m : SequenceMessage) (r : Value) (args : List Value) → sequence_fits m (level_of s r).class ≡ true → Builds (sequence_action p s m r args)
  unfolding sequence_action
  sequences_built SequenceMessage.At r args f = indexed_built (first args) (size_of p s r) (λ j. Gives (element p s r (j + 1))) (λ j. gives (element p s r (j + 1)))
  sequences_built SequenceMessage.First r args f = unless_empty_built r (Gives (element p s r 1)) record { built = tt }
  sequences_built SequenceMessage.Last r args f = unless_empty_built r (Gives (element p s r (size_of p s r))) record { built = tt }
  sequences_built SequenceMessage.Join r args f = join_built r (first args) (species_loose r f)
  sequences_built SequenceMessage.CopyFromTo r args f = part_built r (first args) (second args) (species_loose r f)
  sequences_built SequenceMessage.Reverse r args f = sequence_made (species s r) (reverse (elements p s r)) (species_loose r f)
  sequences_built SequenceMessage.AsArray r args f = slots_made array_class (elements p s r) (literal array_class refl refl)
  sequences_built SequenceMessage.AsOrderedCollection r args f = slots_made ordered_collection_class (elements p s r) (literal ordered_collection_class refl refl)
  sequences_built SequenceMessage.AtPut r args f = put_built r (first args) (second args) f
  sequences_built m r args f = record { built = tt }

  -- ---- collections that grow

  module _ (n : ℕ) (e : (object_at n s).class ≡ ordered_collection_class) where
    loose_ordered : is_fixed (object_at n s).class ≡ false
    loose_ordered = ap (λ c. is_fixed c) e

    grown_built : (slots : List Value) (v : Value) → Builds (Makes (with_elements s n slots).cells (with_elements s n slots).store v)
    grown_built slots v = record { built = built_grown p s n slots h loose_ordered }

    less_built : (i : ℕ) → Builds (Changes (without_element s n i) (get_or (object_at n s).slots i Nil))
    less_built i = record { built = built_removed p s n i h loose_ordered }

  ordered_built : (m : CollectionMessage) (n : ℕ) (args : List Value) → takes_collection m (object_at n s).class ≡ true → Builds (ordered_at p s m n args)
  ordered_built CollectionMessage.Add n args f = grown_built n (eqb-true (object_at n s).class ordered_collection_class f) ((object_at n s).slots ++ first args ∷ []) (first args)
  ordered_built CollectionMessage.AddFirst n args f = grown_built n (eqb-true (object_at n s).class ordered_collection_class f) (first args ∷ (object_at n s).slots) (first args)
  ordered_built CollectionMessage.AddAll n args f =
      let slots = (object_at n s).slots ++ elements p s (first args) in
      if_built (is_collection s (first args)) (Makes (with_elements s n slots).cells (with_elements s n slots).store (first args)) (Fails trouble.CollectionExpected) (grown_built n (eqb-true (object_at n s).class ordered_collection_class f) slots (first args)) (fails trouble.CollectionExpected)
  ordered_built CollectionMessage.RemoveFirst n args f = unless_empty_built (Object n) (Changes (without_element s n 0) (get_or (object_at n s).slots 0 Nil)) (less_built n (eqb-true (object_at n s).class ordered_collection_class f) 0)
  ordered_built CollectionMessage.RemoveLast n args f =
      let last = length (object_at n s).slots - 1 in unless_empty_built (Object n) (Changes (without_element s n last) (get_or (object_at n s).slots last Nil)) (less_built n (eqb-true (object_at n s).class ordered_collection_class f) last)
  ordered_built CollectionMessage.AddBeforeIndex n args f =
      indexed_built (second args) (length (object_at n s).slots + 1) (λ j. Makes (with_elements s n (insert (object_at n s).slots j (first args))).cells (with_elements s n (insert (object_at n s).slots j (first args))).store (first args))
      (λ j. grown_built n (eqb-true (object_at n s).class ordered_collection_class f) (insert (object_at n s).slots j (first args)) (first args))
  ordered_built CollectionMessage.RemoveAtIndex n args f = indexed_built (first args) (length (object_at n s).slots) (λ j. Changes (without_element s n j) (get_or (object_at n s).slots j Nil)) (λ j. less_built n (eqb-true (object_at n s).class ordered_collection_class f) j)
  ordered_built CollectionMessage.Keys n args f = slots_made array_class (firsts (object_at n s).slots) (literal array_class refl refl)
  ordered_built CollectionMessage.Values n args f = slots_made array_class (seconds (object_at n s).slots) (literal array_class refl refl)
  ordered_built m n args f = record { built = tt }

  changed_built : (m : CollectionMessage) (r : Value) (args : List Value) → takes_collection m (level_of s r).class ≡ true → Builds (changed p s m r args)
  unfolding level_of
  changed_built m (Object n) args f = ordered_built m n args f
  changed_built m r args f = record { built = tt }

  empty_made : (r : Value) → Loose (level_of s r).class → Builds (makes_slots (class_number r) [] s)
  unfolding level_of
  empty_made (Class c) f = slots_made c [] f
  empty_made r f = slots_made 0 [] (literal 0 refl refl)

  pub collections_built : (m : CollectionMessage) (r : Value) (args : List Value) → takes_collection m (level_of s r).class ≡ true → CollectionFits p m (level_of s r).class → Builds (collection_action p s m r args)
  unfolding collection_action
  collections_built CollectionMessage.NewArray r args f g = sized_by (first args) (λ n. makes_slots array_class (replicate n Nil) s) (λ n. slots_made array_class (replicate n Nil) (literal array_class refl refl))
  collections_built CollectionMessage.NewByteArray r args f g = sized_by (first args) (λ n. makes_bytes byte_array_class (replicate n 0) s) (λ n. bytes_made byte_array_class (replicate n 0) (literal byte_array_class refl refl))
  collections_built CollectionMessage.With r args f g = slots_made array_class args (literal array_class refl refl)
  collections_built CollectionMessage.WithAll r args f g = if_built (is_collection s (first args)) (makes_slots array_class (elements p s (first args)) s) (Fails trouble.CollectionExpected) (slots_made array_class (elements p s (first args)) (literal array_class refl refl)) (fails trouble.CollectionExpected)
  collections_built CollectionMessage.NewEmpty r args f g = empty_made r g
  collections_built CollectionMessage.KeyValue r args f g = association_made (first args) (second args)
  collections_built m r args f g = changed_built m r args f
