-- What messages to objects, collections, blocks and exceptions do at once gives values that are there.
use Rattle.std.proofs.Common.{◌≡◌, refl, inr, ℕ, suc, ◌+◌, ◌-◌, ◌<◌, ℤ, pos, negsuc, nat_eq, nat_le, nat_lt, int_lt, int_le, is_some, codes, length, get_or, take, drop, reverse, replicate, map, insert, List, [], ◌∷◌, ◌++◌, Option, Some, None, Bool, true, false, not, ◌&&◌, ◌||◌, if◌then◌else◌, arith}
use Rattle.object_heap.specs.declared.value.Value.{Value}
use Rattle.object_heap.specs.declared.value.Value.TheVariants.{Nil, True, False, Integer, Character, Symbol, Class, Meta, Transcript, Object}
use Rattle.object_heap.specs.declared.trouble.Trouble.{Trouble}
use Rattle.object_heap.specs.declared.trouble.Trouble.TheVariants as trouble
use Rattle.object_heap.specs.declared.value.Closure.{Closure}
use Rattle.object_heap.specs.Store.{Store, Object as HeapObject, block_object, closure_at, object_at, with_slot, with_byte}
use Rattle.st_code.specs.Texts.{Text, arity, same_text, text_less, to_lower}
use Rattle.st_code.specs.Program.{Program, Indexed, NoIndexes, ByObject, ByByte, Side, OfInstance, OfClass, OfMeta, class_at, name_at, number_of}
use Rattle.st_code.specs.BuiltIns.{string_class, symbol_class, array_class, ordered_collection_class, association_class, byte_array_class, exception_set_class, metaclass_class}
use Rattle.st_code.specs.Lookup.{level_of, lookup, class_of, is_plain, is_exception, fits}
use Rattle.st_code.specs.Messages.{ObjectMessage, ClassMessage, CharacterMessage, StringMessage, SequenceMessage, ExceptionMessage, LoopMessage, BooleanMessage, CollectionMessage, TranscriptMessage}
use Rattle.st_collections.specs.Actions.{Action, Gives, Changes, Makes, Writes, Fails, Begins, Sends, Iterates, first, second, boolean, makes_slots, makes_bytes, makes_string, makes_blank}
use Rattle.st_collections.specs.Kinds.{is_true, is_a, bytes_of, slots_of, slot_of, size_of, element, some_elements, elements, is_sequence, is_collection, species, print_text, exception_text, integer_of, natural_of}
use Rattle.st_collections.specs.ObjectRows.{copied, copy, indexed, byte_put, object_action, class_action, boolean_action}
use Rattle.st_collections.specs.TextRows.{with_character, from_code_point, with_text, new_string, string_at, or_empty, byte_of, character_action, string_action, transcript_action}
use Rattle.st_collections.specs.SequenceRows.{makes_sequence, element_trouble, at_put, join, copy_between, copy_from_to, with_elements, without_element, firsts, seconds, written, is_index, ordered_at, changed, sequence_action, collection_action}
use Rattle.st_collections.specs.Loops.{loop_action}
use Rattle.st_rules.specs.ExceptionRows.{exception_at, to_exception, kept_or_text, handles, new_exception, signal_new, selectors_of, exception_action}
use Rattle.law_values.specs.KnownNumbers.{Has, AllHave, ObjectsHave, Grown, OneAgain}
use Rattle.law_values.proofs.ValuesThere.{first_has, second_has, get_has, append_has, take_has, drop_has, nils_have, reverse_has, grown_itself, grown_byte, grown_added, made_plain, next_has, one_again, grown_set, set_keeps, object_slots, grown_slot}
use Rattle.law_values.proofs.RowsThere.{Gets, got, slots_have, slot_has, element_has, some_have, elements_have, if_has, indexed_has, slots_made, bytes_made, string_made, blank_made, sequence_made, byte_written, slot_written, character_has, answers, no_trouble}

module _ (C : ℕ) (low : 29 < C) where
  module _ (p : Program) (s : Store) (h : ObjectsHave C (length s.objects) s.objects) where
    abbrev k : ℕ
    k = length s.objects

    abbrev G : Action → Type 0
    G a = Gets C low p s h a

    fails : (t : Trouble) → G (Fails t)
    fails t = no_trouble C low p s h t

    sends : (selector : ℕ) (r : Value) (args : List Value) → Has C k r → AllHave C k args → G (Sends selector r args)
    sends selector r args g i = record { gets = (g, i) }

    begins : (v : Value) → Has C k v → G (Begins v [])
    begins v g = record { gets = (g, tt) }

    -- ---- every object

    abbrev pub Classed : Type 0
    Classed = (n : ℕ) → (object_at n s).class < C

    abbrev pub Above : Type 0
    Above = (class above : ℕ) → (class_at p class).superclass ≡ Some above → above < C

    class_has : (side : Side) (c : ℕ) → c < C → Has C k (elim side [ OfInstance ↦ Class c | OfClass ↦ Meta c | OfMeta ↦ Class metaclass_class ])
    class_has OfInstance c l = l
    class_has OfClass c l = l
    class_has OfMeta c l = omega (arith, low)

    level_there : Classed → (v : Value) → Has C k v → (level_of s v).class < C
    unfolding level_of
    level_there cl (Object n) g = cl n
    level_there cl (Class c) g = g
    level_there cl (Meta c) g = g
    level_there cl v g = omega (arith, low)

    class_of_has : Classed → (v : Value) → Has C k v → Has C k (class_of s v)
    unfolding class_of
    class_of_has cl v g = class_has (level_of s v).side (level_of s v).class (level_there cl v g)

    abbrev responded : Value → Value → Action
    responded r (Symbol name) = Gives (boolean (is_some (lookup p (level_of s r) name)))
    responded r v = Fails trouble.SymbolExpected

    responds : (r v : Value) → G (responded r v)
    responds r (Symbol name) = answers C low p s h _
    responds r v = record { gets = tt }

    copied_has : (o : HeapObject) (c : Option Closure) → AllHave C k o.slots → ((d : Closure) → c ≡ Some d → OneAgain C s.closures (s.closures ++ d ∷ [])) → G (copied s o c)
    copied_has o None g again =
        let like : HeapObject = record { class = o.class; slots = o.slots; bytes = o.bytes; capacity = length o.slots; read_only = false; closure = None } in
        record { gets = (made_plain C low s _ (grown_added C low s h like g), next_has C low s h like) }
    copied_has o (Some c) g again =
        let block : HeapObject = block_object o.class (length s.closures) in
        record { gets = (record { grown = grown_added C low s h block tt; closures = inr (again c refl) }, next_has C low s h block) }

    copies : (v : Value) → Has C k v → G (copy s v)
    copies (Object number) g = copied_has (object_at number s) (closure_at number s) (object_slots C low s h number) (λ d e. one_again C low s number d e)
    copies v g = record { gets = g }

    text_or_sent : (o : Option Text) (selector : ℕ) (r : Value) → Has C k r → G (elim o [ Some bytes ↦ makes_string bytes s | None ↦ Sends selector r [] ])
    text_or_sent None selector r g = sends selector r [] g tt
    text_or_sent (Some bytes) selector r g = string_made C low p s h bytes

    abbrev display : Value → Action
    display (Character byte) = makes_string (byte ∷ []) s
    display r = elim (bytes_of p s r) [ Some bytes ↦ makes_string bytes s | None ↦ Sends (number_of p (codes "printString")) r [] ]

    displays : (r : Value) → Has C k r → G (display r)
    displays (Character byte) g = string_made C low p s h (byte ∷ [])
    displays r g = text_or_sent (bytes_of p s r) (number_of p (codes "printString")) r g

    abbrev of_object : Value → (ℕ → Action) → Action
    of_object (Object number) act = act number
    of_object v act = Fails trouble.NotIndexed

    of_object_has : (v : Value) (act : ℕ → Action) → ((n : ℕ) → G (act n)) → G (of_object v act)
    of_object_has (Object n) act g = g n
    of_object_has v act g = record { gets = tt }

    abbrev index_kind : ℕ → Indexed
    index_kind class = if (class_at p class).in_file then (class_at p class).indexed else NoIndexes

    kind_has : (kind : Indexed) (a b c : Action) → G a → G b → G c → G (elim kind [ NoIndexes ↦ a | ByObject ↦ b | ByByte ↦ c ])
    kind_has NoIndexes a b c x y z = x
    kind_has ByObject a b c x y z = y
    kind_has ByByte a b c x y z = z

    abbrev sized_at : HeapObject → Action
    sized_at o = elim (index_kind o.class) [
      | NoIndexes ↦ Fails trouble.NotIndexed
      | ByObject ↦ Gives (Integer (pos (length o.slots - (class_at p o.class).slots)))
      | ByByte ↦ Gives (Integer (pos (length o.bytes)))
    ]

    sized_has : (o : HeapObject) → G (sized_at o)
    sized_has o = kind_has (index_kind o.class) (Fails trouble.NotIndexed) (Gives (Integer (pos (length o.slots - (class_at p o.class).slots)))) (Gives (Integer (pos (length o.bytes)))) (fails trouble.NotIndexed) record { gets = tt } record { gets = tt }

    abbrev read_at : HeapObject → Value → Action
    read_at o at = elim (index_kind o.class) [
      | NoIndexes ↦ Fails trouble.NotIndexed
      | ByObject ↦ indexed at (length o.slots - (class_at p o.class).slots) (λ i. Gives (get_or o.slots ((class_at p o.class).slots + i) Nil))
      | ByByte ↦ indexed at (length o.bytes) (λ i. Gives (Integer (pos (get_or o.bytes i 0))))
    ]

    read_has : (o : HeapObject) (at : Value) → AllHave C k o.slots → G (read_at o at)
    read_has o at g =
        kind_has (index_kind o.class) (Fails trouble.NotIndexed) (indexed at (length o.slots - (class_at p o.class).slots) (λ i. Gives (get_or o.slots ((class_at p o.class).slots + i) Nil))) (indexed at (length o.bytes) (λ i. Gives (Integer (pos (get_or o.bytes i 0))))) (fails trouble.NotIndexed)
        (indexed_has C low p s h at (length o.slots - (class_at p o.class).slots) (λ i. Gives (get_or o.slots ((class_at p o.class).slots + i) Nil)) (λ i. got C low p s h (get_or o.slots ((class_at p o.class).slots + i) Nil) (get_has C low k o.slots ((class_at p o.class).slots + i) g)))
        (indexed_has C low p s h at (length o.bytes) (λ i. Gives (Integer (pos (get_or o.bytes i 0)))) (λ i. record { gets = tt }))

    abbrev put_at : ℕ → HeapObject → Value → Value → Action
    put_at number o at v = elim (index_kind o.class) [
      | NoIndexes ↦ Fails trouble.NotIndexed
      | ByObject ↦ indexed at (length o.slots - (class_at p o.class).slots) (λ i. Changes (with_slot number ((class_at p o.class).slots + i) v s) v)
      | ByByte ↦ indexed at (length o.bytes) (λ i. byte_put s number i v)
    ]

    put_has : (number : ℕ) (o : HeapObject) (at v : Value) → Has C k v → G (put_at number o at v)
    put_has number o at v g =
        kind_has (index_kind o.class) (Fails trouble.NotIndexed) (indexed at (length o.slots - (class_at p o.class).slots) (λ i. Changes (with_slot number ((class_at p o.class).slots + i) v s) v)) (indexed at (length o.bytes) (λ i. byte_put s number i v)) (fails trouble.NotIndexed)
        (indexed_has C low p s h at (length o.slots - (class_at p o.class).slots) (λ i. Changes (with_slot number ((class_at p o.class).slots + i) v s) v) (λ i. slot_written C low p s h number ((class_at p o.class).slots + i) v g))
        (indexed_has C low p s h at (length o.bytes) (λ i. byte_put s number i v) (λ i. byte_written C low p s h number i v g))

    abbrev perform : Value → ℕ → List Value → Action
    perform r name values = if nat_eq (arity (name_at p name)) (length values) then Sends name r values else Fails trouble.WrongNumberOfArguments

    performs : (r : Value) (name : ℕ) (values : List Value) → Has C k r → AllHave C k values → G (perform r name values)
    performs r name values g i = if_has C low p s h (nat_eq (arity (name_at p name)) (length values)) (Sends name r values) (Fails trouble.WrongNumberOfArguments) (sends name r values g i) (fails trouble.WrongNumberOfArguments)

    abbrev performed : Value → Value → List Value → Action
    performed r (Symbol name) values = perform r name values
    performed r v values = Fails trouble.SymbolExpected

    performed_has : (r v : Value) (values : List Value) → Has C k r → AllHave C k values → G (performed r v values)
    performed_has r (Symbol name) values g i = performs r name values g i
    performed_has r v values g i = record { gets = tt }

    abbrev performed_with : Value → Value → Value → Action
    performed_with r (Symbol name) array = if is_a s array_class array then perform r name (slots_of s array) else Fails trouble.CollectionExpected
    performed_with r v array = Fails trouble.SymbolExpected

    performed_with_has : (r v array : Value) → Has C k r → G (performed_with r v array)
    performed_with_has r (Symbol name) array g = if_has C low p s h (is_a s array_class array) (perform r name (slots_of s array)) (Fails trouble.CollectionExpected) (performs r name (slots_of s array) g (slots_have C low p s h array)) (fails trouble.CollectionExpected)
    performed_with_has r v array g = record { gets = tt }

    abbrev behind_first : List Value → List Value
    behind_first [] = []
    behind_first (v ∷ vs) = vs

    behind_has : (vs : List Value) → AllHave C k vs → AllHave C k (behind_first vs)
    behind_has [] g = tt
    behind_has (v ∷ vs) g = g.1

    pub objects_have : Classed → (m : ObjectMessage) (r : Value) (args : List Value) → Has C k r → AllHave C k args → G (object_action p s m r args)
    unfolding object_action
    objects_have cl ObjectMessage.Same r args g i = answers C low p s h _
    objects_have cl ObjectMessage.NotSame r args g i = answers C low p s h _
    objects_have cl ObjectMessage.ClassOf r args g i = got C low p s h (class_of s r) (class_of_has cl r g)
    objects_have cl ObjectMessage.IsNil r args g i = answers C low p s h _
    objects_have cl ObjectMessage.NotNil r args g i = answers C low p s h _
    objects_have cl ObjectMessage.IsString r args g i = answers C low p s h _
    objects_have cl ObjectMessage.IsSymbol (Symbol name) args g i = record { gets = tt }
    objects_have cl ObjectMessage.IsSymbol r args g i = record { gets = tt }
    objects_have cl ObjectMessage.IsKindOf r args g i = answers C low p s h _
    objects_have cl ObjectMessage.IsMemberOf r args g i = answers C low p s h _
    objects_have cl ObjectMessage.RespondsTo r args g i = responds r (first args)
    objects_have cl ObjectMessage.Hash r args g i = record { gets = tt }
    objects_have cl ObjectMessage.Yourself r args g i = got C low p s h r g
    objects_have cl ObjectMessage.Copy r args g i = copies r g
    objects_have cl ObjectMessage.PrintString r args g i = string_made C low p s h (print_text p s r)
    objects_have cl ObjectMessage.DisplayString r args g i = displays r g
    objects_have cl ObjectMessage.Size r args g i = of_object_has r (λ n. sized_at (object_at n s)) (λ n. sized_has (object_at n s))
    objects_have cl ObjectMessage.At r args g i = of_object_has r (λ n. read_at (object_at n s) (first args)) (λ n. read_has (object_at n s) (first args) (object_slots C low s h n))
    objects_have cl ObjectMessage.AtPut r args g i = of_object_has r (λ n. put_at n (object_at n s) (first args) (second args)) (λ n. put_has n (object_at n s) (first args) (second args) (second_has C low k args i))
    objects_have cl ObjectMessage.ErrorText r args g i = record { gets = (first_has C low k args i, tt) }
    objects_have cl ObjectMessage.SubclassResponsibility r args g i = record { gets = tt }
    objects_have cl ObjectMessage.NotUnderstood r args g i = record { gets = (tt, (first_has C low k args i, (g, tt))) }
    objects_have cl ObjectMessage.Perform r args g i = performed_has r (first args) (behind_first args) g (behind_has args i)
    objects_have cl ObjectMessage.PerformWithArguments r args g i = performed_with_has r (first args) (second args) g
    objects_have cl ObjectMessage.Arrow r args g i = slots_made C low p s h association_class (r ∷ first args ∷ []) (g, (first_has C low k args i, tt))

    -- ---- classes and Booleans

    class_above_has : (o : Option ℕ) → ((a : ℕ) → o ≡ Some a → a < C) → G (Gives (elim o [ None ↦ Nil | Some c ↦ Class c ]))
    class_above_has None l = record { gets = tt }
    class_above_has (Some c) l = record { gets = l c refl }

    abbrev sized : Value → (ℕ → Action) → Action
    sized (Integer (pos n)) act = act n
    sized (Integer (negsuc n)) act = Fails trouble.IndexOutOfRange
    sized v act = Fails trouble.NumberExpected

    sized_by : (v : Value) (act : ℕ → Action) → ((n : ℕ) → G (act n)) → G (sized v act)
    sized_by (Integer (pos n)) act g = g n
    sized_by (Integer (negsuc n)) act g = record { gets = tt }
    sized_by v act g = record { gets = tt }

    abbrev new_by : ℕ → Value → Action
    new_by class v = elim (class_at p class).indexed [
      | NoIndexes ↦ Fails trouble.NotIndexed
      | ByObject ↦ sized v (λ n. makes_blank class ((class_at p class).slots + n) 0 s)
      | ByByte ↦ sized v (λ n. makes_blank class (class_at p class).slots n s)
    ]

    new_has : (class : ℕ) (v : Value) → G (new_by class v)
    new_has class v =
        kind_has (class_at p class).indexed (Fails trouble.NotIndexed) (sized v (λ n. makes_blank class ((class_at p class).slots + n) 0 s)) (sized v (λ n. makes_blank class (class_at p class).slots n s)) (fails trouble.NotIndexed)
        (sized_by v (λ n. makes_blank class ((class_at p class).slots + n) 0 s) (λ n. blank_made C low p s h class ((class_at p class).slots + n) 0))
        (sized_by v (λ n. makes_blank class (class_at p class).slots n s) (λ n. blank_made C low p s h class (class_at p class).slots n))

    class_messages : Above → (m : ClassMessage) (c : ℕ) (args : List Value) → G (class_action p s m (Class c) args)
    unfolding class_action
    class_messages up ClassMessage.Name c args = string_made C low p s h (class_at p c).name
    class_messages up ClassMessage.Superclass c args = class_above_has (class_at p c).superclass (λ a e. up c a e)
    class_messages up ClassMessage.New c args = if_has C low p s h (class_at p c).in_file (makes_blank c (class_at p c).slots 0 s) (Fails trouble.CannotBeInstantiated) (blank_made C low p s h c (class_at p c).slots 0) (fails trouble.CannotBeInstantiated)
    class_messages up ClassMessage.NewSize c args = if_has C low p s h (class_at p c).in_file (new_by c (first args)) (Fails trouble.CannotBeInstantiated) (new_has c (first args)) (fails trouble.CannotBeInstantiated)

    pub classes_have : Above → (m : ClassMessage) (r : Value) (args : List Value) → G (class_action p s m r args)
    unfolding class_action
    classes_have up m (Class c) args = class_messages up m c args
    classes_have up m r args = record { gets = tt }

    abbrev with_boolean : Value → (Bool → Action) → Action
    with_boolean True act = act true
    with_boolean False act = act false
    with_boolean v act = Fails trouble.BooleanExpected

    boolean_by : (v : Value) (test : Bool → Bool) → G (with_boolean v (λ b. Gives (boolean (test b))))
    boolean_by True test = answers C low p s h (test true)
    boolean_by False test = answers C low p s h (test false)
    boolean_by v test = record { gets = tt }

    value_either : (b : Bool) (v w : Value) → Has C k v → Has C k w → Has C k (if b then v else w)
    value_either true v w g i = g
    value_either false v w g i = i

    differs : Bool → Bool → Bool
    differs true b = not b
    differs false b = b

    pub booleans_have : (m : BooleanMessage) (r : Value) (args : List Value) → Has C k r → AllHave C k args → G (boolean_action m r args)
    unfolding boolean_action
    booleans_have BooleanMessage.And r args g i = boolean_by (first args) (λ b. is_true r && b)
    booleans_have BooleanMessage.Or r args g i = boolean_by (first args) (λ b. is_true r || b)
    booleans_have BooleanMessage.Xor r args g i = xor (first args)
      where
        xor : (v : Value) → G (boolean_action BooleanMessage.Xor r (v ∷ []))
        xor True = answers C low p s h _
        xor False = answers C low p s h _
        xor v = record { gets = tt }
    booleans_have BooleanMessage.Not r args g i = answers C low p s h _
    booleans_have BooleanMessage.AndThen r args g i = if_has C low p s h (is_true r) (Begins (first args) []) (Gives r) (begins (first args) (first_has C low k args i)) (got C low p s h r g)
    booleans_have BooleanMessage.OrElse r args g i = if_has C low p s h (is_true r) (Gives r) (Begins (first args) []) (got C low p s h r g) (begins (first args) (first_has C low k args i))
    booleans_have BooleanMessage.IfTrue r args g i = if_has C low p s h (is_true r) (Begins (first args) []) (Gives Nil) (begins (first args) (first_has C low k args i)) record { gets = tt }
    booleans_have BooleanMessage.IfFalse r args g i = if_has C low p s h (is_true r) (Gives Nil) (Begins (first args) []) record { gets = tt } (begins (first args) (first_has C low k args i))
    booleans_have BooleanMessage.IfTrueIfFalse r args g i = begins (if is_true r then first args else second args) (value_either (is_true r) (first args) (second args) (first_has C low k args i) (second_has C low k args i))
    booleans_have BooleanMessage.IfFalseIfTrue r args g i = begins (if is_true r then second args else first args) (value_either (is_true r) (second args) (first args) (second_has C low k args i) (first_has C low k args i))

    -- ---- Characters, the Transcript, Strings and Symbols

    code_point_has : (v : Value) → G (from_code_point v)
    code_point_has (Integer (pos n)) = if_has C low p s h (nat_le n 255) (Gives (Character n)) (Fails trouble.IndexOutOfRange) record { gets = tt } (fails trouble.IndexOutOfRange)
    code_point_has (Integer (negsuc n)) = record { gets = tt }
    code_point_has v = record { gets = tt }

    character_test : (v : Value) (test : ℕ → Bool) → G (with_character v (λ b. Gives (boolean (test b))))
    character_test v test = character_has C low p s h v (λ b. Gives (boolean (test b))) (λ b. answers C low p s h (test b))

    pub characters_have : (m : CharacterMessage) (r : Value) (args : List Value) → G (character_action s m r args)
    unfolding character_action
    characters_have CharacterMessage.FromCodePoint r args = code_point_has (first args)
    characters_have (CharacterMessage.Fixed byte) r args = record { gets = tt }
    characters_have CharacterMessage.CodePoint r args = record { gets = tt }
    characters_have CharacterMessage.AsLowercase r args = record { gets = tt }
    characters_have CharacterMessage.AsUppercase r args = record { gets = tt }
    characters_have CharacterMessage.AsString r args = string_made C low p s h _
    characters_have CharacterMessage.IsLetter r args = answers C low p s h _
    characters_have CharacterMessage.IsDigit r args = answers C low p s h _
    characters_have CharacterMessage.IsAlphaNumeric r args = answers C low p s h _
    characters_have CharacterMessage.IsLowercase r args = answers C low p s h _
    characters_have CharacterMessage.IsUppercase r args = answers C low p s h _
    characters_have CharacterMessage.Less r args = character_test (first args) (λ b. nat_lt (byte_of r) b)
    characters_have CharacterMessage.Greater r args = character_test (first args) (λ b. nat_lt b (byte_of r))
    characters_have CharacterMessage.LessOrEqual r args = character_test (first args) (λ b. nat_le (byte_of r) b)
    characters_have CharacterMessage.GreaterOrEqual r args = character_test (first args) (λ b. nat_le b (byte_of r))

    text_given : (o : Option Text) (act : Text → Action) → ((t : Text) → G (act t)) → G (elim o [ Some t ↦ act t | None ↦ Fails trouble.StringExpected ])
    text_given None act g = record { gets = tt }
    text_given (Some t) act g = g t

    text_has : (v : Value) (act : Text → Action) → ((t : Text) → G (act t)) → G (with_text p s v act)
    text_has v act g = text_given (bytes_of p s v) act g

    pub transcripts_have : (m : TranscriptMessage) (r : Value) (args : List Value) → Has C k r → G (transcript_action p s m r args)
    unfolding transcript_action
    transcripts_have TranscriptMessage.Show r args g = text_has (first args) (λ t. Writes t r) (λ t. record { gets = g })
    transcripts_have TranscriptMessage.NextPut r args g = character_has C low p s h (first args) (λ b. Writes (b ∷ []) r) (λ b. record { gets = g })
    transcripts_have TranscriptMessage.Flush r args g = record { gets = g }
    transcripts_have (TranscriptMessage.WriteByte byte) r args g = record { gets = g }

    text_test : (v : Value) (test : Text → Bool) → G (with_text p s v (λ u. Gives (boolean (test u))))
    text_test v test = text_has v (λ u. Gives (boolean (test u))) (λ u. answers C low p s h (test u))

    new_string_has : (r v : Value) → G (new_string s r v)
    new_string_has (Class c) (Integer (pos n)) = if_has C low p s h (nat_eq c symbol_class) (Fails trouble.CannotBeInstantiated) (makes_string (replicate n 32) s) (fails trouble.CannotBeInstantiated) (string_made C low p s h (replicate n 32))
    new_string_has (Class c) (Integer (negsuc n)) = if_has C low p s h (nat_eq c symbol_class) (Fails trouble.CannotBeInstantiated) (Fails trouble.IndexOutOfRange) (fails trouble.CannotBeInstantiated) (fails trouble.IndexOutOfRange)
    new_string_has (Class c) v = if_has C low p s h (nat_eq c symbol_class) (Fails trouble.CannotBeInstantiated) (Fails trouble.NumberExpected) (fails trouble.CannotBeInstantiated) (fails trouble.NumberExpected)
    new_string_has r v = record { gets = tt }

    strings_at : (m : StringMessage) (r : Value) (t : Text) (args : List Value) → G (string_at p s m r t args)
    strings_at StringMessage.Equal r t args = answers C low p s h _
    strings_at StringMessage.Less r t args = text_test (first args) (λ u. text_less t u)
    strings_at StringMessage.Greater r t args = text_test (first args) (λ u. text_less u t)
    strings_at StringMessage.LessOrEqual r t args = text_test (first args) (λ u. not (text_less u t))
    strings_at StringMessage.GreaterOrEqual r t args = text_test (first args) (λ u. not (text_less t u))
    strings_at StringMessage.AsUppercase r t args = string_made C low p s h _
    strings_at StringMessage.AsLowercase r t args = string_made C low p s h _
    strings_at StringMessage.AsString r t args = string_made C low p s h t
    strings_at StringMessage.SameAs r t args = text_test (first args) (λ u. same_text (map to_lower t) (map to_lower u))
    strings_at StringMessage.NewSize r t args = new_string_has r (first args)

    pub strings_have : (m : StringMessage) (r : Value) (args : List Value) → G (string_action p s m r args)
    unfolding string_action
    strings_have m r args = strings_at m r (or_empty (bytes_of p s r)) args

    -- ---- sequences

    written_has : (n class i : ℕ) (v : Value) → Has C k v → G (written s n class i v)
    written_has n class i v g =
        if_has C low p s h (nat_eq class string_class) (with_character v (λ b. Changes (with_byte n i b s) v)) (if nat_eq class byte_array_class then byte_put s n i v else Changes (with_slot n i v s) v)
        (character_has C low p s h v (λ b. Changes (with_byte n i b s) v) (λ b. record { gets = (grown_byte C low s h n i b, set_keeps C low s h n _ v g) }))
        (if_has C low p s h (nat_eq class byte_array_class) (byte_put s n i v) (Changes (with_slot n i v s) v) (byte_written C low p s h n i v g) (slot_written C low p s h n i v g))

    at_put_has : (r at v : Value) → Has C k v → G (at_put p s r at v)
    at_put_has (Object n) at v g =
        if_has C low p s h (object_at n s).read_only (Fails trouble.LiteralIsReadOnly) (indexed at (size_of p s (Object n)) (λ i. written s n (object_at n s).class i v)) (fails trouble.LiteralIsReadOnly)
        (indexed_has C low p s h at (size_of p s (Object n)) (λ i. written s n (object_at n s).class i v) (λ i. written_has n (object_at n s).class i v g))
    at_put_has r at v g = record { gets = tt }

    unless_empty_has : (r : Value) (act : Action) → G act → G (if nat_eq (size_of p s r) 0 then Fails trouble.CollectionIsEmpty else act)
    unless_empty_has r act g = if_has C low p s h (nat_eq (size_of p s r) 0) (Fails trouble.CollectionIsEmpty) act (fails trouble.CollectionIsEmpty) g

    joined : (o : Option Trouble) (class : ℕ) (items : List Value) → AllHave C k items → G (elim o [ Some t ↦ Fails t | None ↦ makes_sequence class items s ])
    joined None class items g = sequence_made C low p s h class items g
    joined (Some t) class items g = record { gets = tt }

    join_has : (r v : Value) → G (join p s r v)
    join_has r v =
        if_has C low p s h (is_sequence s v) (elim (element_trouble (species s r) (elements p s v)) [ Some t ↦ Fails t | None ↦ makes_sequence (species s r) (elements p s r ++ elements p s v) s ]) (Fails trouble.CollectionExpected)
        (joined (element_trouble (species s r) (elements p s v)) (species s r) (elements p s r ++ elements p s v) (append_has C low k (elements p s r) (elements p s v) (elements_have C low p s h r) (elements_have C low p s h v))) (fails trouble.CollectionExpected)

    between_has : (r : Value) (i j : ℤ) → G (copy_between p s r i j)
    between_has r i j =
        let items = some_elements p s r (natural_of i) (natural_of j + 1 - natural_of i) in
        if_has C low p s h (int_lt j i) (makes_sequence (species s r) [] s) (if is_index (size_of p s r) i && is_index (size_of p s r) j then makes_sequence (species s r) items s else Fails trouble.IndexOutOfRange) (sequence_made C low p s h (species s r) [] tt)
        (if_has C low p s h (is_index (size_of p s r) i && is_index (size_of p s r) j) (makes_sequence (species s r) items s) (Fails trouble.IndexOutOfRange) (sequence_made C low p s h (species s r) items (some_have C low p s h r (natural_of i) (natural_of j + 1 - natural_of i))) (fails trouble.IndexOutOfRange))

    copy_has : (r v w : Value) → G (copy_from_to p s r v w)
    copy_has r (Integer i) (Integer j) = between_has r i j
    copy_has r v w = record { gets = tt }

    pub sequences_have : (m : SequenceMessage) (r : Value) (args : List Value) → Has C k r → AllHave C k args → G (sequence_action p s m r args)
    unfolding sequence_action
    sequences_have SequenceMessage.At r args g i = indexed_has C low p s h (first args) (size_of p s r) (λ j. Gives (element p s r (j + 1))) (λ j. got C low p s h (element p s r (j + 1)) (element_has C low p s h r (j + 1)))
    sequences_have SequenceMessage.Size r args g i = record { gets = tt }
    sequences_have SequenceMessage.IsEmpty r args g i = answers C low p s h _
    sequences_have SequenceMessage.NotEmpty r args g i = answers C low p s h _
    sequences_have SequenceMessage.First r args g i = unless_empty_has r (Gives (element p s r 1)) (got C low p s h (element p s r 1) (element_has C low p s h r 1))
    sequences_have SequenceMessage.Last r args g i = unless_empty_has r (Gives (element p s r (size_of p s r))) (got C low p s h (element p s r (size_of p s r)) (element_has C low p s h r (size_of p s r)))
    sequences_have SequenceMessage.Join r args g i = join_has r (first args)
    sequences_have SequenceMessage.CopyFromTo r args g i = copy_has r (first args) (second args)
    sequences_have SequenceMessage.Reverse r args g i = sequence_made C low p s h (species s r) (reverse (elements p s r)) (reverse_has C low k (elements p s r) (elements_have C low p s h r))
    sequences_have SequenceMessage.AsArray r args g i = slots_made C low p s h array_class (elements p s r) (elements_have C low p s h r)
    sequences_have SequenceMessage.AsOrderedCollection r args g i = slots_made C low p s h ordered_collection_class (elements p s r) (elements_have C low p s h r)
    sequences_have SequenceMessage.AtPut r args g i = at_put_has r (first args) (second args) (second_has C low k args i)

    -- ---- collections that grow

    pub elements_grown : (n : ℕ) (slots : List Value) → AllHave C k slots → Grown C s (with_elements s n slots).store
    unfolding with_elements
    elements_grown n slots g = grown_set C low s h n _ refl g

    pub elements_keep : (n : ℕ) (slots : List Value) (v : Value) → Has C k v → Has C (length (with_elements s n slots).store.objects) v
    unfolding with_elements
    elements_keep n slots v g = set_keeps C low s h n _ v g

    added_has : (n : ℕ) (slots : List Value) (v : Value) → AllHave C k slots → Has C k v → G (Makes (with_elements s n slots).cells (with_elements s n slots).store v)
    added_has n slots v g i = record { gets = (made_plain C low s _ (elements_grown n slots g), elements_keep n slots v i) }

    pub element_removed : (n i : ℕ) → Grown C s (without_element s n i)
    unfolding without_element
    element_removed n i = grown_set C low s h n _ refl (append_has C low k (take i (object_at n s).slots) (drop (suc i) (object_at n s).slots) (take_has C low k i (object_at n s).slots (object_slots C low s h n)) (drop_has C low k (suc i) (object_at n s).slots (object_slots C low s h n)))

    pub removed_keeps : (n i : ℕ) (v : Value) → Has C k v → Has C (length (without_element s n i).objects) v
    unfolding without_element
    removed_keeps n i v g = set_keeps C low s h n _ v g

    removed_has : (n i : ℕ) → G (Changes (without_element s n i) (get_or (object_at n s).slots i Nil))
    removed_has n i = let v = get_or (object_at n s).slots i Nil in record { gets = (element_removed n i, removed_keeps n i v (get_has C low k (object_at n s).slots i (object_slots C low s h n))) }

    inserted_have : (slots : List Value) (i : ℕ) (v : Value) → AllHave C k slots → Has C k v → AllHave C k (insert slots i v)
    inserted_have slots i v g e = append_has C low k (take i slots) (v ∷ drop i slots) (take_has C low k i slots g) (e, drop_has C low k i slots g)

    mutual
      firsts_have : (vs : List Value) → AllHave C k vs → AllHave C k (firsts vs)
      firsts_have [] g = tt
      firsts_have (v ∷ vs) g = (g.0, seconds_have vs g.1)

      seconds_have : (vs : List Value) → AllHave C k vs → AllHave C k (seconds vs)
      seconds_have [] g = tt
      seconds_have (v ∷ vs) g = firsts_have vs g.1

    ordered_has : (m : CollectionMessage) (n : ℕ) (args : List Value) → AllHave C k args → G (ordered_at p s m n args)
    ordered_has CollectionMessage.Add n args i = added_has n ((object_at n s).slots ++ first args ∷ []) (first args) (append_has C low k (object_at n s).slots (first args ∷ []) (object_slots C low s h n) (first_has C low k args i, tt)) (first_has C low k args i)
    ordered_has CollectionMessage.AddFirst n args i = added_has n (first args ∷ (object_at n s).slots) (first args) (first_has C low k args i, object_slots C low s h n) (first_has C low k args i)
    ordered_has CollectionMessage.AddAll n args i =
        let slots = (object_at n s).slots ++ elements p s (first args) in
        if_has C low p s h (is_collection s (first args)) (Makes (with_elements s n slots).cells (with_elements s n slots).store (first args)) (Fails trouble.CollectionExpected) (added_has n slots (first args) (append_has C low k (object_at n s).slots (elements p s (first args)) (object_slots C low s h n) (elements_have C low p s h (first args))) (first_has C low k args i)) (fails trouble.CollectionExpected)
    ordered_has CollectionMessage.RemoveFirst n args i = unless_empty_has (Object n) (Changes (without_element s n 0) (get_or (object_at n s).slots 0 Nil)) (removed_has n 0)
    ordered_has CollectionMessage.RemoveLast n args i =
        let last = length (object_at n s).slots - 1 in unless_empty_has (Object n) (Changes (without_element s n last) (get_or (object_at n s).slots last Nil)) (removed_has n last)
    ordered_has CollectionMessage.AddBeforeIndex n args i =
        indexed_has C low p s h (second args) (length (object_at n s).slots + 1) (λ j. Makes (with_elements s n (insert (object_at n s).slots j (first args))).cells (with_elements s n (insert (object_at n s).slots j (first args))).store (first args))
        (λ j. added_has n (insert (object_at n s).slots j (first args)) (first args) (inserted_have (object_at n s).slots j (first args) (object_slots C low s h n) (first_has C low k args i)) (first_has C low k args i))
    ordered_has CollectionMessage.RemoveAtIndex n args i = indexed_has C low p s h (first args) (length (object_at n s).slots) (λ j. Changes (without_element s n j) (get_or (object_at n s).slots j Nil)) (λ j. removed_has n j)
    ordered_has CollectionMessage.Keys n args i = slots_made C low p s h array_class (firsts (object_at n s).slots) (firsts_have (object_at n s).slots (object_slots C low s h n))
    ordered_has CollectionMessage.Values n args i = slots_made C low p s h array_class (seconds (object_at n s).slots) (seconds_have (object_at n s).slots (object_slots C low s h n))
    ordered_has m n args i = record { gets = tt }

    changed_has : (m : CollectionMessage) (r : Value) (args : List Value) → AllHave C k args → G (changed p s m r args)
    changed_has m (Object n) args i = ordered_has m n args i
    changed_has m r args i = record { gets = tt }

    pub collections_have : (m : CollectionMessage) (r : Value) (args : List Value) → Has C k r → AllHave C k args → G (collection_action p s m r args)
    unfolding collection_action
    collections_have CollectionMessage.NewArray r args g i = sized_by (first args) (λ n. makes_slots array_class (replicate n Nil) s) (λ n. slots_made C low p s h array_class (replicate n Nil) (nils_have C low k n))
    collections_have CollectionMessage.NewByteArray r args g i = sized_by (first args) (λ n. makes_bytes byte_array_class (replicate n 0) s) (λ n. bytes_made C low p s h byte_array_class (replicate n 0))
    collections_have CollectionMessage.With r args g i = slots_made C low p s h array_class args i
    collections_have CollectionMessage.WithAll r args g i = if_has C low p s h (is_collection s (first args)) (makes_slots array_class (elements p s (first args)) s) (Fails trouble.CollectionExpected) (slots_made C low p s h array_class (elements p s (first args)) (elements_have C low p s h (first args))) (fails trouble.CollectionExpected)
    collections_have CollectionMessage.NewEmpty r args g i = slots_made C low p s h _ [] tt
    collections_have CollectionMessage.KeyValue r args g i = slots_made C low p s h association_class (first args ∷ second args ∷ []) (first_has C low k args i, (second_has C low k args i, tt))
    collections_have m r args g i = changed_has m r args i

    -- ---- exceptions

    selectors_have : (v : Value) → Has C k v → AllHave C k (selectors_of s v)
    selectors_have (Object n) g = object_slots C low s h n
    selectors_have Nil g = (tt, tt)
    selectors_have True g = (tt, tt)
    selectors_have False g = (tt, tt)
    selectors_have (Integer n) g = (tt, tt)
    selectors_have (Character c) g = (tt, tt)
    selectors_have (Symbol n) g = (tt, tt)
    selectors_have (Class c) g = (g, tt)
    selectors_have (Meta c) g = (g, tt)
    selectors_have Transcript g = (tt, tt)

    kept_has : (n : ℕ) (v : Value) → Has C k v → G (kept_or_text p s n v)
    kept_has n Nil g = string_made C low p s h (exception_text p s n)
    kept_has n (Object m) g = record { gets = g }
    kept_has n v g = record { gets = g }

    exceptions_at : (m : ExceptionMessage) (n : ℕ) (args : List Value) → n < k → AllHave C k args → G (exception_at p s m n args)
    exceptions_at ExceptionMessage.Signal n args l i = record { gets = (grown_itself C low s h, l) }
    exceptions_at ExceptionMessage.SignalText n args l i = record { gets = (grown_slot C low s h n 0 (first args) (first_has C low k args i), set_keeps C low s h n _ (Object n) l) }
    exceptions_at ExceptionMessage.MessageText n args l i = kept_has n (slot_of s (Object n) 0) (slot_has C low p s h (Object n) 0)
    exceptions_at ExceptionMessage.SetMessageText n args l i = record { gets = (grown_slot C low s h n 0 (first args) (first_has C low k args i), set_keeps C low s h n _ (Object n) l) }
    exceptions_at ExceptionMessage.Description n args l i = string_made C low p s h _
    exceptions_at (ExceptionMessage.Controls control) n args l i = record { gets = (l, first_has C low k args i) }
    exceptions_at (ExceptionMessage.IsResumable answer) n args l i = answers C low p s h answer
    exceptions_at ExceptionMessage.TerminatesProgram n args l i = record { gets = l }
    exceptions_at ExceptionMessage.AnswersNil n args l i = record { gets = tt }
    exceptions_at ExceptionMessage.Warns n args l i = record { gets = tt }
    exceptions_at m n args l i = record { gets = tt }

    to_has : (m : ExceptionMessage) (r : Value) (args : List Value) → Has C k r → AllHave C k args → G (to_exception p s m r args)
    to_has m (Object n) args g i = exceptions_at m n args g i
    to_has m r args g i = record { gets = tt }

    handles_has : (r v : Value) → G (handles p s r v)
    handles_has r (Object n) = if_has C low p s h (is_exception p s (Object n)) (Gives (boolean (fits p s r (object_at n s).class))) (Fails trouble.ExceptionExpected) (answers C low p s h _) (fails trouble.ExceptionExpected)
    handles_has r v = record { gets = tt }

    new_exception_has : (r : Value) → G (new_exception p s r)
    new_exception_has (Class c) = blank_made C low p s h c (class_at p c).slots 0
    new_exception_has r = record { gets = tt }

    signal_new_has : (r : Value) (args : List Value) → AllHave C k args → G (signal_new r args)
    signal_new_has (Class c) args i = record { gets = i }
    signal_new_has r args i = record { gets = tt }

    pub exceptions_have : (m : ExceptionMessage) (r : Value) (args : List Value) → Has C k r → AllHave C k args → G (exception_action p s m r args)
    unfolding exception_action
    exceptions_have ExceptionMessage.New r args g i = new_exception_has r
    exceptions_have ExceptionMessage.SignalNew r args g i = signal_new_has r args i
    exceptions_have ExceptionMessage.Join r args g i =
        if_has C low p s h (is_plain p s r && is_plain p s (first args)) (makes_slots exception_set_class (selectors_of s r ++ selectors_of s (first args)) s) (Fails trouble.ExceptionSelectorExpected)
        (slots_made C low p s h exception_set_class (selectors_of s r ++ selectors_of s (first args)) (append_has C low k (selectors_of s r) (selectors_of s (first args)) (selectors_have r g) (selectors_have (first args) (first_has C low k args i)))) (fails trouble.ExceptionSelectorExpected)
    exceptions_have ExceptionMessage.Handles r args g i = handles_has r (first args)
    exceptions_have m r args g i = to_has m r args g i

    -- ---- the beginning of a loop

    begun_has : (m : LoopMessage) (r : Value) (args : List Value) (index : ℤ) (made : Value) → Has C k r → AllHave C k args → Has C k made → G (Iterates (record { message = m; receiver = r; arguments = args; index = index; made = made; visited = Nil; aside = false }))
    begun_has m r args index made g i d = record { gets = (g, i, d, tt) }

    abbrev with_stop : Value → Action → Action
    with_stop (Integer n) act = act
    with_stop v act = Fails trouble.NumberExpected

    abbrev with_step : Value → Action → Action
    with_step (Integer n) act = if nat_eq (natural_of n) 0 && int_le (pos 0) n then Fails trouble.StepIsZero else act
    with_step v act = Fails trouble.NumberExpected

    abbrev counted : LoopMessage → Value → List Value → Action
    counted m r args = Iterates (record { message = m; receiver = r; arguments = args; index = integer_of r; made = Nil; visited = Nil; aside = false })

    stop_has : (v : Value) (act : Action) → G act → G (with_stop v act)
    stop_has (Integer n) act g = g
    stop_has v act g = record { gets = tt }

    step_has : (v : Value) (act : Action) → G act → G (with_step v act)
    step_has (Integer n) act g = if_has C low p s h (nat_eq (natural_of n) 0 && int_le (pos 0) n) (Fails trouble.StepIsZero) act (fails trouble.StepIsZero) g
    step_has v act g = record { gets = tt }

    pub loops_have : (m : LoopMessage) (r : Value) (args : List Value) → Has C k r → AllHave C k args → G (loop_action p s m r args)
    unfolding loop_action
    loops_have LoopMessage.ToDo r args g i = stop_has (first args) (counted LoopMessage.ToDo r args) (begun_has LoopMessage.ToDo r args (integer_of r) Nil g i tt)
    loops_have LoopMessage.ToByDo r args g i = stop_has (first args) (with_step (second args) (counted LoopMessage.ToByDo r args)) (step_has (second args) (counted LoopMessage.ToByDo r args) (begun_has LoopMessage.ToByDo r args (integer_of r) Nil g i tt))
    loops_have LoopMessage.InjectInto r args g i = begun_has LoopMessage.InjectInto r args (pos 1) (first args) g i (first_has C low k args i)
    loops_have m r args g i = record { gets = (g, i, tt, tt) }
