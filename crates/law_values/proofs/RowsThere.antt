-- What a message does at once gives values that are there, where its receiver and arguments are.
use Rattle.std.proofs.Common.{ℕ, zero, suc, ◌+◌, ◌-◌, ◌*◌, ℤ, pos, nat_eq, length, get_or, replicate, List, [], Option, Some, None, Bool, true, false, if◌then◌else◌, ◌<◌}
use Rattle.object_heap.specs.declared.value.Value.{Value}
use Rattle.object_heap.specs.declared.value.Value.TheVariants.{Nil, True, False, Integer, Character, Symbol, Class, Meta, Transcript, Object}
use Rattle.object_heap.specs.declared.trouble.Trouble.{Trouble}
use Rattle.object_heap.specs.declared.trouble.Trouble.TheVariants.{IndexOutOfRange, ByteExpected}
use Rattle.object_heap.specs.Store.{Store, object_at, with_slot, with_byte}
use Rattle.st_code.specs.Program.{Program}
use Rattle.st_code.specs.BuiltIns.{string_class, byte_array_class, dictionary_class, interval_class}
use Rattle.st_collections.specs.Actions.{Action, Gives, Changes, Fails, boolean, makes_slots, makes_bytes, makes_string, makes_blank}
use Rattle.st_collections.specs.Kinds.{slots_of, slot_of, size_of, element, some_elements, elements}
use Rattle.st_collections.specs.ObjectRows.{indexed, index_in, byte_value, byte_put}
use Rattle.st_collections.specs.TextRows.{with_character}
use Rattle.st_collections.specs.SequenceRows.{makes_sequence}
use Rattle.law_values.specs.KnownNumbers.{Has, AllHave, ObjectsHave, ActionHas}
use Rattle.law_values.proofs.ValuesThere.{boolean_has, get_has, nils_have, grown_new, made_plain, next_new, set_keeps, object_slots, grown_slot, grown_byte}

module _ (C : ℕ) (low : 29 < C) where
  module _ (p : Program) (s : Store) (h : ObjectsHave C (length s.objects) s.objects) where
    abbrev k : ℕ
    k = length s.objects

    -- what an action gives is there
    pub record Gets (a : Action) : Type 0 where
      pub gets : ActionHas C s a

    pub got : (v : Value) → Has C k v → Gets (Gives v)
    got v g = record { gets = g }

    -- ---- values that rows read

    pub slots_have : (v : Value) → AllHave C k (slots_of s v)
    unfolding slots_of
    slots_have (Object n) = object_slots C low s h n
    slots_have Nil = tt
    slots_have True = tt
    slots_have False = tt
    slots_have (Integer n) = tt
    slots_have (Character c) = tt
    slots_have (Symbol n) = tt
    slots_have (Class c) = tt
    slots_have (Meta c) = tt
    slots_have Transcript = tt

    pub slot_has : (v : Value) (i : ℕ) → Has C k (slot_of s v i)
    unfolding slot_of
    slot_has v i = get_has C low k (slots_of s v) i (slots_have v)

    value_if : (b : Bool) (v w : Value) → Has C k v → Has C k w → Has C k (if b then v else w)
    value_if true v w g i = g
    value_if false v w g i = i

    element_by : (a b c d : Bool) (u : ℕ) (w x : ℤ) (v v' : Value) → Has C k v → Has C k v' → Has C k (if a then Character u else (if b then Integer w else (if c then v else (if d then Integer x else v'))))
    element_by true b c d u w x v v' g i = tt
    element_by false true c d u w x v v' g i = tt
    element_by false false true d u w x v v' g i = g
    element_by false false false true u w x v v' g i = tt
    element_by false false false false u w x v v' g i = i

    pub element_has : (v : Value) (i : ℕ) → Has C k (element p s v i)
    unfolding element
    element_has (Object n) i =
        let o = object_at n s in
        element_by (nat_eq o.class string_class) (nat_eq o.class byte_array_class) (nat_eq o.class dictionary_class) (nat_eq o.class interval_class) (get_or o.bytes (i - 1) 0) (pos (get_or o.bytes (i - 1) 0)) _ (get_or o.slots (2 * (i - 1) + 1) Nil) (get_or o.slots (i - 1) Nil) (get_has C low k o.slots (2 * (i - 1) + 1) (object_slots C low s h n)) (get_has C low k o.slots (i - 1) (object_slots C low s h n))
    element_has Nil i = tt
    element_has True i = tt
    element_has False i = tt
    element_has (Integer n) i = tt
    element_has (Character c) i = tt
    element_has (Symbol n) i = tt
    element_has (Class c) i = tt
    element_has (Meta c) i = tt
    element_has Transcript i = tt

    pub some_have : (v : Value) (from count : ℕ) → AllHave C k (some_elements p s v from count)
    unfolding some_elements
    some_have v from zero = tt
    some_have v from (suc count) = (element_has v from, some_have v (from + 1) count)

    pub elements_have : (v : Value) → AllHave C k (elements p s v)
    unfolding elements
    elements_have v = some_have v 1 (size_of p s v)

    -- ---- what rows are made of

    pub if_has : (b : Bool) (x y : Action) → Gets x → Gets y → Gets (if b then x else y)
    if_has true x y g i = g
    if_has false x y g i = i

    index_has : (o : Option ℕ) (act : ℕ → Action) → ((i : ℕ) → Gets (act i)) → Gets (elim o [ Some i ↦ act i | None ↦ Fails IndexOutOfRange ])
    index_has None act g = record { gets = tt }
    index_has (Some i) act g = g i

    pub indexed_has : (v : Value) (size : ℕ) (act : ℕ → Action) → ((i : ℕ) → Gets (act i)) → Gets (indexed v size act)
    indexed_has (Integer n) size act g = index_has (index_in size n) act g
    indexed_has (Object n) size act g = record { gets = tt }
    indexed_has Nil size act g = record { gets = tt }
    indexed_has True size act g = record { gets = tt }
    indexed_has False size act g = record { gets = tt }
    indexed_has (Character c) size act g = record { gets = tt }
    indexed_has (Symbol n) size act g = record { gets = tt }
    indexed_has (Class c) size act g = record { gets = tt }
    indexed_has (Meta c) size act g = record { gets = tt }
    indexed_has Transcript size act g = record { gets = tt }

    pub slots_made : (class : ℕ) (slots : List Value) → AllHave C k slots → Gets (makes_slots class slots s)
    unfolding makes_slots
    slots_made class slots g = record { gets = (made_plain C low s _ (grown_new C low s h class slots [] g), next_new C low s h class slots []) }

    pub bytes_made : (class : ℕ) (bytes : List ℕ) → Gets (makes_bytes class bytes s)
    unfolding makes_bytes
    bytes_made class bytes = record { gets = (made_plain C low s _ (grown_new C low s h class [] bytes tt), next_new C low s h class [] bytes) }

    pub string_made : (bytes : List ℕ) → Gets (makes_string bytes s)
    unfolding makes_string
    string_made bytes = bytes_made string_class bytes

    pub blank_made : (class slots bytes : ℕ) → Gets (makes_blank class slots bytes s)
    unfolding makes_blank
    blank_made class slots bytes = record { gets = (made_plain C low s _ (grown_new C low s h class (replicate slots Nil) (replicate bytes 0) (nils_have C low k slots)), next_new C low s h class (replicate slots Nil) (replicate bytes 0)) }

    pub sequence_made : (class : ℕ) (items : List Value) → AllHave C k items → Gets (makes_sequence class items s)
    unfolding makes_sequence
    sequence_made class items g = if_has (nat_eq class string_class) _ _ (bytes_made string_class _) (if_has (nat_eq class byte_array_class) _ _ (bytes_made byte_array_class _) (slots_made class items g))

    byte_given : (n i : ℕ) (v : Value) (o : Option ℕ) → Has C k v → Gets (elim o [ Some byte ↦ Changes (with_byte n i byte s) v | None ↦ Fails ByteExpected ])
    byte_given n i v None g = record { gets = tt }
    byte_given n i v (Some byte) g = record { gets = (grown_byte C low s h n i byte, set_keeps C low s h n _ v g) }

    pub byte_written : (n i : ℕ) (v : Value) → Has C k v → Gets (byte_put s n i v)
    byte_written n i v g = byte_given n i v (byte_value v) g

    pub slot_written : (n i : ℕ) (v : Value) → Has C k v → Gets (Changes (with_slot n i v s) v)
    slot_written n i v g = record { gets = (grown_slot C low s h n i v g, set_keeps C low s h n _ v g) }

    pub character_has : (v : Value) (act : ℕ → Action) → ((b : ℕ) → Gets (act b)) → Gets (with_character v act)
    character_has (Character c) act g = g c
    character_has (Object n) act g = record { gets = tt }
    character_has Nil act g = record { gets = tt }
    character_has True act g = record { gets = tt }
    character_has False act g = record { gets = tt }
    character_has (Integer n) act g = record { gets = tt }
    character_has (Symbol n) act g = record { gets = tt }
    character_has (Class c) act g = record { gets = tt }
    character_has (Meta c) act g = record { gets = tt }
    character_has Transcript act g = record { gets = tt }

    pub answers : (b : Bool) → Gets (Gives (boolean b))
    answers b = record { gets = boolean_has C low k b }

    pub no_trouble : (t : Trouble) → Gets (Fails t)
    no_trouble t = record { gets = tt }
