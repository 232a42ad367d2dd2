-- What kind of value an argument is, the elements of collections, and how values are written. Source: ANSI 5.
use Rattle.std.specs.Prelude.{ℕ, zero, suc, ◌+◌, ◌-◌, ◌*◌, ◌/◌, ℤ, pos, negsuc, ◌+ℤ◌, ◌-ℤ◌, ◌*ℤ◌, int_lt, Bool, true, false, ◌&&◌, ◌||◌, List, [], ◌∷◌, ◌++◌, length, get_or, Option, Some, None, nat_eq, if◌then◌else◌, codes}
use Rattle.std.specs.Fmt.{signed_decimal, digits}
use Rattle.object_heap.specs.declared.value.Value.{Value}
use Rattle.object_heap.specs.declared.value.Value.TheVariants.{Nil, True, False, Integer, Character, Symbol, Class, Meta, Transcript, Object}
use Rattle.object_heap.specs.Store.{Store, object_at}
use Rattle.st_code.specs.Texts.{Text, quoted, symbol_text, with_article}
use Rattle.st_code.specs.Program.{Program, class_at, name_at}
use Rattle.st_code.specs.BuiltIns.{string_class, symbol_class, fraction_class, array_class, byte_array_class, ordered_collection_class, set_class, dictionary_class, interval_class, message_not_understood_class, message_class}
use Rattle.st_code.specs.Lookup.{class_of, class_text, inherits}

abbrev pub same_integer : ℤ → ℤ → Bool
same_integer (pos a) (pos b) = nat_eq a b
same_integer (negsuc a) (negsuc b) = nat_eq a b
same_integer _ _ = false

-- identity; Integers and Characters by value
unfoldable pub same_value : Value → Value → Bool
same_value Nil Nil = true
same_value True True = true
same_value False False = true
same_value Transcript Transcript = true
same_value (Integer a) (Integer b) = same_integer a b
same_value (Character a) (Character b) = nat_eq a b
same_value (Symbol a) (Symbol b) = nat_eq a b
same_value (Class a) (Class b) = nat_eq a b
same_value (Meta a) (Meta b) = nat_eq a b
same_value (Object a) (Object b) = nat_eq a b
same_value _ _ = false

abbrev pub is_true : Value → Bool
is_true True = true
is_true v = false

-- the value is an object of this class
unfoldable pub is_a : Store → ℕ → Value → Bool
is_a s class (Object number) = nat_eq (object_at number s).class class
is_a s class v = false

-- the bytes of a String or Symbol
unfoldable pub bytes_of : Program → Store → Value → Option Text
bytes_of p s (Symbol name) = Some (name_at p name)
bytes_of p s (Object number) = if nat_eq (object_at number s).class string_class then Some (object_at number s).bytes else None
bytes_of p s v = None

unfoldable pub slots_of : Store → Value → List Value
slots_of s (Object number) = (object_at number s).slots
slots_of s v = []

unfoldable pub slot_of : Store → Value → ℕ → Value
unfolding slots_of
slot_of s v slot = get_or (slots_of s v) slot Nil

abbrev pub integer_of : Value → ℤ
integer_of (Integer n) = n
integer_of v = pos 0

abbrev pub natural_of : ℤ → ℕ
natural_of (pos n) = n
natural_of (negsuc n) = 0

-- ---- collections: their size and elements as they are now

-- how many elements an Interval has
unfoldable pub interval_size : ℤ → ℤ → ℤ → ℕ
interval_size start stop (pos by) = if int_lt stop start then 0 else natural_of (stop -ℤ start) / by + 1
interval_size start stop (negsuc by) = if int_lt start stop then 0 else natural_of (start -ℤ stop) / suc by + 1

abbrev pub size_at : ℕ → List Value → List ℕ → ℕ
size_at class slots bytes =
    if nat_eq class string_class || nat_eq class byte_array_class then length bytes else
    (if nat_eq class dictionary_class then length slots / 2 else
    (if nat_eq class interval_class then interval_size (integer_of (get_or slots 0 Nil)) (integer_of (get_or slots 1 Nil)) (integer_of (get_or slots 2 Nil)) else length slots))

unfoldable pub size_of : Program → Store → Value → ℕ
unfolding interval_size
size_of p s (Symbol name) = length (name_at p name)
size_of p s (Object number) = let o = object_at number s in size_at o.class o.slots o.bytes
size_of p s v = 0

-- an element by its index from 0; a Dictionary's are its values
abbrev pub element_at : ℕ → List Value → List ℕ → ℕ → Value
element_at class slots bytes i =
    if nat_eq class string_class then Character (get_or bytes i 0) else
    (if nat_eq class byte_array_class then Integer (pos (get_or bytes i 0)) else
    (if nat_eq class dictionary_class then get_or slots (2 * i + 1) Nil else
    (if nat_eq class interval_class then Integer (integer_of (get_or slots 0 Nil) +ℤ pos i *ℤ integer_of (get_or slots 2 Nil)) else get_or slots i Nil)))

unfoldable pub element : Program → Store → Value → (index : ℕ) → Value
element p s (Symbol name) i = Character (get_or (name_at p name) (i - 1) 0)
element p s (Object number) i = let o = object_at number s in element_at o.class o.slots o.bytes (i - 1)
element p s v i = Nil

abbrev pub elements_from : Program → Store → Value → ℕ → ℕ → List Value
elements_from p s v i zero = []
elements_from p s v i (suc n) = let rest = elements_from p s v (i + 1) n in element p s v i ∷ rest

-- so many elements from this index on
unfoldable pub some_elements : Program → Store → Value → (from count : ℕ) → List Value
some_elements p s v from count = elements_from p s v from count

unfoldable pub elements : Program → Store → Value → List Value
elements p s v = some_elements p s v 1 (size_of p s v)

-- a key of a Dictionary, by its index from 1
unfoldable pub key : Store → Value → (index : ℕ) → Value
key s v i = slot_of s v (2 * i - 2)

abbrev pub is_sequence_class : ℕ → Bool
is_sequence_class c = nat_eq c string_class || nat_eq c symbol_class || nat_eq c array_class || nat_eq c byte_array_class || nat_eq c ordered_collection_class || nat_eq c interval_class

-- a String, Symbol, Array, ByteArray, OrderedCollection or Interval
unfoldable pub is_sequence : Store → Value → Bool
is_sequence s (Symbol name) = true
is_sequence s (Object number) = is_sequence_class (object_at number s).class
is_sequence s v = false

-- one of these, or a Set or Dictionary
unfoldable pub is_collection : Store → Value → Bool
unfolding is_a is_sequence
is_collection s v = is_sequence s v || is_a s set_class v || is_a s dictionary_class v

-- the class of what `,`, `copyFrom:to:` and `reverse` answer
unfoldable pub species : Store → Value → ℕ
species s (Object number) = let c = (object_at number s).class in if nat_eq c interval_class then array_class else c
species s v = string_class

-- ---- printed forms

abbrev pub print_object : Program → Store → ℕ → ℕ → Text
print_object p s number class =
    if nat_eq class string_class then quoted (object_at number s).bytes else
    (if nat_eq class fraction_class then signed_decimal (integer_of (slot_of s (Object number) 0)) ++ 47 ∷ signed_decimal (integer_of (slot_of s (Object number) 1)) else
    with_article (class_at p class).name)

-- what `printString` answers
unfoldable pub print_text : Program → Store → Value → Text
unfolding digits
print_text p s Nil = codes "nil"
print_text p s True = codes "true"
print_text p s False = codes "false"
print_text p s (Integer n) = signed_decimal n
print_text p s (Character byte) = 36 ∷ byte ∷ []
print_text p s (Symbol name) = symbol_text (name_at p name)
print_text p s (Class class) = (class_at p class).name
print_text p s (Meta class) = (class_at p class).name ++ codes " class"
print_text p s Transcript = codes "a TranscriptWriter"
print_text p s (Object number) = print_object p s number (object_at number s).class

abbrev pub or_text : Option Text → Text → Text
or_text (Some t) u = t
or_text None u = u

abbrev pub kept_message : Program → Store → Value → Text → Text
kept_message p s (Symbol name) text = symbol_text (name_at p name)
kept_message p s v text = text

-- `C does not understand #sel` for a MessageNotUnderstood that keeps a Message, else the class's name
abbrev pub unkept_text : Program → Store → ℕ → ℕ → Text
unkept_text p s number class =
    if inherits p class message_not_understood_class && is_a s message_class (slot_of s (Object number) 1)
    then class_text p (class_of s (slot_of s (Object number) 2)) ++ codes " does not understand " ++ kept_message p s (slot_of s (slot_of s (Object number) 1) 0) []
    else (class_at p class).name

-- the text of an exception: its message text where that is a String or Symbol
unfoldable pub exception_text : Program → Store → ℕ → Text
exception_text p s number = or_text (bytes_of p s (slot_of s (Object number) 0)) (unkept_text p s number (object_at number s).class)
