-- The built-in classes by number, and the table of built-in messages (ANSI 5): class, side, selector, and what it does.
use Rattle.std.specs.Prelude.{ℕ, suc, Bool, true, false, ◌&&◌, List, [], ◌∷◌, ◌++◌, map, get_or, Option, Some, None, nat_eq, codes}
use Prim.Native.String.{String}
use Rattle.st_code.specs.Texts.{Text, same_text}
use Rattle.st_code.specs.Program.{Side, OfInstance, OfClass, same_side, ClassRow, NoIndexes}
use Rattle.st_code.specs.Messages.{ObjectMessage, Row, Objects}
use Rattle.st_code.specs.BuiltInRows.{RowAt, object_rows, class_rows, boolean_rows, integer_rows, fraction_class_rows, fraction_rows, character_class_rows, character_rows, transcript_rows, string_rows, string_class_rows, symbol_rows, sequence_rows, at_put_rows, array_class_rows, byte_array_class_rows, ordered_class_rows, ordered_rows, set_class_rows, dictionary_class_rows, set_size_rows, dictionary_size_rows, association_class_rows, association_rows, arrow_rows, interval_making_rows, block_rows, exception_class_rows, exception_rows, notification_action_rows, warning_action_rows, notification_resumable_rows, zero_divide_rows, not_understood_rows, message_rows, exception_set_rows, while_rows, count_rows, do_rows, reverse_do_rows, keys_do_rows, dictionary_keys_do_rows, inject_rows, detect_rows, satisfy_rows, collect_rows, includes_rows, index_rows, set_rows, remove_rows, dictionary_rows, equal_rows, not_equal_rows}

-- a built-in class: its name, the number of its superclass, and how many named slots its instances have
pub record BuiltInClass : Type 0 where
  pub name : Text
  pub superclass : Option ℕ
  pub slots : ℕ

abbrev pub object_class : ℕ
object_class = 0

abbrev pub undefined_object_class : ℕ
undefined_object_class = 1

abbrev pub boolean_class : ℕ
boolean_class = 2

abbrev pub true_class : ℕ
true_class = 3

abbrev pub false_class : ℕ
false_class = 4

abbrev pub integer_class : ℕ
integer_class = 5

abbrev pub fraction_class : ℕ
fraction_class = 6

abbrev pub character_class : ℕ
character_class = 7

abbrev pub collection_class : ℕ
collection_class = 8

abbrev pub string_class : ℕ
string_class = 9

abbrev pub symbol_class : ℕ
symbol_class = 10

abbrev pub array_class : ℕ
array_class = 11

abbrev pub byte_array_class : ℕ
byte_array_class = 12

abbrev pub ordered_collection_class : ℕ
ordered_collection_class = 13

abbrev pub set_class : ℕ
set_class = 14

abbrev pub dictionary_class : ℕ
dictionary_class = 15

abbrev pub interval_class : ℕ
interval_class = 16

abbrev pub association_class : ℕ
association_class = 17

abbrev pub block_class : ℕ
block_class = 18

abbrev pub message_class : ℕ
message_class = 19

abbrev pub class_class : ℕ
class_class = 20

abbrev pub metaclass_class : ℕ
metaclass_class = 21

abbrev pub transcript_writer_class : ℕ
transcript_writer_class = 22

abbrev pub exception_class : ℕ
exception_class = 23

abbrev pub error_class : ℕ
error_class = 24

abbrev pub zero_divide_class : ℕ
zero_divide_class = 25

abbrev pub message_not_understood_class : ℕ
message_not_understood_class = 26

abbrev pub notification_class : ℕ
notification_class = 27

abbrev pub warning_class : ℕ
warning_class = 28

abbrev pub exception_set_class : ℕ
exception_set_class = 29

abbrev built : String → Option ℕ → ℕ → BuiltInClass
built name superclass slots = record { name = codes name; superclass = superclass; slots = slots }

-- the built-in classes, by number
unfoldable pub built_in_classes : List BuiltInClass
built_in_classes =
    built "Object" None 0 ∷
    built "UndefinedObject" (Some object_class) 0 ∷
    built "Boolean" (Some object_class) 0 ∷
    built "True" (Some boolean_class) 0 ∷
    built "False" (Some boolean_class) 0 ∷
    built "Integer" (Some object_class) 0 ∷
    built "Fraction" (Some object_class) 2 ∷
    built "Character" (Some object_class) 0 ∷
    built "Collection" (Some object_class) 0 ∷
    built "String" (Some collection_class) 0 ∷
    built "Symbol" (Some string_class) 0 ∷
    built "Array" (Some collection_class) 0 ∷
    built "ByteArray" (Some collection_class) 0 ∷
    built "OrderedCollection" (Some collection_class) 0 ∷
    built "Set" (Some collection_class) 0 ∷
    built "Dictionary" (Some collection_class) 0 ∷
    built "Interval" (Some collection_class) 3 ∷
    built "Association" (Some object_class) 2 ∷
    built "Block" (Some object_class) 0 ∷
    built "Message" (Some object_class) 2 ∷
    built "Class" (Some object_class) 0 ∷
    built "Metaclass" (Some object_class) 0 ∷
    built "TranscriptWriter" (Some object_class) 0 ∷
    built "Exception" (Some object_class) 1 ∷
    built "Error" (Some exception_class) 1 ∷
    built "ZeroDivide" (Some error_class) 2 ∷
    built "MessageNotUnderstood" (Some error_class) 3 ∷
    built "Notification" (Some exception_class) 1 ∷
    built "Warning" (Some notification_class) 1 ∷
    built "ExceptionSet" (Some object_class) 0 ∷ []

abbrev row_of : BuiltInClass → ClassRow
row_of c = record { name = c.name; superclass = c.superclass; in_file = false; indexed = NoIndexes; slots = c.slots; class_slots = 0 }

-- the first classes of every program
unfoldable pub built_in_class_rows : List ClassRow
unfolding built_in_classes
built_in_class_rows = map row_of built_in_classes

-- the rows of a class on a side
pub record Section : Type 0 where
  pub class : ℕ
  pub side : Side
  pub rows : List RowAt

abbrev section : ℕ → Side → List RowAt → Section
section class side rows = record { class = class; side = side; rows = rows }

-- each of these classes has the rows, for its instances
abbrev sections : List ℕ → List RowAt → List Section
sections [] rows = []
sections (class ∷ classes) rows = section class OfInstance rows ∷ sections classes rows

-- the classes whose elements stand at places
abbrev sequence_classes : List ℕ
sequence_classes = string_class ∷ symbol_class ∷ array_class ∷ byte_array_class ∷ ordered_collection_class ∷ interval_class ∷ []

-- the classes whose elements are visited
abbrev element_classes : List ℕ
element_classes = string_class ∷ symbol_class ∷ array_class ∷ byte_array_class ∷ ordered_collection_class ∷ set_class ∷ dictionary_class ∷ interval_class ∷ []

-- the whole table. A message's number is its place in it
unfoldable pub built_in_messages : List Section
unfolding object_rows class_rows boolean_rows integer_rows fraction_class_rows fraction_rows character_class_rows character_rows transcript_rows string_rows string_class_rows symbol_rows sequence_rows at_put_rows array_class_rows byte_array_class_rows ordered_class_rows ordered_rows set_class_rows dictionary_class_rows set_size_rows dictionary_size_rows association_class_rows association_rows arrow_rows interval_making_rows block_rows exception_class_rows exception_rows notification_action_rows warning_action_rows notification_resumable_rows zero_divide_rows not_understood_rows message_rows exception_set_rows while_rows count_rows do_rows reverse_do_rows keys_do_rows dictionary_keys_do_rows inject_rows detect_rows satisfy_rows collect_rows includes_rows index_rows set_rows remove_rows dictionary_rows equal_rows not_equal_rows
built_in_messages =
    section object_class OfInstance object_rows ∷
    section class_class OfInstance class_rows ∷
    section boolean_class OfInstance boolean_rows ∷
    section integer_class OfInstance integer_rows ∷
    section fraction_class OfClass fraction_class_rows ∷
    section fraction_class OfInstance fraction_rows ∷
    section character_class OfClass character_class_rows ∷
    section character_class OfInstance character_rows ∷
    section transcript_writer_class OfInstance transcript_rows ∷
    section string_class OfInstance string_rows ∷
    section string_class OfClass string_class_rows ∷
    section symbol_class OfInstance symbol_rows ∷
    sections sequence_classes sequence_rows ++
    sections (string_class ∷ array_class ∷ byte_array_class ∷ ordered_collection_class ∷ []) at_put_rows ++
    section array_class OfClass array_class_rows ∷
    section byte_array_class OfClass byte_array_class_rows ∷
    section ordered_collection_class OfClass ordered_class_rows ∷
    section ordered_collection_class OfInstance ordered_rows ∷
    section set_class OfClass set_class_rows ∷
    section dictionary_class OfClass dictionary_class_rows ∷
    section set_class OfInstance set_size_rows ∷
    section dictionary_class OfInstance dictionary_size_rows ∷
    section association_class OfClass association_class_rows ∷
    section association_class OfInstance association_rows ∷
    section object_class OfInstance arrow_rows ∷
    section integer_class OfInstance interval_making_rows ∷
    section block_class OfInstance block_rows ∷
    section exception_class OfClass exception_class_rows ∷
    section exception_class OfInstance exception_rows ∷
    section notification_class OfInstance notification_action_rows ∷
    section warning_class OfInstance warning_action_rows ∷
    section notification_class OfInstance notification_resumable_rows ∷
    section zero_divide_class OfInstance zero_divide_rows ∷
    section message_not_understood_class OfInstance not_understood_rows ∷
    section message_class OfInstance message_rows ∷
    section exception_set_class OfInstance exception_set_rows ∷
    section block_class OfInstance while_rows ∷
    section integer_class OfInstance count_rows ∷
    sections element_classes do_rows ++
    sections sequence_classes reverse_do_rows ++
    sections sequence_classes keys_do_rows ++
    section dictionary_class OfInstance dictionary_keys_do_rows ∷
    sections element_classes inject_rows ++
    sections element_classes detect_rows ++
    sections element_classes satisfy_rows ++
    sections element_classes collect_rows ++
    sections element_classes includes_rows ++
    sections sequence_classes index_rows ++
    section set_class OfInstance set_rows ∷
    section ordered_collection_class OfInstance remove_rows ∷
    section dictionary_class OfInstance dictionary_rows ∷
    sections (array_class ∷ ordered_collection_class ∷ []) equal_rows ++
    section object_class OfInstance not_equal_rows ∷
    []

-- the row of a selector, unless there is none
unfoldable pub row_in : List RowAt → Text → Option Row
row_in [] selector = None
row_in (r ∷ rows) selector = elim (same_text r.selector selector) [ true ↦ Some r.row | false ↦ row_in rows selector ]

abbrev pub is_section : ℕ → Side → Section → Bool
is_section class side s = nat_eq s.class class && same_side s.side side

abbrev pub or_else : Option Row → Option Row → Option Row
or_else (Some r) o = Some r
or_else None o = o

unfoldable pub row_in_sections : List Section → ℕ → Side → Text → Option Row
unfolding row_in
row_in_sections [] class side selector = None
row_in_sections (s ∷ sections) class side selector =
    elim (is_section class side s) [ true ↦ or_else (row_in s.rows selector) (row_in_sections sections class side selector) | false ↦ row_in_sections sections class side selector ]

-- what a selector does for this class itself on this side
unfoldable pub row_at : ℕ → Side → Text → Option Row
unfolding built_in_messages row_in_sections
row_at class side selector = row_in_sections built_in_messages class side selector

-- ---- messages by number

-- a message: the class and side that have it, its selector, and what it does
pub record BuiltInMessage : Type 0 where
  pub class : ℕ
  pub side : Side
  pub selector : Text
  pub row : Row

abbrev pub messages_of : ℕ → Side → List RowAt → List BuiltInMessage
messages_of class side [] = []
messages_of class side (r ∷ rows) = record { class = class; side = side; selector = r.selector; row = r.row } ∷ messages_of class side rows

abbrev pub messages_in : List Section → List BuiltInMessage
messages_in [] = []
messages_in (s ∷ sections) = messages_of s.class s.side s.rows ++ messages_in sections

-- the messages in the order of their numbers
unfoldable pub numbered_messages : List BuiltInMessage
unfolding built_in_messages
numbered_messages = messages_in built_in_messages

abbrev pub is_message : ℕ → Side → Text → BuiltInMessage → Bool
is_message class side selector m = (nat_eq m.class class && same_side m.side side) && same_text m.selector selector

abbrev pub place_of_message : ℕ → List BuiltInMessage → ℕ → Side → Text → Option ℕ
place_of_message n [] class side selector = None
place_of_message n (m ∷ messages) class side selector = elim (is_message class side selector m) [ true ↦ Some n | false ↦ place_of_message (suc n) messages class side selector ]

-- the number of the message that this class itself has on this side
unfoldable pub message_number : ℕ → Side → Text → Option ℕ
message_number class side selector = place_of_message 0 numbered_messages class side selector

abbrev pub no_message : BuiltInMessage
no_message = record { class = 0; side = OfInstance; selector = []; row = Objects ObjectMessage.Same }

-- what the message with this number does
unfoldable pub numbered_row : ℕ → Row
numbered_row n = (get_or numbered_messages n no_message).row
