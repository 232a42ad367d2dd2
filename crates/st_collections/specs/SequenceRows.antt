-- Messages of Strings, Symbols, Arrays, ByteArrays, OrderedCollections, Intervals, Sets, Dictionaries and Associations that act at once (ANSI 5.7).
use Rattle.std.specs.Prelude.{ℕ, zero, suc, ◌+◌, ◌-◌, ◌*◌, ◌/◌, max, ℤ, pos, int_lt, Bool, true, false, not, ◌&&◌, List, [], ◌∷◌, ◌++◌, map, reverse, length, get_or, replicate, insert, remove, Option, Some, None, nat_eq, nat_le, if◌then◌else◌}
use Rattle.object_heap.specs.declared.value.Value.{Value}
use Rattle.object_heap.specs.declared.value.Value.TheVariants.{Nil, Integer, Character, Class, Object}
use Rattle.object_heap.specs.declared.trouble.Trouble.TheVariants.{IndexOutOfRange, NumberExpected, CharacterExpected, ByteExpected, CollectionExpected, LiteralIsReadOnly, CollectionIsEmpty}
use Rattle.object_heap.specs.declared.trouble.Trouble.{Trouble}
use Rattle.object_heap.specs.Store.{Store, Object as HeapObject, object_at, object_set, with_slot, with_byte}
use Rattle.st_code.specs.Program.{Program}
use Rattle.st_code.specs.BuiltIns.{string_class, byte_array_class, array_class, ordered_collection_class, dictionary_class, association_class}
use Rattle.st_code.specs.Messages.{SequenceMessage, CollectionMessage}
use Rattle.st_collections.specs.Actions.{Action, Gives, Changes, Makes, Fails, boolean, first, second, makes_slots, makes_bytes}
use Rattle.st_collections.specs.Kinds.{size_of, element, some_elements, elements, is_sequence, is_collection, species, integer_of, natural_of}
use Rattle.st_collections.specs.ObjectRows.{indexed, index_in, byte_value, byte_put, sized}
use Rattle.st_collections.specs.TextRows.{with_character, byte_of}

abbrev pub byte_in : Value → ℕ
byte_in v = natural_of (integer_of v)

-- a new sequence of this class
unfoldable pub makes_sequence : ℕ → List Value → Store → Action
makes_sequence class items s =
    if nat_eq class string_class then makes_bytes string_class (map byte_of items) s else
    (if nat_eq class byte_array_class then makes_bytes byte_array_class (map byte_in items) s else makes_slots class items s)

-- ---- elements by index

abbrev pub written : Store → ℕ → ℕ → ℕ → Value → Action
written s number class i v =
    if nat_eq class string_class then with_character v (λ b. Changes (with_byte number i b s) v) else
    (if nat_eq class byte_array_class then byte_put s number i v else Changes (with_slot number i v s) v)

-- a literal and a Symbol are read-only
abbrev pub at_put : Program → Store → Value → Value → Value → Action
at_put p s (Object number) at v =
    let o = object_at number s in
    if o.read_only then Fails LiteralIsReadOnly else indexed at (size_of p s (Object number)) (λ i. written s number o.class i v)
at_put p s r at v = Fails LiteralIsReadOnly

abbrev pub unless_empty : Program → Store → Value → Action → Action
unless_empty p s r act = if nat_eq (size_of p s r) 0 then Fails CollectionIsEmpty else act

-- ---- `,` and `copyFrom:to:`

abbrev pub is_byte : Value → Bool
is_byte v = elim (byte_value v) [ Some n ↦ true | None ↦ false ]

abbrev pub is_character : Value → Bool
is_character (Character b) = true
is_character v = false

abbrev pub all_values : (Value → Bool) → List Value → Bool
all_values test [] = true
all_values test (v ∷ vs) = elim (test v) [ true ↦ all_values test vs | false ↦ false ]

-- the trouble with these as elements of this class
abbrev pub element_trouble : ℕ → List Value → Option Trouble
element_trouble class items =
    if nat_eq class string_class then (if all_values is_character items then None else Some CharacterExpected) else
    (if nat_eq class byte_array_class then (if all_values is_byte items then None else Some ByteExpected) else None)

abbrev pub join : Program → Store → Value → Value → Action
join p s r v = if is_sequence s v then elim (element_trouble (species s r) (elements p s v)) [
  | Some trouble ↦ Fails trouble
  | None ↦ makes_sequence (species s r) (elements p s r ++ elements p s v) s
] else Fails CollectionExpected

abbrev pub is_index : ℕ → ℤ → Bool
is_index size i = elim (index_in size i) [ Some n ↦ true | None ↦ false ]

abbrev pub copy_between : Program → Store → Value → ℤ → ℤ → Action
copy_between p s r i j =
    if int_lt j i then makes_sequence (species s r) [] s else
    (if is_index (size_of p s r) i && is_index (size_of p s r) j
    then makes_sequence (species s r) (some_elements p s r (natural_of i) (natural_of j + 1 - natural_of i)) s
    else Fails IndexOutOfRange)

abbrev pub copy_from_to : Program → Store → Value → Value → Value → Action
copy_from_to p s r (Integer i) (Integer j) = copy_between p s r i j
copy_from_to p s r v w = Fails NumberExpected

unfoldable pub sequence_action : Program → Store → SequenceMessage → Value → List Value → Action
sequence_action p s SequenceMessage.At r args = indexed (first args) (size_of p s r) (λ i. Gives (element p s r (i + 1)))
sequence_action p s SequenceMessage.Size r args = Gives (Integer (pos (size_of p s r)))
sequence_action p s SequenceMessage.IsEmpty r args = Gives (boolean (nat_eq (size_of p s r) 0))
sequence_action p s SequenceMessage.NotEmpty r args = Gives (boolean (not (nat_eq (size_of p s r) 0)))
sequence_action p s SequenceMessage.First r args = unless_empty p s r (Gives (element p s r 1))
sequence_action p s SequenceMessage.Last r args = unless_empty p s r (Gives (element p s r (size_of p s r)))
sequence_action p s SequenceMessage.Join r args = join p s r (first args)
sequence_action p s SequenceMessage.CopyFromTo r args = copy_from_to p s r (first args) (second args)
sequence_action p s SequenceMessage.Reverse r args = makes_sequence (species s r) (reverse (elements p s r)) s
sequence_action p s SequenceMessage.AsArray r args = makes_slots array_class (elements p s r) s
sequence_action p s SequenceMessage.AsOrderedCollection r args = makes_slots ordered_collection_class (elements p s r) s
sequence_action p s SequenceMessage.AtPut r args = at_put p s r (first args) (second args)

-- ---- collections that grow: room for elements is taken in steps, the greater of 4 and twice what there was

-- room for so many elements, and the cells that the growths take together
pub record Room : Type 0 where
  pub elements : ℕ
  pub cells : ℕ

abbrev pub grown_in : ℕ → ℕ → ℕ → ℕ → Room
grown_in zero size room cells = record { elements = room; cells = cells }
grown_in (suc n) size room cells = elim (nat_le size room) [
  | true ↦ record { elements = room; cells = cells }
  | false ↦ let more = max 4 (2 * room) in grown_in n size more (cells + more)
]

-- the room that so many elements ask for where there is this much
unfoldable pub grown_to : (size room : ℕ) → Room
grown_to size room = grown_in size size room 0

abbrev pub per_element : ℕ → ℕ
per_element class = if nat_eq class dictionary_class then 2 else 1

abbrev pub with_room : HeapObject → List Value → ℕ → HeapObject
with_room o slots capacity = record { class = o.class; slots = slots; bytes = o.bytes; capacity = capacity; read_only = o.read_only; closure = o.closure }

-- a collection's slots after elements were added to it: the cells of its growth, and the store
pub record Grown : Type 0 where
  pub cells : ℕ
  pub store : Store

unfoldable pub with_elements : Store → ℕ → List Value → Grown
with_elements s number slots =
    let o = object_at number s in
    let per = per_element o.class in
    let room = grown_to (length slots / per) (o.capacity / per) in
    record { cells = per * room.cells; store = object_set number (with_room o slots (per * room.elements)) s }

abbrev pub adds : Store → ℕ → List Value → Value → Action
adds s number slots v = let g = with_elements s number slots in Makes g.cells g.store v

abbrev pub with_slots_of : Store → ℕ → List Value → Store
with_slots_of s number slots = object_set number (with_room (object_at number s) slots (object_at number s).capacity) s

-- the store with an element of a collection taken out, by its place from 0
unfoldable pub without_element : Store → ℕ → ℕ → Store
without_element s number i = with_slots_of s number (remove (object_at number s).slots i)

-- every second value, from the first on, and from the second on
abbrev mutual
  pub firsts : List Value → List Value
  firsts [] = []
  firsts (v ∷ vs) = v ∷ seconds vs

  pub seconds : List Value → List Value
  seconds [] = []
  seconds (v ∷ vs) = firsts vs

abbrev pub class_number : Value → ℕ
class_number (Class class) = class
class_number v = 0

abbrev pub ordered_at : Program → Store → CollectionMessage → ℕ → List Value → Action
ordered_at p s CollectionMessage.Add n args = adds s n ((object_at n s).slots ++ first args ∷ []) (first args)
ordered_at p s CollectionMessage.AddFirst n args = adds s n (first args ∷ (object_at n s).slots) (first args)
ordered_at p s CollectionMessage.AddAll n args = if is_collection s (first args) then adds s n ((object_at n s).slots ++ elements p s (first args)) (first args) else Fails CollectionExpected
ordered_at p s CollectionMessage.RemoveFirst n args = unless_empty p s (Object n) (Changes (without_element s n 0) (get_or (object_at n s).slots 0 Nil))
ordered_at p s CollectionMessage.RemoveLast n args =
    let last = length (object_at n s).slots - 1 in
    unless_empty p s (Object n) (Changes (without_element s n last) (get_or (object_at n s).slots last Nil))
ordered_at p s CollectionMessage.AddBeforeIndex n args = indexed (second args) (length (object_at n s).slots + 1) (λ i. adds s n (insert (object_at n s).slots i (first args)) (first args))
ordered_at p s CollectionMessage.RemoveAtIndex n args = indexed (first args) (length (object_at n s).slots) (λ i. Changes (without_element s n i) (get_or (object_at n s).slots i Nil))
ordered_at p s CollectionMessage.Keys n args = makes_slots array_class (firsts (object_at n s).slots) s
ordered_at p s CollectionMessage.Values n args = makes_slots array_class (seconds (object_at n s).slots) s
ordered_at p s m n args = Gives Nil

abbrev pub changed : Program → Store → CollectionMessage → Value → List Value → Action
changed p s m (Object n) args = ordered_at p s m n args
changed p s m r args = Gives Nil

unfoldable pub collection_action : Program → Store → CollectionMessage → Value → List Value → Action
collection_action p s CollectionMessage.NewArray r args = sized (first args) (λ n. makes_slots array_class (replicate n Nil) s)
collection_action p s CollectionMessage.NewByteArray r args = sized (first args) (λ n. makes_bytes byte_array_class (replicate n 0) s)
collection_action p s CollectionMessage.With r args = makes_slots array_class args s
collection_action p s CollectionMessage.WithAll r args = if is_collection s (first args) then makes_slots array_class (elements p s (first args)) s else Fails CollectionExpected
collection_action p s CollectionMessage.NewEmpty r args = makes_slots (class_number r) [] s
collection_action p s CollectionMessage.KeyValue r args = makes_slots association_class (first args ∷ second args ∷ []) s
collection_action p s m r args = changed p s m r args
