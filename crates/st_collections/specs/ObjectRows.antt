-- Messages of every object, of classes and of Booleans (ANSI 5.3.1, 5.3.3).
use Rattle.std.specs.Prelude.{ℕ, ◌+◌, ◌-◌, ℤ, pos, negsuc, Bool, true, false, not, ◌&&◌, ◌||◌, List, [], ◌∷◌, length, get_or, Option, Some, None, nat_eq, nat_le, is_some, if◌then◌else◌, codes}
use Rattle.object_heap.specs.declared.value.Value.{Value}
use Rattle.object_heap.specs.declared.value.Value.TheVariants.{Nil, True, False, Integer, Character, Symbol, Class, Meta, Object}
use Rattle.object_heap.specs.declared.trouble.Trouble.TheVariants.{WrongNumberOfArguments, IndexOutOfRange, NumberExpected, BooleanExpected, ByteExpected, CollectionExpected, SymbolExpected, NotIndexed, CannotBeInstantiated, SubclassResponsibility}
use Rattle.object_heap.specs.declared.value.Closure.{Closure}
use Rattle.object_heap.specs.Store.{Store, Object as HeapObject, block_added, closure_at, object_at, object_added, with_slot, with_byte}
use Rattle.object_heap.specs.Charges.{object_charge}
use Rattle.st_code.specs.Texts.{arity}
use Rattle.st_code.specs.Program.{Program, Indexed, NoIndexes, ByObject, ByByte, Side, OfInstance, OfClass, same_side, class_at, name_at, number_of}
use Rattle.st_code.specs.BuiltIns.{array_class, association_class, error_class, message_not_understood_class}
use Rattle.st_code.specs.Messages.{ObjectMessage, ClassMessage, BooleanMessage}
use Rattle.st_code.specs.Lookup.{Level, level_of, walk, lookup, class_of}
use Rattle.st_collections.specs.Actions.{Action, Gives, Changes, Makes, Fails, Begins, Sends, RaisesNew, boolean, first, second, next_object, makes_slots, makes_string, makes_blank}
use Rattle.st_collections.specs.Kinds.{same_value, bytes_of, is_a, slots_of, print_text, is_true}

abbrev is_level : Side → ℕ → List Level → Bool
is_level side class [] = false
is_level side class (l ∷ levels) = elim (nat_eq l.class class && same_side l.side side) [ true ↦ true | false ↦ is_level side class levels ]

-- `isKindOf:`, the argument is a class on the receiver's walk
abbrev is_kind_of : List Level → Value → Bool
is_kind_of levels (Class class) = is_level OfInstance class levels
is_kind_of levels (Meta class) = is_level OfClass class levels
is_kind_of levels v = false

abbrev responds_to : Program → Store → Value → Value → Action
responds_to p s r (Symbol name) = Gives (boolean (is_some (lookup p (level_of s r) name)))
responds_to p s r v = Fails SymbolExpected

-- a copy is one level deep and never read-only; that of a block is a new block with the same closure
abbrev pub copied : Store → HeapObject → Option Closure → Action
copied s o None = Makes (object_charge (length o.slots) (length o.bytes)) (object_added (record { class = o.class; slots = o.slots; bytes = o.bytes; capacity = length o.slots; read_only = false; closure = None }) s) (next_object s)
copied s o (Some closure) = Makes 2 (block_added o.class closure s) (next_object s)

abbrev pub copy : Store → Value → Action
copy s (Object number) = copied s (object_at number s) (closure_at number s)
copy s v = Gives v

abbrev display : Program → Store → Value → Action
display p s (Character byte) = makes_string (byte ∷ []) s
display p s r = elim (bytes_of p s r) [ Some bytes ↦ makes_string bytes s | None ↦ Sends (number_of p (codes "printString")) r [] ]

-- ---- indexed variables of classes of the file

abbrev index_kind : Program → ℕ → Indexed
index_kind p class = if (class_at p class).in_file then (class_at p class).indexed else NoIndexes

-- how many indexed variables an object has, by its named slots
abbrev indexed_size : Indexed → ℕ → HeapObject → ℕ
indexed_size ByByte named o = length o.bytes
indexed_size kind named o = length o.slots - named

-- an index from 0, unless it is out of range
abbrev pub index_in : ℕ → ℤ → Option ℕ
index_in size (pos n) = if nat_le 1 n && nat_le n size then Some (n - 1) else None
index_in size (negsuc n) = None

abbrev pub indexed : Value → ℕ → (ℕ → Action) → Action
indexed (Integer n) size act = elim (index_in size n) [ Some i ↦ act i | None ↦ Fails IndexOutOfRange ]
indexed v size act = Fails NumberExpected

abbrev index_size : Program → HeapObject → Action
index_size p o = elim (index_kind p o.class) [
  | NoIndexes ↦ Fails NotIndexed
  | ByObject ↦ Gives (Integer (pos (length o.slots - (class_at p o.class).slots)))
  | ByByte ↦ Gives (Integer (pos (length o.bytes)))
]

abbrev index_read : Program → HeapObject → Value → Action
index_read p o at = elim (index_kind p o.class) [
  | NoIndexes ↦ Fails NotIndexed
  | ByObject ↦ let named = (class_at p o.class).slots in indexed at (length o.slots - named) (λ i. Gives (get_or o.slots (named + i) Nil))
  | ByByte ↦ indexed at (length o.bytes) (λ i. Gives (Integer (pos (get_or o.bytes i 0))))
]

abbrev pub byte_value : Value → Option ℕ
byte_value (Integer (pos n)) = if nat_le n 255 then Some n else None
byte_value v = None

abbrev pub byte_put : Store → ℕ → ℕ → Value → Action
byte_put s number i v = elim (byte_value v) [ Some byte ↦ Changes (with_byte number i byte s) v | None ↦ Fails ByteExpected ]

abbrev index_written : Program → Store → ℕ → HeapObject → Value → Value → Action
index_written p s number o at v = elim (index_kind p o.class) [
  | NoIndexes ↦ Fails NotIndexed
  | ByObject ↦ let named = (class_at p o.class).slots in indexed at (length o.slots - named) (λ i. Changes (with_slot number (named + i) v s) v)
  | ByByte ↦ indexed at (length o.bytes) (λ i. byte_put s number i v)
]

abbrev of_object : Value → (ℕ → Action) → Action
of_object (Object number) act = act number
of_object v act = Fails NotIndexed

-- ---- `perform:` and its kin

abbrev perform : Program → Value → ℕ → List Value → Action
perform p r name values = if nat_eq (arity (name_at p name)) (length values) then Sends name r values else Fails WrongNumberOfArguments

abbrev performed : Program → Value → Value → List Value → Action
performed p r (Symbol name) values = perform p r name values
performed p r v values = Fails SymbolExpected

abbrev performed_with : Program → Store → Value → Value → Value → Action
performed_with p s r (Symbol name) array = if is_a s array_class array then perform p r name (slots_of s array) else Fails CollectionExpected
performed_with p s r v array = Fails SymbolExpected

abbrev behind_first : List Value → List Value
behind_first [] = []
behind_first (v ∷ vs) = vs

unfoldable pub object_action : Program → Store → ObjectMessage → Value → List Value → Action
object_action p s ObjectMessage.Same r args = Gives (boolean (same_value r (first args)))
object_action p s ObjectMessage.NotSame r args = Gives (boolean (not (same_value r (first args))))
object_action p s ObjectMessage.ClassOf r args = Gives (class_of s r)
object_action p s ObjectMessage.IsNil r args = Gives (boolean (same_value r Nil))
object_action p s ObjectMessage.NotNil r args = Gives (boolean (not (same_value r Nil)))
object_action p s ObjectMessage.IsString r args = Gives (boolean (is_some (bytes_of p s r)))
object_action p s ObjectMessage.IsSymbol (Symbol name) args = Gives True
object_action p s ObjectMessage.IsSymbol r args = Gives False
object_action p s ObjectMessage.IsKindOf r args = Gives (boolean (is_kind_of (walk p (level_of s r)) (first args)))
object_action p s ObjectMessage.IsMemberOf r args = Gives (boolean (same_value (class_of s r) (first args)))
object_action p s ObjectMessage.RespondsTo r args = responds_to p s r (first args)
object_action p s ObjectMessage.Hash r args = Gives (Integer (pos 0))
object_action p s ObjectMessage.Yourself r args = Gives r
object_action p s ObjectMessage.Copy r args = copy s r
object_action p s ObjectMessage.PrintString r args = makes_string (print_text p s r) s
object_action p s ObjectMessage.DisplayString r args = display p s r
object_action p s ObjectMessage.Size r args = of_object r (λ n. index_size p (object_at n s))
object_action p s ObjectMessage.At r args = of_object r (λ n. index_read p (object_at n s) (first args))
object_action p s ObjectMessage.AtPut r args = of_object r (λ n. index_written p s n (object_at n s) (first args) (second args))
object_action p s ObjectMessage.ErrorText r args = RaisesNew error_class (first args ∷ [])
object_action p s ObjectMessage.SubclassResponsibility r args = Fails SubclassResponsibility
object_action p s ObjectMessage.NotUnderstood r args = RaisesNew message_not_understood_class (Nil ∷ first args ∷ r ∷ [])
object_action p s ObjectMessage.Perform r args = performed p r (first args) (behind_first args)
object_action p s ObjectMessage.PerformWithArguments r args = performed_with p s r (first args) (second args)
object_action p s ObjectMessage.Arrow r args = makes_slots association_class (r ∷ first args ∷ []) s

-- ---- classes

abbrev class_above : Option ℕ → Value
class_above None = Nil
class_above (Some c) = Class c

abbrev pub sized : Value → (ℕ → Action) → Action
sized (Integer (pos n)) act = act n
sized (Integer (negsuc n)) act = Fails IndexOutOfRange
sized v act = Fails NumberExpected

abbrev new_of : Program → Store → ℕ → Action
new_of p s class = if (class_at p class).in_file then makes_blank class (class_at p class).slots 0 s else Fails CannotBeInstantiated

abbrev new_sized : Program → Store → ℕ → Value → Action
new_sized p s class v = if (class_at p class).in_file then elim (class_at p class).indexed [
  | NoIndexes ↦ Fails NotIndexed
  | ByObject ↦ sized v (λ n. makes_blank class ((class_at p class).slots + n) 0 s)
  | ByByte ↦ sized v (λ n. makes_blank class (class_at p class).slots n s)
] else Fails CannotBeInstantiated

abbrev class_action_at : Program → Store → ClassMessage → ℕ → List Value → Action
class_action_at p s ClassMessage.Name class args = makes_string (class_at p class).name s
class_action_at p s ClassMessage.Superclass class args = Gives (class_above (class_at p class).superclass)
class_action_at p s ClassMessage.New class args = new_of p s class
class_action_at p s ClassMessage.NewSize class args = new_sized p s class (first args)

unfoldable pub class_action : Program → Store → ClassMessage → Value → List Value → Action
class_action p s m (Class class) args = class_action_at p s m class args
class_action p s m r args = Gives Nil

-- ---- Booleans

abbrev with_boolean : Value → (Bool → Action) → Action
with_boolean True act = act true
with_boolean False act = act false
with_boolean v act = Fails BooleanExpected

abbrev differ : Bool → Bool → Bool
differ true b = not b
differ false b = b

unfoldable pub boolean_action : BooleanMessage → Value → List Value → Action
boolean_action BooleanMessage.And r args = with_boolean (first args) (λ b. Gives (boolean (is_true r && b)))
boolean_action BooleanMessage.Or r args = with_boolean (first args) (λ b. Gives (boolean (is_true r || b)))
boolean_action BooleanMessage.Xor r args = with_boolean (first args) (λ b. Gives (boolean (differ (is_true r) b)))
boolean_action BooleanMessage.Not r args = Gives (boolean (not (is_true r)))
boolean_action BooleanMessage.AndThen r args = if is_true r then Begins (first args) [] else Gives r
boolean_action BooleanMessage.OrElse r args = if is_true r then Gives r else Begins (first args) []
boolean_action BooleanMessage.IfTrue r args = if is_true r then Begins (first args) [] else Gives Nil
boolean_action BooleanMessage.IfFalse r args = if is_true r then Gives Nil else Begins (first args) []
boolean_action BooleanMessage.IfTrueIfFalse r args = Begins (if is_true r then first args else second args) []
boolean_action BooleanMessage.IfFalseIfTrue r args = Begins (if is_true r then second args else first args) []
