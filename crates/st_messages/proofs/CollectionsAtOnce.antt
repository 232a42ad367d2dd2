-- The messages to characters, strings and collections begin nothing.
use Rattle.std.proofs.Common.{◌≡◌, ℕ, ◌+◌, ◌-◌, ◌^◌, Bool, true, false, ◌&&◌, nat_lt, List, [], ◌∷◌, ◌++◌, replicate, Option, Some, None, nat_eq, nat_le, refl, if◌then◌else◌}
use Rattle.std.specs.Prelude.{ℤ, pos, negsuc, int_lt, nat_abs}
use Rattle.object_heap.specs.declared.trouble.Trouble.{Trouble}
use Rattle.object_heap.specs.declared.value.Value.{Value}
use Rattle.object_heap.specs.declared.value.Value.TheVariants.{Nil, True, False, Integer, Character, Symbol, Class, Meta, Transcript, Object}
use Rattle.object_heap.specs.Store.{Store, object_at}
use Rattle.st_code.specs.Program.{Program}
use Rattle.st_code.specs.Texts.{Text}
use Rattle.st_code.specs.BuiltIns.{symbol_class, string_class, byte_array_class, interval_class}
use Rattle.st_code.specs.Messages.{CollectionMessage as CollectionRow}
use Rattle.st_collections.specs.Actions.{Action, Gives, Fails, PassesIntegers, first, second, makes_slots, makes_bytes, makes_string}
use Rattle.st_collections.specs.AtOnce.{action_of, character_row, string_row, sequence_row, making_action, pair_action, ordered_action}
use Rattle.st_collections.specs.IntervalRows.{interval, interval_by, with_integer}
use Rattle.st_collections.specs.Kinds.{bytes_of, elements, integer_of, interval_size, is_collection, natural_of, is_sequence, size_of, some_elements, species}
use Rattle.st_collections.specs.ObjectRows.{indexed, index_in, byte_value, sized, object_action}
use Rattle.st_collections.specs.SequenceRows.{at_put, changed, collection_action, copy_between, copy_from_to, element_trouble, is_index, join, makes_sequence, ordered_at, sequence_action, written}
use Rattle.st_collections.specs.TextRows.{character_action, from_code_point, new_string, string_action, with_character}
use Rattle.st_collections.specs.declared.message.CollectionMessage.{CollectionMessage}
use Rattle.st_collections.specs.declared.message.OfCharacter.{OfCharacter}
use Rattle.st_collections.specs.declared.message.OfMaking.{OfMaking}
use Rattle.st_collections.specs.declared.message.OfOrdered.{OfOrdered}
use Rattle.st_collections.specs.declared.message.OfPair.{OfPair}
use Rattle.st_collections.specs.declared.message.OfSequence.{OfSequence}
use Rattle.st_collections.specs.declared.message.OfString.{OfString}
use Rattle.st_messages.proofs.AtOnce.{is_at_once}

-- ---- choices

either : (b : Bool) (x y : Action) → is_at_once x ≡ true → is_at_once y ≡ true → is_at_once (if b then x else y) ≡ true
either true x y h k = h
either false x y h k = k

by_place : (o : Option ℕ) (act : ℕ → Action) (t : Trouble) → ((i : ℕ) → is_at_once (act i) ≡ true) → is_at_once (elim o [ Some i ↦ act i | None ↦ Fails t ]) ≡ true
by_place (Some i) act t h = h i
by_place None act t h = refl

indexed_once : (v : Value) (size : ℕ) (act : ℕ → Action) → ((i : ℕ) → is_at_once (act i) ≡ true) → is_at_once (indexed v size act) ≡ true
indexed_once (Integer n) size act h = by_place (index_in size n) act Trouble.IndexOutOfRange h
indexed_once Nil size act h = refl
indexed_once True size act h = refl
indexed_once False size act h = refl
indexed_once (Character b) size act h = refl
indexed_once (Symbol n) size act h = refl
indexed_once (Class n) size act h = refl
indexed_once (Meta n) size act h = refl
indexed_once Transcript size act h = refl
indexed_once (Object n) size act h = refl

sized_once : (v : Value) (act : ℕ → Action) → ((i : ℕ) → is_at_once (act i) ≡ true) → is_at_once (sized v act) ≡ true
sized_once (Integer (pos n)) act h = h n
sized_once (Integer (negsuc n)) act h = refl
sized_once Nil act h = refl
sized_once True act h = refl
sized_once False act h = refl
sized_once (Character b) act h = refl
sized_once (Symbol n) act h = refl
sized_once (Class n) act h = refl
sized_once (Meta n) act h = refl
sized_once Transcript act h = refl
sized_once (Object n) act h = refl

character_once : (v : Value) (act : ℕ → Action) → ((i : ℕ) → is_at_once (act i) ≡ true) → is_at_once (with_character v act) ≡ true
character_once (Integer n) act h = refl
character_once Nil act h = refl
character_once True act h = refl
character_once False act h = refl
character_once (Character b) act h = h b
character_once (Symbol n) act h = refl
character_once (Class n) act h = refl
character_once (Meta n) act h = refl
character_once Transcript act h = refl
character_once (Object n) act h = refl

integer_once : (v : Value) (act : ℤ → Action) → ((i : ℤ) → is_at_once (act i) ≡ true) → is_at_once (with_integer v act) ≡ true
integer_once (Integer n) act h = h n
integer_once Nil act h = refl
integer_once True act h = refl
integer_once False act h = refl
integer_once (Character b) act h = refl
integer_once (Symbol n) act h = refl
integer_once (Class n) act h = refl
integer_once (Meta n) act h = refl
integer_once Transcript act h = refl
integer_once (Object n) act h = refl

text_by : (o : Option Text) (act : Text → Action) → ((t : Text) → is_at_once (act t) ≡ true) → is_at_once (elim o [ Some t ↦ act t | None ↦ Fails Trouble.StringExpected ]) ≡ true
text_by (Some t) act h = h t
text_by None act h = refl

slots_once : (class : ℕ) (vs : List Value) (s : Store) → is_at_once (makes_slots class vs s) ≡ true
unfolding makes_slots
slots_once class vs s = refl

bytes_once : (class : ℕ) (t : Text) (s : Store) → is_at_once (makes_bytes class t s) ≡ true
unfolding makes_bytes
bytes_once class t s = refl

string_once : (t : Text) (s : Store) → is_at_once (makes_string t s) ≡ true
unfolding makes_string makes_bytes
string_once t s = refl

sequence_by : (b c : Bool) (x y z : Action) → is_at_once x ≡ true → is_at_once y ≡ true → is_at_once z ≡ true → is_at_once (if b then x else (if c then y else z)) ≡ true
sequence_by true c x y z h k l = h
sequence_by false true x y z h k l = k
sequence_by false false x y z h k l = l

sequence_once : (class : ℕ) (vs : List Value) (s : Store) → is_at_once (makes_sequence class vs s) ≡ true
unfolding makes_sequence makes_bytes makes_slots
sequence_once class vs s = sequence_by (nat_eq class string_class) (nat_eq class byte_array_class) _ _ _ refl refl refl

-- ---- characters and strings

code_point_once : (v : Value) → is_at_once (from_code_point v) ≡ true
code_point_once (Integer (pos n)) = either (nat_le n 255) (Gives (Character n)) (Fails Trouble.IndexOutOfRange) refl refl
code_point_once (Integer (negsuc n)) = refl
code_point_once Nil = refl
code_point_once True = refl
code_point_once False = refl
code_point_once (Character b) = refl
code_point_once (Symbol n) = refl
code_point_once (Class n) = refl
code_point_once (Meta n) = refl
code_point_once Transcript = refl
code_point_once (Object n) = refl

characters_once : (s : Store) (m : OfCharacter) (r : Value) (args : List Value) → is_at_once (character_action s (character_row m) r args) ≡ true
unfolding character_action makes_string makes_bytes
characters_once s OfCharacter.FromCodePoint r args = code_point_once (first args)
characters_once s OfCharacter.Cr r args = refl
characters_once s OfCharacter.Lf r args = refl
characters_once s OfCharacter.Tab r args = refl
characters_once s OfCharacter.Space r args = refl
characters_once s OfCharacter.CodePoint r args = refl
characters_once s OfCharacter.AsLowercase r args = refl
characters_once s OfCharacter.AsUppercase r args = refl
characters_once s OfCharacter.AsString r args = refl
characters_once s OfCharacter.IsLetter r args = refl
characters_once s OfCharacter.IsDigit r args = refl
characters_once s OfCharacter.IsAlphaNumeric r args = refl
characters_once s OfCharacter.IsLowercase r args = refl
characters_once s OfCharacter.IsUppercase r args = refl
characters_once s OfCharacter.Less r args = character_once (first args) _ (λ b. refl)
characters_once s OfCharacter.Greater r args = character_once (first args) _ (λ b. refl)
characters_once s OfCharacter.LessOrEqual r args = character_once (first args) _ (λ b. refl)
characters_once s OfCharacter.GreaterOrEqual r args = character_once (first args) _ (λ b. refl)

new_string_by : (b : Bool) (t : Text) (s : Store) (trouble : Trouble) → is_at_once (if b then Fails trouble else makes_string t s) ≡ true
unfolding makes_string makes_bytes
new_string_by true t s trouble = refl
new_string_by false t s trouble = refl

new_string_once : (s : Store) (r v : Value) → is_at_once (new_string s r v) ≡ true
new_string_once s (Class c) (Integer (pos n)) = new_string_by (nat_eq c symbol_class) (replicate n 32) s Trouble.CannotBeInstantiated
new_string_once s (Class c) (Integer (negsuc n)) = either (nat_eq c symbol_class) _ _ refl refl
new_string_once s (Class c) Nil = either (nat_eq c symbol_class) _ _ refl refl
new_string_once s (Class c) True = either (nat_eq c symbol_class) _ _ refl refl
new_string_once s (Class c) False = either (nat_eq c symbol_class) _ _ refl refl
new_string_once s (Class c) (Character b) = either (nat_eq c symbol_class) _ _ refl refl
new_string_once s (Class c) (Symbol n) = either (nat_eq c symbol_class) _ _ refl refl
new_string_once s (Class c) (Class n) = either (nat_eq c symbol_class) _ _ refl refl
new_string_once s (Class c) (Meta n) = either (nat_eq c symbol_class) _ _ refl refl
new_string_once s (Class c) Transcript = either (nat_eq c symbol_class) _ _ refl refl
new_string_once s (Class c) (Object n) = either (nat_eq c symbol_class) _ _ refl refl
new_string_once s (Integer n) v = refl
new_string_once s Nil v = refl
new_string_once s True v = refl
new_string_once s False v = refl
new_string_once s (Character b) v = refl
new_string_once s (Symbol n) v = refl
new_string_once s (Meta n) v = refl
new_string_once s Transcript v = refl
new_string_once s (Object n) v = refl

strings_once : (p : Program) (s : Store) (m : OfString) (r : Value) (args : List Value) → is_at_once (string_action p s (string_row m) r args) ≡ true
unfolding string_action makes_string makes_bytes
strings_once p s OfString.Equal r args = refl
strings_once p s OfString.Less r args = text_by (bytes_of p s (first args)) _ (λ t. refl)
strings_once p s OfString.Greater r args = text_by (bytes_of p s (first args)) _ (λ t. refl)
strings_once p s OfString.LessOrEqual r args = text_by (bytes_of p s (first args)) _ (λ t. refl)
strings_once p s OfString.GreaterOrEqual r args = text_by (bytes_of p s (first args)) _ (λ t. refl)
strings_once p s OfString.AsUppercase r args = refl
strings_once p s OfString.AsLowercase r args = refl
strings_once p s OfString.AsString r args = refl
strings_once p s OfString.SameAs r args = text_by (bytes_of p s (first args)) _ (λ t. refl)
strings_once p s OfString.NewSize r args = new_string_once s r (first args)

-- ---- sequences

byte_by : (o : Option ℕ) (act : ℕ → Action) → ((b : ℕ) → is_at_once (act b) ≡ true) → is_at_once (elim o [ Some b ↦ act b | None ↦ Fails Trouble.ByteExpected ]) ≡ true
byte_by (Some b) act h = h b
byte_by None act h = refl

written_once : (s : Store) (n class i : ℕ) (v : Value) → is_at_once (written s n class i v) ≡ true
written_once s n class i v = sequence_by (nat_eq class string_class) (nat_eq class byte_array_class) _ _ _ (character_once v _ (λ b. refl)) (byte_by (byte_value v) _ (λ b. refl)) refl

at_put_by : (b : Bool) (p : Program) (s : Store) (n class : ℕ) (at v : Value) → is_at_once (if b then Fails Trouble.LiteralIsReadOnly else indexed at (size_of p s (Object n)) (λ i. written s n class i v)) ≡ true
at_put_by true p s n class at v = refl
at_put_by false p s n class at v = indexed_once at (size_of p s (Object n)) _ (λ i. written_once s n class i v)

at_put_once : (p : Program) (s : Store) (r at v : Value) → is_at_once (at_put p s r at v) ≡ true
at_put_once p s (Object n) at v = at_put_by (object_at n s).read_only p s n (object_at n s).class at v
at_put_once p s (Integer n) at v = refl
at_put_once p s Nil at v = refl
at_put_once p s True at v = refl
at_put_once p s False at v = refl
at_put_once p s (Character b) at v = refl
at_put_once p s (Symbol n) at v = refl
at_put_once p s (Class n) at v = refl
at_put_once p s (Meta n) at v = refl
at_put_once p s Transcript at v = refl

trouble_by : (o : Option Trouble) (x : Action) → is_at_once x ≡ true → is_at_once (elim o [ Some t ↦ Fails t | None ↦ x ]) ≡ true
trouble_by (Some t) x h = refl
trouble_by None x h = h

join_once : (p : Program) (s : Store) (r v : Value) → is_at_once (join p s r v) ≡ true
join_once p s r v =
    either (is_sequence s v) _ _ (trouble_by (element_trouble (species s r) (elements p s v)) (makes_sequence (species s r) (elements p s r ++ elements p s v) s) (sequence_once (species s r) (elements p s r ++ elements p s v) s)) refl

between_once : (p : Program) (s : Store) (r : Value) (i j : ℤ) → is_at_once (copy_between p s r i j) ≡ true
between_once p s r i j =
    let part = makes_sequence (species s r) (some_elements p s r (natural_of i) (natural_of j + 1 - natural_of i)) s in
    let inside = is_index (size_of p s r) i && is_index (size_of p s r) j in
    either (int_lt j i) (makes_sequence (species s r) [] s) (if inside then part else Fails Trouble.IndexOutOfRange) (sequence_once (species s r) [] s) (either inside part (Fails Trouble.IndexOutOfRange) (sequence_once (species s r) (some_elements p s r (natural_of i) (natural_of j + 1 - natural_of i)) s) refl)

part_once : (p : Program) (s : Store) (r v w : Value) → is_at_once (copy_from_to p s r v w) ≡ true
part_once p s r (Integer i) (Integer j) = between_once p s r i j
part_once p s r (Integer i) Nil = refl
part_once p s r (Integer i) True = refl
part_once p s r (Integer i) False = refl
part_once p s r (Integer i) (Character b) = refl
part_once p s r (Integer i) (Symbol n) = refl
part_once p s r (Integer i) (Class n) = refl
part_once p s r (Integer i) (Meta n) = refl
part_once p s r (Integer i) Transcript = refl
part_once p s r (Integer i) (Object n) = refl
part_once p s r Nil w = refl
part_once p s r True w = refl
part_once p s r False w = refl
part_once p s r (Character b) w = refl
part_once p s r (Symbol n) w = refl
part_once p s r (Class n) w = refl
part_once p s r (Meta n) w = refl
part_once p s r Transcript w = refl
part_once p s r (Object n) w = refl

sequences_once : (p : Program) (s : Store) (m : OfSequence) (r : Value) (args : List Value) → is_at_once (sequence_action p s (sequence_row m) r args) ≡ true
unfolding sequence_action makes_slots
sequences_once p s OfSequence.At r args = indexed_once (first args) (size_of p s r) _ (λ i. refl)
sequences_once p s OfSequence.Size r args = refl
sequences_once p s OfSequence.IsEmpty r args = refl
sequences_once p s OfSequence.NotEmpty r args = refl
sequences_once p s OfSequence.First r args = either (nat_eq (size_of p s r) 0) _ _ refl refl
sequences_once p s OfSequence.Last r args = either (nat_eq (size_of p s r) 0) _ _ refl refl
sequences_once p s OfSequence.Join r args = join_once p s r (first args)
sequences_once p s OfSequence.CopyFromTo r args = part_once p s r (first args) (second args)
sequences_once p s OfSequence.Reverse r args = sequence_once (species s r) _ s
sequences_once p s OfSequence.AsArray r args = refl
sequences_once p s OfSequence.AsOrderedCollection r args = refl
sequences_once p s OfSequence.AtPut r args = at_put_once p s r (first args) (second args)

-- ---- makers, pairs and OrderedCollections

interval_once : (s : Store) (i j by : ℤ) → is_at_once (interval s i j by) ≡ true
interval_once s i j by =
    let made = makes_slots interval_class (Integer i ∷ Integer j ∷ Integer by ∷ []) s in
    either (nat_lt (interval_size i j by) (2 ^ 127)) made PassesIntegers (slots_once interval_class (Integer i ∷ Integer j ∷ Integer by ∷ []) s) refl

interval_by_once : (s : Store) (i j by : ℤ) → is_at_once (interval_by s i j by) ≡ true
interval_by_once s i j by = either (nat_eq (nat_abs by) 0) _ _ refl (interval_once s i j by)

makings_once : (p : Program) (s : Store) (m : OfMaking) (r : Value) (args : List Value) → is_at_once (making_action p s m r args) ≡ true
unfolding collection_action object_action makes_slots makes_bytes
makings_once p s OfMaking.Array r args = sized_once (first args) _ (λ n. refl)
makings_once p s OfMaking.ByteArray r args = sized_once (first args) _ (λ n. refl)
makings_once p s OfMaking.With r args = refl
makings_once p s OfMaking.WithAll r args = either (is_collection s (first args)) _ _ refl refl
makings_once p s OfMaking.Empty r args = refl
makings_once p s OfMaking.KeyValue r args = refl
makings_once p s OfMaking.Arrow r args = refl
makings_once p s OfMaking.To r args = integer_once (first args) _ (λ n. interval_once s (integer_of r) n (pos 1))
makings_once p s OfMaking.ToBy r args = integer_once (first args) _ (λ n. integer_once (second args) _ (λ by. interval_by_once s (integer_of r) n by))

changed_once : (p : Program) (s : Store) (m : CollectionRow) (r : Value) (args : List Value) → ((n : ℕ) → is_at_once (ordered_at p s m n args) ≡ true) → is_at_once (changed p s m r args) ≡ true
changed_once p s m (Object n) args h = h n
changed_once p s m (Integer n) args h = refl
changed_once p s m Nil args h = refl
changed_once p s m True args h = refl
changed_once p s m False args h = refl
changed_once p s m (Character b) args h = refl
changed_once p s m (Symbol n) args h = refl
changed_once p s m (Class n) args h = refl
changed_once p s m (Meta n) args h = refl
changed_once p s m Transcript args h = refl

ordered_once : (p : Program) (s : Store) (m : OfOrdered) (r : Value) (args : List Value) → is_at_once (ordered_action p s m r args) ≡ true
unfolding collection_action
ordered_once p s OfOrdered.Add r args = changed_once p s CollectionRow.Add r args (λ n. refl)
ordered_once p s OfOrdered.AddFirst r args = changed_once p s CollectionRow.AddFirst r args (λ n. refl)
ordered_once p s OfOrdered.AddAll r args = changed_once p s CollectionRow.AddAll r args (λ n. either (is_collection s (first args)) _ _ refl refl)
ordered_once p s OfOrdered.RemoveFirst r args = changed_once p s CollectionRow.RemoveFirst r args (λ n. either (nat_eq (size_of p s (Object n)) 0) _ _ refl refl)
ordered_once p s OfOrdered.RemoveLast r args = changed_once p s CollectionRow.RemoveLast r args (λ n. either (nat_eq (size_of p s (Object n)) 0) _ _ refl refl)
ordered_once p s OfOrdered.AddBeforeIndex r args = changed_once p s CollectionRow.AddBeforeIndex r args (λ n. indexed_once (second args) _ _ (λ i. refl))
ordered_once p s OfOrdered.RemoveAtIndex r args = changed_once p s CollectionRow.RemoveAtIndex r args (λ n. indexed_once (first args) _ _ (λ i. refl))

pairs_once : (p : Program) (s : Store) (m : OfPair) (r : Value) → is_at_once (pair_action p s m r) ≡ true
unfolding collection_action makes_slots
pairs_once p s OfPair.Keys r = changed_once p s CollectionRow.Keys r [] (λ n. refl)
pairs_once p s OfPair.Values r = changed_once p s CollectionRow.Values r [] (λ n. refl)
pairs_once p s OfPair.Key r = refl
pairs_once p s OfPair.Value r = refl

pub collections_once : (p : Program) (s : Store) (m : CollectionMessage) (r : Value) (args : List Value) → is_at_once (action_of p s m r args) ≡ true
collections_once p s (CollectionMessage.Character m) r args = characters_once s m r args
collections_once p s (CollectionMessage.String m) r args = strings_once p s m r args
collections_once p s (CollectionMessage.Sequence m) r args = sequences_once p s m r args
collections_once p s (CollectionMessage.Making m) r args = makings_once p s m r args
collections_once p s (CollectionMessage.Ordered m) r args = ordered_once p s m r args
collections_once p s (CollectionMessage.Pair m) r args = pairs_once p s m r
