-- The pieces of symbols and of the texts of exceptions have their texts.
use Rattle.std.proofs.Common.{◌≡◌, ℕ, ◌<◌, Bool, true, false, [], ◌∷◌, ◌++◌, length, inl, inr, refl, ap, sym, ◌∙◌, arith, codes, if◌then◌else◌}
use Rattle.std.proofs.lemmas.Bool.{cases_lt}
use Rattle.std.proofs.lemmas.List.{append_assoc, append-nil, get_or_past}
use Rattle.object_heap.specs.declared.value.Value.{Value}
use Rattle.object_heap.specs.declared.value.Value.TheVariants.{Nil, True, False, Integer, Character, Symbol, Class, Meta, Transcript, Object}
use Rattle.object_heap.specs.Store.{Store, no_object, object_at, slot_at}
use Rattle.st_code.specs.BuiltIns.{message_class, message_not_understood_class, string_class}
use Rattle.st_code.specs.Lookup.{class_of, class_text, inherits}
use Rattle.st_code.specs.Program.{Program, name_at}
use Rattle.st_code.specs.Texts.{Text, quoted, symbol_text}
use Rattle.st_collections.specs.Kinds.{is_a, kept_message, slot_of, slots_of, unkept_text}
use Rattle.st_messages.specs.declared.pieces.Piece.{Piece}
use Rattle.st_messages.specs.Pieces.{AreKnown, piece_text, pieces_text}
use Rattle.st_messages.specs.Printed.{alone, class_piece, class_suffix, is_bare, missed_pieces, missed_symbol, symbol_pieces}

symbol_by : (b : Bool) (p : Program) (s : Store) (name : ℕ) → pieces_text p s (symbol_pieces b name) ≡ (if b then 35 ∷ name_at p name else 35 ∷ quoted (name_at p name))
unfolding quoted
symbol_by true p s name = refl
symbol_by false p s name = refl

pub symbol_pieces-text : (p : Program) (s : Store) (name : ℕ) → pieces_text p s (symbol_pieces (is_bare (name_at p name)) name) ≡ symbol_text (name_at p name)
unfolding symbol_text
symbol_pieces-text p s name = symbol_by (is_bare (name_at p name)) p s name

symbol_known-by : (b : Bool) (s : Store) (name : ℕ) → AreKnown s (symbol_pieces b name)
symbol_known-by true s name = (tt, (tt, (tt, (tt, tt))))
symbol_known-by false s name = (tt, (tt, (tt, (tt, tt))))

pub symbol_pieces-known : (p : Program) (s : Store) (name : ℕ) → AreKnown s (symbol_pieces (is_bare (name_at p name)) name)
symbol_pieces-known p s name = symbol_known-by (is_bare (name_at p name)) s name

-- ---- classes

class_parts : (p : Program) (s : Store) (v : Value) → class_text p v ≡ piece_text p s (class_piece v) ++ piece_text p s (class_suffix v)
unfolding class_text
class_parts p s (Class c) = sym (append-nil (piece_text p s (Piece.ClassName c)))
class_parts p s (Meta c) = refl
class_parts p s Nil = refl
class_parts p s True = refl
class_parts p s False = refl
class_parts p s (Integer n) = refl
class_parts p s (Character b) = refl
class_parts p s (Symbol n) = refl
class_parts p s Transcript = refl
class_parts p s (Object n) = refl

grouped : (a b c d : Text) → a ++ (b ++ (c ++ d)) ≡ ((a ++ b) ++ c) ++ d
grouped a b c d = sym (append_assoc (a ++ b) c d ∙ append_assoc a b (c ++ d))

missed_front : (p : Program) (s : Store) (class : Value) (t : Text)
    → piece_text p s (class_piece class) ++ (piece_text p s (class_suffix class) ++ (codes " does not understand " ++ t)) ≡ (class_text p class ++ codes " does not understand ") ++ t
missed_front p s class t =
    rw (class_parts p s class) (grouped (piece_text p s (class_piece class)) (piece_text p s (class_suffix class)) (codes " does not understand ") t)

missed_by : (b : Bool) (p : Program) (s : Store) (class : Value) (name : ℕ)
    → pieces_text p s (missed_symbol b class name) ≡ (class_text p class ++ codes " does not understand ") ++ (if b then 35 ∷ name_at p name else 35 ∷ quoted (name_at p name))
unfolding quoted
missed_by true p s class name = missed_front p s class (35 ∷ name_at p name)
missed_by false p s class name = missed_front p s class (35 ∷ quoted (name_at p name))

missed_alone : (p : Program) (s : Store) (class : Value)
    → piece_text p s (class_piece class) ++ (piece_text p s (class_suffix class) ++ codes " does not understand ") ≡ (class_text p class ++ codes " does not understand ") ++ []
missed_alone p s class =
    ap (λ (t : Text). piece_text p s (class_piece class) ++ (piece_text p s (class_suffix class) ++ t)) (sym (append-nil (codes " does not understand "))) ∙ missed_front p s class []

pub missed-text : (p : Program) (s : Store) (class v : Value) → pieces_text p s (missed_pieces p class v) ≡ class_text p class ++ codes " does not understand " ++ kept_message p s v []
unfolding symbol_text
missed-text p s class (Symbol name) = missed_by (is_bare (name_at p name)) p s class name
missed-text p s class Nil = missed_alone p s class
missed-text p s class True = missed_alone p s class
missed-text p s class False = missed_alone p s class
missed-text p s class (Integer n) = missed_alone p s class
missed-text p s class (Character b) = missed_alone p s class
missed-text p s class (Class c) = missed_alone p s class
missed-text p s class (Meta c) = missed_alone p s class
missed-text p s class Transcript = missed_alone p s class
missed-text p s class (Object n) = missed_alone p s class

pub slot_object : (n i : ℕ) (s : Store) → slot_of s (Object n) i ≡ slot_at n i s
unfolding slot_of slots_of
slot_object n i s = refl

pub unkept-is : (p : Program) (s : Store) (n class : ℕ) → inherits p class message_not_understood_class ≡ true → is_a s message_class (slot_of s (Object n) 1) ≡ true
    → unkept_text p s n class ≡ pieces_text p s (missed_pieces p (class_of s (slot_of s (Object n) 2)) (slot_of s (slot_of s (Object n) 1) 0))
unkept-is p s n class h k = rw (h, k) (sym (missed-text p s (class_of s (slot_of s (Object n) 2)) (slot_of s (slot_of s (Object n) 1) 0)))

pub alone-text : (p : Program) (s : Store) (x : Piece) → pieces_text p s (alone x) ≡ piece_text p s x
alone-text p s x = refl

-- a String stands
pub known_string : (n : ℕ) (s : Store) → (object_at n s).class ≡ string_class → n < length s.objects
known_string n s h = elim (cases_lt n (length s.objects)) [
  | inl low ↦ low
  | inr past ↦
      let none : object_at n s ≡ no_object = get_or_past s.objects n no_object past in
      let zero_is : (object_at n s).class ≡ 0 = rw none refl in
      absurd (omega (arith, h, zero_is))
]
