-- The built-in classes and messages are those of the tables that units are checked with, in the same order. A class's row of a selector is that of the message's number.
use Rattle.std.proofs.Common.{◌≡◌, ℕ, suc, Bool, true, false, ◌&&◌, List, [], ◌∷◌, ◌++◌, map, Option, Some, None, refl, ap, sym, ◌∙◌, get_or, nat_eq}
use Rattle.std.specs.Option.{option_map}
use Rattle.st_base.specs.declared.builtins.MethodSide.{MethodSide}
use Rattle.st_base.specs.declared.builtins.MethodSide.TheVariants.{Instance, Class}
use Rattle.st_base.specs.BuiltIns as base
use Rattle.st_code.specs.Texts.{Text, same_text}
use Rattle.st_code.specs.Program.{Side, OfInstance, OfClass, OfMeta, same_side}
use Rattle.st_code.specs.Messages.{Row}
use Rattle.st_code.specs.BuiltIns.{BuiltInClass, built_in_classes, Section, row_in, row_in_sections, is_section, or_else, row_at, built_in_messages, BuiltInMessage, messages_of, messages_in, numbered_messages, is_message, place_of_message, message_number, no_message, numbered_row}
use Rattle.st_code.specs.BuiltInRows.{RowAt}

-- ---- the tables agree

abbrev pub base_class : BuiltInClass → base.ClassRow
base_class c = base.row c.name c.superclass

abbrev pub method_side : Side → MethodSide
method_side OfInstance = Instance
method_side OfClass = Class
method_side OfMeta = Class

abbrev pub base_message : BuiltInMessage → base.MessageRow
base_message m = base.has m.class (method_side m.side) m.selector

pub classes-base : map base_class built_in_classes ≡ base.classes
unfolding built_in_classes base.classes
classes-base = refl

pub messages-base : map base_message numbered_messages ≡ base.messages
unfolding numbered_messages base.messages
messages-base = refl

-- ---- a row by its number

abbrev found_row : List BuiltInMessage → ℕ → Side → Text → Option Row
found_row [] class side t = None
found_row (m ∷ messages) class side t = elim (is_message class side t m) [ true ↦ Some m.row | false ↦ found_row messages class side t ]

or_else-first : (b : Bool) (r : Row) (o rest found : Option Row) → found ≡ or_else o rest → elim b [ true ↦ Some r | false ↦ found ] ≡ or_else (elim b [ true ↦ Some r | false ↦ o ]) rest
or_else-first true r o rest found is = refl
or_else-first false r o rest found is = is

at-level : (class : ℕ) (side : Side) (c : ℕ) (d : Side) (t : Text) (rows : List RowAt) (more : List BuiltInMessage)
    → (nat_eq c class && same_side d side) ≡ true → found_row (messages_of c d rows ++ more) class side t ≡ or_else (row_in rows t) (found_row more class side t)
unfolding row_in
at-level class side c d t [] more is = refl
at-level class side c d t (r ∷ rows) more is =
    ap (λ (b : Bool). elim (b && same_text r.selector t) [ true ↦ Some r.row | false ↦ found_row (messages_of c d rows ++ more) class side t ]) is ∙ (or_else-first (same_text r.selector t) r.row (row_in rows t) (found_row more class side t) (found_row (messages_of c d rows ++ more) class side t) (at-level class side c d t rows more is))

off-level : (class : ℕ) (side : Side) (c : ℕ) (d : Side) (t : Text) (rows : List RowAt) (more : List BuiltInMessage)
    → (nat_eq c class && same_side d side) ≡ false → found_row (messages_of c d rows ++ more) class side t ≡ found_row more class side t
off-level class side c d t [] more is = refl
off-level class side c d t (r ∷ rows) more is =
    ap (λ (b : Bool). elim (b && same_text r.selector t) [ true ↦ Some r.row | false ↦ found_row (messages_of c d rows ++ more) class side t ]) is ∙ off-level class side c d t rows more is

one-section : (b : Bool) (class : ℕ) (side : Side) (t : Text) (s : Section) (more : List BuiltInMessage) (rest : Option Row)
    → is_section class side s ≡ b → rest ≡ found_row more class side t
    → elim b [ true ↦ or_else (row_in s.rows t) rest | false ↦ rest ] ≡ found_row (messages_of s.class s.side s.rows ++ more) class side t
one-section true class side t s more rest is same = ap (or_else (row_in s.rows t)) same ∙ sym (at-level class side s.class s.side t s.rows more is)
one-section false class side t s more rest is same = same ∙ sym (off-level class side s.class s.side t s.rows more is)

in-sections : (sections : List Section) (class : ℕ) (side : Side) (t : Text) → row_in_sections sections class side t ≡ found_row (messages_in sections) class side t
unfolding row_in_sections
in-sections [] class side t = refl
in-sections (s ∷ sections) class side t =
    one-section (is_section class side s) class side t s (messages_in sections) (row_in_sections sections class side t) refl (in-sections sections class side t)

place-suc-step : (b : Bool) (n : ℕ) (o p : Option ℕ) → p ≡ option_map suc o → elim b [ true ↦ Some (suc n) | false ↦ p ] ≡ option_map suc (elim b [ true ↦ Some n | false ↦ o ])
place-suc-step true n o p is = refl
place-suc-step false n o p is = is

pub place-suc : (n : ℕ) (messages : List BuiltInMessage) (class : ℕ) (side : Side) (t : Text)
    → place_of_message (suc n) messages class side t ≡ option_map suc (place_of_message n messages class side t)
place-suc n [] class side t = refl
place-suc n (m ∷ messages) class side t =
    place-suc-step (is_message class side t m) n (place_of_message (suc n) messages class side t) (place_of_message (suc (suc n)) messages class side t) (place-suc (suc n) messages class side t)

abbrev row_of : List BuiltInMessage → ℕ → Row
row_of messages n = (get_or messages n no_message).row

behind-first : (m : BuiltInMessage) (messages : List BuiltInMessage) (o : Option ℕ) → option_map (row_of messages) o ≡ option_map (row_of (m ∷ messages)) (option_map suc o)
behind-first m messages None = refl
behind-first m messages (Some n) = refl

by-place-step : (b : Bool) (m : BuiltInMessage) (messages : List BuiltInMessage) (found : Option Row) (p : Option ℕ)
    → found ≡ option_map (row_of (m ∷ messages)) p → elim b [ true ↦ Some m.row | false ↦ found ] ≡ option_map (row_of (m ∷ messages)) (elim b [ true ↦ Some 0 | false ↦ p ])
by-place-step true m messages found p is = refl
by-place-step false m messages found p is = is

by-place : (messages : List BuiltInMessage) (class : ℕ) (side : Side) (t : Text) → found_row messages class side t ≡ option_map (row_of messages) (place_of_message 0 messages class side t)
by-place [] class side t = refl
by-place (m ∷ messages) class side t =
    by-place-step (is_message class side t m) m messages (found_row messages class side t) (place_of_message 1 messages class side t)
    (by-place messages class side t ∙ behind-first m messages (place_of_message 0 messages class side t) ∙ ap (option_map (row_of (m ∷ messages))) (sym (place-suc 0 messages class side t)))

-- what a class itself has for a selector is what the message with its number does
pub row_at-number : (class : ℕ) (side : Side) (t : Text) → row_at class side t ≡ option_map numbered_row (message_number class side t)
unfolding row_at numbered_messages message_number numbered_row
row_at-number class side t = in-sections built_in_messages class side t ∙ by-place (messages_in built_in_messages) class side t
