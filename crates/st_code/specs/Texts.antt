-- Texts as lists of bytes: equality, ASCII letters, the forms of selectors, and how values are written. Source: ANSI 3 (selectors and literals).
use Rattle.std.specs.Prelude.{ℕ, suc, ◌+◌, ◌-◌, Bool, true, false, not, ◌&&◌, ◌||◌, List, [], ◌∷◌, ◌++◌, nat_eq, nat_le, if◌then◌else◌, codes}

abbrev pub Text : Type 0
Text = List ℕ

unfoldable pub same_text : Text → Text → Bool
same_text [] [] = true
same_text [] (b ∷ u) = false
same_text (a ∷ t) [] = false
same_text (a ∷ t) (b ∷ u) = elim (nat_eq a b) [ true ↦ same_text t u | false ↦ false ]

-- the first text comes before the second, byte by byte
unfoldable pub text_less : Text → Text → Bool
text_less t [] = false
text_less [] (b ∷ u) = true
text_less (a ∷ t) (b ∷ u) = elim (nat_eq a b) [ true ↦ text_less t u | false ↦ nat_le a b ]

abbrev within : ℕ → ℕ → ℕ → Bool
within low high byte = nat_le low byte && nat_le byte high

unfoldable pub is_upper : ℕ → Bool
is_upper byte = within 65 90 byte

unfoldable pub is_lower : ℕ → Bool
is_lower byte = within 97 122 byte

unfoldable pub is_digit : ℕ → Bool
is_digit byte = within 48 57 byte

unfoldable pub is_letter : ℕ → Bool
unfolding is_upper is_lower
is_letter byte = is_upper byte || is_lower byte

unfoldable pub to_upper : ℕ → ℕ
unfolding is_lower
to_upper byte = if is_lower byte then byte - 32 else byte

unfoldable pub to_lower : ℕ → ℕ
unfolding is_upper
to_lower byte = if is_upper byte then byte + 32 else byte

-- a byte that may begin an identifier, and one that may go on with it
abbrev begins_name : ℕ → Bool
begins_name byte = is_letter byte || nat_eq byte 95

abbrev continues_name : ℕ → Bool
continues_name byte = begins_name byte || is_digit byte

unfoldable pub all_bytes : (ℕ → Bool) → Text → Bool
all_bytes test [] = true
all_bytes test (b ∷ t) = elim (test b) [ true ↦ all_bytes test t | false ↦ false ]

unfoldable pub is_identifier : Text → Bool
unfolding all_bytes
is_identifier [] = false
is_identifier (b ∷ t) = begins_name b && all_bytes continues_name t

-- keywords without a gap, where the flag says that one has begun
unfoldable pub are_keywords : Bool → Text → Bool
are_keywords started [] = not started
are_keywords false (b ∷ t) = elim (begins_name b) [ true ↦ are_keywords true t | false ↦ false ]
are_keywords true (b ∷ t) = elim (nat_eq b 58) [ true ↦ are_keywords false t | false ↦ elim (continues_name b) [ true ↦ are_keywords true t | false ↦ false ] ]

unfoldable pub is_keywords : Text → Bool
unfolding are_keywords
is_keywords [] = false
is_keywords (b ∷ t) = are_keywords false (b ∷ t)

unfoldable pub holds_byte : Text → ℕ → Bool
holds_byte [] byte = false
holds_byte (b ∷ t) byte = elim (nat_eq b byte) [ true ↦ true | false ↦ holds_byte t byte ]

unfoldable pub is_operators : Text → Bool
unfolding all_bytes holds_byte
is_operators [] = false
is_operators (b ∷ t) = all_bytes (holds_byte (codes "!%&*+,/<>=?@\\~|-")) (b ∷ t)

unfoldable pub count_byte : ℕ → Text → ℕ
count_byte byte [] = 0
count_byte byte (b ∷ t) = elim (nat_eq b byte) [ true ↦ suc (count_byte byte t) | false ↦ count_byte byte t ]

-- how many arguments a message of this selector has
unfoldable pub arity : Text → ℕ
unfolding count_byte
arity text = if is_keywords text then count_byte 58 text else (if is_operators text then 1 else 0)

-- a text with each quote doubled
unfoldable pub quotes_doubled : Text → Text
quotes_doubled [] = []
quotes_doubled (b ∷ t) = elim (nat_eq b 39) [ true ↦ 39 ∷ 39 ∷ quotes_doubled t | false ↦ b ∷ quotes_doubled t ]

unfoldable pub quoted : Text → Text
unfolding quotes_doubled
quoted text = 39 ∷ quotes_doubled text ++ 39 ∷ []

-- `#` and the text, in quotes where it is no identifier, keywords or operator
unfoldable pub symbol_text : Text → Text
symbol_text text = if is_identifier text || is_keywords text || is_operators text then 35 ∷ text else 35 ∷ quoted text

-- the name with its article
unfoldable pub with_article : Text → Text
unfolding holds_byte
with_article [] = codes "a "
with_article (b ∷ t) = if holds_byte (codes "AEIOU") b then codes "an " ++ b ∷ t else codes "a " ++ b ∷ t
