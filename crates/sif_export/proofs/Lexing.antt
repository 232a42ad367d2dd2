-- The text of words has their tokens.
use Rattle.std.proofs.Common.{◌≡◌, ◌≢◌, ◌+◌, ◌^◌, ◌<◌, ◌≤◌, ℕ, ℤ, pos, negsuc, suc, Bool, true, false, true≢false, ◌&&◌, ◌||◌, ◌==◌, if◌then◌else◌, List, [], ◌∷◌, ◌++◌, length, refl, ap, sym, ◌∙◌, subst, arith, append-nil, append_assoc, length-append, inl, inr, ◌⊎◌}
use Rattle.std.specs.List.{list_all}
use Rattle.std.specs.Fmt.{decimal, signed_decimal}
use Rattle.std.proofs.lemmas.Bool.Decides.{eqb_tells}
use Rattle.st_base.specs.declared.tokens.TokenKind.{TokenKind}
use Rattle.st_base.specs.declared.tokens.TokenKind.TheVariants as kind
use Rattle.st_base.specs.TokenBytes.{is_letter, is_digit, is_word_byte, is_operator_byte, begins}
use Rattle.st_base.specs.Lexed.{Lexeme, value_of}
use Rattle.st_base.specs.Lexes.{is_identifier, is_run, AreKeywords, last_keyword, next_keyword, Inside, no_byte, other_byte, two_quotes}
use Rattle.st_lexer.proofs.Runs.{and_left, and_right}
use Rattle.st_lexer.proofs.Sound.{is_inner}
use Rattle.st_lexer.proofs.Cover.{front_at}
use Rattle.st_lexer.proofs.Spelled.{IsStop, at_blank, at_line, at_paren, at_block, at_semicolon, at_period, stop_begins, identifier-stop, keyword-stop, operator-stop, minus-front, integer-stop, character-front, string-stop, quoted-stop, symbol_word-stop, symbol_keywords-stop, symbol_operator-stop, array_open-front, paren_open-front, paren_close-front, block_open-front, block_close-front, colon-front, assign-front, caret-front, period-front, semicolon-front}
use Rattle.st_lexer.proofs.Decimals.{decimal-digits, value_of-decimal}
use Rattle.sif_export.specs.Words.{quotes_doubled, quoted, goes_on_as_keywords, are_keywords, is_bare_symbol, Word, Mark, Named, Key, Operator, Parameter, Number, Char, Str, Symbol, Remark, Gap, Joined, Blank, Line, Sign, spell, spell_sign, closes, behind, behind_sign, gap_bytes, laid}
use Rattle.sif_export.specs.declared.sign.Sign.TheVariants as sign
use Rattle.sif_export.proofs.Shown.{Seen, Shows, shows_token, shows_white, shows_comment}

-- ---- the tokens of a word

abbrev pub kind_of_sign : Sign → TokenKind
kind_of_sign sign.ParenOpen = kind.ParenOpen
kind_of_sign sign.ParenClose = kind.ParenClose
kind_of_sign sign.ArrayOpen = kind.ArrayOpen
kind_of_sign sign.BlockOpen = kind.BlockOpen
kind_of_sign sign.BlockClose = kind.BlockClose
kind_of_sign sign.Assign = kind.Assign
kind_of_sign sign.Caret = kind.Caret
kind_of_sign sign.Period = kind.Period
kind_of_sign sign.PeriodLine = kind.Period
kind_of_sign sign.Semicolon = kind.Semicolon
kind_of_sign sign.Bar = kind.Operator
kind_of_sign sign.BarLine = kind.Operator

abbrev pub token : TokenKind → List ℕ → ℕ → Seen
token k t at = record { kind = k; text = t; at = at }

abbrev pub symbol_token : Bool → List ℕ → ℕ → Seen
symbol_token true t at = token kind.Symbol (35 ∷ t) at
symbol_token false t at = token kind.QuotedSymbol (35 ∷ quoted t) at

abbrev pub number_tokens : ℤ → ℕ → List Seen
number_tokens (pos n) at = token (kind.Integer n) (decimal n) at ∷ []
number_tokens (negsuc n) at = token kind.Operator (45 ∷ []) at ∷ token (kind.Integer (suc n)) (decimal (suc n)) (at + 1) ∷ []

abbrev pub tokens_of : Word → ℕ → List Seen
tokens_of (Mark s) at = token (kind_of_sign s) (spell_sign s) at ∷ []
tokens_of (Named t) at = token kind.Identifier t at ∷ []
tokens_of (Key t) at = token kind.Keyword t at ∷ []
tokens_of (Operator t) at = token kind.Operator t at ∷ []
tokens_of (Parameter t) at = token kind.Colon (58 ∷ []) at ∷ token kind.Identifier t (at + 1) ∷ []
tokens_of (Number z) at = number_tokens z at
tokens_of (Char c) at = token kind.Character (36 ∷ c ∷ []) at ∷ []
tokens_of (Str t) at = token kind.Str (quoted t) at ∷ []
tokens_of (Symbol t) at = symbol_token (is_bare_symbol t) t at ∷ []
tokens_of (Remark t) at = []

abbrev pub IsSmall : ℤ → Type 0
IsSmall (pos n) = n ≤ 2 ^ 127
IsSmall (negsuc n) = suc n ≤ 2 ^ 127

-- a keyword's text
abbrev pub IsKey : List ℕ → Type 0
IsKey t = (name : List ℕ) × (t ≡ name ++ 58 ∷ []) × (is_identifier name ≡ true)

-- a word's text is of its kind's form
abbrev pub IsWell : Word → Type 0
IsWell (Mark s) = Unit {0}
IsWell (Named t) = is_identifier t ≡ true
IsWell (Key t) = IsKey t
IsWell (Operator t) = is_run is_operator_byte t ≡ true
IsWell (Parameter t) = is_identifier t ≡ true
IsWell (Number z) = IsSmall z
IsWell (Char c) = Unit {0}
IsWell (Str t) = Unit {0}
IsWell (Symbol t) = Unit {0}
IsWell (Remark t) = list_all is_inner t ≡ true

abbrev pub AreWell : List Word → Type 0
AreWell [] = Unit {0}
AreWell (w ∷ ws) = IsWell w × AreWell ws

-- ---- the text of one word

pub blank_joined : Blank ≢ Joined
blank_joined e = cc

pub line_joined : Line ≢ Joined
line_joined e = cc

pub inside : (t : List ℕ) → Inside (quotes_doubled t)
inside [] = no_byte
inside (c ∷ cs) = elim (eqb_tells c 39) [
  | inl is ↦ rw (is.0) (two_quotes (inside cs))
  | inr other ↦ rw (other.0) (other_byte other.1 (inside cs))
]

stop_quote : (b : List ℕ) → IsStop b → begins (λ c. c == 39) b ≡ false
stop_quote b stop = stop_begins (λ c. c == 39) b refl refl refl refl refl refl stop

stop_equals : (b : List ℕ) → IsStop b → begins (λ c. c == 61) b ≡ false
stop_equals b stop = stop_begins (λ c. c == 61) b refl refl refl refl refl refl stop

identifier_some : (t : List ℕ) → is_identifier t ≡ true → 0 < length t
identifier_some [] is = absurd (true≢false (sym is))
identifier_some (c ∷ cs) is = omega arith

run_some : (p : ℕ → Bool) (t : List ℕ) → is_run p t ≡ true → 0 < length t
run_some p [] is = absurd (true≢false (sym is))
run_some p (c ∷ cs) is = omega arith

key_some : (name : List ℕ) → 0 < length (name ++ 58 ∷ [])
key_some name = omega (arith, length-append name (58 ∷ []))

pub wide : (n : ℕ) → n ≤ 2 ^ 127 → n < 10 ^ 64
wide n low = omega (arith, low)

integer-front : (n : ℕ) (b : List ℕ) → n ≤ 2 ^ 127 → IsStop b → front_at (decimal n ++ b) ≡ Lexeme (kind.Integer n) (length (decimal n))
integer-front n b low stop =
    let value : value_of 10 (decimal n) ≡ n = value_of-decimal n (wide n low) in
    integer-stop (decimal n) b (decimal-digits n (wide n low)) (subst (λ m. m ≤ 2 ^ 127) (sym value) low) stop ∙ ap (λ m. Lexeme (kind.Integer m) (length (decimal n))) value

digits_begin : (t b : List ℕ) → is_run is_digit t ≡ true → begins is_digit (t ++ b) ≡ true
digits_begin [] b is = absurd (true≢false (sym is))
digits_begin (c ∷ cs) b is = and_left (is_digit c) (list_all is_digit cs) is

letter_equal : (c : ℕ) → is_letter c ≡ true → (c == 61) ≡ false
letter_equal c is = elim (eqb_tells c 61) [
  | inl same ↦ absurd (true≢false (sym is ∙ ap is_letter same.1))
  | inr other ↦ other.0
]

identifier_equals : (t b : List ℕ) → is_identifier t ≡ true → begins (λ c. c == 61) (t ++ b) ≡ false
identifier_equals [] b is = absurd (true≢false (sym is))
identifier_equals (c ∷ cs) b is = letter_equal c (and_left (is_letter c) (list_all is_word_byte cs) is)

-- ---- symbols without quotes

goes_on : (c : ℕ) (cs : List ℕ) → goes_on_as_keywords true (c ∷ cs) ≡ true → ((c ≡ 58) × (goes_on_as_keywords false cs ≡ true)) ⊎ ((is_word_byte c ≡ true) × (goes_on_as_keywords true cs ≡ true))
goes_on c cs is = elim (eqb_tells c 58) [
  | inl same ↦ inl (same.1, rw same.0 at is)
  | inr other ↦ let h : (is_word_byte c && goes_on_as_keywords true cs) ≡ true = rw other.0 at is in inr (and_left (is_word_byte c) (goes_on_as_keywords true cs) h, and_right (is_word_byte c) (goes_on_as_keywords true cs) h)
]

is_identifier-more : (name : List ℕ) (c : ℕ) → is_identifier name ≡ true → is_word_byte c ≡ true → is_identifier (name ++ c ∷ []) ≡ true
is_identifier-more [] c is word = absurd (true≢false (sym is))
is_identifier-more (a ∷ as') c is word = rw (and_left (is_letter a) (list_all is_word_byte as') is) (all_more as' c (and_right (is_letter a) (list_all is_word_byte as') is) word)
  where
    all_more : (xs : List ℕ) (c : ℕ) → list_all is_word_byte xs ≡ true → is_word_byte c ≡ true → list_all is_word_byte (xs ++ c ∷ []) ≡ true
    all_more [] c all word = rw word refl
    all_more (x ∷ xs) c all word = rw (and_left (is_word_byte x) (list_all is_word_byte xs) all) (all_more xs c (and_right (is_word_byte x) (list_all is_word_byte xs) all) word)

one_letter : (c : ℕ) → is_letter c ≡ true → is_identifier (c ∷ []) ≡ true
one_letter c is = rw is refl

mutual
  keywords_from : (name t : List ℕ) → is_identifier name ≡ true → goes_on_as_keywords true t ≡ true → AreKeywords (name ++ t)
  keywords_from name [] word is = absurd (true≢false (sym is))
  keywords_from name (c ∷ cs) word is = elim (goes_on c cs is) [
    | inl colon ↦ rw (colon.0) (keywords_then name cs word (colon.1))
    | inr more ↦ subst AreKeywords (append_assoc name (c ∷ []) cs) (keywords_from (name ++ c ∷ []) cs (is_identifier-more name c word more.0) more.1)
  ]

  keywords_then : (name t : List ℕ) → is_identifier name ≡ true → goes_on_as_keywords false t ≡ true → AreKeywords (name ++ 58 ∷ t)
  keywords_then name [] word is = last_keyword name word refl
  keywords_then name (c ∷ cs) word is =
      next_keyword name (c ∷ cs) word refl (keywords_from (c ∷ []) cs (one_letter c (and_left (is_letter c) (goes_on_as_keywords true cs) is)) (and_right (is_letter c) (goes_on_as_keywords true cs) is))

keywords_of : (t : List ℕ) → are_keywords t ≡ true → AreKeywords t
keywords_of [] is = absurd (true≢false (sym is))
keywords_of (c ∷ cs) is = keywords_from (c ∷ []) cs (one_letter c (and_left (is_letter c) (goes_on_as_keywords true cs) is)) (and_right (is_letter c) (goes_on_as_keywords true cs) is)

bare-front : (x y z : Bool) (t b : List ℕ) → (x || y || z) ≡ true → (x ≡ true → is_identifier t ≡ true) → (y ≡ true → are_keywords t ≡ true) → (z ≡ true → is_run is_operator_byte t ≡ true) → IsStop b → front_at ((35 ∷ t) ++ b) ≡ Lexeme kind.Symbol (length (35 ∷ t))
bare-front true y z t b is word keys op stop = symbol_word-stop t b (word refl) stop
bare-front false true z t b is word keys op stop = symbol_keywords-stop t b (keywords_of t (keys refl)) stop
bare-front false false true t b is word keys op stop = symbol_operator-stop t b (op refl) stop
bare-front false false false t b is word keys op stop = absurd (true≢false (sym is))

bare_symbol-front : (t b : List ℕ) → is_bare_symbol t ≡ true → IsStop b → front_at ((35 ∷ t) ++ b) ≡ Lexeme kind.Symbol (length (35 ∷ t))
unfolding is_bare_symbol
bare_symbol-front t b is stop = bare-front (is_identifier t) (are_keywords t) (is_run is_operator_byte t) t b is (λ e. e) (λ e. e) (λ e. e) stop

-- ---- a word before what follows

lex_sign : (s : Sign) (front b : List ℕ) (ps : List Seen) → (behind_sign s ≢ Joined → IsStop b) → Shows (front ++ spell_sign s) b ps → Shows front (spell_sign s ++ b) (token (kind_of_sign s) (spell_sign s) (length front) ∷ ps)
lex_sign sign.ParenOpen front b ps stop rest = shows_token kind.ParenOpen (40 ∷ []) front b ps (omega arith) (paren_open-front b) rest
lex_sign sign.ParenClose front b ps stop rest = shows_token kind.ParenClose (41 ∷ []) front b ps (omega arith) (paren_close-front b) rest
lex_sign sign.ArrayOpen front b ps stop rest = shows_token kind.ArrayOpen (35 ∷ 40 ∷ []) front b ps (omega arith) (array_open-front b) rest
lex_sign sign.BlockOpen front b ps stop rest = shows_token kind.BlockOpen (91 ∷ []) front b ps (omega arith) (block_open-front b) rest
lex_sign sign.BlockClose front b ps stop rest = shows_token kind.BlockClose (93 ∷ []) front b ps (omega arith) (block_close-front b) rest
lex_sign sign.Assign front b ps stop rest = shows_token kind.Assign (58 ∷ 61 ∷ []) front b ps (omega arith) (assign-front b) rest
lex_sign sign.Caret front b ps stop rest = shows_token kind.Caret (94 ∷ []) front b ps (omega arith) (caret-front b) rest
lex_sign sign.Period front b ps stop rest = shows_token kind.Period (46 ∷ []) front b ps (omega arith) (period-front b) rest
lex_sign sign.PeriodLine front b ps stop rest = shows_token kind.Period (46 ∷ []) front b ps (omega arith) (period-front b) rest
lex_sign sign.Semicolon front b ps stop rest = shows_token kind.Semicolon (59 ∷ []) front b ps (omega arith) (semicolon-front b) rest
lex_sign sign.Bar front b ps stop rest = shows_token kind.Operator (124 ∷ []) front b ps (omega arith) (operator-stop (124 ∷ []) b refl (stop blank_joined)) rest
lex_sign sign.BarLine front b ps stop rest = shows_token kind.Operator (124 ∷ []) front b ps (omega arith) (operator-stop (124 ∷ []) b refl (stop line_joined)) rest

-- one byte of a word is a token, and the others are one
lex_pair : (k j : TokenKind) (c : ℕ) (t front b : List ℕ) (ps : List Seen) → 0 < length t → front_at (c ∷ (t ++ b)) ≡ Lexeme k 1 → front_at (t ++ b) ≡ Lexeme j (length t) → Shows (front ++ (c ∷ t)) b ps
    → Shows front (c ∷ (t ++ b)) (token k (c ∷ []) (length front) ∷ token j t (length front + 1) ∷ ps)
lex_pair k j c t front b ps some first second rest =
    let at : length (front ++ c ∷ []) ≡ length front + 1 = length-append front (c ∷ []) in
    let rest' : Shows ((front ++ c ∷ []) ++ t) b ps = subst (λ (xs : List ℕ). Shows xs b ps) (sym (append_assoc front (c ∷ []) t)) rest in
    let inner : Shows (front ++ c ∷ []) (t ++ b) (token j t (length front + 1) ∷ ps) = subst (λ n. Shows (front ++ c ∷ []) (t ++ b) (token j t n ∷ ps)) at (shows_token j t (front ++ c ∷ []) b ps some second rest') in
    shows_token k (c ∷ []) front (t ++ b) (token j t (length front + 1) ∷ ps) (omega arith) first inner

lex_number : (z : ℤ) (front b : List ℕ) (ps : List Seen) → IsSmall z → IsStop b → Shows (front ++ signed_decimal z) b ps → Shows front (signed_decimal z ++ b) (number_tokens z (length front) ++ ps)
lex_number (pos n) front b ps low stop rest = shows_token (kind.Integer n) (decimal n) front b ps (run_some is_digit (decimal n) (decimal-digits n (wide n low))) (integer-front n b low stop) rest
lex_number (negsuc n) front b ps low stop rest =
    let digits : is_run is_digit (decimal (suc n)) ≡ true = decimal-digits (suc n) (wide (suc n) low) in
    lex_pair kind.Operator (kind.Integer (suc n)) 45 (decimal (suc n)) front b ps (run_some is_digit (decimal (suc n)) digits) (minus-front (decimal (suc n) ++ b) (digits_begin (decimal (suc n)) b digits)) (integer-front (suc n) b low stop) rest

lex_symbol : (x : Bool) (t front b : List ℕ) (ps : List Seen) → is_bare_symbol t ≡ x → IsStop b → Shows (front ++ (35 ∷ (if x then t else quoted t))) b ps → Shows front ((35 ∷ (if x then t else quoted t)) ++ b) (symbol_token x t (length front) ∷ ps)
lex_symbol true t front b ps is stop rest = shows_token kind.Symbol (35 ∷ t) front b ps (omega arith) (bare_symbol-front t b is stop) rest
lex_symbol false t front b ps is stop rest = shows_token kind.QuotedSymbol (35 ∷ quoted t) front b ps (omega arith) (quoted-stop (inside t) b (stop_quote b stop)) rest

pub lex_word : (w : Word) (front b : List ℕ) (ps : List Seen) → IsWell w → (behind w ≢ Joined → IsStop b) → Shows (front ++ spell w) b ps → Shows front (spell w ++ b) (tokens_of w (length front) ++ ps)
lex_word (Mark s) front b ps well stop rest = lex_sign s front b ps stop rest
lex_word (Named t) front b ps well stop rest = shows_token kind.Identifier t front b ps (identifier_some t well) (identifier-stop t b well (stop blank_joined)) rest
lex_word (Key t) front b ps well stop rest =
    subst (λ (u : List ℕ). Shows (front ++ u) b ps → Shows front (u ++ b) (token kind.Keyword u (length front) ∷ ps)) (sym well.1)
    (shows_token kind.Keyword (well.0 ++ 58 ∷ []) front b ps (key_some well.0) (keyword-stop well.0 b well.2 (stop_equals b (stop blank_joined)))) rest
lex_word (Operator t) front b ps well stop rest = shows_token kind.Operator t front b ps (run_some is_operator_byte t well) (operator-stop t b well (stop blank_joined)) rest
lex_word (Parameter t) front b ps well stop rest = lex_pair kind.Colon kind.Identifier 58 t front b ps (identifier_some t well) (colon-front (t ++ b) (identifier_equals t b well)) (identifier-stop t b well (stop blank_joined)) rest
lex_word (Number z) front b ps well stop rest = lex_number z front b ps well (stop blank_joined) rest
lex_word (Char c) front b ps well stop rest = shows_token kind.Character (36 ∷ c ∷ []) front b ps (omega arith) (character-front c b) rest
lex_word (Str t) front b ps well stop rest = shows_token kind.Str (quoted t) front b ps (omega arith) (string-stop (inside t) b (stop_quote b (stop blank_joined))) rest
lex_word (Symbol t) front b ps well stop rest = lex_symbol (is_bare_symbol t) t front b ps refl (stop blank_joined) rest
lex_word (Remark t) front b ps well stop rest = shows_comment t front b ps well rest

-- ---- the gaps between words

open_stops : (g : Gap) (w : Word) (ws : List Word) (b : List ℕ) → closes w ≡ false → g ≢ Joined → IsStop (laid g (w ∷ ws) ++ b)
open_stops Joined w ws b is gap = absurd (gap refl)
open_stops Blank w ws b is gap = rw is at_blank
open_stops Line w ws b is gap = rw is at_line

-- what stands behind a word that leaves a gap ends it
pub laid_stops : (g : Gap) (ws : List Word) (b : List ℕ) → g ≢ Joined → IsStop b → IsStop (laid g ws ++ b)
laid_stops g [] b gap stop = stop
laid_stops g (Mark sign.ParenClose ∷ ws) b gap stop = at_paren
laid_stops g (Mark sign.BlockClose ∷ ws) b gap stop = at_block
laid_stops g (Mark sign.Period ∷ ws) b gap stop = at_period (stop_begins is_digit (laid Blank ws ++ b) refl refl refl refl refl refl (laid_stops Blank ws b blank_joined stop))
laid_stops g (Mark sign.PeriodLine ∷ ws) b gap stop = at_period (stop_begins is_digit (laid Line ws ++ b) refl refl refl refl refl refl (laid_stops Line ws b line_joined stop))
laid_stops g (Mark sign.Semicolon ∷ ws) b gap stop = at_semicolon
laid_stops g (Mark sign.ParenOpen ∷ ws) b gap stop = open_stops g (Mark sign.ParenOpen) ws b refl gap
laid_stops g (Mark sign.ArrayOpen ∷ ws) b gap stop = open_stops g (Mark sign.ArrayOpen) ws b refl gap
laid_stops g (Mark sign.BlockOpen ∷ ws) b gap stop = open_stops g (Mark sign.BlockOpen) ws b refl gap
laid_stops g (Mark sign.Assign ∷ ws) b gap stop = open_stops g (Mark sign.Assign) ws b refl gap
laid_stops g (Mark sign.Caret ∷ ws) b gap stop = open_stops g (Mark sign.Caret) ws b refl gap
laid_stops g (Mark sign.Bar ∷ ws) b gap stop = open_stops g (Mark sign.Bar) ws b refl gap
laid_stops g (Mark sign.BarLine ∷ ws) b gap stop = open_stops g (Mark sign.BarLine) ws b refl gap
laid_stops g (Named t ∷ ws) b gap stop = open_stops g (Named t) ws b refl gap
laid_stops g (Key t ∷ ws) b gap stop = open_stops g (Key t) ws b refl gap
laid_stops g (Operator t ∷ ws) b gap stop = open_stops g (Operator t) ws b refl gap
laid_stops g (Parameter t ∷ ws) b gap stop = open_stops g (Parameter t) ws b refl gap
laid_stops g (Number z ∷ ws) b gap stop = open_stops g (Number z) ws b refl gap
laid_stops g (Char c ∷ ws) b gap stop = open_stops g (Char c) ws b refl gap
laid_stops g (Str t ∷ ws) b gap stop = open_stops g (Str t) ws b refl gap
laid_stops g (Symbol t ∷ ws) b gap stop = open_stops g (Symbol t) ws b refl gap
laid_stops g (Remark t ∷ ws) b gap stop = open_stops g (Remark t) ws b refl gap

lex_gap : (x : Bool) (g : Gap) (front b : List ℕ) (ps : List Seen) → Shows (front ++ (if x then [] else gap_bytes g)) b ps → Shows front ((if x then [] else gap_bytes g) ++ b) ps
lex_gap true g front b ps rest = subst (λ (xs : List ℕ). Shows xs b ps) (append-nil front) rest
lex_gap false Joined front b ps rest = subst (λ (xs : List ℕ). Shows xs b ps) (append-nil front) rest
lex_gap false Blank front b ps rest = shows_white 32 front b ps refl rest
lex_gap false Line front b ps rest = shows_white 10 front (9 ∷ b) ps refl (shows_white 9 (front ++ 10 ∷ []) b ps refl (subst (λ (xs : List ℕ). Shows xs b ps) (sym (append_assoc front (10 ∷ []) (9 ∷ []))) rest))

-- ---- the text of words

-- the words have these tokens at some places, before others
pub data Tokens : List Word → List Seen → List Seen → Type 0 where
  no_words : {ps : List Seen} → Tokens [] ps ps
  next_word : {w : Word} {ws : List Word} {ps qs : List Seen} (at : ℕ) → Tokens ws ps qs → Tokens (w ∷ ws) (tokens_of w at ++ ps) qs

-- the text of words, and then what follows, shows these tokens, and then those of what follows
pub record Lexed (front b : List ℕ) (g : Gap) (ws : List Word) (qs : List Seen) : Type 0 where
  pub all : List Seen
  pub shows : Shows front (laid g ws ++ b) all
  pub tokens : Tokens ws all qs

pub lex_laid : (g : Gap) (ws : List Word) (front b : List ℕ) (qs : List Seen) → AreWell ws → IsStop b → Shows (front ++ laid g ws) b qs → Lexed front b g ws qs
lex_laid g [] front b qs well stop rest = record { all = qs; shows = subst (λ (xs : List ℕ). Shows xs b qs) (append-nil front) rest; tokens = no_words }
lex_laid g (w ∷ ws) front b qs well stop rest =
    let lead : List ℕ = if closes w then [] else gap_bytes g in
    let seam : front ++ laid g (w ∷ ws) ≡ ((front ++ lead) ++ spell w) ++ laid (behind w) ws = assoc front lead (spell w) (laid (behind w) ws) in
    let more : Lexed ((front ++ lead) ++ spell w) b (behind w) ws qs = lex_laid (behind w) ws ((front ++ lead) ++ spell w) b qs well.1 stop (subst (λ (xs : List ℕ). Shows xs b qs) seam rest) in
    let here : Shows (front ++ lead) (spell w ++ (laid (behind w) ws ++ b)) (tokens_of w (length (front ++ lead)) ++ more.all) = lex_word w (front ++ lead) (laid (behind w) ws ++ b) more.all well.0 (λ gap. laid_stops (behind w) ws b gap stop) more.shows in
    record {
      all = tokens_of w (length (front ++ lead)) ++ more.all;
      shows = subst (λ (xs : List ℕ). Shows front xs (tokens_of w (length (front ++ lead)) ++ more.all)) (sym (assoc' lead (spell w) (laid (behind w) ws) b)) (lex_gap (closes w) g front (spell w ++ (laid (behind w) ws ++ b)) (tokens_of w (length (front ++ lead)) ++ more.all) here);
      tokens = next_word (length (front ++ lead)) more.tokens;
    }
  where
    assoc : (f a s r : List ℕ) → f ++ ((a ++ s) ++ r) ≡ ((f ++ a) ++ s) ++ r
    assoc f a s r = simp append_assoc

    assoc' : (a s r b : List ℕ) → ((a ++ s) ++ r) ++ b ≡ a ++ (s ++ (r ++ b))
    assoc' a s r b = simp append_assoc
