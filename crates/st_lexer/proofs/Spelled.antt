-- The token of each kind before bytes that no token goes on with: what follows decides nothing but that.
use Rattle.std.proofs.Common.{◌≡◌, ◌+◌, ◌-◌, ◌^◌, ◌<◌, ◌≤◌, ℕ, Bool, true, false, true≢false, ◌&&◌, ◌||◌, ◌==◌, List, [], ◌∷◌, ◌++◌, drop, length, nat_lt, nat_le, slice_index, None, Some, refl, ap, sym, ◌∙◌, arith, add-one, append_assoc, unwrap_or, if◌then◌else◌, length-append}
use Rattle.std.specs.List.{prefix_len, list_all}
use Rattle.std.proofs.lemmas.List.{drop_at}
use Rattle.std.proofs.lemmas.Bool.{ne_eqb}
use Rattle.st_base.specs.declared.tokens.TokenKind.{TokenKind}
use Rattle.st_base.specs.declared.tokens.TokenKind.TheVariants as kind
use Rattle.st_base.specs.TokenBytes.{is_letter, is_digit, is_word_byte, is_operator_byte, is_white_byte, begins, begins_colon, begins_float}
use Rattle.st_base.specs.Lexed.{Lexeme, word_at, word_front, operator_at, operator_len, value_of, integer_at, string_len, string_front, quoted_front, keywords_len, selector_len, symbol_front, front_of, sign_front, lexed_at}
use Rattle.st_base.specs.Lexes.{is_identifier, is_run, AreKeywords, last_keyword, next_keyword, Inside, no_byte, other_byte, two_quotes, decimal}
use Rattle.st_lexer.proofs.Scanning.{behind_tokens}
use Rattle.st_lexer.proofs.Runs.{and_left, and_right, prefix_len-whole, is_run-all}
use Rattle.st_lexer.proofs.Selectors.{identifier_all, identifier_begins, keywords-word, between_next, keywords_begin, letter_equals, colon_of}
use Rattle.st_lexer.proofs.Cover.{front_at, front-letter, front-operator, begins-front, keyword-front, number-front, front-quote, front-hash, symbol-quote, symbol-word, symbol-operator, run_begins, operator_plain}
use Rattle.st_lexer.proofs.LexesLaw.{at_lexeme, white-front, at_gap}

-- the end, a blank, a line's end, or the first byte of what closes something: a period only where no digit follows
pub data IsStop : List ℕ → Type 0 where
  at_end : IsStop []
  at_blank : {a : List ℕ} → IsStop (32 ∷ a)
  at_line : {a : List ℕ} → IsStop (10 ∷ a)
  at_paren : {a : List ℕ} → IsStop (41 ∷ a)
  at_block : {a : List ℕ} → IsStop (93 ∷ a)
  at_semicolon : {a : List ℕ} → IsStop (59 ∷ a)
  at_period : {a : List ℕ} → begins is_digit a ≡ false → IsStop (46 ∷ a)

-- no stop begins with a byte that passes, where none of the six does
pub stop_begins : (p : ℕ → Bool) (b : List ℕ) → p 32 ≡ false → p 10 ≡ false → p 41 ≡ false → p 93 ≡ false → p 59 ≡ false → p 46 ≡ false → IsStop b → begins p b ≡ false
stop_begins p [] blank line paren block semicolon period at_end = refl
stop_begins p (c ∷ a) blank line paren block semicolon period at_blank = blank
stop_begins p (c ∷ a) blank line paren block semicolon period at_line = line
stop_begins p (c ∷ a) blank line paren block semicolon period at_paren = paren
stop_begins p (c ∷ a) blank line paren block semicolon period at_block = block
stop_begins p (c ∷ a) blank line paren block semicolon period at_semicolon = semicolon
stop_begins p (c ∷ a) blank line paren block semicolon period (at_period h) = period

pub stop_colon : (b : List ℕ) → IsStop b → begins_colon b ≡ false
stop_colon [] at_end = refl
stop_colon (c ∷ a) at_blank = refl
stop_colon (c ∷ a) at_line = refl
stop_colon (c ∷ a) at_paren = refl
stop_colon (c ∷ a) at_block = refl
stop_colon (c ∷ a) at_semicolon = refl
stop_colon (c ∷ a) (at_period h) = refl

pub stop_float : (b : List ℕ) → IsStop b → begins_float b ≡ false
stop_float [] at_end = refl
stop_float (c ∷ a) at_blank = refl
stop_float (c ∷ a) at_line = refl
stop_float (c ∷ a) at_paren = refl
stop_float (c ∷ a) at_block = refl
stop_float (c ∷ a) at_semicolon = refl
stop_float (c ∷ a) (at_period h) = h

-- one token, and then those of what follows
pub lexed_at-token : (k : TokenKind) (t b : List ℕ) (at : ℕ) → 0 < length t → front_at (t ++ b) ≡ Lexeme k (length t) → lexed_at 0 at (t ++ b) ≡ behind_tokens (record { kind = k; start = at; end = at + length t } ∷ []) (lexed_at 0 (at + length t) b)
lexed_at-token k t b at some is =
    let there : 0 < length (t ++ b) = omega (arith, length-append t b) in
    at_lexeme (t ++ b) at (length t) k there is
    ∙ ap (λ (xs : List ℕ). behind_tokens (record { kind = k; start = at; end = at + length t } ∷ []) (lexed_at 0 (at + length t) xs)) (drop_at t b (length t) refl)

-- one byte of white space, and then what follows
pub lexed_at-white : (c : ℕ) (b : List ℕ) (at : ℕ) → is_white_byte c ≡ true → lexed_at 0 at (c ∷ b) ≡ lexed_at 0 (at + 1) b
lexed_at-white c b at is = at_gap (c ∷ b) at 1 (omega arith) (white-front c b is)

-- an identifier
pub identifier-front : (t b : List ℕ) → is_identifier t ≡ true → begins is_word_byte b ≡ false → begins_colon b ≡ false → front_at (t ++ b) ≡ Lexeme kind.Identifier (length t)
unfolding word_front
identifier-front [] b is off colon = absurd (true≢false (sym is))
identifier-front (c ∷ cs) b is off colon =
    let len : prefix_len is_word_byte (c ∷ (cs ++ b)) ≡ length (c ∷ cs) = prefix_len-whole is_word_byte (c ∷ cs) b (identifier_all (c ∷ cs) is) off in
    let rest : drop (length (c ∷ cs)) (c ∷ (cs ++ b)) ≡ b = drop_at (c ∷ cs) b (length (c ∷ cs)) refl in
    front-letter c (cs ++ b) (and_left (is_letter c) (list_all is_word_byte cs) is)
    ∙ ap (λ n. word_at n (drop n (c ∷ (cs ++ b)))) len ∙ ap (word_at (length (c ∷ cs))) rest ∙ rw colon refl

pub identifier-stop : (t b : List ℕ) → is_identifier t ≡ true → IsStop b → front_at (t ++ b) ≡ Lexeme kind.Identifier (length t)
identifier-stop t b is stop = identifier-front t b is (stop_begins is_word_byte b refl refl refl refl refl refl stop) (stop_colon b stop)

-- a keyword, behind which no `=` stands
pub keyword-stop : (name b : List ℕ) → is_identifier name ≡ true → begins (λ c. c == 61) b ≡ false → front_at ((name ++ 58 ∷ []) ++ b) ≡ Lexeme kind.Keyword (length (name ++ 58 ∷ []))
keyword-stop name b is off =
    ap front_at (append_assoc name (58 ∷ []) b) ∙ keyword-front name b is off ∙ ap (Lexeme kind.Keyword) (sym (length-append name (58 ∷ [])))

-- an operator, behind which neither an operator character nor a digit stands
pub operator-front : (t b : List ℕ) → is_run is_operator_byte t ≡ true → begins is_operator_byte b ≡ false → begins is_digit b ≡ false → front_at (t ++ b) ≡ Lexeme kind.Operator (length t)
unfolding operator_len
operator-front t b is off digit =
    let len : prefix_len is_operator_byte (t ++ b) ≡ length t = prefix_len-whole is_operator_byte t b (is_run-all is_operator_byte t is) off in
    let rest : drop (length t) (t ++ b) ≡ b = drop_at t b (length t) refl in
    begins-front (t ++ b) (run_begins is_operator_byte t b is)
    ∙ ap (λ n. Lexeme kind.Operator (operator_at n (t ++ b))) len
    ∙ ap (Lexeme kind.Operator) (whole (nat_lt 1 (length t) && slice_index (t ++ b) (length t - 1) == 45) (begins is_digit (drop (length t) (t ++ b))) (length t) (ap (begins is_digit) rest ∙ digit))
  where
    whole : (x y : Bool) (n : ℕ) → y ≡ false → (if x && y then n - 1 else n) ≡ n
    whole true y n e = rw e refl
    whole false y n e = refl

pub operator-stop : (t b : List ℕ) → is_run is_operator_byte t ≡ true → IsStop b → front_at (t ++ b) ≡ Lexeme kind.Operator (length t)
operator-stop t b is stop = operator-front t b is (stop_begins is_operator_byte b refl refl refl refl refl refl stop) (stop_begins is_digit b refl refl refl refl refl refl stop)

-- a `-` directly before a digit
pub minus-front : (b : List ℕ) → begins is_digit b ≡ true → front_at (45 ∷ b) ≡ Lexeme kind.Operator 1
unfolding operator_len
minus-front [] is = absurd (true≢false (sym is))
minus-front (c ∷ cs) is =
    let len : prefix_len is_operator_byte (45 ∷ c ∷ cs) ≡ 1 = prefix_len-whole is_operator_byte (45 ∷ []) (c ∷ cs) refl (digit_operator c is) in
    front-operator 45 (c ∷ cs) refl ∙ ap (λ n. Lexeme kind.Operator (operator_at n (45 ∷ c ∷ cs))) len
  where
    digit_operator : (c : ℕ) → is_digit c ≡ true → is_operator_byte c ≡ false
    digit_operator c is = elim (is_operator_byte c) as (λ v. is_operator_byte c ≡ v → is_operator_byte c ≡ false) [
      | true ↦ λ op. absurd (true≢false (sym is ∙ (operator_plain c op).1))
      | false ↦ λ off. off
    ] refl

-- an integer of at most 2^127 in decimal
pub integer-stop : (t b : List ℕ) → is_run is_digit t ≡ true → value_of 10 t ≤ 2 ^ 127 → IsStop b → front_at (t ++ b) ≡ Lexeme (kind.Integer (value_of 10 t)) (length t)
unfolding integer_at
integer-stop t b is low stop =
    number-front {value = value_of 10 t} {u = t} {v = b} (decimal is (stop_begins (λ c. is_digit c || c == 114) b refl refl refl refl refl refl stop))
    ∙ plain (value_of 10 t) (length t) b (stop_float b stop) low
  where
    within : (a b : ℕ) → a ≤ b → nat_le a b ≡ true
    within a b low = grind (arith, low)

    plain : (value n : ℕ) (b : List ℕ) → begins_float b ≡ false → value ≤ 2 ^ 127 → integer_at value n b ≡ Lexeme (kind.Integer value) n
    plain value n b off low = let fits : nat_le value (2 ^ 127) ≡ true = within value (2 ^ 127) low in rw (off, fits) refl

-- a character
pub character-front : (c : ℕ) (b : List ℕ) → front_at (36 ∷ c ∷ b) ≡ Lexeme kind.Character 2
unfolding front_of
character-front c b = refl

-- a string, behind which no quote stands
string_len-closes : {s : List ℕ} → Inside s → (b : List ℕ) → begins (λ c. c == 39) b ≡ false → string_len false (s ++ 39 ∷ b) ≡ Some (length s + 1)
string_len-closes no_byte [] off = refl
string_len-closes no_byte (c ∷ cs) off = rw off refl
string_len-closes (other_byte {c = c} {cs = cs} other inner) b off =
    let e : length cs + 1 + 1 ≡ length (c ∷ cs) + 1 = omega arith in
    rw (ne_eqb c 39 other, string_len-closes inner b off) (ap Some e)
string_len-closes (two_quotes {cs = cs} inner) b off =
    let e : length cs + 1 + 1 + 1 ≡ length (39 ∷ 39 ∷ cs) + 1 = omega arith in
    rw (string_len-closes inner b off) (ap Some e)

pub string-stop : {s : List ℕ} → Inside s → (b : List ℕ) → begins (λ c. c == 39) b ≡ false → front_at ((39 ∷ s ++ 39 ∷ []) ++ b) ≡ Lexeme kind.Str (length (39 ∷ s ++ 39 ∷ []))
string-stop {s = s} inner b off =
    let size : length s + 1 + 1 ≡ length (39 ∷ s ++ 39 ∷ []) = omega (arith, length-append s (39 ∷ [])) in
    front-quote ((s ++ 39 ∷ []) ++ b) ∙ ap (λ (xs : List ℕ). string_front (string_len false xs)) (append_assoc s (39 ∷ []) b) ∙ ap string_front (string_len-closes inner b off) ∙ ap (Lexeme kind.Str) size

pub quoted-stop : {s : List ℕ} → Inside s → (b : List ℕ) → begins (λ c. c == 39) b ≡ false → front_at ((35 ∷ 39 ∷ s ++ 39 ∷ []) ++ b) ≡ Lexeme kind.QuotedSymbol (length (35 ∷ 39 ∷ s ++ 39 ∷ []))
quoted-stop {s = s} inner b off =
    let size : length s + 1 + 2 ≡ length (35 ∷ 39 ∷ s ++ 39 ∷ []) = omega (arith, length-append s (39 ∷ [])) in
    front-hash (39 ∷ (s ++ 39 ∷ []) ++ b) ∙ symbol-quote ((s ++ 39 ∷ []) ++ b) ∙ ap (λ (xs : List ℕ). quoted_front (string_len false xs)) (append_assoc s (39 ∷ []) b) ∙ ap quoted_front (string_len-closes inner b off) ∙ ap (Lexeme kind.QuotedSymbol) size

-- symbols without quotes
symbol_size : (name : List ℕ) (n : ℕ) → n ≡ length name → Lexeme kind.Symbol (n + 1) ≡ Lexeme kind.Symbol (length (35 ∷ name))
symbol_size name n e = ap (Lexeme kind.Symbol) (ap (λ k. k + 1) e ∙ add-one (length name))

keywords_len-none : (t b : List ℕ) → list_all is_word_byte t ≡ true → begins is_word_byte b ≡ false → begins_colon b ≡ false → keywords_len true (t ++ b) ≡ None
keywords_len-none [] [] all off colon = refl
keywords_len-none [] (c ∷ cs) all off colon = rw (off, colon) refl
keywords_len-none (c ∷ cs) b all off colon = rw (and_left (is_word_byte c) (list_all is_word_byte cs) all, keywords_len-none cs b (and_right (is_word_byte c) (list_all is_word_byte cs) all) off colon) refl

pub symbol_word-stop : (t b : List ℕ) → is_identifier t ≡ true → IsStop b → front_at ((35 ∷ t) ++ b) ≡ Lexeme kind.Symbol (length (35 ∷ t))
unfolding selector_len
symbol_word-stop t b is stop =
    let off : begins is_word_byte b ≡ false = stop_begins is_word_byte b refl refl refl refl refl refl stop in
    let none : keywords_len true (t ++ b) ≡ None = keywords_len-none t b (identifier_all t is) off (stop_colon b stop) in
    let len : selector_len (t ++ b) ≡ length t = ap (λ o. unwrap_or o (prefix_len is_word_byte (t ++ b))) none ∙ prefix_len-whole is_word_byte t b (identifier_all t is) off in
    front-hash (t ++ b) ∙ symbol-word (t ++ b) (identifier_begins t b is) ∙ symbol_size t (selector_len (t ++ b)) len

between_none : (b : List ℕ) → begins is_letter b ≡ false → keywords_len false b ≡ Some 0
between_none [] off = refl
between_none (c ∷ cs) off = rw off refl

-- keywords that neither a letter nor `=` follows
pub keywords_len-whole : {t : List ℕ} → AreKeywords t → (b : List ℕ) → begins is_letter b ≡ false → begins (λ c. c == 61) b ≡ false → keywords_len true (t ++ b) ≡ Some (length t)
keywords_len-whole {t = t} (last_keyword name word e) b letter equal =
    let size : 0 + (length name + 1) ≡ length t = omega (arith, ap length e, length-append name (58 ∷ [])) in
    ap (λ (xs : List ℕ). keywords_len true (xs ++ b)) e ∙ ap (keywords_len true) (append_assoc name (58 ∷ []) b)
    ∙ keywords-word name b 0 (identifier_all name word) (colon_of b equal) (between_none b letter) ∙ ap Some size
keywords_len-whole {t = t} (next_keyword name rest word e more) b letter equal =
    let size : length rest + (length name + 1) ≡ length t = omega (arith, ap length e, length-append name (58 ∷ rest)) in
    let begun : begins is_letter (rest ++ b) ≡ true = keywords_begin more b in
    ap (λ (xs : List ℕ). keywords_len true (xs ++ b)) e ∙ ap (keywords_len true) (append_assoc name (58 ∷ rest) b)
    ∙ keywords-word name (rest ++ b) (length rest) (identifier_all name word) (colon_of (rest ++ b) (letter_equals (rest ++ b) begun)) (between_next (rest ++ b) (length rest) begun (keywords_len-whole more b letter equal)) ∙ ap Some size

pub symbol_keywords-stop : (t b : List ℕ) → AreKeywords t → IsStop b → front_at ((35 ∷ t) ++ b) ≡ Lexeme kind.Symbol (length (35 ∷ t))
unfolding selector_len
symbol_keywords-stop t b are stop =
    let some : keywords_len true (t ++ b) ≡ Some (length t) = keywords_len-whole are b (stop_begins is_letter b refl refl refl refl refl refl stop) (stop_begins (λ c. c == 61) b refl refl refl refl refl refl stop) in
    let len : selector_len (t ++ b) ≡ length t = ap (λ o. unwrap_or o (prefix_len is_word_byte (t ++ b))) some in
    front-hash (t ++ b) ∙ symbol-word (t ++ b) (keywords_begin are b) ∙ symbol_size t (selector_len (t ++ b)) len

pub symbol_operator-stop : (t b : List ℕ) → is_run is_operator_byte t ≡ true → IsStop b → front_at ((35 ∷ t) ++ b) ≡ Lexeme kind.Symbol (length (35 ∷ t))
symbol_operator-stop t b is stop =
    let len : prefix_len is_operator_byte (t ++ b) ≡ length t = prefix_len-whole is_operator_byte t b (is_run-all is_operator_byte t is) (stop_begins is_operator_byte b refl refl refl refl refl refl stop) in
    front-hash (t ++ b) ∙ symbol-operator (t ++ b) (run_begins is_operator_byte t b is) ∙ symbol_size t (prefix_len is_operator_byte (t ++ b)) len

-- signs, whatever follows, but for a colon before `=`
pub array_open-front : (b : List ℕ) → front_at (35 ∷ 40 ∷ b) ≡ Lexeme kind.ArrayOpen 2
unfolding front_of symbol_front
array_open-front b = refl

pub paren_open-front : (b : List ℕ) → front_at (40 ∷ b) ≡ Lexeme kind.ParenOpen 1
unfolding front_of sign_front
paren_open-front b = refl

pub paren_close-front : (b : List ℕ) → front_at (41 ∷ b) ≡ Lexeme kind.ParenClose 1
unfolding front_of sign_front
paren_close-front b = refl

pub block_open-front : (b : List ℕ) → front_at (91 ∷ b) ≡ Lexeme kind.BlockOpen 1
unfolding front_of sign_front
block_open-front b = refl

pub block_close-front : (b : List ℕ) → front_at (93 ∷ b) ≡ Lexeme kind.BlockClose 1
unfolding front_of sign_front
block_close-front b = refl

pub colon-front : (b : List ℕ) → begins (λ c. c == 61) b ≡ false → front_at (58 ∷ b) ≡ Lexeme kind.Colon 1
unfolding front_of sign_front
colon-front b off = rw off refl

pub assign-front : (b : List ℕ) → front_at (58 ∷ 61 ∷ b) ≡ Lexeme kind.Assign 2
unfolding front_of sign_front
assign-front b = refl

pub caret-front : (b : List ℕ) → front_at (94 ∷ b) ≡ Lexeme kind.Caret 1
unfolding front_of sign_front
caret-front b = refl

pub period-front : (b : List ℕ) → front_at (46 ∷ b) ≡ Lexeme kind.Period 1
unfolding front_of sign_front
period-front b = refl

pub semicolon-front : (b : List ℕ) → front_at (59 ∷ b) ≡ Lexeme kind.Semicolon 1
unfolding front_of sign_front
semicolon-front b = refl
