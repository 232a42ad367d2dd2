-- What is computed at the front of bytes has the form that it names.
use Rattle.std.proofs.Common.{◌≡◌, ◌+◌, ◌-◌, ◌^◌, ◌<◌, ◌≤◌, ℕ, zero, suc, Bool, true, false, true≢false, not, ◌&&◌, ◌||◌, ◌==◌, List, [], ◌∷◌, ◌++◌, drop, take, length, nat_lt, nat_le, Option, None, Some, refl, ap, sym, subst, ◌∙◌, arith, get_or, add-one, append_assoc, if◌then◌else◌, length-append}
use Rattle.std.specs.List.{prefix_len, list_all}
use Rattle.std.specs.Option.{option_map}
use Rattle.std.proofs.lemmas.List.{take-append-drop, take-take, drop-take, drop-drop, drop_more, length-take-le, take_all}
use Rattle.std.proofs.lemmas.List.Sums.{prefix_len-le-length}
use Rattle.std.proofs.lemmas.Bool.{lt-ltb}
use borrow.Author.Tests.{ltb-true}
use Rattle.st_base.specs.declared.tokens.TokenKind.{TokenKind}
use Rattle.st_base.specs.declared.tokens.TokenKind.TheVariants as kind
use Rattle.st_base.specs.declared.faults.Reason.TheVariants as reason
use Rattle.st_base.specs.TokenBytes.{is_letter, is_digit, is_word_byte, is_operator_byte, is_white_byte, is_figure, begins, begins_colon, begins_float}
use Rattle.st_base.specs.Lexed.{Front, Lexeme, Gap, Spoiled, word_front, operator_len, value_of, integer_at, is_radix_number, radix_front, number_front, string_len, string_front, quoted_front, selector_len, symbol_front, character_front, comment_len, comment_front, sign_front, front_of}
use Rattle.st_base.specs.Lexes.{is_identifier, is_run, IsString, IsNumber, decimal, in_radix, IsSelector, operators, HasForm, Spoils, no_token, no_symbol, no_character, open_string, open_symbol, open_comment, bad_radix, float_outside, integer_too_large}
use Rattle.st_lexer.proofs.Runs.{and_left, and_right, and_both, or_neither, prefix_len-goes, list_all-prefix, begins-prefix, is_run-prefix, list_all-take, begins-split, begins_colon-split, take-one_more}
use Rattle.st_lexer.proofs.Quotes.{string_len-some, string_len-none}
use Rattle.st_lexer.proofs.Selectors.{letter_word, selector_len-is}

-- white space or a comment of n bytes
pub data IsGap : ℕ → List ℕ → Type 0 where
  white_gap : {c : ℕ} {cs : List ℕ} → is_white_byte c ≡ true → IsGap 1 (c ∷ cs)
  comment_gap : (inner after : List ℕ) {n : ℕ} {bytes : List ℕ} → n ≡ length inner + 2 → bytes ≡ 34 ∷ (inner ++ 34 ∷ after) → list_all (λ c. not (c == 34)) inner ≡ true → IsGap n bytes

-- what a front says of bytes
abbrev pub IsSound : List ℕ → Front → Type 0
IsSound bytes (Lexeme k n) = HasForm k (take n bytes) (drop n bytes)
IsSound bytes (Gap n) = IsGap n bytes
IsSound bytes (Spoiled r n) = Spoils r n bytes

either : (bytes : List ℕ) (test : Bool) (f g : Front) → (test ≡ true → IsSound bytes f) → (test ≡ false → IsSound bytes g) → IsSound bytes (if test then f else g)
either bytes true f g left right = left refl
either bytes false f g left right = right refl

pub same_byte : (a b : ℕ) → (a == b) ≡ true → a ≡ b
same_byte a b is = grind (arith, is)

word_sound : (c : ℕ) (cs : List ℕ) → is_letter c ≡ true → IsSound (c ∷ cs) (word_front (c ∷ cs))
unfolding word_front
word_sound c cs letter =
    let bytes = c ∷ cs in
    let n = prefix_len is_word_byte (c ∷ cs) in
    let word : is_identifier (take n (c ∷ cs)) ≡ true = rw (prefix_len-goes is_word_byte c cs (letter_word c letter)) (and_both (is_letter c) _ letter (list_all-prefix is_word_byte cs)) in
    either (c ∷ cs) (begins_colon (drop n (c ∷ cs))) (Lexeme kind.Keyword (n + 1)) (Lexeme kind.Identifier n)
    (λ colon. let split = begins_colon-split n (c ∷ cs) colon in (take n (c ∷ cs), take-one_more n (c ∷ cs) (drop (n + 1) (c ∷ cs)) 58 split.0, word, split.1))
    (λ off. word)

is_run-take : (p : ℕ → Bool) (m c : ℕ) (cs : List ℕ) → 0 < m → list_all p (take m (c ∷ cs)) ≡ true → is_run p (take m (c ∷ cs)) ≡ true
is_run-take p zero c cs some all = absurd (omega arith)
is_run-take p (suc m) c cs some all = all

get_or-here : (front : List ℕ) (b : ℕ) (r : List ℕ) → get_or (front ++ b ∷ r) (length front) 0 ≡ b
get_or-here [] b r = refl
get_or-here (c ∷ cs) b r = get_or-here cs b r

and_last : (a b c : Bool) → (a && b && c) ≡ false → a ≡ true → b ≡ true → c ≡ false
and_last a b c off left right = rw (left, right) at off

-- what is taken has a last byte
last_taken : (bytes front : List ℕ) (n b : ℕ) → n ≤ length bytes → take n bytes ≡ front ++ b ∷ [] → (n ≡ length front + 1) × (get_or bytes (n - 1) 0 ≡ b)
last_taken bytes front n b low is =
    let long : n ≡ length front + 1 = sym (length-take-le n bytes low) ∙ ap length is ∙ length-append front (b ∷ []) in
    let place : n - 1 ≡ length front = omega arith in
    let whole : bytes ≡ front ++ b ∷ drop n bytes = sym (take-append-drop n bytes) ∙ ap (λ (xs : List ℕ). xs ++ drop n bytes) is ∙ append_assoc front (b ∷ []) (drop n bytes) in
    (long, ap (λ (xs : List ℕ). get_or xs (n - 1) 0) whole ∙ ap (λ k. get_or (front ++ b ∷ drop n bytes) k 0) place ∙ get_or-here front b (drop n bytes))

operator_cut : (test : Bool) (bytes : List ℕ) (n c : ℕ) (cs : List ℕ) → bytes ≡ c ∷ cs → n ≤ length bytes → 0 < n → list_all is_operator_byte (take n bytes) ≡ true
    → (test ≡ true → (1 < n) × (get_or bytes (n - 1) 0 ≡ 45))
    → (test ≡ false → 1 < n → get_or bytes (n - 1) 0 ≡ 45 → begins is_digit (drop n bytes) ≡ false)
    → list_all is_operator_byte (take (n - 1) bytes) ≡ true
    → HasForm kind.Operator (take (if test then n - 1 else n) bytes) (drop (if test then n - 1 else n) bytes)
operator_cut true bytes n c cs is low some all cut whole fewer =
    let long : 1 < n = (cut refl).0 in
    let minus : get_or bytes (n - 1) 0 ≡ 45 = (cut refl).1 in
    let run : is_run is_operator_byte (take (n - 1) bytes) ≡ true = subst (λ (xs : List ℕ). list_all is_operator_byte (take (n - 1) xs) ≡ true → is_run is_operator_byte (take (n - 1) xs) ≡ true) (sym is) (λ all. is_run-take is_operator_byte (n - 1) c cs (omega arith) all) fewer in
    let here : drop (n - 1) bytes ≡ get_or bytes (n - 1) 0 ∷ drop (n - 1 + 1) bytes = drop_more bytes (n - 1) 0 (omega arith) in
    let far : begins is_digit (drop (n - 1) bytes) ≡ false = rw here (rw minus refl) in
    (run, λ front e more. far)
operator_cut false bytes n c cs is low some all cut whole fewer =
    let run : is_run is_operator_byte (take n bytes) ≡ true = subst (λ (xs : List ℕ). list_all is_operator_byte (take n xs) ≡ true → is_run is_operator_byte (take n xs) ≡ true) (sym is) (λ all. is_run-take is_operator_byte n c cs some all) all in
    (run, λ front e more. let last = last_taken bytes front n 45 low e in whole refl (omega (arith, last.0)) last.1)

operator_sound : (c : ℕ) (cs : List ℕ) → is_operator_byte c ≡ true → IsSound (c ∷ cs) (Lexeme kind.Operator (operator_len (c ∷ cs)))
unfolding operator_len
operator_sound c cs op =
    let n = prefix_len is_operator_byte (c ∷ cs) in
    let some : 0 < n = omega (arith, prefix_len-goes is_operator_byte c cs op) in
    let low : n ≤ length (c ∷ cs) = prefix_len-le-length is_operator_byte (c ∷ cs) in
    let a = nat_lt 1 n in
    let b = get_or (c ∷ cs) (n - 1) 0 == 45 in
    let d = begins is_digit (drop n (c ∷ cs)) in
    operator_cut (a && b && d) (c ∷ cs) n c cs refl low some (list_all-prefix is_operator_byte (c ∷ cs))
    (λ cut. (ltb-true 1 n (and_left a b (and_left (a && b) d cut)), same_byte (get_or (c ∷ cs) (n - 1) 0) 45 (and_right a b (and_left (a && b) d cut))))
    (λ off long minus. and_last a b d off (lt-ltb 1 n long) (rw minus refl))
    (fewer n (list_all-prefix is_operator_byte (c ∷ cs)))
  where
    fewer : (n : ℕ) → list_all is_operator_byte (take n (c ∷ cs)) ≡ true → list_all is_operator_byte (take (n - 1) (c ∷ cs)) ≡ true
    fewer n all =
        let low : n - 1 ≤ n = omega arith in
        subst (λ (xs : List ℕ). list_all is_operator_byte xs ≡ true) (take-take (n - 1) n (c ∷ cs) low) (list_all-take is_operator_byte (n - 1) (take n (c ∷ cs)) all)

high_value : (value : ℕ) → nat_le value (2 ^ 127) ≡ false → 2 ^ 127 < value
high_value value off = grind (arith, off)

integer_sound : (bytes : List ℕ) (value n : ℕ) → IsNumber value (take n bytes) (drop n bytes) → IsSound bytes (integer_at value n (drop n bytes))
unfolding integer_at
integer_sound bytes value n number =
    let whole : bytes ≡ take n bytes ++ drop n bytes = sym (take-append-drop n bytes) in
    either bytes (begins_float (drop n bytes)) (Spoiled reason.FloatOutside 0) (if nat_le value (2 ^ 127) then Lexeme (kind.Integer value) n else Spoiled reason.IntegerTooLarge 0)
    (λ is. float_outside value (take n bytes) (drop n bytes) whole number is)
    (λ off. either bytes (nat_le value (2 ^ 127)) (Lexeme (kind.Integer value) n) (Spoiled reason.IntegerTooLarge 0)
    (λ low. number)
    (λ high. integer_too_large value (take n bytes) (drop n bytes) whole number off (high_value value high)))

run_of : (p : ℕ → Bool) (t : List ℕ) → list_all p t ≡ true → 0 < length t → is_run p t ≡ true
run_of p [] all some = absurd (omega arith)
run_of p (c ∷ cs) all some = all

take_plus : (n m : ℕ) (bytes : List ℕ) → take (n + m) bytes ≡ take n bytes ++ take m (drop n bytes)
take_plus n m bytes =
    let low : n ≤ n + m = omega arith in
    sym (take-append-drop n (take (n + m) bytes)) ∙ ap (λ (xs : List ℕ). xs ++ drop n (take (n + m) bytes)) (take-take n (n + m) bytes low) ∙ ap (λ (xs : List ℕ). take n bytes ++ xs) (drop-take n m bytes)

take-more : (n m : ℕ) (bytes : List ℕ) (b : ℕ) → drop n bytes ≡ b ∷ drop (n + 1) bytes → take (n + 1 + m) bytes ≡ take n bytes ++ b ∷ take m (drop (n + 1) bytes)
take-more n m bytes b is =
    take_plus (n + 1) m bytes ∙ ap (λ (xs : List ℕ). xs ++ take m (drop (n + 1) bytes)) (take-one_more n bytes (drop (n + 1) bytes) b is) ∙ append_assoc (take n bytes) (b ∷ []) (take m (drop (n + 1) bytes))

radix_sound : (bytes : List ℕ) (n : ℕ) → is_run is_digit (take n bytes) ≡ true → drop n bytes ≡ 114 ∷ drop (n + 1) bytes → IsSound bytes (radix_front (value_of 10 (take n bytes)) (n + 1) (drop (n + 1) bytes))
unfolding radix_front
radix_sound bytes n digits is =
    let after = drop (n + 1) bytes in
    let m = prefix_len is_figure (drop (n + 1) bytes) in
    let figures = take m (drop (n + 1) bytes) in
    let radix = value_of 10 (take n bytes) in
    let behind : drop m (drop (n + 1) bytes) ≡ drop (n + 1 + m) bytes = drop-drop m (n + 1) bytes in
    let taken : take (n + 1 + m) bytes ≡ take n bytes ++ 114 ∷ take m (drop (n + 1) bytes) = take-more n m bytes 114 is in
    let stops : begins is_figure (drop m (drop (n + 1) bytes)) ≡ false = begins-prefix is_figure (drop (n + 1) bytes) in
    let all : list_all is_figure (take m (drop (n + 1) bytes)) ≡ true = list_all-prefix is_figure (drop (n + 1) bytes) in
    let whole : bytes ≡ take n bytes ++ 114 ∷ (take m (drop (n + 1) bytes) ++ drop m (drop (n + 1) bytes)) =
    sym (take-append-drop n bytes) ∙ ap (λ (xs : List ℕ). take n bytes ++ xs) is ∙ ap (λ (xs : List ℕ). take n bytes ++ 114 ∷ xs) (sym (take-append-drop m (drop (n + 1) bytes))) in
    either bytes (is_radix_number radix figures) (integer_at (value_of radix figures) (n + 1 + m) (drop m (drop (n + 1) bytes))) (Spoiled reason.BadRadix 0)
    (λ good.
    let some : nat_lt 0 (length figures) ≡ true = and_right _ _ (and_left _ _ good) in
    let run : is_run is_figure figures ≡ true = run_of is_figure figures all (ltb-true 0 (length figures) some) in
    let number : IsNumber (value_of radix figures) (take (n + 1 + m) bytes) (drop (n + 1 + m) bytes) = in_radix (take n bytes) figures taken digits run (subst (λ (xs : List ℕ). begins is_figure xs ≡ false) behind stops) good in
    subst (λ (xs : List ℕ). IsSound bytes (integer_at (value_of radix figures) (n + 1 + m) xs)) (sym behind) (integer_sound bytes (value_of radix figures) (n + 1 + m) number))
    (λ bad. bad_radix (take n bytes) figures (drop m (drop (n + 1) bytes)) whole digits all stops bad)

begins-neither : (p : ℕ → Bool) (b : ℕ) (bs : List ℕ) → begins p bs ≡ false → begins (λ c. c == b) bs ≡ false → begins (λ c. p c || c == b) bs ≡ false
begins-neither p b [] left right = refl
begins-neither p b (c ∷ cs) left right = or_neither (p c) (c == b) left right

number_sound : (c : ℕ) (cs : List ℕ) → is_digit c ≡ true → IsSound (c ∷ cs) (number_front (c ∷ cs))
unfolding number_front
number_sound c cs digit =
    let n = prefix_len is_digit (c ∷ cs) in
    let digits : is_run is_digit (take n (c ∷ cs)) ≡ true = is_run-prefix is_digit c cs digit in
    let stops : begins is_digit (drop n (c ∷ cs)) ≡ false = begins-prefix is_digit (c ∷ cs) in
    either (c ∷ cs) (begins (λ c. c == 114) (drop n (c ∷ cs))) (radix_front (value_of 10 (take n (c ∷ cs))) (n + 1) (drop (n + 1) (c ∷ cs))) (integer_at (value_of 10 (take n (c ∷ cs))) n (drop n (c ∷ cs)))
    (λ is. radix_sound (c ∷ cs) n digits (begins-split 114 n (c ∷ cs) is))
    (λ off. integer_sound (c ∷ cs) (value_of 10 (take n (c ∷ cs))) n (decimal digits (begins-neither is_digit 114 (drop n (c ∷ cs)) stops off)))

string_sound : (o : Option ℕ) (bs : List ℕ) → string_len false bs ≡ o → IsSound (39 ∷ bs) (string_front o)
string_sound None bs is = open_string (string_len-none bs is)
string_sound (Some n) bs is =
    let string = string_len-some bs n is in
    subst (λ k. IsString (take k (39 ∷ bs))) (sym (add-one n)) (string.0, ap (λ (xs : List ℕ). 39 ∷ xs) string.1, string.2)

two_more : (n : ℕ) → n + 2 ≡ suc (suc n)
two_more n = omega arith

quoted_sound : (o : Option ℕ) (bs : List ℕ) → string_len false bs ≡ o → IsSound (35 ∷ 39 ∷ bs) (quoted_front o)
quoted_sound None bs is = open_symbol (string_len-none bs is)
quoted_sound (Some n) bs is =
    let string = string_len-some bs n is in
    subst (λ k. (s : List ℕ) × (take k (35 ∷ 39 ∷ bs) ≡ 35 ∷ s) × IsString s) (sym (two_more n)) (39 ∷ take n bs, refl, (string.0, ap (λ (xs : List ℕ). 39 ∷ xs) string.1, string.2))

quoted_here : (c : ℕ) (cs : List ℕ) → (c == 39) ≡ true → IsSound (35 ∷ c ∷ cs) (quoted_front (string_len false cs))
quoted_here c cs is = subst (λ d. IsSound (35 ∷ d ∷ cs) (quoted_front (string_len false cs))) (sym (same_byte c 39 is)) (quoted_sound (string_len false cs) cs refl)

symbol_here : (bytes : List ℕ) (k : ℕ) → IsSelector (take k bytes) (drop k bytes) → IsSound (35 ∷ bytes) (Lexeme kind.Symbol (k + 1))
symbol_here bytes k selector = subst (λ n. HasForm kind.Symbol (take n (35 ∷ bytes)) (drop n (35 ∷ bytes))) (sym (add-one k)) (take k bytes, refl, selector)

symbol_sound : (bytes : List ℕ) → IsSound (35 ∷ bytes) (symbol_front bytes)
unfolding symbol_front
symbol_sound [] = no_symbol refl
symbol_sound (c ∷ cs) =
    let bytes = 35 ∷ c ∷ cs in
    either bytes (c == 40) (Lexeme kind.ArrayOpen 2) _ (λ is. ap (λ d. 35 ∷ d ∷ []) (same_byte c 40 is)) (λ no_paren.
    either bytes (c == 39) (quoted_front (string_len false cs)) _ (λ is. quoted_here c cs is) (λ no_quote.
    either bytes (is_letter c) (Lexeme kind.Symbol (selector_len (c ∷ cs) + 1)) _ (λ letter. symbol_here (c ∷ cs) (selector_len (c ∷ cs)) (selector_len-is c cs letter)) (λ no_letter.
    either bytes (is_operator_byte c) (Lexeme kind.Symbol (prefix_len is_operator_byte (c ∷ cs) + 1)) (Spoiled reason.BadCharacter 0)
    (λ op. symbol_here (c ∷ cs) (prefix_len is_operator_byte (c ∷ cs)) (operators (is_run-prefix is_operator_byte c cs op)))
    (λ no_operator. no_symbol (or_neither _ (c == 40) (or_neither _ (c == 39) (or_neither (is_letter c) (is_operator_byte c) no_letter no_operator) no_quote) no_paren)))))

character_sound : (bytes : List ℕ) → IsSound (36 ∷ bytes) (character_front bytes)
character_sound [] = no_character
character_sound (c ∷ cs) = (c, refl)

-- a byte that a comment goes on with
abbrev pub is_inner : ℕ → Bool
is_inner c = not (c == 34)

inner_stops : (n : ℕ) (bs : List ℕ) → n < length bs → begins is_inner (drop n bs) ≡ false → drop n bs ≡ 34 ∷ drop (n + 1) bs
inner_stops n bs low off =
    let here : drop n bs ≡ get_or bs n 0 ∷ drop (n + 1) bs = drop_more bs n 0 low in
    let double : not (get_or bs n 0 == 34) ≡ false = rw here at off in
    here ∙ ap (λ d. d ∷ drop (n + 1) bs) (same_byte (get_or bs n 0) 34 (both (get_or bs n 0 == 34) double))
  where
    both : (b : Bool) → not b ≡ false → b ≡ true
    both true is = refl
    both false is = absurd (true≢false is)

comment_case : (test : Bool) (bs : List ℕ) (n : ℕ) → (test ≡ true → n < length bs) → (test ≡ false → length bs ≤ n) → list_all is_inner (take n bs) ≡ true → begins is_inner (drop n bs) ≡ false → IsSound (34 ∷ bs) (comment_front (option_map (λ n. n + 1) (if test then Some n else None)))
comment_case true bs n some none all off =
    let low : n < length bs = some refl in
    let long : length (take n bs) ≡ n = length-take-le n bs (omega arith) in
    comment_gap (take n bs) (drop (n + 1) bs) (omega arith) (ap (λ (xs : List ℕ). 34 ∷ xs) (sym (take-append-drop n bs) ∙ ap (λ (xs : List ℕ). take n bs ++ xs) (inner_stops n bs low off))) all
comment_case false bs n some none all off = open_comment (subst (λ (xs : List ℕ). list_all is_inner xs ≡ true) (take_all n bs (none refl)) all)

at_least : (a b : ℕ) → nat_lt a b ≡ false → b ≤ a
at_least a b off = grind (arith, off)

comment_sound : (bs : List ℕ) → IsSound (34 ∷ bs) (comment_front (comment_len bs))
comment_sound bs =
    let n = prefix_len is_inner bs in
    comment_case (nat_lt n (length bs)) bs n (λ is. ltb-true n (length bs) is) (λ off. at_least n (length bs) off) (list_all-prefix is_inner bs) (begins-prefix is_inner bs)

sign_sound : (b : ℕ) (bs : List ℕ) → (is_letter b || is_digit b || is_operator_byte b) ≡ false → (b == 36) ≡ false → (b == 39) ≡ false → (b == 34) ≡ false → (b == 35) ≡ false → IsSound (b ∷ bs) (sign_front b bs)
unfolding sign_front
sign_sound b bs classes dollar quote double hash =
    let bytes = b ∷ bs in
    let one : (k : TokenKind) (n : ℕ) → (b == n) ≡ true → b ∷ [] ≡ n ∷ [] = λ k n is. ap (λ d. d ∷ []) (same_byte b n is) in
    either bytes (is_white_byte b) (Gap 1) _ (λ is. white_gap is) (λ white.
    either bytes (b == 40) (Lexeme kind.ParenOpen 1) _ (λ is. one kind.ParenOpen 40 is) (λ round.
    either bytes (b == 41) (Lexeme kind.ParenClose 1) _ (λ is. one kind.ParenClose 41 is) (λ round_close.
    either bytes (b == 91) (Lexeme kind.BlockOpen 1) _ (λ is. one kind.BlockOpen 91 is) (λ square.
    either bytes (b == 93) (Lexeme kind.BlockClose 1) _ (λ is. one kind.BlockClose 93 is) (λ square_close.
    either bytes (b == 58) (if begins (λ c. c == 61) bs then Lexeme kind.Assign 2 else Lexeme kind.Colon 1) _ (λ is. colon_sound b bs is) (λ colon.
    either bytes (b == 94) (Lexeme kind.Caret 1) _ (λ is. one kind.Caret 94 is) (λ caret.
    either bytes (b == 46) (Lexeme kind.Period 1) _ (λ is. one kind.Period 46 is) (λ period.
    either bytes (b == 59) (Lexeme kind.Semicolon 1) (Spoiled reason.BadCharacter 0) (λ is. one kind.Semicolon 59 is) (λ semicolon.
    no_token (or_neither _ (b == 94) (or_neither _ (b == 93) (or_neither _ (b == 91) (or_neither _ (b == 59) (or_neither _ (b == 58) (or_neither _ (b == 46) (or_neither _ (b == 41) (or_neither _ (b == 40) (or_neither _ (b == 39) (or_neither _ (b == 36) (or_neither _ (b == 35) (or_neither _ (b == 34) (or_neither _ (is_white_byte b) classes white) double) hash) dollar) quote) round) round_close) period) colon) semicolon) square) square_close) caret))))))))))
  where
    colon_sound : (b : ℕ) (bs : List ℕ) → (b == 58) ≡ true → IsSound (b ∷ bs) (if begins (λ c. c == 61) bs then Lexeme kind.Assign 2 else Lexeme kind.Colon 1)
    colon_sound b [] is = ap (λ d. d ∷ []) (same_byte b 58 is)
    colon_sound b (c ∷ cs) is = either (b ∷ c ∷ cs) (c == 61) (Lexeme kind.Assign 2) (Lexeme kind.Colon 1) (λ equal. rw (same_byte b 58 is, same_byte c 61 equal) refl) (λ off. ap (λ d. d ∷ []) (same_byte b 58 is))

starting : (b : ℕ) (bs : List ℕ) (n : ℕ) (f : Front) → (b == n) ≡ true → IsSound (n ∷ bs) f → IsSound (b ∷ bs) f
starting b bs n f is sound = subst (λ d. IsSound (d ∷ bs) f) (sym (same_byte b n is)) sound

pub front_sound : (b : ℕ) (bs : List ℕ) → IsSound (b ∷ bs) (front_of b bs)
unfolding front_of
front_sound b bs =
    let bytes = b ∷ bs in
    either bytes (is_letter b) (word_front (b ∷ bs)) _ (λ letter. word_sound b bs letter) (λ no_letter.
    either bytes (is_digit b) (number_front (b ∷ bs)) _ (λ digit. number_sound b bs digit) (λ no_digit.
    either bytes (is_operator_byte b) (Lexeme kind.Operator (operator_len (b ∷ bs))) _ (λ op. operator_sound b bs op) (λ no_operator.
    either bytes (b == 36) (character_front bs) _ (λ is. starting b bs 36 (character_front bs) is (character_sound bs)) (λ dollar.
    either bytes (b == 39) (string_front (string_len false bs)) _ (λ is. starting b bs 39 (string_front (string_len false bs)) is (string_sound (string_len false bs) bs refl)) (λ quote.
    either bytes (b == 34) (comment_front (comment_len bs)) _ (λ is. starting b bs 34 (comment_front (comment_len bs)) is (comment_sound bs)) (λ double.
    either bytes (b == 35) (symbol_front bs) (sign_front b bs) (λ is. starting b bs 35 (symbol_front bs) is (symbol_sound bs)) (λ hash.
    sign_sound b bs (or_neither _ (is_operator_byte b) (or_neither (is_letter b) (is_digit b) no_letter no_digit) no_operator) dollar quote double hash)))))))
