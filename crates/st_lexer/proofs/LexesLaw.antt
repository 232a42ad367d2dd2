-- A text has exactly the tokens and the fault that are computed.
use Rattle.std.proofs.Common.{◌≡◌, ◌+◌, ◌^◌, ◌<◌, ◌≤◌, ℕ, zero, suc, true, false, ◌||◌, ◌==◌, List, [], ◌∷◌, ◌++◌, drop, take, length, nat_lt, nat_le, Option, Some, refl, ap, sym, subst, ◌∙◌, arith, get_or, append_assoc, length-append, length-drop, ◌↔◌}
use Rattle.std.specs.List.{prefix_len, list_all}
use Rattle.std.proofs.lemmas.List.{take-append-drop, drop_at, append-nil, length-take-le}
use Rattle.st_base.specs.declared.tokens.Token.{Token}
use Rattle.st_base.specs.declared.tokens.TokenKind.{TokenKind}
use Rattle.st_base.specs.declared.tokens.LexFault.{LexFault}
use Rattle.st_base.specs.declared.faults.Reason.{Reason}
use Rattle.st_base.specs.declared.faults.Reason.TheVariants as reason
use Rattle.st_base.specs.TokenBytes.{is_letter, is_digit, is_operator_byte, is_white_byte, is_figure, begins, begins_float}
use Rattle.st_base.specs.Lexed.{Front, Lexeme, Gap, Spoiled, value_of, integer_at, is_radix_number, string_front, quoted_front, symbol_front, comment_len, comment_front, sign_front, front_of, LexedText, lexed_at, lexed_of}
use Rattle.st_base.specs.Lexes.{is_run, begins_something, Spoils, no_token, no_symbol, no_character, open_string, open_symbol, open_comment, bad_radix, float_outside, integer_too_large, IsToken, LexesFrom, ended, white, comment, token, spoiled, Lexes}
use Rattle.st_lexer.proofs.Fronts.{FrontFits, front_fits}
use Rattle.st_lexer.proofs.Scanning.{behind_tokens, lexed_at-lexeme, lexed_at-gap, lexed_at-spoiled}
use Rattle.st_lexer.proofs.Runs.{or_left, or_right, prefix_len-whole}
use Rattle.st_lexer.proofs.Quotes.{string_len-open}
use Rattle.st_lexer.proofs.Sound.{IsGap, white_gap, comment_gap, IsSound, front_sound, same_byte, is_inner}
use Rattle.st_lexer.proofs.Cover.{Covers, front_at, cover, or_case, digits-front, digits_at, number_radix_at, figures_front, number-front, front-quote, front-hash, symbol-quote}

-- what stands at the front of bytes where a byte begins no token, no white space and no comment
no_token-front : (c : ℕ) (cs : List ℕ) → begins_something c ≡ false → front_of c cs ≡ Spoiled reason.BadCharacter 0
unfolding front_of sign_front
no_token-front c cs off =
    let a15 = or_left _ (c == 94) off in let caret = or_right _ (c == 94) off in
    let a14 = or_left _ (c == 93) a15 in let square_close = or_right _ (c == 93) a15 in
    let a13 = or_left _ (c == 91) a14 in let square = or_right _ (c == 91) a14 in
    let a12 = or_left _ (c == 59) a13 in let semicolon = or_right _ (c == 59) a13 in
    let a11 = or_left _ (c == 58) a12 in let colon = or_right _ (c == 58) a12 in
    let a10 = or_left _ (c == 46) a11 in let period = or_right _ (c == 46) a11 in
    let a9 = or_left _ (c == 41) a10 in let round_close = or_right _ (c == 41) a10 in
    let a8 = or_left _ (c == 40) a9 in let round = or_right _ (c == 40) a9 in
    let a7 = or_left _ (c == 39) a8 in let quote = or_right _ (c == 39) a8 in
    let a6 = or_left _ (c == 36) a7 in let dollar = or_right _ (c == 36) a7 in
    let a5 = or_left _ (c == 35) a6 in let hash = or_right _ (c == 35) a6 in
    let a4 = or_left _ (c == 34) a5 in let double = or_right _ (c == 34) a5 in
    let a3 = or_left _ (is_white_byte c) a4 in let blank = or_right _ (is_white_byte c) a4 in
    let a2 = or_left _ (is_operator_byte c) a3 in let op = or_right _ (is_operator_byte c) a3 in
    let letter = or_left (is_letter c) (is_digit c) a2 in let digit = or_right (is_letter c) (is_digit c) a2 in
    rw (letter, digit, op, dollar, quote, double, hash, blank, round, round_close, square, square_close, colon, caret, period, semicolon) refl

no_symbol-front : (cs : List ℕ) → begins (λ c. is_letter c || is_operator_byte c || c == 39 || c == 40) cs ≡ false → symbol_front cs ≡ Spoiled reason.BadCharacter 0
unfolding symbol_front
no_symbol-front [] off = refl
no_symbol-front (c ∷ cs) off =
    let a3 = or_left _ (c == 40) off in let round = or_right _ (c == 40) off in
    let a2 = or_left _ (c == 39) a3 in let quote = or_right _ (c == 39) a3 in
    let letter = or_left (is_letter c) (is_operator_byte c) a2 in let op = or_right (is_letter c) (is_operator_byte c) a2 in
    rw (round, quote, letter, op) refl

no_character-front : front_of 36 [] ≡ Spoiled reason.BadCharacter 0
unfolding front_of
no_character-front = refl

front-double : (bs : List ℕ) → front_of 34 bs ≡ comment_front (comment_len bs)
unfolding front_of
front-double bs = refl

not_below : (a b : ℕ) → b ≤ a → nat_lt a b ≡ false
not_below a b low = grind (arith, low)

is_below : (a b : ℕ) → a < b → nat_lt a b ≡ true
is_below a b low = grind (arith, low)

open_comment-front : (s : List ℕ) → list_all is_inner s ≡ true → front_of 34 s ≡ Spoiled reason.OpenComment 0
open_comment-front s all =
    let whole : prefix_len is_inner s ≡ length s = ap (prefix_len is_inner) (sym (append-nil s)) ∙ prefix_len-whole is_inner s [] all refl in
    let past : nat_lt (prefix_len is_inner s) (length s) ≡ false = not_below (prefix_len is_inner s) (length s) (omega arith) in
    front-double s ∙ rw past refl

comment-front : (inner after : List ℕ) → list_all is_inner inner ≡ true → front_of 34 (inner ++ 34 ∷ after) ≡ Gap (length inner + 2)
comment-front inner after all =
    let whole : prefix_len is_inner (inner ++ 34 ∷ after) ≡ length inner = prefix_len-whole is_inner inner (34 ∷ after) all refl in
    let long : length (inner ++ 34 ∷ after) ≡ length inner + suc (length after) = length-append inner (34 ∷ after) in
    let low : nat_lt (prefix_len is_inner (inner ++ 34 ∷ after)) (length (inner ++ 34 ∷ after)) ≡ true = is_below _ _ (omega arith) in
    let sum : length inner + 1 + 1 ≡ length inner + 2 = omega arith in
    front-double (inner ++ 34 ∷ after) ∙ rw (low, whole) (ap Gap sum)

-- white space is no token
white_leaf : (c n : ℕ) (cs : List ℕ) → front_of n cs ≡ Gap 1 → (c == n) ≡ true → front_of c cs ≡ Gap 1
white_leaf c n cs there is = ap (λ d. front_of d cs) (same_byte c n is) ∙ there

pub white-front : (c : ℕ) (cs : List ℕ) → is_white_byte c ≡ true → front_of c cs ≡ Gap 1
unfolding front_of sign_front
white-front c cs is =
    or_case _ (c == 32) (or_case _ (c == 13) (or_case _ (c == 12) (or_case (c == 9) (c == 10) (white_leaf c 9 cs refl) (white_leaf c 10 cs refl)) (white_leaf c 12 cs refl)) (white_leaf c 13 cs refl)) (white_leaf c 32 cs refl) is

bad_radix-front : (radix figures after : List ℕ) → is_run is_digit radix ≡ true → list_all is_figure figures ≡ true → begins is_figure after ≡ false → is_radix_number (value_of 10 radix) figures ≡ false → front_at (radix ++ 114 ∷ (figures ++ after)) ≡ Spoiled reason.BadRadix 0
bad_radix-front radix figures after digits all off bad =
    digits-front radix (114 ∷ (figures ++ after)) digits ∙ digits_at radix (114 ∷ (figures ++ after)) digits refl ∙ number_radix_at radix (figures ++ after)
    ∙ figures_front (value_of 10 radix) (length radix + 1) figures after all off ∙ rw bad refl

float-front : (value n : ℕ) (after : List ℕ) → begins_float after ≡ true → integer_at value n after ≡ Spoiled reason.FloatOutside 0
unfolding integer_at
float-front value n after is = rw is refl

too_large-front : (value n : ℕ) (after : List ℕ) → begins_float after ≡ false → 2 ^ 127 < value → integer_at value n after ≡ Spoiled reason.IntegerTooLarge 0
unfolding integer_at
too_large-front value n after off high = let past : nat_le value (2 ^ 127) ≡ false = over value (2 ^ 127) high in rw (off, past) refl
  where
    over : (a b : ℕ) → b < a → nat_le a b ≡ false
    over a b high = grind (arith, high)

-- a spoiled token is what is computed
pub spoiled-front : {r : Reason} {n : ℕ} {bytes : List ℕ} → Spoils r n bytes → front_at bytes ≡ Spoiled r n
spoiled-front (no_token {c = c} {cs = cs} off) = no_token-front c cs off
spoiled-front (no_symbol {cs = cs} off) = front-hash cs ∙ no_symbol-front cs off
spoiled-front no_character = no_character-front
spoiled-front (open_string {s = s} inner) = front-quote s ∙ ap string_front (string_len-open inner)
spoiled-front (open_symbol {s = s} inner) = front-hash (39 ∷ s) ∙ symbol-quote s ∙ ap quoted_front (string_len-open inner)
spoiled-front (open_comment {s = s} all) = open_comment-front s all
spoiled-front (bad_radix radix figures after e digits all off bad) = ap front_at e ∙ bad_radix-front radix figures after digits all off bad
spoiled-front (float_outside value t after e number is) = ap front_at e ∙ number-front number ∙ float-front value (length t) after is
spoiled-front (integer_too_large value t after e number off high) = ap front_at e ∙ number-front number ∙ too_large-front value (length t) after off high

-- the front of bytes that are there
at_front : (bytes : List ℕ) → 0 < length bytes → front_at bytes ≡ front_of (get_or bytes 0 0) (drop 1 bytes)
at_front [] some = absurd (omega arith)
at_front (b ∷ bs) some = refl

sound_at : (bytes : List ℕ) → 0 < length bytes → IsSound bytes (front_at bytes)
sound_at [] some = absurd (omega arith)
sound_at (b ∷ bs) some = front_sound b bs

pub fits_at : (bytes : List ℕ) → 0 < length bytes → FrontFits (length bytes) (front_at bytes)
fits_at [] some = absurd (omega arith)
fits_at (b ∷ bs) some = front_fits b bs

-- what is computed is what has the form, is the longest and not spoiled
token_of : (k : TokenKind) (t after : List ℕ) (f : Front) → IsToken k t after → front_at (t ++ after) ≡ f → IsSound (t ++ after) f → FrontFits (length (t ++ after)) f → Covers k (length t) f → f ≡ Lexeme k (length t)
token_of k t after (Lexeme other n) is front sound fits cover =
    let taken : length (take n (t ++ after)) ≡ n = length-take-le n (t ++ after) fits.1 in
    let low : length (take n (t ++ after)) ≤ length t = is.longest other (take n (t ++ after)) (drop n (t ++ after)) (take-append-drop n (t ++ after)) sound in
    let same : length t ≡ n = equal (length t) n cover.0 (below (length (take n (t ++ after))) n (length t) taken low) in
    let kinds : k ≡ other = cover.1 same in
    rw (kinds, same) refl
  where
    equal : (a b : ℕ) → a ≤ b → b ≤ a → a ≡ b
    equal a b low high = omega arith

    below : (a b c : ℕ) → a ≡ b → a ≤ c → b ≤ c
    below a b c e low = omega arith
token_of k t after (Gap n) is front sound fits cover = absurd cover
token_of k t after (Spoiled r n) is front sound fits cover = absurd (is.sound r n sound)

form_some : (k : TokenKind) (t after : List ℕ) → Covers k (length t) (front_at (t ++ after)) → 0 < length (t ++ after)
form_some k [] [] cover = absurd cover
form_some k [] (c ∷ cs) cover = omega arith
form_some k (c ∷ cs) after cover = omega arith

-- a token's bytes, and those behind them, are some
pub some_of : (k : TokenKind) (t after : List ℕ) → IsToken k t after → 0 < length (t ++ after)
some_of k t after is = form_some k t after (cover k t after is.form)

pub token-front : (k : TokenKind) (t after : List ℕ) → IsToken k t after → front_at (t ++ after) ≡ Lexeme k (length t)
token-front k t after is =
    let covers = cover k t after is.form in
    let some = form_some k t after covers in
    token_of k t after (front_at (t ++ after)) is refl (sound_at (t ++ after) some) (fits_at (t ++ after) some) covers

-- bytes that a front takes
pub at_lexeme : (bytes : List ℕ) (at n : ℕ) (k : TokenKind) → 0 < length bytes → front_at bytes ≡ Lexeme k n → lexed_at 0 at bytes ≡ behind_tokens (record { kind = k; start = at; end = at + n } ∷ []) (lexed_at 0 (at + n) (drop n bytes))
at_lexeme bytes at n k some is =
    let fits = subst (FrontFits (length bytes)) is (fits_at bytes some) in
    lexed_at-lexeme bytes at n k some (sym is ∙ at_front bytes some) fits.0 fits.1

pub at_gap : (bytes : List ℕ) (at n : ℕ) → 0 < length bytes → front_at bytes ≡ Gap n → lexed_at 0 at bytes ≡ lexed_at 0 (at + n) (drop n bytes)
at_gap bytes at n some is =
    let fits = subst (FrontFits (length bytes)) is (fits_at bytes some) in
    lexed_at-gap bytes at n some (sym is ∙ at_front bytes some) fits.0 fits.1

at_spoiled : (bytes : List ℕ) (at n : ℕ) (r : Reason) → 0 < length bytes → front_at bytes ≡ Spoiled r n → lexed_at 0 at bytes ≡ record { tokens = []; fault = Some (record { byte = at + n; reason = r }) }
at_spoiled bytes at n r some is = lexed_at-spoiled bytes at n r some (sym is ∙ at_front bytes some)

pub spoiled_some : {r : Reason} {n : ℕ} (bytes : List ℕ) → front_at bytes ≡ Spoiled r n → 0 < length bytes
spoiled_some [] is = absurd (cc)
spoiled_some (c ∷ cs) is = omega arith

abbrev text_of : List Token → Option LexFault → LexedText
text_of tokens fault = record { tokens = tokens; fault = fault }

-- tokens that a text has are those that are computed
pub lexed_at-from : {at : ℕ} {bytes : List ℕ} {tokens : List Token} {fault : Option LexFault} → LexesFrom at bytes tokens fault → lexed_at 0 at bytes ≡ record { tokens = tokens; fault = fault }
lexed_at-from ended = refl
lexed_at-from (white {at = at} {c = c} {cs = cs} is rest) = at_gap (c ∷ cs) at 1 (omega arith) (white-front c cs is) ∙ lexed_at-from rest
lexed_at-from (comment inner after {at = at} {bytes = bytes} e all rest) =
    let front : front_at bytes ≡ Gap (length inner + 2) = ap front_at e ∙ comment-front inner after all in
    let some : 0 < length bytes = omega (arith, ap length e) in
    let behind : drop (length inner + 2) bytes ≡ after = ap (drop (length inner + 2)) e ∙ comment-drop inner after in
    at_gap bytes at (length inner + 2) some front ∙ ap (lexed_at 0 (at + (length inner + 2))) behind ∙ lexed_at-from rest
  where
    comment-drop : (inner after : List ℕ) → drop (length inner + 2) (34 ∷ (inner ++ 34 ∷ after)) ≡ after
    comment-drop inner after =
        let sum : length inner + 2 ≡ suc (length inner + 1) = omega arith in
        let len : length (inner ++ 34 ∷ []) ≡ length inner + 1 = length-append inner (34 ∷ []) in
        ap (λ n. drop n (34 ∷ (inner ++ 34 ∷ after))) sum ∙ ap (drop (length inner + 1)) (sym (append_assoc inner (34 ∷ []) after)) ∙ drop_at (inner ++ 34 ∷ []) after (length inner + 1) len
lexed_at-from (token k t after {at = at} {bytes = bytes} e is rest) =
    let front : front_at bytes ≡ Lexeme k (length t) = ap front_at e ∙ token-front k t after is in
    let some : 0 < length bytes = subst (λ (xs : List ℕ). 0 < length xs) (sym e) (form_some k t after (cover k t after is.form)) in
    let behind : drop (length t) bytes ≡ after = ap (drop (length t)) e ∙ drop_at t after (length t) refl in
    at_lexeme bytes at (length t) k some front
    ∙ ap (λ (xs : List ℕ). behind_tokens (record { kind = k; start = at; end = at + length t } ∷ []) (lexed_at 0 (at + length t) xs)) behind
    ∙ ap (behind_tokens (record { kind = k; start = at; end = at + length t } ∷ [])) (lexed_at-from rest)
lexed_at-from (spoiled {at = at} {n = n} {reason = r} {bytes = bytes} spoils) =
    let front = spoiled-front spoils in
    at_spoiled bytes at n r (spoiled_some bytes front) front

-- what is computed is a token
token_is : (bytes : List ℕ) (k : TokenKind) (n : ℕ) → 0 < length bytes → front_at bytes ≡ Lexeme k n → IsToken k (take n bytes) (drop n bytes)
token_is bytes k n some is =
    let fits = subst (FrontFits (length bytes)) is (fits_at bytes some) in
    let len : length (take n bytes) ≡ n = length-take-le n bytes fits.1 in
    let whole : take n bytes ++ drop n bytes ≡ bytes = take-append-drop n bytes in
    record {
      form = subst (IsSound bytes) is (sound_at bytes some);
      longest = λ other u v e form.
          let covers : Covers other (length u) (Lexeme k n) = subst (Covers other (length u)) (ap front_at (e ∙ whole) ∙ is) (cover other u v form) in
          at_most (length u) n (length (take n bytes)) covers.0 len;
      sound = λ r m spoils. never k n r m (sym is ∙ ap front_at (sym whole) ∙ spoiled-front spoils);
    }
  where
    at_most : (a b c : ℕ) → a ≤ b → c ≡ b → a ≤ c
    at_most a b c low e = omega arith

    never : (k : TokenKind) (n : ℕ) (r : Reason) (m : ℕ) → Lexeme k n ≡ Spoiled r m → ⊥
    never k n r m is = cc

abbrev Computed : ℕ → List ℕ → Type 0
Computed at bytes = LexesFrom at bytes (lexed_at 0 at bytes).tokens (lexed_at 0 at bytes).fault

by_equation : (at : ℕ) (bytes : List ℕ) (l : LexedText) → lexed_at 0 at bytes ≡ l → LexesFrom at bytes l.tokens l.fault → Computed at bytes
by_equation at bytes l e lexes = subst (λ m. LexesFrom at bytes m.tokens m.fault) (sym e) lexes

gap_computed : (at n : ℕ) (bytes : List ℕ) (l : LexedText) → IsGap n bytes → LexesFrom (at + n) (drop n bytes) l.tokens l.fault → LexesFrom at bytes l.tokens l.fault
gap_computed at n bytes l (white_gap is) rest = white is rest
gap_computed at n bytes l (comment_gap inner after size e all) rest =
    let sum : drop n bytes ≡ after = ap (λ k. drop k bytes) size ∙ ap (drop (length inner + 2)) e ∙ comment-drop inner after in
    comment inner after e all (subst (λ k. LexesFrom (at + k) after l.tokens l.fault) size (subst (λ (xs : List ℕ). LexesFrom (at + n) xs l.tokens l.fault) sum rest))
  where
    comment-drop : (inner after : List ℕ) → drop (length inner + 2) (34 ∷ (inner ++ 34 ∷ after)) ≡ after
    comment-drop inner after =
        let sum : length inner + 2 ≡ suc (length inner + 1) = omega arith in
        let len : length (inner ++ 34 ∷ []) ≡ length inner + 1 = length-append inner (34 ∷ []) in
        ap (λ n. drop n (34 ∷ (inner ++ 34 ∷ after))) sum ∙ ap (drop (length inner + 1)) (sym (append_assoc inner (34 ∷ []) after)) ∙ drop_at (inner ++ 34 ∷ []) after (length inner + 1) len

-- one step, by what stands at the front
step_computed : (at : ℕ) (bytes : List ℕ) (f : Front) → 0 < length bytes → front_at bytes ≡ f → ((n : ℕ) → 0 < n → Computed (at + n) (drop n bytes)) → Computed at bytes
step_computed at bytes (Lexeme k n) some is next =
    let fits = subst (FrontFits (length bytes)) is (fits_at bytes some) in
    let len : length (take n bytes) ≡ n = length-take-le n bytes fits.1 in
    let l = lexed_at 0 (at + n) (drop n bytes) in
    let rest : LexesFrom (at + length (take n bytes)) (drop n bytes) l.tokens l.fault = subst (λ m. LexesFrom (at + m) (drop n bytes) l.tokens l.fault) (sym len) (next n fits.0) in
    by_equation at bytes (behind_tokens (record { kind = k; start = at; end = at + n } ∷ []) l) (at_lexeme bytes at n k some is)
    (subst (λ m. LexesFrom at bytes (record { kind = k; start = at; end = at + m } ∷ l.tokens) l.fault) len (token k (take n bytes) (drop n bytes) (sym (take-append-drop n bytes)) (token_is bytes k n some is) rest))
step_computed at bytes (Gap n) some is next =
    let fits = subst (FrontFits (length bytes)) is (fits_at bytes some) in
    let l = lexed_at 0 (at + n) (drop n bytes) in
    by_equation at bytes l (at_gap bytes at n some is) (gap_computed at n bytes l (subst (IsSound bytes) is (sound_at bytes some)) (next n fits.0))
step_computed at bytes (Spoiled r n) some is next =
    by_equation at bytes (record { tokens = []; fault = Some (record { byte = at + n; reason = r }) }) (at_spoiled bytes at n r some is) (spoiled (subst (IsSound bytes) is (sound_at bytes some)))

computed : (fuel at : ℕ) (bytes : List ℕ) → length bytes ≤ fuel → Computed at bytes
computed fuel at [] low = ended
computed zero at (b ∷ bs) low = absurd (omega arith)
computed (suc fuel) at (b ∷ bs) low =
    step_computed at (b ∷ bs) (front_at (b ∷ bs)) (omega arith) refl (λ n some. computed fuel (at + n) (drop n (b ∷ bs)) (omega (arith, length-drop n (b ∷ bs))))

-- what is computed, the text has
pub lexes-from : (at : ℕ) (bytes : List ℕ) → LexesFrom at bytes (lexed_at 0 at bytes).tokens (lexed_at 0 at bytes).fault
lexes-from at bytes = computed (length bytes) at bytes (omega arith)

pub Lexes-lexed_of : (text : List ℕ) (tokens : List Token) (fault : Option LexFault) → Lexes text tokens fault ↔ (lexed_of text ≡ record { tokens = tokens; fault = fault })
unfolding lexed_of
Lexes-lexed_of text tokens fault = (λ lexes. lexed_at-from lexes, λ e. subst (λ l. LexesFrom 0 text l.tokens l.fault) e (lexes-from 0 text))
