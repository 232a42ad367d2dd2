-- What stands at the front of bytes fits into them.
use Rattle.std.proofs.Common.{◌≡◌, ◌+◌, ◌-◌, ◌<◌, ◌≤◌, ℕ, zero, suc, Bool, true, false, true≢false, ◌&&◌, ◌||◌, ◌==◌, List, [], ◌∷◌, drop, take, length, Option, None, Some, IfSome, refl, sym, arith, unwrap_or, if◌then◌else◌, position, nat_lt, nat_le, ◌^◌, slice_index, length-drop}
use Rattle.std.specs.List.{prefix_len}
use Rattle.std.specs.Option.{option_map}
use Rattle.std.proofs.lemmas.List.Sums.{prefix_len-le-length}
use Rattle.std.proofs.lemmas.List.Quantifiers.{position-Some}
use borrow.Author.Tests.{ltb-true}
use Rattle.st_base.specs.declared.tokens.TokenKind.{TokenKind}
use Rattle.st_base.specs.declared.tokens.TokenKind.TheVariants as kind
use Rattle.st_base.specs.declared.faults.Reason.{Reason}
use Rattle.st_base.specs.declared.faults.Reason.TheVariants as reason
use Rattle.st_base.specs.TokenBytes.{is_letter, is_digit, is_word_byte, is_operator_byte, is_white_byte, is_figure, begins, begins_colon, begins_float}
use Rattle.st_base.specs.Lexed.{Front, Lexeme, Gap, Spoiled, word_at, word_front, operator_len, value_of, integer_at, is_radix_number, radix_front, number_at, number_front, string_len, string_front, quoted_front, keywords_len, selector_len, symbol_front, character_front, comment_len, comment_front, sign_front, front_of}

-- a token or a gap has some bytes, and no more than there are; a fault is at one of them
abbrev pub FrontFits : ℕ → Front → Type 0
FrontFits len (Lexeme kind n) = (0 < n) × (n ≤ len)
FrontFits len (Gap n) = (0 < n) × (n ≤ len)
FrontFits len (Spoiled reason n) = n < len

-- one of two that fit, by a test
one_of : (len : ℕ) (test : Bool) (f g : Front) → (test ≡ true → FrontFits len f) → (test ≡ false → FrontFits len g) → FrontFits len (if test then f else g)
one_of len true f g left right = left refl
one_of len false f g left right = right refl

pub begins-some : (p : ℕ → Bool) (n : ℕ) (bytes : List ℕ) → begins p (drop n bytes) ≡ true → n < length bytes
begins-some p zero [] is = absurd (true≢false (sym is))
begins-some p (suc n) [] is = absurd (true≢false (sym is))
begins-some p zero (c ∷ cs) is = omega arith
begins-some p (suc n) (c ∷ cs) is = let h : n < length cs = begins-some p n cs is in omega arith

pub begins_colon-some : (n : ℕ) (bytes : List ℕ) → begins_colon (drop n bytes) ≡ true → n < length bytes
begins_colon-some zero [] is = absurd (true≢false (sym is))
begins_colon-some (suc n) [] is = absurd (true≢false (sym is))
begins_colon-some zero (c ∷ cs) is = omega arith
begins_colon-some (suc n) (c ∷ cs) is = let h : n < length cs = begins_colon-some n cs is in omega arith

pub prefix_len-some : (p : ℕ → Bool) (b : ℕ) (bs : List ℕ) → p b ≡ true → 0 < prefix_len p (b ∷ bs)
prefix_len-some p b bs is = rw is (omega arith)

lexeme_fits : (len : ℕ) (k : TokenKind) (n : ℕ) → 0 < n → n ≤ len → FrontFits len (Lexeme k n)
lexeme_fits len k n some low = (some, low)

spoiled_fits : (len : ℕ) (r : Reason) (n : ℕ) → n < len → FrontFits len (Spoiled r n)
spoiled_fits len r n low = low

word_fits : (bytes : List ℕ) (n : ℕ) → 0 < n → n ≤ length bytes → FrontFits (length bytes) (word_at n (drop n bytes))
word_fits bytes n some low = one_of (length bytes) (begins_colon (drop n bytes)) (Lexeme kind.Keyword (n + 1)) (Lexeme kind.Identifier n)
    (λ colon. let h : n < length bytes = begins_colon-some n bytes colon in lexeme_fits (length bytes) kind.Keyword (n + 1) (omega arith) (omega arith))
    (λ none. lexeme_fits (length bytes) kind.Identifier n some low)

integer_fits : (len value n : ℕ) (after : List ℕ) → 0 < n → n ≤ len → FrontFits len (integer_at value n after)
unfolding integer_at
integer_fits len value n after some low = one_of len (begins_float after) (Spoiled reason.FloatOutside 0) (if nat_le value (2 ^ 127) then Lexeme (kind.Integer value) n else Spoiled reason.IntegerTooLarge 0)
    (λ is. spoiled_fits len reason.FloatOutside 0 (omega arith))
    (λ off. one_of len (nat_le value (2 ^ 127)) (Lexeme (kind.Integer value) n) (Spoiled reason.IntegerTooLarge 0) (λ is. lexeme_fits len (kind.Integer value) n some low) (λ off. spoiled_fits len reason.IntegerTooLarge 0 (omega arith)))

radix_fits : (len radix n : ℕ) (after : List ℕ) → 0 < n → n + length after ≤ len → FrontFits len (radix_front radix n after)
unfolding radix_front
radix_fits len radix n after some low =
    let m = prefix_len is_figure after in
    let few : m ≤ length after = prefix_len-le-length is_figure after in
    one_of len (is_radix_number radix (take m after)) (integer_at (value_of radix (take m after)) (n + m) (drop m after)) (Spoiled reason.BadRadix 0)
    (λ is. integer_fits len (value_of radix (take m after)) (n + m) (drop m after) (omega arith) (omega arith))
    (λ off. spoiled_fits len reason.BadRadix 0 (omega arith))

number_fits : (bytes : List ℕ) (n : ℕ) → 0 < n → n ≤ length bytes → FrontFits (length bytes) (number_at n bytes)
number_fits bytes n some low = one_of (length bytes) (begins (λ c. c == 114) (drop n bytes)) (radix_front (value_of 10 (take n bytes)) (n + 1) (drop (n + 1) bytes)) (integer_at (value_of 10 (take n bytes)) n (drop n bytes))
    (λ is. let h : n < length bytes = begins-some (λ c. c == 114) n bytes is in
    radix_fits (length bytes) (value_of 10 (take n bytes)) (n + 1) (drop (n + 1) bytes) (omega arith) (omega (arith, length-drop (n + 1) bytes)))
    (λ off. integer_fits (length bytes) (value_of 10 (take n bytes)) n (drop n bytes) some low)

operator_fits : (test : Bool) (n : ℕ) → (test ≡ true → 1 < n) → 0 < n → 0 < (if test then n - 1 else n)
operator_fits true n more some = let h : 1 < n = more refl in omega arith
operator_fits false n more some = some

operator_below : (test : Bool) (n : ℕ) → (if test then n - 1 else n) ≤ n
operator_below true n = omega arith
operator_below false n = omega arith

and_first : (a b c : Bool) → (a && b && c) ≡ true → a ≡ true
and_first true b c is = refl
and_first false b c is = is

word_letter : (a b : Bool) → a ≡ true → (a || b) ≡ true
word_letter true b is = refl
word_letter false b is = absurd (true≢false (sym is))

operator_len_fits : (b : ℕ) (bs : List ℕ) → is_operator_byte b ≡ true → FrontFits (length (b ∷ bs)) (Lexeme kind.Operator (operator_len (b ∷ bs)))
unfolding operator_len
operator_len_fits b bs is =
    let bytes = b ∷ bs in
    let n = prefix_len is_operator_byte (b ∷ bs) in
    let some : 0 < n = prefix_len-some is_operator_byte b bs is in
    let low : n ≤ length (b ∷ bs) = prefix_len-le-length is_operator_byte (b ∷ bs) in
    let cut : Bool = nat_lt 1 n && slice_index bytes (n - 1) == 45 && begins is_digit (drop n bytes) in
    let below : (if cut then n - 1 else n) ≤ n = operator_below cut n in
    (operator_fits cut n (λ is. ltb-true 1 n (and_first (nat_lt 1 n) (slice_index bytes (n - 1) == 45) (begins is_digit (drop n bytes)) is)) some, omega arith)

-- one more than what is within is within one more
more_within : (o : Option ℕ) (len : ℕ) → IfSome o (λ n. n ≤ len) → IfSome (option_map (λ n. n + 1) o) (λ n. n ≤ suc len)
more_within None len low = tt
more_within (Some n) len low = omega arith

within_more : (o : Option ℕ) (len : ℕ) → IfSome o (λ n. n ≤ len) → IfSome o (λ n. n ≤ suc len)
within_more None len low = tt
within_more (Some n) len low = omega arith

either : (test : Bool) (o p : Option ℕ) (P : Option ℕ → Type 0) → P o → P p → P (if test then o else p)
either true o p P left right = left
either false o p P left right = right

pub string_len-within : (closing : Bool) (bs : List ℕ) → IfSome (string_len closing bs) (λ n. n ≤ length bs)
string_len-within false [] = tt
string_len-within true [] = omega arith
string_len-within false (c ∷ cs) = more_within (string_len (c == 39) cs) (length cs) (string_len-within (c == 39) cs)
string_len-within true (c ∷ cs) = either (c == 39) _ (Some 0) (λ o. IfSome o (λ n. n ≤ suc (length cs))) (more_within (string_len false cs) (length cs) (string_len-within false cs)) (omega arith)

or_none : (o : Option ℕ) (len : ℕ) → IfSome o (λ n. n ≤ len) → unwrap_or o 0 ≤ len
or_none None len low = omega arith
or_none (Some n) len low = low

pub keywords_len-within : (begun : Bool) (bs : List ℕ) → IfSome (keywords_len begun bs) (λ n. n ≤ length bs)
keywords_len-within false [] = omega arith
keywords_len-within true [] = tt
keywords_len-within false (c ∷ cs) = either (is_letter c) _ (Some 0) (λ o. IfSome o (λ n. n ≤ suc (length cs))) (or_none _ (suc (length cs)) (more_within (keywords_len true cs) (length cs) (keywords_len-within true cs))) (omega arith)
keywords_len-within true (c ∷ cs) = either (is_word_byte c) _ _ (λ o. IfSome o (λ n. n ≤ suc (length cs)))
    (more_within (keywords_len true cs) (length cs) (keywords_len-within true cs))
    (either (begins_colon (c ∷ cs)) _ None (λ o. IfSome o (λ n. n ≤ suc (length cs))) (more_within (keywords_len false cs) (length cs) (keywords_len-within false cs)) tt)

selector_within : (o : Option ℕ) (n len : ℕ) → IfSome o (λ n. n ≤ len) → n ≤ len → unwrap_or o n ≤ len
selector_within None n len low there = there
selector_within (Some m) n len low there = low

string_fits : (o : Option ℕ) (len : ℕ) → IfSome o (λ n. n ≤ len) → FrontFits (suc len) (string_front o)
string_fits None len low = omega arith
string_fits (Some n) len low = (omega arith, omega arith)

quoted_fits : (o : Option ℕ) (len : ℕ) → IfSome o (λ n. n ≤ len) → FrontFits (suc (suc len)) (quoted_front o)
quoted_fits None len low = omega arith
quoted_fits (Some n) len low = (omega arith, omega arith)

comment_fits : (o : Option ℕ) (len : ℕ) → IfSome o (λ n. n ≤ len) → FrontFits (suc len) (comment_front o)
comment_fits None len low = omega arith
comment_fits (Some n) len low = (omega arith, omega arith)

position-within : (p : ℕ → Bool) (bs : List ℕ) (o : Option ℕ) → position p bs ≡ o → IfSome (option_map (λ n. n + 1) o) (λ n. n ≤ length bs)
position-within p bs None is = tt
position-within p bs (Some i) is = let h = position-Some p bs i 0 is in let low : i < length bs = h.0 in omega arith

selector_fits : (c : ℕ) (cs : List ℕ) → FrontFits (suc (suc (length cs))) (Lexeme kind.Symbol (selector_len (c ∷ cs) + 1))
unfolding selector_len
selector_fits c cs =
    let low : selector_len (c ∷ cs) ≤ suc (length cs) = selector_within (keywords_len true (c ∷ cs)) (prefix_len is_word_byte (c ∷ cs)) (suc (length cs)) (keywords_len-within true (c ∷ cs)) (prefix_len-le-length is_word_byte (c ∷ cs)) in
    (omega arith, omega arith)

bare_fits : (c : ℕ) (cs : List ℕ) → FrontFits (suc (suc (length cs))) (Lexeme kind.Symbol (prefix_len is_operator_byte (c ∷ cs) + 1))
bare_fits c cs =
    let low : prefix_len is_operator_byte (c ∷ cs) ≤ suc (length cs) = prefix_len-le-length is_operator_byte (c ∷ cs) in
    (omega arith, omega arith)

symbol_fits : (bytes : List ℕ) → FrontFits (suc (length bytes)) (symbol_front bytes)
unfolding symbol_front
symbol_fits [] = omega arith
symbol_fits (c ∷ cs) =
    let len = suc (suc (length cs)) in
    one_of len (c == 40) (Lexeme kind.ArrayOpen 2) _ (λ is. lexeme_fits len kind.ArrayOpen 2 (omega arith) (omega arith)) (λ off.
    one_of len (c == 39) (quoted_front (string_len false cs)) _ (λ is. quoted_fits (string_len false cs) (length cs) (string_len-within false cs)) (λ off.
    one_of len (is_letter c) (Lexeme kind.Symbol (selector_len (c ∷ cs) + 1)) _ (λ is. selector_fits c cs) (λ off.
    one_of len (is_operator_byte c) (Lexeme kind.Symbol (prefix_len is_operator_byte (c ∷ cs) + 1)) (Spoiled reason.BadCharacter 0) (λ is. bare_fits c cs) (λ off. spoiled_fits len reason.BadCharacter 0 (omega arith)))))

character_fits : (bytes : List ℕ) → FrontFits (suc (length bytes)) (character_front bytes)
character_fits [] = omega arith
character_fits (c ∷ cs) = (omega arith, omega arith)

sign_fits : (b : ℕ) (bytes : List ℕ) → FrontFits (suc (length bytes)) (sign_front b bytes)
unfolding sign_front
sign_fits b bytes =
    let len = suc (length bytes) in
    let one : (k : TokenKind) → FrontFits len (Lexeme k 1) = λ k. lexeme_fits len k 1 (omega arith) (omega arith) in
    one_of len (is_white_byte b) (Gap 1) _ (λ is. one kind.Period) (λ off.
    one_of len (b == 40) (Lexeme kind.ParenOpen 1) _ (λ is. one kind.ParenOpen) (λ off.
    one_of len (b == 41) (Lexeme kind.ParenClose 1) _ (λ is. one kind.ParenClose) (λ off.
    one_of len (b == 91) (Lexeme kind.BlockOpen 1) _ (λ is. one kind.BlockOpen) (λ off.
    one_of len (b == 93) (Lexeme kind.BlockClose 1) _ (λ is. one kind.BlockClose) (λ off.
    one_of len (b == 58) (if begins (λ c. c == 61) bytes then Lexeme kind.Assign 2 else Lexeme kind.Colon 1) _ (λ is. one_of len (begins (λ c. c == 61) bytes) (Lexeme kind.Assign 2) (Lexeme kind.Colon 1) (λ equal. let h : 0 < length bytes = begins-some (λ c. c == 61) 0 bytes equal in lexeme_fits len kind.Assign 2 (omega arith) (omega arith)) (λ off. one kind.Colon)) (λ off.
    one_of len (b == 94) (Lexeme kind.Caret 1) _ (λ is. one kind.Caret) (λ off.
    one_of len (b == 46) (Lexeme kind.Period 1) _ (λ is. one kind.Period) (λ off.
    one_of len (b == 59) (Lexeme kind.Semicolon 1) (Spoiled reason.BadCharacter 0) (λ is. one kind.Semicolon) (λ off. spoiled_fits len reason.BadCharacter 0 (omega arith))))))))))

pub front_fits : (b : ℕ) (bs : List ℕ) → FrontFits (length (b ∷ bs)) (front_of b bs)
unfolding front_of word_front number_front
front_fits b bs =
    let len = suc (length bs) in
    one_of len (is_letter b) (word_front (b ∷ bs)) _ (λ is. word_fits (b ∷ bs) (prefix_len is_word_byte (b ∷ bs)) (prefix_len-some is_word_byte b bs (word_letter (is_letter b) (is_digit b) is)) (prefix_len-le-length is_word_byte (b ∷ bs))) (λ off.
    one_of len (is_digit b) (number_front (b ∷ bs)) _ (λ is. number_fits (b ∷ bs) (prefix_len is_digit (b ∷ bs)) (prefix_len-some is_digit b bs is) (prefix_len-le-length is_digit (b ∷ bs))) (λ off.
    one_of len (is_operator_byte b) (Lexeme kind.Operator (operator_len (b ∷ bs))) _ (λ is. operator_len_fits b bs is) (λ off.
    one_of len (b == 36) (character_front bs) _ (λ is. character_fits bs) (λ off.
    one_of len (b == 39) (string_front (string_len false bs)) _ (λ is. string_fits (string_len false bs) (length bs) (string_len-within false bs)) (λ off.
    one_of len (b == 34) (comment_front (comment_len bs)) _ (λ is. comment_fits (comment_len bs) (length bs) (position-within (λ b. b == 34) bs _ refl)) (λ off.
    one_of len (b == 35) (symbol_front bs) (sign_front b bs) (λ is. symbol_fits bs) (λ off. sign_fits b bs)))))))
