-- What has a token's form is never longer than what is computed at the front of bytes.
use Rattle.std.proofs.Common.{◌≡◌, ◌+◌, ◌-◌, ◌^◌, ◌<◌, ◌≤◌, ℕ, Bool, true, false, true≢false, ◌&&◌, ◌||◌, ◌==◌, inl, inr, List, [], ◌∷◌, ◌++◌, drop, take, length, nat_lt, nat_le, Option, None, Some, refl, ap, sym, subst, ◌∙◌, arith, get_or, append_assoc, if◌then◌else◌, length-append}
use Rattle.std.specs.List.{prefix_len, list_all}
use Rattle.std.proofs.lemmas.List.{take_at, drop_at, drop-drop}
use Rattle.std.proofs.lemmas.Bool.Decides.{eqb_tells}
use Rattle.st_base.specs.declared.tokens.TokenKind.{TokenKind}
use Rattle.st_base.specs.declared.tokens.TokenKind.TheVariants as kind
use Rattle.st_base.specs.declared.faults.Reason.TheVariants as reason
use Rattle.st_base.specs.TokenBytes.{is_letter, is_digit, is_word_byte, is_operator_byte, is_figure, begins, begins_colon, begins_float}
use Rattle.st_base.specs.Lexed.{Front, Lexeme, Gap, Spoiled, word_at, word_front, operator_len, value_of, integer_at, is_radix_number, figures_at, radix_front, number_at, number_front, string_len, string_front, quoted_front, selector_len, symbol_front, sign_front, front_of}
use Rattle.st_base.specs.Lexes.{is_identifier, is_run, Inside, IsString, IsNumber, decimal, in_radix, IsSelector, one_word, keywords, operators, HasForm}
use Rattle.st_lexer.proofs.Runs.{and_left, and_right, or_left, or_right, or_neither, prefix_len-whole, prefix_len-covers, is_run-all}
use Rattle.st_lexer.proofs.Quotes.{string_len-covers}
use Rattle.st_lexer.proofs.Selectors.{identifier_all, identifier_begins, keywords_begin, colon_of, selector_len-word, selector_len-keywords}
use Rattle.st_lexer.proofs.Sound.{same_byte}

-- bytes of a kind that have this length are no more than a front takes, and of its kind where they are as many
abbrev pub Covers : TokenKind → ℕ → Front → Type 0
Covers k len (Lexeme other n) = (len ≤ n) × (len ≡ n → k ≡ other)
Covers k len (Gap n) = ⊥
Covers k len (Spoiled r n) = Unit {0}

-- what stands at the front of bytes
abbrev pub front_at : List ℕ → Front
front_at [] = Gap 0
front_at (b ∷ bs) = front_of b bs

either : (k : TokenKind) (len : ℕ) (test : Bool) (f g : Front) → (test ≡ true → Covers k len f) → (test ≡ false → Covers k len g) → Covers k len (if test then f else g)
either k len true f g left right = left refl
either k len false f g left right = right refl

pub or_case : {P : Type 0} (a b : Bool) → (a ≡ true → P) → (b ≡ true → P) → (a || b) ≡ true → P
or_case true b left right is = left refl
or_case false b left right is = right is

-- a byte of a class that another is not of
pub differs : (p : ℕ → Bool) (c n : ℕ) → p c ≡ true → p n ≡ false → (c == n) ≡ false
differs p c n is off = elim (eqb_tells c n) [
  | inl same ↦ absurd (true≢false (sym is ∙ ap p same.1 ∙ off))
  | inr other ↦ other.0
]

-- an operator character is no letter and no digit
abbrev pub IsPlain : ℕ → Type 0
IsPlain c = (is_letter c ≡ false) × (is_digit c ≡ false)

leaf : (c n : ℕ) → IsPlain n → (c == n) ≡ true → IsPlain c
leaf c n plain is = subst IsPlain (sym (same_byte c n is)) plain

pub operator_plain : (c : ℕ) → is_operator_byte c ≡ true → IsPlain c
operator_plain c is =
    or_case _ (c == 126) (or_case _ (c == 124) (or_case _ (c == 92) (or_case _ (c == 64) (or_case _ (c == 63) (or_case _ (c == 62) (or_case _ (c == 61) (or_case _ (c == 60) (or_case _ (c == 47) (or_case _ (c == 45) (or_case _ (c == 44) (or_case _ (c == 43) (or_case _ (c == 42) (or_case _ (c == 38) (or_case (c == 33) (c == 37)
    (leaf c 33 (refl, refl)) (leaf c 37 (refl, refl))) (leaf c 38 (refl, refl))) (leaf c 42 (refl, refl))) (leaf c 43 (refl, refl))) (leaf c 44 (refl, refl))) (leaf c 45 (refl, refl))) (leaf c 47 (refl, refl))) (leaf c 60 (refl, refl))) (leaf c 61 (refl, refl))) (leaf c 62 (refl, refl))) (leaf c 63 (refl, refl))) (leaf c 64 (refl, refl))) (leaf c 92 (refl, refl))) (leaf c 124 (refl, refl))) (leaf c 126 (refl, refl)) is

at_most : (a b : ℕ) → nat_le a b ≡ true → a ≤ b
at_most a b is = grind (arith, is)

above : (a b : ℕ) → b < a → nat_le a b ≡ false
above a b high = grind (arith, high)

other_number : (a b : ℕ) → a < b → (a == b) ≡ false
other_number a b low = grind (arith, low)

and_off : (a b : Bool) → a ≡ false → (a && b) ≡ false
and_off a b off = rw off refl

pub digit_no_letter : (c : ℕ) → is_digit c ≡ true → is_letter c ≡ false
digit_no_letter c is =
    let low : c ≤ 57 = at_most c 57 (and_right (nat_le 48 c) (nat_le c 57) is) in
    or_neither _ (c == 95) (or_neither _ _ (and_off (nat_le 65 c) (nat_le c 90) (above 65 c (omega arith))) (and_off (nat_le 97 c) (nat_le c 122) (above 97 c (omega arith)))) (other_number c 95 (omega arith))

pub front-letter : (b : ℕ) (bs : List ℕ) → is_letter b ≡ true → front_of b bs ≡ word_front (b ∷ bs)
unfolding front_of
front-letter b bs letter = rw letter refl

pub front-digit : (b : ℕ) (bs : List ℕ) → is_digit b ≡ true → front_of b bs ≡ number_front (b ∷ bs)
unfolding front_of
front-digit b bs digit = rw (digit_no_letter b digit, digit) refl

pub front-operator : (b : ℕ) (bs : List ℕ) → is_operator_byte b ≡ true → front_of b bs ≡ Lexeme kind.Operator (operator_len (b ∷ bs))
unfolding front_of
front-operator b bs op = let plain = operator_plain b op in rw (plain.0, plain.1, op) refl

-- words
identifier_cover : (u v : List ℕ) → is_identifier u ≡ true → Covers kind.Identifier (length u) (front_at (u ++ v))
unfolding word_front
identifier_cover [] v is = absurd (true≢false (sym is))
identifier_cover (c ∷ cs) v is =
    let bytes = c ∷ (cs ++ v) in
    let n = prefix_len is_word_byte (c ∷ (cs ++ v)) in
    let low : length (c ∷ cs) ≤ n = prefix_len-covers is_word_byte (c ∷ cs) v (identifier_all (c ∷ cs) is) in
    subst (Covers kind.Identifier (length (c ∷ cs))) (sym (front-letter c (cs ++ v) (and_left (is_letter c) (list_all is_word_byte cs) is)))
    (either kind.Identifier (length (c ∷ cs)) (begins_colon (drop n (c ∷ (cs ++ v)))) (Lexeme kind.Keyword (n + 1)) (Lexeme kind.Identifier n)
    (λ colon. (longer (length (c ∷ cs)) n low, λ e. absurd (never (length (c ∷ cs)) n low e)))
    (λ off. (low, λ e. refl)))
  where
    longer : (len n : ℕ) → len ≤ n → len ≤ n + 1
    longer len n low = omega arith

    never : (len n : ℕ) → len ≤ n → len ≡ n + 1 → ⊥
    never len n low e = omega arith

pub keyword-front : (name v : List ℕ) → is_identifier name ≡ true → begins (λ c. c == 61) v ≡ false → front_at (name ++ 58 ∷ v) ≡ Lexeme kind.Keyword (length name + 1)
unfolding word_front
keyword-front [] v is off = absurd (true≢false (sym is))
keyword-front (c ∷ cs) v is off =
    let bytes = c ∷ (cs ++ 58 ∷ v) in
    let len : prefix_len is_word_byte (c ∷ (cs ++ 58 ∷ v)) ≡ length (c ∷ cs) = prefix_len-whole is_word_byte (c ∷ cs) (58 ∷ v) (identifier_all (c ∷ cs) is) refl in
    let rest : drop (length (c ∷ cs)) (c ∷ (cs ++ 58 ∷ v)) ≡ 58 ∷ v = drop_at (c ∷ cs) (58 ∷ v) (length (c ∷ cs)) refl in
    front-letter c (cs ++ 58 ∷ v) (and_left (is_letter c) (list_all is_word_byte cs) is)
    ∙ ap (λ n. word_at n (drop n (c ∷ (cs ++ 58 ∷ v)))) len
    ∙ ap (word_at (length (c ∷ cs))) rest
    ∙ closed (length (c ∷ cs)) v (colon_of v off)
  where
    closed : (n : ℕ) (v : List ℕ) → begins_colon (58 ∷ v) ≡ true → word_at n (58 ∷ v) ≡ Lexeme kind.Keyword (n + 1)
    closed n v is = rw is refl

keyword_cover : (u v name : List ℕ) → u ≡ name ++ 58 ∷ [] → is_identifier name ≡ true → begins (λ c. c == 61) v ≡ false → Covers kind.Keyword (length u) (front_at (u ++ v))
keyword_cover u v name e is off =
    let whole : u ++ v ≡ name ++ 58 ∷ v = ap (λ (xs : List ℕ). xs ++ v) e ∙ append_assoc name (58 ∷ []) v in
    let len : length u ≡ length name + 1 = ap length e ∙ length-append name (58 ∷ []) in
    subst (Covers kind.Keyword (length u)) (sym (ap front_at whole ∙ keyword-front name v is off)) (omega arith, λ same. refl)

-- operators
pub run_begins : (p : ℕ → Bool) (u v : List ℕ) → is_run p u ≡ true → begins p (u ++ v) ≡ true
run_begins p [] v is = absurd (true≢false (sym is))
run_begins p (c ∷ cs) v is = and_left (p c) (list_all p cs) is

pub begins-front : (bs : List ℕ) → begins is_operator_byte bs ≡ true → front_at bs ≡ Lexeme kind.Operator (operator_len bs)
begins-front [] is = absurd (true≢false (sym is))
begins-front (c ∷ cs) is = front-operator c cs is

-- where all of a run is taken that is cut before its last `-`, a digit follows that may not
cut_cover : (test : Bool) (len n : ℕ) → len ≤ n → (test ≡ true → len ≡ n → ⊥) → len ≤ (if test then n - 1 else n)
cut_cover false len n low apart = low
cut_cover true len n low apart = let other : len ≡ n → ⊥ = apart refl in omega arith

get_or-end : (c : ℕ) (cs v : List ℕ) → (front : List ℕ) × (c ∷ cs ≡ front ++ get_or (c ∷ (cs ++ v)) (length cs) 0 ∷ [])
get_or-end c [] v = ([], refl)
get_or-end c (d ∷ ds) v = let rest = get_or-end d ds v in (c ∷ rest.0, ap (λ (xs : List ℕ). c ∷ xs) rest.1)

below : (a n m : ℕ) → n ≡ m → nat_lt a n ≡ true → a < m
below a n m e is = grind (arith, e, is)

-- a run that all is taken of is not cut before its last byte
not_cut : (c : ℕ) (cs v : List ℕ) (n : ℕ) → ((front : List ℕ) → c ∷ cs ≡ front ++ 45 ∷ [] → 0 < length front → begins is_digit v ≡ false)
    → length (c ∷ cs) ≡ n → nat_lt 1 n ≡ true → (get_or (c ∷ (cs ++ v)) (n - 1) 0 == 45) ≡ true → begins is_digit (drop n (c ∷ (cs ++ v))) ≡ true → ⊥
not_cut c cs v n cut same long minus digit =
    let more : 1 < length (c ∷ cs) = below 1 n (length (c ∷ cs)) (sym same) long in
    let last = get_or-end c cs v in
    let at : length cs ≡ n - 1 = omega arith in
    let place : get_or (c ∷ (cs ++ v)) (length cs) 0 ≡ 45 = ap (λ k. get_or (c ∷ (cs ++ v)) k 0) at ∙ same_byte (get_or (c ∷ (cs ++ v)) (n - 1) 0) 45 minus in
    let e : c ∷ cs ≡ last.0 ++ 45 ∷ [] = last.1 ∙ ap (λ d. last.0 ++ d ∷ []) place in
    let size : length (c ∷ cs) ≡ length last.0 + 1 = ap length e ∙ length-append last.0 (45 ∷ []) in
    let off : begins is_digit v ≡ false = cut last.0 e (omega arith) in
    true≢false (sym digit ∙ ap (begins is_digit) (drop_at (c ∷ cs) v n same) ∙ off)

operator_cover : (u v : List ℕ) → is_run is_operator_byte u ≡ true → ((front : List ℕ) → u ≡ front ++ 45 ∷ [] → 0 < length front → begins is_digit v ≡ false) → Covers kind.Operator (length u) (front_at (u ++ v))
unfolding operator_len
operator_cover [] v is cut = absurd (true≢false (sym is))
operator_cover (c ∷ cs) v is cut =
    let n = prefix_len is_operator_byte (c ∷ (cs ++ v)) in
    let low : length (c ∷ cs) ≤ n = prefix_len-covers is_operator_byte (c ∷ cs) v (is_run-all is_operator_byte (c ∷ cs) is) in
    let a = nat_lt 1 n in
    let b = get_or (c ∷ (cs ++ v)) (n - 1) 0 == 45 in
    let d = begins is_digit (drop n (c ∷ (cs ++ v))) in
    subst (Covers kind.Operator (length (c ∷ cs))) (sym (front-operator c (cs ++ v) (and_left (is_operator_byte c) (list_all is_operator_byte cs) is)))
    (cut_cover (a && b && d) (length (c ∷ cs)) n low (λ all same. not_cut c cs v n cut same (and_left a b (and_left (a && b) d all)) (and_right a b (and_left (a && b) d all)) (and_right (a && b) d all)), λ e. refl)

-- numbers
integer_cover : (value n : ℕ) (after : List ℕ) → Covers (kind.Integer value) n (integer_at value n after)
unfolding integer_at
integer_cover value n after = either (kind.Integer value) n (begins_float after) (Spoiled reason.FloatOutside 0) (if nat_le value (2 ^ 127) then Lexeme (kind.Integer value) n else Spoiled reason.IntegerTooLarge 0) (λ is. tt)
    (λ off. either (kind.Integer value) n (nat_le value (2 ^ 127)) (Lexeme (kind.Integer value) n) (Spoiled reason.IntegerTooLarge 0) (λ low. (same n, λ e. refl)) (λ high. tt))
  where
    same : (n : ℕ) → n ≤ n
    same n = omega arith

begins-or_left : (p q : ℕ → Bool) (bs : List ℕ) → begins (λ c. p c || q c) bs ≡ false → begins p bs ≡ false
begins-or_left p q [] off = refl
begins-or_left p q (c ∷ cs) off = or_left (p c) (q c) off

begins-or_right : (p q : ℕ → Bool) (bs : List ℕ) → begins (λ c. p c || q c) bs ≡ false → begins q bs ≡ false
begins-or_right p q [] off = refl
begins-or_right p q (c ∷ cs) off = or_right (p c) (q c) off

pub digits-front : (u v : List ℕ) → is_run is_digit u ≡ true → front_at (u ++ v) ≡ number_front (u ++ v)
digits-front [] v is = absurd (true≢false (sym is))
digits-front (c ∷ cs) v is = front-digit c (cs ++ v) (and_left (is_digit c) (list_all is_digit cs) is)

-- digits that no digit follows
pub digits_at : (u v : List ℕ) → is_run is_digit u ≡ true → begins is_digit v ≡ false → number_front (u ++ v) ≡ number_at (length u) (u ++ v)
unfolding number_front
digits_at u v is off = ap (λ n. number_at n (u ++ v)) (prefix_len-whole is_digit u v (is_run-all is_digit u is) off)

number_plain : (u v : List ℕ) → begins (λ c. c == 114) v ≡ false → number_at (length u) (u ++ v) ≡ integer_at (value_of 10 u) (length u) v
number_plain u v off =
    let rest : drop (length u) (u ++ v) ≡ v = drop_at u v (length u) refl in
    let taken : take (length u) (u ++ v) ≡ u = take_at u v (length u) refl in
    rw (rest, off, taken) refl

pub number_radix_at : (radix after : List ℕ) → number_at (length radix) (radix ++ 114 ∷ after) ≡ radix_front (value_of 10 radix) (length radix + 1) after
number_radix_at radix after =
    let rest : drop (length radix) (radix ++ 114 ∷ after) ≡ 114 ∷ after = drop_at radix (114 ∷ after) (length radix) refl in
    let taken : take (length radix) (radix ++ 114 ∷ after) ≡ radix = take_at radix (114 ∷ after) (length radix) refl in
    let behind : drop (length radix + 1) (radix ++ 114 ∷ after) ≡ after = sym (drop-drop 1 (length radix) (radix ++ 114 ∷ after)) ∙ ap (drop 1) rest in
    rw (rest, taken, behind) refl

-- a run of figures that no figure follows
pub figures_front : (radix n : ℕ) (figures after : List ℕ) → list_all is_figure figures ≡ true → begins is_figure after ≡ false
    → radix_front radix n (figures ++ after) ≡ (if is_radix_number radix figures then integer_at (value_of radix figures) (n + length figures) after else Spoiled reason.BadRadix 0)
unfolding radix_front
figures_front radix n figures after all off =
    let rest : drop (length figures) (figures ++ after) ≡ after = drop_at figures after (length figures) refl in
    let taken : take (length figures) (figures ++ after) ≡ figures = take_at figures after (length figures) refl in
    ap (λ m. figures_at radix n m (figures ++ after)) (prefix_len-whole is_figure figures after all off) ∙ rw (rest, taken) refl

pub number-front : {value : ℕ} {u v : List ℕ} → IsNumber value u v → front_at (u ++ v) ≡ integer_at value (length u) v
number-front {u = u} {v = v} (decimal is off) =
    digits-front u v is ∙ digits_at u v is (begins-or_left is_digit (λ c. c == 114) v off) ∙ number_plain u v (begins-or_right is_digit (λ c. c == 114) v off)
number-front {u = u} {v = v} (in_radix radix figures e digits run off good) =
    let whole : u ++ v ≡ radix ++ 114 ∷ (figures ++ v) = ap (λ (xs : List ℕ). xs ++ v) e ∙ append_assoc radix (114 ∷ figures) v in
    let len : length radix + 1 + length figures ≡ length u = omega (arith, ap length e, length-append radix (114 ∷ figures)) in
    ap front_at whole ∙ digits-front radix (114 ∷ (figures ++ v)) digits ∙ digits_at radix (114 ∷ (figures ++ v)) digits refl ∙ number_radix_at radix (figures ++ v)
    ∙ figures_front (value_of 10 radix) (length radix + 1) figures v (is_run-all is_figure figures run) off
    ∙ rw good (ap (λ n. integer_at (value_of (value_of 10 radix) figures) n v) len)

-- strings
string_cover : (o : Option ℕ) (s v : List ℕ) → string_len false (s ++ 39 ∷ v) ≡ o → Inside s → Covers kind.Str (length (39 ∷ s ++ 39 ∷ [])) (string_front o)
string_cover None s v is inner = tt
string_cover (Some n) s v is inner =
    let low : length s + 1 ≤ n = string_len-covers inner v n is in
    let len : length (s ++ 39 ∷ []) ≡ length s + 1 = length-append s (39 ∷ []) in
    (omega arith, λ e. refl)

quoted_cover : (o : Option ℕ) (s v : List ℕ) → string_len false (s ++ 39 ∷ v) ≡ o → Inside s → Covers kind.QuotedSymbol (length (35 ∷ 39 ∷ s ++ 39 ∷ [])) (quoted_front o)
quoted_cover None s v is inner = tt
quoted_cover (Some n) s v is inner =
    let low : length s + 1 ≤ n = string_len-covers inner v n is in
    let len : length (s ++ 39 ∷ []) ≡ length s + 1 = length-append s (39 ∷ []) in
    (omega arith, λ e. refl)

pub front-quote : (bs : List ℕ) → front_of 39 bs ≡ string_front (string_len false bs)
unfolding front_of
front-quote bs = refl

pub front-hash : (bs : List ℕ) → front_of 35 bs ≡ symbol_front bs
unfolding front_of
front-hash bs = refl

pub symbol-quote : (bs : List ℕ) → symbol_front (39 ∷ bs) ≡ quoted_front (string_len false bs)
unfolding symbol_front
symbol-quote bs = refl

pub symbol-word : (bs : List ℕ) → begins is_letter bs ≡ true → symbol_front bs ≡ Lexeme kind.Symbol (selector_len bs + 1)
unfolding symbol_front
symbol-word [] is = absurd (true≢false (sym is))
symbol-word (c ∷ cs) is = rw (differs is_letter c 40 is refl, differs is_letter c 39 is refl, is) refl

pub symbol-operator : (bs : List ℕ) → begins is_operator_byte bs ≡ true → symbol_front bs ≡ Lexeme kind.Symbol (prefix_len is_operator_byte bs + 1)
unfolding symbol_front
symbol-operator [] is = absurd (true≢false (sym is))
symbol-operator (c ∷ cs) is = let plain = operator_plain c is in rw (differs is_operator_byte c 40 is refl, differs is_operator_byte c 39 is refl, plain.0, is) refl

selector_cover : {name v : List ℕ} → IsSelector name v → Covers kind.Symbol (length (35 ∷ name)) (symbol_front (name ++ v))
selector_cover {name = name} {v = v} (one_word is) =
    let low : length name ≤ selector_len (name ++ v) = selector_len-word name v is in
    subst (Covers kind.Symbol (length (35 ∷ name))) (sym (symbol-word (name ++ v) (identifier_begins name v is))) (omega arith, λ e. refl)
selector_cover {name = name} {v = v} (keywords are off) =
    let low : length name ≤ selector_len (name ++ v) = selector_len-keywords name v are off in
    subst (Covers kind.Symbol (length (35 ∷ name))) (sym (symbol-word (name ++ v) (keywords_begin are v))) (omega arith, λ e. refl)
selector_cover {name = name} {v = v} (operators is) =
    let low : length name ≤ prefix_len is_operator_byte (name ++ v) = prefix_len-covers is_operator_byte name v (is_run-all is_operator_byte name is) in
    subst (Covers kind.Symbol (length (35 ∷ name))) (sym (symbol-operator (name ++ v) (run_begins is_operator_byte name v is))) (omega arith, λ e. refl)

-- the bytes under another name
named : (k : TokenKind) (u t v : List ℕ) → u ≡ t → Covers k (length t) (front_at (t ++ v)) → Covers k (length u) (front_at (u ++ v))
named k u t v e cover = subst (λ (xs : List ℕ). Covers k (length xs) (front_at (xs ++ v))) (sym e) cover

string_form : (u v : List ℕ) → IsString u → Covers kind.Str (length u) (front_at (u ++ v))
string_form u v (s, e, inner) =
    let whole : (s ++ 39 ∷ []) ++ v ≡ s ++ 39 ∷ v = append_assoc s (39 ∷ []) v in
    named kind.Str u (39 ∷ s ++ 39 ∷ []) v e (subst (Covers kind.Str (length (39 ∷ s ++ 39 ∷ []))) (sym (front-quote ((s ++ 39 ∷ []) ++ v))) (string_cover (string_len false ((s ++ 39 ∷ []) ++ v)) s v (ap (string_len false) (sym whole)) inner))

quoted_form : (u v string : List ℕ) → u ≡ 35 ∷ string → IsString string → Covers kind.QuotedSymbol (length u) (front_at (u ++ v))
quoted_form u v string e (s, f, inner) =
    let whole : (s ++ 39 ∷ []) ++ v ≡ s ++ 39 ∷ v = append_assoc s (39 ∷ []) v in
    named kind.QuotedSymbol u (35 ∷ 39 ∷ s ++ 39 ∷ []) v (e ∙ ap (λ (xs : List ℕ). 35 ∷ xs) f)
    (subst (Covers kind.QuotedSymbol (length (35 ∷ 39 ∷ s ++ 39 ∷ []))) (sym (front-hash (39 ∷ (s ++ 39 ∷ []) ++ v) ∙ symbol-quote ((s ++ 39 ∷ []) ++ v))) (quoted_cover (string_len false ((s ++ 39 ∷ []) ++ v)) s v (ap (string_len false) (sym whole)) inner))

signed : (k : TokenKind) (len : ℕ) → Covers k len (Lexeme k len)
signed k len = (omega arith, λ e. refl)

colon_cover : (v : List ℕ) → Covers kind.Colon 1 (front_at (58 ∷ v))
unfolding front_of sign_front
colon_cover v = either kind.Colon 1 (begins (λ c. c == 61) v) (Lexeme kind.Assign 2) (Lexeme kind.Colon 1) (λ is. shorter) (λ off. signed kind.Colon 1)
  where
    shorter : Covers kind.Colon 1 (Lexeme kind.Assign 2)
    shorter = (omega arith, λ e. absurd (omega (arith, e)))

pub cover : (k : TokenKind) (u v : List ℕ) → HasForm k u v → Covers k (length u) (front_at (u ++ v))
unfolding front_of sign_front symbol_front
cover kind.Identifier u v is = identifier_cover u v is
cover kind.Keyword u v (name, e, is, off) = keyword_cover u v name e is off
cover kind.Operator u v (is, cut) = operator_cover u v is cut
cover (kind.Integer value) u v is = subst (Covers (kind.Integer value) (length u)) (sym (number-front is)) (integer_cover value (length u) v)
cover kind.Character u v (byte, e) = named kind.Character u (36 ∷ byte ∷ []) v e (signed kind.Character 2)
cover kind.Str u v string = string_form u v string
cover kind.Symbol u v (name, e, selector) = named kind.Symbol u (35 ∷ name) v e (subst (Covers kind.Symbol (length (35 ∷ name))) (sym (front-hash (name ++ v))) (selector_cover selector))
cover kind.QuotedSymbol u v (string, e, is) = quoted_form u v string e is
cover kind.ArrayOpen u v e = named kind.ArrayOpen u (35 ∷ 40 ∷ []) v e (signed kind.ArrayOpen 2)
cover kind.ParenOpen u v e = named kind.ParenOpen u (40 ∷ []) v e (signed kind.ParenOpen 1)
cover kind.ParenClose u v e = named kind.ParenClose u (41 ∷ []) v e (signed kind.ParenClose 1)
cover kind.BlockOpen u v e = named kind.BlockOpen u (91 ∷ []) v e (signed kind.BlockOpen 1)
cover kind.BlockClose u v e = named kind.BlockClose u (93 ∷ []) v e (signed kind.BlockClose 1)
cover kind.Colon u v e = named kind.Colon u (58 ∷ []) v e (colon_cover v)
cover kind.Assign u v e = named kind.Assign u (58 ∷ 61 ∷ []) v e (signed kind.Assign 2)
cover kind.Caret u v e = named kind.Caret u (94 ∷ []) v e (signed kind.Caret 1)
cover kind.Period u v e = named kind.Period u (46 ∷ []) v e (signed kind.Period 1)
cover kind.Semicolon u v e = named kind.Semicolon u (59 ∷ []) v e (signed kind.Semicolon 1)
