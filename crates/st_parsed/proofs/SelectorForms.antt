-- How many arguments selectors take, by the forms of their tokens.
use Rattle.std.proofs.Common.{◌≡◌, ℕ, suc, ◌||◌, ◌==◌, nat_eq, codes, List, [], ◌∷◌, ◌++◌, Bool, true, false, true≢false, eqb-true, refl, ap, sym, subst, ◌∙◌, append_assoc, if◌then◌else◌}
use Rattle.std.specs.List.{list_all}
use Rattle.st_base.specs.TokenBytes.{is_letter, is_digit, is_word_byte, is_operator_byte}
use Rattle.st_base.specs.Lexes.{is_identifier, is_run}
use Rattle.st_code.specs.Texts.{Text, arity, is_keywords, are_keywords, is_operators, all_bytes, holds_byte, count_byte}
use Rattle.st_code.specs.Texts as text
use Rattle.st_lexer.proofs.Runs.{and_left, and_right}

-- ---- bytes

or_right : (a b : Bool) → b ≡ true → (a || b) ≡ true
or_right true b h = refl
or_right false b h = h

or_left : (a b : Bool) → a ≡ true → (a || b) ≡ true
or_left true b h = refl
or_left false b h = absurd (true≢false (sym h))

begins : ℕ → Bool
begins c = text.is_letter c || nat_eq c 95

goes_on : ℕ → Bool
goes_on c = (text.is_letter c || nat_eq c 95) || text.is_digit c

letter_begins : (c : ℕ) → is_letter c ≡ true → begins c ≡ true
unfolding begins text.is_letter text.is_upper text.is_lower
letter_begins c h = h

word_goes : (b d : Bool) (c : ℕ) → ((b || d) ≡ true) → (b ≡ true → begins c ≡ true) → (d ≡ true → text.is_digit c ≡ true) → goes_on c ≡ true
unfolding goes_on begins
word_goes true d c h f g = or_left (text.is_letter c || nat_eq c 95) (text.is_digit c) (f refl)
word_goes false d c h f g = or_right (text.is_letter c || nat_eq c 95) (text.is_digit c) (g h)

word_goes_on : (c : ℕ) → is_word_byte c ≡ true → goes_on c ≡ true
unfolding text.is_digit
word_goes_on c h = word_goes (is_letter c) (is_digit c) c h (letter_begins c) (λ e. e)

-- what passes a test isn't a byte that fails it
differs : (p : ℕ → Bool) (c k : ℕ) → p c ≡ true → p k ≡ false → nat_eq c k ≡ false
differs p c k h off = go (nat_eq c k) refl
  where
    go : (b : Bool) → nat_eq c k ≡ b → b ≡ false
    go true e = absurd (true≢false (sym h ∙ ap p (eqb-true c k e) ∙ off))
    go false e = refl

differs_from : (p : ℕ → Bool) (c k : ℕ) → p c ≡ true → p k ≡ false → nat_eq k c ≡ false
differs_from p c k h off = go (nat_eq k c) refl
  where
    go : (b : Bool) → nat_eq k c ≡ b → b ≡ false
    go true e = absurd (true≢false (sym h ∙ ap p (sym (eqb-true k c e)) ∙ off))
    go false e = refl

abbrev AllFail : (ℕ → Bool) → List ℕ → Type 0
AllFail p [] = Unit {0}
AllFail p (k ∷ ks) = (p k ≡ false) × AllFail p ks

holds_step : (x y : Bool) → x ≡ false → (elim x [ true ↦ true | false ↦ y ]) ≡ y
holds_step false y e = refl
holds_step true y e = absurd (true≢false e)

holds_none : (p : ℕ → Bool) (c : ℕ) (ks : List ℕ) → p c ≡ true → AllFail p ks → holds_byte ks c ≡ false
unfolding holds_byte
holds_none p c [] h off = refl
holds_none p c (k ∷ ks) h off = holds_step (nat_eq k c) (holds_byte ks c) (differs_from p c k h off.0) ∙ holds_none p c ks h off.1

abbrev any_of : ℕ → List ℕ → ℕ → Bool
any_of k [] c = c == k
any_of k (j ∷ ks) c = any_of j ks c || (c == k)

abbrev All : (ℕ → Type 0) → List ℕ → Type 0
All P [] = Unit {0}
All P (k ∷ ks) = P k × All P ks

pick_at : (P : ℕ → Type 0) (c k : ℕ) (rest : Bool) → (rest || (c == k)) ≡ true → P k → (rest ≡ true → P c) → P c
pick_at P c k true h p f = f refl
pick_at P c k false h p f = subst P (sym (eqb-true c k h)) p

pick : (P : ℕ → Type 0) (c k : ℕ) (ks : List ℕ) → any_of k ks c ≡ true → P k → All P ks → P c
pick P c k [] h p all = subst P (sym (eqb-true c k h)) p
pick P c k (j ∷ ks) h p all = pick_at P c k (any_of j ks c) h p (λ g. pick P c j ks g all.0 all.1)

abbrev marks : Text
marks = codes "!%&*+,/<>=?@\\~|-"

operator_held : (c : ℕ) → is_operator_byte c ≡ true → holds_byte marks c ≡ true
unfolding holds_byte
operator_held c h = pick (λ k. holds_byte marks k ≡ true) c 126 (124 ∷ 92 ∷ 64 ∷ 63 ∷ 62 ∷ 61 ∷ 60 ∷ 47 ∷ 45 ∷ 44 ∷ 43 ∷ 42 ∷ 38 ∷ 37 ∷ 33 ∷ []) h refl (refl, (refl, (refl, (refl, (refl, (refl, (refl, (refl, (refl, (refl, (refl, (refl, (refl, (refl, (refl, tt)))))))))))))))

operator_begins : (c : ℕ) → is_operator_byte c ≡ true → begins c ≡ false
unfolding begins text.is_letter text.is_upper text.is_lower
operator_begins c h = pick (λ k. begins k ≡ false) c 126 (124 ∷ 92 ∷ 64 ∷ 63 ∷ 62 ∷ 61 ∷ 60 ∷ 47 ∷ 45 ∷ 44 ∷ 43 ∷ 42 ∷ 38 ∷ 37 ∷ 33 ∷ []) h refl (refl, (refl, (refl, (refl, (refl, (refl, (refl, (refl, (refl, (refl, (refl, (refl, (refl, (refl, (refl, tt)))))))))))))))

-- ---- keywords

begun_step : (x : Bool) (y : Bool) → x ≡ true → (elim x [ true ↦ y | false ↦ false ]) ≡ y
begun_step true y e = refl
begun_step false y e = absurd (true≢false (sym e))

not_begun : (x : Bool) (y : Bool) → x ≡ false → (elim x [ true ↦ y | false ↦ false ]) ≡ false
not_begun false y e = refl
not_begun true y e = absurd (true≢false e)

inner_step : (x y z w : Bool) → x ≡ false → y ≡ true → (elim x [ true ↦ w | false ↦ elim y [ true ↦ z | false ↦ false ] ]) ≡ z
inner_step false y z w e f = begun_step y z f
inner_step true y z w e f = absurd (true≢false e)

-- word bytes go on with a keyword
words_go : (cs rest : Text) → list_all is_word_byte cs ≡ true → are_keywords true (cs ++ rest) ≡ are_keywords true rest
unfolding are_keywords goes_on
words_go [] rest h = refl
words_go (c ∷ cs) rest h =
    let w : is_word_byte c ≡ true = and_left (is_word_byte c) (list_all is_word_byte cs) h in
    inner_step (nat_eq c 58) (goes_on c) (are_keywords true (cs ++ rest)) (are_keywords false (cs ++ rest)) (differs is_word_byte c 58 w refl) (word_goes_on c w)
    ∙ words_go cs rest (and_right (is_word_byte c) (list_all is_word_byte cs) h)

-- and have no colon
counts_step : (x : Bool) (a b : ℕ) → x ≡ false → (elim x [ true ↦ a | false ↦ b ]) ≡ b
counts_step false a b e = refl
counts_step true a b e = absurd (true≢false e)

words_count : (cs rest : Text) → list_all is_word_byte cs ≡ true → count_byte 58 (cs ++ rest) ≡ count_byte 58 rest
unfolding count_byte
words_count [] rest h = refl
words_count (c ∷ cs) rest h =
    counts_step (nat_eq c 58) (suc (count_byte 58 (cs ++ rest))) (count_byte 58 (cs ++ rest)) (differs is_word_byte c 58 (and_left (is_word_byte c) (list_all is_word_byte cs) h) refl)
    ∙ words_count cs rest (and_right (is_word_byte c) (list_all is_word_byte cs) h)

-- keywords, perhaps none, with so many colons
pub record Row (t : Text) (count : ℕ) : Type 0 where
  pub keywords : are_keywords false t ≡ true
  pub colons : count_byte 58 t ≡ count

pub no_row : Row [] 0
unfolding are_keywords count_byte
no_row = record { keywords = refl; colons = refl }

-- a keyword's bytes
abbrev pub IsKeyword : Text → Type 0
IsKeyword t = (name : Text) × (t ≡ name ++ 58 ∷ []) × (is_identifier name ≡ true)

joined : (name rest : Text) → (name ++ 58 ∷ []) ++ rest ≡ name ++ 58 ∷ rest
joined name rest = append_assoc name (58 ∷ []) rest

named_row : (name rest : Text) (count : ℕ) → is_identifier name ≡ true → Row rest count → Row (name ++ 58 ∷ rest) (suc count)
unfolding are_keywords count_byte begins
named_row [] rest count h row = absurd (true≢false (sym h))
named_row (c ∷ cs) rest count h row =
    let l : is_letter c ≡ true = and_left (is_letter c) (list_all is_word_byte cs) h in
    let w : list_all is_word_byte cs ≡ true = and_right (is_letter c) (list_all is_word_byte cs) h in
    record {
      keywords = begun_step (begins c) (are_keywords true (cs ++ 58 ∷ rest)) (letter_begins c l) ∙ words_go cs (58 ∷ rest) w ∙ row.keywords;
      colons = counts_step (nat_eq c 58) (suc (count_byte 58 (cs ++ 58 ∷ rest))) (count_byte 58 (cs ++ 58 ∷ rest)) (differs is_letter c 58 l refl) ∙ words_count cs (58 ∷ rest) w ∙ ap suc row.colons;
    }

pub more_row : (t rest : Text) (count : ℕ) → IsKeyword t → Row rest count → Row (t ++ rest) (suc count)
more_row t rest count (name, e, h) row =
    subst (λ x. Row x (suc count)) (sym (ap (λ x. x ++ rest) e ∙ joined name rest)) (named_row name rest count h row)

-- one keyword or more
row_arity_at : (t : Text) (count : ℕ) → Row t (suc count) → arity t ≡ suc count
unfolding arity is_keywords is_operators count_byte
row_arity_at [] count row = row.colons
row_arity_at (b ∷ t) count row = chosen (are_keywords false (b ∷ t)) (count_byte 58 (b ∷ t)) _ row.keywords ∙ row.colons
  where
    chosen : (x : Bool) (n m : ℕ) → x ≡ true → (if x then n else m) ≡ n
    chosen true n m e = refl
    chosen false n m e = absurd (true≢false (sym e))

pub row_arity : (t : Text) (count : ℕ) → Row t (suc count) → suc count ≡ arity t
row_arity t count row = sym (row_arity_at t count row)

-- ---- names and operators

no_arity : (x y : Bool) (n : ℕ) → x ≡ false → y ≡ false → (if x then n else (if y then 1 else 0)) ≡ 0
no_arity false false n e f = refl
no_arity true y n e f = absurd (true≢false e)
no_arity false true n e f = absurd (true≢false f)

one_arity : (x y : Bool) (n : ℕ) → x ≡ false → y ≡ true → (if x then n else (if y then 1 else 0)) ≡ 1
one_arity false true n e f = refl
one_arity true y n e f = absurd (true≢false e)
one_arity false false n e f = absurd (true≢false (sym f))

all_first : (x y : Bool) → x ≡ false → (elim x [ true ↦ y | false ↦ false ]) ≡ false
all_first false y e = refl
all_first true y e = absurd (true≢false e)

words_close : (cs : Text) → list_all is_word_byte cs ≡ true → are_keywords true cs ≡ false
unfolding are_keywords goes_on
words_close [] h = refl
words_close (c ∷ cs) h =
    let w : is_word_byte c ≡ true = and_left (is_word_byte c) (list_all is_word_byte cs) h in
    inner_step (nat_eq c 58) (goes_on c) (are_keywords true cs) (are_keywords false cs) (differs is_word_byte c 58 w refl) (word_goes_on c w)
    ∙ words_close cs (and_right (is_word_byte c) (list_all is_word_byte cs) h)

pub word_arity : (t : Text) → is_identifier t ≡ true → 0 ≡ arity t
unfolding arity is_keywords are_keywords is_operators all_bytes begins
word_arity [] h = absurd (true≢false (sym h))
word_arity (c ∷ cs) h =
    let l : is_letter c ≡ true = and_left (is_letter c) (list_all is_word_byte cs) h in
    let w : list_all is_word_byte cs ≡ true = and_right (is_letter c) (list_all is_word_byte cs) h in
    sym (no_arity (are_keywords false (c ∷ cs)) (is_operators (c ∷ cs)) (count_byte 58 (c ∷ cs))
    (begun_step (begins c) (are_keywords true cs) (letter_begins c l) ∙ words_close cs w)
    (all_first (holds_byte marks c) (all_bytes (holds_byte marks) cs) (holds_none is_letter c marks l (refl, (refl, (refl, (refl, (refl, (refl, (refl, (refl, (refl, (refl, (refl, (refl, (refl, (refl, (refl, (refl, tt)))))))))))))))))))

operators_all : (cs : Text) → list_all is_operator_byte cs ≡ true → all_bytes (holds_byte marks) cs ≡ true
unfolding all_bytes
operators_all [] h = refl
operators_all (c ∷ cs) h =
    begun_step (holds_byte marks c) (all_bytes (holds_byte marks) cs) (operator_held c (and_left (is_operator_byte c) (list_all is_operator_byte cs) h))
    ∙ operators_all cs (and_right (is_operator_byte c) (list_all is_operator_byte cs) h)

pub operator_arity : (t : Text) → is_run is_operator_byte t ≡ true → 1 ≡ arity t
unfolding arity is_keywords are_keywords is_operators begins
operator_arity [] h = absurd (true≢false (sym h))
operator_arity (c ∷ cs) h =
    let o : is_operator_byte c ≡ true = and_left (is_operator_byte c) (list_all is_operator_byte cs) h in
    sym (one_arity (are_keywords false (c ∷ cs)) (is_operators (c ∷ cs)) (count_byte 58 (c ∷ cs))
    (not_begun (begins c) (are_keywords true cs) (operator_begins c o))
    (operators_all (c ∷ cs) h))
