-- Keywords and selectors by their forms, and how far the computed lengths go.
use Rattle.std.proofs.Common.{◌≡◌, ◌+◌, ◌≤◌, ℕ, suc, Bool, true, false, true≢false, not, ◌&&◌, ◌==◌, inl, inr, List, [], ◌∷◌, ◌++◌, drop, take, length, Option, None, Some, refl, ap, sym, subst, ◌∙◌, arith, add-one, append_assoc, unwrap_or, length-append}
use Rattle.std.specs.List.{prefix_len, list_all}
use Rattle.std.specs.Option.{option_map}
use Rattle.std.proofs.lemmas.Bool.Decides.{eqb_tells}
use Rattle.st_base.specs.TokenBytes.{is_letter, is_word_byte, begins, begins_colon}
use Rattle.st_base.specs.Lexed.{keywords_len, selector_len}
use Rattle.st_base.specs.Lexes.{is_identifier, AreKeywords, last_keyword, next_keyword, IsSelector, one_word, keywords}
use Rattle.st_lexer.proofs.Runs.{and_left, and_right, and_both, prefix_len-goes, prefix_len-covers, list_all-prefix}
use Rattle.st_lexer.proofs.Quotes.{plus_one-some, keywords_len-covers}

pub letter_word : (c : ℕ) → is_letter c ≡ true → is_word_byte c ≡ true
letter_word c is = rw is refl

-- an identifier is a run of word bytes from a letter on
pub identifier_all : (t : List ℕ) → is_identifier t ≡ true → list_all is_word_byte t ≡ true
identifier_all [] is = refl
identifier_all (c ∷ cs) is = and_both (is_word_byte c) (list_all is_word_byte cs) (letter_word c (and_left (is_letter c) (list_all is_word_byte cs) is)) (and_right (is_letter c) (list_all is_word_byte cs) is)

pub identifier_begins : (t after : List ℕ) → is_identifier t ≡ true → begins is_letter (t ++ after) ≡ true
identifier_begins [] after is = absurd (true≢false (sym is))
identifier_begins (c ∷ cs) after is = and_left (is_letter c) (list_all is_word_byte cs) is

list_all-push : (t : List ℕ) (c : ℕ) → list_all is_word_byte t ≡ true → is_word_byte c ≡ true → list_all is_word_byte (t ++ c ∷ []) ≡ true
list_all-push [] c all word = and_both (is_word_byte c) true word refl
list_all-push (d ∷ ds) c all word = and_both (is_word_byte d) _ (and_left (is_word_byte d) (list_all is_word_byte ds) all) (list_all-push ds c (and_right (is_word_byte d) (list_all is_word_byte ds) all) word)

identifier_push : (t : List ℕ) (c : ℕ) → is_identifier t ≡ true → is_word_byte c ≡ true → is_identifier (t ++ c ∷ []) ≡ true
identifier_push [] c is word = absurd (true≢false (sym is))
identifier_push (d ∷ ds) c is word = and_both (is_letter d) _ (and_left (is_letter d) (list_all is_word_byte ds) is) (list_all-push ds c (and_right (is_letter d) (list_all is_word_byte ds) is) word)

-- keywords stand before a byte that is no `=`
abbrev pub KeywordsAt : List ℕ → ℕ → List ℕ → Type 0
KeywordsAt name n bs = AreKeywords (name ++ take n bs) × (begins (λ c. c == 61) (drop n bs) ≡ false)

keywords-goes : (name : List ℕ) (c m n : ℕ) (cs : List ℕ) → n ≡ suc m → KeywordsAt (name ++ c ∷ []) m cs → KeywordsAt name n (c ∷ cs)
keywords-goes name c m n cs is there = subst (λ k. KeywordsAt name k (c ∷ cs)) (sym is) (subst AreKeywords (append_assoc name (c ∷ []) (take m cs)) there.0, there.1)

keywords-last : (name : List ℕ) (c n : ℕ) (cs : List ℕ) → is_identifier name ≡ true → c ≡ 58 → n ≡ 1 → begins (λ c. c == 61) cs ≡ false → KeywordsAt name n (c ∷ cs)
keywords-last name c n cs word colon is off = subst (λ k. KeywordsAt name k (c ∷ cs)) (sym is) (last_keyword name word (ap (λ (d : ℕ). name ++ d ∷ []) colon), off)

keywords-next : (name : List ℕ) (c d m n : ℕ) (ds : List ℕ) → is_identifier name ≡ true → c ≡ 58 → n ≡ suc (suc m) → KeywordsAt (d ∷ []) m ds → KeywordsAt name n (c ∷ d ∷ ds)
keywords-next name c d m n ds word colon is there = subst (λ k. KeywordsAt name k (c ∷ d ∷ ds)) (sym is) (next_keyword name (d ∷ take m ds) word (ap (λ (e : ℕ). name ++ e ∷ d ∷ take m ds) colon) there.0, there.1)

word_goes : (c : ℕ) (cs : List ℕ) (o : Option ℕ) → is_word_byte c ≡ true → keywords_len true (c ∷ cs) ≡ o → option_map (λ n. n + 1) (keywords_len true cs) ≡ o
word_goes c cs o word is = rw word at is

word_closes : (c : ℕ) (cs : List ℕ) (o : Option ℕ) → is_word_byte c ≡ false → begins_colon (c ∷ cs) ≡ true → keywords_len true (c ∷ cs) ≡ o → option_map (λ n. n + 1) (keywords_len false cs) ≡ o
word_closes c cs o off colon is = rw (off, colon) at is

word_fails : (c : ℕ) (cs : List ℕ) (o : Option ℕ) → is_word_byte c ≡ false → begins_colon (c ∷ cs) ≡ false → keywords_len true (c ∷ cs) ≡ o → None ≡ o
word_fails c cs o off colon is = rw (off, colon) at is

another_begins : (d : ℕ) (ds : List ℕ) (o : Option ℕ) → is_letter d ≡ true → keywords_len false (d ∷ ds) ≡ o → Some (unwrap_or (option_map (λ n. n + 1) (keywords_len true ds)) 0) ≡ o
another_begins d ds o letter is = rw letter at is

no_other : (d : ℕ) (ds : List ℕ) (o : Option ℕ) → is_letter d ≡ false → keywords_len false (d ∷ ds) ≡ o → Some 0 ≡ o
no_other d ds o letter is = rw letter at is

unequal : (a b : Bool) → (a && not b) ≡ true → b ≡ false
unequal true true is = absurd (true≢false (sym is))
unequal true false is = refl
unequal false b is = absurd (true≢false (sym is))

-- keywords whose first has begun
pub keywords_len-some : (name bs : List ℕ) (n : ℕ) → is_identifier name ≡ true → keywords_len true bs ≡ Some n → KeywordsAt name n bs
keywords_len-some name [] n word is = absurd (cc)
keywords_len-some name (c ∷ []) n word is = elim (is_word_byte c) as (λ v. is_word_byte c ≡ v → KeywordsAt name n (c ∷ [])) [
  | true ↦ λ inside. let one = plus_one-some (keywords_len true []) n (word_goes c [] (Some n) inside is) in absurd (let never : None ≡ Some one.0 = one.1 in (cc))
  | false ↦ λ off. elim (begins_colon (c ∷ [])) as (λ v. begins_colon (c ∷ []) ≡ v → KeywordsAt name n (c ∷ [])) [
    | true ↦ λ colon.
        let one = plus_one-some (Some 0) n (word_closes c [] (Some n) off colon is) in
        let z : 0 ≡ one.0 = (cc) in
        let there : (c == 58) ≡ true = and_left (c == 58) true colon in
        let e : c ≡ 58 = grind (arith, there) in
        keywords-last name c n [] word e (one.2 ∙ ap suc (sym z)) refl
    | false ↦ λ none. absurd (let never : None ≡ Some n = word_fails c [] (Some n) off none is in (cc))
  ] refl
] refl
keywords_len-some name (c ∷ d ∷ ds) n word is = elim (is_word_byte c) as (λ v. is_word_byte c ≡ v → KeywordsAt name n (c ∷ d ∷ ds)) [
  | true ↦ λ inside.
      let one = plus_one-some (keywords_len true (d ∷ ds)) n (word_goes c (d ∷ ds) (Some n) inside is) in
      keywords-goes name c one.0 n (d ∷ ds) one.2 (keywords_len-some (name ++ c ∷ []) (d ∷ ds) one.0 (identifier_push name c word inside) one.1)
  | false ↦ λ off. elim (begins_colon (c ∷ d ∷ ds)) as (λ v. begins_colon (c ∷ d ∷ ds) ≡ v → KeywordsAt name n (c ∷ d ∷ ds)) [
    | true ↦ λ colon.
        let one = plus_one-some (keywords_len false (d ∷ ds)) n (word_closes c (d ∷ ds) (Some n) off colon is) in
        let there : (c == 58) ≡ true = and_left (c == 58) (not (d == 61)) colon in
        let e : c ≡ 58 = grind (arith, there) in
        let far : (d == 61) ≡ false = unequal (c == 58) (d == 61) colon in
        elim (is_letter d) as (λ v. is_letter d ≡ v → KeywordsAt name n (c ∷ d ∷ ds)) [
          | true ↦ λ letter.
              let more : Some (unwrap_or (option_map (λ n. n + 1) (keywords_len true ds)) 0) ≡ Some one.0 = another_begins d ds (Some one.0) letter one.1 in
              elim (keywords_len true ds) as (λ o. keywords_len true ds ≡ o → Some (unwrap_or (option_map (λ n. n + 1) o) 0) ≡ Some one.0 → KeywordsAt name n (c ∷ d ∷ ds)) [
                | None ↦ λ none. λ last. let z : 0 ≡ one.0 = (cc) in keywords-last name c n (d ∷ ds) word e (one.2 ∙ ap suc (sym z)) far
                | Some k ↦ λ some. λ next.
                    let z : k + 1 ≡ one.0 = (cc) in
                    let s : is_identifier (d ∷ []) ≡ true = and_both (is_letter d) true letter refl in
                    keywords-next name c d k n ds word e (one.2 ∙ ap suc (sym z ∙ add-one k)) (keywords_len-some (d ∷ []) ds k s some)
              ] refl more
          | false ↦ λ no_letter. let z : 0 ≡ one.0 = (let last : Some 0 ≡ Some one.0 = no_other d ds (Some one.0) no_letter one.1 in (cc)) in keywords-last name c n (d ∷ ds) word e (one.2 ∙ ap suc (sym z)) far
        ] refl
    | false ↦ λ none. absurd (let never : None ≡ Some n = word_fails c (d ∷ ds) (Some n) off none is in (cc))
  ] refl
] refl

-- what is computed of a selector is one
selector_of : (o : Option ℕ) (c : ℕ) (cs : List ℕ) → is_letter c ≡ true → keywords_len true (c ∷ cs) ≡ o → IsSelector (take (unwrap_or o (prefix_len is_word_byte (c ∷ cs))) (c ∷ cs)) (drop (unwrap_or o (prefix_len is_word_byte (c ∷ cs))) (c ∷ cs))
selector_of None c cs letter is = one_word (rw (prefix_len-goes is_word_byte c cs (letter_word c letter)) (and_both (is_letter c) _ letter (list_all-prefix is_word_byte cs)))
selector_of (Some n) c cs letter is =
    let one = plus_one-some (keywords_len true cs) n (word_goes c cs (Some n) (letter_word c letter) is) in
    let first : is_identifier (c ∷ []) ≡ true = and_both (is_letter c) true letter refl in
    let there : KeywordsAt (c ∷ []) one.0 cs = keywords_len-some (c ∷ []) cs one.0 first one.1 in
    subst (λ k. IsSelector (take k (c ∷ cs)) (drop k (c ∷ cs))) (sym one.2) (keywords there.0 there.1)

pub selector_len-is : (c : ℕ) (cs : List ℕ) → is_letter c ≡ true → IsSelector (take (selector_len (c ∷ cs)) (c ∷ cs)) (drop (selector_len (c ∷ cs)) (c ∷ cs))
unfolding selector_len
selector_len-is c cs letter = selector_of (keywords_len true (c ∷ cs)) c cs letter refl

-- keywords go at least to the colon that no `=` follows
pub keywords-word : (w r : List ℕ) (m : ℕ) → list_all is_word_byte w ≡ true → begins_colon (58 ∷ r) ≡ true → keywords_len false r ≡ Some m → keywords_len true (w ++ 58 ∷ r) ≡ Some (m + (length w + 1))
keywords-word [] r m all colon is = rw (colon, is) (ap Some (let e : m + 1 ≡ m + (0 + 1) = omega arith in e))
keywords-word (c ∷ cs) r m all colon is =
    let rest = keywords-word cs r m (and_right (is_word_byte c) (list_all is_word_byte cs) all) colon is in
    let e : m + (length cs + 1) + 1 ≡ m + (length (c ∷ cs) + 1) = omega arith in
    rw (and_left (is_word_byte c) (list_all is_word_byte cs) all, rest) (ap Some e)

between_some : (r : List ℕ) → (m : ℕ) × (keywords_len false r ≡ Some m)
between_some [] = (0, refl)
between_some (c ∷ cs) = elim (is_letter c) as (λ v. is_letter c ≡ v → (m : ℕ) × (keywords_len false (c ∷ cs) ≡ Some m)) [
  | true ↦ λ is. (unwrap_or (option_map (λ n. n + 1) (keywords_len true cs)) 0, rw is refl)
  | false ↦ λ off. (0, rw off refl)
] refl

-- between two keywords the next counts as a whole
pub between_next : (bs : List ℕ) (n : ℕ) → begins is_letter bs ≡ true → keywords_len true bs ≡ Some n → keywords_len false bs ≡ Some n
between_next [] n letter is = absurd (true≢false (sym letter))
between_next (c ∷ cs) n letter is = rw letter (next (keywords_len true cs) (word_goes c cs (Some n) (letter_word c letter) is))
  where
    next : (o : Option ℕ) → option_map (λ n. n + 1) o ≡ Some n → Some (unwrap_or (option_map (λ n. n + 1) o) 0) ≡ Some n
    next None is = absurd (cc)
    next (Some k) is = is

pub keywords_begin : {t : List ℕ} → AreKeywords t → (v : List ℕ) → begins is_letter (t ++ v) ≡ true
keywords_begin (last_keyword name word e) v = subst (λ (t : List ℕ). begins is_letter (t ++ v) ≡ true) (sym e) (rw append_assoc (identifier_begins name (58 ∷ v) word))
keywords_begin (next_keyword name rest word e more) v = subst (λ (t : List ℕ). begins is_letter (t ++ v) ≡ true) (sym e) (rw append_assoc (identifier_begins name (58 ∷ (rest ++ v)) word))

pub letter_equals : (bs : List ℕ) → begins is_letter bs ≡ true → begins (λ c. c == 61) bs ≡ false
letter_equals [] is = refl
letter_equals (c ∷ cs) is = elim (eqb_tells c 61) [
  | inl same ↦ absurd (true≢false (sym is ∙ ap is_letter same.1))
  | inr other ↦ other.0
]

pub colon_of : (r : List ℕ) → begins (λ c. c == 61) r ≡ false → begins_colon (58 ∷ r) ≡ true
colon_of r off = rw off refl

-- how far keywords go before these bytes
abbrev pub KeywordsCover : List ℕ → List ℕ → Type 0
KeywordsCover t v = (n : ℕ) × (keywords_len true (t ++ v) ≡ Some n) × (length t ≤ n)

pub keywords_cover : {t : List ℕ} → AreKeywords t → (v : List ℕ) → begins (λ c. c == 61) v ≡ false → KeywordsCover t v
keywords_cover {t = t} (last_keyword name word e) v off =
    let some = between_some v in
    let all = identifier_all name word in
    subst (λ (t : List ℕ). KeywordsCover t v) (sym e)
    (some.0 + (length name + 1), rw append_assoc (keywords-word name v some.0 all (colon_of v off) some.1), omega (arith, length-append name (58 ∷ [])))
keywords_cover {t = t} (next_keyword name rest word e more) v off =
    let next = keywords_cover more v off in
    let letter = keywords_begin more v in
    let all = identifier_all name word in
    let low : length rest ≤ next.0 = next.2 in
    subst (λ (t : List ℕ). KeywordsCover t v) (sym e)
    (next.0 + (length name + 1), rw append_assoc (keywords-word name (rest ++ v) next.0 all (colon_of (rest ++ v) (letter_equals (rest ++ v) letter)) (between_next (rest ++ v) next.0 letter next.1)), omega (arith, length-append name (58 ∷ rest)))

-- a selector is never longer than the computed one
selector_word : (o : Option ℕ) (bs : List ℕ) (n : ℕ) → keywords_len true bs ≡ o → n ≤ prefix_len is_word_byte bs → n ≤ unwrap_or o (prefix_len is_word_byte bs)
selector_word None bs n is low = low
selector_word (Some m) bs n is low = let far : prefix_len is_word_byte bs ≤ m = keywords_len-covers bs m is in omega arith

pub selector_len-word : (t v : List ℕ) → is_identifier t ≡ true → length t ≤ selector_len (t ++ v)
unfolding selector_len
selector_len-word t v is = selector_word (keywords_len true (t ++ v)) (t ++ v) (length t) refl (prefix_len-covers is_word_byte t v (identifier_all t is))

pub selector_len-keywords : (t v : List ℕ) → AreKeywords t → begins (λ c. c == 61) v ≡ false → length t ≤ selector_len (t ++ v)
unfolding selector_len
selector_len-keywords t v are off = let cover = keywords_cover are v off in rw cover.1 cover.2
