-- Strings, words and comments, byte by byte.
use Rattle.std.proofs.Common.{◌≡◌, ◌≢◌, ◌∙◌, ℕ, ◌-◌, ◌≤◌, ◌==◌, Bool, true, false, if◌then◌else◌, List, [], ◌∷◌, ◌++◌, take, drop, length, refl, ap, sym, append-nil, append_assoc}
use Rattle.std.proofs.lemmas.Bool.{ne_eqb}
use Rattle.std.proofs.lemmas.List.{drop_all}
use Rattle.st_base.specs.TokenBytes.{is_white_byte}
use Rattle.st_tree.specs.Symbols.{unquoted, string_value}
use Rattle.st_tree.specs.Headers.{onto_word, words_behind, words_of, comments_in}
use Rattle.sif_elements.specs.Words.{in_front}

-- all bytes of a string are kept or skipped
pub string_done : (t items bytes : List ℕ) (skips : Bool) (i : ℕ) → length items ≤ i → bytes ++ unquoted skips (drop i items) ≡ unquoted false items → items ≡ take (length t - 2) (drop 1 t) → bytes ≡ string_value t
unfolding string_value
string_done t items bytes skips i h e f =
    sym (append-nil bytes) ∙ ap (λ x. bytes ++ unquoted skips x) (sym (drop_all i items h)) ∙ e ∙ ap (unquoted false) f

-- ---- in front of words

in_front-word : (word : List ℕ) (words : List (List ℕ)) → in_front word ([] ∷ words) ≡ word ∷ words
in_front-word [] words = refl
in_front-word (b ∷ word) words = ap (onto_word b) (in_front-word word words)

in_front-more : (word : List ℕ) (b : ℕ) (words : List (List ℕ)) → in_front (word ++ b ∷ []) words ≡ in_front word (onto_word b words)
in_front-more [] b words = refl
in_front-more (c ∷ word) b words = ap (onto_word c) (in_front-more word b words)

-- a word ends, and stands behind those before it
word_ends : (words more : List (List ℕ)) (word : List ℕ) → (words ++ word ∷ []) ++ more ≡ words ++ in_front word ([] ∷ more)
word_ends words more word = append_assoc words (word ∷ []) more ∙ ap (λ x. words ++ x) (sym (in_front-word word more))

-- a word goes on
word_goes_on : (words more : List (List ℕ)) (word : List ℕ) (b : ℕ) → words ++ in_front (word ++ b ∷ []) more ≡ words ++ in_front word (onto_word b more)
word_goes_on words more word b = ap (λ x. words ++ x) (in_front-more word b more)

-- ---- words

behind_dark : (white : Bool) (b : ℕ) (more : List ℕ) → is_white_byte b ≡ false → words_behind white (b ∷ more) ≡ onto_word b (words_behind false more)
behind_dark false b more e = ap (λ t. if t then [] ∷ words_behind true more else onto_word b (words_behind false more)) e
behind_dark true b more e = ap (λ t. if t then words_behind true more else onto_word b (words_behind false more)) e

behind_white : (b : ℕ) (more : List ℕ) → is_white_byte b ≡ true → words_behind false (b ∷ more) ≡ [] ∷ words_behind true more
behind_white b more e = ap (λ t. if t then [] ∷ words_behind true more else onto_word b (words_behind false more)) e

behind_whites : (b : ℕ) (more : List ℕ) → is_white_byte b ≡ true → words_behind true (b ∷ more) ≡ words_behind true more
behind_whites b more e = ap (λ t. if t then words_behind true more else onto_word b (words_behind false more)) e

-- a byte that is no white space goes into the word
pub word_more : (words : List (List ℕ)) (word : List ℕ) (white : Bool) (b : ℕ) (more : List ℕ) → is_white_byte b ≡ false
    → words ++ in_front (word ++ b ∷ []) (words_behind false more) ≡ words ++ in_front word (words_behind white (b ∷ more))
word_more words word white b more e = word_goes_on words (words_behind false more) word b ∙ ap (λ x. words ++ in_front word x) (sym (behind_dark white b more e))

-- white space ends the word
pub word_done : (words : List (List ℕ)) (word : List ℕ) (b : ℕ) (more : List ℕ) → is_white_byte b ≡ true
    → (words ++ word ∷ []) ++ words_behind true more ≡ words ++ in_front word (words_behind false (b ∷ more))
word_done words word b more e = word_ends words (words_behind true more) word ∙ ap (λ x. words ++ in_front word x) (sym (behind_white b more e))

-- more white space is skipped
pub white_more : (words : List (List ℕ)) (word : List ℕ) (b : ℕ) (more : List ℕ) → is_white_byte b ≡ true
    → words ++ in_front word (words_behind true more) ≡ words ++ in_front word (words_behind true (b ∷ more))
white_more words word b more e = ap (λ x. words ++ in_front word x) (sym (behind_whites b more e))

-- all bytes are taken into words
pub words_done : (bytes : List ℕ) (words : List (List ℕ)) (word : List ℕ) (white : Bool) (i : ℕ) → length bytes ≤ i → words ++ in_front word (words_behind white (drop i bytes)) ≡ words_behind false bytes
    → words ++ word ∷ [] ≡ words_behind false bytes
words_done bytes words word white i h e =
    sym (append-nil (words ++ word ∷ [])) ∙ word_ends words [] word ∙ ap (λ x. words ++ in_front word x) (sym (at_end white)) ∙ ap (λ x. words ++ in_front word (words_behind white x)) (sym (drop_all i bytes h)) ∙ e
  where
    at_end : (white : Bool) → words_behind white [] ≡ [] ∷ []
    at_end false = refl
    at_end true = refl

-- where there is a byte, there is a word
pub words_of-some : (bytes : List ℕ) → (length bytes == 0) ≡ false → words_of bytes ≡ words_behind false bytes
words_of-some [] e = absurd (let k : true ≡ false = e in cc)
words_of-some (b ∷ bytes) e = refl

-- ---- comments

-- a quote closes a comment
pub comment_done : (comments : List (List ℕ)) (comment more : List ℕ) → (comments ++ comment ∷ []) ++ comments_in false more ≡ comments ++ in_front comment ([] ∷ comments_in false more)
comment_done comments comment more = word_ends comments (comments_in false more) comment

-- another byte goes into it
pub comment_more : (comments : List (List ℕ)) (comment : List ℕ) (b : ℕ) (more : List ℕ) → b ≢ 34 → comments ++ in_front (comment ++ b ∷ []) (comments_in true more) ≡ comments ++ in_front comment (comments_in true (b ∷ more))
comment_more comments comment b more other =
    word_goes_on comments (comments_in true more) comment b ∙ ap (λ t. comments ++ in_front comment (if t then [] ∷ comments_in false more else onto_word b (comments_in true more))) (sym (ne_eqb b 34 other))

-- all bytes are taken, and a comment is open
pub comments_open : (text : List ℕ) (comments : List (List ℕ)) (comment : List ℕ) (i : ℕ) → length text ≤ i → comments ++ in_front comment (comments_in true (drop i text)) ≡ comments_in false text
    → comments ++ comment ∷ [] ≡ comments_in false text
comments_open text comments comment i h e =
    sym (append-nil (comments ++ comment ∷ [])) ∙ word_ends comments [] comment ∙ ap (λ x. comments ++ in_front comment (comments_in true x)) (sym (drop_all i text h)) ∙ e

-- all bytes are taken, and none is
pub comments_closed : (text : List ℕ) (comments : List (List ℕ)) (i : ℕ) → length text ≤ i → comments ++ comments_in false (drop i text) ≡ comments_in false text → comments ≡ comments_in false text
comments_closed text comments i h e = sym (append-nil comments) ∙ ap (λ x. comments ++ comments_in false x) (sym (drop_all i text h)) ∙ e
