-- The words of messages, by the tokens of their selectors.
use Rattle.std.proofs.Common.{◌≡◌, ℕ, Bool, true, false, true≢false, ◌==◌, if◌then◌else◌, List, [], ◌∷◌, ◌++◌, codes, inl, inr, refl, ap, sym, ◌∙◌, subst, append_assoc, append-nil}
use Rattle.std.specs.List.{list_all}
use Rattle.std.specs.Str.{bytes_eq}
use Rattle.std.proofs.lemmas.Bool.Decides.{eqb_tells}
use Rattle.std.proofs.lemmas.Slice.Eq.{bytes_eq-Decides}
use Rattle.st_base.specs.TokenBytes.{is_letter, is_word_byte, is_operator_byte}
use Rattle.st_base.specs.Lexes.{is_identifier, is_run}
use Rattle.st_lexer.proofs.Runs.{and_left, and_right}
use Rattle.st_lexer.proofs.Cover.{operator_plain}
use Rattle.st_tree.specs.Symbols.{Sym, Op, Minus, Bar, TwoBars, ThreeBars, IsOp, op, minus, bar, two_bars, three_bars, operator_at}
use Rattle.sif_export.specs.Words as word
use Rattle.sif_export.specs.Words.{Word, Mark}
use Rattle.sif_export.specs.TreeWords.{Words, first_part, other_parts, part_word, sent_words}
use Rattle.sif_export.proofs.Lexing.{IsKey}
use Rattle.sif_export.proofs.Exports.{Formed, moves}

-- ---- operators

plain_operator : (c : ℕ) → is_operator_byte c ≡ true → (c == 58) ≡ false
plain_operator c is = elim (eqb_tells c 58) [
  | inl same ↦ absurd (true≢false (sym is ∙ ap is_operator_byte same.1))
  | inr other ↦ other.0
]

first_part-operator : (t : List ℕ) → list_all is_operator_byte t ≡ true → first_part t ≡ t
first_part-operator [] all = refl
first_part-operator (c ∷ cs) all = rw (plain_operator c (and_left (is_operator_byte c) (list_all is_operator_byte cs) all)) (ap (λ (xs : List ℕ). c ∷ xs) (first_part-operator cs (and_right (is_operator_byte c) (list_all is_operator_byte cs) all)))

first_part-run : (t : List ℕ) → is_run is_operator_byte t ≡ true → first_part t ≡ t
first_part-run [] is = absurd (true≢false (sym is))
first_part-run (c ∷ cs) is = first_part-operator (c ∷ cs) is

part_word-run : (t : List ℕ) → is_run is_operator_byte t ≡ true → part_word t ≡ word.Operator t
part_word-run [] is = absurd (true≢false (sym is))
part_word-run (c ∷ cs) is = rw ((operator_plain c (and_left (is_operator_byte c) (list_all is_operator_byte cs) is)).0) refl

-- a binary message
pub sent-operator : (t : List ℕ) (x : Words) → is_run is_operator_byte t ≡ true → sent_words t (x ∷ []) ≡ word.Operator t ∷ x
sent-operator t x is = ap (λ (u : List ℕ). part_word u ∷ x ++ []) (first_part-run t is) ∙ ap (λ w. w ∷ x ++ []) (part_word-run t is) ∙ ap (λ (ws : Words). word.Operator t ∷ ws) (append-nil x)

pub op_run : {s : Sym} {t : List ℕ} {at : ℕ} → IsOp s t at → Formed s → is_run is_operator_byte t ≡ true
op_run op f = f
op_run minus f = refl
op_run bar f = refl
op_run two_bars f = refl
op_run three_bars f = refl

pub op_moves : {s : Sym} {t : List ℕ} {at : ℕ} → IsOp s t at → (a : List Sym) → moves (s ∷ a) ≡ moves a
op_moves op a = refl
op_moves minus a = refl
op_moves bar a = refl
op_moves two_bars a = refl
op_moves three_bars a = refl

-- an operator is a token of its text wherever it stands
pub operator_is : (t : List ℕ) (at : ℕ) → IsOp (operator_at t at) t at
operator_is t at = of (bytes_eq t (codes "-")) (bytes_eq t (codes "|")) (bytes_eq t (codes "||")) (bytes_eq t (codes "|||")) (same (codes "-")) (same (codes "|")) (same (codes "||")) (same (codes "|||"))
  where
    same : (u : List ℕ) → bytes_eq t u ≡ true → t ≡ u
    same u e = (bytes_eq-Decides t u).0 e

    of : (a b c d : Bool) → (a ≡ true → t ≡ codes "-") → (b ≡ true → t ≡ codes "|") → (c ≡ true → t ≡ codes "||") → (d ≡ true → t ≡ codes "|||")
        → IsOp (if a then Minus at else (if b then Bar at else (if c then TwoBars at else (if d then ThreeBars at else Op t at)))) t at
    of true b c d x y z w = subst (λ u. IsOp (Minus at) u at) (sym (x refl)) minus
    of false true c d x y z w = subst (λ u. IsOp (Bar at) u at) (sym (y refl)) bar
    of false false true d x y z w = subst (λ u. IsOp (TwoBars at) u at) (sym (z refl)) two_bars
    of false false false true x y z w = subst (λ u. IsOp (ThreeBars at) u at) (sym (w refl)) three_bars
    of false false false false x y z w = op

-- ---- keywords

word_colon : (c : ℕ) → is_word_byte c ≡ true → (c == 58) ≡ false
word_colon c is = elim (eqb_tells c 58) [
  | inl same ↦ absurd (true≢false (sym is ∙ ap is_word_byte same.1))
  | inr other ↦ other.0
]

first_part-word : (name s : List ℕ) → list_all is_word_byte name ≡ true → first_part (name ++ 58 ∷ s) ≡ name ++ 58 ∷ []
first_part-word [] s all = refl
first_part-word (c ∷ cs) s all = rw (word_colon c (and_left (is_word_byte c) (list_all is_word_byte cs) all)) (ap (λ (xs : List ℕ). c ∷ xs) (first_part-word cs s (and_right (is_word_byte c) (list_all is_word_byte cs) all)))

other_parts-word : (name s : List ℕ) → list_all is_word_byte name ≡ true → other_parts (name ++ 58 ∷ s) ≡ s
other_parts-word [] s all = refl
other_parts-word (c ∷ cs) s all = rw (word_colon c (and_left (is_word_byte c) (list_all is_word_byte cs) all)) (other_parts-word cs s (and_right (is_word_byte c) (list_all is_word_byte cs) all))

identifier_words : (t : List ℕ) → is_identifier t ≡ true → list_all is_word_byte t ≡ true
identifier_words [] is = refl
identifier_words (c ∷ cs) is = rw (and_left (is_letter c) (list_all is_word_byte cs) is) (and_right (is_letter c) (list_all is_word_byte cs) is)

part_word-key : (name : List ℕ) → is_identifier name ≡ true → part_word (name ++ 58 ∷ []) ≡ word.Key (name ++ 58 ∷ [])
part_word-key [] is = absurd (true≢false (sym is))
part_word-key (c ∷ cs) is = rw (and_left (is_letter c) (list_all is_word_byte cs) is) refl

-- the words of arguments behind their first keyword
abbrev pub behind_words : List ℕ → List Words → Words
behind_words selector [] = []
behind_words selector (x ∷ xs) = x ++ sent_words selector xs

-- a keyword in front of a selector
pub sent-key : (t s : List ℕ) (x : Words) (xs : List Words) → IsKey t → sent_words (t ++ s) (x ∷ xs) ≡ word.Key t ∷ behind_words s (x ∷ xs)
sent-key t s x xs key =
    let name = key.0 in
    let all : list_all is_word_byte name ≡ true = identifier_words name key.2 in
    let whole : t ++ s ≡ name ++ 58 ∷ s = ap (λ (u : List ℕ). u ++ s) key.1 ∙ append_assoc name (58 ∷ []) s in
    ap (λ (u : List ℕ). part_word (first_part u) ∷ x ++ sent_words (other_parts u) xs) whole
    ∙ ap (λ (u : List ℕ). part_word u ∷ x ++ sent_words (other_parts (name ++ 58 ∷ s)) xs) (first_part-word name s all)
    ∙ ap (λ (u : List ℕ). part_word (name ++ 58 ∷ []) ∷ x ++ sent_words u xs) (other_parts-word name s all)
    ∙ ap (λ w. w ∷ x ++ sent_words s xs) (part_word-key name key.2 ∙ ap word.Key (sym key.1))
