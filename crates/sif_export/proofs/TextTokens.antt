-- The tokens of texts: of any text, each is of its kind's form; those of words are theirs.
use Rattle.std.proofs.Common.{◌≡◌, ◌+◌, ◌-◌, ℕ, ℤ, pos, negsuc, Bool, true, false, if◌then◌else◌, List, [], ◌∷◌, ◌++◌, take, drop, length, map, codes, Option, refl, ap, sym, ◌∙◌, subst, arith, append_assoc, length-append, inl, inr}
use Rattle.std.specs.Str.{bytes_eq}
use Rattle.std.proofs.lemmas.Bool.Decides.{eqb_tells}
use Rattle.std.proofs.lemmas.List.{map-append}
use Rattle.std.proofs.Math.Seq.{take-append_seam}
use Rattle.st_base.specs.declared.tokens.Token.{Token}
use Rattle.st_base.specs.declared.tokens.TokenKind.{TokenKind}
use Rattle.st_base.specs.declared.tokens.TokenKind.TheVariants as kind
use Rattle.st_base.specs.declared.tokens.LexFault.{LexFault}
use Rattle.st_base.specs.TokenBytes.{is_operator_byte}
use Rattle.st_base.specs.Lexed.{lexed_of}
use Rattle.st_base.specs.Lexes.{HasForm, LexesFrom, ended, white, comment, token, spoiled, is_run}
use Rattle.st_lexer.proofs.LexesLaw.{lexes-from}
use Rattle.st_tree.specs.Symbols.{Sym, Op, Minus, Bar, TwoBars, ThreeBars, Lit, sym_at, sym_of, syms, operator_at, unquoted, string_value}
use Rattle.st_tree.specs.declared.tree.Literal.TheVariants as literal
use Rattle.sif_export.specs.Words as word
use Rattle.sif_export.specs.Words.{Word, Mark, Sign, quotes_doubled, quoted, is_bare_symbol}
use Rattle.sif_export.specs.declared.sign.Sign.TheVariants as sign
use Rattle.sif_export.specs.TreeWords.{Words}
use Rattle.sif_export.proofs.Opened.{moves-append}
use Rattle.sif_export.proofs.Shown.{text_seam, Seen, sym_seen}
use Rattle.sif_export.proofs.Lexing.{tokens_of, number_tokens, symbol_token, Tokens, kind_of_sign}
use Rattle.sif_export.proofs.Lexing as lexing
use Rattle.sif_export.proofs.Exports.{syms_of, number_syms, sign_sym, Toks, no_words, next_word, Formed, AllFormed, a_character, a_string, a_symbol, moves, word_move, word_moves}

-- ---- the tokens of any text

operator_formed : (t : List ℕ) (at : ℕ) → is_run is_operator_byte t ≡ true → Formed (operator_at t at)
operator_formed t at is = of (bytes_eq t (codes "-")) (bytes_eq t (codes "|")) (bytes_eq t (codes "||")) (bytes_eq t (codes "|||"))
  where
    of : (a b c d : Bool) → Formed (if a then Minus at else (if b then Bar at else (if c then TwoBars at else (if d then ThreeBars at else Op t at))))
    of true b c d = tt
    of false true c d = tt
    of false false true d = tt
    of false false false true = tt
    of false false false false = is

formed : (k : TokenKind) (t after : List ℕ) (at : ℕ) → HasForm k t after → Formed (sym_at k t at)
formed kind.Identifier t after at f = f
formed kind.Keyword t after at f = (f.0, f.1, f.2)
formed kind.Operator t after at f = operator_formed t at f.0
formed (kind.Integer n) t after at f = tt
formed kind.Character t after at f = a_character
formed kind.Str t after at f = a_string
formed kind.Symbol t after at f = a_symbol
formed kind.QuotedSymbol t after at f = a_symbol
formed kind.ArrayOpen t after at f = tt
formed kind.ParenOpen t after at f = tt
formed kind.ParenClose t after at f = tt
formed kind.BlockOpen t after at f = tt
formed kind.BlockClose t after at f = tt
formed kind.Colon t after at f = tt
formed kind.Assign t after at f = tt
formed kind.Caret t after at f = tt
formed kind.Period t after at f = tt
formed kind.Semicolon t after at f = tt

all_formed : {at : ℕ} {bytes : List ℕ} {tokens : List Token} {fault : Option LexFault} → LexesFrom at bytes tokens fault → (source front : List ℕ) → source ≡ front ++ bytes → length front ≡ at → AllFormed (map (sym_of source) tokens)
all_formed ended source front e len = tt
all_formed (white {c = c} {cs = cs} w rest) source front e len = all_formed rest source (front ++ c ∷ []) (e ∙ sym (append_assoc front (c ∷ []) cs)) (length-append front (c ∷ []) ∙ ap (λ n. n + 1) len)
all_formed (comment inner after {at = at} {bytes = bytes} b all rest) source front e len =
    let t : List ℕ = 34 ∷ inner ++ 34 ∷ [] in
    let whole : front ++ bytes ≡ (front ++ t) ++ after = ap (λ (xs : List ℕ). front ++ xs) (b ∙ ap (λ (xs : List ℕ). 34 ∷ xs) (sym (append_assoc inner (34 ∷ []) after))) ∙ sym (append_assoc front t after) in
    all_formed rest source (front ++ t) (e ∙ whole) (omega (arith, length-append front t, length-append inner (34 ∷ []), len))
all_formed (token k t after {at = at} {bytes = bytes} b is rest) source front e len =
    let whole : source ≡ front ++ (t ++ after) = e ∙ ap (λ (xs : List ℕ). front ++ xs) b in
    let text : take (at + length t - at) (drop at source) ≡ t = ap (λ n. take (n + length t - n) (drop n source)) (sym len) ∙ ap (λ (xs : List ℕ). take (length front + length t - length front) (drop (length front) xs)) whole ∙ text_seam front t after in (
      subst (λ (xs : List ℕ). Formed (sym_at k xs at)) (sym text) (formed k t after at is.form),
      all_formed rest source (front ++ t) (whole ∙ sym (append_assoc front t after)) (length-append front t ∙ ap (λ n. n + length t) len),
    )
all_formed (spoiled s) source front e len = tt

-- each token of a text is of its kind's form
pub text_formed : (text : List ℕ) → AllFormed (syms text (lexed_of text).tokens)
unfolding lexed_of
text_formed text = all_formed (lexes-from 0 text) text [] refl refl

-- ---- the tokens of words

unquoted-quotes : (t rest : List ℕ) → unquoted false (quotes_doubled t) ≡ t
unquoted-quotes [] rest = refl
unquoted-quotes (c ∷ cs) rest = elim (eqb_tells c 39) [
  | inl same ↦ rw (same.0) (ap (λ (xs : List ℕ). 39 ∷ xs) (unquoted-quotes cs rest) ∙ ap (λ b. b ∷ cs) (sym same.1))
  | inr other ↦ rw (other.0) (rw (other.0) (ap (λ (xs : List ℕ). c ∷ xs) (unquoted-quotes cs rest)))
]

pub string_value-quoted : (t : List ℕ) → string_value (quoted t) ≡ t
unfolding string_value
string_value-quoted t =
    let size : length (quoted t) - 2 ≡ length (quotes_doubled t) = omega (arith, length-append (quotes_doubled t) (39 ∷ [])) in
    ap (λ n. unquoted false (take n (quotes_doubled t ++ 39 ∷ []))) size ∙ ap (unquoted false) (take-append_seam (quotes_doubled t) (39 ∷ [])) ∙ unquoted-quotes t []

sign_syms : (s : Sign) (at : ℕ) → map sym_seen (tokens_of (Mark s) at) ≡ syms_of (Mark s) at
sign_syms sign.ParenOpen at = refl
sign_syms sign.ParenClose at = refl
sign_syms sign.ArrayOpen at = refl
sign_syms sign.BlockOpen at = refl
sign_syms sign.BlockClose at = refl
sign_syms sign.Assign at = refl
sign_syms sign.Caret at = refl
sign_syms sign.Period at = refl
sign_syms sign.PeriodLine at = refl
sign_syms sign.Semicolon at = refl
sign_syms sign.Bar at = refl
sign_syms sign.BarLine at = refl

number_syms_are : (z : ℤ) (at : ℕ) → map sym_seen (number_tokens z at) ≡ number_syms z at
number_syms_are (pos n) at = refl
number_syms_are (negsuc n) at = refl

symbol_sym : (x : Bool) (t : List ℕ) (at : ℕ) → sym_seen (symbol_token x t at) ≡ Lit (literal.Symbol t)
symbol_sym true t at = refl
symbol_sym false t at = ap (λ (u : List ℕ). Lit (literal.Symbol u)) (string_value-quoted t)

word_syms : (w : Word) (at : ℕ) → map sym_seen (tokens_of w at) ≡ syms_of w at
word_syms (Mark s) at = sign_syms s at
word_syms (word.Named t) at = refl
word_syms (word.Key t) at = refl
word_syms (word.Operator t) at = refl
word_syms (word.Parameter t) at = refl
word_syms (word.Number z) at = number_syms_are z at
word_syms (word.Char c) at = refl
word_syms (word.Str t) at = ap (λ (u : List ℕ). Lit (literal.Str u) ∷ []) (string_value-quoted t)
word_syms (word.Symbol t) at = ap (λ s. s ∷ []) (symbol_sym (is_bare_symbol t) t at)
word_syms (word.Remark t) at = refl

-- the symbols of words' tokens
pub toks_of : {ws : Words} {ps qs : List Seen} → Tokens ws ps qs → Toks ws (map sym_seen ps) (map sym_seen qs)
toks_of lexing.no_words = no_words
toks_of (lexing.next_word {w = w} {ws = ws} {ps = ps} {qs = qs} at k) =
    subst (λ (ss : List Sym). Toks (w ∷ ws) ss (map sym_seen qs)) (ap (λ (xs : List Sym). xs ++ map sym_seen ps) (sym (word_syms w at)) ∙ sym (map-append sym_seen (tokens_of w at) ps)) (next_word at (toks_of k))

sign_moves : (s : Sign) (at : ℕ) → moves (sign_sym s at ∷ []) ≡ word_move (Mark s)
sign_moves sign.ParenOpen at = refl
sign_moves sign.ParenClose at = refl
sign_moves sign.ArrayOpen at = refl
sign_moves sign.BlockOpen at = refl
sign_moves sign.BlockClose at = refl
sign_moves sign.Assign at = refl
sign_moves sign.Caret at = refl
sign_moves sign.Period at = refl
sign_moves sign.PeriodLine at = refl
sign_moves sign.Semicolon at = refl
sign_moves sign.Bar at = refl
sign_moves sign.BarLine at = refl

operator_moves : (t : List ℕ) (at : ℕ) → moves (operator_at t at ∷ []) ≡ []
operator_moves t at = of (bytes_eq t (codes "-")) (bytes_eq t (codes "|")) (bytes_eq t (codes "||")) (bytes_eq t (codes "|||"))
  where
    of : (a b c d : Bool) → moves ((if a then Minus at else (if b then Bar at else (if c then TwoBars at else (if d then ThreeBars at else Op t at)))) ∷ []) ≡ []
    of true b c d = refl
    of false true c d = refl
    of false false true d = refl
    of false false false true = refl
    of false false false false = refl

number_moves : (z : ℤ) (at : ℕ) → moves (number_syms z at) ≡ []
number_moves (pos n) at = refl
number_moves (negsuc n) at = refl

syms_moves : (w : Word) (at : ℕ) → moves (syms_of w at) ≡ word_move w
syms_moves (Mark s) at = sign_moves s at
syms_moves (word.Named t) at = refl
syms_moves (word.Key t) at = refl
syms_moves (word.Operator t) at = operator_moves t at
syms_moves (word.Parameter t) at = refl
syms_moves (word.Number z) at = number_moves z at
syms_moves (word.Char c) at = refl
syms_moves (word.Str t) at = refl
syms_moves (word.Symbol t) at = refl
syms_moves (word.Remark t) at = refl

-- the tokens of words open and close what these do
pub toks_moves : {ws : Words} {ss r : List Sym} → Toks ws ss r → moves ss ≡ word_moves ws ++ moves r
toks_moves no_words = refl
toks_moves (next_word {w = w} {ws = ws} at {ss = ss} {r = r} k) =
    moves-append (syms_of w at) ss ∙ ap (λ ms. ms ++ moves ss) (syms_moves w at) ∙ ap (λ ms. word_move w ++ ms) (toks_moves k) ∙ sym (append_assoc (word_move w) (word_moves ws) (moves r))
