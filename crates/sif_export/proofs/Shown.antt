-- Tokens as they are seen, of bytes that stand behind others in a text.
use Rattle.std.proofs.Common.{◌≡◌, ◌+◌, ◌-◌, ◌<◌, ℕ, suc, true, List, [], ◌∷◌, ◌++◌, take, drop, length, map, None, refl, ap, sym, ◌∙◌, arith, append_assoc, length-append}
use Rattle.std.specs.Prelude.{nat_lt}
use Rattle.std.specs.List.{list_all, prefix_len}
use Rattle.std.proofs.lemmas.List.{drop_at}
use Rattle.std.proofs.Math.Seq.{take-append_seam}
use Rattle.st_base.specs.declared.tokens.Token.{Token}
use Rattle.st_base.specs.declared.tokens.TokenKind.{TokenKind}
use Rattle.st_base.specs.TokenBytes.{is_white_byte}
use Rattle.st_base.specs.Lexed.{Lexeme, Gap, lexed_at, front_of, comment_front, comment_len}
use Rattle.st_lexer.proofs.Runs.{prefix_len-whole}
use Rattle.st_lexer.proofs.Sound.{is_inner}
use Rattle.st_lexer.proofs.Cover.{front_at}
use Rattle.st_lexer.proofs.LexesLaw.{at_gap}
use Rattle.st_lexer.proofs.Spelled.{lexed_at-token, lexed_at-white}
use Rattle.st_tree.specs.Symbols.{Sym, text_of, sym_at, sym_of, syms}

-- a token: its kind, its bytes, and the byte where it begins
pub record Seen : Type 0 where
  pub kind : TokenKind
  pub text : List ℕ
  pub at : ℕ

abbrev pub seen : List ℕ → Token → Seen
seen source t = record { kind = t.kind; text = text_of source t; at = t.start }

-- the bytes behind others have these tokens, and no fault
pub record Shows (front bytes : List ℕ) (tokens : List Seen) : Type 0 where
  pub whole : (lexed_at 0 (length front) bytes).fault ≡ None
  pub as_seen : map (seen (front ++ bytes)) (lexed_at 0 (length front) bytes).tokens ≡ tokens

pub shows_end : (front : List ℕ) → Shows front [] []
shows_end front = record { whole = refl; as_seen = refl }

-- bytes in their place
pub text_seam : (front t b : List ℕ) → take (length front + length t - length front) (drop (length front) (front ++ (t ++ b))) ≡ t
text_seam front t b =
    let size : length front + length t - length front ≡ length t = omega arith in
    ap (take (length front + length t - length front)) (drop_at front (t ++ b) (length front) refl) ∙ ap (λ n. take n (t ++ b)) size ∙ take-append_seam t b

-- one token, and then those of what follows
pub shows_token : (k : TokenKind) (t front b : List ℕ) (ps : List Seen) → 0 < length t → front_at (t ++ b) ≡ Lexeme k (length t) → Shows (front ++ t) b ps → Shows front (t ++ b) (record { kind = k; text = t; at = length front } ∷ ps)
shows_token k t front b ps some is rest =
    let at : length (front ++ t) ≡ length front + length t = length-append front t in
    let step = lexed_at-token k t b (length front) some is in
    record {
      whole = ap (λ l. l.fault) step ∙ ap (λ n. (lexed_at 0 n b).fault) (sym at) ∙ rest.whole;
      as_seen =
          ap (λ l. map (seen (front ++ (t ++ b))) l.tokens) step
          ∙ ap (λ n. seen (front ++ (t ++ b)) (record { kind = k; start = length front; end = length front + length t }) ∷ map (seen (front ++ (t ++ b))) (lexed_at 0 n b).tokens) (sym at)
          ∙ ap (λ xs. seen (front ++ (t ++ b)) (record { kind = k; start = length front; end = length front + length t }) ∷ map (seen xs) (lexed_at 0 (length (front ++ t)) b).tokens) (sym (append_assoc front t b))
          ∙ ap (λ xs. record { kind = k; text = xs; at = length front } ∷ map (seen ((front ++ t) ++ b)) (lexed_at 0 (length (front ++ t)) b).tokens) (text_seam front t b)
          ∙ ap (λ xs. record { kind = k; text = t; at = length front } ∷ xs) rest.as_seen;
    }

-- bytes without a token, and then what follows
shows_gap : (t front b : List ℕ) (ps : List Seen) → lexed_at 0 (length front) (t ++ b) ≡ lexed_at 0 (length front + length t) b → Shows (front ++ t) b ps → Shows front (t ++ b) ps
shows_gap t front b ps step rest =
    let at : length (front ++ t) ≡ length front + length t = length-append front t in
    record {
      whole = ap (λ l. l.fault) step ∙ ap (λ n. (lexed_at 0 n b).fault) (sym at) ∙ rest.whole;
      as_seen =
          ap (λ l. map (seen (front ++ (t ++ b))) l.tokens) step ∙ ap (λ n. map (seen (front ++ (t ++ b))) (lexed_at 0 n b).tokens) (sym at)
          ∙ ap (λ xs. map (seen xs) (lexed_at 0 (length (front ++ t)) b).tokens) (sym (append_assoc front t b)) ∙ rest.as_seen;
    }

pub shows_white : (c : ℕ) (front b : List ℕ) (ps : List Seen) → is_white_byte c ≡ true → Shows (front ++ c ∷ []) b ps → Shows front (c ∷ b) ps
shows_white c front b ps is rest = shows_gap (c ∷ []) front b ps (lexed_at-white c b (length front) is) rest

-- ---- comments

front-double : (bs : List ℕ) → front_of 34 bs ≡ comment_front (comment_len bs)
unfolding front_of
front-double bs = refl

is_below : (a b : ℕ) → a < b → nat_lt a b ≡ true
is_below a b low = grind (arith, low)

comment-front : (inner after : List ℕ) → list_all is_inner inner ≡ true → front_of 34 (inner ++ 34 ∷ after) ≡ Gap (length inner + 2)
comment-front inner after all =
    let whole : prefix_len is_inner (inner ++ 34 ∷ after) ≡ length inner = prefix_len-whole is_inner inner (34 ∷ after) all refl in
    let long : length (inner ++ 34 ∷ after) ≡ length inner + suc (length after) = length-append inner (34 ∷ after) in
    let low : nat_lt (prefix_len is_inner (inner ++ 34 ∷ after)) (length (inner ++ 34 ∷ after)) ≡ true = is_below _ _ (omega arith) in
    let sum : length inner + 1 + 1 ≡ length inner + 2 = omega arith in
    front-double (inner ++ 34 ∷ after) ∙ rw (low, whole) (ap Gap sum)

pub shows_comment : (inner front b : List ℕ) (ps : List Seen) → list_all is_inner inner ≡ true → Shows (front ++ (34 ∷ inner ++ 34 ∷ [])) b ps → Shows front ((34 ∷ inner ++ 34 ∷ []) ++ b) ps
shows_comment inner front b ps all rest =
    let t : List ℕ = 34 ∷ inner ++ 34 ∷ [] in
    let size : length t ≡ length inner + 2 = omega (arith, length-append inner (34 ∷ [])) in
    let some : 0 < length (t ++ b) = omega (arith, length-append t b) in
    let is : front_at (t ++ b) ≡ Gap (length t) = ap (λ (xs : List ℕ). front_at (34 ∷ xs)) (append_assoc inner (34 ∷ []) b) ∙ comment-front inner b all ∙ ap Gap (sym size) in
    shows_gap t front b ps (at_gap (t ++ b) (length front) (length t) some is ∙ ap (lexed_at 0 (length front + length t)) (drop_at t b (length t) refl)) rest

-- ---- symbols

abbrev pub sym_seen : Seen → Sym
sym_seen s = sym_at s.kind s.text s.at

pub syms_seen : (source : List ℕ) (ts : List Token) → syms source ts ≡ map sym_seen (map (seen source) ts)
syms_seen source [] = refl
syms_seen source (t ∷ ts) = ap (λ xs. sym_of source t ∷ xs) (syms_seen source ts)
