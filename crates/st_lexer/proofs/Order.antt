-- The tokens of a text stand in it in order, and its fault is at one of its bytes.
use Rattle.std.proofs.Common.{◌≡◌, ◌+◌, ◌<◌, ◌≤◌, ℕ, zero, suc, List, [], ◌∷◌, ◌++◌, length, Option, IfSome, All, ap, subst, arith, length-append}
use Rattle.st_base.specs.declared.tokens.Token.{Token}
use Rattle.st_base.specs.declared.tokens.TokenKind.{TokenKind}
use Rattle.st_base.specs.declared.tokens.LexFault.{LexFault}
use Rattle.st_base.specs.Lexed.{lexed_of, Fits, AreInOrder}
use Rattle.st_base.specs.Lexes.{IsToken, LexesFrom, ended, white, comment, token, spoiled}
use Rattle.st_lexer.proofs.Fronts.{FrontFits}
use Rattle.st_lexer.proofs.LexesLaw.{token-front, spoiled-front, spoiled_some, fits_at, some_of, lexes-from}

lower : (at from len : ℕ) (tokens : List Token) → at ≤ from → AreInOrder from len tokens → AreInOrder at len tokens
lower at from len [] low order = omega arith
lower at from len (t ∷ ts) low order = (omega (arith, order.0), order.1, order.2)

token_some : (k : TokenKind) (t after : List ℕ) → IsToken k t after → 0 < length t
token_some k t after is =
    let fits = subst (FrontFits (length (t ++ after))) (token-front k t after is) (fits_at (t ++ after) (some_of k t after is)) in
    fits.0

-- what stands in order from a place on
pub LexesFrom-order : {at : ℕ} {bytes : List ℕ} {tokens : List Token} {fault : Option LexFault} → LexesFrom at bytes tokens fault → (len : ℕ) → at + length bytes ≡ len → AreInOrder at len tokens
LexesFrom-order (ended {at = at}) len e = omega arith
LexesFrom-order (white {at = at} {c = c} {cs = cs} {tokens = tokens} is rest) len e = lower at (at + 1) len tokens (omega arith) (LexesFrom-order rest len (omega (arith, e)))
LexesFrom-order (comment inner after {at = at} {bytes = bytes} {tokens = tokens} e all rest) len whole =
    lower at (at + (length inner + 2)) len tokens (omega arith) (LexesFrom-order rest len (omega (arith, whole, ap length e, length-append inner (34 ∷ after))))
LexesFrom-order (token k t after {at = at} {bytes = bytes} e is rest) len whole =
    let some : 0 < length t = token_some k t after is in
    (omega arith, omega arith, LexesFrom-order rest len (omega (arith, whole, ap length e, length-append t after)))
LexesFrom-order (spoiled {at = at} {bytes = bytes} spoils) len e = omega arith

pub LexesFrom-fault : {at : ℕ} {bytes : List ℕ} {tokens : List Token} {fault : Option LexFault} → LexesFrom at bytes tokens fault → (len : ℕ) → at + length bytes ≡ len → IfSome fault (λ f. f.byte < len)
LexesFrom-fault ended len e = tt
LexesFrom-fault (white {at = at} is rest) len e = LexesFrom-fault rest len (omega (arith, e))
LexesFrom-fault (comment inner after e all rest) len whole = LexesFrom-fault rest len (omega (arith, whole, ap length e, length-append inner (34 ∷ after)))
LexesFrom-fault (token k t after e is rest) len whole = LexesFrom-fault rest len (omega (arith, whole, ap length e, length-append t after))
LexesFrom-fault (spoiled {at = at} {n = n} {bytes = bytes} spoils) len e =
    let front = spoiled-front spoils in
    let fits = subst (FrontFits (length bytes)) front (fits_at bytes (spoiled_some bytes front)) in
    omega (arith, e, fits)

ends_below : (at len : ℕ) (tokens : List Token) → AreInOrder at len tokens → at ≤ len
ends_below at len [] order = order
ends_below at len (t ∷ ts) order = let rest : t.end ≤ len = ends_below t.end len ts order.2 in omega (arith, order.0, order.1)

all_fit : (text : List ℕ) (at : ℕ) (tokens : List Token) → AreInOrder at (length text) tokens → All (Fits text) tokens
all_fit text at [] order k d low = absurd (omega arith)
all_fit text at (t ∷ ts) order zero d low = record { some = order.1; within = ends_below t.end (length text) ts order.2 }
all_fit text at (t ∷ ts) order (suc k) d low = all_fit text t.end ts order.2 k d (omega (arith, low))

pub lexed_of-order : (text : List ℕ) → AreInOrder 0 (length text) (lexed_of text).tokens
unfolding lexed_of
lexed_of-order text = LexesFrom-order (lexes-from 0 text) (length text) (omega arith)

pub lexed_of-fits : (text : List ℕ) → All (Fits text) (lexed_of text).tokens
lexed_of-fits text = all_fit text 0 (lexed_of text).tokens (lexed_of-order text)

pub lexed_of-fault : (text : List ℕ) → IfSome (lexed_of text).fault (λ f. f.byte < length text)
unfolding lexed_of
lexed_of-fault text = LexesFrom-fault (lexes-from 0 text) (length text) (omega arith)
