-- The tokens of a text, one after another.
use Rattle.std.proofs.Common.{◌≡◌, ◌+◌, ◌-◌, ◌<◌, ◌≤◌, ℕ, zero, suc, List, [], ◌∷◌, ◌++◌, drop, length, None, Some, refl, ap, sym, subst, ◌∙◌, arith, get_or, append_assoc, All, take}
use Rattle.std.proofs.lemmas.List.{drop_all, drop-drop, append-nil, take_rest, length-drop}
use Rattle.st_base.specs.declared.tokens.Token.{Token}
use Rattle.st_base.specs.declared.tokens.TokenKind.{TokenKind}
use Rattle.st_base.specs.declared.faults.Reason.{Reason}
use Rattle.st_base.specs.Lexed.{Front, Lexeme, Gap, Spoiled, front_of, LexedText, lexed_at, lexed_of, Fits}
use Rattle.st_lexer.proofs.Fronts.{FrontFits, front_fits}

-- these tokens stand before the others
abbrev pub behind_tokens : List Token → LexedText → LexedText
behind_tokens tokens behind = record { tokens = tokens ++ behind.tokens; fault = behind.fault }

-- bytes that belong to what stands before them
pub lexed_at-skip : (n at : ℕ) (bytes : List ℕ) → n ≤ length bytes → lexed_at n at bytes ≡ lexed_at 0 (at + n) (drop n bytes)
lexed_at-skip zero at bytes low = let e : at + 0 ≡ at = omega arith in rw e refl
lexed_at-skip (suc n) at [] low = absurd (omega arith)
lexed_at-skip (suc n) at (b ∷ bs) low =
    let e : at + 1 + n ≡ at + suc n = omega arith in
    rw (← e) (lexed_at-skip n (at + 1) bs (omega arith))

-- what comes behind the first n bytes
after : (b : ℕ) (bs : List ℕ) (at n : ℕ) → 0 < n → n ≤ length (b ∷ bs) → lexed_at (n - 1) (at + 1) bs ≡ lexed_at 0 (at + n) (drop n (b ∷ bs))
after b bs at zero some low = absurd (omega arith)
after b bs at (suc n) some low =
    let e : suc n - 1 ≡ n = omega arith in
    let f : at + 1 + n ≡ at + suc n = omega arith in
    rw (e, ← f) (lexed_at-skip n (at + 1) bs (omega arith))

pub lexed_at-lexeme : (bytes : List ℕ) (at n : ℕ) (kind : TokenKind) → 0 < length bytes → Lexeme kind n ≡ front_of (get_or bytes 0 0) (drop 1 bytes) → 0 < n → n ≤ length bytes → lexed_at 0 at bytes ≡ behind_tokens (record { kind = kind; start = at; end = at + n } ∷ []) (lexed_at 0 (at + n) (drop n bytes))
lexed_at-lexeme [] at n kind has is some low = absurd (omega arith)
lexed_at-lexeme (b ∷ bs) at n kind has is some low = rw (← is) (ap (behind_tokens (record { kind = kind; start = at; end = at + n } ∷ [])) (after b bs at n some low))

pub lexed_at-gap : (bytes : List ℕ) (at n : ℕ) → 0 < length bytes → Gap n ≡ front_of (get_or bytes 0 0) (drop 1 bytes) → 0 < n → n ≤ length bytes → lexed_at 0 at bytes ≡ lexed_at 0 (at + n) (drop n bytes)
lexed_at-gap [] at n has is some low = absurd (omega arith)
lexed_at-gap (b ∷ bs) at n has is some low = rw (← is) (after b bs at n some low)

pub lexed_at-spoiled : (bytes : List ℕ) (at n : ℕ) (reason : Reason) → 0 < length bytes → Spoiled reason n ≡ front_of (get_or bytes 0 0) (drop 1 bytes) → lexed_at 0 at bytes ≡ record { tokens = []; fault = Some (record { byte = at + n; reason = reason }) }
lexed_at-spoiled [] at n reason has is = absurd (omega arith)
lexed_at-spoiled (b ∷ bs) at n reason has is = rw (← is) refl

pub behind-behind : (a b : List Token) (l : LexedText) → behind_tokens a (behind_tokens b l) ≡ behind_tokens (a ++ b) l
behind-behind a b l = simp append_assoc

-- what stands at the front of some bytes fits into them
pub fits_here : (bytes : List ℕ) (f : Front) → 0 < length bytes → f ≡ front_of (get_or bytes 0 0) (drop 1 bytes) → FrontFits (length bytes) f
fits_here [] f has is = absurd (omega arith)
fits_here (b ∷ bs) f has is = subst (FrontFits (length (b ∷ bs))) (sym is) (front_fits b bs)

-- the same at a place of the text, whose slice the code writes as the clause's list
pub fits_there : (text rest : List ℕ) (at : ℕ) (f : Front) → rest ≡ take (length text - at) (drop at text) → at < length text → f ≡ front_of (get_or rest 0 0) (drop 1 rest) → FrontFits (length text - at) f
fits_there text rest at f e low is =
    let here : rest ≡ drop at text = e ∙ take_rest text at in
    let has : 0 < length (drop at text) = omega (arith, length-drop at text) in
    subst (λ n. FrontFits n f) (length-drop at text) (fits_here (drop at text) f has (rw here at is))

-- one step of a loop at a place of the text
pub lexeme_step : (text rest : List ℕ) (at n : ℕ) (kind : TokenKind) (tokens : List Token) → rest ≡ take (length text - at) (drop at text) → at < length text → lexed_of text ≡ behind_tokens tokens (lexed_at 0 at (drop at text)) → Lexeme kind n ≡ front_of (get_or rest 0 0) (drop 1 rest) → lexed_of text ≡ behind_tokens (tokens ++ record { kind = kind; start = at; end = at + n } ∷ []) (lexed_at 0 (at + n) (drop (at + n) text))
lexeme_step text rest at n kind tokens e low so_far is =
    let here : rest ≡ drop at text = e ∙ take_rest text at in
    let has : 0 < length (drop at text) = omega (arith, length-drop at text) in
    let fits = fits_here (drop at text) (Lexeme kind n) has (rw here at is) in
    so_far
    ∙ ap (behind_tokens tokens) (lexed_at-lexeme (drop at text) at n kind has (rw here at is) fits.0 fits.1 ∙ ap (λ (xs : List ℕ). behind_tokens (record { kind = kind; start = at; end = at + n } ∷ []) (lexed_at 0 (at + n) xs)) (drop-drop n at text))
    ∙ behind-behind tokens (record { kind = kind; start = at; end = at + n } ∷ []) (lexed_at 0 (at + n) (drop (at + n) text))

pub gap_step : (text rest : List ℕ) (at n : ℕ) (tokens : List Token) → rest ≡ take (length text - at) (drop at text) → at < length text → lexed_of text ≡ behind_tokens tokens (lexed_at 0 at (drop at text)) → Gap n ≡ front_of (get_or rest 0 0) (drop 1 rest) → lexed_of text ≡ behind_tokens tokens (lexed_at 0 (at + n) (drop (at + n) text))
gap_step text rest at n tokens e low so_far is =
    let here : rest ≡ drop at text = e ∙ take_rest text at in
    let has : 0 < length (drop at text) = omega (arith, length-drop at text) in
    let fits = fits_here (drop at text) (Gap n) has (rw here at is) in
    so_far
    ∙ ap (behind_tokens tokens) (lexed_at-gap (drop at text) at n has (rw here at is) fits.0 fits.1 ∙ ap (lexed_at 0 (at + n)) (drop-drop n at text))

pub spoiled_step : (text rest : List ℕ) (at n : ℕ) (reason : Reason) (tokens : List Token) → rest ≡ take (length text - at) (drop at text) → at < length text → lexed_of text ≡ behind_tokens tokens (lexed_at 0 at (drop at text)) → Spoiled reason n ≡ front_of (get_or rest 0 0) (drop 1 rest) → lexed_of text ≡ record { tokens = tokens; fault = Some (record { byte = at + n; reason = reason }) }
spoiled_step text rest at n reason tokens e low so_far is =
    let here : rest ≡ drop at text = e ∙ take_rest text at in
    let has : 0 < length (drop at text) = omega (arith, length-drop at text) in
    so_far ∙ ap (behind_tokens tokens) (lexed_at-spoiled (drop at text) at n reason has (rw here at is)) ∙ rw (append-nil tokens) refl

pub end_step : (text : List ℕ) (at : ℕ) (tokens : List Token) → length text ≤ at → lexed_of text ≡ behind_tokens tokens (lexed_at 0 at (drop at text)) → lexed_of text ≡ record { tokens = tokens; fault = None }
end_step text at tokens past so_far = so_far ∙ rw (drop_all at text past, append-nil tokens) refl

pub none_yet : (text : List ℕ) → All (Fits text) []
none_yet text k d low = absurd (omega arith)
