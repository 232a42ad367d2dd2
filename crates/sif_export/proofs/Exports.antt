-- Tokens that words come to, and what they have in common with the tokens that a tree was read from.
use Rattle.std.proofs.Common.{◌≡◌, ◌+◌, ℕ, ℤ, pos, negsuc, suc, Bool, true, false, List, [], ◌∷◌, ◌++◌, refl, ap, sym, ◌∙◌, subst, append_assoc}
use Rattle.st_base.specs.TokenBytes.{is_operator_byte}
use Rattle.st_base.specs.Lexes.{is_identifier, is_run}
use Rattle.st_tree.specs.declared.tree.Literal.{Literal}
use Rattle.st_tree.specs.declared.tree.Literal.TheVariants as literal
use Rattle.st_tree.specs.Symbols.{Sym, Id, Key, Op, Minus, Bar, Num, Lit, ArrayOpen, ParenOpen, ParenClose, BlockOpen, BlockClose, Colon, Assign, Caret, Period, Semicolon, operator_at}
use Rattle.sif_export.specs.Words as word
use Rattle.sif_export.specs.Words.{Word, Mark, Sign}
use Rattle.sif_export.specs.declared.sign.Sign.TheVariants as sign
use Rattle.sif_export.specs.TreeWords.{Words}
use Rattle.sif_export.proofs.Lexing.{IsKey, IsWell, AreWell}

-- ---- the tokens of words

abbrev pub sign_sym : Sign → ℕ → Sym
sign_sym sign.ParenOpen at = ParenOpen
sign_sym sign.ParenClose at = ParenClose
sign_sym sign.ArrayOpen at = ArrayOpen
sign_sym sign.BlockOpen at = BlockOpen at
sign_sym sign.BlockClose at = BlockClose
sign_sym sign.Assign at = Assign
sign_sym sign.Caret at = Caret
sign_sym sign.Period at = Period
sign_sym sign.PeriodLine at = Period
sign_sym sign.Semicolon at = Semicolon
sign_sym sign.Bar at = Bar at
sign_sym sign.BarLine at = Bar at

abbrev pub number_syms : ℤ → ℕ → List Sym
number_syms (pos n) at = Num n at ∷ []
number_syms (negsuc n) at = Minus at ∷ Num (suc n) (at + 1) ∷ []

abbrev pub syms_of : Word → ℕ → List Sym
syms_of (Mark s) at = sign_sym s at ∷ []
syms_of (word.Named t) at = Id t at ∷ []
syms_of (word.Key t) at = Key t at ∷ []
syms_of (word.Operator t) at = operator_at t at ∷ []
syms_of (word.Parameter t) at = Colon ∷ Id t (at + 1) ∷ []
syms_of (word.Number z) at = number_syms z at
syms_of (word.Char c) at = Lit (literal.Character c) ∷ []
syms_of (word.Str t) at = Lit (literal.Str t) ∷ []
syms_of (word.Symbol t) at = Lit (literal.Symbol t) ∷ []
syms_of (word.Remark t) at = []

-- the tokens of the first list up to the second are those of the words, at some places
pub data Toks : Words → List Sym → List Sym → Type 0 where
  no_words : {r : List Sym} → Toks [] r r
  next_word : {w : Word} {ws : Words} (at : ℕ) {ss r : List Sym} → Toks ws ss r → Toks (w ∷ ws) (syms_of w at ++ ss) r

-- those of one word
pub data Is (w : Word) : List Sym → List Sym → Type 0 where
  placed : (at : ℕ) {r : List Sym} → Is w (syms_of w at ++ r) r

-- one part, and then another
pub data Then (P Q : List Sym → List Sym → Type 0) : List Sym → List Sym → Type 0 where
  then_is : {ss mid r : List Sym} → P ss mid → Q mid r → Then P Q ss r

-- nothing
pub data Nothing : List Sym → List Sym → Type 0 where
  nothing : {r : List Sym} → Nothing r r

is_word : (w : Word) (ss r : List Sym) → Toks (w ∷ []) ss r → Is w ss r
is_word w ss r (next_word at no_words) = placed at

is_nothing : (ss r : List Sym) → Toks [] ss r → Nothing ss r
is_nothing ss r no_words = nothing

split : (a b : Words) (ss r : List Sym) → Toks (a ++ b) ss r → Then (Toks a) (Toks b) ss r
split [] b ss r k = then_is no_words k
split (w ∷ ws) b ss r (next_word at {ss = rest} k) = more w ws b at rest r (split ws b rest r k)
  where
    more : (w : Word) (ws b : Words) (at : ℕ) (rest r : List Sym) → Then (Toks ws) (Toks b) rest r → Then (Toks (w ∷ ws)) (Toks b) (syms_of w at ++ rest) r
    more w ws b at rest r (then_is x y) = then_is (next_word at x) y

both : {P Q : List Sym → List Sym → Type 0} (a b : Words) → ((ss r : List Sym) → Toks a ss r → P ss r) → ((ss r : List Sym) → Toks b ss r → Q ss r) → (ss r : List Sym) → Toks (a ++ b) ss r → Then P Q ss r
both {P = P} {Q = Q} a b f g ss r k = go f g ss r (split a b ss r k)
  where
    go : {P Q : List Sym → List Sym → Type 0} {a b : Words} → ((ss r : List Sym) → Toks a ss r → P ss r) → ((ss r : List Sym) → Toks b ss r → Q ss r) → (ss r : List Sym) → Then (Toks a) (Toks b) ss r → Then P Q ss r
    go f g ss r (then_is {mid = mid} x y) = then_is (f ss mid x) (g mid r y)

-- ---- what a text's tokens are like

-- a character, a string or a symbol
pub data IsPlain : Literal → Type 0 where
  a_character : {c : ℕ} → IsPlain (literal.Character c)
  a_string : {t : List ℕ} → IsPlain (literal.Str t)
  a_symbol : {t : List ℕ} → IsPlain (literal.Symbol t)

-- a token's text is of its kind's form
abbrev pub Formed : Sym → Type 0
Formed (Id t at) = is_identifier t ≡ true
Formed (Key t at) = IsKey t
Formed (Op t at) = is_run is_operator_byte t ≡ true
Formed (Lit l) = IsPlain l
Formed s = Unit {0}

abbrev pub AllFormed : List Sym → Type 0
AllFormed [] = Unit {0}
AllFormed (s ∷ a) = Formed s × AllFormed a

-- what opens (true) or closes (false)
abbrev pub move : Sym → List Bool
move ArrayOpen = true ∷ []
move ParenOpen = true ∷ []
move (BlockOpen at) = true ∷ []
move ParenClose = false ∷ []
move BlockClose = false ∷ []
move s = []

abbrev pub moves : List Sym → List Bool
moves [] = []
moves (s ∷ a) = move s ++ moves a

abbrev pub sign_move : Sign → List Bool
sign_move sign.ParenOpen = true ∷ []
sign_move sign.ArrayOpen = true ∷ []
sign_move sign.BlockOpen = true ∷ []
sign_move sign.ParenClose = false ∷ []
sign_move sign.BlockClose = false ∷ []
sign_move s = []

abbrev pub word_move : Word → List Bool
word_move (Mark s) = sign_move s
word_move w = []

abbrev pub word_moves : Words → List Bool
word_moves [] = []
word_moves (w ∷ ws) = word_move w ++ word_moves ws

word_moves-append : (a b : Words) → word_moves (a ++ b) ≡ word_moves a ++ word_moves b
word_moves-append [] b = refl
word_moves-append (w ∷ ws) b = ap (λ (ms : List Bool). word_move w ++ ms) (word_moves-append ws b) ∙ sym (append_assoc (word_move w) (word_moves ws) (word_moves b))

AreWell-append : (a b : Words) → AreWell a → AreWell b → AreWell (a ++ b)
AreWell-append [] b x y = y
AreWell-append (w ∷ ws) b x y = (x.0, AreWell-append ws b x.1 y)

-- ---- a part of a tree that was read from tokens, and its words

-- The words of what was read from the tokens of the first list up to the second: they are of their kinds' forms, open
-- and close what the tokens do, and their own tokens are such a part again.
pub record Export (a b : List Sym) (ws : Words) (P : List Sym → List Sym → Type 0) : Type 0 where
  pub rest : AllFormed b
  pub well : AreWell ws
  pub moved : moves a ≡ word_moves ws ++ moves b
  pub out : (ss r : List Sym) → Toks ws ss r → P ss r

pub exports_word : (w : Word) {a b : List Sym} → AllFormed b → IsWell w → moves a ≡ word_moves (w ∷ []) ++ moves b → Export a b (w ∷ []) (Is w)
exports_word w rest well moved = record { rest = rest; well = (well, tt); moved = moved; out = λ ss r k. is_word w ss r k }

pub exports_nothing : {a b : List Sym} → AllFormed b → moves a ≡ moves b → Export a b [] Nothing
exports_nothing rest moved = record { rest = rest; well = tt; moved = moved; out = λ ss r k. is_nothing ss r k }

pub exports_then : {a b c : List Sym} {ws vs : Words} {P Q : List Sym → List Sym → Type 0} → Export a b ws P → Export b c vs Q → Export a c (ws ++ vs) (Then P Q)
exports_then {b = b} {c = c} {ws = ws} {vs = vs} x y = record {
  rest = y.rest;
  well = AreWell-append ws vs x.well y.well;
  moved = x.moved ∙ ap (λ (ms : List Bool). word_moves ws ++ ms) y.moved ∙ sym (append_assoc (word_moves ws) (word_moves vs) (moves c)) ∙ ap (λ (ms : List Bool). ms ++ moves c) (sym (word_moves-append ws vs));
  out = both ws vs x.out y.out;
}

pub exports_map : {a b : List Sym} {ws : Words} {P Q : List Sym → List Sym → Type 0} → ((ss r : List Sym) → P ss r → Q ss r) → Export a b ws P → Export a b ws Q
exports_map f x = record { rest = x.rest; well = x.well; moved = x.moved; out = λ ss r k. f ss r (x.out ss r k) }

pub exports_as : {a b : List Sym} {ws vs : Words} {P : List Sym → List Sym → Type 0} → vs ≡ ws → Export a b ws P → Export a b vs P
exports_as {a = a} {b = b} {P = P} same x = subst (λ (us : Words). Export a b us P) (sym same) x

-- tokens that open and close the same, and leave the same
pub exports_from : {a c b : List Sym} {ws : Words} {P : List Sym → List Sym → Type 0} → moves c ≡ moves a → Export a b ws P → Export c b ws P
exports_from same x = record { rest = x.rest; well = x.well; moved = same ∙ x.moved; out = x.out }

-- up to further tokens that open and close nothing
pub exports_until : {a b c : List Sym} {ws : Words} {P : List Sym → List Sym → Type 0} → AllFormed c → moves b ≡ moves c → Export a b ws P → Export a c ws P
exports_until {ws = ws} rest same x = record { rest = rest; well = x.well; moved = x.moved ∙ ap (λ (ms : List Bool). word_moves ws ++ ms) same; out = x.out }

-- up to a period, and behind it
pub exports_upto : {a b : List Sym} {ws : Words} {P : List Sym → List Sym → Type 0} → Export a (Period ∷ b) ws P → Export a b ws P
exports_upto x = exports_until x.rest.1 refl x
