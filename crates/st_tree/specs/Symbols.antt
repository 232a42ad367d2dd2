-- Symbols: tokens as the grammar sees them, with what they say and the byte where they begin.
use Rattle.std.specs.Prelude.{ℕ, ◌-◌, Bool, true, false, ◌==◌, if◌then◌else◌, List, [], ◌∷◌, length, take, drop, map, slice_index, codes}
use Rattle.std.specs.Str.{bytes_eq}
use Rattle.st_base.specs.declared.tokens.Token.{Token}
use Rattle.st_base.specs.declared.tokens.TokenKind.{TokenKind}
use Rattle.st_base.specs.declared.tokens.TokenKind.TheVariants as kind
use Rattle.st_tree.specs.declared.tree.Literal.{Literal}
use Rattle.st_tree.specs.declared.tree.Literal.TheVariants as literal
use Rattle.st_tree.specs.declared.tree.Primary.{Primary}
use Rattle.st_tree.specs.declared.tree.Primary.TheVariants as primary

pub data Sym : Type 0 where
  -- an identifier, and a keyword with its colon
  Id : (text : List ℕ) → (at : ℕ) → Sym
  Key : (text : List ℕ) → (at : ℕ) → Sym
  -- operators: `-`, `|`, `||` and `|||` also have meanings of their own
  Op : (text : List ℕ) → (at : ℕ) → Sym
  Minus : (at : ℕ) → Sym
  Bar : (at : ℕ) → Sym
  TwoBars : (at : ℕ) → Sym
  ThreeBars : (at : ℕ) → Sym
  -- an integer without a sign
  Num : (value : ℕ) → (at : ℕ) → Sym
  -- a character, a string or a symbol
  Lit : Literal → Sym
  -- `#(` `(` `)` `[` `]` `:` `:=` `^` `.` `;`
  ArrayOpen : Sym
  ParenOpen : Sym
  ParenClose : Sym
  BlockOpen : (at : ℕ) → Sym
  BlockClose : Sym
  Colon : Sym
  Assign : Sym
  Caret : Sym
  Period : Sym
  Semicolon : Sym

-- the symbol is an operator with this text, at this byte
pub data IsOp : Sym → List ℕ → ℕ → Type 0 where
  op : {t : List ℕ} {at : ℕ} → IsOp (Op t at) t at
  minus : {at : ℕ} → IsOp (Minus at) (45 ∷ []) at
  bar : {at : ℕ} → IsOp (Bar at) (124 ∷ []) at
  two_bars : {at : ℕ} → IsOp (TwoBars at) (124 ∷ 124 ∷ []) at
  three_bars : {at : ℕ} → IsOp (ThreeBars at) (124 ∷ 124 ∷ 124 ∷ []) at

abbrev pub operator_at : List ℕ → ℕ → Sym
operator_at t at =
    if bytes_eq t (codes "-") then Minus at
    else (if bytes_eq t (codes "|") then Bar at
    else (if bytes_eq t (codes "||") then TwoBars at
    else (if bytes_eq t (codes "|||") then ThreeBars at else Op t at)))

-- The bytes that a string stands for: two quotes are one. The flag says that the byte before was a quote that was taken.
abbrev pub unquoted : Bool → List ℕ → List ℕ
unquoted skips [] = []
unquoted false (b ∷ bs) = b ∷ unquoted (b == 39) bs
unquoted true (b ∷ bs) = unquoted false bs

-- the same, of a string with its first and last quote
unfoldable pub string_value : List ℕ → List ℕ
string_value t = unquoted false (take (length t - 2) (drop 1 t))

-- a token of this kind with this text, at this byte
abbrev pub sym_at : TokenKind → List ℕ → ℕ → Sym
sym_at kind.Identifier text at = Id text at
sym_at kind.Keyword text at = Key text at
sym_at kind.Operator text at = operator_at text at
sym_at (kind.Integer n) text at = Num n at
sym_at kind.Character text at = Lit (literal.Character (slice_index text 1))
sym_at kind.Str text at = Lit (literal.Str (string_value text))
sym_at kind.Symbol text at = Lit (literal.Symbol (drop 1 text))
sym_at kind.QuotedSymbol text at = Lit (literal.Symbol (string_value (drop 1 text)))
sym_at kind.ArrayOpen text at = ArrayOpen
sym_at kind.ParenOpen text at = ParenOpen
sym_at kind.ParenClose text at = ParenClose
sym_at kind.BlockOpen text at = BlockOpen at
sym_at kind.BlockClose text at = BlockClose
sym_at kind.Colon text at = Colon
sym_at kind.Assign text at = Assign
sym_at kind.Caret text at = Caret
sym_at kind.Period text at = Period
sym_at kind.Semicolon text at = Semicolon

-- the bytes of a token
abbrev pub text_of : List ℕ → Token → List ℕ
text_of source t = take (t.end - t.start) (drop t.start source)

abbrev pub sym_of : List ℕ → Token → Sym
sym_of source t = sym_at t.kind (text_of source t) t.start

abbrev pub syms : List ℕ → List Token → List Sym
syms source tokens = map (sym_of source) tokens

-- what an identifier is where a primary stands: a name, a value, or `super`
pub data Role : Type 0 where
  IsName : Role
  IsValue : Primary → Role
  IsSuper : Role

unfoldable pub role : List ℕ → Role
role t =
    if bytes_eq t (codes "nil") then IsValue (primary.Literal literal.Nil)
    else (if bytes_eq t (codes "true") then IsValue (primary.Literal literal.True)
    else (if bytes_eq t (codes "false") then IsValue (primary.Literal literal.False)
    else (if bytes_eq t (codes "self") then IsValue primary.SelfValue
    else (if bytes_eq t (codes "super") then IsSuper else IsName))))

-- what an identifier is in an array: `nil`, `true`, `false`, or a symbol
unfoldable pub word_item : List ℕ → Literal
word_item t =
    if bytes_eq t (codes "nil") then literal.Nil
    else (if bytes_eq t (codes "true") then literal.True
    else (if bytes_eq t (codes "false") then literal.False else literal.Symbol t))
