-- What a scan takes a token for is what its symbol is.
use Rattle.std.proofs.Common.{◌≡◌, ℕ, ◌+◌, ◌^◌, ◌==◌, List, [], ◌∷◌, Bool, true, false, refl, ap, sym, ◌∙◌, if◌then◌else◌, codes}
use Rattle.std.specs.Prelude.{nat_lt, nat_le}
use Rattle.std.specs.Str.{bytes_eq}
use Rattle.st_base.specs.declared.tokens.Token.{Token}
use Rattle.st_base.specs.declared.tokens.TokenKind.{TokenKind}
use Rattle.st_base.specs.declared.tokens.TokenKind.TheVariants as kind
use Rattle.st_tree.specs.declared.tree.Primary.TheVariants as primary
use Rattle.st_tree.specs.declared.tree.Literal.TheVariants as literal
use Rattle.st_tree.specs.Symbols.{Sym, Id, Key, Op, Minus, Bar, TwoBars, ThreeBars, Num, Lit, ArrayOpen, ParenOpen, ParenClose, BlockOpen, BlockClose, Colon, Assign, Caret, Period, Semicolon, Role, IsName, IsValue, IsSuper, role, operator_at, sym_at, sym_of}
use Rattle.st_tree.specs.Faults.{aside}
use Rattle.st_parser.specs.declared.scan_state.Class.{Class}
use Rattle.st_parser.specs.declared.scan_state.Class.TheVariants as c
use Rattle.st_parser.specs.declared.scan_state.Now.{Now}
use Rattle.st_parser.specs.Finding.{word_class, operator_class, class_by, class_at, has_sign, is_too_large, is_beyond, is_out_of_range}
use Rattle.st_parser.proofs.Shape.{class_of, class_of_role, by_role, InRange}

word_cases : (a b d e f : Bool)
    → (if a then c.Value else (if b then c.Value else (if d then c.Value else (if e then c.Value else (if f then c.Super else c.Name)))))
    ≡ class_of_role (if a then IsValue (primary.Literal literal.Nil) else (if b then IsValue (primary.Literal literal.True) else (if d then IsValue (primary.Literal literal.False) else (if e then IsValue primary.SelfValue else (if f then IsSuper else IsName)))))
word_cases true b d e f = refl
word_cases false true d e f = refl
word_cases false false true e f = refl
word_cases false false false true f = refl
word_cases false false false false true = refl
word_cases false false false false false = refl

words : (t : List ℕ) → word_class t ≡ class_of_role (role t)
unfolding word_class role
words t = word_cases (bytes_eq t (codes "nil")) (bytes_eq t (codes "true")) (bytes_eq t (codes "false")) (bytes_eq t (codes "self")) (bytes_eq t (codes "super"))

-- an operator is one of five
by_operator : (P : Sym → Type 0) (t : List ℕ) (at : ℕ) → P (Minus at) → P (Bar at) → P (TwoBars at) → P (ThreeBars at) → P (Op t at)
    → (a b d e : Bool) → P (if a then Minus at else (if b then Bar at else (if d then TwoBars at else (if e then ThreeBars at else Op t at))))
by_operator P t at x y z u v true b d e = x
by_operator P t at x y z u v false true d e = y
by_operator P t at x y z u v false false true e = z
by_operator P t at x y z u v false false false true = u
by_operator P t at x y z u v false false false false = v

operator_cases : (t : List ℕ) (at : ℕ) (a b d e : Bool)
    → (if a then c.Minus (at + 1) else (if b then c.Bar else (if d then c.TwoBars else (if e then c.ThreeBars else c.Operator))))
    ≡ class_of (if a then Minus at else (if b then Bar at else (if d then TwoBars at else (if e then ThreeBars at else Op t at))))
operator_cases t at true b d e = refl
operator_cases t at false true d e = refl
operator_cases t at false false true e = refl
operator_cases t at false false false true = refl
operator_cases t at false false false false = refl

operators : (t : List ℕ) (at : ℕ) → operator_class t at ≡ class_of (operator_at t at)
unfolding operator_class
operators t at = operator_cases t at (bytes_eq t (codes "-")) (bytes_eq t (codes "|")) (bytes_eq t (codes "||")) (bytes_eq t (codes "|||"))

classes : (k : TokenKind) (t : List ℕ) (at : ℕ) → class_by k t at ≡ class_of (sym_at k t at)
classes kind.Identifier t at = words t
classes kind.Operator t at = operators t at
classes _ t at = refl

pub class_same : (text : List ℕ) (t : Token) → class_at text t ≡ class_of (sym_of text t)
class_same text t = classes t.kind _ t.start

ranges : (k : TokenKind) (t : List ℕ) (at : ℕ) (n : Now) → is_beyond k (has_sign n at) ≡ false → InRange n (sym_at k t at)
ranges kind.Operator t at n e = by_operator (InRange n) t at tt tt tt tt tt (bytes_eq t (codes "-")) (bytes_eq t (codes "|")) (bytes_eq t (codes "||")) (bytes_eq t (codes "|||"))
ranges (kind.Integer v) t at n e = e
ranges _ t at n e = tt

pub in_range : (text : List ℕ) (t : Token) (n : Now) → is_out_of_range n t ≡ false → InRange n (sym_of text t)
in_range text t n e = ranges t.kind _ t.start n e

larges : (k : TokenKind) (t : List ℕ) (at : ℕ) (n : Now) → is_beyond k (has_sign n at) ≡ true → (v : ℕ) × (sym_at k t at ≡ Num v at) × (is_too_large (has_sign n at) v ≡ true)
larges (kind.Integer v) t at n e = (v, refl, e)
larges _ t at n e = absurd (let k : false ≡ true = e in cc)

pub large_number : (text : List ℕ) (t : Token) (n : Now) → is_out_of_range n t ≡ true → (v : ℕ) × (sym_of text t ≡ Num v t.start) × (is_too_large (has_sign n t.start) v ≡ true)
large_number text t n e = larges t.kind _ t.start n e

pub aside_class : (x : Sym) → class_of (aside x) ≡ class_of x
aside_class (Num v at) = refl
aside_class _ = refl

small : (b : Bool) → is_too_large b 0 ≡ false
small true = refl
small false = refl

pub aside_range : (n : Now) (x : Sym) → InRange n (aside x)
aside_range n (Num v at) = small (has_sign n at)
aside_range n _ = tt
