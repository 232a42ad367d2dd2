-- What a text's symbols pay, as moves and as parts.
use Rattle.std.proofs.Common.{◌≡◌, ℕ, ◌+◌, ◌-◌, ◌*◌, ◌≤◌, List, [], ◌∷◌, ◌++◌, length, take, drop, Bool, true, false, if◌then◌else◌, codes, refl, ap, sym, ◌∙◌, subst, arith}
use Rattle.std.specs.Prelude.{pos, ◌-ℤ◌, ◌==◌, slice_index}
use Rattle.std.specs.Str.{bytes_eq}
use Rattle.std.specs.List.{sum_by}
use Rattle.std.proofs.lemmas.List.{length-append, length-take, length-drop}
use Rattle.std.proofs.lemmas.List.Sums.{sum_by-cons}
use Rattle.std.proofs.lemmas.Slice.Eq.{bytes_eq-Decides}
use Rattle.st_base.specs.declared.tokens.Token.{Token}
use Rattle.st_base.specs.declared.tokens.TokenKind.{TokenKind}
use Rattle.st_base.specs.declared.tokens.TokenKind.TheVariants as kind
use Rattle.st_base.specs.Lexed.{AreInOrder}
use Rattle.st_tree.specs.declared.tree.Literal.{Literal}
use Rattle.st_tree.specs.declared.tree.Literal.TheVariants as literal
use Rattle.st_tree.specs.declared.tree.Primary.{Primary}
use Rattle.st_tree.specs.declared.tree.Primary.TheVariants as primary
use Rattle.st_tree.specs.Symbols.{Sym, Id, Key, Op, Minus, Bar, TwoBars, ThreeBars, Lit, ParenClose, IsOp, op, minus, bar, two_bars, three_bars, IsName, IsValue, IsSuper, role, word_item, unquoted, string_value, operator_at, sym_at, text_of, syms}
use Rattle.st_tree.specs.Trees.{array, constant}
use Rattle.st_tree.specs.Grammar as g
use Rattle.st_parser.proofs.Words.{role_is, word_item_is, string_value_is}
use Rattle.st_tree.specs.Small.{literal_size, moves, parts}
use Rattle.sif_elements.proofs.Weighing.{primary_in, constant_weighs, self_weighs, array_size, symbol_size, str_size, integer_size, character_size, nil_size, true_size, false_size}
use Rattle.sif_elements.proofs.Weighed.{paid, Pays}

-- ---- values that words are

value_same : {p q : Primary} → IsValue p ≡ IsValue q → p ≡ q
value_same e = cc

not_value : {p : Primary} {A : Type 0} → IsSuper ≡ IsValue p → A
not_value {p} e = absurd (let k : IsSuper ≡ IsValue p = e in cc)

no_value : {p : Primary} {A : Type 0} → IsName ≡ IsValue p → A
no_value {p} e = absurd (let k : IsName ≡ IsValue p = e in cc)

value_by : (P : Primary → Type 0) (p : Primary) → P (constant literal.Nil) → P (constant literal.True) → P (constant literal.False) → P primary.SelfValue → (a b c d e : Bool)
    → (if a then IsValue (constant literal.Nil) else (if b then IsValue (constant literal.True) else (if c then IsValue (constant literal.False) else (if d then IsValue primary.SelfValue else (if e then IsSuper else IsName))))) ≡ IsValue p → P p
value_by P p x y z w true b c d e is = subst P (value_same is) x
value_by P p x y z w false true c d e is = subst P (value_same is) y
value_by P p x y z w false false true d e is = subst P (value_same is) z
value_by P p x y z w false false false true e is = subst P (value_same is) w
value_by P p x y z w false false false false true is = not_value is
value_by P p x y z w false false false false false is = no_value is

of_value : (P : Primary → Type 0) (t : List ℕ) (p : Primary) → role t ≡ IsValue p → P (constant literal.Nil) → P (constant literal.True) → P (constant literal.False) → P primary.SelfValue → P p
of_value P t p is x y z w = value_by P p x y z w (bytes_eq t (codes "nil")) (bytes_eq t (codes "true")) (bytes_eq t (codes "false")) (bytes_eq t (codes "self")) (bytes_eq t (codes "super")) (sym (role_is t) ∙ is)

-- ---- moves: each symbol pays one

abbrev pub one_each : Sym → ℕ
one_each s = 1

keys_shorter : {end : ℕ} {a b : List Sym} {more : List ℕ} → g.Keys end a b more → paid one_each b ≤ paid one_each a
keys_shorter (g.no_more h) = omega arith
keys_shorter (g.one_more e k) = omega (arith, keys_shorter k)

mutual
  item_shorter : {a b : List Sym} {l : Literal} → g.Item a b l → paid one_each b ≤ paid one_each a
  item_shorter (g.number_item h) = omega arith
  item_shorter (g.negative_item e h) = omega arith
  item_shorter g.literal_item = omega arith
  item_shorter g.word_of_item = omega arith
  item_shorter (g.keywords_item k) = omega (arith, keys_shorter k)
  item_shorter g.operator_item = omega arith
  item_shorter g.bar_item = omega arith
  item_shorter g.two_bars_item = omega arith
  item_shorter g.three_bars_item = omega arith
  item_shorter (g.minus_item h) = omega arith
  item_shorter (g.array_item k) = omega (arith, items_shorter k)
  item_shorter (g.inner_item k) = omega (arith, items_shorter k)

  items_shorter : {a b : List Sym} {ls : List Literal} → g.Items a b ls → paid one_each b ≤ paid one_each a
  items_shorter g.no_items = omega arith
  items_shorter (g.more_items i k) = omega (arith, item_shorter i, items_shorter k)

pub moves_paid : Pays moves one_each
moves_paid = record {
  empty = refl;
  joined = λ t u. omega arith;
  variables = λ t at. omega arith;
  targets = λ t at. omega arith;
  names = λ t at. omega arith;
  unaries = λ t at. omega arith;
  values = λ t at p is. of_value (λ (q : Primary). primary_in moves q ≤ 1) t p is (omega (arith, constant_weighs moves literal.Nil)) (omega (arith, constant_weighs moves literal.True)) (omega (arith, constant_weighs moves literal.False)) (omega (arith, self_weighs moves));
  supers = λ t at. omega arith;
  operators = λ o. omega arith;
  keywords = λ t at. omega arith;
  numbers = λ n at. omega arith;
  negatives = λ n at. omega arith;
  literals = λ l. omega arith;
  arrays = λ items. omega (arith, items_shorter items);
  blocks = λ at. omega arith;
  carets = omega arith;
  periods = omega arith;
}

-- ---- parts: each symbol pays one and its bytes, where it has a text

abbrev pub with_bytes : Sym → ℕ
with_bytes (Id t at) = length t + 1
with_bytes (Key t at) = length t + 1
with_bytes (Op t at) = length t + 1
with_bytes (Minus at) = 2
with_bytes (Bar at) = 2
with_bytes (TwoBars at) = 3
with_bytes (ThreeBars at) = 4
with_bytes (Lit l) = literal_size l
with_bytes s = 1

operator_pays : {s : Sym} {t : List ℕ} {at : ℕ} → IsOp s t at → 1 + length t ≤ with_bytes s
operator_pays op = omega arith
operator_pays minus = omega arith
operator_pays bar = omega arith
operator_pays two_bars = omega arith
operator_pays three_bars = omega arith

word_by : (t : List ℕ) (a b c : Bool) → literal_size (if a then literal.Nil else (if b then literal.True else (if c then literal.False else literal.Symbol t))) ≤ length t + 1
word_by t true b c = omega (arith, nil_size)
word_by t false true c = omega (arith, true_size)
word_by t false false true = omega (arith, false_size)
word_by t false false false = omega (arith, symbol_size t)

word_size : (t : List ℕ) → literal_size (word_item t) ≤ length t + 1
word_size t = subst (λ (l : Literal). literal_size l ≤ length t + 1) (sym (word_item_is t)) (word_by t (bytes_eq t (codes "nil")) (bytes_eq t (codes "true")) (bytes_eq t (codes "false")))

keys_pay : {end : ℕ} {a b : List Sym} {more : List ℕ} → g.Keys end a b more → length more + paid with_bytes b ≤ paid with_bytes a
keys_pay (g.no_more h) = omega arith
keys_pay (g.one_more {t = t} {more = more} e k) = omega (arith, length-append t more, keys_pay k)

mutual
  item_pays : {a b : List Sym} {l : Literal} → g.Item a b l → literal_size l + paid with_bytes b ≤ paid with_bytes a
  item_pays (g.number_item {n = n} h) = omega (arith, integer_size (pos n))
  item_pays (g.negative_item {n = n} e h) = omega (arith, integer_size (pos 0 -ℤ pos n))
  item_pays g.literal_item = omega arith
  item_pays (g.word_of_item {t = t}) = omega (arith, word_size t)
  item_pays (g.keywords_item {t = t} {more = more} k) = omega (arith, symbol_size (t ++ more), length-append t more, keys_pay k)
  item_pays (g.operator_item {t = t}) = omega (arith, symbol_size t)
  item_pays g.bar_item = omega (arith, symbol_size (124 ∷ []))
  item_pays g.two_bars_item = omega (arith, symbol_size (124 ∷ 124 ∷ []))
  item_pays g.three_bars_item = omega (arith, symbol_size (124 ∷ 124 ∷ 124 ∷ []))
  item_pays (g.minus_item h) = omega (arith, symbol_size (45 ∷ []))
  item_pays (g.array_item {ls = ls} k) = omega (arith, array_size ls, items_pay k)
  item_pays (g.inner_item {ls = ls} k) = omega (arith, array_size ls, items_pay k)

  items_pay : {a b : List Sym} {ls : List Literal} → g.Items a b ls → sum_by literal_size ls + paid with_bytes b ≤ paid with_bytes a
  items_pay g.no_items = omega arith
  items_pay (g.more_items {l = l} {ls = ls} i k) = omega (arith, sum_by-cons literal_size l ls, item_pays i, items_pay k)

array_pays : {a b : List Sym} {ls : List Literal} → g.Items a (ParenClose ∷ b) ls → literal_size (array ls) + paid with_bytes b ≤ 1 + paid with_bytes a
array_pays {ls = ls} k = omega (arith, array_size ls, items_pay k)

pub parts_paid : Pays parts with_bytes
parts_paid = record {
  empty = refl;
  joined = λ t u. omega (arith, length-append t u);
  variables = λ t at. omega arith;
  targets = λ t at. omega arith;
  names = λ t at. omega arith;
  unaries = λ t at. omega arith;
  values = λ t at p is. of_value (λ (q : Primary). primary_in parts q ≤ length t + 1) t p is (omega (arith, constant_weighs parts literal.Nil, nil_size)) (omega (arith, constant_weighs parts literal.True, true_size)) (omega (arith, constant_weighs parts literal.False, false_size)) (omega (arith, self_weighs parts));
  supers = λ t at. omega arith;
  operators = operator_pays;
  keywords = λ t at. omega arith;
  numbers = λ n at. omega (arith, integer_size (pos n));
  negatives = λ n at. omega (arith, integer_size (pos 0 -ℤ pos n));
  literals = λ l. omega arith;
  arrays = array_pays;
  blocks = λ at. omega arith;
  carets = omega arith;
  periods = omega arith;
}

-- ---- a text's symbols

pub one_each_token : (at : ℕ) (text : List ℕ) (tokens : List Token) → AreInOrder at (length text) tokens → paid one_each (syms text tokens) + at ≤ length text
one_each_token at text [] h = let k : at ≤ length text = h in omega (arith, k)
one_each_token at text (t ∷ ts) h = omega (arith, h.0, h.1, one_each_token t.end text ts h.2)

operator_by : (t : List ℕ) (at : ℕ) (a b c d : Bool) → bytes_eq t (codes "-") ≡ a → bytes_eq t (codes "|") ≡ b → bytes_eq t (codes "||") ≡ c → bytes_eq t (codes "|||") ≡ d → with_bytes (if a then Minus at else (if b then Bar at else (if c then TwoBars at else (if d then ThreeBars at else Op t at)))) ≤ length t + 1
operator_by t at true b c d h k m n = omega (arith, ap length ((bytes_eq-Decides t (codes "-")).0 h))
operator_by t at false true c d h k m n = omega (arith, ap length ((bytes_eq-Decides t (codes "|")).0 k))
operator_by t at false false true d h k m n = omega (arith, ap length ((bytes_eq-Decides t (codes "||")).0 m))
operator_by t at false false false true h k m n = omega (arith, ap length ((bytes_eq-Decides t (codes "|||")).0 n))
operator_by t at false false false false h k m n = omega arith

operator_bytes : (t : List ℕ) (at : ℕ) → with_bytes (operator_at t at) ≤ length t + 1
operator_bytes t at = operator_by t at (bytes_eq t (codes "-")) (bytes_eq t (codes "|")) (bytes_eq t (codes "||")) (bytes_eq t (codes "|||")) refl refl refl refl

pub unquoted-length : (skips : Bool) (t : List ℕ) → length (unquoted skips t) ≤ length t
unquoted-length skips [] = omega arith
unquoted-length false (b ∷ bs) = omega (arith, unquoted-length (b == 39) bs)
unquoted-length true (b ∷ bs) = omega (arith, unquoted-length false bs)

pub string_value-length : (t : List ℕ) → length (string_value t) ≤ length t
string_value-length t =
    let all : List ℕ = take (length t - 2) (drop 1 t) in
    let here : length (unquoted false all) ≤ length all = unquoted-length false all in
    subst (λ (v : List ℕ). length v ≤ length t) (sym (string_value_is t)) (omega (arith, here, length-take (length t - 2) (drop 1 t), length-drop 1 t))

token_bytes : (k : TokenKind) (t : List ℕ) (at : ℕ) → with_bytes (sym_at k t at) ≤ length t + 1
token_bytes kind.Identifier t at = omega arith
token_bytes kind.Keyword t at = omega arith
token_bytes kind.Operator t at = operator_bytes t at
token_bytes (kind.Integer n) t at = omega arith
token_bytes kind.Character t at = omega (arith, character_size (slice_index t 1))
token_bytes kind.Str t at = omega (arith, str_size (string_value t), string_value-length t)
token_bytes kind.Symbol t at = omega (arith, symbol_size (drop 1 t), length-drop 1 t)
token_bytes kind.QuotedSymbol t at = omega (arith, symbol_size (string_value (drop 1 t)), string_value-length (drop 1 t), length-drop 1 t)
token_bytes kind.ArrayOpen t at = omega arith
token_bytes kind.ParenOpen t at = omega arith
token_bytes kind.ParenClose t at = omega arith
token_bytes kind.BlockOpen t at = omega arith
token_bytes kind.BlockClose t at = omega arith
token_bytes kind.Colon t at = omega arith
token_bytes kind.Assign t at = omega arith
token_bytes kind.Caret t at = omega arith
token_bytes kind.Period t at = omega arith
token_bytes kind.Semicolon t at = omega arith

pub text_of-length : (text : List ℕ) (t : Token) → length (text_of text t) ≤ t.end - t.start
text_of-length text t = omega (arith, length-take (t.end - t.start) (drop t.start text))

pub with_bytes_each : (at : ℕ) (text : List ℕ) (tokens : List Token) → AreInOrder at (length text) tokens → paid with_bytes (syms text tokens) + 2 * at ≤ 2 * length text
with_bytes_each at text [] h = let k : at ≤ length text = h in omega (arith, k)
with_bytes_each at text (t ∷ ts) h = omega (arith, h.0, h.1, token_bytes t.kind (text_of text t) t.start, text_of-length text t, with_bytes_each t.end text ts h.2)
