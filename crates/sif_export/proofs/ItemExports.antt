-- The words of literals, and the tokens that they come to.
use Rattle.std.proofs.Common.{◌≡◌, ◌^◌, ◌<◌, ◌≤◌, ℕ, pos, negsuc, ◌-ℤ◌, zero, suc, Bool, true, false, List, [], ◌∷◌, ◌++◌, map, if◌then◌else◌, codes, refl, ap, sym, ◌∙◌, subst, arith}
use Rattle.std.specs.Str.{bytes_eq}
use Rattle.std.proofs.Math.IntN.{neg_ℤ, +ℤ_idl}
use Rattle.st_tree.specs.declared.tree.Literal.{Literal}
use Rattle.st_tree.specs.declared.tree.Literal.TheVariants as literal
use Rattle.st_tree.specs.Symbols.{Sym, ParenClose, word_item}
use Rattle.st_tree.specs.Trees.{integer, negative, array}
use Rattle.st_tree.specs.Grammar as g
use Rattle.sif_export.specs.Words as word
use Rattle.sif_export.specs.Words.{Word, Mark}
use Rattle.sif_export.specs.declared.sign.Sign.TheVariants as sign
use Rattle.sif_export.specs.TreeWords.{literal_words, joined}
use Rattle.sif_export.proofs.Steps.{literal_array, literal_nil, literal_true, literal_false, literal_integer, literal_character, literal_str, literal_symbol}
use Rattle.sif_export.proofs.Exports.{Is, placed, Then, then_is, Nothing, nothing, IsPlain, a_character, a_string, a_symbol, AllFormed, moves, Export, exports_word, exports_nothing, exports_then, exports_map, exports_as}

-- the words of a literal come to it
abbrev pub ItemOf : Literal → List Sym → List Sym → Type 0
ItemOf l ss r = g.Item ss r l

abbrev pub ItemsOf : List Literal → List Sym → List Sym → Type 0
ItemsOf ls ss r = g.Items ss r ls

-- ---- literals of one word

pub small : (n : ℕ) → n < 2 ^ 127 → n ≤ 2 ^ 127
small n low = omega (arith, low)

number_made : (n : ℕ) → n < 2 ^ 127 → (ss r : List Sym) → Is (word.Number (pos n)) ss r → g.Item ss r (integer n)
number_made n low ss r (placed at) = g.number_item low

pub number_exported : (n : ℕ) → n < 2 ^ 127 → {a b : List Sym} → AllFormed b → moves a ≡ moves b → Export a b (literal_words (integer n)) (ItemOf (integer n))
number_exported n low rest moved = exports_as (literal_integer (pos n)) (exports_map (number_made n low) (exports_word (word.Number (pos n)) rest (small n low) moved))

minus_made : (n : ℕ) → suc n ≤ 2 ^ 127 → (ss r : List Sym) → Is (word.Number (negsuc n)) ss r → g.Item ss r (negative (suc n))
minus_made n low ss r (placed at) = g.negative_item refl low

pub no_minus : (n : ℕ) → n ≡ 0 → 0 < 2 ^ 127
no_minus n e = omega arith

pub minus_z : (n : ℕ) → negsuc n ≡ pos 0 -ℤ pos (suc n)
minus_z n = sym (+ℤ_idl (neg_ℤ (pos (suc n))))

pub zero_same : integer 0 ≡ negative 0
zero_same = refl

pub negative_exported : (n : ℕ) → n ≤ 2 ^ 127 → {a b : List Sym} → AllFormed b → moves a ≡ moves b → Export a b (literal_words (negative n)) (ItemOf (negative n))
negative_exported zero low {a = a} {b = b} rest moved = subst (λ l. Export a b (literal_words l) (ItemOf l)) zero_same (number_exported 0 (no_minus 0 refl) rest moved)
negative_exported (suc n) low {a = a} {b = b} rest moved = exports_as (ap (λ z. literal_words (literal.Integer z)) (sym (minus_z n)) ∙ literal_integer (negsuc n)) (exports_map (minus_made n low) (exports_word (word.Number (negsuc n)) rest low moved))

character_made : (c : ℕ) (ss r : List Sym) → Is (word.Char c) ss r → g.Item ss r (literal.Character c)
character_made c ss r (placed at) = g.literal_item

string_made : (t : List ℕ) (ss r : List Sym) → Is (word.Str t) ss r → g.Item ss r (literal.Str t)
string_made t ss r (placed at) = g.literal_item

symbol_made : (t : List ℕ) (ss r : List Sym) → Is (word.Symbol t) ss r → g.Item ss r (literal.Symbol t)
symbol_made t ss r (placed at) = g.literal_item

pub symbol_exported : (t : List ℕ) {a b : List Sym} → AllFormed b → moves a ≡ moves b → Export a b (literal_words (literal.Symbol t)) (ItemOf (literal.Symbol t))
symbol_exported t rest moved = exports_as (literal_symbol t) (exports_map (symbol_made t) (exports_word (word.Symbol t) rest tt moved))

pub plain_exported : {l : Literal} → IsPlain l → {a b : List Sym} → AllFormed b → moves a ≡ moves b → Export a b (literal_words l) (ItemOf l)
plain_exported (a_character {c = c}) rest moved = exports_as (literal_character c) (exports_map (character_made c) (exports_word (word.Char c) rest tt moved))
plain_exported (a_string {t = t}) rest moved = exports_as (literal_str t) (exports_map (string_made t) (exports_word (word.Str t) rest tt moved))
plain_exported (a_symbol {t = t}) rest moved = symbol_exported t rest moved

-- ---- `nil`, `true`, `false`, and other words of an array

word_made : (t : List ℕ) (ss r : List Sym) → Is (word.Named t) ss r → g.Item ss r (word_item t)
word_made t ss r (placed at) = g.word_of_item

value_made : (t : List ℕ) (l : Literal) → word_item t ≡ l → (ss r : List Sym) → Is (word.Named t) ss r → g.Item ss r l
value_made t l same ss r x = subst (g.Item ss r) same (word_made t ss r x)

nil_item : word_item (codes "nil") ≡ literal.Nil
unfolding word_item
nil_item = refl

true_item : word_item (codes "true") ≡ literal.True
unfolding word_item
true_item = refl

false_item : word_item (codes "false") ≡ literal.False
unfolding word_item
false_item = refl

pub nil_exported : {a b : List Sym} → AllFormed b → moves a ≡ moves b → Export a b (literal_words literal.Nil) (ItemOf literal.Nil)
nil_exported rest moved = exports_as literal_nil (exports_map (value_made (codes "nil") literal.Nil nil_item) (exports_word (word.Named (codes "nil")) rest refl moved))

pub true_exported : {a b : List Sym} → AllFormed b → moves a ≡ moves b → Export a b (literal_words literal.True) (ItemOf literal.True)
true_exported rest moved = exports_as literal_true (exports_map (value_made (codes "true") literal.True true_item) (exports_word (word.Named (codes "true")) rest refl moved))

pub false_exported : {a b : List Sym} → AllFormed b → moves a ≡ moves b → Export a b (literal_words literal.False) (ItemOf literal.False)
false_exported rest moved = exports_as literal_false (exports_map (value_made (codes "false") literal.False false_item) (exports_word (word.Named (codes "false")) rest refl moved))

word_exported : (t : List ℕ) {a b : List Sym} → AllFormed b → moves a ≡ moves b → Export a b (literal_words (word_item t)) (ItemOf (word_item t))
unfolding word_item
word_exported t {a = a} {b = b} rest moved = of (bytes_eq t (codes "nil")) (bytes_eq t (codes "true")) (bytes_eq t (codes "false"))
  where
    of : (x y z : Bool) → Export a b (literal_words (if x then literal.Nil else (if y then literal.True else (if z then literal.False else literal.Symbol t)))) (ItemOf (if x then literal.Nil else (if y then literal.True else (if z then literal.False else literal.Symbol t))))
    of true y z = nil_exported rest moved
    of false true z = true_exported rest moved
    of false false true = false_exported rest moved
    of false false false = symbol_exported t rest moved

-- ---- keywords without a gap, which are one symbol

keys_rest : {end : ℕ} {a b : List Sym} {more : List ℕ} → g.Keys end a b more → AllFormed a → AllFormed b
keys_rest (g.no_more n) f = f
keys_rest (g.one_more e k) f = keys_rest k f.1

keys_moves : {end : ℕ} {a b : List Sym} {more : List ℕ} → g.Keys end a b more → moves a ≡ moves b
keys_moves (g.no_more n) = refl
keys_moves (g.one_more e k) = keys_moves k

-- ---- arrays

array_made : (ls : List Literal) (ss r : List Sym) → Then (Is (Mark sign.ArrayOpen)) (Then (ItemsOf ls) (Is (Mark sign.ParenClose))) ss r → g.Item ss r (array ls)
array_made ls ss r (then_is (placed at) (then_is items (placed end))) = g.array_item items

pub words-array : (ls : List Literal) → literal_words (array ls) ≡ Mark sign.ArrayOpen ∷ (joined (map literal_words ls) ++ Mark sign.ParenClose ∷ [])
unfolding array
words-array ls = literal_array ls

-- between `#(` or `(` and `)`
array_exported : (ls : List Literal) {o : Sym} {a b : List Sym} → moves (o ∷ a) ≡ true ∷ moves a → Export a (ParenClose ∷ b) (joined (map literal_words ls)) (ItemsOf ls) → AllFormed a → Export (o ∷ a) b (literal_words (array ls)) (ItemOf (array ls))
array_exported ls opens x f =
    exports_as (words-array ls) (exports_map (array_made ls) (exports_then (exports_word (Mark sign.ArrayOpen) f tt opens) (exports_then x (exports_word (Mark sign.ParenClose) x.rest.1 tt refl))))

no_items_made : (ss r : List Sym) → Nothing ss r → g.Items ss r []
no_items_made ss r nothing = g.no_items

items_made : (l : Literal) (ls : List Literal) (ss r : List Sym) → Then (ItemOf l) (ItemsOf ls) ss r → g.Items ss r (l ∷ ls)
items_made l ls ss r (then_is x y) = g.more_items x y

mutual
  pub item_exported : {a b : List Sym} {l : Literal} → g.Item a b l → AllFormed a → Export a b (literal_words l) (ItemOf l)
  item_exported (g.number_item {n = n} low) f = number_exported n low f.1 refl
  item_exported (g.negative_item {n = n} next low) f = negative_exported n low f.1.1 refl
  item_exported g.literal_item f = plain_exported f.0 f.1 refl
  item_exported (g.word_of_item {t = t}) f = word_exported t f.1 refl
  item_exported (g.keywords_item {t = t} {more = more} k) f = symbol_exported (t ++ more) (keys_rest k f.1) (keys_moves k)
  item_exported (g.operator_item {t = t}) f = symbol_exported t f.1 refl
  item_exported g.bar_item f = symbol_exported (124 ∷ []) f.1 refl
  item_exported g.two_bars_item f = symbol_exported (124 ∷ 124 ∷ []) f.1 refl
  item_exported g.three_bars_item f = symbol_exported (124 ∷ 124 ∷ 124 ∷ []) f.1 refl
  item_exported (g.minus_item n) f = symbol_exported (45 ∷ []) f.1 refl
  item_exported (g.array_item {ls = ls} items) f = array_exported ls refl (items_exported items f.1) f.1
  item_exported (g.inner_item {ls = ls} items) f = array_exported ls refl (items_exported items f.1) f.1

  pub items_exported : {a b : List Sym} {ls : List Literal} → g.Items a b ls → AllFormed a → Export a b (joined (map literal_words ls)) (ItemsOf ls)
  items_exported g.no_items f = exports_map no_items_made (exports_nothing f refl)
  items_exported (g.more_items {l = l} {ls = ls} x y) f = let first = item_exported x f in exports_map (items_made l ls) (exports_then first (items_exported y first.rest))
