-- What the machine makes of the items of an array.
use Rattle.std.proofs.Common.{◌≡◌, ℕ, List, [], ◌∷◌, ◌++◌, refl, ap, sym, ◌∙◌, append-nil, append_assoc, ◌+◌, ◌<◌, ◌≤◌, ◌^◌, Some, None, if◌then◌else◌, length}
use Rattle.std.specs.Prelude.{option_and_then}
use Rattle.std.proofs.lemmas.Bool.{eq-eqb, ne_eqb, lt-ltb, le-leb}
use Rattle.st_tree.specs.declared.tree.Literal.{Literal}
use Rattle.st_tree.specs.declared.tree.Literal.TheVariants as literal
use Rattle.st_tree.specs.Symbols.{Sym, Key, Num}
use Rattle.st_tree.specs.Trees.{integer, negative}
use Rattle.st_tree.specs.Grammar as g
use Rattle.st_tree.specs.Grammar.{Production, AMethod, ABody, Tree, MethodTree, BodyTree}
use Rattle.st_parser.specs.Machine.{Elements, Dash, Run, Frame, Holds, parse, elements, with_item, negated_item}

abbrev pub dash_symbol : Literal
dash_symbol = literal.Symbol (45 ∷ [])

-- the symbol of keywords is whole where none follows without a gap
pub run_ends : (items : List Literal) (t : List ℕ) (end : ℕ) (fs : List Frame) (b : List Sym) → g.NotKeyAt end b
    → parse (Run items t end, fs) b ≡ parse (Elements (items ++ literal.Symbol t ∷ []), fs) b
run_ends items t end fs [] h = refl
run_ends items t end fs (Key u at ∷ b) h = ap
    (λ v. option_and_then (λ next. parse next b) (if v then Some (Run items (t ++ u) (at + length u), fs) else elements (items ++ literal.Symbol t ∷ []) fs (Key u at)))
    (ne_eqb at end h)
run_ends items t end fs (s ∷ b) h = refl

pub keys_read : {end : ℕ} {a b : List Sym} {more : List ℕ} → g.Keys end a b more → (items : List Literal) (t : List ℕ) (fs : List Frame)
    → parse (Run items t end, fs) a ≡ parse (Elements (items ++ literal.Symbol (t ++ more) ∷ []), fs) b
keys_read (g.no_more {end = end} {a = a} h) items t fs = run_ends items t end fs a h ∙ ap (λ x. parse (Elements (items ++ literal.Symbol x ∷ []), fs) a) (sym (append-nil t))
keys_read (g.one_more {t = u} {end = end} {at = at} {a = a} {b = b} {more = more} e k) items t fs =
    ap (λ v. option_and_then (λ next. parse next a) (if v then Some (Run items (t ++ u) (at + length u), fs) else elements (items ++ literal.Symbol t ∷ []) fs (Key u at))) (eq-eqb at end e)
    ∙ keys_read k items (t ++ u) fs
    ∙ ap (λ x. parse (Elements (items ++ literal.Symbol x ∷ []), fs) b) (append_assoc t u more)

-- `-` is a symbol where no integer follows directly
pub dash_ends : (items : List Literal) (end : ℕ) (fs : List Frame) (b : List Sym) → g.NotNumberAt end b
    → parse (Dash items end, fs) b ≡ parse (Elements (items ++ dash_symbol ∷ []), fs) b
dash_ends items end fs [] h = refl
dash_ends items end fs (Num n at ∷ b) h = ap
    (λ v. option_and_then (λ next. parse next b) (if v then negated_item items n fs else elements (items ++ dash_symbol ∷ []) fs (Num n at)))
    (ne_eqb at end h)
dash_ends items end fs (s ∷ b) h = refl

dash_number : (items : List Literal) (fs : List Frame) (n at n_at : ℕ) (a : List Sym) → n_at ≡ at + 1 → n ≤ 2 ^ 127
    → parse (Dash items (at + 1), fs) (Num n n_at ∷ a) ≡ parse (Elements (items ++ negative n ∷ []), fs) a
dash_number items fs n at n_at a e h =
    ap (λ v. option_and_then (λ next. parse next a) (if v then negated_item items n fs else elements (items ++ dash_symbol ∷ []) fs (Num n n_at))) (eq-eqb n_at (at + 1) e)
    ∙ ap (λ v. option_and_then (λ next. parse next a) (if v then with_item items (negative n) fs else None)) (le-leb n (2 ^ 127) h)

number_item_read : (items : List Literal) (fs : List Frame) (n at : ℕ) (a : List Sym) → n < 2 ^ 127
    → parse (Elements items, fs) (Num n at ∷ a) ≡ parse (Elements (items ++ integer n ∷ []), fs) a
number_item_read items fs n at a h = ap (λ v. option_and_then (λ next. parse next a) (if v then with_item items (integer n) fs else None)) (lt-ltb n (2 ^ 127) h)

mutual
  pub item_read : {a b : List Sym} {l : Literal} → g.Item a b l → (first : List Literal) (fs : List Frame)
      → parse (Elements first, fs) a ≡ parse (Elements (first ++ l ∷ []), fs) b
  item_read (g.number_item {n = n} {at = at} {a = a} h) first fs = number_item_read first fs n at a h
  item_read (g.negative_item {n = n} {at = at} {n_at = n_at} {a = a} e h) first fs = dash_number first fs n at n_at a e h
  item_read g.literal_item first fs = refl
  item_read g.word_of_item first fs = refl
  item_read (g.keywords_item {t = t} k) first fs = keys_read k first t fs
  item_read g.operator_item first fs = refl
  item_read g.bar_item first fs = refl
  item_read g.two_bars_item first fs = refl
  item_read g.three_bars_item first fs = refl
  item_read (g.minus_item {at = at} {a = a} h) first fs = dash_ends first (at + 1) fs a h
  item_read (g.array_item x) first fs = items_read x [] (Holds first ∷ fs)
  item_read (g.inner_item x) first fs = items_read x [] (Holds first ∷ fs)

  pub items_read : {a b : List Sym} {ls : List Literal} → g.Items a b ls → (first : List Literal) (fs : List Frame)
      → parse (Elements first, fs) a ≡ parse (Elements (first ++ ls), fs) b
  items_read (g.no_items {a = a}) first fs = ap (λ x. parse (Elements x, fs) a) (sym (append-nil first))
  items_read (g.more_items {c = c} {l = l} {ls = ls} x y) first fs = item_read x first fs ∙ items_read y (first ++ l ∷ []) fs ∙ ap (λ v. parse (Elements v, fs) c) (append_assoc first (l ∷ []) ls)
