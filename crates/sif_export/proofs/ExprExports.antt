-- The words of expressions, statements and blocks, and the tokens that they come to: a tree that is the same.
use Rattle.std.proofs.Common.{◌≡◌, ◌+◌, ◌^◌, ◌<◌, ◌≤◌, ℕ, zero, suc, pos, negsuc, Bool, true, false, List, [], ◌∷◌, ◌++◌, map, codes, refl, ap, ap₂, sym, ◌∙◌, subst, append_assoc, append-nil, if◌then◌else◌}
use Rattle.std.specs.Str.{bytes_eq}
use Rattle.std.proofs.lemmas.List.{map-append}
use Rattle.st_base.specs.TokenBytes.{is_operator_byte}
use Rattle.st_base.specs.Lexes.{is_run}
use Rattle.st_tree.specs.declared.tree.Name.{Name}
use Rattle.st_tree.specs.declared.tree.Literal.{Literal}
use Rattle.st_tree.specs.declared.tree.Literal.TheVariants as literal
use Rattle.st_tree.specs.declared.tree.Primary.{Primary}
use Rattle.st_tree.specs.declared.tree.Primary.TheVariants as primary
use Rattle.st_tree.specs.declared.tree.Statement.{Statement}
use Rattle.st_tree.specs.declared.tree.Message.{Message}
use Rattle.st_tree.specs.declared.tree.Operand.{Operand}
use Rattle.st_tree.specs.Same.{bare_name}
use Rattle.st_tree.specs.Symbols.{Sym, Id, Key, Bar, ArrayOpen, ParenClose, BlockOpen, BlockClose, Assign, Period, role, IsName, IsValue, IsSuper}
use Rattle.st_tree.specs.Trees.{name, variable, integer, negative, array, constant, message, operand, expr, paren, block, stated}
use Rattle.st_tree.specs.Grammar as g
use Rattle.st_tree.specs.Grammar.{Fine, Receives}
use Rattle.sif_export.specs.Words as word
use Rattle.sif_export.specs.Words.{Word, Mark, Sign}
use Rattle.sif_export.specs.declared.sign.Sign.TheVariants as sign
use Rattle.sif_export.specs.TreeWords.{Words, literal_words, joined, each_behind, parted, message_words, sent_words, named_words, temporary_words, colon_words, parameter_words, primary_words, statement_words, expr_words, each_message, operand_words}
use Rattle.sif_export.proofs.Steps.{literal_in, self_in, super_in, variable_in, joined-append, literal_nil, literal_true, literal_false, literal_integer, literal_character, literal_str, literal_symbol}
use Rattle.sif_export.proofs.Built.{words-message, words-operand, words-expr, words-paren, words-block, words-value, words-return, bare_p, bare_m, bare_o, bare_e, bare_s, bare-variable, bare-paren, bare-message, bare-operand, bare-expr, bare-value, bare-return, bare-block}
use Rattle.sif_export.proofs.Lexing.{IsKey}
use Rattle.sif_export.proofs.Exports.{Is, placed, Then, then_is, Nothing, nothing, IsPlain, AllFormed, moves, Export, exports_word, exports_nothing, exports_then, exports_map, exports_as, exports_from, exports_upto, exports_until, a_character, a_string, a_symbol}
use Rattle.sif_export.proofs.ItemExports.{ItemsOf, items_exported, words-array, small, no_minus, minus_z, zero_same}
use Rattle.sif_export.proofs.MessageParts.{sent-operator, op_run, op_moves, operator_is, behind_words, sent-key}

-- ---- parts that are the same, read from some tokens

abbrev pub chain_words : List Message → Words
chain_words ms = joined (map each_message ms)

pub data SomePrimary (p : Primary) (v : Bool) (ss r : List Sym) : Type 0 where
  some_primary : (q : Primary) → g.IsPrimary ss r q v → bare_p q ≡ bare_p p → SomePrimary p v ss r

pub data SomeUnaries (ms : List Message) (ss r : List Sym) : Type 0 where
  some_unaries : (ns : List Message) → g.Unaries ss r ns → map bare_m ns ≡ map bare_m ms → SomeUnaries ms ss r

pub data SomeBinaries (ms : List Message) (ss r : List Sym) : Type 0 where
  some_binaries : (ns : List Message) → g.Binaries ss r ns → map bare_m ns ≡ map bare_m ms → SomeBinaries ms ss r

pub data SomeMessages (ms : List Message) (ss r : List Sym) : Type 0 where
  some_messages : (ns : List Message) → g.Messages ss r ns → map bare_m ns ≡ map bare_m ms → SomeMessages ms ss r

pub data SomeCascade (ms : List Message) (ss r : List Sym) : Type 0 where
  some_cascade : (ns : List Message) → g.Cascade ss r ns → map bare_m ns ≡ map bare_m ms → SomeCascade ms ss r

pub data SomeArguments (selector : List ℕ) (os : List Operand) (ss r : List Sym) : Type 0 where
  some_arguments : (qs : List Operand) → g.Arguments ss r selector qs → map bare_o qs ≡ map bare_o os → SomeArguments selector os ss r

pub data SomeNames (ns : List Name) (ss r : List Sym) : Type 0 where
  some_names : (ms : List Name) → g.Names ss r ms → map bare_name ms ≡ map bare_name ns → SomeNames ns ss r

pub data SomeTemps (ns : List Name) (ss r : List Sym) : Type 0 where
  some_temps : (ms : List Name) → g.Temps ss r ms → map bare_name ms ≡ map bare_name ns → SomeTemps ns ss r

pub data SomeParameters (ns : List Name) (ss r : List Sym) : Type 0 where
  some_parameters : (ms : List Name) → g.Parameters ss r ms → map bare_name ms ≡ map bare_name ns → SomeParameters ns ss r

-- the parameters of a block with their bar, or none
pub data SomeHead (ns : List Name) (ss r : List Sym) : Type 0 where
  no_head : ss ≡ r → ns ≡ [] → SomeHead ns ss r
  some_head : (ms : List Name) (at : ℕ) → g.Parameters ss (Bar at ∷ r) ms → map bare_name ms ≡ map bare_name ns → SomeHead ns ss r

pub data SomeExpr (ns : List Name) (o : Operand) (cs : List Message) (ss r : List Sym) : Type 0 where
  some_expr : (ms : List Name) (q : Operand) (ds : List Message) → g.IsExpr ss r ms q ds → map bare_name ms ≡ map bare_name ns → bare_o q ≡ bare_o o → map bare_m ds ≡ map bare_m cs → SomeExpr ns o cs ss r

pub data SomeStatements (ss : List Statement) (a r : List Sym) : Type 0 where
  some_statements : (ts : List Statement) → g.Statements a r ts → map bare_s ts ≡ map bare_s ss → SomeStatements ss a r

-- ---- names

pub head_same : {A : Type 0} {x y : A} {xs ys : List A} → x ≡ y → xs ≡ ys → x ∷ xs ≡ y ∷ ys
head_same e f = ap₂ (λ x xs. x ∷ xs) e f

names_none : (ss r : List Sym) → Nothing ss r → SomeNames [] ss r
names_none ss r nothing = some_names [] g.none refl

names_more : (t : List ℕ) (at : ℕ) (ns : List Name) → role t ≡ IsName → (ss r : List Sym) → Then (Is (word.Named t)) (SomeNames ns) ss r → SomeNames (name t at ∷ ns) ss r
names_more t at ns e ss r (then_is (placed here) (some_names ms d same)) = some_names (name t here ∷ ms) (g.more e d) (head_same refl same)

pub names_exported : {a b : List Sym} {ns : List Name} → g.Names a b ns → AllFormed a → Export a b (named_words ns) (SomeNames ns)
names_exported g.none f = exports_map names_none (exports_nothing f refl)
names_exported (g.more {t = t} {at = at} {ns = ns} e d) f = exports_map (names_more t at ns e) (exports_then (exports_word (word.Named t) f.1 f.0 refl) (names_exported d f.1))

-- the two bars of temporaries
pub data IsBar : Sign → Type 0 where
  inner_bar : IsBar sign.Bar
  top_bar : IsBar sign.BarLine

temps_none : (ss r : List Sym) → Nothing ss r → SomeTemps [] ss r
temps_none ss r nothing = some_temps [] g.none refl

temps_some : (bar : Sign) → IsBar bar → (n : Name) (ns : List Name) → (ss r : List Sym) → Then (Is (Mark sign.Bar)) (Then (SomeNames (n ∷ ns)) (Is (Mark bar))) ss r → SomeTemps (n ∷ ns) ss r
temps_some bar inner_bar n ns ss r (then_is (placed at) (then_is (some_names ms d same) (placed end))) = some_temps ms (g.some d) same
temps_some bar top_bar n ns ss r (then_is (placed at) (then_is (some_names ms d same) (placed end))) = some_temps ms (g.some d) same

bar_word : (bar : Sign) → IsBar bar → {end : ℕ} {b : List Sym} → AllFormed b → Export (Bar end ∷ b) b (Mark bar ∷ []) (Is (Mark bar))
bar_word bar inner_bar f = exports_word (Mark sign.Bar) f tt refl
bar_word bar top_bar f = exports_word (Mark sign.BarLine) f tt refl

-- names up to a closing bar, behind an opening one
pub bars_exported : (bar : Sign) → IsBar bar → {a b : List Sym} {end : ℕ} {ns : List Name} → g.Names a (Bar end ∷ b) ns → AllFormed a → Export a b (temporary_words bar ns) (SomeTemps ns)
bars_exported bar x {ns = []} g.none f = exports_map temps_none (exports_nothing f.1 refl)
bars_exported bar x {ns = n ∷ ns} d f =
    let inner = names_exported d f in
    exports_map (temps_some bar x n ns) (exports_then (exports_word (Mark sign.Bar) f tt refl) (exports_then inner (bar_word bar x inner.rest.1)))

pub temps_exported : (bar : Sign) → IsBar bar → {a b : List Sym} {ns : List Name} → g.Temps a b ns → AllFormed a → Export a b (temporary_words bar ns) (SomeTemps ns)
temps_exported bar x g.none f = exports_map temps_none (exports_nothing f refl)
temps_exported bar x (g.some d) f = exports_from refl (bars_exported bar x d f.1)
temps_exported bar x g.empty f = exports_map temps_none (exports_nothing f.1 refl)

parameters_one : (t : List ℕ) (at : ℕ) → role t ≡ IsName → (ss r : List Sym) → Is (word.Parameter t) ss r → SomeParameters (name t at ∷ []) ss r
parameters_one t at e ss r (placed here) = some_parameters (name t (here + 1) ∷ []) (g.one e) refl

parameters_more : (t : List ℕ) (at : ℕ) (ns : List Name) → role t ≡ IsName → (ss r : List Sym) → Then (Is (word.Parameter t)) (SomeParameters ns) ss r → SomeParameters (name t at ∷ ns) ss r
parameters_more t at ns e ss r (then_is (placed here) (some_parameters ms d same)) = some_parameters (name t (here + 1) ∷ ms) (g.more e d) (head_same refl same)

parameters_exported : {a b : List Sym} {ns : List Name} → g.Parameters a b ns → AllFormed a → Export a b (colon_words ns) (SomeParameters ns)
parameters_exported (g.one {t = t} {at = at} e) f = exports_map (parameters_one t at e) (exports_word (word.Parameter t) f.1.1 f.1.0 refl)
parameters_exported (g.more {t = t} {at = at} {ns = ns} e d) f = exports_map (parameters_more t at ns e) (exports_then (exports_word (word.Parameter t) f.1.1 f.1.0 refl) (parameters_exported d f.1.1))

head_made : (ns : List Name) (ss r : List Sym) → Then (SomeParameters ns) (Is (Mark sign.Bar)) ss r → SomeHead ns ss r
head_made ns ss r (then_is (some_parameters ms d same) (placed at)) = some_head ms at d same

words-parameters : {a b : List Sym} {ns : List Name} → g.Parameters a b ns → parameter_words ns ≡ colon_words ns ++ Mark sign.Bar ∷ []
words-parameters (g.one e) = refl
words-parameters (g.more e d) = refl

no_head_made : (ss r : List Sym) → Nothing ss r → SomeHead [] ss r
no_head_made ss r nothing = no_head refl refl

-- parameters, and what stands behind them in the place of their bar
head_exported : {a b c : List Sym} {ns : List Name} → g.Parameters a b ns → AllFormed a → (AllFormed b → AllFormed c) → moves b ≡ moves c → Export a c (parameter_words ns) (SomeHead ns)
head_exported {ns = ns} d f rest moved =
    let inner = parameters_exported d f in
    exports_as (words-parameters d) (exports_map (head_made ns) (exports_then inner (exports_word (Mark sign.Bar) (rest inner.rest) tt moved)))

-- ---- unary messages

unaries_none : (ss r : List Sym) → Nothing ss r → SomeUnaries [] ss r
unaries_none ss r nothing = some_unaries [] g.none refl

message_same : (t : List ℕ) (at here : ℕ) (os qs : List Operand) → map bare_o qs ≡ map bare_o os → bare_m (message t here qs) ≡ bare_m (message t at os)
message_same t at here os qs same = bare-message t here qs ∙ ap (message t 0) same ∙ sym (bare-message t at os)

unaries_more : (t : List ℕ) (at : ℕ) (ms : List Message) → (ss r : List Sym) → Then (Is (word.Named t)) (SomeUnaries ms) ss r → SomeUnaries (message t at [] ∷ ms) ss r
unaries_more t at ms ss r (then_is (placed here) (some_unaries ns d same)) = some_unaries (message t here [] ∷ ns) (g.more d) (head_same (message_same t at here [] [] refl) same)

words-chain : (t : List ℕ) (at : ℕ) (os : List Operand) (ms : List Message) → chain_words (message t at os ∷ ms) ≡ message_words t (map operand_words os) ++ chain_words ms
words-chain t at os ms = ap (λ (ws : Words). ws ++ chain_words ms) (words-message t at os)

pub unaries_exported : {a b : List Sym} {ms : List Message} → g.Unaries a b ms → AllFormed a → Export a b (chain_words ms) (SomeUnaries ms)
unaries_exported g.none f = exports_map unaries_none (exports_nothing f refl)
unaries_exported (g.more {t = t} {at = at} {ms = ms} u) f =
    exports_as (words-chain t at [] ms) (exports_map (unaries_more t at ms) (exports_then (exports_word (word.Named t) f.1 f.0 refl) (unaries_exported u f.1)))

-- ---- what follows from being the same

nothing_same : {A : Type 0} (x : A) (xs : List A) → [] ≡ x ∷ xs → ⊥
nothing_same x xs e = cc

fine_same : (v : Bool) (ms ns : List Message) → map bare_m ns ≡ map bare_m ms → Fine v ms → Fine v ns
fine_same false ms ns same h = tt
fine_same true [] ns same h = absurd h
fine_same true (m ∷ ms) [] same h = nothing_same (bare_m m) (map bare_m ms) same
fine_same true (m ∷ ms) (n ∷ ns) same h = tt

receives_same : (ms ns cs ds : List Message) → map bare_m ns ≡ map bare_m ms → map bare_m ds ≡ map bare_m cs → Receives ms cs → Receives ns ds
receives_same (m ∷ ms) [] cs ds same same' h = absurd (nothing_same (bare_m m) (map bare_m ms) same)
receives_same (m ∷ ms) (n ∷ ns) cs ds same same' h = tt
receives_same [] (n ∷ ns) cs ds same same' h = tt
receives_same [] [] [] [] same same' h = tt
receives_same [] [] [] (d ∷ ds) same same' h = absurd (nothing_same (bare_m d) (map bare_m ds) (sym same'))
receives_same [] [] (c ∷ cs) ds same same' h = absurd h

chain_same : (us us' bs bs' : List Message) → map bare_m us' ≡ map bare_m us → map bare_m bs' ≡ map bare_m bs → map bare_m (us' ++ bs') ≡ map bare_m (us ++ bs)
chain_same us us' bs bs' e f = map-append bare_m us' bs' ∙ ap₂ (λ xs ys. xs ++ ys) e f ∙ sym (map-append bare_m us bs)

operand_same : (p q : Primary) (ms ns : List Message) → bare_p q ≡ bare_p p → map bare_m ns ≡ map bare_m ms → bare_o (operand q ns) ≡ bare_o (operand p ms)
operand_same p q ms ns e f = bare-operand q ns ∙ ap₂ operand e f ∙ sym (bare-operand p ms)

words-chain-append : (us bs : List Message) → chain_words (us ++ bs) ≡ chain_words us ++ chain_words bs
words-chain-append us bs = ap joined (map-append each_message us bs) ∙ joined-append (map each_message us) (map each_message bs)

-- ---- primaries of one word

named_made : (t : List ℕ) (at : ℕ) → role t ≡ IsName → (ss r : List Sym) → Is (word.Named t) ss r → SomePrimary (variable (name t at)) false ss r
named_made t at e ss r (placed here) = some_primary (variable (name t here)) (g.named e) (bare-variable (name t here) ∙ sym (bare-variable (name t at)))

value_made : (t : List ℕ) (p : Primary) → role t ≡ IsValue p → (ss r : List Sym) → Is (word.Named t) ss r → SomePrimary p false ss r
value_made t p e ss r (placed here) = some_primary p (g.value e) refl

super_made : (t : List ℕ) → role t ≡ IsSuper → (ss r : List Sym) → Is (word.Named t) ss r → SomePrimary primary.SuperValue true ss r
super_made t e ss r (placed here) = some_primary primary.SuperValue (g.super e) refl

nil_role : role (codes "nil") ≡ IsValue (primary.Literal literal.Nil)
unfolding role
nil_role = refl

true_role : role (codes "true") ≡ IsValue (primary.Literal literal.True)
unfolding role
true_role = refl

false_role : role (codes "false") ≡ IsValue (primary.Literal literal.False)
unfolding role
false_role = refl

self_role : role (codes "self") ≡ IsValue primary.SelfValue
unfolding role
self_role = refl

super_role : role (codes "super") ≡ IsSuper
unfolding role
super_role = refl

-- the values that identifiers stand for
pub data IsConstant : Primary → Type 0 where
  is_nil : IsConstant (primary.Literal literal.Nil)
  is_true : IsConstant (primary.Literal literal.True)
  is_false : IsConstant (primary.Literal literal.False)
  is_self : IsConstant primary.SelfValue

value_inside : (p q : Primary) → IsValue p ≡ IsValue q → p ≡ q
value_inside p q e = cc

pub constant_of : (t : List ℕ) (p : Primary) → role t ≡ IsValue p → IsConstant p
unfolding role
constant_of t p e = of (bytes_eq t (codes "nil")) (bytes_eq t (codes "true")) (bytes_eq t (codes "false")) (bytes_eq t (codes "self")) (bytes_eq t (codes "super")) e
  where
    of : (a b c d s : Bool) → (if a then IsValue (primary.Literal literal.Nil) else (if b then IsValue (primary.Literal literal.True) else (if c then IsValue (primary.Literal literal.False) else (if d then IsValue primary.SelfValue else (if s then IsSuper else IsName))))) ≡ IsValue p → IsConstant p
    of true b c d s e = subst IsConstant (value_inside _ p e) is_nil
    of false true c d s e = subst IsConstant (value_inside _ p e) is_true
    of false false true d s e = subst IsConstant (value_inside _ p e) is_false
    of false false false true s e = subst IsConstant (value_inside _ p e) is_self
    of false false false false true e = absurd (let k : IsSuper ≡ IsValue p = e in cc)
    of false false false false false e = absurd (let k : IsName ≡ IsValue p = e in cc)

constant_exported : {p : Primary} → IsConstant p → {a b : List Sym} → AllFormed b → moves a ≡ moves b → Export a b (primary_words p) (SomePrimary p false)
constant_exported is_nil rest moved = exports_as (literal_in literal.Nil ∙ literal_nil) (exports_map (value_made (codes "nil") (primary.Literal literal.Nil) nil_role) (exports_word (word.Named (codes "nil")) rest refl moved))
constant_exported is_true rest moved = exports_as (literal_in literal.True ∙ literal_true) (exports_map (value_made (codes "true") (primary.Literal literal.True) true_role) (exports_word (word.Named (codes "true")) rest refl moved))
constant_exported is_false rest moved = exports_as (literal_in literal.False ∙ literal_false) (exports_map (value_made (codes "false") (primary.Literal literal.False) false_role) (exports_word (word.Named (codes "false")) rest refl moved))
constant_exported is_self rest moved = exports_as self_in (exports_map (value_made (codes "self") primary.SelfValue self_role) (exports_word (word.Named (codes "self")) rest refl moved))

-- a literal where a primary stands
number_primary : (n : ℕ) → n < 2 ^ 127 → (ss r : List Sym) → Is (word.Number (pos n)) ss r → SomePrimary (constant (integer n)) false ss r
number_primary n low ss r (placed at) = some_primary (constant (integer n)) (g.number low) refl

minus_primary : (n : ℕ) → suc n ≤ 2 ^ 127 → (ss r : List Sym) → Is (word.Number (negsuc n)) ss r → SomePrimary (constant (negative (suc n))) false ss r
minus_primary n low ss r (placed at) = some_primary (constant (negative (suc n))) (g.negative_number refl low) refl

number_constant : (n : ℕ) → n < 2 ^ 127 → {a b : List Sym} → AllFormed b → moves a ≡ moves b → Export a b (primary_words (constant (integer n))) (SomePrimary (constant (integer n)) false)
number_constant n low rest moved = exports_as (literal_in (integer n) ∙ literal_integer (pos n)) (exports_map (number_primary n low) (exports_word (word.Number (pos n)) rest (small n low) moved))

negative_constant : (n : ℕ) → n ≤ 2 ^ 127 → {a b : List Sym} → AllFormed b → moves a ≡ moves b → Export a b (primary_words (constant (negative n))) (SomePrimary (constant (negative n)) false)
negative_constant zero low {a = a} {b = b} rest moved = subst (λ l. Export a b (primary_words (constant l)) (SomePrimary (constant l) false)) zero_same (number_constant 0 (no_minus 0 refl) rest moved)
negative_constant (suc n) low rest moved =
    exports_as (literal_in (negative (suc n)) ∙ ap (λ z. literal_words (literal.Integer z)) (sym (minus_z n)) ∙ literal_integer (negsuc n)) (exports_map (minus_primary n low) (exports_word (word.Number (negsuc n)) rest low moved))

character_primary : (c : ℕ) (ss r : List Sym) → Is (word.Char c) ss r → SomePrimary (constant (literal.Character c)) false ss r
character_primary c ss r (placed at) = some_primary (constant (literal.Character c)) g.one_token refl

string_primary : (t : List ℕ) (ss r : List Sym) → Is (word.Str t) ss r → SomePrimary (constant (literal.Str t)) false ss r
string_primary t ss r (placed at) = some_primary (constant (literal.Str t)) g.one_token refl

symbol_primary : (t : List ℕ) (ss r : List Sym) → Is (word.Symbol t) ss r → SomePrimary (constant (literal.Symbol t)) false ss r
symbol_primary t ss r (placed at) = some_primary (constant (literal.Symbol t)) g.one_token refl

plain_constant : {l : Literal} → IsPlain l → {a b : List Sym} → AllFormed b → moves a ≡ moves b → Export a b (primary_words (constant l)) (SomePrimary (constant l) false)
plain_constant (a_character {c = c}) rest moved = exports_as (literal_in (literal.Character c) ∙ literal_character c) (exports_map (character_primary c) (exports_word (word.Char c) rest tt moved))
plain_constant (a_string {t = t}) rest moved = exports_as (literal_in (literal.Str t) ∙ literal_str t) (exports_map (string_primary t) (exports_word (word.Str t) rest tt moved))
plain_constant (a_symbol {t = t}) rest moved = exports_as (literal_in (literal.Symbol t) ∙ literal_symbol t) (exports_map (symbol_primary t) (exports_word (word.Symbol t) rest tt moved))

array_primary : (ls : List Literal) (ss r : List Sym) → Then (Is (Mark sign.ArrayOpen)) (Then (ItemsOf ls) (Is (Mark sign.ParenClose))) ss r → SomePrimary (constant (array ls)) false ss r
array_primary ls ss r (then_is (placed at) (then_is items (placed end))) = some_primary (constant (array ls)) (g.in_array items) refl

array_constant : (ls : List Literal) {a b : List Sym} → g.Items a (ParenClose ∷ b) ls → AllFormed a → Export (ArrayOpen ∷ a) b (primary_words (constant (array ls))) (SomePrimary (constant (array ls)) false)
array_constant ls d f =
    let items = items_exported d f in
    exports_as (literal_in (array ls) ∙ words-array ls) (exports_map (array_primary ls) (exports_then (exports_word (Mark sign.ArrayOpen) f tt refl) (exports_then items (exports_word (Mark sign.ParenClose) items.rest.1 tt refl))))

-- ---- expressions in parentheses

expr_same : (ns ms : List Name) (o q : Operand) (cs ds : List Message) → map bare_name ms ≡ map bare_name ns → bare_o q ≡ bare_o o → map bare_m ds ≡ map bare_m cs → bare_e (expr ms q ds) ≡ bare_e (expr ns o cs)
expr_same ns ms o q cs ds e f h = bare-expr ms q ds ∙ ap (λ xs. expr xs (bare_o q) (map bare_m ds)) e ∙ ap (λ x. expr (map bare_name ns) x (map bare_m ds)) f ∙ ap (expr (map bare_name ns) (bare_o o)) h ∙ sym (bare-expr ns o cs)

paren_made : (ns : List Name) (o : Operand) (cs : List Message) (ss r : List Sym) → Then (Is (Mark sign.ParenOpen)) (Then (SomeExpr ns o cs) (Is (Mark sign.ParenClose))) ss r → SomePrimary (paren (expr ns o cs)) false ss r
paren_made ns o cs ss r (then_is (placed at) (then_is (some_expr ms q ds d e f h) (placed end))) =
    some_primary (paren (expr ms q ds)) (g.in_parens d) (bare-paren (expr ms q ds) ∙ ap paren (expr_same ns ms o q cs ds e f h) ∙ sym (bare-paren (expr ns o cs)))

-- ---- blocks

block_plain : (at here : ℕ) (ns ts us : List Name) (ss qs : List Statement) → ns ≡ [] → map bare_name us ≡ map bare_name ts → map bare_s qs ≡ map bare_s ss → bare_p (block here [] us qs) ≡ bare_p (block at ns ts ss)
block_plain at here ns ts us ss qs none e f =
    bare-block here [] us qs ∙ ap₂ (λ xs ys. block 0 [] xs ys) e f ∙ ap (λ ms. block 0 (map bare_name ms) (map bare_name ts) (map bare_s ss)) (sym none) ∙ sym (bare-block at ns ts ss)

block_headed : (at here : ℕ) (ns ms ts us : List Name) (ss qs : List Statement) → map bare_name ms ≡ map bare_name ns → map bare_name us ≡ map bare_name ts → map bare_s qs ≡ map bare_s ss → bare_p (block here ms us qs) ≡ bare_p (block at ns ts ss)
block_headed at here ns ms ts us ss qs h e f = bare-block here ms us qs ∙ ap (λ xs. block 0 xs (map bare_name us) (map bare_s qs)) h ∙ ap₂ (λ xs ys. block 0 (map bare_name ns) xs ys) e f ∙ sym (bare-block at ns ts ss)

block_made : (at : ℕ) (ns ts : List Name) (ss : List Statement) (a r : List Sym) → Then (Is (Mark sign.BlockOpen)) (Then (SomeHead ns) (Then (SomeTemps ts) (Then (SomeStatements ss) (Is (Mark sign.BlockClose))))) a r → SomePrimary (block at ns ts ss) false a r
block_made at ns ts ss a r (then_is (placed here) (then_is (no_head same none) (then_is {mid = mid} (some_temps us d e) (then_is (some_statements qs x f) (placed end))))) =
    some_primary (block here [] us qs) (g.plain_block (subst (λ b. g.Temps b mid us) (sym same) d) x) (block_plain at here ns ts us ss qs none e f)
block_made at ns ts ss a r (then_is (placed here) (then_is (some_head ms bar_at p h) (then_is (some_temps us d e) (then_is (some_statements qs x f) (placed end))))) =
    some_primary (block here ms us qs) (g.with_bar p d x) (block_headed at here ns ms ts us ss qs h e f)

-- a block, by what stands in it
block_exported : (at : ℕ) (ns ts : List Name) (ss : List Statement) {a b c d : List Sym} → AllFormed a → Export a b (parameter_words ns) (SomeHead ns) → Export b c (temporary_words sign.Bar ts) (SomeTemps ts) → Export c (BlockClose ∷ d) (parted (Mark sign.Period) (map statement_words ss)) (SomeStatements ss)
    → Export (BlockOpen at ∷ a) d (primary_words (block at ns ts ss)) (SomePrimary (block at ns ts ss) false)
block_exported at ns ts ss f x y z =
    exports_as (words-block at ns ts ss) (exports_map (block_made at ns ts ss) (exports_then (exports_word (Mark sign.BlockOpen) f tt refl) (exports_then x (exports_then y (exports_then z (exports_word (Mark sign.BlockClose) z.rest.1 tt refl))))))

-- ---- messages with arguments

binary_more : (t : List ℕ) (at : ℕ) (v : Bool) (p : Primary) (us ms : List Message) → Fine v us → (ss r : List Sym) → Then (Is (word.Operator t)) (Then (SomePrimary p v) (Then (SomeUnaries us) (SomeBinaries ms))) ss r → SomeBinaries (message t at (operand p us ∷ []) ∷ ms) ss r
binary_more t at v p us ms fine ss r (then_is (placed here) (then_is (some_primary q d e) (then_is (some_unaries vs u f) (some_binaries ns b h)))) =
    some_binaries (message t here (operand q vs ∷ []) ∷ ns) (g.more_binaries (operator_is t here) d u (fine_same v us vs f fine) b) (head_same (message_same t at here (operand p us ∷ []) (operand q vs ∷ []) (head_same (operand_same p q us vs e f) refl)) h)

words-binary : (t : List ℕ) (at : ℕ) (p : Primary) (us ms : List Message) → is_run is_operator_byte t ≡ true → chain_words (message t at (operand p us ∷ []) ∷ ms) ≡ word.Operator t ∷ (primary_words p ++ (chain_words us ++ chain_words ms))
words-binary t at p us ms is =
    words-chain t at (operand p us ∷ []) ms ∙ ap (λ (ws : Words). ws ++ chain_words ms) (sent-operator t (operand_words (operand p us)) is)
    ∙ ap (λ (ws : Words). word.Operator t ∷ (ws ++ chain_words ms)) (words-operand p us) ∙ ap (λ (ws : Words). word.Operator t ∷ ws) (append_assoc (primary_words p) (chain_words us) (chain_words ms))

binaries_none : (ss r : List Sym) → Nothing ss r → SomeBinaries [] ss r
binaries_none ss r nothing = some_binaries [] g.no_binaries refl

-- the words of arguments behind their first keyword
abbrev pub argument_words : List ℕ → List Operand → Words
argument_words selector os = behind_words selector (map operand_words os)

last_made : (v : Bool) (p : Primary) (us bs : List Message) → Fine v (us ++ bs) → (ss r : List Sym) → Then (SomePrimary p v) (Then (SomeUnaries us) (SomeBinaries bs)) ss r → SomeArguments [] (operand p (us ++ bs) ∷ []) ss r
last_made v p us bs fine ss r (then_is (some_primary q d e) (then_is (some_unaries vs u f) (some_binaries ns b h))) =
    some_arguments (operand q (vs ++ ns) ∷ []) (g.last_argument d u b (fine_same v (us ++ bs) (vs ++ ns) (chain_same us vs bs ns f h) fine)) (head_same (operand_same p q (us ++ bs) (vs ++ ns) e (chain_same us vs bs ns f h)) refl)

more_made : (t : List ℕ) (v : Bool) (p : Primary) (us bs : List Message) (selector : List ℕ) (os : List Operand) → Fine v (us ++ bs) → (ss r : List Sym) → Then (SomePrimary p v) (Then (SomeUnaries us) (Then (SomeBinaries bs) (Then (Is (word.Key t)) (SomeArguments selector os)))) ss r → SomeArguments (t ++ selector) (operand p (us ++ bs) ∷ os) ss r
more_made t v p us bs selector os fine ss r (then_is (some_primary q d e) (then_is (some_unaries vs u f) (then_is (some_binaries ns b h) (then_is (placed here) (some_arguments qs x k))))) =
    some_arguments (operand q (vs ++ ns) ∷ qs) (g.more_arguments d u b (fine_same v (us ++ bs) (vs ++ ns) (chain_same us vs bs ns f h) fine) x) (head_same (operand_same p q (us ++ bs) (vs ++ ns) e (chain_same us vs bs ns f h)) k)

words-last : (p : Primary) (us bs : List Message) → argument_words [] (operand p (us ++ bs) ∷ []) ≡ primary_words p ++ (chain_words us ++ chain_words bs)
words-last p us bs = append-nil (operand_words (operand p (us ++ bs))) ∙ words-operand p (us ++ bs) ∙ ap (λ (ws : Words). primary_words p ++ ws) (words-chain-append us bs)

-- there is an argument
some_operand : {a b : List Sym} {selector : List ℕ} {os : List Operand} → g.Arguments a b selector os → (o : Operand) × (more : List Operand) × (os ≡ o ∷ more)
some_operand (g.last_argument d u b fine) = (_, _, refl)
some_operand (g.more_arguments d u b fine x) = (_, _, refl)

words-key : {a b : List Sym} {selector : List ℕ} {os : List Operand} → g.Arguments a b selector os → (t : List ℕ) → IsKey t → sent_words (t ++ selector) (map operand_words os) ≡ word.Key t ∷ argument_words selector os
words-key {selector = selector} {os = os} d t key =
    let some = some_operand d in
    ap (λ xs. sent_words (t ++ selector) (map operand_words xs)) some.2 ∙ sent-key t selector (operand_words some.0) (map operand_words some.1) key ∙ ap (λ xs. word.Key t ∷ argument_words selector xs) (sym some.2)

words-more : {a b : List Sym} {selector : List ℕ} {os : List Operand} → g.Arguments a b selector os → (t : List ℕ) → IsKey t → (p : Primary) (us bs : List Message) → argument_words (t ++ selector) (operand p (us ++ bs) ∷ os) ≡ primary_words p ++ (chain_words us ++ (chain_words bs ++ (word.Key t ∷ argument_words selector os)))
words-more {selector = selector} {os = os} d t key p us bs =
    ap₂ (λ (xs ys : Words). xs ++ ys) (words-operand p (us ++ bs) ∙ ap (λ (ws : Words). primary_words p ++ ws) (words-chain-append us bs)) (words-key d t key)
    ∙ assoc (primary_words p) (chain_words us) (chain_words bs) (word.Key t ∷ argument_words selector os)
  where
    assoc : (a b c d : Words) → (a ++ (b ++ c)) ++ d ≡ a ++ (b ++ (c ++ d))
    assoc a b c d = append_assoc a (b ++ c) d ∙ ap (λ (ws : Words). a ++ ws) (append_assoc b c d)

-- a keyword message
message_words-key : {a b : List Sym} {selector : List ℕ} {os : List Operand} → g.Arguments a b selector os → (t : List ℕ) (at : ℕ) → IsKey t → each_message (message (t ++ selector) at os) ≡ word.Key t ∷ argument_words selector os
message_words-key {selector = selector} {os = os} d t at key =
    let some = some_operand d in
    words-message (t ++ selector) at os ∙ ap (λ xs. message_words (t ++ selector) (map operand_words xs)) some.2 ∙ ap (λ xs. sent_words (t ++ selector) (map operand_words xs)) (sym some.2) ∙ words-key d t key

short_made : (us bs : List Message) (ss r : List Sym) → Then (SomeUnaries us) (SomeBinaries bs) ss r → SomeMessages (us ++ bs) ss r
short_made us bs ss r (then_is (some_unaries vs u f) (some_binaries ns b h)) = some_messages (vs ++ ns) (g.short u b) (chain_same us vs bs ns f h)

long_made : (us bs : List Message) (t : List ℕ) (at : ℕ) (selector : List ℕ) (os : List Operand) (ss r : List Sym) → Then (SomeUnaries us) (Then (SomeBinaries bs) (Then (Is (word.Key t)) (SomeArguments selector os))) ss r → SomeMessages ((us ++ bs) ++ message (t ++ selector) at os ∷ []) ss r
long_made us bs t at selector os ss r (then_is (some_unaries vs u f) (then_is (some_binaries ns b h) (then_is (placed here) (some_arguments qs x k)))) =
    some_messages ((vs ++ ns) ++ message (t ++ selector) here qs ∷ []) (g.long u b x) (chain_same (us ++ bs) (vs ++ ns) (message (t ++ selector) at os ∷ []) (message (t ++ selector) here qs ∷ []) (chain_same us vs bs ns f h) (head_same (message_same (t ++ selector) at here os qs k) refl))

words-long : {a b : List Sym} {selector : List ℕ} {os : List Operand} → g.Arguments a b selector os → (us bs : List Message) (t : List ℕ) (at : ℕ) → IsKey t → chain_words ((us ++ bs) ++ message (t ++ selector) at os ∷ []) ≡ chain_words us ++ (chain_words bs ++ (word.Key t ∷ argument_words selector os))
words-long {selector = selector} {os = os} d us bs t at key =
    words-chain-append (us ++ bs) (message (t ++ selector) at os ∷ []) ∙ ap₂ (λ (xs ys : Words). xs ++ ys) (words-chain-append us bs) (append-nil (each_message (message (t ++ selector) at os)) ∙ message_words-key d t at key)
    ∙ append_assoc (chain_words us) (chain_words bs) (word.Key t ∷ argument_words selector os)

-- ---- cascades

abbrev pub cascade_words : List Message → Words
cascade_words cs = each_behind (Mark sign.Semicolon) (map each_message cs)

cascade_none : (ss r : List Sym) → Nothing ss r → SomeCascade [] ss r
cascade_none ss r nothing = some_cascade [] g.no_cascade refl

cascade_unary : (t : List ℕ) (at : ℕ) (ms : List Message) (ss r : List Sym) → Then (Is (Mark sign.Semicolon)) (Then (Is (word.Named t)) (SomeCascade ms)) ss r → SomeCascade (message t at [] ∷ ms) ss r
cascade_unary t at ms ss r (then_is (placed i) (then_is (placed here) (some_cascade ns d e))) = some_cascade (message t here [] ∷ ns) (g.unary_again d) (head_same (message_same t at here [] [] refl) e)

cascade_binary : (t : List ℕ) (at : ℕ) (v : Bool) (p : Primary) (us ms : List Message) → Fine v us → (ss r : List Sym) → Then (Is (Mark sign.Semicolon)) (Then (Is (word.Operator t)) (Then (SomePrimary p v) (Then (SomeUnaries us) (SomeCascade ms)))) ss r → SomeCascade (message t at (operand p us ∷ []) ∷ ms) ss r
cascade_binary t at v p us ms fine ss r (then_is (placed i) (then_is (placed here) (then_is (some_primary q d e) (then_is (some_unaries vs u f) (some_cascade ns b h))))) =
    some_cascade (message t here (operand q vs ∷ []) ∷ ns) (g.binary_again (operator_is t here) d u (fine_same v us vs f fine) b) (head_same (message_same t at here (operand p us ∷ []) (operand q vs ∷ []) (head_same (operand_same p q us vs e f) refl)) h)

cascade_keywords : (t : List ℕ) (at : ℕ) (selector : List ℕ) (os : List Operand) (ms : List Message) (ss r : List Sym) → Then (Is (Mark sign.Semicolon)) (Then (Is (word.Key t)) (Then (SomeArguments selector os) (SomeCascade ms))) ss r → SomeCascade (message (t ++ selector) at os ∷ ms) ss r
cascade_keywords t at selector os ms ss r (then_is (placed i) (then_is (placed here) (then_is (some_arguments qs x k) (some_cascade ns d e)))) = some_cascade (message (t ++ selector) here qs ∷ ns) (g.keywords_again x d) (head_same (message_same (t ++ selector) at here os qs k) e)

words-cascade : (t : List ℕ) (at : ℕ) (os : List Operand) (ms : List Message) → cascade_words (message t at os ∷ ms) ≡ Mark sign.Semicolon ∷ (message_words t (map operand_words os) ++ cascade_words ms)
words-cascade t at os ms = ap (λ (ws : Words). Mark sign.Semicolon ∷ (ws ++ cascade_words ms)) (words-message t at os)

words-cascade-binary : (t : List ℕ) (at : ℕ) (p : Primary) (us ms : List Message) → is_run is_operator_byte t ≡ true → cascade_words (message t at (operand p us ∷ []) ∷ ms) ≡ Mark sign.Semicolon ∷ (word.Operator t ∷ (primary_words p ++ (chain_words us ++ cascade_words ms)))
words-cascade-binary t at p us ms is =
    words-cascade t at (operand p us ∷ []) ms ∙ ap (λ (ws : Words). Mark sign.Semicolon ∷ (ws ++ cascade_words ms)) (sent-operator t (operand_words (operand p us)) is ∙ ap (λ (ws : Words). word.Operator t ∷ ws) (words-operand p us))
    ∙ ap (λ (ws : Words). Mark sign.Semicolon ∷ (word.Operator t ∷ ws)) (append_assoc (primary_words p) (chain_words us) (cascade_words ms))

words-cascade-key : {a b : List Sym} {selector : List ℕ} {os : List Operand} → g.Arguments a b selector os → (t : List ℕ) (at : ℕ) (ms : List Message) → IsKey t → cascade_words (message (t ++ selector) at os ∷ ms) ≡ Mark sign.Semicolon ∷ (word.Key t ∷ (argument_words selector os ++ cascade_words ms))
words-cascade-key d t at ms key = ap (λ (ws : Words). Mark sign.Semicolon ∷ (ws ++ cascade_words ms)) (message_words-key d t at key)

-- ---- expressions

assigned_made : (t : List ℕ) (at : ℕ) (ns : List Name) (o : Operand) (cs : List Message) → role t ≡ IsName → (ss r : List Sym) → Then (Is (word.Named t)) (Then (Is (Mark sign.Assign)) (SomeExpr ns o cs)) ss r → SomeExpr (name t at ∷ ns) o cs ss r
assigned_made t at ns o cs e ss r (then_is (placed here) (then_is (placed i) (some_expr ms q ds d f h k))) = some_expr (name t here ∷ ms) q ds (g.assigned e d) (head_same refl f) h k

sent_made : (v : Bool) (p : Primary) (ms cs : List Message) → Fine v ms → Receives ms cs → (ss r : List Sym) → Then (SomePrimary p v) (Then (SomeMessages ms) (SomeCascade cs)) ss r → SomeExpr [] (operand p ms) cs ss r
sent_made v p ms cs fine receives ss r (then_is (some_primary q d e) (then_is (some_messages ns m f) (some_cascade ds c h))) =
    some_expr [] (operand q ns) ds (g.sent d m (fine_same v ms ns f fine) c (receives_same ms ns cs ds f h receives)) refl (operand_same p q ms ns e f) h

pub words-assigned : (t : List ℕ) (at : ℕ) (ns : List Name) (o : Operand) (cs : List Message) → expr_words (expr (name t at ∷ ns) o cs) ≡ word.Named t ∷ (Mark sign.Assign ∷ expr_words (expr ns o cs))
words-assigned t at ns o cs = words-expr (name t at ∷ ns) o cs ∙ ap (λ (ws : Words). word.Named t ∷ (Mark sign.Assign ∷ ws)) (sym (words-expr ns o cs))

pub words-sent : (p : Primary) (ms cs : List Message) → expr_words (expr [] (operand p ms) cs) ≡ primary_words p ++ (chain_words ms ++ cascade_words cs)
words-sent p ms cs = words-expr [] (operand p ms) cs ∙ ap (λ (ws : Words). ws ++ cascade_words cs) (words-operand p ms) ∙ append_assoc (primary_words p) (chain_words ms) (cascade_words cs)

-- ---- statements

-- the two periods
pub data IsDot : Sign → Type 0 where
  inner_dot : IsDot sign.Period
  top_dot : IsDot sign.PeriodLine

dot_word : {stop : Sign} → IsDot stop → {b : List Sym} → AllFormed b → Export (Period ∷ b) b (Mark stop ∷ []) (Is (Mark stop))
dot_word inner_dot f = exports_word (Mark sign.Period) f tt refl
dot_word top_dot f = exports_word (Mark sign.PeriodLine) f tt refl

return_same : (ns ms : List Name) (o q : Operand) (cs ds : List Message) → map bare_name ms ≡ map bare_name ns → bare_o q ≡ bare_o o → map bare_m ds ≡ map bare_m cs → bare_s (stated true (expr ms q ds)) ≡ bare_s (stated true (expr ns o cs))
return_same ns ms o q cs ds e f h = bare-return (expr ms q ds) ∙ ap (stated true) (expr_same ns ms o q cs ds e f h) ∙ sym (bare-return (expr ns o cs))

value_same : (ns ms : List Name) (o q : Operand) (cs ds : List Message) → map bare_name ms ≡ map bare_name ns → bare_o q ≡ bare_o o → map bare_m ds ≡ map bare_m cs → bare_s (stated false (expr ms q ds)) ≡ bare_s (stated false (expr ns o cs))
value_same ns ms o q cs ds e f h = bare-value (expr ms q ds) ∙ ap (stated false) (expr_same ns ms o q cs ds e f h) ∙ sym (bare-value (expr ns o cs))

statements_none : (ss r : List Sym) → Nothing ss r → SomeStatements [] ss r
statements_none ss r nothing = some_statements [] g.no_statements refl

return_made : (ns : List Name) (o : Operand) (cs : List Message) (ss r : List Sym) → Then (Is (Mark sign.Caret)) (SomeExpr ns o cs) ss r → SomeStatements (stated true (expr ns o cs) ∷ []) ss r
return_made ns o cs ss r (then_is (placed at) (some_expr ms q ds d e f h)) = some_statements (stated true (expr ms q ds) ∷ []) (g.returned d) (head_same (return_same ns ms o q cs ds e f h) refl)

last_statement_made : (ns : List Name) (o : Operand) (cs : List Message) (ss r : List Sym) → SomeExpr ns o cs ss r → SomeStatements (stated false (expr ns o cs) ∷ []) ss r
last_statement_made ns o cs ss r (some_expr ms q ds d e f h) = some_statements (stated false (expr ms q ds) ∷ []) (g.last_statement d) (head_same (value_same ns ms o q cs ds e f h) refl)

more_statements_made : (stop : Sign) → IsDot stop → (ns : List Name) (o : Operand) (cs : List Message) (xs : List Statement) (ss r : List Sym) → Then (SomeExpr ns o cs) (Then (Is (Mark stop)) (SomeStatements xs)) ss r → SomeStatements (stated false (expr ns o cs) ∷ xs) ss r
more_statements_made stop inner_dot ns o cs xs ss r (then_is (some_expr ms q ds d e f h) (then_is (placed at) (some_statements ys x k))) = some_statements (stated false (expr ms q ds) ∷ ys) (g.more_statements d x) (head_same (value_same ns ms o q cs ds e f h) k)
more_statements_made stop top_dot ns o cs xs ss r (then_is (some_expr ms q ds d e f h) (then_is (placed at) (some_statements ys x k))) = some_statements (stated false (expr ms q ds) ∷ ys) (g.more_statements d x) (head_same (value_same ns ms o q cs ds e f h) k)

-- the statements behind a period
abbrev pub statements_of : Sign → List Statement → Words
statements_of stop ss = parted (Mark stop) (map statement_words ss)

pub words-one : (stop : Sign) (ns : List Name) (o : Operand) (cs : List Message) → statements_of stop (stated false (expr ns o cs) ∷ []) ≡ expr_words (expr ns o cs)
words-one stop ns o cs = append-nil (statement_words (stated false (expr ns o cs))) ∙ words-value (expr ns o cs)

pub words-returned : (stop : Sign) (ns : List Name) (o : Operand) (cs : List Message) → statements_of stop (stated true (expr ns o cs) ∷ []) ≡ Mark sign.Caret ∷ expr_words (expr ns o cs)
words-returned stop ns o cs = append-nil (statement_words (stated true (expr ns o cs))) ∙ words-return (expr ns o cs)

pub words-statements : (stop : Sign) (ns : List Name) (o : Operand) (cs : List Message) (x : Statement) (xs : List Statement) → statements_of stop (stated false (expr ns o cs) ∷ x ∷ xs) ≡ expr_words (expr ns o cs) ++ (Mark stop ∷ statements_of stop (x ∷ xs))
words-statements stop ns o cs x xs = ap (λ (ws : Words). ws ++ (Mark stop ∷ statements_of stop (x ∷ xs))) (words-value (expr ns o cs))

no_more : {b c : List Sym} → g.Statements b c [] → (AllFormed b → AllFormed c) × (moves b ≡ moves c)
no_more g.no_statements = (λ f. f, refl)

-- ---- the grammar's parts

mutual
  pub primary_exported : {a b : List Sym} {p : Primary} {v : Bool} → g.IsPrimary a b p v → AllFormed a → Export a b (primary_words p) (SomePrimary p v)
  primary_exported (g.named {t = t} {at = at} e) f = exports_as (variable_in (name t at)) (exports_map (named_made t at e) (exports_word (word.Named t) f.1 f.0 refl))
  primary_exported (g.value {t = t} {p = p} e) f = constant_exported (constant_of t p e) f.1 refl
  primary_exported (g.super {t = t} e) f = exports_as super_in (exports_map (super_made (codes "super") super_role) (exports_word (word.Named (codes "super")) f.1 refl refl))
  primary_exported (g.number {n = n} low) f = number_constant n low f.1 refl
  primary_exported (g.negative_number {n = n} next low) f = negative_constant n low f.1.1 refl
  primary_exported g.one_token f = plain_constant f.0 f.1 refl
  primary_exported (g.in_array {ls = ls} items) f = array_constant ls items f.1
  primary_exported (g.in_parens {targets = ns} {o = o} {cs = cs} e) f =
      let inner = expr_exported e f.1 in
      exports_as (words-paren (expr ns o cs)) (exports_map (paren_made ns o cs) (exports_then (exports_word (Mark sign.ParenOpen) f.1 tt refl) (exports_then inner (exports_word (Mark sign.ParenClose) inner.rest.1 tt refl))))
  primary_exported (g.plain_block {at = at} {ts = ts} {ss = ss} t s) f =
      let y = temps_exported sign.Bar inner_bar t f.1 in
      block_exported at [] ts ss f.1 (exports_map no_head_made (exports_nothing f.1 refl)) y (statements_exported sign.Period inner_dot s y.rest)
  primary_exported (g.with_bar {at = at} {ns = ns} {ts = ts} {ss = ss} n t s) f =
      let x = head_exported n f.1 (λ h. h.1) refl in
      let y = temps_exported sign.Bar inner_bar t x.rest in
      block_exported at ns ts ss f.1 x y (statements_exported sign.Period inner_dot s y.rest)
  primary_exported (g.with_two_bars {at = at} {ns = ns} {ts = ts} {ss = ss} n t s) f =
      let x = head_exported n f.1 (λ h. h.1) refl in
      let y = bars_exported sign.Bar inner_bar t x.rest in
      block_exported at ns ts ss f.1 x y (statements_exported sign.Period inner_dot s y.rest)
  primary_exported (g.with_three_bars {at = at} {ns = ns} {ss = ss} n s) f =
      let x = head_exported n f.1 (λ h. h.1) refl in
      block_exported at ns [] ss f.1 x (exports_map temps_none (exports_nothing x.rest refl)) (statements_exported sign.Period inner_dot s x.rest)
  primary_exported (g.only_parameters {at = at} {b = b} {ns = ns} n) f =
      let x = head_exported {c = BlockClose ∷ b} n f.1 (λ h. h) refl in
      block_exported at ns [] [] {c = BlockClose ∷ b} f.1 x (exports_map temps_none (exports_nothing x.rest refl)) (exports_map statements_none (exports_nothing x.rest refl))

  binaries_exported : {a b : List Sym} {ms : List Message} → g.Binaries a b ms → AllFormed a → Export a b (chain_words ms) (SomeBinaries ms)
  binaries_exported g.no_binaries f = exports_map binaries_none (exports_nothing f refl)
  binaries_exported (g.more_binaries {t = t} {at = at} {v = v} {a = a} {p = p} {us = us} {ms = ms} o x u fine m) f =
      let first = primary_exported x f.1 in
      let second = unaries_exported u first.rest in
      exports_as (words-binary t at p us ms (op_run o f.0)) (exports_map (binary_more t at v p us ms fine) (exports_then (exports_word (word.Operator t) f.1 (op_run o f.0) (op_moves o a)) (exports_then first (exports_then second (binaries_exported m second.rest)))))

  arguments_exported : {a b : List Sym} {selector : List ℕ} {os : List Operand} → g.Arguments a b selector os → AllFormed a → Export a b (argument_words selector os) (SomeArguments selector os)
  arguments_exported (g.last_argument {v = v} {p = p} {us = us} {bs = bs} x u b fine) f =
      let first = primary_exported x f in
      let second = unaries_exported u first.rest in
      exports_as (words-last p us bs) (exports_map (last_made v p us bs fine) (exports_then first (exports_then second (binaries_exported b second.rest))))
  arguments_exported (g.more_arguments {v = v} {t = t} {p = p} {us = us} {bs = bs} {selector = selector} {os = os} x u b fine m) f =
      let first = primary_exported x f in
      let second = unaries_exported u first.rest in
      let third = binaries_exported b second.rest in
      exports_as (words-more m t third.rest.0 p us bs) (exports_map (more_made t v p us bs selector os fine) (exports_then first (exports_then second (exports_then third (exports_then (exports_word (word.Key t) third.rest.1 third.rest.0 refl) (arguments_exported m third.rest.1))))))

  messages_exported : {a b : List Sym} {ms : List Message} → g.Messages a b ms → AllFormed a → Export a b (chain_words ms) (SomeMessages ms)
  messages_exported (g.short {us = us} {bs = bs} u b) f =
      let first = unaries_exported u f in
      exports_as (words-chain-append us bs) (exports_map (short_made us bs) (exports_then first (binaries_exported b first.rest)))
  messages_exported (g.long {t = t} {at = at} {us = us} {bs = bs} {selector = selector} {os = os} u b m) f =
      let first = unaries_exported u f in
      let second = binaries_exported b first.rest in
      exports_as (words-long m us bs t at second.rest.0) (exports_map (long_made us bs t at selector os) (exports_then first (exports_then second (exports_then (exports_word (word.Key t) second.rest.1 second.rest.0 refl) (arguments_exported m second.rest.1)))))

  cascade_exported : {a b : List Sym} {ms : List Message} → g.Cascade a b ms → AllFormed a → Export a b (cascade_words ms) (SomeCascade ms)
  cascade_exported g.no_cascade f = exports_map cascade_none (exports_nothing f refl)
  cascade_exported (g.unary_again {t = t} {at = at} {a = a} {ms = ms} m) f =
      exports_as (words-cascade t at [] ms) (exports_map (cascade_unary t at ms) (exports_then (exports_word (Mark sign.Semicolon) {b = Id t at ∷ a} f.1 tt refl) (exports_then (exports_word (word.Named t) {b = a} f.1.1 f.1.0 refl) (cascade_exported m f.1.1))))
  cascade_exported (g.binary_again {s = s} {t = t} {at = at} {v = v} {a = a} {p = p} {us = us} {ms = ms} o x u fine m) f =
      let first = primary_exported x f.1.1 in
      let second = unaries_exported u first.rest in
      exports_as (words-cascade-binary t at p us ms (op_run o f.1.0)) (exports_map (cascade_binary t at v p us ms fine)
      (exports_then (exports_word (Mark sign.Semicolon) {b = s ∷ a} f.1 tt refl) (exports_then (exports_word (word.Operator t) {b = a} f.1.1 (op_run o f.1.0) (op_moves o a)) (exports_then first (exports_then second (cascade_exported m second.rest))))))
  cascade_exported (g.keywords_again {t = t} {at = at} {a = a} {selector = selector} {os = os} {ms = ms} x m) f =
      let first = arguments_exported x f.1.1 in
      exports_as (words-cascade-key x t at ms f.1.0) (exports_map (cascade_keywords t at selector os ms)
      (exports_then (exports_word (Mark sign.Semicolon) {b = Key t at ∷ a} f.1 tt refl) (exports_then (exports_word (word.Key t) {b = a} f.1.1 f.1.0 refl) (exports_then first (cascade_exported m first.rest)))))

  pub expr_exported : {a b : List Sym} {ns : List Name} {o : Operand} {cs : List Message} → g.IsExpr a b ns o cs → AllFormed a → Export a b (expr_words (expr ns o cs)) (SomeExpr ns o cs)
  expr_exported (g.assigned {t = t} {at = at} {a = a} {ns = ns} {o = o} {cs = cs} e x) f =
      exports_as (words-assigned t at ns o cs) (exports_map (assigned_made t at ns o cs e) (exports_then (exports_word (word.Named t) {b = Assign ∷ a} f.1 f.0 refl) (exports_then (exports_word (Mark sign.Assign) {b = a} f.1.1 tt refl) (expr_exported x f.1.1))))
  expr_exported (g.sent {v = v} {p = p} {ms = ms} {cs = cs} x m fine c receives) f =
      let first = primary_exported x f in
      let second = messages_exported m first.rest in
      exports_as (words-sent p ms cs) (exports_map (sent_made v p ms cs fine receives) (exports_then first (exports_then second (cascade_exported c second.rest))))

  pub statements_exported : (stop : Sign) → IsDot stop → {a b : List Sym} {ss : List Statement} → g.Statements a b ss → AllFormed a → Export a b (parted (Mark stop) (map statement_words ss)) (SomeStatements ss)
  statements_exported stop dot g.no_statements f = exports_map statements_none (exports_nothing f refl)
  statements_exported stop dot (g.returned {ns = ns} {o = o} {cs = cs} x) f =
      exports_as (words-returned stop ns o cs) (exports_map (return_made ns o cs) (exports_then (exports_word (Mark sign.Caret) f.1 tt refl) (expr_exported x f.1)))
  statements_exported stop dot (g.returned_dot {ns = ns} {o = o} {cs = cs} x) f =
      exports_as (words-returned stop ns o cs) (exports_map (return_made ns o cs) (exports_then (exports_word (Mark sign.Caret) f.1 tt refl) (exports_upto (expr_exported x f.1))))
  statements_exported stop dot (g.last_statement {ns = ns} {o = o} {cs = cs} x) f = exports_as (words-one stop ns o cs) (exports_map (last_statement_made ns o cs) (expr_exported x f))
  statements_exported stop dot (g.more_statements {ns = ns} {o = o} {cs = cs} {ss = []} x s) f =
      let first = expr_exported x f in
      let none = no_more s in
      exports_as (words-one stop ns o cs) (exports_map (last_statement_made ns o cs) (exports_until (none.0 first.rest.1) none.1 first))
  statements_exported stop dot (g.more_statements {ns = ns} {o = o} {cs = cs} {ss = y ∷ ys} x s) f =
      let first = expr_exported x f in
      exports_as (words-statements stop ns o cs y ys) (exports_map (more_statements_made stop dot ns o cs (y ∷ ys)) (exports_then first (exports_then (dot_word dot first.rest.1) (statements_exported stop dot s first.rest.1))))
