-- The text of a body, and that of a method, is a tree that is the same.
use Rattle.std.proofs.Common.{◌≡◌, ◌≢◌, ℕ, zero, suc, ℤ, pos, negsuc, Bool, true, false, true≢false, ◌&&◌, ◌==◌, if◌then◌else◌, List, [], ◌∷◌, ◌++◌, map, codes, refl, ap, ap₂, sym, ◌∙◌, subst, arith, append-nil, append_assoc, inl, inr}
use Rattle.std.specs.List.{list_all}
use Rattle.std.specs.Fmt.{decimal, signed_decimal}
use Rattle.std.proofs.lemmas.Bool.Decides.{eqb_tells}
use Rattle.st_base.specs.TokenBytes.{is_letter, is_digit, is_word_byte, is_operator_byte}
use Rattle.st_base.specs.Lexed.{lexed_of}
use Rattle.st_base.specs.Lexes.{is_identifier, is_run}
use Rattle.st_lexer.proofs.Runs.{and_left}
use Rattle.st_lexer.proofs.Spelled.{IsStop, at_end}
use Rattle.st_lexer.proofs.Decimals.{decimal-digits}
use Rattle.sif_chunks.specs.Reading.{is_white, is_white_byte}
use Rattle.st_tree.specs.declared.tree.Name.{Name}
use Rattle.st_tree.specs.declared.tree.Primary.{Primary}
use Rattle.st_tree.specs.declared.tree.Primary.TheViews.{out-roll-Body}
use Rattle.st_tree.specs.declared.tree.Statement.{Statement}
use Rattle.st_tree.specs.declared.tree.Body.{Body}
use Rattle.st_tree.specs.declared.tree.Method.{Method}
use Rattle.st_tree.specs.declared.tree.Message.{Message}
use Rattle.st_tree.specs.declared.tree.Operand.{Operand}
use Rattle.st_tree.specs.declared.tree.Literal.{Literal}
use Rattle.st_tree.specs.declared.tree.Literal.TheVariants as literal
use Rattle.st_tree.specs.Same.{bare_name, bare, bare_method}
use Rattle.st_tree.specs.Symbols.{Sym, Id, role, IsName, syms}
use Rattle.st_tree.specs.Trees.{name, integer, negative, array, constant, expr, body}
use Rattle.st_tree.specs.Grammar as g
use Rattle.st_tree.specs.Grammar.{Production, AMethod, ABody, Tree, MethodTree, BodyTree, Derives, is_body, is_method}
use Rattle.st_tree.specs.Faults.{Shallow}
use Rattle.st_tree.specs.Units.{TextIs}
use Rattle.sif_export.specs.Words as word
use Rattle.sif_export.specs.Words.{Word, Mark, Gap, Joined, Line, spell, closes, gap_bytes, laid, is_bare_symbol, quoted}
use Rattle.sif_export.specs.declared.sign.Sign.TheVariants as sign
use Rattle.sif_export.specs.TreeWords.{Words, message_words, sent_words, name_words, pattern_words, top_words, temporary_words, parted, statement_words, primary_words, expr_words}
use Rattle.sif_export.specs.ExportText.{lacks, is_empty_body, body_text, method_text}
use Rattle.sif_export.proofs.Steps.{variable_in, super_in, self_in, literal_in, literal_nil, literal_true, literal_false, literal_integer, literal_character, literal_str, literal_symbol, body_text-empty, body_text-some}
use Rattle.sif_export.proofs.Shown.{Seen, Shows, shows_end, shows_white, shows_comment, sym_seen, syms_seen}
use Rattle.sif_export.proofs.Lexing.{IsKey, IsWell, AreWell, Tokens, Lexed, lex_laid, laid_stops, line_joined}
use Rattle.sif_export.proofs.Lexing as lexing
use Rattle.sif_export.proofs.Exports.{Is, placed, Then, then_is, AllFormed, IsPlain, a_character, a_string, a_symbol, Export, exports_word, exports_then, exports_map, exports_as}
use Rattle.sif_export.proofs.ItemExports.{words-array}
use Rattle.sif_export.proofs.Built.{words-body, words-paren, words-block, bare-body}
use Rattle.sif_export.proofs.MessageParts.{sent-operator, sent-key, op_run, op_moves, operator_is}
use Rattle.sif_export.proofs.ExprExports.{SomeTemps, some_temps, SomeStatements, some_statements, temps_exported, statements_exported, top_bar, top_dot, head_same, IsConstant, is_nil, is_true, is_false, is_self, constant_of, words-sent, words-assigned, words-one, words-returned, words-statements}
use Rattle.sif_export.proofs.TextTokens.{text_formed, toks_of, toks_moves}
use Rattle.sif_export.proofs.Opened.{shallow_moves}

-- ---- patterns

pub data SomePattern (selector : List ℕ) (ns : List Name) (ss r : List Sym) : Type 0 where
  some_pattern : (ms : List Name) → g.Pattern ss r selector ms → map bare_name ms ≡ map bare_name ns → SomePattern selector ns ss r

pub data SomeKeywords (selector : List ℕ) (ns : List Name) (ss r : List Sym) : Type 0 where
  some_keywords : (ms : List Name) → g.KeywordPattern ss r selector ms → map bare_name ms ≡ map bare_name ns → SomeKeywords selector ns ss r

last_made : (k t : List ℕ) (at : ℕ) → role t ≡ IsName → (ss r : List Sym) → Then (Is (word.Key k)) (Is (word.Named t)) ss r → SomeKeywords k (name t at ∷ []) ss r
last_made k t at e ss r (then_is (placed i) (placed here)) = some_keywords (name t here ∷ []) (g.last e) refl

more_made : (k t : List ℕ) (at : ℕ) (selector : List ℕ) (ns : List Name) → role t ≡ IsName → (ss r : List Sym) → Then (Is (word.Key k)) (Then (Is (word.Named t)) (SomeKeywords selector ns)) ss r → SomeKeywords (k ++ selector) (name t at ∷ ns) ss r
more_made k t at selector ns e ss r (then_is (placed i) (then_is (placed here) (some_keywords ms d same))) = some_keywords (name t here ∷ ms) (g.more e d) (head_same refl same)

words-last : (k t : List ℕ) → IsKey k → sent_words k ((word.Named t ∷ []) ∷ []) ≡ word.Key k ∷ (word.Named t ∷ [])
words-last k t key = ap (λ (u : List ℕ). sent_words u ((word.Named t ∷ []) ∷ [])) (sym (append-nil k)) ∙ sent-key k [] (word.Named t ∷ []) [] key

keywords_exported : {a b : List Sym} {selector : List ℕ} {ns : List Name} → g.KeywordPattern a b selector ns → AllFormed a → Export a b (sent_words selector (map name_words ns)) (SomeKeywords selector ns)
keywords_exported (g.last {k = k} {t = t} {at = at} {a = a} e) f =
    exports_as (words-last k t f.0) (exports_map (last_made k t at e) (exports_then (exports_word (word.Key k) {b = Id t at ∷ a} f.1 f.0 refl) (exports_word (word.Named t) {b = a} f.1.1 f.1.0 refl)))
keywords_exported (g.more {k = k} {t = t} {selector = selector} {at = at} {a = a} {ns = ns} e d) f =
    exports_as (sent-key k selector (word.Named t ∷ []) (map name_words ns) f.0) (exports_map (more_made k t at selector ns e)
    (exports_then (exports_word (word.Key k) {b = Id t at ∷ a} f.1 f.0 refl) (exports_then (exports_word (word.Named t) {b = a} f.1.1 f.1.0 refl) (keywords_exported d f.1.1))))

unary_made : (t : List ℕ) (ss r : List Sym) → Is (word.Named t) ss r → SomePattern t [] ss r
unary_made t ss r (placed at) = some_pattern [] g.unary refl

binary_made : (u t : List ℕ) (at : ℕ) → role t ≡ IsName → (ss r : List Sym) → Then (Is (word.Operator u)) (Is (word.Named t)) ss r → SomePattern u (name t at ∷ []) ss r
binary_made u t at e ss r (then_is (placed i) (placed here)) = some_pattern (name t here ∷ []) (g.binary (operator_is u i) e) refl

pattern_of : (selector : List ℕ) (ns : List Name) (ss r : List Sym) → SomeKeywords selector ns ss r → SomePattern selector ns ss r
pattern_of selector ns ss r (some_keywords ms d same) = some_pattern ms (g.keywords d) same

words-keywords : {a b : List Sym} {selector : List ℕ} {ns : List Name} → g.KeywordPattern a b selector ns → message_words selector (map name_words ns) ≡ sent_words selector (map name_words ns)
words-keywords (g.last e) = refl
words-keywords (g.more e d) = refl

pattern_exported : {a b : List Sym} {selector : List ℕ} {ns : List Name} → g.Pattern a b selector ns → AllFormed a → Export a b (message_words selector (map name_words ns)) (SomePattern selector ns)
pattern_exported (g.unary {t = t}) f = exports_map (unary_made t) (exports_word (word.Named t) f.1 f.0 refl)
pattern_exported (g.binary {u = u} {t = t} {at = at} {a = a} o e) f =
    exports_as (sent-operator u (word.Named t ∷ []) (op_run o f.0)) (exports_map (binary_made u t at e) (exports_then (exports_word (word.Operator u) {b = Id t at ∷ a} f.1 (op_run o f.0) (op_moves o (Id t at ∷ a))) (exports_word (word.Named t) {b = a} f.1.1 f.1.0 refl)))
pattern_exported (g.keywords {selector = selector} {ns = ns} d) f = exports_as (words-keywords d) (exports_map (pattern_of selector ns) (keywords_exported d f))

-- ---- whole trees

pub data BodyFrom (b : Body) (ss r : List Sym) : Type 0 where
  body_from : {mid : List Sym} (ts : List Name) (us : List Statement) → g.Temps ss mid ts → g.Statements mid r us → bare (body ts us) ≡ bare b → BodyFrom b ss r

pub data MethodFrom (m : Method) (ss r : List Sym) : Type 0 where
  method_from : {mid : List Sym} (ns : List Name) (c : Body) → g.Pattern ss mid m.selector ns → BodyFrom c mid r → map bare_name ns ≡ map bare_name m.parameters → bare c ≡ bare m.body → MethodFrom m ss r

pub words-top : (ts : List Name) (ss : List Statement) → top_words (body ts ss) ≡ temporary_words sign.BarLine ts ++ parted (Mark sign.PeriodLine) (map statement_words ss)
unfolding top_words
words-top ts ss = words-body sign.PeriodLine sign.BarLine ts ss

body_made : (ts : List Name) (ss : List Statement) (a r : List Sym) → Then (SomeTemps ts) (SomeStatements ss) a r → BodyFrom (body ts ss) a r
body_made ts ss a r (then_is (some_temps us d e) (some_statements qs x f)) = body_from us qs d x (bare-body us qs ∙ ap₂ body e f ∙ sym (bare-body ts ss))

body_exported : {a b c : List Sym} {ts : List Name} {ss : List Statement} → g.Temps a b ts → g.Statements b c ss → AllFormed a → Export a c (top_words (body ts ss)) (BodyFrom (body ts ss))
body_exported {ts = ts} {ss = ss} t s f =
    let first = temps_exported sign.BarLine top_bar t f in
    exports_as (words-top ts ss) (exports_map (body_made ts ss) (exports_then first (statements_exported sign.PeriodLine top_dot s first.rest)))

abbrev method : List ℕ → List Name → Body → Method
method selector ns b = record { selector = selector; parameters = ns; body = b }

method_made : (selector : List ℕ) (ns : List Name) (b : Body) (ss r : List Sym) → Then (SomePattern selector ns) (BodyFrom b) ss r → MethodFrom (record { selector = selector; parameters = ns; body = b }) ss r
method_made selector ns b ss r (then_is (some_pattern ms d e) (body_from ts us t s f)) = method_from ms (body ts us) d (body_from ts us t s refl) e f

pub words-pattern : (selector : List ℕ) (ns : List Name) (b : Body) → pattern_words (record { selector = selector; parameters = ns; body = b }) ≡ message_words selector (map name_words ns)
unfolding pattern_words
words-pattern selector ns b = refl

-- what a tree's words are, and what they come to
abbrev pub TreeExport : List Sym → Tree → Type 0
TreeExport a (BodyTree b) = Export a [] (top_words b) (BodyFrom b)
TreeExport a (MethodTree m) = Export a [] (pattern_words m ++ top_words m.body) (MethodFrom m)

pub derives_exported : {p : Production} {a : List Sym} {tree : Tree} → Derives p a tree → AllFormed a → TreeExport a tree
derives_exported (is_body t s) f = body_exported t s f
derives_exported (is_method {selector = selector} {ns = ns} {ts = ts} {ss = ss} n t s) f =
    let first = pattern_exported n f in
    exports_as (ap (λ (ws : Words). ws ++ top_words (body ts ss)) (words-pattern selector ns (body ts ss))) (exports_map (method_made selector ns (body ts ss)) (exports_then first (body_exported t s first.rest)))

-- ---- texts

pub data BodyOf (b : Body) (ss : List Sym) : Type 0 where
  body_of : (c : Body) → Derives ABody ss (BodyTree c) → bare c ≡ bare b → BodyOf b ss

pub data MethodOf (m : Method) (ss : List Sym) : Type 0 where
  method_of : (k : Method) → Derives AMethod ss (MethodTree k) → bare_method k ≡ bare_method m → MethodOf m ss

whole_body : (b : Body) (ss : List Sym) → BodyFrom b ss [] → BodyOf b ss
whole_body b ss (body_from ts us t s e) = body_of (body ts us) (is_body t s) e

method_same : (k m : Method) → k.selector ≡ m.selector → map bare_name k.parameters ≡ map bare_name m.parameters → bare k.body ≡ bare m.body → bare_method k ≡ bare_method m
method_same k m e f h =
    ap (λ (s : List ℕ). method s (map bare_name k.parameters) (bare k.body)) e ∙ ap (λ ns. method m.selector ns (bare k.body)) f ∙ ap (method m.selector (map bare_name m.parameters)) h

whole_method : (m : Method) (ss : List Sym) → MethodFrom m ss [] → MethodOf m ss
whole_method m ss (method_from ns c n (body_from ts us t s e) same h) =
    method_of (record { selector = m.selector; parameters = ns; body = body ts us }) (is_method n t s) (method_same (record { selector = m.selector; parameters = ns; body = body ts us }) m refl same (e ∙ h))

-- what shows tokens that derive a tree is this tree
pub is_tree : (p : Production) (text : List ℕ) (all : List Seen) (tree : Tree) → Shows [] text all → Derives p (map sym_seen all) tree → Shallow (map sym_seen all) → TextIs p text tree
unfolding lexed_of
is_tree p text all tree shows derives shallow =
    let same : map sym_seen all ≡ syms text (lexed_of text).tokens = sym (syms_seen text (lexed_of text).tokens ∙ ap (map sym_seen) shows.as_seen) in
    record { whole = shows.whole; derives = subst (λ (ss : List Sym). Derives p ss tree) same derives; shallow = subst Shallow same shallow }

-- tokens of the words that a tree was read from are as deep
deep : (orig : List Sym) (ws : Words) (all : List Seen) {P : List Sym → List Sym → Type 0} → Export orig [] ws P → Tokens ws all [] → Shallow orig → Shallow (map sym_seen all)
deep orig ws all x tokens h = shallow_moves orig (map sym_seen all) (x.moved ∙ sym (toks_moves (toks_of tokens))) h

tokens_append : {a b : Words} {ps qs rs : List Seen} → Tokens a ps qs → Tokens b qs rs → Tokens (a ++ b) ps rs
tokens_append lexing.no_words y = y
tokens_append (lexing.next_word at x) y = lexing.next_word at (tokens_append x y)

well_left : (a b : Words) → AreWell (a ++ b) → AreWell a
well_left [] b h = tt
well_left (w ∷ ws) b h = (h.0, well_left ws b h.1)

well_right : (a b : Words) → AreWell (a ++ b) → AreWell b
well_right [] b h = h
well_right (w ∷ ws) b h = well_right ws b h.1

-- words behind others, each with a gap of its own, on a new line
pub two_laid : (g h : Gap) (a b : Words) → AreWell a → AreWell b → h ≢ Joined → (all : List Seen) × Shows [] (10 ∷ (laid g a ++ laid h b)) all × Tokens (a ++ b) all []
two_laid g h a b well_a well_b gap =
    let front : List ℕ = 10 ∷ [] in
    let second = lex_laid h b (front ++ laid g a) [] [] well_b at_end (shows_end ((front ++ laid g a) ++ laid h b)) in
    let tail : Shows (front ++ laid g a) (laid h b) second.all = subst (λ (xs : List ℕ). Shows (front ++ laid g a) xs second.all) (append-nil (laid h b)) second.shows in
    let first = lex_laid g a front (laid h b) second.all well_a (subst IsStop (append-nil (laid h b)) (laid_stops h b [] gap at_end)) tail in
    (first.all, shows_white 10 [] (laid g a ++ laid h b) first.all refl first.shows, tokens_append first.tokens second.tokens)

pub one_laid : (g : Gap) (a : Words) → AreWell a → (all : List Seen) × Shows [] (10 ∷ laid g a) all × Tokens a all []
one_laid g a well =
    let front : List ℕ = 10 ∷ [] in
    let first = lex_laid g a front [] [] well at_end (shows_end (front ++ laid g a)) in
    (first.all, shows_white 10 [] (laid g a) first.all refl (subst (λ (xs : List ℕ). Shows front xs first.all) (append-nil (laid g a)) first.shows), first.tokens)

-- ---- a text that begins with a word is not white

eq_black : (p : ℕ → Bool) (c k : ℕ) → p k ≡ false → p c ≡ true → (c == k) ≡ false
eq_black p c k off is = elim (eqb_tells c k) [
  | inl same ↦ absurd (true≢false (sym is ∙ ap p same.1 ∙ off))
  | inr other ↦ other.0
]

not_white : (p : ℕ → Bool) (c : ℕ) → p 9 ≡ false → p 10 ≡ false → p 12 ≡ false → p 13 ≡ false → p 32 ≡ false → p c ≡ true → is_white_byte c ≡ false
not_white p c a b d e f is = rw (eq_black p c 9 a is, eq_black p c 10 b is, eq_black p c 12 d is, eq_black p c 13 e is, eq_black p c 32 f is) refl

first_black : (c : ℕ) (cs : List ℕ) → is_white_byte c ≡ false → is_white (c ∷ cs) ≡ false
first_black c cs is = rw is refl

letter_black : (t rest : List ℕ) → is_identifier t ≡ true → is_white (t ++ rest) ≡ false
letter_black [] rest is = absurd (true≢false (sym is))
letter_black (c ∷ cs) rest is = first_black c (cs ++ rest) (not_white is_letter c refl refl refl refl refl (and_left (is_letter c) (list_all is_word_byte cs) is))

run_black : (p : ℕ → Bool) (t rest : List ℕ) → p 9 ≡ false → p 10 ≡ false → p 12 ≡ false → p 13 ≡ false → p 32 ≡ false → is_run p t ≡ true → is_white (t ++ rest) ≡ false
run_black p [] rest a b d e f is = absurd (true≢false (sym is))
run_black p (c ∷ cs) rest a b d e f is = first_black c (cs ++ rest) (not_white p c a b d e f (and_left (p c) (list_all p cs) is))

key_black : (t rest : List ℕ) → IsKey t → is_white (t ++ rest) ≡ false
key_black t rest key = ap (λ (u : List ℕ). is_white (u ++ rest)) key.1 ∙ ap is_white (append_assoc key.0 (58 ∷ []) rest) ∙ letter_black key.0 (58 ∷ rest) key.2

number_black : (z : ℤ) (rest : List ℕ) → IsWell (word.Number z) → is_white (signed_decimal z ++ rest) ≡ false
number_black (pos n) rest low = run_black is_digit (decimal n) rest refl refl refl refl refl (decimal-digits n (lexing.wide n low))
number_black (negsuc n) rest low = first_black 45 (decimal (suc n) ++ rest) refl

sign_black : (s : word.Sign) (rest : List ℕ) → is_white (word.spell_sign s ++ rest) ≡ false
sign_black sign.ParenOpen rest = refl
sign_black sign.ParenClose rest = refl
sign_black sign.ArrayOpen rest = refl
sign_black sign.BlockOpen rest = refl
sign_black sign.BlockClose rest = refl
sign_black sign.Assign rest = refl
sign_black sign.Caret rest = refl
sign_black sign.Period rest = refl
sign_black sign.PeriodLine rest = refl
sign_black sign.Semicolon rest = refl
sign_black sign.Bar rest = refl
sign_black sign.BarLine rest = refl

word_black : (w : Word) (rest : List ℕ) → IsWell w → is_white (spell w ++ rest) ≡ false
word_black (Mark s) rest well = sign_black s rest
word_black (word.Named t) rest well = letter_black t rest well
word_black (word.Key t) rest well = key_black t rest well
word_black (word.Operator t) rest well = run_black is_operator_byte t rest refl refl refl refl refl well
word_black (word.Parameter t) rest well = refl
word_black (word.Number z) rest well = number_black z rest well
word_black (word.Char c) rest well = refl
word_black (word.Str t) rest well = refl
word_black (word.Symbol t) rest well = refl
word_black (word.Remark t) rest well = refl

-- words that there are
abbrev pub HasWord : Words → Type 0
HasWord ws = (w : Word) × (more : Words) × (ws ≡ w ∷ more)

joined_gap : (x : Bool) (s : List ℕ) → (if x then [] else []) ++ s ≡ s
joined_gap true s = refl
joined_gap false s = refl

pub laid_black : (ws : Words) (rest : List ℕ) → HasWord ws → AreWell ws → is_white (laid Joined ws ++ rest) ≡ false
laid_black ws rest has well =
    let w = has.0 in
    let after : List ℕ = laid (word.behind w) has.1 in
    let wells : AreWell (w ∷ has.1) = subst AreWell has.2 well in
    ap (λ (vs : Words). is_white (laid Joined vs ++ rest)) has.2 ∙ ap (λ (xs : List ℕ). is_white ((xs ++ after) ++ rest)) (joined_gap (closes w) (spell w)) ∙ ap is_white (append_assoc (spell w) after rest) ∙ word_black w (after ++ rest) wells.0

-- ---- each part has a word

front_word : {a c : Words} (b : Words) → c ≡ a ++ b → HasWord a → HasWord c
front_word b e has = (has.0, has.1 ++ b, e ∙ ap (λ (ws : Words). ws ++ b) has.2)

constant_word : {p : Primary} → IsConstant p → HasWord (primary_words p)
constant_word is_nil = (_, _, literal_in literal.Nil ∙ literal_nil)
constant_word is_true = (_, _, literal_in literal.True ∙ literal_true)
constant_word is_false = (_, _, literal_in literal.False ∙ literal_false)
constant_word is_self = (_, _, self_in)

plain_word : {l : Literal} → IsPlain l → HasWord (primary_words (constant l))
plain_word (a_character {c = c}) = (_, _, literal_in (literal.Character c) ∙ literal_character c)
plain_word (a_string {t = t}) = (_, _, literal_in (literal.Str t) ∙ literal_str t)
plain_word (a_symbol {t = t}) = (_, _, literal_in (literal.Symbol t) ∙ literal_symbol t)

primary_word : {a b : List Sym} {p : Primary} {v : Bool} → g.IsPrimary a b p v → AllFormed a → HasWord (primary_words p)
primary_word (g.named {t = t} {at = at} e) f = (_, _, variable_in (name t at))
primary_word (g.value {t = t} {p = p} e) f = constant_word (constant_of t p e)
primary_word (g.super e) f = (_, _, super_in)
primary_word (g.number {n = n} low) f = (_, _, literal_in (integer n) ∙ literal_integer (pos n))
primary_word (g.negative_number {n = n} next low) f = (_, _, literal_in (negative n) ∙ literal_integer _)
primary_word g.one_token f = plain_word f.0
primary_word (g.in_array {ls = ls} items) f = (_, _, literal_in (array ls) ∙ words-array ls)
primary_word (g.in_parens {targets = ns} {o = o} {cs = cs} e) f = (_, _, words-paren (expr ns o cs))
primary_word (g.plain_block {at = at} {ts = ts} {ss = ss} t s) f = (_, _, words-block at [] ts ss)
primary_word (g.with_bar {at = at} {ns = ns} {ts = ts} {ss = ss} n t s) f = (_, _, words-block at ns ts ss)
primary_word (g.with_two_bars {at = at} {ns = ns} {ts = ts} {ss = ss} n t s) f = (_, _, words-block at ns ts ss)
primary_word (g.with_three_bars {at = at} {ns = ns} {ss = ss} n s) f = (_, _, words-block at ns [] ss)
primary_word (g.only_parameters {at = at} {ns = ns} n) f = (_, _, words-block at ns [] [])

expr_word : {a b : List Sym} {ns : List Name} {o : Operand} {cs : List Message} → g.IsExpr a b ns o cs → AllFormed a → HasWord (expr_words (expr ns o cs))
expr_word (g.assigned {t = t} {at = at} {ns = ns} {o = o} {cs = cs} e x) f = (_, _, words-assigned t at ns o cs)
expr_word (g.sent {p = p} {ms = ms} {cs = cs} x m fine c receives) f = front_word _ (words-sent p ms cs) (primary_word x f)

statements_word : {a b : List Sym} {ss : List Statement} → g.Statements a b ss → AllFormed a → lacks ss ≡ false → HasWord (parted (Mark sign.PeriodLine) (map statement_words ss))
statements_word g.no_statements f some = absurd (true≢false some)
statements_word (g.returned {ns = ns} {o = o} {cs = cs} x) f some = (_, _, words-returned sign.PeriodLine ns o cs)
statements_word (g.returned_dot {ns = ns} {o = o} {cs = cs} x) f some = (_, _, words-returned sign.PeriodLine ns o cs)
statements_word (g.last_statement {ns = ns} {o = o} {cs = cs} x) f some = let has = expr_word x f in (has.0, has.1, words-one sign.PeriodLine ns o cs ∙ has.2)
statements_word (g.more_statements {ns = ns} {o = o} {cs = cs} {ss = []} x s) f some = let has = expr_word x f in (has.0, has.1, words-one sign.PeriodLine ns o cs ∙ has.2)
statements_word (g.more_statements {ns = ns} {o = o} {cs = cs} {ss = y ∷ ys} x s) f some = front_word _ (words-statements sign.PeriodLine ns o cs y ys) (expr_word x f)

pub empty-body : (ts : List Name) (ss : List Statement) → is_empty_body (body ts ss) ≡ (lacks ts && lacks ss)
unfolding body
empty-body ts ss = ap (λ r. lacks r.temporaries && lacks r.statements) (out-roll-Body (record { temporaries = ts; statements = ss }))

body_word : (ts : List Name) (ss : List Statement) {a b c : List Sym} → g.Temps a b ts → AllFormed b → g.Statements b c ss → (lacks ts && lacks ss) ≡ false → HasWord (top_words (body ts ss))
body_word [] ss t f s some = let has = statements_word s f some in (has.0, has.1, words-top [] ss ∙ has.2)
body_word (t ∷ ts) ss d f s some = (_, _, words-top (t ∷ ts) ss)

-- ---- the text of a body, behind a line's end

-- what is read of the text of a body is the same, and the text isn't white
pub record BodyRead (b : Body) : Type 0 where
  pub tree : Body
  pub reads : TextIs ABody (10 ∷ body_text b) (BodyTree tree)
  pub same : bare tree ≡ bare b
  pub black : is_white (10 ∷ body_text b) ≡ false

no_tokens : Shows [] (10 ∷ codes "\"\" ") []
no_tokens = shows_white 10 [] (codes "\"\" ") [] refl (shows_comment [] (10 ∷ []) (32 ∷ []) [] refl (shows_white 32 (10 ∷ 34 ∷ 34 ∷ []) [] [] refl (shows_end (10 ∷ 34 ∷ 34 ∷ 32 ∷ []))))

shallow_none : Shallow []
shallow_none zero low = omega arith
shallow_none (suc n) low = omega arith

both_lack : (ts : List Name) (ss : List Statement) → (lacks ts && lacks ss) ≡ true → body ts ss ≡ body [] []
both_lack [] [] is = refl
both_lack [] (s ∷ ss) is = absurd (true≢false (sym is))
both_lack (t ∷ ts) ss is = absurd (true≢false (sym is))

empty_read : (ts : List Name) (ss : List Statement) → (lacks ts && lacks ss) ≡ true → BodyRead (body ts ss)
empty_read ts ss is =
    let text : body_text (body ts ss) ≡ codes "\"\" " = body_text-empty (body ts ss) (sym (empty-body ts ss ∙ is)) in
    record {
      tree = body [] [];
      reads = subst (λ (xs : List ℕ). TextIs ABody (10 ∷ xs) (BodyTree (body [] []))) (sym text) (is_tree ABody (10 ∷ codes "\"\" ") [] (BodyTree (body [] [])) no_tokens (is_body g.none g.no_statements) shallow_none);
      same = ap bare (sym (both_lack ts ss is));
      black = ap (λ (xs : List ℕ). is_white (10 ∷ xs)) text;
    }

some_read : (b : Body) (orig : List Sym) → Export orig [] (top_words b) (BodyFrom b) → Shallow orig → is_empty_body b ≡ false → HasWord (top_words b) → BodyRead b
some_read b orig x shallow some has =
    let text : body_text b ≡ laid Joined (top_words b) = body_text-some b (sym some) in
    let laid' = one_laid Joined (top_words b) x.well in
    made b orig x shallow has text laid'.0 laid'.1 laid'.2 (whole_body b (map sym_seen laid'.0) (x.out (map sym_seen laid'.0) [] (toks_of laid'.2)))
  where
    made : (b : Body) (orig : List Sym) → Export orig [] (top_words b) (BodyFrom b) → Shallow orig → HasWord (top_words b) → body_text b ≡ laid Joined (top_words b) → (all : List Seen) → Shows [] (10 ∷ laid Joined (top_words b)) all → Tokens (top_words b) all [] → BodyOf b (map sym_seen all) → BodyRead b
    made b orig x shallow has text all shows tokens (body_of c d same) = record {
      tree = c;
      reads = subst (λ (xs : List ℕ). TextIs ABody (10 ∷ xs) (BodyTree c)) (sym text) (is_tree ABody (10 ∷ laid Joined (top_words b)) all (BodyTree c) shows d (deep orig (top_words b) all x tokens shallow));
      same = same;
      black = ap (λ (xs : List ℕ). is_white (10 ∷ xs)) (text ∙ sym (append-nil (laid Joined (top_words b)))) ∙ laid_black (top_words b) [] has x.well;
    }

either_read : (ts : List Name) (ss : List Statement) {a b : List Sym} (x : Bool) → (lacks ts && lacks ss) ≡ x → g.Temps a b ts → g.Statements b [] ss → AllFormed a → Shallow a → BodyRead (body ts ss)
either_read ts ss true is t s f shallow = empty_read ts ss is
either_read ts ss {a = a} false is t s f shallow =
    some_read (body ts ss) a (body_exported t s f) shallow (empty-body ts ss ∙ is) (body_word ts ss t (temps_exported sign.BarLine top_bar t f).rest s is)

-- ---- the text of a method, behind a line's end

pub record MethodRead (m : Method) : Type 0 where
  pub tree : Method
  pub reads : TextIs AMethod (10 ∷ method_text m) (MethodTree tree)
  pub same : bare_method tree ≡ bare_method m
  pub black : is_white (10 ∷ method_text m) ≡ false

message_word : (s : List ℕ) (xs : List Words) → HasWord (message_words s xs)
message_word s [] = (_, _, refl)
message_word s (x ∷ xs) = (_, _, refl)

pattern_word : (m : Method) → HasWord (pattern_words m)
unfolding pattern_words
pattern_word m = message_word m.selector (map name_words m.parameters)

method_read : (m : Method) (orig : List Sym) → Export orig [] (pattern_words m ++ top_words m.body) (MethodFrom m) → Shallow orig → MethodRead m
unfolding method_text
method_read m orig x shallow =
    let ws : Words = pattern_words m ++ top_words m.body in
    let well : AreWell (pattern_words m) = well_left (pattern_words m) (top_words m.body) x.well in
    let laid' = two_laid Joined Line (pattern_words m) (top_words m.body) well (well_right (pattern_words m) (top_words m.body) x.well) line_joined in
    made m orig x shallow well laid'.0 laid'.1 laid'.2 (whole_method m (map sym_seen laid'.0) (x.out (map sym_seen laid'.0) [] (toks_of laid'.2)))
  where
    made : (m : Method) (orig : List Sym) → Export orig [] (pattern_words m ++ top_words m.body) (MethodFrom m) → Shallow orig → AreWell (pattern_words m) → (all : List Seen) → Shows [] (10 ∷ (laid Joined (pattern_words m) ++ laid Line (top_words m.body))) all → Tokens (pattern_words m ++ top_words m.body) all [] → MethodOf m (map sym_seen all) → MethodRead m
    made m orig x shallow well all shows tokens (method_of k d same) = record {
      tree = k;
      reads = is_tree AMethod (10 ∷ method_text m) all (MethodTree k) shows d (deep orig (pattern_words m ++ top_words m.body) all x tokens shallow);
      same = same;
      black = laid_black (pattern_words m) (laid Line (top_words m.body)) (pattern_word m) well;
    }

-- ---- what a text was read as

abbrev pub TreeRead : Tree → Type 0
TreeRead (BodyTree b) = BodyRead b
TreeRead (MethodTree m) = MethodRead m

derived_read : {p : Production} {a : List Sym} {tree : Tree} → Derives p a tree → AllFormed a → Shallow a → TreeRead tree
derived_read (is_body {ts = ts} {ss = ss} t s) f shallow = either_read ts ss (lacks ts && lacks ss) refl t s f shallow
derived_read {a = a} (is_method {selector = selector} {ns = ns} {ts = ts} {ss = ss} n t s) f shallow = method_read _ a (derives_exported (is_method n t s) f) shallow

-- the text of a tree that was read is read as a tree that is the same
pub tree_read : {p : Production} {text : List ℕ} {tree : Tree} → TextIs p text tree → TreeRead tree
tree_read {text = text} h = derived_read h.derives (text_formed text) h.shallow
