-- What is read fits its selectors: each token has its form, so each tree that derives fits.
use Rattle.std.proofs.Common.{◌≡◌, ℕ, ◌+◌, ◌-◌, List, [], ◌∷◌, ◌++◌, take, drop, length, Bool, true, false, Option, None, Some, refl, ap, sym, subst, ◌∙◌, arith, append_assoc, length-append, codes, if◌then◌else◌}
use Rattle.std.proofs.lemmas.List.{drop_at}
use Rattle.std.specs.Str.{bytes_eq}
use Rattle.st_base.specs.TokenBytes.{is_operator_byte}
use Rattle.st_base.specs.declared.tokens.Token.{Token}
use Rattle.st_base.specs.declared.tokens.TokenKind.{TokenKind}
use Rattle.st_base.specs.declared.tokens.TokenKind.TheVariants as token_kind
use Rattle.st_base.specs.declared.tokens.LexFault.{LexFault}
use Rattle.st_base.specs.Lexed.{lexed_of}
use Rattle.st_base.specs.Lexes.{HasForm, is_run, LexesFrom, ended, white, comment, token, spoiled}
use Rattle.st_lexer.proofs.LexesLaw.{Lexes-lexed_of}
use Rattle.st_tree.specs.declared.headers.Header.{Header}
use Rattle.st_tree.specs.declared.headers.Header.TheVariants.{Whole, Awaits, Annotates}
use Rattle.st_tree.specs.declared.headers.Row.{Row}
use Rattle.st_tree.specs.declared.headers.Row.TheVariants as row
use Rattle.st_tree.specs.declared.headers.Target.{Target}
use Rattle.st_tree.specs.declared.headers.Target.TheVariants as target
use Rattle.st_tree.specs.declared.units.Unit.{Unit as FileUnit}
use Rattle.st_tree.specs.declared.units.UnitKind.{UnitKind}
use Rattle.st_tree.specs.Grammar.{Production, Tree, MethodTree, BodyTree, Derives, is_body, is_method}
use Rattle.st_tree.specs.Headers.{UnitOf, initializer, pool_initializer, program_initializer, method, class_method, Element, Says, Faulty, Walk, Filled, Stuck, Short, judged, by_row, header_of, walk, slots_of, row_of, is_identifier_kind, begins_version, says, says_first}
use Rattle.st_tree.specs.Symbols.{Sym, Op, Minus, Bar, TwoBars, ThreeBars, sym_at, syms, text_of}
use Rattle.st_tree.specs.Units.{IsReadable, Units, TextIs, Further, no_units, whole, with_text, file}
use Rattle.st_code.specs.Named.{NamedUnit}
use Rattle.st_code.specs.Written.{named_units, named_kind, named_body, with_named}
use Rattle.st_sends.specs.Fitting.{UnitFits, UnitsFit, StatementsFit}
use Rattle.st_parsed.proofs.GrammarFits.{SymFits, SymsFit, statements_fit, body_fits, temps_fit, pattern_fits}

-- ---- symbols

operator_fits : (a b c d : Bool) (t : List ℕ) (at : ℕ) → is_run is_operator_byte t ≡ true → SymFits (if a then Minus at else (if b then Bar at else (if c then TwoBars at else (if d then ThreeBars at else Op t at))))
operator_fits true b c d t at h = tt
operator_fits false true c d t at h = tt
operator_fits false false true d t at h = tt
operator_fits false false false true t at h = tt
operator_fits false false false false t at h = h

sym_fits : (k : TokenKind) (t after : List ℕ) (at : ℕ) → HasForm k t after → SymFits (sym_at k t at)
sym_fits token_kind.Identifier t after at h = h
sym_fits token_kind.Keyword t after at (name, e, is, off) = (name, e, is)
sym_fits token_kind.Operator t after at (is, cut) = operator_fits (bytes_eq t (codes "-")) (bytes_eq t (codes "|")) (bytes_eq t (codes "||")) (bytes_eq t (codes "|||")) t at is
sym_fits (token_kind.Integer n) t after at h = tt
sym_fits token_kind.Character t after at h = tt
sym_fits token_kind.Str t after at h = tt
sym_fits token_kind.Symbol t after at h = tt
sym_fits token_kind.QuotedSymbol t after at h = tt
sym_fits token_kind.ArrayOpen t after at h = tt
sym_fits token_kind.ParenOpen t after at h = tt
sym_fits token_kind.ParenClose t after at h = tt
sym_fits token_kind.BlockOpen t after at h = tt
sym_fits token_kind.BlockClose t after at h = tt
sym_fits token_kind.Colon t after at h = tt
sym_fits token_kind.Assign t after at h = tt
sym_fits token_kind.Caret t after at h = tt
sym_fits token_kind.Period t after at h = tt
sym_fits token_kind.Semicolon t after at h = tt

take_behind : (t after : List ℕ) → take (length t) (t ++ after) ≡ t
take_behind [] after = refl
take_behind (c ∷ t) after = ap (λ x. c ∷ x) (take_behind t after)

tokens_fit : {at : ℕ} {bytes : List ℕ} {tokens : List Token} {fault : Option LexFault} → LexesFrom at bytes tokens fault → (text before : List ℕ) → text ≡ before ++ bytes → length before ≡ at → SymsFit (syms text tokens)
tokens_fit ended text before e n = tt
tokens_fit (white {c = c} {cs = cs} is more) text before e n =
    tokens_fit more text (before ++ c ∷ []) (e ∙ sym (append_assoc before (c ∷ []) cs)) (length-append before (c ∷ []) ∙ ap (λ x. x + 1) n)
tokens_fit (comment inner after {at = at} is all more) text before e n =
    tokens_fit more text (before ++ (34 ∷ (inner ++ 34 ∷ [])))
    (e ∙ ap (λ x. before ++ x) (is ∙ ap (λ x. 34 ∷ x) (sym (append_assoc inner (34 ∷ []) after))) ∙ sym (append_assoc before (34 ∷ (inner ++ 34 ∷ [])) after))
    (omega (arith, length-append before (34 ∷ (inner ++ 34 ∷ [])), length-append inner (34 ∷ []), n))
tokens_fit (token k t after {at = at} is form more) text before e n =
    let front : drop at text ≡ t ++ after = ap (λ m. drop m text) (sym n) ∙ ap (drop (length before)) (e ∙ ap (λ x. before ++ x) is) ∙ drop_at before (t ++ after) (length before) refl in
    let count : (at + length t) - at ≡ length t = omega arith in
    let there : take ((at + length t) - at) (drop at text) ≡ t = ap (λ m. take m (drop at text)) count ∙ ap (take (length t)) front ∙ take_behind t after in (
      subst (λ x. SymFits (sym_at k x at)) (sym there) (sym_fits k t after at form.form),
      tokens_fit more text (before ++ t) (e ∙ ap (λ x. before ++ x) is ∙ sym (append_assoc before t after)) (length-append before t ∙ ap (λ x. x + length t) n),
    )
tokens_fit (spoiled s) text before e n = tt

-- ---- trees

abbrev TreeFits : Tree → Type 0
TreeFits (BodyTree b) = StatementsFit (named_body b).statements
TreeFits (MethodTree m) = StatementsFit (named_body m.body).statements

derived : {p : Production} {a : List Sym} {tree : Tree} → Derives p a tree → SymsFit a → TreeFits tree
derived (is_body {ts = ts} {ss = ss} t s) h = body_fits ts ss (statements_fit s (temps_fit t h)).0
derived (is_method {ts = ts} {ss = ss} p t s) h = body_fits ts ss (statements_fit s (temps_fit t (pattern_fits p h))).0

text_fits : (p : Production) (text : List ℕ) (tree : Tree) → TextIs p text tree → TreeFits tree
text_fits p text tree is = derived is.derives (tokens_fit ((Lexes-lexed_of text (lexed_of text).tokens (lexed_of text).fault).1 refl) text [] refl refl)

-- ---- units

abbrev SaidFits : Option NamedUnit → Type 0
SaidFits None = Unit {0}
SaidFits (Some u) = UnitFits u

with_fits : (o : Option NamedUnit) (us : List NamedUnit) → SaidFits o → UnitsFit us → UnitsFit (with_named o us)
with_fits None us f h = h
with_fits (Some u) us f h = (f, h)

unit_fits : {t : Target} {tree : Tree} {k : UnitKind} → UnitOf t tree k → TreeFits tree → SaidFits (named_kind k)
unit_fits initializer h = h
unit_fits pool_initializer h = h
unit_fits program_initializer h = h
unit_fits method h = h
unit_fits class_method h = h

-- ---- elements that are whole units have no messages

abbrev HeaderFits : Header → Type 0
HeaderFits (Whole k) = SaidFits (named_kind k)
HeaderFits (Awaits t) = Unit {0}
HeaderFits (Annotates a) = Unit {0}

abbrev ElementFits : Element → Type 0
ElementFits (Says h) = HeaderFits h
ElementFits (Faulty byte why) = Unit {0}

header_fits : (r : Row) (first text : List ℕ) (ts : List Token) → HeaderFits (header_of r first text ts)
header_fits row.Version first text ts = tt
header_fits row.Class first text ts = tt
header_fits row.GlobalVariable first text ts = tt
header_fits row.GlobalConstant first text ts = tt
header_fits row.Pool first text ts = tt
header_fits row.PoolVariable first text ts = tt
header_fits row.PoolConstant first text ts = tt
header_fits row.PoolInitializer first text ts = tt
header_fits row.ProgramInitializer first text ts = tt
header_fits row.Initializer first text ts = tt
header_fits row.Method first text ts = tt
header_fits row.ClassMethod first text ts = tt
header_fits row.Annotation first text ts = tt

judged_fits : (w : Walk) (h : Header) (lexical : Option LexFault) (len : ℕ) → HeaderFits h → ElementFits (judged w h lexical len)
judged_fits (Stuck byte) h lexical len f = tt
judged_fits Filled h None len f = f
judged_fits Filled h (Some fault) len f = tt
judged_fits Short h None len f = tt
judged_fits Short h (Some fault) len f = tt

row_fits : (o : Option Row) (second : ℕ) (first text : List ℕ) (ts : List Token) (lexical : Option LexFault) → ElementFits (by_row o second first text ts lexical)
row_fits None second first text ts lexical = tt
row_fits (Some r) second first text ts lexical = judged_fits (walk (slots_of r) text ts) (header_of r first text ts) lexical (length text) (header_fits r first text ts)

chosen : (b : Bool) (x y : Element) → ElementFits x → ElementFits y → ElementFits (if b then x else y)
chosen true x y f h = f
chosen false x y f h = h

says_fits : (text : List ℕ) (ts : List Token) (lexical : Option LexFault) → ElementFits (says text ts lexical)
says_fits text [] lexical = judged_fits Filled _ lexical (length text) tt
says_fits text (a ∷ []) lexical = chosen (is_identifier_kind a.kind) _ _ (judged_fits Short (Awaits target.ProgramInitializer) lexical (length text) tt) tt
says_fits text (a ∷ b ∷ ts) lexical =
    chosen (is_identifier_kind a.kind) _ _ (row_fits (row_of (text_of text a) b.kind (text_of text b)) b.start (text_of text a) text ts lexical) tt

first_fits : (text : List ℕ) (ts : List Token) (lexical : Option LexFault) → ElementFits (says_first text ts lexical)
first_fits text ts lexical = chosen (begins_version text ts) _ _ (row_fits (Some row.Version) 0 [] text (drop 2 ts) lexical) tt

-- ---- files

further_fit : {texts : List (List ℕ)} {units : List FileUnit} → Further texts units → UnitsFit (named_units units)
unfolding named_units
further_fit no_units = tt
further_fit (whole {text = text} {kind = k} {units = units} e notes more) =
    with_fits (named_kind k) (named_units units) (subst ElementFits e (says_fits text (lexed_of text).tokens (lexed_of text).fault)) (further_fit more)
further_fit (with_text {text = text} {tree = tree} {kind = k} {units = units} e is u notes more) =
    with_fits (named_kind k) (named_units units) (unit_fits u (text_fits _ text tree is)) (further_fit more)

units_fit : {texts : List (List ℕ)} {units : List FileUnit} → Units texts units → UnitsFit (named_units units)
unfolding named_units
units_fit (file {text = text} {kind = k} {units = units} e notes more) =
    with_fits (named_kind k) (named_units units) (subst ElementFits e (first_fits text (lexed_of text).tokens (lexed_of text).fault)) (further_fit more)

pub read_fits : (units : List FileUnit) → IsReadable units → UnitsFit (named_units units)
read_fits units (texts, is) = units_fit is
