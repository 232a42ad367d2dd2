-- What holds of headers that were read.
use Rattle.std.proofs.Common.{◌≡◌, ℕ, zero, suc, Bool, true, false, true≢false, ◌&&◌, ◌==◌, if◌then◌else◌, List, [], ◌∷◌, ◌++◌, length, codes, Option, None, Some, refl, ap, sym, ◌∙◌, subst, inl, inr}
use Rattle.std.specs.Prelude.{slice_get}
use Rattle.std.specs.List.{list_all}
use Rattle.std.specs.Str.{bytes_eq}
use Rattle.std.proofs.lemmas.Bool.Decides.{eqb_tells}
use Rattle.st_base.specs.declared.tokens.Token.{Token}
use Rattle.st_base.specs.declared.tokens.TokenKind.{TokenKind}
use Rattle.st_base.specs.declared.tokens.TokenKind.TheVariants as kind
use Rattle.st_base.specs.declared.tokens.LexFault.{LexFault}
use Rattle.st_base.specs.declared.faults.Reason.{Reason}
use Rattle.st_base.specs.declared.faults.Reason.TheVariants as reason
use Rattle.st_base.specs.TokenBytes.{is_white_byte}
use Rattle.st_base.specs.Lexed.{lexed_of}
use Rattle.st_base.specs.Lexes.{LexesFrom, ended, white, comment, token, spoiled}
use Rattle.st_base.specs.Lexes as lexes
use Rattle.st_lexer.proofs.Runs.{and_right}
use Rattle.st_lexer.proofs.Sound.{is_inner}
use Rattle.st_lexer.proofs.LexesLaw.{lexes-from}
use Rattle.sif_chunks.specs.Reading.{is_white}
use Rattle.st_tree.specs.Symbols.{text_of, sym_at, syms}
use Rattle.st_tree.specs.declared.headers.Row.{Row}
use Rattle.st_tree.specs.declared.headers.Row.TheVariants as row
use Rattle.st_tree.specs.declared.headers.Target.{Target}
use Rattle.st_tree.specs.declared.headers.Target.TheVariants as target
use Rattle.st_tree.specs.declared.headers.Header.{Header}
use Rattle.st_tree.specs.declared.headers.Header.TheVariants.{Whole, Awaits, Annotates}
use Rattle.st_tree.specs.declared.units.ClassUnit.{ClassUnit}
use Rattle.st_tree.specs.declared.units.UnitKind.{UnitKind}
use Rattle.st_tree.specs.declared.units.UnitKind.TheVariants as unit
use Rattle.st_tree.specs.Headers.{is_name, onto_word, words_of, Slot, NameString, NamesString, fits, slots_of, row_of, keyword_row, word_row, Walk, Filled, Stuck, Short, walk, is_identifier_kind, is_keyword_kind, is_string_kind, string_in, header_of, Element, Says, Faulty, judged, by_row, says, comments_in, comments_of, holds_name, holds_names}
use Rattle.st_tree.specs.Units.{element}
use Rattle.sif_export.specs.ExportText.{lacks}
use Rattle.sif_export.proofs.Exports.{Formed, AllFormed}
use Rattle.sif_export.proofs.TextTokens.{text_formed}

-- ---- what holds of a header

-- an identifier that isn't `Global`
abbrev pub IsOwner : List ℕ → Type 0
IsOwner t = (lexes.is_identifier t ≡ true) × (bytes_eq t (codes "Global") ≡ false)

abbrev pub AreNames : List (List ℕ) → Type 0
AreNames ns = list_all is_name ns ≡ true

pub record GoodClass (c : ClassUnit) : Type 0 where
  pub name : is_name c.name ≡ true
  pub superclass : is_name c.superclass ≡ true
  pub instances : AreNames c.instance_names
  pub classes : AreNames c.class_names
  pub pools : AreNames c.pools
  pub class_instances : AreNames c.class_instance_names

abbrev pub GoodKind : UnitKind → Type 0
GoodKind (unit.Class c) = GoodClass c
GoodKind (unit.GlobalVariable n) = is_name n ≡ true
GoodKind (unit.GlobalConstant n) = is_name n ≡ true
GoodKind (unit.Pool n) = is_name n ≡ true
GoodKind (unit.PoolVariable p n) = IsOwner p × (is_name n ≡ true)
GoodKind (unit.PoolConstant p n) = IsOwner p × (is_name n ≡ true)
GoodKind (unit.Comment cs) = (lacks cs ≡ false) × (list_all (list_all is_inner) cs ≡ true)
GoodKind k = ⊥

abbrev pub GoodTarget : Target → Type 0
GoodTarget (target.Initializer n) = IsOwner n
GoodTarget (target.PoolInitializer p n) = (lexes.is_identifier p ≡ true) × (is_name n ≡ true)
GoodTarget target.ProgramInitializer = Unit {0}
GoodTarget (target.Method c) = lexes.is_identifier c ≡ true
GoodTarget (target.ClassMethod c) = lexes.is_identifier c ≡ true

abbrev pub GoodHeader : Header → Type 0
GoodHeader (Whole k) = GoodKind k
GoodHeader (Awaits t) = GoodTarget t
GoodHeader (Annotates a) = Unit {0}

-- ---- filled places

abbrev FilledAt : List Slot → List ℕ → List Token → Type 0
FilledAt [] text ts = Unit {0}
FilledAt (slot ∷ slots) text [] = ⊥
FilledAt (slot ∷ slots) text (t ∷ ts) = (fits slot t.kind (text_of text t) ≡ true) × FilledAt slots text ts

then_filled : (b : Bool) (x : Walk) (n : ℕ) → (if b then x else Stuck n) ≡ Filled → (b ≡ true) × (x ≡ Filled)
then_filled true x n e = (refl, e)
then_filled false x n e = absurd (let k : Stuck n ≡ Filled = e in cc)

filled_at : (slots : List Slot) (text : List ℕ) (ts : List Token) → walk slots text ts ≡ Filled → FilledAt slots text ts
filled_at [] text ts e = tt
filled_at (slot ∷ slots) text [] e = let k : Short ≡ Filled = e in cc
filled_at (slot ∷ slots) text (t ∷ ts) e = let h = then_filled (fits slot t.kind (text_of text t)) (walk slots text ts) t.start e in (h.0, filled_at slots text ts h.1)

abbrev FitsAt : Slot → List ℕ → Option Token → Type 0
FitsAt slot text None = ⊥
FitsAt slot text (Some t) = fits slot t.kind (text_of text t) ≡ true

slot_same : {a b : Slot} → Some a ≡ Some b → a ≡ b
slot_same e = cc

fits_at : (slots : List Slot) (text : List ℕ) (ts : List Token) → FilledAt slots text ts → (n : ℕ) (slot : Slot) → slice_get slots n ≡ Some slot → FitsAt slot text (slice_get ts n)
fits_at [] text ts h n slot e = absurd (let k : None ≡ Some slot = e in cc)
fits_at (s ∷ slots) text [] h n slot e = absurd h
fits_at (s ∷ slots) text (t ∷ ts) h zero slot e = subst (λ x. fits x t.kind (text_of text t) ≡ true) (slot_same e) h.0
fits_at (s ∷ slots) text (t ∷ ts) h (suc n) slot e = fits_at slots text ts h.1 n slot e

name_at : (text : List ℕ) (o : Option Token) → FitsAt NameString text o → is_name (string_in text o) ≡ true
name_at text None h = absurd h
name_at text (Some t) h = and_right (is_string_kind t.kind) (holds_name (text_of text t)) h

names_at : (text : List ℕ) (o : Option Token) → FitsAt NamesString text o → AreNames (words_of (string_in text o))
names_at text None h = absurd h
names_at text (Some t) h = and_right (is_string_kind t.kind) (holds_names (text_of text t)) h

-- ---- rows

abbrev RowFact : Row → List ℕ → Type 0
RowFact row.Version first = ⊥
RowFact row.PoolVariable first = bytes_eq first (codes "Global") ≡ false
RowFact row.PoolConstant first = bytes_eq first (codes "Global") ≡ false
RowFact row.Initializer first = bytes_eq first (codes "Global") ≡ false
RowFact r first = Unit {0}

row_same : {a b : Row} → Some a ≡ Some b → a ≡ b
row_same e = cc

fact : (first : List ℕ) (a r : Row) → RowFact a first → Some a ≡ Some r → RowFact r first
fact first a r f e = subst (λ x. RowFact x first) (row_same e) f

none : (first : List ℕ) (r : Row) → None ≡ Some r → RowFact r first
none first r e = absurd (let k : None ≡ Some r = e in cc)

keyword_fact : (first t : List ℕ) (r : Row) → keyword_row first t ≡ Some r → RowFact r first
keyword_fact first t r e =
    of (bytes_eq t (codes "variable:")) (bytes_eq t (codes "constant:")) (bytes_eq t (codes "initializerFor:")) (bytes_eq t (codes "named:")) (bytes_eq t (codes "key:"))
    (bytes_eq first (codes "Global")) (bytes_eq first (codes "Class")) (bytes_eq first (codes "Pool")) (bytes_eq first (codes "Annotation")) refl e
  where
    of : (a b c d k g cl po an : Bool) → bytes_eq first (codes "Global") ≡ g
        → (if a then (if g then Some row.GlobalVariable else Some row.PoolVariable)
        else (if b then (if g then Some row.GlobalConstant else Some row.PoolConstant)
        else (if c then Some row.PoolInitializer
        else (if d then (if cl then Some row.Class else (if po then Some row.Pool else None))
        else (if k then (if an then Some row.Annotation else None) else None))))) ≡ Some r → RowFact r first
    of true b c d k true cl po an is e = fact first row.GlobalVariable r tt e
    of true b c d k false cl po an is e = fact first row.PoolVariable r is e
    of false true c d k true cl po an is e = fact first row.GlobalConstant r tt e
    of false true c d k false cl po an is e = fact first row.PoolConstant r is e
    of false false true d k g cl po an is e = fact first row.PoolInitializer r tt e
    of false false false true k g true po an is e = fact first row.Class r tt e
    of false false false true k g false true an is e = fact first row.Pool r tt e
    of false false false true k g false false an is e = none first r e
    of false false false false true g cl po true is e = fact first row.Annotation r tt e
    of false false false false true g cl po false is e = none first r e
    of false false false false false g cl po an is e = none first r e

word_fact : (first t : List ℕ) (r : Row) → word_row first t ≡ Some r → RowFact r first
word_fact first t r e = of (bytes_eq t (codes "initializer")) (bytes_eq t (codes "method")) (bytes_eq t (codes "classMethod")) (bytes_eq first (codes "Global")) refl e
  where
    of : (a b c g : Bool) → bytes_eq first (codes "Global") ≡ g
        → (if a then (if g then Some row.ProgramInitializer else Some row.Initializer) else (if b then Some row.Method else (if c then Some row.ClassMethod else None))) ≡ Some r → RowFact r first
    of true b c true is e = fact first row.ProgramInitializer r tt e
    of true b c false is e = fact first row.Initializer r is e
    of false true c g is e = fact first row.Method r tt e
    of false false true g is e = fact first row.ClassMethod r tt e
    of false false false g is e = none first r e

row_fact : (first : List ℕ) (k : TokenKind) (t : List ℕ) (r : Row) → row_of first k t ≡ Some r → RowFact r first
row_fact first k t r e = of (is_keyword_kind k) (is_identifier_kind k) e
  where
    of : (a b : Bool) → (if a then keyword_row first t else (if b then word_row first t else None)) ≡ Some r → RowFact r first
    of true b e = keyword_fact first t r e
    of false true e = word_fact first t r e
    of false false e = none first r e

header_good : (r : Row) (first text : List ℕ) (ts : List Token) → FilledAt (slots_of r) text ts → lexes.is_identifier first ≡ true → RowFact r first → GoodHeader (header_of r first text ts)
header_good row.Version first text ts h id f = f
header_good row.Class first text ts h id f = record {
  name = name_at text (slice_get ts 0) (fits_at (slots_of row.Class) text ts h 0 NameString refl);
  superclass = name_at text (slice_get ts 2) (fits_at (slots_of row.Class) text ts h 2 NameString refl);
  instances = names_at text (slice_get ts 6) (fits_at (slots_of row.Class) text ts h 6 NamesString refl);
  classes = names_at text (slice_get ts 8) (fits_at (slots_of row.Class) text ts h 8 NamesString refl);
  pools = names_at text (slice_get ts 10) (fits_at (slots_of row.Class) text ts h 10 NamesString refl);
  class_instances = names_at text (slice_get ts 12) (fits_at (slots_of row.Class) text ts h 12 NamesString refl);
}
header_good row.GlobalVariable first text ts h id f = name_at text (slice_get ts 0) (fits_at (slots_of row.GlobalVariable) text ts h 0 NameString refl)
header_good row.GlobalConstant first text ts h id f = name_at text (slice_get ts 0) (fits_at (slots_of row.GlobalConstant) text ts h 0 NameString refl)
header_good row.Pool first text ts h id f = name_at text (slice_get ts 0) (fits_at (slots_of row.Pool) text ts h 0 NameString refl)
header_good row.PoolVariable first text ts h id f = ((id, f), name_at text (slice_get ts 0) (fits_at (slots_of row.PoolVariable) text ts h 0 NameString refl))
header_good row.PoolConstant first text ts h id f = ((id, f), name_at text (slice_get ts 0) (fits_at (slots_of row.PoolConstant) text ts h 0 NameString refl))
header_good row.PoolInitializer first text ts h id f = (id, name_at text (slice_get ts 0) (fits_at (slots_of row.PoolInitializer) text ts h 0 NameString refl))
header_good row.ProgramInitializer first text ts h id f = tt
header_good row.Initializer first text ts h id f = (id, f)
header_good row.Method first text ts h id f = id
header_good row.ClassMethod first text ts h id f = id
header_good row.Annotation first text ts h id f = tt

-- ---- comments

onto_inner : (b : ℕ) (ws : List (List ℕ)) → is_inner b ≡ true → list_all (list_all is_inner) ws ≡ true → list_all (list_all is_inner) (onto_word b ws) ≡ true
onto_inner b [] is all = rw is refl
onto_inner b (w ∷ ws) is all = rw is all

inner_other : (b : ℕ) → (b == 34) ≡ false → is_inner b ≡ true
inner_other b off = rw off refl

comments_inner : (opened : Bool) (bs : List ℕ) → list_all (list_all is_inner) (comments_in opened bs) ≡ true
comments_inner false [] = refl
comments_inner true [] = refl
comments_inner false (b ∷ bs) = of (b == 34) (comments_inner true bs) (comments_inner false bs)
  where
    of : (x : Bool) → list_all (list_all is_inner) (comments_in true bs) ≡ true → list_all (list_all is_inner) (comments_in false bs) ≡ true → list_all (list_all is_inner) (if x then comments_in true bs else comments_in false bs) ≡ true
    of true y z = y
    of false y z = z
comments_inner true (b ∷ bs) = of (b == 34) refl (comments_inner true bs) (comments_inner false bs)
  where
    of : (x : Bool) → (b == 34) ≡ x → list_all (list_all is_inner) (comments_in true bs) ≡ true → list_all (list_all is_inner) (comments_in false bs) ≡ true → list_all (list_all is_inner) (if x then [] ∷ comments_in false bs else onto_word b (comments_in true bs)) ≡ true
    of true is y z = z
    of false off y z = onto_inner b (comments_in true bs) (inner_other b off) y

onto_some : (b : ℕ) (ws : List (List ℕ)) → lacks (onto_word b ws) ≡ false
onto_some b [] = refl
onto_some b (w ∷ ws) = refl

open_some : (bs : List ℕ) → lacks (comments_in true bs) ≡ false
open_some [] = refl
open_some (b ∷ bs) = of (b == 34)
  where
    of : (x : Bool) → lacks (if x then [] ∷ comments_in false bs else onto_word b (comments_in true bs)) ≡ false
    of true = refl
    of false = onto_some b (comments_in true bs)

white_other : (c : ℕ) → is_white_byte c ≡ true → (c == 34) ≡ false
white_other c is = elim (eqb_tells c 34) [
  | inl same ↦ absurd (true≢false (sym is ∙ ap is_white_byte same.1))
  | inr other ↦ other.0
]

comments_some : {at : ℕ} {text : List ℕ} {tokens : List Token} {fault : Option LexFault} → LexesFrom at text tokens fault → tokens ≡ [] → fault ≡ None → is_white text ≡ false → lacks (comments_in false text) ≡ false
comments_some ended e f black = absurd (true≢false black)
comments_some (white {c = c} {cs = cs} w rest) e f black =
    let black' : is_white cs ≡ false = ap (λ x. x && is_white cs) (sym w) ∙ black in
    ap (λ x. lacks (if x then comments_in true cs else comments_in false cs)) (white_other c w) ∙ comments_some rest e f black'
comments_some (comment inner after {bytes = bytes} b all rest) e f black = ap (λ (xs : List ℕ). lacks (comments_in false xs)) b ∙ open_some (inner ++ 34 ∷ after)
comments_some (token k t after {at = at} {tokens = tokens} b is rest) e f black = absurd (token_none e)
  where
    token_none : {x : Token} {xs : List Token} → x ∷ xs ≡ [] → ⊥
    token_none h = cc
comments_some (spoiled s) e f black = absurd (fault_none f)
  where
    fault_none : {x : LexFault} → Some x ≡ None → ⊥
    fault_none h = cc

-- ---- what an element says

header_same : {a b : Header} → Says a ≡ Says b → a ≡ b
header_same e = cc

faulty : {byte : ℕ} {why : Reason} {h : Header} {P : Type 0} → Faulty byte why ≡ Says h → P
faulty e = absurd (let k = e in cc)

pub judged_says : (w : Walk) (g h : Header) (l : Option LexFault) (len : ℕ) → judged w g l len ≡ Says h → (w ≡ Filled) × (l ≡ None) × (g ≡ h)
judged_says (Stuck byte) g h l len e = faulty e
judged_says Filled g h None len e = (refl, refl, header_same e)
judged_says Filled g h (Some f) len e = faulty e
judged_says Short g h None len e = faulty e
judged_says Short g h (Some f) len e = faulty e

row_good : (r : Option Row) (byte : ℕ) (first text : List ℕ) (k : TokenKind) (t : List ℕ) (ts : List Token) (l : Option LexFault) (h : Header) → row_of first k t ≡ r → by_row r byte first text ts l ≡ Says h → lexes.is_identifier first ≡ true → GoodHeader h
row_good None byte first text k t ts l h is e id = faulty e
row_good (Some r) byte first text k t ts l h is e id =
    let parts = judged_says (walk (slots_of r) text ts) (header_of r first text ts) h l (length text) e in
    subst GoodHeader parts.2 (header_good r first text ts (filled_at (slots_of r) text ts parts.0) id (row_fact first k t r is))

identifier_of : (k : TokenKind) (t : List ℕ) (at : ℕ) → is_identifier_kind k ≡ true → Formed (sym_at k t at) → lexes.is_identifier t ≡ true
identifier_of kind.Identifier t at is f = f
identifier_of kind.Keyword t at is f = absurd (true≢false (sym is))
identifier_of kind.Operator t at is f = absurd (true≢false (sym is))
identifier_of (kind.Integer n) t at is f = absurd (true≢false (sym is))
identifier_of kind.Character t at is f = absurd (true≢false (sym is))
identifier_of kind.Str t at is f = absurd (true≢false (sym is))
identifier_of kind.Symbol t at is f = absurd (true≢false (sym is))
identifier_of kind.QuotedSymbol t at is f = absurd (true≢false (sym is))
identifier_of kind.ArrayOpen t at is f = absurd (true≢false (sym is))
identifier_of kind.ParenOpen t at is f = absurd (true≢false (sym is))
identifier_of kind.ParenClose t at is f = absurd (true≢false (sym is))
identifier_of kind.BlockOpen t at is f = absurd (true≢false (sym is))
identifier_of kind.BlockClose t at is f = absurd (true≢false (sym is))
identifier_of kind.Colon t at is f = absurd (true≢false (sym is))
identifier_of kind.Assign t at is f = absurd (true≢false (sym is))
identifier_of kind.Caret t at is f = absurd (true≢false (sym is))
identifier_of kind.Period t at is f = absurd (true≢false (sym is))
identifier_of kind.Semicolon t at is f = absurd (true≢false (sym is))

pub then_says : (b : Bool) (x : Element) (byte : ℕ) (why : Reason) (h : Header) → (if b then x else Faulty byte why) ≡ Says h → (b ≡ true) × (x ≡ Says h)
then_says true x byte why h e = (refl, e)
then_says false x byte why h e = faulty e

short : (g h : Header) (l : Option LexFault) (len : ℕ) → judged Short g l len ≡ Says h → ⊥
short g h l len e = let k = (judged_says Short g h l len e).0 in cc

says_good : (text : List ℕ) (ts : List Token) (l : Option LexFault) (h : Header) → says text ts l ≡ Says h → AllFormed (syms text ts) → (ts ≡ [] → l ≡ None → lacks (comments_of text) ≡ false) → GoodHeader h
says_good text [] l h e f some =
    let parts = judged_says Filled (Whole (unit.Comment (comments_of text))) h l (length text) e in
    subst GoodHeader parts.2 (some refl parts.1, comments_inner false text)
says_good text (a ∷ []) l h e f some = absurd (short (Awaits target.ProgramInitializer) h l (length text) (then_says (is_identifier_kind a.kind) (judged Short (Awaits target.ProgramInitializer) l (length text)) a.start reason.Syntax h e).1)
says_good text (a ∷ b ∷ ts) l h e f some =
    let r = row_of (text_of text a) b.kind (text_of text b) in
    let parts = then_says (is_identifier_kind a.kind) (by_row r b.start (text_of text a) text ts l) a.start reason.Syntax h e in
    row_good r b.start (text_of text a) text b.kind (text_of text b) ts l h refl parts.1 (identifier_of a.kind (text_of text a) a.start parts.0 f.0)

-- what an element that isn't white says
pub element_good : (text : List ℕ) (h : Header) → element text ≡ Says h → is_white text ≡ false → GoodHeader h
unfolding lexed_of
element_good text h e black = says_good text (lexed_of text).tokens (lexed_of text).fault h e (text_formed text) (λ none fault. comments_some (lexes-from 0 text) none fault black)
