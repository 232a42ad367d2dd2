-- The texts of headers, annotations and comments say what they were written for.
use Rattle.std.proofs.Common.{◌≡◌, ℕ, true, false, true≢false, ◌==◌, if◌then◌else◌, List, [], ◌∷◌, ◌++◌, map, codes, None, Some, refl, ap, ap₂, sym, ◌∙◌, subst, append-nil, append_assoc, inl, inr}
use Rattle.std.specs.List.{list_all}
use Rattle.std.specs.Str.{bytes_eq}
use Rattle.std.proofs.lemmas.Bool.Decides.{eqb_tells}
use Rattle.st_base.specs.declared.tokens.Token.{Token}
use Rattle.st_base.specs.declared.tokens.TokenKind.TheVariants as kind
use Rattle.st_base.specs.TokenBytes.{is_letter, is_word_byte, is_white_byte}
use Rattle.st_base.specs.Lexed.{lexed_of}
use Rattle.st_base.specs.Lexes as lexes
use Rattle.st_lexer.proofs.Runs.{and_left, and_right}
use Rattle.st_lexer.proofs.Sound.{is_inner}
use Rattle.st_lexer.proofs.Spelled.{at_end}
use Rattle.sif_chunks.specs.Reading.{is_white}
use Rattle.st_tree.specs.Symbols.{string_value}
use Rattle.st_tree.specs.declared.headers.Row.{Row}
use Rattle.st_tree.specs.declared.headers.Row.TheVariants as row
use Rattle.st_tree.specs.declared.headers.Target.{Target}
use Rattle.st_tree.specs.declared.headers.Target.TheVariants as target
use Rattle.st_tree.specs.declared.headers.Header.{Header}
use Rattle.st_tree.specs.declared.headers.Header.TheVariants.{Whole, Awaits, Annotates}
use Rattle.st_tree.specs.declared.units.Indexed.{Indexed}
use Rattle.st_tree.specs.declared.units.Indexed.TheVariants as indexed
use Rattle.st_tree.specs.declared.units.ClassUnit.{ClassUnit}
use Rattle.st_tree.specs.declared.units.UnitKind.{UnitKind}
use Rattle.st_tree.specs.declared.units.UnitKind.TheVariants as unit
use Rattle.st_tree.specs.declared.units.Annotation.{Annotation}
use Rattle.st_base.specs.Lexes.{is_identifier}
use Rattle.st_tree.specs.Headers.{is_name, onto_word, words_behind, words_of, are_names, Slot, NameString, NamesString, Way, fits, slots_of, keyword_row, word_row, Filled, Stuck, way_of, way_or_none, comments_in, comments_of, says, Says}
use Rattle.st_tree.specs.Units.{element, first_element}
use Rattle.sif_export.specs.Words as word
use Rattle.sif_export.specs.Words.{Joined, Blank, Gap, laid, quoted}
use Rattle.sif_export.specs.TreeWords.{Words}
use Rattle.sif_export.specs.ExportText.{spaced, spaced_behind, way_name, class_words, annotation_words, string_text, pair_text, class_text, annotation_text, comment_text, lacks}
use Rattle.sif_export.proofs.Shown.{Seen, seen, Shows, shows_end}
use Rattle.sif_export.proofs.Lexing.{IsKey, AreWell, Tokens, lex_laid, token}
use Rattle.sif_export.proofs.Lexing as lexing
use Rattle.sif_export.proofs.TextTokens.{string_value-quoted}
use Rattle.sif_export.proofs.SeenHeaders.{walk_seen, header_seen, element_says, first_says, class}
use Rattle.sif_export.proofs.ReadHeaders.{AreNames, GoodClass, GoodKind, GoodTarget}
use Rattle.sif_export.proofs.TextExports.{one_laid, laid_black, HasWord}

-- ---- strings of names

letter_black : (c : ℕ) → is_word_byte c ≡ true → is_white_byte c ≡ false
letter_black c is = rw (other 9 refl, other 10 refl, other 12 refl, other 13 refl, other 32 refl) refl
  where
    other : (k : ℕ) → is_word_byte k ≡ false → (c == k) ≡ false
    other k off = elim (eqb_tells c k) [
      | inl same ↦ absurd (true≢false (sym is ∙ ap is_word_byte same.1 ∙ off))
      | inr differ ↦ differ.0
    ]

identifier_words : (t : List ℕ) → is_identifier t ≡ true → list_all is_word_byte t ≡ true
identifier_words [] is = refl
identifier_words (c ∷ cs) is = rw (and_left (is_letter c) (list_all is_word_byte cs) is) (and_right (is_letter c) (list_all is_word_byte cs) is)

-- a word, and what stands behind its last byte
word_then : (t rest : List ℕ) (ws : List (List ℕ)) → list_all is_word_byte t ≡ true → words_behind false rest ≡ [] ∷ ws → words_behind false (t ++ rest) ≡ t ∷ ws
word_then [] rest ws all e = e
word_then (c ∷ cs) rest ws all e = rw (letter_black c (and_left (is_word_byte c) (list_all is_word_byte cs) all)) (ap (onto_word c) (word_then cs rest ws (and_right (is_word_byte c) (list_all is_word_byte cs) all) e))

-- the same behind white space
word_after : (t rest : List ℕ) (ws : List (List ℕ)) → is_identifier t ≡ true → words_behind false rest ≡ [] ∷ ws → words_behind true (t ++ rest) ≡ t ∷ ws
word_after [] rest ws is e = absurd (true≢false (sym is))
word_after (c ∷ cs) rest ws is e =
    let all = identifier_words (c ∷ cs) is in
    rw (letter_black c (and_left (is_word_byte c) (list_all is_word_byte cs) all)) (ap (onto_word c) (word_then cs rest ws (and_right (is_word_byte c) (list_all is_word_byte cs) all) e))

name_identifier : (t : List ℕ) → is_name t ≡ true → is_identifier t ≡ true
name_identifier t is = and_left (is_identifier t) _ is

words-behind : (ns : List (List ℕ)) → AreNames ns → words_behind false (spaced_behind ns) ≡ [] ∷ ns
words-behind [] all = refl
words-behind (n ∷ ns) all = ap (λ ws. [] ∷ ws) (word_after n (spaced_behind ns) ns (name_identifier n (and_left (is_name n) (list_all is_name ns) all)) (words-behind ns (and_right (is_name n) (list_all is_name ns) all)))

first_word : (n rest : List ℕ) → is_identifier n ≡ true → words_of (n ++ rest) ≡ words_behind false (n ++ rest)
first_word [] rest is = absurd (true≢false (sym is))
first_word (c ∷ cs) rest is = refl

words-spaced : (ns : List (List ℕ)) → AreNames ns → words_of (spaced ns) ≡ ns
words-spaced [] all = refl
words-spaced (n ∷ ns) all =
    let id = name_identifier n (and_left (is_name n) (list_all is_name ns) all) in
    first_word n (spaced_behind ns) id ∙ word_then n (spaced_behind ns) ns (identifier_words n id) (words-behind ns (and_right (is_name n) (list_all is_name ns) all))

names_fit : (ns : List (List ℕ)) → AreNames ns → fits NamesString kind.Str (quoted (spaced ns)) ≡ true
names_fit ns all = ap are_names (string_value-quoted (spaced ns)) ∙ ap (list_all is_name) (words-spaced ns all) ∙ all

name_fits : (n : List ℕ) → is_name n ≡ true → fits NameString kind.Str (quoted n) ≡ true
name_fits n is = ap is_name (string_value-quoted n) ∙ is

-- ---- headers of one string

one_fits : (slot : Slot) (t : List ℕ) (at : ℕ) → fits slot kind.Str (quoted t) ≡ true → walk_seen (slot ∷ []) (token kind.Str (quoted t) at ∷ []) ≡ Filled
one_fits slot t at is = rw is refl

string_says : (first key text src : List ℕ) (all : List Seen) (r : Row) (h : Header) → Tokens (word.Named first ∷ word.Key key ∷ word.Str text ∷ []) all [] → Shows [] src all → keyword_row first key ≡ Some r
    → ((at : ℕ) → walk_seen (slots_of r) (token kind.Str (quoted text) at ∷ []) ≡ Filled) → ((at : ℕ) → header_seen r first (token kind.Str (quoted text) at ∷ []) ≡ h) → element src ≡ Says h
string_says first key text src all r h (lexing.next_word i (lexing.next_word j (lexing.next_word k lexing.no_words))) shows is filled same =
    element_says src (token kind.Identifier first i) (token kind.Keyword key j) (token kind.Str (quoted text) k ∷ []) r shows refl is (filled k) ∙ ap Says (same k)

pair_says : (first second src : List ℕ) (all : List Seen) (r : Row) (h : Header) → Tokens (word.Named first ∷ word.Named second ∷ []) all [] → Shows [] src all → word_row first second ≡ Some r → walk_seen (slots_of r) [] ≡ Filled → header_seen r first [] ≡ h → element src ≡ Says h
pair_says first second src all r h (lexing.next_word i (lexing.next_word j lexing.no_words)) shows is filled same =
    element_says src (token kind.Identifier first i) (token kind.Identifier second j) [] r shows refl is filled ∙ ap Says same

-- ---- the texts of elements, behind a line's end

-- it says this, and isn't white
pub record HeaderRead (text : List ℕ) (h : Header) : Type 0 where
  pub says : element (10 ∷ text) ≡ Says h
  pub black : is_white (10 ∷ text) ≡ false

black_words : (ws : Words) → HasWord ws → AreWell ws → is_white (10 ∷ laid Joined ws) ≡ false
black_words ws has well = ap (λ (xs : List ℕ). is_white xs) (sym (append-nil (laid Joined ws))) ∙ laid_black ws [] has well

string_read : (first key text : List ℕ) (r : Row) (h : Header) → lexes.is_identifier first ≡ true → IsKey key → keyword_row first key ≡ Some r
    → ((at : ℕ) → walk_seen (slots_of r) (token kind.Str (quoted text) at ∷ []) ≡ Filled) → ((at : ℕ) → header_seen r first (token kind.Str (quoted text) at ∷ []) ≡ h) → HeaderRead (string_text first key text) h
unfolding string_text
string_read first key text r h id is_key is filled same =
    let ws : Words = word.Named first ∷ word.Key key ∷ word.Str text ∷ [] in
    let well : AreWell ws = (id, (is_key, (tt, tt))) in
    let laid' = one_laid Joined ws well in
    record { says = string_says first key text (10 ∷ laid Joined ws) laid'.0 r h laid'.2 laid'.1 is filled same; black = black_words ws (_, _, refl) well }

pair_read : (first second : List ℕ) (r : Row) (h : Header) → lexes.is_identifier first ≡ true → lexes.is_identifier second ≡ true → word_row first second ≡ Some r → walk_seen (slots_of r) [] ≡ Filled → header_seen r first [] ≡ h → HeaderRead (pair_text first second) h
unfolding pair_text
pair_read first second r h id id' is filled same =
    let ws : Words = word.Named first ∷ word.Named second ∷ [] in
    let well : AreWell ws = (id, (id', tt)) in
    let laid' = one_laid Joined ws well in
    record { says = pair_says first second (10 ∷ laid Joined ws) laid'.0 r h laid'.2 laid'.1 is filled same; black = black_words ws (_, _, refl) well }

variable_key : IsKey (codes "variable:")
variable_key = (codes "variable", refl, refl)

constant_key : IsKey (codes "constant:")
constant_key = (codes "constant", refl, refl)

named_key : IsKey (codes "named:")
named_key = (codes "named", refl, refl)

initializer_key : IsKey (codes "initializerFor:")
initializer_key = (codes "initializerFor", refl, refl)

pool_row : (p : List ℕ) → bytes_eq p (codes "Global") ≡ false → keyword_row p (codes "variable:") ≡ Some row.PoolVariable
pool_row p off = ap (λ x. if x then Some row.GlobalVariable else Some row.PoolVariable) off

pool_constant_row : (p : List ℕ) → bytes_eq p (codes "Global") ≡ false → keyword_row p (codes "constant:") ≡ Some row.PoolConstant
pool_constant_row p off = ap (λ x. if x then Some row.GlobalConstant else Some row.PoolConstant) off

initializer_row : (p : List ℕ) → bytes_eq p (codes "Global") ≡ false → word_row p (codes "initializer") ≡ Some row.Initializer
initializer_row p off = ap (λ x. if x then Some row.ProgramInitializer else Some row.Initializer) off

-- the text of a header behind which a text stands
abbrev pub target_text : Target → List ℕ
target_text (target.Initializer n) = pair_text n (codes "initializer")
target_text (target.PoolInitializer p n) = string_text p (codes "initializerFor:") n
target_text target.ProgramInitializer = pair_text (codes "Global") (codes "initializer")
target_text (target.Method c) = pair_text c (codes "method")
target_text (target.ClassMethod c) = pair_text c (codes "classMethod")

pub target_read : (t : Target) → GoodTarget t → HeaderRead (target_text t) (Awaits t)
target_read (target.Initializer n) good = pair_read n (codes "initializer") row.Initializer (Awaits (target.Initializer n)) good.0 refl (initializer_row n good.1) refl refl
target_read (target.PoolInitializer p n) good =
    string_read p (codes "initializerFor:") n row.PoolInitializer (Awaits (target.PoolInitializer p n)) good.0 initializer_key refl (λ at. one_fits NameString n at (name_fits n good.1)) (λ at. ap (λ x. Awaits (target.PoolInitializer p x)) (string_value-quoted n))
target_read target.ProgramInitializer good = pair_read (codes "Global") (codes "initializer") row.ProgramInitializer (Awaits target.ProgramInitializer) refl refl refl refl refl
target_read (target.Method c) good = pair_read c (codes "method") row.Method (Awaits (target.Method c)) good refl refl refl refl
target_read (target.ClassMethod c) good = pair_read c (codes "classMethod") row.ClassMethod (Awaits (target.ClassMethod c)) good refl refl refl refl

-- ---- classes

way_fits : (w : Indexed) → fits Way kind.Symbol (35 ∷ way_name w) ≡ true
way_fits indexed.None = refl
way_fits indexed.Object = refl
way_fits indexed.Byte = refl

way_same : (w : Indexed) → way_or_none (way_of (35 ∷ way_name w)) ≡ w
way_same indexed.None = refl
way_same indexed.Object = refl
way_same indexed.Byte = refl

way_token : (w : Indexed) (at : ℕ) → lexing.symbol_token (word.is_bare_symbol (way_name w)) (way_name w) at ≡ token kind.Symbol (35 ∷ way_name w) at
unfolding word.is_bare_symbol
way_token indexed.None at = refl
way_token indexed.Object at = refl
way_token indexed.Byte at = refl

-- tokens that fill places
data Fills : List Slot → List Seen → Type 0 where
  no_place : Fills [] []
  place : {slot : Slot} {slots : List Slot} {p : Seen} {ps : List Seen} → fits slot p.kind p.text ≡ true → Fills slots ps → Fills (slot ∷ slots) (p ∷ ps)

fills_walk : {slots : List Slot} {ps : List Seen} → Fills slots ps → walk_seen slots ps ≡ Filled
fills_walk no_place = refl
fills_walk (place {slots = slots} {p = p} {ps = ps} is rest) = ap (λ x. if x then walk_seen slots ps else Stuck p.at) is ∙ fills_walk rest

abbrev unit_of : List ℕ → List ℕ → Indexed → List (List ℕ) → List (List ℕ) → List (List ℕ) → List (List ℕ) → ClassUnit
unit_of n s w i k p x = record { name = n; superclass = s; indexed = w; instance_names = i; class_names = k; pools = p; class_instance_names = x }

class_same : (c : ClassUnit) → GoodClass c → class (string_value (quoted c.name)) (string_value (quoted c.superclass)) (way_or_none (way_of (35 ∷ way_name c.indexed))) (string_value (quoted (spaced c.instance_names))) (string_value (quoted (spaced c.class_names))) (string_value (quoted (spaced c.pools))) (string_value (quoted (spaced c.class_instance_names))) ≡ c
class_same c good =
    made (string_value (quoted (spaced c.instance_names))) (string_value (quoted (spaced c.class_names))) (string_value (quoted (spaced c.pools))) (string_value (quoted (spaced c.class_instance_names))) (string_value-quoted c.name) (string_value-quoted c.superclass) (way_same c.indexed) (list (c.instance_names) good.instances) (list (c.class_names) good.classes) (list (c.pools) good.pools) (list (c.class_instance_names) good.class_instances)
  where
    list : (ns : List (List ℕ)) → AreNames ns → words_of (string_value (quoted (spaced ns))) ≡ ns
    list ns all = ap words_of (string_value-quoted (spaced ns)) ∙ words-spaced ns all

    made : (i k p x : List ℕ) {n s : List ℕ} {w : Indexed} → n ≡ c.name → s ≡ c.superclass → w ≡ c.indexed → words_of i ≡ c.instance_names → words_of k ≡ c.class_names → words_of p ≡ c.pools → words_of x ≡ c.class_instance_names → class n s w i k p x ≡ c
    made i k p x {n = n} {s = s} {w = w} a b d e f g h =
        ap (λ y. unit_of y s w (words_of i) (words_of k) (words_of p) (words_of x)) a ∙ ap (λ y. unit_of c.name y w (words_of i) (words_of k) (words_of p) (words_of x)) b
        ∙ ap (λ y. unit_of c.name c.superclass y (words_of i) (words_of k) (words_of p) (words_of x)) d ∙ ap (λ y. unit_of c.name c.superclass c.indexed y (words_of k) (words_of p) (words_of x)) e
        ∙ ap (λ y. unit_of c.name c.superclass c.indexed c.instance_names y (words_of p) (words_of x)) f ∙ ap (λ y. unit_of c.name c.superclass c.indexed c.instance_names c.class_names y (words_of x)) g
        ∙ ap (λ y. unit_of c.name c.superclass c.indexed c.instance_names c.class_names c.pools y) h

class_says : (c : ClassUnit) (src : List ℕ) (all : List Seen) → GoodClass c → Tokens (class_words c) all [] → Shows [] src all → element src ≡ Says (Whole (unit.Class c))
class_says c src all good (lexing.next_word i0 (lexing.next_word i1 (lexing.next_word i2 (lexing.next_word i3 (lexing.next_word i4 (lexing.next_word i5 (lexing.next_word i6 (lexing.next_word i7 (lexing.next_word i8 (lexing.next_word i9 (lexing.next_word i10 (lexing.next_word i11 (lexing.next_word i12 (lexing.next_word i13 (lexing.next_word i14 lexing.no_words))))))))))))))) shows =
    let way = way_token c.indexed i6 in
    let behind : List Seen = token kind.Keyword (codes "instanceVariableNames:") i7 ∷ token kind.Str (quoted (spaced c.instance_names)) i8 ∷ token kind.Keyword (codes "classVariableNames:") i9 ∷ token kind.Str (quoted (spaced c.class_names)) i10 ∷ token kind.Keyword (codes "sharedPools:") i11 ∷ token kind.Str (quoted (spaced c.pools)) i12 ∷ token kind.Keyword (codes "classInstanceVariableNames:") i13 ∷ token kind.Str (quoted (spaced c.class_instance_names)) i14 ∷ [] in
    let ps : List Seen = token kind.Str (quoted c.name) i2 ∷ token kind.Keyword (codes "superclass:") i3 ∷ token kind.Str (quoted c.superclass) i4 ∷ token kind.Keyword (codes "indexedInstanceVariables:") i5 ∷ token kind.Symbol (35 ∷ way_name c.indexed) i6 ∷ behind in
    let shows' : Shows [] src (token kind.Identifier (codes "Class") i0 ∷ token kind.Keyword (codes "named:") i1 ∷ ps) =
    subst (λ s. Shows [] src (token kind.Identifier (codes "Class") i0 ∷ token kind.Keyword (codes "named:") i1 ∷ token kind.Str (quoted c.name) i2 ∷ token kind.Keyword (codes "superclass:") i3 ∷ token kind.Str (quoted c.superclass) i4 ∷ token kind.Keyword (codes "indexedInstanceVariables:") i5 ∷ s ∷ behind)) way shows in
    let filled : Fills (slots_of row.Class) ps =
    place (name_fits c.name good.name) (place refl (place (name_fits c.superclass good.superclass) (place refl (place (way_fits c.indexed) (place refl (place (names_fit c.instance_names good.instances)
    (place refl (place (names_fit c.class_names good.classes) (place refl (place (names_fit c.pools good.pools) (place refl (place (names_fit c.class_instance_names good.class_instances) no_place)))))))))))) in
    element_says src (token kind.Identifier (codes "Class") i0) (token kind.Keyword (codes "named:") i1) ps row.Class shows' refl refl (fills_walk filled) ∙ ap (λ k. Says (Whole (unit.Class k))) (class_same c good)

class_read : (c : ClassUnit) → GoodClass c → HeaderRead (class_text c) (Whole (unit.Class c))
unfolding class_text
class_read c good =
    let key : (name : List ℕ) → lexes.is_identifier name ≡ true → IsKey (name ++ 58 ∷ []) = λ name is. (name, refl, is) in
    let well : AreWell (class_words c) = (refl, (key (codes "named") refl, (tt, (key (codes "superclass") refl, (tt, (key (codes "indexedInstanceVariables") refl, (tt, (key (codes "instanceVariableNames") refl, (tt, (key (codes "classVariableNames") refl, (tt, (key (codes "sharedPools") refl, (tt, (key (codes "classInstanceVariableNames") refl, (tt, tt))))))))))))))) in
    let laid' = one_laid Joined (class_words c) well in
    record { says = class_says c (10 ∷ laid Joined (class_words c)) laid'.0 good laid'.2 laid'.1; black = black_words (class_words c) (_, _, refl) well }

-- ---- annotations

annotation_says : (a : Annotation) (src : List ℕ) (all : List Seen) → Tokens (annotation_words a) all [] → Shows [] src all → element src ≡ Says (Annotates a)
annotation_says a src all (lexing.next_word i (lexing.next_word j (lexing.next_word k (lexing.next_word l (lexing.next_word m lexing.no_words))))) shows =
    element_says src (token kind.Identifier (codes "Annotation") i) (token kind.Keyword (codes "key:") j) (token kind.Str (quoted a.key) k ∷ token kind.Keyword (codes "value:") l ∷ token kind.Str (quoted a.value) m ∷ []) row.Annotation shows refl refl refl
    ∙ ap₂ (λ x y. Says (Annotates (record { key = x; value = y }))) (string_value-quoted a.key) (string_value-quoted a.value)

pub annotation_read : (a : Annotation) → HeaderRead (annotation_text a) (Annotates a)
unfolding annotation_text
annotation_read a =
    let well : AreWell (annotation_words a) = (refl, ((codes "key", refl, refl), (tt, ((codes "value", refl, refl), (tt, tt))))) in
    let laid' = one_laid Joined (annotation_words a) well in
    record { says = annotation_says a (10 ∷ laid Joined (annotation_words a)) laid'.0 laid'.2 laid'.1; black = black_words (annotation_words a) (_, _, refl) well }

-- ---- comments

remark_in : (c rest : List ℕ) → list_all is_inner c ≡ true → comments_in true (c ++ 34 ∷ rest) ≡ c ∷ comments_in false rest
remark_in [] rest all = refl
remark_in (b ∷ bs) rest all = rw (inner_other b (and_left (is_inner b) (list_all is_inner bs) all)) (ap (onto_word b) (remark_in bs rest (and_right (is_inner b) (list_all is_inner bs) all)))
  where
    inner_other : (b : ℕ) → is_inner b ≡ true → (b == 34) ≡ false
    inner_other b is = elim (eqb_tells b 34) [
      | inl same ↦ absurd (true≢false (sym is ∙ ap is_inner same.1))
      | inr other ↦ other.0
    ]

-- the comments behind a gap that is no tab
comments_laid : (g : Gap) (cs : List (List ℕ)) → comments_in false (word.gap_bytes g) ≡ [] → list_all (list_all is_inner) cs ≡ true → comments_in false (laid g (map word.Remark cs)) ≡ cs
comments_laid g [] gap all = refl
comments_laid g (c ∷ cs) gap all =
    let rest : List ℕ = laid Blank (map word.Remark cs) in
    let here : comments_in true ((c ++ 34 ∷ []) ++ rest) ≡ c ∷ cs =
    ap (comments_in true) (append_assoc c (34 ∷ []) rest) ∙ remark_in c rest (and_left (list_all is_inner c) (list_all (list_all is_inner) cs) all) ∙ ap (λ xs. c ∷ xs) (comments_laid Blank cs refl (and_right (list_all is_inner c) (list_all (list_all is_inner) cs) all)) in
    by_gap g c rest cs here
  where
    by_gap : (g : Gap) (c rest : List ℕ) (cs : List (List ℕ)) → comments_in true ((c ++ 34 ∷ []) ++ rest) ≡ c ∷ cs → comments_in false ((word.gap_bytes g ++ (34 ∷ c ++ 34 ∷ [])) ++ rest) ≡ c ∷ cs
    by_gap Joined c rest cs e = e
    by_gap Blank c rest cs e = e
    by_gap word.Line c rest cs e = e

remarks_well : (cs : List (List ℕ)) → list_all (list_all is_inner) cs ≡ true → AreWell (map word.Remark cs)
remarks_well [] all = tt
remarks_well (c ∷ cs) all = (and_left (list_all is_inner c) (list_all (list_all is_inner) cs) all, remarks_well cs (and_right (list_all is_inner c) (list_all (list_all is_inner) cs) all))

remark_tokens : (cs : List (List ℕ)) (all : List Seen) → Tokens (map word.Remark cs) all [] → all ≡ []
remark_tokens [] all lexing.no_words = refl
remark_tokens (c ∷ cs) all (lexing.next_word {ps = ps} at k) = remark_tokens cs ps k

no_seen : (text : List ℕ) (ts : List Token) → map (seen text) ts ≡ [] → ts ≡ []
no_seen text [] e = refl
no_seen text (t ∷ ts) e = absurd (let k : seen text t ∷ map (seen text) ts ≡ [] = e in cc)

comment_says : (src : List ℕ) (all : List Seen) → Shows [] src all → all ≡ [] → element src ≡ Says (Whole (unit.Comment (comments_of src)))
unfolding lexed_of
comment_says src all shows none = ap (λ l. says src (lexed_of src).tokens l) shows.whole ∙ ap (λ ts. says src ts None) (no_seen src (lexed_of src).tokens (shows.as_seen ∙ none))

comments_word : (cs : List (List ℕ)) → lacks cs ≡ false → HasWord (map word.Remark cs)
comments_word [] some = absurd (true≢false some)
comments_word (c ∷ cs) some = (_, _, refl)

comment_read : (cs : List (List ℕ)) → lacks cs ≡ false → list_all (list_all is_inner) cs ≡ true → HeaderRead (comment_text cs) (Whole (unit.Comment cs))
unfolding comment_text
comment_read cs some all =
    let ws : Words = map word.Remark cs in
    let laid' = one_laid Joined ws (remarks_well cs all) in
    record {
      says = comment_says (10 ∷ laid Joined ws) laid'.0 laid'.1 (remark_tokens cs laid'.0 laid'.2) ∙ ap (λ x. Says (Whole (unit.Comment x))) (comments_laid Joined cs refl all);
      black = black_words ws (comments_word cs some) (remarks_well cs all);
    }

-- ---- whole units

-- the text of a unit of one element
abbrev pub whole_text : UnitKind → List ℕ
whole_text (unit.Class c) = class_text c
whole_text (unit.GlobalVariable n) = string_text (codes "Global") (codes "variable:") n
whole_text (unit.GlobalConstant n) = string_text (codes "Global") (codes "constant:") n
whole_text (unit.Pool n) = string_text (codes "Pool") (codes "named:") n
whole_text (unit.PoolVariable p n) = string_text p (codes "variable:") n
whole_text (unit.PoolConstant p n) = string_text p (codes "constant:") n
whole_text (unit.Comment cs) = comment_text cs
whole_text k = []

pub whole_read : (k : UnitKind) → GoodKind k → HeaderRead (whole_text k) (Whole k)
whole_read (unit.Class c) good = class_read c good
whole_read (unit.GlobalVariable n) good = string_read (codes "Global") (codes "variable:") n row.GlobalVariable (Whole (unit.GlobalVariable n)) refl variable_key refl (λ at. one_fits NameString n at (name_fits n good)) (λ at. ap (λ x. Whole (unit.GlobalVariable x)) (string_value-quoted n))
whole_read (unit.GlobalConstant n) good = string_read (codes "Global") (codes "constant:") n row.GlobalConstant (Whole (unit.GlobalConstant n)) refl constant_key refl (λ at. one_fits NameString n at (name_fits n good)) (λ at. ap (λ x. Whole (unit.GlobalConstant x)) (string_value-quoted n))
whole_read (unit.Pool n) good = string_read (codes "Pool") (codes "named:") n row.Pool (Whole (unit.Pool n)) refl named_key refl (λ at. one_fits NameString n at (name_fits n good)) (λ at. ap (λ x. Whole (unit.Pool x)) (string_value-quoted n))
whole_read (unit.PoolVariable p n) good = string_read p (codes "variable:") n row.PoolVariable (Whole (unit.PoolVariable p n)) good.0.0 variable_key (pool_row p good.0.1) (λ at. one_fits NameString n at (name_fits n good.1)) (λ at. ap (λ x. Whole (unit.PoolVariable p x)) (string_value-quoted n))
whole_read (unit.PoolConstant p n) good = string_read p (codes "constant:") n row.PoolConstant (Whole (unit.PoolConstant p n)) good.0.0 constant_key (pool_constant_row p good.0.1) (λ at. one_fits NameString n at (name_fits n good.1)) (λ at. ap (λ x. Whole (unit.PoolConstant p x)) (string_value-quoted n))
whole_read (unit.Comment cs) good = comment_read cs good.0 good.1
whole_read (unit.Version t) good = absurd good
whole_read (unit.Initializer n b) good = absurd good
whole_read (unit.PoolInitializer p n b) good = absurd good
whole_read (unit.ProgramInitializer b) good = absurd good
whole_read (unit.Method c m) good = absurd good
whole_read (unit.ClassMethod c m) good = absurd good

-- ---- the version element, at the front of a file

version_says : (text src : List ℕ) (all : List Seen) → Tokens (word.Named (codes "Smalltalk") ∷ word.Key (codes "interchangeVersion:") ∷ word.Str text ∷ []) all [] → Shows [] src all → first_element src ≡ Says (Whole (unit.Version text))
version_says text src all (lexing.next_word i (lexing.next_word j (lexing.next_word k lexing.no_words))) shows =
    first_says src (token kind.Identifier (codes "Smalltalk") i) (token kind.Keyword (codes "interchangeVersion:") j) (token kind.Str (quoted text) k ∷ []) shows refl refl refl refl refl ∙ ap (λ x. Says (Whole (unit.Version x))) (string_value-quoted text)

pub record VersionRead (text : List ℕ) : Type 0 where
  pub says : first_element (string_text (codes "Smalltalk") (codes "interchangeVersion:") text) ≡ Says (Whole (unit.Version text))
  pub black : is_white (string_text (codes "Smalltalk") (codes "interchangeVersion:") text) ≡ false

pub version_read : (text : List ℕ) → VersionRead text
unfolding string_text
version_read text =
    let ws : Words = word.Named (codes "Smalltalk") ∷ word.Key (codes "interchangeVersion:") ∷ word.Str text ∷ [] in
    let well : AreWell ws = (refl, ((codes "interchangeVersion", refl, refl), (tt, tt))) in
    let laid' = lex_laid Joined ws [] [] [] well at_end (shows_end (laid Joined ws)) in
    record {
      says = version_says text (laid Joined ws) laid'.all laid'.tokens (subst (λ (xs : List ℕ). Shows [] xs laid'.all) (append-nil (laid Joined ws)) laid'.shows);
      black = black_words ws (_, _, refl) well;
    }
