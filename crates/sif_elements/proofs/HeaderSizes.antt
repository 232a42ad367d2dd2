-- What an element says is small where its text is.
use Rattle.std.proofs.Common.{◌≡◌, ℕ, ◌+◌, ◌-◌, ◌*◌, ◌≤◌, List, [], ◌∷◌, length, drop, Bool, true, false, if◌then◌else◌, Option, None, Some, refl, subst, arith}
use Rattle.std.specs.Prelude.{◌==◌, slice_get}
use Rattle.std.specs.List.{sum_by}
use Rattle.std.proofs.lemmas.List.{length-take, length-drop}
use Rattle.std.proofs.lemmas.List.Sums.{sum_by-cons}
use Rattle.st_base.specs.TokenBytes.{is_white_byte}
use Rattle.st_base.specs.Lexed.{lexed_of}
use Rattle.st_base.specs.declared.faults.Reason.{Reason}
use Rattle.st_base.specs.declared.faults.Reason.TheVariants as reason
use Rattle.st_base.specs.declared.tokens.Token.{Token}
use Rattle.st_base.specs.declared.tokens.LexFault.{LexFault}
use Rattle.st_tree.specs.declared.units.UnitKind.TheVariants as kinds
use Rattle.st_tree.specs.declared.headers.Header.{Header}
use Rattle.st_tree.specs.declared.headers.Header.TheVariants.{Whole, Awaits, Annotates}
use Rattle.st_tree.specs.declared.headers.Target.{Target}
use Rattle.st_tree.specs.declared.headers.Target.TheVariants as target
use Rattle.st_tree.specs.declared.headers.Row.{Row}
use Rattle.st_tree.specs.declared.headers.Row.TheVariants as row
use Rattle.st_tree.specs.Symbols.{text_of}
use Rattle.st_tree.specs.Headers.{onto_word, words_behind, words_of, string_in, string_at, header_of, row_of, comments_in, comments_of, slots_of, walk, is_identifier_kind, Walk, Filled, Stuck, Short, Element, Says, Faulty, judged, by_row, says, begins_version}
use Rattle.st_tree.specs.Units.{element, first_element}
use Rattle.st_tree.specs.Small.{text_size, kind_size, annotation_size, moves_of}
use Rattle.sif_elements.proofs.Paid.{string_value-length}

-- the names of a target
abbrev pub target_size : Target → ℕ
target_size (target.Initializer name) = text_size name
target_size (target.PoolInitializer pool name) = text_size pool + text_size name
target_size target.ProgramInitializer = 0
target_size (target.Method class) = text_size class
target_size (target.ClassMethod class) = text_size class

-- what a text of this length can say
abbrev pub IsSmallHeader : ℕ → Header → Type 0
IsSmallHeader n (Whole kind) = (kind_size kind ≤ 6 * n + 6) × (moves_of kind ≡ 0)
IsSmallHeader n (Awaits t) = target_size t ≤ 6 * n + 6
IsSmallHeader n (Annotates a) = annotation_size a ≤ 6 * n + 6

-- ---- words and comments

-- a byte in front of a first word
onto_word-size : (b n : ℕ) (words : List (List ℕ)) → sum_by text_size words ≤ n + 1 → sum_by text_size (onto_word b words) ≤ n + 2
onto_word-size b n [] h = omega arith
onto_word-size b n (word ∷ words) h = omega (arith, h, sum_by-cons text_size word words, sum_by-cons text_size (b ∷ word) words)

if_most : (c : Bool) (x y : List (List ℕ)) (n : ℕ) → sum_by text_size x ≤ n → sum_by text_size y ≤ n → sum_by text_size (if c then x else y) ≤ n
if_most true x y n here there = here
if_most false x y n here there = there

words_behind-size : (white : Bool) (t : List ℕ) → sum_by text_size (words_behind white t) ≤ length t + 1
words_behind-size false [] = omega arith
words_behind-size true [] = omega arith
words_behind-size false (b ∷ bs) = if_most (is_white_byte b) ([] ∷ words_behind true bs) (onto_word b (words_behind false bs)) (length (b ∷ bs) + 1)
    (omega (arith, sum_by-cons text_size [] (words_behind true bs), words_behind-size true bs)) (omega (arith, onto_word-size b (length bs) (words_behind false bs) (words_behind-size false bs)))
words_behind-size true (b ∷ bs) = if_most (is_white_byte b) (words_behind true bs) (onto_word b (words_behind false bs)) (length (b ∷ bs) + 1)
    (omega (arith, words_behind-size true bs)) (omega (arith, onto_word-size b (length bs) (words_behind false bs) (words_behind-size false bs)))

words_of-size : (t : List ℕ) → sum_by text_size (words_of t) ≤ length t + 1
words_of-size [] = omega arith
words_of-size (b ∷ bs) = words_behind-size false (b ∷ bs)

-- an open comment is one more text
abbrev open_texts : Bool → ℕ
open_texts true = 1
open_texts false = 0

comments_in-size : (opened : Bool) (t : List ℕ) → sum_by text_size (comments_in opened t) ≤ length t + open_texts opened
comments_in-size false [] = omega arith
comments_in-size true [] = omega arith
comments_in-size false (b ∷ bs) = if_most (b == 34) (comments_in true bs) (comments_in false bs) (length (b ∷ bs) + 0) (omega (arith, comments_in-size true bs)) (omega (arith, comments_in-size false bs))
comments_in-size true (b ∷ bs) = if_most (b == 34) ([] ∷ comments_in false bs) (onto_word b (comments_in true bs)) (length (b ∷ bs) + 1)
    (omega (arith, sum_by-cons text_size [] (comments_in false bs), comments_in-size false bs)) (omega (arith, onto_word-size b (length bs) (comments_in true bs) (comments_in-size true bs)))

-- ---- strings of an element

text_of-within : (text : List ℕ) (t : Token) → length (text_of text t) ≤ length text
text_of-within text t = omega (arith, length-take (t.end - t.start) (drop t.start text), length-drop t.start text)

string_in-within : (text : List ℕ) (t : Option Token) → length (string_in text t) ≤ length text
string_in-within text None = omega arith
string_in-within text (Some t) = omega (arith, string_value-length (text_of text t), text_of-within text t)

string_at-within : (text : List ℕ) (ts : List Token) (n : ℕ) → length (string_at text ts n) ≤ length text
string_at-within text ts n = string_in-within text (slice_get ts n)

names_at : (text : List ℕ) (ts : List Token) (n : ℕ) → sum_by text_size (words_of (string_at text ts n)) ≤ length text + 1
names_at text ts n = omega (arith, words_of-size (string_at text ts n), string_at-within text ts n)

-- ---- what an element says

header_of-small : (r : Row) (first text : List ℕ) (ts : List Token) → length first ≤ length text → IsSmallHeader (length text) (header_of r first text ts)
header_of-small row.Version first text ts h = (omega (arith, string_at-within text ts 0), refl)
header_of-small row.Class first text ts h = (
  omega (arith, string_at-within text ts 0, string_at-within text ts 2, names_at text ts 6, names_at text ts 8, names_at text ts 10, names_at text ts 12),
  refl,
)
header_of-small row.GlobalVariable first text ts h = (omega (arith, string_at-within text ts 0), refl)
header_of-small row.GlobalConstant first text ts h = (omega (arith, string_at-within text ts 0), refl)
header_of-small row.Pool first text ts h = (omega (arith, string_at-within text ts 0), refl)
header_of-small row.PoolVariable first text ts h = (omega (arith, h, string_at-within text ts 0), refl)
header_of-small row.PoolConstant first text ts h = (omega (arith, h, string_at-within text ts 0), refl)
header_of-small row.PoolInitializer first text ts h = omega (arith, h, string_at-within text ts 0)
header_of-small row.ProgramInitializer first text ts h = omega arith
header_of-small row.Initializer first text ts h = omega (arith, h)
header_of-small row.Method first text ts h = omega (arith, h)
header_of-small row.ClassMethod first text ts h = omega (arith, h)
header_of-small row.Annotation first text ts h = omega (arith, string_at-within text ts 0, string_at-within text ts 2)

says_same : {h k : Header} → Says h ≡ Says k → h ≡ k
says_same e = cc

not_says : {byte : ℕ} {why : Reason} {h : Header} {A : Type 0} → Faulty byte why ≡ Says h → A
not_says {byte} {why} {h} e = absurd (let k : Faulty byte why ≡ Says h = e in cc)

-- an element whose places are filled says what its header says
judged_says : (w : Walk) (header : Header) (lexical : Option LexFault) (len : ℕ) (h : Header) → judged w header lexical len ≡ Says h → header ≡ h
judged_says (Stuck byte) header lexical len h e = not_says e
judged_says Filled header None len h e = says_same e
judged_says Filled header (Some f) len h e = not_says e
judged_says Short header None len h e = not_says e
judged_says Short header (Some f) len h e = not_says e

by_row-small : (r : Option Row) (second : ℕ) (first text : List ℕ) (ts : List Token) (lexical : Option LexFault) (h : Header) → length first ≤ length text → by_row r second first text ts lexical ≡ Says h → IsSmallHeader (length text) h
by_row-small None second first text ts lexical h short e = not_says e
by_row-small (Some r) second first text ts lexical h short e = subst (IsSmallHeader (length text)) (judged_says (walk (slots_of r) text ts) (header_of r first text ts) lexical (length text) h e) (header_of-small r first text ts short)

then_says : (b : Bool) (x : Element) (byte : ℕ) (why : Reason) (h : Header) → (if b then x else Faulty byte why) ≡ Says h → x ≡ Says h
then_says true x byte why h e = e
then_says false x byte why h e = not_says e

comment-small : (text : List ℕ) → IsSmallHeader (length text) (Whole (kinds.Comment (comments_of text)))
comment-small text = (omega (arith, comments_in-size false text), refl)

says-small : (text : List ℕ) (ts : List Token) (lexical : Option LexFault) (h : Header) → says text ts lexical ≡ Says h → IsSmallHeader (length text) h
says-small text [] lexical h e = subst (IsSmallHeader (length text)) (judged_says Filled (Whole (kinds.Comment (comments_of text))) lexical (length text) h e) (comment-small text)
says-small text (a ∷ []) lexical h e = subst (IsSmallHeader (length text)) (judged_says Short (Awaits target.ProgramInitializer) lexical (length text) h (then_says (is_identifier_kind a.kind) _ a.start reason.Syntax h e)) (omega arith)
says-small text (a ∷ b ∷ ts) lexical h e = by_row-small (row_of (text_of text a) b.kind (text_of text b)) b.start (text_of text a) text ts lexical h (text_of-within text a) (then_says (is_identifier_kind a.kind) _ a.start reason.Syntax h e)

pub element-small : (text : List ℕ) (h : Header) → element text ≡ Says h → IsSmallHeader (length text) h
element-small text h e = says-small text (lexed_of text).tokens (lexed_of text).fault h e

pub first_element-small : (text : List ℕ) (h : Header) → first_element text ≡ Says h → IsSmallHeader (length text) h
first_element-small text h e = by_row-small (Some row.Version) 0 [] text (drop 2 (lexed_of text).tokens) (lexed_of text).fault h (omega arith) (then_says (begins_version text (lexed_of text).tokens) _ 0 reason.MissingVersion h e)
