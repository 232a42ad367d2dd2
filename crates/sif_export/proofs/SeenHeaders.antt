-- What an element says, by its tokens as they are seen.
use Rattle.std.proofs.Common.{◌≡◌, ℕ, zero, suc, true, ◌&&◌, if◌then◌else◌, List, [], ◌∷◌, map, length, codes, Option, None, Some, refl, ap, ap₂, ◌∙◌}
use Rattle.std.specs.Prelude.{slice_get}
use Rattle.std.specs.Str.{bytes_eq}
use Rattle.st_base.specs.declared.tokens.Token.{Token}
use Rattle.st_base.specs.declared.tokens.TokenKind.TheVariants as kind
use Rattle.st_base.specs.declared.faults.Reason.TheVariants as reason
use Rattle.st_base.specs.Lexed.{lexed_of}
use Rattle.st_tree.specs.Symbols.{text_of, string_value}
use Rattle.st_tree.specs.declared.headers.Row.{Row}
use Rattle.st_tree.specs.declared.headers.Row.TheVariants as row
use Rattle.st_tree.specs.declared.headers.Target.TheVariants as target
use Rattle.st_tree.specs.declared.headers.Header.{Header}
use Rattle.st_tree.specs.declared.headers.Header.TheVariants.{Whole, Awaits, Annotates}
use Rattle.st_tree.specs.declared.units.Indexed.{Indexed}
use Rattle.st_tree.specs.declared.units.Indexed.TheVariants as indexed
use Rattle.st_tree.specs.declared.units.ClassUnit.{ClassUnit}
use Rattle.st_tree.specs.declared.units.UnitKind.TheVariants as unit
use Rattle.st_tree.specs.Headers.{words_of, Slot, fits, slots_of, row_of, Walk, Filled, Stuck, Short, walk, way_of, way_or_none, is_identifier_kind, is_keyword_kind, string_at, way_at, class_of, header_of, Says, Faulty, judged, by_row, says, begins_version, says_first}
use Rattle.st_tree.specs.Units.{element, first_element}
use Rattle.sif_export.proofs.Shown.{Seen, seen, Shows}

-- ---- the places of an element, filled by tokens as they are seen

abbrev pub walk_seen : List Slot → List Seen → Walk
walk_seen [] [] = Filled
walk_seen [] (s ∷ ss) = Stuck s.at
walk_seen (slot ∷ slots) [] = Short
walk_seen (slot ∷ slots) (s ∷ ss) = if fits slot s.kind s.text then walk_seen slots ss else Stuck s.at

walk-seen : (slots : List Slot) (text : List ℕ) (ts : List Token) → walk slots text ts ≡ walk_seen slots (map (seen text) ts)
walk-seen [] text [] = refl
walk-seen [] text (t ∷ ts) = refl
walk-seen (slot ∷ slots) text [] = refl
walk-seen (slot ∷ slots) text (t ∷ ts) = ap (λ x. if fits slot t.kind (text_of text t) then x else Stuck t.start) (walk-seen slots text ts)

abbrev pub string_of : Option Seen → List ℕ
string_of None = []
string_of (Some s) = string_value s.text

abbrev pub way_seen : Option Seen → Indexed
way_seen None = indexed.None
way_seen (Some s) = way_or_none (way_of s.text)

string-seen : (text : List ℕ) (ts : List Token) (n : ℕ) → string_at text ts n ≡ string_of (slice_get (map (seen text) ts) n)
string-seen text [] zero = refl
string-seen text [] (suc n) = refl
string-seen text (t ∷ ts) zero = refl
string-seen text (t ∷ ts) (suc n) = string-seen text ts n

way-seen : (text : List ℕ) (ts : List Token) (n : ℕ) → way_at text ts n ≡ way_seen (slice_get (map (seen text) ts) n)
way-seen text [] zero = refl
way-seen text [] (suc n) = refl
way-seen text (t ∷ ts) zero = refl
way-seen text (t ∷ ts) (suc n) = way-seen text ts n

abbrev pub class : List ℕ → List ℕ → Indexed → List ℕ → List ℕ → List ℕ → List ℕ → ClassUnit
class n s w i c p k = record { name = n; superclass = s; indexed = w; instance_names = words_of i; class_names = words_of c; pools = words_of p; class_instance_names = words_of k }

abbrev pub class_seen : List Seen → ClassUnit
class_seen ss = class (string_of (slice_get ss 0)) (string_of (slice_get ss 2)) (way_seen (slice_get ss 4)) (string_of (slice_get ss 6)) (string_of (slice_get ss 8)) (string_of (slice_get ss 10)) (string_of (slice_get ss 12))

class-seen : (text : List ℕ) (ts : List Token) → class_of text ts ≡ class_seen (map (seen text) ts)
class-seen text ts =
    class_same (string-seen text ts 0) (string-seen text ts 2) (way-seen text ts 4) (string-seen text ts 6) (string-seen text ts 8) (string-seen text ts 10) (string-seen text ts 12)
  where
    class_same : {n n' s s' : List ℕ} {w w' : Indexed} {i i' c c' p p' k k' : List ℕ} → n ≡ n' → s ≡ s' → w ≡ w' → i ≡ i' → c ≡ c' → p ≡ p' → k ≡ k' → class n s w i c p k ≡ class n' s' w' i' c' p' k'
    class_same {n = n} {n' = n'} {s = s} {s' = s'} {w = w} {w' = w'} {i = i} {i' = i'} {c = c} {c' = c'} {p = p} {p' = p'} {k = k} a b d e f g h =
        ap (λ x. class x s w i c p k) a ∙ ap (λ x. class n' x w i c p k) b ∙ ap (λ x. class n' s' x i c p k) d ∙ ap (λ x. class n' s' w' x c p k) e ∙ ap (λ x. class n' s' w' i' x p k) f ∙ ap (λ x. class n' s' w' i' c' x k) g ∙ ap (λ x. class n' s' w' i' c' p' x) h

abbrev pub header_seen : Row → List ℕ → List Seen → Header
header_seen row.Version first ss = Whole (unit.Version (string_of (slice_get ss 0)))
header_seen row.Class first ss = Whole (unit.Class (class_seen ss))
header_seen row.GlobalVariable first ss = Whole (unit.GlobalVariable (string_of (slice_get ss 0)))
header_seen row.GlobalConstant first ss = Whole (unit.GlobalConstant (string_of (slice_get ss 0)))
header_seen row.Pool first ss = Whole (unit.Pool (string_of (slice_get ss 0)))
header_seen row.PoolVariable first ss = Whole (unit.PoolVariable first (string_of (slice_get ss 0)))
header_seen row.PoolConstant first ss = Whole (unit.PoolConstant first (string_of (slice_get ss 0)))
header_seen row.PoolInitializer first ss = Awaits (target.PoolInitializer first (string_of (slice_get ss 0)))
header_seen row.ProgramInitializer first ss = Awaits target.ProgramInitializer
header_seen row.Initializer first ss = Awaits (target.Initializer first)
header_seen row.Method first ss = Awaits (target.Method first)
header_seen row.ClassMethod first ss = Awaits (target.ClassMethod first)
header_seen row.Annotation first ss = Annotates (record { key = string_of (slice_get ss 0); value = string_of (slice_get ss 2) })

header-seen : (r : Row) (first text : List ℕ) (ts : List Token) → header_of r first text ts ≡ header_seen r first (map (seen text) ts)
header-seen row.Version first text ts = ap (λ x. Whole (unit.Version x)) (string-seen text ts 0)
header-seen row.Class first text ts = ap (λ x. Whole (unit.Class x)) (class-seen text ts)
header-seen row.GlobalVariable first text ts = ap (λ x. Whole (unit.GlobalVariable x)) (string-seen text ts 0)
header-seen row.GlobalConstant first text ts = ap (λ x. Whole (unit.GlobalConstant x)) (string-seen text ts 0)
header-seen row.Pool first text ts = ap (λ x. Whole (unit.Pool x)) (string-seen text ts 0)
header-seen row.PoolVariable first text ts = ap (λ x. Whole (unit.PoolVariable first x)) (string-seen text ts 0)
header-seen row.PoolConstant first text ts = ap (λ x. Whole (unit.PoolConstant first x)) (string-seen text ts 0)
header-seen row.PoolInitializer first text ts = ap (λ x. Awaits (target.PoolInitializer first x)) (string-seen text ts 0)
header-seen row.ProgramInitializer first text ts = refl
header-seen row.Initializer first text ts = refl
header-seen row.Method first text ts = refl
header-seen row.ClassMethod first text ts = refl
header-seen row.Annotation first text ts = ap₂ (λ x y. Annotates (record { key = x; value = y })) (string-seen text ts 0) (string-seen text ts 2)

-- ---- what a text says that shows some tokens

record Two (text : List ℕ) (ts : List Token) (p q : Seen) (ps : List Seen) : Type 0 where
  first : Token
  second : Token
  others : List Token
  whole : ts ≡ first ∷ second ∷ others
  is_first : seen text first ≡ p
  is_second : seen text second ≡ q
  are_others : map (seen text) others ≡ ps

two : (text : List ℕ) (ts : List Token) (p q : Seen) (ps : List Seen) → map (seen text) ts ≡ p ∷ q ∷ ps → Two text ts p q ps
two text [] p q ps e = absurd (let k : [] ≡ p ∷ q ∷ ps = e in cc)
two text (a ∷ []) p q ps e = absurd (let k : seen text a ∷ [] ≡ p ∷ q ∷ ps = e in cc)
two text (a ∷ b ∷ ts) p q ps e = record { first = a; second = b; others = ts; whole = refl; is_first = first_same e; is_second = second_same e; are_others = rest_same e }
  where
    first_same : {x y p q : Seen} {xs ps : List Seen} → x ∷ y ∷ xs ≡ p ∷ q ∷ ps → x ≡ p
    first_same h = cc

    second_same : {x y p q : Seen} {xs ps : List Seen} → x ∷ y ∷ xs ≡ p ∷ q ∷ ps → y ≡ q
    second_same h = cc

    rest_same : {x y p q : Seen} {xs ps : List Seen} → x ∷ y ∷ xs ≡ p ∷ q ∷ ps → xs ≡ ps
    rest_same h = cc

row_says : (r : Option Row) (r' : Row) (byte : ℕ) (first text : List ℕ) (ts : List Token) → r ≡ Some r' → walk_seen (slots_of r') (map (seen text) ts) ≡ Filled → by_row r byte first text ts None ≡ Says (header_seen r' first (map (seen text) ts))
row_says r r' byte first text ts is filled =
    ap (λ x. by_row x byte first text ts None) is ∙ ap (λ w. judged w (header_of r' first text ts) None (length text)) (walk-seen (slots_of r') text ts ∙ filled) ∙ ap Says (header-seen r' first text ts)

-- the text of an element that shows an identifier, what tells its row, and tokens that fill its places
pub element_says : (text : List ℕ) (p q : Seen) (ps : List Seen) (r : Row) → Shows [] text (p ∷ q ∷ ps) → p.kind ≡ kind.Identifier → row_of p.text q.kind q.text ≡ Some r → walk_seen (slots_of r) ps ≡ Filled → element text ≡ Says (header_seen r p.text ps)
unfolding lexed_of
element_says text p q ps r shows first row filled =
    let parts = two text (lexed_of text).tokens p q ps shows.as_seen in
    let a = parts.first in
    let b = parts.second in
    let is_kind : a.kind ≡ kind.Identifier = ap (λ s. s.kind) parts.is_first ∙ first in
    let row' : row_of (text_of text a) b.kind (text_of text b) ≡ Some r = ap₂ (λ s t. row_of s.text t.kind t.text) parts.is_first parts.is_second ∙ row in
    let filled' : walk_seen (slots_of r) (map (seen text) parts.others) ≡ Filled = ap (walk_seen (slots_of r)) parts.are_others ∙ filled in
    ap (λ l. says text (lexed_of text).tokens l) shows.whole ∙ ap (λ ts. says text ts None) parts.whole
    ∙ ap (λ k. if is_identifier_kind k then by_row (row_of (text_of text a) b.kind (text_of text b)) b.start (text_of text a) text parts.others None else Faulty a.start reason.Syntax) is_kind
    ∙ row_says (row_of (text_of text a) b.kind (text_of text b)) r b.start (text_of text a) text parts.others row' filled'
    ∙ ap₂ (λ s ss. Says (header_seen r s.text ss)) parts.is_first parts.are_others

-- the same, of the version element
pub first_says : (text : List ℕ) (p q : Seen) (ps : List Seen) → Shows [] text (p ∷ q ∷ ps) → p.kind ≡ kind.Identifier → p.text ≡ codes "Smalltalk" → q.kind ≡ kind.Keyword → q.text ≡ codes "interchangeVersion:" → walk_seen (slots_of row.Version) ps ≡ Filled → first_element text ≡ Says (header_seen row.Version [] ps)
unfolding lexed_of
first_says text p q ps shows pk pt qk qt filled =
    let parts = two text (lexed_of text).tokens p q ps shows.as_seen in
    let a = parts.first in
    let b = parts.second in
    let begins : begins_version text (a ∷ b ∷ parts.others) ≡ true =
    ap₂ (λ s t. is_identifier_kind s.kind && bytes_eq s.text (codes "Smalltalk") && is_keyword_kind t.kind && bytes_eq t.text (codes "interchangeVersion:")) parts.is_first parts.is_second
    ∙ rw (pk, pt, qk, qt) refl in
    let filled' : walk_seen (slots_of row.Version) (map (seen text) parts.others) ≡ Filled = ap (walk_seen (slots_of row.Version)) parts.are_others ∙ filled in
    ap (λ l. says_first text (lexed_of text).tokens l) shows.whole ∙ ap (λ ts. says_first text ts None) parts.whole
    ∙ ap (λ x. if x then by_row (Some row.Version) 0 [] text parts.others None else Faulty 0 reason.MissingVersion) begins
    ∙ row_says (Some row.Version) row.Version 0 [] text parts.others refl filled' ∙ ap (λ ss. Says (header_seen row.Version [] ss)) parts.are_others
