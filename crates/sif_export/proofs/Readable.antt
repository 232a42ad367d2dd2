-- What was read of a file is readable.
use Rattle.std.proofs.Common.{◌≡◌, ℕ, Bool, List, [], ◌∷◌, ◌++◌, refl, ap, sym, ◌∙◌, subst, append-nil, append_assoc}
use Rattle.st_base.specs.declared.faults.Reason.{Reason}
use Rattle.st_tree.specs.declared.headers.Target.{Target}
use Rattle.st_tree.specs.declared.units.UnitKind.{UnitKind}
use Rattle.st_tree.specs.declared.units.Annotation.{Annotation}
use Rattle.st_tree.specs.declared.units.Unit as declared
use Rattle.st_tree.specs.Numbers.{unit, annotated}
use Rattle.st_tree.specs.Units as listed
use Rattle.st_tree.specs.Units.{Annotated, no_more, one_more, Further, no_units, whole, Units, file}
use Rattle.sif_elements.specs.declared.progress.Progress.{Progress}
use Rattle.sif_elements.specs.declared.progress.Progress.TheVariants.{Start, Between, Awaiting}
use Rattle.sif_elements.specs.Reading as reading
use Rattle.sif_elements.specs.Reading.{Answer, Read, Refuse, Takes, Answers, long_text, white_text, spoiled, taken, long_rest, long_input, unfinished, nothing_read, no_text_behind, all_read, Reads}
use Rattle.sif_export.specs.RoundTrip.{AreElements, IsReadable}
use Rattle.sif_export.proofs.Paths.{Path, path_end, path_next, annotated-last}

between_same : {us vs : List declared.Unit} → Between us ≡ Between vs → us ≡ vs
between_same e = cc

-- the texts behind a unit are its further annotations, and then units
record Listed (us : List declared.Unit) (kind : UnitKind) (notes : List Annotation) (texts : List (List ℕ)) (all : List declared.Unit) : Type 0 where
  more : List Annotation
  units : List declared.Unit
  rest : List (List ℕ)
  annotations : Annotated texts rest more
  behind : Further rest units
  are : all ≡ us ++ unit kind (notes ++ more) ∷ units

starts : {us : List declared.Unit} {P : Type 0} → Start ≡ Between us → P
starts e = absurd (let k = e in cc)

awaits : {us vs : List declared.Unit} {t : Target} {P : Type 0} → Awaiting us t ≡ Between vs → P
awaits e = absurd (let k = e in cc)

-- a whole unit comes next
listed_whole : (us : List declared.Unit) (kind next : UnitKind) (notes : List Annotation) (texts : List (List ℕ)) (all : List declared.Unit) (l : Listed (us ++ unit kind notes ∷ []) next [] texts all) → {here : List (List ℕ)} → Further here (unit next l.more ∷ l.units) → Listed us kind notes here all
listed_whole us kind next notes texts all l {here = here} f = record {
  more = [];
  units = unit next l.more ∷ l.units;
  rest = here;
  annotations = no_more;
  behind = f;
  are = l.are ∙ append_assoc us (unit kind notes ∷ []) (unit next l.more ∷ l.units) ∙ ap (λ ns. us ++ unit kind ns ∷ unit next l.more ∷ l.units) (sym (append-nil notes));
}

listed_note : (us : List declared.Unit) (kind : UnitKind) (notes : List Annotation) (a : Annotation) (texts : List (List ℕ)) (all : List declared.Unit) (l : Listed us kind (notes ++ a ∷ []) texts all) → {text : List ℕ} → Annotated (text ∷ texts) l.rest (a ∷ l.more) → Listed us kind notes (text ∷ texts) all
listed_note us kind notes a texts all l n = record {
  more = a ∷ l.more;
  units = l.units;
  rest = l.rest;
  annotations = n;
  behind = l.behind;
  are = l.are ∙ ap (λ ns. us ++ unit kind ns ∷ l.units) (append_assoc notes (a ∷ []) l.more);
}

listed_of : {p q : Progress} {texts : List (List ℕ)} → Path p texts q → (us : List declared.Unit) (kind : UnitKind) (notes : List Annotation) (all : List declared.Unit) → p ≡ Between (us ++ unit kind notes ∷ []) → q ≡ Between all → Listed us kind notes texts all
listed_of path_end us kind notes all e f = record {
  more = [];
  units = [];
  rest = [];
  annotations = no_more;
  behind = no_units;
  are = between_same (sym f ∙ e) ∙ ap (λ ns. us ++ unit kind ns ∷ []) (sym (append-nil notes));
}
listed_of (path_next {texts = texts} black (reading.version h) x) us kind notes all e f = starts e
listed_of (path_next {texts = texts} black (reading.whole {kind = next} {us = vs} h) x) us kind notes all e f =
    let l = listed_of x (us ++ unit kind notes ∷ []) next [] all (ap (λ ws. Between (ws ++ unit next [] ∷ [])) (between_same e)) f in
    listed_whole us kind next notes texts all l (whole h l.annotations l.behind)
listed_of (path_next black (reading.header h) path_end) us kind notes all e f = awaits f
listed_of (path_next black (reading.header {us = vs} h) (path_next {texts = texts} black' (reading.text_of_header {kind = next} t u) x)) us kind notes all e f =
    let l = listed_of x (us ++ unit kind notes ∷ []) next [] all (ap (λ ws. Between (ws ++ unit next [] ∷ [])) (between_same e)) f in
    listed_whole us kind next notes texts all l (listed.with_text h t u l.annotations l.behind)
listed_of (path_next {texts = texts} black (reading.annotation {a = a} {us = vs} h) x) us kind notes all e f =
    let l = listed_of x us kind (notes ++ a ∷ []) all (ap (λ ws. Between (annotated ws a)) (between_same e) ∙ ap Between (annotated-last us kind notes a)) f in
    listed_note us kind notes a texts all l (one_more h l.annotations)
listed_of (path_next black (reading.text_of_header t u) x) us kind notes all e f = awaits e

-- a path from the start to units
units_of : {p q : Progress} {texts : List (List ℕ)} → Path p texts q → (all : List declared.Unit) → p ≡ Start → q ≡ Between all → Units texts all
units_of path_end all e f = starts (sym e ∙ f)
units_of (path_next {texts = texts} black (reading.version {kind = kind} h) x) all e f =
    let l = listed_of x [] kind [] all refl f in
    subst (Units _) (sym l.are) (file h l.annotations l.behind)
units_of (path_next black (reading.whole h) x) all e f = starts (sym e)
units_of (path_next black (reading.header h) x) all e f = starts (sym e)
units_of (path_next black (reading.annotation h) x) all e f = starts (sym e)
units_of (path_next black (reading.text_of_header t u) x) all e f = awaits' e
  where
    awaits' : {us : List declared.Unit} {t : Target} {P : Type 0} → Awaiting us t ≡ Start → P
    awaits' h = absurd (let k = h in cc)

-- ---- what is read is a path over the texts that aren't white

record Walked (p : Progress) (us : List declared.Unit) : Type 0 where
  elements : List (List ℕ)
  black : AreElements elements
  path : Path p elements (Between us)

read_same : {us vs : List declared.Unit} → Read us ≡ Read vs → us ≡ vs
read_same e = cc

refused : {n byte : ℕ} {why : Reason} {us : List declared.Unit} {P : Type 0} → Refuse n byte why ≡ Read us → P
refused e = absurd (let k = e in cc)

walked : {p : Progress} {ended : Bool} {n : ℕ} {texts : List (List ℕ)} {rest : List ℕ} {a : Answer} → Answers p ended n texts rest a → (us : List declared.Unit) → a ≡ Read us → Walked p us
walked (long_text h) us e = refused e
walked (white_text h w k) us e = walked k us e
walked (spoiled h w s) us e = refused e
walked (taken {text = text} h w t k) us e = let rest = walked k us e in record { elements = text ∷ rest.elements; black = (w, rest.black); path = path_next w t rest.path }
walked (long_rest h) us e = refused e
walked (long_input h) us e = refused e
walked (unfinished h w) us e = refused e
walked (nothing_read h w) us e = refused e
walked (no_text_behind h w) us e = refused e
walked (all_read {us = vs} h w) us e = record { elements = []; black = tt; path = subst (λ ws. Path (Between vs) [] (Between ws)) (read_same e) path_end }

-- the units that were read of a file are readable
pub reads_readable : (bytes : List ℕ) (us : List declared.Unit) → Reads bytes us → IsReadable us
reads_readable bytes us h = let w = walked h us refl in (w.elements, units_of w.path us refl refl, w.black)
