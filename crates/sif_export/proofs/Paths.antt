-- Elements that lead from one state of a reading to another.
use Rattle.std.proofs.Common.{◌≡◌, inl, inr, ◌+◌, ◌<◌, ◌≤◌, ℕ, Bool, true, false, true≢false, ◌==◌, ◌&&◌, nat_le, if◌then◌else◌, List, [], ◌∷◌, ◌++◌, length, Some, refl, ap, sym, ◌∙◌, subst, arith, append-nil, append_assoc}
use Rattle.std.specs.List.{list_all}
use Rattle.st_base.specs.declared.faults.Reason.{Reason}
use Rattle.st_base.specs.declared.faults.Reason.TheVariants as reason
use Rattle.sif_chunks.specs.Split.{onto_first, onto, with_text, parts_behind}
use Rattle.sif_chunks.specs.Reading.{is_white, max_text}
use Rattle.st_tree.specs.declared.headers.Target.{Target}
use Rattle.st_tree.specs.declared.units.UnitKind.{UnitKind}
use Rattle.st_tree.specs.declared.units.Annotation.{Annotation}
use Rattle.st_tree.specs.declared.units.Unit as declared
use Rattle.st_tree.specs.Grammar.{Tree}
use Rattle.st_tree.specs.Headers.{UnitOf, initializer, pool_initializer, program_initializer, method, class_method}
use Rattle.st_tree.specs.Numbers.{unit, annotated}
use Rattle.st_tree.specs.Units as listed
use Rattle.st_tree.specs.Units.{element, first_element, TextIs, Annotated, no_more, one_more, Further, no_units, whole, Units, file}
use Rattle.st_parser.proofs.Verdicts.{tree_found}
use Rattle.sif_elements.specs.declared.progress.Progress.{Progress}
use Rattle.sif_elements.specs.declared.progress.Progress.TheVariants.{Start, Between}
use Rattle.sif_elements.specs.Reading as reading
use Rattle.sif_elements.specs.Reading.{Answer, Read, Refuse, Takes, Answers, long_text, taken, long_rest, long_input, all_read}
use Rattle.sif_elements.specs.Steps.{kind_of, Goes, behind_element, behind_text, behind_tree, step_of}
use Rattle.sif_export.specs.RoundTrip.{AreElements, is_short, IsLength}

-- each of the texts is an element that is taken
pub data Path : Progress → List (List ℕ) → Progress → Type 0 where
  path_end : {p : Progress} → Path p [] p
  path_next : {p q r : Progress} {text : List ℕ} {texts : List (List ℕ)} → is_white text ≡ false → Takes p text q → Path q texts r → Path p (text ∷ texts) r

-- ---- the units of a file are a path

pub annotated-last : (us : List declared.Unit) (kind : UnitKind) (notes : List Annotation) (a : Annotation) → annotated (us ++ unit kind notes ∷ []) a ≡ us ++ unit kind (notes ++ a ∷ []) ∷ []
annotated-last [] kind notes a = refl
annotated-last (u ∷ []) kind notes a = refl
annotated-last (u ∷ v ∷ us) kind notes a = ap (λ xs. u ∷ xs) (annotated-last (v ∷ us) kind notes a)

notes_path : {texts rest : List (List ℕ)} {notes : List Annotation} → Annotated texts rest notes → AreElements texts → (us : List declared.Unit) (kind : UnitKind) (before : List Annotation) (units : List declared.Unit)
    → ((us : List declared.Unit) → AreElements rest → Path (Between us) rest (Between (us ++ units))) → Path (Between (us ++ unit kind before ∷ [])) texts (Between (us ++ unit kind (before ++ notes) ∷ units))
notes_path (no_more {texts = ts}) h us kind before units go =
    subst (λ x. Path (Between (us ++ unit kind before ∷ [])) ts (Between x)) (append_assoc us (unit kind before ∷ []) units ∙ ap (λ ns. us ++ unit kind ns ∷ units) (sym (append-nil before))) (go (us ++ unit kind before ∷ []) h)
notes_path (one_more {text = text} {texts = texts} {a = a} {more = more} e k) h us kind before units go =
    path_next h.0 (subst (λ x. Takes (Between (us ++ unit kind before ∷ [])) text (Between x)) (annotated-last us kind before a) (reading.annotation e))
    (subst (λ ns. Path (Between (us ++ unit kind (before ++ a ∷ []) ∷ [])) texts (Between (us ++ unit kind ns ∷ units))) (append_assoc before (a ∷ []) more) (notes_path k h.1 us kind (before ++ a ∷ []) units go))

further_path : {texts : List (List ℕ)} {units : List declared.Unit} → Further texts units → AreElements texts → (us : List declared.Unit) → Path (Between us) texts (Between (us ++ units))
further_path no_units h us = subst (λ x. Path (Between us) [] (Between x)) (sym (append-nil us)) path_end
further_path (whole {kind = kind} {units = units} e a f) h us = path_next h.0 (reading.whole e) (notes_path a h.1 us kind [] units (λ vs g. further_path f g vs))
further_path (listed.with_text {kind = kind} {units = units} e r u a f) h us =
    path_next h.0 (reading.header e) (path_next h.1.0 (reading.text_of_header r u) (notes_path a h.1.1 us kind [] units (λ vs g. further_path f g vs)))

-- the elements of a file lead from the start to its units
pub units_path : {texts : List (List ℕ)} {units : List declared.Unit} → Units texts units → AreElements texts → Path Start texts (Between units)
units_path (file {kind = kind} {units = units} e a f) h = path_next h.0 (reading.version e) (notes_path a h.1 [] kind [] units (λ vs g. further_path f g vs))

-- ---- a path leads to one state

kind_found : {t : Target} {tree : Tree} {kind : UnitKind} → UnitOf t tree kind → kind_of t tree ≡ Some kind
kind_found initializer = refl
kind_found pool_initializer = refl
kind_found program_initializer = refl
kind_found method = refl
kind_found class_method = refl

step_takes : {p q : Progress} {text : List ℕ} → Takes p text q → step_of p text ≡ Goes q
step_takes (reading.version e) = ap (behind_element []) e
step_takes (reading.whole e) = ap (behind_element _) e
step_takes (reading.header e) = ap (behind_element _) e
step_takes (reading.annotation e) = ap (behind_element _) e
step_takes (reading.text_of_header t u) = ap (behind_text _ _) (tree_found t) ∙ ap (behind_tree _) (kind_found u)

goes_same : {p q : Progress} → Goes p ≡ Goes q → p ≡ q
goes_same e = cc

takes_one : {p q r : Progress} {text : List ℕ} → Takes p text q → Takes p text r → q ≡ r
takes_one x y = goes_same (sym (step_takes x) ∙ step_takes y)

pub one_path : {p q r : Progress} {texts : List (List ℕ)} → Path p texts q → Path p texts r → q ≡ r
one_path path_end path_end = refl
one_path (path_next {texts = texts} w t x) (path_next {r = r} v s y) = one_path x (subst (λ k. Path k texts r) (takes_one s t) y)

between_same : {us vs : List declared.Unit} → Between us ≡ Between vs → us ≡ vs
between_same e = cc

-- a list of elements has at most one list of units
pub one_units : {texts : List (List ℕ)} {us vs : List declared.Unit} → Units texts us → Units texts vs → AreElements texts → us ≡ vs
one_units x y h = between_same (one_path (units_path x h) (units_path y h))

-- ---- what is answered along a path

short_low : (text : List ℕ) → is_short text ≡ true → length text ≤ max_text
short_low text is = low (length text) is
  where
    low : (n : ℕ) → nat_le n max_text ≡ true → n ≤ max_text
    low n is = grind (arith, is)

long_high : (text : List ℕ) → is_short text ≡ false → max_text < length text
long_high text is = high (length text) is
  where
    high : (n : ℕ) → nat_le n max_text ≡ false → max_text < n
    high n is = grind (arith, is)

-- all are short enough, and the last state is that of a whole file
pub read_path : {p : Progress} {texts : List (List ℕ)} {us : List declared.Unit} → Path p texts (Between us) → list_all is_short texts ≡ true → (n : ℕ) (rest : List ℕ) → length rest ≤ max_text → is_white rest ≡ true → Answers p true n texts rest (Read us)
read_path path_end all n rest low w = all_read low w
read_path {us = us} (path_next {p = p} {q = q} {text = text} {texts = texts} black t x) all n rest low w = go (is_short text) (list_all is_short texts) refl refl all (read_path x)
  where
    go : (a b : Bool) → is_short text ≡ a → list_all is_short texts ≡ b → (a && b) ≡ true → (list_all is_short texts ≡ true → (n : ℕ) (rest : List ℕ) → length rest ≤ max_text → is_white rest ≡ true → Answers q true n texts rest (Read us)) → Answers p true n (text ∷ texts) rest (Read us)
    go true true e f is later = taken (short_low text e) black t (later f (n + 1) rest low w)
    go true false e f is later = absurd (true≢false (sym is))
    go false b e f is later = absurd (true≢false (sym is))

-- a refusal for a length
pub record TooLong (p : Progress) (ended : Bool) (n : ℕ) (texts : List (List ℕ)) (rest : List ℕ) : Type 0 where
  pub number : ℕ
  pub byte : ℕ
  pub why : Reason
  pub answers : Answers p ended n texts rest (Refuse number byte why)
  pub length : IsLength why

long_here : {p : Progress} {ended : Bool} {n : ℕ} {texts : List (List ℕ)} {rest text : List ℕ} → max_text < length text → TooLong p ended n (text ∷ texts) rest
long_here {n = n} high = record { number = n; byte = max_text; why = reason.ElementTooLong; answers = long_text high; length = inl refl }

long_later : {p q : Progress} {ended : Bool} {n : ℕ} {texts : List (List ℕ)} {rest text : List ℕ} → length text ≤ max_text → is_white text ≡ false → Takes p text q → TooLong q ended (n + 1) texts rest → TooLong p ended n (text ∷ texts) rest
long_later low black t x = record { number = x.number; byte = x.byte; why = x.why; answers = taken low black t x.answers; length = x.length }

-- one is too long
pub long_path : {p r : Progress} {texts : List (List ℕ)} → Path p texts r → list_all is_short texts ≡ false → (ended : Bool) (n : ℕ) (rest : List ℕ) → TooLong p ended n texts rest
long_path path_end some ended n rest = absurd (true≢false some)
long_path (path_next {p = p} {q = q} {text = text} {texts = texts} black t x) some ended n rest = go (is_short text) refl (λ e. long_path x e ended (n + 1) rest) some
  where
    go : (a : Bool) → is_short text ≡ a → (list_all is_short texts ≡ false → TooLong q ended (n + 1) texts rest) → (a && list_all is_short texts) ≡ false → TooLong p ended n (text ∷ texts) rest
    go true e later is = long_later (short_low text e) black t (later is)
    go false e later is = long_here (long_high text e)

-- the first list is the front of the second
pub data IsFront : List (List ℕ) → List (List ℕ) → Type 0 where
  front_end : {texts : List (List ℕ)} → IsFront [] texts
  front_next : {text : List ℕ} {some texts : List (List ℕ)} → IsFront some texts → IsFront (text ∷ some) (text ∷ texts)

-- the input goes on behind some of the texts and a part of the next
pub cut_path : {p r : Progress} {some texts : List (List ℕ)} → IsFront some texts → Path p texts r → (n : ℕ) (rest : List ℕ) → TooLong p false n some rest
cut_path {p = p} front_end x n rest = go (is_short rest) refl
  where
    go : (a : Bool) → is_short rest ≡ a → TooLong p false n [] rest
    go true e = record { number = n; byte = length rest; why = reason.InputTooLong; answers = long_input (short_low rest e); length = inr refl }
    go false e = record { number = n; byte = max_text; why = reason.ElementTooLong; answers = long_rest (long_high rest e); length = inl refl }
cut_path {p = p} (front_next {text = text} {some = some} f) (path_next {q = q} black t x) n rest = go (is_short text) refl (cut_path f x (n + 1) rest)
  where
    go : (a : Bool) → is_short text ≡ a → TooLong q false (n + 1) some rest → TooLong p false n (text ∷ some) rest
    go true e later = long_later (short_low text e) black t later
    go false e later = long_here (long_high text e)

-- ---- the texts of a front of some bytes

onto_front : (c : ℕ) (some texts : List (List ℕ)) (rest rest' : List ℕ) → IsFront some texts → IsFront (onto_first (c ∷ []) some rest).texts (onto_first (c ∷ []) texts rest').texts
onto_front c [] texts rest rest' front_end = front_end
onto_front c (t ∷ some) [] rest rest' f = elim f [ ]
onto_front c (t ∷ some) (u ∷ texts) rest rest' (front_next f) = front_next f

pub cut_front : (flag : Bool) (a b : List ℕ) → IsFront (parts_behind false flag a).texts (parts_behind true flag (a ++ b)).texts
cut_front false [] b = front_end
cut_front true [] b = front_end
cut_front false (c ∷ cs) b = go (c == 33) (cut_front true cs b) (cut_front false cs b)
  where
    go : (x : Bool) → IsFront (parts_behind false true cs).texts (parts_behind true true (cs ++ b)).texts → IsFront (parts_behind false false cs).texts (parts_behind true false (cs ++ b)).texts
        → IsFront (if x then parts_behind false true cs else onto (c ∷ []) (parts_behind false false cs)).texts (if x then parts_behind true true (cs ++ b) else onto (c ∷ []) (parts_behind true false (cs ++ b))).texts
    go true f g = f
    go false f g = onto_front c (parts_behind false false cs).texts (parts_behind true false (cs ++ b)).texts (parts_behind false false cs).rest (parts_behind true false (cs ++ b)).rest g
cut_front true (c ∷ cs) b = go (c == 33) (cut_front false cs b)
  where
    go : (x : Bool) → IsFront (parts_behind false false cs).texts (parts_behind true false (cs ++ b)).texts
        → IsFront (if x then onto (33 ∷ []) (parts_behind false false cs) else with_text [] (onto (c ∷ []) (parts_behind false false cs))).texts (if x then onto (33 ∷ []) (parts_behind true false (cs ++ b)) else with_text [] (onto (c ∷ []) (parts_behind true false (cs ++ b)))).texts
    go true g = onto_front 33 (parts_behind false false cs).texts (parts_behind true false (cs ++ b)).texts (parts_behind false false cs).rest (parts_behind true false (cs ++ b)).rest g
    go false g = front_next (onto_front c (parts_behind false false cs).texts (parts_behind true false (cs ++ b)).texts (parts_behind false false cs).rest (parts_behind true false (cs ++ b)).rest g)
