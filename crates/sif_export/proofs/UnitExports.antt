-- The elements of a program's text are units that are the same.
use Rattle.std.proofs.Common.{◌≡◌, ℕ, false, List, [], ◌∷◌, ◌++◌, map, drop, length, codes, Option, Some, refl, ap, ap₂, sym, ◌∙◌, subst, append_assoc}
use Rattle.st_base.specs.declared.tokens.Token.{Token}
use Rattle.st_base.specs.declared.tokens.LexFault.{LexFault}
use Rattle.st_base.specs.declared.faults.Reason.TheVariants as reason
use Rattle.st_base.specs.Lexed.{lexed_of}
use Rattle.sif_chunks.specs.Reading.{is_white}
use Rattle.sif_chunks.specs.Writing.{on_new_lines}
use Rattle.st_tree.specs.declared.headers.Row.TheVariants as row
use Rattle.st_tree.specs.declared.headers.Target.{Target}
use Rattle.st_tree.specs.declared.headers.Header.TheVariants.{Whole, Awaits}
use Rattle.st_tree.specs.declared.units.UnitKind.{UnitKind}
use Rattle.st_tree.specs.declared.units.UnitKind.TheVariants as kinds
use Rattle.st_tree.specs.declared.units.Annotation.{Annotation}
use Rattle.st_tree.specs.declared.units.Unit.{Unit}
use Rattle.st_tree.specs.Same.{bare_kind, bare_unit}
use Rattle.st_tree.specs.Grammar.{Tree, MethodTree, BodyTree}
use Rattle.st_tree.specs.Headers.{UnitOf, initializer, pool_initializer, program_initializer, method, class_method, production_of, Says, slots_of, walk, header_of, by_row, begins_version, string_at}
use Rattle.st_tree.specs.Numbers.{unit}
use Rattle.st_tree.specs.Units.{first_element, TextIs, Annotated, no_more, one_more, Further, no_units, whole, with_text, Units, file}
use Rattle.sif_export.specs.ExportText.{string_text, annotation_text, body_text, method_text, kind_texts, element_texts}
use Rattle.sif_export.specs.RoundTrip.{AreElements, on_lines}
use Rattle.sif_export.proofs.TextExports.{TreeRead, tree_read}
use Rattle.sif_export.proofs.ReadHeaders.{GoodKind, element_good, then_says, judged_says}
use Rattle.sif_export.proofs.HeaderExports.{whole_text, whole_read, target_text, target_read, annotation_read, version_read}

-- ---- lists of texts

pub on_new_lines-append : (a b : List (List ℕ)) → on_new_lines (a ++ b) ≡ on_new_lines a ++ on_new_lines b
on_new_lines-append [] b = refl
on_new_lines-append (t ∷ ts) b = ap (λ xs. (10 ∷ t) ∷ xs) (on_new_lines-append ts b)

elements_append : (a b : List (List ℕ)) → AreElements a → AreElements b → AreElements (a ++ b)
elements_append [] b x y = y
elements_append (t ∷ ts) b x y = (x.0, elements_append ts b x.1 y)

-- ---- annotations

notes_read : (notes : List Annotation) (rest : List (List ℕ)) → Annotated (on_new_lines (map annotation_text notes) ++ rest) rest notes
notes_read [] rest = no_more
notes_read (a ∷ notes) rest = one_more (annotation_read a).says (notes_read notes rest)

notes_black : (notes : List Annotation) → AreElements (on_new_lines (map annotation_text notes))
notes_black [] = tt
notes_black (a ∷ notes) = ((annotation_read a).black, notes_black notes)

pub notes_rest : {texts rest : List (List ℕ)} {notes : List Annotation} → Annotated texts rest notes → AreElements texts → AreElements rest
notes_rest no_more h = h
notes_rest (one_more e a) h = notes_rest a h.1

-- ---- units with a text

abbrev tree_text : Tree → List ℕ
tree_text (BodyTree b) = body_text b
tree_text (MethodTree m) = method_text m

-- a text behind a header makes a unit that is the same
record UnitRead (t : Target) (tree : Tree) (kind : UnitKind) : Type 0 where
  again : Tree
  made : UnitKind
  reads : TextIs (production_of t) (10 ∷ tree_text tree) again
  makes : UnitOf t again made
  same : bare_kind made ≡ bare_kind kind
  black : is_white (10 ∷ tree_text tree) ≡ false
  texts : kind_texts kind ≡ target_text t ∷ tree_text tree ∷ []

unit_read : {t : Target} {tree : Tree} {kind : UnitKind} → UnitOf t tree kind → TreeRead tree → UnitRead t tree kind
unit_read (initializer {name = n} {b = b}) r = record { again = BodyTree r.tree; made = kinds.Initializer n r.tree; reads = r.reads; makes = initializer; same = ap (λ c. kinds.Initializer n c) r.same; black = r.black; texts = refl }
unit_read (pool_initializer {pool = p} {name = n} {b = b}) r = record { again = BodyTree r.tree; made = kinds.PoolInitializer p n r.tree; reads = r.reads; makes = pool_initializer; same = ap (λ c. kinds.PoolInitializer p n c) r.same; black = r.black; texts = refl }
unit_read (program_initializer {b = b}) r = record { again = BodyTree r.tree; made = kinds.ProgramInitializer r.tree; reads = r.reads; makes = program_initializer; same = ap (λ c. kinds.ProgramInitializer c) r.same; black = r.black; texts = refl }
unit_read (method {class = c} {m = m}) r = record { again = MethodTree r.tree; made = kinds.Method c r.tree; reads = r.reads; makes = method; same = ap (λ k. kinds.Method c k) r.same; black = r.black; texts = refl }
unit_read (class_method {class = c} {m = m}) r = record { again = MethodTree r.tree; made = kinds.ClassMethod c r.tree; reads = r.reads; makes = class_method; same = ap (λ k. kinds.ClassMethod c k) r.same; black = r.black; texts = refl }

-- ---- units without a text

whole_texts : (k : UnitKind) → GoodKind k → kind_texts k ≡ whole_text k ∷ []
whole_texts (kinds.Class c) good = refl
whole_texts (kinds.GlobalVariable n) good = refl
whole_texts (kinds.GlobalConstant n) good = refl
whole_texts (kinds.Pool n) good = refl
whole_texts (kinds.PoolVariable p n) good = refl
whole_texts (kinds.PoolConstant p n) good = refl
whole_texts (kinds.Comment cs) good = refl
whole_texts (kinds.Version t) good = absurd good
whole_texts (kinds.Initializer n b) good = absurd good
whole_texts (kinds.PoolInitializer p n b) good = absurd good
whole_texts (kinds.ProgramInitializer b) good = absurd good
whole_texts (kinds.Method c m) good = absurd good
whole_texts (kinds.ClassMethod c m) good = absurd good

-- ---- units behind the first

pub record FurtherRead (units : List Unit) : Type 0 where
  pub again : List Unit
  pub reads : Further (on_new_lines (element_texts units)) again
  pub black : AreElements (on_new_lines (element_texts units))
  pub same : map bare_unit again ≡ map bare_unit units

-- the texts of a unit, of its annotations, and of the units behind it
unit_lines : (kind : UnitKind) (notes : List Annotation) (units : List Unit) (texts : List (List ℕ)) → kind_texts kind ≡ texts → on_new_lines (element_texts (unit kind notes ∷ units)) ≡ on_new_lines texts ++ (on_new_lines (map annotation_text notes) ++ on_new_lines (element_texts units))
unit_lines kind notes units texts e =
    on_new_lines-append (kind_texts kind ++ map annotation_text notes) (element_texts units) ∙ ap (λ xs. xs ++ on_new_lines (element_texts units)) (on_new_lines-append (kind_texts kind) (map annotation_text notes))
    ∙ append_assoc (on_new_lines (kind_texts kind)) (on_new_lines (map annotation_text notes)) (on_new_lines (element_texts units)) ∙ ap (λ xs. on_new_lines xs ++ (on_new_lines (map annotation_text notes) ++ on_new_lines (element_texts units))) e

unit_same : (notes : List Annotation) (k l : UnitKind) → bare_kind k ≡ bare_kind l → bare_unit (unit k notes) ≡ bare_unit (unit l notes)
unit_same notes k l e = ap (λ x. unit x notes) e

pub further_read : {texts : List (List ℕ)} {units : List Unit} → Further texts units → AreElements texts → FurtherRead units
further_read no_units h = record { again = []; reads = no_units; black = tt; same = refl }
further_read (whole {text = text} {kind = kind} {notes = notes} {units = units} e a f) h =
    let good = element_good text (Whole kind) e h.0 in
    let rest = further_read f (notes_rest a h.1) in
    let here = whole_read kind good in
    let lines = unit_lines kind notes units (whole_text kind ∷ []) (whole_texts kind good) in
    let behind = on_new_lines (map annotation_text notes) ++ on_new_lines (element_texts units) in
    record {
      again = unit kind notes ∷ rest.again;
      reads = subst (λ xs. Further xs (unit kind notes ∷ rest.again)) (sym lines) (whole here.says (notes_read notes (on_new_lines (element_texts units))) rest.reads);
      black = subst AreElements (sym lines) (here.black, elements_append (on_new_lines (map annotation_text notes)) (on_new_lines (element_texts units)) (notes_black notes) rest.black);
      same = ap (λ us. bare_unit (unit kind notes) ∷ us) rest.same;
    }
further_read (with_text {header = header} {target = t} {tree = tree} {kind = kind} {notes = notes} {units = units} e r u a f) h =
    let good = element_good header (Awaits t) e h.0 in
    let rest = further_read f (notes_rest a h.1.1) in
    let here = target_read t good in
    let read = unit_read u (tree_read r) in
    let lines = unit_lines kind notes units (target_text t ∷ tree_text tree ∷ []) read.texts in
    record {
      again = unit read.made notes ∷ rest.again;
      reads = subst (λ xs. Further xs (unit read.made notes ∷ rest.again)) (sym lines) (with_text here.says read.reads read.makes (notes_read notes (on_new_lines (element_texts units))) rest.reads);
      black = subst AreElements (sym lines) (here.black, (read.black, elements_append (on_new_lines (map annotation_text notes)) (on_new_lines (element_texts units)) (notes_black notes) rest.black));
      same = ap₂ (λ x us. x ∷ us) (unit_same notes read.made kind read.same) rest.same;
    }

-- ---- the first unit

by_version : (text : List ℕ) (ts : List Token) (l : Option LexFault) (kind : UnitKind) → by_row (Some row.Version) 0 [] text ts l ≡ Says (Whole kind) → (t : List ℕ) × (kind ≡ kinds.Version t)
by_version text ts l kind e =
    let parts = judged_says (walk (slots_of row.Version) text ts) (header_of row.Version [] text ts) (Whole kind) l (length text) e in
    (string_at text ts 0, kind_same parts.2)
  where
    kind_same : {a b : UnitKind} → Whole a ≡ Whole b → b ≡ a
    kind_same h = cc

-- the first unit of a file is its version
pub first_version : (text : List ℕ) (kind : UnitKind) → first_element text ≡ Says (Whole kind) → (t : List ℕ) × (kind ≡ kinds.Version t)
first_version text kind e =
    let ts = (lexed_of text).tokens in
    by_version text (drop 2 ts) (lexed_of text).fault kind (then_says (begins_version text ts) (by_row (Some row.Version) 0 [] text (drop 2 ts) (lexed_of text).fault) 0 reason.MissingVersion (Whole kind) e).1

pub record UnitsRead (units : List Unit) : Type 0 where
  pub again : List Unit
  pub reads : Units (on_lines (element_texts units)) again
  pub black : AreElements (on_lines (element_texts units))
  pub same : map bare_unit again ≡ map bare_unit units
  pub first : List ℕ
  pub others : List (List ℕ)
  pub are : element_texts units ≡ first ∷ others

version_units : (t : List ℕ) (notes : List Annotation) (units : List Unit) → FurtherRead units → UnitsRead (unit (kinds.Version t) notes ∷ units)
version_units t notes units rest =
    let here = version_read t in
    let text = string_text (codes "Smalltalk") (codes "interchangeVersion:") t in
    let lines = on_new_lines-append (map annotation_text notes) (element_texts units) in
    record {
      again = unit (kinds.Version t) notes ∷ rest.again;
      reads = subst (λ xs. Units (text ∷ xs) (unit (kinds.Version t) notes ∷ rest.again)) (sym lines) (file here.says (notes_read notes (on_new_lines (element_texts units))) rest.reads);
      black = subst (λ xs. AreElements (text ∷ xs)) (sym lines) (here.black, elements_append (on_new_lines (map annotation_text notes)) (on_new_lines (element_texts units)) (notes_black notes) rest.black);
      same = ap (λ us. bare_unit (unit (kinds.Version t) notes) ∷ us) rest.same;
      first = text;
      others = map annotation_text notes ++ element_texts units;
      are = refl;
    }

-- the elements of the text of units that were read are units that are the same
pub units_read : {texts : List (List ℕ)} {units : List Unit} → Units texts units → AreElements texts → UnitsRead units
units_read (file {text = text} {kind = kind} {notes = notes} {units = units} e a f) h =
    let version = first_version text kind e in
    subst (λ k. UnitsRead (unit k notes ∷ units)) (sym version.1) (version_units version.0 notes units (further_read f (notes_rest a h.1)))
