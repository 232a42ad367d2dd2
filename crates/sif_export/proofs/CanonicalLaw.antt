-- Programs have equal texts exactly where they are the same.
use Rattle.std.proofs.Common.{◌≡◌, ℕ, List, [], ◌∷◌, ◌++◌, map, refl, ap, ap₂, sym, ◌∙◌, subst}
use Rattle.sif_chunks.specs.Split.{Split}
use Rattle.sif_chunks.specs.Writing.{all_closed}
use Rattle.sif_chunks.proofs.SplitLaw.{Split-parts_of}
use Rattle.st_tree.specs.declared.headers.Header.TheVariants.{Whole}
use Rattle.st_tree.specs.declared.headers.Target.{Target}
use Rattle.st_tree.specs.declared.units.UnitKind.{UnitKind}
use Rattle.st_tree.specs.declared.units.UnitKind.TheVariants as kinds
use Rattle.st_tree.specs.declared.units.Annotation.{Annotation}
use Rattle.st_tree.specs.declared.units.Unit as declared
use Rattle.st_tree.specs.declared.units.Definition.{Definition}
use Rattle.st_tree.specs.Same.{bare_kind, bare_unit, bare_definition, SameDefinition}
use Rattle.st_tree.specs.Grammar.{Tree}
use Rattle.st_tree.specs.Headers.{UnitOf, initializer, pool_initializer, program_initializer, method, class_method}
use Rattle.st_tree.specs.Numbers.{unit}
use Rattle.st_tree.specs.Units as listed
use Rattle.st_tree.specs.Units.{element, Annotated, Further, no_units, whole, Units, file}
use Rattle.sif_export.specs.ExportText.{string_text, pair_text, annotation_text, kind_texts, element_texts, export_text}
use Rattle.sif_export.specs.RoundTrip.{AreElements, IsReadable, definition, ReadsAs}
use Rattle.sif_export.specs.Canonical.{IsCanonical}
use Rattle.sif_export.proofs.SameWords.{SameText, derived_same}
use Rattle.sif_export.proofs.ReadHeaders.{GoodKind, element_good}
use Rattle.sif_export.proofs.UnitExports.{notes_rest, first_version}
use Rattle.sif_export.proofs.Paths.{one_units}
use Rattle.sif_export.proofs.RoundTripLaw.{reads_as}

-- ---- texts without places

-- a unit of one element has no places
whole_same : (k : UnitKind) → GoodKind k → bare_kind k ≡ k
whole_same (kinds.Class c) good = refl
whole_same (kinds.GlobalVariable n) good = refl
whole_same (kinds.GlobalConstant n) good = refl
whole_same (kinds.Pool n) good = refl
whole_same (kinds.PoolVariable p n) good = refl
whole_same (kinds.PoolConstant p n) good = refl
whole_same (kinds.Comment cs) good = refl
whole_same (kinds.Version t) good = refl
whole_same (kinds.Initializer n b) good = absurd good
whole_same (kinds.PoolInitializer p n b) good = absurd good
whole_same (kinds.ProgramInitializer b) good = absurd good
whole_same (kinds.Method c m) good = absurd good
whole_same (kinds.ClassMethod c m) good = absurd good

text_same : {t : Target} {tree : Tree} {kind : UnitKind} → UnitOf t tree kind → SameText tree → kind_texts (bare_kind kind) ≡ kind_texts kind
text_same (initializer {name = n} {b = b}) e = ap (λ x. pair_text n (105 ∷ 110 ∷ 105 ∷ 116 ∷ 105 ∷ 97 ∷ 108 ∷ 105 ∷ 122 ∷ 101 ∷ 114 ∷ []) ∷ x ∷ []) e
text_same (pool_initializer {pool = p} {name = n} {b = b}) e = ap (λ x. string_text p (105 ∷ 110 ∷ 105 ∷ 116 ∷ 105 ∷ 97 ∷ 108 ∷ 105 ∷ 122 ∷ 101 ∷ 114 ∷ 70 ∷ 111 ∷ 114 ∷ 58 ∷ []) n ∷ x ∷ []) e
text_same (program_initializer {b = b}) e = ap (λ x. pair_text (71 ∷ 108 ∷ 111 ∷ 98 ∷ 97 ∷ 108 ∷ []) (105 ∷ 110 ∷ 105 ∷ 116 ∷ 105 ∷ 97 ∷ 108 ∷ 105 ∷ 122 ∷ 101 ∷ 114 ∷ []) ∷ x ∷ []) e
text_same (method {class = c} {m = m}) e = ap (λ x. pair_text c (109 ∷ 101 ∷ 116 ∷ 104 ∷ 111 ∷ 100 ∷ []) ∷ x ∷ []) e
text_same (class_method {class = c} {m = m}) e = ap (λ x. pair_text c (99 ∷ 108 ∷ 97 ∷ 115 ∷ 115 ∷ 77 ∷ 101 ∷ 116 ∷ 104 ∷ 111 ∷ 100 ∷ []) ∷ x ∷ []) e

unit_same : (kind : UnitKind) (notes : List Annotation) (units : List declared.Unit) → kind_texts (bare_kind kind) ≡ kind_texts kind → element_texts (map bare_unit units) ≡ element_texts units → element_texts (map bare_unit (unit kind notes ∷ units)) ≡ element_texts (unit kind notes ∷ units)
unit_same kind notes units e f = ap₂ (λ x y. (x ++ map annotation_text notes) ++ y) e f

further_same : {texts : List (List ℕ)} {units : List declared.Unit} → Further texts units → AreElements texts → element_texts (map bare_unit units) ≡ element_texts units
further_same no_units h = refl
further_same (whole {text = text} {kind = kind} {notes = notes} {units = units} e a f) h =
    unit_same kind notes units (ap kind_texts (whole_same kind (element_good text (Whole kind) e h.0))) (further_same f (notes_rest a h.1))
further_same (listed.with_text {kind = kind} {notes = notes} {units = units} e r u a f) h = unit_same kind notes units (text_same u (derived_same r.derives)) (further_same f (notes_rest a h.1.1))

units_same : {texts : List (List ℕ)} {units : List declared.Unit} → Units texts units → AreElements texts → element_texts (map bare_unit units) ≡ element_texts units
units_same (file {text = text} {kind = kind} {notes = notes} {units = units} e a f) h =
    let version = first_version text kind e in
    let bare_is : bare_kind kind ≡ kind = ap bare_kind version.1 ∙ sym version.1 in
    unit_same kind notes units (ap kind_texts bare_is) (further_same f (notes_rest a h.1))

-- ---- both ways

same_text : (a b : Definition) → IsReadable a.units → IsReadable b.units → SameDefinition a b → export_text a.units ≡ export_text b.units
unfolding SameDefinition export_text
same_text a b h k e =
    ap all_closed (sym (units_same h.1 h.2) ∙ ap element_texts (ap (λ (d : Definition). d.units) e) ∙ units_same k.1 k.2)

same_texts : {x y : List (List ℕ)} {bytes : List ℕ} {r s : List ℕ} → Split bytes x r → Split bytes y s → x ≡ y
same_texts {x = x} {y = y} {bytes = bytes} {r = r} {s = s} p q = ap (λ t. t.texts) (sym ((Split-parts_of bytes x r).0 p) ∙ (Split-parts_of bytes y s).0 q)

same_program : (a b : Definition) (bytes : List ℕ) → ReadsAs bytes a → ReadsAs bytes b → SameDefinition a b
unfolding SameDefinition
same_program a b bytes x y =
    let texts : x.texts ≡ y.texts = same_texts x.split y.split in
    let units : x.units ≡ y.units = one_units x.read (subst (λ ts. Units ts y.units) (sym texts) y.read) x.elements in
    sym x.same ∙ ap (λ us. bare_definition (definition us)) units ∙ y.same

-- readable programs have equal texts exactly where they are the same
pub canonical : (a b : Definition) → IsCanonical a b
canonical a b h k = (
  λ e. same_program a b (export_text a.units) (reads_as a h) (subst (λ bytes. ReadsAs bytes b) (sym e) (reads_as b k)),
  λ e. same_text a b h k e,
)
