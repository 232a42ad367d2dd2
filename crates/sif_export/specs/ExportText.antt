-- The canonical text of a program: an interchange file (ANSI NCITS 319, 4.1).
use Rattle.std.specs.Prelude.{ℕ, List, [], ◌∷◌, ◌++◌, map, Bool, true, false, ◌&&◌, if◌then◌else◌, codes}
use Rattle.sif_chunks.specs.Writing.{all_closed}
use Rattle.st_tree.specs.declared.tree.Body.{Body, out-Body}
use Rattle.st_tree.specs.declared.tree.Method.{Method}
use Rattle.st_tree.specs.declared.units.Indexed.{Indexed}
use Rattle.st_tree.specs.declared.units.Indexed.TheVariants as indexed
use Rattle.st_tree.specs.declared.units.ClassUnit.{ClassUnit}
use Rattle.st_tree.specs.declared.units.UnitKind.{UnitKind}
use Rattle.st_tree.specs.declared.units.UnitKind.TheVariants as kinds
use Rattle.st_tree.specs.declared.units.Annotation.{Annotation}
use Rattle.st_tree.specs.declared.units.Unit.{Unit}
use Rattle.sif_export.specs.Words.{Named, Key, Str, Symbol, Remark, Joined, Line, laid}
use Rattle.sif_export.specs.TreeWords.{Words, pattern_words, top_words}

-- ---- headers

-- a keyword and a string
abbrev pub keyed : List ℕ → List ℕ → Words
keyed key text = Key key ∷ Str text ∷ []

-- each name behind a space
abbrev pub spaced_behind : List (List ℕ) → List ℕ
spaced_behind [] = []
spaced_behind (name ∷ names) = 32 ∷ name ++ spaced_behind names

-- names with a space between two of them
abbrev pub spaced : List (List ℕ) → List ℕ
spaced [] = []
spaced (name ∷ names) = name ++ spaced_behind names

abbrev pub way_name : Indexed → List ℕ
way_name indexed.None = codes "none"
way_name indexed.Object = codes "object"
way_name indexed.Byte = codes "byte"

-- the lists of a class's names
abbrev pub list_words : ClassUnit → Words
list_words c =
    keyed (codes "instanceVariableNames:") (spaced c.instance_names) ++ (keyed (codes "classVariableNames:") (spaced c.class_names)
    ++ (keyed (codes "sharedPools:") (spaced c.pools) ++ keyed (codes "classInstanceVariableNames:") (spaced c.class_instance_names)))

abbrev pub class_words : ClassUnit → Words
class_words c =
    Named (codes "Class") ∷ keyed (codes "named:") c.name ++ (keyed (codes "superclass:") c.superclass
    ++ (Key (codes "indexedInstanceVariables:") ∷ Symbol (way_name c.indexed) ∷ list_words c))

abbrev pub annotation_words : Annotation → Words
annotation_words a = Named (codes "Annotation") ∷ keyed (codes "key:") a.key ++ keyed (codes "value:") a.value

-- ---- the texts of elements

-- `FIRST KEY 'TEXT'`
unfoldable pub string_text : List ℕ → List ℕ → List ℕ → List ℕ
string_text first key text = laid Joined (Named first ∷ keyed key text)

-- `FIRST SECOND`
unfoldable pub pair_text : List ℕ → List ℕ → List ℕ
pair_text first second = laid Joined (Named first ∷ Named second ∷ [])

unfoldable pub class_text : ClassUnit → List ℕ
class_text c = laid Joined (class_words c)

unfoldable pub annotation_text : Annotation → List ℕ
annotation_text a = laid Joined (annotation_words a)

unfoldable pub comment_text : List (List ℕ) → List ℕ
comment_text comments = laid Joined (map Remark comments)

abbrev pub lacks : {A : Type 0} → List A → Bool
lacks [] = true
lacks (x ∷ xs) = false

abbrev pub is_empty_body : Body → Bool
is_empty_body b = lacks (out-Body b).temporaries && lacks (out-Body b).statements

-- an empty body is a comment and a space, since a white element would be skipped
unfoldable pub body_text : Body → List ℕ
body_text b = if is_empty_body b then codes "\"\" " else laid Joined (top_words b)

-- the body of a method begins on a new line
unfoldable pub method_text : Method → List ℕ
method_text m = laid Joined (pattern_words m) ++ laid Line (top_words m.body)

-- ---- units

-- the texts of the elements of a unit, without its annotations
abbrev pub kind_texts : UnitKind → List (List ℕ)
kind_texts (kinds.Version text) = string_text (codes "Smalltalk") (codes "interchangeVersion:") text ∷ []
kind_texts (kinds.Class c) = class_text c ∷ []
kind_texts (kinds.GlobalVariable name) = string_text (codes "Global") (codes "variable:") name ∷ []
kind_texts (kinds.GlobalConstant name) = string_text (codes "Global") (codes "constant:") name ∷ []
kind_texts (kinds.Pool name) = string_text (codes "Pool") (codes "named:") name ∷ []
kind_texts (kinds.PoolVariable pool name) = string_text pool (codes "variable:") name ∷ []
kind_texts (kinds.PoolConstant pool name) = string_text pool (codes "constant:") name ∷ []
kind_texts (kinds.Initializer target body) = pair_text target (codes "initializer") ∷ body_text body ∷ []
kind_texts (kinds.PoolInitializer pool name body) = string_text pool (codes "initializerFor:") name ∷ body_text body ∷ []
kind_texts (kinds.ProgramInitializer body) = pair_text (codes "Global") (codes "initializer") ∷ body_text body ∷ []
kind_texts (kinds.Method class method) = pair_text class (codes "method") ∷ method_text method ∷ []
kind_texts (kinds.ClassMethod class method) = pair_text class (codes "classMethod") ∷ method_text method ∷ []
kind_texts (kinds.Comment comments) = comment_text comments ∷ []

-- a unit's texts, and those of its annotations behind them
abbrev pub unit_texts : Unit → List (List ℕ)
unit_texts u = kind_texts u.kind ++ map annotation_text u.annotations

abbrev pub element_texts : List Unit → List (List ℕ)
element_texts [] = []
element_texts (u ∷ us) = unit_texts u ++ element_texts us

-- The text of a program: the texts of its units' elements, each with its bangs doubled and a bang and a line's end
-- behind it.
unfoldable pub export_text : List Unit → List ℕ
export_text units = all_closed (element_texts units)
