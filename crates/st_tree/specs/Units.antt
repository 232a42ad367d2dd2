-- The units that the elements of an interchange file make (ANSI NCITS 319, 4.1).
use Rattle.std.specs.Prelude.{◌≡◌, ℕ, List, [], ◌∷◌}
use Rattle.st_base.specs.Lexed.{lexed_of}
use Rattle.st_base.specs.declared.faults.Reason.{Reason}
use Rattle.st_tree.specs.Grammar.{Production, Tree}
use Rattle.st_tree.specs.Faults.{IsTree, IsFault}
use Rattle.st_tree.specs.declared.headers.Target.{Target}
use Rattle.st_tree.specs.declared.headers.Header.TheVariants.{Whole, Awaits, Annotates}
use Rattle.st_tree.specs.Headers.{UnitOf, production_of, Element, Says, Faulty, says, says_first}
use Rattle.st_tree.specs.declared.units.UnitKind.{UnitKind}
use Rattle.st_tree.specs.declared.units.Annotation.{Annotation}
use Rattle.st_tree.specs.declared.units.Unit.{Unit}
use Rattle.st_tree.specs.Numbers.{unit}

-- what the text of an element behind the first says, and of the first
abbrev pub element : List ℕ → Element
element text = says text (lexed_of text).tokens (lexed_of text).fault

abbrev pub first_element : List ℕ → Element
first_element text = says_first text (lexed_of text).tokens (lexed_of text).fault

-- a text that follows a header is a tree, or has its first fault at this byte
abbrev pub TextIs : Production → List ℕ → Tree → Type 0
TextIs p text tree = IsTree p text (lexed_of text).tokens (lexed_of text).fault tree

abbrev pub TextFault : Production → List ℕ → ℕ → Reason → Type 0
TextFault p text byte why = IsFault p text (lexed_of text).tokens (lexed_of text).fault byte why

-- texts begin with annotations, up to the texts behind them
pub data Annotated : List (List ℕ) → List (List ℕ) → List Annotation → Type 0 where
  no_more : {texts : List (List ℕ)} → Annotated texts texts []
  one_more : {text : List ℕ} {texts rest : List (List ℕ)} {a : Annotation} {more : List Annotation} → element text ≡ Says (Annotates a) → Annotated texts rest more → Annotated (text ∷ texts) rest (a ∷ more)

-- texts behind the first unit are these units
pub data Further : List (List ℕ) → List Unit → Type 0 where
  no_units : Further [] []
  whole : {text : List ℕ} {texts rest : List (List ℕ)} {kind : UnitKind} {notes : List Annotation} {units : List Unit}
      → element text ≡ Says (Whole kind) → Annotated texts rest notes → Further rest units → Further (text ∷ texts) (unit kind notes ∷ units)
  with_text : {header text : List ℕ} {texts rest : List (List ℕ)} {target : Target} {tree : Tree} {kind : UnitKind} {notes : List Annotation} {units : List Unit}
      → element header ≡ Says (Awaits target) → TextIs (production_of target) text tree → UnitOf target tree kind → Annotated texts rest notes → Further rest units
      → Further (header ∷ text ∷ texts) (unit kind notes ∷ units)

-- The texts of a file's elements are these units.
pub data Units : List (List ℕ) → List Unit → Type 0 where
  file : {text : List ℕ} {texts rest : List (List ℕ)} {kind : UnitKind} {notes : List Annotation} {units : List Unit}
      → first_element text ≡ Says (Whole kind) → Annotated texts rest notes → Further rest units → Units (text ∷ texts) (unit kind notes ∷ units)

-- some texts are these units
abbrev pub IsReadable : List Unit → Type 0
IsReadable units = (texts : List (List ℕ)) × Units texts units
