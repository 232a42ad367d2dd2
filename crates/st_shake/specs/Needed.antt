-- Which selectors a run can come to by name: the least set of what is always needed, what initializers spell, and what each method spells whose selector is in it.
use Rattle.std.specs.Prelude.{◌≡◌, ◌⊎◌, ℕ, zero, suc, true, false, List, [], ◌∷◌, ◌++◌, length, Option, Some, None, codes}
use Rattle.st_code.specs.Texts.{Text}
use Rattle.st_code.specs.Named.{NamedMethod, NamedUnit, InitializerUnit, PoolInitializerUnit, ProgramUnit, MethodUnit, ClassMethodUnit}
use Rattle.st_code.specs.Resolved.{has_text}
use Rattle.program_image.specs.Spelled.{statements_texts}

-- ---- methods, by what they spell

-- a method by its selector, with the selectors that it sends and the symbols that it has, those of arrays too
pub record Method : Type 0 where
  pub selector : Text
  pub texts : List Text

abbrev pub method_of : NamedMethod → Method
method_of m = record { selector = m.selector; texts = statements_texts m.body.statements }

-- what rules, messages and the machine send by themselves, and what a caller may
unfoldable pub always_needed : List Text
always_needed =
    codes "doesNotUnderstand:" ∷ codes "defaultAction" ∷ codes "isResumable" ∷ codes "handles:" ∷ codes "printString" ∷ codes "=" ∷
    codes "value" ∷ codes "value:" ∷ codes "value:value:" ∷ codes "value:value:value:" ∷ codes "value:value:value:value:" ∷ codes "valueWithArguments:" ∷ []

-- ---- the least set, computed by taking in one method after the other

-- a method that is taken, and the others
pub record Picked : Type 0 where
  pub method : Method
  pub others : List Method

abbrev pub behind : Method → Option Picked → Option Picked
behind m None = None
behind m (Some k) = Some (record k { others = m ∷ k.others })

-- the first method whose selector is among these
abbrev pub picked : List Text → List Method → Option Picked
picked texts [] = None
picked texts (m ∷ methods) = elim (has_text texts m.selector) [ true ↦ Some (record { method = m; others = methods }) | false ↦ behind m (picked texts methods) ]

-- methods are taken in, at most so many, until none is left that has one of the selectors
abbrev pub closed : ℕ → List Method → List Text → List Text
closed zero methods texts = texts
closed (suc n) methods texts = elim (picked texts methods) [ None ↦ texts | Some k ↦ closed n k.others (k.method.texts ++ texts) ]

-- the selectors that these methods make of these
unfoldable pub closure : List Method → List Text → List Text
closure methods texts = closed (length methods) methods texts

-- ---- what it is: the least set that has these texts, and of each method whose selector it has, the method's

abbrev pub Has : List Text → Text → Type 0
Has texts t = has_text texts t ≡ true

abbrev pub OneOf : Method → List Method → Type 0
OneOf m [] = ⊥
OneOf m (k ∷ methods) = (m ≡ k) ⊎ OneOf m methods

pub record IsClosed (methods : List Method) (set : List Text) : Type 0 where
  pub by : (m : Method) → OneOf m methods → Has set m.selector → (t : Text) → Has m.texts t → Has set t

pub record IsLeast (methods : List Method) (first : List Text) (set : List Text) : Type 0 where
  pub has_first : (t : Text) → Has first t → Has set t
  pub is_closed : IsClosed methods set
  pub least : (other : List Text) → ((t : Text) → Has first t → Has other t) → IsClosed methods other → (t : Text) → Has set t → Has other t

-- ---- of a program

abbrev pub before_methods : NamedUnit → List Method → List Method
before_methods (MethodUnit class m) methods = method_of m ∷ methods
before_methods (ClassMethodUnit class m) methods = method_of m ∷ methods
before_methods u methods = methods

-- the method that a unit is, where it is one
abbrev pub kind_method : Option NamedUnit → Option Method
kind_method (Some (MethodUnit class m)) = Some (method_of m)
kind_method (Some (ClassMethodUnit class m)) = Some (method_of m)
kind_method _ = None

-- the methods of the units, of either side
abbrev pub methods_of : List NamedUnit → List Method
methods_of [] = []
methods_of (u ∷ units) = before_methods u (methods_of units)

-- what an initializer spells
abbrev pub first_texts : NamedUnit → List Text
first_texts (InitializerUnit target b) = statements_texts b.statements
first_texts (PoolInitializerUnit pool name b) = statements_texts b.statements
first_texts (ProgramUnit b) = statements_texts b.statements
first_texts u = []

abbrev pub first_kind : Option NamedUnit → List Text
first_kind None = []
first_kind (Some u) = first_texts u

abbrev pub texts_of : List NamedUnit → List Text
texts_of [] = []
texts_of (u ∷ units) = first_texts u ++ texts_of units

-- the selectors that a run of these units can come to by name
abbrev pub needed : List NamedUnit → List Text
needed units = closure (methods_of units) (always_needed ++ texts_of units)
