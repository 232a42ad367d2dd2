-- How many elements the units so far take.
use Rattle.std.proofs.Common.{◌+◌, ◌≤◌, ℕ, List, [], ◌∷◌, ◌++◌, arith}
use Rattle.std.specs.List.{sum_by}
use Rattle.std.proofs.lemmas.List.{length-append}
use Rattle.std.proofs.lemmas.List.Sums.{sum_by-cons, sum_by_push}
use Rattle.st_tree.specs.declared.units.UnitKind.{UnitKind}
use Rattle.st_tree.specs.declared.units.UnitKind.TheVariants as kinds
use Rattle.st_tree.specs.declared.units.Annotation.{Annotation}
use Rattle.st_tree.specs.declared.units.Unit.{Unit}
use Rattle.st_tree.specs.Numbers.{unit, annotated, elements_of_kind, elements_of, elements_in}
use Rattle.sif_elements.specs.declared.progress.Progress.{Progress}
use Rattle.sif_elements.specs.declared.progress.Progress.TheVariants.{Start, Between, Awaiting}
use Rattle.sif_elements.specs.Reading.{Takes, version, whole, header, annotation, text_of_header}

abbrev pub units_of : Progress → List Unit
units_of Start = []
units_of (Between us) = us
units_of (Awaiting us t) = us

pub elements_of_kind-most : (kind : UnitKind) → elements_of_kind kind ≤ 2
elements_of_kind-most (kinds.Version t) = omega arith
elements_of_kind-most (kinds.Class c) = omega arith
elements_of_kind-most (kinds.GlobalVariable n) = omega arith
elements_of_kind-most (kinds.GlobalConstant n) = omega arith
elements_of_kind-most (kinds.Pool n) = omega arith
elements_of_kind-most (kinds.PoolVariable p n) = omega arith
elements_of_kind-most (kinds.PoolConstant p n) = omega arith
elements_of_kind-most (kinds.Initializer n b) = omega arith
elements_of_kind-most (kinds.PoolInitializer p n b) = omega arith
elements_of_kind-most (kinds.ProgramInitializer b) = omega arith
elements_of_kind-most (kinds.Method c m) = omega arith
elements_of_kind-most (kinds.ClassMethod c m) = omega arith
elements_of_kind-most (kinds.Comment ts) = omega arith

elements_in-unit : (us : List Unit) (kind : UnitKind) → elements_in (us ++ unit kind [] ∷ []) ≤ elements_in us + 2
elements_in-unit us kind = omega (arith, sum_by_push elements_of us (unit kind []), elements_of_kind-most kind)

-- what an annotation adds to a sum over units
pub sum_by-annotated : (f : Unit → ℕ) (n : ℕ) (a : Annotation) → ((u : Unit) → f (unit u.kind (u.annotations ++ a ∷ [])) ≤ f u + n) → (us : List Unit) → sum_by f (annotated us a) ≤ sum_by f us + n
sum_by-annotated f n a more [] = omega arith
sum_by-annotated f n a more (u ∷ []) = omega (arith, more u)
sum_by-annotated f n a more (u ∷ v ∷ us) = omega (arith, sum_by-cons f u (annotated (v ∷ us) a), sum_by-cons f u (v ∷ us), sum_by-annotated f n a more (v ∷ us))

elements_in-annotated : (us : List Unit) (a : Annotation) → elements_in (annotated us a) ≤ elements_in us + 1
elements_in-annotated us a = sum_by-annotated elements_of 1 a (λ u. omega (arith, length-append u.annotations (a ∷ []))) us

-- each text makes two elements at most
pub few_more : {p q : Progress} {text : List ℕ} → Takes p text q → elements_in (units_of q) ≤ elements_in (units_of p) + 2
few_more (version {kind = kind} e) = elements_in-unit [] kind
few_more (whole {kind = kind} {us = us} e) = elements_in-unit us kind
few_more (header e) = omega arith
few_more (annotation {a = a} {us = us} e) = omega (arith, elements_in-annotated us a)
few_more (text_of_header {kind = kind} {us = us} t u) = elements_in-unit us kind
