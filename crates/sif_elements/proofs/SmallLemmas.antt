-- A small program has few elements.
use Rattle.std.proofs.Common.{◌-◌, ◌*◌, ◌^◌, ◌<◌, ◌≤◌, List, [], ◌∷◌, length, arith}
use Rattle.std.specs.List.{sum_by}
use Rattle.std.proofs.lemmas.List.Sums.{sum_by-cons}
use Rattle.st_tree.specs.declared.units.Annotation.{Annotation}
use Rattle.st_tree.specs.declared.units.Unit.{Unit}
use Rattle.st_tree.specs.Numbers.{elements_of, elements_in}
use Rattle.st_tree.specs.Small.{IsSmall, annotation_size, unit_size}
use Rattle.sif_elements.proofs.Counts.{elements_of_kind-most}

annotations-size : (all : List Annotation) → length all ≤ sum_by annotation_size all
annotations-size [] = omega arith
annotations-size (a ∷ all) = omega (arith, sum_by-cons annotation_size a all, annotations-size all)

unit-elements : (u : Unit) → elements_of u ≤ 2 * unit_size u
unit-elements u = omega (arith, elements_of_kind-most u.kind, annotations-size u.annotations)

elements-size : (us : List Unit) → elements_in us ≤ 2 * sum_by unit_size us
elements-size [] = omega arith
elements-size (u ∷ us) = omega (arith, sum_by-cons elements_of u us, sum_by-cons unit_size u us, unit-elements u, elements-size us)

pub small_few : (us : List Unit) → IsSmall us → elements_in us < 2 ^ 32 - 1
small_few us small = omega (arith, elements-size us, small.few_parts)
