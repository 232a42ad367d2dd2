-- The units so far are small where the texts so far are.
use Rattle.std.proofs.Common.{◌≡◌, ℕ, ◌+◌, ◌*◌, ◌^◌, ◌<◌, ◌≤◌, List, [], ◌∷◌, ◌++◌, length, refl, arith}
use Rattle.std.specs.Prelude.{All}
use Rattle.std.specs.List.{sum_by}
use Rattle.std.proofs.lemmas.List.Sums.{sum_by_push}
use Rattle.std.proofs.lemmas.List.Elements.{All-nil, All-cons, All-head, All-tail, All-push}
use Rattle.sif_chunks.specs.Reading.{max_text, max_input}
use Rattle.st_tree.specs.declared.units.UnitKind.{UnitKind}
use Rattle.st_tree.specs.declared.units.Annotation.{Annotation}
use Rattle.st_tree.specs.declared.units.Unit.{Unit}
use Rattle.st_tree.specs.declared.headers.Target.{Target}
use Rattle.st_tree.specs.declared.headers.Header.TheVariants.{Whole, Awaits, Annotates}
use Rattle.st_tree.specs.Grammar.{Tree}
use Rattle.st_tree.specs.Headers.{UnitOf, initializer, pool_initializer, program_initializer, method, class_method}
use Rattle.st_tree.specs.Numbers.{unit, annotated}
use Rattle.sif_elements.specs.declared.progress.Progress.{Progress}
use Rattle.sif_elements.specs.declared.progress.Progress.TheVariants.{Start, Between, Awaiting}
use Rattle.sif_elements.specs.Reading.{Takes, version, whole, header, annotation, text_of_header}
use Rattle.st_tree.specs.Small.{IsSmall, unit_size, kind_size, annotation_size, moves_of}
use Rattle.sif_elements.proofs.Counts.{units_of, sum_by-annotated}
use Rattle.sif_elements.proofs.HeaderSizes.{target_size, element-small, first_element-small}
use Rattle.sif_elements.proofs.Readable.{IsReadableSoFar, readable_more}
use Rattle.sif_elements.proofs.TreeSizes.{tree_size, tree_moves, text_size_most, text_moves_most}

-- the parts of the units so far, and of a header
abbrev pub size_of : Progress → ℕ
size_of Start = 0
size_of (Between us) = sum_by unit_size us
size_of (Awaiting us t) = sum_by unit_size us + target_size t

unit_of-size : {t : Target} {tree : Tree} {kind : UnitKind} → UnitOf t tree kind → kind_size kind ≤ target_size t + tree_size tree
unit_of-size initializer = omega arith
unit_of-size pool_initializer = omega arith
unit_of-size program_initializer = omega arith
unit_of-size method = omega arith
unit_of-size class_method = omega arith

unit_of-moves : {t : Target} {tree : Tree} {kind : UnitKind} → UnitOf t tree kind → moves_of kind ≡ tree_moves tree
unit_of-moves initializer = refl
unit_of-moves pool_initializer = refl
unit_of-moves program_initializer = refl
unit_of-moves method = refl
unit_of-moves class_method = refl

size-unit : (us : List Unit) (kind : UnitKind) (n : ℕ) → kind_size kind ≤ n → sum_by unit_size (us ++ unit kind [] ∷ []) ≤ sum_by unit_size us + n + 1
size-unit us kind n h = omega (arith, h, sum_by_push unit_size us (unit kind []))

-- each text adds at most thirteen parts a byte
pub size_more : {p q : Progress} {text : List ℕ} → Takes p text q → size_of q ≤ size_of p + (6 * length text + 7)
size_more {text = text} (version {kind = kind} e) = omega (arith, size-unit [] kind (6 * length text + 6) (first_element-small text (Whole kind) e).0)
size_more {text = text} (whole {kind = kind} {us = us} e) = omega (arith, size-unit us kind (6 * length text + 6) (element-small text (Whole kind) e).0)
size_more {text = text} (header {target = t} e) = omega (arith, element-small text (Awaits t) e)
size_more {text = text} (annotation {a = a} {us = us} e) =
    let small : annotation_size a ≤ 6 * length text + 6 = element-small text (Annotates a) e in
    let more : (u : Unit) → unit_size (unit u.kind (u.annotations ++ a ∷ [])) ≤ unit_size u + (6 * length text + 6) = λ u. omega (arith, small, sum_by_push annotation_size u.annotations a) in
    omega (arith, sum_by-annotated unit_size (6 * length text + 6) a more us)
size_more {text = text} (text_of_header {target = t} {tree = tree} {kind = kind} {us = us} is made) =
    omega (arith, size-unit us kind (target_size t + tree_size tree) (unit_of-size made), text_size_most is)

-- bodies so far are short
abbrev pub IsShort : Unit → Type 0
IsShort u = moves_of u.kind ≤ 2 ^ 20 + 1

abbrev pub AreShort : List Unit → Type 0
AreShort us = All IsShort us

short-unit : (us : List Unit) (kind : UnitKind) → moves_of kind ≤ 2 ^ 20 + 1 → AreShort us → AreShort (us ++ unit kind [] ∷ [])
short-unit us kind h all = All-push IsShort us (unit kind []) all h

short-annotated : (us : List Unit) (a : Annotation) → AreShort us → AreShort (annotated us a)
short-annotated [] a all = all
short-annotated (u ∷ []) a all = All-cons IsShort (unit u.kind (u.annotations ++ a ∷ [])) [] (All-head IsShort u [] all) (All-nil IsShort)
short-annotated (u ∷ v ∷ us) a all = All-cons IsShort u (annotated (v ∷ us) a) (All-head IsShort u (v ∷ us) all) (short-annotated (v ∷ us) a (All-tail IsShort u (v ∷ us) all))

pub short_more : {p q : Progress} {text : List ℕ} → length text ≤ max_text → Takes p text q → AreShort (units_of p) → AreShort (units_of q)
short_more {text = text} fits (version {kind = kind} e) all = short-unit [] kind (omega (arith, (first_element-small text (Whole kind) e).1)) all
short_more {text = text} fits (whole {kind = kind} {us = us} e) all = short-unit us kind (omega (arith, (element-small text (Whole kind) e).1)) all
short_more fits (header e) all = all
short_more fits (annotation {a = a} {us = us} e) all = short-annotated us a all
short_more {text = text} fits (text_of_header {kind = kind} {us = us} is made) all = short-unit us kind (omega (arith, unit_of-moves made, text_moves_most is, fits)) all

-- all that is known of the units so far, of which so many bytes were judged
pub record IsSized (p : Progress) (bytes : ℕ) : Type 0 where
  pub parts : size_of p ≤ 13 * bytes
  pub bodies : AreShort (units_of p)
  pub readable : IsReadableSoFar p

pub sized_at_start : IsSized Start 0
sized_at_start = record { parts = omega arith; bodies = All-nil IsShort; readable = tt }

pub sized_more : {p q : Progress} {text : List ℕ} (old new : ℕ) → length text ≤ max_text → Takes p text q → old < new → old + length text ≤ new → IsSized p old → IsSized q new
sized_more old new fits takes moved judges so_far = record {
  parts = omega (arith, size_more takes, moved, judges, so_far.parts);
  bodies = short_more fits takes so_far.bodies;
  readable = readable_more takes so_far.readable;
}

-- the units of a file that is no longer than the longest are small
pub small_between : (us : List Unit) (bytes : ℕ) → bytes ≤ max_input → IsSized (Between us) bytes → IsSmall us
small_between us bytes short sized = record { readable = sized.readable; few_parts = omega (arith, sized.parts, short); short_bodies = sized.bodies }
