-- A machine that is opened on units that are read and meet the static rules can make its whole run.
use Rattle.std.proofs.Common.{◌≡◌, ℕ, suc, ◌+◌, ◌-◌, ◌*◌, ◌^◌, ◌<◌, ◌≤◌, List, [], ◌∷◌, ◌++◌, length, map, Option, Some, None, refl, arith}
use Rattle.std.proofs.lemmas.List.{length-append, length-map}
use Rattle.std.proofs.lemmas.List.Sums.{sum_by-cons}
use Rattle.std.proofs.Math.Nat.{mul-le-mul_left}
use Rattle.st_base.specs.declared.faults.Limits.{Limits}
use Rattle.st_tree.specs.declared.units.Unit.{Unit}
use Rattle.st_tree.specs.declared.units.UnitKind.{UnitKind}
use Rattle.st_tree.specs.declared.units.UnitKind.TheVariants as kinds
use Rattle.st_tree.specs.Numbers.{elements_of_kind, elements_of, elements_in}
use Rattle.st_tree.specs.Units.{IsReadable}
use Rattle.st_checks.specs.StaticRules.{MeetsRules}
use Rattle.st_checked.proofs.CheckedClasses.{classes_extend}
use Rattle.st_parsed.proofs.ReadFits.{read_fits}
use Rattle.st_code.specs.Compiled.{Compiled, compile_of}
use Rattle.st_code.specs.Definitions.{Defined, defined_unit, defined_units, initialized, names_of, nothing_defined, program_of}
use Rattle.st_code.specs.Named.{NamedBody, NamedUnit, ClassUnit, GlobalUnit, PoolVariableUnit, InitializerUnit, PoolInitializerUnit, ProgramUnit, MethodUnit, ClassMethodUnit}
use Rattle.st_code.specs.Resolved.{Names, class_in}
use Rattle.st_code.specs.Texts.{Text}
use Rattle.st_code.specs.Written.{named_unit, named_units, with_named}
use Rattle.program_image.specs.Spelled.{names_in}
use Rattle.st_rules.specs.Flat.{code_at}
use Rattle.st_rules.specs.Instructions.{longest, most_instructions}
use Rattle.st_rules.specs.Runs.{first_state}
use Rattle.st_literals.specs.Numbered.{first_memory}
use Rattle.st_machine.specs.Plans.{initializer_of, limits_of, plan_of, program_from}
use Rattle.st_machine_laws.specs.Holding.{Moderate}
use Rattle.st_machine_laws.specs.WholeRun.{Opened}
use Rattle.st_opening.specs.Opened.{HasRoom, HaveFew}
use Rattle.st_opening.proofs.Readiness.{is_opened}
use Rattle.st_sends.proofs.FittingMade.{programs_know_selectors}
use Rattle.st_sound.proofs.WrittenUnits.{programs_know_collections}
use Rattle.st_steady.specs.Steady.{Steady}
use Rattle.st_runner.specs.Firsts.{OpensFirst}

-- ---- instructions

longest-below : (codes : List Compiled) → ((code : ℕ) → length (code_at codes code).instructions < 2 ^ 22) → longest codes < 2 ^ 22
unfolding code_at
longest-below [] few = omega arith
longest-below (c ∷ codes) few =
    let here : length c.instructions < 2 ^ 22 = few 0 in
    let there : longest codes < 2 ^ 22 = longest-below codes (λ code. few (suc code)) in
    omega (arith, here, there)

few-in-all : (begun long : ℕ) → begun ≤ 10 ^ 12 + 2 ^ 32 → long < 2 ^ 22 → begun * long < 2 ^ 64 - 1
few-in-all begun long most low =
    let less : begun * long ≤ begun * 2 ^ 22 = mul-le-mul_left begun (omega (arith, low)) in
    omega (arith, less, most)

-- ---- initializers

module _ (x : Names) where
  one-more : {A : Type 0} (row : List A) (a : A) → length (row ++ a ∷ []) ≤ length row + 1
  one-more row a = omega (arith, length-append row (a ∷ []))

  same-or-more : {A : Type 0} (row : List A) → length (row ++ []) ≤ length row + 1
  same-or-more row = omega (arith, length-append row [])

  initializes-one : (class : Option ℕ) (target : Text) (b : NamedBody) (d : Defined) → length (initialized x class target b d).initializers ≤ length d.initializers + 1
  initializes-one (Some class) target b d = one-more d.initializers _
  initializes-one None target b d = one-more d.initializers _

  unit-begins : (u : NamedUnit) (d : Defined) → length (defined_unit x u d).initializers ≤ length d.initializers + 1
  unit-begins (InitializerUnit target b) d = initializes-one (class_in 0 x.classes target) target b d
  unit-begins (PoolInitializerUnit pool name b) d = one-more d.initializers _
  unit-begins (ProgramUnit b) d = one-more d.initializers _
  unit-begins (MethodUnit class m) d = same-or-more d.initializers
  unit-begins (ClassMethodUnit class m) d = same-or-more d.initializers
  unit-begins (ClassUnit c) d = omega arith
  unit-begins (GlobalUnit name) d = omega arith
  unit-begins (PoolVariableUnit pool name) d = omega arith

  units-begin : (units : List NamedUnit) (d : Defined) → length (defined_units x units d).initializers ≤ length d.initializers + length units
  units-begin [] d = omega arith
  units-begin (u ∷ units) d =
      let here : length (defined_unit x u d).initializers ≤ length d.initializers + 1 = unit-begins u d in
      let there : length (defined_units x units (defined_unit x u d)).initializers ≤ length (defined_unit x u d).initializers + length units = units-begin units (defined_unit x u d) in
      omega (arith, here, there)

some-elements : (kind : UnitKind) → 1 ≤ elements_of_kind kind
some-elements (kinds.Version t) = omega arith
some-elements (kinds.Class c) = omega arith
some-elements (kinds.GlobalVariable n) = omega arith
some-elements (kinds.GlobalConstant n) = omega arith
some-elements (kinds.Pool n) = omega arith
some-elements (kinds.PoolVariable p n) = omega arith
some-elements (kinds.PoolConstant p n) = omega arith
some-elements (kinds.Initializer n b) = omega arith
some-elements (kinds.PoolInitializer p n b) = omega arith
some-elements (kinds.ProgramInitializer b) = omega arith
some-elements (kinds.Method c m) = omega arith
some-elements (kinds.ClassMethod c m) = omega arith
some-elements (kinds.Comment ts) = omega arith

with-named-more : (u : Option NamedUnit) (units : List NamedUnit) → length (with_named u units) ≤ length units + 1
with-named-more None units = omega arith
with-named-more (Some u) units = omega arith

named-few : (units : List Unit) → length (named_units units) ≤ elements_in units
unfolding named_units
named-few [] = omega arith
named-few (u ∷ units) =
    let here : length (with_named (named_unit u) (named_units units)) ≤ length (named_units units) + 1 = with-named-more (named_unit u) (named_units units) in
    let some : 1 ≤ elements_of_kind u.kind = some-elements u.kind in
    let there : length (named_units units) ≤ elements_in units = named-few units in
    let all : elements_in (u ∷ units) ≡ (elements_of_kind u.kind + length u.annotations) + elements_in units = sum_by-cons elements_of u units in
    omega (arith, here, some, there, all)

initializers-few : (units : List Unit) (limits : Limits) → length (program_from units limits).initializers ≤ elements_in units
unfolding program_of
initializers-few units limits =
    let x : Names = names_of (names_in (named_units units)) (named_units units) in
    let made : length (defined_units x (named_units units) nothing_defined).initializers ≤ 0 + length (named_units units) = units-begin x (named_units units) nothing_defined in
    let few : length (named_units units) ≤ elements_in units = named-few units in
    omega (arith, made, few)

steps-are : (units : List Unit) (limits : Limits) → (program_from units limits).step_limit ≡ limits.steps
unfolding program_of
steps-are units limits = refl

-- ---- a machine that is opened

module _ (units : List Unit) (limits : Limits) (elements : elements_in units < 2 ^ 32 - 1) (steps : limits.steps ≤ 10 ^ 12) (have : HaveFew (compile_of (program_from units limits))) where
  begins-few : length (program_from units limits).initializers < 2 ^ 32
  begins-few =
      let few : length (program_from units limits).initializers ≤ elements_in units = initializers-few units limits in
      omega (arith, few, elements)

  is-moderate : Moderate (plan_of units limits)
  is-moderate =
      let same : length (map initializer_of (program_from units limits).initializers) ≡ length (program_from units limits).initializers = length-map (program_from units limits).initializers initializer_of in
      record {
        lengths = λ code. let low : length (code_at (compile_of (program_from units limits)) code).instructions < 2 ^ 22 = have.lengths code in omega (arith, low);
        steps = omega (arith, steps-are units limits, steps);
        initializers = omega (arith, same, begins-few);
      }

  is-opened : Opened (plan_of units limits) (first_memory (program_from units limits))
  unfolding first_state
  is-opened = record { moderate = is-moderate; ready = (is_opened units limits).ready; store = refl; unused = refl }

  counts-few : most_instructions (program_from units limits) < 2 ^ 64 - 1
  counts-few =
      let begun : (program_from units limits).step_limit + length (program_from units limits).initializers ≤ 10 ^ 12 + 2 ^ 32 = omega (arith, steps-are units limits, steps, begins-few) in
      few-in-all ((program_from units limits).step_limit + length (program_from units limits).initializers) (longest (compile_of (program_from units limits))) begun (longest-below (compile_of (program_from units limits)) have.lengths)

is-steady : (units : List Unit) (limits : Limits) → IsReadable units → MeetsRules units → HasRoom (plan_of units limits) → Steady (plan_of units limits)
is-steady units limits readable meets room =
    record {
      collections = programs_know_collections (names_in (named_units units)) (named_units units) (limits_of limits) (classes_extend units meets);
      selectors = programs_know_selectors (names_in (named_units units)) (named_units units) (limits_of limits) (read_fits units readable);
      arities = room.arities;
    }

pub opens-first : OpensFirst
opens-first units limits readable meets elements steps have room =
    record {
      first = refl;
      opened = is-opened units limits elements steps have;
      steady = is-steady units limits readable meets room;
      few = counts-few units limits elements steps have;
    }
