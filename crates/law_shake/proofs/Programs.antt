-- The program of the units that are kept is the program of all units under a renaming, where the latter has its names twice.
use Rattle.std.proofs.Common.{◌≡◌, ℕ, ◌+◌, List, [], ◌∷◌, ◌++◌, map, length, get_or, Bool, true, false, nat_eq, refl, sym, ap, ◌∙◌, subst, arith}
use Rattle.std.proofs.lemmas.List.{length-append}
use Rattle.st_base.specs.Troubles.{trouble_texts}
use Rattle.st_code.specs.Texts.{Text}
use Rattle.st_code.specs.Program.{Program, body_at, name_at, number_of, number_from}
use Rattle.st_code.specs.Literals.{literal_string, trouble_literals}
use Rattle.st_code.specs.Named.{NamedUnit, MethodUnit, ClassMethodUnit, InitializerUnit, PoolInitializerUnit, ProgramUnit, ClassUnit, GlobalUnit, PoolVariableUnit}
use Rattle.st_code.specs.Resolved.{Names, has_text}
use Rattle.st_code.specs.Definitions.{Defined, nothing_defined, built_in_names, declared_unit, declared_units, defined_units, names_of, RunLimits, program_with, program_of}
use Rattle.st_code.specs.BuiltIns.{built_in_class_rows}
use Rattle.law_shake.specs.Renaming.{Renaming, object, ren_object, ren_code, ren_initializer, spread, placed, IsRenamed, Sent}
use Rattle.law_shake.specs.Kept.{kept_before, kept_units}
use Rattle.law_shake.specs.Items.{Item, bodies_pattern, objects_pattern}
use Rattle.law_shake.proofs.Spreading.{read, added, spread_length, placed_after}
use Rattle.law_shake.proofs.Units.{items_of, units_itemed, kept_itemed, ItemsFit, Adds, adds}

-- ---- what units declare

abbrev renamed : Names → List Text → Names
renamed y names = record y { names = names }

unit_declares : (y : Names) (names : List Text) (u : NamedUnit) → declared_unit (renamed y names) u ≡ renamed (declared_unit y u) names
unit_declares y names (ClassUnit c) = refl
unit_declares y names (GlobalUnit name) = refl
unit_declares y names (PoolVariableUnit pool name) = refl
unit_declares y names (InitializerUnit target b) = refl
unit_declares y names (PoolInitializerUnit pool name b) = refl
unit_declares y names (ProgramUnit b) = refl
unit_declares y names (MethodUnit class m) = refl
unit_declares y names (ClassMethodUnit class m) = refl

units_declare : (y : Names) (names : List Text) (units : List NamedUnit) → declared_units (renamed y names) units ≡ renamed (declared_units y units) names
units_declare y names [] = refl
units_declare y names (u ∷ units) = ap (λ z. declared_units z units) (unit_declares y names u) ∙ units_declare (declared_unit y u) names units

-- methods declare nothing
kept_declare : (needed : List Text) (y : Names) (units : List NamedUnit) → declared_units y (kept_units needed units) ≡ declared_units y units
kept_declare needed y [] = refl
kept_declare needed y (MethodUnit class m ∷ units) = by (has_text needed m.selector) (kept_declare needed y units)
  where
    by : (b : Bool) → declared_units y (kept_units needed units) ≡ declared_units y units → declared_units y (kept_before b (MethodUnit class m) (kept_units needed units)) ≡ declared_units y units
    by true h = h
    by false h = h
kept_declare needed y (ClassMethodUnit class m ∷ units) = by (has_text needed m.selector) (kept_declare needed y units)
  where
    by : (b : Bool) → declared_units y (kept_units needed units) ≡ declared_units y units → declared_units y (kept_before b (ClassMethodUnit class m) (kept_units needed units)) ≡ declared_units y units
    by true h = h
    by false h = h
kept_declare needed y (ClassUnit c ∷ units) = kept_declare needed (declared_unit y (ClassUnit c)) units
kept_declare needed y (GlobalUnit name ∷ units) = kept_declare needed (declared_unit y (GlobalUnit name)) units
kept_declare needed y (PoolVariableUnit pool name ∷ units) = kept_declare needed (declared_unit y (PoolVariableUnit pool name)) units
kept_declare needed y (InitializerUnit target b ∷ units) = kept_declare needed y units
kept_declare needed y (PoolInitializerUnit pool name b ∷ units) = kept_declare needed y units
kept_declare needed y (ProgramUnit b ∷ units) = kept_declare needed y units

abbrev first_names : List Text → Names
first_names names = record { names = names; classes = map built_in_names built_in_class_rows; shared = [] }

pub names_kept : (needed : List Text) (names names' : List Text) (units : List NamedUnit) → names_of names' units ≡ renamed (names_of names (kept_units needed units)) names'
unfolding names_of
names_kept needed names names' units = units_declare (first_names names) names' units ∙ sym (ap (λ z. renamed z names') (kept_declare needed (first_names names) units))

pub names_are : (names : List Text) (units : List NamedUnit) → (names_of names units).names ≡ names
unfolding names_of
names_are names units = ap (λ (z : Names). z.names) (units_declare (first_names names) names units)

-- ---- literals

module _ (x : Renaming) where
  strings_ren : (ts : List Text) → map (ren_object x) (map literal_string ts) ≡ map literal_string ts
  strings_ren [] = refl
  strings_ren (t ∷ ts) = ap (λ os. literal_string t ∷ os) (strings_ren ts)

  troubles_ren : map (ren_object x) trouble_literals ≡ trouble_literals
  unfolding trouble_literals
  troubles_ren = strings_ren trouble_texts

-- ---- the renaming

module _ (needed names names' : List Text) (units : List NamedUnit) (symbol : ℕ → ℕ) where
  abbrev pub y : Names
  y = names_of names (kept_units needed units)

  abbrev pub items : List Item
  items = items_of needed y units

  abbrev pub shaking : Renaming
  shaking =
      record {
        symbol = symbol;
        code = placed (bodies_pattern y (renamed y names') items nothing_defined nothing_defined);
        objects = objects_pattern y (renamed y names') items nothing_defined nothing_defined;
      }

  -- what is asked of the numbers of symbols, for the program of these units with its names twice
  pub record SymbolsFit : Type 0 where
    pub zero_same : symbol 0 ≡ 0
    pub apart : (m n : ℕ) → nat_eq (symbol m) (symbol n) ≡ nat_eq m n
    pub texts : (n : ℕ) → get_or (names' ++ names') (symbol n) [] ≡ get_or y.names n []
    pub sent : (t : Text) → Sent t → number_from (names' ++ names') t 0 ≡ symbol (number_from y.names t 0)

  -- the program of all units, with each of its names twice
  abbrev pub whole : RunLimits → Program
  whole limits = record (program_of names' units limits) { names = names' ++ names' }

  module _ (fit : SymbolsFit) (all : ItemsFit shaking y names' fit.zero_same items) (limits : RunLimits) where
    first_codes : (k : ℕ) → shaking.code (0 + k) ≡ 0 + shaking.code k
    first_codes k = let e : 0 + k ≡ k = omega arith in let d : shaking.code k ≡ 0 + shaking.code k = omega arith in ap shaking.code e ∙ d

    first_literals : (k : ℕ) → object shaking (0 + k) ≡ 0 + object shaking k
    first_literals k = let e : 0 + k ≡ k = omega arith in let d : object shaking k ≡ 0 + object shaking k = omega arith in ap (object shaking) e ∙ d

    a : Adds shaking y names' fit.zero_same items nothing_defined nothing_defined
    a = adds shaking y names' fit.zero_same fit.apart items nothing_defined nothing_defined all first_codes first_literals

    abbrev d : Defined
    d = record { methods = a.methods; initializers = a.initializers; bodies = a.bodies; objects = a.objects }

    abbrev d' : Defined
    d' = record { methods = a.methods'; initializers = map (ren_initializer shaking) a.initializers; bodies = spread (ren_code shaking) (bodies_pattern y (renamed y names') items nothing_defined nothing_defined) a.bodies; objects = spread (ren_object shaking) shaking.objects a.objects }

    kept_is : program_of names (kept_units needed units) limits ≡ program_with y d limits
    unfolding program_of
    kept_is = ap (λ e. program_with y e limits) (kept_itemed needed y units nothing_defined ∙ a.kept)

    whole_is : whole limits ≡ record (program_with (renamed y names') d' limits) { names = names' ++ names' }
    unfolding program_of
    whole_is =
        ap (λ z. record (program_with z (defined_units z units nothing_defined) limits) { names = names' ++ names' }) (names_kept needed names names' units)
        ∙ ap (λ e. record (program_with (renamed y names') e limits) { names = names' ++ names' }) (units_itemed needed y names' units nothing_defined ∙ a.whole)

    explicit : IsRenamed shaking (program_with y d limits) (record (program_with (renamed y names') d' limits) { names = names' ++ names' })
    unfolding name_at number_of body_at
    explicit =
        record {
          classes = refl;
          variables = refl;
          steps = refl;
          depth = refl;
          cells = refl;
          names = fit.texts;
          apart = fit.apart;
          sent = fit.sent;
          methods = λ l n. a.found l n;
          bodies = λ n. read (ren_code shaking) (bodies_pattern y (renamed y names') items nothing_defined nothing_defined) a.bodies n _;
          initializers = refl;
          literals = ap (λ ts. spread (ren_object shaking) shaking.objects a.objects ++ ts) (sym (troubles_ren shaking)) ∙ sym (added (ren_object shaking) shaking.objects a.objects trouble_literals (omega (arith, a.objects_taken)));
          fits = let e = length-append a.objects trouble_literals in omega (arith, a.objects_taken, e);
          troubles = λ n.
              let e = spread_length (ren_object shaking) shaking.objects a.objects (omega (arith, a.objects_taken)) in
              ap (λ k. k + n) e ∙ sym (placed_after shaking.objects (length a.objects) n (omega (arith, a.objects_taken)));
        }

    pub is_renamed : IsRenamed shaking (program_of names (kept_units needed units) limits) (whole limits)
    is_renamed = subst (λ q. IsRenamed shaking q (whole limits)) (sym kept_is) (subst (λ p. IsRenamed shaking (program_with y d limits) p) (sym whole_is) explicit)
