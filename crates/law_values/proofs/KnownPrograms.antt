-- The programs that the units of a file are have what the law asks for.
use Rattle.std.proofs.Common.{◌≡◌, ℕ, suc, ◌<◌, length, map, get_or, arith, List, [], ◌∷◌, ◌++◌, Option, Some, None, false, refl, ap, ◌∙◌}
use Rattle.std.proofs.lemmas.List.{length-append, length-map}
use Rattle.st_code.specs.BuiltIns.{built_in_classes, built_in_class_rows}
use Rattle.st_code.specs.Definitions.{built_in_names, class_row, names_of, nothing_defined, defined_units, RunLimits, program_of}
use Rattle.st_code.specs.Literals.{trouble_literals}
use Rattle.st_code.specs.Lookup.{some_superclasses, superclasses}
use Rattle.st_code.specs.Named.{NamedUnit}
use Rattle.st_code.specs.Program.{Program, NoIndexes, ClassRow, class_at}
use Rattle.st_code.specs.Texts.{Text}
use Rattle.st_sound.specs.KnownCollections.{Extends}
use Rattle.st_sound.proofs.WrittenNames.{built, Extended, names_extended}
use Rattle.law_values.specs.KnownBuilt.{Stand, chains, KnowsBuilt, ProgramsKnowBuilt}
use Rattle.law_values.proofs.PlainLiterals.{plain_append, units_plain, troubles_plain, built_of}

abbrev none_class : ClassRow
none_class = record { name = []; superclass = None; in_file = false; indexed = NoIndexes; slots = 0; class_slots = 0 }

module _ (names : List Text) (units : List NamedUnit) (limits : RunLimits) (e : Extends units) where
  abbrev p : Program
  p = program_of names units limits

  abbrev extended : Extended (names_of names units).classes
  extended = names_extended names units e

  super_at : (c : ℕ) (o : Option ℕ) → (get_or (map class_row (built ++ extended.extra)) c none_class).superclass ≡ o → (class_at (program_of names units limits) c).superclass ≡ o
  unfolding program_of class_at
  super_at c o f = ap (λ cs. (get_or (map class_row cs) c none_class).superclass) extended.begins ∙ f

  slots_at : (c n : ℕ) → (get_or (map class_row (built ++ extended.extra)) c none_class).slots ≡ n → (class_at (program_of names units limits) c).slots ≡ n
  unfolding program_of class_at
  slots_at c n f = ap (λ cs. (get_or (map class_row cs) c none_class).slots) extended.begins ∙ f

  abbrev above_by : ℕ → Option ℕ → List ℕ
  above_by n o = elim o [ None ↦ [] | Some above ↦ some_superclasses p n above ]

  object_top : (n : ℕ) → above_by n (class_at p 0).superclass ≡ []
  unfolding built_in_class_rows built_in_classes
  object_top n = ap (λ o. above_by n o) (super_at 0 None refl)

  above : (n c a : ℕ) (xs : List ℕ) → (class_at p c).superclass ≡ Some a → above_by n (class_at p a).superclass ≡ xs → above_by (suc n) (class_at p c).superclass ≡ a ∷ xs
  above n c a xs f g = ap (λ o. above_by (suc n) o) f ∙ ap (λ ys. a ∷ ys) g

  under_object : (n c : ℕ) → (class_at p c).superclass ≡ Some 0 → above_by (suc n) (class_at p c).superclass ≡ 0 ∷ []
  under_object n c f = above n c 0 [] f (object_top n)

  under_exception : (n c : ℕ) → (class_at p c).superclass ≡ Some 23 → above_by (suc (suc n)) (class_at p c).superclass ≡ 23 ∷ 0 ∷ []
  unfolding built_in_class_rows built_in_classes
  under_exception n c f = above (suc n) c 23 (0 ∷ []) f (under_object n 23 (super_at 23 (Some 0) refl))

  under_error : (n c : ℕ) → (class_at p c).superclass ≡ Some 24 → above_by (suc (suc (suc n))) (class_at p c).superclass ≡ 24 ∷ 23 ∷ 0 ∷ []
  unfolding built_in_class_rows built_in_classes
  under_error n c f = above (suc (suc n)) c 24 (23 ∷ 0 ∷ []) f (under_exception n 24 (super_at 24 (Some 23) refl))

  under_notification : (n c : ℕ) → (class_at p c).superclass ≡ Some 27 → above_by (suc (suc (suc n))) (class_at p c).superclass ≡ 27 ∷ 23 ∷ 0 ∷ []
  unfolding built_in_class_rows built_in_classes
  under_notification n c f = above (suc (suc n)) c 27 (23 ∷ 0 ∷ []) f (under_exception n 27 (super_at 27 (Some 23) refl))

  begins_with : (c : ℕ) (xs ys : List ℕ) → xs ≡ ys → c ∷ xs ≡ c ∷ ys
  begins_with c xs ys f = ap (λ zs. c ∷ zs) f

  stand : Stand p chains
  unfolding superclasses built_in_class_rows built_in_classes
  stand = (
    begins_with 6 _ _ (under_object 5 6 (super_at 6 (Some 0) refl)),
    (
      begins_with 18 _ _ (under_object 17 18 (super_at 18 (Some 0) refl)),
      (
        begins_with 19 _ _ (under_object 18 19 (super_at 19 (Some 0) refl)),
        (
          begins_with 17 _ _ (under_object 16 17 (super_at 17 (Some 0) refl)),
          (
            begins_with 23 _ _ (under_object 22 23 (super_at 23 (Some 0) refl)),
            (
              begins_with 24 _ _ (under_exception 22 24 (super_at 24 (Some 23) refl)),
              (
                begins_with 25 _ _ (under_error 22 25 (super_at 25 (Some 24) refl)),
                (
                  begins_with 26 _ _ (under_error 23 26 (super_at 26 (Some 24) refl)),
                  (
                    begins_with 27 _ _ (under_exception 25 27 (super_at 27 (Some 23) refl)),
                    (begins_with 28 _ _ (under_notification 25 28 (super_at 28 (Some 27) refl)), tt),
                  ),
                ),
              ),
            ),
          ),
        ),
      ),
    ),
  )

  rows_size : length built_in_class_rows ≡ 30
  unfolding built_in_class_rows built_in_classes
  rows_size = refl

  there : 29 < length (program_of names units limits).classes
  unfolding program_of
  there =
      let a = ap (λ cs. length (map class_row cs)) extended.begins in
      let b : length (map class_row (built ++ extended.extra)) ≡ length (built ++ extended.extra) = length-map _ _ in
      let c = length-append built extended.extra in
      let d : length (map built_in_names built_in_class_rows) ≡ length built_in_class_rows = length-map _ _ in
      let e = rows_size in
      omega (arith, a, b, c, d, e)

  pub known : KnowsBuilt (program_of names units limits)
  unfolding program_of built_in_class_rows built_in_classes
  known =
      let D = defined_units (names_of names units) units nothing_defined in
      record {
        classes = there;
        above = stand;
        fractions = slots_at 6 2 refl;
        intervals = slots_at 16 3 refl;
        associations = slots_at 17 2 refl;
        blocks = slots_at 18 0 refl;
        messages = slots_at 19 2 refl;
        literals = record { each = built_of p _ there (D.objects ++ trouble_literals) (plain_append D.objects trouble_literals (units_plain (names_of names units) units nothing_defined tt) troubles_plain) };
      }

pub programs_know_built : ProgramsKnowBuilt
programs_know_built names units limits e = known names units limits e
