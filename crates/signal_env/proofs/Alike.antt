-- A program and its image have the same names and classes, and what they find is built in alike.
use Rattle.std.proofs.Common.{◌≡◌, ℕ, zero, suc, true, List, [], ◌∷◌, codes, Option, Some, None, refl, ap, sym, ◌∙◌, if◌then◌else◌}
use Rattle.std.specs.Option.{option_map}
use Rattle.object_heap.specs.declared.value.Value.{Value}
use Rattle.object_heap.specs.declared.value.Value.TheVariants.{Nil, True, False, Integer, Character, Symbol, Class, Meta, Transcript, Object}
use Rattle.object_heap.specs.Store.{Store, object_at}
use Rattle.st_tree.specs.declared.units.Unit.{Unit}
use Rattle.st_code.specs.Program.{Program, ClassRow, class_at, number_of}
use Rattle.st_code.specs.Definitions.{RunLimits, program_of}
use Rattle.st_code.specs.Lookup.{some_superclasses, superclasses, holds, inherits, level_of, lookup, is_plain, fits, Found, UserMethod, BuiltIn}
use Rattle.st_contexts.specs.declared.activation.Entry.{Entry}
use Rattle.program_image.specs.Images.{image_names, image_program}
use Rattle.program_image.specs.Finding.{unit_codes, program_of_image, coded}
use Rattle.program_image.proofs.FindingAlike.{finds_alike}
use Rattle.signal_env.specs.declared.handlers.Search.TheVariants as search
use Rattle.signal_env.specs.Searches.{class_fits, some_fits, search_in}
use Rattle.signal_env.specs.Alike.{SearchesAlike}
use Rattle.signal_env.proofs.Plain.{set-fits}

-- ---- superclasses

abbrev above_in : Program → ℕ → Option ℕ → List ℕ
above_in p n None = []
above_in p n (Some above) = some_superclasses p n above

above-same : (p : Program) (n : ℕ) (o : Option ℕ) → elim o [ None ↦ [] | Some above ↦ some_superclasses p n above ] ≡ above_in p n o
above-same p n None = refl
above-same p n (Some above) = refl

module _ (p q : Program) (same : (class : ℕ) → class_at p class ≡ class_at q class) where
  above-alike : (n : ℕ) (o : Option ℕ) → ((class : ℕ) → some_superclasses p n class ≡ some_superclasses q n class) → above_in p n o ≡ above_in q n o
  above-alike n None ih = refl
  above-alike n (Some above) ih = ih above

  some-alike : (n class : ℕ) → some_superclasses p n class ≡ some_superclasses q n class
  some-alike zero class = refl
  some-alike (suc n) class =
      ap (λ cs. class ∷ cs)
      (above-same p n (class_at p class).superclass ∙ ap (λ (r : ClassRow). above_in p n r.superclass) (same class)
      ∙ above-alike n (class_at q class).superclass (some-alike n) ∙ sym (above-same q n (class_at q class).superclass))

  pub inherits-alike : (class ancestor : ℕ) → inherits p class ancestor ≡ inherits q class ancestor
  unfolding inherits superclasses
  inherits-alike class ancestor = ap (λ cs. holds cs ancestor) (some-alike (suc class) class)

  -- ---- what fits

  class-fits-alike : (class : ℕ) (v : Value) → class_fits p class v ≡ class_fits q class v
  class-fits-alike class (Class ancestor) = inherits-alike class ancestor
  class-fits-alike class Nil = refl
  class-fits-alike class True = refl
  class-fits-alike class False = refl
  class-fits-alike class (Integer n) = refl
  class-fits-alike class (Character byte) = refl
  class-fits-alike class (Symbol name) = refl
  class-fits-alike class (Meta c) = refl
  class-fits-alike class Transcript = refl
  class-fits-alike class (Object n) = refl

  some-fits-alike : (class : ℕ) (vs : List Value) → some_fits p class vs ≡ some_fits q class vs
  unfolding some_fits
  some-fits-alike class [] = refl
  some-fits-alike class (v ∷ vs) =
      ap (λ b. if b then true else some_fits p class vs) (class-fits-alike class v) ∙ ap (λ c. if class_fits q class v then true else c) (some-fits-alike class vs)

  pub fits-alike : (s : Store) (v : Value) (class : ℕ) → fits p s v class ≡ fits q s v class
  unfolding fits
  fits-alike s (Class ancestor) class = inherits-alike class ancestor
  fits-alike s Nil class = refl
  fits-alike s True class = refl
  fits-alike s False class = refl
  fits-alike s (Integer n) class = refl
  fits-alike s (Character byte) class = refl
  fits-alike s (Symbol name) class = refl
  fits-alike s (Meta c) class = refl
  fits-alike s Transcript class = refl
  fits-alike s (Object n) class = sym (set-fits p s n class) ∙ some-fits-alike class (object_at n s).slots ∙ set-fits q s n class

  -- ---- searches

  module _ (plain : (s : Store) (v : Value) → is_plain p s v ≡ is_plain q s v) where
    pub search-alike : (s : Store) (class : ℕ) (entries : List Entry) → search_in p s class entries ≡ search_in q s class entries
    unfolding search_in
    search-alike s class [] = refl
    search-alike s class (e ∷ entries) =
        ap (λ b. if b then (if fits p s e.selector class then search.Found e else search_in p s class entries) else search.Ask e) (plain s e.selector)
        ∙ ap (λ b. if is_plain q s e.selector then (if b then search.Found e else search_in p s class entries) else search.Ask e) (fits-alike s e.selector class)
        ∙ ap (λ r. if is_plain q s e.selector then (if fits q s e.selector class then search.Found e else r) else search.Ask e) (search-alike s class entries)

-- ---- a program and its image

module _ (units : List Unit) (limits : RunLimits) where
  same-class : (class : ℕ) → class_at (program_of_image units limits) class ≡ class_at (image_program units) class
  unfolding class_at program_of_image program_of image_program image_names
  same-class class = refl

  same-number : number_of (program_of_image units limits) (codes "handles:") ≡ number_of (image_program units) (codes "handles:")
  unfolding number_of program_of_image program_of image_program image_names
  same-number = refl

  plain-by : (s : Store) (v : Value) (o : Option Found) → lookup (image_program units) (level_of s v) (number_of (image_program units) (codes "handles:")) ≡ o
      → lookup (program_of_image units limits) (level_of s v) (number_of (program_of_image units limits) (codes "handles:")) ≡ option_map (coded (unit_codes units)) o
      → is_plain (program_of_image units limits) s v ≡ is_plain (image_program units) s v
  unfolding is_plain
  plain-by s v None here there = rw (here, there) refl
  plain-by s v (Some (UserMethod code)) here there = rw (here, there) refl
  plain-by s v (Some (BuiltIn row)) here there = rw (here, there) refl

  plain-alike : (s : Store) (v : Value) → is_plain (program_of_image units limits) s v ≡ is_plain (image_program units) s v
  plain-alike s v =
      let n : ℕ = number_of (image_program units) (codes "handles:") in
      plain-by s v (lookup (image_program units) (level_of s v) n) refl
      (ap (λ k. lookup (program_of_image units limits) (level_of s v) k) same-number ∙ (finds_alike units limits).alike (level_of s v) n)

  pub searches_alike : SearchesAlike units limits
  searches_alike =
      record {
        inheriting = inherits-alike (program_of_image units limits) (image_program units) same-class;
        plain = plain-alike;
        fitting = fits-alike (program_of_image units limits) (image_program units) same-class;
        searching = search-alike (program_of_image units limits) (image_program units) same-class plain-alike;
      }
