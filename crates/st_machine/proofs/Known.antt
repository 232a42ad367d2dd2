-- What a program finds for `super`, and what its image says of its classes.
use Rattle.std.proofs.Common.{◌≡◌, ℕ, ◌<◌, List, [], ◌∷◌, ◌++◌, map, drop, get_or, Option, Some, None, refl, ap, sym, ◌∙◌}
use Rattle.std.specs.Option.{option_map}
use Rattle.object_heap.specs.declared.value.Value.{Value}
use Rattle.object_heap.specs.declared.value.Value.TheVariants as value
use Rattle.object_heap.specs.declared.value.Value.TheVariants.{Class, Meta}
use Rattle.st_code.specs.Texts.{Text}
use Rattle.st_code.specs.Program.{Program, ClassRow, OfInstance, OfClass, class_at, number_of}
use Rattle.st_code.specs.Resolved.{number_or_last}
use Rattle.st_code.specs.Definitions.{program_of}
use Rattle.st_code.specs.Lookup.{Level, level, superclasses, walk, found_in, lookup, super_lookup}
use Rattle.program_image.specs.Images.{image_names, image_program}
use Rattle.program_image.specs.Finding.{program_of_image, coded, unit_codes}
use Rattle.program_image.proofs.FindingAlike.{finds_alike}
use Rattle.program_image.proofs.FirstClasses.{class-superclass-is, object-superclass-is}
use Rattle.program_image.proofs.There.{number-last}
use Rattle.program_image.proofs.Walks.{superclasses-step, image-lower}
use Rattle.st_machine.specs.Seen.{Plan}
use Rattle.st_machine.specs.Plans.{program_in, limits_of}

pub names-are : (plan : Plan) → (image_names plan.units).names ≡ (program_in plan).names
unfolding program_of image_names
names-are plan = refl

pub classes-are : (plan : Plan) (class : ℕ) → class_at (image_program plan.units) class ≡ class_at (program_in plan) class
unfolding class_at image_program program_of image_names
classes-are plan class = refl

pub number-is : (plan : Plan) (t : Text) → number_or_last (image_names plan.units).names t ≡ number_of (program_in plan) t
number-is plan t = ap (λ (names : List Text). number_or_last names t) (names-are plan) ∙ sym (number-last (program_in plan) t)

pub found-alike : (plan : Plan) (l : Level) (selector : ℕ) → option_map (coded (unit_codes plan.units)) (lookup (image_program plan.units) l selector) ≡ lookup (program_in plan) l selector
unfolding program_of_image
found-alike plan l selector = sym ((finds_alike plan.units (limits_of plan.limits)).alike l selector)

lower : (plan : Plan) (i s : ℕ) → (class_at (program_in plan) i).superclass ≡ Some s → s < i
lower plan i s is = image-lower plan.units i s (ap (λ (r : ClassRow). r.superclass) (classes-are plan i) ∙ is)

above-class : (plan : Plan) → superclasses (program_in plan) 20 ≡ 20 ∷ 0 ∷ []
above-class plan =
    let class : (class_at (program_in plan) 20).superclass ≡ Some 0 = sym (ap (λ (r : ClassRow). r.superclass) (classes-are plan 20)) ∙ class-superclass-is plan.units in
    let object : (class_at (program_in plan) 0).superclass ≡ None = sym (ap (λ (r : ClassRow). r.superclass) (classes-are plan 0)) ∙ object-superclass-is plan.units in
    superclasses-step (program_in plan) (lower plan) 20 (Some 0) class
    ∙ ap (λ cs. 20 ∷ cs) (superclasses-step (program_in plan) (lower plan) 0 None object)

module _ (plan : Plan) (class selector : ℕ) where
  walk-above : (above : ℕ) → (class_at (image_program plan.units) class).superclass ≡ Some above → superclasses (program_in plan) class ≡ class ∷ superclasses (program_in plan) above
  walk-above above is = superclasses-step (program_in plan) (lower plan) class (Some above) (sym (ap (λ (r : ClassRow). r.superclass) (classes-are plan class)) ∙ is)

  walk-alone : (class_at (image_program plan.units) class).superclass ≡ None → superclasses (program_in plan) class ≡ class ∷ []
  walk-alone is = superclasses-step (program_in plan) (lower plan) class None (sym (ap (λ (r : ClassRow). r.superclass) (classes-are plan class)) ∙ is)

  pub super-above : (above : ℕ) → (class_at (image_program plan.units) class).superclass ≡ Some above → super_lookup (program_in plan) (Class class) selector ≡ lookup (program_in plan) (level OfInstance above) selector
  unfolding super_lookup lookup walk
  super-above above is = ap (λ (cs : List ℕ). found_in (program_in plan) (drop 1 (map (level OfInstance) cs)) selector) (walk-above above is)

  pub super-alone : (class_at (image_program plan.units) class).superclass ≡ None → super_lookup (program_in plan) (Class class) selector ≡ None
  unfolding super_lookup walk found_in
  super-alone is = ap (λ (cs : List ℕ). found_in (program_in plan) (drop 1 (map (level OfInstance) cs)) selector) (walk-alone is)

  pub class-above : (above : ℕ) → (class_at (image_program plan.units) class).superclass ≡ Some above → super_lookup (program_in plan) (Meta class) selector ≡ lookup (program_in plan) (level OfClass above) selector
  unfolding super_lookup lookup walk
  class-above above is = ap (λ (cs : List ℕ). found_in (program_in plan) (drop 1 (map (level OfClass) cs ++ level OfInstance 20 ∷ level OfInstance 0 ∷ [])) selector) (walk-above above is)

  pub class-alone : (class_at (image_program plan.units) class).superclass ≡ None → super_lookup (program_in plan) (Meta class) selector ≡ lookup (program_in plan) (level OfInstance 20) selector
  unfolding super_lookup lookup walk
  class-alone is =
      ap (λ (cs : List ℕ). found_in (program_in plan) (drop 1 (map (level OfClass) cs ++ level OfInstance 20 ∷ level OfInstance 0 ∷ [])) selector) (walk-alone is)
      ∙ sym (ap (λ (cs : List ℕ). found_in (program_in plan) (map (level OfInstance) cs) selector) (above-class plan))

-- a body of no class looks up behind `UndefinedObject`
pub super-other : (p : Program) (v : Value) (selector : ℕ) → ((x : ℕ) → v ≡ value.Class x → ⊥) → ((x : ℕ) → v ≡ value.Meta x → ⊥) → super_lookup p (value.Class 1) selector ≡ super_lookup p v selector
unfolding super_lookup
super-other p value.Nil selector c m = refl
super-other p value.True selector c m = refl
super-other p value.False selector c m = refl
super-other p value.Transcript selector c m = refl
super-other p (value.Integer n) selector c m = refl
super-other p (value.Character byte) selector c m = refl
super-other p (value.Symbol name) selector c m = refl
super-other p (value.Class class) selector c m = absurd (c class refl)
super-other p (value.Meta class) selector c m = absurd (m class refl)
super-other p (value.Object number) selector c m = refl
