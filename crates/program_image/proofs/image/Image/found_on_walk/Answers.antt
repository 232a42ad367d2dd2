use Rattle.std.proofs.Common.{[], ◌∷◌, map, ap, sym, ◌∙◌}
use Rattle.st_code.specs.Program.{OfInstance, OfClass}
use Rattle.st_code.specs.BuiltIns.{class_class, object_class}
use Rattle.st_code.specs.Lookup.{level, superclasses, walk}
use Rattle.program_image.specs.declared.table.Side.{Side}
use Rattle.program_image.specs.Images.{image_program, image_lookup}
use Rattle.program_image.proofs.Lookups.{found-first, found-behind}
use Rattle.program_image.proofs.image.Image.found_on_walk.Goals as goal

pub returns-in-Instance : goal.returns-in-Instance
unfolding image_lookup walk
returns-in-Instance c = c.found_up.ensures ∙ sym (ap (λ (on : Side). image_lookup c.args.self.now on c.args.class c.args.selector) c.in-Instance.is)

pub returns-in-Some : goal.returns-in-Some
unfolding image_lookup walk
returns-in-Some c =
    sym (ap (λ (on : Side). image_lookup c.args.self.now on c.args.class c.args.selector) c.in-Class.is
    ∙ found-first c.args.self.now c.args.selector (map (level OfClass) (superclasses (image_program c.args.self.now) c.args.class)) (level OfInstance class_class ∷ level OfInstance object_class ∷ []) c.in-Some.found (sym c.found_up-in-Class.ensures ∙ c.in-Some.is))

pub returns-in-None : goal.returns-in-None
unfolding image_lookup walk
returns-in-None c =
    c.found_behind.ensures
    ∙ sym (ap (λ (on : Side). image_lookup c.args.self.now on c.args.class c.args.selector) c.in-Class.is
    ∙ found-behind c.args.self.now c.args.selector (map (level OfClass) (superclasses (image_program c.args.self.now) c.args.class)) (level OfInstance class_class ∷ level OfInstance object_class ∷ []) (sym c.found_up-in-Class.ensures ∙ c.in-None.is))

pub returns-in-Meta : goal.returns-in-Meta
unfolding image_lookup walk
returns-in-Meta c = c.found_behind-in-Meta.ensures ∙ sym (ap (λ (on : Side). image_lookup c.args.self.now on c.args.class c.args.selector) c.in-Meta.is)
