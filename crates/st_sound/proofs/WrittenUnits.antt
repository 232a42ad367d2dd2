-- The program that the units of a file are keeps its collections sound: unit by unit.
use Rattle.std.proofs.Common.{◌≡◌, ℕ, zero, suc, map, length, get_or, append_assoc, List, [], ◌∷◌, ◌++◌, Option, Some, None, refl, ◌∙◌}
use Rattle.object_heap.specs.Store.{Object as HeapObject, no_object}
use Rattle.st_base.specs.Troubles.{trouble_texts}
use Rattle.st_code.specs.BuiltIns.{undefined_object_class}
use Rattle.st_code.specs.Definitions.{context, names_of, or_zero, Defined, nothing_defined, body_in, with_body, initialized, defined_unit, defined_units, program_of}
use Rattle.st_code.specs.Literals.{literal_string, trouble_literals}
use Rattle.st_code.specs.Named.{NamedBody, NamedUnit, ClassUnit, GlobalUnit, PoolVariableUnit, InitializerUnit, PoolInitializerUnit, ProgramUnit, MethodUnit, ClassMethodUnit}
use Rattle.st_code.specs.Program.{Program, Side, OfInstance, OfClass, Kind, InMethod, InInitializer, MethodRow, Initializer, Body}
use Rattle.st_code.specs.Resolved.{Names, class_in, body_made, inside}
use Rattle.st_code.specs.Texts.{Text}
use Rattle.st_rules.proofs.SoundProgram.{units_grow}
use Rattle.st_rules.proofs.SoundTrees.{Sits, sits_left, sits_from}
use Rattle.st_sound.specs.KnownCollections.{ProgramsKnowCollections}
use Rattle.st_sound.specs.SoundStore.{SoundObject}
use Rattle.st_sound.proofs.SoundObjects.{no_object_sound}
use Rattle.st_sound.proofs.WrittenMade.{AllSound, sound_append, literal_sound, Assigns, statements_written}
use Rattle.st_sound.proofs.WrittenNames.{declared_late, nothing_under, above_dictionary, above_interval, slots_owned, names_fit}
use Rattle.st_sound.proofs.WrittenTrees.{BodiesWritten, bodies_append, code_written_at}

module _ (p : Program) (X : Names) (assigns : (class : ℕ) (side : Side) (code : ℕ) → Assigns p (context X class side code)) where
  -- what is defined so far
  pub record Held (d : Defined) : Type 0 where
    pub bodies : BodiesWritten p d.bodies
    pub objects : AllSound d.objects

  body_held : (class : ℕ) (side : Side) (kind : Kind) (parameters : List Text) (b : NamedBody) (d : Defined) (methods : List MethodRow) (initializers : List Initializer) (more : List Body) → p.bodies ≡ (with_body X class side kind parameters b d methods initializers).bodies ++ more → Held d → Held (with_body X class side kind parameters b d methods initializers)
  body_held class side kind parameters b d methods initializers more e h =
      let k = length d.bodies in
      let variables = parameters ++ b.temporaries in
      let new = body_made kind (context X class side k) None parameters variables b.statements (body_in X class side kind parameters b d) in
      let s : Sits p k new = sits_left p k new more (sits_from p d.bodies (new ++ more) (e ∙ append_assoc d.bodies new more)) in
      let g = statements_written p (inside (context X class side k) k variables) (record { bodies = suc k; objects = length d.objects }) b.statements (assigns class side k) s.1 in
      record { bodies = bodies_append p d.bodies new h.bodies (g.item, g.bodies); objects = sound_append d.objects _ h.objects g.objects }

  initialized_held : (o : Option ℕ) (target : Text) (b : NamedBody) (d : Defined) (more : List Body) → p.bodies ≡ (initialized X o target b d).bodies ++ more → Held d → Held (initialized X o target b d)
  initialized_held (Some class) target b d more e h = body_held class OfClass InInitializer [] b d [] _ more e h
  initialized_held None target b d more e h = body_held undefined_object_class OfInstance InInitializer [] b d [] _ more e h

  unit_held : (u : NamedUnit) (d : Defined) (more : List Body) → p.bodies ≡ (defined_unit X u d).bodies ++ more → Held d → Held (defined_unit X u d)
  unit_held (InitializerUnit target b) d more e h = initialized_held (class_in 0 X.classes target) target b d more e h
  unit_held (PoolInitializerUnit pool name b) d more e h = body_held undefined_object_class OfInstance InInitializer [] b d [] _ more e h
  unit_held (ProgramUnit b) d more e h = body_held undefined_object_class OfInstance InInitializer [] b d [] _ more e h
  unit_held (MethodUnit class m) d more e h = body_held (or_zero (class_in 0 X.classes class)) OfInstance InMethod m.parameters m.body d _ [] more e h
  unit_held (ClassMethodUnit class m) d more e h = body_held (or_zero (class_in 0 X.classes class)) OfClass InMethod m.parameters m.body d _ [] more e h
  unit_held (ClassUnit c) d more e h = h
  unit_held (GlobalUnit name) d more e h = h
  unit_held (PoolVariableUnit pool name) d more e h = h

  units_held : (units : List NamedUnit) (d : Defined) → p.bodies ≡ (defined_units X units d).bodies → Held d → Held (defined_units X units d)
  units_held [] d e h = h
  units_held (u ∷ units) d e h =
      let g = units_grow X units (defined_unit X u d) in
      units_held units (defined_unit X u d) e (unit_held u d g.extra (e ∙ g.is) h)

-- ---- the program

texts_sound : (texts : List Text) → AllSound (map literal_string texts)
texts_sound [] = tt
texts_sound (t ∷ texts) = (literal_sound 9 [] t refl refl, texts_sound texts)

troubles_sound : AllSound trouble_literals
unfolding trouble_literals
troubles_sound = texts_sound trouble_texts

each_of : (objects : List HeapObject) → AllSound objects → (n : ℕ) → SoundObject (get_or objects n no_object)
each_of [] h n = no_object_sound
each_of (o ∷ objects) h zero = h.0
each_of (o ∷ objects) h (suc n) = each_of objects h.1 n

pub programs_know_collections : ProgramsKnowCollections
unfolding program_of
programs_know_collections names units limits e =
    let p = program_of names units limits in
    let X = names_of names units in
    let D = defined_units X units nothing_defined in
    let assigns : (class : ℕ) (side : Side) (code : ℕ) → Assigns p (context X class side code) = λ class side code scopes t. names_fit p X (slots_owned names units limits e) class side scopes t in
    let held = units_held p X assigns units nothing_defined refl (record { bodies = tt; objects = tt }) in
    record {
      declared = declared_late names units limits e;
      under = nothing_under names units limits e;
      dictionary = above_dictionary names units limits e;
      interval = above_interval names units limits e;
      literals = each_of (D.objects ++ trouble_literals) (sound_append D.objects trouble_literals held.objects troubles_sound);
      code = code_written_at p held.bodies;
    }
