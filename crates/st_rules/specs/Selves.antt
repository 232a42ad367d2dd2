-- What is claimed of self: in each body it is an instance of the class that the body is written in, or of one under it.
use Rattle.std.specs.Prelude.{◌≡◌, ℕ, ◌⊎◌, List, [], ◌∷◌, drop}
use Rattle.object_heap.specs.declared.value.Value.{Value}
use Rattle.object_heap.specs.Store.{Store}
use Rattle.st_code.specs.Texts.{Text}
use Rattle.st_code.specs.Named.{NamedUnit}
use Rattle.st_code.specs.Definitions.{RunLimits, program_of}
use Rattle.st_code.specs.Program.{Program, MethodRow, Initializer, body_at}
use Rattle.st_code.specs.Lookup.{Level, level, level_of, walk, class_level}
use Rattle.st_rules.specs.Machine.{Act, BodyAct, Leaving, Run, Settle, Begin, Over, Stuck}
use Rattle.st_rules.specs.Flat.{FlatBody}
use Rattle.st_rules.specs.Turns.{Top, On, Ended, opened_run, top_iter}
use Rattle.st_rules.specs.Flattened.{flat_of}
use Rattle.st_rules.specs.Compilable.{Compilable}
use Rattle.st_rules.specs.Objects.{KnowsLiterals}

-- a level is among those that a lookup visits
abbrev pub OnWalk : List Level → Level → Type 0
OnWalk [] l = ⊥
OnWalk (m ∷ levels) l = (m ≡ l) ⊎ OnWalk levels l

-- a lookup that begins at this value comes to the side of the class that a body is written in
abbrev pub IsOf : Program → Store → (self class : Value) → Type 0
IsOf p s self class = OnWalk (walk p (level_of s self)) (class_level class)

-- ---- what a program has

abbrev pub MethodsSit : Program → List MethodRow → Type 0
MethodsSit p [] = Unit {0}
MethodsSit p (m ∷ methods) = (class_level (body_at p m.code).class ≡ level m.side m.class) × MethodsSit p methods

abbrev pub SelvesSit : Program → List Initializer → Type 0
SelvesSit p [] = Unit {0}
SelvesSit p (x ∷ xs) = ((s : Store) → IsOf p s x.self (body_at p x.code).class) × SelvesSit p xs

-- each method is at the level of its class, each initializer's self is of the class that it is written in, and what `super` looks up behind a level of a walk is on that walk
pub record KnowsClasses (p : Program) : Type 0 where
  pub methods : MethodsSit p p.methods
  pub selves : SelvesSit p p.initializers
  pub behind : (from l m : Level) → OnWalk (walk p from) l → OnWalk (drop 1 (walk p l)) m → OnWalk (walk p from) m

-- ---- at a moment

module _ (p : Program) where
  abbrev pub BodyFits : Store → FlatBody → Type 0
  BodyFits s x = IsOf p s x.self x.class

  abbrev pub ActFits : Store → Act FlatBody → Type 0
  ActFits s (BodyAct x) = BodyFits s x
  ActFits s (Leaving x) = BodyFits s x
  ActFits s a = Unit {0}

  -- of all that stands
  abbrev pub ActsFit : Store → List (Act FlatBody) → Type 0
  ActsFit s [] = Unit {0}
  ActsFit s (a ∷ acts) = ActFits s a × ActsFit s acts

  abbrev pub SelvesAre : Top FlatBody → Type 0
  SelvesAre (On target xs (Run x acts st)) = BodyFits st.store x × ActsFit st.store acts
  SelvesAre (On target xs (Settle o acts st)) = ActsFit st.store acts
  SelvesAre (On target xs (Begin u acts st)) = ActsFit st.store acts
  SelvesAre (On target xs (Over o st)) = Unit {0}
  SelvesAre (On target xs (Stuck st)) = Unit {0}
  SelvesAre (Ended e st) = Unit {0}

-- in each body that runs or stands, at each small step
abbrev pub SelvesFit : Type 0
SelvesFit = (p : Program) → Compilable p → KnowsLiterals p → KnowsClasses p → (n : ℕ) → SelvesAre p (top_iter (flat_of p) p n (opened_run (flat_of p) p))

-- the programs that the units of a file are have their classes so, whatever the units are
abbrev pub ProgramsKnowClasses : Type 0
ProgramsKnowClasses = (names : List Text) (units : List NamedUnit) (limits : RunLimits) → KnowsClasses (program_of names units limits)
