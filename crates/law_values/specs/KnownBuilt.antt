-- What is asked of a program so that its objects stay built.
use Rattle.std.specs.Prelude.{◌≡◌, ℕ, ◌<◌, length, List, [], ◌∷◌}
use Rattle.st_code.specs.BuiltIns.{object_class, fraction_class, interval_class, association_class, block_class, message_class, exception_class, error_class, zero_divide_class, message_not_understood_class, notification_class, warning_class, exception_set_class}
use Rattle.st_code.specs.Definitions.{RunLimits, program_of}
use Rattle.st_code.specs.Lookup.{superclasses}
use Rattle.st_code.specs.Named.{NamedUnit}
use Rattle.st_code.specs.Program.{Program, class_at}
use Rattle.st_code.specs.Texts.{Text}
use Rattle.st_sound.specs.KnownCollections.{Extends}
use Rattle.law_values.specs.BuiltObjects.{BuiltStore}

-- a class with those above it
pub record Chain : Type 0 where
  pub class : ℕ
  pub above : List ℕ

abbrev pub fraction_chain : Chain
fraction_chain = record { class = fraction_class; above = object_class ∷ [] }

abbrev pub block_chain : Chain
block_chain = record { class = block_class; above = object_class ∷ [] }

abbrev pub message_chain : Chain
message_chain = record { class = message_class; above = object_class ∷ [] }

abbrev pub association_chain : Chain
association_chain = record { class = association_class; above = object_class ∷ [] }

-- the exceptions
abbrev pub exception_chains : List Chain
exception_chains =
    record { class = exception_class; above = object_class ∷ [] } ∷
    record { class = error_class; above = exception_class ∷ object_class ∷ [] } ∷
    record { class = zero_divide_class; above = error_class ∷ exception_class ∷ object_class ∷ [] } ∷
    record { class = message_not_understood_class; above = error_class ∷ exception_class ∷ object_class ∷ [] } ∷
    record { class = notification_class; above = exception_class ∷ object_class ∷ [] } ∷
    record { class = warning_class; above = notification_class ∷ exception_class ∷ object_class ∷ [] } ∷ []

-- the built-in classes with named slots alone, or none, but for Interval
abbrev pub chains : List Chain
chains = fraction_chain ∷ block_chain ∷ message_chain ∷ association_chain ∷ exception_chains

abbrev pub Stand : Program → List Chain → Type 0
Stand p [] = Unit {0}
Stand p (c ∷ cs) = (superclasses p c.class ≡ c.class ∷ c.above) × Stand p cs

-- these stand so, with their slots, and no literal is of one of them; and the program has each built-in class
pub record KnowsBuilt (p : Program) : Type 0 where
  pub classes : exception_set_class < length p.classes
  pub above : Stand p chains
  pub fractions : (class_at p fraction_class).slots ≡ 2
  pub intervals : (class_at p interval_class).slots ≡ 3
  pub associations : (class_at p association_class).slots ≡ 2
  pub blocks : (class_at p block_class).slots ≡ 0
  pub messages : (class_at p message_class).slots ≡ 2
  pub literals : BuiltStore p (record { objects = p.literals; closures = []; scopes = [] })

-- ---- the programs that the units of a file are

abbrev pub ProgramsKnowBuilt : Type 0
ProgramsKnowBuilt = (names : List Text) (units : List NamedUnit) (limits : RunLimits) → Extends units → KnowsBuilt (program_of names units limits)
