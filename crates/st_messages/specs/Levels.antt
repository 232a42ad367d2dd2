-- Levels of lookup as they are seen, and of which classes they are.
use Rattle.std.specs.Prelude.{Bool, false, ◌||◌, nat_eq}
use Rattle.object_heap.specs.declared.value.Value.{Value}
use Rattle.object_heap.specs.declared.value.Value.TheVariants.{Class, Meta}
use Rattle.st_code.specs.BuiltIns.{class_class, metaclass_class, object_class}
use Rattle.st_code.specs.Lookup.{Level as RowLevel, inherits, level}
use Rattle.st_code.specs.Program.{Program, OfInstance, OfClass, OfMeta}
use Rattle.program_image.specs.Images.{on_side}
use Rattle.st_messages.specs.declared.level.Level.{Level}

abbrev pub seen_level : Level → RowLevel
seen_level l = level (on_side l.side) l.class

-- what has this level is of the class or metaclass, or of one above it
abbrev pub kind_at : Program → RowLevel → Value → Bool
kind_at p l (Class class) = elim l.side [
  | OfInstance ↦ inherits p l.class class
  | OfClass ↦ nat_eq class_class class || nat_eq object_class class
  | OfMeta ↦ nat_eq metaclass_class class || nat_eq object_class class
]
kind_at p l (Meta class) = elim l.side [ OfInstance ↦ false | OfClass ↦ inherits p l.class class | OfMeta ↦ false ]
kind_at p l v = false
