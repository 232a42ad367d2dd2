-- What is computed of lists of names and of the classes above a class.
use Rattle.std.specs.Prelude.{Bool, List, ◌||◌, Option, Some, None, if◌then◌else◌}
use Rattle.std.specs.List.{list_any}
use Rattle.st_tree.specs.declared.units.ClassUnit.{ClassUnit}
use Rattle.st_checks.specs.Declarations.{Text, repeats, share}

-- the names, where none stands twice among them
abbrev pub distinct : List Text → Option (List Text)
distinct names = if repeats names then None else Some names

-- the class has one of these instance variables, or one of these class instance variables
abbrev pub shares : (instance_names class_instance_names : List Text) → ClassUnit → Bool
shares instance_names class_instance_names c = share c.instance_names instance_names || share c.class_instance_names class_instance_names

-- a list behind the instance variables has a name twice, or one of these classes has a variable of this one
abbrev pub repeats_other : (above : List ClassUnit) → (instance_names : List Text) → ClassUnit → Bool
repeats_other above instance_names c =
    repeats c.class_names || (repeats c.pools || (repeats c.class_instance_names || list_any (shares instance_names c.class_instance_names) above))
