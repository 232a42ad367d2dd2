-- What `check` and `list` write of the units of a program.
use Rattle.std.specs.Prelude.{ℕ, List, [], ◌∷◌, ◌++◌, length, codes, decimal}
use Rattle.st_tree.specs.Numbers.{elements_in}
use Rattle.st_tree.specs.declared.units.UnitKind.{UnitKind}
use Rattle.st_tree.specs.declared.units.UnitKind.TheVariants as kinds
use Rattle.st_tree.specs.declared.units.Unit.{Unit}

-- `check`: how many units and elements there are
abbrev pub ok_line : List Unit → List ℕ
ok_line us = codes "ok " ++ decimal (length us) ++ codes " units " ++ decimal (elements_in us) ++ codes " elements\n"

-- the line of a unit, without its end
abbrev pub unit_line : UnitKind → List ℕ
unit_line (kinds.Version text) = codes "version " ++ text
unit_line (kinds.Class class) = codes "class " ++ class.name ++ codes " < " ++ class.superclass
unit_line (kinds.GlobalVariable name) = codes "variable " ++ name
unit_line (kinds.GlobalConstant name) = codes "constant " ++ name
unit_line (kinds.Pool name) = codes "pool " ++ name
unit_line (kinds.PoolVariable pool name) = codes "variable " ++ pool ++ codes "." ++ name
unit_line (kinds.PoolConstant pool name) = codes "constant " ++ pool ++ codes "." ++ name
unit_line (kinds.Initializer target body) = codes "initializer " ++ target
unit_line (kinds.PoolInitializer pool name body) = codes "initializer " ++ pool ++ codes "." ++ name
unit_line (kinds.ProgramInitializer body) = codes "initializer"
unit_line (kinds.Method class method) = codes "method " ++ class ++ codes " " ++ method.selector
unit_line (kinds.ClassMethod class method) = codes "classMethod " ++ class ++ codes " " ++ method.selector
unit_line (kinds.Comment texts) = codes "comment"

-- `list`: one line for each unit, in order
abbrev pub listing : List Unit → List ℕ
listing [] = []
listing (u ∷ us) = unit_line u.kind ++ codes "\n" ++ listing us
