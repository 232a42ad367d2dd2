-- What the units of a file are to a run: names, classes, variables and methods by number, and lookup among them. Source: ANSI 3.3 and 4.
use Rattle.std.specs.Prelude.{◌≡◌, ℕ, suc, List, [], ◌∷◌, ◌++◌, map, length, Option, Some, None}
use Rattle.std.specs.Option.{option_map}
use Rattle.st_tree.specs.declared.units.Unit.{Unit}
use Rattle.st_code.specs.Texts.{Text}
use Rattle.st_code.specs.Program.{Program, MethodRow, OfInstance, OfClass, OfMeta, Side as OnSide, name_at}
use Rattle.st_code.specs.Named.{NamedMethod, NamedUnit, MethodUnit, ClassMethodUnit}
use Rattle.st_code.specs.Written.{named_unit, named_units}
use Rattle.st_code.specs.Resolved.{Names, class_in, number_or_last}
use Rattle.st_code.specs.Definitions.{or_zero, names_of, class_row}
use Rattle.st_code.specs.BuiltIns.{message_number, numbered_row}
use Rattle.st_code.specs.Lookup.{Level, level, walk, method_at, Found as RowFound, UserMethod, BuiltIn as BuiltInRow}
use Rattle.st_base.specs.declared.builtins.MethodSide.{MethodSide}
use Rattle.st_base.specs.declared.builtins.MethodSide.TheVariants as method_side
use Rattle.st_base.specs.BuiltIns.{MessageRow, messages}
use Rattle.program_image.specs.Spelled.{names_in}
use Rattle.program_image.specs.Tables.{HasFirsts}
use Rattle.program_image.specs.declared.table.Key.{Key}
use Rattle.program_image.specs.declared.table.Entry.{Entry}
use Rattle.program_image.specs.declared.table.Side.{Side}
use Rattle.program_image.specs.declared.table.Side.TheVariants as side
use Rattle.program_image.specs.declared.table.Found.{Found}
use Rattle.program_image.specs.declared.table.Found.TheVariants as found

-- all that names stand for
unfoldable pub image_names : List Unit → Names
image_names units = names_of (names_in (named_units units)) (named_units units)

-- ---- methods

-- the method that a unit defines, by the place of the unit in the file
abbrev pub method_of : Names → (place : ℕ) → OnSide → Text → NamedMethod → MethodRow
method_of x place on class m = record { class = or_zero (class_in 0 x.classes class); side = on; selector = number_or_last x.names m.selector; code = place }

abbrev pub method_here : Names → ℕ → Option NamedUnit → Option MethodRow
method_here x place (Some (MethodUnit class m)) = Some (method_of x place OfInstance class m)
method_here x place (Some (ClassMethodUnit class m)) = Some (method_of x place OfClass class m)
method_here x place u = None

abbrev pub with_method : Option MethodRow → List MethodRow → List MethodRow
with_method None methods = methods
with_method (Some m) methods = m ∷ methods

abbrev pub methods_from : Names → ℕ → List Unit → List MethodRow
methods_from x place [] = []
methods_from x place (u ∷ units) = with_method (method_here x place (named_unit u)) (methods_from x (suc place) units)

unfoldable pub image_methods : List Unit → List MethodRow
image_methods units = methods_from (image_names units) 0 units

-- a program of these names, classes and methods, where a method's code is the place of its unit
unfoldable pub image_program : List Unit → Program
image_program units =
    record {
      names = (image_names units).names;
      classes = map class_row (image_names units).classes;
      methods = image_methods units;
      bodies = [];
      initializers = [];
      literals = [];
      trouble_place = 0;
      variables = length (image_names units).shared;
      step_limit = 0;
      depth_limit = 0;
      cell_limit = 0;
    }

-- ---- lookup

abbrev pub on_side : Side → OnSide
on_side side.Instance = OfInstance
on_side side.Class = OfClass
on_side side.Meta = OfMeta

-- a method of the file, or the built-in message with its number
abbrev pub found_here : List Unit → Level → ℕ → Option ℕ → Option Found
found_here units l selector (Some place) = Some (found.User place)
found_here units l selector None = option_map found.BuiltIn (message_number l.class l.side (name_at (image_program units) selector))

abbrev pub image_found_at : List Unit → Level → ℕ → Option Found
image_found_at units l selector = found_here units l selector (method_at (image_methods units) l selector)

abbrev pub image_found_in : List Unit → List Level → ℕ → Option Found
image_found_in units [] selector = None
image_found_in units (l ∷ levels) selector = elim (image_found_at units l selector) [ Some f ↦ Some f | None ↦ image_found_in units levels selector ]

-- what the first class and side on the walk that has the selector has for it
unfoldable pub image_lookup : List Unit → Side → (class selector : ℕ) → Option Found
image_lookup units on class selector = image_found_in units (walk (image_program units) (level (on_side on) class)) selector

-- what is found is what lookup finds by texts, a built-in message by what it does
abbrev pub as_row : Found → RowFound
as_row (found.User place) = UserMethod place
as_row (found.BuiltIn number) = BuiltInRow (numbered_row number)

-- ---- the table of methods

abbrev pub off_side : OnSide → Side
off_side OfInstance = side.Instance
off_side OfClass = side.Class
off_side OfMeta = side.Meta

abbrev pub key_at : (selector : ℕ) → Side → (class : ℕ) → Key
key_at selector on class = record { selector = selector; side = on; class = class }

abbrev pub method_entry : MethodRow → Entry
method_entry m = record { key = key_at m.selector (off_side m.side) m.class; found = found.User m.code }

abbrev pub message_side : MethodSide → Side
message_side method_side.Instance = side.Instance
message_side method_side.Class = side.Class

abbrev pub message_entry : List Text → ℕ → MessageRow → Entry
message_entry names number m = record { key = key_at (number_or_last names m.selector) (message_side m.side) m.class; found = found.BuiltIn number }

abbrev pub message_entries : List Text → ℕ → List MessageRow → List Entry
message_entries names number [] = []
message_entries names number (m ∷ messages) = message_entry names number m ∷ message_entries names (suc number) messages

-- the methods of the file in the order of their units, and the built-in messages behind them
unfoldable pub entries_with : Names → List Unit → List Entry
entries_with x units = map method_entry (methods_from x 0 units) ++ message_entries x.names 0 messages

-- what an image holds: what the units declare, and a table of their methods
pub record IsImage (units : List Unit) (names : Names) (table : List Entry) : Type 0 where
  pub declared : names ≡ image_names units
  pub firsts : HasFirsts (entries_with (image_names units) units) table
