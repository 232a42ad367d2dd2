-- The objects that stand before a run begins: the literals of the program, and behind them the texts of troubles. They cost nothing and are read-only. Source: ANSI 3 (literals).
use Rattle.std.specs.Prelude.{List, [], map, length, true, None}
use Rattle.object_heap.specs.declared.value.Value.{Value}
use Rattle.object_heap.specs.Store.{Object}
use Rattle.st_base.specs.Troubles.{trouble_texts}
use Rattle.st_code.specs.Texts.{Text}
use Rattle.st_code.specs.BuiltIns.{string_class, array_class}

abbrev pub literal_string : Text → Object
literal_string text = record { class = string_class; slots = []; bytes = text; capacity = 0; read_only = true; closure = None }

abbrev pub literal_array : List Value → Object
literal_array items = record { class = array_class; slots = items; bytes = []; capacity = length items; read_only = true; closure = None }

-- one String for each trouble, in the order of their table
unfoldable pub trouble_literals : List Object
trouble_literals = map literal_string trouble_texts
