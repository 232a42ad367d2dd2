-- What stands at an index of a collection, unless the heap wanted memory to read it.
use Rattle.std.specs.Prelude.{ℤ, Bool, true, false, Option, Some, None, if◌then◌else◌}
use Rattle.object_heap.specs.declared.value.Value.{Value}
use Rattle.object_heap.specs.declared.value.Value.TheVariants.{Integer}
use Rattle.object_heap.specs.Store.{Store}
use Rattle.st_code.specs.Program.{Program}
use Rattle.st_collections.specs.declared.answer.Built.{Built}
use Rattle.st_collections.specs.Kinds.{element, natural_of}
use Rattle.st_loops.specs.declared.places.Place.{Place}
use Rattle.st_loops.specs.Visits.{is_place}

-- what an answer of `at:` says
abbrev pub place_told : Built → Place
place_told (Built.Value v) = Place.Element v
place_told (Built.Trouble t) = Place.Past
place_told Built.IntegerLimit = Place.OutOfMemory
place_told (Built.Cells used charge) = Place.OutOfMemory
place_told Built.OutOfMemory = Place.OutOfMemory

-- the element at an index
abbrev pub place_at : Program → Store → Value → ℤ → Place
place_at p s r i = if is_place p s r i then Place.Element (element p s r (natural_of i)) else Place.Past

abbrev pub is_lost : Place → Bool
is_lost Place.OutOfMemory = true
is_lost (Place.Element v) = false
is_lost Place.Past = false

-- the first where memory was wanted, else the second
abbrev pub unless_lost : {A : Type 0} → Place → A → A → A
unless_lost place lost other = if is_lost place then lost else other

-- the number that an answer is
abbrev pub number_told : Built → Option ℤ
number_told (Built.Value (Integer n)) = Some n
number_told answer = None
