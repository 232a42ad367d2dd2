-- The places of an element, and how far tokens fill them, as the code has them.
use Rattle.st_tree.specs.Headers as headers
use Rattle.sif_elements.specs.declared.rows.Slot.{Slot}
use Rattle.sif_elements.specs.declared.rows.Slot.TheVariants as slot
use Rattle.sif_elements.specs.declared.filling.Filling.{Filling}
use Rattle.sif_elements.specs.declared.filling.Filling.TheVariants as filling

abbrev pub place_of : Slot → headers.Slot
place_of (slot.Word w) = headers.Word w.now
place_of slot.AnyString = headers.AnyString
place_of slot.NameString = headers.NameString
place_of slot.NamesString = headers.NamesString
place_of slot.Way = headers.Way

abbrev pub walk_of : Filling → headers.Walk
walk_of filling.Filled = headers.Filled
walk_of (filling.Stuck byte) = headers.Stuck byte
walk_of filling.Short = headers.Short
