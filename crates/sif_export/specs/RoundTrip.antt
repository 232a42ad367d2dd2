-- Reading the canonical text of a program gives a program that is the same.
use Rattle.std.specs.Prelude.{◌≡◌, ◌⊎◌, ℕ, Bool, true, false, ◌&&◌, nat_le, List, [], ◌∷◌, length}
use Rattle.std.specs.List.{list_all}
use Rattle.st_base.specs.declared.faults.Reason.{Reason}
use Rattle.st_base.specs.declared.faults.Reason.TheVariants as reason
use Rattle.sif_chunks.specs.Split.{Split}
use Rattle.sif_chunks.specs.Reading.{is_white, max_input, max_text}
use Rattle.sif_chunks.specs.Writing.{on_new_lines}
use Rattle.st_tree.specs.Same.{SameDefinition}
use Rattle.st_tree.specs.Units.{Units}
use Rattle.st_tree.specs.declared.units.Unit as unit
use Rattle.st_tree.specs.declared.units.Definition.{Definition}
use Rattle.sif_elements.specs.Reading.{Reads, Refuses}
use Rattle.sif_export.specs.ExportText.{element_texts, export_text}

-- none of the texts is white space alone, so each is an element's
abbrev pub AreElements : List (List ℕ) → Type 0
AreElements [] = Unit {0}
AreElements (text ∷ texts) = (is_white text ≡ false) × AreElements texts

-- some elements are these units
abbrev pub IsReadable : List unit.Unit → Type 0
IsReadable units = (texts : List (List ℕ)) × Units texts units × AreElements texts

abbrev pub definition : List unit.Unit → Definition
definition units = record { units = units }

-- The bytes are split into elements and white space behind the last, and the elements are a program that is the same.
pub record ReadsAs (bytes : List ℕ) (d : Definition) : Type 0 where
  pub texts : List (List ℕ)
  pub rest : List ℕ
  pub split : Split bytes texts rest
  pub elements : AreElements texts
  pub white : is_white rest ≡ true
  pub units : List unit.Unit
  pub read : Units texts units
  pub same : SameDefinition (definition units) d

-- the texts as they are read: each but the first behind the line's end that ended the one before it
abbrev pub on_lines : List (List ℕ) → List (List ℕ)
on_lines [] = []
on_lines (text ∷ texts) = text ∷ on_new_lines texts

abbrev pub is_short : List ℕ → Bool
is_short text = nat_le (length text) max_text

-- the text of a program is no longer than the longest input, and none of its elements than the longest element
unfoldable pub is_within : List unit.Unit → Bool
is_within units = nat_le (length (export_text units)) max_input && list_all is_short (on_lines (element_texts units))

-- an element or the input is too long
abbrev pub IsLength : Reason → Type 0
IsLength why = (why ≡ reason.ElementTooLong) ⊎ (why ≡ reason.InputTooLong)

-- What is read of a program's text: where it is within the limits, a program that is the same; else, that an element or
-- the input is too long.
abbrev pub Outcome : Bool → Definition → List ℕ → Type 0
Outcome true d bytes = (units : List unit.Unit) × Reads bytes units × SameDefinition (definition units) d
Outcome false d bytes = (number byte : ℕ) × (why : Reason) × Refuses bytes true number byte why × IsLength why
