-- Two programs have one text exactly where they are the same.
use Rattle.std.specs.Prelude.{◌≡◌, ◌↔◌}
use Rattle.st_tree.specs.Same.{SameDefinition}
use Rattle.st_tree.specs.declared.units.Definition.{Definition}
use Rattle.sif_export.specs.ExportText.{export_text}
use Rattle.sif_export.specs.RoundTrip.{IsReadable}

-- readable programs have equal texts exactly where they are the same
abbrev pub IsCanonical : Definition → Definition → Type 0
IsCanonical a b = IsReadable a.units → IsReadable b.units → (export_text a.units ≡ export_text b.units) ↔ SameDefinition a b
