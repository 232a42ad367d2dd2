-- What a shaken file says of a run: what all of its units say, without the methods whose selector isn't needed.
use Rattle.std.specs.Prelude.{Bool, true, false, List, [], ◌∷◌}
use Rattle.st_code.specs.Texts.{Text}
use Rattle.st_code.specs.Named.{NamedUnit}
use Rattle.st_shake.specs.Needed.{needed}
use Rattle.st_shake.specs.Shaken.{is_kept}

abbrev pub kept_before : Bool → NamedUnit → List NamedUnit → List NamedUnit
kept_before true u units = u ∷ units
kept_before false u units = units

abbrev pub kept_units : List Text → List NamedUnit → List NamedUnit
kept_units selectors [] = []
kept_units selectors (u ∷ units) = kept_before (is_kept selectors u) u (kept_units selectors units)

abbrev pub shaken_units : List NamedUnit → List NamedUnit
shaken_units units = kept_units (needed units) units
