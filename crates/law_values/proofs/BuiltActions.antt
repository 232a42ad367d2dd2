-- What messages and loops do at once leaves objects built: what is asked of an action and of a visit.
use Rattle.std.proofs.Common.{◌≡◌, ◌<◌, length, true}
use Rattle.st_code.specs.Program.{Program}
use Rattle.st_collections.specs.Actions.{Action, Changes, Makes, Raises, RaisesNew, Visit, Charges}
use Rattle.law_values.specs.BuiltObjects.{BuiltStore}
use Rattle.law_values.proofs.BuiltTable.{is_open}

-- a visit: the stores that come of it
abbrev pub VisitBuilt : Program → Visit → Type 0
VisitBuilt p (Charges cells s v) = BuiltStore p s × VisitBuilt p v
VisitBuilt p v = Unit {0}

-- what a message does at once: the store that it leaves, and the class of an exception that it makes
abbrev pub ActionBuilt : Program → Action → Type 0
ActionBuilt p (Changes s v) = BuiltStore p s
ActionBuilt p (Makes cells s v) = BuiltStore p s
ActionBuilt p (Raises s e) = BuiltStore p s
ActionBuilt p (RaisesNew class slots) = (is_open class ≡ true) × (class < length p.classes)
ActionBuilt p a = Unit {0}
