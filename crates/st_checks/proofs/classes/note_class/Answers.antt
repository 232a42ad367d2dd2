use Rattle.std.proofs.Common.{◌∙◌, sym}
use Rattle.std.specs.HashMap.{get}
use Rattle.st_checks.specs.NameSets.{same_bytes}
use Rattle.st_checks.proofs.ClassMaps.{gains-class}
use Rattle.st_checks.proofs.Variables.{none-of}
use Rattle.st_checks.proofs.classes.note_class.Goals as goal

pub returns : goal.returns
returns c =
    gains-class c.args.classes.now c.insert.new.self c.args.unit.now c.in-Class.class c.as_bytes-name.result c.in-Class.is c.as_bytes-name.ensures
    (none-of (get same_bytes c.args.classes.now c.as_bytes-name.result) (sym c.contains_key.ensures ∙ c.if-contains_key.false))
    (rw (← c.in_ok-names.ensures) c.in_ok-insert.ensures.updates.0)
