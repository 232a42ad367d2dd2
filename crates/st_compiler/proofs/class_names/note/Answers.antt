use Rattle.std.proofs.Common.{◌∙◌, sym}
use Rattle.std.specs.HashMap.{get}
use Rattle.st_compiler.specs.Bytes.{same_bytes}
use Rattle.st_compiler.proofs.Scopes.{none-of, noted-present, noted-absent}
use Rattle.st_compiler.proofs.class_names.note.Goals as goal

pub returns-then-contains_key : goal.returns-then-contains_key
returns-then-contains_key c = noted-present c.args.places.now c.args.name c.args.place (sym c.contains_key.ensures ∙ c.if-contains_key.true)

pub returns : goal.returns
returns c =
    noted-absent c.args.places.now c.insert.new.self c.args.name c.args.place (none-of (get same_bytes c.args.places.now c.args.name) (sym c.contains_key.ensures ∙ c.if-contains_key.false)) c.in_ok-insert.ensures.updates.0
