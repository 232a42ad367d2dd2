use Rattle.std.proofs.Common.{◌≡◌, ◌<◌, ◌∙◌, length, get_or, take, sym, arith}
use Rattle.std.proofs.lemmas.List.{take_more}
use Rattle.std.specs.HashMap.{get}
use Rattle.st_checks.specs.NameSets.{same_bytes}
use Rattle.st_tree.specs.declared.tree.Name.{Name}
use Rattle.st_checks.proofs.Variables.{none-of, so_far-present, so_far-absent}
use Rattle.st_checks.proofs.scopes.declare.Goals as goal
use Rattle.st_checks.proofs.scopes.declare.Goals.{then-contains_key, else-contains_key+in_ok-insert}

pub loop-name-preserved : goal.loop-name-preserved
loop-name-preserved c =
    let n : Name = c.name-item.result in
    let is : n ≡ get_or c.args.names.now c.loop-name.name-index n = c.name-item.is in
    let low : c.loop-name.name-index < length c.args.names.now = omega arith in
    elim c.if-contains_key.branch [
      | then-contains_key w ↦
          rw (take_more c.args.names.now c.loop-name.name-index n low, ← is, w.variables-is)
          (so_far-present c.args.variables.now c.loop-name.variables (take c.loop-name.name-index c.args.names.now) c.args.variable n c.as_bytes-text.result c.args.repeated.now c.loop-name.repeated c.if-contains_key.repeated c.loop-name.invariant c.as_bytes-text.ensures (sym c.contains_key.ensures ∙ w.if-contains_key.true) (w.repeated-is ∙ w.note_place.ensures))
      | else-contains_key+in_ok-insert w ↦
          rw (take_more c.args.names.now c.loop-name.name-index n low, ← is, w.variables-is, w.repeated-is)
          (so_far-absent c.args.variables.now c.loop-name.variables w.insert.new.self (take c.loop-name.name-index c.args.names.now) c.args.variable n c.as_bytes-text.result c.args.repeated.now c.loop-name.repeated c.loop-name.invariant c.as_bytes-text.ensures (none-of (get same_bytes c.loop-name.variables c.as_bytes-text.result) (sym c.contains_key.ensures ∙ w.if-contains_key.false)) w.in_ok-insert.ensures.updates.0)
    ]
