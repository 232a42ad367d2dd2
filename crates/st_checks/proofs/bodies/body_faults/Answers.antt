use Rattle.std.proofs.Common.{refl}
use Rattle.st_checks.specs.Faults.{written_of}
use Rattle.st_checks.specs.Views.{no_faults}
use Rattle.st_checks.specs.declared.bodies.Walk.{Walk}
use Rattle.st_checks.proofs.Walking.{walked-whole}
use Rattle.st_checks.proofs.bodies.body_faults.Goals as goal

pub returns : goal.returns
returns c =
    let start : Walk = record { alloc = c.args.alloc; view = c.in_ok-view.view; scopes = c.new-2.result; faults = no_faults } in
    walked-whole c.args.table.now (written_of c.args.seen) start c.body.new.self c.in_ok-view.ensures c.new-2.ensures refl c.in_ok-body.ensures
