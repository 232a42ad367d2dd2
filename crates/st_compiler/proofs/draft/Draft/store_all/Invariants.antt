use Rattle.std.proofs.Common.{◌≡◌, ◌≤◌, drop, map, length}
use Rattle.st_code.specs.Written.{name_text}
use Rattle.st_compiler.specs.Walked.{with_steps, stores}
use Rattle.st_compiler.proofs.draft.Draft.store_all.Given as goal

abbrev pub invariant-loop-left : goal.invariant-loop-left
invariant-loop-left l = record {
  stored : l.self ≡ with_steps l.fn.self (stores l.around (map name_text (drop l.left l.names)));
  within : l.left ≤ length l.names;
}

abbrev pub decreases-loop-left : goal.decreases-loop-left
decreases-loop-left l = l.left
