use Rattle.std.proofs.Common.{◌≡◌, drop}
use Rattle.st_code.specs.Resolved.{meant_from}
use Rattle.st_compiler.proofs.around.Around.meaning.Given as goal

abbrev pub invariant-loop-scope : goal.invariant-loop-scope
invariant-loop-scope l = record {
  counted : l.up ≡ l.scope-index;
  passed : meant_from l.self.names l.self.class l.self.side 0 l.scope-items l.text ≡ meant_from l.self.names l.self.class l.self.side l.up (drop l.scope-index l.scope-items) l.text;
}
