use Rattle.st_compiler.proofs.Chains.{ended-not-empty}
use Rattle.st_compiler.proofs.draft.Draft.end_chain.Goals as goal

pub returns-then-not-is_empty : goal.returns-then-not-is_empty
returns-then-not-is_empty c = ended-not-empty c.args.to_super c.args.kept c.args.chain.now c.args.self.now c.is_empty.result c.is_empty.ensures c.if-not-is_empty.true
