use Rattle.std.proofs.Common.{◌≡◌, ◌+◌, drop, length}
use Rattle.st_code.specs.Written.{named_messages, named_operands, named_statements}
use Rattle.st_compiler.specs.declared.draft.Status.TheVariants as status
use Rattle.st_compiler.specs.Walked.{chain_walked, cascade_walked, operands_walked, statements_walked}
use Rattle.st_compiler.proofs.draft.Draft.+walk.Given as goal

abbrev pub invariant-chain-loop-message : goal.invariant-chain-loop-message
invariant-chain-loop-message l = record {
  counted : l.left + l.message-index ≡ length l.chain;
  walked : chain_walked l.around l.direct l.kept (named_messages (drop l.message-index l.chain)) l.self ≡ chain_walked l.around l.fn.to_super l.kept (named_messages l.chain) l.fn.self;
}

abbrev pub invariant-cascade-loop-message : goal.invariant-cascade-loop-message
invariant-cascade-loop-message l = record {
  counted : l.left + l.message-index ≡ length l.cascade;
  walked : cascade_walked l.around l.to_super (named_messages (drop l.message-index l.cascade)) l.self ≡ cascade_walked l.around l.to_super (named_messages l.cascade) l.fn.self;
}

abbrev pub invariant-message-loop-argument : goal.invariant-message-loop-argument
invariant-message-loop-argument l = operands_walked l.around (named_operands (drop l.argument-index l.argument-items)) l.self ≡ operands_walked l.around (named_operands l.argument-items) l.initial.self

abbrev pub invariant-statements-loop-statement : goal.invariant-statements-loop-statement
invariant-statements-loop-statement l = statements_walked l.around l.kind l.status (named_statements (drop l.statement-index l.statements)) l.self ≡ statements_walked l.around l.kind status.Empty (named_statements l.statements) l.fn.self
