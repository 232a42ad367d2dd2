use Rattle.std.proofs.Common.{◌≡◌, ◌++◌, drop}
use Rattle.st_code.specs.Written.{named_operands, named_messages, named_statements}
use Rattle.st_literals.specs.Gathered.{operands_literals, messages_literals, statements_literals, seen_literals}
use Rattle.st_literals.proofs.gather.+gather.Given as goal

abbrev pub invariant-gather_operands-loop-operand : goal.invariant-gather_operands-loop-operand
invariant-gather_operands-loop-operand l = seen_literals l.all ++ operands_literals (named_operands (drop l.operand-index l.operands)) ≡ seen_literals l.fn.all ++ operands_literals (named_operands l.operands)

abbrev pub invariant-gather_messages-loop-message : goal.invariant-gather_messages-loop-message
invariant-gather_messages-loop-message l = seen_literals l.all ++ messages_literals (named_messages (drop l.message-index l.messages)) ≡ seen_literals l.fn.all ++ messages_literals (named_messages l.messages)

abbrev pub invariant-gather_statements-loop-statement : goal.invariant-gather_statements-loop-statement
invariant-gather_statements-loop-statement l = seen_literals l.all ++ statements_literals (named_statements (drop l.statement-index l.statements)) ≡ seen_literals l.fn.all ++ statements_literals (named_statements l.statements)
