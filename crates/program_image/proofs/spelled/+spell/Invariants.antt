use Rattle.std.proofs.Common.{◌≡◌, drop}
use Rattle.st_code.specs.Written.{named_operands, named_messages, named_statements}
use Rattle.program_image.specs.Spelled.{spelled, operands_texts, messages_texts, statements_texts}
use Rattle.program_image.proofs.spelled.+spell.Given as goal

abbrev pub invariant-spell_operands-loop-operand : goal.invariant-spell_operands-loop-operand
invariant-spell_operands-loop-operand l = spelled l.names (operands_texts (named_operands (drop l.operand-index l.operand-items))) ≡ spelled l.fn.names (operands_texts (named_operands l.operand-items))

abbrev pub invariant-spell_messages-loop-message : goal.invariant-spell_messages-loop-message
invariant-spell_messages-loop-message l = spelled l.names (messages_texts (named_messages (drop l.message-index l.message-items))) ≡ spelled l.fn.names (messages_texts (named_messages l.message-items))

abbrev pub invariant-spell_statements-loop-statement : goal.invariant-spell_statements-loop-statement
invariant-spell_statements-loop-statement l = spelled l.names (statements_texts (named_statements (drop l.statement-index l.statement-items))) ≡ spelled l.fn.names (statements_texts (named_statements l.statement-items))
