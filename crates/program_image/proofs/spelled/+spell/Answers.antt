use Rattle.std.proofs.Common.{List, refl, ap, ◌∙◌}
use Rattle.st_tree.specs.declared.tree.Expr.{out-Expr}
use Rattle.st_tree.specs.declared.tree.Message.{Message, out-Message}
use Rattle.st_tree.specs.declared.tree.Statement.{Statement}
use Rattle.st_tree.specs.declared.tree.Operand.{Operand, out-Operand}
use Rattle.st_code.specs.Written.{named_primary, named_statement, named_expr, named_message, named_operand, named_messages, named_operands, named_statements}
use Rattle.st_code.proofs.Written.{message-out, operand-out, expr-out, body-out, block-out, primary-variable, primary-self, primary-super, primary-literal, primary-block, primary-paren, statement-value, statement-return}
use Rattle.program_image.specs.Spelled.{spelled, primary_texts, operand_texts, operands_texts, messages_texts, message_texts, expr_texts, statements_texts}
use Rattle.program_image.proofs.Spelling.{spelled-one, spelled-both, spelled-then, spelled-next, spelled-end}
use Rattle.program_image.proofs.spelled.+spell.Goals as goal

pub spell_block-returns : goal.spell_block-returns
spell_block-returns t c = rw (block-out c.args.block.now) c.spell_body.ensures

pub spell_body-returns : goal.spell_body-returns
spell_body-returns t c = rw (body-out c.args.body.now) c.spell_statements.ensures

pub spell_expr-returns : goal.spell_expr-returns
spell_expr-returns t c = spelled-then c.spell_messages.result c.args.names.now c.spell_operand.new.names c.spell_messages.new.names (messages_texts (named_messages (out-Expr c.args.expr.now).cascade)) (expr_texts (named_expr c.args.expr.now)) c.spell_messages.ensures
    (spelled-both c.args.names.now c.spell_operand.new.names (operand_texts (named_operand (out-Expr c.args.expr.now).operand)) (messages_texts (named_messages (out-Expr c.args.expr.now).cascade)) (expr_texts (named_expr c.args.expr.now)) c.in_ok-spell_operand.ensures (ap expr_texts (expr-out c.args.expr.now)))

pub spell_operand-returns : goal.spell_operand-returns
spell_operand-returns t c = spelled-then c.spell_messages.result c.args.names.now c.spell_primary.new.names c.spell_messages.new.names (messages_texts (named_messages (out-Operand c.args.operand.now).chain)) (operand_texts (named_operand c.args.operand.now)) c.spell_messages.ensures
    (spelled-both c.args.names.now c.spell_primary.new.names (primary_texts (named_primary (out-Operand c.args.operand.now).primary)) (messages_texts (named_messages (out-Operand c.args.operand.now).chain)) (operand_texts (named_operand c.args.operand.now)) c.in_ok-spell_primary.ensures (ap operand_texts (operand-out c.args.operand.now)))

pub spell_message-returns : goal.spell_message-returns
spell_message-returns t c = spelled-then c.spell_operands.result c.args.names.now c.spell.new.names c.spell_operands.new.names (operands_texts (named_operands (out-Message c.args.message.now).arguments)) (message_texts (named_message c.args.message.now)) c.spell_operands.ensures
    (spelled-one c.args.names.now c.spell.new.names (out-Message c.args.message.now).selector c.as_bytes.result.now (operands_texts (named_operands (out-Message c.args.message.now).arguments)) (message_texts (named_message c.args.message.now)) c.in_ok-spell.ensures c.as_bytes.ensures (ap message_texts (message-out c.args.message.now)))

pub spell_primary-returns-in-Variable : goal.spell_primary-returns-in-Variable
spell_primary-returns-in-Variable t c = rw (c.in-Variable.is, primary-variable c.in-Variable.field-0) refl

pub spell_primary-returns-in-SelfValue : goal.spell_primary-returns-in-SelfValue
spell_primary-returns-in-SelfValue t c = rw (c.in-SelfValue.is, primary-self) refl

pub spell_primary-returns-in-SuperValue : goal.spell_primary-returns-in-SuperValue
spell_primary-returns-in-SuperValue t c = rw (c.in-SuperValue.is, primary-super) refl

pub spell_primary-returns-in-Literal : goal.spell_primary-returns-in-Literal
spell_primary-returns-in-Literal t c = rw (c.in-Literal.is, primary-literal c.in-Literal.literal) c.spell_literal.ensures

pub spell_primary-returns-in-Block : goal.spell_primary-returns-in-Block
spell_primary-returns-in-Block t c = rw (c.in-Block.is, primary-block c.in-Block.block) c.spell_block.ensures

pub spell_primary-returns-in-Paren : goal.spell_primary-returns-in-Paren
spell_primary-returns-in-Paren t c = rw (c.in-Paren.is, primary-paren c.in-Paren.expr, ← c.get.ensures) c.spell_expr.ensures

pub spell_statement-returns-in-Value : goal.spell_statement-returns-in-Value
spell_statement-returns-in-Value t c = rw (c.in-Value.is, statement-value c.in-Value.expr) c.spell_expr.ensures

pub spell_statement-returns-in-Return : goal.spell_statement-returns-in-Return
spell_statement-returns-in-Return t c = rw (c.in-Return.is, statement-return c.in-Return.expr) c.spell_expr-in-Return.ensures

pub spell_messages-returns : goal.spell_messages-returns
spell_messages-returns t c =
    spelled-end (λ (xs : List Message). messages_texts (named_messages xs)) refl c.loop-message.names (spelled c.args.names.now (messages_texts (named_messages c.as_slice-message-items.result.now))) c.as_slice-message-items.result.now c.loop-message.message-index c.loop-message-test.false c.loop-message.invariant
    ∙ ap (λ (xs : List Message). spelled c.args.names.now (messages_texts (named_messages xs))) c.as_slice-message-items.ensures

pub spell_messages-loop-message-preserved : goal.spell_messages-loop-message-preserved
spell_messages-loop-message-preserved t c =
    spelled-next (λ (xs : List Message). messages_texts (named_messages xs)) (λ (x : Message). message_texts (named_message x)) (λ x xs. refl) c.loop-message.names c.spell_message.new.names (spelled c.args.names.now (messages_texts (named_messages c.as_slice-message-items.result.now))) c.as_slice-message-items.result.now c.loop-message.message-index c.message-item.result c.message-item.is c.loop-message-test.true c.loop-message.invariant c.in_ok-spell_message.ensures

pub spell_operands-returns : goal.spell_operands-returns
spell_operands-returns t c =
    spelled-end (λ (xs : List Operand). operands_texts (named_operands xs)) refl c.loop-operand.names (spelled c.args.names.now (operands_texts (named_operands c.as_slice-operand-items.result.now))) c.as_slice-operand-items.result.now c.loop-operand.operand-index c.loop-operand-test.false c.loop-operand.invariant
    ∙ ap (λ (xs : List Operand). spelled c.args.names.now (operands_texts (named_operands xs))) c.as_slice-operand-items.ensures

pub spell_operands-loop-operand-preserved : goal.spell_operands-loop-operand-preserved
spell_operands-loop-operand-preserved t c =
    spelled-next (λ (xs : List Operand). operands_texts (named_operands xs)) (λ (x : Operand). operand_texts (named_operand x)) (λ x xs. refl) c.loop-operand.names c.spell_operand.new.names (spelled c.args.names.now (operands_texts (named_operands c.as_slice-operand-items.result.now))) c.as_slice-operand-items.result.now c.loop-operand.operand-index c.operand-item.result c.operand-item.is c.loop-operand-test.true c.loop-operand.invariant c.in_ok-spell_operand.ensures

pub spell_statements-returns : goal.spell_statements-returns
spell_statements-returns t c =
    spelled-end (λ (xs : List Statement). statements_texts (named_statements xs)) refl c.loop-statement.names (spelled c.args.names.now (statements_texts (named_statements c.as_slice-statement-items.result.now))) c.as_slice-statement-items.result.now c.loop-statement.statement-index c.loop-statement-test.false c.loop-statement.invariant
    ∙ ap (λ (xs : List Statement). spelled c.args.names.now (statements_texts (named_statements xs))) c.as_slice-statement-items.ensures

pub spell_statements-loop-statement-preserved : goal.spell_statements-loop-statement-preserved
spell_statements-loop-statement-preserved t c =
    spelled-next (λ (xs : List Statement). statements_texts (named_statements xs)) (λ (x : Statement). expr_texts (named_statement x).expr) (λ x xs. refl) c.loop-statement.names c.spell_statement.new.names (spelled c.args.names.now (statements_texts (named_statements c.as_slice-statement-items.result.now))) c.as_slice-statement-items.result.now c.loop-statement.statement-index c.statement-item.result c.statement-item.is c.loop-statement-test.true c.loop-statement.invariant c.in_ok-spell_statement.ensures
