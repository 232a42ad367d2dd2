use Rattle.std.proofs.Common.{List, ◌++◌, refl, ap, sym, ◌∙◌}
use Rattle.std.proofs.lemmas.List.{append-nil}
use Rattle.st_tree.specs.declared.tree.Expr.{out-Expr}
use Rattle.st_tree.specs.declared.tree.Message.{Message}
use Rattle.st_tree.specs.declared.tree.Statement.{Statement}
use Rattle.st_tree.specs.declared.tree.Operand.{Operand, out-Operand}
use Rattle.st_code.specs.Written.{named_primary, named_statement, named_expr, named_message, named_operand, named_messages, named_operands, named_statements}
use Rattle.st_code.proofs.Written.{message-out, operand-out, expr-out, body-out, block-out, primary-variable, primary-self, primary-super, primary-literal, primary-block, primary-paren, statement-value, statement-return}
use Rattle.st_literals.specs.Gathered.{seen_literals, primary_literals, operand_literals, operands_literals, messages_literals, message_literals, expr_literals, statements_literals}
use Rattle.st_literals.proofs.Gathering.{gathered-both, gathered-then, gathered-next, gathered-end}
use Rattle.st_literals.proofs.gather.+gather.Goals as goal

pub gather_block-returns : goal.gather_block-returns
gather_block-returns t c = rw (block-out c.args.block.now) c.gather_body.ensures

pub gather_body-returns : goal.gather_body-returns
gather_body-returns t c = rw (body-out c.args.body.now, ← c.as_slice.ensures) c.gather_statements.ensures

pub gather_message-returns : goal.gather_message-returns
gather_message-returns t c = rw (message-out c.args.message.now, ← c.as_slice.ensures) c.gather_operands.ensures

pub gather_expr-returns : goal.gather_expr-returns
gather_expr-returns t c = gathered-then c.gather_messages.result (seen_literals c.args.all.now) (seen_literals c.gather_operand.new.all) (seen_literals c.gather_messages.new.all) (messages_literals (named_messages c.as_slice.result.now)) (expr_literals (named_expr c.args.expr.now)) c.gather_messages.ensures
    (gathered-both (seen_literals c.args.all.now) (seen_literals c.gather_operand.new.all) (operand_literals (named_operand (out-Expr c.args.expr.now).operand)) (messages_literals (named_messages c.as_slice.result.now)) (expr_literals (named_expr c.args.expr.now)) c.in_ok-gather_operand.ensures
    (ap expr_literals (expr-out c.args.expr.now) ∙ ap (λ (ms : List Message). operand_literals (named_operand (out-Expr c.args.expr.now).operand) ++ messages_literals (named_messages ms)) (sym c.as_slice.ensures)))

pub gather_operand-returns : goal.gather_operand-returns
gather_operand-returns t c = gathered-then c.gather_messages.result (seen_literals c.args.all.now) (seen_literals c.gather_primary.new.all) (seen_literals c.gather_messages.new.all) (messages_literals (named_messages c.as_slice.result.now)) (operand_literals (named_operand c.args.operand.now)) c.gather_messages.ensures
    (gathered-both (seen_literals c.args.all.now) (seen_literals c.gather_primary.new.all) (primary_literals (named_primary (out-Operand c.args.operand.now).primary)) (messages_literals (named_messages c.as_slice.result.now)) (operand_literals (named_operand c.args.operand.now)) c.in_ok-gather_primary.ensures
    (ap operand_literals (operand-out c.args.operand.now) ∙ ap (λ (ms : List Message). primary_literals (named_primary (out-Operand c.args.operand.now).primary) ++ messages_literals (named_messages ms)) (sym c.as_slice.ensures)))

pub gather_primary-returns-in-Variable : goal.gather_primary-returns-in-Variable
gather_primary-returns-in-Variable t c = rw (c.in-Variable.is, primary-variable c.in-Variable.field-0) (sym (append-nil _))

pub gather_primary-returns-in-SelfValue : goal.gather_primary-returns-in-SelfValue
gather_primary-returns-in-SelfValue t c = rw (c.in-SelfValue.is, primary-self) (sym (append-nil _))

pub gather_primary-returns-in-SuperValue : goal.gather_primary-returns-in-SuperValue
gather_primary-returns-in-SuperValue t c = rw (c.in-SuperValue.is, primary-super) (sym (append-nil _))

pub gather_primary-returns-in-Literal : goal.gather_primary-returns-in-Literal
gather_primary-returns-in-Literal t c = rw (c.in-Literal.is, primary-literal c.in-Literal.literal) c.gather_literal.ensures

pub gather_primary-returns-in-Block : goal.gather_primary-returns-in-Block
gather_primary-returns-in-Block t c = rw (c.in-Block.is, primary-block c.in-Block.block) c.gather_block.ensures

pub gather_primary-returns-in-Paren : goal.gather_primary-returns-in-Paren
gather_primary-returns-in-Paren t c = rw (c.in-Paren.is, primary-paren c.in-Paren.expr, ← c.get.ensures) c.gather_expr.ensures

pub gather_statement-returns-in-Value : goal.gather_statement-returns-in-Value
gather_statement-returns-in-Value t c = rw (c.in-Value.is, statement-value c.in-Value.expr) c.gather_expr.ensures

pub gather_statement-returns-in-Return : goal.gather_statement-returns-in-Return
gather_statement-returns-in-Return t c = rw (c.in-Return.is, statement-return c.in-Return.expr) c.gather_expr-in-Return.ensures

pub gather_messages-returns : goal.gather_messages-returns
gather_messages-returns t c =
    gathered-end (λ (xs : List Message). messages_literals (named_messages xs)) refl (seen_literals c.loop-message.all) (seen_literals c.args.all.now ++ messages_literals (named_messages c.args.messages.now)) c.args.messages.now c.loop-message.message-index c.loop-message-test.false c.loop-message.invariant

pub gather_messages-loop-message-preserved : goal.gather_messages-loop-message-preserved
gather_messages-loop-message-preserved t c =
    gathered-next (λ (xs : List Message). messages_literals (named_messages xs)) (λ (x : Message). message_literals (named_message x)) (λ x xs. refl) (seen_literals c.loop-message.all) (seen_literals c.gather_message.new.all) (seen_literals c.args.all.now ++ messages_literals (named_messages c.args.messages.now)) c.args.messages.now c.loop-message.message-index c.message-item.result c.message-item.is c.loop-message-test.true c.loop-message.invariant c.in_ok-gather_message.ensures

pub gather_operands-returns : goal.gather_operands-returns
gather_operands-returns t c =
    gathered-end (λ (xs : List Operand). operands_literals (named_operands xs)) refl (seen_literals c.loop-operand.all) (seen_literals c.args.all.now ++ operands_literals (named_operands c.args.operands.now)) c.args.operands.now c.loop-operand.operand-index c.loop-operand-test.false c.loop-operand.invariant

pub gather_operands-loop-operand-preserved : goal.gather_operands-loop-operand-preserved
gather_operands-loop-operand-preserved t c =
    gathered-next (λ (xs : List Operand). operands_literals (named_operands xs)) (λ (x : Operand). operand_literals (named_operand x)) (λ x xs. refl) (seen_literals c.loop-operand.all) (seen_literals c.gather_operand.new.all) (seen_literals c.args.all.now ++ operands_literals (named_operands c.args.operands.now)) c.args.operands.now c.loop-operand.operand-index c.operand-item.result c.operand-item.is c.loop-operand-test.true c.loop-operand.invariant c.in_ok-gather_operand.ensures

pub gather_statements-returns : goal.gather_statements-returns
gather_statements-returns t c =
    gathered-end (λ (xs : List Statement). statements_literals (named_statements xs)) refl (seen_literals c.loop-statement.all) (seen_literals c.args.all.now ++ statements_literals (named_statements c.args.statements.now)) c.args.statements.now c.loop-statement.statement-index c.loop-statement-test.false c.loop-statement.invariant

pub gather_statements-loop-statement-preserved : goal.gather_statements-loop-statement-preserved
gather_statements-loop-statement-preserved t c =
    gathered-next (λ (xs : List Statement). statements_literals (named_statements xs)) (λ (x : Statement). expr_literals (named_statement x).expr) (λ x xs. refl) (seen_literals c.loop-statement.all) (seen_literals c.gather_statement.new.all) (seen_literals c.args.all.now ++ statements_literals (named_statements c.args.statements.now)) c.args.statements.now c.loop-statement.statement-index c.statement-item.result c.statement-item.is c.loop-statement-test.true c.loop-statement.invariant c.in_ok-gather_statement.ensures
