use Rattle.std.proofs.Common.{sym, map}
use Rattle.st_checks.specs.Bodies.{names_in_message, names_in_operand, names_in_statement}
use Rattle.st_checks.proofs.Naming.{body_out, block_out, message_out, variable_in, self_in, super_in, literal_in, block_in, paren_in, value_in, return_in}
use Rattle.st_checks.proofs.Walking.{noted-nothing, so_far-none, so_far-more, so_far-all, walked-body, walked-expr, walked-operand}
use Rattle.st_checks.proofs.bodies.Walk.+walk.Goals as goal

pub block-returns : goal.block-returns
block-returns t c = rw (block_out c.args.block.now c.args.self.now.scopes, ← c.as_slice.ensures) c.body.ensures

pub body-returns : goal.body-returns
body-returns t c = rw (body_out c.args.body.now c.args.parameters.now c.args.self.now.scopes, ← c.as_slice.ensures, ← c.as_slice-2.ensures) (walked-body c.args.self.now c.enter.new.self c.statements.new.self c.leave.new.self (record { parameters = c.args.parameters.now; temporaries = c.as_slice.result.now }) (map names_in_statement c.as_slice-2.result.now) c.in_ok-enter.ensures c.in_ok-statements.ensures c.leave.ensures)

pub expr-returns : goal.expr-returns
expr-returns t c = walked-expr c.args.expr.now c.args.self.now c.assign_all.new.self c.operand.new.self c.messages.new.self (rw (← c.as_slice.ensures) c.assign_all.ensures) c.in_ok-operand.ensures (rw (← c.as_slice-2.ensures) c.in_ok-messages.ensures)

pub operand-returns : goal.operand-returns
operand-returns t c = walked-operand c.args.operand.now c.args.self.now c.primary.new.self c.messages.new.self c.in_ok-primary.ensures (rw (← c.as_slice.ensures) c.in_ok-messages.ensures)

pub message-loop-argument-init : goal.message-loop-argument-init
message-loop-argument-init t c = so_far-none names_in_operand c.args.self.now

pub message-loop-argument-preserved : goal.message-loop-argument-preserved
message-loop-argument-preserved t c = so_far-more names_in_operand c.args.self.now c.loop-argument.self c.operand.new.self c.as_slice-argument-items.result.now c.loop-argument.argument-index c.argument-item.result c.loop-argument-test.true c.argument-item.is c.loop-argument.invariant c.in_ok-operand.ensures

pub message-returns : goal.message-returns
message-returns t c = rw (message_out c.args.message.now c.args.self.now.scopes, ← c.as_slice-argument-items.ensures) (so_far-all names_in_operand c.args.self.now c.loop-argument.self c.as_slice-argument-items.result.now c.loop-argument.argument-index c.loop-argument-test.false c.loop-argument.invariant)

pub messages-loop-message-init : goal.messages-loop-message-init
messages-loop-message-init t c = so_far-none names_in_message c.args.self.now

pub messages-loop-message-preserved : goal.messages-loop-message-preserved
messages-loop-message-preserved t c = so_far-more names_in_message c.args.self.now c.loop-message.self c.message.new.self c.args.messages.now c.loop-message.message-index c.message-item.result c.loop-message-test.true c.message-item.is c.loop-message.invariant c.in_ok-message.ensures

pub messages-returns : goal.messages-returns
messages-returns t c = so_far-all names_in_message c.args.self.now c.loop-message.self c.args.messages.now c.loop-message.message-index c.loop-message-test.false c.loop-message.invariant

pub statements-loop-statement-init : goal.statements-loop-statement-init
statements-loop-statement-init t c = so_far-none names_in_statement c.args.self.now

pub statements-loop-statement-preserved : goal.statements-loop-statement-preserved
statements-loop-statement-preserved t c = so_far-more names_in_statement c.args.self.now c.loop-statement.self c.statement.new.self c.args.statements.now c.loop-statement.statement-index c.statement-item.result c.loop-statement-test.true c.statement-item.is c.loop-statement.invariant c.in_ok-statement.ensures

pub statements-returns : goal.statements-returns
statements-returns t c = so_far-all names_in_statement c.args.self.now c.loop-statement.self c.args.statements.now c.loop-statement.statement-index c.loop-statement-test.false c.loop-statement.invariant

pub primary-returns-in-Variable : goal.primary-returns-in-Variable
primary-returns-in-Variable t c = rw (c.in-Variable.is, variable_in c.in-Variable.name c.args.self.now.scopes) c.read.ensures

pub primary-returns-in-Block : goal.primary-returns-in-Block
primary-returns-in-Block t c = rw (c.in-Block.is, block_in c.in-Block.block c.args.self.now.scopes) c.block.ensures

pub primary-returns-in-Paren : goal.primary-returns-in-Paren
primary-returns-in-Paren t c = rw (c.in-Paren.is, paren_in c.in-Paren.expr c.args.self.now.scopes, ← c.get.ensures) c.expr.ensures

pub primary-returns-in-SelfValue : goal.primary-returns-in-SelfValue
primary-returns-in-SelfValue t c = rw (c.in-SelfValue.is, self_in c.args.self.now.scopes) (sym (noted-nothing c.args.self.now))

pub primary-returns-in-SuperValue : goal.primary-returns-in-SuperValue
primary-returns-in-SuperValue t c = rw (c.in-SuperValue.is, super_in c.args.self.now.scopes) (sym (noted-nothing c.args.self.now))

pub primary-returns-in-Literal : goal.primary-returns-in-Literal
primary-returns-in-Literal t c = rw (c.in-Literal.is, literal_in c.in-Literal.field-0 c.args.self.now.scopes) (sym (noted-nothing c.args.self.now))

pub statement-returns-in-Value : goal.statement-returns-in-Value
statement-returns-in-Value t c = rw (c.in-Value.is, value_in c.in-Value.expr c.args.self.now.scopes) c.expr.ensures

pub statement-returns-in-Return : goal.statement-returns-in-Return
statement-returns-in-Return t c = rw (c.in-Return.is, return_in c.in-Return.expr c.args.self.now.scopes) c.expr-in-Return.ensures
