use Rattle.std.proofs.Common.{◌∙◌, ◌-◌, List, length, true, false, ap, refl, arith}
use Rattle.object_heap.specs.declared.value.Value.{Value}
use Rattle.st_code.specs.Texts.{Text}
use Rattle.st_code.specs.Written.{named_expr, named_statement, named_messages, named_operands, named_statements}
use Rattle.st_code.specs.Resolved.{inside, number_or_last}
use Rattle.st_code.proofs.Written.{primary-variable, primary-self, primary-super, primary-literal, primary-block, primary-paren, statement-value, statement-return}
use Rattle.st_compiler.specs.declared.draft.Status.TheVariants as status
use Rattle.st_compiler.specs.Around.{variables_of}
use Rattle.st_compiler.specs.Walked.{chain_walked, cascade_walked, operands_walked, statements_walked, body_begun}
use Rattle.st_compiler.proofs.Walks.{chain-next, chain-end, cascade-next, cascade-end, operands-next, message-whole, operand-whole, expr-whole, statement-whole, statements-next, statements-whole, body-named, body-made, within-named, within-made, block-whole}
use Rattle.st_compiler.proofs.draft.Draft.+walk.Goals as goal

pub primary-returns-in-Variable : goal.primary-returns-in-Variable
primary-returns-in-Variable t c = rw (c.in-Variable.is, primary-variable c.in-Variable.name) c.name.ensures

pub primary-returns-in-SelfValue : goal.primary-returns-in-SelfValue
primary-returns-in-SelfValue t c = rw (c.in-SelfValue.is, primary-self) c.push.ensures

pub primary-returns-in-SuperValue : goal.primary-returns-in-SuperValue
primary-returns-in-SuperValue t c = rw (c.in-SuperValue.is, primary-super) c.push-in-SuperValue.ensures

pub primary-returns-in-Literal : goal.primary-returns-in-Literal
primary-returns-in-Literal t c = rw (c.in-Literal.is, primary-literal c.in-Literal.literal) c.literal.ensures

pub primary-returns-in-Block : goal.primary-returns-in-Block
primary-returns-in-Block t c = rw (c.in-Block.is, primary-block c.in-Block.block) c.block.ensures

pub primary-returns-in-Paren : goal.primary-returns-in-Paren
primary-returns-in-Paren t c = rw (c.in-Paren.is, primary-paren c.in-Paren.expr, ← c.get.ensures) c.expr.ensures

pub block-returns : goal.block-returns
block-returns t c =
    block-whole c.make_block.result c.args.around.now c.args.block.now c.as_slice-parameters.result.now c.code.result c.in_ok-code.code c.in_ok-names.names c.args.self.now c.body.new.self c.make_block.new.self
    c.as_slice-parameters.ensures c.code.ensures (c.in_ok-code.ensures ∙ c.len.ensures) c.in_ok-names.ensures.names c.in_ok-names.ensures.made c.make_block.ensures

pub body-returns-clause-names : goal.body-returns-clause-names
body-returns-clause-names t c =
    body-named c.body_within.result c.args.kind c.args.around.now c.in_ok-within.within c.args.outer c.args.parameters.now c.as_slice-temporaries.result.now c.as_slice-statements.result.now c.args.body.now c.in_ok-code.code
    (record { kind = c.args.kind; class = c.class.result; parameters = length c.args.parameters.now; outer = c.args.outer }) c.in_ok-scope.scope c.args.self.now
    c.as_slice-temporaries.ensures c.as_slice-statements.ensures (c.in_ok-code.ensures ∙ c.len.ensures) (c.in_ok-within.ensures ∙ ap (inside c.args.around.now c.in_ok-code.code) c.in_ok-scope.ensures)
    (ap (λ (v : Value). record { kind = c.args.kind; class = v; parameters = length c.args.parameters.now; outer = c.args.outer }) c.class.ensures) c.in_ok-scope.ensures c.body_within.ensures.names

pub body-returns-clause-made : goal.body-returns-clause-made
body-returns-clause-made t c =
    body-made c.body_within.result c.args.kind c.args.around.now c.in_ok-within.within c.args.outer c.args.parameters.now c.as_slice-temporaries.result.now c.as_slice-statements.result.now c.args.body.now c.in_ok-code.code
    (record { kind = c.args.kind; class = c.class.result; parameters = length c.args.parameters.now; outer = c.args.outer }) c.args.self.now c.body_within.new.self
    c.as_slice-temporaries.ensures c.as_slice-statements.ensures (c.in_ok-code.ensures ∙ c.len.ensures) (c.in_ok-within.ensures ∙ ap (inside c.args.around.now c.in_ok-code.code) c.in_ok-scope.ensures)
    (ap (λ (v : Value). record { kind = c.args.kind; class = v; parameters = length c.args.parameters.now; outer = c.args.outer }) c.class.ensures) c.body_within.ensures.made

pub body_within-returns-clause-names : goal.body_within-returns-clause-names
body_within-returns-clause-names t c =
    within-named c.finish.result c.args.scope.now c.statements.new.self (statements_walked c.args.within.now c.args.header.kind status.Empty (named_statements c.args.statements.now) (body_begun c.args.header c.args.self.now))
    (c.in_ok-statements.ensures ∙ ap (statements_walked c.args.within.now c.args.header.kind status.Empty (named_statements c.args.statements.now)) c.in_ok-frame.ensures.begun) c.finish.ensures.names

pub body_within-returns-clause-made : goal.body_within-returns-clause-made
body_within-returns-clause-made t c =
    within-made c.finish.result c.code.result c.args.within.now.code c.args.header (variables_of c.args.parameters.now c.args.temporaries.now) c.in_ok-frame.frame c.args.self.now.frame c.statements.new.self
    (statements_walked c.args.within.now c.args.header.kind status.Empty (named_statements c.args.statements.now) (body_begun c.args.header c.args.self.now)) c.finish.new.self
    c.code.ensures c.in_ok-frame.ensures.around (c.in_ok-statements.ensures ∙ ap (statements_walked c.args.within.now c.args.header.kind status.Empty (named_statements c.args.statements.now)) c.in_ok-frame.ensures.begun) c.finish.ensures.ended

pub expr-returns : goal.expr-returns
expr-returns t c =
    expr-whole c.store_all.result c.args.around.now c.args.expr.now c.as_slice.result.now c.as_slice-4.result.now c.as_slice-2.result.now c.as_slice-3.result.now c.has_messages.result c.is_direct.result
    c.args.self.now c.mention_all.new.self c.operand.new.self c.cascade.new.self c.store_all.new.self
    c.as_slice.ensures c.as_slice-4.ensures c.as_slice-2.ensures c.as_slice-3.ensures c.has_messages.ensures c.is_direct.ensures c.in_ok-mention_all.ensures c.in_ok-operand.ensures c.in_ok-cascade.ensures c.store_all.ensures

pub message-returns : goal.message-returns
message-returns t c =
    message-whole c.pop_if.result c.args.around.now c.args.to_super c.args.kept c.args.message.now c.as_slice-argument-items.result.now c.args.self.now c.dup_if.new.self c.loop-argument.self c.push.new.self c.pop_if.new.self
    c.loop-argument.argument-index c.number-selector.result c.len.result _
    c.as_slice-argument-items.ensures (c.number-selector.ensures ∙ ap (λ (u : Text). number_or_last c.args.around.now.names.names u) c.as_bytes.ensures) c.len.ensures c.loop-argument-test.false
    c.in_ok-dup_if.ensures c.loop-argument.invariant c.send_of.ensures c.in_ok-push.ensures c.pop_if.ensures

pub operand-returns : goal.operand-returns
operand-returns t c =
    operand-whole c.end_chain.result c.args.around.now c.args.kept c.is_super-to_super.result c.args.operand.now c.as_slice.result.now c.as_slice-2.result.now c.args.self.now c.primary.new.self c.chain.new.self c.end_chain.new.self
    c.is_super-to_super.ensures c.as_slice.ensures c.as_slice-2.ensures c.in_ok-primary.ensures c.in_ok-chain.ensures c.end_chain.ensures

pub statement-returns-in_ok-expr-in-Value : goal.statement-returns-in_ok-expr-in-Value
statement-returns-in_ok-expr-in-Value t c =
    statement-whole c.end_statement.result c.args.around.now c.args.kind c.args.status false (named_expr c.in-Value.expr) (named_statement c.args.statement.now) c.in_ok-aside.aside c.args.self.now c.separate.new.self c.expr.new.self c.end_statement.new.self
    (ap named_statement c.in-Value.is ∙ statement-value c.in-Value.expr) c.in_ok-aside.ensures.aside c.in_ok-aside.ensures.separated c.in_ok-expr-in-Value.ensures c.end_statement.ensures

pub statement-returns-in_ok-expr-in-Return : goal.statement-returns-in_ok-expr-in-Return
statement-returns-in_ok-expr-in-Return t c =
    statement-whole c.end_statement-in-Return.result c.args.around.now c.args.kind c.args.status true (named_expr c.in-Return.expr) (named_statement c.args.statement.now) c.in_ok-aside.aside c.args.self.now c.separate.new.self c.expr-in-Return.new.self c.end_statement-in-Return.new.self
    (ap named_statement c.in-Return.is ∙ statement-return c.in-Return.expr) c.in_ok-aside.ensures.aside c.in_ok-aside.ensures.separated c.in_ok-expr-in-Return.ensures c.end_statement-in-Return.ensures

pub statements-returns : goal.statements-returns
statements-returns t c =
    statements-whole c.end_statements.result c.args.around.now c.args.kind c.loop-statement.status c.args.statements.now c.loop-statement.statement-index c.loop-statement.self c.end_statements.new.self
    (statements_walked c.args.around.now c.args.kind status.Empty (named_statements c.args.statements.now) c.args.self.now) c.loop-statement-test.false c.loop-statement.invariant c.end_statements.ensures

pub statements-loop-statement-preserved : goal.statements-loop-statement-preserved
statements-loop-statement-preserved t c =
    statements-next c.args.around.now c.args.kind c.loop-statement.status c.status_after-status.result c.is_return.result c.args.statements.now c.loop-statement.statement-index c.statement-item.result c.loop-statement.self c.statement.new.self
    (statements_walked c.args.around.now c.args.kind status.Empty (named_statements c.args.statements.now) c.args.self.now) c.statement-item.is c.loop-statement-test.true c.is_return.ensures c.status_after-status.ensures c.loop-statement.invariant c.in_ok-statement.ensures

pub message-loop-argument-preserved : goal.message-loop-argument-preserved
message-loop-argument-preserved t c =
    operands-next c.args.around.now c.as_slice-argument-items.result.now c.loop-argument.argument-index c.argument-item.result c.loop-argument.self c.operand.new.self
    (operands_walked c.args.around.now (named_operands c.as_slice-argument-items.result.now) c.dup_if.new.self) c.argument-item.is c.loop-argument-test.true c.loop-argument.invariant c.in_ok-operand.ensures

pub chain-loop-message-preserved : goal.chain-loop-message-preserved
chain-loop-message-preserved t c =
    record {
      counted = omega (arith, c.loop-message.invariant.counted, c.loop-message-test.true);
      walked = chain-next c.args.around.now c.loop-message.direct c.args.kept c.is_last.result c.args.chain.now c.loop-message.message-index c.loop-message.left (c.loop-message.left - 1) c.message-item.result c.loop-message.self c.message.new.self
          (chain_walked c.args.around.now c.args.to_super c.args.kept (named_messages c.args.chain.now) c.args.self.now) c.message-item.is c.loop-message-test.true c.loop-message.invariant.counted refl c.is_last.ensures c.loop-message.invariant.walked c.in_ok-message.ensures;
    }

pub cascade-loop-message-preserved : goal.cascade-loop-message-preserved
cascade-loop-message-preserved t c =
    record {
      counted = omega (arith, c.loop-message.invariant.counted, c.loop-message-test.true);
      walked = cascade-next c.args.around.now c.args.to_super c.are_left.result c.args.cascade.now c.loop-message.message-index c.loop-message.left (c.loop-message.left - 1) c.message-item.result c.loop-message.self c.message.new.self
          (cascade_walked c.args.around.now c.args.to_super (named_messages c.args.cascade.now) c.args.self.now) c.message-item.is c.loop-message-test.true c.loop-message.invariant.counted refl c.are_left.ensures c.loop-message.invariant.walked c.in_ok-message.ensures;
    }

pub chain-returns : goal.chain-returns
chain-returns t c =
    chain-end c.args.around.now c.loop-message.direct c.args.kept c.args.chain.now c.loop-message.message-index c.loop-message.self (chain_walked c.args.around.now c.args.to_super c.args.kept (named_messages c.args.chain.now) c.args.self.now) c.loop-message-test.false c.loop-message.invariant.walked

pub cascade-returns : goal.cascade-returns
cascade-returns t c =
    cascade-end c.args.around.now c.args.to_super c.args.cascade.now c.loop-message.message-index c.loop-message.self (cascade_walked c.args.around.now c.args.to_super (named_messages c.args.cascade.now) c.args.self.now) c.loop-message-test.false c.loop-message.invariant.walked
