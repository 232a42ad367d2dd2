use Rattle.std.proofs.Common.{refl}
use Rattle.st_messages.proofs.NumberLaws.{no_number, of_a_number}
use Rattle.st_messages.proofs.numbers.arithmetic.Goals as goal

pub returns-in-Some-clause-memory : goal.returns-in-Some-clause-memory
returns-in-Some-clause-memory g c =
    let s = (g.H.Heap.meaning c.args.heap.now).store in
    rw (of_a_number s c.args.message c.args.receiver c.args.arguments.now c.in-Some.number c.argument_now-argument.result c.dividend_for-dividend.result c.first_of.result c.number_message-answered.result c.in-Some.ensures.number c.argument_now-argument.ensures.argument c.dividend_for-dividend.ensures c.first_of.ensures c.number_message-answered.ensures.answer)
    c.numeric_reply.ensures.memory

pub returns-in-Some-clause-reply : goal.returns-in-Some-clause-reply
returns-in-Some-clause-reply g c = λ p args.
    let s = (g.H.Heap.meaning c.args.heap.now).store in
    rw (of_a_number s c.args.message c.args.receiver c.args.arguments.now c.in-Some.number c.argument_now-argument.result c.dividend_for-dividend.result c.first_of.result c.number_message-answered.result c.in-Some.ensures.number c.argument_now-argument.ensures.argument c.dividend_for-dividend.ensures c.first_of.ensures c.number_message-answered.ensures.answer)
    (c.numeric_reply.ensures.reply p args)

pub returns-in-None-clause-memory : goal.returns-in-None-clause-memory
returns-in-None-clause-memory g c =
    rw (c.answer_trouble.ensures, no_number (g.H.Heap.meaning c.args.heap.now).store c.args.message c.args.receiver c.args.arguments.now c.in-None.ensures.number) refl

pub returns-in-None-clause-reply : goal.returns-in-None-clause-reply
returns-in-None-clause-reply g c = λ p args.
    rw (c.answer_trouble.ensures, no_number (g.H.Heap.meaning c.args.heap.now).store c.args.message c.args.receiver c.args.arguments.now c.in-None.ensures.number) refl
