use Rattle.st_collections.specs.Actions.{makes_string}
use Rattle.st_collections.specs.Kinds.{print_text}
use Rattle.st_messages.proofs.AtOnce.{reply_memory, reply_told}
use Rattle.st_messages.proofs.NumberLaws.{arithmetic_same, fraction_same, radix_same, string_once, string_same}
use Rattle.st_messages.proofs.numbers.number_reply.Goals as goal

pub returns-in-Computes-clause-memory : goal.returns-in-Computes-clause-memory
returns-in-Computes-clause-memory g c =
    let p = g.P.ProgramFacts.meaning c.args.program.now in
    let s = (g.H.Heap.meaning c.args.heap.now).store in
    rw (c.in-Computes.is, arithmetic_same p s c.in-Computes.m c.args.receiver c.args.arguments.now) c.arithmetic.ensures.memory

pub returns-in-Computes-clause-reply : goal.returns-in-Computes-clause-reply
returns-in-Computes-clause-reply g c =
    let p = g.P.ProgramFacts.meaning c.args.program.now in
    let s = (g.H.Heap.meaning c.args.heap.now).store in
    rw (c.in-Computes.is, arithmetic_same p s c.in-Computes.m c.args.receiver c.args.arguments.now) (c.arithmetic.ensures.reply p c.args.arguments.now)

pub returns-in-AsString-clause-memory : goal.returns-in-AsString-clause-memory
returns-in-AsString-clause-memory g c =
    let p = g.P.ProgramFacts.meaning c.args.program.now in
    let m = g.H.Heap.meaning c.args.heap.now in
    rw (c.in-AsString.is, string_same p m.store c.args.receiver c.args.arguments.now)
    (reply_memory c.print_string.result (makes_string (print_text p m.store c.args.receiver) m.store) m (g.H.Heap.meaning c.print_string.new.heap) (string_once (print_text p m.store c.args.receiver) m.store) c.print_string.ensures.memory)

pub returns-in-AsString-clause-reply : goal.returns-in-AsString-clause-reply
returns-in-AsString-clause-reply g c =
    let p = g.P.ProgramFacts.meaning c.args.program.now in
    let m = g.H.Heap.meaning c.args.heap.now in
    rw (c.in-AsString.is, string_same p m.store c.args.receiver c.args.arguments.now)
    (reply_told c.print_string.result (makes_string (print_text p m.store c.args.receiver) m.store) m (string_once (print_text p m.store c.args.receiver) m.store) c.print_string.ensures.answer)

pub returns-in-PrintRadix-clause-memory : goal.returns-in-PrintRadix-clause-memory
returns-in-PrintRadix-clause-memory g c =
    let p = g.P.ProgramFacts.meaning c.args.program.now in
    let s = (g.H.Heap.meaning c.args.heap.now).store in
    rw (c.in-PrintRadix.is, radix_same p s c.args.receiver c.args.arguments.now) (rw c.first_of.ensures at c.print_in_radix.ensures.memory)

pub returns-in-PrintRadix-clause-reply : goal.returns-in-PrintRadix-clause-reply
returns-in-PrintRadix-clause-reply g c =
    let p = g.P.ProgramFacts.meaning c.args.program.now in
    let s = (g.H.Heap.meaning c.args.heap.now).store in
    rw (c.in-PrintRadix.is, radix_same p s c.args.receiver c.args.arguments.now) (rw c.first_of.ensures at c.print_in_radix.ensures.reply p c.args.arguments.now)

pub returns-in-FromNumerator-clause-memory : goal.returns-in-FromNumerator-clause-memory
returns-in-FromNumerator-clause-memory g c =
    let p = g.P.ProgramFacts.meaning c.args.program.now in
    let s = (g.H.Heap.meaning c.args.heap.now).store in
    rw (c.in-FromNumerator.is, fraction_same p s c.args.receiver c.args.arguments.now) (rw (c.first_of-in-FromNumerator.ensures, c.second_of.ensures) at c.from_numerator.ensures.memory)

pub returns-in-FromNumerator-clause-reply : goal.returns-in-FromNumerator-clause-reply
returns-in-FromNumerator-clause-reply g c =
    let p = g.P.ProgramFacts.meaning c.args.program.now in
    let s = (g.H.Heap.meaning c.args.heap.now).store in
    rw (c.in-FromNumerator.is, fraction_same p s c.args.receiver c.args.arguments.now) (rw (c.first_of-in-FromNumerator.ensures, c.second_of.ensures) at c.from_numerator.ensures.reply p c.args.arguments.now)
