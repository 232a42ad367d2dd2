use Rattle.st_messages.proofs.MissedTexts.{symbol_pieces-known, symbol_pieces-text}
use Rattle.st_messages.proofs.printed.print_symbol.Goals as goal

pub new_text-requires-clause-known : goal.new_text-requires-clause-known
new_text-requires-clause-known g c =
    rw c.symbol_pieces-pieces.ensures (symbol_pieces-known (g.P.ProgramFacts.meaning c.args.program.now) (g.H.Heap.meaning c.args.heap.now).store c.args.name)

pub returns-clause-memory : goal.returns-clause-memory
returns-clause-memory g c =
    rw (c.symbol_pieces-pieces.ensures, symbol_pieces-text (g.P.ProgramFacts.meaning c.args.program.now) (g.H.Heap.meaning c.args.heap.now).store c.args.name) at c.new_text.ensures.memory

pub returns-clause-answer : goal.returns-clause-answer
returns-clause-answer g c =
    rw (c.symbol_pieces-pieces.ensures, symbol_pieces-text (g.P.ProgramFacts.meaning c.args.program.now) (g.H.Heap.meaning c.args.heap.now).store c.args.name) at c.new_text.ensures.answer
