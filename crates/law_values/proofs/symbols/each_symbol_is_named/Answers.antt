-- Why each symbol is named.
use Rattle.law_values.proofs.symbols.each_symbol_is_named.Goals as goal
use Rattle.law_values.proofs.NamedSymbols.{symbols_are_named}
use Rattle.law_values.proofs.HeldSymbols.{held_symbols_are_named}

pub returns-clause-scoped : goal.returns-clause-scoped
returns-clause-scoped c = symbols_are_named

pub returns-clause-held : goal.returns-clause-held
returns-clause-held c = held_symbols_are_named
