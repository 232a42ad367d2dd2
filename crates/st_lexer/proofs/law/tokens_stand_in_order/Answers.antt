use Rattle.st_lexer.proofs.Order.{lexed_of-order, lexed_of-fits, lexed_of-fault}
use Rattle.st_lexer.proofs.law.tokens_stand_in_order.Goals as goal

pub returns : goal.returns
returns c = record { order = lexed_of-order; spans = lexed_of-fits; fault = lexed_of-fault }
