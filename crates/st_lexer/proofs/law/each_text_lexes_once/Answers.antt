use Rattle.st_lexer.proofs.LexesLaw.{Lexes-lexed_of}
use Rattle.st_lexer.proofs.law.each_text_lexes_once.Goals as goal

pub returns : goal.returns
returns c = Lexes-lexed_of
