use Rattle.std.proofs.Common.{◌≡◌, false, drop}
use Rattle.st_base.specs.Lexed.{string_len}
use Rattle.st_lexer.proofs.SpanLemmas.{plus}
use Rattle.st_lexer.proofs.spans.string_len.Given as goal

-- what is left gives the length
abbrev pub invariant-loop-i : goal.invariant-loop-i
invariant-loop-i l = string_len false l.bytes ≡ plus l.i (string_len l.closing (drop l.i l.bytes))
