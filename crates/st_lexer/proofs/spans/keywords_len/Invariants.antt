use Rattle.std.proofs.Common.{◌≡◌, ◌≤◌, true, false, drop, Some, IfSome}
use Rattle.st_base.specs.Lexed.{keywords_len}
use Rattle.st_lexer.proofs.SpanLemmas.{further}
use Rattle.st_lexer.proofs.spans.keywords_len.Given as goal

-- what is left gives the length, and between two keywords all is whole so far
abbrev pub invariant-loop-i : goal.invariant-loop-i
invariant-loop-i l = record {
  same : keywords_len true l.bytes ≡ further l.whole l.i (keywords_len l.begun (drop l.i l.bytes));
  between : l.begun ≡ false → l.whole ≡ Some l.i;
  within : IfSome l.whole (λ n. n ≤ l.i);
}
