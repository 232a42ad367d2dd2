use Rattle.std.proofs.Common.{◌≡◌, ◌-◌, ◌≤◌, All, drop, length}
use Rattle.st_base.specs.Lexed.{lexed_of, lexed_at, Fits}
use Rattle.st_lexer.proofs.Scanning.{behind_tokens}
use Rattle.st_lexer.proofs.scan.tokens.Given as goal

-- the tokens so far, and those of what is left
abbrev pub invariant-loop-at : goal.invariant-loop-at
invariant-loop-at l = record {
  within : l.at ≤ length l.text;
  same : lexed_of l.text ≡ behind_tokens l.tokens.items (lexed_at 0 l.at (drop l.at l.text));
  spans : All (Fits l.text) l.tokens.items;
}

abbrev pub decreases-loop-at : goal.decreases-loop-at
decreases-loop-at l = length l.text - l.at
