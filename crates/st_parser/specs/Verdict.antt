-- What the machine says of a text: its tree, or its first fault. Computed, beside the relations IsTree and IsFault.
use Rattle.std.specs.Prelude.{ℕ, Bool, true, false, nat_lt, List, [], ◌∷◌, length, Option, Some, None}
use Rattle.st_base.specs.declared.tokens.Token.{Token}
use Rattle.st_base.specs.declared.tokens.LexFault.{LexFault}
use Rattle.st_base.specs.declared.faults.Reason.{Reason}
use Rattle.st_base.specs.declared.faults.Reason.TheVariants as reason
use Rattle.st_tree.specs.Symbols.{sym_of}
use Rattle.st_tree.specs.Grammar.{Production, Tree}
use Rattle.st_tree.specs.Faults.{aside, deeper}
use Rattle.st_parser.specs.Machine.{State, step, accept, start}

pub data Verdict : Type 0 where
  Good : Tree → Verdict
  Bad : ℕ → Reason → Verdict

-- behind the last token: the lexical fault, or the tree if the text can end here
abbrev pub verdict_end : ℕ → Option LexFault → Option Tree → Verdict
verdict_end len (Some fault) m = Bad fault.byte fault.reason
verdict_end len None (Some tree) = Good tree
verdict_end len None None = Bad len reason.Syntax

-- at a token: the state behind it with its value aside, that with its value, and whether more than 200 are open behind it
abbrev pub verdict_at : ℕ → Option State → Option State → Bool → (State → Verdict) → Verdict
verdict_at at None m deep behind = Bad at reason.Syntax
verdict_at at (Some s) None deep behind = Bad at reason.IntegerTooLarge
verdict_at at (Some s) (Some next) true behind = Bad at reason.TooDeep
verdict_at at (Some s) (Some next) false behind = behind next

-- from a state on, with so many open
abbrev pub verdict_from : List ℕ → Option LexFault → State → ℕ → List Token → Verdict
verdict_from text lexical s d [] = verdict_end (length text) lexical (accept s)
verdict_from text lexical s d (t ∷ ts) =
    verdict_at t.start (step s (aside (sym_of text t))) (step s (sym_of text t)) (nat_lt 200 (deeper d (sym_of text t))) (λ next. verdict_from text lexical next (deeper d (sym_of text t)) ts)

abbrev pub verdict_of : Production → List ℕ → List Token → Option LexFault → Verdict
verdict_of p text tokens lexical = verdict_from text lexical (start p) 0 tokens
