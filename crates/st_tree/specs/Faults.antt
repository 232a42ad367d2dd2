-- Where a text stops being in the grammar, and why.
use Rattle.std.specs.Prelude.{◌≡◌, ℕ, ◌+◌, ◌-◌, ◌≤◌, List, [], ◌∷◌, ◌++◌, take, length, slice_get, Option, Some, None}
use Rattle.st_base.specs.declared.tokens.Token.{Token}
use Rattle.st_base.specs.declared.tokens.LexFault.{LexFault}
use Rattle.st_base.specs.declared.faults.Reason.{Reason}
use Rattle.st_base.specs.declared.faults.Reason.TheVariants as reason
use Rattle.st_tree.specs.Symbols.{Sym, Num, ArrayOpen, ParenOpen, ParenClose, BlockOpen, BlockClose, sym_of, syms}
use Rattle.st_tree.specs.Grammar.{Production, Tree, Derives}

-- some list that begins with these symbols derives a tree
abbrev pub CanStand : Production → List Sym → Type 0
CanStand p a = (more : List Sym) × (tree : Tree) × Derives p (a ++ more) tree

-- none does
abbrev pub CannotStand : Production → List Sym → Type 0
CannotStand p a = (more : List Sym) (tree : Tree) → Derives p (a ++ more) tree → ⊥

-- `#(`, `(` and `[` open one more, `)` and `]` close one
abbrev pub deeper : ℕ → Sym → ℕ
deeper d ArrayOpen = d + 1
deeper d ParenOpen = d + 1
deeper d (BlockOpen at) = d + 1
deeper d ParenClose = d - 1
deeper d BlockClose = d - 1
deeper d s = d

-- how many are open behind the symbols, with d open before them
abbrev pub depth : ℕ → List Sym → ℕ
depth d [] = d
depth d (s ∷ a) = depth (deeper d s) a

-- nowhere are more than 200 open
abbrev pub Shallow : List Sym → Type 0
Shallow a = (n : ℕ) → n ≤ length a → depth 0 (take n a) ≤ 200

-- the symbol, an integer with its value set aside
abbrev pub aside : Sym → Sym
aside (Num n at) = Num 0 at
aside s = s

-- The symbols may stand, the last too, and none is the 201st opening.
pub record Stands (p : Production) (a : List Sym) : Type 0 where
  pub fits : CanStand p a
  pub shallow : Shallow a

-- Why a symbol behind others is a fault.
pub data Spoils : Production → List Sym → Sym → Reason → Type 0 where
  -- it can't stand, whatever its value
  out_of_place : {p : Production} {a : List Sym} {s : Sym} → CannotStand p (a ++ aside s ∷ []) → Spoils p a s reason.Syntax
  -- it may stand, and its value is out of range there: from 2^127 on without a sign
  out_of_range : {p : Production} {a : List Sym} {s : Sym}
      → CanStand p (a ++ aside s ∷ []) → CannotStand p (a ++ s ∷ []) → Spoils p a s reason.IntegerTooLarge
  -- it may stand, and is the 201st opening that is open
  too_deep : {p : Production} {a : List Sym} {s : Sym}
      → CanStand p (a ++ s ∷ []) → depth 0 (a ++ s ∷ []) ≡ 201 → Spoils p a s reason.TooDeep

-- The first fault of a text with these tokens and this lexical fault: its byte and its reason.
pub data IsFault : Production → List ℕ → List Token → Option LexFault → ℕ → Reason → Type 0 where
  -- a token is the first that is at fault
  at_token : {p : Production} {text : List ℕ} {tokens : List Token} {lexical : Option LexFault} {why : Reason}
      → (i : ℕ) → (t : Token) → slice_get tokens i ≡ Some t → Stands p (take i (syms text tokens))
      → Spoils p (take i (syms text tokens)) (sym_of text t) why → IsFault p text tokens lexical t.start why
  -- all tokens may stand, and the next is spoiled
  lexical_fault : {p : Production} {text : List ℕ} {tokens : List Token} {fault : LexFault}
      → Stands p (syms text tokens) → IsFault p text tokens (Some fault) fault.byte fault.reason
  -- all tokens may stand, and more are needed
  unfinished : {p : Production} {text : List ℕ} {tokens : List Token}
      → Stands p (syms text tokens) → ((tree : Tree) → Derives p (syms text tokens) tree → ⊥)
      → IsFault p text tokens None (length text) reason.Syntax

-- The tree of a text with these tokens, where it has no fault.
pub record IsTree (p : Production) (text : List ℕ) (tokens : List Token) (lexical : Option LexFault) (tree : Tree) : Type 0 where
  pub whole : lexical ≡ None
  pub derives : Derives p (syms text tokens) tree
  pub shallow : Shallow (syms text tokens)
