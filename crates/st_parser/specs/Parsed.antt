-- What the parser says of a text: its tree, or its first fault.
use Rattle.std.specs.Prelude.{ℕ, List}
use Rattle.st_base.specs.declared.faults.Reason.{Reason}
use Rattle.st_base.specs.Lexed.{lexed_of}
use Rattle.st_tree.specs.Grammar.{Production, Tree}
use Rattle.st_tree.specs.Faults.{IsTree, IsFault}
use Rattle.st_parser.specs.declared.stop.ParseStop.{ParseStop}
use Rattle.st_parser.specs.declared.stop.ParseStop.TheVariants.{Fault, OutOfMemory}

-- the text has no fault, and its tokens derive the tree
abbrev pub Parses : Production → List ℕ → Tree → Type 0
Parses p text tree = IsTree p text (lexed_of text).tokens (lexed_of text).fault tree

-- the first fault of the text is at this byte, for this reason
abbrev pub Refuses : Production → List ℕ → ℕ → Reason → Type 0
Refuses p text byte why = IsFault p text (lexed_of text).tokens (lexed_of text).fault byte why

-- what a call says that answers no tree: the first fault, or nothing
abbrev pub StopsAt : Production → List ℕ → ParseStop → Type 0
StopsAt p text (Fault byte why) = Refuses p text byte why
StopsAt p text OutOfMemory = Unit {0}
