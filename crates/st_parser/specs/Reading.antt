-- What a function that reads on has read, in the machine's words: whatever is accepted before it, is accepted after it.
use Rattle.std.specs.Prelude.{◌≡◌, ℕ, ◌+◌, ◌^◌, List, [], ◌∷◌, ◌++◌, map, drop, Option, Some, None, slice_get, slice_index, Bool, true, false, length, nat_lt, ◌==◌, if◌then◌else◌, codes, pos, ◌-ℤ◌}
use Rattle.std.specs.Str.{bytes_eq}
use Rattle.st_base.specs.declared.tokens.Token.{Token}
use Rattle.st_base.specs.declared.tokens.TokenKind.{TokenKind}
use Rattle.st_base.specs.declared.tokens.TokenKind.TheVariants as kind
use Rattle.st_tree.specs.declared.tree.Name.{Name}
use Rattle.st_tree.specs.declared.tree.Literal.{Literal}
use Rattle.st_tree.specs.declared.tree.Literal.TheVariants as literal
use Rattle.st_tree.specs.declared.tree.Primary.{Primary}
use Rattle.st_tree.specs.declared.tree.Primary.TheVariants as primary
use Rattle.st_tree.specs.declared.tree.Statement.{Statement}
use Rattle.st_tree.specs.declared.tree.Expr.{Expr}
use Rattle.st_tree.specs.declared.tree.Message.{Message}
use Rattle.st_tree.specs.declared.tree.Operand.{Operand}
use Rattle.st_tree.specs.Symbols.{Sym, Id, Key, Op, Minus, Bar, TwoBars, ThreeBars, Assign, Semicolon, sym_of, text_of, string_value, Role, IsName, IsValue, IsSuper, role, word_item}
use Rattle.st_tree.specs.Trees.{name, variable, integer, negative, constant, message, operand, expr}
use Rattle.st_tree.specs.declared.tree.Body.{Body}
use Rattle.st_tree.specs.Grammar.{Tree, BodyTree, MethodTree}
use Rattle.st_parser.specs.declared.cursor.Sign.{Sign}
use Rattle.st_parser.specs.declared.cursor.Sign.TheVariants as sign
use Rattle.st_parser.specs.Machine.{State, parse, selector, Selector, Left, Outer, Receiver, Argument, Inner, Plain, Start, Have, Want, Again, Sent, Heading, NoPattern, Headed, Level, Top, Block, Home, Paren, Here, Pattern, ParameterRead, Opened, Fresh, Temporaries, Statements, Ended, Within, Elements, Frame, Waits, Holds}

-- ---- the tokens from a place on

unfoldable pub rest : List ℕ → List Token → ℕ → List Sym
rest source tokens at = map (sym_of source) (drop at tokens)

-- the place of the next token
abbrev pub next : List Token → ℕ → ℕ
next tokens at = if nat_lt at (length tokens) then at + 1 else at

-- the token there, if any
abbrev pub kind_there : Option Token → Option TokenKind
kind_there None = None
kind_there (Some t) = Some t.kind

abbrev pub text_there : List ℕ → Option Token → List ℕ
text_there source None = []
text_there source (Some t) = text_of source t

abbrev pub start_there : Option Token → ℕ
start_there None = 0
start_there (Some t) = t.start

unfoldable pub kind_at : List Token → ℕ → Option TokenKind
kind_at tokens at = kind_there (slice_get tokens at)

unfoldable pub text_at : List ℕ → List Token → ℕ → List ℕ
text_at source tokens at = text_there source (slice_get tokens at)

unfoldable pub start_at : List Token → ℕ → ℕ
start_at tokens at = start_there (slice_get tokens at)

-- ---- what stands there

abbrev pub is_identifier : Option TokenKind → Bool
is_identifier (Some kind.Identifier) = true
is_identifier _ = false

abbrev pub is_keyword : Option TokenKind → Bool
is_keyword (Some kind.Keyword) = true
is_keyword _ = false

abbrev pub is_operator : Option TokenKind → Bool
is_operator (Some kind.Operator) = true
is_operator _ = false

abbrev pub is_array_open : Option TokenKind → Bool
is_array_open (Some kind.ArrayOpen) = true
is_array_open _ = false

abbrev pub is_paren_open : Option TokenKind → Bool
is_paren_open (Some kind.ParenOpen) = true
is_paren_open _ = false

abbrev pub is_block_open : Option TokenKind → Bool
is_block_open (Some kind.BlockOpen) = true
is_block_open _ = false

abbrev pub is_colon : Option TokenKind → Bool
is_colon (Some kind.Colon) = true
is_colon _ = false

abbrev pub is_assign : Option TokenKind → Bool
is_assign (Some kind.Assign) = true
is_assign _ = false

abbrev pub is_caret : Option TokenKind → Bool
is_caret (Some kind.Caret) = true
is_caret _ = false

abbrev pub is_period : Option TokenKind → Bool
is_period (Some kind.Period) = true
is_period _ = false

abbrev pub is_semicolon : Option TokenKind → Bool
is_semicolon (Some kind.Semicolon) = true
is_semicolon _ = false

-- a body ends here
abbrev pub is_body_end : Option TokenKind → Bool
is_body_end (Some kind.BlockClose) = true
is_body_end None = true
is_body_end _ = false

-- an array ends here
abbrev pub is_array_end : Option TokenKind → Bool
is_array_end (Some kind.ParenClose) = true
is_array_end None = true
is_array_end _ = false

-- an array begins here, in an array
abbrev pub is_inner_open : Option TokenKind → Bool
is_inner_open (Some kind.ArrayOpen) = true
is_inner_open (Some kind.ParenOpen) = true
is_inner_open _ = false

-- an assignment's target stands here
abbrev pub is_target : List Token → ℕ → Bool
is_target tokens at = if is_identifier (kind_at tokens at) then is_assign (kind_at tokens (next tokens at)) else false

-- a keyword that begins at this byte
abbrev pub is_keyword_from : Option TokenKind → ℕ → ℕ → Bool
is_keyword_from (Some kind.Keyword) start end = start == end
is_keyword_from _ start end = false

-- an integer that begins at this byte
abbrev pub is_integer_from : Option TokenKind → ℕ → ℕ → Bool
is_integer_from (Some (kind.Integer n)) start end = start == end
is_integer_from _ start end = false

-- which meaning of its own an operator has
unfoldable pub sign_of : List ℕ → Sign
sign_of t =
    if bytes_eq t (codes "-") then sign.Minus
    else (if bytes_eq t (codes "|") then sign.Bar
    else (if bytes_eq t (codes "||") then sign.TwoBars
    else (if bytes_eq t (codes "|||") then sign.ThreeBars else sign.Plain)))

abbrev pub sign_there : Option TokenKind → List ℕ → Sign
sign_there (Some kind.Operator) t = sign_of t
sign_there _ t = sign.Plain

-- `-` stands there, and an integer directly behind it
abbrev pub is_minus : Sign → Bool
is_minus sign.Minus = true
is_minus _ = false

abbrev pub is_bar : Sign → Bool
is_bar sign.Bar = true
is_bar _ = false

abbrev pub is_two_bars : Sign → Bool
is_two_bars sign.TwoBars = true
is_two_bars _ = false

abbrev pub is_three_bars : Sign → Bool
is_three_bars sign.ThreeBars = true
is_three_bars _ = false

abbrev pub is_negative : List ℕ → List Token → ℕ → Bool
is_negative source tokens at =
    if is_minus (sign_there (kind_at tokens at) (text_at source tokens at)) then is_integer_from (kind_at tokens (next tokens at)) (start_at tokens (next tokens at)) (start_at tokens at + 1) else false

-- ---- literals

-- an integer without a sign; one that is too great is never accepted
abbrev pub number : ℕ → Literal
number n = if nat_lt n (2 ^ 127) then integer n else literal.Nil

-- an integer behind `-`
abbrev pub negated : ℕ → Literal
negated n = if nat_lt n (2 ^ 127) then negative n else negative (2 ^ 127)

-- the byte behind `$`
abbrev pub byte_of : List ℕ → ℕ
byte_of t = slice_index t 1

-- the literal that one token is, and anything where none stands
abbrev pub literal_of : Option TokenKind → List ℕ → Literal
literal_of (Some (kind.Integer n)) t = number n
literal_of (Some kind.Character) t = literal.Character (slice_index t 1)
literal_of (Some kind.Str) t = literal.Str (string_value t)
literal_of (Some kind.Symbol) t = literal.Symbol (drop 1 t)
literal_of (Some kind.QuotedSymbol) t = literal.Symbol (string_value (drop 1 t))
literal_of _ t = literal.Nil

-- the item of an array that one token is, and anything where none stands
abbrev pub item_of : Option TokenKind → List ℕ → Literal
item_of (Some kind.Identifier) t = word_item t
item_of k t = literal_of k t

-- the literal behind `-`, and anything where no integer stands
abbrev pub negated_of : Option TokenKind → Literal
negated_of (Some (kind.Integer n)) = negated n
negated_of _ = literal.Nil

abbrev pub word_of : Role → List ℕ → ℕ → Primary
word_of IsName t at = variable (name t at)
word_of (IsValue p) t at = p
word_of IsSuper t at = primary.SuperValue

-- the primary that one token is, and anything where none stands
abbrev pub single_of : Option TokenKind → List ℕ → ℕ → Primary
single_of (Some kind.Identifier) t at = word_of (role t) t at
single_of k t at = constant (literal_of k t)

-- ---- what was read

-- what is accepted in one state is accepted in another, with other symbols left
abbrev pub Goes : State → List Sym → State → List Sym → Type 0
Goes s a t b = (tree : Tree) → parse s a ≡ Some tree → parse t b ≡ Some tree

abbrev pub NotId : List Sym → Type 0
NotId (Id t at ∷ a) = ⊥
NotId a = Unit {0}

-- no operator either
abbrev pub NotBinary : List Sym → Type 0
NotBinary (Id t at ∷ a) = ⊥
NotBinary (Op t at ∷ a) = ⊥
NotBinary (Minus at ∷ a) = ⊥
NotBinary (Bar at ∷ a) = ⊥
NotBinary (TwoBars at ∷ a) = ⊥
NotBinary (ThreeBars at ∷ a) = ⊥
NotBinary a = Unit {0}

abbrev pub NotSemicolon : List Sym → Type 0
NotSemicolon (Semicolon ∷ a) = ⊥
NotSemicolon a = Unit {0}

-- `:=` does not follow the first
abbrev pub NoTarget : List Sym → Type 0
NoTarget (Id t at ∷ Assign ∷ a) = ⊥
NoTarget a = Unit {0}

-- an item of an array
pub record ReadsItem (a : List Sym) (l : Literal) (b : List Sym) : Type 0 where
  pub goes : (items : List Literal) (fs : List Frame) → Goes (Elements items, fs) a (Elements (items ++ l ∷ []), fs) b

-- items of an array
pub record ReadsItems (a : List Sym) (first ls : List Literal) (b : List Sym) : Type 0 where
  pub goes : (fs : List Frame) → Goes (Elements first, fs) a (Elements ls, fs) b

-- an array behind its opening, which is an item or a primary
pub record ReadsArray (a : List Sym) (l : Literal) (b : List Sym) : Type 0 where
  pub inner : (items : List Literal) (fs : List Frame) → Goes (Elements [], Holds items ∷ fs) a (Elements (items ++ l ∷ []), fs) b
  pub outer : (home : Home) (tg : List Name) (inner : Inner) (fs : List Frame) → Goes (Elements [], Waits home tg inner ∷ fs) a (Within home (Have tg inner (constant l) []), fs) b

pub record ReadsPrimary (a : List Sym) (p : Primary) (b : List Sym) : Type 0 where
  pub goes : (home : Home) (fs : List Frame) (tg : List Name) (inner : Inner) → Goes (Within home (Want tg inner), fs) a (Within home (Have tg inner p []), fs) b

pub record ReadsUnaries (a : List Sym) (first ms : List Message) (b : List Sym) : Type 0 where
  pub goes : (home : Home) (fs : List Frame) (tg : List Name) (inner : Inner) (p : Primary) → Goes (Within home (Have tg inner p first), fs) a (Within home (Have tg inner p ms), fs) b

-- an operand with unary messages
pub record ReadsUnit (a : List Sym) (o : Operand) (b : List Sym) : Type 0 where
  pub primary : Primary
  pub chain : List Message
  pub is : o ≡ operand primary chain
  pub goes : (home : Home) (fs : List Frame) (tg : List Name) (inner : Inner) → Goes (Within home (Want tg inner), fs) a (Within home (Have tg inner primary chain), fs) b

pub record ReadsBinaries (a : List Sym) (first ms : List Message) (b : List Sym) : Type 0 where
  pub goes : (home : Home) (fs : List Frame) (tg : List Name) (outer : Outer) (p : Primary) → Goes (Within home (Have tg (Plain outer) p first), fs) a (Within home (Have tg (Plain outer) p ms), fs) b

-- a binary message, of an operand or behind `;`
pub record ReadsBinary (a : List Sym) (m : Message) (b : List Sym) : Type 0 where
  pub goes : (home : Home) (fs : List Frame) (tg : List Name) (outer : Outer) (p : Primary) (ch : List Message) → Goes (Within home (Have tg (Plain outer) p ch), fs) a (Within home (Have tg (Plain outer) p (ch ++ m ∷ [])), fs) b
  pub again : (home : Home) (fs : List Frame) (tg : List Name) (r : Operand) (cs : List Message) → Goes (Within home (Again tg r cs), fs) a (Within home (Sent tg r (cs ++ m ∷ [])), fs) b

-- an operand with unary and binary messages
pub record ReadsArgument (a : List Sym) (o : Operand) (b : List Sym) : Type 0 where
  pub primary : Primary
  pub chain : List Message
  pub is : o ≡ operand primary chain
  pub goes : (home : Home) (fs : List Frame) (tg : List Name) (outer : Outer) → Goes (Within home (Want tg (Plain outer)), fs) a (Within home (Have tg (Plain outer) primary chain), fs) b

-- one keyword with its argument
pub record ReadsKeyword (a : List Sym) (at : ℕ) (text : List ℕ) (os : List Operand) (text' : List ℕ) (os' : List Operand) (b : List Sym) : Type 0 where
  pub word : List ℕ
  pub after : List Sym
  pub primary : Primary
  pub chain : List Message
  pub begins : a ≡ Key word at ∷ after
  pub text_is : text' ≡ text ++ word
  pub arguments : os' ≡ os ++ operand primary chain ∷ []
  pub goes : (home : Home) (fs : List Frame) (tg : List Name) (outer : Outer) → Goes (Within home (Want tg (Plain outer)), fs) after (Within home (Have tg (Plain outer) primary chain), fs) b

-- keywords with their arguments, so far
pub record SoFar (a : List Sym) (at : ℕ) (text : List ℕ) (os : List Operand) (b : List Sym) : Type 0 where
  pub word : List ℕ
  pub after : List Sym
  pub before : List Operand
  pub primary : Primary
  pub chain : List Message
  pub begins : a ≡ Key word at ∷ after
  pub arguments : os ≡ before ++ operand primary chain ∷ []
  pub goes : (home : Home) (fs : List Frame) (tg : List Name) (left : Left) → Goes (Within home (Want tg (Plain (Argument left (selector word at) []))), fs) after (Within home (Have tg (Plain (Argument left (selector text at) before)) primary chain), fs) b

-- a keyword message, of an operand or behind `;`
pub record ReadsKeywords (a : List Sym) (m : Message) (b : List Sym) : Type 0 where
  pub goes : (home : Home) (fs : List Frame) (tg : List Name) (p : Primary) (ch : List Message) → Goes (Within home (Have tg (Plain Receiver) p ch), fs) a (Within home (Sent tg (operand p (ch ++ m ∷ [])) []), fs) b
  pub again : (home : Home) (fs : List Frame) (tg : List Name) (r : Operand) (cs : List Message) → Goes (Within home (Again tg r cs), fs) a (Within home (Sent tg r (cs ++ m ∷ [])), fs) b

-- the last message of a receiver, if it is a keyword message, after which the receiver is whole
pub record ReadsLong (a : List Sym) (first ms : List Message) (b : List Sym) : Type 0 where
  pub goes : (home : Home) (fs : List Frame) (tg : List Name) (p : Primary) → Goes (Within home (Have tg (Plain Receiver) p first), fs) a (Within home (Sent tg (operand p ms) []), fs) b

pub record ReadsReceiver (a : List Sym) (o : Operand) (b : List Sym) : Type 0 where
  pub goes : (home : Home) (fs : List Frame) (tg : List Name) → Goes (Within home (Want tg (Plain Receiver)), fs) a (Within home (Sent tg o []), fs) b

pub record ReadsTargets (a : List Sym) (first ns : List Name) (b : List Sym) : Type 0 where
  pub goes : (home : Home) (fs : List Frame) → Goes (Within home (Start first), fs) a (Within home (Start ns), fs) b

-- a message behind `;`
pub record ReadsAgain (a : List Sym) (m : Message) (b : List Sym) : Type 0 where
  pub goes : (home : Home) (fs : List Frame) (tg : List Name) (r : Operand) (cs : List Message) → Goes (Within home (Again tg r cs), fs) a (Within home (Sent tg r (cs ++ m ∷ [])), fs) b

pub record ReadsCascade (a : List Sym) (first cs : List Message) (b : List Sym) : Type 0 where
  pub goes : (home : Home) (fs : List Frame) (tg : List Name) (r : Operand) → Goes (Within home (Sent tg r first), fs) a (Within home (Sent tg r cs), fs) b

pub record ReadsExpr (a : List Sym) (e : Expr) (b : List Sym) : Type 0 where
  pub targets : List Name
  pub receiver : Operand
  pub cascade : List Message
  pub is : e ≡ expr targets receiver cascade
  pub goes : (home : Home) (fs : List Frame) → Goes (Within home (Start []), fs) a (Within home (Sent targets receiver cascade), fs) b
  pub stops : NotSemicolon b

-- what is behind `(`
pub record ReadsInParens (a : List Sym) (p : Primary) (b : List Sym) : Type 0 where
  pub goes : (home : Home) (tg : List Name) (inner : Inner) (fs : List Frame) → Goes (Within Paren (Start []), Waits home tg inner ∷ fs) a (Within home (Have tg inner p []), fs) b

-- what is behind `[`
pub record ReadsBlock (start : ℕ) (a : List Sym) (p : Primary) (b : List Sym) : Type 0 where
  pub goes : (home : Home) (tg : List Name) (inner : Inner) (fs : List Frame) → Goes (Opened start [], Waits home tg inner ∷ fs) a (Within home (Have tg inner p []), fs) b

abbrev pub after_statement : Bool → Level → List Statement → Here
after_statement true level ss = Ended level ss
after_statement false level ss = Statements level ss

-- a statement, which is the last or not
pub record ReadsStatement (last : Bool) (a : List Sym) (first ss : List Statement) (b : List Sym) : Type 0 where
  pub goes : (level : Level) (fs : List Frame) → Goes (Statements level first, fs) a (after_statement last level ss, fs) b

-- statements, of which the last ends
pub record ReadsStatements (a : List Sym) (first ss : List Statement) (b : List Sym) : Type 0 where
  pub goes : (level : Level) (fs : List Frame) → Goes (Statements level first, fs) a (Ended level ss, fs) b

-- statements so far
pub record ReadsMore (a : List Sym) (first ss : List Statement) (b : List Sym) : Type 0 where
  pub goes : (level : Level) (fs : List Frame) → Goes (Statements level first, fs) a (Statements level ss, fs) b

-- names behind `:`
pub record ReadsParameters (a : List Sym) (first ns : List Name) (b : List Sym) : Type 0 where
  pub goes : (at : ℕ) (fs : List Frame) → Goes (Opened at first, fs) a (Opened at ns, fs) b

-- what a body is for, without its temporaries: a whole text with its pattern, or a block with its place and parameters
pub data Shell : Type 0 where
  OfText : Heading → Shell
  OfBlock : ℕ → List Name → Shell

abbrev pub level_of : Shell → List Name → Level
level_of (OfText heading) ts = Top heading ts
level_of (OfBlock at ns) ts = Block at ns ts

-- names between bars
pub record ReadsNames (a : List Sym) (first ns : List Name) (b : List Sym) : Type 0 where
  pub goes : (shell : Shell) (fs : List Frame) → Goes (Temporaries (level_of shell first), fs) a (Temporaries (level_of shell ns), fs) b

-- what is behind the opening bar of temporaries
pub record ReadsBetweenBars (a : List Sym) (first ns : List Name) (b : List Sym) : Type 0 where
  pub goes : (shell : Shell) (fs : List Frame) → Goes (Temporaries (level_of shell first), fs) a (Statements (level_of shell ns) [], fs) b

-- temporaries, if there are any, after which a statement may begin
pub record ReadsTemporaries (a : List Sym) (first ns : List Name) (b : List Sym) : Type 0 where
  pub goes : (shell : Shell) (fs : List Frame) → Goes (Fresh (level_of shell first), fs) a (Statements (level_of shell ns) [], fs) b

-- what is behind a block's parameters, if it has any, up to where a statement may begin
pub record ReadsOpening (ns : List Name) (a : List Sym) (ts : List Name) (b : List Sym) : Type 0 where
  pub goes : (start : ℕ) (fs : List Frame) → Goes (Opened start ns, fs) a (Statements (Block start ns ts) [], fs) b

-- there are parameters
abbrev pub is_named : List Name → Bool
is_named [] = false
is_named (n ∷ ns) = true

-- a block's parameters and temporaries
pub record ReadsHead (a : List Sym) (ns ts : List Name) (b : List Sym) : Type 0 where
  pub goes : (start : ℕ) (fs : List Frame) → Goes (Opened start [], fs) a (Statements (Block start ns ts) [], fs) b

-- the pattern of a method
pub record ReadsPattern (a : List Sym) (selector : List ℕ) (ns : List Name) (b : List Sym) : Type 0 where
  pub goes : (fs : List Frame) → Goes (Pattern, fs) a (Fresh (Top (Headed selector ns) []), fs) b

-- keywords with their parameters, so far
pub record ReadsHeading (a : List Sym) (selector : List ℕ) (ns : List Name) (b : List Sym) : Type 0 where
  pub goes : (fs : List Frame) → Goes (Pattern, fs) a (ParameterRead selector ns, fs) b

-- one keyword of a pattern with its parameter
pub record ReadsPart (a : List Sym) (text : List ℕ) (ns : List Name) (text' : List ℕ) (ns' : List Name) (b : List Sym) : Type 0 where
  pub first : text ≡ [] → ns ≡ [] → (fs : List Frame) → Goes (Pattern, fs) a (ParameterRead text' ns', fs) b
  pub more : (fs : List Frame) → Goes (ParameterRead text ns, fs) a (ParameterRead text' ns', fs) b

-- the tree of a whole text with this body
abbrev pub tree_with : Heading → Body → Tree
tree_with NoPattern b = BodyTree b
tree_with (Headed t ns) b = MethodTree (record { selector = t; parameters = ns; body = b })

-- the body behind a pattern, or without one, up to the end of the text
pub record ReadsBody (a : List Sym) (b : Body) : Type 0 where
  pub gives : (heading : Heading) (tree : Tree) → parse (Fresh (Top heading []), []) a ≡ Some tree → tree ≡ tree_with heading b
