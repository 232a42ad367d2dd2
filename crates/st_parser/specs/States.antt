-- What has been read of a method or a body, and what is open around it.
use Rattle.std.specs.Prelude.{ℕ, List, Bool}
use Rattle.st_tree.specs.declared.tree.Name.{Name}
use Rattle.st_tree.specs.declared.tree.Literal.{Literal}
use Rattle.st_tree.specs.declared.tree.Primary.{Primary}
use Rattle.st_tree.specs.declared.tree.Statement.{Statement}
use Rattle.st_tree.specs.declared.tree.Message.{Message}
use Rattle.st_tree.specs.declared.tree.Operand.{Operand}

-- a selector and where it begins
pub record Selector : Type 0 where
  pub text : List ℕ
  pub at : ℕ

-- what a keyword message is sent to: the receiver of the whole expression, or that of the messages behind `;`, with those before this one
pub data Left : Type 0 where
  First : Primary → List Message → Left
  Further : Operand → List Message → Left

-- what an operand with unary and binary messages is for: the receiver of the whole expression, or the last argument so far of a keyword message
pub data Outer : Type 0 where
  Receiver : Outer
  Argument : Left → Selector → List Operand → Outer

-- what an operand with unary messages is for: it takes binary messages too, or it is the argument of a binary message, or one behind `;`
pub data Inner : Type 0 where
  Plain : Outer → Inner
  Right : Outer → Primary → List Message → Selector → Inner
  FurtherRight : Operand → List Message → Selector → Inner

-- how far an expression is read; the names are its targets so far
pub data Place : Type 0 where
  Start : List Name → Place
  -- one name, which is a target if `:=` follows
  Bare : List Name → Name → Place
  -- an operand, which may go on
  Have : List Name → Inner → Primary → List Message → Place
  -- an operand comes next
  Want : List Name → Inner → Place
  -- `super`, to which a message comes next
  Super : List Name → Inner → Place
  -- `-`, and the byte where an integer comes next
  Signed : List Name → Inner → ℕ → Place
  -- a message comes next, behind `;`
  Again : List Name → Operand → List Message → Place
  -- a message behind `;` is whole
  Sent : List Name → Operand → List Message → Place

-- the pattern of a method, its selector and parameters
pub data Heading : Type 0 where
  NoPattern : Heading
  Headed : List ℕ → List Name → Heading

-- what a body is for, with its temporaries: the whole text, or a block with its place and parameters
pub data Level : Type 0 where
  Top : Heading → List Name → Level
  Block : ℕ → List Name → List Name → Level

-- what an expression stands in: parentheses, or a statement behind others, and whether behind `^`
pub data Home : Type 0 where
  Paren : Home
  Body : Level → List Statement → Bool → Home

-- what is read at the innermost level
pub data Here : Type 0 where
  -- a method's pattern begins; behind its operator; behind a keyword; behind a keyword's parameter
  Pattern : Here
  OperatorRead : List ℕ → Here
  KeywordRead : List ℕ → List Name → Here
  ParameterRead : List ℕ → List Name → Here
  -- a block up to its parameters; the name of a parameter comes next
  Opened : ℕ → List Name → Here
  Parameter : ℕ → List Name → Here
  -- temporaries or a statement may begin; between the bars of temporaries
  Fresh : Level → Here
  Temporaries : Level → Here
  -- a statement may begin; nothing follows the last statement
  Statements : Level → List Statement → Here
  Ended : Level → List Statement → Here
  Within : Home → Place → Here
  -- the items of an array; behind `-`, and the byte where an integer would be signed by it; behind keywords, with their text and end
  Elements : List Literal → Here
  Dash : List Literal → ℕ → Here
  Run : List Literal → List ℕ → ℕ → Here

-- what waits around it: an expression for a primary, or an array for an item
pub data Frame : Type 0 where
  Waits : Home → List Name → Inner → Frame
  Holds : List Literal → Frame

-- an expression without its last messages
pub record Whole : Type 0 where
  pub targets : List Name
  pub receiver : Operand
  pub cascade : List Message

-- what a token does to an expression
pub data Move : Type 0 where
  Next : Place → Move
  OpenArray : List Name → Inner → Move
  OpenParen : List Name → Inner → Move
  OpenBlock : ℕ → List Name → Inner → Move
