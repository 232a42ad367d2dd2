-- The machine that says of each token whether it can stand, and gathers the tree.
use Rattle.std.specs.Prelude.{ℕ, ◌^◌, List, [], ◌∷◌, ◌++◌, true, false, if◌then◌else◌, nat_lt, nat_le, ◌+◌, ◌==◌, length, Option, Some, None, option_and_then}
use Rattle.st_tree.specs.declared.tree.Name.{Name}
use Rattle.st_tree.specs.declared.tree.Literal.{Literal}
use Rattle.st_tree.specs.declared.tree.Literal.TheVariants as literal
use Rattle.st_tree.specs.declared.tree.Primary.{Primary}
use Rattle.st_tree.specs.declared.tree.Primary.TheVariants as primary
use Rattle.st_tree.specs.declared.tree.Statement.{Statement}
use Rattle.st_tree.specs.declared.tree.Expr.{Expr}
use Rattle.st_tree.specs.declared.tree.Message.{Message}
use Rattle.st_tree.specs.declared.tree.Operand.{Operand}
use Rattle.st_tree.specs.Symbols.{Sym, Id, Key, Op, Minus, Bar, TwoBars, ThreeBars, Num, Lit, ArrayOpen, ParenOpen, ParenClose, BlockOpen, BlockClose, Colon, Assign, Caret, Period, Semicolon, Role, IsName, IsValue, IsSuper, role, word_item}
use Rattle.st_tree.specs.Trees.{name, variable, integer, negative, array, constant, message, operand, expr, body, block, paren, stated}
use Rattle.st_tree.specs.Grammar.{Production, AMethod, ABody, Tree, MethodTree, BodyTree}
pub use Rattle.st_parser.specs.States.{Selector, Left, First, Further, Outer, Receiver, Argument, Inner, Plain, Right, FurtherRight, Place, Start, Bare, Have, Want, Super, Signed, Again, Sent, Heading, NoPattern, Headed, Level, Top, Block, Home, Paren, Body, Here, Pattern, OperatorRead, KeywordRead, ParameterRead, Opened, Parameter, Fresh, Temporaries, Statements, Ended, Within, Elements, Dash, Run, Frame, Waits, Holds, Whole, Move, Next, OpenArray, OpenParen, OpenBlock}

abbrev pub selector : List ℕ → ℕ → Selector
selector t at = record { text = t; at = at }

abbrev pub joined : Selector → List ℕ → Selector
joined s t = record { text = s.text ++ t; at = s.at }

abbrev pub with_binary : List Message → Selector → Primary → List Message → List Message
with_binary qs s p ch = qs ++ message s.text s.at (operand p ch ∷ []) ∷ []

abbrev pub finish_left : List Name → Left → Message → Whole
finish_left tg (First q qs) m = record { targets = tg; receiver = operand q (qs ++ m ∷ []); cascade = [] }
finish_left tg (Further r cs) m = record { targets = tg; receiver = r; cascade = cs ++ m ∷ [] }

abbrev pub finish_outer : List Name → Outer → Primary → List Message → Whole
finish_outer tg Receiver p ch = record { targets = tg; receiver = operand p ch; cascade = [] }
finish_outer tg (Argument left s os) p ch = finish_left tg left (message s.text s.at (os ++ operand p ch ∷ []))

abbrev pub finish : List Name → Inner → Primary → List Message → Whole
finish tg (Plain outer) p ch = finish_outer tg outer p ch
finish tg (Right outer q qs s) p ch = finish_outer tg outer q (with_binary qs s p ch)
finish tg (FurtherRight r cs s) p ch = record { targets = tg; receiver = r; cascade = with_binary cs s p ch }

-- the expression, if it can end here
abbrev pub whole : Place → Option Whole
whole (Start tg) = None
whole (Bare tg n) = Some (finish tg (Plain Receiver) (variable n) [])
whole (Have tg inner p ch) = Some (finish tg inner p ch)
whole (Want tg inner) = None
whole (Super tg inner) = None
whole (Signed tg inner at) = None
whole (Again tg r cs) = None
whole (Sent tg r cs) = Some (record { targets = tg; receiver = r; cascade = cs })

abbrev pub after_operator : List Name → Inner → Primary → List Message → Selector → Option Move
after_operator tg (Plain outer) p ch s = Some (Next (Want tg (Right outer p ch s)))
after_operator tg (Right outer q qs s') p ch s = Some (Next (Want tg (Right outer q (with_binary qs s' p ch) s)))
after_operator tg (FurtherRight r cs s') p ch s = None

abbrev pub keyword_outer : List Name → Outer → Primary → List Message → List ℕ → ℕ → Move
keyword_outer tg Receiver p ch t at = Next (Want tg (Plain (Argument (First p ch) (selector t at) [])))
keyword_outer tg (Argument left s os) p ch t at = Next (Want tg (Plain (Argument left (joined s t) (os ++ operand p ch ∷ []))))

abbrev pub after_keyword : List Name → Inner → Primary → List Message → List ℕ → ℕ → Option Move
after_keyword tg (Plain outer) p ch t at = Some (keyword_outer tg outer p ch t at)
after_keyword tg (Right outer q qs s) p ch t at = Some (keyword_outer tg outer q (with_binary qs s p ch) t at)
after_keyword tg (FurtherRight r cs s) p ch t at = None

abbrev pub again : Whole → Option Move
again w = Some (Next (Again w.targets w.receiver w.cascade))

abbrev pub again_outer : List Name → Outer → Primary → List Message → Option Move
again_outer tg Receiver p [] = None
again_outer tg Receiver p (m ∷ ms) = again (finish_outer tg Receiver p (m ∷ ms))
again_outer tg (Argument left s os) p ch = again (finish_outer tg (Argument left s os) p ch)

abbrev pub after_semicolon : List Name → Inner → Primary → List Message → Option Move
after_semicolon tg (Plain outer) p ch = again_outer tg outer p ch
after_semicolon tg (Right outer q qs s) p ch = again_outer tg outer q (with_binary qs s p ch)
after_semicolon tg (FurtherRight r cs s) p ch = again (finish tg (FurtherRight r cs s) p ch)

-- an operand goes on
abbrev pub have : List Name → Inner → Primary → List Message → Sym → Option Move
have tg inner p ch (Id t at) = Some (Next (Have tg inner p (ch ++ message t at [] ∷ [])))
have tg inner p ch (Op t at) = after_operator tg inner p ch (selector t at)
have tg inner p ch (Minus at) = after_operator tg inner p ch (selector (45 ∷ []) at)
have tg inner p ch (Bar at) = after_operator tg inner p ch (selector (124 ∷ []) at)
have tg inner p ch (TwoBars at) = after_operator tg inner p ch (selector (124 ∷ 124 ∷ []) at)
have tg inner p ch (ThreeBars at) = after_operator tg inner p ch (selector (124 ∷ 124 ∷ 124 ∷ []) at)
have tg inner p ch (Key t at) = after_keyword tg inner p ch t at
have tg inner p ch Semicolon = after_semicolon tg inner p ch
have tg inner p ch _ = None

abbrev pub word : List Name → Inner → Role → List ℕ → ℕ → Option Move
word tg inner IsName t at = Some (Next (Have tg inner (variable (name t at)) []))
word tg inner (IsValue p) t at = Some (Next (Have tg inner p []))
word tg inner IsSuper t at = Some (Next (Super tg inner))

-- an operand begins
abbrev pub want : List Name → Inner → Sym → Option Move
want tg inner (Id t at) = word tg inner (role t) t at
want tg inner (Num n at) = if nat_lt n (2 ^ 127) then Some (Next (Have tg inner (constant (integer n)) [])) else None
want tg inner (Minus at) = Some (Next (Signed tg inner (at + 1)))
want tg inner (Lit l) = Some (Next (Have tg inner (constant l) []))
want tg inner ArrayOpen = Some (OpenArray tg inner)
want tg inner ParenOpen = Some (OpenParen tg inner)
want tg inner (BlockOpen at) = Some (OpenBlock at tg inner)
want tg inner _ = None

abbrev pub first_word : List Name → Role → List ℕ → ℕ → Option Move
first_word tg IsName t at = Some (Next (Bare tg (name t at)))
first_word tg (IsValue p) t at = word tg (Plain Receiver) (IsValue p) t at
first_word tg IsSuper t at = Some (Next (Super tg (Plain Receiver)))

abbrev pub begin : List Name → Sym → Option Move
begin tg (Id t at) = first_word tg (role t) t at
begin tg s = want tg (Plain Receiver) s

abbrev pub bare : List Name → Name → Sym → Option Move
bare tg n Assign = Some (Next (Start (tg ++ n ∷ [])))
bare tg n s = have tg (Plain Receiver) (variable n) [] s

abbrev pub resend : List Name → Operand → List Message → Sym → Option Move
resend tg r cs (Id t at) = Some (Next (Sent tg r (cs ++ message t at [] ∷ [])))
resend tg r cs (Op t at) = Some (Next (Want tg (FurtherRight r cs (selector t at))))
resend tg r cs (Minus at) = Some (Next (Want tg (FurtherRight r cs (selector (45 ∷ []) at))))
resend tg r cs (Bar at) = Some (Next (Want tg (FurtherRight r cs (selector (124 ∷ []) at))))
resend tg r cs (TwoBars at) = Some (Next (Want tg (FurtherRight r cs (selector (124 ∷ 124 ∷ []) at))))
resend tg r cs (ThreeBars at) = Some (Next (Want tg (FurtherRight r cs (selector (124 ∷ 124 ∷ 124 ∷ []) at))))
resend tg r cs (Key t at) = Some (Next (Want tg (Plain (Argument (Further r cs) (selector t at) []))))
resend tg r cs _ = None

abbrev pub sent : List Name → Operand → List Message → Sym → Option Move
sent tg r cs Semicolon = Some (Next (Again tg r cs))
sent tg r cs _ = None

-- a message to `super` begins
abbrev pub super_goes : List Name → Inner → Sym → Option Move
super_goes tg inner (Id t at) = have tg inner primary.SuperValue [] (Id t at)
super_goes tg (Plain outer) (Op t at) = have tg (Plain outer) primary.SuperValue [] (Op t at)
super_goes tg (Plain outer) (Minus at) = have tg (Plain outer) primary.SuperValue [] (Minus at)
super_goes tg (Plain outer) (Bar at) = have tg (Plain outer) primary.SuperValue [] (Bar at)
super_goes tg (Plain outer) (TwoBars at) = have tg (Plain outer) primary.SuperValue [] (TwoBars at)
super_goes tg (Plain outer) (ThreeBars at) = have tg (Plain outer) primary.SuperValue [] (ThreeBars at)
super_goes tg (Plain Receiver) (Key t at) = have tg (Plain Receiver) primary.SuperValue [] (Key t at)
super_goes tg inner s = None

abbrev pub negated : List Name → Inner → ℕ → Option Move
negated tg inner n = if nat_le n (2 ^ 127) then Some (Next (Have tg inner (constant (negative n)) [])) else None

-- an integer comes directly behind `-`
abbrev pub signed : List Name → Inner → ℕ → Sym → Option Move
signed tg inner at (Num n n_at) = if n_at == at then negated tg inner n else None
signed tg inner at s = None

abbrev pub move : Place → Sym → Option Move
move (Start tg) s = begin tg s
move (Bare tg n) s = bare tg n s
move (Have tg inner p ch) s = have tg inner p ch s
move (Want tg inner) s = want tg inner s
move (Super tg inner) s = super_goes tg inner s
move (Signed tg inner at) s = signed tg inner at s
move (Again tg r cs) s = resend tg r cs s
move (Sent tg r cs) s = sent tg r cs s

-- what is read at the innermost level, and what waits around it, the innermost first
abbrev pub State : Type 0
State = Here × List Frame

abbrev pub moved : Home → List Frame → Option Move → Option State
moved home fs None = None
moved home fs (Some (Next place)) = Some (Within home place, fs)
moved home fs (Some (OpenArray tg inner)) = Some (Elements [], Waits home tg inner ∷ fs)
moved home fs (Some (OpenParen tg inner)) = Some (Within Paren (Start []), Waits home tg inner ∷ fs)
moved home fs (Some (OpenBlock at tg inner)) = Some (Opened at [], Waits home tg inner ∷ fs)

-- a level ends, and is a primary of the expression around it
abbrev pub up : List Frame → Primary → Option State
up [] p = None
up (Waits home tg inner ∷ fs) p = Some (Within home (Have tg inner p []), fs)
up (Holds items ∷ fs) p = None

-- an array ends, and is a primary of the expression or an item of the array around it
abbrev pub close_array : List Frame → List Literal → Option State
close_array [] ls = None
close_array (Waits home tg inner ∷ fs) ls = Some (Within home (Have tg inner (constant (array ls)) []), fs)
close_array (Holds items ∷ fs) ls = Some (Elements (items ++ array ls ∷ []), fs)

-- an item of an array is whole
abbrev pub with_item : List Literal → Literal → List Frame → Option State
with_item items l fs = Some (Elements (items ++ l ∷ []), fs)

-- an item begins
abbrev pub elements : List Literal → List Frame → Sym → Option State
elements items fs (Id t at) = with_item items (word_item t) fs
elements items fs (Key t at) = Some (Run items t (at + length t), fs)
elements items fs (Op t at) = with_item items (literal.Symbol t) fs
elements items fs (Minus at) = Some (Dash items (at + 1), fs)
elements items fs (Bar at) = with_item items (literal.Symbol (124 ∷ [])) fs
elements items fs (TwoBars at) = with_item items (literal.Symbol (124 ∷ 124 ∷ [])) fs
elements items fs (ThreeBars at) = with_item items (literal.Symbol (124 ∷ 124 ∷ 124 ∷ [])) fs
elements items fs (Num n at) = if nat_lt n (2 ^ 127) then with_item items (integer n) fs else None
elements items fs (Lit l) = with_item items l fs
elements items fs ArrayOpen = Some (Elements [], Holds items ∷ fs)
elements items fs ParenOpen = Some (Elements [], Holds items ∷ fs)
elements items fs ParenClose = close_array fs items
elements items fs s = None

abbrev pub negated_item : List Literal → ℕ → List Frame → Option State
negated_item items n fs = if nat_le n (2 ^ 127) then with_item items (negative n) fs else None

-- behind `-`: the integer that it signs, or else it was a symbol
abbrev pub dash : List Literal → ℕ → List Frame → Sym → Option State
dash items at fs (Num n n_at) = if n_at == at then negated_item items n fs else elements (items ++ literal.Symbol (45 ∷ []) ∷ []) fs (Num n n_at)
dash items at fs s = elements (items ++ literal.Symbol (45 ∷ []) ∷ []) fs s

-- behind keywords: one more without a gap, or else their symbol was whole
abbrev pub keyword_run : List Literal → List ℕ → ℕ → List Frame → Sym → Option State
keyword_run items t end fs (Key u at) = if at == end then Some (Run items (t ++ u) (at + length u), fs) else elements (items ++ literal.Symbol t ∷ []) fs (Key u at)
keyword_run items t end fs s = elements (items ++ literal.Symbol t ∷ []) fs s

abbrev pub expr_of : Whole → Expr
expr_of w = expr w.targets w.receiver w.cascade

abbrev pub close_paren : Home → List Frame → Option Whole → Option State
close_paren Paren fs (Some w) = up fs (paren (expr_of w))
close_paren Paren fs None = None
close_paren (Body level done returns) fs w = None

abbrev pub period : Home → List Frame → Option Whole → Option State
period (Body level done true) fs (Some w) = Some (Ended level (done ++ stated true (expr_of w) ∷ []), fs)
period (Body level done false) fs (Some w) = Some (Statements level (done ++ stated false (expr_of w) ∷ []), fs)
period (Body level done returns) fs None = None
period Paren fs w = None

abbrev pub close_level : Level → List Frame → List Statement → Option State
close_level (Top heading ts) fs ss = None
close_level (Block at ns ts) fs ss = up fs (block at ns ts ss)

abbrev pub close_block : Home → List Frame → Option Whole → Option State
close_block (Body level done returns) fs (Some w) = close_level level fs (done ++ stated returns (expr_of w) ∷ [])
close_block (Body level done returns) fs None = None
close_block Paren fs w = None

abbrev pub statements : Level → List Statement → List Frame → Sym → Option State
statements level done fs Caret = Some (Within (Body level done true) (Start []), fs)
statements level done fs BlockClose = close_level level fs done
statements level done fs s = moved (Body level done false) fs (begin [] s)

abbrev pub ended : Level → List Statement → List Frame → Sym → Option State
ended level done fs BlockClose = close_level level fs done
ended level done fs s = None

-- temporaries, or a statement
abbrev pub fresh : Level → List Frame → Sym → Option State
fresh level fs (Bar at) = Some (Temporaries level, fs)
fresh level fs (TwoBars at) = Some (Statements level [], fs)
fresh level fs s = statements level [] fs s

abbrev pub with_temporary : Level → Name → Level
with_temporary (Top heading ts) n = Top heading (ts ++ n ∷ [])
with_temporary (Block at ns ts) n = Block at ns (ts ++ n ∷ [])

abbrev pub temporary_word : Level → List Frame → Role → List ℕ → ℕ → Option State
temporary_word level fs IsName t at = Some (Temporaries (with_temporary level (name t at)), fs)
temporary_word level fs _ t at = None

abbrev pub temporaries : Level → List Frame → Sym → Option State
temporaries level fs (Id t at) = temporary_word level fs (role t) t at
temporaries level fs (Bar at) = Some (Statements level [], fs)
temporaries level fs s = None

abbrev pub after_parameters : ℕ → List Name → List Frame → Sym → Option State
after_parameters at ns fs (Bar bar_at) = Some (Fresh (Block at ns []), fs)
after_parameters at ns fs (TwoBars bar_at) = Some (Temporaries (Block at ns []), fs)
after_parameters at ns fs (ThreeBars bar_at) = Some (Statements (Block at ns []) [], fs)
after_parameters at ns fs BlockClose = up fs (block at ns [] [])
after_parameters at ns fs s = None

abbrev pub opened : ℕ → List Name → List Frame → Sym → Option State
opened at ns fs Colon = Some (Parameter at ns, fs)
opened at [] fs s = fresh (Block at [] []) fs s
opened at (n ∷ ns) fs s = after_parameters at (n ∷ ns) fs s

abbrev pub parameter_word : ℕ → List Name → List Frame → Role → List ℕ → ℕ → Option State
parameter_word at ns fs IsName t n_at = Some (Opened at (ns ++ name t n_at ∷ []), fs)
parameter_word at ns fs _ t n_at = None

abbrev pub parameter : ℕ → List Name → List Frame → Sym → Option State
parameter at ns fs (Id t n_at) = parameter_word at ns fs (role t) t n_at
parameter at ns fs s = None

-- the pattern of a method
abbrev pub pattern : List Frame → Sym → Option State
pattern fs (Id t at) = Some (Fresh (Top (Headed t []) []), fs)
pattern fs (Key t at) = Some (KeywordRead t [], fs)
pattern fs (Op t at) = Some (OperatorRead t, fs)
pattern fs (Minus at) = Some (OperatorRead (45 ∷ []), fs)
pattern fs (Bar at) = Some (OperatorRead (124 ∷ []), fs)
pattern fs (TwoBars at) = Some (OperatorRead (124 ∷ 124 ∷ []), fs)
pattern fs (ThreeBars at) = Some (OperatorRead (124 ∷ 124 ∷ 124 ∷ []), fs)
pattern fs s = None

abbrev pub operator_word : List ℕ → List Frame → Role → List ℕ → ℕ → Option State
operator_word t fs IsName u at = Some (Fresh (Top (Headed t (name u at ∷ [])) []), fs)
operator_word t fs _ u at = None

abbrev pub operator_read : List ℕ → List Frame → Sym → Option State
operator_read t fs (Id u at) = operator_word t fs (role u) u at
operator_read t fs s = None

abbrev pub keyword_word : List ℕ → List Name → List Frame → Role → List ℕ → ℕ → Option State
keyword_word t ns fs IsName u at = Some (ParameterRead t (ns ++ name u at ∷ []), fs)
keyword_word t ns fs _ u at = None

abbrev pub keyword_read : List ℕ → List Name → List Frame → Sym → Option State
keyword_read t ns fs (Id u at) = keyword_word t ns fs (role u) u at
keyword_read t ns fs s = None

abbrev pub parameter_read : List ℕ → List Name → List Frame → Sym → Option State
parameter_read t ns fs (Key u at) = Some (KeywordRead (t ++ u) ns, fs)
parameter_read t ns fs s = fresh (Top (Headed t ns) []) fs s

abbrev pub within : Home → Place → List Frame → Sym → Option State
within home place fs ParenClose = close_paren home fs (whole place)
within home place fs BlockClose = close_block home fs (whole place)
within home place fs Period = period home fs (whole place)
within home place fs s = moved home fs (move place s)

abbrev pub step_at : Here → List Frame → Sym → Option State
step_at Pattern fs s = pattern fs s
step_at (OperatorRead t) fs s = operator_read t fs s
step_at (KeywordRead t ns) fs s = keyword_read t ns fs s
step_at (ParameterRead t ns) fs s = parameter_read t ns fs s
step_at (Opened at ns) fs s = opened at ns fs s
step_at (Parameter at ns) fs s = parameter at ns fs s
step_at (Fresh level) fs s = fresh level fs s
step_at (Temporaries level) fs s = temporaries level fs s
step_at (Statements level done) fs s = statements level done fs s
step_at (Ended level done) fs s = ended level done fs s
step_at (Within home place) fs s = within home place fs s
step_at (Elements items) fs s = elements items fs s
step_at (Dash items at) fs s = dash items at fs s
step_at (Run items t end) fs s = keyword_run items t end fs s

-- the state after a token, or none where the token can't stand
abbrev pub step : State → Sym → Option State
step state s = step_at state.0 state.1 s

abbrev pub tree_of : Heading → List Name → List Statement → Tree
tree_of NoPattern ts ss = BodyTree (body ts ss)
tree_of (Headed t ns) ts ss = MethodTree (record { selector = t; parameters = ns; body = body ts ss })

abbrev pub accept_within : Home → List Frame → Option Whole → Option Tree
accept_within (Body (Top heading ts) done returns) [] (Some w) = Some (tree_of heading ts (done ++ stated returns (expr_of w) ∷ []))
accept_within home fs w = None

-- the tree, if the text can end here
abbrev pub accept : State → Option Tree
accept (ParameterRead t ns, []) = Some (tree_of (Headed t ns) [] [])
accept (Fresh (Top heading ts), []) = Some (tree_of heading ts [])
accept (Statements (Top heading ts) done, []) = Some (tree_of heading ts done)
accept (Ended (Top heading ts) done, []) = Some (tree_of heading ts done)
accept (Within home place, fs) = accept_within home fs (whole place)
accept (h, fs) = None

abbrev pub parse : State → List Sym → Option Tree
parse state [] = accept state
parse state (s ∷ ss) = option_and_then (λ next. parse next ss) (step state s)

abbrev pub start : Production → State
start AMethod = (Pattern, [])
start ABody = (Fresh (Top NoPattern []), [])

-- the state after several tokens, if each can stand
abbrev pub run : State → List Sym → Option State
run state [] = Some state
run state (s ∷ ss) = option_and_then (λ next. run next ss) (step state s)
