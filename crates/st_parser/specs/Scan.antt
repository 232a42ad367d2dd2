-- What each token does to a scan, by what is being read.
use Rattle.std.specs.Prelude.{◌≡◌, ℕ, ◌==◌, List, [], ◌∷◌, Bool, true, false, if◌then◌else◌, Option, Some, None}
use Rattle.st_parser.specs.declared.scan_state.Class.{Class}
use Rattle.st_parser.specs.declared.scan_state.Class.TheVariants as c
use Rattle.st_parser.specs.declared.scan_state.Owner.{Owner}
use Rattle.st_parser.specs.declared.scan_state.Owner.TheVariants as owner
use Rattle.st_parser.specs.declared.scan_state.Slot.{Slot}
use Rattle.st_parser.specs.declared.scan_state.Slot.TheVariants as slot
use Rattle.st_parser.specs.declared.scan_state.Spot.{Spot}
use Rattle.st_parser.specs.declared.scan_state.Spot.TheVariants as spot
use Rattle.st_parser.specs.declared.scan_state.Around.{Around}
use Rattle.st_parser.specs.declared.scan_state.Around.TheVariants as around
use Rattle.st_parser.specs.declared.scan_state.Now.{Now}
use Rattle.st_parser.specs.declared.scan_state.Now.TheVariants as now
use Rattle.st_parser.specs.declared.scan_state.Held.{Held}
use Rattle.st_parser.specs.declared.scan_state.Held.TheVariants as held
use Rattle.st_parser.specs.declared.scan_state.Turn.{Turn}
use Rattle.st_parser.specs.declared.scan_state.Turn.TheVariants as turn

abbrev pub have : Around → Slot → Bool → Turn
have a s plain = turn.Go (now.Within a (spot.Have s plain))

abbrev pub wanted : Around → Slot → Turn
wanted a s = turn.Go (now.Within a (spot.Want s))

-- an operand begins
abbrev pub want : Around → Slot → Class → Turn
want a s c.Name = have a s true
want a s c.Value = have a s true
want a s c.Super = turn.Go (now.Within a (spot.Super s))
want a s (c.Minus at) = turn.Go (now.Within a (spot.Signed s at))
want a s (c.Number at) = have a s true
want a s c.Literal = have a s true
want a s c.ArrayOpen = turn.Open (held.Operand a s) now.Elements
want a s c.ParenOpen = turn.Open (held.Operand a s) (now.Within around.Paren spot.Start)
want a s c.BlockOpen = turn.Open (held.Operand a s) (now.Opened true)
want a s _ = turn.Stuck

-- an expression begins
abbrev pub begin : Around → Class → Turn
begin a c.Name = turn.Go (now.Within a spot.Bare)
begin a k = want a slot.Receiver k

abbrev pub operator : Around → Slot → Turn
operator a slot.Receiver = wanted a slot.ReceiverRight
operator a slot.ReceiverRight = wanted a slot.ReceiverRight
operator a slot.Argument = wanted a slot.ArgumentRight
operator a slot.ArgumentRight = wanted a slot.ArgumentRight
operator a slot.FurtherRight = turn.Stuck

abbrev pub keyword : Around → Slot → Turn
keyword a slot.FurtherRight = turn.Stuck
keyword a _ = wanted a slot.Argument

abbrev pub semicolon : Around → Slot → Bool → Turn
semicolon a slot.Receiver true = turn.Stuck
semicolon a s plain = turn.Go (now.Within a spot.Again)

-- an operand goes on
abbrev pub more : Around → Slot → Bool → Class → Turn
more a s plain c.Name = have a s false
more a s plain c.Value = have a s false
more a s plain c.Super = have a s false
more a s plain c.Operator = operator a s
more a s plain (c.Minus at) = operator a s
more a s plain c.Bar = operator a s
more a s plain c.TwoBars = operator a s
more a s plain c.ThreeBars = operator a s
more a s plain c.Keyword = keyword a s
more a s plain c.Semicolon = semicolon a s plain
more a s plain _ = turn.Stuck

-- a name goes on
abbrev pub bare : Around → Class → Turn
bare a c.Assign = turn.Go (now.Within a spot.Start)
bare a k = more a slot.Receiver true k

-- an operator behind `super`
abbrev pub super_operator : Around → Slot → Turn
super_operator a slot.Receiver = wanted a slot.ReceiverRight
super_operator a slot.Argument = wanted a slot.ArgumentRight
super_operator a _ = turn.Stuck

-- a keyword behind `super`
abbrev pub super_keyword : Around → Slot → Turn
super_keyword a slot.Receiver = wanted a slot.Argument
super_keyword a _ = turn.Stuck

-- a message to `super` begins
abbrev pub super_goes : Around → Slot → Class → Turn
super_goes a s c.Name = have a s false
super_goes a s c.Value = have a s false
super_goes a s c.Super = have a s false
super_goes a s c.Operator = super_operator a s
super_goes a s (c.Minus at) = super_operator a s
super_goes a s c.Bar = super_operator a s
super_goes a s c.TwoBars = super_operator a s
super_goes a s c.ThreeBars = super_operator a s
super_goes a s c.Keyword = super_keyword a s
super_goes a s _ = turn.Stuck

-- an integer comes directly behind `-`
abbrev pub signed : Around → Slot → ℕ → Class → Turn
signed a s at (c.Number begin) = if begin == at then have a s true else turn.Stuck
signed a s at _ = turn.Stuck

-- a message comes behind `;`
abbrev pub resend : Around → Class → Turn
resend a c.Name = turn.Go (now.Within a spot.Sent)
resend a c.Value = turn.Go (now.Within a spot.Sent)
resend a c.Super = turn.Go (now.Within a spot.Sent)
resend a c.Operator = wanted a slot.FurtherRight
resend a (c.Minus at) = wanted a slot.FurtherRight
resend a c.Bar = wanted a slot.FurtherRight
resend a c.TwoBars = wanted a slot.FurtherRight
resend a c.ThreeBars = wanted a slot.FurtherRight
resend a c.Keyword = wanted a slot.Argument
resend a _ = turn.Stuck

abbrev pub sent : Around → Class → Turn
sent a c.Semicolon = turn.Go (now.Within a spot.Again)
sent a _ = turn.Stuck

abbrev pub move : Around → Spot → Class → Turn
move a spot.Start k = begin a k
move a spot.Bare k = bare a k
move a (spot.Have s plain) k = more a s plain k
move a (spot.Want s) k = want a s k
move a (spot.Super s) k = super_goes a s k
move a (spot.Signed s at) k = signed a s at k
move a spot.Again k = resend a k
move a spot.Sent k = sent a k

-- whether the expression can end here
abbrev pub whole : Spot → Bool
whole spot.Bare = true
whole (spot.Have s plain) = true
whole spot.Sent = true
whole _ = false

abbrev pub close_paren : Around → Turn
close_paren around.Paren = turn.Close
close_paren (around.Body o r) = turn.Stuck

abbrev pub close_level : Owner → Turn
close_level owner.Block = turn.Close
close_level owner.Text = turn.Stuck

abbrev pub close_block : Around → Turn
close_block around.Paren = turn.Stuck
close_block (around.Body o r) = close_level o

abbrev pub period : Around → Turn
period around.Paren = turn.Stuck
period (around.Body o true) = turn.Go (now.Ended o)
period (around.Body o false) = turn.Go (now.Statements o)

-- a token within an expression
abbrev pub within : Around → Spot → Class → Turn
within a p c.ParenClose = if whole p then close_paren a else turn.Stuck
within a p c.BlockClose = if whole p then close_block a else turn.Stuck
within a p c.Period = if whole p then period a else turn.Stuck
within a p k = move a p k

abbrev pub statements : Owner → Class → Turn
statements o c.Caret = turn.Go (now.Within (around.Body o true) spot.Start)
statements o c.BlockClose = close_level o
statements o k = begin (around.Body o false) k

abbrev pub ended : Owner → Class → Turn
ended o c.BlockClose = close_level o
ended o _ = turn.Stuck

-- temporaries, or a statement
abbrev pub fresh : Owner → Class → Turn
fresh o c.Bar = turn.Go (now.Temporaries o)
fresh o c.TwoBars = turn.Go (now.Statements o)
fresh o k = statements o k

abbrev pub temporaries : Owner → Class → Turn
temporaries o c.Name = turn.Go (now.Temporaries o)
temporaries o c.Bar = turn.Go (now.Statements o)
temporaries o _ = turn.Stuck

abbrev pub after_parameters : Class → Turn
after_parameters c.Bar = turn.Go (now.Fresh owner.Block)
after_parameters c.TwoBars = turn.Go (now.Temporaries owner.Block)
after_parameters c.ThreeBars = turn.Go (now.Statements owner.Block)
after_parameters c.BlockClose = turn.Close
after_parameters _ = turn.Stuck

abbrev pub opened : Bool → Class → Turn
opened plain c.Colon = turn.Go now.Parameter
opened true k = fresh owner.Block k
opened false k = after_parameters k

abbrev pub parameter : Class → Turn
parameter c.Name = turn.Go (now.Opened false)
parameter _ = turn.Stuck

-- an item of an array, or its end
abbrev pub elements : Class → Turn
elements c.Name = turn.Go now.Elements
elements c.Value = turn.Go now.Elements
elements c.Super = turn.Go now.Elements
elements c.Keyword = turn.Go now.Elements
elements c.Operator = turn.Go now.Elements
elements (c.Minus at) = turn.Go (now.Dash at)
elements c.Bar = turn.Go now.Elements
elements c.TwoBars = turn.Go now.Elements
elements c.ThreeBars = turn.Go now.Elements
elements (c.Number at) = turn.Go now.Elements
elements c.Literal = turn.Go now.Elements
elements c.ArrayOpen = turn.Open held.Array now.Elements
elements c.ParenOpen = turn.Open held.Array now.Elements
elements c.ParenClose = turn.CloseArray
elements _ = turn.Stuck

-- the first token of a method
abbrev pub pattern : Class → Turn
pattern c.Name = turn.Go (now.Fresh owner.Text)
pattern c.Value = turn.Go (now.Fresh owner.Text)
pattern c.Super = turn.Go (now.Fresh owner.Text)
pattern c.Operator = turn.Go now.OperatorRead
pattern (c.Minus at) = turn.Go now.OperatorRead
pattern c.Bar = turn.Go now.OperatorRead
pattern c.TwoBars = turn.Go now.OperatorRead
pattern c.ThreeBars = turn.Go now.OperatorRead
pattern c.Keyword = turn.Go now.KeywordRead
pattern _ = turn.Stuck

-- a parameter, and what is read behind it
abbrev pub named : Now → Class → Turn
named n c.Name = turn.Go n
named n _ = turn.Stuck

abbrev pub parameter_read : Class → Turn
parameter_read c.Keyword = turn.Go now.KeywordRead
parameter_read k = fresh owner.Text k

-- what a token does
abbrev pub turn_at : Now → Class → Turn
turn_at now.Pattern k = pattern k
turn_at now.OperatorRead k = named (now.Fresh owner.Text) k
turn_at now.KeywordRead k = named now.ParameterRead k
turn_at now.ParameterRead k = parameter_read k
turn_at (now.Opened plain) k = opened plain k
turn_at now.Parameter k = parameter k
turn_at (now.Fresh o) k = fresh o k
turn_at (now.Temporaries o) k = temporaries o k
turn_at (now.Statements o) k = statements o k
turn_at (now.Ended o) k = ended o k
turn_at (now.Within a p) k = within a p k
turn_at now.Elements k = elements k
turn_at (now.Dash at) k = elements k

-- whether a body of the whole text can end here
abbrev pub ends_body : Owner → Bool
ends_body owner.Text = true
ends_body owner.Block = false

abbrev pub ends_within : Around → Spot → Bool
ends_within (around.Body owner.Text r) p = whole p
ends_within a p = false

-- whether the text can end here, where nothing waits
abbrev pub can_end : Now → Bool
can_end now.ParameterRead = true
can_end (now.Fresh o) = ends_body o
can_end (now.Statements o) = ends_body o
can_end (now.Ended o) = ends_body o
can_end (now.Within a p) = ends_within a p
can_end _ = false

-- what is read after a token, and what waits around it, the innermost first
abbrev pub apply_turn : Turn → List Held → Option (Now × List Held)
apply_turn turn.Stuck hs = None
apply_turn (turn.Go n) hs = Some (n, hs)
apply_turn (turn.Open h n) hs = Some (n, h ∷ hs)
apply_turn turn.Close [] = None
apply_turn turn.Close (held.Operand a s ∷ hs) = Some (now.Within a (spot.Have s true), hs)
apply_turn turn.Close (held.Array ∷ hs) = None
apply_turn turn.CloseArray [] = None
apply_turn turn.CloseArray (held.Operand a s ∷ hs) = Some (now.Within a (spot.Have s true), hs)
apply_turn turn.CloseArray (held.Array ∷ hs) = Some (now.Elements, hs)

abbrev pub Applies : Option (Now × List Held) → Option Now → List Held → Type 0
Applies m None hs = m ≡ None
Applies m (Some n) hs = m ≡ Some (n, hs)

-- whether the text can end here
abbrev pub ends_at : Now → List Held → Bool
ends_at n [] = can_end n
ends_at n (h ∷ _) = false
