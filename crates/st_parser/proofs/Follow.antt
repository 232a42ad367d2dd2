-- What may follow a part, and how the machine stands there.
use Rattle.std.proofs.Common.{◌≡◌, ℕ, List, [], ◌∷◌, ◌++◌, Bool, true, false, refl, ap, sym, ◌∙◌, append-nil, append_assoc, ◌+◌, ◌<◌, ◌≤◌, ◌^◌, Some, None, if◌then◌else◌}
use Rattle.std.specs.Prelude.{option_and_then}
use Rattle.std.proofs.lemmas.Bool.{eq-eqb, lt-ltb, le-leb}
use Rattle.st_tree.specs.declared.tree.Name.{Name}
use Rattle.st_tree.specs.declared.tree.Primary.{Primary}
use Rattle.st_tree.specs.declared.tree.Primary.TheVariants as primary
use Rattle.st_tree.specs.declared.tree.Statement.{Statement}
use Rattle.st_tree.specs.declared.tree.Message.{Message}
use Rattle.st_tree.specs.declared.tree.Operand.{Operand}
use Rattle.st_tree.specs.Symbols.{Sym, Id, Key, Op, Minus, Bar, TwoBars, ThreeBars, Num, Lit, ArrayOpen, ParenOpen, ParenClose, BlockOpen, BlockClose, Colon, Assign, Period, Semicolon, IsName, IsValue, IsSuper, role, IsOp, op, minus, bar, two_bars, three_bars}
use Rattle.st_tree.specs.Trees.{name, variable, integer, negative, constant, message, operand, expr, block, stated}
use Rattle.st_tree.specs.Grammar as g
use Rattle.st_tree.specs.Grammar.{Production, AMethod, ABody, Tree, MethodTree, BodyTree}
use Rattle.st_parser.specs.Machine.{Selector, Left, Outer, Receiver, Argument, Inner, Plain, Right, FurtherRight, Start, Bare, Have, Want, Super, Sent, Level, Top, Block, Home, Body, Opened, Parameter, Fresh, Temporaries, Statements, Ended, Within, Frame, Waits, Next, finish, finish_left, with_binary, parse, moved, first_word, word, negated, parameter_word, selector, temporary_word, with_temporary}

-- an expression ends here
abbrev pub Ends : List Sym → Type 0
Ends [] = Unit {0}
Ends (ParenClose ∷ a) = Unit {0}
Ends (BlockClose ∷ a) = Unit {0}
Ends (Period ∷ a) = Unit {0}
Ends (s ∷ a) = ⊥

-- a message ends here
abbrev pub Closes : List Sym → Type 0
Closes [] = Unit {0}
Closes (ParenClose ∷ a) = Unit {0}
Closes (BlockClose ∷ a) = Unit {0}
Closes (Period ∷ a) = Unit {0}
Closes (Semicolon ∷ a) = Unit {0}
Closes (s ∷ a) = ⊥

-- a body ends here
abbrev pub EndsBody : List Sym → Type 0
EndsBody [] = Unit {0}
EndsBody (BlockClose ∷ a) = Unit {0}
EndsBody (s ∷ a) = ⊥

abbrev pub NotId : List Sym → Type 0
NotId (Id t at ∷ a) = ⊥
NotId a = Unit {0}

abbrev pub NotAssign : List Sym → Type 0
NotAssign (Assign ∷ a) = ⊥
NotAssign a = Unit {0}

abbrev pub NotColon : List Sym → Type 0
NotColon (Colon ∷ a) = ⊥
NotColon a = Unit {0}

-- an expression begins here
abbrev pub Begins : List Sym → Type 0
Begins (Id t at ∷ a) = Unit {0}
Begins (Num n at ∷ a) = Unit {0}
Begins (Minus at ∷ a) = Unit {0}
Begins (Lit l ∷ a) = Unit {0}
Begins (ArrayOpen ∷ a) = Unit {0}
Begins (ParenOpen ∷ a) = Unit {0}
Begins (BlockOpen at ∷ a) = Unit {0}
Begins a = ⊥

pub Ends-closes : (a : List Sym) → Ends a → Closes a
Ends-closes [] h = tt
Ends-closes (ParenClose ∷ a) h = tt
Ends-closes (BlockClose ∷ a) h = tt
Ends-closes (Period ∷ a) h = tt
Ends-closes (s ∷ a) h = absurd h

pub EndsBody-ends : (a : List Sym) → EndsBody a → Ends a
EndsBody-ends [] h = tt
EndsBody-ends (BlockClose ∷ a) h = tt
EndsBody-ends (s ∷ a) h = absurd h

pub Closes-not_id : (a : List Sym) → Closes a → NotId a
Closes-not_id (Id t at ∷ a) h = h
Closes-not_id [] h = tt
Closes-not_id (s ∷ a) h = tt

pub Closes-not_assign : (a : List Sym) → Closes a → NotAssign a
Closes-not_assign (Assign ∷ a) h = h
Closes-not_assign [] h = tt
Closes-not_assign (s ∷ a) h = tt

op_not_id : (a : List Sym) {s : Sym} {t : List ℕ} {at : ℕ} → IsOp s t at → NotId (s ∷ a)
op_not_id a op = tt
op_not_id a minus = tt
op_not_id a bar = tt
op_not_id a two_bars = tt
op_not_id a three_bars = tt

op_not_assign : (a : List Sym) {s : Sym} {t : List ℕ} {at : ℕ} → IsOp s t at → NotAssign (s ∷ a)
op_not_assign a op = tt
op_not_assign a minus = tt
op_not_assign a bar = tt
op_not_assign a two_bars = tt
op_not_assign a three_bars = tt

pub binaries_not_id : {a b : List Sym} {ms : List Message} → g.Binaries a b ms → NotId b → NotId a
binaries_not_id g.no_binaries h = h
binaries_not_id (g.more_binaries {a = a} o p u f m) h = op_not_id a o

pub binaries_not_assign : {a b : List Sym} {ms : List Message} → g.Binaries a b ms → NotAssign b → NotAssign a
binaries_not_assign g.no_binaries h = h
binaries_not_assign (g.more_binaries {a = a} o p u f m) h = op_not_assign a o

pub unaries_not_assign : {a b : List Sym} {ms : List Message} → g.Unaries a b ms → NotAssign b → NotAssign a
unaries_not_assign g.none h = h
unaries_not_assign (g.more u) h = tt

pub messages_not_assign : {a b : List Sym} {ms : List Message} → g.Messages a b ms → NotAssign b → NotAssign a
messages_not_assign (g.short u m) h = unaries_not_assign u (binaries_not_assign m h)
messages_not_assign (g.long u m k) h = unaries_not_assign u (binaries_not_assign m tt)

pub cascade_closes : {a b : List Sym} {cs : List Message} → g.Cascade a b cs → Ends b → Closes a
cascade_closes {b = b} g.no_cascade h = Ends-closes b h
cascade_closes (g.unary_again c) h = tt
cascade_closes (g.binary_again o p u f c) h = tt
cascade_closes (g.keywords_again k c) h = tt

pub primary_begins : {a b : List Sym} {p : Primary} {v : Bool} → g.IsPrimary a b p v → Begins a
primary_begins (g.named e) = tt
primary_begins (g.value e) = tt
primary_begins (g.super e) = tt
primary_begins (g.number h) = tt
primary_begins (g.negative_number e h) = tt
primary_begins g.one_token = tt
primary_begins (g.in_array x) = tt
primary_begins (g.in_parens e) = tt
primary_begins (g.plain_block t s) = tt
primary_begins (g.with_bar n t s) = tt
primary_begins (g.with_two_bars n t s) = tt
primary_begins (g.with_three_bars n s) = tt
primary_begins (g.only_parameters n) = tt

pub expr_begins : {a b : List Sym} {ns : List Name} {o : Operand} {cs : List Message} → g.IsExpr a b ns o cs → Begins a
expr_begins (g.assigned e x) = tt
expr_begins (g.sent p m f c r) = primary_begins p

pub Begins-not_colon : (a : List Sym) → Begins a → NotColon a
Begins-not_colon (Colon ∷ a) h = h
Begins-not_colon [] h = tt
Begins-not_colon (s ∷ a) h = tt

pub EndsBody-not_colon : (a : List Sym) → EndsBody a → NotColon a
EndsBody-not_colon (Colon ∷ a) h = h
EndsBody-not_colon [] h = tt
EndsBody-not_colon (s ∷ a) h = tt

pub statements_not_colon : {a b : List Sym} {ss : List Statement} → g.Statements a b ss → EndsBody b → NotColon a
statements_not_colon {b = b} g.no_statements h = EndsBody-not_colon b h
statements_not_colon (g.returned e) h = tt
statements_not_colon (g.returned_dot e) h = tt
statements_not_colon {a = a} (g.last_statement e) h = Begins-not_colon a (expr_begins e)
statements_not_colon {a = a} (g.more_statements e s) h = Begins-not_colon a (expr_begins e)

pub temps_not_colon : {a b : List Sym} {ts : List Name} → g.Temps a b ts → NotColon b → NotColon a
temps_not_colon g.none h = h
temps_not_colon (g.some n) h = tt
temps_not_colon g.empty h = tt

-- no keyword comes next
abbrev pub NotKey : List Sym → Type 0
NotKey (Key t at ∷ a) = ⊥
NotKey a = Unit {0}

Begins-not_key : (a : List Sym) → Begins a → NotKey a
Begins-not_key (Key t at ∷ a) h = h
Begins-not_key [] h = tt
Begins-not_key (s ∷ a) h = tt

EndsBody-not_key : (a : List Sym) → EndsBody a → NotKey a
EndsBody-not_key (Key t at ∷ a) h = h
EndsBody-not_key [] h = tt
EndsBody-not_key (s ∷ a) h = tt

pub statements_not_key : {a b : List Sym} {ss : List Statement} → g.Statements a b ss → EndsBody b → NotKey a
statements_not_key {b = b} g.no_statements h = EndsBody-not_key b h
statements_not_key (g.returned e) h = tt
statements_not_key (g.returned_dot e) h = tt
statements_not_key {a = a} (g.last_statement e) h = Begins-not_key a (expr_begins e)
statements_not_key {a = a} (g.more_statements e s) h = Begins-not_key a (expr_begins e)

pub temps_not_key : {a b : List Sym} {ts : List Name} → g.Temps a b ts → NotKey b → NotKey a
temps_not_key g.none h = h
temps_not_key (g.some n) h = tt
temps_not_key g.empty h = tt

-- no temporaries begin here
abbrev pub NotBars : List Sym → Type 0
NotBars (Bar at ∷ a) = ⊥
NotBars (TwoBars at ∷ a) = ⊥
NotBars a = Unit {0}

Begins-not_bars : (a : List Sym) → Begins a → NotBars a
Begins-not_bars (Bar at ∷ a) h = h
Begins-not_bars (TwoBars at ∷ a) h = h
Begins-not_bars [] h = tt
Begins-not_bars (s ∷ a) h = tt

EndsBody-not_bars : (a : List Sym) → EndsBody a → NotBars a
EndsBody-not_bars (Bar at ∷ a) h = h
EndsBody-not_bars (TwoBars at ∷ a) h = h
EndsBody-not_bars [] h = tt
EndsBody-not_bars (s ∷ a) h = tt

pub statements_not_bars : {a b : List Sym} {ss : List Statement} → g.Statements a b ss → EndsBody b → NotBars a
statements_not_bars {b = b} g.no_statements h = EndsBody-not_bars b h
statements_not_bars (g.returned e) h = tt
statements_not_bars (g.returned_dot e) h = tt
statements_not_bars {a = a} (g.last_statement e) h = Begins-not_bars a (expr_begins e)
statements_not_bars {a = a} (g.more_statements e s) h = Begins-not_bars a (expr_begins e)

-- a message to the operand comes next
abbrev pub TakesNext : Inner → List Sym → Type 0
TakesNext inner (Id t at ∷ a) = Unit {0}
TakesNext (Plain outer) (Op t at ∷ a) = Unit {0}
TakesNext (Plain outer) (Minus at ∷ a) = Unit {0}
TakesNext (Plain outer) (Bar at ∷ a) = Unit {0}
TakesNext (Plain outer) (TwoBars at ∷ a) = Unit {0}
TakesNext (Plain outer) (ThreeBars at ∷ a) = Unit {0}
TakesNext (Plain Receiver) (Key t at ∷ a) = Unit {0}
TakesNext inner a = ⊥

abbrev pub Follows : Bool → Inner → List Sym → Type 0
Follows true inner a = TakesNext inner a
Follows false inner a = Unit {0}

op_next : {s : Sym} {t : List ℕ} {at : ℕ} → IsOp s t at → (outer : Outer) (a : List Sym) → TakesNext (Plain outer) (s ∷ a)
op_next op outer a = tt
op_next minus outer a = tt
op_next bar outer a = tt
op_next two_bars outer a = tt
op_next three_bars outer a = tt

pub fine_unaries : (v : Bool) (inner : Inner) {a b : List Sym} {us : List Message} → g.Unaries a b us → g.Fine v us → Follows v inner a
fine_unaries false inner u f = tt
fine_unaries true inner g.none f = absurd f
fine_unaries true inner (g.more u) f = tt

pub fine_binaries : (v : Bool) (outer : Outer) {a b c : List Sym} {us bs : List Message} → g.Unaries a b us → g.Binaries b c bs → g.Fine v (us ++ bs) → Follows v (Plain outer) a
fine_binaries false outer u m f = tt
fine_binaries true outer (g.more u) m f = tt
fine_binaries true outer g.none g.no_binaries f = absurd f
fine_binaries true outer g.none (g.more_binaries {a = a} o p u f' m) f = op_next o outer a

pub fine_messages : (v : Bool) {a b : List Sym} {ms : List Message} → g.Messages a b ms → g.Fine v ms → Follows v (Plain Receiver) a
fine_messages false m f = tt
fine_messages true (g.short u m) f = fine_binaries true Receiver u m f
fine_messages true (g.long (g.more u) m k) f = tt
fine_messages true (g.long g.none g.no_binaries k) f = tt
fine_messages true (g.long g.none (g.more_binaries {a = a} o p u f' m) k) f = op_next o Receiver a

-- ---- where the machine stands

-- `super` is an operand where a message to it comes next
pub super_is : (home : Home) (fs : List Frame) (tg : List Name) (inner : Inner) (b : List Sym) → TakesNext inner b
    → parse (Within home (Super tg inner), fs) b ≡ parse (Within home (Have tg inner primary.SuperValue []), fs) b
super_is home fs tg inner (Id t at ∷ b) h = refl
super_is home fs tg (Plain outer) (Op t at ∷ b) h = refl
super_is home fs tg (Plain outer) (Minus at ∷ b) h = refl
super_is home fs tg (Plain outer) (Bar at ∷ b) h = refl
super_is home fs tg (Plain outer) (TwoBars at ∷ b) h = refl
super_is home fs tg (Plain outer) (ThreeBars at ∷ b) h = refl
super_is home fs tg (Plain Receiver) (Key t at ∷ b) h = refl
super_is home fs tg inner b h = absurd h

-- an operator, of whatever kind
pub operator_read : {s : Sym} {t : List ℕ} {at : ℕ} → IsOp s t at → (home : Home) (fs : List Frame) (tg : List Name) (outer : Outer) (p : Primary) (ch : List Message) (a : List Sym)
    → parse (Within home (Have tg (Plain outer) p ch), fs) (s ∷ a) ≡ parse (Within home (Want tg (Right outer p ch (selector t at))), fs) a
operator_read op home fs tg outer p ch a = refl
operator_read minus home fs tg outer p ch a = refl
operator_read bar home fs tg outer p ch a = refl
operator_read two_bars home fs tg outer p ch a = refl
operator_read three_bars home fs tg outer p ch a = refl

pub operator_again : {s : Sym} {t : List ℕ} {at : ℕ} → IsOp s t at → (home : Home) (fs : List Frame) (tg : List Name) (r : Operand) (cs : List Message) (a : List Sym)
    → parse (Within home (Sent tg r cs), fs) (Semicolon ∷ s ∷ a) ≡ parse (Within home (Want tg (FurtherRight r cs (selector t at))), fs) a
operator_again op home fs tg r cs a = refl
operator_again minus home fs tg r cs a = refl
operator_again bar home fs tg r cs a = refl
operator_again two_bars home fs tg r cs a = refl
operator_again three_bars home fs tg r cs a = refl

-- a binary message is whole where no identifier follows
pub settle : (home : Home) (fs : List Frame) (tg : List Name) (outer : Outer) (q : Primary) (qs : List Message) (s : Selector) (p : Primary) (ch : List Message) (b : List Sym) → NotId b
    → parse (Within home (Have tg (Right outer q qs s) p ch), fs) b ≡ parse (Within home (Have tg (Plain outer) q (with_binary qs s p ch)), fs) b
settle home fs tg outer q qs s p ch [] h = refl
settle home fs tg outer q qs s p ch (Id t at ∷ b) h = absurd h
settle home fs tg outer q qs s p ch (x ∷ b) h = refl

-- an expression that ends is as one behind whose last message nothing but `;` follows
pub at_end : (home : Home) (fs : List Frame) (tg : List Name) (inner : Inner) (p : Primary) (ch : List Message) (b : List Sym) → Ends b
    → parse (Within home (Have tg inner p ch), fs) b ≡ parse (Within home (Sent (finish tg inner p ch).targets (finish tg inner p ch).receiver (finish tg inner p ch).cascade), fs) b
at_end home fs tg inner p ch [] h = refl
at_end home fs tg inner p ch (ParenClose ∷ b) h = refl
at_end home fs tg inner p ch (BlockClose ∷ b) h = refl
at_end home fs tg inner p ch (Period ∷ b) h = refl
at_end home fs tg inner p ch (x ∷ b) h = absurd h

pub at_close : (home : Home) (fs : List Frame) (tg : List Name) (left : Left) (s : Selector) (os : List Operand) (p : Primary) (ch : List Message) (b : List Sym) → Closes b
    → let w = finish_left tg left (message s.text s.at (os ++ operand p ch ∷ [])) in
    parse (Within home (Have tg (Plain (Argument left s os)) p ch), fs) b ≡ parse (Within home (Sent w.targets w.receiver w.cascade), fs) b
at_close home fs tg left s os p ch [] h = refl
at_close home fs tg left s os p ch (ParenClose ∷ b) h = refl
at_close home fs tg left s os p ch (BlockClose ∷ b) h = refl
at_close home fs tg left s os p ch (Period ∷ b) h = refl
at_close home fs tg left s os p ch (Semicolon ∷ b) h = refl
at_close home fs tg left s os p ch (x ∷ b) h = absurd h

pub at_close_binary : (home : Home) (fs : List Frame) (tg : List Name) (r : Operand) (cs : List Message) (s : Selector) (p : Primary) (ch : List Message) (b : List Sym) → Closes b
    → parse (Within home (Have tg (FurtherRight r cs s) p ch), fs) b ≡ parse (Within home (Sent tg r (with_binary cs s p ch)), fs) b
at_close_binary home fs tg r cs s p ch [] h = refl
at_close_binary home fs tg r cs s p ch (ParenClose ∷ b) h = refl
at_close_binary home fs tg r cs s p ch (BlockClose ∷ b) h = refl
at_close_binary home fs tg r cs s p ch (Period ∷ b) h = refl
at_close_binary home fs tg r cs s p ch (Semicolon ∷ b) h = refl
at_close_binary home fs tg r cs s p ch (x ∷ b) h = absurd h

-- the receiver's own messages are whole
pub at_cascade : (home : Home) (fs : List Frame) (tg : List Name) (p : Primary) (ms cs : List Message) {c d : List Sym} → g.Cascade c d cs → g.Receives ms cs → Ends d
    → parse (Within home (Have tg (Plain Receiver) p ms), fs) c ≡ parse (Within home (Sent tg (operand p ms) []), fs) c
at_cascade home fs tg p ms cs {d = d} g.no_cascade r h = at_end home fs tg (Plain Receiver) p ms d h
at_cascade home fs tg p [] cs (g.unary_again c) r h = absurd r
at_cascade home fs tg p (m ∷ ms) cs (g.unary_again c) r h = refl
at_cascade home fs tg p [] cs (g.binary_again o q u f c) r h = absurd r
at_cascade home fs tg p (m ∷ ms) cs (g.binary_again o q u f c) r h = refl
at_cascade home fs tg p [] cs (g.keywords_again k c) r h = absurd r
at_cascade home fs tg p (m ∷ ms) cs (g.keywords_again k c) r h = refl

-- one name is an operand unless it is a target
pub bare_name : (home : Home) (fs : List Frame) (tg : List Name) (n : Name) (b : List Sym) → NotAssign b
    → parse (Within home (Bare tg n), fs) b ≡ parse (Within home (Have tg (Plain Receiver) (variable n) []), fs) b
bare_name home fs tg n [] h = refl
bare_name home fs tg n (Assign ∷ b) h = absurd h
bare_name home fs tg n (x ∷ b) h = refl

-- what a word is decides what the machine does
pub role_first : (home : Home) (fs : List Frame) (tg : List Name) (t : List ℕ) (at : ℕ) (a : List Sym) → role t ≡ IsName
    → parse (Within home (Start tg), fs) (Id t at ∷ a) ≡ parse (Within home (Bare tg (name t at)), fs) a
role_first home fs tg t at a e = ap (λ r. option_and_then (λ next. parse next a) (moved home fs (first_word tg r t at))) e

pub role_value : (home : Home) (fs : List Frame) (tg : List Name) (t : List ℕ) (at : ℕ) (a : List Sym) (p : Primary) → role t ≡ IsValue p
    → parse (Within home (Start tg), fs) (Id t at ∷ a) ≡ parse (Within home (Have tg (Plain Receiver) p []), fs) a
role_value home fs tg t at a p e = ap (λ r. option_and_then (λ next. parse next a) (moved home fs (first_word tg r t at))) e

pub role_wanted : (home : Home) (fs : List Frame) (tg : List Name) (inner : Inner) (t : List ℕ) (at : ℕ) (a : List Sym) → role t ≡ IsName
    → parse (Within home (Want tg inner), fs) (Id t at ∷ a) ≡ parse (Within home (Have tg inner (variable (name t at)) []), fs) a
role_wanted home fs tg inner t at a e = ap (λ r. option_and_then (λ next. parse next a) (moved home fs (word tg inner r t at))) e

pub value_wanted : (home : Home) (fs : List Frame) (tg : List Name) (inner : Inner) (t : List ℕ) (at : ℕ) (a : List Sym) (p : Primary) → role t ≡ IsValue p
    → parse (Within home (Want tg inner), fs) (Id t at ∷ a) ≡ parse (Within home (Have tg inner p []), fs) a
value_wanted home fs tg inner t at a p e = ap (λ r. option_and_then (λ next. parse next a) (moved home fs (word tg inner r t at))) e

pub super_wanted : (home : Home) (fs : List Frame) (tg : List Name) (inner : Inner) (t : List ℕ) (at : ℕ) (a : List Sym) → role t ≡ IsSuper
    → parse (Within home (Want tg inner), fs) (Id t at ∷ a) ≡ parse (Within home (Super tg inner), fs) a
super_wanted home fs tg inner t at a e = ap (λ r. option_and_then (λ next. parse next a) (moved home fs (word tg inner r t at))) e

pub super_first : (home : Home) (fs : List Frame) (tg : List Name) (t : List ℕ) (at : ℕ) (a : List Sym) → role t ≡ IsSuper
    → parse (Within home (Start tg), fs) (Id t at ∷ a) ≡ parse (Within home (Super tg (Plain Receiver)), fs) a
super_first home fs tg t at a e = ap (λ r. option_and_then (λ next. parse next a) (moved home fs (first_word tg r t at))) e

pub number_wanted : (home : Home) (fs : List Frame) (tg : List Name) (inner : Inner) (n at : ℕ) (a : List Sym) → n < 2 ^ 127
    → parse (Within home (Want tg inner), fs) (Num n at ∷ a) ≡ parse (Within home (Have tg inner (constant (integer n)) []), fs) a
number_wanted home fs tg inner n at a h =
    ap (λ b. option_and_then (λ next. parse next a) (moved home fs (if b then Some (Next (Have tg inner (constant (integer n)) [])) else None))) (lt-ltb n (2 ^ 127) h)

pub negative_wanted : (home : Home) (fs : List Frame) (tg : List Name) (inner : Inner) (n at n_at : ℕ) (a : List Sym) → n_at ≡ at + 1 → n ≤ 2 ^ 127
    → parse (Within home (Want tg inner), fs) (Minus at ∷ Num n n_at ∷ a) ≡ parse (Within home (Have tg inner (constant (negative n)) []), fs) a
negative_wanted home fs tg inner n at n_at a e h =
    ap (λ b. option_and_then (λ next. parse next a) (moved home fs (if b then negated tg inner n else None))) (eq-eqb n_at (at + 1) e)
    ∙ ap (λ b. option_and_then (λ next. parse next a) (moved home fs (if b then Some (Next (Have tg inner (constant (negative n)) [])) else None))) (le-leb n (2 ^ 127) h)

pub parameter_named : (fs : List Frame) (at : ℕ) (ns : List Name) (t : List ℕ) (n_at : ℕ) (a : List Sym) → role t ≡ IsName
    → parse (Opened at ns, fs) (Colon ∷ Id t n_at ∷ a) ≡ parse (Opened at (ns ++ name t n_at ∷ []), fs) a
parameter_named fs at ns t n_at a e = colon fs at ns (Id t n_at ∷ a) ∙ ap (λ r. option_and_then (λ next. parse next a) (parameter_word at ns fs r t n_at)) e
  where
    colon : (fs : List Frame) (at : ℕ) (ns : List Name) (a : List Sym) → parse (Opened at ns, fs) (Colon ∷ a) ≡ parse (Parameter at ns, fs) a
    colon fs at [] a = refl
    colon fs at (n ∷ ns) a = refl

-- parameters gather
pub parameters_gather : {a b : List Sym} {ns : List Name} → g.Parameters a b ns → (at : ℕ) (fs : List Frame) (first : List Name)
    → parse (Opened at first, fs) a ≡ parse (Opened at (first ++ ns), fs) b
parameters_gather (g.one {t = t} {at = n_at} {a = a} e) at fs first = parameter_named fs at first t n_at a e
parameters_gather (g.more {t = t} {at = n_at} {a = a} {b = b} {ns = ns} e n) at fs first =
    parameter_named fs at first t n_at a e ∙ parameters_gather n at fs (first ++ name t n_at ∷ []) ∙ ap (λ x. parse (Opened at x, fs) b) (append_assoc first (name t n_at ∷ []) ns)

pub parameters_bar : {a b : List Sym} {ns : List Name} → g.Parameters a b ns → (at : ℕ) (fs : List Frame) (bar_at : ℕ) (c : List Sym)
    → parse (Opened at ns, fs) (Bar bar_at ∷ c) ≡ parse (Fresh (Block at ns []), fs) c
parameters_bar (g.one e) at fs bar_at c = refl
parameters_bar (g.more e n) at fs bar_at c = refl

pub parameters_two : {a b : List Sym} {ns : List Name} → g.Parameters a b ns → (at : ℕ) (fs : List Frame) (bar_at : ℕ) (c : List Sym)
    → parse (Opened at ns, fs) (TwoBars bar_at ∷ c) ≡ parse (Temporaries (Block at ns []), fs) c
parameters_two (g.one e) at fs bar_at c = refl
parameters_two (g.more e n) at fs bar_at c = refl

pub parameters_three : {a b : List Sym} {ns : List Name} → g.Parameters a b ns → (at : ℕ) (fs : List Frame) (bar_at : ℕ) (c : List Sym)
    → parse (Opened at ns, fs) (ThreeBars bar_at ∷ c) ≡ parse (Statements (Block at ns []) [], fs) c
parameters_three (g.one e) at fs bar_at c = refl
parameters_three (g.more e n) at fs bar_at c = refl

pub parameters_close : {a b : List Sym} {ns : List Name} → g.Parameters a b ns → (at : ℕ) (home : Home) (tg : List Name) (inner : Inner) (fs : List Frame) (c : List Sym)
    → parse (Opened at ns, Waits home tg inner ∷ fs) (BlockClose ∷ c) ≡ parse (Within home (Have tg inner (block at ns [] []) []), fs) c
parameters_close (g.one e) at home tg inner fs c = refl
parameters_close (g.more e n) at home tg inner fs c = refl

abbrev pub with_temporaries : Level → List Name → Level
with_temporaries (Top heading ts) more = Top heading (ts ++ more)
with_temporaries (Block at ns ts) more = Block at ns (ts ++ more)

pub with_none : (level : Level) → with_temporaries level [] ≡ level
with_none (Top heading ts) = ap (Top heading) (append-nil ts)
with_none (Block at ns ts) = ap (Block at ns) (append-nil ts)

pub with_more : (level : Level) (n : Name) (ns : List Name) → with_temporaries (with_temporary level n) ns ≡ with_temporaries level (n ∷ ns)
with_more (Top heading ts) n ns = ap (Top heading) (append_assoc ts (n ∷ []) ns)
with_more (Block at ps ts) n ns = ap (Block at ps) (append_assoc ts (n ∷ []) ns)

-- names between the bars gather
pub names_read : {a b : List Sym} {ns : List Name} → g.Names a b ns → (level : Level) (fs : List Frame)
    → parse (Temporaries level, fs) a ≡ parse (Temporaries (with_temporaries level ns), fs) b
names_read (g.none {a = a}) level fs = ap (λ x. parse (Temporaries x, fs) a) (sym (with_none level))
names_read (g.more {t = t} {at = at} {a = a} {b = b} {ns = ns} e n) level fs =
    ap (λ r. option_and_then (λ next. parse next a) (temporary_word level fs r t at)) e
    ∙ names_read n (with_temporary level (name t at)) fs
    ∙ ap (λ x. parse (Temporaries x, fs) b) (with_more level (name t at) ns)

fresh_plain : (level : Level) (fs : List Frame) (a : List Sym) → NotBars a → parse (Fresh level, fs) a ≡ parse (Statements level [], fs) a
fresh_plain (Top heading ts) [] [] h = refl
fresh_plain (Top heading ts) (f ∷ fs) [] h = refl
fresh_plain (Block at ns ts) fs [] h = refl
fresh_plain level fs (Bar at ∷ a) h = absurd h
fresh_plain level fs (TwoBars at ∷ a) h = absurd h
fresh_plain level fs (s ∷ a) h = refl

pub temps_read : {a b : List Sym} {ts : List Name} → g.Temps a b ts → (level : Level) (fs : List Frame) → NotBars b
    → parse (Fresh level, fs) a ≡ parse (Statements (with_temporaries level ts) [], fs) b
temps_read (g.none {a = a}) level fs h = fresh_plain level fs a h ∙ ap (λ x. parse (Statements x [], fs) a) (sym (with_none level))
temps_read (g.some n) level fs h = names_read n level fs
temps_read (g.empty {a = a}) level fs h = ap (λ x. parse (Statements x [], fs) a) (sym (with_none level))

-- a block without parameters
pub no_parameters : (fs : List Frame) (at : ℕ) (a : List Sym) → NotColon a → parse (Opened at [], fs) a ≡ parse (Fresh (Block at [] []), fs) a
no_parameters fs at [] h = refl
no_parameters fs at (Colon ∷ a) h = absurd h
no_parameters fs at (s ∷ a) h = refl

-- a statement without `^`
pub begins_statement : (level : Level) (done : List Statement) (fs : List Frame) (a : List Sym) → Begins a
    → parse (Statements level done, fs) a ≡ parse (Within (Body level done false) (Start []), fs) a
begins_statement level done fs (Id t at ∷ a) h = refl
begins_statement level done fs (Num n at ∷ a) h = refl
begins_statement level done fs (Minus at ∷ a) h = refl
begins_statement level done fs (Lit l ∷ a) h = refl
begins_statement level done fs (ArrayOpen ∷ a) h = refl
begins_statement level done fs (ParenOpen ∷ a) h = refl
begins_statement level done fs (BlockOpen at ∷ a) h = refl
begins_statement level done fs (s ∷ a) h = absurd h
begins_statement level done fs [] h = absurd h

-- where a body ends it does not matter whether a statement may begin
pub at_body_end : (level : Level) (done : List Statement) (fs : List Frame) (b : List Sym) → EndsBody b
    → parse (Statements level done, fs) b ≡ parse (Ended level done, fs) b
at_body_end (Top heading ts) done [] [] h = refl
at_body_end (Top heading ts) done (f ∷ fs) [] h = refl
at_body_end (Block at ns ts) done fs [] h = refl
at_body_end level done fs (BlockClose ∷ b) h = refl
at_body_end level done fs (s ∷ b) h = absurd h

pub last_ends : (level : Level) (done : List Statement) (returns : Bool) (fs : List Frame) (tg : List Name) (r : Operand) (cs : List Message) (b : List Sym) → EndsBody b
    → parse (Within (Body level done returns) (Sent tg r cs), fs) b ≡ parse (Ended level (done ++ stated returns (expr tg r cs) ∷ []), fs) b
last_ends (Top heading ts) done returns [] tg r cs [] h = refl
last_ends (Top heading ts) done returns (f ∷ fs) tg r cs [] h = refl
last_ends (Block at ns ts) done returns fs tg r cs [] h = refl
last_ends level done returns fs tg r cs (BlockClose ∷ b) h = refl
last_ends level done returns fs tg r cs (s ∷ b) h = absurd h

pub first_primary : (home : Home) (fs : List Frame) (tg : List Name) {a b : List Sym} {p : Primary} {v : Bool} → g.IsPrimary a b p v → NotAssign b → Follows v (Plain Receiver) b
    → parse (Within home (Want tg (Plain Receiver)), fs) a ≡ parse (Within home (Have tg (Plain Receiver) p []), fs) b
    → parse (Within home (Start tg), fs) a ≡ parse (Within home (Have tg (Plain Receiver) p []), fs) b
first_primary home fs tg (g.named {t = t} {at = at} {a = a} e) h f q = role_first home fs tg t at a e ∙ bare_name home fs tg (name t at) a h
first_primary home fs tg (g.value {t = t} {at = at} {a = a} {p = p} e) h f q = role_value home fs tg t at a p e
first_primary home fs tg (g.super {t = t} {at = at} {a = a} e) h f q = super_first home fs tg t at a e ∙ super_is home fs tg (Plain Receiver) a f
first_primary home fs tg (g.number n) h f q = q
first_primary home fs tg (g.negative_number e n) h f q = q
first_primary home fs tg g.one_token h f q = q
first_primary home fs tg (g.in_array x) h f q = q
first_primary home fs tg (g.in_parens x) h f q = q
first_primary home fs tg (g.plain_block t s) h f q = q
first_primary home fs tg (g.with_bar n t s) h f q = q
first_primary home fs tg (g.with_two_bars n t s) h f q = q
first_primary home fs tg (g.with_three_bars n s) h f q = q
first_primary home fs tg (g.only_parameters n) h f q = q
