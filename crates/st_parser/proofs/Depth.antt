-- As many frames wait as there are openings that no closing has met.
use Rattle.std.proofs.Common.{◌≡◌, ℕ, suc, ◌+◌, ◌-◌, ◌^◌, List, [], ◌∷◌, ◌++◌, Bool, true, false, refl, ap, sym, ◌∙◌, Option, Some, None, length, arith, if◌then◌else◌}
use Rattle.std.specs.Prelude.{option_and_then, ◌==◌, nat_lt, nat_le}
use Rattle.st_tree.specs.declared.tree.Name.{Name}
use Rattle.st_tree.specs.declared.tree.Literal.{Literal}
use Rattle.st_tree.specs.declared.tree.Literal.TheVariants as literal
use Rattle.st_tree.specs.declared.tree.Primary.{Primary}
use Rattle.st_tree.specs.declared.tree.Statement.{Statement}
use Rattle.st_tree.specs.declared.tree.Message.{Message}
use Rattle.st_tree.specs.declared.tree.Operand.{Operand}
use Rattle.st_tree.specs.Symbols.{Sym, Id, Key, Op, Minus, Bar, TwoBars, ThreeBars, Num, Lit, ArrayOpen, ParenOpen, ParenClose, BlockOpen, BlockClose, Colon, Assign, Caret, Period, Semicolon, Role, IsName, IsValue, IsSuper, role}
use Rattle.st_tree.specs.Trees.{variable, integer, negative, constant, block}
use Rattle.st_tree.specs.Grammar.{Production, AMethod, ABody}
use Rattle.st_tree.specs.Faults.{deeper, depth}
use Rattle.st_parser.specs.Machine.{Selector, Outer, Receiver, Argument, Inner, Plain, Right, FurtherRight, Place, Start, Bare, Have, Want, Super, Signed, Again, Sent, Headed, Level, Top, Block, Home, Paren, Body, Here, Pattern, OperatorRead, KeywordRead, ParameterRead, Opened, Parameter, Fresh, Temporaries, Statements, Ended, Within, Elements, Dash, Run, Frame, Waits, Holds, Whole, State, Move, Next, OpenArray, OpenParen, OpenBlock, run, step, start, selector, with_binary, whole, move, moved, begin, bare, have, want, word, first_word, super_goes, negated, resend, after_operator, after_keyword, keyword_outer, after_semicolon, again_outer, fresh, temporaries, temporary_word, step_at, within, statements, ended, opened, parameter, parameter_word, up, close_paren, close_block, close_level, close_array, period, pattern, operator_word, operator_read, keyword_word, keyword_read, parameter_read, elements, with_item, negated_item, dash, keyword_run}
use Rattle.st_parser.proofs.Arrays.{dash_symbol}

-- a symbol that neither opens nor closes
abbrev Flat : Sym → Type 0
Flat s = (d : ℕ) → d ≡ deeper d s

-- a move opens where its symbol does
abbrev MoveFits : Sym → Option Move → Type 0
MoveFits s None = Unit {0}
MoveFits s (Some (Next place)) = Flat s
MoveFits s (Some m) = (d : ℕ) → suc d ≡ deeper d s

abbrev pub KeepsDepth : List Frame → Sym → Option State → Type 0
KeepsDepth fs s None = Unit {0}
KeepsDepth fs s (Some next) = length next.1 ≡ deeper (length fs) s

one_more : (d : ℕ) → suc d ≡ d + 1
one_more d = omega arith

one_less : (d : ℕ) → d ≡ suc d - 1
one_less d = omega arith

word_fits : (tg : List Name) (inner : Inner) (r : Role) (t : List ℕ) (at : ℕ) → MoveFits (Id t at) (word tg inner r t at)
word_fits tg inner IsName t at = λ d. refl
word_fits tg inner (IsValue p) t at = λ d. refl
word_fits tg inner IsSuper t at = λ d. refl

if_fits : (s : Sym) (place : Place) → Flat s → (v : Bool) → MoveFits s (if v then Some (Next place) else None)
if_fits s place h true = h
if_fits s place h false = tt

want_fits : (tg : List Name) (inner : Inner) (s : Sym) → MoveFits s (want tg inner s)
want_fits tg inner (Id t at) = word_fits tg inner (role t) t at
want_fits tg inner (Num n at) = if_fits (Num n at) (Have tg inner (constant (integer n)) []) (λ d. refl) (nat_lt n (2 ^ 127))
want_fits tg inner (Minus at) = λ d. refl
want_fits tg inner (Lit l) = λ d. refl
want_fits tg inner ArrayOpen = one_more
want_fits tg inner ParenOpen = one_more
want_fits tg inner (BlockOpen at) = one_more
want_fits tg inner s = tt

first_word_fits : (tg : List Name) (r : Role) (t : List ℕ) (at : ℕ) → MoveFits (Id t at) (first_word tg r t at)
first_word_fits tg IsName t at = λ d. refl
first_word_fits tg (IsValue p) t at = λ d. refl
first_word_fits tg IsSuper t at = λ d. refl

begin_fits : (tg : List Name) (s : Sym) → MoveFits s (begin tg s)
begin_fits tg (Id t at) = first_word_fits tg (role t) t at
begin_fits tg s = want_fits tg (Plain Receiver) s

operator_fits : (s : Sym) → Flat s → (tg : List Name) (inner : Inner) (p : Primary) (ch : List Message) (k : Selector) → MoveFits s (after_operator tg inner p ch k)
operator_fits s h tg (Plain outer) p ch k = h
operator_fits s h tg (Right outer q qs k') p ch k = h
operator_fits s h tg (FurtherRight r cs k') p ch k = tt

keyword_outer_fits : (tg : List Name) (outer : Outer) (p : Primary) (ch : List Message) (t : List ℕ) (at : ℕ) → MoveFits (Key t at) (Some (keyword_outer tg outer p ch t at))
keyword_outer_fits tg Receiver p ch t at = λ d. refl
keyword_outer_fits tg (Argument left s os) p ch t at = λ d. refl

keyword_fits : (tg : List Name) (inner : Inner) (p : Primary) (ch : List Message) (t : List ℕ) (at : ℕ) → MoveFits (Key t at) (after_keyword tg inner p ch t at)
keyword_fits tg (Plain outer) p ch t at = keyword_outer_fits tg outer p ch t at
keyword_fits tg (Right outer q qs s) p ch t at = keyword_outer_fits tg outer q (with_binary qs s p ch) t at
keyword_fits tg (FurtherRight r cs s) p ch t at = tt

again_fits : (tg : List Name) (outer : Outer) (p : Primary) (ch : List Message) → MoveFits Semicolon (again_outer tg outer p ch)
again_fits tg Receiver p [] = tt
again_fits tg Receiver p (m ∷ ms) = λ d. refl
again_fits tg (Argument left s os) p ch = λ d. refl

semicolon_fits : (tg : List Name) (inner : Inner) (p : Primary) (ch : List Message) → MoveFits Semicolon (after_semicolon tg inner p ch)
semicolon_fits tg (Plain outer) p ch = again_fits tg outer p ch
semicolon_fits tg (Right outer q qs s) p ch = again_fits tg outer q (with_binary qs s p ch)
semicolon_fits tg (FurtherRight r cs s) p ch = λ d. refl

have_fits : (tg : List Name) (inner : Inner) (p : Primary) (ch : List Message) (s : Sym) → MoveFits s (have tg inner p ch s)
have_fits tg inner p ch (Id t at) = λ d. refl
have_fits tg inner p ch (Op t at) = operator_fits (Op t at) (λ d. refl) tg inner p ch (selector t at)
have_fits tg inner p ch (Minus at) = operator_fits (Minus at) (λ d. refl) tg inner p ch (selector (45 ∷ []) at)
have_fits tg inner p ch (Bar at) = operator_fits (Bar at) (λ d. refl) tg inner p ch (selector (124 ∷ []) at)
have_fits tg inner p ch (TwoBars at) = operator_fits (TwoBars at) (λ d. refl) tg inner p ch (selector (124 ∷ 124 ∷ []) at)
have_fits tg inner p ch (ThreeBars at) = operator_fits (ThreeBars at) (λ d. refl) tg inner p ch (selector (124 ∷ 124 ∷ 124 ∷ []) at)
have_fits tg inner p ch (Key t at) = keyword_fits tg inner p ch t at
have_fits tg inner p ch Semicolon = semicolon_fits tg inner p ch
have_fits tg inner p ch s = tt

bare_fits : (tg : List Name) (n : Name) (s : Sym) → MoveFits s (bare tg n s)
bare_fits tg n Assign = λ d. refl
bare_fits tg n s = have_fits tg (Plain Receiver) (variable n) [] s

super_fits : (tg : List Name) (inner : Inner) (s : Sym) → MoveFits s (super_goes tg inner s)
super_fits tg inner (Id t at) = λ d. refl
super_fits tg (Plain outer) (Op t at) = λ d. refl
super_fits tg (Plain outer) (Minus at) = λ d. refl
super_fits tg (Plain outer) (Bar at) = λ d. refl
super_fits tg (Plain outer) (TwoBars at) = λ d. refl
super_fits tg (Plain outer) (ThreeBars at) = λ d. refl
super_fits tg (Plain Receiver) (Key t at) = λ d. refl
super_fits tg inner s = tt

signed_fits : (tg : List Name) (inner : Inner) (n at : ℕ) (v : Bool) → MoveFits (Num n at) (if v then negated tg inner n else None)
signed_fits tg inner n at true = if_fits (Num n at) (Have tg inner (constant (negative n)) []) (λ d. refl) (nat_le n (2 ^ 127))
signed_fits tg inner n at false = tt

resend_fits : (tg : List Name) (r : Operand) (cs : List Message) (s : Sym) → MoveFits s (resend tg r cs s)
resend_fits tg r cs (Id t at) = λ d. refl
resend_fits tg r cs (Op t at) = λ d. refl
resend_fits tg r cs (Minus at) = λ d. refl
resend_fits tg r cs (Bar at) = λ d. refl
resend_fits tg r cs (TwoBars at) = λ d. refl
resend_fits tg r cs (ThreeBars at) = λ d. refl
resend_fits tg r cs (Key t at) = λ d. refl
resend_fits tg r cs s = tt

move_fits : (place : Place) (s : Sym) → MoveFits s (move place s)
move_fits (Start tg) s = begin_fits tg s
move_fits (Bare tg n) s = bare_fits tg n s
move_fits (Have tg inner p ch) s = have_fits tg inner p ch s
move_fits (Want tg inner) s = want_fits tg inner s
move_fits (Super tg inner) s = super_fits tg inner s
move_fits (Signed tg inner end) (Num n at) = signed_fits tg inner n at (at == end)
move_fits (Signed tg inner end) s = tt
move_fits (Again tg r cs) s = resend_fits tg r cs s
move_fits (Sent tg r cs) Semicolon = λ d. refl
move_fits (Sent tg r cs) s = tt

moved_depth : (home : Home) (fs : List Frame) (s : Sym) (m : Option Move) → MoveFits s m → KeepsDepth fs s (moved home fs m)
moved_depth home fs s None h = tt
moved_depth home fs s (Some (Next place)) h = h (length fs)
moved_depth home fs s (Some (OpenArray tg inner)) h = h (length fs)
moved_depth home fs s (Some (OpenParen tg inner)) h = h (length fs)
moved_depth home fs s (Some (OpenBlock at tg inner)) h = h (length fs)

up_depth : (fs : List Frame) (p : Primary) (s : Sym) → ((d : ℕ) → d - 1 ≡ deeper d s) → KeepsDepth fs s (up fs p)
up_depth [] p s h = tt
up_depth (Waits home tg inner ∷ fs) p s h = one_less (length fs) ∙ h (suc (length fs))
up_depth (Holds items ∷ fs) p s h = tt

close_paren_depth : (home : Home) (fs : List Frame) (w : Option Whole) → KeepsDepth fs ParenClose (close_paren home fs w)
close_paren_depth Paren fs (Some w) = up_depth fs _ ParenClose (λ d. refl)
close_paren_depth Paren fs None = tt
close_paren_depth (Body level done returns) fs w = tt

period_depth : (home : Home) (fs : List Frame) (w : Option Whole) → KeepsDepth fs Period (period home fs w)
period_depth (Body level done true) fs (Some w) = refl
period_depth (Body level done false) fs (Some w) = refl
period_depth (Body level done true) fs None = tt
period_depth (Body level done false) fs None = tt
period_depth Paren fs w = tt

close_level_depth : (level : Level) (fs : List Frame) (ss : List Statement) → KeepsDepth fs BlockClose (close_level level fs ss)
close_level_depth (Top heading ts) fs ss = tt
close_level_depth (Block at ns ts) fs ss = up_depth fs (block at ns ts ss) BlockClose (λ d. refl)

close_block_depth : (home : Home) (fs : List Frame) (w : Option Whole) → KeepsDepth fs BlockClose (close_block home fs w)
close_block_depth (Body level done returns) fs (Some w) = close_level_depth level fs _
close_block_depth (Body level done returns) fs None = tt
close_block_depth Paren fs w = tt

within_depth : (home : Home) (place : Place) (fs : List Frame) (s : Sym) → KeepsDepth fs s (within home place fs s)
within_depth home place fs ParenClose = close_paren_depth home fs (whole place)
within_depth home place fs BlockClose = close_block_depth home fs (whole place)
within_depth home place fs Period = period_depth home fs (whole place)
within_depth home place fs s = moved_depth home fs s (move place s) (move_fits place s)

statements_depth : (level : Level) (done : List Statement) (fs : List Frame) (s : Sym) → KeepsDepth fs s (statements level done fs s)
statements_depth level done fs Caret = refl
statements_depth level done fs BlockClose = close_level_depth level fs done
statements_depth level done fs s = moved_depth (Body level done false) fs s (begin [] s) (begin_fits [] s)

ended_depth : (level : Level) (done : List Statement) (fs : List Frame) (s : Sym) → KeepsDepth fs s (ended level done fs s)
ended_depth level done fs BlockClose = close_level_depth level fs done
ended_depth level done fs s = tt

fresh_depth : (level : Level) (fs : List Frame) (s : Sym) → KeepsDepth fs s (fresh level fs s)
fresh_depth level fs (Bar at) = refl
fresh_depth level fs (TwoBars at) = refl
fresh_depth level fs s = statements_depth level [] fs s

temporary_depth : (level : Level) (fs : List Frame) (r : Role) (t : List ℕ) (at : ℕ) → KeepsDepth fs (Id t at) (temporary_word level fs r t at)
temporary_depth level fs IsName t at = refl
temporary_depth level fs (IsValue p) t at = tt
temporary_depth level fs IsSuper t at = tt

temporaries_depth : (level : Level) (fs : List Frame) (s : Sym) → KeepsDepth fs s (temporaries level fs s)
temporaries_depth level fs (Id t at) = temporary_depth level fs (role t) t at
temporaries_depth level fs (Bar at) = refl
temporaries_depth level fs s = tt

opened_depth : (at : ℕ) (ns : List Name) (fs : List Frame) (s : Sym) → KeepsDepth fs s (opened at ns fs s)
opened_depth at [] fs Colon = refl
opened_depth at (n ∷ ns) fs Colon = refl
opened_depth at [] fs s = fresh_depth (Block at [] []) fs s
opened_depth at (n ∷ ns) fs (Bar bar_at) = refl
opened_depth at (n ∷ ns) fs (TwoBars bar_at) = refl
opened_depth at (n ∷ ns) fs (ThreeBars bar_at) = refl
opened_depth at (n ∷ ns) fs BlockClose = up_depth fs (block at (n ∷ ns) [] []) BlockClose (λ d. refl)
opened_depth at (n ∷ ns) fs s = tt

parameter_word_depth : (at : ℕ) (ns : List Name) (fs : List Frame) (r : Role) (t : List ℕ) (n_at : ℕ) → KeepsDepth fs (Id t n_at) (parameter_word at ns fs r t n_at)
parameter_word_depth at ns fs IsName t n_at = refl
parameter_word_depth at ns fs (IsValue p) t n_at = tt
parameter_word_depth at ns fs IsSuper t n_at = tt

parameter_depth : (at : ℕ) (ns : List Name) (fs : List Frame) (s : Sym) → KeepsDepth fs s (parameter at ns fs s)
parameter_depth at ns fs (Id t n_at) = parameter_word_depth at ns fs (role t) t n_at
parameter_depth at ns fs s = tt

pattern_depth : (fs : List Frame) (s : Sym) → KeepsDepth fs s (pattern fs s)
pattern_depth fs (Id t at) = refl
pattern_depth fs (Key t at) = refl
pattern_depth fs (Op t at) = refl
pattern_depth fs (Minus at) = refl
pattern_depth fs (Bar at) = refl
pattern_depth fs (TwoBars at) = refl
pattern_depth fs (ThreeBars at) = refl
pattern_depth fs s = tt

operator_word_depth : (k : List ℕ) (fs : List Frame) (r : Role) (t : List ℕ) (at : ℕ) → KeepsDepth fs (Id t at) (operator_word k fs r t at)
operator_word_depth k fs IsName t at = refl
operator_word_depth k fs (IsValue p) t at = tt
operator_word_depth k fs IsSuper t at = tt

operator_depth : (k : List ℕ) (fs : List Frame) (s : Sym) → KeepsDepth fs s (operator_read k fs s)
operator_depth k fs (Id t at) = operator_word_depth k fs (role t) t at
operator_depth k fs s = tt

keyword_word_depth : (k : List ℕ) (ns : List Name) (fs : List Frame) (r : Role) (t : List ℕ) (at : ℕ) → KeepsDepth fs (Id t at) (keyword_word k ns fs r t at)
keyword_word_depth k ns fs IsName t at = refl
keyword_word_depth k ns fs (IsValue p) t at = tt
keyword_word_depth k ns fs IsSuper t at = tt

keyword_depth : (k : List ℕ) (ns : List Name) (fs : List Frame) (s : Sym) → KeepsDepth fs s (keyword_read k ns fs s)
keyword_depth k ns fs (Id t at) = keyword_word_depth k ns fs (role t) t at
keyword_depth k ns fs s = tt

parameter_read_depth : (k : List ℕ) (ns : List Name) (fs : List Frame) (s : Sym) → KeepsDepth fs s (parameter_read k ns fs s)
parameter_read_depth k ns fs (Key t at) = refl
parameter_read_depth k ns fs s = fresh_depth (Top (Headed k ns) []) fs s

item_depth : (items : List Literal) (l : Literal) (fs : List Frame) (n at : ℕ) (v : Bool) → KeepsDepth fs (Num n at) (if v then with_item items l fs else None)
item_depth items l fs n at true = refl
item_depth items l fs n at false = tt

close_array_depth : (items : List Literal) (fs : List Frame) → KeepsDepth fs ParenClose (close_array fs items)
close_array_depth items [] = tt
close_array_depth items (Waits home tg inner ∷ fs) = one_less (length fs)
close_array_depth items (Holds outer ∷ fs) = one_less (length fs)

elements_depth : (items : List Literal) (fs : List Frame) (s : Sym) → KeepsDepth fs s (elements items fs s)
elements_depth items fs (Id t at) = refl
elements_depth items fs (Key t at) = refl
elements_depth items fs (Op t at) = refl
elements_depth items fs (Minus at) = refl
elements_depth items fs (Bar at) = refl
elements_depth items fs (TwoBars at) = refl
elements_depth items fs (ThreeBars at) = refl
elements_depth items fs (Num n at) = item_depth items (integer n) fs n at (nat_lt n (2 ^ 127))
elements_depth items fs (Lit l) = refl
elements_depth items fs ArrayOpen = one_more (length fs)
elements_depth items fs ParenOpen = one_more (length fs)
elements_depth items fs ParenClose = close_array_depth items fs
elements_depth items fs s = tt

dash_number_depth : (items : List Literal) (fs : List Frame) (n at : ℕ) (v : Bool) → KeepsDepth fs (Num n at) (if v then negated_item items n fs else elements (items ++ dash_symbol ∷ []) fs (Num n at))
dash_number_depth items fs n at true = item_depth items (negative n) fs n at (nat_le n (2 ^ 127))
dash_number_depth items fs n at false = elements_depth (items ++ dash_symbol ∷ []) fs (Num n at)

dash_depth : (items : List Literal) (end : ℕ) (fs : List Frame) (s : Sym) → KeepsDepth fs s (dash items end fs s)
dash_depth items end fs (Num n at) = dash_number_depth items fs n at (at == end)
dash_depth items end fs s = elements_depth (items ++ dash_symbol ∷ []) fs s

run_key_depth : (items : List Literal) (t u : List ℕ) (at : ℕ) (fs : List Frame) (v : Bool) → KeepsDepth fs (Key u at) (if v then Some (Run items (t ++ u) (at + length u), fs) else elements (items ++ literal.Symbol t ∷ []) fs (Key u at))
run_key_depth items t u at fs true = refl
run_key_depth items t u at fs false = refl

run_depth : (items : List Literal) (t : List ℕ) (end : ℕ) (fs : List Frame) (s : Sym) → KeepsDepth fs s (keyword_run items t end fs s)
run_depth items t end fs (Key u at) = run_key_depth items t u at fs (at == end)
run_depth items t end fs s = elements_depth (items ++ literal.Symbol t ∷ []) fs s

pub step_depth : (h : Here) (fs : List Frame) (s : Sym) → KeepsDepth fs s (step_at h fs s)
step_depth Pattern fs s = pattern_depth fs s
step_depth (OperatorRead k) fs s = operator_depth k fs s
step_depth (KeywordRead k ns) fs s = keyword_depth k ns fs s
step_depth (ParameterRead k ns) fs s = parameter_read_depth k ns fs s
step_depth (Opened at ns) fs s = opened_depth at ns fs s
step_depth (Parameter at ns) fs s = parameter_depth at ns fs s
step_depth (Fresh level) fs s = fresh_depth level fs s
step_depth (Temporaries level) fs s = temporaries_depth level fs s
step_depth (Statements level done) fs s = statements_depth level done fs s
step_depth (Ended level done) fs s = ended_depth level done fs s
step_depth (Within home place) fs s = within_depth home place fs s
step_depth (Elements items) fs s = elements_depth items fs s
step_depth (Dash items end) fs s = dash_depth items end fs s
step_depth (Run items t end) fs s = run_depth items t end fs s

after_depth : (fs : List Frame) (s : Sym) (a : List Sym) (m : Option State) (next : State) → KeepsDepth fs s m
    → ((x : State) → run x a ≡ Some next → length next.1 ≡ depth (length x.1) a)
    → option_and_then (λ x. run x a) m ≡ Some next → length next.1 ≡ depth (deeper (length fs) s) a
after_depth fs s a None next k rest e = cc
after_depth fs s a (Some x) next k rest e = rest x e ∙ ap (λ d. depth d a) k

run_depth_from : (a : List Sym) (state next : State) → run state a ≡ Some next → length next.1 ≡ depth (length state.1) a
run_depth_from [] state next e = let same : state ≡ next = cc in ap (λ (x : State). length x.1) (sym same)
run_depth_from (s ∷ a) state next e = after_depth state.1 s a (step state s) next (step_depth state.0 state.1 s) (λ x k. run_depth_from a x next k) e

-- as many frames wait as are open
pub frames_depth : (p : Production) (a : List Sym) (next : State) → run (start p) a ≡ Some next → length next.1 ≡ depth 0 a
frames_depth AMethod a next e = run_depth_from a (start AMethod) next e
frames_depth ABody a next e = run_depth_from a (start ABody) next e
