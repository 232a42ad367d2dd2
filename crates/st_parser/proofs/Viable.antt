-- Each state that the machine comes to can be completed.
use Rattle.std.proofs.Common.{◌≡◌, ℕ, List, [], ◌∷◌, ◌++◌, Bool, true, false, refl, ap, sym, ◌∙◌, subst, Option, Some, None, if◌then◌else◌, ◌+◌, ◌^◌, length}
use Rattle.std.proofs.lemmas.Bool.{eq-eqb}
use Rattle.std.specs.Prelude.{option_and_then, ◌==◌, nat_lt, nat_le}
use Rattle.st_tree.specs.declared.tree.Name.{Name}
use Rattle.st_tree.specs.declared.tree.Literal.{Literal}
use Rattle.st_tree.specs.declared.tree.Literal.TheVariants as literal
use Rattle.st_tree.specs.declared.tree.Primary.{Primary}
use Rattle.st_tree.specs.declared.tree.Primary.TheVariants as primary
use Rattle.st_tree.specs.declared.tree.Statement.{Statement}
use Rattle.st_tree.specs.Symbols.{Sym, Id, Key, Op, Minus, Bar, TwoBars, ThreeBars, Num, Lit, ArrayOpen, ParenOpen, ParenClose, BlockClose, Colon, Caret, Period, Role, IsName, IsValue, IsSuper, role}
use Rattle.st_tree.specs.Trees.{name, variable, integer, negative, array, constant, message, block, paren, stated}
use Rattle.st_tree.specs.Grammar.{Production, AMethod, ABody, Tree}
use Rattle.st_tree.specs.Faults.{CanStand, CannotStand}
use Rattle.st_parser.specs.Machine.{Receiver, Inner, Plain, Place, Start, Bare, Have, Want, Super, Signed, Again, Sent, Headed, Level, Top, Block, Home, Paren, Body, Here, Pattern, OperatorRead, KeywordRead, ParameterRead, Opened, Parameter, Fresh, Temporaries, Statements, Ended, Within, Elements, Dash, Run, Frame, Waits, Holds, Whole, State, Move, Next, OpenArray, OpenParen, OpenBlock, finish, parse, run, step, accept_within, start, tree_of, whole, move, moved, begin, negated, fresh, temporaries, temporary_word, step_at, within, statements, ended, opened, parameter, parameter_word, up, close_paren, close_block, close_array, period, expr_of, pattern, operator_word, operator_read, keyword_word, keyword_read, parameter_read, elements, with_item, negated_item, dash, keyword_run}
use Rattle.st_parser.proofs.Arrays.{dash_symbol}
use Rattle.st_parser.proofs.Follow.{role_first, role_wanted}
use Rattle.st_parser.proofs.Complete.{complete}
use Rattle.st_parser.proofs.SoundLevels.{sound}

-- what is read: the outermost level, what an expression waits for, or an array
pub data Kind : Type 0 where
  Outermost : Kind
  Inside : Kind
  InArray : Kind

abbrev pub level_kind : Level → Kind
level_kind (Top heading ts) = Outermost
level_kind (Block at ns ts) = Inside

abbrev pub home_kind : Home → Kind
home_kind Paren = Inside
home_kind (Body level done returns) = level_kind level

abbrev pub kind : Here → Kind
kind Pattern = Outermost
kind (OperatorRead k) = Outermost
kind (KeywordRead k ns) = Outermost
kind (ParameterRead k ns) = Outermost
kind (Fresh level) = level_kind level
kind (Temporaries level) = level_kind level
kind (Statements level done) = level_kind level
kind (Ended level done) = level_kind level
kind (Within home place) = home_kind home
kind (Elements items) = InArray
kind (Dash items at) = InArray
kind (Run items t end) = InArray
kind h = Inside

-- nothing waits around the outermost level, and something around each other one
abbrev pub Nested : Kind → List Frame → Type 0
Nested Outermost [] = Unit {0}
Nested Outermost (f ∷ fs) = ⊥
Nested Inside [] = ⊥
Nested Inside (Waits home tg inner ∷ fs) = Nested (home_kind home) fs
Nested Inside (Holds items ∷ fs) = ⊥
Nested InArray [] = ⊥
Nested InArray (Waits home tg inner ∷ fs) = Nested (home_kind home) fs
Nested InArray (Holds items ∷ fs) = Nested InArray fs

abbrev KeepsNested : Here → List Frame → Option State → Type 0
KeepsNested h fs None = Unit {0}
KeepsNested h fs (Some next) = Nested (kind h) fs → Nested (kind next.0) next.1

moved_nested : (home : Home) (place : Place) (fs : List Frame) (m : Option Move) → KeepsNested (Within home place) fs (moved home fs m)
moved_nested home place fs None = tt
moved_nested home place fs (Some (Next next)) = λ n. n
moved_nested home place fs (Some (OpenArray tg inner)) = λ n. n
moved_nested home place fs (Some (OpenParen tg inner)) = λ n. n
moved_nested home place fs (Some (OpenBlock at tg inner)) = λ n. n

close_paren_nested : (home : Home) (place : Place) (fs : List Frame) (w : Option Whole) → KeepsNested (Within home place) fs (close_paren home fs w)
close_paren_nested Paren place fs None = tt
close_paren_nested Paren place [] (Some w) = tt
close_paren_nested Paren place (Holds items ∷ fs) (Some w) = tt
close_paren_nested Paren place (Waits home tg inner ∷ fs) (Some w) = λ n. n
close_paren_nested (Body level done returns) place fs w = tt

period_nested : (home : Home) (place : Place) (fs : List Frame) (w : Option Whole) → KeepsNested (Within home place) fs (period home fs w)
period_nested (Body level done true) place fs (Some w) = λ n. n
period_nested (Body level done false) place fs (Some w) = λ n. n
period_nested (Body level done true) place fs None = tt
period_nested (Body level done false) place fs None = tt
period_nested Paren place fs w = tt

close_block_nested : (home : Home) (place : Place) (fs : List Frame) (w : Option Whole) → KeepsNested (Within home place) fs (close_block home fs w)
close_block_nested (Body (Top heading ts) done returns) place fs (Some w) = tt
close_block_nested (Body (Block at ns ts) done returns) place [] (Some w) = tt
close_block_nested (Body (Block at ns ts) done returns) place (Holds items ∷ fs) (Some w) = tt
close_block_nested (Body (Block at ns ts) done returns) place (Waits home tg inner ∷ fs) (Some w) = λ n. n
close_block_nested (Body level done returns) place fs None = tt
close_block_nested Paren place fs w = tt

within_nested : (home : Home) (place : Place) (fs : List Frame) (s : Sym) → KeepsNested (Within home place) fs (within home place fs s)
within_nested home place fs ParenClose = close_paren_nested home place fs (whole place)
within_nested home place fs BlockClose = close_block_nested home place fs (whole place)
within_nested home place fs Period = period_nested home place fs (whole place)
within_nested home place fs s = moved_nested home place fs (move place s)

statements_nested : (level : Level) (done : List Statement) (fs : List Frame) (s : Sym) → KeepsNested (Statements level done) fs (statements level done fs s)
statements_nested level done fs Caret = λ n. n
statements_nested (Top heading ts) done fs BlockClose = tt
statements_nested (Block at ns ts) done [] BlockClose = tt
statements_nested (Block at ns ts) done (Holds items ∷ fs) BlockClose = tt
statements_nested (Block at ns ts) done (Waits home tg inner ∷ fs) BlockClose = λ n. n
statements_nested level done fs s = from (moved (Body level done false) fs (begin [] s)) (moved_nested (Body level done false) (Start []) fs (begin [] s))
  where
    from : (m : Option State) → KeepsNested (Within (Body level done false) (Start [])) fs m → KeepsNested (Statements level done) fs m
    from None k = tt
    from (Some next) k = k

ended_nested : (level : Level) (done : List Statement) (fs : List Frame) (s : Sym) → KeepsNested (Ended level done) fs (ended level done fs s)
ended_nested (Top heading ts) done fs BlockClose = tt
ended_nested (Block at ns ts) done [] BlockClose = tt
ended_nested (Block at ns ts) done (Holds items ∷ fs) BlockClose = tt
ended_nested (Block at ns ts) done (Waits home tg inner ∷ fs) BlockClose = λ n. n
ended_nested level done fs s = tt

fresh_nested : (level : Level) (fs : List Frame) (s : Sym) → KeepsNested (Fresh level) fs (fresh level fs s)
fresh_nested level fs (Bar at) = λ n. n
fresh_nested level fs (TwoBars at) = λ n. n
fresh_nested level fs s = from (statements level [] fs s) (statements_nested level [] fs s)
  where
    from : (m : Option State) → KeepsNested (Statements level []) fs m → KeepsNested (Fresh level) fs m
    from None k = tt
    from (Some next) k = k

temporary_nested : (level : Level) (fs : List Frame) (r : Role) (t : List ℕ) (at : ℕ) → KeepsNested (Temporaries level) fs (temporary_word level fs r t at)
temporary_nested (Top heading ts) fs IsName t at = λ n. n
temporary_nested (Block at' ns ts) fs IsName t at = λ n. n
temporary_nested level fs (IsValue p) t at = tt
temporary_nested level fs IsSuper t at = tt

temporaries_nested : (level : Level) (fs : List Frame) (s : Sym) → KeepsNested (Temporaries level) fs (temporaries level fs s)
temporaries_nested level fs (Id t at) = temporary_nested level fs (role t) t at
temporaries_nested level fs (Bar at) = λ n. n
temporaries_nested level fs s = tt

close_nested : (at : ℕ) (ns : List Name) (fs : List Frame) → KeepsNested (Opened at ns) fs (up fs (block at ns [] []))
close_nested at ns [] = tt
close_nested at ns (Holds items ∷ fs) = tt
close_nested at ns (Waits home tg inner ∷ fs) = λ n. n

plain_nested : (at : ℕ) (fs : List Frame) (m : Option State) → KeepsNested (Fresh (Block at [] [])) fs m → KeepsNested (Opened at []) fs m
plain_nested at fs None h = tt
plain_nested at fs (Some next) h = h

opened_nested : (at : ℕ) (ns : List Name) (fs : List Frame) (s : Sym) → KeepsNested (Opened at ns) fs (opened at ns fs s)
opened_nested at [] fs Colon = λ n. n
opened_nested at (n ∷ ns) fs Colon = λ n. n
opened_nested at [] fs s = plain_nested at fs (fresh (Block at [] []) fs s) (fresh_nested (Block at [] []) fs s)
opened_nested at (n ∷ ns) fs (Bar bar_at) = λ n. n
opened_nested at (n ∷ ns) fs (TwoBars bar_at) = λ n. n
opened_nested at (n ∷ ns) fs (ThreeBars bar_at) = λ n. n
opened_nested at (n ∷ ns) fs BlockClose = close_nested at (n ∷ ns) fs
opened_nested at (n ∷ ns) fs s = tt

word_nested : (at : ℕ) (ns : List Name) (fs : List Frame) (r : Role) (t : List ℕ) (n_at : ℕ) → KeepsNested (Parameter at ns) fs (parameter_word at ns fs r t n_at)
word_nested at ns fs IsName t n_at = λ n. n
word_nested at ns fs (IsValue p) t n_at = tt
word_nested at ns fs IsSuper t n_at = tt

parameter_nested : (at : ℕ) (ns : List Name) (fs : List Frame) (s : Sym) → KeepsNested (Parameter at ns) fs (parameter at ns fs s)
parameter_nested at ns fs (Id t n_at) = word_nested at ns fs (role t) t n_at
parameter_nested at ns fs s = tt

pattern_nested : (fs : List Frame) (s : Sym) → KeepsNested Pattern fs (pattern fs s)
pattern_nested fs (Id t at) = λ n. n
pattern_nested fs (Key t at) = λ n. n
pattern_nested fs (Op t at) = λ n. n
pattern_nested fs (Minus at) = λ n. n
pattern_nested fs (Bar at) = λ n. n
pattern_nested fs (TwoBars at) = λ n. n
pattern_nested fs (ThreeBars at) = λ n. n
pattern_nested fs s = tt

operator_word_nested : (k : List ℕ) (fs : List Frame) (r : Role) (t : List ℕ) (at : ℕ) → KeepsNested (OperatorRead k) fs (operator_word k fs r t at)
operator_word_nested k fs IsName t at = λ n. n
operator_word_nested k fs (IsValue p) t at = tt
operator_word_nested k fs IsSuper t at = tt

operator_nested : (k : List ℕ) (fs : List Frame) (s : Sym) → KeepsNested (OperatorRead k) fs (operator_read k fs s)
operator_nested k fs (Id t at) = operator_word_nested k fs (role t) t at
operator_nested k fs s = tt

keyword_word_nested : (k : List ℕ) (ns : List Name) (fs : List Frame) (r : Role) (t : List ℕ) (at : ℕ) → KeepsNested (KeywordRead k ns) fs (keyword_word k ns fs r t at)
keyword_word_nested k ns fs IsName t at = λ n. n
keyword_word_nested k ns fs (IsValue p) t at = tt
keyword_word_nested k ns fs IsSuper t at = tt

keyword_nested : (k : List ℕ) (ns : List Name) (fs : List Frame) (s : Sym) → KeepsNested (KeywordRead k ns) fs (keyword_read k ns fs s)
keyword_nested k ns fs (Id t at) = keyword_word_nested k ns fs (role t) t at
keyword_nested k ns fs s = tt

parameter_read_nested : (k : List ℕ) (ns : List Name) (fs : List Frame) (s : Sym) → KeepsNested (ParameterRead k ns) fs (parameter_read k ns fs s)
parameter_read_nested k ns fs (Key t at) = λ n. n
parameter_read_nested k ns fs s = from (fresh (Top (Headed k ns) []) fs s) (fresh_nested (Top (Headed k ns) []) fs s)
  where
    from : (m : Option State) → KeepsNested (Fresh (Top (Headed k ns) [])) fs m → KeepsNested (ParameterRead k ns) fs m
    from None h = tt
    from (Some next) h = h

item_nested : (items : List Literal) (l : Literal) (fs : List Frame) (v : Bool) → KeepsNested (Elements items) fs (if v then with_item items l fs else None)
item_nested items l fs true = λ n. n
item_nested items l fs false = tt

close_array_nested : (items : List Literal) (fs : List Frame) → KeepsNested (Elements items) fs (close_array fs items)
close_array_nested items [] = tt
close_array_nested items (Waits home tg inner ∷ fs) = λ n. n
close_array_nested items (Holds outer ∷ fs) = λ n. n

elements_nested : (items : List Literal) (fs : List Frame) (s : Sym) → KeepsNested (Elements items) fs (elements items fs s)
elements_nested items fs (Id t at) = λ n. n
elements_nested items fs (Key t at) = λ n. n
elements_nested items fs (Op t at) = λ n. n
elements_nested items fs (Minus at) = λ n. n
elements_nested items fs (Bar at) = λ n. n
elements_nested items fs (TwoBars at) = λ n. n
elements_nested items fs (ThreeBars at) = λ n. n
elements_nested items fs (Num n at) = item_nested items (integer n) fs (nat_lt n (2 ^ 127))
elements_nested items fs (Lit l) = λ n. n
elements_nested items fs ArrayOpen = λ n. n
elements_nested items fs ParenOpen = λ n. n
elements_nested items fs ParenClose = close_array_nested items fs
elements_nested items fs s = tt

dash_from_nested : (items before : List Literal) (end : ℕ) (fs : List Frame) (m : Option State) → KeepsNested (Elements before) fs m → KeepsNested (Dash items end) fs m
dash_from_nested items before end fs None h = tt
dash_from_nested items before end fs (Some next) h = h

dash_number_nested : (items : List Literal) (end : ℕ) (fs : List Frame) (n at : ℕ) (v : Bool)
    → KeepsNested (Dash items end) fs (if v then negated_item items n fs else elements (items ++ dash_symbol ∷ []) fs (Num n at))
dash_number_nested items end fs n at true = dash_from_nested items items end fs (negated_item items n fs) (item_nested items (negative n) fs (nat_le n (2 ^ 127)))
dash_number_nested items end fs n at false = dash_from_nested items (items ++ dash_symbol ∷ []) end fs (elements (items ++ dash_symbol ∷ []) fs (Num n at)) (elements_nested (items ++ dash_symbol ∷ []) fs (Num n at))

dash_nested : (items : List Literal) (end : ℕ) (fs : List Frame) (s : Sym) → KeepsNested (Dash items end) fs (dash items end fs s)
dash_nested items end fs (Num n at) = dash_number_nested items end fs n at (at == end)
dash_nested items end fs s = dash_from_nested items (items ++ dash_symbol ∷ []) end fs (elements (items ++ dash_symbol ∷ []) fs s) (elements_nested (items ++ dash_symbol ∷ []) fs s)

run_from_nested : (items before : List Literal) (t : List ℕ) (end : ℕ) (fs : List Frame) (m : Option State) → KeepsNested (Elements before) fs m → KeepsNested (Run items t end) fs m
run_from_nested items before t end fs None h = tt
run_from_nested items before t end fs (Some next) h = h

run_key_nested : (items : List Literal) (t : List ℕ) (end : ℕ) (fs : List Frame) (u : List ℕ) (at : ℕ) (v : Bool)
    → KeepsNested (Run items t end) fs (if v then Some (Run items (t ++ u) (at + length u), fs) else elements (items ++ literal.Symbol t ∷ []) fs (Key u at))
run_key_nested items t end fs u at true = λ n. n
run_key_nested items t end fs u at false = λ n. n

run_here_nested : (items : List Literal) (t : List ℕ) (end : ℕ) (fs : List Frame) (s : Sym) → KeepsNested (Run items t end) fs (keyword_run items t end fs s)
run_here_nested items t end fs (Key u at) = run_key_nested items t end fs u at (at == end)
run_here_nested items t end fs s = run_from_nested items (items ++ literal.Symbol t ∷ []) t end fs (elements (items ++ literal.Symbol t ∷ []) fs s) (elements_nested (items ++ literal.Symbol t ∷ []) fs s)

step_nested : (h : Here) (fs : List Frame) (s : Sym) → KeepsNested h fs (step_at h fs s)
step_nested Pattern fs s = pattern_nested fs s
step_nested (OperatorRead k) fs s = operator_nested k fs s
step_nested (KeywordRead k ns) fs s = keyword_nested k ns fs s
step_nested (ParameterRead k ns) fs s = parameter_read_nested k ns fs s
step_nested (Opened at ns) fs s = opened_nested at ns fs s
step_nested (Parameter at ns) fs s = parameter_nested at ns fs s
step_nested (Fresh level) fs s = fresh_nested level fs s
step_nested (Temporaries level) fs s = temporaries_nested level fs s
step_nested (Statements level done) fs s = statements_nested level done fs s
step_nested (Ended level done) fs s = ended_nested level done fs s
step_nested (Within home place) fs s = within_nested home place fs s
step_nested (Elements items) fs s = elements_nested items fs s
step_nested (Dash items at) fs s = dash_nested items at fs s
step_nested (Run items t end) fs s = run_here_nested items t end fs s

run_nested : (a : List Sym) (h : Here) (fs : List Frame) → Nested (kind h) fs → (next : State) → run (h, fs) a ≡ Some next → Nested (kind next.0) next.1
run_nested [] h fs n next e = subst (λ x. Nested (kind x.0) x.1) (some_state (h, fs) next e) n
  where
    some_state : (x y : State) → Some x ≡ Some y → x ≡ y
    some_state x y e = cc
run_nested (s ∷ a) h fs n next e = after h fs s a n next (step_at h fs s) (step_nested h fs s) (λ h' fs' n' e'. run_nested a h' fs' n' next e') e
  where
    after : (h : Here) (fs : List Frame) (s : Sym) (a : List Sym) → Nested (kind h) fs → (next : State) → (m : Option State) → KeepsNested h fs m
        → ((h' : Here) (fs' : List Frame) → Nested (kind h') fs' → run (h', fs') a ≡ Some next → Nested (kind next.0) next.1)
        → option_and_then (λ x. run x a) m ≡ Some next → Nested (kind next.0) next.1
    after h fs s a n next None k rest e = cc
    after h fs s a n next (Some x) k rest e = rest x.0 x.1 (k n) e

-- ---- completions

abbrev pub CanComplete : State → Type 0
CanComplete state = (more : List Sym) × (r : Tree) × (parse state more ≡ Some r)

-- a state from which a token leads to one that can be completed
before : (state next : State) (s : Sym) → ((a : List Sym) → parse state (s ∷ a) ≡ parse next a) → CanComplete next → CanComplete state
before state next s e (more, r, k) = (s ∷ more, r, e more ∙ k)

whole_viable : (fs : List Frame) (home : Home) (place : Place) (w : Whole) → whole place ≡ Some w → Nested (home_kind home) fs → CanComplete (Within home place, fs)
whole_viable [] Paren place w e n = absurd n
whole_viable [] (Body (Top heading ts) done returns) place w e n = ([], tree_of heading ts (done ++ stated returns (expr_of w) ∷ []), ap (accept_within (Body (Top heading ts) done returns) []) e)
whole_viable [] (Body (Block at ns ts) done returns) place w e n = absurd n
whole_viable (f ∷ fs) (Body (Top heading ts) done returns) place w e n = absurd n
whole_viable (Holds items ∷ fs) Paren place w e n = absurd n
whole_viable (Holds items ∷ fs) (Body (Block at ns ts) done returns) place w e n = absurd n
whole_viable (Waits home tg inner ∷ fs) Paren place w e n =
    before (Within Paren place, Waits home tg inner ∷ fs) (Within home (Have tg inner (paren (expr_of w)) []), fs) ParenClose
    (λ a. ap (λ x. option_and_then (λ next. parse next a) (close_paren Paren (Waits home tg inner ∷ fs) x)) e)
    (whole_viable fs home (Have tg inner (paren (expr_of w)) []) (finish tg inner (paren (expr_of w)) []) refl n)
whole_viable (Waits home tg inner ∷ fs) (Body (Block at ns ts) done returns) place w e n =
    before (Within (Body (Block at ns ts) done returns) place, Waits home tg inner ∷ fs) (Within home (Have tg inner (block at ns ts (done ++ stated returns (expr_of w) ∷ [])) []), fs) BlockClose
    (λ a. ap (λ x. option_and_then (λ next. parse next a) (close_block (Body (Block at ns ts) done returns) (Waits home tg inner ∷ fs) x)) e)
    (whole_viable fs home (Have tg inner (block at ns ts (done ++ stated returns (expr_of w) ∷ [])) []) (finish tg inner (block at ns ts (done ++ stated returns (expr_of w) ∷ [])) []) refl n)

value_viable : (home : Home) (tg : List Name) (inner : Inner) (fs : List Frame) (p : Primary) → Nested (home_kind home) fs → CanComplete (Within home (Have tg inner p []), fs)
value_viable home tg inner fs p n = whole_viable fs home (Have tg inner p []) (finish tg inner p []) refl n

array_viable : (fs : List Frame) (items : List Literal) → Nested InArray fs → CanComplete (Elements items, fs)
array_viable [] items n = absurd n
array_viable (Waits home tg inner ∷ fs) items n = before (Elements items, Waits home tg inner ∷ fs) (Within home (Have tg inner (constant (array items)) []), fs) ParenClose (λ a. refl) (value_viable home tg inner fs (constant (array items)) n)
array_viable (Holds outer ∷ fs) items n = before (Elements items, Holds outer ∷ fs) (Elements (outer ++ array items ∷ []), fs) ParenClose (λ a. refl) (array_viable fs (outer ++ array items ∷ []) n)

dash_viable : (fs : List Frame) (items : List Literal) (end : ℕ) → Nested InArray fs → CanComplete (Dash items end, fs)
dash_viable [] items end n = absurd n
dash_viable (Waits home tg inner ∷ fs) items end n =
    before (Dash items end, Waits home tg inner ∷ fs) (Within home (Have tg inner (constant (array (items ++ dash_symbol ∷ []))) []), fs) ParenClose (λ a. refl) (value_viable home tg inner fs (constant (array (items ++ dash_symbol ∷ []))) n)
dash_viable (Holds outer ∷ fs) items end n =
    before (Dash items end, Holds outer ∷ fs) (Elements (outer ++ array (items ++ dash_symbol ∷ []) ∷ []), fs) ParenClose (λ a. refl) (array_viable fs (outer ++ array (items ++ dash_symbol ∷ []) ∷ []) n)

run_viable : (fs : List Frame) (items : List Literal) (t : List ℕ) (end : ℕ) → Nested InArray fs → CanComplete (Run items t end, fs)
run_viable [] items t end n = absurd n
run_viable (Waits home tg inner ∷ fs) items t end n =
    before (Run items t end, Waits home tg inner ∷ fs) (Within home (Have tg inner (constant (array (items ++ literal.Symbol t ∷ []))) []), fs) ParenClose (λ a. refl) (value_viable home tg inner fs (constant (array (items ++ literal.Symbol t ∷ []))) n)
run_viable (Holds outer ∷ fs) items t end n =
    before (Run items t end, Holds outer ∷ fs) (Elements (outer ++ array (items ++ literal.Symbol t ∷ []) ∷ []), fs) ParenClose (λ a. refl) (array_viable fs (outer ++ array (items ++ literal.Symbol t ∷ []) ∷ []) n)

-- the text `x`
x : List ℕ
x = 120 ∷ []

x_named : role x ≡ IsName
unfolding x role
x_named = refl

place_viable : (fs : List Frame) (home : Home) (place : Place) → Nested (home_kind home) fs → CanComplete (Within home place, fs)
place_viable fs home (Start tg) n = before (Within home (Start tg), fs) (Within home (Bare tg (name x 0)), fs) (Id x 0) (λ a. role_first home fs tg x 0 a x_named)
    (whole_viable fs home (Bare tg (name x 0)) (finish tg (Plain Receiver) (variable (name x 0)) []) refl n)
place_viable fs home (Bare tg m) n = whole_viable fs home (Bare tg m) (finish tg (Plain Receiver) (variable m) []) refl n
place_viable fs home (Have tg inner p ch) n = whole_viable fs home (Have tg inner p ch) (finish tg inner p ch) refl n
place_viable fs home (Want tg inner) n = before (Within home (Want tg inner), fs) (Within home (Have tg inner (variable (name x 0)) []), fs) (Id x 0) (λ a. role_wanted home fs tg inner x 0 a x_named)
    (whole_viable fs home (Have tg inner (variable (name x 0)) []) (finish tg inner (variable (name x 0)) []) refl n)
place_viable fs home (Super tg inner) n = before (Within home (Super tg inner), fs) (Within home (Have tg inner primary.SuperValue (message x 0 [] ∷ [])), fs) (Id x 0) (λ a. refl)
    (whole_viable fs home (Have tg inner primary.SuperValue (message x 0 [] ∷ [])) (finish tg inner primary.SuperValue (message x 0 [] ∷ [])) refl n)
place_viable fs home (Signed tg inner at) n = before (Within home (Signed tg inner at), fs) (Within home (Have tg inner (constant (negative 1)) []), fs) (Num 1 at)
    (λ a. ap (λ b. option_and_then (λ next. parse next a) (moved home fs (if b then negated tg inner 1 else None))) (eq-eqb at at refl))
    (whole_viable fs home (Have tg inner (constant (negative 1)) []) (finish tg inner (constant (negative 1)) []) refl n)
place_viable fs home (Again tg r ks) n = before (Within home (Again tg r ks), fs) (Within home (Sent tg r (ks ++ message x 0 [] ∷ [])), fs) (Id x 0) (λ a. refl)
    (whole_viable fs home (Sent tg r (ks ++ message x 0 [] ∷ [])) (record { targets = tg; receiver = r; cascade = ks ++ message x 0 [] ∷ [] }) refl n)
place_viable fs home (Sent tg r ks) n = whole_viable fs home (Sent tg r ks) (record { targets = tg; receiver = r; cascade = ks }) refl n

pub viable : (h : Here) (fs : List Frame) → Nested (kind h) fs → CanComplete (h, fs)
viable Pattern [] n = before (Pattern, []) (Fresh (Top (Headed x []) []), []) (Id x 0) (λ a. refl) ([], tree_of (Headed x []) [] [], refl)
viable Pattern (f ∷ fs) n = absurd n
viable (OperatorRead k) [] n = before (OperatorRead k, []) (Fresh (Top (Headed k (name x 0 ∷ [])) []), []) (Id x 0)
    (λ a. ap (λ r. option_and_then (λ next. parse next a) (operator_word k [] r x 0)) x_named) ([], tree_of (Headed k (name x 0 ∷ [])) [] [], refl)
viable (OperatorRead k) (f ∷ fs) n = absurd n
viable (KeywordRead k ns) [] n = before (KeywordRead k ns, []) (ParameterRead k (ns ++ name x 0 ∷ []), []) (Id x 0)
    (λ a. ap (λ r. option_and_then (λ next. parse next a) (keyword_word k ns [] r x 0)) x_named) ([], tree_of (Headed k (ns ++ name x 0 ∷ [])) [] [], refl)
viable (KeywordRead k ns) (f ∷ fs) n = absurd n
viable (ParameterRead k ns) [] n = ([], tree_of (Headed k ns) [] [], refl)
viable (ParameterRead k ns) (f ∷ fs) n = absurd n
viable (Opened at ns) [] n = absurd n
viable (Opened at ns) (Holds items ∷ fs) n = absurd n
viable (Opened at []) (Waits home tg inner ∷ fs) n = before (Opened at [], Waits home tg inner ∷ fs) (Within home (Have tg inner (block at [] [] []) []), fs) BlockClose (λ a. refl) (value_viable home tg inner fs (block at [] [] []) n)
viable (Opened at (m ∷ ns)) (Waits home tg inner ∷ fs) n = before (Opened at (m ∷ ns), Waits home tg inner ∷ fs) (Within home (Have tg inner (block at (m ∷ ns) [] []) []), fs) BlockClose (λ a. refl) (value_viable home tg inner fs (block at (m ∷ ns) [] []) n)
viable (Parameter at ns) [] n = absurd n
viable (Parameter at ns) (Holds items ∷ fs) n = absurd n
viable (Parameter at ns) (Waits home tg inner ∷ fs) n = before (Parameter at ns, Waits home tg inner ∷ fs) (Opened at (ns ++ name x 0 ∷ []), Waits home tg inner ∷ fs) (Id x 0)
    (λ a. ap (λ r. option_and_then (λ next. parse next a) (parameter_word at ns (Waits home tg inner ∷ fs) r x 0)) x_named)
    (before (Opened at (ns ++ name x 0 ∷ []), Waits home tg inner ∷ fs) (Within home (Have tg inner (block at (ns ++ name x 0 ∷ []) [] []) []), fs) BlockClose (λ a. closes ns a) (value_viable home tg inner fs (block at (ns ++ name x 0 ∷ []) [] []) n))
  where
    closes : (ms : List Name) (a : List Sym) → parse (Opened at (ms ++ name x 0 ∷ []), Waits home tg inner ∷ fs) (BlockClose ∷ a) ≡ parse (Within home (Have tg inner (block at (ms ++ name x 0 ∷ []) [] []) []), fs) a
    closes [] a = refl
    closes (m ∷ ms) a = refl
viable (Fresh (Top heading ts)) [] n = ([], tree_of heading ts [], refl)
viable (Fresh (Top heading ts)) (f ∷ fs) n = absurd n
viable (Fresh (Block at ns ts)) [] n = absurd n
viable (Fresh (Block at ns ts)) (Holds items ∷ fs) n = absurd n
viable (Fresh (Block at ns ts)) (Waits home tg inner ∷ fs) n = before (Fresh (Block at ns ts), Waits home tg inner ∷ fs) (Within home (Have tg inner (block at ns ts []) []), fs) BlockClose (λ a. refl) (value_viable home tg inner fs (block at ns ts []) n)
viable (Temporaries (Top heading ts)) [] n = (Bar 0 ∷ [], tree_of heading ts [], refl)
viable (Temporaries (Top heading ts)) (f ∷ fs) n = absurd n
viable (Temporaries (Block at ns ts)) [] n = absurd n
viable (Temporaries (Block at ns ts)) (Holds items ∷ fs) n = absurd n
viable (Temporaries (Block at ns ts)) (Waits home tg inner ∷ fs) n = before (Temporaries (Block at ns ts), Waits home tg inner ∷ fs) (Statements (Block at ns ts) [], Waits home tg inner ∷ fs) (Bar 0) (λ a. refl)
    (before (Statements (Block at ns ts) [], Waits home tg inner ∷ fs) (Within home (Have tg inner (block at ns ts []) []), fs) BlockClose (λ a. refl) (value_viable home tg inner fs (block at ns ts []) n))
viable (Statements (Top heading ts) done) [] n = ([], tree_of heading ts done, refl)
viable (Statements (Top heading ts) done) (f ∷ fs) n = absurd n
viable (Statements (Block at ns ts) done) [] n = absurd n
viable (Statements (Block at ns ts) done) (Holds items ∷ fs) n = absurd n
viable (Statements (Block at ns ts) done) (Waits home tg inner ∷ fs) n = before (Statements (Block at ns ts) done, Waits home tg inner ∷ fs) (Within home (Have tg inner (block at ns ts done) []), fs) BlockClose (λ a. refl) (value_viable home tg inner fs (block at ns ts done) n)
viable (Ended (Top heading ts) done) [] n = ([], tree_of heading ts done, refl)
viable (Ended (Top heading ts) done) (f ∷ fs) n = absurd n
viable (Ended (Block at ns ts) done) [] n = absurd n
viable (Ended (Block at ns ts) done) (Holds items ∷ fs) n = absurd n
viable (Ended (Block at ns ts) done) (Waits home tg inner ∷ fs) n = before (Ended (Block at ns ts) done, Waits home tg inner ∷ fs) (Within home (Have tg inner (block at ns ts done) []), fs) BlockClose (λ a. refl) (value_viable home tg inner fs (block at ns ts done) n)
viable (Within home place) fs n = place_viable fs home place n
viable (Elements items) fs n = array_viable fs items n
viable (Dash items end) fs n = dash_viable fs items end n
viable (Run items t end) fs n = run_viable fs items t end n

-- ---- what the machine says of a list of tokens

pub parse_append : (a b : List Sym) (state : State) → parse state (a ++ b) ≡ option_and_then (λ next. parse next b) (run state a)
parse_append [] b state = refl
parse_append (s ∷ a) b state = after (step state s) (λ next. parse_append a b next)
  where
    after : (m : Option State) → ((next : State) → parse next (a ++ b) ≡ option_and_then (λ y. parse y b) (run next a))
        → option_and_then (λ next. parse next (a ++ b)) m ≡ option_and_then (λ y. parse y b) (option_and_then (λ y. run y a) m)
    after None k = refl
    after (Some next) k = k next

start_nested : (p : Production) → Nested (kind (start p).0) (start p).1
start_nested AMethod = tt
start_nested ABody = tt

none_some : (r : Tree) → None ≡ Some r → ⊥
none_some r e = cc

-- tokens that lead to a state are the front of a list that derives
pub can_stand : (p : Production) (a : List Sym) (next : State) → run (start p) a ≡ Some next → CanStand p a
can_stand p a next e =
    let (more, r, k) = viable next.0 next.1 (run_nested a (start p).0 (start p).1 (start_nested p) next e) in
    (more, r, sound p (a ++ more) r (parse_append a more (start p) ∙ ap (option_and_then (λ y. parse y more)) e ∙ k))

-- tokens that lead to none are the front of no such list
pub cannot_stand : (p : Production) (a : List Sym) → run (start p) a ≡ None → CannotStand p a
cannot_stand p a e more r d = none_some r (sym (parse_append a more (start p) ∙ ap (option_and_then (λ y. parse y more)) e) ∙ complete d)
