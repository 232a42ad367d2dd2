-- The same for whole states, and the law: what the machine reads from the start, the grammar derives.
use Rattle.std.proofs.Common.{◌≡◌, ℕ, List, [], ◌∷◌, ◌++◌, Bool, true, false, refl, sym, subst, append-nil, append_assoc, Option, Some, None, if◌then◌else◌, ◌⊎◌, inl, inr, ◌+◌, ◌≤◌, ◌^◌, length}
use Rattle.std.specs.Prelude.{option_and_then, ◌==◌, nat_lt, nat_le}
use Rattle.std.proofs.lemmas.Bool.{eqb-true, eqb-false, ltb-true, leb-true}
use Rattle.st_tree.specs.declared.tree.Name.{Name}
use Rattle.st_tree.specs.declared.tree.Literal.{Literal}
use Rattle.st_tree.specs.declared.tree.Literal.TheVariants as literal
use Rattle.st_tree.specs.declared.tree.Primary.{Primary}
use Rattle.st_tree.specs.declared.tree.Statement.{Statement}
use Rattle.st_tree.specs.declared.tree.Message.{Message}
use Rattle.st_tree.specs.declared.tree.Operand.{Operand}
use Rattle.st_tree.specs.Symbols.{Sym, Id, Key, Op, Minus, Bar, TwoBars, ThreeBars, Num, Lit, ArrayOpen, ParenOpen, ParenClose, BlockOpen, BlockClose, Colon, Caret, Period, Role, IsName, IsValue, IsSuper, role, word_item, IsOp, op, minus, bar, two_bars, three_bars}
use Rattle.st_tree.specs.Trees.{name, integer, negative, array, constant, expr, block, paren, stated}
use Rattle.st_tree.specs.Grammar as g
use Rattle.st_tree.specs.Grammar.{Production, AMethod, ABody, Tree, MethodTree, BodyTree}
use Rattle.st_parser.specs.Machine.{Inner, Place, Start, Have, Heading, NoPattern, Headed, Level, Top, Block, Home, Paren, Body, Here, Pattern, OperatorRead, KeywordRead, ParameterRead, Opened, Parameter, Fresh, Temporaries, Statements, Ended, Within, Elements, Dash, Run, Frame, Waits, Holds, Whole, State, Move, Next, OpenArray, OpenParen, OpenBlock, parse, accept, accept_within, start, tree_of, whole, move, moved, begin, fresh, temporaries, temporary_word, with_temporary, step_at, within, statements, ended, opened, parameter, parameter_word, up, close_paren, close_block, close_level, close_array, period, expr_of, pattern, operator_word, operator_read, keyword_word, keyword_read, parameter_read, elements, with_item, negated_item, dash, keyword_run}
use Rattle.st_parser.proofs.Arrays.{dash_symbol}
use Rattle.st_parser.proofs.Follow.{with_temporaries, with_none, with_more}
use Rattle.st_parser.proofs.Sound.{Goes, HaveGoes, BackMove, EndsAt, move_back, whole_back}

-- how a block's parameters go on, to the end of the block
data Opens : ℕ → List Name → List Sym → List Sym → Primary → Type 0 where
  plain : {at : ℕ} {a b c : List Sym} {ts : List Name} {ss : List Statement} → g.Temps a c ts → g.Statements c (BlockClose ∷ b) ss → Opens at [] a b (block at [] ts ss)
  barred : {at bar_at : ℕ} {n : Name} {ns ts : List Name} {a b c : List Sym} {ss : List Statement} → g.Temps a c ts → g.Statements c (BlockClose ∷ b) ss → Opens at (n ∷ ns) (Bar bar_at ∷ a) b (block at (n ∷ ns) ts ss)
  two : {at bar_at end : ℕ} {n : Name} {ns ts : List Name} {a b c : List Sym} {ss : List Statement} → g.Names a (Bar end ∷ c) ts → g.Statements c (BlockClose ∷ b) ss → Opens at (n ∷ ns) (TwoBars bar_at ∷ a) b (block at (n ∷ ns) ts ss)
  three : {at bar_at : ℕ} {n : Name} {ns : List Name} {a b : List Sym} {ss : List Statement} → g.Statements a (BlockClose ∷ b) ss → Opens at (n ∷ ns) (ThreeBars bar_at ∷ a) b (block at (n ∷ ns) [] ss)
  close : {at : ℕ} {n : Name} {ns : List Name} {b : List Sym} → Opens at (n ∷ ns) (BlockClose ∷ b) b (block at (n ∷ ns) [] [])
  another : {at n_at : ℕ} {ns : List Name} {t : List ℕ} {a b : List Sym} {p : Primary} → role t ≡ IsName → Opens at (ns ++ name t n_at ∷ []) a b p → Opens at ns (Colon ∷ Id t n_at ∷ a) b p

-- behind a keyword a name follows, and further keywords with theirs
abbrev pub AfterKeyword : List Sym → List Sym → List ℕ → List Name → Type 0
AfterKeyword a b rest ns = (k : List ℕ) (at : ℕ) → g.KeywordPattern (Key k at ∷ a) b (k ++ rest) ns

-- the tokens complete the state to this tree
mutual
  data Completes : Here → List Frame → List Sym → Tree → Type 0 where
    within_goes : {home : Home} {place : Place} {fs : List Frame} {a c : List Sym} {tg : List Name} {o : Operand} {cs : List Message} {r : Tree} → Goes place a c tg o cs → After home fs c tg o cs r → Completes (Within home place) fs a r
    statements_go : {level : Level} {done : List Statement} {fs : List Frame} {a b : List Sym} {more : List Statement} {r : Tree} → g.Statements a b more → LevelEnds level fs (done ++ more) b r → Completes (Statements level done) fs a r
    fresh_goes : {level : Level} {fs : List Frame} {a b c : List Sym} {ts : List Name} {more : List Statement} {r : Tree} → g.Temps a c ts → g.Statements c b more → LevelEnds (with_temporaries level ts) fs more b r → Completes (Fresh level) fs a r
    temporaries_go : {level : Level} {fs : List Frame} {end : ℕ} {a b c : List Sym} {ts : List Name} {more : List Statement} {r : Tree} → g.Names a (Bar end ∷ c) ts → g.Statements c b more → LevelEnds (with_temporaries level ts) fs more b r → Completes (Temporaries level) fs a r
    ended_goes : {level : Level} {done : List Statement} {fs : List Frame} {a : List Sym} {r : Tree} → LevelEnds level fs done a r → Completes (Ended level done) fs a r
    opened_goes : {at : ℕ} {ns : List Name} {home : Home} {tg : List Name} {inner : Inner} {fs : List Frame} {a b : List Sym} {p : Primary} {r : Tree} → Opens at ns a b p → Completes (Within home (Have tg inner p [])) fs b r → Completes (Opened at ns) (Waits home tg inner ∷ fs) a r
    parameter_goes : {at n_at : ℕ} {ns : List Name} {t : List ℕ} {fs : List Frame} {a : List Sym} {r : Tree} → role t ≡ IsName → Completes (Opened at (ns ++ name t n_at ∷ [])) fs a r → Completes (Parameter at ns) fs (Id t n_at ∷ a) r
    pattern_goes : {a b : List Sym} {fs : List Frame} {k : List ℕ} {ns : List Name} {r : Tree} → g.Pattern a b k ns → Completes (Fresh (Top (Headed k ns) [])) fs b r → Completes Pattern fs a r
    operator_goes : {a : List Sym} {fs : List Frame} {k t : List ℕ} {at : ℕ} {r : Tree} → role t ≡ IsName → Completes (Fresh (Top (Headed k (name t at ∷ [])) [])) fs a r → Completes (OperatorRead k) fs (Id t at ∷ a) r
    keyword_goes : {a b : List Sym} {fs : List Frame} {k rest : List ℕ} {ns more : List Name} {r : Tree} → AfterKeyword a b rest more → Completes (Fresh (Top (Headed (k ++ rest) (ns ++ more)) [])) fs b r → Completes (KeywordRead k ns) fs a r
    parameter_ends : {a : List Sym} {fs : List Frame} {k : List ℕ} {ns : List Name} {r : Tree} → Completes (Fresh (Top (Headed k ns) [])) fs a r → Completes (ParameterRead k ns) fs a r
    parameter_more : {a b : List Sym} {fs : List Frame} {k t rest : List ℕ} {at : ℕ} {ns more : List Name} {r : Tree} → AfterKeyword a b rest more → Completes (Fresh (Top (Headed ((k ++ t) ++ rest) (ns ++ more)) [])) fs b r → Completes (ParameterRead k ns) fs (Key t at ∷ a) r
    items_go : {items more : List Literal} {fs : List Frame} {a b : List Sym} {r : Tree} → g.Items a b more → ArrayEnds fs (items ++ more) b r → Completes (Elements items) fs a r
    number_goes : {items : List Literal} {fs : List Frame} {end n at : ℕ} {a : List Sym} {r : Tree} → at ≡ end → n ≤ 2 ^ 127 → Completes (Elements (items ++ negative n ∷ [])) fs a r → Completes (Dash items end) fs (Num n at ∷ a) r
    symbol_goes : {items : List Literal} {fs : List Frame} {end : ℕ} {a : List Sym} {r : Tree} → g.NotNumberAt end a → Completes (Elements (items ++ dash_symbol ∷ [])) fs a r → Completes (Dash items end) fs a r
    run_goes : {items : List Literal} {fs : List Frame} {end : ℕ} {t more : List ℕ} {a b : List Sym} {r : Tree} → g.Keys end a b more → Completes (Elements (items ++ literal.Symbol (t ++ more) ∷ [])) fs b r → Completes (Run items t end) fs a r

  -- what follows an expression
  data After : Home → List Frame → List Sym → List Name → Operand → List Message → Tree → Type 0 where
    after_paren : {home : Home} {targets : List Name} {inner : Inner} {fs : List Frame} {b : List Sym} {tg : List Name} {o : Operand} {cs : List Message} {r : Tree}
        → Completes (Within home (Have targets inner (paren (expr tg o cs)) [])) fs b r → After Paren (Waits home targets inner ∷ fs) (ParenClose ∷ b) tg o cs r
    after_statement : {level : Level} {done : List Statement} {fs : List Frame} {b : List Sym} {tg : List Name} {o : Operand} {cs : List Message} {r : Tree}
        → Completes (Statements level (done ++ stated false (expr tg o cs) ∷ [])) fs b r → After (Body level done false) fs (Period ∷ b) tg o cs r
    after_return : {level : Level} {done : List Statement} {fs : List Frame} {b : List Sym} {tg : List Name} {o : Operand} {cs : List Message} {r : Tree}
        → Completes (Ended level (done ++ stated true (expr tg o cs) ∷ [])) fs b r → After (Body level done true) fs (Period ∷ b) tg o cs r
    after_last : {level : Level} {done : List Statement} {returns : Bool} {fs : List Frame} {b : List Sym} {tg : List Name} {o : Operand} {cs : List Message} {r : Tree}
        → LevelEnds level fs (done ++ stated returns (expr tg o cs) ∷ []) b r → After (Body level done returns) fs b tg o cs r

  -- a level of these statements ends, and what follows
  data LevelEnds : Level → List Frame → List Statement → List Sym → Tree → Type 0 where
    at_top : {heading : Heading} {ts : List Name} {ss : List Statement} → LevelEnds (Top heading ts) [] ss [] (tree_of heading ts ss)
    at_block : {at : ℕ} {ns ts : List Name} {home : Home} {tg : List Name} {inner : Inner} {fs : List Frame} {own : List Statement} {b : List Sym} {r : Tree}
        → Completes (Within home (Have tg inner (block at ns ts own) [])) fs b r → LevelEnds (Block at ns ts) (Waits home tg inner ∷ fs) own (BlockClose ∷ b) r

  -- an array of these items ends, and what follows
  data ArrayEnds : List Frame → List Literal → List Sym → Tree → Type 0 where
    to_value : {home : Home} {tg : List Name} {inner : Inner} {fs : List Frame} {ls : List Literal} {b : List Sym} {r : Tree} → Completes (Within home (Have tg inner (constant (array ls)) [])) fs b r → ArrayEnds (Waits home tg inner ∷ fs) ls (ParenClose ∷ b) r
    to_item : {items ls : List Literal} {fs : List Frame} {b : List Sym} {r : Tree} → Completes (Elements (items ++ array ls ∷ [])) fs b r → ArrayEnds (Holds items ∷ fs) ls (ParenClose ∷ b) r

-- ---- from after a token to before it

abbrev BackState : Here → List Frame → Sym → Option State → Type 0
BackState h fs s None = Unit {0}
BackState h fs s (Some next) = (a : List Sym) (r : Tree) → Completes next.0 next.1 a r → Completes h fs (s ∷ a) r

lift : (home : Home) (fs : List Frame) (place next : Place) (a a' : List Sym) (r : Tree)
    → ((b : List Sym) (tg : List Name) (o : Operand) (cs : List Message) → Goes next a b tg o cs → Goes place a' b tg o cs)
    → Completes (Within home next) fs a r → Completes (Within home place) fs a' r
lift home fs place next a a' r k (within_goes {c = c} {tg = tg} {o = o} {cs = cs} x y) = within_goes (k c tg o cs x) y

-- a place whose expression waits for a primary
lift_primary : (home : Home) (fs : List Frame) (place : Place) (tg0 : List Name) (inner : Inner) (p : Primary) (b a' : List Sym) (r : Tree)
    → ((c : List Sym) (tg : List Name) (o : Operand) (cs : List Message) → HaveGoes false inner p [] b c o cs → tg ≡ tg0 → Goes place a' c tg o cs)
    → Completes (Within home (Have tg0 inner p [])) fs b r → Completes (Within home place) fs a' r
lift_primary home fs place tg0 inner p b a' r k (within_goes {c = c} {tg = tg} {o = o} {cs = cs} x y) = within_goes (k c tg o cs x.0 x.1) y

-- (":" Identifier)*
data Star : List Sym → List Sym → List Name → Type 0 where
  star_none : {a : List Sym} → Star a a []
  star_more : {t : List ℕ} {at : ℕ} {a b : List Sym} {ns : List Name} → role t ≡ IsName → Star a b ns → Star (Colon ∷ Id t at ∷ a) b (name t at ∷ ns)

data Tail : ℕ → List Name → List Sym → List Sym → Primary → Type 0 where
  tail_bar : {at bar_at : ℕ} {n : Name} {ns ts : List Name} {a b c : List Sym} {ss : List Statement} → g.Temps a c ts → g.Statements c (BlockClose ∷ b) ss → Tail at (n ∷ ns) (Bar bar_at ∷ a) b (block at (n ∷ ns) ts ss)
  tail_two : {at bar_at end : ℕ} {n : Name} {ns ts : List Name} {a b c : List Sym} {ss : List Statement} → g.Names a (Bar end ∷ c) ts → g.Statements c (BlockClose ∷ b) ss → Tail at (n ∷ ns) (TwoBars bar_at ∷ a) b (block at (n ∷ ns) ts ss)
  tail_three : {at bar_at : ℕ} {n : Name} {ns : List Name} {a b : List Sym} {ss : List Statement} → g.Statements a (BlockClose ∷ b) ss → Tail at (n ∷ ns) (ThreeBars bar_at ∷ a) b (block at (n ∷ ns) [] ss)
  tail_close : {at : ℕ} {n : Name} {ns : List Name} {b : List Sym} → Tail at (n ∷ ns) (BlockClose ∷ b) b (block at (n ∷ ns) [] [])

Plainly : ℕ → List Name → List Sym → List Sym → Primary → Type 0
Plainly at ns a b p = (c : List Sym) × (ts : List Name) × (ss : List Statement) × (ns ≡ []) × g.Temps a c ts × g.Statements c (BlockClose ∷ b) ss × (p ≡ block at [] ts ss)

Barred : ℕ → List Name → List Sym → List Sym → Primary → Type 0
Barred at ns a b p = (c : List Sym) × (more : List Name) × Star a c more × Tail at (ns ++ more) c b p

not_empty : (ns : List Name) (n : Name) → ns ++ n ∷ [] ≡ [] → ⊥
not_empty [] n e = cc
not_empty (m ∷ ns) n e = cc

split : {at : ℕ} {ns : List Name} {a b : List Sym} {p : Primary} → Opens at ns a b p → Plainly at ns a b p ⊎ Barred at ns a b p
unfolding Plainly Barred
split (plain {c = c} {ts = ts} {ss = ss} t s) = inl (c, ts, ss, refl, t, s, refl)
split (barred {at = at} {bar_at = bar_at} {n = n} {ns = ns} {ts = ts} {a = a} {b = b} {ss = ss} t s) =
    inr (Bar bar_at ∷ a, [], star_none, subst (λ x. Tail at x (Bar bar_at ∷ a) b (block at (n ∷ ns) ts ss)) (sym (append-nil (n ∷ ns))) (tail_bar t s))
split (two {at = at} {bar_at = bar_at} {n = n} {ns = ns} {ts = ts} {a = a} {b = b} {ss = ss} t s) =
    inr (TwoBars bar_at ∷ a, [], star_none, subst (λ x. Tail at x (TwoBars bar_at ∷ a) b (block at (n ∷ ns) ts ss)) (sym (append-nil (n ∷ ns))) (tail_two t s))
split (three {at = at} {bar_at = bar_at} {n = n} {ns = ns} {a = a} {b = b} {ss = ss} s) =
    inr (ThreeBars bar_at ∷ a, [], star_none, subst (λ x. Tail at x (ThreeBars bar_at ∷ a) b (block at (n ∷ ns) [] ss)) (sym (append-nil (n ∷ ns))) (tail_three s))
split (close {at = at} {n = n} {ns = ns} {b = b}) = inr (BlockClose ∷ b, [], star_none, subst (λ x. Tail at x (BlockClose ∷ b) b (block at (n ∷ ns) [] [])) (sym (append-nil (n ∷ ns))) tail_close)
split (another {at = at} {n_at = n_at} {ns = ns} {t = t} {a = a} {b = b} {p = p} e o) = go (split o)
  where
    go : Plainly at (ns ++ name t n_at ∷ []) a b p ⊎ Barred at (ns ++ name t n_at ∷ []) a b p → Plainly at ns (Colon ∷ Id t n_at ∷ a) b p ⊎ Barred at ns (Colon ∷ Id t n_at ∷ a) b p
    go (inl k) = absurd (not_empty ns (name t n_at) k.3)
    go (inr (c, rest, x, y)) = inr (c, name t n_at ∷ rest, star_more e x, subst (λ v. Tail at v c b p) (append_assoc ns (name t n_at ∷ []) rest) y)

star_parameters : {a b : List Sym} {n : Name} {ns : List Name} → Star a b (n ∷ ns) → g.Parameters a b (n ∷ ns)
star_parameters (star_more e star_none) = g.one e
star_parameters (star_more e (star_more f x)) = g.more e (star_parameters (star_more f x))

tail_primary : {at : ℕ} {ns : List Name} {a c b : List Sym} {p : Primary} → Star a c ns → Tail at ns c b p → g.IsPrimary (BlockOpen at ∷ a) b p false
tail_primary x (tail_bar t s) = g.with_bar (star_parameters x) t s
tail_primary x (tail_two t s) = g.with_two_bars (star_parameters x) t s
tail_primary x (tail_three s) = g.with_three_bars (star_parameters x) s
tail_primary x tail_close = g.only_parameters (star_parameters x)

opens_primary : (at : ℕ) (a b : List Sym) (p : Primary) → Opens at [] a b p → g.IsPrimary (BlockOpen at ∷ a) b p false
unfolding Plainly Barred
opens_primary at a b p o = go (split o)
  where
    go : Plainly at [] a b p ⊎ Barred at [] a b p → g.IsPrimary (BlockOpen at ∷ a) b p false
    go (inl (c, ts, ss, e, t, s, f)) = subst (λ v. g.IsPrimary (BlockOpen at ∷ a) b v false) (sym f) (g.plain_block t s)
    go (inr (c, more, x, y)) = tail_primary x y

moved_back : (home : Home) (fs : List Frame) (place : Place) (s : Sym) (m : Option Move) → BackMove place s m → BackState (Within home place) fs s (moved home fs m)
moved_back home fs place s None h = tt
moved_back home fs place s (Some (Next next)) h = λ a r k. lift home fs place next a (s ∷ a) r (h a) k
moved_back home fs place s (Some (OpenArray tg0 inner)) h = λ a r k. array_back a r k
  where
    array_back : (a : List Sym) (r : Tree) → Completes (Elements []) (Waits home tg0 inner ∷ fs) a r → Completes (Within home place) fs (s ∷ a) r
    array_back a r (items_go {more = ls} x (to_value {b = b} y)) =
        lift_primary home fs place tg0 inner (constant (array ls)) b (s ∷ a) r
        (λ c tg' o' cs' z e. h.1 a b c (constant (array ls)) tg' o' cs' (subst (λ v. g.IsPrimary (v ∷ a) b (constant (array ls)) false) (sym h.0) (g.in_array x)) z e) y
moved_back home fs place s (Some (OpenParen tg0 inner)) h = λ a r k. paren_back a r k
  where
    paren_back : (a : List Sym) (r : Tree) → Completes (Within Paren (Start [])) (Waits home tg0 inner ∷ fs) a r → Completes (Within home place) fs (s ∷ a) r
    paren_back a r (within_goes {tg = tg} {o = o} {cs = cs} x (after_paren {b = b} y)) =
        lift_primary home fs place tg0 inner (paren (expr tg o cs)) b (s ∷ a) r
        (λ c tg' o' cs' z e. h.1 a b c (paren (expr tg o cs)) tg' o' cs' (subst (λ v. g.IsPrimary (v ∷ a) b (paren (expr tg o cs)) false) (sym h.0) (g.in_parens (subst (λ v. g.IsExpr a (ParenClose ∷ b) v o cs) (sym x.2) x.1))) z e) y
moved_back home fs place s (Some (OpenBlock at tg0 inner)) h = λ a r k. block_back a r k
  where
    block_back : (a : List Sym) (r : Tree) → Completes (Opened at []) (Waits home tg0 inner ∷ fs) a r → Completes (Within home place) fs (s ∷ a) r
    block_back a r (opened_goes {b = b} {p = p} x y) =
        lift_primary home fs place tg0 inner p b (s ∷ a) r
        (λ c tg' o' cs' z e. h.1 a b c p tg' o' cs' (subst (λ v. g.IsPrimary (v ∷ a) b p false) (sym h.0) (opens_primary at a b p x)) z e) y

close_paren_back : (home : Home) (fs : List Frame) (place : Place) (w : Option Whole) → EndsAt place w → BackState (Within home place) fs ParenClose (close_paren home fs w)
close_paren_back Paren fs place None h = tt
close_paren_back Paren [] place (Some w) h = tt
close_paren_back Paren (Holds items ∷ fs) place (Some w) h = tt
close_paren_back Paren (Waits home tg inner ∷ fs) place (Some w) h = λ a r k. within_goes (h (ParenClose ∷ a)) (after_paren k)
close_paren_back (Body level done returns) fs place w h = tt

period_back : (home : Home) (fs : List Frame) (place : Place) (w : Option Whole) → EndsAt place w → BackState (Within home place) fs Period (period home fs w)
period_back (Body level done true) fs place (Some w) h = λ a r k. within_goes (h (Period ∷ a)) (after_return k)
period_back (Body level done false) fs place (Some w) h = λ a r k. within_goes (h (Period ∷ a)) (after_statement k)
period_back (Body level done true) fs place None h = tt
period_back (Body level done false) fs place None h = tt
period_back Paren fs place w h = tt

close_level_back : (level : Level) (fs : List Frame) (own : List Statement) (m : Option State) → close_level level fs own ≡ m
    → (h : Here) → ((b : List Sym) (r : Tree) → LevelEnds level fs own (BlockClose ∷ b) r → Completes h fs (BlockClose ∷ b) r) → BackState h fs BlockClose (close_level level fs own)
close_level_back (Top heading ts) fs own m e h k = tt
close_level_back (Block at ns ts) [] own m e h k = tt
close_level_back (Block at ns ts) (Holds items ∷ fs) own m e h k = tt
close_level_back (Block at ns ts) (Waits home tg inner ∷ fs) own m e h k = λ a r x. k a r (at_block x)

close_block_back : (home : Home) (fs : List Frame) (place : Place) (w : Option Whole) → EndsAt place w → BackState (Within home place) fs BlockClose (close_block home fs w)
close_block_back (Body level done returns) fs place (Some w) h =
    close_level_back level fs (done ++ stated returns (expr_of w) ∷ []) (close_level level fs (done ++ stated returns (expr_of w) ∷ [])) refl (Within (Body level done returns) place) (λ b r x. within_goes (h (BlockClose ∷ b)) (after_last x))
close_block_back (Body level done returns) fs place None h = tt
close_block_back Paren fs place w h = tt

within_back : (home : Home) (place : Place) (fs : List Frame) (s : Sym) → BackState (Within home place) fs s (within home place fs s)
within_back home place fs ParenClose = close_paren_back home fs place (whole place) (whole_back place)
within_back home place fs BlockClose = close_block_back home fs place (whole place) (whole_back place)
within_back home place fs Period = period_back home fs place (whole place) (whole_back place)
within_back home place fs s = moved_back home fs place s (move place s) (move_back place s)

-- an expression that begins a statement
statement_from : (level : Level) (done : List Statement) (fs : List Frame) (a : List Sym) (r : Tree) → Completes (Within (Body level done false) (Start [])) fs a r → Completes (Statements level done) fs a r
statement_from level done fs a r (within_goes {c = c} {tg = tg} {o = o} {cs = cs} (ns, x, e) (after_last y)) =
    statements_go (subst (λ v. g.Statements a c (stated false (expr v o cs) ∷ [])) (sym e) (g.last_statement x)) y
statement_from level done fs a r (within_goes {tg = tg} {o = o} {cs = cs} (ns, x, e) (after_statement {b = b} (statements_go {b = c} {more = more} s y))) =
    statements_go (subst (λ v. g.Statements a c (stated false (expr v o cs) ∷ more)) (sym e) (g.more_statements x s)) (subst (λ v. LevelEnds level fs v c r) (append_assoc done (stated false (expr tg o cs) ∷ []) more) y)

return_from : (level : Level) (done : List Statement) (fs : List Frame) (a : List Sym) (r : Tree) → Completes (Within (Body level done true) (Start [])) fs a r → Completes (Statements level done) fs (Caret ∷ a) r
return_from level done fs a r (within_goes {c = c} {tg = tg} {o = o} {cs = cs} (ns, x, e) (after_last y)) =
    statements_go (subst (λ v. g.Statements (Caret ∷ a) c (stated true (expr v o cs) ∷ [])) (sym e) (g.returned x)) y
return_from level done fs a r (within_goes {tg = tg} {o = o} {cs = cs} (ns, x, e) (after_return {b = b} (ended_goes y))) =
    statements_go (subst (λ v. g.Statements (Caret ∷ a) b (stated true (expr v o cs) ∷ [])) (sym e) (g.returned_dot x)) y

begin_back : (level : Level) (done : List Statement) (fs : List Frame) (s : Sym) (m : Option State) → BackState (Within (Body level done false) (Start [])) fs s m → BackState (Statements level done) fs s m
begin_back level done fs s None h = tt
begin_back level done fs s (Some next) h = λ a r k. statement_from level done fs (s ∷ a) r (h a r k)

statements_back : (level : Level) (done : List Statement) (fs : List Frame) (s : Sym) → BackState (Statements level done) fs s (statements level done fs s)
statements_back level done fs Caret = λ a r k. return_from level done fs a r k
statements_back level done fs BlockClose = close_level_back level fs done (close_level level fs done) refl (Statements level done)
    (λ b r x. statements_go g.no_statements (subst (λ v. LevelEnds level fs v (BlockClose ∷ b) r) (sym (append-nil done)) x))
statements_back level done fs s = begin_back level done fs s (moved (Body level done false) fs (begin [] s)) (moved_back (Body level done false) fs (Start []) s (move (Start []) s) (move_back (Start []) s))

ended_back : (level : Level) (done : List Statement) (fs : List Frame) (s : Sym) → BackState (Ended level done) fs s (ended level done fs s)
ended_back level done fs BlockClose = close_level_back level fs done (close_level level fs done) refl (Ended level done) (λ b r x. ended_goes x)
ended_back level done fs s = tt

parameter_opened : (at : ℕ) (ns : List Name) (fs : List Frame) (a : List Sym) (r : Tree) → Completes (Parameter at ns) fs a r → Completes (Opened at ns) fs (Colon ∷ a) r
parameter_opened at ns fs a r (parameter_goes e (opened_goes x y)) = opened_goes (another e x) y

plain_fresh : (level : Level) (fs : List Frame) (a : List Sym) (r : Tree) → Completes (Statements level []) fs a r → Completes (Fresh level) fs a r
plain_fresh level fs a r (statements_go {b = b} {more = more} s x) = fresh_goes g.none s (subst (λ v. LevelEnds v fs more b r) (sym (with_none level)) x)

plain_fresh_back : (level : Level) (fs : List Frame) (s : Sym) (m : Option State) → BackState (Statements level []) fs s m → BackState (Fresh level) fs s m
plain_fresh_back level fs s None h = tt
plain_fresh_back level fs s (Some next) h = λ a r k. plain_fresh level fs (s ∷ a) r (h a r k)

bars_fresh : (level : Level) (fs : List Frame) (at : ℕ) (a : List Sym) (r : Tree) → Completes (Temporaries level) fs a r → Completes (Fresh level) fs (Bar at ∷ a) r
bars_fresh level fs at a r (temporaries_go n s x) = fresh_goes (g.some n) s x

two_fresh : (level : Level) (fs : List Frame) (at : ℕ) (a : List Sym) (r : Tree) → Completes (Statements level []) fs a r → Completes (Fresh level) fs (TwoBars at ∷ a) r
two_fresh level fs at a r (statements_go {b = b} {more = more} s x) = fresh_goes g.empty s (subst (λ v. LevelEnds v fs more b r) (sym (with_none level)) x)

fresh_back : (level : Level) (fs : List Frame) (s : Sym) → BackState (Fresh level) fs s (fresh level fs s)
fresh_back level fs (Bar at) = λ a r k. bars_fresh level fs at a r k
fresh_back level fs (TwoBars at) = λ a r k. two_fresh level fs at a r k
fresh_back level fs s = plain_fresh_back level fs s (statements level [] fs s) (statements_back level [] fs s)

name_temporaries : (level : Level) (fs : List Frame) (t : List ℕ) (at : ℕ) (a : List Sym) (r : Tree) → role t ≡ IsName → Completes (Temporaries (with_temporary level (name t at))) fs a r → Completes (Temporaries level) fs (Id t at ∷ a) r
name_temporaries level fs t at a r e (temporaries_go {b = b} {ts = ts} {more = more} n s x) = temporaries_go (g.more e n) s (subst (λ v. LevelEnds v fs more b r) (with_more level (name t at) ts) x)

end_temporaries : (level : Level) (fs : List Frame) (at : ℕ) (a : List Sym) (r : Tree) → Completes (Statements level []) fs a r → Completes (Temporaries level) fs (Bar at ∷ a) r
end_temporaries level fs at a r (statements_go {b = b} {more = more} s x) = temporaries_go g.none s (subst (λ v. LevelEnds v fs more b r) (sym (with_none level)) x)

temporary_word_back : (level : Level) (fs : List Frame) (t : List ℕ) (at : ℕ) (r : Role) → role t ≡ r → BackState (Temporaries level) fs (Id t at) (temporary_word level fs r t at)
temporary_word_back level fs t at IsName e = λ a r k. name_temporaries level fs t at a r e k
temporary_word_back level fs t at (IsValue p) e = tt
temporary_word_back level fs t at IsSuper e = tt

temporaries_back : (level : Level) (fs : List Frame) (s : Sym) → BackState (Temporaries level) fs s (temporaries level fs s)
temporaries_back level fs (Id t at) = temporary_word_back level fs t at (role t) refl
temporaries_back level fs (Bar at) = λ a r k. end_temporaries level fs at a r k
temporaries_back level fs s = tt

plain_from : (at : ℕ) (fs : List Frame) (a : List Sym) (r : Tree) → Completes (Fresh (Block at [] [])) fs a r → Completes (Opened at []) fs a r
plain_from at fs a r (fresh_goes t s (at_block x)) = opened_goes (plain t s) x

plain_opened : (at : ℕ) (fs : List Frame) (s : Sym) (m : Option State) → BackState (Fresh (Block at [] [])) fs s m → BackState (Opened at []) fs s m
plain_opened at fs s None h = tt
plain_opened at fs s (Some next) h = λ a r k. plain_from at fs (s ∷ a) r (h a r k)

bar_from : (at : ℕ) (n : Name) (ns : List Name) (fs : List Frame) (bar_at : ℕ) (a : List Sym) (r : Tree) → Completes (Fresh (Block at (n ∷ ns) [])) fs a r → Completes (Opened at (n ∷ ns)) fs (Bar bar_at ∷ a) r
bar_from at n ns fs bar_at a r (fresh_goes t s (at_block x)) = opened_goes (barred t s) x

two_from : (at : ℕ) (n : Name) (ns : List Name) (fs : List Frame) (bar_at : ℕ) (a : List Sym) (r : Tree) → Completes (Temporaries (Block at (n ∷ ns) [])) fs a r → Completes (Opened at (n ∷ ns)) fs (TwoBars bar_at ∷ a) r
two_from at n ns fs bar_at a r (temporaries_go t s (at_block x)) = opened_goes (two t s) x

three_from : (at : ℕ) (n : Name) (ns : List Name) (fs : List Frame) (bar_at : ℕ) (a : List Sym) (r : Tree) → Completes (Statements (Block at (n ∷ ns) []) []) fs a r → Completes (Opened at (n ∷ ns)) fs (ThreeBars bar_at ∷ a) r
three_from at n ns fs bar_at a r (statements_go s (at_block x)) = opened_goes (three s) x

close_opened : (at : ℕ) (n : Name) (ns : List Name) (fs : List Frame) → BackState (Opened at (n ∷ ns)) fs BlockClose (up fs (block at (n ∷ ns) [] []))
close_opened at n ns [] = tt
close_opened at n ns (Holds items ∷ fs) = tt
close_opened at n ns (Waits home tg inner ∷ fs) = λ a r k. opened_goes close k

opened_back : (at : ℕ) (ns : List Name) (fs : List Frame) (s : Sym) → BackState (Opened at ns) fs s (opened at ns fs s)
opened_back at [] fs Colon = λ a r k. parameter_opened at [] fs a r k
opened_back at (n ∷ ns) fs Colon = λ a r k. parameter_opened at (n ∷ ns) fs a r k
opened_back at [] fs s = plain_opened at fs s (fresh (Block at [] []) fs s) (fresh_back (Block at [] []) fs s)
opened_back at (n ∷ ns) fs (Bar bar_at) = λ a r k. bar_from at n ns fs bar_at a r k
opened_back at (n ∷ ns) fs (TwoBars bar_at) = λ a r k. two_from at n ns fs bar_at a r k
opened_back at (n ∷ ns) fs (ThreeBars bar_at) = λ a r k. three_from at n ns fs bar_at a r k
opened_back at (n ∷ ns) fs BlockClose = close_opened at n ns fs
opened_back at (n ∷ ns) fs s = tt

parameter_word_back : (at : ℕ) (ns : List Name) (fs : List Frame) (t : List ℕ) (n_at : ℕ) (r : Role) → role t ≡ r → BackState (Parameter at ns) fs (Id t n_at) (parameter_word at ns fs r t n_at)
parameter_word_back at ns fs t n_at IsName e = λ a r k. parameter_goes e k
parameter_word_back at ns fs t n_at (IsValue p) e = tt
parameter_word_back at ns fs t n_at IsSuper e = tt

parameter_back : (at : ℕ) (ns : List Name) (fs : List Frame) (s : Sym) → BackState (Parameter at ns) fs s (parameter at ns fs s)
parameter_back at ns fs (Id t n_at) = parameter_word_back at ns fs t n_at (role t) refl
parameter_back at ns fs s = tt

-- ---- patterns

operator_pattern_back : (k : List ℕ) (s : Sym) (s_at : ℕ) → IsOp s k s_at → (fs : List Frame) (a : List Sym) (r : Tree) → Completes (OperatorRead k) fs a r → Completes Pattern fs (s ∷ a) r
operator_pattern_back k s s_at o fs a r (operator_goes e y) = pattern_goes (g.binary o e) y

keyword_pattern_back : (k : List ℕ) (at : ℕ) (fs : List Frame) (a : List Sym) (r : Tree) → Completes (KeywordRead k []) fs a r → Completes Pattern fs (Key k at ∷ a) r
keyword_pattern_back k at fs a r (keyword_goes w y) = pattern_goes (g.keywords (w k at)) y

pattern_back : (fs : List Frame) (s : Sym) → BackState Pattern fs s (pattern fs s)
pattern_back fs (Id t at) = λ a r k. pattern_goes g.unary k
pattern_back fs (Key t at) = λ a r k. keyword_pattern_back t at fs a r k
pattern_back fs (Op t at) = λ a r k. operator_pattern_back t (Op t at) at op fs a r k
pattern_back fs (Minus at) = λ a r k. operator_pattern_back (45 ∷ []) (Minus at) at minus fs a r k
pattern_back fs (Bar at) = λ a r k. operator_pattern_back (124 ∷ []) (Bar at) at bar fs a r k
pattern_back fs (TwoBars at) = λ a r k. operator_pattern_back (124 ∷ 124 ∷ []) (TwoBars at) at two_bars fs a r k
pattern_back fs (ThreeBars at) = λ a r k. operator_pattern_back (124 ∷ 124 ∷ 124 ∷ []) (ThreeBars at) at three_bars fs a r k
pattern_back fs s = tt

operator_word_back : (k : List ℕ) (fs : List Frame) (t : List ℕ) (at : ℕ) (w : Role) → role t ≡ w → BackState (OperatorRead k) fs (Id t at) (operator_word k fs w t at)
operator_word_back k fs t at IsName e = λ a r y. operator_goes e y
operator_word_back k fs t at (IsValue p) e = tt
operator_word_back k fs t at IsSuper e = tt

operator_read_back : (k : List ℕ) (fs : List Frame) (s : Sym) → BackState (OperatorRead k) fs s (operator_read k fs s)
operator_read_back k fs (Id t at) = operator_word_back k fs t at (role t) refl
operator_read_back k fs s = tt

last_after : (t : List ℕ) (at : ℕ) (a : List Sym) → role t ≡ IsName → AfterKeyword (Id t at ∷ a) a [] (name t at ∷ [])
last_after t at a e k k_at = subst (λ v. g.KeywordPattern (Key k k_at ∷ Id t at ∷ a) a v (name t at ∷ [])) (sym (append-nil k)) (g.last e)

more_after : (t u rest : List ℕ) (at u_at : ℕ) (a b : List Sym) (more : List Name) → role t ≡ IsName → AfterKeyword a b rest more → AfterKeyword (Id t at ∷ Key u u_at ∷ a) b (u ++ rest) (name t at ∷ more)
more_after t u rest at u_at a b more e w k k_at = g.more e (w u u_at)

named_parameter : (k : List ℕ) (ns : List Name) (fs : List Frame) (t : List ℕ) (at : ℕ) (a : List Sym) (r : Tree) → role t ≡ IsName → Completes (ParameterRead k (ns ++ name t at ∷ [])) fs a r → Completes (KeywordRead k ns) fs (Id t at ∷ a) r
named_parameter k ns fs t at a r e (parameter_ends y) =
    keyword_goes (last_after t at a e) (subst (λ v. Completes (Fresh (Top (Headed v (ns ++ name t at ∷ [])) [])) fs a r) (sym (append-nil k)) y)
named_parameter k ns fs t at a r e (parameter_more {a = a'} {b = b} {t = u} {rest = rest} {at = u_at} {more = more} w y) =
    keyword_goes (more_after t u rest at u_at a' b more e w)
    (subst (λ v. Completes (Fresh (Top (Headed v (ns ++ name t at ∷ more)) [])) fs b r) (append_assoc k u rest)
    (subst (λ v. Completes (Fresh (Top (Headed ((k ++ u) ++ rest) v) [])) fs b r) (append_assoc ns (name t at ∷ []) more) y))

keyword_word_back : (k : List ℕ) (ns : List Name) (fs : List Frame) (t : List ℕ) (at : ℕ) (w : Role) → role t ≡ w → BackState (KeywordRead k ns) fs (Id t at) (keyword_word k ns fs w t at)
keyword_word_back k ns fs t at IsName e = λ a r y. named_parameter k ns fs t at a r e y
keyword_word_back k ns fs t at (IsValue p) e = tt
keyword_word_back k ns fs t at IsSuper e = tt

keyword_read_back : (k : List ℕ) (ns : List Name) (fs : List Frame) (s : Sym) → BackState (KeywordRead k ns) fs s (keyword_read k ns fs s)
keyword_read_back k ns fs (Id t at) = keyword_word_back k ns fs t at (role t) refl
keyword_read_back k ns fs s = tt

next_keyword : (k : List ℕ) (ns : List Name) (fs : List Frame) (t : List ℕ) (at : ℕ) (a : List Sym) (r : Tree) → Completes (KeywordRead (k ++ t) ns) fs a r → Completes (ParameterRead k ns) fs (Key t at ∷ a) r
next_keyword k ns fs t at a r (keyword_goes w y) = parameter_more w y

body_begins : (k : List ℕ) (ns : List Name) (fs : List Frame) (s : Sym) (m : Option State) → BackState (Fresh (Top (Headed k ns) [])) fs s m → BackState (ParameterRead k ns) fs s m
body_begins k ns fs s None h = tt
body_begins k ns fs s (Some next) h = λ a r y. parameter_ends (h a r y)

parameter_read_back : (k : List ℕ) (ns : List Name) (fs : List Frame) (s : Sym) → BackState (ParameterRead k ns) fs s (parameter_read k ns fs s)
parameter_read_back k ns fs (Key t at) = λ a r y. next_keyword k ns fs t at a r y
parameter_read_back k ns fs s = body_begins k ns fs s (fresh (Top (Headed k ns) []) fs s) (fresh_back (Top (Headed k ns) []) fs s)

-- ---- arrays

item_first : (items : List Literal) (fs : List Frame) (a c : List Sym) (l : Literal) (r : Tree) → g.Item a c l → Completes (Elements (items ++ l ∷ [])) fs c r → Completes (Elements items) fs a r
item_first items fs a c l r x (items_go {more = more} {b = b} y z) = items_go (g.more_items x y) (subst (λ v. ArrayEnds fs v b r) (append_assoc items (l ∷ []) more) z)

run_from : (items : List Literal) (fs : List Frame) (t : List ℕ) (at : ℕ) (a : List Sym) (r : Tree) → Completes (Run items t (at + length t)) fs a r → Completes (Elements items) fs (Key t at ∷ a) r
run_from items fs t at a r (run_goes {more = more} {b = b} k y) = item_first items fs (Key t at ∷ a) b (literal.Symbol (t ++ more)) r (g.keywords_item k) y

dash_from : (items : List Literal) (fs : List Frame) (at : ℕ) (a : List Sym) (r : Tree) → Completes (Dash items (at + 1)) fs a r → Completes (Elements items) fs (Minus at ∷ a) r
dash_from items fs at a r (number_goes {n = n} {at = n_at} {a = b} e h y) = item_first items fs (Minus at ∷ Num n n_at ∷ b) b (negative n) r (g.negative_item e h) y
dash_from items fs at a r (symbol_goes h y) = item_first items fs (Minus at ∷ a) a dash_symbol r (g.minus_item h) y

number_item_back : (items : List Literal) (fs : List Frame) (n at : ℕ) (v : Bool) → nat_lt n (2 ^ 127) ≡ v → BackState (Elements items) fs (Num n at) (if v then with_item items (integer n) fs else None)
number_item_back items fs n at true e = λ a r k. item_first items fs (Num n at ∷ a) a (integer n) r (g.number_item (ltb-true n (2 ^ 127) e)) k
number_item_back items fs n at false e = tt

array_from : (items : List Literal) (fs : List Frame) (a : List Sym) (r : Tree) → Completes (Elements []) (Holds items ∷ fs) a r → Completes (Elements items) fs (ArrayOpen ∷ a) r
array_from items fs a r (items_go {more = ls} x (to_item {b = b} y)) = item_first items fs (ArrayOpen ∷ a) b (array ls) r (g.array_item x) y

inner_from : (items : List Literal) (fs : List Frame) (a : List Sym) (r : Tree) → Completes (Elements []) (Holds items ∷ fs) a r → Completes (Elements items) fs (ParenOpen ∷ a) r
inner_from items fs a r (items_go {more = ls} x (to_item {b = b} y)) = item_first items fs (ParenOpen ∷ a) b (array ls) r (g.inner_item x) y

no_more_items : (items : List Literal) (fs : List Frame) (a : List Sym) (r : Tree) → ArrayEnds fs items a r → Completes (Elements items) fs a r
no_more_items items fs a r k = items_go g.no_items (subst (λ v. ArrayEnds fs v a r) (sym (append-nil items)) k)

close_array_back : (items : List Literal) (fs : List Frame) → BackState (Elements items) fs ParenClose (close_array fs items)
close_array_back items [] = tt
close_array_back items (Waits home tg inner ∷ fs) = λ a r k. no_more_items items (Waits home tg inner ∷ fs) (ParenClose ∷ a) r (to_value k)
close_array_back items (Holds outer ∷ fs) = λ a r k. no_more_items items (Holds outer ∷ fs) (ParenClose ∷ a) r (to_item k)

elements_back : (items : List Literal) (fs : List Frame) (s : Sym) → BackState (Elements items) fs s (elements items fs s)
elements_back items fs (Id t at) = λ a r k. item_first items fs (Id t at ∷ a) a (word_item t) r g.word_of_item k
elements_back items fs (Key t at) = λ a r k. run_from items fs t at a r k
elements_back items fs (Op t at) = λ a r k. item_first items fs (Op t at ∷ a) a (literal.Symbol t) r g.operator_item k
elements_back items fs (Minus at) = λ a r k. dash_from items fs at a r k
elements_back items fs (Bar at) = λ a r k. item_first items fs (Bar at ∷ a) a (literal.Symbol (124 ∷ [])) r g.bar_item k
elements_back items fs (TwoBars at) = λ a r k. item_first items fs (TwoBars at ∷ a) a (literal.Symbol (124 ∷ 124 ∷ [])) r g.two_bars_item k
elements_back items fs (ThreeBars at) = λ a r k. item_first items fs (ThreeBars at ∷ a) a (literal.Symbol (124 ∷ 124 ∷ 124 ∷ [])) r g.three_bars_item k
elements_back items fs (Num n at) = number_item_back items fs n at (nat_lt n (2 ^ 127)) refl
elements_back items fs (Lit l) = λ a r k. item_first items fs (Lit l ∷ a) a l r g.literal_item k
elements_back items fs ArrayOpen = λ a r k. array_from items fs a r k
elements_back items fs ParenOpen = λ a r k. inner_from items fs a r k
elements_back items fs ParenClose = close_array_back items fs
elements_back items fs s = tt

-- `-` was a symbol
dash_symbol_back : (items : List Literal) (end : ℕ) (fs : List Frame) (s : Sym) (m : Option State) → ((a : List Sym) → g.NotNumberAt end (s ∷ a)) → BackState (Elements (items ++ dash_symbol ∷ [])) fs s m → BackState (Dash items end) fs s m
dash_symbol_back items end fs s None h k = tt
dash_symbol_back items end fs s (Some next) h k = λ a r y. symbol_goes (h a) (k a r y)

dash_value : (items : List Literal) (end : ℕ) (fs : List Frame) (n at : ℕ) (v : Bool) → at ≡ end → nat_le n (2 ^ 127) ≡ v → BackState (Dash items end) fs (Num n at) (if v then with_item items (negative n) fs else None)
dash_value items end fs n at true e h = λ a r y. number_goes e (leb-true n (2 ^ 127) h) y
dash_value items end fs n at false e h = tt

dash_number_back : (items : List Literal) (end : ℕ) (fs : List Frame) (n at : ℕ) (v : Bool) → (at == end) ≡ v
    → BackState (Dash items end) fs (Num n at) (if v then negated_item items n fs else elements (items ++ dash_symbol ∷ []) fs (Num n at))
dash_number_back items end fs n at true e = dash_value items end fs n at (nat_le n (2 ^ 127)) (eqb-true at end e) refl
dash_number_back items end fs n at false e =
    dash_symbol_back items end fs (Num n at) (elements (items ++ dash_symbol ∷ []) fs (Num n at)) (λ a. eqb-false at end e) (elements_back (items ++ dash_symbol ∷ []) fs (Num n at))

dash_back : (items : List Literal) (end : ℕ) (fs : List Frame) (s : Sym) → BackState (Dash items end) fs s (dash items end fs s)
dash_back items end fs (Num n at) = dash_number_back items end fs n at (at == end) refl
dash_back items end fs s = dash_symbol_back items end fs s (elements (items ++ dash_symbol ∷ []) fs s) (λ a. tt) (elements_back (items ++ dash_symbol ∷ []) fs s)

-- the symbol of keywords was whole
run_symbol_back : (items : List Literal) (t : List ℕ) (end : ℕ) (fs : List Frame) (s : Sym) (m : Option State) → ((a : List Sym) → g.NotKeyAt end (s ∷ a)) → BackState (Elements (items ++ literal.Symbol t ∷ [])) fs s m → BackState (Run items t end) fs s m
run_symbol_back items t end fs s None h k = tt
run_symbol_back items t end fs s (Some next) h k = λ a r y.
    run_goes (g.no_more (h a)) (subst (λ v. Completes (Elements (items ++ literal.Symbol v ∷ [])) fs (s ∷ a) r) (sym (append-nil t)) (k a r y))

run_more : (items : List Literal) (t u : List ℕ) (end at : ℕ) (fs : List Frame) (a : List Sym) (r : Tree) → at ≡ end → Completes (Run items (t ++ u) (at + length u)) fs a r → Completes (Run items t end) fs (Key u at ∷ a) r
run_more items t u end at fs a r e (run_goes {more = more} {b = b} k y) = run_goes (g.one_more e k) (subst (λ v. Completes (Elements (items ++ literal.Symbol v ∷ [])) fs b r) (append_assoc t u more) y)

run_key_back : (items : List Literal) (t : List ℕ) (end : ℕ) (fs : List Frame) (u : List ℕ) (at : ℕ) (v : Bool) → (at == end) ≡ v
    → BackState (Run items t end) fs (Key u at) (if v then Some (Run items (t ++ u) (at + length u), fs) else elements (items ++ literal.Symbol t ∷ []) fs (Key u at))
run_key_back items t end fs u at true e = λ a r y. run_more items t u end at fs a r (eqb-true at end e) y
run_key_back items t end fs u at false e =
    run_symbol_back items t end fs (Key u at) (elements (items ++ literal.Symbol t ∷ []) fs (Key u at)) (λ a. eqb-false at end e) (elements_back (items ++ literal.Symbol t ∷ []) fs (Key u at))

run_back : (items : List Literal) (t : List ℕ) (end : ℕ) (fs : List Frame) (s : Sym) → BackState (Run items t end) fs s (keyword_run items t end fs s)
run_back items t end fs (Key u at) = run_key_back items t end fs u at (at == end) refl
run_back items t end fs s = run_symbol_back items t end fs s (elements (items ++ literal.Symbol t ∷ []) fs s) (λ a. tt) (elements_back (items ++ literal.Symbol t ∷ []) fs s)

-- ---- whole lists

step_back : (h : Here) (fs : List Frame) (s : Sym) → BackState h fs s (step_at h fs s)
step_back Pattern fs s = pattern_back fs s
step_back (OperatorRead k) fs s = operator_read_back k fs s
step_back (KeywordRead k ns) fs s = keyword_read_back k ns fs s
step_back (ParameterRead k ns) fs s = parameter_read_back k ns fs s
step_back (Opened at ns) fs s = opened_back at ns fs s
step_back (Parameter at ns) fs s = parameter_back at ns fs s
step_back (Fresh level) fs s = fresh_back level fs s
step_back (Temporaries level) fs s = temporaries_back level fs s
step_back (Statements level done) fs s = statements_back level done fs s
step_back (Ended level done) fs s = ended_back level done fs s
step_back (Within home place) fs s = within_back home place fs s
step_back (Elements items) fs s = elements_back items fs s
step_back (Dash items at) fs s = dash_back items at fs s
step_back (Run items t end) fs s = run_back items t end fs s

some_same : (x y : Tree) → Some x ≡ Some y → x ≡ y
some_same x y e = cc

top_ends : (heading : Heading) (ts : List Name) (done : List Statement) (r : Tree) → Some (tree_of heading ts done) ≡ Some r → LevelEnds (Top heading ts) [] done [] r
top_ends heading ts done r e = subst (λ v. LevelEnds (Top heading ts) [] done [] v) (some_same (tree_of heading ts done) r e) at_top

fresh_ends : (heading : Heading) (ts : List Name) (r : Tree) → Some (tree_of heading ts []) ≡ Some r → Completes (Fresh (Top heading ts)) [] [] r
fresh_ends heading ts r e = fresh_goes g.none g.no_statements (subst (λ v. LevelEnds v [] [] [] r) (sym (with_none (Top heading ts))) (top_ends heading ts [] r e))

accept_back : (h : Here) (fs : List Frame) (r : Tree) → accept (h, fs) ≡ Some r → Completes h fs [] r
accept_back (ParameterRead k ns) [] r e = parameter_ends (fresh_ends (Headed k ns) [] r e)
accept_back (Fresh (Top heading ts)) [] r e = fresh_ends heading ts r e
accept_back (Statements (Top heading ts) done) [] r e = statements_go g.no_statements (subst (λ v. LevelEnds (Top heading ts) [] v [] r) (sym (append-nil done)) (top_ends heading ts done r e))
accept_back (Ended (Top heading ts) done) [] r e = ended_goes (top_ends heading ts done r e)
accept_back (Within home place) fs r e = go home fs (whole place) (whole_back place) e
  where
    go : (home : Home) (fs : List Frame) (w : Option Whole) → EndsAt place w → accept_within home fs w ≡ Some r → Completes (Within home place) fs [] r
    go (Body (Top heading ts) done returns) [] (Some w) h e = within_goes (h []) (after_last (top_ends heading ts (done ++ stated returns (expr_of w) ∷ []) r e))
    go home fs w h e = cc
accept_back h fs r e = cc

completes_after : (h : Here) (fs : List Frame) (s : Sym) (a : List Sym) (r : Tree) (m : Option State) → BackState h fs s m
    → ((h' : Here) (fs' : List Frame) → parse (h', fs') a ≡ Some r → Completes h' fs' a r)
    → option_and_then (λ next. parse next a) m ≡ Some r → Completes h fs (s ∷ a) r
completes_after h fs s a r None k rest e = cc
completes_after h fs s a r (Some next) k rest e = k a r (rest next.0 next.1 e)

completes : (a : List Sym) (h : Here) (fs : List Frame) (r : Tree) → parse (h, fs) a ≡ Some r → Completes h fs a r
completes [] h fs r e = accept_back h fs r e
completes (s ∷ a) h fs r e = completes_after h fs s a r (step_at h fs s) (step_back h fs s) (λ h' fs' e'. completes a h' fs' r e') e

body_ends : {a b c : List Sym} {ts : List Name} {ss : List Statement} {r : Tree} → g.Temps a b ts → g.Statements b c ss → LevelEnds (Top NoPattern ts) [] ss c r → g.Derives ABody a r
body_ends t s at_top = g.is_body t s

body_derives : (a : List Sym) (r : Tree) → Completes (Fresh (Top NoPattern [])) [] a r → g.Derives ABody a r
body_derives a r (fresh_goes t s x) = body_ends t s x

method_ends : {a b c d : List Sym} {k : List ℕ} {ns ts : List Name} {ss : List Statement} {r : Tree} → g.Pattern a b k ns → g.Temps b c ts → g.Statements c d ss → LevelEnds (Top (Headed k ns) ts) [] ss d r → g.Derives AMethod a r
method_ends x t s at_top = g.is_method x t s

method_derives : (a : List Sym) (r : Tree) → Completes Pattern [] a r → g.Derives AMethod a r
method_derives a r (pattern_goes x (fresh_goes t s y)) = method_ends x t s y

pub sound : (p : Production) (a : List Sym) (r : Tree) → parse (start p) a ≡ Some r → g.Derives p a r
sound ABody a r e = body_derives a r (completes a (Fresh (Top NoPattern [])) [] r e)
sound AMethod a r e = method_derives a r (completes a Pattern [] r e)
