-- The machine's turns depend on no tree: a scan makes the same ones.
use Rattle.std.proofs.Common.{◌≡◌, ℕ, ◌+◌, ◌^◌, ◌==◌, List, [], ◌∷◌, ◌++◌, Bool, true, false, refl, ap, sym, ◌∙◌, map, Option, Some, None, if◌then◌else◌, subst, arith, length}
use Rattle.std.specs.Prelude.{nat_lt, nat_le}
use Rattle.std.proofs.lemmas.Bool.Decides.{nat_tests}
use Rattle.st_tree.specs.declared.tree.Name.{Name}
use Rattle.st_tree.specs.declared.tree.Literal.{Literal}
use Rattle.st_tree.specs.declared.tree.Literal.TheVariants as literal
use Rattle.st_tree.specs.declared.tree.Primary.{Primary}
use Rattle.st_tree.specs.declared.tree.Primary.TheVariants as primary
use Rattle.st_tree.specs.declared.tree.Statement.{Statement}
use Rattle.st_tree.specs.declared.tree.Message.{Message}
use Rattle.st_tree.specs.declared.tree.Operand.{Operand}
use Rattle.st_tree.specs.Symbols.{Sym, Id, Key, Op, Minus, Bar, TwoBars, ThreeBars, Num, Lit, ArrayOpen, ParenOpen, ParenClose, BlockOpen, BlockClose, Colon, Assign, Caret, Period, Semicolon, Role, IsName, IsValue, IsSuper, role, word_item}
use Rattle.st_tree.specs.Grammar.{Tree}
use Rattle.st_tree.specs.Trees.{name, variable, integer, negative, array, constant, message, block, paren, stated}
use Rattle.st_parser.specs.States.{Selector, Left, First, Further, Outer, Receiver, Argument, Inner, Plain, Right, FurtherRight, Place, Start, Bare, Have, Want, Super, Signed, Again, Sent, Heading, NoPattern, Headed, Level, Top, Block, Home, Paren, Body, Here, Pattern, OperatorRead, KeywordRead, ParameterRead, Opened, Parameter, Fresh, Temporaries, Statements, Ended, Within, Elements, Dash, Run, Frame, Waits, Holds, Whole, Move, Next, OpenArray, OpenParen, OpenBlock}
use Rattle.st_parser.specs.Machine as m
use Rattle.st_parser.specs.Machine.{State, step_at}
use Rattle.st_parser.specs.declared.scan_state.Class.{Class}
use Rattle.st_parser.specs.declared.scan_state.Class.TheVariants as c
use Rattle.st_parser.specs.declared.scan_state.Owner.{Owner}
use Rattle.st_parser.specs.declared.scan_state.Owner.TheVariants as owner
use Rattle.st_parser.specs.declared.scan_state.Slot.{Slot}
use Rattle.st_parser.specs.declared.scan_state.Slot.TheVariants as slot
use Rattle.st_parser.specs.declared.scan_state.Spot.{Spot}
use Rattle.st_parser.specs.declared.scan_state.Spot.TheVariants as spot
use Rattle.st_parser.specs.declared.scan_state.Around.{Around}
use Rattle.st_parser.specs.declared.scan_state.Around.TheVariants as around
use Rattle.st_parser.specs.declared.scan_state.Now.{Now}
use Rattle.st_parser.specs.declared.scan_state.Now.TheVariants as now
use Rattle.st_parser.specs.declared.scan_state.Held.{Held}
use Rattle.st_parser.specs.declared.scan_state.Held.TheVariants as held
use Rattle.st_parser.specs.declared.scan_state.Turn.{Turn}
use Rattle.st_parser.specs.declared.scan_state.Turn.TheVariants as turn
use Rattle.st_parser.specs.Scan as s
use Rattle.st_parser.specs.Scan.{turn_at, apply_turn, can_end, ends_at}
use Rattle.st_parser.specs.Finding.{has_sign, is_too_large}

-- ---- what a scan keeps of a state

abbrev pub class_of_role : Role → Class
class_of_role IsName = c.Name
class_of_role (IsValue p) = c.Value
class_of_role IsSuper = c.Super

abbrev pub class_of : Sym → Class
class_of (Id t at) = class_of_role (role t)
class_of (Key t at) = c.Keyword
class_of (Op t at) = c.Operator
class_of (Minus at) = c.Minus (at + 1)
class_of (Bar at) = c.Bar
class_of (TwoBars at) = c.TwoBars
class_of (ThreeBars at) = c.ThreeBars
class_of (Num n at) = c.Number at
class_of (Lit l) = c.Literal
class_of ArrayOpen = c.ArrayOpen
class_of ParenOpen = c.ParenOpen
class_of ParenClose = c.ParenClose
class_of (BlockOpen at) = c.BlockOpen
class_of BlockClose = c.BlockClose
class_of Colon = c.Colon
class_of Assign = c.Assign
class_of Caret = c.Caret
class_of Period = c.Period
class_of Semicolon = c.Semicolon

abbrev pub slot_of : Inner → Slot
slot_of (Plain Receiver) = slot.Receiver
slot_of (Plain (Argument l q os)) = slot.Argument
slot_of (Right Receiver p qs q) = slot.ReceiverRight
slot_of (Right (Argument l k os) p qs q) = slot.ArgumentRight
slot_of (FurtherRight r cs q) = slot.FurtherRight

abbrev pub is_plain : List Message → Bool
is_plain [] = true
is_plain (x ∷ xs) = false

abbrev pub is_unnamed : List Name → Bool
is_unnamed [] = true
is_unnamed (x ∷ xs) = false

abbrev pub spot_of : Place → Spot
spot_of (Start tg) = spot.Start
spot_of (Bare tg n) = spot.Bare
spot_of (Have tg inner p ch) = spot.Have (slot_of inner) (is_plain ch)
spot_of (Want tg inner) = spot.Want (slot_of inner)
spot_of (Super tg inner) = spot.Super (slot_of inner)
spot_of (Signed tg inner at) = spot.Signed (slot_of inner) at
spot_of (Again tg r cs) = spot.Again
spot_of (Sent tg r cs) = spot.Sent

abbrev pub owner_of : Level → Owner
owner_of (Top heading ts) = owner.Text
owner_of (Block at ns ts) = owner.Block

abbrev pub around_of : Home → Around
around_of Paren = around.Paren
around_of (Body level done returns) = around.Body (owner_of level) returns

abbrev pub now_of : Here → Now
now_of Pattern = now.Pattern
now_of (OperatorRead t) = now.OperatorRead
now_of (KeywordRead t ns) = now.KeywordRead
now_of (ParameterRead t ns) = now.ParameterRead
now_of (Opened at ns) = now.Opened (is_unnamed ns)
now_of (Parameter at ns) = now.Parameter
now_of (Fresh level) = now.Fresh (owner_of level)
now_of (Temporaries level) = now.Temporaries (owner_of level)
now_of (Statements level done) = now.Statements (owner_of level)
now_of (Ended level done) = now.Ended (owner_of level)
now_of (Within home place) = now.Within (around_of home) (spot_of place)
now_of (Elements items) = now.Elements
now_of (Dash items at) = now.Dash at
now_of (Run items t end) = now.Elements

abbrev pub held_of : Frame → Held
held_of (Waits home tg inner) = held.Operand (around_of home) (slot_of inner)
held_of (Holds items) = held.Array

abbrev pub shape : State → Now × List Held
shape state = (now_of state.0, map held_of state.1)

abbrev pub shapes : Option State → Option (Now × List Held)
shapes None = None
shapes (Some state) = Some (shape state)

-- ---- integers that are in range

below : (n m : ℕ) → nat_le m n ≡ false → nat_lt n m ≡ true
below n m e = grind (arith, nat_tests)

within_limit : (n m : ℕ) → nat_lt m n ≡ false → nat_le n m ≡ true
within_limit n m e = grind (arith, nat_tests)

-- an integer is small enough without a sign
abbrev Fit : Sym → Type 0
Fit (Num n at) = nat_lt n (2 ^ 127) ≡ true
Fit x = Unit {0}

-- it is small enough where it stands
abbrev pub InRange : Now → Sym → Type 0
InRange n (Num v at) = is_too_large (has_sign n at) v ≡ false
InRange n x = Unit {0}

fit_of : (n : Now) (x : Sym) → ((at : ℕ) → has_sign n at ≡ false) → InRange n x → Fit x
fit_of n (Num v at) k r = below v (2 ^ 127) (subst (λ b. is_too_large b v ≡ false) (k at) r)
fit_of n _ k r = tt

-- ---- turns

abbrev moves : Home → List Frame → Option Move → Option (Now × List Held)
moves home fs move = shapes (m.moved home fs move)

last_plain : (ch : List Message) (x : Message) → is_plain (ch ++ x ∷ []) ≡ false
last_plain [] x = refl
last_plain (y ∷ ch) x = refl

last_unnamed : (ns : List Name) (x : Name) → is_unnamed (ns ++ x ∷ []) ≡ false
last_unnamed [] x = refl
last_unnamed (y ∷ ch) x = refl

pub by_role : (P : Class → Type 0) → P c.Name → P c.Value → P c.Super → (r : Role) → P (class_of_role r)
by_role P x y z IsName = x
by_role P x y z (IsValue p) = y
by_role P x y z IsSuper = z

module _ (home : Home) (fs : List Frame) where
  abbrev hs : List Held
  hs = map held_of fs

  abbrev a : Around
  a = around_of home

  words : (tg : List Name) (inner : Inner) (r : Role) (t : List ℕ) (at : ℕ)
      → moves home fs (m.word tg inner r t at) ≡ apply_turn (s.want a (slot_of inner) (class_of_role r)) hs
  words tg inner IsName t at = refl
  words tg inner (IsValue p) t at = refl
  words tg inner IsSuper t at = refl

  wants : (tg : List Name) (inner : Inner) (x : Sym) → Fit x → moves home fs (m.want tg inner x) ≡ apply_turn (s.want a (slot_of inner) (class_of x)) hs
  wants tg inner (Id t at) f = words tg inner (role t) t at
  wants tg inner (Num n at) f = ap (λ b. moves home fs (if b then Some (Next (Have tg inner (constant (integer n)) [])) else None)) f
  wants tg inner _ f = refl

  first_words : (tg : List Name) (r : Role) (t : List ℕ) (at : ℕ) → moves home fs (m.first_word tg r t at) ≡ apply_turn (s.begin a (class_of_role r)) hs
  first_words tg IsName t at = refl
  first_words tg (IsValue p) t at = refl
  first_words tg IsSuper t at = refl

  begins : (tg : List Name) (x : Sym) → Fit x → moves home fs (m.begin tg x) ≡ apply_turn (s.begin a (class_of x)) hs
  begins tg (Id t at) f = first_words tg (role t) t at
  begins tg (Num n at) f = wants tg (Plain Receiver) (Num n at) f
  begins tg _ f = refl

  one_more : (tg : List Name) (inner : Inner) (p : Primary) (ch : List Message) (r : Role) (x : Message) (plain : Bool)
      → moves home fs (Some (Next (Have tg inner p (ch ++ x ∷ [])))) ≡ apply_turn (s.more a (slot_of inner) plain (class_of_role r)) hs
  one_more tg inner p ch IsName x plain = ap (λ b. Some (now.Within a (spot.Have (slot_of inner) b), hs)) (last_plain ch x)
  one_more tg inner p ch (IsValue v) x plain = ap (λ b. Some (now.Within a (spot.Have (slot_of inner) b), hs)) (last_plain ch x)
  one_more tg inner p ch IsSuper x plain = ap (λ b. Some (now.Within a (spot.Have (slot_of inner) b), hs)) (last_plain ch x)

  operators : (tg : List Name) (inner : Inner) (p : Primary) (ch : List Message) (k : Selector)
      → moves home fs (m.after_operator tg inner p ch k) ≡ apply_turn (s.operator a (slot_of inner)) hs
  operators tg (Plain Receiver) p ch k = refl
  operators tg (Plain (Argument l q os)) p ch k = refl
  operators tg (Right Receiver q qs k') p ch k = refl
  operators tg (Right (Argument l k'' os) q qs k') p ch k = refl
  operators tg (FurtherRight r cs k') p ch k = refl

  keywords : (tg : List Name) (inner : Inner) (p : Primary) (ch : List Message) (t : List ℕ) (at : ℕ)
      → moves home fs (m.after_keyword tg inner p ch t at) ≡ apply_turn (s.keyword a (slot_of inner)) hs
  keywords tg (Plain Receiver) p ch t at = refl
  keywords tg (Plain (Argument l q os)) p ch t at = refl
  keywords tg (Right Receiver q qs k') p ch t at = refl
  keywords tg (Right (Argument l k'' os) q qs k') p ch t at = refl
  keywords tg (FurtherRight r cs k') p ch t at = refl

  semicolons : (tg : List Name) (inner : Inner) (p : Primary) (ch : List Message)
      → moves home fs (m.after_semicolon tg inner p ch) ≡ apply_turn (s.semicolon a (slot_of inner) (is_plain ch)) hs
  semicolons tg (Plain Receiver) p [] = refl
  semicolons tg (Plain Receiver) p (x ∷ xs) = refl
  semicolons tg (Plain (Argument (First q qs) k' os)) p ch = refl
  semicolons tg (Plain (Argument (Further r cs) k' os)) p ch = refl
  semicolons tg (Right Receiver q [] k') p ch = refl
  semicolons tg (Right Receiver q (x ∷ qs) k') p ch = refl
  semicolons tg (Right (Argument (First q' qs') k'' os) q qs k') p ch = refl
  semicolons tg (Right (Argument (Further r cs) k'' os) q qs k') p ch = refl
  semicolons tg (FurtherRight r cs k') p ch = refl

  haves : (tg : List Name) (inner : Inner) (p : Primary) (ch : List Message) (x : Sym)
      → moves home fs (m.have tg inner p ch x) ≡ apply_turn (s.more a (slot_of inner) (is_plain ch) (class_of x)) hs
  haves tg inner p ch (Id t at) = one_more tg inner p ch (role t) (message t at []) (is_plain ch)
  haves tg inner p ch (Op t at) = operators tg inner p ch (m.selector t at)
  haves tg inner p ch (Minus at) = operators tg inner p ch (m.selector (45 ∷ []) at)
  haves tg inner p ch (Bar at) = operators tg inner p ch (m.selector (124 ∷ []) at)
  haves tg inner p ch (TwoBars at) = operators tg inner p ch (m.selector (124 ∷ 124 ∷ []) at)
  haves tg inner p ch (ThreeBars at) = operators tg inner p ch (m.selector (124 ∷ 124 ∷ 124 ∷ []) at)
  haves tg inner p ch (Key t at) = keywords tg inner p ch t at
  haves tg inner p ch Semicolon = semicolons tg inner p ch
  haves tg inner p ch _ = refl

  bares : (tg : List Name) (n : Name) (x : Sym) → moves home fs (m.bare tg n x) ≡ apply_turn (s.bare a (class_of x)) hs
  bares tg n Assign = refl
  bares tg n (Id t at) = haves tg (Plain Receiver) (variable n) [] (Id t at)
      ∙ ap (λ v. apply_turn v hs) (by_role (λ k. s.more a slot.Receiver true k ≡ s.bare a k) refl refl refl (role t))
  bares tg n _ = refl

  super_words : (tg : List Name) (inner : Inner) (x : Message) (r : Role)
      → moves home fs (Some (Next (Have tg inner primary.SuperValue (x ∷ [])))) ≡ apply_turn (s.super_goes a (slot_of inner) (class_of_role r)) hs
  super_words tg inner x IsName = refl
  super_words tg inner x (IsValue p) = refl
  super_words tg inner x IsSuper = refl

  supers : (tg : List Name) (inner : Inner) (x : Sym) → moves home fs (m.super_goes tg inner x) ≡ apply_turn (s.super_goes a (slot_of inner) (class_of x)) hs
  supers tg inner (Id t at) = super_words tg inner (message t at []) (role t)
  supers tg (Plain Receiver) _ = refl
  supers tg (Plain (Argument l q os)) _ = refl
  supers tg (Right Receiver q qs k') _ = refl
  supers tg (Right (Argument l k'' os) q qs k') _ = refl
  supers tg (FurtherRight r cs k') _ = refl

  signed_number : (tg : List Name) (inner : Inner) (n : ℕ) (b : Bool) → is_too_large b n ≡ false
      → moves home fs (if b then m.negated tg inner n else None) ≡ apply_turn (if b then s.have a (slot_of inner) true else turn.Stuck) hs
  signed_number tg inner n true r = ap (λ b. moves home fs (if b then Some (Next (Have tg inner (constant (negative n)) [])) else None)) (within_limit n (2 ^ 127) r)
  signed_number tg inner n false r = refl

  signeds : (tg : List Name) (inner : Inner) (at : ℕ) (x : Sym) → InRange (now.Within a (spot.Signed (slot_of inner) at)) x
      → moves home fs (m.signed tg inner at x) ≡ apply_turn (s.signed a (slot_of inner) at (class_of x)) hs
  signeds tg inner at (Num n n_at) r = signed_number tg inner n (n_at == at) r
  signeds tg inner at (Id t n_at) r = by_role (λ k. None ≡ apply_turn (s.signed a (slot_of inner) at k) hs) refl refl refl (role t)
  signeds tg inner at _ r = refl

  resends : (tg : List Name) (r : Operand) (cs : List Message) (x : Sym) → moves home fs (m.resend tg r cs x) ≡ apply_turn (s.resend a (class_of x)) hs
  resends tg r cs (Id t at) = by_role (λ k. Some (now.Within a spot.Sent, hs) ≡ apply_turn (s.resend a k) hs) refl refl refl (role t)
  resends tg r cs _ = refl

  sents : (tg : List Name) (r : Operand) (cs : List Message) (x : Sym) → moves home fs (m.sent tg r cs x) ≡ apply_turn (s.sent a (class_of x)) hs
  sents tg r cs (Id t at) = by_role (λ k. None ≡ apply_turn (s.sent a k) hs) refl refl refl (role t)
  sents tg r cs _ = refl

  advances : (place : Place) (x : Sym) → InRange (now.Within a (spot_of place)) x → moves home fs (m.move place x) ≡ apply_turn (s.move a (spot_of place) (class_of x)) hs
  advances (Start tg) x r = begins tg x (fit_of (now.Within a spot.Start) x (λ at. refl) r)
  advances (Bare tg n) x r = bares tg n x
  advances (Have tg inner p ch) x r = haves tg inner p ch x
  advances (Want tg inner) x r = wants tg inner x (fit_of (now.Within a (spot.Want (slot_of inner))) x (λ at. refl) r)
  advances (Super tg inner) x r = supers tg inner x
  advances (Signed tg inner at) x r = signeds tg inner at x r
  advances (Again tg o cs) x r = resends tg o cs x
  advances (Sent tg o cs) x r = sents tg o cs x

ups : (fs : List Frame) (p : Primary) → shapes (m.up fs p) ≡ apply_turn turn.Close (map held_of fs)
ups [] p = refl
ups (Waits home tg inner ∷ fs) p = refl
ups (Holds items ∷ fs) p = refl

close_levels : (level : Level) (fs : List Frame) (ss : List Statement) → shapes (m.close_level level fs ss) ≡ apply_turn (s.close_level (owner_of level)) (map held_of fs)
close_levels (Top heading ts) fs ss = refl
close_levels (Block at ns ts) fs ss = ups fs (block at ns ts ss)

abbrev is_whole : Option Whole → Bool
is_whole None = false
is_whole (Some w) = true

whole_same : (place : Place) → is_whole (m.whole place) ≡ s.whole (spot_of place)
whole_same (Start tg) = refl
whole_same (Bare tg n) = refl
whole_same (Have tg inner p ch) = refl
whole_same (Want tg inner) = refl
whole_same (Super tg inner) = refl
whole_same (Signed tg inner at) = refl
whole_same (Again tg r cs) = refl
whole_same (Sent tg r cs) = refl

closes_paren : (home : Home) (fs : List Frame) (w : Option Whole)
    → shapes (m.close_paren home fs w) ≡ apply_turn (if is_whole w then s.close_paren (around_of home) else turn.Stuck) (map held_of fs)
closes_paren Paren fs None = refl
closes_paren Paren fs (Some w) = ups fs (paren (m.expr_of w))
closes_paren (Body level done returns) fs None = refl
closes_paren (Body level done returns) fs (Some w) = refl

closes_block : (home : Home) (fs : List Frame) (w : Option Whole)
    → shapes (m.close_block home fs w) ≡ apply_turn (if is_whole w then s.close_block (around_of home) else turn.Stuck) (map held_of fs)
closes_block Paren fs None = refl
closes_block Paren fs (Some w) = refl
closes_block (Body level done returns) fs None = refl
closes_block (Body level done returns) fs (Some w) = close_levels level fs (done ++ stated returns (m.expr_of w) ∷ [])

periods : (home : Home) (fs : List Frame) (w : Option Whole)
    → shapes (m.period home fs w) ≡ apply_turn (if is_whole w then s.period (around_of home) else turn.Stuck) (map held_of fs)
periods Paren fs None = refl
periods Paren fs (Some w) = refl
periods (Body level done true) fs None = refl
periods (Body level done false) fs None = refl
periods (Body level done true) fs (Some w) = refl
periods (Body level done false) fs (Some w) = refl

ends : (k : Turn) (place : Place) (fs : List Frame) (v : Option (Now × List Held))
    → v ≡ apply_turn (if is_whole (m.whole place) then k else turn.Stuck) (map held_of fs)
    → v ≡ apply_turn (if s.whole (spot_of place) then k else turn.Stuck) (map held_of fs)
ends k place fs v e = e ∙ ap (λ b. apply_turn (if b then k else turn.Stuck) (map held_of fs)) (whole_same place)

withins : (home : Home) (place : Place) (fs : List Frame) (x : Sym) → InRange (now.Within (around_of home) (spot_of place)) x
    → shapes (m.within home place fs x) ≡ apply_turn (s.within (around_of home) (spot_of place) (class_of x)) (map held_of fs)
withins home place fs ParenClose r = ends (s.close_paren (around_of home)) place fs (shapes (m.close_paren home fs (m.whole place))) (closes_paren home fs (m.whole place))
withins home place fs BlockClose r = ends (s.close_block (around_of home)) place fs (shapes (m.close_block home fs (m.whole place))) (closes_block home fs (m.whole place))
withins home place fs Period r = ends (s.period (around_of home)) place fs (shapes (m.period home fs (m.whole place))) (periods home fs (m.whole place))
withins home place fs (Id t at) r = advances home fs place (Id t at) tt
    ∙ ap (λ k. apply_turn k (map held_of fs)) (by_role (λ k. s.move (around_of home) (spot_of place) k ≡ s.within (around_of home) (spot_of place) k) refl refl refl (role t))
withins home place fs x r = advances home fs place x r

states : (level : Level) (done : List Statement) (fs : List Frame) (x : Sym) → Fit x
    → shapes (m.statements level done fs x) ≡ apply_turn (s.statements (owner_of level) (class_of x)) (map held_of fs)
states level done fs Caret f = refl
states level done fs BlockClose f = close_levels level fs done
states level done fs (Id t at) f = begins (Body level done false) fs [] (Id t at) tt
    ∙ ap (λ k. apply_turn k (map held_of fs)) (by_role (λ k. s.begin (around.Body (owner_of level) false) k ≡ s.statements (owner_of level) k) refl refl refl (role t))
states level done fs x f = begins (Body level done false) fs [] x f

endeds : (level : Level) (done : List Statement) (fs : List Frame) (x : Sym)
    → shapes (m.ended level done fs x) ≡ apply_turn (s.ended (owner_of level) (class_of x)) (map held_of fs)
endeds level done fs BlockClose = close_levels level fs done
endeds level done fs (Id t at) = by_role (λ k. None ≡ apply_turn (s.ended (owner_of level) k) (map held_of fs)) refl refl refl (role t)
endeds level done fs _ = refl

freshes : (level : Level) (fs : List Frame) (x : Sym) → Fit x → shapes (m.fresh level fs x) ≡ apply_turn (s.fresh (owner_of level) (class_of x)) (map held_of fs)
freshes level fs (Bar at) f = refl
freshes level fs (TwoBars at) f = refl
freshes level fs (Id t at) f = states level [] fs (Id t at) tt
    ∙ ap (λ k. apply_turn k (map held_of fs)) (by_role (λ k. s.statements (owner_of level) k ≡ s.fresh (owner_of level) k) refl refl refl (role t))
freshes level fs x f = states level [] fs x f

temporary_words : (level : Level) (fs : List Frame) (r : Role) (t : List ℕ) (at : ℕ)
    → shapes (m.temporary_word level fs r t at) ≡ apply_turn (s.temporaries (owner_of level) (class_of_role r)) (map held_of fs)
temporary_words (Top heading ts) fs IsName t at = refl
temporary_words (Block b ns ts) fs IsName t at = refl
temporary_words level fs (IsValue p) t at = refl
temporary_words level fs IsSuper t at = refl

temporaries : (level : Level) (fs : List Frame) (x : Sym) → shapes (m.temporaries level fs x) ≡ apply_turn (s.temporaries (owner_of level) (class_of x)) (map held_of fs)
temporaries level fs (Id t at) = temporary_words level fs (role t) t at
temporaries level fs _ = refl

afters : (at : ℕ) (ns : List Name) (fs : List Frame) (x : Sym)
    → shapes (m.after_parameters at ns fs x) ≡ apply_turn (s.after_parameters (class_of x)) (map held_of fs)
afters at ns fs BlockClose = ups fs (block at ns [] [])
afters at ns fs (Id t n_at) = by_role (λ k. None ≡ apply_turn (s.after_parameters k) (map held_of fs)) refl refl refl (role t)
afters at ns fs _ = refl

openeds : (at : ℕ) (ns : List Name) (fs : List Frame) (x : Sym) → Fit x
    → shapes (m.opened at ns fs x) ≡ apply_turn (s.opened (is_unnamed ns) (class_of x)) (map held_of fs)
openeds at [] fs Colon f = refl
openeds at (n ∷ ns) fs Colon f = refl
openeds at [] fs (Id t n_at) f = freshes (Block at [] []) fs (Id t n_at) tt
    ∙ ap (λ k. apply_turn k (map held_of fs)) (by_role (λ k. s.fresh owner.Block k ≡ s.opened true k) refl refl refl (role t))
openeds at [] fs x f = freshes (Block at [] []) fs x f
openeds at (n ∷ ns) fs (Id t n_at) f = afters at (n ∷ ns) fs (Id t n_at)
    ∙ ap (λ k. apply_turn k (map held_of fs)) (by_role (λ k. s.after_parameters k ≡ s.opened false k) refl refl refl (role t))
openeds at (n ∷ ns) fs x f = afters at (n ∷ ns) fs x

parameter_words : (at : ℕ) (ns : List Name) (fs : List Frame) (r : Role) (t : List ℕ) (n_at : ℕ)
    → shapes (m.parameter_word at ns fs r t n_at) ≡ apply_turn (s.parameter (class_of_role r)) (map held_of fs)
parameter_words at ns fs IsName t n_at = ap (λ b. Some (now.Opened b, map held_of fs)) (last_unnamed ns (name t n_at))
parameter_words at ns fs (IsValue p) t n_at = refl
parameter_words at ns fs IsSuper t n_at = refl

parameters : (at : ℕ) (ns : List Name) (fs : List Frame) (x : Sym)
    → shapes (m.parameter at ns fs x) ≡ apply_turn (s.parameter (class_of x)) (map held_of fs)
parameters at ns fs (Id t n_at) = parameter_words at ns fs (role t) t n_at
parameters at ns fs _ = refl

-- ---- arrays

close_arrays : (fs : List Frame) (ls : List Literal) → shapes (m.close_array fs ls) ≡ apply_turn turn.CloseArray (map held_of fs)
close_arrays [] ls = refl
close_arrays (Waits home tg inner ∷ fs) ls = refl
close_arrays (Holds items ∷ fs) ls = refl

elements : (items : List Literal) (fs : List Frame) (x : Sym) → Fit x → shapes (m.elements items fs x) ≡ apply_turn (s.elements (class_of x)) (map held_of fs)
elements items fs (Id t at) f = by_role (λ k. Some (now.Elements, map held_of fs) ≡ apply_turn (s.elements k) (map held_of fs)) refl refl refl (role t)
elements items fs (Num n at) f = ap (λ b. shapes (if b then m.with_item items (integer n) fs else None)) f
elements items fs ParenClose f = close_arrays fs items
elements items fs _ f = refl

dash_number : (items : List Literal) (n n_at : ℕ) (fs : List Frame) (b : Bool) → is_too_large b n ≡ false
    → shapes (if b then m.negated_item items n fs else m.elements (items ++ literal.Symbol (45 ∷ []) ∷ []) fs (Num n n_at)) ≡ Some (now.Elements, map held_of fs)
dash_number items n n_at fs true r = ap (λ b. shapes (if b then m.with_item items (negative n) fs else None)) (within_limit n (2 ^ 127) r)
dash_number items n n_at fs false r = elements (items ++ literal.Symbol (45 ∷ []) ∷ []) fs (Num n n_at) (below n (2 ^ 127) r)

dashes : (items : List Literal) (at : ℕ) (fs : List Frame) (x : Sym) → InRange (now.Dash at) x
    → shapes (m.dash items at fs x) ≡ apply_turn (s.elements (class_of x)) (map held_of fs)
dashes items at fs (Num n n_at) r = dash_number items n n_at fs (n_at == at) r
dashes items at fs x r = elements (items ++ literal.Symbol (45 ∷ []) ∷ []) fs x tt

run_keyword : (items : List Literal) (t u : List ℕ) (at : ℕ) (fs : List Frame) (b : Bool)
    → shapes (if b then Some (Run items (t ++ u) (at + length u), fs) else m.elements (items ++ literal.Symbol t ∷ []) fs (Key u at)) ≡ Some (now.Elements, map held_of fs)
run_keyword items t u at fs true = refl
run_keyword items t u at fs false = refl

runs : (items : List Literal) (t : List ℕ) (end : ℕ) (fs : List Frame) (x : Sym) → Fit x
    → shapes (m.keyword_run items t end fs x) ≡ apply_turn (s.elements (class_of x)) (map held_of fs)
runs items t end fs (Key u at) f = run_keyword items t u at fs (at == end)
runs items t end fs x f = elements (items ++ literal.Symbol t ∷ []) fs x f

-- ---- patterns

patterns : (fs : List Frame) (x : Sym) → shapes (m.pattern fs x) ≡ apply_turn (s.pattern (class_of x)) (map held_of fs)
patterns fs (Id t at) = by_role (λ k. Some (now.Fresh owner.Text, map held_of fs) ≡ apply_turn (s.pattern k) (map held_of fs)) refl refl refl (role t)
patterns fs _ = refl

operator_words : (t : List ℕ) (fs : List Frame) (r : Role) (u : List ℕ) (at : ℕ)
    → shapes (m.operator_word t fs r u at) ≡ apply_turn (s.named (now.Fresh owner.Text) (class_of_role r)) (map held_of fs)
operator_words t fs IsName u at = refl
operator_words t fs (IsValue p) u at = refl
operator_words t fs IsSuper u at = refl

operator_reads : (t : List ℕ) (fs : List Frame) (x : Sym) → shapes (m.operator_read t fs x) ≡ apply_turn (s.named (now.Fresh owner.Text) (class_of x)) (map held_of fs)
operator_reads t fs (Id u at) = operator_words t fs (role u) u at
operator_reads t fs _ = refl

keyword_words : (t : List ℕ) (ns : List Name) (fs : List Frame) (r : Role) (u : List ℕ) (at : ℕ)
    → shapes (m.keyword_word t ns fs r u at) ≡ apply_turn (s.named now.ParameterRead (class_of_role r)) (map held_of fs)
keyword_words t ns fs IsName u at = refl
keyword_words t ns fs (IsValue p) u at = refl
keyword_words t ns fs IsSuper u at = refl

keyword_reads : (t : List ℕ) (ns : List Name) (fs : List Frame) (x : Sym) → shapes (m.keyword_read t ns fs x) ≡ apply_turn (s.named now.ParameterRead (class_of x)) (map held_of fs)
keyword_reads t ns fs (Id u at) = keyword_words t ns fs (role u) u at
keyword_reads t ns fs _ = refl

parameter_reads : (t : List ℕ) (ns : List Name) (fs : List Frame) (x : Sym) → Fit x
    → shapes (m.parameter_read t ns fs x) ≡ apply_turn (s.parameter_read (class_of x)) (map held_of fs)
parameter_reads t ns fs (Key u at) f = refl
parameter_reads t ns fs (Id u at) f = freshes (Top (Headed t ns) []) fs (Id u at) tt
    ∙ ap (λ k. apply_turn k (map held_of fs)) (by_role (λ k. s.fresh owner.Text k ≡ s.parameter_read k) refl refl refl (role u))
parameter_reads t ns fs x f = freshes (Top (Headed t ns) []) fs x f

-- a token does to the shape of a state what it does to the state
pub steps : (h : Here) (fs : List Frame) (x : Sym) → InRange (now_of h) x → shapes (step_at h fs x) ≡ apply_turn (turn_at (now_of h) (class_of x)) (map held_of fs)
steps Pattern fs x r = patterns fs x
steps (OperatorRead t) fs x r = operator_reads t fs x
steps (KeywordRead t ns) fs x r = keyword_reads t ns fs x
steps (ParameterRead t ns) fs x r = parameter_reads t ns fs x (fit_of now.ParameterRead x (λ at. refl) r)
steps (Opened at ns) fs x r = openeds at ns fs x (fit_of (now.Opened (is_unnamed ns)) x (λ at. refl) r)
steps (Parameter at ns) fs x r = parameters at ns fs x
steps (Fresh level) fs x r = freshes level fs x (fit_of (now.Fresh (owner_of level)) x (λ at. refl) r)
steps (Temporaries level) fs x r = temporaries level fs x
steps (Statements level done) fs x r = states level done fs x (fit_of (now.Statements (owner_of level)) x (λ at. refl) r)
steps (Ended level done) fs x r = endeds level done fs x
steps (Within home place) fs x r = withins home place fs x r
steps (Elements items) fs x r = elements items fs x (fit_of now.Elements x (λ at. refl) r)
steps (Dash items at) fs x r = dashes items at fs x r
steps (Run items t end) fs x r = runs items t end fs x (fit_of now.Elements x (λ at. refl) r)

-- ---- the end

abbrev pub is_done : Option Tree → Bool
is_done None = false
is_done (Some tree) = true

done_within : (heading : Heading) (ts : List Name) (done : List Statement) (returns : Bool) (w : Option Whole) → is_done (m.accept_within (Body (Top heading ts) done returns) [] w) ≡ is_whole w
done_within heading ts done returns None = refl
done_within heading ts done returns (Some w) = refl

done_deep : (home : Home) (f : Frame) (fs : List Frame) (w : Option Whole) → is_done (m.accept_within home (f ∷ fs) w) ≡ false
done_deep Paren f fs None = refl
done_deep Paren f fs (Some w) = refl
done_deep (Body (Top heading ts) done returns) f fs None = refl
done_deep (Body (Top heading ts) done returns) f fs (Some w) = refl
done_deep (Body (Block at ns ts) done returns) f fs None = refl
done_deep (Body (Block at ns ts) done returns) f fs (Some w) = refl

done_paren : (w : Option Whole) → is_done (m.accept_within Paren [] w) ≡ false
done_paren None = refl
done_paren (Some w) = refl

done_block : (at : ℕ) (ns ts : List Name) (done : List Statement) (returns : Bool) (w : Option Whole) → is_done (m.accept_within (Body (Block at ns ts) done returns) [] w) ≡ false
done_block at ns ts done returns None = refl
done_block at ns ts done returns (Some w) = refl

-- a text can end where a scan says so
pub accepts : (h : Here) (fs : List Frame) → is_done (m.accept (h, fs)) ≡ ends_at (now_of h) (map held_of fs)
accepts Pattern [] = refl
accepts Pattern (f ∷ fs) = refl
accepts (OperatorRead t) [] = refl
accepts (OperatorRead t) (f ∷ fs) = refl
accepts (KeywordRead t ns) [] = refl
accepts (KeywordRead t ns) (f ∷ fs) = refl
accepts (ParameterRead t ns) [] = refl
accepts (ParameterRead t ns) (f ∷ fs) = refl
accepts (Opened at ns) [] = refl
accepts (Opened at ns) (f ∷ fs) = refl
accepts (Parameter at ns) [] = refl
accepts (Parameter at ns) (f ∷ fs) = refl
accepts (Fresh (Top heading ts)) [] = refl
accepts (Fresh (Top heading ts)) (f ∷ fs) = refl
accepts (Fresh (Block at ns ts)) [] = refl
accepts (Fresh (Block at ns ts)) (f ∷ fs) = refl
accepts (Temporaries level) [] = refl
accepts (Temporaries level) (f ∷ fs) = refl
accepts (Statements (Top heading ts) done) [] = refl
accepts (Statements (Top heading ts) done) (f ∷ fs) = refl
accepts (Statements (Block at ns ts) done) [] = refl
accepts (Statements (Block at ns ts) done) (f ∷ fs) = refl
accepts (Ended (Top heading ts) done) [] = refl
accepts (Ended (Top heading ts) done) (f ∷ fs) = refl
accepts (Ended (Block at ns ts) done) [] = refl
accepts (Ended (Block at ns ts) done) (f ∷ fs) = refl
accepts (Within (Body (Top heading ts) done returns) place) [] = done_within heading ts done returns (m.whole place) ∙ whole_same place
accepts (Within (Body (Block at ns ts) done returns) place) [] = done_block at ns ts done returns (m.whole place)
accepts (Within Paren place) [] = done_paren (m.whole place)
accepts (Within home place) (f ∷ fs) = done_deep home f fs (m.whole place)
accepts (Elements items) [] = refl
accepts (Elements items) (f ∷ fs) = refl
accepts (Dash items at) [] = refl
accepts (Dash items at) (f ∷ fs) = refl
accepts (Run items t end) [] = refl
accepts (Run items t end) (f ∷ fs) = refl
