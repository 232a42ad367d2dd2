-- Runs of the machine over a list of tokens, one more at a time, and what they say of the list.
use Rattle.std.proofs.Common.{◌≡◌, ℕ, ◌+◌, ◌<◌, ◌≤◌, List, [], ◌∷◌, ◌++◌, Bool, true, false, refl, ap, sym, ◌∙◌, subst, Option, Some, None, take, length, arith, append-nil, if◌then◌else◌}
use Rattle.std.specs.Prelude.{option_and_then, ◌==◌, nat_le}
use Rattle.std.proofs.lemmas.Bool.{leb-true, leb-false}
use Rattle.std.proofs.lemmas.List.{length-append, take-append-le, take_all}
use Rattle.st_base.specs.declared.faults.Reason.TheVariants as reason
use Rattle.st_tree.specs.Symbols.{Sym, Num, ArrayOpen, ParenOpen, ParenClose, BlockOpen, BlockClose}
use Rattle.st_tree.specs.Grammar.{Production, Tree, Derives}
use Rattle.st_tree.specs.Faults.{CanStand, deeper, depth, Shallow, aside, Stands, Spoils, out_of_place, out_of_range, too_deep}
use Rattle.st_parser.specs.Machine.{State, step, step_at, run, parse, accept, start, Frame, Here, Pattern, OperatorRead, KeywordRead, ParameterRead, Opened, Parameter, Fresh, Temporaries, Statements, Ended, Within, Elements, Dash, Run, Home, Place, Start, Bare, Have, Want, Super, Signed, Again, Sent, moved, move, negated, elements, negated_item}
use Rattle.st_parser.proofs.Arrays.{dash_symbol}
use Rattle.st_parser.proofs.Complete.{complete}
use Rattle.st_parser.proofs.SoundLevels.{sound}
use Rattle.st_parser.proofs.Viable.{parse_append, can_stand, cannot_stand}

pub run_append : (a b : List Sym) (state : State) → run state (a ++ b) ≡ option_and_then (λ next. run next b) (run state a)
run_append [] b state = refl
run_append (s ∷ a) b state = after (step state s) (λ next. run_append a b next)
  where
    after : (m : Option State) → ((next : State) → run next (a ++ b) ≡ option_and_then (λ y. run y b) (run next a))
        → option_and_then (λ next. run next (a ++ b)) m ≡ option_and_then (λ y. run y b) (option_and_then (λ y. run y a) m)
    after None k = refl
    after (Some next) k = k next

run_one : (m : Option State) → option_and_then (λ next. run next []) m ≡ m
run_one None = refl
run_one (Some next) = refl

-- one more token
pub run_next : (a : List Sym) (x : Sym) (state s : State) → run state a ≡ Some s → run state (a ++ x ∷ []) ≡ step s x
run_next a x state s e = run_append a (x ∷ []) state ∙ ap (option_and_then (λ next. run next (x ∷ []))) e ∙ run_one (step s x)

pub parse_run : (p : Production) (a : List Sym) (state : State) → run (start p) a ≡ Some state → parse (start p) a ≡ accept state
parse_run p a state e = ap (parse (start p)) (sym (append-nil a)) ∙ parse_append a [] (start p) ∙ ap (option_and_then (λ next. parse next [])) e

-- a list that can stand is run to a state
pub runs : (p : Production) (a : List Sym) → CanStand p a → (s : State) × (run (start p) a ≡ Some s)
runs p a (more, tree, d) = look (run (start p) a) refl
  where
    look : (m : Option State) → run (start p) a ≡ m → (s : State) × (run (start p) a ≡ Some s)
    look None e = absurd (cannot_stand p a e more tree d)
    look (Some s) e = (s, e)

-- ---- how many are open

pub depth_append : (a b : List Sym) (d : ℕ) → depth d (a ++ b) ≡ depth (depth d a) b
depth_append [] b d = refl
depth_append (s ∷ a) b d = depth_append a b (deeper d s)

pub depth_next : (a : List Sym) (x : Sym) (d : ℕ) → depth d (a ++ x ∷ []) ≡ deeper (depth d a) x
depth_next a x d = depth_append a (x ∷ []) d

pub deeper_by_one : (d : ℕ) (x : Sym) → deeper d x ≤ d + 1
deeper_by_one d ArrayOpen = omega arith
deeper_by_one d ParenOpen = omega arith
deeper_by_one d (BlockOpen at) = omega arith
deeper_by_one d ParenClose = omega arith
deeper_by_one d BlockClose = omega arith
deeper_by_one d x = omega arith

pub shallow_nil : Shallow []
shallow_nil n h = shallow_take n (omega (arith, h))
  where
    shallow_take : (n : ℕ) → n ≡ 0 → depth 0 (take n []) ≤ 200
    shallow_take n e = subst (λ m. depth 0 (take m []) ≤ 200) (sym e) (omega arith)

pub shallow_next : (a : List Sym) (x : Sym) → Shallow a → depth 0 (a ++ x ∷ []) ≤ 200 → Shallow (a ++ x ∷ [])
shallow_next a x h k n m = look (nat_le n (length a)) refl
  where
    look : (v : Bool) → nat_le n (length a) ≡ v → depth 0 (take n (a ++ x ∷ [])) ≤ 200
    look true e = subst (λ b. depth 0 b ≤ 200) (sym (take-append-le n a (x ∷ []) (leb-true n (length a) e))) (h n (leb-true n (length a) e))
    look false e = subst (λ b. depth 0 b ≤ 200) (sym (take_all n (a ++ x ∷ []) (omega (arith, leb-false n (length a) e, length-append a (x ∷ []))))) k

pub shallow_whole : (a : List Sym) → Shallow a → depth 0 a ≤ 200
shallow_whole a h = subst (λ b. depth 0 b ≤ 200) (take_all (length a) a (omega arith)) (h (length a) (omega arith))

-- ---- a token that may stand with its value may stand without it

none_next : {m : State} → None ≡ Some m → (n : State) → ⊥
none_next e n = cc

stuck : (next : State) (x : Option State) → None ≡ Some next → (m : State) × (x ≡ Some m)
stuck next x e = absurd (none_next e next)

move_aside : (home : Home) (fs : List Frame) (place : Place) (n at : ℕ) (next : State) → moved home fs (move place (Num n at)) ≡ Some next
    → (m : State) × (moved home fs (move place (Num 0 at)) ≡ Some m)
move_aside home fs (Start tg) n at next e = (_, refl)
move_aside home fs (Bare tg x) n at next e = stuck next (moved home fs (move (Bare tg x) (Num 0 at))) e
move_aside home fs (Have tg inner p ch) n at next e = stuck next (moved home fs (move (Have tg inner p ch) (Num 0 at))) e
move_aside home fs (Want tg inner) n at next e = (_, refl)
move_aside home fs (Super tg inner) n at next e = stuck next (moved home fs (move (Super tg inner) (Num 0 at))) e
move_aside home fs (Signed tg inner end) n at next e = signed_aside (at == end) e
  where
    signed_aside : (v : Bool) → moved home fs (if v then negated tg inner n else None) ≡ Some next → (m : State) × (moved home fs (if v then negated tg inner 0 else None) ≡ Some m)
    signed_aside true e = (_, refl)
    signed_aside false e = stuck next None e
move_aside home fs (Again tg r cs) n at next e = stuck next (moved home fs (move (Again tg r cs) (Num 0 at))) e
move_aside home fs (Sent tg r cs) n at next e = stuck next (moved home fs (move (Sent tg r cs) (Num 0 at))) e

number_aside : (h : Here) (fs : List Frame) (n at : ℕ) (next : State) → step_at h fs (Num n at) ≡ Some next → (m : State) × (step_at h fs (Num 0 at) ≡ Some m)
number_aside Pattern fs n at next e = stuck next (step_at Pattern fs (Num 0 at)) e
number_aside (OperatorRead k) fs n at next e = stuck next (step_at (OperatorRead k) fs (Num 0 at)) e
number_aside (KeywordRead k ns) fs n at next e = stuck next (step_at (KeywordRead k ns) fs (Num 0 at)) e
number_aside (ParameterRead k ns) fs n at next e = (_, refl)
number_aside (Opened at' []) fs n at next e = (_, refl)
number_aside (Opened at' (m ∷ ns)) fs n at next e = stuck next (step_at (Opened at' (m ∷ ns)) fs (Num 0 at)) e
number_aside (Parameter at' ns) fs n at next e = stuck next (step_at (Parameter at' ns) fs (Num 0 at)) e
number_aside (Fresh level) fs n at next e = (_, refl)
number_aside (Temporaries level) fs n at next e = stuck next (step_at (Temporaries level) fs (Num 0 at)) e
number_aside (Statements level done) fs n at next e = (_, refl)
number_aside (Ended level done) fs n at next e = stuck next (step_at (Ended level done) fs (Num 0 at)) e
number_aside (Within home place) fs n at next e = move_aside home fs place n at next e
number_aside (Elements items) fs n at next e = (_, refl)
number_aside (Dash items end) fs n at next e = dash_aside (at == end)
  where
    dash_aside : (v : Bool) → (m : State) × ((if v then negated_item items 0 fs else elements (items ++ dash_symbol ∷ []) fs (Num 0 at)) ≡ Some m)
    dash_aside true = (_, refl)
    dash_aside false = (_, refl)
number_aside (Run items t end) fs n at next e = (_, refl)

pub aside_step : (s : State) (x : Sym) (next : State) → step s x ≡ Some next → (m : State) × (step s (aside x) ≡ Some m)
aside_step s (Num n at) next e = number_aside s.0 s.1 n at next e
aside_step s x next e = (next, e)

-- ---- why a token is a fault

pub stands : (p : Production) (a : List Sym) (s : State) → run (start p) a ≡ Some s → Shallow a → Stands p a
stands p a s e h = record { fits = can_stand p a s e; shallow = h }

pub is_out_of_place : (p : Production) (a : List Sym) (s : State) (x : Sym) → run (start p) a ≡ Some s → step s (aside x) ≡ None → Spoils p a x reason.Syntax
is_out_of_place p a s x e k = out_of_place (cannot_stand p (a ++ aside x ∷ []) (run_next a (aside x) (start p) s e ∙ k))

pub is_out_of_range : (p : Production) (a : List Sym) (s m : State) (x : Sym) → run (start p) a ≡ Some s → step s (aside x) ≡ Some m → step s x ≡ None → Spoils p a x reason.IntegerTooLarge
is_out_of_range p a s m x e k l = out_of_range (can_stand p (a ++ aside x ∷ []) m (run_next a (aside x) (start p) s e ∙ k)) (cannot_stand p (a ++ x ∷ []) (run_next a x (start p) s e ∙ l))

pub is_too_deep : (p : Production) (a : List Sym) (s next : State) (x : Sym) → run (start p) a ≡ Some s → step s x ≡ Some next → Shallow a → 200 < deeper (depth 0 a) x → Spoils p a x reason.TooDeep
is_too_deep p a s next x e k h d = too_deep (can_stand p (a ++ x ∷ []) next (run_next a x (start p) s e ∙ k)) (depth_next a x 0 ∙ exact)
  where
    exact : deeper (depth 0 a) x ≡ 201
    exact = omega (arith, d, deeper_by_one (depth 0 a) x, shallow_whole a h)

pub goes_on : (p : Production) (a : List Sym) (s next : State) (x : Sym) → run (start p) a ≡ Some s → step s x ≡ Some next → run (start p) (a ++ x ∷ []) ≡ Some next
goes_on p a s next x e k = run_next a x (start p) s e ∙ k

pub stays_shallow : (a : List Sym) (x : Sym) → Shallow a → deeper (depth 0 a) x ≤ 200 → Shallow (a ++ x ∷ [])
stays_shallow a x h d = shallow_next a x h (subst (λ n. n ≤ 200) (sym (depth_next a x 0)) d)

pub derived : (p : Production) (a : List Sym) (s : State) (tree : Tree) → run (start p) a ≡ Some s → accept s ≡ Some tree → Derives p a tree
derived p a s tree e k = sound p a tree (parse_run p a s e ∙ k)

pub not_derived : (p : Production) (a : List Sym) (s : State) → run (start p) a ≡ Some s → accept s ≡ None → (tree : Tree) → Derives p a tree → ⊥
not_derived p a s e k tree d = none_some tree (sym k ∙ sym (parse_run p a s e) ∙ complete d)
  where
    none_some : (tree : Tree) → None ≡ Some tree → ⊥
    none_some tree e = cc
