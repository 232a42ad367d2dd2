-- An integer that is too large stands nowhere.
use Rattle.std.proofs.Common.{◌≡◌, ℕ, ◌+◌, ◌^◌, ◌==◌, List, [], ◌∷◌, ◌++◌, Bool, true, false, refl, ap, sym, ◌∙◌, Option, Some, None, if◌then◌else◌, subst, arith}
use Rattle.std.specs.Prelude.{nat_lt, nat_le}
use Rattle.std.proofs.lemmas.Bool.Decides.{nat_tests}
use Rattle.st_tree.specs.declared.tree.Name.{Name}
use Rattle.st_tree.specs.declared.tree.Literal.{Literal}
use Rattle.st_tree.specs.declared.tree.Literal.TheVariants as literal
use Rattle.st_tree.specs.declared.tree.Statement.{Statement}
use Rattle.st_tree.specs.Symbols.{Sym, Num}
use Rattle.st_tree.specs.Trees.{integer, negative, constant}
use Rattle.st_parser.specs.States.{Inner, Plain, Receiver, Place, Start, Bare, Have, Want, Super, Signed, Again, Sent, Headed, Level, Top, Block, Home, Paren, Body, Here, Pattern, OperatorRead, KeywordRead, ParameterRead, Opened, Parameter, Fresh, Temporaries, Statements, Ended, Within, Elements, Dash, Run, Frame, Move, Next}
use Rattle.st_parser.specs.Machine as m
use Rattle.st_parser.specs.Machine.{State, step_at}
use Rattle.st_parser.specs.declared.scan_state.Spot.TheVariants as spot
use Rattle.st_parser.specs.declared.scan_state.Now.{Now}
use Rattle.st_parser.specs.declared.scan_state.Now.TheVariants as now
use Rattle.st_parser.specs.Finding.{has_sign, is_too_large}
use Rattle.st_parser.proofs.Shape.{now_of, around_of, spot_of}

not_below : (n m : ℕ) → nat_le m n ≡ true → nat_lt n m ≡ false
not_below n m e = grind (arith, nat_tests)

beyond_limit : (n m : ℕ) → nat_lt m n ≡ true → nat_le n m ≡ false
beyond_limit n m e = grind (arith, nat_tests)

large_begin : (tg : List Name) (n at : ℕ) → nat_le (2 ^ 127) n ≡ true → m.begin tg (Num n at) ≡ None
large_begin tg n at r = ap (λ b. if b then Some (Next (Have tg (Plain Receiver) (constant (integer n)) [])) else None) (not_below n (2 ^ 127) r)

large_want : (tg : List Name) (inner : Inner) (n at : ℕ) → nat_le (2 ^ 127) n ≡ true → m.want tg inner (Num n at) ≡ None
large_want tg inner n at r = ap (λ b. if b then Some (Next (Have tg inner (constant (integer n)) [])) else None) (not_below n (2 ^ 127) r)

large_signed : (tg : List Name) (inner : Inner) (n : ℕ) (b : Bool) → is_too_large b n ≡ true → (if b then m.negated tg inner n else None) ≡ None
large_signed tg inner n true r = ap (λ b. if b then Some (Next (Have tg inner (constant (negative n)) [])) else None) (beyond_limit n (2 ^ 127) r)
large_signed tg inner n false r = refl

large_move : (home : Home) (place : Place) (n at : ℕ) → is_too_large (has_sign (now.Within (around_of home) (spot_of place)) at) n ≡ true → m.move place (Num n at) ≡ None
large_move home (Start tg) n at r = large_begin tg n at r
large_move home (Bare tg x) n at r = refl
large_move home (Have tg inner p ch) n at r = refl
large_move home (Want tg inner) n at r = large_want tg inner n at r
large_move home (Super tg inner) n at r = refl
large_move home (Signed tg inner begin) n at r = large_signed tg inner n (at == begin) r
large_move home (Again tg o cs) n at r = refl
large_move home (Sent tg o cs) n at r = refl

large_statement : (level : Level) (done : List Statement) (fs : List Frame) (n at : ℕ) → nat_le (2 ^ 127) n ≡ true → m.statements level done fs (Num n at) ≡ None
large_statement level done fs n at r = ap (m.moved (Body level done false) fs) (large_begin [] n at r)

large_item : (items : List Literal) (fs : List Frame) (n at : ℕ) → nat_le (2 ^ 127) n ≡ true → m.elements items fs (Num n at) ≡ None
large_item items fs n at r = ap (λ b. if b then m.with_item items (integer n) fs else None) (not_below n (2 ^ 127) r)

large_dash : (items : List Literal) (fs : List Frame) (n at : ℕ) (b : Bool) → is_too_large b n ≡ true
    → (if b then m.negated_item items n fs else m.elements (items ++ literal.Symbol (45 ∷ []) ∷ []) fs (Num n at)) ≡ None
large_dash items fs n at true r = ap (λ b. if b then m.with_item items (negative n) fs else None) (beyond_limit n (2 ^ 127) r)
large_dash items fs n at false r = large_item (items ++ literal.Symbol (45 ∷ []) ∷ []) fs n at r

pub large_stuck : (h : Here) (fs : List Frame) (n at : ℕ) → is_too_large (has_sign (now_of h) at) n ≡ true → step_at h fs (Num n at) ≡ None
large_stuck Pattern fs n at r = refl
large_stuck (OperatorRead t) fs n at r = refl
large_stuck (KeywordRead t ns) fs n at r = refl
large_stuck (ParameterRead t ns) fs n at r = large_statement (Top (Headed t ns) []) [] fs n at r
large_stuck (Opened b []) fs n at r = large_statement (Block b [] []) [] fs n at r
large_stuck (Opened b (x ∷ ns)) fs n at r = refl
large_stuck (Parameter b ns) fs n at r = refl
large_stuck (Fresh level) fs n at r = large_statement level [] fs n at r
large_stuck (Temporaries level) fs n at r = refl
large_stuck (Statements level done) fs n at r = large_statement level done fs n at r
large_stuck (Ended level done) fs n at r = refl
large_stuck (Within home place) fs n at r = ap (m.moved home fs) (large_move home place n at r)
large_stuck (Elements items) fs n at r = large_item items fs n at r
large_stuck (Dash items begin) fs n at r = large_dash items fs n at (at == begin) r
large_stuck (Run items t end) fs n at r = large_item (items ++ literal.Symbol t ∷ []) fs n at r
