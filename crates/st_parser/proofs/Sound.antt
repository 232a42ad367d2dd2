-- From behind a token to before it: what the machine reads of an expression, the grammar derives.
use Rattle.std.proofs.Common.{◌≡◌, ℕ, List, [], ◌∷◌, ◌++◌, Bool, true, false, refl, ap, ap₂, sym, ◌∙◌, subst, append-nil, append_assoc, ◌≤◌, ◌^◌, Option, Some, None, if◌then◌else◌, ◌+◌}
use Rattle.std.specs.Prelude.{◌==◌, nat_lt, nat_le}
use Rattle.std.proofs.lemmas.Bool.{eqb-true, ltb-true, leb-true}
use Rattle.st_tree.specs.declared.tree.Name.{Name}
use Rattle.st_tree.specs.declared.tree.Primary.{Primary}
use Rattle.st_tree.specs.declared.tree.Primary.TheVariants as primary
use Rattle.st_tree.specs.declared.tree.Message.{Message}
use Rattle.st_tree.specs.declared.tree.Operand.{Operand}
use Rattle.st_tree.specs.Symbols.{Sym, Id, Key, Op, Minus, Bar, TwoBars, ThreeBars, Num, Lit, ArrayOpen, ParenOpen, BlockOpen, Assign, Semicolon, Role, IsName, IsValue, IsSuper, role, IsOp, op, minus, bar, two_bars, three_bars}
use Rattle.st_tree.specs.Trees.{name, variable, integer, negative, constant, message, operand}
use Rattle.st_tree.specs.Grammar as g
use Rattle.st_tree.specs.Grammar.{Production, AMethod, ABody, Tree, MethodTree, BodyTree}
use Rattle.st_parser.specs.Machine.{Selector, Left, First, Further, Outer, Receiver, Argument, Inner, Plain, Right, FurtherRight, Place, Start, Bare, Have, Want, Super, Signed, Again, Sent, Whole, Move, Next, OpenArray, OpenParen, OpenBlock, finish, finish_left, finish_outer, with_binary, selector, joined, whole, move, begin, bare as bare_step, have, want, super_goes, negated, signed, word, first_word, resend, sent, after_operator, after_keyword, keyword_outer, after_semicolon, again_outer}

-- the messages behind `;`
abbrev pub SentGoes : Operand → List Message → List Sym → List Sym → Operand → List Message → Type 0
SentGoes r first a b o cs = (ms : List Message) × g.Cascade a b ms × (o ≡ r) × (cs ≡ first ++ ms)

-- an operand with its unary and binary messages goes on to the end of the expression
pub data OuterGoes : Bool → Outer → Primary → List Message → List Sym → List Sym → Operand → List Message → Type 0 where
  receiver_ends : {v : Bool} {p : Primary} {ch ms : List Message} {a b : List Sym} {o : Operand} {cs : List Message} → g.Fine v ch → g.Cascade a b ms → g.Receives ch ms → o ≡ operand p ch → cs ≡ ms → OuterGoes v Receiver p ch a b o cs
  receiver_key : {v : Bool} {p : Primary} {ch : List Message} {t sel : List ℕ} {at : ℕ} {os : List Operand} {a b c : List Sym} {o : Operand} {cs : List Message}
      → g.Arguments a b sel os → SentGoes (operand p (ch ++ message (t ++ sel) at os ∷ [])) [] b c o cs → OuterGoes v Receiver p ch (Key t at ∷ a) c o cs
  argument_ends : {v : Bool} {left : Left} {s : Selector} {os : List Operand} {p : Primary} {ch : List Message} {a b : List Sym} {o : Operand} {cs : List Message} → g.Fine v ch
      → SentGoes (finish_left [] left (message s.text s.at (os ++ operand p ch ∷ []))).receiver (finish_left [] left (message s.text s.at (os ++ operand p ch ∷ []))).cascade a b o cs → OuterGoes v (Argument left s os) p ch a b o cs
  argument_key : {v : Bool} {left : Left} {s : Selector} {os os' : List Operand} {p : Primary} {ch : List Message} {t sel : List ℕ} {at : ℕ} {a b c : List Sym} {o : Operand} {cs : List Message} → g.Fine v ch
      → g.Arguments a b sel os' → SentGoes (finish_left [] left (message (s.text ++ (t ++ sel)) s.at (os ++ operand p ch ∷ os'))).receiver (finish_left [] left (message (s.text ++ (t ++ sel)) s.at (os ++ operand p ch ∷ os'))).cascade b c o cs
      → OuterGoes v (Argument left s os) p ch (Key t at ∷ a) c o cs

-- the same of one whose unary messages are read
abbrev pub InnerGoes : Bool → Inner → Primary → List Message → List Sym → List Sym → Operand → List Message → Type 0
InnerGoes v (Plain outer) p ch a b o cs = (c : List Sym) × (bs : List Message) × g.Binaries a c bs × OuterGoes v outer p (ch ++ bs) c b o cs
InnerGoes v (Right outer q qs s) p ch a b o cs = (c : List Sym) × (bs : List Message) × g.Fine v ch × g.Binaries a c bs × OuterGoes false outer q (with_binary qs s p ch ++ bs) c b o cs
InnerGoes v (FurtherRight r first s) p ch a b o cs = g.Fine v ch × SentGoes r (with_binary first s p ch) a b o cs

abbrev pub HaveGoes : Bool → Inner → Primary → List Message → List Sym → List Sym → Operand → List Message → Type 0
HaveGoes v inner p ch a b o cs = (c : List Sym) × (us : List Message) × g.Unaries a c us × InnerGoes v inner p (ch ++ us) c b o cs

abbrev pub WantGoes : Inner → List Sym → List Sym → Operand → List Message → Type 0
WantGoes inner a b o cs = (c : List Sym) × (p : Primary) × (v : Bool) × g.IsPrimary a c p v × HaveGoes v inner p [] c b o cs

abbrev pub SignedGoes : Inner → ℕ → List Sym → List Sym → Operand → List Message → Type 0
SignedGoes inner at a b o cs = (n : ℕ) × (c : List Sym) × (a ≡ Num n at ∷ c) × (n ≤ 2 ^ 127) × HaveGoes false inner (constant (negative n)) [] c b o cs

abbrev pub ExprGoes : List Name → List Sym → List Sym → List Name → Operand → List Message → Type 0
ExprGoes first a b tg o cs = (ns : List Name) × g.IsExpr a b ns o cs × (tg ≡ first ++ ns)

pub data BareGoes : List Name → Name → List Sym → List Sym → List Name → Operand → List Message → Type 0 where
  target : {first tg : List Name} {n : Name} {a b : List Sym} {o : Operand} {cs : List Message} → ExprGoes (first ++ n ∷ []) a b tg o cs → BareGoes first n (Assign ∷ a) b tg o cs
  operand' : {first tg : List Name} {n : Name} {a b : List Sym} {o : Operand} {cs : List Message} → HaveGoes false (Plain Receiver) (variable n) [] a b o cs → tg ≡ first → BareGoes first n a b tg o cs

-- the tokens of the first list up to the second complete the expression
abbrev pub Goes : Place → List Sym → List Sym → List Name → Operand → List Message → Type 0
Goes (Start first) a b tg o cs = ExprGoes first a b tg o cs
Goes (Bare first n) a b tg o cs = BareGoes first n a b tg o cs
Goes (Have first inner p ch) a b tg o cs = HaveGoes false inner p ch a b o cs × (tg ≡ first)
Goes (Super first inner) a b tg o cs = HaveGoes true inner primary.SuperValue [] a b o cs × (tg ≡ first)
Goes (Signed first inner at) a b tg o cs = SignedGoes inner at a b o cs × (tg ≡ first)
Goes (Want first inner) a b tg o cs = WantGoes inner a b o cs × (tg ≡ first)
Goes (Again first r ks) a b tg o cs = SentGoes r ks (Semicolon ∷ a) b o cs × (tg ≡ first)
Goes (Sent first r ks) a b tg o cs = SentGoes r ks a b o cs × (tg ≡ first)

-- ---- from after a token to before it

fine_mid : (v : Bool) (x : List Message) (m : Message) (y : List Message) → g.Fine v (x ++ m ∷ y)
fine_mid false x m y = tt
fine_mid true [] m y = tt
fine_mid true (n ∷ x) m y = tt

fine_all : (v : Bool) (x : List Message) (m : Message) (y more : List Message) → g.Fine v ((x ++ m ∷ y) ++ more)
fine_all false x m y more = tt
fine_all true [] m y more = tt
fine_all true (n ∷ x) m y more = tt

outer_fine : (v : Bool) (outer : Outer) (p : Primary) (ch : List Message) (a b : List Sym) (o : Operand) (cs : List Message) → g.Fine v ch → OuterGoes false outer p ch a b o cs → OuterGoes v outer p ch a b o cs
outer_fine v outer p ch a b o cs f (receiver_ends f' k r e h) = receiver_ends f k r e h
outer_fine v outer p ch a b o cs f (receiver_key k y) = receiver_key k y
outer_fine v outer p ch a b o cs f (argument_ends f' k) = argument_ends f k
outer_fine v outer p ch a b o cs f (argument_key f' k y) = argument_key f k y

inner_fine : (v : Bool) (inner : Inner) (p : Primary) (ch : List Message) (a b : List Sym) (o : Operand) (cs : List Message) → g.Fine v ch → ((more : List Message) → g.Fine v (ch ++ more)) → InnerGoes false inner p ch a b o cs → InnerGoes v inner p ch a b o cs
inner_fine v (Plain outer) p ch a b o cs f all (c, bs, m, k) = (c, bs, m, outer_fine v outer p (ch ++ bs) c b o cs (all bs) k)
inner_fine v (Right outer q qs s) p ch a b o cs f all (c, bs, f', m, k) = (c, bs, f, m, k)
inner_fine v (FurtherRight r first s) p ch a b o cs f all (f', k) = (f, k)

unary_back : (v : Bool) (inner : Inner) (p : Primary) (ch : List Message) (t : List ℕ) (at : ℕ) (a b : List Sym) (o : Operand) (cs : List Message)
    → HaveGoes false inner p (ch ++ message t at [] ∷ []) a b o cs → HaveGoes v inner p ch (Id t at ∷ a) b o cs
unary_back v inner p ch t at a b o cs (c, us, u, i) = (
  c,
  message t at [] ∷ us,
  g.more u,
  inner_fine v inner p (ch ++ message t at [] ∷ us) c b o cs (fine_mid v ch (message t at []) us) (fine_all v ch (message t at []) us)
      (subst (λ x. InnerGoes false inner p x c b o cs) (append_assoc ch (message t at [] ∷ []) us) i),
)

-- an operand whose own unary messages are read
plain_have : (v : Bool) (outer : Outer) (p : Primary) (ch : List Message) (a b : List Sym) (o : Operand) (cs : List Message) (c : List Sym) (bs : List Message)
    → g.Binaries a c bs → OuterGoes v outer p (ch ++ bs) c b o cs → HaveGoes v (Plain outer) p ch a b o cs
plain_have v outer p ch a b o cs c bs m k = (a, [], g.none, subst (λ x. InnerGoes v (Plain outer) p x a b o cs) (sym (append-nil ch)) (c, bs, m, k))

right_have : (outer : Outer) (q : Primary) (qs : List Message) (s : Selector) (p : Primary) (ch : List Message) (a b : List Sym) (o : Operand) (cs : List Message) (c : List Sym) (bs : List Message)
    → g.Binaries a c bs → OuterGoes false outer q (with_binary qs s p ch ++ bs) c b o cs → HaveGoes false (Right outer q qs s) p ch a b o cs
right_have outer q qs s p ch a b o cs c bs m k = (a, [], g.none, subst (λ x. InnerGoes false (Right outer q qs s) p x a b o cs) (sym (append-nil ch)) (c, bs, tt, m, k))

further_have : (r : Operand) (first : List Message) (s : Selector) (p : Primary) (ch : List Message) (a b : List Sym) (o : Operand) (cs : List Message)
    → SentGoes r (with_binary first s p ch) a b o cs → HaveGoes false (FurtherRight r first s) p ch a b o cs
further_have r first s p ch a b o cs k = (a, [], g.none, subst (λ x. InnerGoes false (FurtherRight r first s) p x a b o cs) (sym (append-nil ch)) (tt, k))

-- the binary message that an operator begins
binary_back : {s : Sym} {t : List ℕ} {at : ℕ} → IsOp s t at → (v : Bool) (outer : Outer) (p : Primary) (ch : List Message) (a b : List Sym) (o : Operand) (cs : List Message)
    → WantGoes (Right outer p ch (selector t at)) a b o cs → (c : List Sym) × (bs : List Message) × g.Binaries (s ∷ a) c bs × OuterGoes v outer p (ch ++ bs) c b o cs
binary_back {t = t} {at = at} i v outer p ch a b o cs (c, q, w, x, (d, us, u, (e, bs, f, m, k))) = (
  e,
  message t at (operand q us ∷ []) ∷ bs,
  g.more_binaries i x u f m,
  outer_fine v outer p (ch ++ message t at (operand q us ∷ []) ∷ bs) e b o cs (fine_mid v ch (message t at (operand q us ∷ [])) bs)
      (subst (λ v. OuterGoes false outer p v e b o cs) (append_assoc ch (message t at (operand q us ∷ []) ∷ []) bs) k),
)

-- the arguments that follow a keyword
arguments_back : (left : Left) (s : Selector) (os : List Operand) (a b : List Sym) (o : Operand) (cs : List Message) → WantGoes (Plain (Argument left s os)) a b o cs
    → (c : List Sym) × (sel : List ℕ) × (os' : List Operand) × g.Arguments a c sel os'
    × SentGoes (finish_left [] left (message (s.text ++ sel) s.at (os ++ os'))).receiver (finish_left [] left (message (s.text ++ sel) s.at (os ++ os'))).cascade c b o cs
arguments_back left s os a b o cs (c, q, w, x, (d, us, u, (e, bs, m, argument_ends f k))) = (
  e,
  [],
  operand q (us ++ bs) ∷ [],
  g.last_argument x u m f,
  subst (λ v. SentGoes (finish_left [] left (message v s.at (os ++ operand q (us ++ bs) ∷ []))).receiver (finish_left [] left (message v s.at (os ++ operand q (us ++ bs) ∷ []))).cascade e b o cs) (sym (append-nil s.text)) k,
)
arguments_back left s os a b o cs (c, q, w, x, (d, us, u, (e, bs, m, argument_key {os' = os'} {t = t} {sel = sel} {b = d'} f y k))) =
    (d', t ++ sel, operand q (us ++ bs) ∷ os', g.more_arguments x u m f y, k)

abbrev MoveGoes : Move → List Sym → List Sym → List Name → Operand → List Message → Type 0
MoveGoes (Next place) a b tg o cs = Goes place a b tg o cs
MoveGoes m a b tg o cs = ⊥

receiver_keyword : (v : Bool) (p : Primary) (ch : List Message) (t : List ℕ) (at : ℕ) (a b : List Sym) (o : Operand) (cs : List Message)
    → WantGoes (Plain (Argument (First p ch) (selector t at) [])) a b o cs → OuterGoes v Receiver p ch (Key t at ∷ a) b o cs
receiver_keyword v p ch t at a b o cs w = let k = arguments_back (First p ch) (selector t at) [] a b o cs w in receiver_key k.3 k.4

keyword_back : (tg0 : List Name) (outer : Outer) (p : Primary) (ch : List Message) (t : List ℕ) (at : ℕ) (a b : List Sym) (tg : List Name) (o : Operand) (cs : List Message)
    → MoveGoes (keyword_outer tg0 outer p ch t at) a b tg o cs → OuterGoes false outer p ch (Key t at ∷ a) b o cs × (tg ≡ tg0)
keyword_back tg0 Receiver p ch t at a b tg o cs (w, e) = (receiver_keyword false p ch t at a b o cs w, e)
keyword_back tg0 (Argument left s os) p ch t at a b tg o cs (w, e) =
    let k = arguments_back left (joined s t) (os ++ operand p ch ∷ []) a b o cs w in (
      argument_key tt k.3 (subst (λ m. SentGoes (finish_left [] left m).receiver (finish_left [] left m).cascade k.0 b o cs)
          (ap₂ (λ x y. message x s.at y) (append_assoc s.text t k.1) (append_assoc os (operand p ch ∷ []) k.2)) k.4),
      e,
    )

abbrev OptionGoes : Option Move → List Sym → List Sym → List Name → Operand → List Message → Type 0
OptionGoes None a b tg o cs = ⊥
OptionGoes (Some m) a b tg o cs = MoveGoes m a b tg o cs

again_back : (tg0 : List Name) (outer : Outer) (p : Primary) (ch : List Message) (a b : List Sym) (tg : List Name) (o : Operand) (cs : List Message)
    → OptionGoes (again_outer tg0 outer p ch) a b tg o cs → OuterGoes false outer p ch (Semicolon ∷ a) b o cs × (tg ≡ tg0)
again_back tg0 Receiver p [] a b tg o cs k = absurd k
again_back tg0 Receiver p (m ∷ ms) a b tg o cs ((more, c, e, f), g) = (receiver_ends tt c tt e f, g)
again_back tg0 (Argument (First q qs) s os) p ch a b tg o cs (k, e) = (argument_ends tt k, e)
again_back tg0 (Argument (Further r ks) s os) p ch a b tg o cs (k, e) = (argument_ends tt k, e)

receives_last : (ms : List Message) (m : Message) (cs : List Message) → g.Receives (ms ++ m ∷ []) cs
receives_last [] m cs = tt
receives_last (x ∷ ms) m cs = tt

receives_none : (ms : List Message) → g.Receives ms []
receives_none [] = tt
receives_none (m ∷ ms) = tt

expr_from : (p : Primary) (v : Bool) (s a b : List Sym) (o : Operand) (cs : List Message) → g.IsPrimary s a p v → HaveGoes v (Plain Receiver) p [] a b o cs → g.IsExpr s b [] o cs
expr_from p v s a b o cs x (c, us, u, (d, bs, m, receiver_ends {ms = ms} f k r e h)) =
    subst (λ z. g.IsExpr s b [] o z) (sym h) (subst (λ z. g.IsExpr s b [] z ms) (sym e) (g.sent x (g.short u m) f k r))
expr_from p v s a b o cs x (c, us, u, (d, bs, m, receiver_key {t = t} {sel = sel} {at = at} {os = os} k (ms, y, e, h))) =
    subst (λ z. g.IsExpr s b [] o z) (sym h) (subst (λ z. g.IsExpr s b [] z ms) (sym e) (g.sent x (g.long u m k) (fine_mid v (us ++ bs) (message (t ++ sel) at os) []) y (receives_last (us ++ bs) (message (t ++ sel) at os) ms)))

from_want : (tg0 : List Name) (a b : List Sym) (tg : List Name) (o : Operand) (cs : List Message) → WantGoes (Plain Receiver) a b o cs → tg ≡ tg0 → ExprGoes tg0 a b tg o cs
from_want tg0 a b tg o cs (c, p, v, x, k) e = ([], expr_from p v a c b o cs x k, e ∙ sym (append-nil tg0))

abbrev pub BackMove : Place → Sym → Option Move → Type 0
BackMove place s None = Unit {0}
BackMove place s (Some (Next next)) = (a b : List Sym) (tg : List Name) (o : Operand) (cs : List Message) → Goes next a b tg o cs → Goes place (s ∷ a) b tg o cs
BackMove place s (Some (OpenArray tg0 inner)) = (s ≡ ArrayOpen) × ((a c b : List Sym) (p : Primary) (tg : List Name) (o : Operand) (cs : List Message) → g.IsPrimary (s ∷ a) c p false → HaveGoes false inner p [] c b o cs → tg ≡ tg0 → Goes place (s ∷ a) b tg o cs)
BackMove place s (Some (OpenParen tg0 inner)) = (s ≡ ParenOpen) × ((a c b : List Sym) (p : Primary) (tg : List Name) (o : Operand) (cs : List Message) → g.IsPrimary (s ∷ a) c p false → HaveGoes false inner p [] c b o cs → tg ≡ tg0 → Goes place (s ∷ a) b tg o cs)
BackMove place s (Some (OpenBlock at tg0 inner)) = (s ≡ BlockOpen at) × ((a c b : List Sym) (p : Primary) (tg : List Name) (o : Operand) (cs : List Message) → g.IsPrimary (s ∷ a) c p false → HaveGoes false inner p [] c b o cs → tg ≡ tg0 → Goes place (s ∷ a) b tg o cs)

word_back : (tg0 : List Name) (inner : Inner) (t : List ℕ) (at : ℕ) (r : Role) → role t ≡ r → BackMove (Want tg0 inner) (Id t at) (word tg0 inner r t at)
word_back tg0 inner t at IsName e = λ a b tg o cs k. ((a, variable (name t at), false, g.named e, k.0), k.1)
word_back tg0 inner t at (IsValue p) e = λ a b tg o cs k. ((a, p, false, g.value e, k.0), k.1)
word_back tg0 inner t at IsSuper e = λ a b tg o cs k. ((a, primary.SuperValue, true, g.super e, k.0), k.1)

minus_back : (inner : Inner) (at : ℕ) (a b : List Sym) (o : Operand) (cs : List Message) → SignedGoes inner (at + 1) a b o cs → WantGoes inner (Minus at ∷ a) b o cs
minus_back inner at a b o cs (n, c, e, h, k) = (c, constant (negative n), false, subst (λ z. g.IsPrimary (Minus at ∷ z) c (constant (negative n)) false) (sym e) (g.negative_number refl h), k)

number_back : (tg0 : List Name) (inner : Inner) (n at : ℕ) (v : Bool) → nat_lt n (2 ^ 127) ≡ v → BackMove (Want tg0 inner) (Num n at) (if v then Some (Next (Have tg0 inner (constant (integer n)) [])) else None)
number_back tg0 inner n at true e = λ a b tg o cs k. ((a, constant (integer n), false, g.number (ltb-true n (2 ^ 127) e), k.0), k.1)
number_back tg0 inner n at false e = tt

want_back : (tg0 : List Name) (inner : Inner) (s : Sym) → BackMove (Want tg0 inner) s (want tg0 inner s)
want_back tg0 inner (Id t at) = word_back tg0 inner t at (role t) refl
want_back tg0 inner (Num n at) = number_back tg0 inner n at (nat_lt n (2 ^ 127)) refl
want_back tg0 inner (Minus at) = λ a b tg o cs k. (minus_back inner at a b o cs k.0, k.1)
want_back tg0 inner (Lit l) = λ a b tg o cs k. ((a, constant l, false, g.one_token, k.0), k.1)
want_back tg0 inner ArrayOpen = (refl, λ a c b p tg o cs x k e. ((c, p, false, x, k), e))
want_back tg0 inner ParenOpen = (refl, λ a c b p tg o cs x k e. ((c, p, false, x, k), e))
want_back tg0 inner (BlockOpen at) = (refl, λ a c b p tg o cs x k e. ((c, p, false, x, k), e))
want_back tg0 inner s = tt

start_from_want : (tg0 : List Name) (s : Sym) (m : Option Move) → BackMove (Want tg0 (Plain Receiver)) s m → BackMove (Start tg0) s m
start_from_want tg0 s None h = tt
start_from_want tg0 s (Some (Next next)) h = λ a b tg o cs k. let w = h a b tg o cs k in from_want tg0 (s ∷ a) b tg o cs w.0 w.1
start_from_want tg0 s (Some (OpenArray tg1 inner)) h = (h.0, λ a c b p tg o cs x k e. let w = h.1 a c b p tg o cs x k e in from_want tg0 (s ∷ a) b tg o cs w.0 w.1)
start_from_want tg0 s (Some (OpenParen tg1 inner)) h = (h.0, λ a c b p tg o cs x k e. let w = h.1 a c b p tg o cs x k e in from_want tg0 (s ∷ a) b tg o cs w.0 w.1)
start_from_want tg0 s (Some (OpenBlock at tg1 inner)) h = (h.0, λ a c b p tg o cs x k e. let w = h.1 a c b p tg o cs x k e in from_want tg0 (s ∷ a) b tg o cs w.0 w.1)

bare_expr : (tg0 : List Name) (t : List ℕ) (at : ℕ) → role t ≡ IsName → (a b : List Sym) (tg : List Name) (o : Operand) (cs : List Message) → BareGoes tg0 (name t at) a b tg o cs → ExprGoes tg0 (Id t at ∷ a) b tg o cs
bare_expr tg0 t at e a b tg o cs (target (ns, x, f)) = (name t at ∷ ns, g.assigned e x, f ∙ append_assoc tg0 (name t at ∷ []) ns)
bare_expr tg0 t at e a b tg o cs (operand' k f) = from_want tg0 (Id t at ∷ a) b tg o cs (a, variable (name t at), false, g.named e, k) f

first_word_back : (tg0 : List Name) (t : List ℕ) (at : ℕ) (r : Role) → role t ≡ r → BackMove (Start tg0) (Id t at) (first_word tg0 r t at)
first_word_back tg0 t at IsName e = bare_expr tg0 t at e
first_word_back tg0 t at (IsValue p) e = start_from_want tg0 (Id t at) (word tg0 (Plain Receiver) (IsValue p) t at) (word_back tg0 (Plain Receiver) t at (IsValue p) e)
first_word_back tg0 t at IsSuper e = start_from_want tg0 (Id t at) (word tg0 (Plain Receiver) IsSuper t at) (word_back tg0 (Plain Receiver) t at IsSuper e)

start_back : (tg0 : List Name) (s : Sym) → BackMove (Start tg0) s (begin tg0 s)
start_back tg0 (Id t at) = first_word_back tg0 t at (role t) refl
start_back tg0 s = start_from_want tg0 s (want tg0 (Plain Receiver) s) (want_back tg0 (Plain Receiver) s)

operator_back : {s : Sym} {t : List ℕ} {at : ℕ} → IsOp s t at → (tg0 : List Name) (inner : Inner) (p : Primary) (ch : List Message) → BackMove (Have tg0 inner p ch) s (after_operator tg0 inner p ch (selector t at))
operator_back {s = s} i tg0 (Plain outer) p ch = λ a b tg o cs k.
    let w = binary_back i false outer p ch a b o cs k.0 in (plain_have false outer p ch (s ∷ a) b o cs w.0 w.1 w.2 w.3, k.1)
operator_back {s = s} i tg0 (Right outer q qs s') p ch = λ a b tg o cs k.
    let w = binary_back i false outer q (with_binary qs s' p ch) a b o cs k.0 in (right_have outer q qs s' p ch (s ∷ a) b o cs w.0 w.1 w.2 w.3, k.1)
operator_back i tg0 (FurtherRight r ks s') p ch = tt

super_operator : {s : Sym} {t : List ℕ} {at : ℕ} → IsOp s t at → (outer : Outer) (a b : List Sym) (o : Operand) (cs : List Message)
    → WantGoes (Right outer primary.SuperValue [] (selector t at)) a b o cs → HaveGoes true (Plain outer) primary.SuperValue [] (s ∷ a) b o cs
super_operator {s = s} i outer a b o cs k = let w = binary_back i true outer primary.SuperValue [] a b o cs k in plain_have true outer primary.SuperValue [] (s ∷ a) b o cs w.0 w.1 w.2 w.3

super_back : (tg0 : List Name) (inner : Inner) (s : Sym) → BackMove (Super tg0 inner) s (super_goes tg0 inner s)
super_back tg0 inner (Id t at) = λ a b tg o cs k. (unary_back true inner primary.SuperValue [] t at a b o cs k.0, k.1)
super_back tg0 (Plain outer) (Op t at) = λ a b tg o cs k. (super_operator op outer a b o cs k.0, k.1)
super_back tg0 (Plain outer) (Minus at) = λ a b tg o cs k. (super_operator minus outer a b o cs k.0, k.1)
super_back tg0 (Plain outer) (Bar at) = λ a b tg o cs k. (super_operator bar outer a b o cs k.0, k.1)
super_back tg0 (Plain outer) (TwoBars at) = λ a b tg o cs k. (super_operator two_bars outer a b o cs k.0, k.1)
super_back tg0 (Plain outer) (ThreeBars at) = λ a b tg o cs k. (super_operator three_bars outer a b o cs k.0, k.1)
super_back tg0 (Plain Receiver) (Key t at) = λ a b tg o cs k.
    (plain_have true Receiver primary.SuperValue [] (Key t at ∷ a) b o cs (Key t at ∷ a) [] g.no_binaries (receiver_keyword true primary.SuperValue [] t at a b o cs k.0), k.1)
super_back tg0 inner s = tt

signed_value : (tg0 : List Name) (inner : Inner) (at n n_at : ℕ) (v : Bool) → n_at ≡ at → nat_le n (2 ^ 127) ≡ v
    → BackMove (Signed tg0 inner at) (Num n n_at) (if v then Some (Next (Have tg0 inner (constant (negative n)) [])) else None)
signed_value tg0 inner at n n_at true e h = λ a b tg o cs k. ((n, a, ap (λ z. Num n z ∷ a) e, leb-true n (2 ^ 127) h, k.0), k.1)
signed_value tg0 inner at n n_at false e h = tt

signed_number : (tg0 : List Name) (inner : Inner) (at n n_at : ℕ) (v : Bool) → (n_at == at) ≡ v → BackMove (Signed tg0 inner at) (Num n n_at) (if v then negated tg0 inner n else None)
signed_number tg0 inner at n n_at true e = signed_value tg0 inner at n n_at (nat_le n (2 ^ 127)) (eqb-true n_at at e) refl
signed_number tg0 inner at n n_at false e = tt

signed_back : (tg0 : List Name) (inner : Inner) (at : ℕ) (s : Sym) → BackMove (Signed tg0 inner at) s (signed tg0 inner at s)
signed_back tg0 inner at (Num n n_at) = signed_number tg0 inner at n n_at (n_at == at) refl
signed_back tg0 inner at s = tt

outer_plain : (outer : Outer) (p : Primary) (ch : List Message) (a b : List Sym) (o : Operand) (cs : List Message) → OuterGoes false outer p ch a b o cs → HaveGoes false (Plain outer) p ch a b o cs
outer_plain outer p ch a b o cs k = plain_have false outer p ch a b o cs a [] g.no_binaries (subst (λ x. OuterGoes false outer p x a b o cs) (sym (append-nil ch)) k)

outer_right : (outer : Outer) (q : Primary) (qs : List Message) (s : Selector) (p : Primary) (ch : List Message) (a b : List Sym) (o : Operand) (cs : List Message)
    → OuterGoes false outer q (with_binary qs s p ch) a b o cs → HaveGoes false (Right outer q qs s) p ch a b o cs
outer_right outer q qs s p ch a b o cs k = right_have outer q qs s p ch a b o cs a [] g.no_binaries (subst (λ x. OuterGoes false outer q x a b o cs) (sym (append-nil (with_binary qs s p ch))) k)

-- what a move that gives the next place says of the place before it
abbrev Back : Place → Sym → Option Move → Type 0
Back place s m = (a b : List Sym) (tg : List Name) (o : Operand) (cs : List Message) → OptionGoes m a b tg o cs → Goes place (s ∷ a) b tg o cs

abbrev GoesOn : Option Move → Type 0
GoesOn (Some (OpenArray tg inner)) = ⊥
GoesOn (Some (OpenParen tg inner)) = ⊥
GoesOn (Some (OpenBlock at tg inner)) = ⊥
GoesOn m = Unit {0}

back_on : (place : Place) (s : Sym) (m : Option Move) → GoesOn m → Back place s m → BackMove place s m
back_on place s None h k = tt
back_on place s (Some (Next next)) h k = k
back_on place s (Some (OpenArray tg inner)) h k = absurd h
back_on place s (Some (OpenParen tg inner)) h k = absurd h
back_on place s (Some (OpenBlock at tg inner)) h k = absurd h

keyword_on : (tg0 : List Name) (outer : Outer) (p : Primary) (ch : List Message) (t : List ℕ) (at : ℕ) → GoesOn (Some (keyword_outer tg0 outer p ch t at))
keyword_on tg0 Receiver p ch t at = tt
keyword_on tg0 (Argument left s os) p ch t at = tt

again_on : (tg0 : List Name) (outer : Outer) (p : Primary) (ch : List Message) → GoesOn (again_outer tg0 outer p ch)
again_on tg0 Receiver p [] = tt
again_on tg0 Receiver p (m ∷ ms) = tt
again_on tg0 (Argument left s os) p ch = tt

key_back : (tg0 : List Name) (inner : Inner) (p : Primary) (ch : List Message) (t : List ℕ) (at : ℕ) → BackMove (Have tg0 inner p ch) (Key t at) (after_keyword tg0 inner p ch t at)
key_back tg0 (Plain outer) p ch t at = back_on (Have tg0 (Plain outer) p ch) (Key t at) (Some (keyword_outer tg0 outer p ch t at)) (keyword_on tg0 outer p ch t at)
    (λ a b tg o cs k. let w = keyword_back tg0 outer p ch t at a b tg o cs k in (outer_plain outer p ch (Key t at ∷ a) b o cs w.0, w.1))
key_back tg0 (Right outer q qs s) p ch t at = back_on (Have tg0 (Right outer q qs s) p ch) (Key t at) (Some (keyword_outer tg0 outer q (with_binary qs s p ch) t at)) (keyword_on tg0 outer q (with_binary qs s p ch) t at)
    (λ a b tg o cs k. let w = keyword_back tg0 outer q (with_binary qs s p ch) t at a b tg o cs k in (outer_right outer q qs s p ch (Key t at ∷ a) b o cs w.0, w.1))
key_back tg0 (FurtherRight r ks s) p ch t at = tt

semicolon_back : (tg0 : List Name) (inner : Inner) (p : Primary) (ch : List Message) → BackMove (Have tg0 inner p ch) Semicolon (after_semicolon tg0 inner p ch)
semicolon_back tg0 (Plain outer) p ch = back_on (Have tg0 (Plain outer) p ch) Semicolon (again_outer tg0 outer p ch) (again_on tg0 outer p ch)
    (λ a b tg o cs k. let w = again_back tg0 outer p ch a b tg o cs k in (outer_plain outer p ch (Semicolon ∷ a) b o cs w.0, w.1))
semicolon_back tg0 (Right outer q qs s) p ch = back_on (Have tg0 (Right outer q qs s) p ch) Semicolon (again_outer tg0 outer q (with_binary qs s p ch)) (again_on tg0 outer q (with_binary qs s p ch))
    (λ a b tg o cs k. let w = again_back tg0 outer q (with_binary qs s p ch) a b tg o cs k in (outer_right outer q qs s p ch (Semicolon ∷ a) b o cs w.0, w.1))
semicolon_back tg0 (FurtherRight r ks s) p ch = λ a b tg o cs k. (further_have r ks s p ch (Semicolon ∷ a) b o cs k.0, k.1)

have_back : (tg0 : List Name) (inner : Inner) (p : Primary) (ch : List Message) (s : Sym) → BackMove (Have tg0 inner p ch) s (have tg0 inner p ch s)
have_back tg0 inner p ch (Id t at) = λ a b tg o cs k. (unary_back false inner p ch t at a b o cs k.0, k.1)
have_back tg0 inner p ch (Op t at) = operator_back op tg0 inner p ch
have_back tg0 inner p ch (Minus at) = operator_back minus tg0 inner p ch
have_back tg0 inner p ch (Bar at) = operator_back bar tg0 inner p ch
have_back tg0 inner p ch (TwoBars at) = operator_back two_bars tg0 inner p ch
have_back tg0 inner p ch (ThreeBars at) = operator_back three_bars tg0 inner p ch
have_back tg0 inner p ch (Key t at) = key_back tg0 inner p ch t at
have_back tg0 inner p ch Semicolon = semicolon_back tg0 inner p ch
have_back tg0 inner p ch s = tt

bare_from_have : (tg0 : List Name) (n : Name) (s : Sym) (m : Option Move) → BackMove (Have tg0 (Plain Receiver) (variable n) []) s m → BackMove (Bare tg0 n) s m
bare_from_have tg0 n s None h = tt
bare_from_have tg0 n s (Some (Next next)) h = λ a b tg o cs k. let w = h a b tg o cs k in operand' w.0 w.1
bare_from_have tg0 n s (Some (OpenArray tg1 inner)) h = (h.0, λ a c b p tg o cs x k e. let w = h.1 a c b p tg o cs x k e in operand' w.0 w.1)
bare_from_have tg0 n s (Some (OpenParen tg1 inner)) h = (h.0, λ a c b p tg o cs x k e. let w = h.1 a c b p tg o cs x k e in operand' w.0 w.1)
bare_from_have tg0 n s (Some (OpenBlock at tg1 inner)) h = (h.0, λ a c b p tg o cs x k e. let w = h.1 a c b p tg o cs x k e in operand' w.0 w.1)

bare_back : (tg0 : List Name) (n : Name) (s : Sym) → BackMove (Bare tg0 n) s (bare_step tg0 n s)
bare_back tg0 n Assign = λ a b tg o cs k. target k
bare_back tg0 n s = bare_from_have tg0 n s (have tg0 (Plain Receiver) (variable n) [] s) (have_back tg0 (Plain Receiver) (variable n) [] s)

resend_operator : {s : Sym} {t : List ℕ} {at : ℕ} → IsOp s t at → (r : Operand) (ks : List Message) (a b : List Sym) (o : Operand) (cs : List Message) → WantGoes (FurtherRight r ks (selector t at)) a b o cs → SentGoes r ks (Semicolon ∷ s ∷ a) b o cs
resend_operator {t = t} {at = at} i r ks a b o cs (c, q, w, x, (d, us, u, (f, (ms, y, e, h)))) =
    (message t at (operand q us ∷ []) ∷ ms, g.binary_again i x u f y, e, h ∙ append_assoc ks (message t at (operand q us ∷ []) ∷ []) ms)

resend_back : (tg0 : List Name) (r : Operand) (ks : List Message) (s : Sym) → BackMove (Again tg0 r ks) s (resend tg0 r ks s)
resend_back tg0 r ks (Id t at) = λ a b tg o cs k. let (ms, c, e, f) = k.0 in ((message t at [] ∷ ms, g.unary_again c, e, f ∙ append_assoc ks (message t at [] ∷ []) ms), k.1)
resend_back tg0 r ks (Op t at) = λ a b tg o cs k. (resend_operator op r ks a b o cs k.0, k.1)
resend_back tg0 r ks (Minus at) = λ a b tg o cs k. (resend_operator minus r ks a b o cs k.0, k.1)
resend_back tg0 r ks (Bar at) = λ a b tg o cs k. (resend_operator bar r ks a b o cs k.0, k.1)
resend_back tg0 r ks (TwoBars at) = λ a b tg o cs k. (resend_operator two_bars r ks a b o cs k.0, k.1)
resend_back tg0 r ks (ThreeBars at) = λ a b tg o cs k. (resend_operator three_bars r ks a b o cs k.0, k.1)
resend_back tg0 r ks (Key t at) = λ a b tg o cs k. let (c, sel, os, x, (ms, y, e, f)) = arguments_back (Further r ks) (selector t at) [] a b o cs k.0 in
    ((message (t ++ sel) at os ∷ ms, g.keywords_again x y, e, f ∙ append_assoc ks (message (t ++ sel) at os ∷ []) ms), k.1)
resend_back tg0 r ks s = tt

sent_back : (tg0 : List Name) (r : Operand) (ks : List Message) (s : Sym) → BackMove (Sent tg0 r ks) s (sent tg0 r ks s)
sent_back tg0 r ks Semicolon = λ a b tg o cs k. k
sent_back tg0 r ks s = tt

pub move_back : (place : Place) (s : Sym) → BackMove place s (move place s)
move_back (Start tg) s = start_back tg s
move_back (Bare tg n) s = bare_back tg n s
move_back (Have tg inner p ch) s = have_back tg inner p ch s
move_back (Want tg inner) s = want_back tg inner s
move_back (Super tg inner) s = super_back tg inner s
move_back (Signed tg inner at) s = signed_back tg inner at s
move_back (Again tg r ks) s = resend_back tg r ks s
move_back (Sent tg r ks) s = sent_back tg r ks s

-- ---- where an expression ends

abbrev pub EndsAt : Place → Option Whole → Type 0
EndsAt place None = Unit {0}
EndsAt place (Some w) = (b : List Sym) → Goes place b b w.targets w.receiver w.cascade

outer_ends : (tg : List Name) (outer : Outer) (p : Primary) (ch : List Message) (b : List Sym) → OuterGoes false outer p ch b b (finish_outer tg outer p ch).receiver (finish_outer tg outer p ch).cascade
outer_ends tg Receiver p ch b = receiver_ends tt g.no_cascade (receives_none ch) refl refl
outer_ends tg (Argument (First q qs) s os) p ch b = argument_ends tt ([], g.no_cascade, refl, refl)
outer_ends tg (Argument (Further r ks) s os) p ch b = argument_ends tt ([], g.no_cascade, refl, sym (append-nil (ks ++ message s.text s.at (os ++ operand p ch ∷ []) ∷ [])))

finish_targets : (tg : List Name) (inner : Inner) (p : Primary) (ch : List Message) → (finish tg inner p ch).targets ≡ tg
finish_targets tg (Plain Receiver) p ch = refl
finish_targets tg (Plain (Argument (First q qs) s os)) p ch = refl
finish_targets tg (Plain (Argument (Further r ks) s os)) p ch = refl
finish_targets tg (Right Receiver q' qs' s') p ch = refl
finish_targets tg (Right (Argument (First q qs) s os) q' qs' s') p ch = refl
finish_targets tg (Right (Argument (Further r ks) s os) q' qs' s') p ch = refl
finish_targets tg (FurtherRight r ks s) p ch = refl

have_ends : (tg : List Name) (inner : Inner) (p : Primary) (ch : List Message) (b : List Sym) → HaveGoes false inner p ch b b (finish tg inner p ch).receiver (finish tg inner p ch).cascade
have_ends tg (Plain outer) p ch b = outer_plain outer p ch b b (finish_outer tg outer p ch).receiver (finish_outer tg outer p ch).cascade (outer_ends tg outer p ch b)
have_ends tg (Right outer q qs s) p ch b = outer_right outer q qs s p ch b b (finish_outer tg outer q (with_binary qs s p ch)).receiver (finish_outer tg outer q (with_binary qs s p ch)).cascade (outer_ends tg outer q (with_binary qs s p ch) b)
have_ends tg (FurtherRight r ks s) p ch b = further_have r ks s p ch b b r (with_binary ks s p ch) ([], g.no_cascade, refl, sym (append-nil (with_binary ks s p ch)))

pub whole_back : (place : Place) → EndsAt place (whole place)
whole_back (Start tg) = tt
whole_back (Bare tg n) = λ b. operand' (have_ends tg (Plain Receiver) (variable n) [] b) refl
whole_back (Have tg inner p ch) = λ b. (have_ends tg inner p ch b, finish_targets tg inner p ch)
whole_back (Want tg inner) = tt
whole_back (Super tg inner) = tt
whole_back (Signed tg inner at) = tt
whole_back (Again tg r ks) = tt
whole_back (Sent tg r ks) = λ b. (([], g.no_cascade, refl, sym (append-nil ks)), refl)
