-- Environments are links into the stack.
use Rattle.std.proofs.Common.{◌≡◌, ℕ, zero, suc, ◌+◌, ◌<◌, ◌≤◌, List, [], ◌∷◌, ◌++◌, length, reverse, Option, Some, None, Bool, true, false, refl, sym, ap, ◌∙◌, subst, arith, nat_eq, slice_get, if◌then◌else◌, eq-eqb, ne_eqb, eqb-true, ltb-true, ltb-false, nat_lt}
use Rattle.std.proofs.lemmas.List.{reverse-append, reverse-reverse, length-reverse, length-append}
use Rattle.st_trace.specs.declared.stack.Item.{Item}
use Rattle.st_trace.specs.declared.stack.Kind.{Kind}
use Rattle.st_trace.specs.declared.stack.Kind.TheVariants as kinds
use Rattle.st_trace.specs.Stacked.{entry_at, chain, kind_view, inside_by, items_view, IsLinked, turn_link, handle_link, inside_link, link_by}
use Rattle.st_trace.specs.declared.auditor.Mode.{Mode}
use Rattle.st_trace.specs.declared.auditor.Mode.TheVariants as modes
use Rattle.st_trace.specs.Audited.{mode_view, IsPlain, IsLinkedMode}
use Rattle.st_rules.specs.Events as rules
use Rattle.st_trace.specs.Automaton as audit

-- an environment further out is the same behind one more
pub chain_behind : (i : Item) (below : List Item) (env : ℕ) → env ≤ length below → chain (i ∷ below) env ≡ chain below env
chain_behind i below env le = ap (λ c. if c then i.number ∷ chain below i.around else chain below env) (ne_eqb env (length below + 1) (λ q. let none : ⊥ = omega (arith, q, le) in none))

-- the item at a place of the stack turned round
abbrev pub item_at : List Item → ℕ → Option Item
item_at [] env = None
item_at (i ∷ below) env = if nat_eq env (length below + 1) then Some i else item_at below env

around_of : (items : List Item) (env : ℕ) (j : Item) → IsLinked items → item_at items env ≡ Some j → j.around ≤ length items
around_of [] env j h e = let none : ⊥ = grind (arith, e) in absurd none
around_of (i ∷ below) env j h e = let r : j.around ≤ length below + 1 = go (nat_eq env (length below + 1)) (around_of below env j h.2) e in omega (arith, r)
  where
    go : (c : Bool) → (item_at below env ≡ Some j → j.around ≤ length below) → (if c then Some i else item_at below env) ≡ Some j → j.around ≤ length below + 1
    go true on e = let same : i ≡ j = grind (arith, e) in let le : i.around ≤ length below = h.0 in let le' : j.around ≤ length below = subst (λ (k : Item). k.around ≤ length below) same le in omega (arith, le')
    go false on e = let le : j.around ≤ length below = on e in omega (arith, le)

abbrev pub chain_from : Option Item → List Item → List ℕ
chain_from None items = []
chain_from (Some i) items = i.number ∷ chain items i.around

pub chain_is : (items : List Item) (env : ℕ) → IsLinked items → chain items env ≡ chain_from (item_at items env) items
chain_is [] env h = refl
chain_is (i ∷ below) env h = go (nat_eq env (length below + 1)) (chain_is below env h.2)
  where
    deeper : (o : Option Item) (l : (j : Item) → o ≡ Some j → j.around ≤ length below) → chain_from o below ≡ chain_from o (i ∷ below)
    deeper None l = refl
    deeper (Some j) l = ap (λ v. j.number ∷ v) (sym (chain_behind i below j.around (l j refl)))

    go : (c : Bool) → chain below env ≡ chain_from (item_at below env) below → (if c then i.number ∷ chain below i.around else chain below env) ≡ chain_from (if c then Some i else item_at below env) (i ∷ below)
    go true on = ap (λ v. i.number ∷ v) (sym (chain_behind i below i.around h.0))
    go false on = on ∙ deeper (item_at below env) (λ j e. around_of below env j h.2 e)

-- ---- places of the vector

past_end : (items : List Item) (env : ℕ) → length items < env → item_at items env ≡ None
past_end [] env l = refl
past_end (i ∷ below) env l = ap (λ c. if c then Some i else item_at below env) (ne_eqb env (length below + 1) (λ q. let none : ⊥ = omega (arith, q, l) in none)) ∙ past_end below env (omega (arith, l))

none_at_0 : (items : List Item) → item_at items 0 ≡ None
none_at_0 [] = refl
none_at_0 (i ∷ below) = ap (λ c. if c then Some i else item_at below 0) (ne_eqb 0 (length below + 1) (λ q. let none : ⊥ = omega (arith, q) in none)) ∙ none_at_0 below

get_front : (xs ys : List Item) (k : ℕ) → k < length xs → slice_get (xs ++ ys) k ≡ slice_get xs k
get_front [] ys k l = let none : ⊥ = omega (arith, l) in absurd none
get_front (x ∷ xs) ys zero l = refl
get_front (x ∷ xs) ys (suc k) l = get_front xs ys k (omega (arith, l))

get_last : (xs : List Item) (y : Item) (k : ℕ) → k ≡ length xs → slice_get (xs ++ y ∷ []) k ≡ Some y
get_last [] y zero e = refl
get_last [] y (suc k) e = let none : ⊥ = omega (arith, e) in absurd none
get_last (x ∷ xs) y zero e = let none : ⊥ = omega (arith, e) in absurd none
get_last (x ∷ xs) y (suc k) e = get_last xs y k (omega (arith, e))

get_past : (xs : List Item) (k : ℕ) → length xs ≤ k → slice_get xs k ≡ None
get_past [] k l = refl
get_past (x ∷ xs) zero l = let none : ⊥ = omega (arith, l) in absurd none
get_past (x ∷ xs) (suc k) l = get_past xs k (omega (arith, l))

pub place_is : (items : List Item) (env : ℕ) → item_at items env ≡ entry_at (reverse items) env
place_is items zero = none_at_0 items
place_is [] (suc k) = refl
place_is (i ∷ below) (suc k) = go (nat_eq (suc k) (length below + 1)) refl (place_is below (suc k)) ∙ ap (λ xs. slice_get xs k) (sym (reverse-append (i ∷ []) below))
  where
    size : length (reverse below) ≡ length below
    size = length-reverse below

    further : (c : Bool) → nat_lt k (length below) ≡ c → nat_eq (suc k) (length below + 1) ≡ false → item_at below (suc k) ≡ slice_get (reverse below) k → item_at below (suc k) ≡ slice_get (reverse below ++ i ∷ []) k
    further true q e on = let l : k < length below = ltb-true k (length below) q in on ∙ sym (get_front (reverse below) (i ∷ []) k (omega (arith, l, size)))
    further false q e on =
        let l : length below ≤ k = ltb-false k (length below) q in
        let ne : k ≡ length below → ⊥ = λ s. let y : nat_eq (suc k) (length below + 1) ≡ true = eq-eqb (suc k) (length below + 1) (omega (arith, s)) in let none : ⊥ = grind (arith, y, e) in none in
        let more : length below < k = omega (arith, l, ne) in
        past_end below (suc k) (omega (arith, more)) ∙ sym (get_past (reverse below ++ i ∷ []) k (omega (arith, more, size, length-append (reverse below) (i ∷ []))))

    go : (c : Bool) → nat_eq (suc k) (length below + 1) ≡ c → item_at below (suc k) ≡ slice_get (reverse below) k → (if c then Some i else item_at below (suc k)) ≡ slice_get (reverse below ++ i ∷ []) k
    go true q on = let s : suc k ≡ length below + 1 = eqb-true (suc k) (length below + 1) q in sym (get_last (reverse below) i k (omega (arith, s, size)))
    go false q on = further (nat_lt k (length below)) refl q on

-- ---- what the code finds, and what the auditor keeps

pub chain_place : (items : List Item) (env : ℕ) → IsLinked (reverse items) → chain (reverse items) env ≡ chain_from (entry_at items env) (reverse items)
chain_place items env h = chain_is (reverse items) env h ∙ ap (λ o. chain_from o (reverse items)) (place_is (reverse items) env ∙ ap (λ xs. entry_at xs env) (reverse-reverse items))

abbrev pub found_env : Option ℕ → List Item → Option (List ℕ)
found_env None items = None
found_env (Some env) items = Some (chain items env)

handled_is : (i : Item) (below : List Item) → i.around ≤ length below → audit.handled_by (kind_view below i.kind) (inside_by i.kind i.number (chain below i.around)) ≡ found_env (handle_link i.kind i.around) (i ∷ below)
handled_is i below le = go i.kind
  where
    go : (k : Kind) → audit.handled_by (kind_view below k) (inside_by k i.number (chain below i.around)) ≡ found_env (handle_link k i.around) (i ∷ below)
    go kinds.Protect = refl
    go kinds.Signal = refl
    go kinds.Outer = refl
    go kinds.Default = refl
    go (kinds.Handle n) = ap (λ v. Some v) (sym (chain_behind i below i.around le))
    go (kinds.Ensure a) = refl
    go (kinds.Curtail a) = refl
    go (kinds.Ask n x) = refl

-- an environment that is found further out is the same here
link_within : (items : List Item) (n env : ℕ) → IsLinked items → turn_link n items ≡ Some env → env ≤ length items
link_within [] n env h e = let none : ⊥ = grind (arith, e) in absurd none
link_within (i ∷ below) n env h e = let r : env ≤ length below + 1 = go (nat_eq n i.number) (link_within below n env h.2) e in omega (arith, r)
  where
    kind : (k : Kind) → handle_link k i.around ≡ Some env → env ≤ length below + 1
    kind (kinds.Handle m) q = let s : i.around ≡ env = grind (arith, q) in omega (arith, h.0, s)
    kind kinds.Protect q = let none : ⊥ = grind (arith, q) in absurd none
    kind kinds.Signal q = let none : ⊥ = grind (arith, q) in absurd none
    kind kinds.Outer q = let none : ⊥ = grind (arith, q) in absurd none
    kind kinds.Default q = let none : ⊥ = grind (arith, q) in absurd none
    kind (kinds.Ensure a) q = let none : ⊥ = grind (arith, q) in absurd none
    kind (kinds.Curtail a) q = let none : ⊥ = grind (arith, q) in absurd none
    kind (kinds.Ask m x) q = let none : ⊥ = grind (arith, q) in absurd none

    go : (c : Bool) → (turn_link n below ≡ Some env → env ≤ length below) → (if c then handle_link i.kind i.around else turn_link n below) ≡ Some env → env ≤ length below + 1
    go true on q = kind i.kind q
    go false on q = let l : env ≤ length below = on q in omega (arith, l)

pub turn_within : (items : List Item) (n env : ℕ) → IsLinked (reverse items) → turn_link n (reverse items) ≡ Some env → env ≤ length items
turn_within items n env h e = let l : env ≤ length (reverse items) = link_within (reverse items) n env h e in omega (arith, l, length-reverse items)

found_behind : (o : Option ℕ) (i : Item) (below : List Item) → ((env : ℕ) → o ≡ Some env → env ≤ length below) → found_env o below ≡ found_env o (i ∷ below)
found_behind None i below l = refl
found_behind (Some env) i below l = ap (λ v. Some v) (sym (chain_behind i below env (l env refl)))

pub turn_is : (items : List Item) (n : ℕ) → IsLinked items → audit.turn_inside n (items_view items) ≡ found_env (turn_link n items) items
turn_is [] n h = refl
turn_is (i ∷ below) n h = go (nat_eq n i.number) (turn_is below n h.2)
  where
    go : (c : Bool) → audit.turn_inside n (items_view below) ≡ found_env (turn_link n below) below → (if c then audit.handled_by (kind_view below i.kind) (inside_by i.kind i.number (chain below i.around)) else audit.turn_inside n (items_view below)) ≡ found_env (if c then handle_link i.kind i.around else turn_link n below) (i ∷ below)
    go true on = handled_is i below h.0
    go false on = on ∙ found_behind (turn_link n below) i below (λ env e. link_within below n env h.2 e)

pub inside_is : (items : List Item) → IsLinked items → audit.inside_of (items_view items) ≡ chain items (inside_link items)
inside_is [] h = refl
inside_is (i ∷ below) h = go i.kind
  where
    here : chain (i ∷ below) (length below + 1) ≡ i.number ∷ chain below i.around
    here = ap (λ c. if c then i.number ∷ chain below i.around else chain below (length below + 1)) (eq-eqb (length below + 1) (length below + 1) refl)

    go : (k : Kind) → inside_by k i.number (chain below i.around) ≡ chain (i ∷ below) (link_by k (length below + 1) i.around)
    go kinds.Protect = sym here
    go kinds.Signal = sym (chain_behind i below i.around h.0)
    go kinds.Outer = sym (chain_behind i below i.around h.0)
    go kinds.Default = sym (chain_behind i below i.around h.0)
    go (kinds.Handle n) = sym (chain_behind i below i.around h.0)
    go (kinds.Ensure a) = sym (chain_behind i below i.around h.0)
    go (kinds.Curtail a) = sym (chain_behind i below i.around h.0)
    go (kinds.Ask n x) = sym (chain_behind i below i.around h.0)

pub link_fits : (items : List Item) → IsLinked (reverse items) → inside_link (reverse items) ≤ length items
link_fits items h = let l : inside_link (reverse items) ≤ length (reverse items) = within (reverse items) h in omega (arith, l, length-reverse items)
  where
    within : (rs : List Item) → IsLinked rs → inside_link rs ≤ length rs
    within [] h = omega arith
    within (i ∷ below) h = go i.kind
      where
        go : (k : Kind) → link_by k (length below + 1) i.around ≤ suc (length below)
        go kinds.Protect = omega arith
        go kinds.Signal = omega (arith, h.0)
        go kinds.Outer = omega (arith, h.0)
        go kinds.Default = omega (arith, h.0)
        go (kinds.Handle n) = omega (arith, h.0)
        go (kinds.Ensure a) = omega (arith, h.0)
        go (kinds.Curtail a) = omega (arith, h.0)
        go (kinds.Ask n x) = omega (arith, h.0)

-- ---- modes

pub plain_behind : (mode : Mode) (xs ys : List Item) → IsPlain mode → mode_view xs mode ≡ mode_view ys mode
plain_behind modes.Calm xs ys h = refl
plain_behind modes.MustSearch xs ys h = refl
plain_behind modes.MustTurn xs ys h = refl
plain_behind (modes.Looks x) xs ys h = absurd h
plain_behind (modes.Answered n x) xs ys h = absurd h
plain_behind (modes.Fits n x) xs ys h = absurd h

pub plain_linked : (mode : Mode) (n : ℕ) → IsPlain mode → IsLinkedMode n mode
plain_linked modes.Calm n h = tt
plain_linked modes.MustSearch n h = tt
plain_linked modes.MustTurn n h = tt
plain_linked (modes.Looks x) n h = absurd h
plain_linked (modes.Answered m x) n h = absurd h
plain_linked (modes.Fits m x) n h = absurd h

-- ---- transitions

pub search_none : (items : List Item) (n next : ℕ) → IsLinked (reverse items) → turn_link n (reverse items) ≡ None → audit.searches (audit.turn_inside n (items_view (reverse items))) (items_view (reverse items)) next ≡ None
search_none items n next h e = ap (λ o. audit.searches o (items_view (reverse items)) next) (turn_is (reverse items) n h ∙ ap (λ o. found_env o (reverse items)) e)

pub search_some : (items : List Item) (n next env : ℕ) → IsLinked (reverse items) → turn_link n (reverse items) ≡ Some env → audit.searches (audit.turn_inside n (items_view (reverse items))) (items_view (reverse items)) next ≡ Some (audit.auditor (items_view (reverse items)) (audit.Looks (audit.looking true (chain (reverse items) env) (chain (reverse items) env))) next)
search_some items n next env h e = ap (λ o. audit.searches o (items_view (reverse items)) next) (turn_is (reverse items) n h ∙ ap (λ o. found_env o (reverse items)) e)

-- the first entry left, and what is behind it
pub left_none : (items : List Item) (env : ℕ) → IsLinked (reverse items) → entry_at items env ≡ None → chain (reverse items) env ≡ []
left_none items env h e = chain_place items env h ∙ ap (λ o. chain_from o (reverse items)) e

pub left_some : (items : List Item) (env : ℕ) (i : Item) → IsLinked (reverse items) → entry_at items env ≡ Some i → chain (reverse items) env ≡ i.number ∷ chain (reverse items) i.around
left_some items env i h e = chain_place items env h ∙ ap (λ o. chain_from o (reverse items)) e

pub entry_within : (items : List Item) (env : ℕ) (i : Item) → IsLinked (reverse items) → entry_at items env ≡ Some i → i.around ≤ length items
entry_within items env i h e =
    let at : item_at (reverse items) env ≡ Some i = place_is (reverse items) env ∙ ap (λ xs. entry_at xs env) (reverse-reverse items) ∙ e in
    let l : i.around ≤ length (reverse items) = around_of (reverse items) env i h at in
    omega (arith, l, length-reverse items)

abbrev Judged : List Item → ℕ → ℕ → Bool → audit.Search → Option audit.Auditor
Judged items n next f x = audit.judged n f x.of_turn x.whole x.left (items_view (reverse items)) next

pub judged_none : (n next : ℕ) (f t : Bool) (whole left : List ℕ) (is : List audit.Item) → left ≡ [] → audit.judged n f t whole left is next ≡ None
judged_none n next f t whole left is e = ap (λ v. audit.judged n f t whole v is next) e

pub judged_other : (n m next : ℕ) (f t : Bool) (whole left rest : List ℕ) (is : List audit.Item) → left ≡ m ∷ rest → (m ≡ n → ⊥) → audit.judged n f t whole left is next ≡ None
judged_other n m next f t whole left rest is e ne = ap (λ v. audit.judged n f t whole v is next) e ∙ go f
  where
    no : nat_eq n m ≡ false
    no = ne_eqb n m (λ q. ne (sym q))

    go : (c : Bool) → audit.judged n c t whole (m ∷ rest) is next ≡ None
    go true = ap (λ c. if c then Some (audit.auditor is (audit.Fits m (audit.looking t whole rest)) next) else None) no
    go false = ap (λ c. if c then Some (audit.auditor is (audit.Looks (audit.looking t whole rest)) next) else None) no

pub judged_fits : (n m next : ℕ) (t : Bool) (whole left rest : List ℕ) (is : List audit.Item) → left ≡ m ∷ rest → m ≡ n → audit.judged n true t whole left is next ≡ Some (audit.auditor is (audit.Fits n (audit.looking t whole rest)) next)
judged_fits n m next t whole left rest is e q = ap (λ v. audit.judged n true t whole v is next) (e ∙ ap (λ k. k ∷ rest) q) ∙ ap (λ c. if c then Some (audit.auditor is (audit.Fits n (audit.looking t whole rest)) next) else None) (eq-eqb n n refl)

pub judged_on : (n m next : ℕ) (t : Bool) (whole left rest : List ℕ) (is : List audit.Item) → left ≡ m ∷ rest → m ≡ n → audit.judged n false t whole left is next ≡ Some (audit.auditor is (audit.Looks (audit.looking t whole rest)) next)
judged_on n m next t whole left rest is e q = ap (λ v. audit.judged n false t whole v is next) (e ∙ ap (λ k. k ∷ rest) q) ∙ ap (λ c. if c then Some (audit.auditor is (audit.Looks (audit.looking t whole rest)) next) else None) (eq-eqb n n refl)

pub asked_none : (w n next : ℕ) (t : Bool) (whole left : List ℕ) (is : List audit.Item) → left ≡ [] → audit.looks (rules.Ask w n) t whole left is next ≡ None
asked_none w n next t whole left is e = ap (λ v. audit.looks (rules.Ask w n) t whole v is next) e

pub asked_other : (w n m next : ℕ) (t : Bool) (whole left rest : List ℕ) (is : List audit.Item) → left ≡ m ∷ rest → (m ≡ n → ⊥) → audit.looks (rules.Ask w n) t whole left is next ≡ None
asked_other w n m next t whole left rest is e ne = ap (λ v. audit.looks (rules.Ask w n) t whole v is next) e ∙ ap (λ c. if c then audit.begun w (audit.ByAsk m (audit.looking t whole rest)) rest audit.Calm is next else None) (ne_eqb n m (λ q. ne (sym q)))

pub asked_at : (w n m next : ℕ) (t : Bool) (whole left rest : List ℕ) (is : List audit.Item) → left ≡ m ∷ rest → m ≡ n → audit.looks (rules.Ask w n) t whole left is next ≡ audit.begun w (audit.ByAsk n (audit.looking t whole rest)) rest audit.Calm is next
asked_at w n m next t whole left rest is e q = ap (λ v. audit.looks (rules.Ask w n) t whole v is next) (e ∙ ap (λ k. k ∷ rest) q) ∙ ap (λ c. if c then audit.begun w (audit.ByAsk n (audit.looking t whole rest)) rest audit.Calm is next else None) (eq-eqb n n refl)

pub default_at : (m next : ℕ) (t : Bool) (whole left : List ℕ) (is : List audit.Item) → left ≡ [] → audit.looks (rules.Default m) t whole left is next ≡ audit.begun m audit.ByDefault whole audit.Calm is next
default_at m next t whole left is e = ap (λ v. audit.looks (rules.Default m) t whole v is next) e

pub default_none : (m k next : ℕ) (t : Bool) (whole left rest : List ℕ) (is : List audit.Item) → left ≡ k ∷ rest → audit.looks (rules.Default m) t whole left is next ≡ None
default_none m k next t whole left rest is e = ap (λ v. audit.looks (rules.Default m) t whole v is next) e

pub known_at : (next : ℕ) (t : Bool) (whole left : List ℕ) (is : List audit.Item) → left ≡ [] → audit.looks rules.Known t whole left is next ≡ audit.known t is next
known_at next t whole left is e = ap (λ v. audit.looks rules.Known t whole v is next) e

pub known_none : (k next : ℕ) (t : Bool) (whole left rest : List ℕ) (is : List audit.Item) → left ≡ k ∷ rest → audit.looks rules.Known t whole left is next ≡ None
known_none k next t whole left rest is e = ap (λ v. audit.looks rules.Known t whole v is next) e

closed_by : (rs : List Item) → audit.is_closed (items_view rs) ≡ nat_eq (length rs) 0
closed_by [] = sym (eq-eqb 0 0 refl)
closed_by (i ∷ below) = sym (ne_eqb (length (i ∷ below)) 0 (λ q. let none : ⊥ = omega (arith, q) in none))

pub closed_is : (items : List Item) → audit.is_closed (items_view (reverse items)) ≡ nat_eq (length items) 0
closed_is items = closed_by (reverse items) ∙ ap (λ n. nat_eq n 0) (length-reverse items)
