-- What holds between the lines before a place and the auditor's stack behind them.
use Rattle.std.proofs.Common.{◌≡◌, ℕ, ◌+◌, ◌<◌, ◌≤◌, List, [], ◌∷◌, Some, None, true, false, refl, sym, ap, ◌∙◌, arith, nat_eq, nat_le, ne_eqb}
use Rattle.st_rules.specs.Events.{Event, Protect, Ensure, Curtail, Signal, Outer, Search as SearchFor, Tried, Handle, Default, Known, Action, Again, Ask, End}
use Rattle.st_trace.specs.Automaton.{Search, Kind, ByProtect, BySignal, ByOuter, ByHandle, ByDefault, ByEnsure, ByCurtail, ByAsk, Item, item, Mode, Calm, MustSearch, MustTurn, Looks, Answered, Fits, inside_of}
use Rattle.st_trace.specs.Disciplined.{Past, begins, is_new, opened, event_of, had_action, Look, asks_now, is_asked_as, looks, Place, searched_by, searched_in, inside, environment_in, place, beginning, was_tried, has_fitted, was_fitted, wait_of, untried, is_last_end, is_turn, Due, Anything, ItsSearch, SomeSearch, InSearch, due_in, due}
use Rattle.st_trace.proofs.Ordering.{Ordered}

-- ---- the events that began what is open

abbrev pub line_by : Kind → ℕ → Event
line_by ByProtect n = Protect n
line_by BySignal n = Signal n
line_by ByOuter n = Outer n
line_by ByDefault n = Default n
line_by (ByHandle e) n = Handle n e
line_by (ByEnsure a) n = Ensure n
line_by (ByCurtail a) n = Curtail n
line_by (ByAsk e x) n = Ask n e

abbrev pub lines : List Item → List Event
lines [] = []
lines (i ∷ is) = line_by i.kind i.number ∷ lines is

pub begins_line : (n : ℕ) (kind : Kind) (m : ℕ) → begins n (line_by kind m) ≡ nat_eq n m
begins_line n ByProtect m = refl
begins_line n BySignal m = refl
begins_line n ByOuter m = refl
begins_line n ByDefault m = refl
begins_line n (ByHandle e) m = refl
begins_line n (ByEnsure a) m = refl
begins_line n (ByCurtail a) m = refl
begins_line n (ByAsk e x) m = refl

-- ---- environments: each entry's outside is what stands behind it

abbrev pub Chain : (ℕ → Place) → ℕ → List ℕ → Type 0
Chain at b [] = Unit {0}
Chain at b (n ∷ env) = (n < b) × ((at n).environment ≡ env) × Chain at n env

pub chain_same : (at at' : ℕ → Place) (b : ℕ) (env : List ℕ) → ((n : ℕ) → n < b → at' n ≡ at n) → Chain at b env → Chain at' b env
chain_same at at' b [] s h = tt
chain_same at at' b (n ∷ env) s h = (h.0, ap (λ (x : Place). x.environment) (s n h.0) ∙ h.1, chain_same at at' n env (λ k l. s k (omega (arith, l, h.0))) h.2)

pub chain_later : (at : ℕ → Place) (a b : ℕ) (env : List ℕ) → a ≤ b → Chain at a env → Chain at b env
chain_later at a b [] le h = tt
chain_later at a b (n ∷ env) le h = (omega (arith, h.0, le), h.1, h.2)

-- ---- two lists of lines that tell the same of numbers below a bound

abbrev pub SameBelow : ℕ → Past → Past → Type 0
SameBelow b past past' = (n : ℕ) → n < b → (beginning past' n ≡ beginning past n) × (had_action n past' ≡ had_action n past)

pub same_less : (a b : ℕ) (past past' : Past) → a ≤ b → SameBelow b past past' → SameBelow a past past'
same_less a b past past' le s = λ n l. s n (omega (arith, l, le))

-- ---- items

abbrev pub EntryBelow : Kind → ℕ → Type 0
EntryBelow (ByHandle e) n = e < n
EntryBelow (ByAsk e x) n = e < n
EntryBelow _ n = Unit {0}

abbrev pub ActedIs : Past → Kind → ℕ → Type 0
ActedIs past (ByEnsure a) n = had_action n past ≡ a
ActedIs past (ByCurtail a) n = had_action n past ≡ a
ActedIs past _ n = Unit {0}

pub record ItemOk (past : Past) (n : ℕ) (kind : Kind) (ins : List ℕ) : Type 0 where
  pub inside_is : ins ≡ inside (line_by kind n) (beginning past)
  pub chain : Chain (beginning past) (n + 1) ins
  pub entry : EntryBelow kind n
  pub acted : ActedIs past kind n

abbrev pub ItemsOk : Past → List Item → Type 0
ItemsOk past [] = Unit {0}
ItemsOk past (i ∷ is) = ItemOk past i.number i.kind i.inside × ItemsOk past is

inside_same : (past past' : Past) (n : ℕ) (kind : Kind) → SameBelow (n + 1) past past' → EntryBelow kind n → inside (line_by kind n) (beginning past') ≡ inside (line_by kind n) (beginning past)
inside_same past past' n ByProtect s e = ap (λ (x : Place). n ∷ x.environment) (s n (omega arith)).0
inside_same past past' n BySignal s e = ap (λ (x : Place). x.environment) (s n (omega arith)).0
inside_same past past' n ByOuter s e = ap (λ (x : Place). x.environment) (s n (omega arith)).0
inside_same past past' n ByDefault s e = ap (λ (x : Place). x.searched) (s n (omega arith)).0
inside_same past past' n (ByHandle k) s e = ap (λ (x : Place). x.environment) (s k (omega (arith, e))).0
inside_same past past' n (ByEnsure a) s e = ap (λ (x : Place). x.environment) (s n (omega arith)).0
inside_same past past' n (ByCurtail a) s e = ap (λ (x : Place). x.environment) (s n (omega arith)).0
inside_same past past' n (ByAsk k x) s e = ap (λ (x : Place). x.environment) (s k (omega (arith, e))).0

acted_same : (past past' : Past) (n : ℕ) (kind : Kind) → SameBelow (n + 1) past past' → ActedIs past kind n → ActedIs past' kind n
acted_same past past' n ByProtect s h = tt
acted_same past past' n BySignal s h = tt
acted_same past past' n ByOuter s h = tt
acted_same past past' n ByDefault s h = tt
acted_same past past' n (ByHandle k) s h = tt
acted_same past past' n (ByEnsure a) s h = (s n (omega arith)).1 ∙ h
acted_same past past' n (ByCurtail a) s h = (s n (omega arith)).1 ∙ h
acted_same past past' n (ByAsk k x) s h = tt

pub item_same : (past past' : Past) (n : ℕ) (kind : Kind) (ins : List ℕ) → SameBelow (n + 1) past past' → ItemOk past n kind ins → ItemOk past' n kind ins
item_same past past' n kind ins s h =
    record {
      inside_is = h.inside_is ∙ sym (inside_same past past' n kind s h.entry);
      chain = chain_same (beginning past) (beginning past') (n + 1) ins (λ k l. (s k l).0) h.chain;
      entry = h.entry;
      acted = acted_same past past' n kind s h.acted;
    }

pub items_same : (b : ℕ) (past past' : Past) (is : List Item) → SameBelow b past past' → Ordered b is → ItemsOk past is → ItemsOk past' is
items_same b past past' [] s o h = tt
items_same b past past' (i ∷ is) s o h =
    (item_same past past' i.number i.kind i.inside (same_less (i.number + 1) b past past' (omega (arith, o.0)) s) h.0, items_same i.number past past' is (same_less i.number b past past' (omega (arith, o.0)) s) o.1 h.1)

pub env_is : (past : Past) (is : List Item) → opened past ≡ lines is → ItemsOk past is → environment_in (opened past) (beginning past) ≡ inside_of is
env_is past [] e h = ap (λ es. environment_in es (beginning past)) e
env_is past (i ∷ is) e h = ap (λ es. environment_in es (beginning past)) e ∙ sym h.0.inside_is

pub env_chain : (past : Past) (b : ℕ) (is : List Item) → Ordered b is → ItemsOk past is → Chain (beginning past) b (inside_of is)
env_chain past b [] o h = tt
env_chain past b (i ∷ is) o h = chain_later (beginning past) (i.number + 1) b i.inside (omega (arith, o.0)) h.0.chain

-- ---- searches

abbrev pub SearcherBelow : ℕ → Event → Type 0
SearcherBelow b (Signal n) = n < b
SearcherBelow b (Handle m n) = n < b
SearcherBelow b _ = Unit {0}

-- a search that is open, with these entries not tried
pub record SearchOk (past : Past) (b : ℕ) (l : Look) (x : Search) (left : List ℕ) : Type 0 where
  pub whole : searched_by l.searcher (beginning past) ≡ x.whole
  pub turn : is_turn l.searcher ≡ x.of_turn
  pub below : SearcherBelow b l.searcher
  pub whole_chain : Chain (beginning past) b x.whole
  pub left_chain : Chain (beginning past) b left

searched_same : (past past' : Past) (b : ℕ) (e : Event) → SameBelow b past past' → SearcherBelow b e → searched_by e (beginning past') ≡ searched_by e (beginning past)
searched_same past past' b (Signal n) s h = ap (λ (x : Place). x.environment) (s n h).0
searched_same past past' b (Handle m n) s h = ap (λ (x : Place). x.environment) (s n h).0
searched_same past past' b (Protect n) s h = refl
searched_same past past' b (Ensure n) s h = refl
searched_same past past' b (Curtail n) s h = refl
searched_same past past' b (Outer n) s h = refl
searched_same past past' b (SearchFor n) s h = refl
searched_same past past' b (Tried n f) s h = refl
searched_same past past' b (Default n) s h = refl
searched_same past past' b Known s h = refl
searched_same past past' b (Action n) s h = refl
searched_same past past' b (Again n) s h = refl
searched_same past past' b (Ask w n) s h = refl
searched_same past past' b (End n c) s h = refl

below_later : (a b : ℕ) (e : Event) → a ≤ b → SearcherBelow a e → SearcherBelow b e
below_later a b (Signal n) le h = omega (arith, le, h)
below_later a b (Handle m n) le h = omega (arith, le, h)
below_later a b (Protect n) le h = tt
below_later a b (Ensure n) le h = tt
below_later a b (Curtail n) le h = tt
below_later a b (Outer n) le h = tt
below_later a b (SearchFor n) le h = tt
below_later a b (Tried n f) le h = tt
below_later a b (Default n) le h = tt
below_later a b Known le h = tt
below_later a b (Action n) le h = tt
below_later a b (Again n) le h = tt
below_later a b (Ask w n) le h = tt
below_later a b (End n c) le h = tt

pub search_same : (past past' : Past) (a b : ℕ) (l : Look) (x : Search) (left : List ℕ) → SameBelow a past past' → a ≤ b → SearchOk past a l x left → SearchOk past' b l x left
search_same past past' a b l x left s le h =
    record {
      whole = searched_same past past' a l.searcher s h.below ∙ h.whole;
      turn = h.turn;
      below = below_later a b l.searcher le h.below;
      whole_chain = chain_later (beginning past') a b x.whole le (chain_same (beginning past) (beginning past') a x.whole (λ n l. (s n l).0) h.whole_chain);
      left_chain = chain_later (beginning past') a b left le (chain_same (beginning past) (beginning past') a left (λ n l. (s n l).0) h.left_chain);
    }

-- none of these was asked
abbrev pub Unasked : List ℕ → List Event → Type 0
Unasked [] es = Unit {0}
Unasked (n ∷ env) es = (wait_of n es ≡ None) × Unasked env es

-- in a search so much is left, nothing fitted, and of what is left only this was asked
pub record LeftOk (x : Search) (es : List Event) (left later : List ℕ) : Type 0 where
  pub left_is : untried x.whole es ≡ left
  pub none_fits : has_fitted es ≡ false
  pub unasked : Unasked later es

-- ---- the searches that ask are those of the asks that are open

pub record Asked (past : Past) (w n : ℕ) (x : Search) (below : List Look → Type 0) (ls : List Look) : Type 0 where
  pub look : Look
  pub others : List Look
  pub before : List Event
  pub looks_are : ls ≡ look ∷ others
  pub events_are : look.events ≡ Ask w n ∷ before
  pub search : SearchOk past w look x (n ∷ x.left)
  pub left : LeftOk x look.events (n ∷ x.left) x.left
  pub rest : below others

abbrev pub AsksBy : Past → Kind → ℕ → (List Look → Type 0) → List Look → Type 0
AsksBy past (ByAsk n x) w below ls = Asked past w n x below ls
AsksBy past _ w below ls = below ls

abbrev pub Asks : Past → List Item → List Look → Type 0
Asks past [] ls = ls ≡ []
Asks past (i ∷ is) ls = AsksBy past i.kind i.number (Asks past is) ls

asks_by_same : (past past' : Past) (kind : Kind) (w : ℕ) (below below' : List Look → Type 0) (ls : List Look) → SameBelow w past past' → ((ls' : List Look) → below ls' → below' ls') → AsksBy past kind w below ls → AsksBy past' kind w below' ls
asks_by_same past past' ByProtect w below below' ls s on h = on ls h
asks_by_same past past' BySignal w below below' ls s on h = on ls h
asks_by_same past past' ByOuter w below below' ls s on h = on ls h
asks_by_same past past' ByDefault w below below' ls s on h = on ls h
asks_by_same past past' (ByHandle e) w below below' ls s on h = on ls h
asks_by_same past past' (ByEnsure a) w below below' ls s on h = on ls h
asks_by_same past past' (ByCurtail a) w below below' ls s on h = on ls h
asks_by_same past past' (ByAsk n x) w below below' ls s on h =
    record { look = h.look; others = h.others; before = h.before; looks_are = h.looks_are; events_are = h.events_are; search = search_same past past' w w h.look x (n ∷ x.left) s (omega arith) h.search; left = h.left; rest = on h.others h.rest }

pub asks_same : (b : ℕ) (past past' : Past) (is : List Item) (ls : List Look) → SameBelow b past past' → Ordered b is → Asks past is ls → Asks past' is ls
asks_same b past past' [] ls s o h = h
asks_same b past past' (i ∷ is) ls s o h =
    asks_by_same past past' i.kind i.number (Asks past is) (Asks past' is) ls (same_less i.number b past past' (omega (arith, o.0)) s) (λ ls' k. asks_same i.number past past' is ls' (same_less i.number b past past' (omega (arith, o.0)) s) o.1 k) h

-- so nothing must come
abbrev MayCome : List Look → Type 0
MayCome ls = due_in ls ≡ Anything

due_by_asks : (past : Past) (kind : Kind) (w : ℕ) (below : List Look → Type 0) (ls : List Look) → ((ls' : List Look) → below ls' → MayCome ls') → AsksBy past kind w below ls → MayCome ls
due_by_asks past ByProtect w below ls on h = on ls h
due_by_asks past BySignal w below ls on h = on ls h
due_by_asks past ByOuter w below ls on h = on ls h
due_by_asks past ByDefault w below ls on h = on ls h
due_by_asks past (ByHandle e) w below ls on h = on ls h
due_by_asks past (ByEnsure a) w below ls on h = on ls h
due_by_asks past (ByCurtail a) w below ls on h = on ls h
due_by_asks past (ByAsk n x) w below ls on h = ap due_in h.looks_are ∙ ap (λ es. Rattle.st_trace.specs.Disciplined.due_by (asks_now es) h.look) h.events_are

pub due_asks : (past : Past) (is : List Item) (ls : List Look) → Asks past is ls → due_in ls ≡ Anything
due_asks past [] ls h = ap due_in h
due_asks past (i ∷ is) ls h = due_by_asks past i.kind i.number (Asks past is) ls (λ ls' k. due_asks past is ls' k) h

-- and nothing newer than what is open is asked
not_by : (past : Past) (kind : Kind) (w m : ℕ) (below : List Look → Type 0) (ls : List Look) → w < m → ((ls' : List Look) → below ls' → is_asked_as m ls' ≡ false) → AsksBy past kind w below ls → is_asked_as m ls ≡ false
not_by past ByProtect w m below ls lt on h = on ls h
not_by past BySignal w m below ls lt on h = on ls h
not_by past ByOuter w m below ls lt on h = on ls h
not_by past ByDefault w m below ls lt on h = on ls h
not_by past (ByHandle e) w m below ls lt on h = on ls h
not_by past (ByEnsure a) w m below ls lt on h = on ls h
not_by past (ByCurtail a) w m below ls lt on h = on ls h
not_by past (ByAsk n x) w m below ls lt on h =
    ap (is_asked_as m) h.looks_are ∙ ap (λ es. Rattle.st_trace.specs.Disciplined.is_number m (asks_now es)) h.events_are ∙ ne_eqb m w (λ q. let none : ⊥ = omega (arith, q, lt) in none)

pub not_asked : (past : Past) (b m : ℕ) (is : List Item) (ls : List Look) → b ≤ m → Ordered b is → Asks past is ls → is_asked_as m ls ≡ false
not_asked past b m [] ls le o h = ap (is_asked_as m) h
not_asked past b m (i ∷ is) ls le o h = not_by past i.kind i.number m (Asks past is) ls (omega (arith, o.0, le)) (λ ls' k. not_asked past i.number m is ls' (omega (arith, o.0, le)) o.1 k) h

-- ---- modes

-- the search in which the next line is
pub record Searches (past : Past) (b : ℕ) (x : Search) (left : List ℕ) (is : List Item) (ls : List Look) : Type 0 where
  pub look : Look
  pub others : List Look
  pub looks_are : ls ≡ look ∷ others
  pub due_is : due past ≡ InSearch look
  pub search : SearchOk past b look x left
  pub asks : Asks past is others

abbrev pub ModeOk : Past → ℕ → Mode → List Item → List Look → Type 0
ModeOk past b Calm is ls = (due past ≡ Anything) × Asks past is ls
ModeOk past b MustSearch is ls = (n : ℕ) × (ins : List ℕ) × (below : List Item) × (is ≡ item n BySignal ins ∷ below) × (due past ≡ ItsSearch n) × Asks past is ls
ModeOk past b MustTurn is ls = (due past ≡ SomeSearch) × Asks past is ls
ModeOk past b (Looks x) is ls = (s : Searches past b x x.left is ls) × LeftOk x s.look.events x.left x.left
ModeOk past b (Answered n x) is ls = (s : Searches past b x (n ∷ x.left) is ls) × LeftOk x s.look.events (n ∷ x.left) x.left × ((w : ℕ) × (wait_of n s.look.events ≡ Some w) × (is_last_end (Some w) past ≡ true))
ModeOk past b (Fits n x) is ls = (s : Searches past b x (n ∷ x.left) is ls) × (has_fitted s.look.events ≡ true) × ((k : ℕ) → was_fitted k s.look.events ≡ nat_eq k n)

pub record Agree (past : Past) (is : List Item) (mode : Mode) (next : ℕ) : Type 0 where
  pub opened_are : opened past ≡ lines is
  pub new_is : (n : ℕ) → is_new n past ≡ nat_le next n
  pub ordered : Ordered next is
  pub items : ItemsOk past is
  pub mode_is : ModeOk past next mode is (looks past)
