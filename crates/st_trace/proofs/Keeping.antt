-- Behind an event that the auditor accepts, its stack is again what the lines say.
use Rattle.std.proofs.Common.{◌≡◌, ℕ, ◌+◌, ◌<◌, ◌≤◌, ◌&&◌, List, [], ◌∷◌, Option, Some, None, Bool, true, false, refl, sym, ap, ◌∙◌, subst, arith, nat_eq, nat_lt, nat_le, if◌then◌else◌, eq-eqb, ne_eqb, eqb-true, leb-true, ltb-true, ltb-false, le-leb}
use Rattle.st_rules.specs.Events.{Event, Protect, Ensure, Curtail, Signal, Outer, Search as SearchFor, Tried, Handle, Default, Known, Action, Again, Ask, End}
use Rattle.st_trace.specs.Automaton as audit
use Rattle.st_trace.specs.Automaton.{Search, Kind, ByProtect, BySignal, ByOuter, ByHandle, ByDefault, ByEnsure, ByCurtail, ByAsk, Item, item, Mode, Calm, MustSearch, MustTurn, Looks, Answered, Fits, Auditor, auditor, looking, inside_of, handled_by, turn_inside, begun, of_innermost, calm, of_signal, of_outer, by_mode, judged}
use Rattle.st_trace.specs.Disciplined.{Past, begins, is_new, without, opened, event_of, had_action, Look, noted, over, asks_now, answered_by, is_asked_as, looks, Place, searched_by, searched_in, inside, environment_in, place, beginning, was_tried, has_fitted, was_fitted, wait_of, untried, is_last_end, is_turn, Due, Anything, ItsSearch, SomeSearch, InSearch, due_in, due}
use Rattle.st_trace.proofs.Ordering.{Ordered, ordered_later, here}
use Rattle.st_trace.proofs.Agreeing.{line_by, lines, begins_line, Chain, chain_same, chain_later, SameBelow, EntryBelow, ActedIs, ItemOk, ItemsOk, items_same, env_is, env_chain, SearcherBelow, SearchOk, search_same, Unasked, LeftOk, Asked, Asks, asks_same, due_asks, not_asked, Searches, ModeOk, Agree}
use Rattle.st_trace.proofs.Verdicts.{none_fitted}

abbrev pub Keeps : Past → Option Auditor → Type 0
Keeps past None = Unit {0}
Keeps past (Some a) = Agree past a.open' a.mode a.next

keeps_if : (past : Past) (c : Bool) (a : Auditor) → (c ≡ true → Keeps past (Some a)) → Keeps past (if c then Some a else None)
keeps_if past true a h = h refl
keeps_if past false a h = tt

-- where a number is another one, it may be written for it
keeps_at : (n m : ℕ) (past : ℕ → Past) (o : Option Auditor) → Keeps (past m) o → Keeps (past n) (if nat_eq n m then o else None)
keeps_at n m past o h = go (nat_eq n m) refl
  where
    go : (c : Bool) → nat_eq n m ≡ c → Keeps (past n) (if c then o else None)
    go true e = subst (λ k. Keeps (past k) o) (sym (eqb-true n m e)) h
    go false e = tt

other : (n m : ℕ) → n < m → nat_eq n m ≡ false
other n m l = ne_eqb n m (λ q. let none : ⊥ = omega (arith, q, l) in none)

-- ---- an event that begins a number

opened_begun : (kind : Kind) (n : ℕ) (past : Past) → opened (line_by kind n ∷ past) ≡ line_by kind n ∷ opened past
opened_begun ByProtect n past = refl
opened_begun BySignal n past = refl
opened_begun ByOuter n past = refl
opened_begun ByDefault n past = refl
opened_begun (ByHandle e) n past = refl
opened_begun (ByEnsure a) n past = refl
opened_begun (ByCurtail a) n past = refl
opened_begun (ByAsk e x) n past = refl

new_begun : (kind : Kind) (n m : ℕ) (past : Past) → is_new m (line_by kind n ∷ past) ≡ (nat_lt n m && is_new m past)
new_begun ByProtect n m past = refl
new_begun BySignal n m past = refl
new_begun ByOuter n m past = refl
new_begun ByDefault n m past = refl
new_begun (ByHandle e) n m past = refl
new_begun (ByEnsure a) n m past = refl
new_begun (ByCurtail a) n m past = refl
new_begun (ByAsk e x) n m past = refl

action_begun : (kind : Kind) (n m : ℕ) (past : Past) → had_action m (line_by kind n ∷ past) ≡ (if nat_eq m n then false else had_action m past)
action_begun ByProtect n m past = refl
action_begun BySignal n m past = refl
action_begun ByOuter n m past = refl
action_begun ByDefault n m past = refl
action_begun (ByHandle e) n m past = refl
action_begun (ByEnsure a) n m past = refl
action_begun (ByCurtail a) n m past = refl
action_begun (ByAsk e x) n m past = refl

place_begun : (kind : Kind) (n m : ℕ) (past : Past) → beginning (line_by kind n ∷ past) m ≡ (if nat_eq m n then place (opened past) (looks past) (beginning past) else beginning past m)
place_begun kind n m past = ap (λ c. if c then place (opened past) (looks past) (beginning past) else beginning past m) (begins_line m kind n)

pub same_begun : (kind : Kind) (n b : ℕ) (past : Past) → b ≤ n → SameBelow b past (line_by kind n ∷ past)
same_begun kind n b past le = λ m l.
    let o = other m n (omega (arith, l, le)) in
    (place_begun kind n m past ∙ ap (λ c. if c then place (opened past) (looks past) (beginning past) else beginning past m) o, action_begun kind n m past ∙ ap (λ c. if c then false else had_action m past) o)

new_more : (next n m : ℕ) → next ≤ n → (nat_lt n m && nat_le next m) ≡ nat_le (n + 1) m
new_more next n m le = go (nat_lt n m) refl
  where
    go : (c : Bool) → nat_lt n m ≡ c → (c && nat_le next m) ≡ nat_le (n + 1) m
    go true e = let l : n < m = ltb-true n m e in le-leb next m (omega (arith, l, le)) ∙ sym (le-leb (n + 1) m (omega (arith, l)))
    go false e = let l : m ≤ n = ltb-false n m e in below (nat_le (n + 1) m) refl l
      where
        below : (c : Bool) → nat_le (n + 1) m ≡ c → m ≤ n → false ≡ c
        below false e l = refl
        below true e l = let k : n + 1 ≤ m = leb-true (n + 1) m e in let none : ⊥ = omega (arith, k, l) in absurd none

begin_agrees : (kind : Kind) (n : ℕ) (ins : List ℕ) (mode' : Mode) (past : Past) (is : List Item) (mode : Mode) (next : ℕ) → Agree past is mode next → next ≤ n → ItemOk (line_by kind n ∷ past) n kind ins → ModeOk (line_by kind n ∷ past) (n + 1) mode' (item n kind ins ∷ is) (looks (line_by kind n ∷ past)) → Agree (line_by kind n ∷ past) (item n kind ins ∷ is) mode' (n + 1)
begin_agrees kind n ins mode' past is mode next h le i m =
    record {
      opened_are = opened_begun kind n past ∙ ap (λ es. line_by kind n ∷ es) h.opened_are;
      new_is = λ k. new_begun kind n k past ∙ ap (λ c. nat_lt n k && c) (h.new_is k) ∙ new_more next n k le;
      ordered = (omega arith, ordered_later next n is le h.ordered);
      items = (i, items_same next past (line_by kind n ∷ past) is (same_begun kind n next past le) h.ordered h.items);
      mode_is = m;
    }

-- the environment at its beginning
env_begun : (kind : Kind) (n : ℕ) (past : Past) (is : List Item) (mode : Mode) (next : ℕ) → Agree past is mode next → (beginning (line_by kind n ∷ past) n).environment ≡ inside_of is
env_begun kind n past is mode next h = ap (λ (x : Place). x.environment) (place_begun kind n n past ∙ here n _ _) ∙ env_is past is h.opened_are h.items

chain_begun : (kind : Kind) (n b : ℕ) (past : Past) (env : List ℕ) → b ≤ n → Chain (beginning past) b env → Chain (beginning (line_by kind n ∷ past)) b env
chain_begun kind n b past env le h = chain_same (beginning past) (beginning (line_by kind n ∷ past)) b env (λ m l. (same_begun kind n b past le m l).0) h

-- an item whose environment is that at its beginning
module _ (kind : Kind) (n : ℕ) (past : Past) (is : List Item) (mode : Mode) (next : ℕ) (h : Agree past is mode next) (le : next ≤ n) where
  abbrev B : ℕ → Place
  B = beginning (line_by kind n ∷ past)

  same : SameBelow next past (line_by kind n ∷ past)
  same = same_begun kind n next past le

  plain_chain : Chain B (n + 1) (inside_of is)
  plain_chain = chain_later B next (n + 1) (inside_of is) (omega (arith, le)) (chain_begun kind n next past (inside_of is) le (env_chain past next is h.ordered h.items))

  plain_item : inside (line_by kind n) B ≡ (B n).environment → EntryBelow kind n → ActedIs (line_by kind n ∷ past) kind n → ItemOk (line_by kind n ∷ past) n kind (inside_of is)
  plain_item e b a = record { inside_is = sym (env_begun kind n past is mode next h) ∙ sym e; chain = plain_chain; entry = b; acted = a }

  asks_still : (ls : List Look) → Asks past is ls → Asks (line_by kind n ∷ past) is ls
  asks_still ls k = asks_same next past (line_by kind n ∷ past) is ls same h.ordered k

calm_of : (past : Past) (is : List Item) (ls : List Look) → Asks past is ls → (due_in ls ≡ Anything) × Asks past is ls
calm_of past is ls k = (due_asks past is ls k, k)

le_of : (next n : ℕ) → nat_le next n ≡ true → next ≤ n
le_of next n e = leb-true next n e

-- ---- a search begins

record TurnAt (past : Past) (b : ℕ) (e : Event) (t : Bool) (ins : List ℕ) : Type 0 where
  whole : searched_by e (beginning past) ≡ ins
  turn : is_turn e ≡ t
  below : SearcherBelow b e
  chain : Chain (beginning past) b ins

no_turn : {A : Type 0} {x : List ℕ} → None ≡ Some x → A
no_turn {A} {x} e = let none : ⊥ = grind (arith, e) in absurd none

kind_found : (past : Past) (b m : ℕ) (kind : Kind) (ins' ins : List ℕ) → m < b → ItemOk past m kind ins' → handled_by kind ins' ≡ Some ins → TurnAt past b (line_by kind m) true ins
kind_found past b m (ByHandle k) ins' ins l i e =
    let same : ins' ≡ ins = grind (arith, e) in
    record {
      whole = sym i.inside_is ∙ same;
      turn = refl;
      below = let r : k < m = i.entry in omega (arith, r, l);
      chain = subst (λ env. Chain (beginning past) b env) same (chain_later (beginning past) (m + 1) b ins' (omega (arith, l)) i.chain);
    }
kind_found past b m ByProtect ins' ins l i e = no_turn e
kind_found past b m BySignal ins' ins l i e = no_turn e
kind_found past b m ByOuter ins' ins l i e = no_turn e
kind_found past b m ByDefault ins' ins l i e = no_turn e
kind_found past b m (ByEnsure a) ins' ins l i e = no_turn e
kind_found past b m (ByCurtail a) ins' ins l i e = no_turn e
kind_found past b m (ByAsk k x) ins' ins l i e = no_turn e

turn_found : (past : Past) (n b : ℕ) (is : List Item) (ins : List ℕ) → Ordered b is → ItemsOk past is → turn_inside n is ≡ Some ins → TurnAt past b (event_of n (lines is)) true ins
turn_found past n b [] ins o h e = no_turn e
turn_found past n b (i ∷ is) ins o h e =
    subst (λ c. TurnAt past b (if c then line_by i.kind i.number else event_of n (lines is)) true ins) (sym (begins_line n i.kind i.number)) (go (nat_eq n i.number) (turn_found past n b is ins (ordered_later i.number b is (omega (arith, o.0)) o.1) h.1) e)
  where
    go : (c : Bool) → (turn_inside n is ≡ Some ins → TurnAt past b (event_of n (lines is)) true ins) → (if c then handled_by i.kind i.inside else turn_inside n is) ≡ Some ins → TurnAt past b (if c then line_by i.kind i.number else event_of n (lines is)) true ins
    go true on e = kind_found past b i.number i.kind i.inside ins o.0 h.0 e
    go false on e = on e

untried_none : (env : List ℕ) → untried env [] ≡ env
untried_none [] = refl
untried_none (n ∷ env) = ap (λ v. n ∷ v) (untried_none env)

unasked_none : (env : List ℕ) → Unasked env []
unasked_none [] = tt
unasked_none (n ∷ env) = (refl, unasked_none env)

search_agrees : (n : ℕ) (t : Bool) (ins : List ℕ) (past : Past) (is : List Item) (mode : Mode) (next : ℕ) → Agree past is mode next → TurnAt past next (event_of n (opened past)) t ins → Asks past is (looks past) → Agree (SearchFor n ∷ past) is (Looks (looking t ins ins)) next
search_agrees n t ins past is mode next h k a =
    let same : SameBelow next past (SearchFor n ∷ past) = λ m l. (refl, refl) in
    let found : SearchOk past next (record { searcher = event_of n (opened past); events = [] }) (looking t ins ins) ins = record { whole = k.whole; turn = k.turn; below = k.below; whole_chain = k.chain; left_chain = k.chain } in
    record {
      opened_are = h.opened_are;
      new_is = h.new_is;
      ordered = h.ordered;
      items = items_same next past (SearchFor n ∷ past) is same h.ordered h.items;
      mode_is = (
        record {
          look = record { searcher = event_of n (opened past); events = [] };
          others = looks past;
          looks_are = refl;
          due_is = refl;
          search = search_same past (SearchFor n ∷ past) next next _ (looking t ins ins) ins same (omega arith) found;
          asks = asks_same next past (SearchFor n ∷ past) is (looks past) same h.ordered a;
        },
        record { left_is = untried_none ins; none_fits = refl; unasked = unasked_none ins },
      );
    }

turn_keeps : (n : ℕ) (past : Past) (is : List Item) (mode : Mode) (next : ℕ) → Agree past is mode next → Asks past is (looks past) → Keeps (SearchFor n ∷ past) (audit.searches (turn_inside n is) is next)
turn_keeps n past is mode next h a = go (turn_inside n is) refl
  where
    go : (o : Option (List ℕ)) → turn_inside n is ≡ o → Keeps (SearchFor n ∷ past) (audit.searches o is next)
    go None e = tt
    go (Some ins) e = search_agrees n true ins past is mode next h (subst (λ es. TurnAt past next (event_of n es) true ins) (sym h.opened_are) (turn_found past n next is ins h.ordered h.items e)) a

-- ---- no search is open, or it asks

action_other : (k m : ℕ) (past : Past) → k < m → had_action k (Action m ∷ past) ≡ had_action k past
action_other k m past l = ap (λ c. if c then true else had_action k past) (other k m l)

action_agrees : (m : ℕ) (kind kind' : Kind) (ins : List ℕ) (past : Past) (is : List Item) (next : ℕ) → line_by kind m ≡ line_by kind' m → ActedIs (Action m ∷ past) kind' m → EntryBelow kind' m → Agree past (item m kind ins ∷ is) Calm next → (Asks past (item m kind ins ∷ is) (looks past) → Asks past is (looks past)) → (Asks (Action m ∷ past) is (looks past) → Asks (Action m ∷ past) (item m kind' ins ∷ is) (looks past)) → Agree (Action m ∷ past) (item m kind' ins ∷ is) Calm next
action_agrees m kind kind' ins past is next e a b h down up =
    let below : SameBelow m past (Action m ∷ past) = λ k l. (refl, action_other k m past l) in
    let old = h.items.0 in
    record {
      opened_are = h.opened_are ∙ ap (λ d. d ∷ lines is) e;
      new_is = h.new_is;
      ordered = h.ordered;
      items = (record { inside_is = old.inside_is ∙ ap (λ d. inside d (beginning past)) e; chain = old.chain; entry = b; acted = a }, items_same m past (Action m ∷ past) is below h.ordered.1 h.items.1);
      mode_is = calm_of (Action m ∷ past) (item m kind' ins ∷ is) (looks past) (up (asks_same m past (Action m ∷ past) is (looks past) below h.ordered.1 (down h.mode_is.1)));
    }

acts_keep : (m : ℕ) (kind : Kind) (ins : List ℕ) (past : Past) (is : List Item) (next : ℕ) → Agree past (item m kind ins ∷ is) Calm next → Keeps (Action m ∷ past) (audit.acts kind m ins is next)
acts_keep m (ByEnsure false) ins past is next h = action_agrees m (ByEnsure false) (ByEnsure true) ins past is next refl (here m _ _) tt h (λ k. k) (λ k. k)
acts_keep m (ByCurtail false) ins past is next h = action_agrees m (ByCurtail false) (ByCurtail true) ins past is next refl (here m _ _) tt h (λ k. k) (λ k. k)
acts_keep m (ByEnsure true) ins past is next h = tt
acts_keep m (ByCurtail true) ins past is next h = tt
acts_keep m ByProtect ins past is next h = tt
acts_keep m BySignal ins past is next h = tt
acts_keep m ByOuter ins past is next h = tt
acts_keep m ByDefault ins past is next h = tt
acts_keep m (ByHandle e) ins past is next h = tt
acts_keep m (ByAsk e x) ins past is next h = tt

action_keeps : (n : ℕ) (past : Past) (is : List Item) (next : ℕ) → Agree past is Calm next → Keeps (Action n ∷ past) (of_innermost n audit.acts is next)
action_keeps n past [] next h = tt
action_keeps n past (i ∷ is) next h = keeps_at n i.number (λ k. Action k ∷ past) (audit.acts i.kind i.number i.inside is next) (acts_keep i.number i.kind i.inside past is next h)

again_agrees : (m n : ℕ) (ins : List ℕ) (past : Past) (is : List Item) (next : ℕ) → Agree past (item m ByProtect ins ∷ is) Calm next → Agree (Again n ∷ past) (item m ByProtect ins ∷ is) Calm next
again_agrees m n ins past is next h =
    let js = item m ByProtect ins ∷ is in
    let same : SameBelow next past (Again n ∷ past) = λ k l. (refl, refl) in
    record {
      opened_are = h.opened_are;
      new_is = h.new_is;
      ordered = h.ordered;
      items = items_same next past (Again n ∷ past) js same h.ordered h.items;
      mode_is = calm_of (Again n ∷ past) js (looks past) (asks_same next past (Again n ∷ past) js (looks past) same h.ordered h.mode_is.1);
    }

repeats_keep : (m n : ℕ) (kind : Kind) (ins : List ℕ) (past : Past) (is : List Item) (next : ℕ) → Agree past (item m kind ins ∷ is) Calm next → Keeps (Again n ∷ past) (audit.repeats kind m ins is next)
repeats_keep m n ByProtect ins past is next h = again_agrees m n ins past is next h
repeats_keep m n BySignal ins past is next h = tt
repeats_keep m n ByOuter ins past is next h = tt
repeats_keep m n ByDefault ins past is next h = tt
repeats_keep m n (ByHandle e) ins past is next h = tt
repeats_keep m n (ByEnsure a) ins past is next h = tt
repeats_keep m n (ByCurtail a) ins past is next h = tt
repeats_keep m n (ByAsk e x) ins past is next h = tt

again_keeps : (n : ℕ) (past : Past) (is : List Item) (next : ℕ) → Agree past is Calm next → Keeps (Again n ∷ past) (of_innermost n audit.repeats is next)
again_keeps n past [] next h = tt
again_keeps n past (i ∷ is) next h = keeps_at n i.number (λ k. Again n ∷ past) (audit.repeats i.kind i.number i.inside is next) (repeats_keep i.number n i.kind i.inside past is next h)

-- ---- an end

module _ (m : ℕ) (cut : Bool) (kind : Kind) (ins : List ℕ) (past : Past) (is : List Item) (next : ℕ) (h : Agree past (item m kind ins ∷ is) Calm next) where
  abbrev after_end : Past
  after_end = End m cut ∷ past

  same_end : SameBelow m past after_end
  same_end = λ k l. (refl, refl)

  end_agrees : (mode' : Mode) → ModeOk after_end next mode' is (looks after_end) → Agree after_end is mode' next
  end_agrees mode' o =
      record {
        opened_are = ap (without m) h.opened_are ∙ ap (λ c. if c then lines is else line_by kind m ∷ without m (lines is)) (begins_line m kind m ∙ eq-eqb m m refl);
        new_is = h.new_is;
        ordered = ordered_later m next is (omega (arith, h.ordered.0)) h.ordered.1;
        items = items_same m past after_end is same_end h.ordered.1 h.items.1;
        mode_is = o;
      }

  -- what isn't an ask leaves the searches as they are
  plain_end : Asks past is (looks past) → Agree after_end is Calm next
  plain_end a =
      let kept : looks after_end ≡ looks past = ap (λ c. answered_by c cut (End m cut) (looks past)) (not_asked past m m is (looks past) (omega arith) h.ordered.1 a) in
      let a' : Asks after_end is (looks after_end) = subst (λ ls. Asks after_end is ls) (sym kept) (asks_same m past after_end is (looks past) same_end h.ordered.1 a) in
      end_agrees Calm (calm_of after_end is (looks after_end) a')

asked_as : (past : Past) (m n : ℕ) (x : Search) (below : List Look → Type 0) (ls : List Look) → Asked past m n x below ls → is_asked_as m ls ≡ true
asked_as past m n x below ls a = ap (is_asked_as m) a.looks_are ∙ ap (λ es. Rattle.st_trace.specs.Disciplined.is_number m (asks_now es)) a.events_are ∙ eq-eqb m m refl

-- the cut of its ask closes a search
ask_cut : (m n : ℕ) (x : Search) (ins : List ℕ) (past : Past) (is : List Item) (next : ℕ) → Agree past (item m (ByAsk n x) ins ∷ is) Calm next → Agree (End m true ∷ past) is Calm next
ask_cut m n x ins past is next h =
    let a = h.mode_is.1 in
    let after = End m true ∷ past in
    let left : looks after ≡ a.others = ap (λ c. answered_by c true (End m true) (looks past)) (asked_as past m n x (Asks past is) (looks past) a) ∙ ap over a.looks_are in
    let a' : Asks after is (looks after) = subst (λ ls. Asks after is ls) (sym left) (asks_same m past after is a.others (λ k l. (refl, refl)) h.ordered.1 a.rest) in
    end_agrees m true (ByAsk n x) ins past is next h Calm (calm_of after is (looks after) a')

unasked_more : (e : Event) → ((k : ℕ) (es : List Event) → wait_of k (e ∷ es) ≡ wait_of k es) → (env : List ℕ) (es : List Event) → Unasked env es → Unasked env (e ∷ es)
unasked_more e alike [] es h = tt
unasked_more e alike (k ∷ env) es h = (alike k es ∙ h.0, unasked_more e alike env es h.1)

untried_same : (e : Event) → ((k : ℕ) (es : List Event) → was_tried k (e ∷ es) ≡ was_tried k es) → (env : List ℕ) (es : List Event) → untried env (e ∷ es) ≡ untried env es
untried_same e alike [] es = refl
untried_same e alike (k ∷ env) es = ap (λ c. if c then untried env (e ∷ es) else k ∷ untried env (e ∷ es)) (alike k es) ∙ ap (λ v. if was_tried k es then v else k ∷ v) (untried_same e alike env es)

-- and its end leaves the entry to be tried
ask_end : (m n : ℕ) (x : Search) (ins : List ℕ) (past : Past) (is : List Item) (next : ℕ) → Agree past (item m (ByAsk n x) ins ∷ is) Calm next → Agree (End m false ∷ past) is (Answered n x) next
ask_end m n x ins past is next h =
    let a = h.mode_is.1 in
    let after = End m false ∷ past in
    let look : Look = record { searcher = a.look.searcher; events = End m false ∷ a.look.events } in
    let now : looks after ≡ look ∷ a.others = ap (λ c. answered_by c false (End m false) (looks past)) (asked_as past m n x (Asks past is) (looks past) a) ∙ ap (noted (End m false)) a.looks_are in
    let same : SameBelow m past after = λ k l. (refl, refl) in
    let le : m ≤ next = omega (arith, h.ordered.0) in
    end_agrees m false (ByAsk n x) ins past is next h (Answered n x) (
      record {
        look = look;
        others = a.others;
        looks_are = now;
        due_is = ap due_in now;
        search = search_same past after m next look x (n ∷ x.left) same le (record { whole = a.search.whole; turn = a.search.turn; below = a.search.below; whole_chain = a.search.whole_chain; left_chain = a.search.left_chain });
        asks = asks_same m past after is a.others same h.ordered.1 a.rest;
      },
      record {
        left_is = untried_same (End m false) (λ k es. refl) x.whole a.look.events ∙ a.left.left_is;
        none_fits = a.left.none_fits;
        unasked = unasked_more (End m false) (λ k es. refl) x.left a.look.events a.left.unasked;
      },
      (m, ap (λ es. wait_of n (End m false ∷ es)) a.events_are ∙ here n _ _, eq-eqb m m refl),
    )

ends_keep : (m : ℕ) (cut : Bool) (kind : Kind) (ins : List ℕ) (past : Past) (is : List Item) (next : ℕ) → Agree past (item m kind ins ∷ is) Calm next → Keeps (End m cut ∷ past) (audit.ends kind cut is next)
ends_keep m cut ByProtect ins past is next h = plain_end m cut ByProtect ins past is next h h.mode_is.1
ends_keep m cut BySignal ins past is next h = plain_end m cut BySignal ins past is next h h.mode_is.1
ends_keep m cut ByOuter ins past is next h = plain_end m cut ByOuter ins past is next h h.mode_is.1
ends_keep m cut ByDefault ins past is next h = plain_end m cut ByDefault ins past is next h h.mode_is.1
ends_keep m true (ByHandle e) ins past is next h = plain_end m true (ByHandle e) ins past is next h h.mode_is.1
ends_keep m false (ByHandle e) ins past is next h = tt
ends_keep m cut (ByEnsure true) ins past is next h = plain_end m cut (ByEnsure true) ins past is next h h.mode_is.1
ends_keep m cut (ByEnsure false) ins past is next h = tt
ends_keep m true (ByCurtail true) ins past is next h = plain_end m true (ByCurtail true) ins past is next h h.mode_is.1
ends_keep m false (ByCurtail false) ins past is next h = plain_end m false (ByCurtail false) ins past is next h h.mode_is.1
ends_keep m false (ByCurtail true) ins past is next h = tt
ends_keep m true (ByCurtail false) ins past is next h = tt
ends_keep m true (ByAsk e x) ins past is next h = ask_cut m e x ins past is next h
ends_keep m false (ByAsk e x) ins past is next h = ask_end m e x ins past is next h

end_keeps : (n : ℕ) (cut : Bool) (past : Past) (is : List Item) (next : ℕ) → Agree past is Calm next → Keeps (End n cut ∷ past) (calm (End n cut) is next)
end_keeps n cut past [] next h = tt
end_keeps n cut past (i ∷ is) next h = keeps_at n i.number (λ k. End k cut ∷ past) (audit.ends i.kind cut is next) (ends_keep i.number cut i.kind i.inside past is next h)

calm_keeps : (past : Past) (is : List Item) (next : ℕ) → Agree past is Calm next → (e : Event) → Keeps (e ∷ past) (calm e is next)
calm_keeps past is next h (Protect n) = keeps_if (Protect n ∷ past) (nat_le next n) _ (λ t.
    let le = le_of next n t in
    let env = env_begun ByProtect n past is Calm next h in
    begin_agrees ByProtect n (n ∷ inside_of is) Calm past is Calm next h le (record { inside_is = ap (λ v. n ∷ v) (sym env); chain = (omega arith, env, chain_begun ByProtect n n past (inside_of is) (omega arith) (chain_later (beginning past) next n (inside_of is) le (env_chain past next is h.ordered h.items))); entry = tt; acted = tt })
    (calm_of (Protect n ∷ past) (item n ByProtect (n ∷ inside_of is) ∷ is) (looks past) (asks_still ByProtect n past is Calm next h le (looks past) h.mode_is.1)))
calm_keeps past is next h (Ensure n) = keeps_if (Ensure n ∷ past) (nat_le next n) _ (λ t.
    let le = le_of next n t in
    begin_agrees (ByEnsure false) n (inside_of is) Calm past is Calm next h le (plain_item (ByEnsure false) n past is Calm next h le refl tt (action_begun (ByEnsure false) n n past ∙ here n _ _))
    (calm_of (Ensure n ∷ past) (item n (ByEnsure false) (inside_of is) ∷ is) (looks past) (asks_still (ByEnsure false) n past is Calm next h le (looks past) h.mode_is.1)))
calm_keeps past is next h (Curtail n) = keeps_if (Curtail n ∷ past) (nat_le next n) _ (λ t.
    let le = le_of next n t in
    begin_agrees (ByCurtail false) n (inside_of is) Calm past is Calm next h le (plain_item (ByCurtail false) n past is Calm next h le refl tt (action_begun (ByCurtail false) n n past ∙ here n _ _))
    (calm_of (Curtail n ∷ past) (item n (ByCurtail false) (inside_of is) ∷ is) (looks past) (asks_still (ByCurtail false) n past is Calm next h le (looks past) h.mode_is.1)))
calm_keeps past is next h (Signal n) = keeps_if (Signal n ∷ past) (nat_le next n) _ (λ t.
    let le = le_of next n t in
    begin_agrees BySignal n (inside_of is) MustSearch past is Calm next h le (plain_item BySignal n past is Calm next h le refl tt tt)
    (n, inside_of is, is, refl, refl, asks_still BySignal n past is Calm next h le (looks past) h.mode_is.1))
calm_keeps past is next h (Outer n) = keeps_if (Outer n ∷ past) (nat_le next n) _ (λ t.
    let le = le_of next n t in
    begin_agrees ByOuter n (inside_of is) MustTurn past is Calm next h le (plain_item ByOuter n past is Calm next h le refl tt tt)
    (refl, asks_still ByOuter n past is Calm next h le (looks past) h.mode_is.1))
calm_keeps past is next h (SearchFor n) = turn_keeps n past is Calm next h h.mode_is.1
calm_keeps past is next h (Action n) = action_keeps n past is next h
calm_keeps past is next h (Again n) = again_keeps n past is next h
calm_keeps past is next h (End n cut) = end_keeps n cut past is next h
calm_keeps past is next h (Tried n f) = tt
calm_keeps past is next h (Handle m n) = tt
calm_keeps past is next h (Default m) = tt
calm_keeps past is next h Known = tt
calm_keeps past is next h (Ask w n) = tt

-- ---- a signal, or an outer point, was begun just now

signal_searches : (n : ℕ) (ins : List ℕ) (below : List Item) (past : Past) (next : ℕ) → Agree past (item n BySignal ins ∷ below) MustSearch next → Asks past below (looks past) → Agree (SearchFor n ∷ past) (item n BySignal ins ∷ below) (Looks (looking false ins ins)) next
signal_searches n ins below past next h a =
    let event : event_of n (opened past) ≡ Signal n = ap (event_of n) h.opened_are ∙ here n _ _ in
    let at : TurnAt past next (Signal n) false ins = record { whole = sym h.items.0.inside_is; turn = refl; below = h.ordered.0; chain = chain_later (beginning past) (n + 1) next ins (omega (arith, h.ordered.0)) h.items.0.chain } in
    search_agrees n false ins past (item n BySignal ins ∷ below) MustSearch next h (subst (λ e. TurnAt past next e false ins) (sym event) at) a

signal_keeps : (n : ℕ) (ins : List ℕ) (below : List Item) (past : Past) (next : ℕ) → Agree past (item n BySignal ins ∷ below) MustSearch next → Asks past below (looks past) → (e : Event) → Keeps (e ∷ past) (of_signal e (item n BySignal ins ∷ below) next)
signal_keeps n ins below past next h a (SearchFor m) = keeps_at m n (λ k. SearchFor k ∷ past) (Some (auditor (item n BySignal ins ∷ below) (Looks (looking false ins ins)) next)) (signal_searches n ins below past next h a)
signal_keeps n ins below past next h a (Protect m) = tt
signal_keeps n ins below past next h a (Ensure m) = tt
signal_keeps n ins below past next h a (Curtail m) = tt
signal_keeps n ins below past next h a (Signal m) = tt
signal_keeps n ins below past next h a (Outer m) = tt
signal_keeps n ins below past next h a (Tried m f) = tt
signal_keeps n ins below past next h a (Handle m k) = tt
signal_keeps n ins below past next h a (Default m) = tt
signal_keeps n ins below past next h a Known = tt
signal_keeps n ins below past next h a (Action m) = tt
signal_keeps n ins below past next h a (Again m) = tt
signal_keeps n ins below past next h a (Ask w m) = tt
signal_keeps n ins below past next h a (End m c) = tt

outer_keeps : (past : Past) (is : List Item) (next : ℕ) → Agree past is MustTurn next → (e : Event) → Keeps (e ∷ past) (of_outer e is next)
outer_keeps past is next h (SearchFor m) = turn_keeps m past is MustTurn next h h.mode_is.1
outer_keeps past is next h (Protect m) = tt
outer_keeps past is next h (Ensure m) = tt
outer_keeps past is next h (Curtail m) = tt
outer_keeps past is next h (Signal m) = tt
outer_keeps past is next h (Outer m) = tt
outer_keeps past is next h (Tried m f) = tt
outer_keeps past is next h (Handle m k) = tt
outer_keeps past is next h (Default m) = tt
outer_keeps past is next h Known = tt
outer_keeps past is next h (Action m) = tt
outer_keeps past is next h (Again m) = tt
outer_keeps past is next h (Ask w m) = tt
outer_keeps past is next h (End m c) = tt

-- ---- in a search

-- of falling entries behind one that was tried none is it
untried_tried : (at : ℕ → Place) (m : ℕ) (f : Bool) (env : List ℕ) (es : List Event) → ((k : ℕ) → was_tried k (Tried m f ∷ es) ≡ (if nat_eq k m then true else was_tried k es)) → Chain at m env → untried env (Tried m f ∷ es) ≡ untried env es
untried_tried at m f [] es s c = refl
untried_tried at m f (k ∷ env) es s c =
    let o : was_tried k (Tried m f ∷ es) ≡ was_tried k es = s k ∙ ap (λ b. if b then true else was_tried k es) (other k m c.0) in
    ap (λ b. if b then untried env (Tried m f ∷ es) else k ∷ untried env (Tried m f ∷ es)) o ∙ ap (λ v. if was_tried k es then v else k ∷ v) (untried_tried at m f env es s (chain_later at k m env (omega (arith, c.0)) c.2))

-- with the first of those that weren't tried, the others are left
untried_more : (at : ℕ → Place) (b m : ℕ) (f : Bool) (env left : List ℕ) (es : List Event) → Chain at b env → untried env es ≡ m ∷ left → untried env (Tried m f ∷ es) ≡ left
untried_more at b m f [] left es c e = let none : ⊥ = grind (arith, e) in absurd none
untried_more at b m f (k ∷ env) left es c e = go (was_tried k es) refl e (untried_more at k m f env left es c.2)
  where
    go : (d : Bool) → was_tried k es ≡ d → (if d then untried env es else k ∷ untried env es) ≡ m ∷ left → (untried env es ≡ m ∷ left → untried env (Tried m f ∷ es) ≡ left) → (if (if nat_eq k m then true else was_tried k es) then untried env (Tried m f ∷ es) else k ∷ untried env (Tried m f ∷ es)) ≡ left
    go true q e on =
        let same : (if nat_eq k m then true else was_tried k es) ≡ true = ap (λ b. if nat_eq k m then true else b) q ∙ both (nat_eq k m) in
        ap (λ b. if b then untried env (Tried m f ∷ es) else k ∷ untried env (Tried m f ∷ es)) same ∙ on e
      where
        both : (b : Bool) → (if b then true else true) ≡ true
        both true = refl
        both false = refl
    go false q e on =
        let first : k ≡ m = grind (arith, e) in
        let rest : untried env es ≡ left = grind (arith, e) in
        let same : (if nat_eq k m then true else was_tried k es) ≡ true = ap (λ b. if b then true else was_tried k es) (eq-eqb k m first) in
        ap (λ b. if b then untried env (Tried m f ∷ es) else k ∷ untried env (Tried m f ∷ es)) same ∙ untried_tried at m f env es (λ j. refl) (subst (λ j. Chain at j env) first c.2) ∙ rest

if_so : (b : Bool) → (if b then true else false) ≡ b
if_so true = refl
if_so false = refl

module _ (past : Past) (is : List Item) (mode : Mode) (next : ℕ) (h : Agree past is mode next) (x : Search) where
  -- the first entry left is tried
  module _ (m : ℕ) (left : List ℕ) (s : Searches past next x (m ∷ left) is (looks past)) (o : LeftOk x s.look.events (m ∷ left) left) where
    abbrev tried_look : Bool → Look
    tried_look f = record { searcher = s.look.searcher; events = Tried m f ∷ s.look.events }

    tried_looks : (f : Bool) → looks (Tried m f ∷ past) ≡ tried_look f ∷ s.others
    tried_looks f = ap (noted (Tried m f)) s.looks_are

    tried_same : (f : Bool) → SameBelow next past (Tried m f ∷ past)
    tried_same f = λ k l. (refl, refl)

    tried_searches : (f : Bool) (y : Search) (left' : List ℕ) → SearchOk past next (tried_look f) y left' → Searches (Tried m f ∷ past) next y left' is (looks (Tried m f ∷ past))
    tried_searches f y left' k =
        record {
          look = tried_look f;
          others = s.others;
          looks_are = tried_looks f;
          due_is = ap due_in (tried_looks f);
          search = search_same past (Tried m f ∷ past) next next (tried_look f) y left' (tried_same f) (omega arith) k;
          asks = asks_same next past (Tried m f ∷ past) is s.others (tried_same f) h.ordered s.asks;
        }

    tried_agrees : (f : Bool) (mode' : Mode) → ModeOk (Tried m f ∷ past) next mode' is (looks (Tried m f ∷ past)) → Agree (Tried m f ∷ past) is mode' next
    tried_agrees f mode' k = record { opened_are = h.opened_are; new_is = h.new_is; ordered = h.ordered; items = items_same next past (Tried m f ∷ past) is (tried_same f) h.ordered h.items; mode_is = k }

    judged_keeps : (n : ℕ) (f : Bool) → Keeps (Tried n f ∷ past) (judged n f x.of_turn x.whole (m ∷ left) is next)
    unfolding tried_searches
    judged_keeps n true =
        let found : SearchOk past next (tried_look true) (looking x.of_turn x.whole left) (m ∷ left) = record { whole = s.search.whole; turn = s.search.turn; below = s.search.below; whole_chain = s.search.whole_chain; left_chain = s.search.left_chain } in
        keeps_at n m (λ k. Tried k true ∷ past) (Some (auditor is (Fits m (looking x.of_turn x.whole left)) next))
        (tried_agrees true (Fits m (looking x.of_turn x.whole left)) (tried_searches true (looking x.of_turn x.whole left) (m ∷ left) found, refl, λ k. ap (λ b. if nat_eq k m then true else b) (none_fitted k s.look.events o.none_fits) ∙ if_so (nat_eq k m)))
    judged_keeps n false =
        let chain = s.search.left_chain in
        let found : SearchOk past next (tried_look false) (looking x.of_turn x.whole left) left = record { whole = s.search.whole; turn = s.search.turn; below = s.search.below; whole_chain = s.search.whole_chain; left_chain = chain_later (beginning past) m next left (omega (arith, chain.0)) chain.2 } in
        keeps_at n m (λ k. Tried k false ∷ past) (Some (auditor is (Looks (looking x.of_turn x.whole left)) next))
        (tried_agrees false (Looks (looking x.of_turn x.whole left)) (tried_searches false (looking x.of_turn x.whole left) left found, record { left_is = untried_more (beginning past) next m false x.whole left s.look.events s.search.whole_chain o.left_is; none_fits = o.none_fits; unasked = unasked_more (Tried m false) (λ k es. refl) left s.look.events o.unasked }))

  -- ---- the end of a search

  ended_looks : (left : List ℕ) → (s : Searches past next x left is (looks past)) → over (looks past) ≡ s.others
  ended_looks left s = ap over s.looks_are

  -- a turn, or a default action, is begun
  turn_begun : (kind : Kind) (n : ℕ) (left ins : List ℕ) (s : Searches past next x left is (looks past)) → next ≤ n → looks (line_by kind n ∷ past) ≡ over (looks past) → ItemOk (line_by kind n ∷ past) n kind ins → ((ls : List Look) → due_in ls ≡ Anything → due_in (looks (line_by kind n ∷ past)) ≡ Anything → due (line_by kind n ∷ past) ≡ Anything) → (Asks (line_by kind n ∷ past) is (looks (line_by kind n ∷ past)) → Asks (line_by kind n ∷ past) (item n kind ins ∷ is) (looks (line_by kind n ∷ past))) → Agree (line_by kind n ∷ past) (item n kind ins ∷ is) Calm (n + 1)
  turn_begun kind n left ins s le e i d up =
      let now : looks (line_by kind n ∷ past) ≡ s.others = e ∙ ended_looks left s in
      let a : Asks (line_by kind n ∷ past) is (looks (line_by kind n ∷ past)) = subst (λ ls. Asks (line_by kind n ∷ past) is ls) (sym now) (asks_still kind n past is mode next h le s.others s.asks) in
      let calm' = due_asks (line_by kind n ∷ past) is (looks (line_by kind n ∷ past)) a in
      begin_agrees kind n ins Calm past is mode next h le i (d (looks (line_by kind n ∷ past)) calm' calm', up a)

  handle_agrees : (n m : ℕ) (left : List ℕ) (s : Searches past next x (m ∷ left) is (looks past)) → next ≤ n → Agree (Handle n m ∷ past) (item n (ByHandle m) left ∷ is) Calm (n + 1)
  handle_agrees n m left s le =
      let chain = chain_begun (ByHandle m) n next past (m ∷ left) le s.search.left_chain in
      turn_begun (ByHandle m) n (m ∷ left) left s le refl (record { inside_is = sym chain.1; chain = chain_later (beginning (Handle n m ∷ past)) m (n + 1) left (omega (arith, chain.0, le)) chain.2; entry = omega (arith, chain.0, le); acted = tt }) (λ ls a b. b) (λ a. a)

  default_agrees : (n : ℕ) (left : List ℕ) (s : Searches past next x left is (looks past)) → next ≤ n → Agree (Default n ∷ past) (item n ByDefault x.whole ∷ is) Calm (n + 1)
  default_agrees n left s le =
      let at : (beginning (Default n ∷ past) n).searched ≡ x.whole = ap (λ (y : Place). y.searched) (place_begun ByDefault n n past ∙ here n _ _) ∙ ap (λ ls. searched_in ls (beginning past)) s.looks_are ∙ s.search.whole in
      turn_begun ByDefault n left x.whole s le refl (record { inside_is = sym at; chain = chain_later (beginning (Default n ∷ past)) next (n + 1) x.whole (omega (arith, le)) (chain_begun ByDefault n next past x.whole le s.search.whole_chain); entry = tt; acted = tt }) (λ ls a b. b) (λ a. a)

  known_agrees : (left : List ℕ) (s : Searches past next x left is (looks past)) → Agree (Known ∷ past) is Calm next
  known_agrees left s =
      let same : SameBelow next past (Known ∷ past) = λ k l. (refl, refl) in
      let a : Asks (Known ∷ past) is (over (looks past)) = subst (λ ls. Asks (Known ∷ past) is ls) (sym (ended_looks left s)) (asks_same next past (Known ∷ past) is s.others same h.ordered s.asks) in
      record { opened_are = h.opened_are; new_is = h.new_is; ordered = h.ordered; items = items_same next past (Known ∷ past) is same h.ordered h.items; mode_is = calm_of (Known ∷ past) is (over (looks past)) a }

  known_keeps : (c : Bool) (left : List ℕ) (s : Searches past next x left is (looks past)) → Keeps (Known ∷ past) (audit.known c is next)
  known_keeps true left s = known_agrees left s
  known_keeps false left s = tt

  -- ---- an ask

  unasked_ask : (w m : ℕ) (left : List ℕ) (es : List Event) → Chain (beginning past) m left → Unasked left es → Unasked left (Ask w m ∷ es)
  unasked_ask w m [] es c u = tt
  unasked_ask w m (k ∷ left) es c u = (ap (λ b. if b then Some w else wait_of k es) (other k m c.0) ∙ u.0, unasked_ask w m left es (chain_later (beginning past) k m left (omega (arith, c.0)) c.2) u.1)

  ask_agrees : (w m : ℕ) (left : List ℕ) (s : Searches past next x (m ∷ left) is (looks past)) → LeftOk x s.look.events (m ∷ left) left → next ≤ w → Agree (Ask w m ∷ past) (item w (ByAsk m (looking x.of_turn x.whole left)) left ∷ is) Calm (w + 1)
  ask_agrees w m left s o le =
      let y = looking x.of_turn x.whole left in
      let kind = ByAsk m y in
      let chain = chain_begun kind w next past (m ∷ left) le s.search.left_chain in
      let look : Look = record { searcher = s.look.searcher; events = Ask w m ∷ s.look.events } in
      let found : SearchOk past next look y (m ∷ left) = record { whole = s.search.whole; turn = s.search.turn; below = s.search.below; whole_chain = s.search.whole_chain; left_chain = s.search.left_chain } in
      let a : Asks (Ask w m ∷ past) (item w kind left ∷ is) (looks (Ask w m ∷ past)) =
      record {
        look = look;
        others = s.others;
        before = s.look.events;
        looks_are = ap (noted (Ask w m)) s.looks_are;
        events_are = refl;
        search = search_same past (Ask w m ∷ past) next w look y (m ∷ left) (same_begun kind w next past le) le found;
        left = record { left_is = untried_same (Ask w m) (λ k es. refl) x.whole s.look.events ∙ o.left_is; none_fits = o.none_fits; unasked = unasked_ask w m left s.look.events s.search.left_chain.2 o.unasked };
        rest = asks_still kind w past is mode next h le s.others s.asks;
      }
      in
      begin_agrees kind w left Calm past is mode next h le (record { inside_is = sym chain.1; chain = chain_later (beginning (Ask w m ∷ past)) m (w + 1) left (omega (arith, chain.0, le)) chain.2; entry = omega (arith, chain.0, le); acted = tt }) (calm_of (Ask w m ∷ past) (item w kind left ∷ is) (looks (Ask w m ∷ past)) a)

  -- ---- by mode

  looks_keeps : (left : List ℕ) (s : Searches past next x left is (looks past)) → LeftOk x s.look.events left left → (e : Event) → Keeps (e ∷ past) (audit.looks e x.of_turn x.whole left is next)
  looks_keeps [] s o (Tried n true) = tt
  looks_keeps [] s o (Tried n false) = tt
  looks_keeps (m ∷ left) s o (Tried n f) = judged_keeps m left s (record { left_is = o.left_is; none_fits = o.none_fits; unasked = o.unasked.1 }) n f
  looks_keeps [] s o (Ask w n) = tt
  looks_keeps (m ∷ left) s o (Ask w n) =
      keeps_at n m (λ k. Ask w k ∷ past) (begun w (ByAsk m (looking x.of_turn x.whole left)) left Calm is next)
      (keeps_if (Ask w m ∷ past) (nat_le next w) _ (λ t. ask_agrees w m left s (record { left_is = o.left_is; none_fits = o.none_fits; unasked = o.unasked.1 }) (le_of next w t)))
  looks_keeps [] s o (Default m) = keeps_if (Default m ∷ past) (nat_le next m) _ (λ t. default_agrees m [] s (le_of next m t))
  looks_keeps (k ∷ left) s o (Default m) = tt
  looks_keeps [] s o Known = known_keeps x.of_turn [] s
  looks_keeps (k ∷ left) s o Known = tt
  looks_keeps left s o (Handle m n) = tt
  looks_keeps left s o (Protect m) = tt
  looks_keeps left s o (Ensure m) = tt
  looks_keeps left s o (Curtail m) = tt
  looks_keeps left s o (Signal m) = tt
  looks_keeps left s o (Outer m) = tt
  looks_keeps left s o (SearchFor m) = tt
  looks_keeps left s o (Action m) = tt
  looks_keeps left s o (Again m) = tt
  looks_keeps left s o (End m c) = tt

  answered_keeps : (m : ℕ) (left : List ℕ) (s : Searches past next x (m ∷ left) is (looks past)) → LeftOk x s.look.events (m ∷ left) left → (e : Event) → Keeps (e ∷ past) (audit.answered e m x.of_turn x.whole left is next)
  answered_keeps m left s o (Tried n f) = judged_keeps m left s o n f
  answered_keeps m left s o (Ask w n) = tt
  answered_keeps m left s o (Default k) = tt
  answered_keeps m left s o Known = tt
  answered_keeps m left s o (Handle k n) = tt
  answered_keeps m left s o (Protect k) = tt
  answered_keeps m left s o (Ensure k) = tt
  answered_keeps m left s o (Curtail k) = tt
  answered_keeps m left s o (Signal k) = tt
  answered_keeps m left s o (Outer k) = tt
  answered_keeps m left s o (SearchFor k) = tt
  answered_keeps m left s o (Action k) = tt
  answered_keeps m left s o (Again k) = tt
  answered_keeps m left s o (End k c) = tt

  fits_keeps : (m : ℕ) (left : List ℕ) (s : Searches past next x (m ∷ left) is (looks past)) → (e : Event) → Keeps (e ∷ past) (audit.fits e m x.of_turn left is next)
  fits_keeps m left s (Handle n k) = keeps_at k m (λ j. Handle n j ∷ past) (begun n (ByHandle m) left Calm is next) (keeps_if (Handle n m ∷ past) (nat_le next n) _ (λ t. handle_agrees n m left s (le_of next n t)))
  fits_keeps m left s Known = known_keeps x.of_turn (m ∷ left) s
  fits_keeps m left s (Tried n f) = tt
  fits_keeps m left s (Ask w n) = tt
  fits_keeps m left s (Default k) = tt
  fits_keeps m left s (Protect k) = tt
  fits_keeps m left s (Ensure k) = tt
  fits_keeps m left s (Curtail k) = tt
  fits_keeps m left s (Signal k) = tt
  fits_keeps m left s (Outer k) = tt
  fits_keeps m left s (SearchFor k) = tt
  fits_keeps m left s (Action k) = tt
  fits_keeps m left s (Again k) = tt
  fits_keeps m left s (End k c) = tt

pub keeps : (past : Past) (is : List Item) (mode : Mode) (next : ℕ) → Agree past is mode next → (e : Event) → Keeps (e ∷ past) (by_mode mode e is next)
keeps past is Calm next h e = calm_keeps past is next h e
keeps past is MustSearch next h e =
    let m = h.mode_is in
    let h' : Agree past (item m.0 BySignal m.1 ∷ m.2) MustSearch next = subst (λ js. Agree past js MustSearch next) m.3 h in
    subst (λ js. Keeps (e ∷ past) (of_signal e js next)) (sym m.3) (signal_keeps m.0 m.1 m.2 past next h' (subst (λ js. Asks past js (looks past)) m.3 m.5) e)
keeps past is MustTurn next h e = outer_keeps past is next h e
keeps past is (Looks x) next h e = looks_keeps past is (Looks x) next h x x.left h.mode_is.0 h.mode_is.1 e
keeps past is (Answered n x) next h e = answered_keeps past is (Answered n x) next h x n x.left h.mode_is.0 h.mode_is.1 e
keeps past is (Fits n x) next h e = fits_keeps past is (Fits n x) next h x n x.left h.mode_is.0 e
