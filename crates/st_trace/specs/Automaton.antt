-- What an auditor keeps of the lines that it has read: the numbers that are open, the innermost first, and what may come next.
use Rattle.std.specs.Prelude.{ℕ, ◌+◌, Bool, true, false, List, [], ◌∷◌, Option, Some, None, nat_eq, nat_le, if◌then◌else◌}
use Rattle.st_rules.specs.Events.{Event, Protect, Ensure, Curtail, Signal, Outer, Search as SearchFor, Tried, Handle, Default, Known, Action, Again, Ask, End}
use Rattle.st_trace.specs.Lines.{Line, Tells, Stops}
use Rattle.st_trace.specs.declared.line.StopWord.{StopWord}
use Rattle.st_trace.specs.declared.line.StopWord.TheVariants.{Done, Unhandled, Steps, Depth, Cells, Integer}

-- a search: whether a turn searches, the environment that is searched, and its entries that weren't tried
pub record Search : Type 0 where
  pub of_turn : Bool
  pub whole : List ℕ
  pub left : List ℕ

-- how an open number was begun; of a turn with an entry that entry; of `ensure` and `curtail` whether the action was begun; of an ask the entry that is asked, and the search
pub data Kind : Type 0 where
  ByProtect BySignal ByOuter ByDefault : Kind
  ByHandle : (entry : ℕ) → Kind
  ByEnsure ByCurtail : (acted : Bool) → Kind
  ByAsk : (entry : ℕ) → Search → Kind

-- an open number, and the environment where it is the innermost
pub record Item : Type 0 where
  pub number : ℕ
  pub kind : Kind
  pub inside : List ℕ

-- no search is open, or it asks; a signal, or an outer point, was begun just now; a search is open; it asked this entry, and the answer came just now; this entry was tried with yes
pub data Mode : Type 0 where
  Calm MustSearch MustTurn : Mode
  Looks : Search → Mode
  Answered Fits : (entry : ℕ) → Search → Mode

-- each number begun is below `next`
pub record Auditor : Type 0 where
  pub open' : List Item
  pub mode : Mode
  pub next : ℕ

abbrev pub auditor : List Item → Mode → ℕ → Auditor
auditor open' mode next = record { open' = open'; mode = mode; next = next }

abbrev pub item : ℕ → Kind → List ℕ → Item
item number kind inside = record { number = number; kind = kind; inside = inside }

abbrev pub looking : Bool → List ℕ → List ℕ → Search
looking of_turn whole left = record { of_turn = of_turn; whole = whole; left = left }

-- before any line
abbrev pub first_auditor : Auditor
first_auditor = auditor [] Calm 0

-- the environment at a place
abbrev pub inside_of : List Item → List ℕ
inside_of [] = []
inside_of (i ∷ is) = i.inside

-- ---- transitions

-- a number is begun
abbrev pub begun : ℕ → Kind → List ℕ → Mode → List Item → ℕ → Option Auditor
begun n kind inside mode is next = if nat_le next n then Some (auditor (item n kind inside ∷ is) mode (n + 1)) else None

abbrev pub handled_by : Kind → List ℕ → Option (List ℕ)
handled_by (ByHandle n) inside = Some inside
handled_by _ inside = None

-- the environment in which the turn of this number runs, where it is open and has an entry
abbrev pub turn_inside : ℕ → List Item → Option (List ℕ)
turn_inside k [] = None
turn_inside k (i ∷ is) = if nat_eq k i.number then handled_by i.kind i.inside else turn_inside k is

abbrev pub searches : Option (List ℕ) → List Item → ℕ → Option Auditor
searches None is next = None
searches (Some inside) is next = Some (auditor is (Looks (looking true inside inside)) next)

abbrev pub acts : Kind → ℕ → List ℕ → List Item → ℕ → Option Auditor
acts (ByEnsure false) n inside is next = Some (auditor (item n (ByEnsure true) inside ∷ is) Calm next)
acts (ByCurtail false) n inside is next = Some (auditor (item n (ByCurtail true) inside ∷ is) Calm next)
acts _ n inside is next = None

abbrev pub repeats : Kind → ℕ → List ℕ → List Item → ℕ → Option Auditor
repeats ByProtect n inside is next = Some (auditor (item n ByProtect inside ∷ is) Calm next)
repeats _ n inside is next = None

-- the innermost open number ends, by a value or by an unwinding
abbrev pub ends : Kind → (cut : Bool) → List Item → ℕ → Option Auditor
ends ByProtect cut is next = Some (auditor is Calm next)
ends BySignal cut is next = Some (auditor is Calm next)
ends ByOuter cut is next = Some (auditor is Calm next)
ends ByDefault cut is next = Some (auditor is Calm next)
ends (ByHandle n) true is next = Some (auditor is Calm next)
ends (ByHandle n) false is next = None
ends (ByEnsure true) cut is next = Some (auditor is Calm next)
ends (ByEnsure false) cut is next = None
ends (ByCurtail true) true is next = Some (auditor is Calm next)
ends (ByCurtail false) false is next = Some (auditor is Calm next)
ends (ByCurtail true) false is next = None
ends (ByCurtail false) true is next = None
ends (ByAsk n x) true is next = Some (auditor is Calm next)
ends (ByAsk n x) false is next = Some (auditor is (Answered n x) next)

-- what is said of the innermost open number
abbrev pub of_innermost : ℕ → (Kind → ℕ → List ℕ → List Item → ℕ → Option Auditor) → List Item → ℕ → Option Auditor
of_innermost n to [] next = None
of_innermost n to (i ∷ is) next = if nat_eq n i.number then to i.kind i.number i.inside is next else None

abbrev pub calm : Event → List Item → ℕ → Option Auditor
calm (Protect n) is next = begun n ByProtect (n ∷ inside_of is) Calm is next
calm (Ensure n) is next = begun n (ByEnsure false) (inside_of is) Calm is next
calm (Curtail n) is next = begun n (ByCurtail false) (inside_of is) Calm is next
calm (Signal n) is next = begun n BySignal (inside_of is) MustSearch is next
calm (Outer n) is next = begun n ByOuter (inside_of is) MustTurn is next
calm (SearchFor n) is next = searches (turn_inside n is) is next
calm (Action n) is next = of_innermost n acts is next
calm (Again n) is next = of_innermost n repeats is next
calm (End n cut) is next = of_innermost n (λ kind m inside below next'. ends kind cut below next') is next
calm _ is next = None

-- the signal that was begun just now searches
abbrev pub of_signal : Event → List Item → ℕ → Option Auditor
of_signal (SearchFor n) (i ∷ is) next = if nat_eq n i.number then Some (auditor (i ∷ is) (Looks (looking false i.inside i.inside)) next) else None
of_signal _ is next = None

abbrev pub of_outer : Event → List Item → ℕ → Option Auditor
of_outer (SearchFor n) is next = searches (turn_inside n is) is next
of_outer _ is next = None

-- the first entry left is tried
abbrev pub judged : ℕ → Bool → Bool → List ℕ → List ℕ → List Item → ℕ → Option Auditor
judged n fits of_turn whole [] is next = None
judged n true of_turn whole (m ∷ left) is next = if nat_eq n m then Some (auditor is (Fits m (looking of_turn whole left)) next) else None
judged n false of_turn whole (m ∷ left) is next = if nat_eq n m then Some (auditor is (Looks (looking of_turn whole left)) next) else None

-- a search of a turn is over, and nothing is done
abbrev pub known : Bool → List Item → ℕ → Option Auditor
known true is next = Some (auditor is Calm next)
known false is next = None

abbrev pub looks : Event → Bool → List ℕ → List ℕ → List Item → ℕ → Option Auditor
looks (Tried n fits) of_turn whole left is next = judged n fits of_turn whole left is next
looks (Ask w n) of_turn whole (m ∷ left) is next = if nat_eq n m then begun w (ByAsk m (looking of_turn whole left)) left Calm is next else None
looks (Default m) of_turn whole [] is next = begun m ByDefault whole Calm is next
looks Known of_turn whole [] is next = known of_turn is next
looks _ of_turn whole left is next = None

abbrev pub answered : Event → (entry : ℕ) → Bool → List ℕ → List ℕ → List Item → ℕ → Option Auditor
answered (Tried n fits) m of_turn whole left is next = judged n fits of_turn whole (m ∷ left) is next
answered _ m of_turn whole left is next = None

abbrev pub fits : Event → (entry : ℕ) → Bool → List ℕ → List Item → ℕ → Option Auditor
fits (Handle m n) k of_turn left is next = if nat_eq n k then begun m (ByHandle k) left Calm is next else None
fits Known k of_turn left is next = known of_turn is next
fits _ k of_turn left is next = None

abbrev pub by_mode : Mode → Event → List Item → ℕ → Option Auditor
by_mode Calm e is next = calm e is next
by_mode MustSearch e is next = of_signal e is next
by_mode MustTurn e is next = of_outer e is next
by_mode (Looks x) e is next = looks e x.of_turn x.whole x.left is next
by_mode (Answered n x) e is next = answered e n x.of_turn x.whole x.left is next
by_mode (Fits n x) e is next = fits e n x.of_turn x.left is next

abbrev pub accepts : Event → Auditor → Option Auditor
accepts e a = by_mode a.mode e a.open' a.next

-- ---- lists of lines

abbrev pub accepts_by : Event → Option Auditor → Option Auditor
accepts_by e None = None
accepts_by e (Some a) = accepts e a

-- behind some events
abbrev pub after : Option Auditor → List Event → Option Auditor
after a [] = a
after a (e ∷ es) = after (accepts_by e a) es

unfoldable pub auditor_after : List Event → Option Auditor
auditor_after es = after (Some first_auditor) es

abbrev pub is_closed : List Item → Bool
is_closed [] = true
is_closed (i ∷ is) = false

-- behind each limit; at the other ends nothing is open
abbrev pub may_stop : StopWord → Auditor → Bool
may_stop Done a = is_closed a.open'
may_stop Unhandled a = is_closed a.open'
may_stop Steps a = true
may_stop Depth a = true
may_stop Cells a = true
may_stop Integer a = true

abbrev pub stops_by : StopWord → Option Auditor → Bool
stops_by w None = false
stops_by w (Some a) = may_stop w a

-- a whole list: its last line is a stop, the only one
abbrev pub accepts_all : Option Auditor → List Line → Bool
accepts_all a [] = false
accepts_all a (Tells e ∷ lines) = accepts_all (accepts_by e a) lines
accepts_all a (Stops w ∷ []) = stops_by w a
accepts_all a (Stops w ∷ line ∷ lines) = false
