-- What it is for a list of lines to be disciplined: each line is judged by the lines before it alone. `past` are the events before a place, the latest first.
use Rattle.std.specs.Prelude.{◌≡◌, ℕ, Bool, true, false, not, ◌&&◌, ◌||◌, List, [], ◌∷◌, Option, Some, None, nat_eq, nat_lt, if◌then◌else◌}
use Rattle.st_rules.specs.Events.{Event, Protect, Ensure, Curtail, Signal, Outer, Search, Tried, Handle, Default, Known, Action, Again, Ask, End}
use Rattle.st_trace.specs.Lines.{Line, Tells, Stops}
use Rattle.st_trace.specs.declared.line.StopWord.{StopWord}
use Rattle.st_trace.specs.declared.line.StopWord.TheVariants.{Done, Unhandled}

abbrev pub Past : Type 0
Past = List Event

-- ---- what is open

-- the number that an event begins
abbrev pub number_begun : Event → Option ℕ
number_begun (Protect n) = Some n
number_begun (Ensure n) = Some n
number_begun (Curtail n) = Some n
number_begun (Signal n) = Some n
number_begun (Outer n) = Some n
number_begun (Handle n entry) = Some n
number_begun (Default n) = Some n
number_begun (Ask n entry) = Some n
number_begun _ = None

abbrev pub is_number : ℕ → Option ℕ → Bool
is_number n None = false
is_number n (Some m) = nat_eq n m

abbrev pub begins : ℕ → Event → Bool
begins n e = is_number n (number_begun e)

abbrev pub is_above : ℕ → Option ℕ → Bool
is_above n None = true
is_above n (Some m) = nat_lt m n

-- a number is greater than all begun before it
abbrev pub is_new : ℕ → Past → Bool
is_new n [] = true
is_new n (e ∷ past) = is_above n (number_begun e) && is_new n past

abbrev pub without : ℕ → List Event → List Event
without n [] = []
without n (e ∷ es) = if begins n e then es else e ∷ without n es

abbrev pub opened_by : Option ℕ → Event → List Event → List Event
opened_by (Some n) e es = e ∷ es
opened_by None (End n cut) es = without n es
opened_by None e es = es

-- the numbers begun without `end` or `cut`, by the events that began them, the innermost first
abbrev pub opened : Past → List Event
opened [] = []
opened (e ∷ past) = opened_by (number_begun e) e (opened past)

-- the event by which this open number was begun; `known`, where it isn't open
abbrev pub event_of : ℕ → List Event → Event
event_of n [] = Known
event_of n (e ∷ es) = if begins n e then e else event_of n es

-- since it was begun it had its action
abbrev pub had_action : ℕ → Past → Bool
had_action n [] = false
had_action n (Action m ∷ past) = if nat_eq n m then true else had_action n past
had_action n (e ∷ past) = if begins n e then false else had_action n past

-- ---- which searches are open

-- a search: the signal or turn that searches, by the event that began it, and what came in this search, the latest first: `tried`, `ask`, and the `end` of an ask
pub record Look : Type 0 where
  pub searcher : Event
  pub events : List Event

abbrev pub noted : Event → List Look → List Look
noted e [] = []
noted e (l ∷ ls) = record { searcher = l.searcher; events = e ∷ l.events } ∷ ls

abbrev pub over : List Look → List Look
over [] = []
over (l ∷ ls) = ls

-- the number of the ask of this search that is open
abbrev pub asks_now : List Event → Option ℕ
asks_now (Ask w n ∷ es) = Some w
asks_now _ = None

-- an end of the ask that is open is of this search; its cut closes the search
abbrev pub answered_by : Bool → Bool → Event → List Look → List Look
answered_by false cut e ls = ls
answered_by true true e ls = over ls
answered_by true false e ls = noted e ls

abbrev pub is_asked_as : ℕ → List Look → Bool
is_asked_as w [] = false
is_asked_as w (l ∷ ls) = is_number w (asks_now l.events)

-- the searches that are open, the latest first: from `search` until its `handle`, `default`, `known`, or the `cut` of its `ask`
abbrev pub looks : Past → List Look
looks [] = []
looks (Search n ∷ past) = record { searcher = event_of n (opened past); events = [] } ∷ looks past
looks (Tried n fits ∷ past) = noted (Tried n fits) (looks past)
looks (Ask w n ∷ past) = noted (Ask w n) (looks past)
looks (Handle m n ∷ past) = over (looks past)
looks (Default m ∷ past) = over (looks past)
looks (Known ∷ past) = over (looks past)
looks (End w cut ∷ past) = answered_by (is_asked_as w (looks past)) cut (End w cut) (looks past)
looks (e ∷ past) = looks past

-- ---- environments

-- a place: the environment there, and that of the search that is open there
pub record Place : Type 0 where
  pub environment : List ℕ
  pub searched : List ℕ

-- the environment of a search: that at the signal, or at the beginning of the turn's entry, by where each number was begun
abbrev pub searched_by : Event → (ℕ → Place) → List ℕ
searched_by (Signal n) begun = (begun n).environment
searched_by (Handle m entry) begun = (begun entry).environment
searched_by _ begun = []

abbrev pub searched_in : List Look → (ℕ → Place) → List ℕ
searched_in [] begun = []
searched_in (l ∷ ls) begun = searched_by l.searcher begun

-- the environment where this number is the innermost open one
abbrev pub inside : Event → (ℕ → Place) → List ℕ
inside (Protect n) begun = n ∷ (begun n).environment
inside (Handle n entry) begun = (begun entry).environment
inside (Ask n entry) begun = (begun entry).environment
inside (Default n) begun = (begun n).searched
inside (Ensure n) begun = (begun n).environment
inside (Curtail n) begun = (begun n).environment
inside (Signal n) begun = (begun n).environment
inside (Outer n) begun = (begun n).environment
inside _ begun = []

abbrev pub environment_in : List Event → (ℕ → Place) → List ℕ
environment_in [] begun = []
environment_in (e ∷ es) begun = inside e begun

abbrev pub place : List Event → List Look → (ℕ → Place) → Place
place es ls begun = record { environment = environment_in es begun; searched = searched_in ls begun }

-- the place at which a number was begun
abbrev pub beginning : Past → ℕ → Place
beginning [] n = record { environment = []; searched = [] }
beginning (e ∷ past) n = if begins n e then place (opened past) (looks past) (beginning past) else beginning past n

-- ---- what may come

-- what was tried and asked in a search
abbrev pub was_tried : ℕ → List Event → Bool
was_tried n [] = false
was_tried n (Tried m fits ∷ es) = if nat_eq n m then true else was_tried n es
was_tried n (e ∷ es) = was_tried n es

abbrev pub has_fitted : List Event → Bool
has_fitted [] = false
has_fitted (Tried m true ∷ es) = true
has_fitted (e ∷ es) = has_fitted es

abbrev pub was_fitted : ℕ → List Event → Bool
was_fitted n [] = false
was_fitted n (Tried m true ∷ es) = if nat_eq n m then true else was_fitted n es
was_fitted n (e ∷ es) = was_fitted n es

-- the wait by which this entry was asked
abbrev pub wait_of : ℕ → List Event → Option ℕ
wait_of n [] = None
wait_of n (Ask w m ∷ es) = if nat_eq n m then Some w else wait_of n es
wait_of n (e ∷ es) = wait_of n es

-- the entries that weren't tried
abbrev pub untried : List ℕ → List Event → List ℕ
untried [] es = []
untried (n ∷ env) es = if was_tried n es then untried env es else n ∷ untried env es

abbrev pub untried_of : Look → Past → List ℕ
untried_of l past = untried (searched_by l.searcher (beginning past)) l.events

abbrev pub first_is : ℕ → List ℕ → Bool
first_is n [] = false
first_is n (m ∷ env) = nat_eq n m

abbrev pub is_none : List ℕ → Bool
is_none [] = true
is_none (n ∷ env) = false

abbrev pub is_last_end : Option ℕ → Past → Bool
is_last_end None past = true
is_last_end (Some w) (End n false ∷ past) = nat_eq w n
is_last_end (Some w) _ = false

abbrev pub is_unasked : Option ℕ → Bool
is_unasked None = true
is_unasked (Some w) = false

abbrev pub is_turn : Event → Bool
is_turn (Handle m n) = true
is_turn _ = false

-- what must come: the search of this signal; the search of a turn; what belongs to this search
pub data Due : Type 0 where
  Anything : Due
  ItsSearch : (signal : ℕ) → Due
  SomeSearch : Due
  InSearch : Look → Due

abbrev pub due_by : Option ℕ → Look → Due
due_by (Some w) l = Anything
due_by None l = InSearch l

abbrev pub due_in : List Look → Due
due_in [] = Anything
due_in (l ∷ ls) = due_by (asks_now l.events) l

abbrev pub due_behind : Event → List Look → Due
due_behind (Signal n) ls = ItsSearch n
due_behind (Outer n) ls = SomeSearch
due_behind e ls = due_in ls

abbrev pub due : Past → Due
due [] = Anything
due (e ∷ past) = due_behind e (looks (e ∷ past))

-- a line of a search
abbrev pub searching : Event → Look → Past → Bool
searching (Tried n fits) l past = not (has_fitted l.events) && first_is n (untried_of l past) && is_last_end (wait_of n l.events) past
searching (Ask w n) l past = not (has_fitted l.events) && first_is n (untried_of l past) && is_unasked (wait_of n l.events) && is_new w past
searching (Handle m n) l past = was_fitted n l.events && is_new m past
searching (Default m) l past = not (has_fitted l.events) && is_none (untried_of l past) && is_new m past
searching Known l past = is_turn l.searcher && (has_fitted l.events || is_none (untried_of l past))
searching _ l past = false

-- what is said of the innermost open number
abbrev pub acts : ℕ → List Event → Past → Bool
acts n (Ensure m ∷ es) past = nat_eq n m && not (had_action m past)
acts n (Curtail m ∷ es) past = nat_eq n m && not (had_action m past)
acts n _ past = false

abbrev pub repeats : ℕ → List Event → Bool
repeats n (Protect m ∷ es) = nat_eq n m
repeats n _ = false

abbrev pub same_bool : Bool → Bool → Bool
same_bool true b = b
same_bool false b = not b

abbrev pub ends : ℕ → (cut : Bool) → List Event → Past → Bool
ends n cut (Ensure m ∷ es) past = nat_eq n m && had_action m past
ends n cut (Curtail m ∷ es) past = nat_eq n m && same_bool (had_action m past) cut
ends n cut (Handle m entry ∷ es) past = nat_eq n m && cut
ends n cut (e ∷ es) past = begins n e
ends n cut [] past = false

-- a line where no search is open, or it asks
abbrev pub free : Event → Past → Bool
free (Protect n) past = is_new n past
free (Ensure n) past = is_new n past
free (Curtail n) past = is_new n past
free (Signal n) past = is_new n past
free (Outer n) past = is_new n past
free (Search n) past = is_turn (event_of n (opened past))
free (Action n) past = acts n (opened past) past
free (Again n) past = repeats n (opened past)
free (End n cut) past = ends n cut (opened past) past
free _ past = false

abbrev pub searches_by : Event → ℕ → Bool
searches_by (Search m) n = nat_eq m n
searches_by _ n = false

abbrev pub searches_turn : Event → Past → Bool
searches_turn (Search m) past = is_turn (event_of m (opened past))
searches_turn _ past = false

abbrev pub allowed : Due → Event → Past → Bool
allowed Anything e past = free e past
allowed (ItsSearch n) e past = searches_by e n
allowed SomeSearch e past = searches_turn e past
allowed (InSearch l) e past = searching e l past

-- an event meets its condition at this place
abbrev pub meets : Past → Event → Bool
meets past e = allowed (due past) e past

abbrev pub none_open : List Event → Bool
none_open [] = true
none_open (e ∷ es) = false

-- and so does a stop
abbrev pub meets_stop : Past → StopWord → Bool
meets_stop past Done = none_open (opened past)
meets_stop past Unhandled = none_open (opened past)
meets_stop past _ = true

-- each line meets its condition behind these, and the last line is a stop, the only one
abbrev pub AllMeet : Past → List Line → Type 0
AllMeet past [] = ⊥
AllMeet past (Tells e ∷ lines) = (meets past e ≡ true) × AllMeet (e ∷ past) lines
AllMeet past (Stops w ∷ lines) = (meets_stop past w ≡ true) × (lines ≡ [])

unfoldable pub Disciplined : List Line → Type 0
Disciplined lines = AllMeet [] lines
