-- The auditor's stack is what stands: what holds between the two, at each moment of the scoped machine.
use Rattle.std.proofs.Common.{◌≡◌, ℕ, List, [], ◌∷◌, Option, Some, None, Bool, true, false, sym, subst, nat_eq, if◌then◌else◌}
use Rattle.st_rules.specs.State.{State, Entry, Env, Outcome, Answer, Go, Stop, Turn, turn_of, FoundTurn, NoTurn, TurnAt}
use Rattle.st_rules.specs.Ends.{Search, Purpose, ForSignal, ForPass, ForOuter, ForNested, Wait, ToResume, ToOuter}
use Rattle.st_rules.specs.Rules.{Use, Apply, Activate, Enter, SendTo, SuperTo, Perform, Raise, RaiseNew, SignalPoint, Resignaled, SearchIn, TurnBy, Ask, Protect, Finish, VisitBy, RunBody}
use Rattle.st_rules.specs.Machine.{Act, BodyAct, Leaving, ProtectAct, EnsureOn, CurtailOn, ActionOff, SignalAct, HandlerRun, OuterAct, ResumeWait, HandlesWait, LoopAct, Mach, Run, Settle, Begin, Over, Stuck, marks}
use Rattle.st_rules.specs.Scoped.{ScopedBody, scoped_number}
use Rattle.st_trace.specs.Automaton as audit
use Rattle.st_trace.specs.Automaton.{Kind, ByProtect, BySignal, ByOuter, ByHandle, ByDefault, ByEnsure, ByCurtail, ByAsk, Item, item, Mode, Calm, MustSearch, MustTurn, Looks, Answered, Fits, looking, inside_of, turn_inside}
use Rattle.st_trace.proofs.Ordering.{Ordered, turn_behind, here}
use Rattle.law_discipline.proofs.Telling.{TellsOf, Accepted}

abbrev pub numbers : Env → List ℕ
numbers [] = []
numbers (e ∷ env) = e.number ∷ numbers env

abbrev pub of_turn : Purpose → Bool
of_turn ForSignal = false
of_turn (ForPass t) = true
of_turn (ForOuter t point) = true
of_turn ForNested = true

-- a search with these entries left
abbrev pub search_of : Search → List ℕ → audit.Search
search_of x left = looking (of_turn x.purpose) (numbers x.whole) left

abbrev pub kind_of_turn : Option Entry → Kind
kind_of_turn (Some entry) = ByHandle entry.number
kind_of_turn None = ByDefault

-- a wait for `isResumable` that may go on to a search: its turn is open
abbrev pub TurnOpen : Wait → (turn : ℕ) → Turn → List Item → Type 0
TurnOpen (ToResume v) k t is = Unit {0}
TurnOpen ToOuter k t is = turn_inside k is ≡ Some (numbers t.outside)

-- an action that was begun: `ifCurtailed:` holds an unwinding
abbrev pub Acted : Kind → (held : Outcome) → Type 0
Acted (ByEnsure true) (Answer v) = Unit {0}
Acted (ByEnsure true) (Go t v) = Unit {0}
Acted (ByCurtail true) (Go t v) = Unit {0}
Acted _ held = ⊥

-- ---- what is open is what stands, bodies, loops and waits for `isResumable` left out

abbrev pub Shown : List Item → List (Act ScopedBody) → Type 0
Shown is [] = is ≡ []
Shown is (BodyAct x ∷ acts) = (numbers x.env ≡ inside_of is) × Shown is acts
Shown is (Leaving x ∷ acts) = Shown is acts
Shown is (ProtectAct receiver entry env ∷ acts) = (below : List Item) × (is ≡ item entry.number ByProtect (entry.number ∷ numbers env) ∷ below) × (numbers env ≡ inside_of below) × Shown below acts
Shown is (EnsureOn n block env ∷ acts) = (below : List Item) × (is ≡ item n (ByEnsure false) (numbers env) ∷ below) × (numbers env ≡ inside_of below) × Shown below acts
Shown is (CurtailOn n block env ∷ acts) = (below : List Item) × (is ≡ item n (ByCurtail false) (numbers env) ∷ below) × (numbers env ≡ inside_of below) × Shown below acts
Shown is (ActionOff n held ∷ acts) = (below : List Item) × (kind : Kind) × (inside : List ℕ) × (is ≡ item n kind inside ∷ below) × Acted kind held × Shown below acts
Shown is (SignalAct n e env ∷ acts) = (below : List Item) × (is ≡ item n BySignal (numbers env) ∷ below) × (numbers env ≡ inside_of below) × Shown below acts
Shown is (HandlerRun n t ∷ acts) = (below : List Item) × (is ≡ item n (kind_of_turn t.entry) (numbers t.outside) ∷ below) × Shown below acts
Shown is (OuterAct n ∷ acts) = (below : List Item) × (inside : List ℕ) × (is ≡ item n ByOuter inside ∷ below) × Shown below acts
Shown is (ResumeWait n w k t env ∷ acts) = (numbers env ≡ inside_of is) × TurnOpen w k t is × Shown is acts
Shown is (HandlesWait n x entry rest ∷ acts) = (below : List Item) × (is ≡ item n (ByAsk entry.number (search_of x (numbers rest))) (numbers rest) ∷ below) × Shown below acts
Shown is (LoopAct n l env ∷ acts) = (numbers env ≡ inside_of is) × Shown is acts

abbrev pub TellsAt : State → List Item → Mode → Type 0
TellsAt st is mode = TellsOf st.events st.next is mode

-- no search is open, and this is the environment
abbrev pub Here : List (Act ScopedBody) → State → Env → Type 0
Here acts st env = (is : List Item) × TellsAt st is Calm × Shown is acts × (numbers env ≡ inside_of is)

-- what a use begins behind an event of its own: that number is open, and stands not yet
abbrev pub Begun : List (Act ScopedBody) → State → Env → ℕ → Kind → List ℕ → Mode → Type 0
Begun acts st env n kind inside mode = (below : List Item) × TellsAt st (item n kind inside ∷ below) mode × Shown below acts × (numbers env ≡ inside_of below)

abbrev pub TurnTells : List (Act ScopedBody) → State → Search → Option Entry → Env → Type 0
TurnTells acts st x (Some entry) outside = (is : List Item) × TellsAt st is (Fits entry.number (search_of x (numbers outside))) × Shown is acts
TurnTells acts st x None outside = (is : List Item) × TellsAt st is (Looks (search_of x [])) × Shown is acts × (numbers outside ≡ numbers x.whole)

abbrev pub UseTells : List (Act ScopedBody) → State → Use → Type 0
UseTells acts st (Apply v args env) = Here acts st env
UseTells acts st (Activate c args env) = Here acts st env
UseTells acts st (Enter code r args env) = Here acts st env
UseTells acts st (SendTo selector r args env) = Here acts st env
UseTells acts st (SuperTo class selector r args env) = Here acts st env
UseTells acts st (Perform a env) = Here acts st env
UseTells acts st (Raise e env) = Here acts st env
UseTells acts st (RaiseNew class slots env) = Here acts st env
UseTells acts st (SignalPoint n e env) = Begun acts st env n BySignal (numbers env) MustSearch
UseTells acts st (Resignaled n e f env) = Begun acts st env n BySignal (numbers env) Calm
UseTells acts st (SearchIn x rest) = (is : List Item) × TellsAt st is (Looks (search_of x (numbers rest))) × Shown is acts
UseTells acts st (TurnBy x entry outside) = TurnTells acts st x entry outside
UseTells acts st (Ask w k t env) = (is : List Item) × TellsAt st is Calm × Shown is acts × (numbers env ≡ inside_of is) × TurnOpen w k t is
UseTells acts st (Protect receiver entry env) = Begun acts st env entry.number ByProtect (entry.number ∷ numbers env) Calm
UseTells acts st (Finish n block held env) = (below : List Item) × (kind : Kind) × TellsAt st (item n kind (numbers env) ∷ below) Calm × Acted kind held × Shown below acts
UseTells acts st (VisitBy n v env) = Here acts st env
UseTells acts st (RunBody f env) = Accepted st.events

abbrev pub SettleTells : Outcome → List (Act ScopedBody) → State → Type 0
SettleTells (Answer v) acts st = (is : List Item) × TellsAt st is Calm × Shown is acts
SettleTells (Go t v) acts st = (is : List Item) × TellsAt st is Calm × Shown is acts
SettleTells (Stop l) acts st = Accepted st.events

abbrev pub MachTells : Mach ScopedBody → Type 0
MachTells (Run x acts st) = Here acts st x.env
MachTells (Settle o acts st) = SettleTells o acts st
MachTells (Begin u acts st) = UseTells acts st u
MachTells (Over o st) = SettleTells o [] st
MachTells (Stuck st) = Accepted st.events

-- ---- a turn that stands is open

abbrev pub EntryTold : Option Entry → ℕ → Turn → List Item → Type 0
EntryTold None k t is = Unit {0}
EntryTold (Some entry) k t is = turn_inside k is ≡ Some (numbers t.outside)

abbrev pub FoundTold : FoundTurn → List Item → Type 0
FoundTold NoTurn is = Unit {0}
FoundTold (TurnAt k t) is = EntryTold t.entry k t is

entry_behind : (o : Option Entry) (k b : ℕ) (t : Turn) (i : Item) (is : List Item) → Ordered b (i ∷ is) → EntryTold o k t is → EntryTold o k t (i ∷ is)
entry_behind None k b t i is o h = tt
entry_behind (Some entry) k b t i is o h = turn_behind k b i is (numbers t.outside) o h

found_behind : (f : FoundTurn) (b : ℕ) (i : Item) (is : List Item) → Ordered b (i ∷ is) → FoundTold f is → FoundTold f (i ∷ is)
found_behind NoTurn b i is o h = tt
found_behind (TurnAt k t) b i is o h = entry_behind t.entry k b t i is o h

entry_here : (o : Option Entry) (n : ℕ) (t : Turn) (is : List Item) → EntryTold o n t (item n (kind_of_turn o) (numbers t.outside) ∷ is)
entry_here None n t is = tt
entry_here (Some entry) n t is = here n _ _

-- behind what stands and is open
found_on : (f : FoundTurn) (b : ℕ) (is : List Item) (i : Item) (below : List Item) → is ≡ i ∷ below → Ordered b is → ((c : ℕ) → Ordered c below → FoundTold f below) → FoundTold f is
found_on f b is i below e o on =
    let o' : Ordered b (i ∷ below) = subst (λ x. Ordered b x) e o in
    subst (λ x. FoundTold f x) (sym e) (found_behind f b i below o' (on i.number o'.1))

pub found_told : (e b : ℕ) (acts : List (Act ScopedBody)) (is : List Item) → Ordered b is → Shown is acts → FoundTold (turn_of e (marks scoped_number acts)) is
unfolding turn_of
found_told e b [] is o h = tt
found_told e b (BodyAct x ∷ acts) is o h = found_told e b acts is o h.1
found_told e b (Leaving x ∷ acts) is o h = found_told e b acts is o h
found_told e b (ProtectAct receiver entry env ∷ acts) is o h = found_on _ b is _ h.0 h.1 o (λ c o'. found_told e c acts h.0 o' h.3)
found_told e b (EnsureOn n block env ∷ acts) is o h = found_on _ b is _ h.0 h.1 o (λ c o'. found_told e c acts h.0 o' h.3)
found_told e b (CurtailOn n block env ∷ acts) is o h = found_on _ b is _ h.0 h.1 o (λ c o'. found_told e c acts h.0 o' h.3)
found_told e b (ActionOff n held ∷ acts) is o h = found_on _ b is _ h.0 h.3 o (λ c o'. found_told e c acts h.0 o' h.5)
found_told e b (SignalAct n x env ∷ acts) is o h = found_on _ b is _ h.0 h.1 o (λ c o'. found_told e c acts h.0 o' h.3)
found_told e b (HandlerRun n t ∷ acts) is o h = go (nat_eq e t.exception) (found_on _ b is _ h.0 h.1 o (λ c o'. found_told e c acts h.0 o' h.2))
  where
    go : (c : Bool) → FoundTold (turn_of e (marks scoped_number acts)) is → FoundTold (if c then TurnAt n t else turn_of e (marks scoped_number acts)) is
    go true f = subst (λ x. EntryTold t.entry n t x) (sym h.1) (entry_here t.entry n t h.0)
    go false f = f
found_told e b (OuterAct n ∷ acts) is o h = found_on _ b is _ h.0 h.2 o (λ c o'. found_told e c acts h.0 o' h.3)
found_told e b (ResumeWait n w k t env ∷ acts) is o h = found_told e b acts is o h.2
found_told e b (HandlesWait n x entry rest ∷ acts) is o h = found_on _ b is _ h.0 h.1 o (λ c o'. found_told e c acts h.0 o' h.2)
found_told e b (LoopAct n l env ∷ acts) is o h = found_told e b acts is o h.1
