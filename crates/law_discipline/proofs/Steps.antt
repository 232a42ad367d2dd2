-- Each small step of the scoped machine tells what the auditor accepts: a law for each.
use Rattle.std.proofs.Common.{◌≡◌, ℕ, ◌+◌, max, length, List, [], ◌∷◌, ◌++◌, Option, Some, None, Bool, true, false, refl, sym, ap, ◌∙◌, arith, nat_lt, nat_le, if◌then◌else◌}
use Rattle.object_heap.specs.declared.value.Value.{Value}
use Rattle.object_heap.specs.declared.value.Value.TheVariants.{Object}
use Rattle.object_heap.specs.declared.value.Closure.{Closure}
use Rattle.object_heap.specs.Store.{object_at}
use Rattle.st_code.specs.Program.{Program, body_at}
use Rattle.st_code.specs.Messages.{Control}
use Rattle.st_code.specs.Lookup.{is_plain, fits, is_exception}
use Rattle.st_collections.specs.Actions.{Action, Gives, Changes, Makes, Writes, Fails, DividesByZero, PassesIntegers, Begins, Activates, Sends, Misses, Enters, Guards, Ensures, Curtails, Iterates, Raises, RaisesNew, Controls, Terminates, Visit, Applies, Compares, Finishes, Lacks, Charges}
use Rattle.st_collections.specs.Kinds.{is_true}
use Rattle.st_rules.specs.Events.{Event}
use Rattle.st_rules.specs.State.{State, Entry, Env, Target, Protected, Outcome, Answer, Go, Stop, Turn, Mark, told, is_at_signal, step_made, stood, used, scope_cells, is_live, FoundTurn, NoTurn, TurnAt, turn_of}
use Rattle.st_rules.specs.Ends.{charged, ended, Opening, block_opening, method_opening, at_home, SignalVerdict, Ends, Signals, signal_end, Verdict, Leaves, Again, protect_end, turn_end, outer_end, default_value, Search, Purpose, ForSignal, ForPass, ForOuter, ForNested, turn_for, asks_nested, Wait, ToResume, ToOuter}
use Rattle.st_rules.specs.Rules.{Use, Apply, Activate, Enter, SendTo, SuperTo, Perform, Raise, RaiseNew, SignalPoint, Resignaled, SearchIn, TurnBy, Ask, Protect, Finish, VisitBy, RunBody, closure_for, apply_by, handler_by, exception_cells}
use Rattle.st_rules.specs.Machine.{Act, BodyAct, Leaving, ProtectAct, EnsureOn, CurtailOn, ActionOff, SignalAct, HandlerRun, OuterAct, ResumeWait, HandlesWait, LoopAct, Mach, Settle, Begin, Bodies, marks, open_act, raise_act, raise_new_act, tried_act, judged_act, search_act, turn_act, pass_act, asked_act, resignal_act, resignal_as_act, control_by_act, control_without_act, control_in_act, control_act, visit_act, perform_act, begin, protect_verdict, signal_verdict, finish_act, give, unwind, step}
use Rattle.st_rules.specs.Scoped.{ScopedBody, scoped_number, scoped}
use Rattle.st_trace.specs.Automaton as audit
use Rattle.st_trace.specs.Automaton.{Kind, ByProtect, BySignal, ByOuter, ByHandle, ByDefault, ByEnsure, ByCurtail, ByAsk, Item, item, Mode, Calm, MustSearch, MustTurn, Looks, Answered, Fits, Auditor, auditor, looking, inside_of, turn_inside, ends, judged, known, searches, by_mode, accepts}
use Rattle.st_trace.proofs.Ordering.{Ordered, turn_behind, here}
use Rattle.law_discipline.proofs.Telling.{TellsOf, Accepted, accepted, tells_later, tells_same, tells_on, tells_begin, tells_end}
use Rattle.law_discipline.proofs.Shown.{numbers, of_turn, search_of, kind_of_turn, TurnOpen, Acted, Shown, TellsAt, Here, Begun, TurnTells, UseTells, SettleTells, MachTells, EntryTold, FoundTold, found_told}

-- ---- charges

module _ (p : Program) where
  pub step_tells : (st : State) (m : Mach ScopedBody) (k : State → Mach ScopedBody) → MachTells m → ((n : ℕ) → MachTells (k (record st { steps = n }))) → MachTells (charged (step_made p st) m k)
  unfolding step_made
  step_tells st m k stop on = go (nat_lt st.steps p.step_limit)
    where
      go : (c : Bool) → MachTells (charged (if c then Some (record st { steps = st.steps + 1 }) else None) m k)
      go true = on _
      go false = stop

  pub stood_tells : (standing : List Mark) (st : State) (m : Mach ScopedBody) (k : State → Mach ScopedBody) → MachTells m → ((d : ℕ) → MachTells (k (record st { depth = d; next = st.next + 1 }))) → MachTells (charged (stood p standing st) m k)
  unfolding stood
  stood_tells standing st m k stop on = go (nat_le (length standing + 1) p.depth_limit)
    where
      go : (c : Bool) → MachTells (charged (if c then Some (record st { depth = max st.depth (length standing + 1); next = st.next + 1 }) else None) m k)
      go true = on _
      go false = stop

  pub used_tells : (cells : ℕ) (st : State) (m : Mach ScopedBody) (k : State → Mach ScopedBody) → MachTells m → ((c : ℕ) → MachTells (k (record st { cells = c }))) → MachTells (charged (used p cells st) m k)
  unfolding used
  used_tells cells st m k stop on = go (nat_le (st.cells + cells) p.cell_limit)
    where
      go : (c : Bool) → MachTells (charged (if c then Some (record st { cells = st.cells + cells }) else None) m k)
      go true = on _
      go false = stop

-- ---- ends

abbrev EndsBy : Kind → Outcome → Type 0
EndsBy kind (Answer v) = (is : List Item) (b : ℕ) → ends kind false is b ≡ Some (auditor is Calm b)
EndsBy kind (Go t v) = (is : List Item) (b : ℕ) → ends kind true is b ≡ Some (auditor is Calm b)
EndsBy kind (Stop l) = Unit {0}

-- a number that ends by each outcome
abbrev Loose : Kind → Type 0
Loose kind = (cut : Bool) (is : List Item) (b : ℕ) → ends kind cut is b ≡ Some (auditor is Calm b)

loose : (kind : Kind) → Loose kind → (o : Outcome) → EndsBy kind o
loose kind l (Answer v) = l false
loose kind l (Go t v) = l true
loose kind l (Stop x) = tt

acted : (kind : Kind) (o : Outcome) → Acted kind o → EndsBy kind o
acted (ByEnsure true) (Answer v) h = λ is b. refl
acted (ByEnsure true) (Go t v) h = λ is b. refl
acted (ByCurtail true) (Go t v) h = λ is b. refl
acted (ByCurtail true) (Answer v) h = absurd h
acted (ByEnsure false) (Answer v) h = absurd h
acted (ByEnsure false) (Go t v) h = absurd h
acted (ByCurtail false) (Answer v) h = absurd h
acted (ByCurtail false) (Go t v) h = absurd h
acted ByProtect (Answer v) h = absurd h
acted ByProtect (Go t v) h = absurd h
acted BySignal (Answer v) h = absurd h
acted BySignal (Go t v) h = absurd h
acted ByOuter (Answer v) h = absurd h
acted ByOuter (Go t v) h = absurd h
acted (ByHandle n) (Answer v) h = absurd h
acted (ByHandle n) (Go t v) h = absurd h
acted ByDefault (Answer v) h = absurd h
acted ByDefault (Go t v) h = absurd h
acted (ByAsk n x) (Answer v) h = absurd h
acted (ByAsk n x) (Go t v) h = absurd h
acted kind (Stop l) h = tt

-- an action that was begun ends by an unwinding too
acted_cut : (kind : Kind) (held : Outcome) → Acted kind held → (t : Target) (v : Value) → EndsBy kind (Go t v)
acted_cut (ByEnsure true) held h t v = λ is b. refl
acted_cut (ByCurtail true) held h t v = λ is b. refl
acted_cut (ByEnsure false) held h t v = absurd h
acted_cut (ByCurtail false) held h t v = absurd h
acted_cut ByProtect held h t v = absurd h
acted_cut BySignal held h t v = absurd h
acted_cut ByOuter held h t v = absurd h
acted_cut (ByHandle n) held h t v = absurd h
acted_cut ByDefault held h t v = absurd h
acted_cut (ByAsk n x) held h t v = absurd h

-- the innermost ends with this outcome
ended_tells : (n : ℕ) (kind : Kind) (inside : List ℕ) (o : Outcome) (is below : List Item) (acts : List (Act ScopedBody)) (st : State) → EndsBy kind o → is ≡ item n kind inside ∷ below → TellsAt st is Calm → Shown below acts → SettleTells o acts (ended n o st)
ended_tells n kind inside (Answer v) is below acts st e q t s = (below, tells_end st.events st.next n false kind inside below Calm (e below) (tells_same st.events st.next is _ Calm q t), s)
ended_tells n kind inside (Go g v) is below acts st e q t s = (below, tells_end st.events st.next n true kind inside below Calm (e below) (tells_same st.events st.next is _ Calm q t), s)
ended_tells n kind inside (Stop l) is below acts st e q t s = accepted st.events st.next is Calm t

-- a limit may stop wherever the auditor stands
pub stops : (st : State) (is : List Item) (mode : Mode) → TellsAt st is mode → Accepted st.events
stops st is mode t = accepted st.events st.next is mode t

-- the head is another kind now
rekinded : (n : ℕ) (kind kind' : Kind) (inside inside' : List ℕ) (is : List Item) (b : ℕ) → Ordered b (item n kind inside ∷ is) → Ordered b (item n kind' inside' ∷ is)
rekinded n kind kind' inside inside' is b o = o

module _ (p : Program) where
  abbrev S : Bodies ScopedBody
  S = scoped p

  abbrev M : List (Act ScopedBody) → List Mark
  M acts = marks scoped_number acts

  -- with the next number taken
  more : (acts : List (Act ScopedBody)) (st : State) (env : Env) (d : ℕ) → Here acts st env → Here acts (record st { depth = d; next = st.next + 1 }) env
  more acts st env d h = (h.0, tells_later st.events st.next (st.next + 1) h.0 Calm (omega arith) h.1, h.2, h.3)

  pub open_tells : (x : Opening) (acts : List (Act ScopedBody)) (st : State) → Here acts st x.env → MachTells (open_act S p x acts st)
  open_tells x acts st h =
      stood_tells p (M acts) st _ _ (stops st h.0 Calm h.1) (λ d. used_tells p (scope_cells (body_at p x.code)) _ _ _ (stops st h.0 Calm h.1) (λ c. more acts st x.env d h))

  -- ---- signals, searches and turns

  signal_begun : (env : Env) (acts : List (Act ScopedBody)) (st : State) → (h : Here acts st env) → TellsOf (st.events ++ Event.Signal st.next ∷ []) (st.next + 1) (item st.next BySignal (numbers env) ∷ h.0) MustSearch
  signal_begun env acts st h = tells_begin st.events (Event.Signal st.next) st.next BySignal (numbers env) h.0 Calm MustSearch (λ b. ap (λ i. audit.begun st.next BySignal i MustSearch h.0 b) (sym h.3)) h.1

  raise_tells : (live : Bool) (e : ℕ) (env : Env) (acts : List (Act ScopedBody)) (st : State) → Here acts st env → MachTells (raise_act S p live e env acts st)
  raise_tells true e env acts st h = h
  raise_tells false e env acts st h = stood_tells p (M acts) st _ _ (stops st h.0 Calm h.1) (λ d. (h.0, signal_begun env acts st h, h.2, h.3))

  raise_new_tells : (c : ℕ) (slots : List Value) (env : Env) (acts : List (Act ScopedBody)) (st : State) → Here acts st env → MachTells (raise_new_act S p c slots env acts st)
  raise_new_tells c slots env acts st h =
      let t = signal_begun env acts st h in
      stood_tells p (M acts) st _ _ (stops st h.0 Calm h.1) (λ d. used_tells p (exception_cells p c) _ _ _ (accepted _ _ _ MustSearch t) (λ u. (h.0, t, h.2, h.3)))

  -- a search in which the first entry left may be tried
  tried_tells : (a : Bool) (x : Search) (entry : Entry) (rest : Env) (acts : List (Act ScopedBody)) (st : State) (is : List Item) (mode : Mode) → ((c : Bool) (b : ℕ) → by_mode mode (Event.Tried entry.number c) is b ≡ judged entry.number c (of_turn x.purpose) (numbers x.whole) (entry.number ∷ numbers rest) is b) → TellsAt st is mode → Shown is acts → MachTells (tried_act S p a x entry rest acts st)
  tried_tells true x entry rest acts st is mode same t s =
      (is, tells_on st.events (Event.Tried entry.number true) st.next is is mode (Fits entry.number (search_of x (numbers rest))) (λ b. same true b ∙ here entry.number _ _) (λ b o. o) t, s)
  tried_tells false x entry rest acts st is mode same t s =
      (is, tells_on st.events (Event.Tried entry.number false) st.next is is mode (Looks (search_of x (numbers rest))) (λ b. same false b ∙ here entry.number _ _) (λ b o. o) t, s)

  judged_tells : (a : Bool) (x : Search) (entry : Entry) (rest : Env) (acts : List (Act ScopedBody)) (st : State) (is : List Item) → TellsAt st is (Looks (search_of x (entry.number ∷ numbers rest))) → Shown is acts → MachTells (judged_act S p a x entry rest acts st)
  judged_tells true x entry rest acts st is t s = tried_tells (fits p st.store entry.selector (object_at x.exception st.store).class) x entry rest acts st is _ (λ c b. refl) t s
  judged_tells false x entry rest acts st is t s =
      let asked = tells_begin st.events (Event.Ask st.next entry.number) st.next (ByAsk entry.number (search_of x (numbers rest))) (numbers rest) is (Looks (search_of x (entry.number ∷ numbers rest))) Calm (λ b. here entry.number _ _) t in
      stood_tells p (M acts) st _ _ (stops st is _ t) (λ d. (_, asked, (is, refl, s), refl))

  search_tells : (x : Search) (rest : Env) (acts : List (Act ScopedBody)) (st : State) (is : List Item) → TellsAt st is (Looks (search_of x (numbers rest))) → Shown is acts → MachTells (search_act S p x rest acts st)
  search_tells x [] acts st is t s = (is, t, s, refl)
  search_tells x (entry ∷ rest) acts st is t s = judged_tells (is_plain p st.store entry.selector) x entry rest acts st is t s

  handler_tells : (o : Option Closure) (handler : Value) (e : ℕ) (env : Env) (acts : List (Act ScopedBody)) (st : State) → Here acts st env → MachTells (Begin (handler_by o handler e env) acts st)
  handler_tells None handler e env acts st h = h
  handler_tells (Some c) handler e env acts st h = h

  nested_turn : (q : Purpose) → elim q [ ForSignal ↦ false | ForPass t ↦ false | ForOuter t point ↦ false | ForNested ↦ true ] ≡ true → of_turn q ≡ true
  nested_turn ForNested e = refl
  nested_turn (ForPass t) e = refl
  nested_turn (ForOuter t point) e = refl
  nested_turn ForSignal e = e

  known_by : (x : Search) → asks_nested x ≡ true → (is : List Item) (b : ℕ) → known (of_turn x.purpose) is b ≡ Some (auditor is Calm b)
  known_by x q is b = ap (λ c. known c is b) (nested_turn x.purpose q)

  turn_tells : (a : Bool) (x : Search) (entry : Option Entry) (outside : Env) (acts : List (Act ScopedBody)) (st : State) → asks_nested x ≡ a → TurnTells acts st x entry outside → MachTells (turn_act S p a x entry outside acts st)
  turn_tells true x None outside acts st q h = (h.0, tells_on st.events Event.Known st.next h.0 h.0 _ Calm (λ b. known_by x q h.0 b) (λ b o. o) h.1, h.2)
  turn_tells true x (Some entry) outside acts st q h = (h.0, tells_on st.events Event.Known st.next h.0 h.0 _ Calm (λ b. known_by x q h.0 b) (λ b o. o) h.1, h.2)
  turn_tells false x None outside acts st q h =
      let t = tells_begin st.events (Event.Default st.next) st.next ByDefault (numbers outside) h.0 (Looks (search_of x [])) Calm (λ b. ap (λ i. audit.begun st.next ByDefault i Calm h.0 b) (sym h.3)) h.1 in
      stood_tells p (M acts) st _ _ (stops st h.0 _ h.1) (λ d. (_, t, (h.0, refl, h.2), refl))
  turn_tells false x (Some entry) outside acts st q h =
      let t = tells_begin st.events (Event.Handle st.next entry.number) st.next (ByHandle entry.number) (numbers outside) h.0 (Fits entry.number (search_of x (numbers outside))) Calm (λ b. here entry.number _ _) h.1 in
      stood_tells p (M acts) st _ _ (stops st h.0 _ h.1) (λ d. handler_tells (closure_for p st.store entry.handler 0) entry.handler x.exception outside (HandlerRun st.next (turn_for x (Some entry) outside) ∷ acts) (told (Event.Handle st.next entry.number) (record st { depth = d; next = st.next + 1 })) (_, t, (h.0, refl, h.2), refl))

  -- ---- exception actions

  -- a turn that is open searches, directly behind its outer point or where no search is open
  pass_tells : (k e : ℕ) (t : Turn) (purpose : Purpose) (acts : List (Act ScopedBody)) (st : State) (is : List Item) (mode : Mode) → of_turn purpose ≡ true → ((b : ℕ) → by_mode mode (Event.Search k) is b ≡ searches (turn_inside k is) is b) → turn_inside k is ≡ Some (numbers t.outside) → TellsAt st is mode → Shown is acts → MachTells (pass_act S p k e t purpose acts st)
  pass_tells k e t purpose acts st is mode q same o tells s =
      let outside = numbers t.outside in
      (is, tells_on st.events (Event.Search k) st.next is is mode (Looks (looking (of_turn purpose) outside outside)) (λ b. same b ∙ ap (λ i. searches i is b) o ∙ ap (λ c. Some (auditor is (Looks (looking c outside outside)) b)) (sym q)) (λ b o'. o') tells, s)

  outer_tells : (k : ℕ) (t : Turn) (acts : List (Act ScopedBody)) (st : State) (d : ℕ) (is : List Item) → turn_inside k is ≡ Some (numbers t.outside) → TellsAt st is Calm → Shown is acts → MachTells (pass_act S p k t.exception t (ForOuter t st.next) (OuterAct st.next ∷ acts) (told (Event.Outer st.next) (record st { depth = d; next = st.next + 1 })))
  outer_tells k t acts st d is o tells s =
      let i = item st.next ByOuter (inside_of is) in
      let begun = tells_begin st.events (Event.Outer st.next) st.next ByOuter (inside_of is) is Calm MustTurn (λ b. refl) tells in
      pass_tells k t.exception t (ForOuter t st.next) (OuterAct st.next ∷ acts) (told (Event.Outer st.next) (record st { depth = d; next = st.next + 1 })) (i ∷ is) MustTurn refl (λ b. refl) (turn_behind k begun.bound i is (numbers t.outside) begun.ordered o) begun (is, inside_of is, refl, s)

  asked_tells : (a : Bool) (w : Wait) (k : ℕ) (t : Turn) (env : Env) (acts : List (Act ScopedBody)) (st : State) → (h : Here acts st env) → TurnOpen w k t h.0 → MachTells (asked_act S p a w k t env acts st)
  asked_tells true (ToResume v) k t env acts st h o = (h.0, h.1, h.2)
  asked_tells false (ToResume v) k t env acts st h o = h
  asked_tells true ToOuter k t env acts st h o = stood_tells p (M acts) st _ _ (stops st h.0 Calm h.1) (λ d. outer_tells k t acts st d h.0 o h.1 h.2)
  asked_tells false ToOuter k t env acts st h o = pass_tells k t.exception t (ForPass t) acts st h.0 Calm refl (λ b. refl) o h.1 h.2

  resignal_tells : (a live : Bool) (t : Turn) (f : ℕ) (v : Value) (env : Env) (acts : List (Act ScopedBody)) (st : State) → Here acts st env → MachTells (resignal_act S p a live t f v env acts st)
  resignal_tells false live t f v env acts st h = h
  resignal_tells true true t f v env acts st h = h
  resignal_tells true false t f v env acts st h = (h.0, h.1, h.2)

  resignal_as_tells : (t : Turn) (v : Value) (env : Env) (acts : List (Act ScopedBody)) (st : State) → Here acts st env → MachTells (resignal_as_act S p t v env acts st)
  resignal_as_tells t (Object f) env acts st h = resignal_tells (is_exception p st.store (Object f)) (is_live f (M acts)) t f (Object f) env acts st h
  resignal_as_tells t v env acts st h = h

  control_by_tells : (c : Control) (v : Value) (k : ℕ) (t : Turn) (entry : Entry) (env : Env) (acts : List (Act ScopedBody)) (st : State) → (h : Here acts st env) → turn_inside k h.0 ≡ Some (numbers t.outside) → MachTells (control_by_act S p c v k t entry env acts st)
  control_by_tells Control.Return v k t entry env acts st h o = (h.0, h.1, h.2)
  control_by_tells Control.Retry v k t entry env acts st h o = (h.0, h.1, h.2)
  control_by_tells Control.RetryUsing v k t entry env acts st h o = (h.0, h.1, h.2)
  control_by_tells Control.Resume v k t entry env acts st h o = (h.0, h.1, h.2, h.3, tt)
  control_by_tells Control.Pass v k t entry env acts st h o = pass_tells k t.exception t (ForPass t) acts st h.0 Calm refl (λ b. refl) o h.1 h.2
  control_by_tells Control.Outer v k t entry env acts st h o = (h.0, h.1, h.2, h.3, o)
  control_by_tells Control.ResignalAs v k t entry env acts st h o = resignal_as_tells t v env acts st h
  control_by_tells Control.IsNested v k t entry env acts st h o = pass_tells k t.exception t ForNested acts st h.0 Calm refl (λ b. refl) o h.1 h.2

  control_without_tells : (c : Control) (v : Value) (k : ℕ) (t : Turn) (env : Env) (acts : List (Act ScopedBody)) (st : State) → Here acts st env → MachTells (control_without_act S p c v k t env acts st)
  control_without_tells Control.Resume v k t env acts st h = (h.0, h.1, h.2, h.3, tt)
  control_without_tells c v k t env acts st h = h

  control_in_tells : (entry : Option Entry) (c : Control) (v : Value) (k : ℕ) (t : Turn) (env : Env) (acts : List (Act ScopedBody)) (st : State) → (h : Here acts st env) → EntryTold entry k t h.0 → MachTells (control_in_act S p entry c v k t env acts st)
  control_in_tells (Some entry) c v k t env acts st h o = control_by_tells c v k t entry env acts st h o
  control_in_tells None c v k t env acts st h o = control_without_tells c v k t env acts st h

  control_tells : (f : FoundTurn) (c : Control) (v : Value) (env : Env) (acts : List (Act ScopedBody)) (st : State) → (h : Here acts st env) → FoundTold f h.0 → MachTells (control_act S p f c v env acts st)
  control_tells NoTurn c v env acts st h o = h
  control_tells (TurnAt k t) c v env acts st h o = control_in_tells t.entry c v k t env acts st h o

  -- ---- loops

  visit_tells : (n : ℕ) (v : Visit) (env : Env) (acts : List (Act ScopedBody)) (st : State) → Here acts st env → MachTells (visit_act S p n v env acts st)
  visit_tells n (Applies l v args) env acts st h = (h.0, h.1, (h.3, h.2), h.3)
  visit_tells n (Compares l r v) env acts st h = (h.0, h.1, (h.3, h.2), h.3)
  visit_tells n (Finishes v) env acts st h = (h.0, h.1, h.2)
  visit_tells n (Lacks l) env acts st h = (h.0, h.1, (h.3, h.2), h.3)
  visit_tells n (Charges cells s v) env acts st h = used_tells p cells st _ _ (stops st h.0 Calm h.1) (λ c. visit_tells n v env acts (record st { cells = c; store = s }) h)

  -- ---- what a message does at once

  perform_tells : (a : Action) (env : Env) (acts : List (Act ScopedBody)) (st : State) → Here acts st env → MachTells (perform_act S p a env acts st)
  perform_tells (Gives v) env acts st h = (h.0, h.1, h.2)
  perform_tells (Changes s v) env acts st h = (h.0, h.1, h.2)
  perform_tells (Makes cells s v) env acts st h = used_tells p cells st _ _ (stops st h.0 Calm h.1) (λ c. (h.0, h.1, h.2))
  perform_tells (Writes text v) env acts st h = (h.0, h.1, h.2)
  perform_tells (Fails trouble) env acts st h = h
  perform_tells (DividesByZero dividend) env acts st h = h
  perform_tells PassesIntegers env acts st h = stops st h.0 Calm h.1
  perform_tells (Begins v args) env acts st h = h
  perform_tells (Activates c args) env acts st h = h
  perform_tells (Sends selector r args) env acts st h = h
  perform_tells (Misses selector r args) env acts st h = used_tells p (1 + length args) st _ _ (stops st h.0 Calm h.1) (λ c. used_tells p 3 _ _ _ (stops st h.0 Calm h.1) (λ d. h))
  perform_tells (Enters code r args) env acts st h = h
  perform_tells (Guards receiver selector handler) env acts st h =
      let t = tells_begin st.events (Event.Protect st.next) st.next ByProtect (st.next ∷ numbers env) h.0 Calm Calm (λ b. ap (λ i. audit.begun st.next ByProtect (st.next ∷ i) Calm h.0 b) (sym h.3)) h.1 in
      stood_tells p (M acts) st _ _ (stops st h.0 Calm h.1) (λ d. (h.0, t, h.2, h.3))
  perform_tells (Ensures receiver block) env acts st h =
      let t = tells_begin st.events (Event.Ensure st.next) st.next (ByEnsure false) (numbers env) h.0 Calm Calm (λ b. ap (λ i. audit.begun st.next (ByEnsure false) i Calm h.0 b) (sym h.3)) h.1 in
      stood_tells p (M acts) st _ _ (stops st h.0 Calm h.1) (λ d. (_, t, (h.0, refl, h.3, h.2), refl))
  perform_tells (Curtails receiver block) env acts st h =
      let t = tells_begin st.events (Event.Curtail st.next) st.next (ByCurtail false) (numbers env) h.0 Calm Calm (λ b. ap (λ i. audit.begun st.next (ByCurtail false) i Calm h.0 b) (sym h.3)) h.1 in
      stood_tells p (M acts) st _ _ (stops st h.0 Calm h.1) (λ d. (_, t, (h.0, refl, h.3, h.2), refl))
  perform_tells (Iterates l) env acts st h = stood_tells p (M acts) st _ _ (stops st h.0 Calm h.1) (λ d. more acts st env d h)
  perform_tells (Raises s x) env acts st h = h
  perform_tells (RaisesNew class slots) env acts st h = h
  perform_tells (Controls c x v) env acts st h = control_tells (turn_of x (M acts)) c v env acts st h (found_told x h.1.bound acts h.0 h.1.ordered h.2)
  perform_tells (Terminates v) env acts st h = (h.0, h.1, h.2)

  -- ---- the beginning of a use

  apply_tells : (o : Option Closure) (v : Value) (args : List Value) (env : Env) (acts : List (Act ScopedBody)) (st : State) → Here acts st env → MachTells (Begin (apply_by p o v args env) acts st)
  apply_tells None v args env acts st h = h
  apply_tells (Some c) v args env acts st h = h

  -- the signal that was begun just now searches
  point_tells : (n e : ℕ) (env : Env) (acts : List (Act ScopedBody)) (st : State) → Begun acts st env n BySignal (numbers env) MustSearch → MachTells (begin S p (SignalPoint n e env) acts st)
  point_tells n e env acts st h =
      let i = item n BySignal (numbers env) in
      let inside = numbers env in
      (i ∷ h.0, tells_on st.events (Event.Search n) st.next (i ∷ h.0) (i ∷ h.0) MustSearch (Looks (looking false inside inside)) (λ b. here n _ _) (λ b o. o) h.1, (h.0, refl, h.3, h.2))

  begin_tells : (u : Use) (acts : List (Act ScopedBody)) (st : State) → UseTells acts st u → MachTells (begin S p u acts st)
  begin_tells (Apply v args env) acts st u = apply_tells (closure_for p st.store v (length args)) v args env acts st u
  begin_tells (Activate c args env) acts st u = step_tells p st _ _ (stops st u.0 Calm u.1) (λ n. open_tells (block_opening c args env st.next) acts (record st { steps = n }) u)
  begin_tells (Enter code r args env) acts st u = open_tells (method_opening p code r args env st.next) acts st u
  begin_tells (SendTo selector r args env) acts st u = step_tells p st _ _ (stops st u.0 Calm u.1) (λ n. u)
  begin_tells (SuperTo class selector r args env) acts st u = step_tells p st _ _ (stops st u.0 Calm u.1) (λ n. u)
  begin_tells (Perform a env) acts st u = perform_tells a env acts st u
  begin_tells (Raise e env) acts st u = raise_tells (is_live e (M acts)) e env acts st u
  begin_tells (RaiseNew class slots env) acts st u = raise_new_tells class slots env acts st u
  begin_tells (SignalPoint n e env) acts st u = point_tells n e env acts st u
  begin_tells (Resignaled n e f env) acts st u = (_, u.1, (u.0, refl, u.3, u.2), refl)
  begin_tells (SearchIn x rest) acts st u = search_tells x rest acts st u.0 u.1 u.2
  begin_tells (TurnBy x entry outside) acts st u = turn_tells (asks_nested x) x entry outside acts st refl u
  begin_tells (Ask w k t env) acts st u =
      stood_tells p (M acts) st _ _ (stops st u.0 Calm u.1) (λ d. (u.0, tells_later st.events st.next (st.next + 1) u.0 Calm (omega arith) u.1, (u.3, u.4, u.2), u.3))
  begin_tells (Protect receiver entry env) acts st u = (_, u.1, (u.0, refl, u.3, u.2), refl)
  begin_tells (Finish n block held env) acts st u = (_, u.2, (u.0, u.1, numbers env, refl, u.3, u.4), refl)
  begin_tells (VisitBy n v env) acts st u = visit_tells n v env acts st u
  begin_tells (RunBody f env) acts st u = u

  -- ---- an outcome at an activation

  -- the innermost number has these
  abbrev Innermost : List (Act ScopedBody) → State → ℕ → Kind → List ℕ → Type 0
  Innermost acts st n kind inside = (is : List Item) × (below : List Item) × TellsAt st is Calm × (is ≡ item n kind inside ∷ below) × Shown below acts

  protect_tells : (d : Verdict) (entry : Entry) (env : Env) (acts : List (Act ScopedBody)) (st : State) → (h : Innermost acts st entry.number ByProtect (entry.number ∷ numbers env)) → numbers env ≡ inside_of h.1 → MachTells (protect_verdict S p d entry env acts st)
  protect_tells (Leaves o) entry env acts st h e = ended_tells entry.number ByProtect (entry.number ∷ numbers env) o h.0 h.1 acts st (loose ByProtect (λ cut is b. refl) o) h.3 h.2 h.4
  protect_tells (Again receiver) entry env acts st h e =
      let i = item entry.number ByProtect (entry.number ∷ numbers env) in
      (h.1, tells_on st.events (Event.Again entry.number) st.next (i ∷ h.1) (i ∷ h.1) Calm Calm (λ b. here entry.number _ _) (λ b o. o) (tells_same st.events st.next h.0 (i ∷ h.1) Calm h.3 h.2), h.4, e)

  signal_tells : (n x : ℕ) (d : SignalVerdict) (env : Env) (acts : List (Act ScopedBody)) (st : State) → (h : Innermost acts st n BySignal (numbers env)) → numbers env ≡ inside_of h.1 → MachTells (signal_verdict S p n x d env acts st)
  signal_tells n x (Ends o) env acts st h e = ended_tells n BySignal (numbers env) o h.0 h.1 acts st (loose BySignal (λ cut is b. refl) o) h.3 h.2 h.4
  signal_tells n x (Signals f) env acts st h e = (h.1, tells_same st.events st.next h.0 _ Calm h.3 h.2, h.4, e)

  -- an action is begun
  ensure_tells : (n : ℕ) (block : Value) (held : Outcome) (env : Env) (acts : List (Act ScopedBody)) (st : State) → Acted (ByEnsure true) held → Innermost acts st n (ByEnsure false) (numbers env) → MachTells (finish_act S p n block held env acts st)
  ensure_tells n block held env acts st a h =
      let i = item n (ByEnsure false) (numbers env) in
      (h.1, ByEnsure true, tells_on st.events (Event.Action n) st.next (i ∷ h.1) (item n (ByEnsure true) (numbers env) ∷ h.1) Calm Calm (λ b. here n _ _) (λ b o. o) (tells_same st.events st.next h.0 (i ∷ h.1) Calm h.3 h.2), a, h.4)

  curtail_tells : (n : ℕ) (block : Value) (held : Outcome) (env : Env) (acts : List (Act ScopedBody)) (st : State) → Acted (ByCurtail true) held → Innermost acts st n (ByCurtail false) (numbers env) → MachTells (finish_act S p n block held env acts st)
  curtail_tells n block held env acts st a h =
      let i = item n (ByCurtail false) (numbers env) in
      (h.1, ByCurtail true, tells_on st.events (Event.Action n) st.next (i ∷ h.1) (item n (ByCurtail true) (numbers env) ∷ h.1) Calm Calm (λ b. here n _ _) (λ b o. o) (tells_same st.events st.next h.0 (i ∷ h.1) Calm h.3 h.2), a, h.4)

  -- a value at a turn: with an entry it is an unwinding
  turn_ends : (t : Turn) (entry : Option Entry) (s : List Mark) (v : Value) → EndsBy (kind_of_turn entry) (elim entry [ Some x ↦ Go (Protected x.number) v | None ↦ default_value (is_at_signal t.signal s) t.resume_point v ])
  turn_ends t (Some entry) s v = λ is b. refl
  turn_ends t None s v = loose ByDefault (λ cut is b. refl) (default_value (is_at_signal t.signal s) t.resume_point v)

  turn_cut : (entry : Option Entry) (is : List Item) (b : ℕ) → ends (kind_of_turn entry) true is b ≡ Some (auditor is Calm b)
  turn_cut (Some entry) is b = refl
  turn_cut None is b = refl

  give_tells : (v : Value) (a : Act ScopedBody) (acts : List (Act ScopedBody)) (st : State) (is : List Item) → TellsAt st is Calm → Shown is (a ∷ acts) → MachTells (give S p v a acts st)
  give_tells v (BodyAct x) acts st is t h = (is, t, h.1, h.0)
  give_tells v (Leaving x) acts st is t h = (is, t, h)
  give_tells v (ProtectAct receiver entry env) acts st is t h = protect_tells (protect_end entry.number receiver (Answer v)) entry env acts st (is, h.0, t, h.1, h.3) h.2
  give_tells v (EnsureOn n block env) acts st is t h = ensure_tells n block (Answer v) env acts st tt (is, h.0, t, h.1, h.3)
  give_tells v (CurtailOn n block env) acts st is t h = ended_tells n (ByCurtail false) (numbers env) (Answer v) is h.0 acts st (λ js b. refl) h.1 t h.3
  give_tells v (ActionOff n held) acts st is t h = ended_tells n h.1 h.2 held is h.0 acts st (acted h.1 held h.4) h.3 t h.5
  give_tells v (SignalAct n e env) acts st is t h = signal_tells n e (signal_end n (Answer v)) env acts st (is, h.0, t, h.1, h.3) h.2
  give_tells v (HandlerRun n turn) acts st is t h = ended_tells n (kind_of_turn turn.entry) (numbers turn.outside) (turn_end turn (M acts) (Answer v)) is h.0 acts st (turn_ends turn turn.entry (M acts) v) h.1 t h.2
  give_tells v (OuterAct n) acts st is t h = ended_tells n ByOuter h.1 (outer_end n (Answer v)) is h.0 acts st (loose ByOuter (λ cut js b. refl) (outer_end n (Answer v))) h.2 t h.3
  give_tells v (ResumeWait n w k turn env) acts st is t h = asked_tells (is_true v) w k turn env acts st (is, t, h.2, h.0) h.1
  give_tells v (HandlesWait n x entry rest) acts st is t h =
      let x' = search_of x (numbers rest) in
      tried_tells (is_true v) x entry rest acts (ended n (Answer v) st) h.0 (Answered entry.number x') (λ c b. refl) (tells_end st.events st.next n false (ByAsk entry.number x') (numbers rest) h.0 (Answered entry.number x') (λ b. refl) (tells_same st.events st.next is _ Calm h.1 t)) h.2
  give_tells v (LoopAct n l env) acts st is t h = (is, t, h.1, h.0)

  -- what is only left
  goes : (o : Outcome) (acts : List (Act ScopedBody)) (st : State) (is : List Item) → TellsAt st is Calm → Shown is acts → SettleTells o acts st
  goes (Answer v) acts st is t s = (is, t, s)
  goes (Go g v) acts st is t s = (is, t, s)
  goes (Stop l) acts st is t s = stops st is Calm t

  unwind_tells : (g : Target) (v : Value) (a : Act ScopedBody) (acts : List (Act ScopedBody)) (st : State) (is : List Item) → TellsAt st is Calm → Shown is (a ∷ acts) → MachTells (unwind S p g v a acts st)
  unwind_tells g v (BodyAct x) acts st is t h = goes (at_home x.frame.own g v) acts st is t h.1
  unwind_tells g v (Leaving x) acts st is t h = goes (at_home x.frame.own g v) acts st is t h
  unwind_tells g v (ProtectAct receiver entry env) acts st is t h = protect_tells (protect_end entry.number receiver (Go g v)) entry env acts st (is, h.0, t, h.1, h.3) h.2
  unwind_tells g v (EnsureOn n block env) acts st is t h = ensure_tells n block (Go g v) env acts st tt (is, h.0, t, h.1, h.3)
  unwind_tells g v (CurtailOn n block env) acts st is t h = curtail_tells n block (Go g v) env acts st tt (is, h.0, t, h.1, h.3)
  unwind_tells g v (ActionOff n held) acts st is t h = ended_tells n h.1 h.2 (Go g v) is h.0 acts st (acted_cut h.1 held h.4 g v) h.3 t h.5
  unwind_tells g v (SignalAct n e env) acts st is t h = signal_tells n e (signal_end n (Go g v)) env acts st (is, h.0, t, h.1, h.3) h.2
  unwind_tells g v (HandlerRun n turn) acts st is t h = ended_tells n (kind_of_turn turn.entry) (numbers turn.outside) (Go g v) is h.0 acts st (turn_cut turn.entry) h.1 t h.2
  unwind_tells g v (OuterAct n) acts st is t h = ended_tells n ByOuter h.1 (outer_end n (Go g v)) is h.0 acts st (loose ByOuter (λ cut js b. refl) (outer_end n (Go g v))) h.2 t h.3
  unwind_tells g v (ResumeWait n w k turn env) acts st is t h = (is, t, h.2)
  unwind_tells g v (HandlesWait n x entry rest) acts st is t h = ended_tells n (ByAsk entry.number (search_of x (numbers rest))) (numbers rest) (Go g v) is h.0 acts st (λ js b. refl) h.1 t h.2
  unwind_tells g v (LoopAct n l env) acts st is t h = (is, t, h.1)

  pub settle_tells : (o : Outcome) (acts : List (Act ScopedBody)) (st : State) → MachTells (Settle o acts st) → MachTells (step S p (Settle o acts st))
  settle_tells (Answer v) [] st h = h
  settle_tells (Answer v) (a ∷ acts) st h = give_tells v a acts st h.0 h.1 h.2
  settle_tells (Go t v) [] st h = h
  settle_tells (Go t v) (a ∷ acts) st h = unwind_tells t v a acts st h.0 h.1 h.2
  settle_tells (Stop l) acts st h = h

  pub begins_tells : (u : Use) (acts : List (Act ScopedBody)) (st : State) → MachTells (Begin u acts st) → MachTells (step S p (Begin u acts st))
  begins_tells u acts st h = begin_tells u acts st h
