-- What holds of a machine holds after a search, a turn and the question whether an exception is resumable.
use Rattle.std.proofs.Common.{◌≡◌, ℕ, ◌+◌, ◌-◌, ◌^◌, ◌<◌, ◌≤◌, List, [], Bool, true, false, Option, Some, None, if◌then◌else◌, refl, arith}
use Rattle.object_heap.specs.declared.value.Value.{Value}
use Rattle.object_heap.specs.declared.value.Value.TheVariants.{Object}
use Rattle.object_heap.specs.declared.value.Closure.{Closure}
use Rattle.st_contexts.specs.declared.activation.Activation.TheVariants as act
use Rattle.st_contexts.specs.declared.activation.Entry.{Entry}
use Rattle.st_contexts.specs.declared.activation.Env.{Env}
use Rattle.st_contexts.specs.declared.activation.Turn.{Turn}
use Rattle.st_contexts.specs.declared.activation.SearchState.{SearchState}
use Rattle.st_contexts.specs.declared.activation.Wait.{Wait}
use Rattle.st_contexts.specs.declared.outcome.Outcome.TheVariants.{Answer}
use Rattle.st_contexts.specs.declared.outcome.Limit.TheVariants as limit
use Rattle.st_contexts.specs.Stack.{entry_in}
use Rattle.st_rules.specs.Rules.{sends_handles, sends_default_action, sends_is_resumable}
use Rattle.st_machine.specs.declared.work.Work.TheVariants as work
use Rattle.st_machine.specs.Seen.{Seen, with_passed, passing}
use Rattle.st_machine.specs.Plans.{program_in}
use Rattle.st_machine.specs.Opening.{closure_in, fitting}
use Rattle.st_machine.specs.Settling.{judged}
use Rattle.st_machine.specs.Searches.{one_passed, sending, sending_one, inquired, fits_here, plain_here, examined_by, searched_at, searched, turn_for, asks_nested, is_there, handler_of, handler_begun, nothing_passed, handler_applied, handled, defaulted, turned_at, turned_by, turned, resumability_asked}
use Rattle.st_machine.specs.Followed.{EntryBelow, TurnBelow, SearchBelow}
use Rattle.st_machine.proofs.Entries.{Names, names}
use Rattle.st_machine_laws.specs.Holding.{Course, search_allowance, Fits, Holds}
use Rattle.st_machine_laws.proofs.Blocks.{F, W, numbers, settles, stops, begins, place, placed, firm_placed, fits_placed, fewer}

some_allowance : (b : Bool) → 1 ≤ search_allowance b
some_allowance true = omega arith
some_allowance false = omega arith

small : (n m : ℕ) → n < m → n < m + 1
small n m l = omega (arith, l)

-- ---- a search

abbrev searches_of : SearchState → ℕ
searches_of x = search_allowance (asks_nested x.purpose)

pub judges : {course : Course} → (b : Bool) (x : SearchState) (entry : ℕ) (rest : Env) (s : Seen) → F course s → W s → Fits (searches_of x) s → SearchBelow s.stack.next x → entry < s.stack.next → rest.0 < s.stack.next → Holds course (judged b x entry rest s)
judges true x entry rest s f w h below e l = begins (work.TurnBy x (Some entry) rest) s f w h ((below, e), l) tt
judges false x entry rest s f w h below e l = begins (work.Search x rest) s f w h (below, l) tt

inquires : {course : Course} → (x : SearchState) (entry : Entry) (s : Seen) → F course s → W s → Fits (searches_of x) s → SearchBelow s.stack.next x → entry.protect < s.stack.next → entry.outside.0 < s.stack.next → Holds course (inquired x entry s)
inquires x entry s f w h below e l =
    place (Holds _) (λ y. sending_one (sends_handles (program_in s.plan)) entry.selector (Object x.exception) entry.outside y) (act.HandlesWait x entry.protect) entry.outside s (numbers (searches_of x) s f h)
    (begins (work.SendTo (sends_handles (program_in s.plan)) entry.selector entry.outside) (with_passed (placed (act.HandlesWait x entry.protect) entry.outside s) (one_passed (Object x.exception) s.passed)) (firm_placed (act.HandlesWait x entry.protect) entry.outside s f l (below, e)) (tt, w) (fits_placed (searches_of x) 0 (act.HandlesWait x entry.protect) entry.outside s (some_allowance (asks_nested x.purpose)) h) (small entry.outside.0 s.stack.next l) tt)
    (stops limit.Depth s f w (fewer (searches_of x) 0 s (omega arith) h))

examines : {course : Course} → (b : Bool) (x : SearchState) (entry : Entry) (s : Seen) → F course s → W s → Fits (searches_of x) s → SearchBelow s.stack.next x → entry.protect < s.stack.next → entry.outside.0 < s.stack.next → Holds course (examined_by b x entry s)
examines true x entry s f w h below e l = judges (fits_here x entry s) x entry.protect entry.outside s f w h below e l
examines false x entry s f w h below e l = inquires x entry s f w h below e l

searches_at : {course : Course} → (o : Option Entry) (x : SearchState) (rest : Env) (s : Seen) → entry_in rest.0 s.stack.acts ≡ o → F course s → W s → Fits (searches_of x) s → SearchBelow s.stack.next x → Holds course (searched_at o x s)
searches_at None x rest s is f w h below = begins (work.TurnBy x None x.whole) s f w h ((below, tt), below.0) tt
searches_at (Some entry) x rest s is f w h below =
    let n : Names s.stack.next s.stack.acts rest.0 entry = names s.stack.next s.stack.acts f.falling rest.0 entry is in
    let e : entry.protect < s.stack.next = omega (arith, n.number, n.within) in
    let l : entry.outside.0 < s.stack.next = omega (arith, n.outside, n.within) in
    examines (plain_here entry s) x entry s f w h below e l

pub searches : {course : Course} → (x : SearchState) (rest : Env) (s : Seen) → F course s → W s → Fits (searches_of x) s → SearchBelow s.stack.next x → Holds course (searched x rest s)
searches x rest s f w h below = searches_at (entry_in rest.0 s.stack.acts) x rest s refl f w h below

-- ---- a turn

module _ {course : Course} (x : SearchState) (outside : Env) (s : Seen) (f : F course s) (w : W s) (l : outside.0 < s.stack.next) where
  defaults : Fits 1 s → Holds course (defaulted x outside s)
  defaults h =
      place (Holds _) (λ y. sending (sends_default_action (program_in s.plan)) (Object x.exception) outside y) (act.HandlerRun (turn_for x None outside)) outside s (numbers 1 s f h)
      (begins (work.SendTo (sends_default_action (program_in s.plan)) (Object x.exception) outside) (with_passed (placed (act.HandlerRun (turn_for x None outside)) outside s) (passing [] s.passed)) (firm_placed (act.HandlerRun (turn_for x None outside)) outside s f l (l, tt)) (tt, w) (fits_placed 1 0 (act.HandlerRun (turn_for x None outside)) outside s (omega arith) h) (small outside.0 s.stack.next l) tt)
      (stops limit.Depth s f w (fewer 1 0 s (omega arith) h))

  begins_handler : (o : Option Closure) (handler : Value) (y : Seen) → F course y → W y → Fits 0 y → outside.0 < y.stack.next → Holds course (handler_begun o handler x.exception outside (nothing_passed y))
  begins_handler (Some c) handler y g v h k = begins (work.Activate c outside) (nothing_passed y) g v h k tt
  begins_handler None handler y g v h k = begins (work.Apply handler outside) (with_passed y (one_passed (Object x.exception) (passing [] y.passed))) g v h k tt

  handles : (entry : ℕ) → entry < s.stack.next → Fits 1 s → Holds course (handled x entry outside s)
  handles entry e h =
      let y : Seen = placed (act.HandlerRun (turn_for x (Some entry) outside)) outside s in
      place (Holds _) (λ y. handler_applied (handler_of entry s.stack.acts) x.exception outside y) (act.HandlerRun (turn_for x (Some entry) outside)) outside s (numbers 1 s f h)
      (begins_handler (fitting (closure_in (handler_of entry s.stack.acts) (nothing_passed y)) (nothing_passed y)) (handler_of entry s.stack.acts) y (firm_placed (act.HandlerRun (turn_for x (Some entry) outside)) outside s f l (l, e)) (tt, w) (fits_placed 1 0 (act.HandlerRun (turn_for x (Some entry) outside)) outside s (omega arith) h) (small outside.0 s.stack.next l))
      (stops limit.Depth s f w (fewer 1 0 s (omega arith) h))

  turns_at : (entry : Option ℕ) → EntryBelow s.stack.next entry → Fits 1 s → Holds course (turned_at entry x outside s)
  turns_at None e h = defaults h
  turns_at (Some entry) e h = handles entry e h

  turns_by : (b : Bool) (entry : Option ℕ) → EntryBelow s.stack.next entry → Fits (search_allowance b) s → Holds course (turned_by b x entry outside s)
  turns_by true entry e h = settles (Answer (is_there entry)) s f w h
  turns_by false entry e h = turns_at entry e h

  pub turns : (entry : Option ℕ) → EntryBelow s.stack.next entry → Fits (searches_of x) s → Holds course (turned x entry outside s)
  turns entry e h = turns_by (asks_nested x.purpose) entry e h

-- ---- `isResumable`

pub asks : {course : Course} → (v : Wait) (k : ℕ) (t : Turn) (env : Env) (s : Seen) → F course s → W s → Fits 1 s → TurnBelow s.stack.next t → env.0 < s.stack.next → Holds course (resumability_asked v k t env s)
asks v k t env s f w h below l =
    place (Holds _) (λ y. sending (sends_is_resumable (program_in s.plan)) (Object t.exception) env y) (act.ResumeWait v k t) env s (numbers 1 s f h)
    (begins (work.SendTo (sends_is_resumable (program_in s.plan)) (Object t.exception) env) (with_passed (placed (act.ResumeWait v k t) env s) (passing [] s.passed)) (firm_placed (act.ResumeWait v k t) env s f l below) (tt, w) (fits_placed 1 0 (act.ResumeWait v k t) env s (omega arith) h) (small env.0 s.stack.next l) tt)
    (stops limit.Depth s f w (fewer 1 0 s (omega arith) h))
