-- A trace of twelve lines is disciplined; without the action of its `ensure:` the ninth line can't stand; without its stop all lines stand.
use Rattle.std.proofs.Common.{◌≡◌, List, [], ◌∷◌, ◌++◌, Some, true, false, refl}
use Rattle.st_rules.specs.Events.{Event, Protect, Ensure, Signal, Search, Tried, Handle, Action, End}
use Rattle.st_trace.specs.Lines.{Tells}
use Rattle.st_trace.specs.declared.line.StopWord.TheVariants.{Done}
use Rattle.st_trace.specs.Automaton.{first_auditor}
use Rattle.st_trace.specs.Disciplined.{Disciplined}
use Rattle.st_trace.specs.Auditing.{stands_by}
use Rattle.st_trace.specs.Told.{trace_of}
use Rattle.st_trace.proofs.Agreement.{auditor_agrees}

abbrev before : List Event
before = Protect 2 ∷ Ensure 4 ∷ Signal 6 ∷ Search 6 ∷ Tried 2 true ∷ Handle 7 2 ∷ End 7 true ∷ End 6 true ∷ []

abbrev behind : List Event
behind = End 4 true ∷ End 2 false ∷ []

row : Disciplined (trace_of (before ++ Action 4 ∷ behind) Done)
row = (auditor_agrees (trace_of (before ++ Action 4 ∷ behind) Done)).1 refl

without_action : stands_by (Some first_auditor) (Tells (Protect 2) ∷ Tells (Ensure 4) ∷ Tells (Signal 6) ∷ Tells (Search 6) ∷ Tells (Tried 2 true) ∷ Tells (Handle 7 2) ∷ Tells (End 7 true) ∷ Tells (End 6 true) ∷ Tells (End 4 true) ∷ []) ≡ false
without_action = refl

eight_stand : stands_by (Some first_auditor) (Tells (Protect 2) ∷ Tells (Ensure 4) ∷ Tells (Signal 6) ∷ Tells (Search 6) ∷ Tells (Tried 2 true) ∷ Tells (Handle 7 2) ∷ Tells (End 7 true) ∷ Tells (End 6 true) ∷ []) ≡ true
eight_stand = refl
