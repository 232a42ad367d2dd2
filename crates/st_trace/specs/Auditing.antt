-- What is claimed of the auditor and of traces.
use Rattle.std.specs.Prelude.{◌≡◌, ◌↔◌, Bool, true, false, List, [], ◌∷◌, ◌++◌, Option, Some, is_some}
use Rattle.st_trace.specs.Lines.{Line, Tells, Stops}
use Rattle.st_trace.specs.Automaton.{Auditor, first_auditor, accepts_by, accepts_all, stops_by}
use Rattle.st_trace.specs.Disciplined.{Disciplined}

-- the auditor, which keeps a stack, accepts exactly the disciplined lists
abbrev pub AuditorAgrees : Type 0
AuditorAgrees = (lines : List Line) → Disciplined lines ↔ (accepts_all (Some first_auditor) lines ≡ true)

-- some disciplined list begins with these lines
abbrev pub Stands : List Line → Type 0
Stands lines = (rest : List Line) × Disciplined (lines ++ rest)

-- whether the lines stand, by what the auditor keeps
abbrev pub stands_by : Option Auditor → List Line → Bool
stands_by a [] = is_some a
stands_by a (Tells e ∷ lines) = stands_by (accepts_by e a) lines
stands_by a (Stops w ∷ []) = stops_by w a
stands_by a (Stops w ∷ line ∷ lines) = false

abbrev pub StandsByAuditor : Type 0
StandsByAuditor = (lines : List Line) → Stands lines ↔ (stands_by (Some first_auditor) lines ≡ true)
