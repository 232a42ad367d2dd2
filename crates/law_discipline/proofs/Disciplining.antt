-- Each run's trace is disciplined: the auditor accepts it, and it accepts the disciplined lists alone.
use Rattle.std.proofs.Common.{◌≡◌, List, [], ◌∷◌, Option, Some, refl, ◌∙◌}
use Rattle.st_rules.specs.Events.{Event}
use Rattle.st_trace.specs.declared.line.StopWord.{StopWord}
use Rattle.st_trace.specs.Automaton.{Auditor, first_auditor, accepts_by, accepts_all, after, auditor_after, stops_by}
use Rattle.st_trace.specs.Told.{trace_of, word_of}
use Rattle.st_trace.proofs.Agreement.{auditor_agrees}
use Rattle.law_discipline.specs.Disciplines.{RunsAreDisciplined}
use Rattle.law_discipline.proofs.Whole.{runs_are_accepted}

trace_accepted : (a : Option Auditor) (es : List Event) (w : StopWord) → accepts_all a (trace_of es w) ≡ stops_by w (after a es)
trace_accepted a [] w = refl
trace_accepted a (e ∷ es) w = trace_accepted (accepts_by e a) es w

pub runs_are_disciplined : RunsAreDisciplined
unfolding auditor_after
runs_are_disciplined p e st r = (auditor_agrees (trace_of st.events (word_of e))).1 (trace_accepted (Some first_auditor) st.events (word_of e) ∙ runs_are_accepted p e st r)
