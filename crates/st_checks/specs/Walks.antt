-- A walk over a body (ANSI NCITS 319, 3.4).
use Rattle.std.specs.Prelude.{[], ◌∷◌, drop}
use Rattle.st_checks.specs.Bodies.{Scope, Naming}
use Rattle.st_checks.specs.Views.{faults_of, joined}
use Rattle.st_checks.specs.declared.bodies.Walk.{Walk}

-- the faults of this part are found
unfoldable pub noted : Walk → Naming → Walk
noted w n = record w { faults = joined w.faults (faults_of w.view n) }

-- a scope opens
unfoldable pub entered : Walk → Scope → Walk
entered w s = record (noted w (record { scopes = s ∷ []; mentions = [] })) { scopes = s ∷ w.scopes }

-- the innermost scope ends
abbrev pub left : Walk → Walk
left w = record w { scopes = drop 1 w.scopes }
