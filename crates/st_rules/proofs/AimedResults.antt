-- A result whose outcome is aimed at what stands, in a state that is as it should be.
use Rattle.std.proofs.Common.{ℕ, ◌≤◌, List}
use Rattle.st_rules.specs.State.{State, Mark}
use Rattle.st_rules.specs.Ends.{Result, Yields, NoIndex}
use Rattle.st_rules.proofs.Targets.{AimedAt, Ok}

-- an outcome that is aimed at what stands, in a state that is as it should be
abbrev pub Aimed : ℕ → List Mark → Result → Type 0
Aimed n s (Yields o st) = AimedAt o s × Ok s st.next st.store.closures × (n ≤ st.next)
Aimed n s NoIndex = Unit {0}

abbrev pub Fit : List Mark → State → Type 0
Fit s st = Ok s st.next st.store.closures
