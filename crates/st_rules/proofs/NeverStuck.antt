-- No run is stuck: with nothing standing, an outcome that is aimed is a value, a limit, or the end of the program.
use Rattle.std.proofs.Common.{◌≡◌, [], subst, arith}
use Rattle.st_rules.specs.State.{Home, Protected, Retry, RetryWith, Resume, Resignal, Terminate, Outcome, Answer, Go, Stop}
use Rattle.st_rules.specs.Ends.{Yields}
use Rattle.st_rules.specs.Rules.{at_index}
use Rattle.st_rules.specs.Runs.{Stuck, first_state, end_of}
use Rattle.st_rules.specs.NeverStuck.{RulesNeverStuck, MachineNeverStuck}
use Rattle.st_rules.proofs.Targets.{AimedAt}
use Rattle.st_rules.proofs.AimedResults.{Aimed}
use Rattle.st_rules.specs.Watched.{watched_index}
use Rattle.st_rules.proofs.Watched.{agree_at, first_ok, run_same}
use Rattle.st_rules.proofs.SomeRun.{followed_by_the_rules}

not_stuck : (o : Outcome) → AimedAt o [] → end_of o ≡ Stuck → ⊥
not_stuck (Answer v) a e = grind (arith, e)
not_stuck (Stop l) a e = grind (arith, e)
not_stuck (Go (Home n) v) a e = a
not_stuck (Go (Protected n) v) a e = a
not_stuck (Go (Retry n) v) a e = a
not_stuck (Go (RetryWith n) v) a e = a
not_stuck (Go (Resume n) v) a e = a
not_stuck (Go (Resignal n f) v) a e = a
not_stuck (Go Terminate v) a e = grind (arith, e)

pub rules_never_stuck : RulesNeverStuck
rules_never_stuck p st r =
    let a = (run_same p (at_index p r.index) (watched_index p r.index) (agree_at p r.index) p.initializers (first_state p) (first_ok p)).1 in
    let b : Aimed 0 [] (Yields r.outcome st) = subst (λ x. Aimed 0 [] x) r.run a in
    not_stuck r.outcome b.0 r.ends

pub machine_never_stuck : MachineNeverStuck
machine_never_stuck p n st e = rules_never_stuck p st (followed_by_the_rules p n Stuck st e)
