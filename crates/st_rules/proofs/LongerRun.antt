-- A larger step limit only extends the Transcript: from the two runs at one index.
use Rattle.std.proofs.Common.{◌≡◌, ℕ, ◌+◌, ◌≤◌, refl, sym, ap, ◌∙◌, subst, arith}
use Rattle.st_code.specs.Program.{Program}
use Rattle.st_rules.specs.State.{State, StepLimit, DepthLimit, CellLimit, IntegerLimit, Outcome, Answer, Go, Stop}
use Rattle.st_rules.specs.Ends.{Yields}
use Rattle.st_rules.specs.Rules.{at_index}
use Rattle.st_rules.specs.Runs.{Ending, AtLimit, Runs, run_from, first_state, end_of}
use Rattle.st_rules.specs.StepLimits.{Begins, with_step_limit, Extends, KeepsOthers}
use Rattle.st_rules.proofs.Larger.{run_at}
use Rattle.st_rules.proofs.Transcripts.{begins_itself}
use Rattle.st_rules.proofs.LargerLimit.{Close, run_close, close_at}
use Rattle.st_rules.proofs.Transcripts.{grows_at}

same_outcome : (o o' : Outcome) (st st' : State) → Yields o' st' ≡ Yields o st → o ≡ o'
same_outcome o o' st st' e = cc

same_state : (o o' : Outcome) (st st' : State) → Yields o' st' ≡ Yields o st → st ≡ st'
same_state o o' st st' e = cc

same_begins : (o o' : Outcome) (st st' : State) → Yields o' st' ≡ Yields o st → Begins st.transcript st'.transcript
same_begins o o' st st' e = subst (λ (s : State). Begins st.transcript s.transcript) (same_state o o' st st' e) (begins_itself st.transcript)

close_begins : (o o' : Outcome) (st st' : State) → Close (Yields o st) (Yields o' st') → Begins st.transcript st'.transcript
close_begins (Answer v) o' st st' c = same_begins (Answer v) o' st st' c
close_begins (Go t v) o' st st' c = same_begins (Go t v) o' st st' c
close_begins (Stop StepLimit) o' st st' c = c
close_begins (Stop DepthLimit) o' st st' c = same_begins (Stop DepthLimit) o' st st' c
close_begins (Stop CellLimit) o' st st' c = same_begins (Stop CellLimit) o' st st' c
close_begins (Stop IntegerLimit) o' st st' c = same_begins (Stop IntegerLimit) o' st st' c

abbrev Alike : Outcome → Outcome → State → State → Type 0
Alike o o' st st' = (end_of o ≡ end_of o') × (st ≡ st')

alike : (o o' : Outcome) (st st' : State) → Yields o' st' ≡ Yields o st → Alike o o' st st'
alike o o' st st' e = (ap end_of (same_outcome o o' st st' e), same_state o o' st st' e)

close_alike : (o o' : Outcome) (st st' : State) → Close (Yields o st) (Yields o' st') → (end_of o ≡ AtLimit StepLimit → ⊥) → Alike o o' st st'
close_alike (Answer v) o' st st' c other = alike (Answer v) o' st st' c
close_alike (Go t v) o' st st' c other = alike (Go t v) o' st st' c
close_alike (Stop StepLimit) o' st st' c other = absurd (other refl)
close_alike (Stop DepthLimit) o' st st' c other = alike (Stop DepthLimit) o' st st' c
close_alike (Stop CellLimit) o' st st' c other = alike (Stop CellLimit) o' st st' c
close_alike (Stop IntegerLimit) o' st st' c other = alike (Stop IntegerLimit) o' st st' c

-- both outcomes at the sum of their indexes
close_runs : (p : Program) (limit : ℕ) → p.step_limit ≤ limit → (e e' : Ending) (st st' : State) (r : Runs p e st) (r' : Runs (with_step_limit p limit) e' st') → Close (Yields r.outcome st) (Yields r'.outcome st')
unfolding first_state
close_runs p limit le e e' st st' r r' =
    let q = with_step_limit p limit in
    let k = r.index + r'.index in
    let both : Close (run_from p (at_index p k) p.initializers (first_state p)) (run_from q (at_index q k) p.initializers (first_state p)) =
    run_close p limit le (at_index p k) (at_index q k) (close_at p limit le k) (grows_at q k) p.initializers (first_state p) in
    subst (λ y. Close (Yields r.outcome st) y) (run_at q e' st' r' k (omega arith))
    (subst (λ x. Close x (run_from q (at_index q k) p.initializers (first_state p))) (run_at p e st r k (omega arith)) both)

pub extends : Extends
extends p limit le e e' st st' r r' = close_begins r.outcome r'.outcome st st' (close_runs p limit le e e' st st' r r')

pub keeps_others : KeepsOthers
keeps_others p limit le e e' st st' r r' other =
    let a = close_alike r.outcome r'.outcome st st' (close_runs p limit le e e' st st' r r') (λ x. other (sym r.ends ∙ x)) in
    (sym r.ends ∙ a.0 ∙ r'.ends, a.1)
