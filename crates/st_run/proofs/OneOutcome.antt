-- A command has no second outcome: a program has no second run, by the rules or by the flat machine.
use Rattle.std.proofs.Common.{◌≡◌, ◌⊎◌, ◌≤◌, ◌∙◌, inl, inr, ℕ, zero, suc, ◌+◌, ◌-◌, List, length, Option, None, Some, refl, sym, ap, arith}
use Rattle.st_tree.specs.declared.units.Unit as unit
use Rattle.sif_elements.specs.Reading.{Answer, Read, Refuse}
use Rattle.sif_elements.specs.Steps.{reading}
use Rattle.st_checks.specs.StaticRules.{Break, first_break}
use Rattle.st_code.specs.Program.{Program}
use Rattle.st_rules.specs.State.{State}
use Rattle.st_rules.specs.Runs.{Ending}
use Rattle.st_rules.specs.Flat.{FlatBody}
use Rattle.st_rules.specs.Flattened.{flat_of}
use Rattle.st_rules.specs.Turns.{Top, Ended, MachineRuns, instructions, opened_run, top_iter}
use Rattle.st_rules.proofs.Larger.{one_ending, one_state}
use Rattle.st_machine_laws.proofs.Moments.{counts_add}
use Rattle.st_words.specs.declared.command.Command.{Command}
use Rattle.st_words.specs.declared.command.Task.{Task}
use Rattle.st_words.specs.declared.command.Task.TheVariants as task
use Rattle.st_run.specs.declared.status.Status.{Status}
use Rattle.st_run.specs.Outcomes.{Outcome, program_for, ending_status, transcript, trace_lines, summary, ended, audited, IsOfRun, OfAudit, OfTask}
use Rattle.st_trace.specs.Bytes.{Audits}
use Rattle.st_trace.specs.declared.auditing.AuditAnswer.{AuditAnswer}
use Rattle.st_trace.proofs.Walking.{audits_once}
use Rattle.st_run.specs.Commands.{OfInput, OfRules, OfAnswer, OneOutcome, file_of}

-- ---- instructions

order : (m n : ℕ) → (m ≤ n) ⊎ (n ≤ m)
order zero n = inl (omega arith)
order (suc m) zero = inr (omega arith)
order (suc m) (suc n) = elim (order m n) [
  | inl h ↦ inl (omega (arith, h))
  | inr h ↦ inr (omega (arith, h))
]

module _ (p : Program) where
  -- no instruction is made behind the end
  none_run : (n : ℕ) (e : Ending) (st : State) → instructions (flat_of p) p n (Ended e st) ≡ 0
  none_run zero e st = refl
  none_run (suc n) e st = let h = none_run n e st in omega (arith, h)

  longer : (n k : ℕ) (e : Ending) (st : State) → top_iter (flat_of p) p n (opened_run (flat_of p) p) ≡ Ended e st → instructions (flat_of p) p (n + k) (opened_run (flat_of p) p) ≡ instructions (flat_of p) p n (opened_run (flat_of p) p)
  longer n k e st is =
      let both : instructions (flat_of p) p (n + k) (opened_run (flat_of p) p) ≡ instructions (flat_of p) p n (opened_run (flat_of p) p) + instructions (flat_of p) p k (top_iter (flat_of p) p n (opened_run (flat_of p) p)) = counts_add (flat_of p) p n k (opened_run (flat_of p) p) in
      let none : instructions (flat_of p) p k (top_iter (flat_of p) p n (opened_run (flat_of p) p)) ≡ 0 = ap (λ (t : Top FlatBody). instructions (flat_of p) p k t) is ∙ none_run k e st in
      omega (arith, both, none)

  no_later : (n m : ℕ) (e : Ending) (st : State) → n ≤ m → top_iter (flat_of p) p n (opened_run (flat_of p) p) ≡ Ended e st → instructions (flat_of p) p m (opened_run (flat_of p) p) ≡ instructions (flat_of p) p n (opened_run (flat_of p) p)
  no_later n m e st h is =
      let split : m ≡ n + (m - n) = omega (arith, h) in
      ap (λ k. instructions (flat_of p) p k (opened_run (flat_of p) p)) split ∙ longer n (m - n) e st is

  one_count : (e e' : Ending) (st st' : State) (c c' : ℕ) → MachineRuns (flat_of p) p e st c → MachineRuns (flat_of p) p e' st' c' → c ≡ c'
  one_count e e' st st' c c' a b = elim (order a.steps b.steps) [
    | inl before ↦ sym a.counted ∙ sym (no_later a.steps b.steps e st before a.leads) ∙ b.counted
    | inr behind ↦ sym a.counted ∙ no_later b.steps a.steps e' st' behind b.leads ∙ b.counted
  ]

-- ---- outcomes

one_status : (e e' : Ending) (s s' : Status) → e ≡ e' → ending_status e ≡ Some s → ending_status e' ≡ Some s' → s ≡ s'
one_status e e' s s' same is is' = let both : Some s ≡ Some s' = sym is ∙ ap ending_status same ∙ is' in cc

one_of_run : (c : Command) (us : List unit.Unit) (output : Ending → State → List ℕ) (o o' : Outcome) → IsOfRun c us output o → IsOfRun c us output o' → o ≡ o'
one_of_run c us output o o' a b =
    let p = program_for c us in
    let ending : a.ending ≡ b.ending = one_ending p a.ending b.ending a.state b.state a.run.by_the_rules b.run.by_the_rules in
    let state : a.state ≡ b.state = one_state p a.ending b.ending a.state b.state a.run.by_the_rules b.run.by_the_rules in
    let count : a.instructions ≡ b.instructions = one_count p a.ending b.ending a.run.state b.run.state a.instructions b.instructions a.run.by_the_machine b.run.by_the_machine in
    let status : a.status ≡ b.status = one_status a.ending b.ending a.status b.status ending a.answered b.answered in
    a.outcome
    ∙ ap (λ (e : Ending). ended c us e a.status a.state a.instructions (output e a.state)) ending
    ∙ ap (λ (s : Status). ended c us b.ending s a.state a.instructions (output b.ending a.state)) status
    ∙ ap (λ (st : State). ended c us b.ending b.status st a.instructions (output b.ending st)) state
    ∙ ap (λ n. ended c us b.ending b.status b.state n (output b.ending b.state)) count
    ∙ sym b.outcome

one_of_task : (t : Task) (c : Command) (us : List unit.Unit) (bytes : ℕ) (o o' : Outcome) → OfTask t c us bytes o → OfTask t c us bytes o' → o ≡ o'
one_of_task task.Run c us bytes o o' a b = one_of_run c us transcript o o' a b
one_of_task task.Check c us bytes o o' a b = a ∙ sym b
one_of_task task.List c us bytes o o' a b = a ∙ sym b
one_of_task task.Export c us bytes o o' a b = a ∙ sym b
one_of_task task.Gen c us bytes o o' a b = one_of_run c us (summary us bytes) o o' a b
one_of_task task.Trace c us bytes o o' a b = one_of_run c us trace_lines o o' a b
one_of_task task.Audit c us bytes o o' a b = a ∙ sym b
one_of_task task.Shake c us bytes o o' a b = a ∙ sym b

one_of_rules : (c : Command) (us : List unit.Unit) (bytes : ℕ) (x : Option Break) (o o' : Outcome) → OfRules c us bytes x o → OfRules c us bytes x o' → o ≡ o'
one_of_rules c us bytes None o o' a b = one_of_task c.task c us bytes o o' a b
one_of_rules c us bytes (Some x) o o' a b = a ∙ sym b

one_of_answer : (c : Command) (bytes : ℕ) (x : Answer) (o o' : Outcome) → OfAnswer c bytes x o → OfAnswer c bytes x o' → o ≡ o'
one_of_answer c bytes (Refuse element byte why) o o' a b = a ∙ sym b
one_of_answer c bytes (Read us) o o' a b = one_of_rules c us bytes (first_break us) o o' a b

-- an input has one audit
pub one_answer : (bytes : List ℕ) (a a' : AuditAnswer) → Audits bytes a → Audits bytes a' → a ≡ a'
one_answer bytes a a' h h' = audits_once bytes a h ∙ sym (audits_once bytes a' h')

one_of_audit : (bytes : List ℕ) (o o' : Outcome) → OfAudit bytes o → OfAudit bytes o' → o ≡ o'
one_of_audit bytes o o' a b = a.outcome ∙ ap audited (one_answer bytes a.answer b.answer a.audits b.audits) ∙ sym b.outcome

one_of_input : (t : Task) (c : Command) (bytes : List ℕ) (o o' : Outcome) → OfInput t c bytes o → OfInput t c bytes o' → o ≡ o'
one_of_input task.Audit c bytes o o' a b = one_of_audit bytes o o' a b
one_of_input task.Run c bytes o o' a b = one_of_answer c (length (file_of c bytes)) (reading (file_of c bytes)) o o' a b
one_of_input task.Check c bytes o o' a b = one_of_answer c (length (file_of c bytes)) (reading (file_of c bytes)) o o' a b
one_of_input task.List c bytes o o' a b = one_of_answer c (length (file_of c bytes)) (reading (file_of c bytes)) o o' a b
one_of_input task.Export c bytes o o' a b = one_of_answer c (length (file_of c bytes)) (reading (file_of c bytes)) o o' a b
one_of_input task.Gen c bytes o o' a b = one_of_answer c (length (file_of c bytes)) (reading (file_of c bytes)) o o' a b
one_of_input task.Trace c bytes o o' a b = one_of_answer c (length (file_of c bytes)) (reading (file_of c bytes)) o o' a b
one_of_input task.Shake c bytes o o' a b = one_of_answer c (length (file_of c bytes)) (reading (file_of c bytes)) o o' a b

pub one_outcome : OneOutcome
one_outcome None bytes o o' a b = a ∙ sym b
one_outcome (Some c) bytes o o' a b = one_of_input c.task c bytes o o' a b
