-- What is said of a call by how it ends.
use Rattle.std.proofs.Common.{◌≡◌, ◌≢◌, ◌⊎◌, ◌∙◌, inl, inr, ℕ, ◌++◌, List, [], ◌∷◌, length, Option, None, Some, IfSome, refl, sym, ap, subst, arith}
use Rattle.std.proofs.lemmas.List.{append-nil}
use Rattle.std.specs.Io.KnownBytes.{append_known}
use Rattle.st_base.specs.declared.faults.Place.{Place}
use Rattle.st_base.specs.declared.faults.Reason.{Reason}
use Rattle.st_base.specs.Streams.{GainsPrefix}
use Rattle.sif_chunks.specs.Reading.{Takes}
use Rattle.sif_elements.specs.Answered.{LeavesOpen}
use Rattle.sif_elements.specs.Reading.{Read, Refuse}
use Rattle.sif_elements.specs.Steps.{reading}
use Rattle.st_tree.specs.declared.units.Unit as unit
use Rattle.st_checks.specs.StaticRules.{broken, first_break}
use Rattle.st_words.specs.declared.command.Command.{Command}
use Rattle.st_words.specs.declared.command.Task.{Task}
use Rattle.st_words.specs.declared.command.Task.TheVariants as task
use Rattle.st_trace.specs.declared.auditing.AuditAnswer.TheVariants as audit
use Rattle.st_run.specs.declared.status.Status.{Status}
use Rattle.st_run.specs.declared.status.Status.TheVariants as final
use Rattle.st_run.specs.Statuses.{IsAnswer, IsEnding}
use Rattle.st_run.specs.Devices.{Device, Fails, Keeps, Gained, GainedPart}
use Rattle.st_run.specs.Reports.{read_fault_line, memory_line}
use Rattle.st_run.specs.Outcomes as Outcomes
use Rattle.st_run.specs.Outcomes.{Outcome, refused, usage, audited, OfTask, DoneBy}
use Rattle.st_run.specs.Commands.{ForBytes, Reads, IsValid, IsValidFor, IsValidBy, DoneStatus, Does, OfInput, OfAnswer, OfRules, LeavesOpenBy, StaysOpen, ReadsProgram, behind, file_of}
use Rattle.st_run.specs.Claim.{Call, command, IsDone, IsReported, StopsIn, in_output, in_report, in_fault, in_want, NoneFails, Claimed}
use Rattle.st_run.specs.Ends.{Finishes, finished, stops_in_output, stops_in_report, stops_in_want, wants, EndsBy, DoesTold, Calls, finishes, lacks, fails, stops_in_fault}
use Rattle.st_run.proofs.StatusLemmas.{is_answer, write_fault_tells}
use Rattle.st_run.proofs.SomeOutcome.{some_outcome, some_of_rules, of_task_status}
use Rattle.st_run.proofs.OneOutcome.{one_answer}

-- what holds of the outcome holds for the command
for_outcome : (command : Option Command) (left : Option (List ℕ)) (P : Outcome → Type 0) (outcome : Outcome) → DoesTold command left outcome → P outcome → ForBytes command left P
for_outcome None left P outcome is holds = (outcome, is, holds)
for_outcome (Some c) None P outcome is holds = tt
for_outcome (Some c) (Some bytes) P outcome is holds = (outcome, is, holds)

for_all : (command : Option Command) (left : Option (List ℕ)) (P : Outcome → Type 0) → ((outcome : Outcome) → P outcome) → ForBytes command left P
for_all None left P holds = (usage, refl, holds usage)
for_all (Some c) None P holds = tt
for_all (Some c) (Some bytes) P holds =
    let o = some_outcome (Some c) bytes in
    (o.0, o.1, holds o.0)

-- ---- of a call that finishes

pub no_ending : (outcome : Outcome) (out report : Device) (status : Status) → (IsEnding outcome.status → ⊥) → Finishes outcome out report status → IsEnding status → ⊥
no_ending outcome out report status differs (finished wrote told is answer) at = differs (subst IsEnding is at)
no_ending outcome out report status differs (stops_in_output fault w part same) at = subst IsEnding fault at
no_ending outcome out report status differs (stops_in_report fault t whole part) at = subst IsEnding fault at
no_ending outcome out report status differs (stops_in_want fault t same part) at = subst IsEnding fault at
no_ending outcome out report status differs (wants want same told) at = subst IsEnding want at

module _ (c : Call) (outcome : Outcome) where
  is_done : Finishes outcome c.out c.report c.status → IsAnswer c.status → IsDone c outcome
  is_done (finished wrote told is answer) answers = record { wrote = wrote; told = told; answered = is }
  is_done (stops_in_output fault w part same) answers = absurd (subst IsAnswer fault answers)
  is_done (stops_in_report fault t whole part) answers = absurd (subst IsAnswer fault answers)
  is_done (stops_in_want fault t same part) answers = absurd (subst IsAnswer fault answers)
  is_done (wants want same told) answers = absurd (subst IsAnswer want answers)

  no_read_fault : Finishes outcome c.out c.report c.status → c.status ≢ final.ReadFault
  no_read_fault (finished wrote told is answer) = λ at. subst IsAnswer at answer
  no_read_fault (stops_in_output fault w part same) = λ at. cc
  no_read_fault (stops_in_report fault t whole part) = λ at. cc
  no_read_fault (stops_in_want fault t same part) = λ at. cc
  no_read_fault (wants want same told) = λ at. cc

  stops : Finishes outcome c.out c.report c.status → c.status ≡ final.WriteFault → StopsIn c outcome
  stops (finished wrote told is answer) at = absurd (subst IsAnswer at answer)
  stops (stops_in_output fault w part same) at = in_output w part same
  stops (stops_in_report fault t whole part) at = in_report t whole part
  stops (stops_in_want fault t same part) at = in_want t same part
  stops (wants want same told) at = cc

  cause : Finishes outcome c.out c.report c.status → c.status ≡ final.WriteFault → Fails c.out ⊎ Fails c.report
  cause (finished wrote told is answer) at = absurd (subst IsAnswer at answer)
  cause (stops_in_output fault w part same) at = inl w
  cause (stops_in_report fault t whole part) at = inr t
  cause (stops_in_want fault t same part) at = inr t
  cause (wants want same told) at = cc

  is_wanted : Finishes outcome c.out c.report c.status → c.status ≡ final.OutOfMemory → IsReported c memory_line
  is_wanted (finished wrote told is answer) at = absurd (subst IsAnswer at answer)
  is_wanted (stops_in_output fault w part same) at = cc
  is_wanted (stops_in_report fault t whole part) at = cc
  is_wanted (stops_in_want fault t same part) at = cc
  is_wanted (wants want same told) at = record { wrote = same; told = told }

-- a text that was made
pub made_text : (text bytes : List ℕ) (out report : Device) (status : Status) → bytes ≡ text → Finishes (Outcomes.done bytes) out report status → Finishes (Outcomes.done text) out report status
made_text text bytes out report status same f = subst (λ (t : List ℕ). Finishes (Outcomes.done t) out report status) same f

-- with a property of outcomes
pub ends_by : (P : Outcome → Type 0) (o : Outcome) (out report : Device) (status : Status) → P o → Finishes o out report status → EndsBy P out report status
ends_by P o out report status is f = record { outcome = o; is = is; ends = f }

-- of the task that a command names
pub of_task : (t : Task) (c : Command) (us : List unit.Unit) (bytes : ℕ) (out report : Device) (status : Status) → c.task ≡ t → EndsBy (OfTask t c us bytes) out report status → EndsBy (OfTask c.task c us bytes) out report status
of_task t c us bytes out report status is e = subst (λ (u : Task). EndsBy (OfTask u c us bytes) out report status) (sym is) e

-- where memory is wanted, any outcome will do
pub wanted_by : (P : Outcome → Type 0) (out report : Device) (status : Status) → ((o : Outcome) × P o) → ((o : Outcome) → Finishes o out report status) → EndsBy P out report status
wanted_by P out report status o f = record { outcome = o.0; is = o.1; ends = f o.0 }

-- a program that meets the static rules, and one that breaks them
module _ (c : Command) (us : List unit.Unit) (bytes : ℕ) (out report : Device) (status : Status) where
  pub by_rules : (vs : List unit.Unit) → vs ≡ us → first_break us ≡ None → EndsBy (OfTask c.task c vs bytes) out report status → EndsBy (OfRules c us bytes (first_break us)) out report status
  by_rules vs same meets e = record { outcome = e.outcome; is = rw meets (rw (← same) e.is); ends = e.ends }

  pub by_break : (place : Place) (why : Reason) → first_break us ≡ Some (broken place why) → Finishes (refused place why) out report status → EndsBy (OfRules c us bytes (first_break us)) out report status
  by_break place why breaks f = record { outcome = refused place why; is = rw breaks refl; ends = f }

  pub want_by_rules : ((o : Outcome) → Finishes o out report status) → EndsBy (OfRules c us bytes (first_break us)) out report status
  want_by_rules f = wanted_by (OfRules c us bytes (first_break us)) out report status (some_of_rules c us bytes (first_break us)) f

pub append_known-nil : (known : Option (List ℕ)) → append_known known [] ≡ known
append_known-nil None = refl
append_known-nil (Some bytes) = ap Some (append-nil bytes)

gained_nothing : (d : Device) (bytes : List ℕ) → Keeps d → bytes ≡ [] → Gained d bytes
gained_nothing d bytes same none = same ∙ sym (ap (append_known d.before) none ∙ append_known-nil d.before)

-- ---- what is told and written

-- an outcome without output, whose line is told
module _ (outcome : Outcome) (out report : Device) (status : Status) (same : Keeps out) where
  pub tells : (line : List ℕ) → line ≡ outcome.report → outcome.output ≡ [] → IsAnswer outcome.status → outcome.status ≢ final.WriteFault
      → (status ≢ final.WriteFault → (status ≡ outcome.status) × (report.after ≡ append_known report.before line))
      → (outcome.status ≢ final.WriteFault → status ≡ final.WriteFault → GainsPrefix report.before report.after line × Fails report)
      → Finishes outcome out report status
  tells line is quiet answer other whole part = elim (write_fault_tells status) [
    | inl at ↦ stops_in_report at (part other at).1 (gained_nothing out outcome.output same quiet) (rw (← is) (part other at).0)
    | inr differs ↦
        finished (gained_nothing out outcome.output same quiet) ((whole differs).1 ∙ ap (append_known report.before) is) (whole differs).0
        (subst IsAnswer (sym (whole differs).0) answer)
  ]

  pub tells_want : (status ≢ final.WriteFault → (status ≡ final.OutOfMemory) × (report.after ≡ append_known report.before memory_line))
      → (final.OutOfMemory ≢ final.WriteFault → status ≡ final.WriteFault → GainsPrefix report.before report.after memory_line × Fails report)
      → Finishes outcome out report status
  tells_want whole part = elim (write_fault_tells status) [
    | inl at ↦ stops_in_want at (part (λ is. cc) at).1 same (part (λ is. cc) at).0
    | inr differs ↦ wants (whole differs).0 same (whole differs).1
  ]

pub told_or_wanted : (status : Status) (A : Type 0) → (status ≢ final.WriteFault → (status ≡ final.OutOfMemory) × A) → (status ≡ final.WriteFault) ⊎ (status ≡ final.OutOfMemory)
told_or_wanted status A whole = elim (write_fault_tells status) [ inl at ↦ inl at | inr differs ↦ inr (whole differs).0 ]

module _ (bytes : List ℕ) (out report : Device) (same : Keeps report) where
  pub writes_all : Gained out bytes → Finishes (Outcomes.done bytes) out report final.Done
  writes_all wrote = finished wrote (gained_nothing report [] same refl) refl tt

  pub writes_part : Fails out → GainedPart out bytes → Finishes (Outcomes.done bytes) out report final.WriteFault
  writes_part w part = stops_in_output refl w part same

-- ---- of a whole call

-- what is claimed of a call by how it ends
module _ (c : Call) where
  abbrev Ends : Type 0
  Ends = Calls (command c) c.source c.out c.report c.status

  done_of : Ends → IsAnswer c.status → ForBytes (command c) c.source.before (IsDone c)
  done_of (finishes outcome f is end) answer = for_outcome (command c) c.source.before (IsDone c) outcome is (is_done c outcome f answer)
  done_of (lacks f (inl fault)) answer = absurd (subst IsAnswer fault answer)
  done_of (lacks f (inr want)) answer = absurd (subst IsAnswer want answer)
  done_of (fails fault same told r reads opens) answer = absurd (subst IsAnswer fault answer)
  done_of (stops_in_fault fault t r same part reads) answer = absurd (subst IsAnswer fault answer)

  end_of : Ends → IsEnding c.status → IfSome c.source.after (λ bytes. bytes ≡ [])
  end_of (finishes outcome f is end) at = end at
  end_of (lacks f (inl fault)) at = absurd (subst IsEnding fault at)
  end_of (lacks f (inr want)) at = absurd (subst IsEnding want at)
  end_of (fails fault same told r reads opens) at = absurd (subst IsEnding fault at)
  end_of (stops_in_fault fault t r same part reads) at = absurd (subst IsEnding fault at)

  fault_of : Ends → c.status ≡ final.ReadFault → IsReported c read_fault_line
  fault_of (finishes outcome f is end) at = absurd (no_read_fault c outcome f at)
  fault_of (lacks f (inl fault)) at = cc
  fault_of (lacks f (inr want)) at = cc
  fault_of (fails fault same told r reads opens) at = record { wrote = same; told = told }
  fault_of (stops_in_fault fault t r same part reads) at = cc

  fault_cause : Ends → c.status ≡ final.ReadFault → Fails c.source × Reads (command c)
  fault_cause (finishes outcome f is end) at = absurd (no_read_fault c outcome f at)
  fault_cause (lacks f (inl fault)) at = cc
  fault_cause (lacks f (inr want)) at = cc
  fault_cause (fails fault same told r reads opens) at = (r, reads)
  fault_cause (stops_in_fault fault t r same part reads) at = cc

  fault_open : Ends → c.status ≡ final.ReadFault → IfSome c.source.before (λ bytes. StaysOpen (command c) bytes c.source.after)
  fault_open (finishes outcome f is end) at = absurd (no_read_fault c outcome f at)
  fault_open (lacks f (inl fault)) at = cc
  fault_open (lacks f (inr want)) at = cc
  fault_open (fails fault same told r reads opens) at = opens
  fault_open (stops_in_fault fault t r same part reads) at = cc

  write_of : Ends → c.status ≡ final.WriteFault → ForBytes (command c) c.source.before (StopsIn c)
  write_of (finishes outcome f is end) at = for_outcome (command c) c.source.before (StopsIn c) outcome is (stops c outcome f at)
  write_of (lacks f either) at = for_all (command c) c.source.before (StopsIn c) (λ outcome. stops c outcome (f outcome) at)
  write_of (fails fault same told r reads opens) at = cc
  write_of (stops_in_fault fault t r same part reads) at = for_all (command c) c.source.before (StopsIn c) (λ outcome. in_fault r t same part)

  write_cause_of : Ends → c.status ≡ final.WriteFault → Fails c.out ⊎ Fails c.report
  write_cause_of (finishes outcome f is end) at = cause c outcome f at
  write_cause_of (lacks f either) at = cause c usage (f usage) at
  write_cause_of (fails fault same told r reads opens) at = cc
  write_cause_of (stops_in_fault fault t r same part reads) at = inr t

  want_of : Ends → c.status ≡ final.OutOfMemory → IsReported c memory_line
  want_of (finishes outcome f is end) at = is_wanted c outcome f at
  want_of (lacks f either) at = is_wanted c usage (f usage) at
  want_of (fails fault same told r reads opens) at = cc
  want_of (stops_in_fault fault t r same part reads) at = cc

  no_write : Ends → NoneFails c → c.status ≢ final.WriteFault
  no_write ends none at = elim (write_cause_of ends at) [ inl w ↦ none.1 w | inr t ↦ none.2 t ]

  complete_of : Ends → NoneFails c → c.status ≢ final.OutOfMemory → ForBytes (command c) c.source.before (IsDone c)
  complete_of ends none other = done_of ends (is_answer c.status (λ at. none.0 (fault_cause ends at).0) (no_write ends none) other)

file_status : (t : Task) (c : Command) (bytes : List ℕ) (o : Outcome) → c.task ≡ t → OfAnswer c (length (file_of c bytes)) (reading (file_of c bytes)) o → IsValidFor c bytes → DoneBy t o.status
file_status t c bytes o same is v =
    let read : OfRules c v.units (length (file_of c bytes)) (first_break v.units) o = rw (v.reads) at is in
    let met : OfTask c.task c v.units (length (file_of c bytes)) o = rw (v.meets) at read in
    subst (λ (u : Task). DoneBy u o.status) same (of_task_status c.task c v.units (length (file_of c bytes)) o met)

status_by : (t : Task) (c : Command) (bytes : List ℕ) (o : Outcome) → c.task ≡ t → OfInput t c bytes o → IsValidBy t c bytes → DoneBy t o.status
status_by task.Audit c bytes o same is v =
    let found : is.answer ≡ audit.Disciplined v.lines = one_answer bytes is.answer (audit.Disciplined v.lines) is.audits v.audits in
    ap (λ (x : Outcome). x.status) (is.outcome ∙ ap audited found)
status_by task.Run c bytes o same is v = file_status task.Run c bytes o same is v
status_by task.Check c bytes o same is v = file_status task.Check c bytes o same is v
status_by task.List c bytes o same is v = file_status task.List c bytes o same is v
status_by task.Export c bytes o same is v = file_status task.Export c bytes o same is v
status_by task.Gen c bytes o same is v = file_status task.Gen c bytes o same is v
status_by task.Trace c bytes o same is v = file_status task.Trace c bytes o same is v
status_by task.Shake c bytes o same is v = file_status task.Shake c bytes o same is v

valid_status : (c : Command) (bytes : List ℕ) (o : Outcome) → Does (Some c) bytes o → IsValidBy c.task c bytes → DoneBy c.task o.status
valid_status c bytes o is v = status_by c.task c bytes o refl is v

valid_of : (c : Call) (command : Option Command) (left : Option (List ℕ)) → ForBytes command left (IsDone c) → Reads command → IfSome left (λ bytes. IsValid command bytes → DoneStatus command c.status)
valid_of c None left done reads = absurd reads
valid_of c (Some x) None done reads = tt
valid_of c (Some x) (Some bytes) done reads = λ valid. subst (λ (s : Status). DoneBy x.task s) (sym done.2.answered) (valid_status x bytes done.0 done.1 valid)

pub claimed : (c : Call) → Calls (command c) c.source c.out c.report c.status → Claimed c
claimed c ends = record {
  done = done_of c ends;
  read_to_end = end_of c ends;
  read_fault = fault_of c ends;
  read_cause = fault_cause c ends;
  read_open = fault_open c ends;
  write_fault = write_of c ends;
  write_cause = write_cause_of c ends;
  want = want_of c ends;
  complete = complete_of c ends;
  valid = λ none other reads. valid_of c (command c) c.source.before (complete_of c ends none other) reads;
}

-- ---- the ways in which a call comes to its end

-- the file that is read, where the source tells its bytes
known_file : (c : Command) (left : Option (List ℕ)) (lines : List ℕ) (P : List ℕ → Type 0) → lines ≡ behind c → IfSome (append_known left lines) P → IfSome left (λ bytes. P (file_of c bytes))
known_file c None lines P is holds = tt
known_file c (Some bytes) lines P is holds = rw is at holds

-- as many bytes were taken as the file has, where none are left of it
pub count_is : (file left : Option (List ℕ)) (bytes : ℕ) (got : List ℕ) → Takes 0 bytes file left got → IfSome left (λ bytes. bytes ≡ []) → IfSome file (λ file. bytes ≡ length file)
count_is file None bytes got t end = subst (λ (o : Option (List ℕ)). IfSome o (λ file. bytes ≡ length file)) (sym t.bytes) tt
count_is file (Some rest) bytes got t end =
    let all : length (got ++ rest) ≡ length got = ap (λ (r : List ℕ). length (got ++ r)) end ∙ ap length (append-nil got) in
    let same : bytes ≡ length (got ++ rest) = omega (arith, t.count, all) in
    subst (λ (o : Option (List ℕ)). IfSome o (λ file. bytes ≡ length file)) (sym t.bytes) same

-- nothing is left of the input where nothing is left of the file
pub none_left : (left : Option (List ℕ)) (lines : List ℕ) → IfSome (append_known left lines) (λ bytes. bytes ≡ []) → IfSome left (λ bytes. bytes ≡ [])
none_left None lines is = tt
none_left (Some []) lines is = refl
none_left (Some (x ∷ xs)) lines is = absurd cc

-- a file with a program comes to what its reading answers
of_program : (t : Task) → ReadsProgram t → (c : Command) (bytes : List ℕ) (o : Outcome) → OfAnswer c (length (file_of c bytes)) (reading (file_of c bytes)) o → OfInput t c bytes o
of_program task.Audit program c bytes o is = absurd program
of_program task.Run program c bytes o is = is
of_program task.Check program c bytes o is = is
of_program task.List program c bytes o is = is
of_program task.Export program c bytes o is = is
of_program task.Gen program c bytes o is = is
of_program task.Trace program c bytes o is = is
of_program task.Shake program c bytes o is = is

opens_program : (t : Task) → ReadsProgram t → (left left' : Option (List ℕ)) → IfSome left (λ bytes. LeavesOpen bytes left') → IfSome left (λ bytes. LeavesOpenBy t bytes left')
opens_program task.Audit program left left' h = absurd program
opens_program task.Run program left left' h = h
opens_program task.Check program left left' h = h
opens_program task.List program left left' h = h
opens_program task.Export program left left' h = h
opens_program task.Gen program left left' h = h
opens_program task.Trace program left left' h = h
opens_program task.Shake program left left' h = h

pub reads_program : (t : Task) → (t ≡ task.Audit → ⊥) → ReadsProgram t
reads_program task.Audit other = absurd (other refl)
reads_program task.Run other = tt
reads_program task.Check other = tt
reads_program task.List other = tt
reads_program task.Export other = tt
reads_program task.Gen other = tt
reads_program task.Trace other = tt
reads_program task.Shake other = tt

module _ (c : Command) (program : ReadsProgram c.task) (source out report : Device) (lines lines' : List ℕ) (status : Status) where
  read_does : (left : Option (List ℕ)) (us : List unit.Unit) (bytes : ℕ) (o : Outcome) → IfSome left (λ file. reading (file_of c file) ≡ Read us) → IfSome left (λ file. bytes ≡ length (file_of c file)) → OfRules c us bytes (first_break us) o → IfSome left (λ file. Does (Some c) file o)
  read_does None us bytes o is count does = tt
  read_does (Some file) us bytes o is count does =
      let answers : OfAnswer c (length (file_of c file)) (reading (file_of c file)) o = rw is (rw (← count) does) in
      of_program c.task program c file o answers

  refused_does : (left : Option (List ℕ)) (place : Place) (why : Reason) → IfSome left (λ file. reading (file_of c file) ≡ Refuse place.element place.byte why) → IfSome left (λ file. Does (Some c) file (refused place why))
  refused_does None place why is = tt
  refused_does (Some file) place why is =
      let answers : OfAnswer c (length (file_of c file)) (reading (file_of c file)) (refused place why) = rw is refl in
      of_program c.task program c file (refused place why) answers

  pub read_calls : (us : List unit.Unit) (bytes : ℕ) → lines ≡ behind c → IfSome (append_known source.before lines) (λ file. reading file ≡ Read us) → IfSome (append_known source.before lines) (λ file. bytes ≡ length file) → IfSome (append_known source.after lines') (λ bytes. bytes ≡ []) → EndsBy (OfRules c us bytes (first_break us)) out report status → Calls (Some c) source out report status
  read_calls us bytes same is count end e =
      finishes e.outcome e.ends (read_does source.before us bytes e.outcome (known_file c source.before lines (λ file. reading file ≡ Read us) same is) (known_file c source.before lines (λ file. bytes ≡ length file) same count) e.is) (λ at. none_left source.after lines' end)

  pub refused_calls : (place : Place) (why : Reason) → lines ≡ behind c → IfSome (append_known source.before lines) (λ file. reading file ≡ Refuse place.element place.byte why) → Finishes (refused place why) out report status → Calls (Some c) source out report status
  refused_calls place why same is f =
      finishes (refused place why) f (refused_does source.before place why (known_file c source.before lines (λ file. reading file ≡ Refuse place.element place.byte why) same is)) (λ at. absurd (no_ending (refused place why) out report status (λ at. at) f at))

module _ (source out report : Device) (status : Status) (same : Keeps out) where
  pub fault_calls : (c : Command)
      → (status ≢ final.WriteFault → (status ≡ final.ReadFault) × (report.after ≡ append_known report.before read_fault_line))
      → (status ≡ final.WriteFault → GainsPrefix report.before report.after read_fault_line × Fails report)
      → Fails source → IfSome source.before (λ bytes. StaysOpen (Some c) bytes source.after) → Calls (Some c) source out report status
  fault_calls c whole part r opens = elim (write_fault_tells status) [
    | inl at ↦ stops_in_fault at (part at).1 r same (part at).0 tt
    | inr differs ↦ fails (whole differs).0 same (whole differs).1 r tt opens
  ]

  pub program_fault_calls : (c : Command) → ReadsProgram c.task
      → (status ≢ final.WriteFault → (status ≡ final.ReadFault) × (report.after ≡ append_known report.before read_fault_line))
      → (status ≡ final.WriteFault → GainsPrefix report.before report.after read_fault_line × Fails report)
      → Fails source → IfSome source.before (λ bytes. LeavesOpen bytes source.after) → Calls (Some c) source out report status
  program_fault_calls c program whole part r opens = fault_calls c whole part r (opens_program c.task program source.before source.after opens)

pub usage_calls : (command : Option Command) (source out report : Device) (status : Status) → command ≡ None → Finishes usage out report status → Calls command source out report status
usage_calls command source out report status is f = finishes usage f (rw is refl) (λ at. absurd (no_ending usage out report status (λ at. at) f at))

pub want_calls : (command : Option Command) (source out report : Device) (status : Status) → (status ≡ final.WriteFault) ⊎ (status ≡ final.OutOfMemory) → ((outcome : Outcome) → Finishes outcome out report status) → Calls command source out report status
want_calls command source out report status at f = lacks f at
