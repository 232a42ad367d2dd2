-- A built-in message that is done in place: one small step that tells and writes nothing.
use Rattle.std.proofs.Common.{◌≡◌, ℕ, ◌+◌, ◌-◌, ◌<◌, List, [], ◌∷◌, Bool, true, false, Option, Some, None, IfSome, IfNone, refl, ap, sym, ◌∙◌}
use Rattle.std.specs.Prelude.{max, length, is_some}
use Rattle.object_heap.specs.declared.value.Value.{Value}
use Rattle.object_heap.specs.declared.trouble.Trouble.TheVariants.{ZeroDivide}
use Rattle.object_heap.specs.Charges.{Memory}
use Rattle.object_heap.specs.Store.{Store}
use Rattle.st_code.specs.BuiltIns.{zero_divide_class}
use Rattle.st_code.specs.Lookup.{Level, BuiltIn, lookup, level_of}
use Rattle.st_code.specs.Messages.{Row}
use Rattle.st_code.specs.Program.{Program}
use Rattle.program_image.specs.declared.table.Found.{Found}
use Rattle.program_image.specs.Images.{as_row}
use Rattle.std.specs.Option.{option_map}
use Rattle.st_collections.specs.declared.answer.Built.{Built}
use Rattle.st_collections.specs.Actions.{Action, Gives, Changes, Makes, Fails, PassesIntegers, DividesByZero, Writes, Begins, Activates, Sends, Misses, Enters, Guards, Ensures, Curtails, Iterates, Raises, RaisesNew, Controls, Terminates, LoopState as State}
use Rattle.st_collections.specs.Loops.{first_visit}
use Rattle.st_contexts.specs.declared.activation.Activation.TheVariants as act
use Rattle.st_contexts.specs.declared.activation.Env.{Env}
use Rattle.st_contexts.specs.Stack.{pushed}
use Rattle.st_loops.specs.Kinds.{message_of}
use Rattle.st_loops.specs.Starts.{started}
use Rattle.st_loops.specs.Steps.{told_of, memory_after as visit_memory}
use Rattle.st_messages.specs.declared.reply.Reply.{Reply}
use Rattle.st_messages.specs.declared.row.MessageRow.{MessageRow}
use Rattle.st_messages.specs.Replies.{Seen as Said, GoesOn, seen, told_by, memory_after, passed_on, is_lost, unless_lost}
use Rattle.st_messages.specs.Rows.{table_row}
use Rattle.st_messages.specs.Sent.{is_ready, is_sound}
use Rattle.st_rules.specs.Sends.{send_action, row_action}
use Rattle.st_machine.specs.declared.work.Mode.{Mode}
use Rattle.st_machine.specs.declared.work.Mode.TheVariants.{Begin}
use Rattle.st_machine.specs.declared.work.Told.TheVariants.{Nothing}
use Rattle.st_machine.specs.declared.work.Work.TheVariants as work
use Rattle.st_machine.specs.Loops.{no_loop, iterated_by, loop_begins}
use Rattle.st_machine.specs.Opening.{has_place, has_step, stepped, beginning}
use Rattle.st_machine.specs.Performing.{answered_so, said, said_told, said_written, performed}
use Rattle.st_machine.specs.Plans.{program_in}
use Rattle.st_machine.specs.Seen.{Seen, with_mode, with_memory}
use Rattle.st_machine.specs.Signals.{text_in}
use Rattle.st_machine.proofs.Replied.{seen_later}
use Rattle.st_sprint.specs.AtOnce.{does_of, is_quiet, Replies, RepliesQuietly, replied}
use Rattle.st_sprint.specs.Dashes.{Finds}
use Rattle.st_sprint.specs.Sprinting.{SameRun}
use Rattle.st_sprint.proofs.Begun.{sends_so}
use Rattle.st_sprint.proofs.Sprints.{one_step, step_taken}
use Rattle.st_sprint.proofs.Visits.{passing_any, stepped_any}

-- ---- what a lookup finds

pub finds_if : (o : Option Found) (l : Level) (selector : ℕ) (r : Value) (s : Seen) → level_of s.memory.store r ≡ l → option_map as_row o ≡ lookup (program_in s.plan) l selector → IfSome o (λ found. Finds (as_row found) selector r s)
finds_if None l selector r s el e = tt
finds_if (Some found) l selector r s el e = record { is = ap (λ (k : Level). lookup (program_in s.plan) k selector) el ∙ sym e }

-- ---- what a row replies

module _ (row : MessageRow) (r : Value) (R : Type 0) (reserved : R) where
  pub replied_if : (o : Option Reply) (args : List Value) (s : Seen) (m : Memory) → args ≡ s.passed.values
      → IfSome o (λ reply. m ≡ unless_lost reply s.memory (memory_after (row_action (program_in s.plan) s.memory.store (table_row row) r args) s.memory))
      → IfSome o (λ reply. seen (program_in s.plan) s.memory.store args reply ≡ unless_lost reply (seen (program_in s.plan) s.memory.store args reply) (told_by (row_action (program_in s.plan) s.memory.store (table_row row) r args) s.memory))
      → IfSome o (λ reply. R → is_lost reply ≡ false)
      → is_some o ≡ is_sound s.memory.store (table_row row) r args
      → IfSome o (λ reply. Replies row r reply s (with_memory s m))
  replied_if None args s m same left told kept here = tt
  replied_if (Some reply) args s m same left told kept here =
      let left' : m ≡ memory_after (does_of row r s) s.memory = rw (kept reserved, same) at left in
      let told' : seen (program_in s.plan) s.memory.store s.passed.values reply ≡ told_by (does_of row r s) s.memory = rw (kept reserved, same) at told in
      let here' : true ≡ is_sound s.memory.store (table_row row) r s.passed.values = rw same at here in
      record { sound = sym here'; told = told'; made = ap (λ (n : Memory). with_memory s n) left' }

pub kept_if : (o : Option Reply) (s : Seen) (m : Memory) → IfNone o (m ≡ s.memory) → IfNone o (with_memory s m ≡ s)
kept_if None s m e = ap (λ (n : Memory). with_memory s n) e
kept_if (Some reply) s m e = tt

-- a reply that tells or writes leaves the memory as it was
goes_keeps : (a : Action) (m : Memory) (b : Action) → GoesOn b ≡ told_by a m → memory_after a m ≡ m
goes_keeps (Gives v) m b e = refl
goes_keeps (Changes t v) m b e = cc
goes_keeps (Makes n t v) m b e = cc
goes_keeps (Fails t) m b e = refl
goes_keeps PassesIntegers m b e = refl
goes_keeps (DividesByZero v) m b e = refl
goes_keeps (Writes t v) m b e = refl
goes_keeps (Begins v vs) m b e = refl
goes_keeps (Activates c vs) m b e = refl
goes_keeps (Sends n v vs) m b e = refl
goes_keeps (Misses n v vs) m b e = refl
goes_keeps (Enters n v vs) m b e = refl
goes_keeps (Guards u v w) m b e = refl
goes_keeps (Ensures u v) m b e = refl
goes_keeps (Curtails u v) m b e = refl
goes_keeps (Iterates l) m b e = refl
goes_keeps (Raises t n) m b e = cc
goes_keeps (RaisesNew n vs) m b e = refl
goes_keeps (Controls c n v) m b e = refl
goes_keeps (Terminates v) m b e = refl

loud_keeps : (a : Action) (m : Memory) (p : Program) (st : Store) (args : List Value) (r : Reply) → is_quiet r ≡ false → seen p st args r ≡ told_by a m → memory_after a m ≡ m
loud_keeps a m p st args (Reply.Answer b) q e = cc
loud_keeps a m p st args (Reply.DividesByZero v) q e = cc
loud_keeps a m p st args (Reply.Writes w v) q e = goes_keeps a m _ e
loud_keeps a m p st args (Reply.Begins v x) q e = cc
loud_keeps a m p st args (Reply.Activates c x) q e = cc
loud_keeps a m p st args (Reply.Sends n v x) q e = cc
loud_keeps a m p st args (Reply.Misses n v) q e = goes_keeps a m _ e
loud_keeps a m p st args (Reply.Enters n v) q e = cc
loud_keeps a m p st args (Reply.Guards u v w) q e = goes_keeps a m _ e
loud_keeps a m p st args (Reply.Ensures u v) q e = goes_keeps a m _ e
loud_keeps a m p st args (Reply.Curtails u v) q e = goes_keeps a m _ e
loud_keeps a m p st args (Reply.Iterates k v) q e = cc
loud_keeps a m p st args (Reply.Raises n) q e = cc
loud_keeps a m p st args (Reply.RaisesNew n x) q e = cc
loud_keeps a m p st args (Reply.Controls c n v) q e = goes_keeps a m _ e
loud_keeps a m p st args (Reply.Terminates v) q e = cc

pub stays_if_loud : (row : MessageRow) (r : Value) (reply : Reply) (s s' : Seen) → Replies row r reply s s' → is_quiet reply ≡ false → s' ≡ s
stays_if_loud row r reply s s' a q = a.made ∙ ap (λ (m : Memory). with_memory s m) (loud_keeps (does_of row r s) s.memory (program_in s.plan) s.memory.store s.passed.values reply q a.told)

-- ---- what a quiet reply tells, writes and makes, whatever the mode

module _ (p : Program) (st : Store) (args : List Value) where
  quiet_tells : (r : Reply) (s : Seen) → is_quiet r ≡ true → said_told (seen p st args r) s ≡ Nothing
  quiet_tells (Reply.Answer b) s q = refl
  quiet_tells (Reply.DividesByZero v) s q = refl
  quiet_tells (Reply.Writes w v) s q = cc
  quiet_tells (Reply.Begins v x) s q = refl
  quiet_tells (Reply.Activates c x) s q = refl
  quiet_tells (Reply.Sends n v x) s q = refl
  quiet_tells (Reply.Misses n v) s q = cc
  quiet_tells (Reply.Enters n v) s q = refl
  quiet_tells (Reply.Guards u v w) s q = cc
  quiet_tells (Reply.Ensures u v) s q = cc
  quiet_tells (Reply.Curtails u v) s q = cc
  quiet_tells (Reply.Iterates k v) s q = refl
  quiet_tells (Reply.Raises n) s q = refl
  quiet_tells (Reply.RaisesNew n x) s q = refl
  quiet_tells (Reply.Controls c n v) s q = cc
  quiet_tells (Reply.Terminates v) s q = refl

  quiet_writes : (r : Reply) → is_quiet r ≡ true → said_written (seen p st args r) ≡ []
  quiet_writes (Reply.Answer b) q = refl
  quiet_writes (Reply.DividesByZero v) q = refl
  quiet_writes (Reply.Writes w v) q = cc
  quiet_writes (Reply.Begins v x) q = refl
  quiet_writes (Reply.Activates c x) q = refl
  quiet_writes (Reply.Sends n v x) q = refl
  quiet_writes (Reply.Misses n v) q = cc
  quiet_writes (Reply.Enters n v) q = refl
  quiet_writes (Reply.Guards u v w) q = cc
  quiet_writes (Reply.Ensures u v) q = cc
  quiet_writes (Reply.Curtails u v) q = cc
  quiet_writes (Reply.Iterates k v) q = refl
  quiet_writes (Reply.Raises n) q = refl
  quiet_writes (Reply.RaisesNew n x) q = refl
  quiet_writes (Reply.Controls c n v) q = cc
  quiet_writes (Reply.Terminates v) q = refl

answered_any : (b : Built) (env : Env) (s : Seen) (m : Mode) → answered_so b env (with_mode s m) ≡ answered_so b env s
answered_any (Built.Value v) env s m = refl
answered_any (Built.Trouble t) env s m = refl
answered_any (Built.Cells used charge) env s m = refl
answered_any Built.IntegerLimit env s m = refl
answered_any Built.OutOfMemory env s m = refl

iterated_any : (b : Bool) (l : State) (env : Env) (s : Seen) (m : Mode) → iterated_by b l env (with_mode s m) ≡ iterated_by b l env s
iterated_any true l env s m = by_test (has_place s) refl
  where
    by_test : (b : Bool) → has_place s ≡ b → iterated_by true l env (with_mode s m) ≡ iterated_by true l env s
    by_test true h = rw h (stepped_any (told_of (first_visit (program_in s.plan) s.memory.store l) s.memory) env (with_memory (record s { stack = pushed (act.Loop no_loop) env s.stack; deepest = max s.deepest (length s.stack.acts + 1) }) (visit_memory (first_visit (program_in s.plan) s.memory.store l) s.memory)) m)
    by_test false h = rw h refl
iterated_any false l env s m = refl

module _ (p : Program) (st : Store) (args : List Value) where
  said_any : (r : Reply) (env : Env) (s : Seen) (m : Mode) → is_quiet r ≡ true → said (seen p st args r) env (with_mode s m) ≡ said (seen p st args r) env s
  said_any (Reply.Answer b) env s m q = answered_any b env s m
  said_any (Reply.DividesByZero v) env s m q = passing_any (text_in s.plan ZeroDivide ∷ v ∷ []) (work.RaiseNew zero_divide_class env) s m
  said_any (Reply.Writes w v) env s m q = cc
  said_any (Reply.Begins v x) env s m q = passing_any (passed_on st args x) (work.Apply v env) s m
  said_any (Reply.Activates c x) env s m q = passing_any (passed_on st args x) (work.Activate c env) s m
  said_any (Reply.Sends n v x) env s m q = passing_any (passed_on st args x) (work.SendTo n v env) s m
  said_any (Reply.Misses n v) env s m q = cc
  said_any (Reply.Enters n v) env s m q = passing_any args (work.Enter n v env) s m
  said_any (Reply.Guards u v w) env s m q = cc
  said_any (Reply.Ensures u v) env s m q = cc
  said_any (Reply.Curtails u v) env s m q = cc
  said_any (Reply.Iterates k v) env s m q = iterated_any (loop_begins s.memory.store (started p st (message_of k) v args)) (started p st (message_of k) v args) env s m
  said_any (Reply.Raises n) env s m q = refl
  said_any (Reply.RaisesNew n x) env s m q = passing_any (passed_on st args x) (work.RaiseNew n env) s m
  said_any (Reply.Controls c n v) env s m q = cc
  said_any (Reply.Terminates v) env s m q = refl

-- ---- the small step

row_does : (p : Program) (st : Store) (selector : ℕ) (row : Row) (r : Value) (args : List Value) → lookup p (level_of st r) selector ≡ Some (BuiltIn row) → send_action p st selector r args ≡ row_action p st row r args
unfolding send_action
row_does p st selector row r args e = rw e refl

row_sound : (p : Program) (st : Store) (selector : ℕ) (row : Row) (r : Value) (args : List Value) → lookup p (level_of st r) selector ≡ Some (BuiltIn row) → is_sound st row r args ≡ true → is_ready st (lookup p (level_of st r) selector) r args ≡ true
unfolding is_ready
row_sound p st selector row r args e sound = rw (e, sound) refl

pub replies_at_once : (n left selector : ℕ) (row : MessageRow) (r : Value) (env : Env) (reply : Reply) (s s1 s2 : Seen) → 0 < n → Finds (BuiltIn (table_row row)) selector r s → RepliesQuietly row r reply s s1 → has_step s ≡ true → s2 ≡ stepped s1
    → SameRun n left (beginning (work.SendTo selector r env) s) (n - 1) left (replied reply env s2)
replies_at_once n left selector row r env reply s s1 s2 ln f a h e2 =
    let b : Action = does_of row r s in
    let m : Memory = memory_after b s.memory in
    let begun : Seen = one_step (beginning (work.SendTo selector r env) s) in
    let later : seen (program_in s.plan) m.store s.passed.values reply ≡ told_by b s.memory = seen_later (program_in s.plan) s.passed.values b s.memory reply a.replies.told in
    let there : s2 ≡ one_step (with_memory s m) = e2 ∙ ap (λ (x : Seen). stepped x) a.replies.made ∙ step_taken (with_memory s m) h in
    let does : replied reply env s2 ≡ performed b env begun =
    ap (λ (x : Seen). replied reply env x) there
    ∙ sym (said_any (program_in s.plan) m.store s.passed.values reply env (one_step (with_memory s m)) (Begin (work.SendTo selector r env)) a.quiet)
    ∙ ap (λ (x : Said). said x env (with_memory begun m)) later in
    sends_so n left selector r env b s (replied reply env s2) ln
    (row_sound (program_in s.plan) s.memory.store selector (table_row row) r s.passed.values f.is a.replies.sound)
    (row_does (program_in s.plan) s.memory.store selector (table_row row) r s.passed.values f.is) h
    (ap (λ (x : Said). said_told x begun) (sym a.replies.told) ∙ quiet_tells (program_in s.plan) s.memory.store s.passed.values reply begun a.quiet)
    (ap (λ (x : Said). said_written x) (sym a.replies.told) ∙ quiet_writes (program_in s.plan) s.memory.store s.passed.values reply a.quiet)
    does
