-- What a reply says is said of the memory that it leaves, and the machine goes on with it as with the action.
use Rattle.std.proofs.Common.{◌≡◌, ℕ, ◌+◌, List, [], Bool, true, false, if◌then◌else◌, refl, ap, sym, subst, ◌∙◌}
use Rattle.object_heap.specs.declared.value.Value.{Value}
use Rattle.object_heap.specs.Store.{Store}
use Rattle.object_heap.specs.Charges.{Memory}
use Rattle.st_code.specs.Program.{Program}
use Rattle.st_collections.specs.declared.answer.Built.{Built}
use Rattle.st_collections.specs.Actions.{Action, Gives, Changes, Makes, Fails, PassesIntegers, DividesByZero, Writes, Begins, Activates, Sends, Misses, Enters, Guards, Ensures, Curtails, Iterates, Raises, RaisesNew, Controls, Terminates, Visit}
use Rattle.st_collections.specs.Answers.{charge_told}
use Rattle.st_contexts.specs.declared.activation.Env.{Env}
use Rattle.st_loops.specs.Steps.{Seen as Step, Out, told_of, memory_after as visit_memory, is_out, unless_out}
use Rattle.st_messages.specs.declared.reply.Reply.{Reply}
use Rattle.st_messages.specs.declared.reply.Written.{Written}
use Rattle.st_messages.specs.Replies.{Seen as Said, Answered, Raised, GoesOn, seen, told_by, memory_after, is_lost, unless_lost, written_text}
use Rattle.st_machine.specs.declared.work.Told.{Told}
use Rattle.st_machine.specs.declared.work.Told.TheVariants.{Nothing}
use Rattle.st_machine.specs.Seen.{Seen, with_memory}
use Rattle.st_machine.specs.Plans.{program_in}
use Rattle.st_machine.specs.Opening.{has_step, stepped}
use Rattle.st_machine.specs.Loops.{loop_stepped, visited_by}
use Rattle.st_machine.specs.Performing.{said, said_told, said_written, reply_written}
use Rattle.st_machine.specs.Sending.{acted, acted_told, acted_written}

-- ---- the store that a reply is read in

module _ (p : Program) (args : List Value) where
  answered_any : (r : Reply) (s s' : Store) (b : Built) → seen p s args r ≡ Answered b → seen p s' args r ≡ Answered b
  answered_any (Reply.Answer x) s s' b e = e
  answered_any (Reply.DividesByZero v) s s' b e = cc
  answered_any (Reply.Writes t v) s s' b e = cc
  answered_any (Reply.Begins v x) s s' b e = cc
  answered_any (Reply.Activates c x) s s' b e = cc
  answered_any (Reply.Sends n v x) s s' b e = cc
  answered_any (Reply.Misses n v) s s' b e = cc
  answered_any (Reply.Enters n v) s s' b e = cc
  answered_any (Reply.Guards u v w) s s' b e = cc
  answered_any (Reply.Ensures u v) s s' b e = cc
  answered_any (Reply.Curtails u v) s s' b e = cc
  answered_any (Reply.Iterates k v) s s' b e = cc
  answered_any (Reply.Raises n) s s' b e = cc
  answered_any (Reply.RaisesNew n x) s s' b e = cc
  answered_any (Reply.Controls c n v) s s' b e = cc
  answered_any (Reply.Terminates v) s s' b e = cc

  raised_any : (r : Reply) (s s' : Store) (n : ℕ) → seen p s args r ≡ Raised n → seen p s' args r ≡ Raised n
  raised_any (Reply.Answer x) s s' n e = cc
  raised_any (Reply.DividesByZero v) s s' n e = cc
  raised_any (Reply.Writes t v) s s' n e = cc
  raised_any (Reply.Begins v x) s s' n e = cc
  raised_any (Reply.Activates c x) s s' n e = cc
  raised_any (Reply.Sends k v x) s s' n e = cc
  raised_any (Reply.Misses k v) s s' n e = cc
  raised_any (Reply.Enters k v) s s' n e = cc
  raised_any (Reply.Guards u v w) s s' n e = cc
  raised_any (Reply.Ensures u v) s s' n e = cc
  raised_any (Reply.Curtails u v) s s' n e = cc
  raised_any (Reply.Iterates q v) s s' n e = cc
  raised_any (Reply.Raises k) s s' n e = e
  raised_any (Reply.RaisesNew k x) s s' n e = cc
  raised_any (Reply.Controls c k v) s s' n e = cc
  raised_any (Reply.Terminates v) s s' n e = cc

  pub seen_later : (a : Action) (m : Memory) (r : Reply) → seen p m.store args r ≡ told_by a m → seen p (memory_after a m).store args r ≡ told_by a m
  seen_later (Gives v) m r e = e
  seen_later (Changes t v) m r e = answered_any r m.store (memory_after (Changes t v) m).store (Built.Value v) e
  seen_later (Makes n t v) m r e = answered_any r m.store (memory_after (Makes n t v) m).store (charge_told n v m) e
  seen_later (Fails t) m r e = e
  seen_later PassesIntegers m r e = e
  seen_later (DividesByZero v) m r e = e
  seen_later (Writes t v) m r e = e
  seen_later (Begins v vs) m r e = e
  seen_later (Activates c vs) m r e = e
  seen_later (Sends n v vs) m r e = e
  seen_later (Misses n v vs) m r e = e
  seen_later (Enters n v vs) m r e = e
  seen_later (Guards u v w) m r e = e
  seen_later (Ensures u v) m r e = e
  seen_later (Curtails u v) m r e = e
  seen_later (Iterates l) m r e = e
  seen_later (Raises t n) m r e = raised_any r m.store (memory_after (Raises t n) m).store n e
  seen_later (RaisesNew n vs) m r e = e
  seen_later (Controls c n v) m r e = e
  seen_later (Terminates v) m r e = e

-- ---- what is told doesn't ask for the memory

gone_on_told_same : (a : Action) (s : Seen) (m : Memory) → said_told (GoesOn a) (with_memory s m) ≡ said_told (GoesOn a) s
gone_on_told_same (Gives v) s m = refl
gone_on_told_same (Changes t v) s m = refl
gone_on_told_same (Makes n t v) s m = refl
gone_on_told_same (Fails t) s m = refl
gone_on_told_same PassesIntegers s m = refl
gone_on_told_same (DividesByZero v) s m = refl
gone_on_told_same (Writes t v) s m = refl
gone_on_told_same (Begins v vs) s m = refl
gone_on_told_same (Activates c vs) s m = refl
gone_on_told_same (Sends n v vs) s m = refl
gone_on_told_same (Misses n v vs) s m = refl
gone_on_told_same (Enters n v vs) s m = refl
gone_on_told_same (Guards u v w) s m = refl
gone_on_told_same (Ensures u v) s m = refl
gone_on_told_same (Curtails u v) s m = refl
gone_on_told_same (Iterates l) s m = refl
gone_on_told_same (Raises t n) s m = refl
gone_on_told_same (RaisesNew n vs) s m = refl
gone_on_told_same (Controls c n v) s m = refl
gone_on_told_same (Terminates v) s m = refl

pub said_told_same : (x : Said) (s : Seen) (m : Memory) → said_told x (with_memory s m) ≡ said_told x s
said_told_same (Answered b) s m = refl
said_told_same (Raised e) s m = refl
said_told_same (GoesOn a) s m = gone_on_told_same a s m

-- ---- what is written stands in the memory that is left

pub written_there : (r : Reply) (s s' : Seen) (env : Env) → s' ≡ said (seen (program_in s.plan) s.memory.store s.passed.values r) env s → written_text (program_in s'.plan) s'.memory.store (reply_written r) ≡ said_written (seen (program_in s.plan) s.memory.store s.passed.values r)
written_there (Reply.Answer x) s s' env e = refl
written_there (Reply.DividesByZero v) s s' env e = refl
written_there (Reply.Writes t v) s s' env e = ap (λ (x : Seen). written_text (program_in x.plan) x.memory.store t) e
written_there (Reply.Begins v x) s s' env e = refl
written_there (Reply.Activates c x) s s' env e = refl
written_there (Reply.Sends n v x) s s' env e = refl
written_there (Reply.Misses n v) s s' env e = refl
written_there (Reply.Enters n v) s s' env e = refl
written_there (Reply.Guards u v w) s s' env e = refl
written_there (Reply.Ensures u v) s s' env e = refl
written_there (Reply.Curtails u v) s s' env e = refl
written_there (Reply.Iterates k v) s s' env e = refl
written_there (Reply.Raises n) s s' env e = refl
written_there (Reply.RaisesNew n x) s s' env e = refl
written_there (Reply.Controls c n v) s s' env e = refl
written_there (Reply.Terminates v) s s' env e = refl

-- ---- a send, as the code has it

module _ (s : Seen) (m : Memory) (r : Reply) (does : Program → Store → List Value → Action) (done : Program → Store → List Value → Bool) where
  abbrev here : Action
  here = does (program_in s.plan) s.memory.store s.passed.values

  abbrev sound : Bool
  sound = done (program_in s.plan) s.memory.store s.passed.values

  abbrev onwards : Seen
  onwards = record s { steps = s.steps + 1 }

  -- what a reply of the machine that made its step brings
  pub record Does (t : Seen) : Type 0 where
    pub says : (env : Env) → said (seen (program_in t.plan) m.store t.passed.values r) env (with_memory t m) ≡ acted sound here env s
    pub tells : said_told (seen (program_in t.plan) m.store t.passed.values r) (with_memory t m) ≡ acted_told sound here s
    pub writes : said_written (seen (program_in t.plan) m.store t.passed.values r) ≡ acted_written sound here s

  abbrev Claim : Seen → Type 0
  Claim t =
      (args : List Value) → args ≡ t.passed.values → true ≡ done (program_in t.plan) t.memory.store args → is_lost r ≡ false
      → m ≡ unless_lost r t.memory (memory_after (does (program_in t.plan) t.memory.store args) t.memory)
      → seen (program_in t.plan) t.memory.store args r ≡ unless_lost r (seen (program_in t.plan) t.memory.store args r) (told_by (does (program_in t.plan) t.memory.store args) t.memory)
      → Does t

  module _ (step : has_step s ≡ true) where
    goes_on : true ≡ sound → m ≡ memory_after here s.memory → seen (program_in s.plan) s.memory.store s.passed.values r ≡ told_by here s.memory → Does onwards
    goes_on is left told =
        let later : seen (program_in s.plan) m.store s.passed.values r ≡ told_by here s.memory =
        ap (λ (n : Memory). seen (program_in s.plan) n.store s.passed.values r) left ∙ seen_later (program_in s.plan) s.passed.values here s.memory r told in
        record {
          says = λ env. rw (step, ← is) (ap (λ (x : Said). said x env (with_memory onwards m)) later ∙ ap (λ (n : Memory). said (told_by here s.memory) env (with_memory onwards n)) left);
          tells = rw (step, ← is) (ap (λ (x : Said). said_told x (with_memory onwards m)) later ∙ said_told_same (told_by here s.memory) onwards m);
          writes = rw (step, ← is) (ap said_written later);
        }

    claim : Claim onwards
    claim args same is kept left told =
        let is' : true ≡ sound = rw same at is in
        let left' : m ≡ memory_after here s.memory = rw (kept, same) at left in
        let told' : seen (program_in s.plan) s.memory.store s.passed.values r ≡ told_by here s.memory = rw (kept, same) at told in
        goes_on is' left' told'

    pub does_so : (t : Seen) → t ≡ stepped s → Claim t
    does_so t e =
        let made : stepped s ≡ onwards = rw step refl in
        subst Claim (sym (e ∙ made)) claim

-- ---- a visit, as the code has it

pub visited_so : (s : Seen) (v : Visit) (env : Env) (m other : Memory) (st : Step) → is_out st ≡ false → m ≡ unless_out st other (visit_memory v s.memory) → st ≡ unless_out st Out (told_of v s.memory) → loop_stepped st env (with_memory s m) ≡ visited_by v env s
visited_so s v env m other st inside left told =
    let left_here : m ≡ visit_memory v s.memory = rw inside at left in
    let told_here : st ≡ told_of v s.memory = rw inside at told in
    ap (λ (n : Memory). loop_stepped st env (with_memory s n)) left_here ∙ ap (λ (x : Step). loop_stepped x env (with_memory s (visit_memory v s.memory))) told_here
