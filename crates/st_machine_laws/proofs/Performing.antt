-- What holds of a machine holds after a send, and after what a message does at once.
use Rattle.std.proofs.Common.{◌≡◌, ℕ, ◌+◌, ◌-◌, ◌^◌, ◌<◌, ◌≤◌, List, [], ◌∷◌, length, Bool, true, false, Option, Some, None, nat_lt, nat_le, if◌then◌else◌, refl, arith}
use Rattle.std.proofs.lemmas.Bool.Decides.{nat_tests}
use Rattle.object_heap.specs.declared.value.Value.{Value}
use Rattle.object_heap.specs.declared.value.Value.TheVariants.{Object}
use Rattle.object_heap.specs.declared.trouble.Trouble.TheVariants.{ZeroDivide}
use Rattle.object_heap.specs.Store.{Store, object_added, blank_object}
use Rattle.object_heap.specs.Charges.{object_charge, charged, with_store}
use Rattle.st_code.specs.BuiltIns.{array_class, message_class, zero_divide_class}
use Rattle.st_collections.specs.declared.answer.Built.{Built}
use Rattle.st_collections.specs.Actions.{Action, Gives, Changes, Makes, Fails, PassesIntegers, DividesByZero, Writes, Begins, Activates, Sends, Misses, Enters, Guards, Ensures, Curtails, Iterates, Raises, RaisesNew, Controls, Terminates}
use Rattle.st_contexts.specs.declared.activation.Activation.{Activation}
use Rattle.st_contexts.specs.declared.activation.Activation.TheVariants as act
use Rattle.st_contexts.specs.declared.activation.Env.{Env}
use Rattle.st_contexts.specs.declared.outcome.Outcome.TheVariants.{Answer, Go}
use Rattle.st_contexts.specs.declared.outcome.Target.TheVariants.{Terminate}
use Rattle.st_contexts.specs.declared.outcome.Limit.TheVariants as limit
use Rattle.st_rules.specs.Rules.{sends_not_understood}
use Rattle.st_messages.specs.Replies.{Seen as Said, Answered, Raised, GoesOn, told_by, memory_after}
use Rattle.st_machine.specs.declared.work.Ending.TheVariants as ending
use Rattle.st_machine.specs.declared.work.Work.TheVariants as work
use Rattle.st_machine.specs.Seen.{Seen, with_memory, with_passed, passing}
use Rattle.st_machine.specs.Plans.{program_in}
use Rattle.st_machine.specs.Opening.{beginning}
use Rattle.st_machine.specs.Signals.{slots_put, text_in, if_object, exception_made}
use Rattle.st_machine.specs.Performing.{message_sent, message_slots, message_made, missed, guarded, answered_so, gone_on, said, performed}
use Rattle.st_machine.specs.Sending.{sent_by, acted, send_of, super_send_of, value_in, send_is_sound, super_send_is_sound, sent, super_sent, value_sent}
use Rattle.st_machine.specs.Followed.{KeptBelow}
use Rattle.st_machine_laws.specs.Holding.{Course, Waits, Fits, Holds}
use Rattle.st_machine_laws.proofs.Blocks.{F, W, numbers, firm_memory, firm_counts, settles, stops, begins, ends, passes, place, placed, firm_placed, fits_placed, fewer}
use Rattle.st_machine_laws.proofs.Controls.{controls}
use Rattle.st_machine_laws.proofs.Loops.{iterates}

within_limit : (n m : ℕ) → nat_le n m ≡ true → n ≤ m
within_limit n m e = grind (arith, nat_tests)

below_limit : (n m : ℕ) → nat_lt n m ≡ true → n + 1 ≤ m
below_limit n m e = grind (arith, nat_tests)

-- ---- the memory that is left

made_by : {course : Course} → (b : Bool) (class count : ℕ) (slots : List Value) (s : Seen) → nat_le (s.memory.used + object_charge count 0) s.memory.limit ≡ b → F course s → F course (with_memory s (exception_made class count slots s.memory))
made_by true class count slots s e f =
    rw e (firm_memory s.plan s.memory s.passed.room s.steps s.initializers s.instructions s.stack (slots_put count slots (length s.memory.store.objects) 0 (object_added (blank_object class count 0) s.memory.store)) (s.memory.used + object_charge count 0) f (within_limit (s.memory.used + object_charge count 0) s.memory.limit e))
made_by false class count slots s e f = rw e f

firm_made : {course : Course} → (class count : ℕ) (slots : List Value) (s : Seen) → F course s → F course (with_memory s (exception_made class count slots s.memory))
firm_made class count slots s f = made_by (nat_le (s.memory.used + object_charge count 0) s.memory.limit) class count slots s refl f

charged_by : {course : Course} → (b : Bool) (cells : ℕ) (t : Store) (s : Seen) → nat_le (s.memory.used + cells) s.memory.limit ≡ b → F course s → F course (with_memory s (charged cells t s.memory))
charged_by true cells t s e f = rw e (firm_memory s.plan s.memory s.passed.room s.steps s.initializers s.instructions s.stack t (s.memory.used + cells) f (within_limit (s.memory.used + cells) s.memory.limit e))
charged_by false cells t s e f = rw e f

firm_store : {course : Course} → (t : Store) (s : Seen) → F course s → F course (with_memory s (with_store t s.memory))
firm_store t s f = firm_memory s.plan s.memory s.passed.room s.steps s.initializers s.instructions s.stack t s.memory.used f f.within

firm_done : {course : Course} → (a : Action) (s : Seen) → F course s → F course (with_memory s (memory_after a s.memory))
firm_done (Raises t e) s f = firm_store t s f
firm_done (Changes t v) s f = firm_store t s f
firm_done (Makes cells t v) s f = charged_by (nat_le (s.memory.used + cells) s.memory.limit) cells t s refl f
firm_done _ s f = f

-- ---- what a message does at once

module _ {course : Course} (s : Seen) (f : F course s) (w : W s) (h : Fits 3 s) (env : Env) (l : env.0 < s.stack.next) where
  fits_none : Fits 0 s
  fits_none = fewer 3 0 s (omega arith) h

  fits_two : Fits 2 s
  fits_two = fewer 3 2 s (omega arith) h

  answers : (b : Built) → Holds course (answered_so b env s)
  answers (Built.Value v) = settles (Answer v) s f w fits_two
  answers (Built.Trouble t) = begins (work.Fail t env) s f w fits_two l tt
  answers (Built.Cells used charge) = stops limit.Cells s f w fits_none
  answers Built.IntegerLimit = stops limit.Integer s f w fits_none
  answers Built.OutOfMemory = ends ending.Stranded s f w fits_none

  guards : (kept : Activation) (receiver : Value) (inside : Env) → inside.0 < s.stack.next + 1 → KeptBelow s.stack.next kept → Waits s.plan.codes kept → Holds course (guarded kept receiver inside env s)
  guards kept receiver inside in' below waits =
      place (Holds course) (λ y. beginning (work.Apply receiver inside) (with_passed y (passing [] s.passed))) kept env s (numbers 3 s f h)
      (begins (work.Apply receiver inside) (with_passed (placed kept env s) (passing [] s.passed)) (firm_placed kept env s f l below) (waits, w) (fits_placed 3 0 kept env s (omega arith) h) in' tt)
      (stops limit.Depth s f w fits_none)

  message_sends : (o : Option ℕ) (r : Value) (t : Seen) → F course t → W t → Fits 0 t → env.0 < t.stack.next → Holds course (message_sent o r env t)
  message_sends (Some message) r t g v k b = passes (Object message ∷ []) (work.SendTo (sends_not_understood (program_in t.plan)) r env) t g v k b tt
  message_sends None r t g v k b = stops limit.Cells t g v k

  message_makes : (o : Option ℕ) (selector : ℕ) (r : Value) (t : Seen) → F course t → W t → Fits 0 t → env.0 < t.stack.next → Holds course (message_made o selector r env t)
  message_makes (Some array) selector r t g v k b = message_sends (if_object 2 t.memory) r (with_memory t (exception_made message_class 2 (message_slots selector array) t.memory)) (firm_made message_class 2 (message_slots selector array) t g) v k b
  message_makes None selector r t g v k b = stops limit.Cells t g v k

  misses : (selector : ℕ) (r : Value) (args : List Value) → Holds course (missed selector r args env s)
  misses selector r args = message_makes (if_object (length args) s.memory) selector r (with_memory s (exception_made array_class (length args) args s.memory)) (firm_made array_class (length args) args s f) w fits_none l

  small : env.0 < s.stack.next + 1
  small = omega (arith, l)

  goes_on : (a : Action) → Holds course (gone_on a env s)
  goes_on (Gives v) = ends ending.Stranded s f w fits_none
  goes_on (Changes t v) = ends ending.Stranded s f w fits_none
  goes_on (Makes cells t v) = ends ending.Stranded s f w fits_none
  goes_on (Fails trouble) = ends ending.Stranded s f w fits_none
  goes_on PassesIntegers = ends ending.Stranded s f w fits_none
  goes_on (Raises t e) = ends ending.Stranded s f w fits_none
  goes_on (Writes text v) = settles (Answer v) s f w fits_two
  goes_on (DividesByZero dividend) = passes (text_in s.plan ZeroDivide ∷ dividend ∷ []) (work.RaiseNew zero_divide_class env) s f w fits_two l tt
  goes_on (Begins v args) = passes args (work.Apply v env) s f w fits_none l tt
  goes_on (Activates c args) = passes args (work.Activate c env) s f w fits_none l tt
  goes_on (Sends selector r args) = passes args (work.SendTo selector r env) s f w fits_none l tt
  goes_on (Misses selector r args) = misses selector r args
  goes_on (Enters code r args) = passes args (work.Enter code r env) s f w h l tt
  goes_on (Guards receiver selector handler) = guards (act.Protect receiver selector handler) receiver (record { 0 = s.stack.next }) (let here : s.stack.next < s.stack.next + 1 = omega arith in here) tt tt
  goes_on (Ensures receiver block) = guards (act.EnsureOn block) receiver env small tt tt
  goes_on (Curtails receiver block) = guards (act.CurtailOn block) receiver env small tt tt
  goes_on (Iterates x) = iterates x env s f w h l
  goes_on (RaisesNew class slots) = passes slots (work.RaiseNew class env) s f w fits_two l tt
  goes_on (Controls c e v) = controls s f w fits_two env l c e v
  goes_on (Terminates v) = settles (Go Terminate v) s f w fits_two

  says : (x : Said) → Holds course (said x env s)
  says (Answered b) = answers b
  says (Raised e) = begins (work.Raise e env) s f w fits_two l tt
  says (GoesOn a) = goes_on a

performs : {course : Course} → (a : Action) (env : Env) (s : Seen) → F course s → W s → Fits 3 s → env.0 < s.stack.next → Holds course (performed a env s)
performs a env s f w h l = says (with_memory s (memory_after a s.memory)) (firm_done a s f) w h env l (told_by a s.memory)

-- ---- sends

sends_by : {course : Course} → (sound : Bool) (a : Action) (env : Env) (s : Seen) → F course s → W s → Fits 3 s → env.0 < s.stack.next → Holds course (sent_by sound a env s)
sends_by true a env s f w h l = performs a env s f w h l
sends_by false a env s f w h l = ends ending.Stranded s f w (fewer 3 0 s (omega arith) h)

acts_by : {course : Course} → (b sound : Bool) (a : Action) (env : Env) (s : Seen) → nat_lt s.steps (program_in s.plan).step_limit ≡ b → F course s → W s → Fits 0 s → env.0 < s.stack.next → Holds course (acted sound a env s)
acts_by true sound a env s e f w h l =
    rw e (sends_by sound a env (record s { steps = s.steps + 1 }) (firm_counts s.plan s.memory s.passed.room s.steps s.initializers s.instructions s.stack (s.steps + 1) s.initializers f (below_limit s.steps (program_in s.plan).step_limit e) f.known) w (omega (arith, h)) l)
acts_by false sound a env s e f w h l = rw e (stops limit.Steps s f w h)

acts : {course : Course} → (sound : Bool) (a : Action) (env : Env) (s : Seen) → F course s → W s → Fits 0 s → env.0 < s.stack.next → Holds course (acted sound a env s)
acts sound a env s f w h l = acts_by (nat_lt s.steps (program_in s.plan).step_limit) sound a env s refl f w h l

pub sends : {course : Course} → (selector : ℕ) (receiver : Value) (env : Env) (s : Seen) → F course s → W s → Fits 0 s → env.0 < s.stack.next → Holds course (sent selector receiver env s)
sends selector receiver env s f w h l = acts (send_is_sound selector receiver s) (send_of selector receiver s) env s f w h l

pub sends_super : {course : Course} → (class : Value) (selector : ℕ) (receiver : Value) (env : Env) (s : Seen) → F course s → W s → Fits 0 s → env.0 < s.stack.next → Holds course (super_sent class selector receiver env s)
sends_super class selector receiver env s f w h l = acts (super_send_is_sound class selector receiver s) (super_send_of class selector receiver s) env s f w h l

pub sends_value : {course : Course} → (receiver : Value) (env : Env) (s : Seen) → F course s → W s → Fits 0 s → env.0 < s.stack.next → Holds course (value_sent receiver env s)
sends_value receiver env s f w h l = sends (value_in s) receiver env s f w h l
