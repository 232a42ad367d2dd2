-- What holds of a machine holds after the beginning of a signal.
use Rattle.std.proofs.Common.{◌≡◌, ℕ, ◌+◌, ◌-◌, ◌^◌, ◌<◌, ◌≤◌, List, [], ◌∷◌, length, Bool, true, false, nat_le, if◌then◌else◌, refl, arith}
use Rattle.std.proofs.lemmas.Bool.Decides.{nat_tests}
use Rattle.object_heap.specs.declared.value.Value.{Value}
use Rattle.object_heap.specs.declared.trouble.Trouble.{Trouble}
use Rattle.object_heap.specs.declared.trouble.Trouble.TheVariants.{AlreadySignaled}
use Rattle.object_heap.specs.Store.{Store, object_added, blank_object}
use Rattle.object_heap.specs.Charges.{object_charge}
use Rattle.st_code.specs.BuiltIns.{error_class}
use Rattle.st_contexts.specs.declared.activation.Activation.TheVariants as act
use Rattle.st_contexts.specs.declared.activation.Env.{Env}
use Rattle.st_contexts.specs.declared.outcome.Limit.TheVariants as limit
use Rattle.st_contexts.specs.Stack.{popped}
use Rattle.signal_env.specs.Turns.{live_in}
use Rattle.st_machine.specs.declared.work.Work.TheVariants as work
use Rattle.st_machine.specs.Seen.{Plan, Seen, with_stack, with_memory}
use Rattle.st_machine.specs.Settling.{searching}
use Rattle.st_machine.specs.Signals.{slots_put, signal_search, raised_by, raised, if_object, exception_made, signal_made, new_signal, raised_new, failed, slots_in, text_in}
use Rattle.st_machine_laws.specs.Holding.{Course, Fits, Holds}
use Rattle.st_machine_laws.proofs.Blocks.{F, W, numbers, firm_memory, firm_popped, stops, begins, place, placed, firm_placed, fits_placed, fewer}

small : (n m : ℕ) → n < m → n < m + 1
small n m l = omega (arith, l)

-- ---- an exception that is there

raises_by : {course : Course} → (b : Bool) (e : ℕ) (env : Env) (s : Seen) → F course s → W s → Fits 2 s → env.0 < s.stack.next → Holds course (raised_by b e env s)
raises_by true e env s f w h l = begins (work.Fail AlreadySignaled env) s f w h l tt
raises_by false e env s f w h l =
    place (Holds _) (λ x. searching (signal_search s.stack.next e env) x) (act.Signal e) env s (numbers 2 s f h)
    (begins (work.Search (signal_search s.stack.next e env) env) (placed (act.Signal e) env s) (firm_placed (act.Signal e) env s f l tt) (tt, w) (fits_placed 2 1 (act.Signal e) env s (omega arith) h) ((small env.0 s.stack.next l, tt), small env.0 s.stack.next l) tt)
    (stops limit.Depth s f w (fewer 2 0 s (omega arith) h))

pub raises : {course : Course} → (e : ℕ) (env : Env) (s : Seen) → F course s → W s → Fits 2 s → env.0 < s.stack.next → Holds course (raised e env s)
raises e env s f w h l = raises_by (live_in e s.stack.acts) e env s f w h l

-- ---- a new one

within_limit : (n m : ℕ) → nat_le n m ≡ true → n ≤ m
within_limit n m e = grind (arith, nat_tests)

module _ {course : Course} (class count : ℕ) (slots : List Value) (env : Env) (s : Seen) (f : F course s) (w : W s) (h : Fits 2 s) (l : env.0 < s.stack.next) where
  abbrev made : Seen
  made = with_memory (placed (act.Signal 0) env s) (exception_made class count slots s.memory)

  makes_by : (b : Bool) → nat_le (s.memory.used + object_charge count 0) s.memory.limit ≡ b → Holds course (signal_made (if_object count s.memory) s.stack.next env made)
  makes_by true e =
      let store : Store = slots_put count slots (length s.memory.store.objects) 0 (object_added (blank_object class count 0) s.memory.store) in
      let used : ℕ = s.memory.used + object_charge count 0 in
      let e' : ℕ = length s.memory.store.objects in
      let s' : Seen = with_memory (placed (act.Signal e') env s) (record { store = store; used = used; limit = s.memory.limit }) in
      let firm : F course s' = firm_memory s.plan s.memory s.passed.room s.steps s.initializers s.instructions (placed (act.Signal e') env s).stack store used (firm_placed (act.Signal e') env s f l tt) (within_limit used s.memory.limit e) in
      rw e (begins (work.Search (signal_search s.stack.next e' env) env) s' firm (tt, w) (fits_placed 2 1 (act.Signal e') env s (omega arith) h) ((small env.0 s.stack.next l, tt), small env.0 s.stack.next l) tt)
  makes_by false e =
      let dropped : Seen = with_stack (placed (act.Signal 0) env s) (popped (placed (act.Signal 0) env s).stack) in
      rw e (stops limit.Cells dropped (firm_popped (placed (act.Signal 0) env s) (firm_placed (act.Signal 0) env s f l tt)) w (fits_placed 2 0 (act.Signal 0) env s (omega arith) h))

  pub signals : Holds course (new_signal class count slots env s)
  signals =
      place (Holds _) (λ x. signal_made (if_object count s.memory) s.stack.next env (with_memory x (exception_made class count slots s.memory))) (act.Signal 0) env s (numbers 2 s f h)
      (makes_by (nat_le (s.memory.used + object_charge count 0) s.memory.limit) refl)
      (stops limit.Depth s f w (fewer 2 0 s (omega arith) h))

pub raises_new : {course : Course} → (class : ℕ) (env : Env) (s : Seen) → F course s → W s → Fits 2 s → env.0 < s.stack.next → Holds course (raised_new class env s)
raises_new class env s f w h l = signals class (slots_in s.plan class) s.passed.values env s f w h l

pub fails : {course : Course} → (trouble : Trouble) (env : Env) (s : Seen) → F course s → W s → Fits 2 s → env.0 < s.stack.next → Holds course (failed trouble env s)
fails trouble env s f w h l = signals error_class (slots_in s.plan error_class) (text_in s.plan trouble ∷ []) env s f w h l
