-- A visit whose first charge was paid, or passed the limit.
use Rattle.std.proofs.Common.{◌≡◌, ℕ, ◌+◌, Bool, true, false, nat_le, Result, Ok, Err, if◌then◌else◌, refl, sym, ◌∙◌}
use Rattle.object_heap.specs.Store.{Store}
use Rattle.object_heap.specs.Charges.{Memory, charged, if_out}
use Rattle.object_heap.specs.declared.heap.HeapStop.{HeapStop}
use Rattle.object_heap.specs.declared.heap.HeapStop.TheVariants.{Limit, OutOfMemory}
use Rattle.st_collections.specs.Actions.{Visit, Charges}
use Rattle.st_collections.specs.Answers.{told}
use Rattle.st_loops.specs.Steps.{Seen, Next, Out, Full, is_out, memory_after, paid, stop_seen, told_of, unless_out}

-- what a charge answers
abbrev pub answer_for : {A : Type 0} → ℕ → A → Memory → Result A HeapStop
answer_for cells a m = if nat_le (m.used + cells) m.limit then Ok a else Err (Limit m.used (told cells))

full_case : {A : Type 0} → (b : Bool) (u c : ℕ) (a : A) (cells : ℕ) (m : Memory) (x : Seen) → Err (Limit u c) ≡ (if b then Ok a else Err (Limit m.used (told cells))) → Full u c ≡ (if b then x else Full m.used (told cells))
full_case true u c a cells m x e = cc
full_case false u c a cells m x e = cc

pub full_step : {A : Type 0} → (a : A) (stop : HeapStop) (m : Memory) (cells : ℕ) (s : Store) (v : Visit) → Err stop ≡ if_out {A = A} (Err stop) (Err stop) (answer_for cells a m) → stop_seen stop ≡ unless_out (stop_seen stop) Out (told_of (Charges cells s v) m)
full_step a (Limit u c) m cells s v e = full_case (nat_le (m.used + cells) m.limit) u c a cells m (told_of v (paid cells s m)) e
full_step a OutOfMemory m cells s v e = refl

stays_case : {A : Type 0} → (b : Bool) (u c : ℕ) (a : A) (cells : ℕ) (m x : Memory) → Err (Limit u c) ≡ (if b then Ok a else Err (Limit m.used (told cells))) → (if b then x else m) ≡ m
stays_case true u c a cells m x e = cc
stays_case false u c a cells m x e = refl

pub full_memory : {A : Type 0} → (a : A) (stop : HeapStop) (m m' : Memory) (cells : ℕ) (t s : Store) (v : Visit) → m' ≡ if_out {A = A} (Err stop) m (charged cells t m) → Err stop ≡ if_out {A = A} (Err stop) (Err stop) (answer_for cells a m) → m' ≡ unless_out (stop_seen stop) m (memory_after (Charges cells s v) m)
full_memory a (Limit u c) m m' cells t s v e f =
    let b = nat_le (m.used + cells) m.limit in
    e ∙ stays_case b u c a cells m (record { store = t; used = m.used + cells; limit = m.limit }) f ∙ sym (stays_case b u c a cells m (memory_after v (paid cells s m)) f)
full_memory a OutOfMemory m m' cells t s v e f = e

-- where memory was wanted, less may be said
pub any_out : (step : Seen) (m m' n : Memory) → m' ≡ unless_out step m n → m' ≡ unless_out step m' n
any_out (Next v) m m' n e = e
any_out (Full used charge) m m' n e = e
any_out Out m m' n e = refl

within_case : {A : Type 0} → (b : Bool) (x a : A) (cells : ℕ) (m : Memory) → Ok x ≡ (if b then Ok a else Err (Limit m.used (told cells))) → b ≡ true
within_case true x a cells m e = refl
within_case false x a cells m e = cc

pub within_limit : {A : Type 0} → (x a : A) (cells : ℕ) (m : Memory) → Ok x ≡ answer_for cells a m → nat_le (m.used + cells) m.limit ≡ true
within_limit x a cells m e = within_case (nat_le (m.used + cells) m.limit) x a cells m e

pub paid_step : (cells : ℕ) (s : Store) (v : Visit) (m : Memory) → nat_le (m.used + cells) m.limit ≡ true → told_of (Charges cells s v) m ≡ told_of v (paid cells s m)
paid_step cells s v m e = rw e refl

pub paid_after : (cells : ℕ) (s : Store) (v : Visit) (m : Memory) → nat_le (m.used + cells) m.limit ≡ true → memory_after (Charges cells s v) m ≡ memory_after v (paid cells s m)
paid_after cells s v m e = rw e refl

pub paid-is : (cells : ℕ) (s : Store) (m m' : Memory) → m' ≡ charged cells s m → nat_le (m.used + cells) m.limit ≡ true → m' ≡ paid cells s m
paid-is cells s m m' e h = e ∙ (rw h refl)

-- where memory was wanted, the memory is that before
pub out_stays : (step : Seen) (m m' n : Memory) → m' ≡ unless_out step m n → is_out step ≡ true → m' ≡ m
out_stays (Next v) m m' n e o = cc
out_stays (Full used charge) m m' n e o = cc
out_stays Out m m' n e o = e
