-- What a step of a loop tells of the loop's next visit, and what it leaves of the memory.
use Rattle.std.specs.Prelude.{ℕ, ◌+◌, ◌≡◌, ◌⊎◌, Bool, true, false, nat_le, if◌then◌else◌}
use Rattle.object_heap.specs.declared.heap.HeapStop.{HeapStop}
use Rattle.object_heap.specs.declared.heap.HeapStop.TheVariants.{Limit, OutOfMemory}
use Rattle.object_heap.specs.Store.{Store}
use Rattle.object_heap.specs.Charges.{Memory}
use Rattle.st_collections.specs.Actions.{Visit, Applies, Compares, Finishes, Lacks, Charges}
use Rattle.st_collections.specs.Answers.{told}
use Rattle.st_loops.specs.declared.step.LoopStep.{LoopStep}
use Rattle.st_loops.specs.States.{state_of, values_of}

-- what a step tells: a visit whose charges are paid, a charge past the limit, or want of memory
pub data Seen : Type 0 where
  Next : Visit → Seen
  Full : (used charge : ℕ) → Seen
  Out : Seen

abbrev pub seen : LoopStep → Seen
seen (LoopStep.Apply state block arguments) = Next (Applies (state_of state) block (values_of arguments))
seen (LoopStep.Equal state receiver argument) = Next (Compares (state_of state) receiver argument)
seen (LoopStep.Answer v) = Next (Finishes v)
seen (LoopStep.Lacking state) = Next (Lacks (state_of state))
seen (LoopStep.Cells used charge) = Full used charge
seen LoopStep.OutOfMemory = Out

-- what a heap that made nothing tells
abbrev pub stop_seen : HeapStop → Seen
stop_seen (Limit used charge) = Full used charge
stop_seen OutOfMemory = Out

-- ---- a visit whose charges are paid one by one

-- the memory after a charge of this store
abbrev pub paid : ℕ → Store → Memory → Memory
paid cells s m = record { store = s; used = m.used + cells; limit = m.limit }

-- what is told of a visit: the first charge past the limit, else the visit behind its charges
abbrev pub told_of : Visit → Memory → Seen
told_of (Charges cells s v) m = if nat_le (m.used + cells) m.limit then told_of v (paid cells s m) else Full m.used (told cells)
told_of (Applies l v args) m = Next (Applies l v args)
told_of (Compares l r v) m = Next (Compares l r v)
told_of (Finishes v) m = Next (Finishes v)
told_of (Lacks l) m = Next (Lacks l)

-- the memory with each charge up to the first that passes the limit
abbrev pub memory_after : Visit → Memory → Memory
memory_after (Charges cells s v) m = if nat_le (m.used + cells) m.limit then memory_after v (paid cells s m) else m
memory_after (Applies l v args) m = m
memory_after (Compares l r v) m = m
memory_after (Finishes v) m = m
memory_after (Lacks l) m = m

abbrev pub is_out : Seen → Bool
is_out Out = true
is_out (Next v) = false
is_out (Full used charge) = false

-- the first where a step tells want of memory, else the second
abbrev pub unless_out : {A : Type 0} → Seen → A → A → A
unless_out step out other = if is_out step then out else other

-- the memory once a visit's first charge was paid
abbrev pub once_paid : Visit → Memory → Memory
once_paid (Charges cells s v) m = if nat_le (m.used + cells) m.limit then paid cells s m else m
once_paid (Applies l v args) m = m
once_paid (Compares l r v) m = m
once_paid (Finishes v) m = m
once_paid (Lacks l) m = m

-- memory was wanted before the first charge or behind it
abbrev pub IsPartway : Visit → Memory → Memory → Type 0
IsPartway v m m' = (m' ≡ m) ⊎ (m' ≡ once_paid v m)
