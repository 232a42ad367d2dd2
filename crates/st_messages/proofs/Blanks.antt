-- New objects that are nil and 0.
use Rattle.std.proofs.Common.{◌≡◌, ℕ, ◌+◌, Ok, Err, None, false, replicate, refl, ap}
use borrow.Author.Tests.{le-leb}
use Rattle.std.proofs.lemmas.List.{length-replicate}
use Rattle.object_heap.specs.declared.value.Value.{Value}
use Rattle.object_heap.specs.declared.value.Value.TheVariants.{Nil}
use Rattle.object_heap.specs.declared.heap.HeapStop.{HeapStop}
use Rattle.object_heap.specs.Store.{Store, blank_object, object_added}
use Rattle.object_heap.specs.Charges.{Memory, charged, if_out, object_charge}
use Rattle.st_collections.specs.Actions.{Makes, makes_blank, next_object, with_new}
use Rattle.st_collections.specs.Answers.{allot_answer, answer_of, memory_of, stop_answer, unless_out}
use Rattle.st_collections.specs.declared.answer.Built.{Built}
use Rattle.st_collections.proofs.Objects.{paid_of, stop_memory, stop_answer-is}

pub makes_blank-is : (class slots bytes : ℕ) (s : Store) → makes_blank class slots bytes s ≡ Makes (object_charge slots bytes) (object_added (blank_object class slots bytes) s) (next_object s)
unfolding makes_blank with_new
makes_blank-is class slots bytes s =
    ap (λ (k : ℕ). Makes (object_charge slots bytes) (object_added (record { class = class; slots = replicate slots Nil; bytes = replicate bytes 0; capacity = k; read_only = false; closure = None }) s) (next_object s)) (length-replicate slots Nil)

-- what a heap that made nothing leaves and answers
pub no_blank : (stop : HeapStop) (m m' : Memory) (class slots bytes : ℕ) → m' ≡ if_out {A = ℕ} (Err stop) m (charged (object_charge slots bytes) (object_added (blank_object class slots bytes) m.store) m)
    → Err stop ≡ if_out {A = ℕ} (Err stop) (Err stop) (allot_answer (object_charge slots bytes) m)
    → m' ≡ unless_out (stop_answer stop) m (memory_of (makes_blank class slots bytes m.store) m)
no_blank stop m m' class slots bytes e a =
    rw (makes_blank-is class slots bytes m.store) (stop_memory stop m m' (object_charge slots bytes) (object_added (blank_object class slots bytes) m.store) (object_added (blank_object class slots bytes) m.store) (next_object m.store) e a)

pub no_blank-told : (stop : HeapStop) (m : Memory) (class slots bytes : ℕ) → Err stop ≡ if_out {A = ℕ} (Err stop) (Err stop) (allot_answer (object_charge slots bytes) m)
    → stop_answer stop ≡ unless_out (stop_answer stop) (stop_answer stop) (answer_of (makes_blank class slots bytes m.store) m)
no_blank-told stop m class slots bytes a =
    rw (makes_blank-is class slots bytes m.store) (stop_answer-is stop m (object_charge slots bytes) (object_added (blank_object class slots bytes) m.store) (next_object m.store) a)

-- and one that made the object
pub blank_told : (n : ℕ) (m : Memory) (class slots bytes : ℕ) → Ok n ≡ if_out (Ok n) (Ok n) (allot_answer (object_charge slots bytes) m)
    → Built.Value (Value.Object n) ≡ answer_of (makes_blank class slots bytes m.store) m
blank_told n m class slots bytes a =
    let paid = paid_of n (object_charge slots bytes) m a in
    rw (makes_blank-is class slots bytes m.store, paid.1, le-leb (m.used + object_charge slots bytes) m.limit paid.0) refl
