-- A new object whose slots are written one behind the other.
use Rattle.std.proofs.Common.{◌≡◌, ℕ, ◌+◌, ◌<◌, ◌≤◌, Ok, Err, List, [], ◌∷◌, ◌++◌, length, take, replicate, inl, inr, refl, ap, sym, ◌∙◌, arith, add-zero}
use borrow.Author.Tests.{le-leb}
use Rattle.std.proofs.lemmas.Bool.{cases_lt}
use Rattle.std.proofs.lemmas.List.{append-nil, get_or_past, length-append, take_all}
use Rattle.object_heap.specs.declared.value.Value.{Value}
use Rattle.object_heap.specs.declared.value.Value.TheVariants.{Nil, True, False, Integer, Character, Symbol, Class, Meta, Transcript, Object}
use Rattle.object_heap.specs.declared.heap.HeapStop.{HeapStop}
use Rattle.object_heap.specs.Store.{Store, Object as HeapObject, no_object, object_at, object_added, blank_object, with_slot}
use Rattle.object_heap.specs.Charges.{Memory, charged, if_out, object_charge, with_store}
use Rattle.st_collections.specs.Actions.{makes_slots, new_object, next_object, with_new}
use Rattle.st_collections.specs.Answers.{allot_answer, answer_of, memory_of, stop_answer, unless_out}
use Rattle.st_collections.specs.declared.answer.Built.{Built}
use Rattle.st_collections.proofs.Objects.{made_slots, makes_slots-is, paid_of, stop_answer-is, stop_memory}
use Rattle.st_collections.proofs.Steady.{object_steady}
use Rattle.st_messages.specs.Pieces.{slots_put}
use Rattle.st_messages.specs.Selectors.{IsOther, selectors_in}
use Rattle.st_messages.proofs.SlotPuts.{put, put_last}

-- the memory where these values were written and so many slots are still nil
abbrev pub slots_so_far : Memory → (class charge : ℕ) → List Value → (left : ℕ) → Memory
slots_so_far m class charge done left = record {
  store = object_added (new_object class (done ++ replicate left Nil) []) m.store;
  used = m.used + charge;
  limit = m.limit;
}

pub paid_slots : (n count : ℕ) (m : Memory) → Ok n ≡ if_out (Ok n) (Ok n) (allot_answer (object_charge count 0) m) → (m.used + (1 + count) ≤ m.limit) × (n ≡ length m.store.objects)
paid_slots n count m e =
    let paid = paid_of n (object_charge count 0) m e in
    let size : object_charge count 0 ≡ 1 + count = add-zero (1 + count) in
    (omega (arith, size, paid.0), paid.1)

pub slots_begin : (m m1 : Memory) (class count : ℕ) → m.used + (1 + count) ≤ m.limit → m1 ≡ charged (object_charge count 0) (object_added (blank_object class count 0) m.store) m → m1 ≡ slots_so_far m class (1 + count) [] count
slots_begin m m1 class count h e = e ∙ (made_slots class count m ∙ rw (le-leb (m.used + (1 + count)) m.limit h) refl)

pub slots_more : (m m2 : Memory) (class charge number at : ℕ) (done vs : List Value) (left : ℕ) → number ≡ length m.store.objects → at ≡ length done → m2 ≡ put number at vs (slots_so_far m class charge done (length vs + left)) → m2 ≡ slots_so_far m class charge (done ++ vs) left
slots_more m m2 class charge number at done vs left e e' h =
    h ∙ rw (e, e') (ap (λ (s : Store). record { store = s; used = m.used + charge; limit = m.limit }) (put_last vs done left class m.store))

paid_memory : Memory → Store → ℕ → Memory
paid_memory m s charge = record { store = s; used = m.used + charge; limit = m.limit }

ends : (m : Memory) (class : ℕ) (vs : List Value) → paid_memory m (object_added (new_object class vs []) m.store) (1 + length vs) ≡ paid_memory m (with_new class vs [] m.store) (1 + length vs)
unfolding with_new
ends m class vs = refl

pub slots_end : (m m1 : Memory) (class : ℕ) (vs : List Value) → m.used + (1 + length vs) ≤ m.limit → m1 ≡ slots_so_far m class (1 + length vs) vs 0 → m1 ≡ memory_of (makes_slots class vs m.store) m
unfolding paid_memory
slots_end m m1 class vs h e =
    e ∙ rw (makes_slots-is class vs (length vs) m.store refl, le-leb (m.used + (1 + length vs)) m.limit h, append-nil vs) (ends m class vs)

pub slots_told : (m : Memory) (class n : ℕ) (vs : List Value) → n ≡ length m.store.objects → m.used + (1 + length vs) ≤ m.limit → Built.Value (Object n) ≡ answer_of (makes_slots class vs m.store) m
slots_told m class n vs e h = rw (makes_slots-is class vs (length vs) m.store refl, e, le-leb (m.used + (1 + length vs)) m.limit h) refl

pub no_slots : (stop : HeapStop) (m m' : Memory) (class : ℕ) (vs : List Value) (count : ℕ) → count ≡ length vs → m' ≡ if_out {A = ℕ} (Err stop) m (charged (object_charge count 0) (object_added (blank_object class count 0) m.store) m)
    → Err stop ≡ if_out {A = ℕ} (Err stop) (Err stop) (allot_answer (object_charge count 0) m)
    → m' ≡ unless_out (stop_answer stop) m (memory_of (makes_slots class vs m.store) m)
no_slots stop m m' class vs count n e a =
    let size : object_charge count 0 ≡ 1 + count = add-zero (1 + count) in
    rw (makes_slots-is class vs count m.store (sym n)) (stop_memory stop m m' (1 + count) (object_added (blank_object class count 0) m.store) (with_new class vs [] m.store) (next_object m.store) (rw size at e) (rw size at a))

pub no_slots-told : (stop : HeapStop) (m : Memory) (class : ℕ) (vs : List Value) (count : ℕ) → count ≡ length vs → Err stop ≡ if_out {A = ℕ} (Err stop) (Err stop) (allot_answer (object_charge count 0) m)
    → stop_answer stop ≡ unless_out (stop_answer stop) (stop_answer stop) (answer_of (makes_slots class vs m.store) m)
no_slots-told stop m class vs count n a =
    let size : object_charge count 0 ≡ 1 + count = add-zero (1 + count) in
    rw (makes_slots-is class vs count m.store (sym n)) (stop_answer-is stop m (1 + count) (with_new class vs [] m.store) (next_object m.store) (rw size at a))

-- ---- selectors beside a new object

-- what has slots stands
pub stands : (n : ℕ) (s : Store) → 0 < length (object_at n s).slots → n < length s.objects
stands n s h = elim (cases_lt n (length s.objects)) [
  | inl low ↦ low
  | inr past ↦
      let none : object_at n s ≡ no_object = get_or_past s.objects n no_object past in
      let empty : length (object_at n s).slots ≡ 0 = rw none refl in
      absurd (omega arith)
]

pub slots_taken : (n : ℕ) (o : HeapObject) (s : Store) → take (length (object_at n s).slots) (object_at n (object_added o s)).slots ≡ (object_at n s).slots
slots_taken n o s = elim (cases_lt n (length s.objects)) [
  | inl low ↦ rw (object_steady n o s low) (take_all (length (object_at n s).slots) (object_at n s).slots (omega arith))
  | inr past ↦ let none : object_at n s ≡ no_object = get_or_past s.objects n no_object past in rw none refl
]

pub slots_within : (n : ℕ) (o : HeapObject) (s : Store) → length (object_at n s).slots ≤ length (object_at n (object_added o s)).slots
slots_within n o s = elim (cases_lt n (length s.objects)) [
  | inl low ↦ rw (object_steady n o s low) (omega arith)
  | inr past ↦ let none : object_at n s ≡ no_object = get_or_past s.objects n no_object past in rw none (omega arith)
]

pub selectors_taken : (v : Value) (o : HeapObject) (s : Store) → take (length (selectors_in s v)) (selectors_in (object_added o s) v) ≡ selectors_in s v
selectors_taken (Object n) o s = slots_taken n o s
selectors_taken Nil o s = refl
selectors_taken True o s = refl
selectors_taken False o s = refl
selectors_taken (Integer n) o s = refl
selectors_taken (Character b) o s = refl
selectors_taken (Symbol n) o s = refl
selectors_taken (Class n) o s = refl
selectors_taken (Meta n) o s = refl
selectors_taken Transcript o s = refl

pub selectors_within : (v : Value) (o : HeapObject) (s : Store) → length (selectors_in s v) ≤ length (selectors_in (object_added o s) v)
selectors_within (Object n) o s = slots_within n o s
selectors_within Nil o s = omega arith
selectors_within True o s = omega arith
selectors_within False o s = omega arith
selectors_within (Integer n) o s = omega arith
selectors_within (Character b) o s = omega arith
selectors_within (Symbol n) o s = omega arith
selectors_within (Class n) o s = omega arith
selectors_within (Meta n) o s = omega arith
selectors_within Transcript o s = omega arith

pub selectors_other : (v : Value) (s : Store) → 0 < length (selectors_in s v) → IsOther (length s.objects) v
selectors_other (Object n) s h = λ e. absurd (omega (arith, stands n s h, e))
selectors_other Nil s h = tt
selectors_other True s h = tt
selectors_other False s h = tt
selectors_other (Integer n) s h = tt
selectors_other (Character b) s h = tt
selectors_other (Symbol n) s h = tt
selectors_other (Class n) s h = tt
selectors_other (Meta n) s h = tt
selectors_other Transcript s h = tt

-- ---- the same, as the code has it

pub two_put : (number : ℕ) (a b : Value) (m m1 m2 : Memory) → m1 ≡ with_store (with_slot number 0 a m.store) m → m2 ≡ with_store (with_slot number 1 b m1.store) m1 → m2 ≡ put number 0 (a ∷ b ∷ []) m
unfolding slots_put
two_put number a b m m1 m2 e e2 = rw (e2, e) refl

pub two_end : (m m1 m2 : Memory) (class number : ℕ) (a b : Value) → number ≡ length m.store.objects → m.used + (1 + 2) ≤ m.limit → m1 ≡ slots_so_far m class (1 + 2) [] 2 → m2 ≡ put number 0 (a ∷ b ∷ []) m1 → m2 ≡ memory_of (makes_slots class (a ∷ b ∷ []) m.store) m
two_end m m1 m2 class number a b o h e e2 =
    slots_end m m2 class (a ∷ b ∷ []) h (slots_more m m2 class (1 + 2) number 0 [] (a ∷ b ∷ []) 0 o refl (e2 ∙ ap (λ (n : Memory). put number 0 (a ∷ b ∷ []) n) e))

pub selectors_step : (m m1 m2 : Memory) (class charge number at : ℕ) (done : List Value) (left count : ℕ) (v : Value) → count ≡ length (selectors_in m.store v) → number ≡ length m.store.objects → at ≡ length done
    → m1 ≡ slots_so_far m class charge done (count + left) → m2 ≡ put number at (take count (selectors_in m1.store v)) m1 → m2 ≡ slots_so_far m class charge (done ++ selectors_in m.store v) left
selectors_step m m1 m2 class charge number at done left count v n o a e e2 =
    let vs : List Value = selectors_in m.store v in
    let fresh : HeapObject = new_object class (done ++ replicate (count + left) Nil) [] in
    let same : take count (selectors_in m1.store v) ≡ vs = ap (λ (w : Memory). take count (selectors_in w.store v)) e ∙ (ap (λ (k : ℕ). take k (selectors_in (object_added fresh m.store) v)) n ∙ selectors_taken v fresh m.store) in
    slots_more m m2 class charge number at done vs left o a
    (e2 ∙ (ap (λ (xs : List Value). put number at xs m1) same ∙ ap (λ (w : Memory). put number at vs w) (e ∙ ap (λ (k : ℕ). slots_so_far m class charge done (k + left)) n)))

pub selectors_there : (m m1 : Memory) (class charge : ℕ) (done : List Value) (left count : ℕ) (v : Value) → count ≡ length (selectors_in m.store v) → m1 ≡ slots_so_far m class charge done left → count ≤ length (selectors_in m1.store v)
selectors_there m m1 class charge done left count v n e =
    rw (e, n) (selectors_within v (new_object class (done ++ replicate left Nil) []) m.store)

pub other_selectors : (m : Memory) (number count : ℕ) (v : Value) → number ≡ length m.store.objects → count ≡ length (selectors_in m.store v) → 0 < count → IsOther number v
other_selectors m number count v o n h = rw o (selectors_other v m.store (rw (← n) h))

pub joined_size : (s : Store) (u v : Value) (count more : ℕ) → count ≡ length (selectors_in s u) → more ≡ length (selectors_in s v) → count + more ≡ length (selectors_in s u ++ selectors_in s v)
joined_size s u v count more n k = rw (n, k) (sym (length-append (selectors_in s u) (selectors_in s v)))

pub joined_end : (m m3 : Memory) (class count more : ℕ) (u v : Value) → count ≡ length (selectors_in m.store u) → more ≡ length (selectors_in m.store v) → m.used + (1 + (count + more)) ≤ m.limit
    → m3 ≡ slots_so_far m class (1 + (count + more)) (selectors_in m.store u ++ selectors_in m.store v) 0 → m3 ≡ memory_of (makes_slots class (selectors_in m.store u ++ selectors_in m.store v) m.store) m
joined_end m m3 class count more u v n k h e =
    let size : count + more ≡ length (selectors_in m.store u ++ selectors_in m.store v) = joined_size m.store u v count more n k in
    slots_end m m3 class (selectors_in m.store u ++ selectors_in m.store v) (rw size at h) (rw size at e)
