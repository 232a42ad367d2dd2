-- A copy of an object: a new one of its size, whose slots and then whose bytes are written.
use Rattle.std.proofs.Common.{◌≡◌, ◌≢◌, ℕ, suc, ◌+◌, ◌<◌, ◌≤◌, false, Err, None, List, [], ◌∷◌, ◌++◌, length, take, replicate, inl, inr, refl, ap, sym, ◌∙◌, arith}
use borrow.Author.Tests.{le-leb}
use Rattle.std.proofs.lemmas.Bool.{cases_lt}
use Rattle.std.proofs.lemmas.List.{append_assoc, get_or_past, length-append, set_at}
use Rattle.object_heap.specs.declared.value.Value.{Value}
use Rattle.object_heap.specs.declared.value.Value.TheVariants.{Nil}
use Rattle.object_heap.specs.declared.heap.HeapStop.{HeapStop}
use Rattle.object_heap.specs.Store.{Store, Object, blank_object, byte_written, no_object, object_added, object_at, slot_written, with_byte, with_bytes, with_slot, with_slots}
use Rattle.object_heap.specs.Charges.{Memory, charged, if_out, object_charge, with_store}
use Rattle.st_collections.specs.Actions.{next_object}
use Rattle.st_collections.specs.Answers.{allot_answer, answer_of, memory_of, stop_answer, unless_out}
use Rattle.st_collections.specs.ObjectRows.{copied}
use Rattle.st_collections.specs.declared.answer.Built.{Built}
use Rattle.st_collections.proofs.Objects.{last_object, last_set, stop_answer-is, stop_memory}
use Rattle.st_collections.proofs.Steady.{object_steady}
use Rattle.st_messages.specs.Pieces.{bytes_put, slots_put}
use Rattle.st_messages.proofs.NewSlots.{slots_taken, slots_within, stands}

-- ---- what is written into the object added last

slot_last : (o : Object) (k : ℕ) (v : Value) (s : Store) → with_slot (length s.objects) k v (object_added o s) ≡ object_added (slot_written k v o) s
slot_last o k v s = rw (last_object o s) (last_set o (slot_written k v o) s)

byte_last : (o : Object) (k b : ℕ) (s : Store) → with_byte (length s.objects) k b (object_added o s) ≡ object_added (byte_written k b o) s
byte_last o k b s = rw (last_object o s) (last_set o (byte_written k b o) s)

slots_last : (vs done : List Value) (o : Object) (s : Store) → slots_put (length s.objects) (length done) vs (object_added (with_slots (done ++ replicate (length vs) Nil) o) s) ≡ object_added (with_slots (done ++ vs) o) s
unfolding slots_put
slots_last [] done o s = refl
slots_last (v ∷ vs) done o s =
    let nils : List Value = replicate (length vs) Nil in
    let behind : length (done ++ v ∷ []) ≡ suc (length done) = omega (arith, length-append done (v ∷ [])) in
    let first : with_slot (length s.objects) (length done) v (object_added (with_slots (done ++ Nil ∷ nils) o) s) ≡ object_added (with_slots ((done ++ v ∷ []) ++ nils) o) s
    = slot_last (with_slots (done ++ Nil ∷ nils) o) (length done) v s ∙ ap (λ (xs : List Value). object_added (with_slots xs o) s) (set_at done Nil nils v (length done) refl ∙ sym (append_assoc done (v ∷ []) nils)) in
    ap (λ (u : Store). slots_put (length s.objects) (suc (length done)) vs u) first ∙ ((rw behind at (slots_last vs (done ++ v ∷ []) o s)) ∙ ap (λ (xs : List Value). object_added (with_slots xs o) s) (append_assoc done (v ∷ []) vs))

bytes_last : (bs done : List ℕ) (o : Object) (s : Store) → bytes_put (length s.objects) (length done) bs (object_added (with_bytes (done ++ replicate (length bs) 0) o) s) ≡ object_added (with_bytes (done ++ bs) o) s
unfolding bytes_put
bytes_last [] done o s = refl
bytes_last (b ∷ bs) done o s =
    let zeros : List ℕ = replicate (length bs) 0 in
    let behind : length (done ++ b ∷ []) ≡ suc (length done) = omega (arith, length-append done (b ∷ [])) in
    let first : with_byte (length s.objects) (length done) b (object_added (with_bytes (done ++ 0 ∷ zeros) o) s) ≡ object_added (with_bytes ((done ++ b ∷ []) ++ zeros) o) s
    = byte_last (with_bytes (done ++ 0 ∷ zeros) o) (length done) b s ∙ ap (λ (xs : List ℕ). object_added (with_bytes xs o) s) (set_at done 0 zeros b (length done) refl ∙ sym (append_assoc done (b ∷ []) zeros)) in
    ap (λ (u : Store). bytes_put (length s.objects) (suc (length done)) bs u) first ∙ ((rw behind at (bytes_last bs (done ++ b ∷ []) o s)) ∙ ap (λ (xs : List ℕ). object_added (with_bytes xs o) s) (append_assoc done (b ∷ []) bs))

-- an object of this class, these slots and these bytes, with no room for more
abbrev likeness : ℕ → List Value → List ℕ → ℕ → Object
likeness class slots bytes room = record { class = class; slots = slots; bytes = bytes; capacity = room; read_only = false; closure = None }

slots_written : (class : ℕ) (slots : List Value) (count : ℕ) (s : Store) → slots_put (length s.objects) 0 slots (object_added (blank_object class (length slots) count) s) ≡ object_added (likeness class slots (replicate count 0) (length slots)) s
slots_written class slots count s = slots_last slots [] (likeness class [] (replicate count 0) (length slots)) s

bytes_written : (class : ℕ) (slots : List Value) (bytes : List ℕ) (room : ℕ) (s : Store) → bytes_put (length s.objects) 0 bytes (object_added (likeness class slots (replicate (length bytes) 0) room) s) ≡ object_added (likeness class slots bytes room) s
bytes_written class slots bytes room s = bytes_last bytes [] (likeness class slots [] room) s

-- ---- what is read beside it

past_last : (n : ℕ) (o : Object) (s : Store) → length s.objects < n → object_at n (object_added o s) ≡ no_object
past_last n o s h = get_or_past (s.objects ++ o ∷ []) n no_object (omega (arith, h, length-append s.objects (o ∷ [])))

-- the bytes of an object beside a new one of as many
bytes_read : (n class room : ℕ) (slots : List Value) (s : Store) → (object_at n (object_added (likeness class slots (replicate (length (object_at n s).bytes) 0) room) s)).bytes ≡ (object_at n s).bytes
bytes_read n class room slots s =
    let o : Object = likeness class slots (replicate (length (object_at n s).bytes) 0) room in
    elim (cases_lt n (length s.objects)) [
      | inl low ↦ ap (λ (x : Object). x.bytes) (object_steady n o s low)
      | inr past ↦
          let none : object_at n s ≡ no_object = get_or_past s.objects n no_object past in
          elim (cases_lt (length s.objects) n) [
            | inl above ↦ ap (λ (x : Object). x.bytes) (past_last n o s above ∙ sym none)
            | inr at ↦
                let here : n ≡ length s.objects = omega arith in
                let last : object_at n (object_added o s) ≡ o = ap (λ (k : ℕ). object_at k (object_added o s)) here ∙ last_object o s in
                ap (λ (x : Object). x.bytes) last ∙ (ap (λ (x : Object). replicate (length x.bytes) 0) none ∙ sym (ap (λ (x : Object). x.bytes) none))
          ]
    ]

-- ---- the copy, as the code has it

-- the memory with another store, and the cells of a charge counted
abbrev paid : Memory → ℕ → Store → Memory
paid m charge s = record { store = s; used = m.used + charge; limit = m.limit }

-- the new object before anything is written into it
abbrev blank_like : Object → Object
blank_like o = blank_object o.class (length o.slots) (length o.bytes)

-- and once its slots are
abbrev with_its_slots : Object → Object
with_its_slots o = likeness o.class o.slots (replicate (length o.bytes) 0) (length o.slots)

pub copy_begun : (m m1 : Memory) (n class slots bytes : ℕ) → class ≡ (object_at n m.store).class → slots ≡ length (object_at n m.store).slots → bytes ≡ length (object_at n m.store).bytes → m.used + object_charge slots bytes ≤ m.limit
    → m1 ≡ charged (object_charge slots bytes) (object_added (blank_object class slots bytes) m.store) m → m1 ≡ paid m (object_charge slots bytes) (object_added (blank_like (object_at n m.store)) m.store)
copy_begun m m1 n class slots bytes c l b h e =
    let o : blank_object class slots bytes ≡ blank_like (object_at n m.store) = rw (c, l, b) refl in
    e ∙ rw (le-leb (m.used + object_charge slots bytes) m.limit h) (ap (λ (x : Object). paid m (object_charge slots bytes) (object_added x m.store)) o)

pub slots_there : (m m1 : Memory) (n slots charge : ℕ) → slots ≡ length (object_at n m.store).slots → m1 ≡ paid m charge (object_added (blank_like (object_at n m.store)) m.store) → slots ≤ length (object_at n m1.store).slots
slots_there m m1 n slots charge l e = rw (e, l) (slots_within n (blank_like (object_at n m.store)) m.store)

pub slots_copied : (m m1 m2 : Memory) (n number slots charge : ℕ) → slots ≡ length (object_at n m.store).slots → number ≡ length m.store.objects → m1 ≡ paid m charge (object_added (blank_like (object_at n m.store)) m.store)
    → m2 ≡ with_store (slots_put number 0 (take slots (object_at n m1.store).slots) m1.store) m1 → m2 ≡ paid m charge (object_added (with_its_slots (object_at n m.store)) m.store)
slots_copied m m1 m2 n number slots charge l k e e2 =
    let o : Object = object_at n m.store in
    let fresh : Store = object_added (blank_like o) m.store in
    let taken : take slots (object_at n m1.store).slots ≡ o.slots = ap (λ (w : Memory). take slots (object_at n w.store).slots) e ∙ (ap (λ (j : ℕ). take j (object_at n fresh).slots) l ∙ slots_taken n (blank_like o) m.store) in
    e2
    ∙ (ap (λ (xs : List Value). with_store (slots_put number 0 xs m1.store) m1) taken
    ∙ (ap (λ (w : Memory). with_store (slots_put number 0 o.slots w.store) w) e
    ∙ (ap (λ (j : ℕ). paid m charge (slots_put j 0 o.slots fresh)) k
    ∙ ap (λ (t : Store). paid m charge t) (slots_written o.class o.slots (length o.bytes) m.store))))

bytes_same : (m m2 : Memory) (n charge : ℕ) → m2 ≡ paid m charge (object_added (with_its_slots (object_at n m.store)) m.store) → (object_at n m2.store).bytes ≡ (object_at n m.store).bytes
bytes_same m m2 n charge e = ap (λ (w : Memory). (object_at n w.store).bytes) e ∙ bytes_read n (object_at n m.store).class (length (object_at n m.store).slots) (object_at n m.store).slots m.store

pub bytes_fit : (m m2 : Memory) (n charge bytes : ℕ) → bytes ≡ length (object_at n m.store).bytes → m2 ≡ paid m charge (object_added (with_its_slots (object_at n m.store)) m.store) → 0 + length (object_at n m2.store).bytes ≡ bytes
bytes_fit m m2 n charge bytes b e = let same : length (object_at n m2.store).bytes ≡ length (object_at n m.store).bytes = ap (λ (xs : List ℕ). length xs) (bytes_same m m2 n charge e) in omega arith

-- what has bytes stands, and isn't the new object
pub bytes_beside : (m m2 : Memory) (n number charge : ℕ) → number ≡ length m.store.objects → m2 ≡ paid m charge (object_added (with_its_slots (object_at n m.store)) m.store) → 0 < length (object_at n m2.store).bytes → n ≢ number
bytes_beside m m2 n number charge k e h =
    let same : length (object_at n m2.store).bytes ≡ length (object_at n m.store).bytes = ap (λ (xs : List ℕ). length xs) (bytes_same m m2 n charge e) in
    λ is. elim (cases_lt n (length m.store.objects)) [
      | inl low ↦ absurd (omega arith)
      | inr past ↦
          let none : object_at n m.store ≡ no_object = get_or_past m.store.objects n no_object past in
          let empty : length (object_at n m.store).bytes ≡ 0 = rw none refl in
          absurd (omega arith)
    ]

pub slots_beside : (m : Memory) (n number slots : ℕ) → slots ≡ length (object_at n m.store).slots → number ≡ length m.store.objects → 0 < slots → n ≢ number
slots_beside m n number slots l k h = let low : n < length m.store.objects = stands n m.store (rw (← l) h) in λ is. absurd (omega arith)

pub copy_ended : (m m2 m3 : Memory) (n number slots bytes : ℕ) → slots ≡ length (object_at n m.store).slots → bytes ≡ length (object_at n m.store).bytes → number ≡ length m.store.objects → m.used + object_charge slots bytes ≤ m.limit
    → m2 ≡ paid m (object_charge slots bytes) (object_added (with_its_slots (object_at n m.store)) m.store) → m3 ≡ with_store (bytes_put number 0 (object_at n m2.store).bytes m2.store) m2 → m3 ≡ memory_of (copied m.store (object_at n m.store) None) m
copy_ended m m2 m3 n number slots bytes l b k h e e3 =
    let o : Object = object_at n m.store in
    let charge : ℕ = object_charge slots bytes in
    let fresh : Store = object_added (with_its_slots o) m.store in
    let size : object_charge slots bytes ≡ object_charge (length o.slots) (length o.bytes) = rw (l, b) refl in
    let within : m.used + object_charge (length o.slots) (length o.bytes) ≤ m.limit = rw size at h in
    e3
    ∙ (ap (λ (xs : List ℕ). with_store (bytes_put number 0 xs m2.store) m2) (bytes_same m m2 n charge e)
    ∙ (ap (λ (w : Memory). with_store (bytes_put number 0 o.bytes w.store) w) e
    ∙ (ap (λ (j : ℕ). paid m charge (bytes_put j 0 o.bytes fresh)) k
    ∙ (ap (λ (t : Store). paid m charge t) (bytes_written o.class o.slots o.bytes (length o.slots) m.store)
    ∙ (ap (λ (j : ℕ). paid m j (object_added (likeness o.class o.slots o.bytes (length o.slots)) m.store)) size
    ∙ rw (le-leb (m.used + object_charge (length o.slots) (length o.bytes)) m.limit within) refl)))))

pub copy_told : (m : Memory) (n number slots bytes : ℕ) → slots ≡ length (object_at n m.store).slots → bytes ≡ length (object_at n m.store).bytes → number ≡ length m.store.objects → m.used + object_charge slots bytes ≤ m.limit
    → Built.Value (Value.Object number) ≡ answer_of (copied m.store (object_at n m.store) None) m
copy_told m n number slots bytes l b k h =
    let o : Object = object_at n m.store in
    let size : object_charge slots bytes ≡ object_charge (length o.slots) (length o.bytes) = rw (l, b) refl in
    let within : m.used + object_charge (length o.slots) (length o.bytes) ≤ m.limit = rw size at h in
    rw (k, le-leb (m.used + object_charge (length o.slots) (length o.bytes)) m.limit within) refl

-- ---- a heap that made nothing

pub no_copy : (stop : HeapStop) (m m1 : Memory) (n class slots bytes : ℕ) → slots ≡ length (object_at n m.store).slots → bytes ≡ length (object_at n m.store).bytes
    → m1 ≡ if_out {A = ℕ} (Err stop) m (charged (object_charge slots bytes) (object_added (blank_object class slots bytes) m.store) m) → Err stop ≡ if_out {A = ℕ} (Err stop) (Err stop) (allot_answer (object_charge slots bytes) m)
    → m1 ≡ unless_out (stop_answer stop) m (memory_of (copied m.store (object_at n m.store) None) m)
no_copy stop m m1 n class slots bytes l b e a =
    let o : Object = object_at n m.store in
    let size : object_charge slots bytes ≡ object_charge (length o.slots) (length o.bytes) = rw (l, b) refl in
    stop_memory stop m m1 (object_charge (length o.slots) (length o.bytes)) (object_added (blank_object class slots bytes) m.store) (object_added (likeness o.class o.slots o.bytes (length o.slots)) m.store) (next_object m.store) (rw size at e) (rw size at a)

pub no_copy-told : (stop : HeapStop) (m : Memory) (n slots bytes : ℕ) → slots ≡ length (object_at n m.store).slots → bytes ≡ length (object_at n m.store).bytes → Err stop ≡ if_out {A = ℕ} (Err stop) (Err stop) (allot_answer (object_charge slots bytes) m)
    → stop_answer stop ≡ unless_out (stop_answer stop) (stop_answer stop) (answer_of (copied m.store (object_at n m.store) None) m)
no_copy-told stop m n slots bytes l b a =
    let o : Object = object_at n m.store in
    let size : object_charge slots bytes ≡ object_charge (length o.slots) (length o.bytes) = rw (l, b) refl in
    stop_answer-is stop m (object_charge (length o.slots) (length o.bytes)) (object_added (likeness o.class o.slots o.bytes (length o.slots)) m.store) (next_object m.store) (rw size at a)
