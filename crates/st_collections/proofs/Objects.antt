-- A new object, its items written one after another.
use Rattle.std.proofs.Common.{zero, suc, None, Ok, Err, add-zero, nat_le, ◌≡◌, ℕ, ◌+◌, ◌-◌, ◌<◌, ◌≤◌, Bool, true, false, ◌||◌, List, [], ◌∷◌, ◌++◌, map, get_or, length, replicate, set, nat_eq, sym, refl, ap, ◌∙◌, arith, if◌then◌else◌}
use borrow.Author.Tests.{eqb-true, leb-true, le-leb}
use Rattle.std.specs.List.{range_with_len}
use Rattle.std.proofs.lemmas.List.{get_or_at, set_at, map-set, length-set, length-replicate, length-map, append_assoc, append-nil}
use Rattle.std.proofs.lemmas.List.FromFn.{fill_by_all, map-range_with_len_more, length-map-range_with_len}
use Rattle.object_heap.specs.declared.value.Value.{Value}
use Rattle.object_heap.specs.declared.value.Value.TheVariants.{Nil}
use Rattle.object_heap.specs.Store.{Store, Object, no_object, object_at, object_set, object_added, blank_object, with_slot, with_byte, slot_written, byte_written}
use Rattle.object_heap.specs.declared.heap.HeapStop.{HeapStop}
use Rattle.object_heap.specs.declared.heap.HeapStop.TheVariants.{Limit, OutOfMemory}
use Rattle.object_heap.specs.Charges.{if_out, Memory, object_charge, charged, made, with_store}
use Rattle.st_code.specs.BuiltIns.{string_class, byte_array_class}
use Rattle.st_code.specs.Program.{Program}
use Rattle.st_collections.specs.Actions.{Makes, new_object, next_object, makes_slots, makes_bytes, with_new}
use Rattle.st_collections.specs.Answers.{told, allot_answer, answer_of, memory_of, stop_answer, unless_out}
use Rattle.st_collections.specs.declared.answer.Built.{Built}
use Rattle.st_collections.specs.TextRows.{byte_of}
use Rattle.st_collections.specs.SequenceRows.{byte_in, makes_sequence}
use Rattle.st_collections.specs.declared.items.Items.{Items}
use Rattle.st_collections.specs.Items.{item_at, items_of, item_written, sequence_charge, sequence_object}

pub map-replicate : {X Y : Type 0} (f : X → Y) → (n : ℕ) (x : X) → map f (replicate n x) ≡ replicate n (f x)
map-replicate f zero x = refl
map-replicate f (suc n) x = ap (λ ys. f x ∷ ys) (map-replicate f n x)

-- the same, by what the class's objects hold
held : Bool → Bool → ℕ → List Value → Object
held is_text is_bytes class items =
    if is_text then new_object class [] (map byte_of items) else
    (if is_bytes then new_object class [] (map byte_in items) else new_object class items [])

blank_held : (t b : Bool) (class n : ℕ) → (t || b) ≡ true → held t b class (replicate n Nil) ≡ blank_object class 0 n
unfolding held
blank_held true b class n h = ap (λ bytes. new_object class [] bytes) (map-replicate byte_of n Nil)
blank_held false true class n h = ap (λ bytes. new_object class [] bytes) (map-replicate byte_in n Nil)
blank_held false false class n h = cc

slots_held : (t b : Bool) (class n : ℕ) → (t || b) ≡ false → held t b class (replicate n Nil) ≡ blank_object class n 0
unfolding held
slots_held true b class n h = cc
slots_held false true class n h = cc
slots_held false false class n h = ap (λ (k : ℕ). record { class = class; slots = replicate n Nil; bytes = []; capacity = k; read_only = false; closure = None }) (length-replicate n Nil)

abbrev pub HoldsBytes : ℕ → Bool
HoldsBytes class = nat_eq class string_class || nat_eq class byte_array_class

-- what a heap made is the object with none of its items written
pub made_bytes : (class n : ℕ) (m : Memory) → HoldsBytes class ≡ true → made class 0 n m ≡ charged (sequence_charge class n) (object_added (sequence_object class (replicate n Nil)) m.store) m
unfolding held
made_bytes class n m h =
    let o : sequence_object class (replicate n Nil) ≡ blank_object class 0 n = blank_held (nat_eq class string_class) (nat_eq class byte_array_class) class n h in
    rw (h, o) refl

-- ---- a change to the object added last

pub last_object : (o : Object) (s : Store) → object_at (length s.objects) (object_added o s) ≡ o
last_object o s = get_or_at s.objects o [] no_object (length s.objects) refl

pub last_set : (o o' : Object) (s : Store) → object_set (length s.objects) o' (object_added o s) ≡ object_added o' s
last_set o o' s = ap (λ (objects : List Object). record { objects = objects; closures = s.closures; scopes = s.scopes }) (set_at s.objects o [] o' (length s.objects) refl)

held_written : (t b : Bool) (class number k : ℕ) (v : Value) (s : Store) → Store
held_written t b class number k v s =
    if t then with_byte number k (byte_of v) s else
    (if b then with_byte number k (byte_in v) s else with_slot number k v s)

with_last : (o o' : Object) (s : Store) (f : Object → Object) → f o ≡ o' → object_set (length s.objects) (f (object_at (length s.objects) (object_added o s))) (object_added o s) ≡ object_added o' s
with_last o o' s f e = rw (last_object o s, e, last_set o o' s) refl

written_held : (t b : Bool) (class k : ℕ) (v : Value) (items : List Value) (s : Store) → held_written t b class (length s.objects) k v (object_added (held t b class items) s) ≡ object_added (held t b class (set items k v)) s
unfolding held held_written
written_held true b class k v items s =
    with_last (new_object class [] (map byte_of items)) (new_object class [] (map byte_of (set items k v))) s (byte_written k (byte_of v))
    (ap (λ bytes. new_object class [] bytes) (sym (map-set byte_of items k v)))
written_held false true class k v items s =
    with_last (new_object class [] (map byte_in items)) (new_object class [] (map byte_in (set items k v))) s (byte_written k (byte_in v))
    (ap (λ bytes. new_object class [] bytes) (sym (map-set byte_in items k v)))
written_held false false class k v items s =
    with_last (new_object class items []) (new_object class (set items k v) []) s (slot_written k v)
    (ap (λ (room : ℕ). record { class = class; slots = set items k v; bytes = []; capacity = room; read_only = false; closure = None }) (sym (length-set items k v)))

pub item_written_last : (class k : ℕ) (v : Value) (items : List Value) (s : Store) → item_written class (length s.objects) k v (object_added (sequence_object class items) s) ≡ object_added (sequence_object class (set items k v)) s
unfolding held held_written
item_written_last class k v items s = written_held (nat_eq class string_class) (nat_eq class byte_array_class) class k v items s

-- ---- items so far, and nils

-- so many items of a list that is made by place, then nils
abbrev pub so_far : (ℕ → Value) → ℕ → ℕ → List Value
so_far f count k = map f (range_with_len 0 k) ++ replicate (count - k) Nil

pub so_far_more : (f : ℕ → Value) (count k : ℕ) → k < count → set (so_far f count k) k (f k) ≡ so_far f count (k + 1)
so_far_more f count k h =
    let e : count - k ≡ suc (count - (k + 1)) = omega arith in
    rw (e, set_at (map f (range_with_len 0 k)) Nil (replicate (count - (k + 1)) Nil) (f k) k (length-map-range_with_len f 0 k), map-range_with_len_more f 0 k k (omega arith))
    (sym (append_assoc (map f (range_with_len 0 k)) (f k ∷ []) (replicate (count - (k + 1)) Nil)))

pub so_far_all : (f : ℕ → Value) (count : ℕ) → so_far f count count ≡ map f (range_with_len 0 count)
so_far_all f count = let e : count - count ≡ 0 = omega arith in rw e (append-nil (map f (range_with_len 0 count)))

-- the memory where so many items were written
abbrev pub filled : Program → Memory → ℕ → Items → ℕ → ℕ → Memory
filled p m class items count k = record {
  store = object_added (sequence_object class (so_far (item_at p m.store items) count k)) m.store;
  used = m.used + sequence_charge class count;
  limit = m.limit;
}

pub filled_more : (p : Program) (m : Memory) (class : ℕ) (items : Items) (count k : ℕ) (v : Value) → k < count → v ≡ item_at p m.store items k → with_store (item_written class (length m.store.objects) k v (filled p m class items count k).store) (filled p m class items count k) ≡ filled p m class items count (k + 1)
filled_more p m class items count k v h e =
    rw (e, item_written_last class k (item_at p m.store items k) (so_far (item_at p m.store items) count k) m.store, so_far_more (item_at p m.store items) count k h) refl

-- ---- the action, and what is left of it

charge_held : Bool → Bool → ℕ → ℕ
charge_held t b count = if t || b then object_charge 0 count else object_charge count 0

makes_held : (t b : Bool) (class : ℕ) (items : List Value) (s : Store) → nat_eq class string_class ≡ t → nat_eq class byte_array_class ≡ b → (if t then makes_bytes string_class (map byte_of items) s else (if b then makes_bytes byte_array_class (map byte_in items) s else makes_slots class items s)) ≡ Makes (charge_held t b (length items)) (object_added (held t b class items) s) (next_object s)
unfolding held charge_held makes_bytes makes_slots with_new
makes_held true b class items s e e' = rw (eqb-true class string_class e, length-map items byte_of) refl
makes_held false true class items s e e' = rw (eqb-true class byte_array_class e', length-map items byte_in) refl
makes_held false false class items s e e' = ap (λ (cells : ℕ). Makes cells (object_added (new_object class items []) s) (next_object s)) (sym (add-zero (1 + length items)))

pub makes_sequence-is : (class : ℕ) (items : List Value) (s : Store) → makes_sequence class items s ≡ Makes (sequence_charge class (length items)) (object_added (sequence_object class items) s) (next_object s)
unfolding makes_sequence held charge_held
makes_sequence-is class items s = makes_held (nat_eq class string_class) (nat_eq class byte_array_class) class items s refl refl

-- the same, where the items are made by place
pub makes_items-is : (p : Program) (class : ℕ) (items : Items) (count : ℕ) (s : Store) → makes_sequence class (items_of p s items count) s ≡ Makes (sequence_charge class count) (object_added (sequence_object class (items_of p s items count)) s) (next_object s)
makes_items-is p class items count s = rw (makes_sequence-is class (items_of p s items count) s, length-map-range_with_len (item_at p s items) 0 count) refl

pub filled_all : (p : Program) (m : Memory) (class : ℕ) (items : Items) (count : ℕ) → m.used + sequence_charge class count ≤ m.limit → filled p m class items count count ≡ memory_of (makes_sequence class (items_of p m.store items count) m.store) m
filled_all p m class items count h = rw (makes_items-is p class items count m.store, le-leb (m.used + sequence_charge class count) m.limit h, so_far_all (item_at p m.store items) count) refl

pub filled_answer : (p : Program) (m : Memory) (class : ℕ) (items : Items) (count n : ℕ) → n ≡ length m.store.objects → m.used + sequence_charge class count ≤ m.limit → Built.Value (Value.Object n) ≡ answer_of (makes_sequence class (items_of p m.store items count) m.store) m
filled_answer p m class items count n e h = rw (e, makes_items-is p class items count m.store, le-leb (m.used + sequence_charge class count) m.limit h) refl

-- ---- a heap that made nothing

pub stop_limit : {A : Type 0} → (b : Bool) (u c : ℕ) (n : A) (charge : ℕ) (m m' : Memory) → Err (Limit u c) ≡ (if b then Ok n else Err (Limit m.used (told charge))) → (if b then m' else m) ≡ m
stop_limit true u c n charge m m' e = cc
stop_limit false u c n charge m m' e = refl

pub stop_told : {A : Type 0} → (b : Bool) (u c : ℕ) (n : A) (charge : ℕ) (m : Memory) (v : Value) → Err (Limit u c) ≡ (if b then Ok n else Err (Limit m.used (told charge))) → Built.Cells u c ≡ (if b then Built.Value v else Built.Cells m.used (told charge))
stop_told true u c n charge m v e = cc
stop_told false u c n charge m v e = cc

pub stop_memory : (stop : HeapStop) (m m' : Memory) (charge : ℕ) (s' s : Store) (v : Value) → m' ≡ if_out {A = ℕ} (Err stop) m (charged charge s' m) → Err stop ≡ if_out {A = ℕ} (Err stop) (Err stop) (allot_answer charge m) → m' ≡ unless_out (stop_answer stop) m (memory_of (Makes charge s v) m)
stop_memory (Limit u c) m m' charge s' s v e a =
    let b = nat_le (m.used + charge) m.limit in
    let n = length m.store.objects in
    (e ∙ stop_limit b u c n charge m (record { store = s'; used = m.used + charge; limit = m.limit }) a)
    ∙ sym (stop_limit b u c n charge m (record { store = s; used = m.used + charge; limit = m.limit }) a)
stop_memory OutOfMemory m m' charge s' s v e a = e

pub stop_answer-is : (stop : HeapStop) (m : Memory) (charge : ℕ) (s : Store) (v : Value) → Err stop ≡ if_out {A = ℕ} (Err stop) (Err stop) (allot_answer charge m) → stop_answer stop ≡ unless_out (stop_answer stop) (stop_answer stop) (answer_of (Makes charge s v) m)
stop_answer-is (Limit u c) m charge s v a = stop_told (nat_le (m.used + charge) m.limit) u c (length m.store.objects) charge m v a
stop_answer-is OutOfMemory m charge s v a = refl

-- a charge that was taken was within the limit
paid_cases : (b : Bool) (n n' : ℕ) (charge : ℕ) (m : Memory) → (if b then Ok n' else Err (Limit m.used (told charge))) ≡ Ok n → (b ≡ true) × (n ≡ n')
paid_cases true n n' charge m e = (refl, cc)
paid_cases false n n' charge m e = cc

pub paid_of : (n : ℕ) (charge : ℕ) (m : Memory) → Ok n ≡ if_out (Ok n) (Ok n) (allot_answer charge m) → (m.used + charge ≤ m.limit) × (n ≡ length m.store.objects)
paid_of n charge m e =
    let h = paid_cases (nat_le (m.used + charge) m.limit) n (length m.store.objects) charge m (sym e) in
    (leb-true (m.used + charge) m.limit h.0, h.1)

-- ---- objects of values

pub made_slots : (class n : ℕ) (m : Memory) → made class n 0 m ≡ charged (1 + n) (object_added (new_object class (replicate n Nil) []) m.store) m
made_slots class n m =
    let size : object_charge n 0 ≡ 1 + n = add-zero (1 + n) in
    let o : blank_object class n 0 ≡ new_object class (replicate n Nil) [] = ap (λ (k : ℕ). record { class = class; slots = replicate n Nil; bytes = []; capacity = k; read_only = false; closure = None }) (sym (length-replicate n Nil)) in
    rw (size, o) refl

pub slot_written_last : (class k : ℕ) (v : Value) (items : List Value) (s : Store) → with_slot (length s.objects) k v (object_added (new_object class items []) s) ≡ object_added (new_object class (set items k v) []) s
unfolding held held_written
slot_written_last class k v items s = written_held false false class k v items s

-- the memory where so many values were written
abbrev pub slots_filled : Memory → ℕ → List Value → ℕ → ℕ → Memory
slots_filled m class values count k = record {
  store = object_added (new_object class (so_far (λ i. get_or values i Nil) count k) []) m.store;
  used = m.used + (1 + count);
  limit = m.limit;
}

pub slots_more : (m : Memory) (class : ℕ) (values : List Value) (count k : ℕ) (v : Value) → k < count → v ≡ get_or values k Nil → with_store (with_slot (length m.store.objects) k v (slots_filled m class values count k).store) (slots_filled m class values count k) ≡ slots_filled m class values count (k + 1)
slots_more m class values count k v h e =
    rw (e, slot_written_last class k (get_or values k Nil) (so_far (λ i. get_or values i Nil) count k) m.store, so_far_more (λ i. get_or values i Nil) count k h) refl

values_all : (values : List Value) (count : ℕ) → length values ≡ count → so_far (λ i. get_or values i Nil) count count ≡ values
values_all values count e = so_far_all (λ i. get_or values i Nil) count ∙ sym (fill_by_all (λ i. get_or values i Nil) values count Nil e (λ k h. refl))

pub slots_all : (m : Memory) (class : ℕ) (values : List Value) (count : ℕ) → length values ≡ count → m.used + (1 + count) ≤ m.limit → slots_filled m class values count count ≡ memory_of (makes_slots class values m.store) m
unfolding makes_slots with_new
slots_all m class values count e h = rw (values_all values count e, e, le-leb (m.used + (1 + count)) m.limit h) refl

pub slots_answer : (m : Memory) (class : ℕ) (values : List Value) (count n : ℕ) → length values ≡ count → n ≡ length m.store.objects → m.used + (1 + count) ≤ m.limit → Built.Value (Value.Object n) ≡ answer_of (makes_slots class values m.store) m
unfolding makes_slots
slots_answer m class values count n e e' h = rw (e, e', le-leb (m.used + (1 + count)) m.limit h) refl

pub makes_slots-is : (class : ℕ) (values : List Value) (count : ℕ) (s : Store) → length values ≡ count → makes_slots class values s ≡ Makes (1 + count) (with_new class values [] s) (next_object s)
unfolding makes_slots
makes_slots-is class values count s e = rw e refl
