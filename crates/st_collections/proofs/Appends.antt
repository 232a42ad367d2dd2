-- Elements of a collection written behind those of an object.
use Rattle.std.proofs.Common.{Err, ◌≡◌, ℕ, zero, suc, ◌+◌, ◌-◌, ◌^◌, ◌<◌, ◌≤◌, ◌⊎◌, inl, inr, true, List, ◌++◌, map, length, set, replicate, nat_le, refl, ap, sym, ◌∙◌, arith, rules}
use Rattle.std.specs.List.{range_with_len}
use Rattle.std.proofs.Math.Nat.{div-one, one-mul}
use Rattle.std.proofs.lemmas.Bool.{cases_eq, le-leb}
use Rattle.std.proofs.lemmas.List.{set-append_right, take_all, get_or_append_left, get_or-set_other, length-append, length-replicate}
use Rattle.std.proofs.lemmas.List.FromFn.{length-map-range_with_len}
use Rattle.object_heap.specs.declared.value.Value.{Value}
use Rattle.object_heap.specs.declared.value.Value.TheVariants.{Nil, True, False, Integer, Character, Symbol, Class, Meta, Transcript, Object}
use Rattle.object_heap.specs.Store.{Store, Object as HeapObject, no_object, object_at, object_set, regrown, with_capacity, with_room, with_slot, with_slots, with_length}
use Rattle.object_heap.specs.declared.heap.HeapStop.{HeapStop}
use Rattle.object_heap.specs.Charges.{Memory, charged, if_out, with_store}
use Rattle.st_code.specs.BuiltIns.{ordered_collection_class}
use Rattle.st_code.specs.Program.{Program}
use Rattle.st_collections.specs.Kinds.{element, element_at, elements, elements_from, is_collection, size_of, size_at, some_elements}
use Rattle.st_collections.specs.declared.answer.Built.{Built}
use Rattle.st_collections.specs.Answers.{answer_of, memory_of, stop_answer, unless_out}
use Rattle.st_collections.specs.SequenceRows.{grown_to, per_element, with_elements, with_room as put_room}
use Rattle.st_collections.specs.Items.{item_at}
use Rattle.st_collections.specs.declared.items.Items.{Items}
use Rattle.st_collections.specs.Ordered.{IsOpen, all_added, room_answer, slots_set}
use Rattle.st_collections.proofs.Gaps.{changed_again, full_answer, full_memory, object_at_set, roomy_object, slot_set_again, stands_open}
use Rattle.st_collections.proofs.ElementLists.{length-elements, part_items}
use Rattle.st_collections.proofs.Rooms.{grown_to_holds}
use Rattle.st_collections.proofs.Objects.{so_far, so_far_more, so_far_all}

-- the element at a place of a collection, from 0
abbrev pub added_at : Program → Store → Value → ℕ → Value
added_at p s v k = item_at p s (Items.From v 1) k

-- the slots where so many elements were written
abbrev pub appended : Program → Store → ℕ → Value → (count done : ℕ) → List Value
appended p s n v count done = (object_at n s).slots ++ so_far (added_at p s v) count done

pub appended_none : (p : Program) (s : Store) (n : ℕ) (v : Value) (count size : ℕ) → size ≡ length (object_at n s).slots → length (object_at n s).slots + count ≤ (object_at n s).capacity → with_length n (size + count) s ≡ slots_set n (appended p s n v count 0) s
appended_none p s n v count size e room =
    let o = object_at n s in
    let fits : nat_le (length o.slots + count) o.capacity ≡ true = le-leb (length o.slots + count) o.capacity room in
    let more : length o.slots + count - length o.slots ≡ count = omega arith in
    let all : count - 0 ≡ count = omega arith in
    rw (e, fits, more, all, take_all (length o.slots + count) o.slots (omega arith)) refl

pub appended_more : (p : Program) (s : Store) (n : ℕ) (v x : Value) (count k size : ℕ) → n < length s.objects → k < count → size ≡ length (object_at n s).slots → x ≡ added_at p s v k → with_slot n (size + k) x (slots_set n (appended p s n v count k) s) ≡ slots_set n (appended p s n v count (k + 1)) s
appended_more p s n v x count k size stands low e is =
    let xs = (object_at n s).slots in
    let off : length xs + k - length xs ≡ k = omega arith in
    let written : set (xs ++ so_far (added_at p s v) count k) (length xs + k) (added_at p s v k) ≡ xs ++ so_far (added_at p s v) count (k + 1) =
    set-append_right xs (so_far (added_at p s v) count k) (length xs) (length xs + k) (added_at p s v k) refl (omega arith)
    ∙ (rw (off, so_far_more (added_at p s v) count k low) refl) in
    rw (e, is, slot_set_again n (length xs + k) (added_at p s v k) (appended p s n v count k) s stands, written) refl

pub appended_all : (p : Program) (s : Store) (n : ℕ) (v : Value) (count : ℕ) → appended p s n v count count ≡ (object_at n s).slots ++ some_elements p s v 1 count
appended_all p s n v count = ap (λ (ys : List Value). (object_at n s).slots ++ ys) (so_far_all (added_at p s v) count ∙ sym (part_items p s v 1 count))

-- ---- the collection is read as it was, also where it is the object itself

-- an object of slots alone that got more of them
read_more : (class : ℕ) (xs ys : List Value) (bytes : List ℕ) (i : ℕ) → class ≡ ordered_collection_class → i < length xs → element_at class (xs ++ ys) bytes i ≡ element_at class xs bytes i
read_more class xs ys bytes i e low = rw e (get_or_append_left xs ys Nil i low)

size_more : (class : ℕ) (xs : List Value) (bytes : List ℕ) → class ≡ ordered_collection_class → size_at class xs bytes ≡ length xs
size_more class xs bytes e = rw e refl

read_object : (s : Store) (n m : ℕ) (ys : List Value) (i : ℕ) → (m ≡ n) ⊎ (m ≡ n → ⊥) → IsOpen s n → n < length s.objects → (m ≡ n → i < length (object_at n s).slots) →
    element_at (object_at m (slots_set n ((object_at n s).slots ++ ys) s)).class (object_at m (slots_set n ((object_at n s).slots ++ ys) s)).slots (object_at m (slots_set n ((object_at n s).slots ++ ys) s)).bytes i ≡ element_at (object_at m s).class (object_at m s).slots (object_at m s).bytes i
read_object s n m ys i (inl e) h stands low =
    rw (e, object_at_set n (with_slots ((object_at n s).slots ++ ys) (object_at n s)) s stands)
    (read_more (object_at n s).class (object_at n s).slots ys (object_at n s).bytes i h.ordered (low e))
read_object s n m ys i (inr k) h stands low =
    let same : object_at m (slots_set n ((object_at n s).slots ++ ys) s) ≡ object_at m s = get_or-set_other s.objects n m (with_slots ((object_at n s).slots ++ ys) (object_at n s)) no_object k in
    ap (λ (o : HeapObject). element_at o.class o.slots o.bytes i) same

pub read_beside : (p : Program) (s : Store) (n : ℕ) (v : Value) (ys : List Value) (i : ℕ) → IsOpen s n → n < length s.objects → i < size_of p s v → element p (slots_set n ((object_at n s).slots ++ ys) s) v (1 + i) ≡ element p s v (1 + i)
unfolding element size_of
read_beside p s n (Object m) ys i h stands low =
    let off : 1 + i - 1 ≡ i = omega arith in
    rw off (read_object s n m ys i (cases_eq m n) h stands (λ e. rw (size_more (object_at n s).class (object_at n s).slots (object_at n s).bytes h.ordered) at (rw e at low)))
read_beside p s n (Symbol m) ys i h stands low = refl
read_beside p s n Nil ys i h stands low = refl
read_beside p s n True ys i h stands low = refl
read_beside p s n False ys i h stands low = refl
read_beside p s n (Integer m) ys i h stands low = refl
read_beside p s n (Character m) ys i h stands low = refl
read_beside p s n (Class m) ys i h stands low = refl
read_beside p s n (Meta m) ys i h stands low = refl
read_beside p s n Transcript ys i h stands low = refl

size_object : (s : Store) (n m : ℕ) (ys : List Value) → (m ≡ n) ⊎ (m ≡ n → ⊥) → IsOpen s n → n < length s.objects →
    (size_at (object_at m (slots_set n ((object_at n s).slots ++ ys) s)).class (object_at m (slots_set n ((object_at n s).slots ++ ys) s)).slots (object_at m (slots_set n ((object_at n s).slots ++ ys) s)).bytes ≡ length (object_at n s).slots + length ys)
    ⊎ (size_at (object_at m (slots_set n ((object_at n s).slots ++ ys) s)).class (object_at m (slots_set n ((object_at n s).slots ++ ys) s)).slots (object_at m (slots_set n ((object_at n s).slots ++ ys) s)).bytes ≡ size_at (object_at m s).class (object_at m s).slots (object_at m s).bytes)
size_object s n m ys (inl e) h stands =
    inl (rw (e, object_at_set n (with_slots ((object_at n s).slots ++ ys) (object_at n s)) s stands, size_more (object_at n s).class ((object_at n s).slots ++ ys) (object_at n s).bytes h.ordered) (length-append (object_at n s).slots ys))
size_object s n m ys (inr k) h stands =
    let same : object_at m (slots_set n ((object_at n s).slots ++ ys) s) ≡ object_at m s = get_or-set_other s.objects n m (with_slots ((object_at n s).slots ++ ys) (object_at n s)) no_object k in
    inr (ap (λ (o : HeapObject). size_at o.class o.slots o.bytes) same)

length-so_far : (f : ℕ → Value) (count k : ℕ) → k ≤ count → length (so_far f count k) ≡ count
length-so_far f count k h =
    omega (arith, length-append (map f (range_with_len 0 k)) (replicate (count - k) Nil), length-map-range_with_len f 0 k, length-replicate (count - k) Nil)

index_case : (size size' long count k : ℕ) → (size' ≡ long + count) ⊎ (size' ≡ size) → count ≤ size → size < 2 ^ 127 → long + count < 2 ^ 32 → k < count → (k + 1 ≤ size') × (size' < 2 ^ 127)
index_case size size' long count k (inl e) h small fits low = (omega arith, omega (arith, power_less))
  where
    power_less : 2 ^ 32 < 2 ^ 127
    power_less = search rules
index_case size size' long count k (inr e) h small fits low = (omega arith, omega arith)

-- an index that stood stands then
pub index_beside : (p : Program) (s : Store) (n : ℕ) (v : Value) (count k : ℕ) → IsOpen s n → n < length s.objects → count ≤ size_of p s v → size_of p s v < 2 ^ 127 → length (object_at n s).slots + count < 2 ^ 32 → k < count → (k + 1 ≤ size_of p (slots_set n (appended p s n v count k) s) v) × (size_of p (slots_set n (appended p s n v count k) s) v < 2 ^ 127)
unfolding size_of
index_beside p s n (Object m) count k h stands within small fits low =
    let ys : List Value = so_far (added_at p s (Object m)) count k in
    let side = size_object s n m (so_far (added_at p s (Object m)) count k) (cases_eq m n) h stands in
    let long : length (so_far (added_at p s (Object m)) count k) ≡ count = length-so_far (added_at p s (Object m)) count k (omega arith) in
    index_case (size_of p s (Object m)) (size_of p (slots_set n (appended p s n (Object m) count k) s) (Object m)) (length (object_at n s).slots) count k (rw long at side) within small fits low
index_beside p s n (Symbol m) count k h stands within small fits low = (omega arith, small)
index_beside p s n Nil count k h stands within small fits low = absurd (omega arith)
index_beside p s n True count k h stands within small fits low = absurd (omega arith)
index_beside p s n False count k h stands within small fits low = absurd (omega arith)
index_beside p s n (Integer m) count k h stands within small fits low = absurd (omega arith)
index_beside p s n (Character m) count k h stands within small fits low = absurd (omega arith)
index_beside p s n (Class m) count k h stands within small fits low = absurd (omega arith)
index_beside p s n (Meta m) count k h stands within small fits low = absurd (omega arith)
index_beside p s n Transcript count k h stands within small fits low = absurd (omega arith)

-- ---- other room for an object

-- what doesn't depend on the room of an object
room_same : {X : Type 0} (f : HeapObject → X) (s : Store) (n m room : ℕ) → (m ≡ n) ⊎ (m ≡ n → ⊥) → n < length s.objects → length (object_at n s).slots ≤ room → f (with_capacity room (object_at n s)) ≡ f (object_at n s) → f (object_at m (with_room n room s)) ≡ f (object_at m s)
room_same f s n m room (inl e) stands fits same = rw (e, roomy_object n room s stands fits) same
room_same f s n m room (inr k) stands fits same = ap f (get_or-set_other s.objects n m (regrown room (object_at n s)) no_object k)

pub size_room : (p : Program) (s : Store) (n room : ℕ) (v : Value) → n < length s.objects → length (object_at n s).slots ≤ room → size_of p (with_room n room s) v ≡ size_of p s v
unfolding size_of
size_room p s n room (Object m) stands fits = room_same (λ (o : HeapObject). size_at o.class o.slots o.bytes) s n m room (cases_eq m n) stands fits refl
size_room p s n room (Symbol m) stands fits = refl
size_room p s n room Nil stands fits = refl
size_room p s n room True stands fits = refl
size_room p s n room False stands fits = refl
size_room p s n room (Integer m) stands fits = refl
size_room p s n room (Character m) stands fits = refl
size_room p s n room (Class m) stands fits = refl
size_room p s n room (Meta m) stands fits = refl
size_room p s n room Transcript stands fits = refl

element_room : (p : Program) (s : Store) (n room : ℕ) (v : Value) (i : ℕ) → n < length s.objects → length (object_at n s).slots ≤ room → element p (with_room n room s) v i ≡ element p s v i
unfolding element
element_room p s n room (Object m) i stands fits = room_same (λ (o : HeapObject). element_at o.class o.slots o.bytes (i - 1)) s n m room (cases_eq m n) stands fits refl
element_room p s n room (Symbol m) i stands fits = refl
element_room p s n room Nil i stands fits = refl
element_room p s n room True i stands fits = refl
element_room p s n room False i stands fits = refl
element_room p s n room (Integer m) i stands fits = refl
element_room p s n room (Character m) i stands fits = refl
element_room p s n room (Class m) i stands fits = refl
element_room p s n room (Meta m) i stands fits = refl
element_room p s n room Transcript i stands fits = refl

elements_room : (p : Program) (s : Store) (n room : ℕ) (v : Value) (i count : ℕ) → n < length s.objects → length (object_at n s).slots ≤ room → elements_from p (with_room n room s) v i count ≡ elements_from p s v i count
elements_room p s n room v i zero stands fits = refl
elements_room p s n room v i (suc count) stands fits =
    rw (element_room p s n room v i stands fits, elements_room p s n room v (i + 1) count stands fits) refl

some_elements_room : (p : Program) (s : Store) (n room : ℕ) (v : Value) (i count : ℕ) → n < length s.objects → length (object_at n s).slots ≤ room → some_elements p (with_room n room s) v i count ≡ some_elements p s v i count
unfolding some_elements
some_elements_room p s n room v i count stands fits = elements_room p s n room v i count stands fits

pub open_room : (s : Store) (n room : ℕ) → IsOpen s n → length (object_at n s).slots ≤ room → IsOpen (with_room n room s) n
open_room s n room h fits =
    let r = roomy_object n room s (stands_open s n h) fits in
    record { ordered = rw r h.ordered; writable = rw r h.writable; room = rw r fits }

-- ---- all elements added

-- the collection with all of them
with_all_more : (p : Program) (s : Store) (n count size : ℕ) (v : Value) → IsOpen s n → count ≡ size_of p s v → size ≡ length (object_at n s).slots + count →
    with_elements s n ((object_at n s).slots ++ elements p s v) ≡ record { cells = (grown_to size (object_at n s).capacity).cells; store = object_set n (put_room (object_at n s) ((object_at n s).slots ++ elements p s v) (grown_to size (object_at n s).capacity).elements) s }
unfolding with_elements
with_all_more p s n count size v h ec es =
    let o = object_at n s in
    let per : per_element o.class ≡ 1 = ap per_element h.ordered in
    let long : length (o.slots ++ elements p s v) ≡ size = length-append o.slots (elements p s v) ∙ (rw (length-elements p s v, ← ec, ← es) refl) in
    rw (per, div-one (length (o.slots ++ elements p s v)), div-one o.capacity, long, one-mul (grown_to size o.capacity).cells, one-mul (grown_to size o.capacity).elements) refl

-- the slots and the room at once
slots_of_room : (s : Store) (n room : ℕ) (xs : List Value) → n < length s.objects → length (object_at n s).slots ≤ room → slots_set n xs (with_room n room s) ≡ object_set n (put_room (object_at n s) xs room) s
slots_of_room s n room xs stands fits =
    let o = object_at n s in
    let grown : regrown room o ≡ with_capacity room o = rw (le-leb (length o.slots) room fits) refl in
    ap (λ (x : HeapObject). slots_set n xs (object_set n x s)) grown ∙ changed_again n (with_capacity room o) s (with_slots xs) stands

-- the memory after room was made
pub room_made : (m m1 : Memory) (cells : ℕ) (s : Store) → m1 ≡ charged cells s m → m.used + cells ≤ m.limit → m1 ≡ record { store = s; used = m.used + cells; limit = m.limit }
room_made m m1 cells s e paid = e ∙ (rw (le-leb (m.used + cells) m.limit paid) refl)

-- what is read of it then
pub ready_all : (p : Program) (m m1 : Memory) (n count size : ℕ) (v : Value) → IsOpen m.store n → size ≡ length (object_at n m.store).slots + count →
    m1 ≡ charged (grown_to size (object_at n m.store).capacity).cells (with_room n (grown_to size (object_at n m.store).capacity).elements m.store) m → m.used + (grown_to size (object_at n m.store).capacity).cells ≤ m.limit →
    (length (object_at n m1.store).slots + count ≤ (object_at n m1.store).capacity) × (size_of p m1.store v ≡ size_of p m.store v)
ready_all p m m1 n count size v h es e paid =
    let room = grown_to size (object_at n m.store).capacity in
    let stands = stands_open m.store n h in
    let holds : size ≤ room.elements = grown_to_holds size (object_at n m.store).capacity in
    let fits : length (object_at n m.store).slots ≤ room.elements = omega arith in
    rw (room_made m m1 room.cells (with_room n room.elements m.store) e paid)
    ((rw (roomy_object n room.elements m.store stands fits) (omega arith)), size_room p m.store n room.elements v stands fits)

pub all_memory : (p : Program) (m m1 m2 : Memory) (n count size : ℕ) (v : Value) → IsOpen m.store n → is_collection m.store v ≡ true → count ≡ size_of p m.store v → size ≡ length (object_at n m.store).slots + count →
    m1 ≡ charged (grown_to size (object_at n m.store).capacity).cells (with_room n (grown_to size (object_at n m.store).capacity).elements m.store) m → m.used + (grown_to size (object_at n m.store).capacity).cells ≤ m.limit →
    m2 ≡ with_store (slots_set n ((object_at n m1.store).slots ++ some_elements p m1.store v 1 count) m1.store) m1 →
    m2 ≡ memory_of (all_added p m.store n v) m
unfolding elements
all_memory p m m1 m2 n count size v h is ec es e1 paid e2 =
    let s = m.store in
    let o = object_at n m.store in
    let room = grown_to size (object_at n m.store).capacity in
    let stands = stands_open m.store n h in
    let fits : length (object_at n m.store).slots ≤ room.elements = omega (arith, grown_to_holds size (object_at n m.store).capacity, es) in
    let r : Memory = record { store = with_room n room.elements m.store; used = m.used + room.cells; limit = m.limit } in
    let f1 : m1 ≡ r = room_made m m1 room.cells (with_room n room.elements m.store) e1 paid in
    let same : (object_at n (with_room n room.elements m.store)).slots ≡ o.slots = ap (λ (x : HeapObject). x.slots) (roomy_object n room.elements m.store stands fits) in
    let read : some_elements p (with_room n room.elements m.store) v 1 count ≡ some_elements p m.store v 1 count = some_elements_room p m.store n room.elements v 1 count stands fits in
    let f2 : m2 ≡ with_store (slots_set n ((object_at n r.store).slots ++ some_elements p r.store v 1 count) r.store) r = rw f1 at e2 in
    let f3 : m2 ≡ with_store (slots_set n (o.slots ++ some_elements p m.store v 1 count) r.store) r = rw (same, read) at f2 in
    let f4 : m2 ≡ with_store (object_set n (put_room o (o.slots ++ some_elements p m.store v 1 count) room.elements) m.store) r = rw (slots_of_room m.store n room.elements (o.slots ++ some_elements p m.store v 1 count) stands fits) at f3 in
    let f5 : m2 ≡ with_store (object_set n (put_room o (o.slots ++ some_elements p m.store v 1 (size_of p m.store v)) room.elements) m.store) r = rw ec at f4 in
    f5 ∙ (rw (is, with_all_more p m.store n count size v h ec es, le-leb (m.used + room.cells) m.limit paid) refl)

pub all_answer : (p : Program) (m : Memory) (n count size : ℕ) (v : Value) → IsOpen m.store n → is_collection m.store v ≡ true → count ≡ size_of p m.store v → size ≡ length (object_at n m.store).slots + count →
    m.used + (grown_to size (object_at n m.store).capacity).cells ≤ m.limit → Built.Value v ≡ answer_of (all_added p m.store n v) m
all_answer p m n count size v h is ec es paid =
    rw (is, with_all_more p m.store n count size v h ec es, le-leb (m.used + (grown_to size (object_at n m.store).capacity).cells) m.limit paid) refl

-- where there was no room
pub all_full_memory : (p : Program) (stop : HeapStop) (m m1 : Memory) (n count size : ℕ) (v : Value) → IsOpen m.store n → is_collection m.store v ≡ true → count ≡ size_of p m.store v → size ≡ length (object_at n m.store).slots + count →
    m1 ≡ if_out {A = Unit {0}} (Err stop) m (charged (grown_to size (object_at n m.store).capacity).cells (with_room n (grown_to size (object_at n m.store).capacity).elements m.store) m) →
    Err stop ≡ if_out {A = Unit {0}} (Err stop) (Err stop) (room_answer (grown_to size (object_at n m.store).capacity).cells m) →
    m1 ≡ unless_out (stop_answer stop) m (memory_of (all_added p m.store n v) m)
all_full_memory p stop m m1 n count size v h is ec es e a =
    let o = object_at n m.store in
    let room = grown_to size (object_at n m.store).capacity in
    rw (is, with_all_more p m.store n count size v h ec es)
    (full_memory stop m m1 room.cells (with_room n room.elements m.store) (object_set n (put_room o (o.slots ++ elements p m.store v) room.elements) m.store) v e a)

pub all_full_answer : (p : Program) (stop : HeapStop) (m : Memory) (n count size : ℕ) (v : Value) → IsOpen m.store n → is_collection m.store v ≡ true → count ≡ size_of p m.store v → size ≡ length (object_at n m.store).slots + count →
    Err stop ≡ if_out {A = Unit {0}} (Err stop) (Err stop) (room_answer (grown_to size (object_at n m.store).capacity).cells m) →
    stop_answer stop ≡ unless_out (stop_answer stop) (stop_answer stop) (answer_of (all_added p m.store n v) m)
all_full_answer p stop m n count size v h is ec es a =
    let o = object_at n m.store in
    let room = grown_to size (object_at n m.store).capacity in
    rw (is, with_all_more p m.store n count size v h ec es)
    (full_answer stop m room.cells (object_set n (put_room o (o.slots ++ elements p m.store v) room.elements) m.store) v a)
