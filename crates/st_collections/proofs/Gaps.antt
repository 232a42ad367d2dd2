-- A gap that moves through the slots of an object, one place at a time.
use Rattle.std.proofs.Common.{Ok, Err, ◌≡◌, ℕ, suc, ◌+◌, ◌-◌, ◌*◌, ◌<◌, ◌≤◌, Bool, true, false, List, [], ◌∷◌, ◌++◌, length, get_or, set, take, drop, replicate, nat_lt, nat_le, max, inl, inr, refl, ap, sym, ◌∙◌, arith, add-zero, zero-add, add-one, if◌then◌else◌}
use Rattle.std.specs.List.{insert, remove}
use Rattle.std.proofs.lemmas.Bool.{cases_lt, leb-true, le-leb, ltb-true, ltb-false}
use Rattle.std.proofs.Math.Nat.{div-one, one-mul}
use Rattle.std.proofs.lemmas.List.{append_assoc, append-nil, drop_more, get_or-set_same, get_or_past, length-take-le, set-get_or, set-set, set_at, take_all, take_at, take_more, drop_at, take-append-drop}
use Rattle.std.proofs.lemmas.List.Edits.{get_or-insert_below, get_or-insert_above, get_or-remove_above, insert_end, length-insert, length-remove}
use Rattle.object_heap.specs.declared.value.Value.{Value}
use Rattle.object_heap.specs.declared.value.Value.TheVariants.{Nil}
use Rattle.object_heap.specs.Store.{Store, Object, no_object, object_at, object_set, regrown, resized, slot_at, with_capacity, with_length, with_room, slot_written, with_slot, with_slots}
use Rattle.object_heap.specs.declared.heap.HeapStop.{HeapStop}
use Rattle.object_heap.specs.declared.heap.HeapStop.TheVariants.{Limit, OutOfMemory}
use Rattle.object_heap.specs.Charges.{Memory, charged, if_out, with_store}
use Rattle.st_code.specs.Program.{Program}
use Rattle.st_collections.specs.declared.answer.Built.{Built}
use Rattle.st_collections.specs.Answers.{answer_of, memory_of, stop_answer, told, unless_out}
use Rattle.st_collections.specs.Kinds.{size_of}
use Rattle.st_collections.proofs.Objects.{stop_limit, stop_told}
use Rattle.st_collections.proofs.Rooms.{grown_done}
use Rattle.st_collections.specs.Actions.{Makes}
use Rattle.st_collections.specs.SequenceRows.{Room, adds, grown_in, grown_to, per_element, with_elements, without_element, with_room as put_room}
use Rattle.st_collections.specs.Ordered.{IsOpen, room_answer, room_for_one, slots_set}

-- ---- lists

-- the value beside a gap on both sides of it
pub gap_moves : (xs : List Value) (k : ℕ) (d : Value) → k < length xs → insert xs k (get_or xs k d) ≡ insert xs (k + 1) (get_or xs k d)
gap_moves xs k d h =
    rw (take_more xs k d h, drop_more xs k d h) (sym (append_assoc (take k xs) (get_or xs k d ∷ []) (get_or xs k d ∷ drop (k + 1) xs)))

pub set_gap : (xs : List Value) (k : ℕ) (y a : Value) → k ≤ length xs → set (insert xs k y) k a ≡ insert xs k a
set_gap xs k y a h = set_at (take k xs) y (drop k xs) a k (length-take-le k xs h)

-- one step upwards of the elements: the gap moves down
pub gap_down : (xs : List Value) (k : ℕ) (y : Value) → k < length xs → set (insert xs (k + 1) y) (k + 1) (get_or (insert xs (k + 1) y) k Nil) ≡ insert xs k (get_or xs k Nil)
gap_down xs k y h =
    rw (get_or-insert_below xs (k + 1) y Nil k (omega arith) (omega arith), set_gap xs (k + 1) y (get_or xs k Nil) (omega arith)) (sym (gap_moves xs k Nil h))

-- one step downwards of the elements: the gap moves up
pub gap_up : (xs : List Value) (k : ℕ) (y : Value) → k < length xs → set (insert xs k y) k (get_or (insert xs k y) (k + 1) Nil) ≡ insert xs (k + 1) (get_or xs k Nil)
gap_up xs k y h =
    rw (get_or-insert_above xs k y Nil k (omega arith) (omega arith), set_gap xs k y (get_or xs k Nil) (omega arith)) (gap_moves xs k Nil h)

pub gap_at_end : (xs : List Value) → take (length xs + 1) xs ++ replicate (length xs + 1 - length xs) Nil ≡ insert xs (length xs) (get_or xs (length xs) Nil)
gap_at_end xs =
    let one : length xs + 1 - length xs ≡ 1 = omega arith in
    rw (one, take_all (length xs + 1) xs (omega arith), get_or_past xs (length xs) Nil (omega arith), insert_end xs Nil) refl

-- a list is what is left without an element, with it
pub insert_removed : (xs : List Value) (i : ℕ) → i < length xs → insert (remove xs i) i (get_or xs i Nil) ≡ xs
insert_removed xs i h =
    let front : length (take i xs) ≡ i = length-take-le i xs (omega arith) in
    rw (take_at (take i xs) (drop (suc i) xs) i front, drop_at (take i xs) (drop (suc i) xs) i front, ← add-one i, ← drop_more xs i Nil h) (take-append-drop i xs)

pub take_gap : (xs : List Value) (y : Value) → take (length xs) (insert xs (length xs) y) ++ replicate (length xs - length (insert xs (length xs) y)) Nil ≡ xs
take_gap xs y =
    let none : length xs - length (insert xs (length xs) y) ≡ 0 = omega (arith, length-insert xs (length xs) y (omega arith)) in
    rw (none, insert_end xs y, take_at xs (y ∷ []) (length xs) refl) (append-nil xs)

-- ---- stores

pub stands_of_room : (n : ℕ) (s : Store) → 0 < (object_at n s).capacity → n < length s.objects
stands_of_room n s h = elim (cases_lt n (length s.objects)) [
  | inl low ↦ low
  | inr past ↦
      let none : object_at n s ≡ no_object = get_or_past s.objects n no_object past in
      let empty : (object_at n s).capacity ≡ 0 = rw none refl in
      absurd (omega arith)
]

pub object_set_again : (n : ℕ) (o o' : Object) (s : Store) → object_set n o' (object_set n o s) ≡ object_set n o' s
object_set_again n o o' s = ap (λ (objects : List Object). record { objects = objects; closures = s.closures; scopes = s.scopes }) (set-set s.objects n o o')

pub object_at_set : (n : ℕ) (o : Object) (s : Store) → n < length s.objects → object_at n (object_set n o s) ≡ o
object_at_set n o s h = get_or-set_same s.objects n o no_object h

pub object_set_same : (n : ℕ) (s : Store) → object_set n (object_at n s) s ≡ s
object_set_same n s = ap (λ (objects : List Object). record { objects = objects; closures = s.closures; scopes = s.scopes }) (set-get_or s.objects n no_object)

-- another change to the object that was changed last
pub changed_again : (n : ℕ) (o : Object) (s : Store) (f : Object → Object) → n < length s.objects → object_set n (f (object_at n (object_set n o s))) (object_set n o s) ≡ object_set n (f o) s
changed_again n o s f h = rw (object_at_set n o s h, object_set_again n o (f o) s) refl

pub slots_set_same : (n : ℕ) (s : Store) → slots_set n (object_at n s).slots s ≡ s
slots_set_same n s = object_set_same n s

pub slot_set_again : (n k : ℕ) (v : Value) (xs : List Value) (s : Store) → n < length s.objects → with_slot n k v (slots_set n xs s) ≡ slots_set n (set xs k v) s
slot_set_again n k v xs s h = changed_again n (with_slots xs (object_at n s)) s (slot_written k v) h

pub slot_of_set : (n k : ℕ) (xs : List Value) (s : Store) → n < length s.objects → slot_at n k (slots_set n xs s) ≡ get_or xs k Nil
slot_of_set n k xs s h = ap (λ (o : Object). get_or o.slots k Nil) (object_at_set n (with_slots xs (object_at n s)) s h)

-- ---- the gap in the object

pub opened_first : (n : ℕ) (s : Store) → length (object_at n s).slots < (object_at n s).capacity → with_length n (length (object_at n s).slots + 1) s ≡ slots_set n (insert (object_at n s).slots (length (object_at n s).slots) (get_or (object_at n s).slots (length (object_at n s).slots) Nil)) s
opened_first n s h =
    let o = object_at n s in
    rw (le-leb (length o.slots + 1) o.capacity (omega arith), gap_at_end o.slots) refl

pub opened_more : (n k gap : ℕ) (s : Store) → n < length s.objects → gap ≡ k + 1 → gap ≤ length (object_at n s).slots → with_slot n gap (slot_at n k (slots_set n (insert (object_at n s).slots gap (get_or (object_at n s).slots gap Nil)) s)) (slots_set n (insert (object_at n s).slots gap (get_or (object_at n s).slots gap Nil)) s) ≡ slots_set n (insert (object_at n s).slots k (get_or (object_at n s).slots k Nil)) s
opened_more n k gap s h e low =
    let xs = (object_at n s).slots in
    let y = get_or xs (k + 1) Nil in
    rw (e, slot_of_set n k (insert xs (k + 1) y) s h, slot_set_again n (k + 1) (get_or (insert xs (k + 1) y) k Nil) (insert xs (k + 1) y) s h, gap_down xs k y (omega arith)) refl

pub closed_first : (n i : ℕ) (s : Store) → i < length (object_at n s).slots → s ≡ slots_set n (insert (remove (object_at n s).slots i) i (get_or (object_at n s).slots i Nil)) s
closed_first n i s h = sym ((ap (λ (xs : List Value). slots_set n xs s) (insert_removed (object_at n s).slots i h)) ∙ slots_set_same n s)

pub closed_more : (n i k : ℕ) (s : Store) → n < length s.objects → i ≤ k → k + 1 < length (object_at n s).slots → with_slot n k (slot_at n (k + 1) (slots_set n (insert (remove (object_at n s).slots i) k (get_or (object_at n s).slots k Nil)) s)) (slots_set n (insert (remove (object_at n s).slots i) k (get_or (object_at n s).slots k Nil)) s) ≡ slots_set n (insert (remove (object_at n s).slots i) (k + 1) (get_or (object_at n s).slots (k + 1) Nil)) s
closed_more n i k s h low high =
    let xs = (object_at n s).slots in
    let ys = remove xs i in
    let y = get_or xs k Nil in
    let near : k < length ys = omega (arith, length-remove xs i (omega arith)) in
    rw (slot_of_set n (k + 1) (insert ys k y) s h, slot_set_again n k (get_or (insert ys k y) (k + 1) Nil) (insert ys k y) s h, gap_up ys k y near, get_or-remove_above xs i Nil k low (omega arith)) refl

pub closed_all : (n i last : ℕ) (y : Value) (s : Store) → n < length s.objects → i < length (object_at n s).slots → last + 1 ≡ length (object_at n s).slots → length (object_at n s).slots ≤ (object_at n s).capacity → with_length n last (slots_set n (insert (remove (object_at n s).slots i) last y) s) ≡ slots_set n (remove (object_at n s).slots i) s
closed_all n i last y s h low e room =
    let o = object_at n s in
    let ys = remove o.slots i in
    let size : last ≡ length ys = omega (arith, length-remove o.slots i low) in
    let fits : nat_le last o.capacity ≡ true = le-leb last o.capacity (omega arith) in
    changed_again n (with_slots (insert ys last y) o) s (resized last) h
    ∙ (rw (fits, size, take_gap ys y) refl)

-- ---- room

pub no_growth : (n : ℕ) (m : Memory) → length (object_at n m.store).slots ≤ (object_at n m.store).capacity → m.used ≤ m.limit → m ≡ charged 0 (with_room n (object_at n m.store).capacity m.store) m
no_growth n m room paid =
    let o = object_at n m.store in
    rw (le-leb (length o.slots) o.capacity room, object_set_same n m.store, le-leb (m.used + 0) m.limit (omega arith), add-zero m.used) refl

grown_case : (b : Bool) (len cap : ℕ) → nat_lt len cap ≡ b → len ≤ cap → elim b [ true ↦ record { elements = cap; cells = 0 } | false ↦ grown_in len (suc len) (max 4 (2 * cap)) (0 + max 4 (2 * cap)) ] ≡ (if b then record { elements = cap; cells = 0 } else record { elements = max 4 (2 * cap); cells = max 4 (2 * cap) })
grown_case true len cap e h = refl
grown_case false len cap e h =
    let full : cap ≤ len = ltb-false len cap e in
    rw (zero-add (max 4 (2 * cap))) (grown_done len (suc len) (max 4 (2 * cap)) (max 4 (2 * cap)) (omega arith))

pub grown_one : (len cap : ℕ) → len ≤ cap → grown_to (len + 1) cap ≡ room_for_one len cap
unfolding grown_to
grown_one len cap h = rw (add-one len) (grown_case (nat_lt len cap) len cap refl h)

roomy : (b : Bool) (len cap : ℕ) (r : Room) → nat_lt len cap ≡ b → len ≤ cap → r ≡ (if b then record { elements = cap; cells = 0 } else record { elements = max 4 (2 * cap); cells = max 4 (2 * cap) }) → len < r.elements
roomy true len cap r e h f = rw f (ltb-true len cap e)
roomy false len cap r e h f = rw f (omega arith)

-- there is room for one more then
pub has_room : (len cap : ℕ) → len ≤ cap → len < (room_for_one len cap).elements
has_room len cap h = roomy (nat_lt len cap) len cap (room_for_one len cap) refl h refl

-- ---- an element added

-- the object with room for one more
pub roomy_object : (n room : ℕ) (s : Store) → n < length s.objects → length (object_at n s).slots ≤ room → object_at n (with_room n room s) ≡ with_capacity room (object_at n s)
roomy_object n room s h fits = rw (le-leb (length (object_at n s).slots) room fits) (object_at_set n (with_capacity room (object_at n s)) s h)

-- the collection with an element more
pub with_more : (s : Store) (n i : ℕ) (v : Value) → IsOpen s n → i ≤ length (object_at n s).slots → with_elements s n (insert (object_at n s).slots i v) ≡ record { cells = (room_for_one (length (object_at n s).slots) (object_at n s).capacity).cells; store = object_set n (put_room (object_at n s) (insert (object_at n s).slots i v) (room_for_one (length (object_at n s).slots) (object_at n s).capacity).elements) s }
unfolding with_elements
with_more s n i v h low =
    let o = object_at n s in
    let per : per_element o.class ≡ 1 = ap per_element h.ordered in
    rw (per, div-one (length (insert o.slots i v)), div-one o.capacity, length-insert o.slots i v low, grown_one (length o.slots) o.capacity h.room, one-mul (room_for_one (length o.slots) o.capacity).cells, one-mul (room_for_one (length o.slots) o.capacity).elements) refl

-- the element put into the gap that was opened
pub put_opened : (s : Store) (n i room : ℕ) (y v : Value) → n < length s.objects → IsOpen s n → i ≤ length (object_at n s).slots → length (object_at n s).slots ≤ room → with_slot n i v (slots_set n (insert (object_at n s).slots i y) (with_room n room s)) ≡ object_set n (put_room (object_at n s) (insert (object_at n s).slots i v) room) s
put_opened s n i room y v stands h low fits =
    let o = object_at n s in
    let wide = with_capacity room o in
    let ys = insert o.slots i y in
    let grown : regrown room o ≡ wide = rw (le-leb (length o.slots) room fits) refl in
    let e : with_room n room s ≡ object_set n wide s = ap (λ (x : Object). object_set n x s) grown in
    let f : slots_set n ys (with_room n room s) ≡ object_set n (with_slots ys wide) s = ap (λ (t : Store). slots_set n ys t) e ∙ changed_again n wide s (with_slots ys) stands in
    ap (λ (t : Store). with_slot n i v t) f ∙ changed_again n (with_slots ys wide) s (slot_written i v) stands ∙ (rw (set_gap o.slots i y v low, h.writable) refl)

-- an element taken out
pub without_is : (s : Store) (n i : ℕ) → IsOpen s n → without_element s n i ≡ slots_set n (remove (object_at n s).slots i) s
unfolding without_element
without_is s n i h = rw h.writable refl

-- ---- the memory after an element was added

paid_case : {A : Type 0} → (b : Bool) (cells : ℕ) (m : Memory) (x : A) → (if b then Ok x else Err (Limit m.used (told cells))) ≡ Ok x → b ≡ true
paid_case true cells m x e = refl
paid_case false cells m x e = cc

pub paid_room : (cells : ℕ) (m : Memory) → Ok tt ≡ room_answer cells m → m.used + cells ≤ m.limit
paid_room cells m e = leb-true (m.used + cells) m.limit (paid_case (nat_le (m.used + cells) m.limit) cells m tt (sym e))

pub added_memory : (m m1 m2 m3 : Memory) (n i : ℕ) (v : Value) → IsOpen m.store n → i ≤ length (object_at n m.store).slots → n < length m.store.objects → m1 ≡ charged (room_for_one (length (object_at n m.store).slots) (object_at n m.store).capacity).cells (with_room n (room_for_one (length (object_at n m.store).slots) (object_at n m.store).capacity).elements m.store) m → m.used + (room_for_one (length (object_at n m.store).slots) (object_at n m.store).capacity).cells ≤ m.limit → m2 ≡ with_store (slots_set n (insert (object_at n m1.store).slots i (get_or (object_at n m1.store).slots i Nil)) m1.store) m1 → m3 ≡ with_store (with_slot n i v m2.store) m2 → m3 ≡ memory_of (adds m.store n (insert (object_at n m.store).slots i v) v) m
added_memory m m1 m2 m3 n i v h low stands e1 paid e2 e3 =
    let o = object_at n m.store in
    let room = room_for_one (length o.slots) o.capacity in
    let fits : length o.slots ≤ room.elements = omega (arith, has_room (length o.slots) o.capacity h.room) in
    let r : Memory = record { store = with_room n room.elements m.store; used = m.used + room.cells; limit = m.limit } in
    let f1 : m1 ≡ r = e1 ∙ (rw (le-leb (m.used + room.cells) m.limit paid) refl) in
    let same : (object_at n r.store).slots ≡ o.slots = ap (λ (x : Object). x.slots) (roomy_object n room.elements m.store stands fits) in
    let y = get_or o.slots i Nil in
    let f2 : m2 ≡ with_store (slots_set n (insert o.slots i y) r.store) r = (rw f1 at e2) ∙ ap (λ (xs : List Value). with_store (slots_set n (insert xs i (get_or xs i Nil)) r.store) r) same in
    let f3 : m3 ≡ with_store (with_slot n i v (slots_set n (insert o.slots i y) r.store)) r = rw f2 at e3 in
    f3 ∙ ap (λ (t : Store). with_store t r) (put_opened m.store n i room.elements y v stands h low fits) ∙ (rw (with_more m.store n i v h low, le-leb (m.used + room.cells) m.limit paid) refl)

pub added_answer : (m : Memory) (n i : ℕ) (v : Value) → IsOpen m.store n → i ≤ length (object_at n m.store).slots → m.used + (room_for_one (length (object_at n m.store).slots) (object_at n m.store).capacity).cells ≤ m.limit → Built.Value v ≡ answer_of (adds m.store n (insert (object_at n m.store).slots i v) v) m
added_answer m n i v h low paid = rw (with_more m.store n i v h low, le-leb (m.used + (room_for_one (length (object_at n m.store).slots) (object_at n m.store).capacity).cells) m.limit paid) refl

-- where there was no room
pub full_memory : (stop : HeapStop) (m m' : Memory) (cells : ℕ) (s' s : Store) (v : Value) → m' ≡ if_out {A = Unit {0}} (Err stop) m (charged cells s' m) → Err stop ≡ if_out {A = Unit {0}} (Err stop) (Err stop) (room_answer cells m) → m' ≡ unless_out (stop_answer stop) m (memory_of (Makes cells s v) m)
full_memory (Limit u c) m m' cells s' s v e a =
    let b = nat_le (m.used + cells) m.limit in
    (e ∙ stop_limit b u c tt cells m (record { store = s'; used = m.used + cells; limit = m.limit }) a)
    ∙ sym (stop_limit b u c tt cells m (record { store = s; used = m.used + cells; limit = m.limit }) a)
full_memory OutOfMemory m m' cells s' s v e a = e

pub full_answer : (stop : HeapStop) (m : Memory) (cells : ℕ) (s : Store) (v : Value) → Err stop ≡ if_out {A = Unit {0}} (Err stop) (Err stop) (room_answer cells m) → stop_answer stop ≡ unless_out (stop_answer stop) (stop_answer stop) (answer_of (Makes cells s v) m)
full_answer (Limit u c) m cells s v a = stop_told (nat_le (m.used + cells) m.limit) u c tt cells m v a
full_answer OutOfMemory m cells s v a = refl

-- ---- none and some

pub size_open : (p : Program) (s : Store) (n : ℕ) → IsOpen s n → size_of p s (Value.Object n) ≡ length (object_at n s).slots
unfolding size_of
size_open p s n h = rw h.ordered refl

pub stands_open : (s : Store) (n : ℕ) → IsOpen s n → n < length s.objects
stands_open s n h = elim (cases_lt n (length s.objects)) [
  | inl low ↦ low
  | inr past ↦
      let none : object_at n s ≡ no_object = get_or_past s.objects n no_object past in
      let zeroth : (object_at n s).class ≡ 0 = rw none refl in
      absurd (omega (arith, h.ordered))
]
