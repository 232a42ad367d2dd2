-- A collection with a slot or a pair more, as the heap makes it.
use Rattle.std.proofs.Common.{◌≡◌, ℕ, ◌+◌, ◌-◌, ◌*◌, ◌/◌, ◌<◌, ◌≤◌, Bool, true, false, List, [], ◌∷◌, ◌++◌, length, take, replicate, set, nat_lt, nat_le, max, Err, if◌then◌else◌, refl, ap, sym, ◌∙◌, arith}
use Rattle.std.proofs.lemmas.Bool.{le-leb, le-ltb, lt-ltb, ltb-true, ltb-false, ne_eqb}
use Rattle.std.proofs.Math.Nat.{div-one, one-mul}
use Rattle.std.proofs.lemmas.List.{append_assoc, set_at, take_all, length-append}
use Rattle.object_heap.specs.declared.value.Value.{Value}
use Rattle.object_heap.specs.declared.value.Value.TheVariants.{Nil}
use Rattle.object_heap.specs.Store.{Store, Object, object_at, object_set, resized, slot_written, with_capacity, with_length, with_room, with_slot, with_slots}
use Rattle.object_heap.specs.Charges.{Memory, charged, if_out, with_store}
use Rattle.object_heap.specs.declared.heap.HeapStop.{HeapStop}
use Rattle.object_heap.specs.declared.heap.HeapStop.TheVariants.{Limit, OutOfMemory}
use Rattle.st_code.specs.BuiltIns.{dictionary_class}
use Rattle.st_collections.specs.Ordered.{room_answer, room_for_one}
use Rattle.st_collections.specs.SequenceRows.{Room, grown_to, per_element, with_elements, with_room as put_room}
use Rattle.st_collections.proofs.Gaps.{changed_again, grown_one}
use Rattle.st_collections.proofs.Objects.{stop_limit}
use Rattle.st_loops.specs.Growth.{IsPaired, IsSingle, room_or}

-- ---- the room

unfoldable pub one_room : Store → ℕ → Room
one_room s n = let o = object_at n s in room_or (length o.slots) o.capacity (max 4 (2 * o.capacity))

pub with_one : (s : Store) (n : ℕ) (v : Value) → IsSingle s n → with_elements s n ((object_at n s).slots ++ v ∷ []) ≡ record { cells = (one_room s n).cells; store = object_set n (put_room (object_at n s) ((object_at n s).slots ++ v ∷ []) (one_room s n).elements) s }
unfolding with_elements one_room
with_one s n v h =
    let o = object_at n s in
    let per : per_element o.class ≡ 1 = rw (ne_eqb o.class dictionary_class h.single) refl in
    let more : length (o.slots ++ v ∷ []) ≡ length o.slots + 1 = length-append o.slots (v ∷ []) in
    rw (per, div-one (length (o.slots ++ v ∷ [])), div-one o.capacity, more, grown_one (length o.slots) o.capacity h.roomy.room, one-mul (room_for_one (length o.slots) o.capacity).cells, one-mul (room_for_one (length o.slots) o.capacity).elements) refl

unfoldable pub pair_room : Store → ℕ → Room
pair_room s n = let o = object_at n s in room_or (length o.slots) o.capacity (2 * max 4 o.capacity)

twice : Room → Room
twice r = record { elements = 2 * r.elements; cells = 2 * r.cells }

twice_room : (b : Bool) (h c size room : ℕ) → nat_lt h c ≡ b → size ≡ 2 * h → room ≡ 2 * c → twice (if b then record { elements = c; cells = 0 } else record { elements = max 4 (2 * c); cells = max 4 (2 * c) }) ≡ room_or size room (2 * max 4 room)
unfolding twice
twice_room true h c size room e f g =
    let low : h < c = ltb-true h c e in
    let less : nat_lt size room ≡ true = lt-ltb size room (omega arith) in
    rw (less, g) refl
twice_room false h c size room e f g =
    let full : c ≤ h = ltb-false h c e in
    let more : nat_lt size room ≡ false = le-ltb size room (omega arith) in
    rw (more, g) refl

half_more : (size h : ℕ) → size ≡ 2 * h → (size + 2) / 2 ≡ h + 1
half_more size h e = omega arith

pub with_two : (s : Store) (n : ℕ) (k v : Value) → IsPaired s n → with_elements s n ((object_at n s).slots ++ k ∷ v ∷ []) ≡ record { cells = (pair_room s n).cells; store = object_set n (put_room (object_at n s) ((object_at n s).slots ++ k ∷ v ∷ []) (pair_room s n).elements) s }
unfolding with_elements pair_room twice
with_two s n k v h =
    let o = object_at n s in
    let per : per_element o.class ≡ 2 = rw h.paired refl in
    let halves = length o.slots / 2 in
    let rooms = o.capacity / 2 in
    let more : length (o.slots ++ k ∷ v ∷ []) / 2 ≡ halves + 1 = ap (λ (i : ℕ). i / 2) (length-append o.slots (k ∷ v ∷ [])) ∙ half_more (length o.slots) halves h.slots_even in
    let fits : halves ≤ rooms = omega (arith, h.roomy.room, h.slots_even, h.room_even) in
    let grown : grown_to (length (o.slots ++ k ∷ v ∷ []) / 2) rooms ≡ room_for_one halves rooms = rw more (grown_one halves rooms fits) in
    let room : twice (room_for_one halves rooms) ≡ room_or (length o.slots) o.capacity (2 * max 4 o.capacity) = twice_room (nat_lt halves rooms) halves rooms (length o.slots) o.capacity refl h.slots_even h.room_even in
    rw (per, grown)
    (ap (λ (r : Room). record { cells = r.cells; store = object_set n (put_room o (o.slots ++ k ∷ v ∷ []) r.elements) s }) room)

-- ---- the store

nil_more : (xs : List Value) → take (length xs + 1) xs ++ replicate (length xs + 1 - length xs) Nil ≡ xs ++ Nil ∷ []
nil_more xs =
    let one : length xs + 1 - length xs ≡ 1 = omega arith in
    rw (one, take_all (length xs + 1) xs (omega arith)) refl

nils_more : (xs : List Value) → take (length xs + 2) xs ++ replicate (length xs + 2 - length xs) Nil ≡ xs ++ Nil ∷ Nil ∷ []
nils_more xs =
    let two : length xs + 2 - length xs ≡ 2 = omega arith in
    rw (two, take_all (length xs + 2) xs (omega arith)) refl

-- the object with room
wide_store : (s : Store) (n room : ℕ) → length (object_at n s).slots ≤ room → with_room n room s ≡ object_set n (with_capacity room (object_at n s)) s
wide_store s n room fits = ap (λ (x : Object). object_set n x s) (rw (le-leb (length (object_at n s).slots) room fits) refl)

longer : (o : Object) (k : ℕ) (ys : List Value) → k ≤ o.capacity → take k o.slots ++ replicate (k - length o.slots) Nil ≡ ys → resized k o ≡ with_slots ys o
longer o k ys fits e = rw (le-leb k o.capacity fits, e) refl

pub one_store : (s : Store) (n room : ℕ) (v : Value) → n < length s.objects → length (object_at n s).slots + 1 ≤ room → with_slot n (length (object_at n s).slots) v (with_length n (length (object_at n s).slots + 1) (with_room n room s)) ≡ object_set n (put_room (object_at n s) ((object_at n s).slots ++ v ∷ []) room) s
one_store s n room v stands fits =
    let o = object_at n s in
    let wide = with_capacity room o in
    let long = with_slots (o.slots ++ Nil ∷ []) wide in
    let e : with_length n (length o.slots + 1) (with_room n room s) ≡ object_set n long s =
    ap (λ (t : Store). with_length n (length o.slots + 1) t) (wide_store s n room (omega arith))
    ∙ changed_again n wide s (resized (length o.slots + 1)) stands
    ∙ ap (λ (x : Object). object_set n x s) (longer wide (length o.slots + 1) (o.slots ++ Nil ∷ []) fits (nil_more o.slots)) in
    ap (λ (t : Store). with_slot n (length o.slots) v t) e
    ∙ changed_again n long s (slot_written (length o.slots) v) stands
    ∙ ap (λ (ys : List Value). object_set n (put_room o ys room) s) (set_at o.slots Nil [] v (length o.slots) refl)

set_two : (xs : List Value) (k v : Value) → set (set (xs ++ Nil ∷ Nil ∷ []) (length xs) k) (length xs + 1) v ≡ xs ++ k ∷ v ∷ []
set_two xs k v =
    let e : set (xs ++ Nil ∷ Nil ∷ []) (length xs) k ≡ xs ++ k ∷ Nil ∷ [] = set_at xs Nil (Nil ∷ []) k (length xs) refl in
    let size : length (xs ++ k ∷ []) ≡ length xs + 1 = length-append xs (k ∷ []) in
    ap (λ (ys : List Value). set ys (length xs + 1) v) (e ∙ sym (append_assoc xs (k ∷ []) (Nil ∷ [])))
    ∙ set_at (xs ++ k ∷ []) Nil [] v (length xs + 1) size
    ∙ append_assoc xs (k ∷ []) (v ∷ [])

pub two_store : (s : Store) (n room : ℕ) (k v : Value) → n < length s.objects → length (object_at n s).slots + 2 ≤ room → with_slot n (length (object_at n s).slots + 1) v (with_slot n (length (object_at n s).slots) k (with_length n (length (object_at n s).slots + 2) (with_room n room s))) ≡ object_set n (put_room (object_at n s) ((object_at n s).slots ++ k ∷ v ∷ []) room) s
two_store s n room k v stands fits =
    let o = object_at n s in
    let wide = with_capacity room o in
    let long = with_slots (o.slots ++ Nil ∷ Nil ∷ []) wide in
    let keyed = slot_written (length o.slots) k long in
    let e : with_length n (length o.slots + 2) (with_room n room s) ≡ object_set n long s =
    ap (λ (t : Store). with_length n (length o.slots + 2) t) (wide_store s n room (omega arith))
    ∙ changed_again n wide s (resized (length o.slots + 2)) stands
    ∙ ap (λ (x : Object). object_set n x s) (longer wide (length o.slots + 2) (o.slots ++ Nil ∷ Nil ∷ []) fits (nils_more o.slots)) in
    let f : with_slot n (length o.slots) k (with_length n (length o.slots + 2) (with_room n room s)) ≡ object_set n keyed s =
    ap (λ (t : Store). with_slot n (length o.slots) k t) e ∙ changed_again n long s (slot_written (length o.slots) k) stands in
    ap (λ (t : Store). with_slot n (length o.slots + 1) v t) f
    ∙ changed_again n keyed s (slot_written (length o.slots + 1) v) stands
    ∙ ap (λ (ys : List Value). object_set n (put_room o ys room) s) (set_two o.slots k v)

-- ---- the memory

abbrev chosen : Bool → ℕ → ℕ → Room
chosen b room more = if b then record { elements = room; cells = 0 } else record { elements = more; cells = more }

one_fits : (b : Bool) (size room : ℕ) → nat_lt size room ≡ b → size ≤ room → size + 1 ≤ (chosen b room (max 4 (2 * room))).elements
one_fits true size room e h = let low : size < room = ltb-true size room e in omega arith
one_fits false size room e h = omega arith

pub one_room-fits : (s : Store) (n : ℕ) → IsSingle s n → length (object_at n s).slots + 1 ≤ (one_room s n).elements
unfolding one_room
one_room-fits s n h = let o = object_at n s in one_fits (nat_lt (length o.slots) o.capacity) (length o.slots) o.capacity refl h.roomy.room

two_fits : (b : Bool) (size room h c : ℕ) → nat_lt size room ≡ b → size ≤ room → size ≡ 2 * h → room ≡ 2 * c → size + 2 ≤ (chosen b room (2 * max 4 room)).elements
two_fits true size room h c e l f g = let low : size < room = ltb-true size room e in omega arith
two_fits false size room h c e l f g = omega arith

pub pair_room-fits : (s : Store) (n : ℕ) → IsPaired s n → length (object_at n s).slots + 2 ≤ (pair_room s n).elements
unfolding pair_room
pair_room-fits s n h =
    let o = object_at n s in
    two_fits (nat_lt (length o.slots) o.capacity) (length o.slots) o.capacity (length o.slots / 2) (o.capacity / 2) refl h.roomy.room h.slots_even h.room_even

-- a charge that was paid for one store and made another
pub paid_memory : (m m1 m2 : Memory) (cells : ℕ) (s t : Store) (f : Store → Store) → m1 ≡ charged cells s m → m.used + cells ≤ m.limit → m2 ≡ with_store (f m1.store) m1 → f s ≡ t → m2 ≡ charged cells t m
paid_memory m m1 m2 cells s t f e paid e2 e3 =
    let b : nat_le (m.used + cells) m.limit ≡ true = le-leb (m.used + cells) m.limit paid in
    let r : Memory = record { store = s; used = m.used + cells; limit = m.limit } in
    let e1 : m1 ≡ r = e ∙ (rw b refl) in
    (rw e1 at e2) ∙ ap (λ (x : Store). with_store x r) e3 ∙ (rw b refl)

pub stopped_memory : (stop : HeapStop) (m m' : Memory) (cells : ℕ) (s' s : Store) → m' ≡ if_out {A = Unit {0}} (Err stop) m (charged cells s' m) → Err stop ≡ if_out {A = Unit {0}} (Err stop) (Err stop) (room_answer cells m) → m' ≡ if_out {A = Unit {0}} (Err stop) m (charged cells s m)
stopped_memory (Limit u c) m m' cells s' s e a =
    let b = nat_le (m.used + cells) m.limit in
    (e ∙ stop_limit b u c tt cells m (record { store = s'; used = m.used + cells; limit = m.limit }) a)
    ∙ sym (stop_limit b u c tt cells m (record { store = s; used = m.used + cells; limit = m.limit }) a)
stopped_memory OutOfMemory m m' cells s' s e a = e
