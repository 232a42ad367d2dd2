-- What stays where something is taken out of a collection.
use Rattle.std.proofs.Common.{◌≡◌, ℕ, suc, ◌≤◌, List, length, inl, inr, ap, arith}
use Rattle.std.specs.List.{remove}
use Rattle.std.proofs.lemmas.List.{append-nil, take_all, drop_all, length-set}
use Rattle.std.proofs.lemmas.List.Edits.{length-remove}
use Rattle.std.proofs.lemmas.Bool.{cases_lt}
use Rattle.object_heap.specs.declared.value.Value.{Value}
use Rattle.object_heap.specs.Store.{Store, Object, object_at, object_set}
use Rattle.st_collections.specs.SequenceRows.{without_element, with_room as put_room}
use Rattle.st_collections.proofs.Gaps.{object_at_set, object_set_same}
use Rattle.st_loops.specs.Growth.{IsRoomy}
use Rattle.st_loops.specs.Requests.{HasRoom}
use Rattle.st_loops.specs.Searches.{without}

remove_past : (xs : List Value) (i : ℕ) → length xs ≤ i → remove xs i ≡ xs
remove_past xs i h = rw (take_all i xs h, drop_all (suc i) xs (omega arith)) (append-nil xs)

pub without_past : (s : Store) (n i : ℕ) → length (object_at n s).slots ≤ i → without_element s n i ≡ s
unfolding without_element
without_past s n i h = rw (remove_past (object_at n s).slots i h) (object_set_same n s)

shorter : (xs : List Value) (i : ℕ) → length (remove xs i) ≤ length xs
shorter xs i = elim (cases_lt i (length xs)) [
  | inl low ↦ omega (arith, length-remove xs i low)
  | inr past ↦ let e : length (remove xs i) ≡ length xs = ap length (remove_past xs i past) in omega arith
]

roomy_set : (s : Store) (n : ℕ) (o : Object) → IsRoomy s n → length o.slots ≤ o.capacity → IsRoomy (object_set n o s) n
roomy_set s n o h fits =
    let size : length (object_set n o s).objects ≡ length s.objects = length-set s.objects n o in
    let now : object_at n (object_set n o s) ≡ o = object_at_set n o s h.stands in
    record { stands = omega (arith, h.stands); room = rw now fits }

pub roomy_without : (s : Store) (n i : ℕ) → IsRoomy s n → IsRoomy (without_element s n i) n
unfolding without_element
roomy_without s n i h =
    let o = object_at n s in
    roomy_set s n (put_room o (remove o.slots i) o.capacity) h (omega (arith, shorter o.slots i, h.room))

pub room_without : (s : Store) (v : Value) (i : ℕ) → HasRoom s v → HasRoom (without s v i) v
room_without s (Value.Object n) i h = roomy_without s n i h
room_without s Value.Nil i h = tt
room_without s Value.True i h = tt
room_without s Value.False i h = tt
room_without s (Value.Integer n) i h = tt
room_without s (Value.Character n) i h = tt
room_without s (Value.Symbol n) i h = tt
room_without s (Value.Class n) i h = tt
room_without s (Value.Meta n) i h = tt
room_without s Value.Transcript i h = tt
