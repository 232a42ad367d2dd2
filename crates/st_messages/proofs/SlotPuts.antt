-- Values that are written into the slots of an object one after another.
use Rattle.std.proofs.Common.{◌≡◌, ◌≢◌, ℕ, suc, ◌+◌, ◌<◌, ◌≤◌, List, [], ◌∷◌, ◌++◌, length, get_or, drop, replicate, refl, ap, sym, ◌∙◌, arith}
use Rattle.std.proofs.lemmas.List.{append_assoc, append-nil, drop_all, drop_more, get_or-set_other, length-append, set_at}
use Rattle.object_heap.specs.declared.value.Value.{Value}
use Rattle.object_heap.specs.declared.value.Value.TheVariants.{Nil}
use Rattle.object_heap.specs.Store.{Store, no_object, object_at, object_added, with_slot, slot_written}
use Rattle.object_heap.specs.Charges.{Memory, with_store}
use Rattle.st_collections.specs.Actions.{new_object}
use Rattle.st_collections.proofs.Objects.{slot_written_last}
use Rattle.st_messages.specs.Pieces.{slots_put}

-- the memory after values were written
abbrev pub put : (number at : ℕ) → List Value → Memory → Memory
put number at vs m = with_store (slots_put number at vs m.store) m

pub put_one : (number at : ℕ) (v : Value) (vs : List Value) (m : Memory) → put number at (v ∷ vs) m ≡ put number (suc at) vs (with_store (with_slot number at v m.store) m)
unfolding slots_put
put_one number at v vs m = refl

pub put_none : (number at : ℕ) (m : Memory) → put number at [] m ≡ m
unfolding slots_put
put_none number at m = refl

pub put_more : (values : List Value) (number at place : ℕ) (m m' : Memory) → place < length values → m' ≡ with_store (with_slot number (at + place) (get_or values place Nil) m.store) m
    → put number (at + (place + 1)) (drop (place + 1) values) m' ≡ put number (at + place) (drop place values) m
put_more values number at place m m' h e =
    let next : at + (place + 1) ≡ suc (at + place) = omega arith in
    rw (e, next, drop_more values place Nil h) (sym (put_one number (at + place) (get_or values place Nil) (drop (place + 1) values) m))

pub put_all : (values : List Value) (number at place : ℕ) (m : Memory) → length values ≤ place → put number at (drop place values) m ≡ m
put_all values number at place m h = rw (drop_all place values h) (put_none number at m)

pub other_stays : (from number k : ℕ) (v : Value) (s : Store) → from ≢ number → object_at from (with_slot number k v s) ≡ object_at from s
other_stays from number k v s h = get_or-set_other s.objects number from (slot_written k v (object_at number s)) no_object h

-- ---- the object added last

pub put_last : (vs : List Value) (done : List Value) (left class : ℕ) (s : Store)
    → slots_put (length s.objects) (length done) vs (object_added (new_object class (done ++ replicate (length vs + left) Nil) []) s) ≡ object_added (new_object class (done ++ vs ++ replicate left Nil) []) s
unfolding slots_put
put_last [] done left class s = let e : 0 + left ≡ left = omega arith in rw (e, append-nil done) refl
put_last (v ∷ vs) done left class s =
    let more : suc (length vs) + left ≡ suc (length vs + left) = omega arith in
    let nils : List Value = replicate (length vs + left) Nil in
    let behind : length (done ++ v ∷ []) ≡ suc (length done) = omega (arith, length-append done (v ∷ [])) in
    let first : with_slot (length s.objects) (length done) v (object_added (new_object class (done ++ replicate (suc (length vs) + left) Nil) []) s) ≡ object_added (new_object class ((done ++ v ∷ []) ++ nils) []) s
    = rw more (slot_written_last class (length done) v (done ++ Nil ∷ nils) s ∙ ap (λ (xs : List Value). object_added (new_object class xs []) s) (set_at done Nil nils v (length done) refl ∙ sym (append_assoc done (v ∷ []) nils))) in
    ap (λ (u : Store). slots_put (length s.objects) (suc (length done)) vs u) first ∙ ((rw behind at (put_last vs (done ++ v ∷ []) left class s)) ∙ ap (λ (x : List Value). object_added (new_object class (x ++ replicate left Nil) []) s) (append_assoc done (v ∷ []) vs))
