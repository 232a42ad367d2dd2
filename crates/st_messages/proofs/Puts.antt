-- Bytes that are written into an object one after another.
use Rattle.std.proofs.Common.{◌≡◌, ◌≢◌, ℕ, suc, ◌+◌, ◌<◌, ◌≤◌, Bool, true, false, [], ◌∷◌, ◌++◌, length, get_or, drop, replicate, nat_eq, refl, ap, sym, ◌∙◌, arith, add-one}
use Rattle.std.proofs.lemmas.Bool.{ne_eqb}
use Rattle.std.proofs.lemmas.List.{append_assoc, append-nil, drop_all, drop_more, get_or-set_other, length-append, set_at}
use Rattle.object_heap.specs.Store.{Store, Object, no_object, object_at, object_added, with_byte, byte_written}
use Rattle.object_heap.specs.Charges.{Memory, with_store}
use Rattle.st_code.specs.Texts.{Text, quotes_doubled}
use Rattle.st_collections.specs.Actions.{new_object}
use Rattle.st_collections.proofs.Objects.{last_object, last_set}
use Rattle.st_messages.specs.Pieces.{bytes_put}

-- the memory after bytes were written
abbrev pub put : (number at : ℕ) → Text → Memory → Memory
put number at t m = with_store (bytes_put number at t m.store) m

pub put_one : (number at b : ℕ) (t : Text) (m : Memory) → put number at (b ∷ t) m ≡ put number (suc at) t (with_store (with_byte number at b m.store) m)
unfolding bytes_put
put_one number at b t m = refl

pub put_none : (number at : ℕ) (m : Memory) → put number at [] m ≡ m
unfolding bytes_put
put_none number at m = refl

-- texts are written one behind the other
pub put_both : (number at : ℕ) (t u : Text) (m : Memory) → put number at (t ++ u) m ≡ put number (at + length t) u (put number at t m)
unfolding bytes_put
put_both number at [] u m = let e : at + 0 ≡ at = omega arith in rw e refl
put_both number at (b ∷ t) u m =
    let e : at + suc (length t) ≡ suc at + length t = omega arith in
    rw e (put_both number (suc at) t u (with_store (with_byte number at b m.store) m))

-- one byte more of a text
pub put_more : (bytes : Text) (number at place : ℕ) (m m' : Memory) → place < length bytes → m' ≡ with_store (with_byte number (at + place) (get_or bytes place 0) m.store) m
    → put number (at + (place + 1)) (drop (place + 1) bytes) m' ≡ put number (at + place) (drop place bytes) m
put_more bytes number at place m m' h e =
    let next : at + (place + 1) ≡ suc (at + place) = omega arith in
    rw (e, next, drop_more bytes place 0 h) (sym (put_one number (at + place) (get_or bytes place 0) (drop (place + 1) bytes) m))

pub put_all : (bytes : Text) (number at place : ℕ) (m : Memory) → length bytes ≤ place → put number at (drop place bytes) m ≡ m
put_all bytes number at place m h = rw (drop_all place bytes h) (put_none number at m)

-- another object stays
pub other_stays : (from number k b : ℕ) (s : Store) → from ≢ number → object_at from (with_byte number k b s) ≡ object_at from s
other_stays from number k b s h = get_or-set_other s.objects number from (byte_written k b (object_at number s)) no_object h

pub other_stays-put : (from number at : ℕ) (t : Text) (s : Store) → from ≢ number → object_at from (bytes_put number at t s) ≡ object_at from s
unfolding bytes_put
other_stays-put from number at [] s h = refl
other_stays-put from number at (b ∷ t) s h = other_stays-put from number (suc at) t (with_byte number at b s) h ∙ other_stays from number at b s h

-- ---- quotes doubled

doubled_step : (q : Bool) (b : ℕ) (t : Text) → (elim q [ true ↦ 39 ∷ 39 ∷ quotes_doubled t | false ↦ b ∷ quotes_doubled t ]) ≡ (elim q [ true ↦ 39 ∷ 39 ∷ [] | false ↦ b ∷ [] ]) ++ quotes_doubled t
doubled_step true b t = refl
doubled_step false b t = refl

pub doubled_more : (b : ℕ) (t : Text) → quotes_doubled (b ∷ t) ≡ quotes_doubled (b ∷ []) ++ quotes_doubled t
unfolding quotes_doubled
doubled_more b t = doubled_step (nat_eq b 39) b t

pub doubled_length : (bytes : Text) (i : ℕ) → i < length bytes → length (quotes_doubled (drop i bytes)) ≡ length (quotes_doubled (get_or bytes i 0 ∷ [])) + length (quotes_doubled (drop (i + 1) bytes))
doubled_length bytes i h =
    ap (λ (t : Text). length (quotes_doubled t)) (drop_more bytes i 0 h)
    ∙ (ap (λ (t : Text). length t) (doubled_more (get_or bytes i 0) (drop (i + 1) bytes)) ∙ length-append (quotes_doubled (get_or bytes i 0 ∷ [])) (quotes_doubled (drop (i + 1) bytes)))

pub doubled_put : (bytes : Text) (number at at' i : ℕ) (m m' : Memory) → i < length bytes → m' ≡ put number at (quotes_doubled (get_or bytes i 0 ∷ [])) m → at' ≡ at + length (quotes_doubled (get_or bytes i 0 ∷ []))
    → put number at' (quotes_doubled (drop (i + 1) bytes)) m' ≡ put number at (quotes_doubled (drop i bytes)) m
doubled_put bytes number at at' i m m' h e a =
    rw (e, a)
    (sym (ap (λ (t : Text). put number at (quotes_doubled t) m) (drop_more bytes i 0 h)
    ∙ (ap (λ (t : Text). put number at t m) (doubled_more (get_or bytes i 0) (drop (i + 1) bytes))
    ∙ put_both number at (quotes_doubled (get_or bytes i 0 ∷ [])) (quotes_doubled (drop (i + 1) bytes)) m)))

pub doubled_none : (bytes : Text) (i : ℕ) → length bytes ≤ i → quotes_doubled (drop i bytes) ≡ []
unfolding quotes_doubled
doubled_none bytes i h = rw (drop_all i bytes h) refl

pub put_quote : (number at b : ℕ) (m m1 m2 : Memory) → b ≡ 39 → m1 ≡ with_store (with_byte number at b m.store) m → m2 ≡ with_store (with_byte number (at + 1) b m1.store) m1 → m2 ≡ put number at (quotes_doubled (b ∷ [])) m
unfolding quotes_doubled bytes_put
put_quote number at b m m1 m2 q e e2 = rw (e2, e, q, add-one at) refl

other_byte : (t : Bool) (b : ℕ) → t ≡ false → (elim t [ true ↦ 39 ∷ 39 ∷ [] | false ↦ b ∷ [] ]) ≡ b ∷ []
other_byte true b h = cc
other_byte false b h = refl

pub single : (b : ℕ) → b ≢ 39 → quotes_doubled (b ∷ []) ≡ b ∷ []
unfolding quotes_doubled
single b h = other_byte (nat_eq b 39) b (ne_eqb b 39 h)

pub put_other : (number at b : ℕ) (m m1 : Memory) → b ≢ 39 → m1 ≡ with_store (with_byte number at b m.store) m → m1 ≡ put number at (quotes_doubled (b ∷ [])) m
unfolding bytes_put
put_other number at b m m1 h e = rw (single b h) e

-- ---- the object added last

byte_last : (o : Object) (k b : ℕ) (s : Store) → with_byte (length s.objects) k b (object_added o s) ≡ object_added (byte_written k b o) s
byte_last o k b s = rw (last_object o s) (last_set o (byte_written k b o) s)

pub put_last : (t : Text) (done : Text) (left class : ℕ) (s : Store)
    → bytes_put (length s.objects) (length done) t (object_added (new_object class [] (done ++ replicate (length t + left) 0)) s) ≡ object_added (new_object class [] (done ++ t ++ replicate left 0)) s
unfolding bytes_put
put_last [] done left class s = let e : 0 + left ≡ left = omega arith in rw (e, append-nil done) refl
put_last (b ∷ t) done left class s =
    let more : suc (length t) + left ≡ suc (length t + left) = omega arith in
    let zeros : Text = replicate (length t + left) 0 in
    let behind : length (done ++ b ∷ []) ≡ suc (length done) = omega (arith, length-append done (b ∷ [])) in
    let first : with_byte (length s.objects) (length done) b (object_added (new_object class [] (done ++ replicate (suc (length t) + left) 0)) s) ≡ object_added (new_object class [] ((done ++ b ∷ []) ++ zeros)) s
    = rw more (byte_last (new_object class [] (done ++ 0 ∷ zeros)) (length done) b s ∙ ap (λ (bytes : Text). object_added (new_object class [] bytes) s) (set_at done 0 zeros b (length done) refl ∙ sym (append_assoc done (b ∷ []) zeros))) in
    ap (λ (u : Store). bytes_put (length s.objects) (suc (length done)) t u) first ∙ ((rw behind at (put_last t (done ++ b ∷ []) left class s)) ∙ ap (λ (x : Text). object_added (new_object class [] (x ++ replicate left 0)) s) (append_assoc done (b ∷ []) t))
