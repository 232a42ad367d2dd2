-- The places stay laid where one of them changes.
use Rattle.std.proofs.Common.{◌≡◌, ◌≢◌, ◌⊎◌, inl, inr, ℕ, ◌+◌, ◌<◌, ◌≤◌, List, length, set, get_or, refl, sym, ◌∙◌, arith}
use Rattle.std.proofs.lemmas.Bool.{cases_eq}
use Rattle.std.proofs.lemmas.List.{get_or-set_same, get_or-set_other, length-set, get_or_default}
use Rattle.cell_heap.specs.declared.place.Place.{Place}
use Rattle.cell_heap.specs.declared.place.ScopePlace.{ScopePlace}
use Rattle.cell_heap.specs.Flat.{Apart, Laid, HasRoom, no_place, place_at, scope_place_at}

apart_turned : (a b c d : ℕ) → Apart a b c d → Apart c d a b
apart_turned a b c d (inl l) = inr l
apart_turned a b c d (inr l) = inl l

-- what holds of each place where one changed
module _ (places : List Place) (i : ℕ) (q : Place) (li : i < length places) where
  one_at : (P : Place → Type 0) (j : ℕ) → (j ≡ i) ⊎ (j ≡ i → ⊥) → P q → (j ≢ i → P (place_at places j)) → P (place_at (set places i q) j)
  one_at P j (inl e) here other = rw e (rw (get_or-set_same places i q no_place li) here)
  one_at P j (inr n) here other = rw (get_or-set_other places i j q no_place n) (other n)

  each : (P : Place → Type 0) → P q → ((j : ℕ) → j < length places → P (place_at places j)) → (j : ℕ) → j < length (set places i q) → P (place_at (set places i q) j)
  each P here all j lj = one_at P j (cases_eq j i) here (λ n. all j (omega (arith, lj, length-set places i q)))

  two_at : (Q : Place → Place → Type 0) (j k : ℕ) → (j ≡ i) ⊎ (j ≡ i → ⊥) → (k ≡ i) ⊎ (k ≡ i → ⊥) → j ≢ k → (k ≢ i → Q q (place_at places k)) → (j ≢ i → Q (place_at places j) q) → Q (place_at places j) (place_at places k) → Q (place_at (set places i q) j) (place_at (set places i q) k)
  two_at Q j k (inl e) (inl f) n first second old = absurd (n (e ∙ sym f))
  two_at Q j k (inl e) (inr f) n first second old = rw (e, get_or-set_same places i q no_place li, get_or-set_other places i k q no_place f) (first f)
  two_at Q j k (inr e) (inl f) n first second old = rw (f, get_or-set_same places i q no_place li, get_or-set_other places i j q no_place e) (second e)
  two_at Q j k (inr e) (inr f) n first second old = rw (get_or-set_other places i j q no_place e, get_or-set_other places i k q no_place f) old

  pair : (Q : Place → Place → Type 0) → ((k : ℕ) → k < length places → k ≢ i → Q q (place_at places k)) → ((j : ℕ) → j < length places → j ≢ i → Q (place_at places j) q) → ((j k : ℕ) → j < length places → k < length places → j ≢ k → Q (place_at places j) (place_at places k)) → (j k : ℕ) → j < length (set places i q) → k < length (set places i q) → j ≢ k → Q (place_at (set places i q) j) (place_at (set places i q) k)
  pair Q first second old j k lj lk n =
      let lj' : j < length places = omega (arith, lj, length-set places i q) in
      let lk' : k < length places = omega (arith, lk, length-set places i q) in
      two_at Q j k (cases_eq j i) (cases_eq k i) n (first k lk') (second j lj') (old j k lj' lk' n)

pub laid_set : (values values' bytes : ℕ) (places : List Place) (scopes : List ScopePlace) (i : ℕ) (q : Place) → Laid values bytes places scopes → i < length places → values ≤ values' → q.slots ≤ q.room → q.first_slot + q.room ≤ values' → q.first_byte ≡ (place_at places i).first_byte → q.bytes ≡ (place_at places i).bytes →
    ((j : ℕ) → j < length places → j ≢ i → Apart q.first_slot q.room (place_at places j).first_slot (place_at places j).room) →
    ((j : ℕ) → j < length scopes → Apart q.first_slot q.room (scope_place_at scopes j).first (scope_place_at scopes j).variables) →
    Laid values' bytes (set places i q) scopes
laid_set values values' bytes places scopes i q h li more full ends first_byte size beside across = record {
  filled = each places i q li (λ (p : Place). p.slots ≤ p.room) full h.filled;
  inside = each places i q li (λ (p : Place). p.first_slot + p.room ≤ values') ends (λ j lj. omega (arith, h.inside j lj, more));
  bytes_inside = each places i q li (λ (p : Place). p.first_byte + p.bytes ≤ bytes) (omega (arith, first_byte, size, h.bytes_inside i li)) h.bytes_inside;
  scope_inside = λ j lj. omega (arith, h.scope_inside j lj, more);
  apart = pair places i q li (λ (p r : Place). Apart p.first_slot p.room r.first_slot r.room) beside (λ j lj n. apart_turned q.first_slot q.room (place_at places j).first_slot (place_at places j).room (beside j lj n)) h.apart;
  bytes_apart = pair places i q li (λ (p r : Place). Apart p.first_byte p.bytes r.first_byte r.bytes) (λ k lk n. rw (first_byte, size) (h.bytes_apart i k li lk (λ e. n (sym e)))) (λ j lj n. rw (first_byte, size) (h.bytes_apart j i lj li n)) h.bytes_apart;
  scopes_apart = h.scopes_apart;
  across = λ j k lj lk. each places i q li (λ (p : Place). Apart p.first_slot p.room (scope_place_at scopes k).first (scope_place_at scopes k).variables) (across k lk) (λ m lm. h.across m k lm lk) j lj;
}

-- a new run behind all cells
pub laid_grown : (values values' bytes : ℕ) (places : List Place) (scopes : List ScopePlace) (i capacity n : ℕ) (p : Place) → Laid values bytes places scopes → i < length places → p ≡ get_or places i p → p.slots ≤ capacity → n ≡ values → values' ≡ values + capacity →
    Laid values' bytes (set places i (record { class = p.class; first_slot = n; slots = p.slots; room = capacity; first_byte = p.first_byte; bytes = p.bytes; read_only = p.read_only; closure = p.closure })) scopes
laid_grown values values' bytes places scopes i capacity n p h li is fits en ev =
    let same : p ≡ place_at places i = is ∙ get_or_default places i p no_place li in
    let first_byte : p.first_byte ≡ (place_at places i).first_byte = rw same refl in
    let size : p.bytes ≡ (place_at places i).bytes = rw same refl in
    laid_set values values' bytes places scopes i (record { class = p.class; first_slot = n; slots = p.slots; room = capacity; first_byte = p.first_byte; bytes = p.bytes; read_only = p.read_only; closure = p.closure }) h li (omega arith) fits (omega arith) first_byte size
    (λ j lj k. inr (omega (arith, h.inside j lj, en))) (λ j lj. inr (omega (arith, h.scope_inside j lj, en)))

-- another number of slots in the same run
pub laid_resized : (values values' bytes : ℕ) (places : List Place) (scopes : List ScopePlace) (i size : ℕ) (p : Place) → Laid values bytes places scopes → i < length places → p ≡ get_or places i p → size ≤ p.room → values' ≡ values →
    Laid values' bytes (set places i (record { class = p.class; first_slot = p.first_slot; slots = size; room = p.room; first_byte = p.first_byte; bytes = p.bytes; read_only = p.read_only; closure = p.closure })) scopes
laid_resized values values' bytes places scopes i size p h li is fits ev =
    let same : p ≡ place_at places i = is ∙ get_or_default places i p no_place li in
    let first_byte : p.first_byte ≡ (place_at places i).first_byte = rw same refl in
    let bytes' : p.bytes ≡ (place_at places i).bytes = rw same refl in
    let ends : p.first_slot + p.room ≤ values' = rw (same, ev) (h.inside i li) in
    laid_set values values' bytes places scopes i (record { class = p.class; first_slot = p.first_slot; slots = size; room = p.room; first_byte = p.first_byte; bytes = p.bytes; read_only = p.read_only; closure = p.closure }) h li (omega arith) fits ends first_byte bytes'
    (λ j lj n. rw same (h.apart i j li lj (λ e. n (sym e)))) (λ j lj. rw same (h.across i j li lj))

-- the lists keep their room after a growth that is charged
pub has_room_grown : (values values' bytes places places' closures scopes value_room value_room' byte_room place_room closure_room scope_room used used' limit literals capacity charge : ℕ) → HasRoom values bytes places closures scopes value_room byte_room place_room closure_room scope_room used limit literals →
    capacity ≤ charge → values' ≡ values + capacity → places' ≡ places → value_room ≤ value_room' → used' ≡ used + charge → used + charge ≤ limit →
    HasRoom values' bytes places' closures scopes value_room' byte_room place_room closure_room scope_room used' limit literals
has_room_grown values values' bytes places places' closures scopes value_room value_room' byte_room place_room closure_room scope_room used used' limit literals capacity charge h fits ev ep room eu within = record {
  for_values = omega (arith, h.for_values);
  for_bytes = omega (arith, h.for_bytes);
  for_places = omega (arith, h.for_places);
  for_closures = omega (arith, h.for_closures);
  for_scopes = omega (arith, h.for_scopes);
  few_places = omega (arith, h.few_places);
  few_closures = omega (arith, h.few_closures);
  few_scopes = omega (arith, h.few_scopes);
  within = omega arith;
  small = h.small;
}

pub has_room_same : (values values' bytes places places' closures scopes value_room value_room' byte_room place_room closure_room scope_room used limit literals : ℕ) → HasRoom values bytes places closures scopes value_room byte_room place_room closure_room scope_room used limit literals →
    values' ≡ values → places' ≡ places → value_room ≤ value_room' →
    HasRoom values' bytes places' closures scopes value_room' byte_room place_room closure_room scope_room used limit literals
has_room_same values values' bytes places places' closures scopes value_room value_room' byte_room place_room closure_room scope_room used limit literals h ev ep room = record {
  for_values = omega (arith, h.for_values);
  for_bytes = h.for_bytes;
  for_places = omega (arith, h.for_places);
  for_closures = h.for_closures;
  for_scopes = h.for_scopes;
  few_places = omega (arith, h.few_places);
  few_closures = h.few_closures;
  few_scopes = h.few_scopes;
  within = h.within;
  small = h.small;
}
