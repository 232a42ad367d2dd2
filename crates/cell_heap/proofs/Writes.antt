-- A write to a slot, a byte or a variable.
use Rattle.std.proofs.Common.{◌≡◌, ◌≢◌, ◌⊎◌, inl, inr, ℕ, ◌+◌, ◌<◌, ◌≤◌, List, length, map, set, get_or, refl, sym, ◌∙◌, arith}
use Rattle.std.proofs.lemmas.List.{set-get_or, get_or_default, set_past}
use Rattle.object_heap.specs.declared.value.Value.{Value}
use Rattle.object_heap.specs.Store.{Object, Scope, no_object, no_scope, slot_written, byte_written, variable_written}
use Rattle.cell_heap.specs.declared.place.Place.{Place}
use Rattle.cell_heap.specs.declared.place.ScopePlace.{ScopePlace}
use Rattle.cell_heap.specs.Flat.{object_of, scope_of, Apart, Laid, no_place, no_scope_place, place_at, scope_place_at}
use Rattle.cell_heap.proofs.Windows.{same_map, get_or-map, outside_window, inside_window}
use Rattle.cell_heap.proofs.Changed.{outside, objects_changed, scopes_changed}

module _ (values : List Value) (bytes : List ℕ) (places : List Place) (scopes : List ScopePlace) (h : Laid (length values) (length bytes) places scopes) where
  -- a slot
  put_at : (i k : ℕ) (v : Value) → i < length places → k < (place_at places i).slots → map (object_of (set values ((place_at places i).first_slot + k) v) bytes) places ≡ set (map (object_of values bytes) places) i (slot_written k v (get_or (map (object_of values bytes) places) i no_object))
  put_at i k v li lk =
      let others : (j : ℕ) → j < length places → j ≢ i → object_of (set values ((place_at places i).first_slot + k) v) bytes (place_at places j) ≡ object_of values bytes (place_at places j) = λ j lj n.
      let out : ((place_at places i).first_slot + k < (place_at places j).first_slot) ⊎ ((place_at places j).first_slot + (place_at places j).room ≤ (place_at places i).first_slot + k) = outside (place_at places i).first_slot (place_at places i).room (place_at places j).first_slot (place_at places j).room ((place_at places i).first_slot + k) (h.apart i j li lj (λ e. n (sym e))) (omega arith) (omega (arith, h.filled i li)) in
      rw (outside_window values ((place_at places i).first_slot + k) (place_at places j).first_slot (place_at places j).slots v (shorter (place_at places j).first_slot (place_at places j).room (place_at places j).slots ((place_at places i).first_slot + k) (h.filled j lj) out)) refl in
      let all : map (object_of (set values ((place_at places i).first_slot + k) v) bytes) (set places i (place_at places i)) ≡ set (map (object_of values bytes) places) i (slot_written k v (object_of values bytes (place_at places i))) =
      objects_changed values (set values ((place_at places i).first_slot + k) v) bytes bytes places i (place_at places i) (slot_written k v (object_of values bytes (place_at places i))) li others (rw (inside_window values k (place_at places i).first_slot (place_at places i).slots v lk) refl) in
      rw (get_or-map (object_of values bytes) places i no_place no_object li) (rw (set-get_or places i no_place) at all)
    where
      shorter : (first room slots a : ℕ) → slots ≤ room → (a < first) ⊎ (first + room ≤ a) → (a < first) ⊎ (first + slots ≤ a)
      shorter first room slots a l (inl o) = inl o
      shorter first room slots a l (inr o) = inr (omega arith)

  pub objects_put : (i k : ℕ) (v : Value) (p : Place) → i < length places → p ≡ get_or places i p → k < p.slots → map (object_of (set values (p.first_slot + k) v) bytes) places ≡ set (map (object_of values bytes) places) i (slot_written k v (get_or (map (object_of values bytes) places) i no_object))
  objects_put i k v p li is lk =
      let same : p ≡ place_at places i = is ∙ get_or_default places i p no_place li in
      let lk' : k < (place_at places i).slots = rw same at lk in
      rw same (put_at i k v li lk')

  scopes_put_at : (i k : ℕ) (v : Value) → i < length places → k < (place_at places i).slots → map (scope_of (set values ((place_at places i).first_slot + k) v)) scopes ≡ map (scope_of values) scopes
  scopes_put_at i k v li lk =
      same_map (scope_of (set values ((place_at places i).first_slot + k) v)) (scope_of values) scopes no_scope_place (λ j lj.
      rw (outside_window values ((place_at places i).first_slot + k) (scope_place_at scopes j).first (scope_place_at scopes j).variables v (outside (place_at places i).first_slot (place_at places i).room (scope_place_at scopes j).first (scope_place_at scopes j).variables ((place_at places i).first_slot + k) (h.across i j li lj) (omega arith) (omega (arith, h.filled i li)))) refl)

  pub scopes_put : (i k : ℕ) (v : Value) (p : Place) → i < length places → p ≡ get_or places i p → k < p.slots → map (scope_of (set values (p.first_slot + k) v)) scopes ≡ map (scope_of values) scopes
  scopes_put i k v p li is lk =
      let same : p ≡ place_at places i = is ∙ get_or_default places i p no_place li in
      let lk' : k < (place_at places i).slots = rw same at lk in
      rw same (scopes_put_at i k v li lk')

  -- a byte
  put_byte_at : (i k b : ℕ) → i < length places → k < (place_at places i).bytes → map (object_of values (set bytes ((place_at places i).first_byte + k) b)) places ≡ set (map (object_of values bytes) places) i (byte_written k b (get_or (map (object_of values bytes) places) i no_object))
  put_byte_at i k b li lk =
      let others : (j : ℕ) → j < length places → j ≢ i → object_of values (set bytes ((place_at places i).first_byte + k) b) (place_at places j) ≡ object_of values bytes (place_at places j) = λ j lj n.
      rw (outside_window bytes ((place_at places i).first_byte + k) (place_at places j).first_byte (place_at places j).bytes b (outside (place_at places i).first_byte (place_at places i).bytes (place_at places j).first_byte (place_at places j).bytes ((place_at places i).first_byte + k) (h.bytes_apart i j li lj (λ e. n (sym e))) (omega arith) (omega (arith, lk)))) refl in
      let all : map (object_of values (set bytes ((place_at places i).first_byte + k) b)) (set places i (place_at places i)) ≡ set (map (object_of values bytes) places) i (byte_written k b (object_of values bytes (place_at places i))) =
      objects_changed values values bytes (set bytes ((place_at places i).first_byte + k) b) places i (place_at places i) (byte_written k b (object_of values bytes (place_at places i))) li others (rw (inside_window bytes k (place_at places i).first_byte (place_at places i).bytes b lk) refl) in
      rw (get_or-map (object_of values bytes) places i no_place no_object li) (rw (set-get_or places i no_place) at all)

  pub objects_put_byte : (i k b : ℕ) (p : Place) → i < length places → p ≡ get_or places i p → k < p.bytes → map (object_of values (set bytes (p.first_byte + k) b)) places ≡ set (map (object_of values bytes) places) i (byte_written k b (get_or (map (object_of values bytes) places) i no_object))
  objects_put_byte i k b p li is lk =
      let same : p ≡ place_at places i = is ∙ get_or_default places i p no_place li in
      let lk' : k < (place_at places i).bytes = rw same at lk in
      rw same (put_byte_at i k b li lk')

  -- a variable
  put_variable_at : (i k : ℕ) (v : Value) → i < length scopes → k < (scope_place_at scopes i).variables → map (scope_of (set values ((scope_place_at scopes i).first + k) v)) scopes ≡ set (map (scope_of values) scopes) i (variable_written k v (get_or (map (scope_of values) scopes) i no_scope))
  put_variable_at i k v li lk =
      let others : (j : ℕ) → j < length scopes → j ≢ i → scope_of (set values ((scope_place_at scopes i).first + k) v) (scope_place_at scopes j) ≡ scope_of values (scope_place_at scopes j) = λ j lj n.
      rw (outside_window values ((scope_place_at scopes i).first + k) (scope_place_at scopes j).first (scope_place_at scopes j).variables v (outside (scope_place_at scopes i).first (scope_place_at scopes i).variables (scope_place_at scopes j).first (scope_place_at scopes j).variables ((scope_place_at scopes i).first + k) (h.scopes_apart i j li lj (λ e. n (sym e))) (omega arith) (omega (arith, lk)))) refl in
      rw (get_or-map (scope_of values) scopes i no_scope_place no_scope li)
      (scopes_changed values (set values ((scope_place_at scopes i).first + k) v) scopes i (variable_written k v (scope_of values (scope_place_at scopes i))) li others (rw (inside_window values k (scope_place_at scopes i).first (scope_place_at scopes i).variables v lk) refl))

  pub scopes_put_variable : (i k : ℕ) (v : Value) (p : ScopePlace) → i < length scopes → p ≡ get_or scopes i p → k < p.variables → map (scope_of (set values (p.first + k) v)) scopes ≡ set (map (scope_of values) scopes) i (variable_written k v (get_or (map (scope_of values) scopes) i no_scope))
  scopes_put_variable i k v p li is lk =
      let same : p ≡ scope_place_at scopes i = is ∙ get_or_default scopes i p no_scope_place li in
      let lk' : k < (scope_place_at scopes i).variables = rw same at lk in
      rw same (put_variable_at i k v li lk')

  put_variable_beside : (i k : ℕ) (v : Value) → i < length scopes → k < (scope_place_at scopes i).variables → map (object_of (set values ((scope_place_at scopes i).first + k) v) bytes) places ≡ map (object_of values bytes) places
  put_variable_beside i k v li lk =
      same_map (object_of (set values ((scope_place_at scopes i).first + k) v) bytes) (object_of values bytes) places no_place (λ j lj.
      rw (outside_window values ((scope_place_at scopes i).first + k) (place_at places j).first_slot (place_at places j).slots v (beyond (place_at places j).first_slot (place_at places j).room (place_at places j).slots (scope_place_at scopes i).first (scope_place_at scopes i).variables k (h.filled j lj) lk (h.across j i lj li))) refl)
    where
      beyond : (first room slots other others k : ℕ) → slots ≤ room → k < others → Apart first room other others → (other + k < first) ⊎ (first + slots ≤ other + k)
      beyond first room slots other others k l lk (inl o) = inr (omega arith)
      beyond first room slots other others k l lk (inr o) = inl (omega arith)

  pub objects_put_variable : (i k : ℕ) (v : Value) (p : ScopePlace) → i < length scopes → p ≡ get_or scopes i p → k < p.variables → map (object_of (set values (p.first + k) v) bytes) places ≡ map (object_of values bytes) places
  objects_put_variable i k v p li is lk =
      let same : p ≡ scope_place_at scopes i = is ∙ get_or_default scopes i p no_scope_place li in
      let lk' : k < (scope_place_at scopes i).variables = rw same at lk in
      rw same (put_variable_beside i k v li lk')

-- ---- writes to what isn't there

pub no_slot : (i k : ℕ) (v : Value) (objects : List Object) → length (get_or objects i no_object).slots ≤ k → objects ≡ set objects i (slot_written k v (get_or objects i no_object))
no_slot i k v objects l =
    let e : set (get_or objects i no_object).slots k v ≡ (get_or objects i no_object).slots = set_past (get_or objects i no_object).slots k v l in
    rw e (sym (set-get_or objects i no_object))

pub no_byte : (i k b : ℕ) (objects : List Object) → length (get_or objects i no_object).bytes ≤ k → objects ≡ set objects i (byte_written k b (get_or objects i no_object))
no_byte i k b objects l =
    let e : set (get_or objects i no_object).bytes k b ≡ (get_or objects i no_object).bytes = set_past (get_or objects i no_object).bytes k b l in
    rw e (sym (set-get_or objects i no_object))

pub no_variable : (i k : ℕ) (v : Value) (scopes : List Scope) → length (get_or scopes i no_scope).variables ≤ k → scopes ≡ set scopes i (variable_written k v (get_or scopes i no_scope))
no_variable i k v scopes l =
    let e : set (get_or scopes i no_scope).variables k v ≡ (get_or scopes i no_scope).variables = set_past (get_or scopes i no_scope).variables k v l in
    rw e (sym (set-get_or scopes i no_scope))
