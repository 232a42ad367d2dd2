-- The memory after each call, as the code has it.
use Rattle.std.proofs.Common.{◌≡◌, ℕ, ◌+◌, ◌-◌, ◌<◌, ◌≤◌, nat_le, List, [], ◌∷◌, ◌++◌, length, take, drop, map, set, get_or, replicate, refl, ap, sym, ◌∙◌, Bool, true, false, cond, Option, None, Result, Ok, Err}
use Rattle.std.proofs.lemmas.List.{append-nil, append_assoc, get_or_default}
use Rattle.object_heap.specs.declared.value.Value.{Value}
use Rattle.object_heap.specs.declared.value.Value.TheVariants.{Nil}
use Rattle.object_heap.specs.declared.value.Closure.{Closure}
use Rattle.object_heap.specs.declared.heap.HeapStop.{HeapStop}
use Rattle.object_heap.specs.declared.heap.HeapStop.TheVariants.{Limit}
use Rattle.object_heap.specs.Store.{with_slot, with_byte, with_variable, with_length}
use Rattle.object_heap.specs.Charges.{object_charge, made, literal_made, scope_made, grown, with_store}
use Rattle.cell_heap.specs.declared.place.Place.{Place}
use Rattle.cell_heap.specs.declared.place.ScopePlace.{ScopePlace}
use Rattle.cell_heap.specs.Flat.{object_of, scope_of, memory_of, Laid, no_place, no_scope_place, place_at, scope_place_at}
use Rattle.cell_heap.proofs.Added.{objects_kept, objects_added, scopes_kept, scopes_added}
use Rattle.cell_heap.proofs.Grows.{objects_grown, objects_not_grown}
use Rattle.cell_heap.proofs.Lengths.{Cleared, objects_resized, scopes_resized}
use Rattle.cell_heap.proofs.Writes.{objects_put, scopes_put, objects_put_byte, scopes_put_variable, objects_put_variable}

-- a charge that was answered by the cells used after it
charge_of_branch : (b : Bool) (after charge v : ℕ) (stop : HeapStop) → cond b (Ok after) (Err stop) ≡ Ok v → (b ≡ true) × (v ≡ after)
charge_of_branch true after charge v stop e = (refl, cc)
charge_of_branch false after charge v stop e = absurd (cc)

pub charged_is : (result : Result ℕ HeapStop) (used limit charge v : ℕ) → result ≡ cond (nat_le (used + charge) limit) (Ok (used + charge)) (Err (Limit used charge)) → result ≡ Ok v → (nat_le (used + charge) limit ≡ true) × (v ≡ used + charge)
charged_is result used limit charge v is ok = charge_of_branch (nat_le (used + charge) limit) (used + charge) charge v (Limit used charge) (sym is ∙ ok)

module _ (values : List Value) (bytes : List ℕ) (places : List Place) (closures : List Closure) (scopes : List ScopePlace) (used limit : ℕ) (h : Laid (length values) (length bytes) places scopes) where
  pub view_made : (values' : List Value) (bytes' : List ℕ) (places' : List Place) (class slots size first first' charge used' : ℕ) (result : Result ℕ HeapStop) →
      charge ≡ object_charge slots size → result ≡ cond (nat_le (used + charge) limit) (Ok (used + charge)) (Err (Limit used charge)) → result ≡ Ok used' →
      values' ≡ values ++ replicate slots Nil → bytes' ≡ bytes ++ replicate size 0 → first ≡ length values → first' ≡ length bytes →
      places' ≡ places ++ record { class = class; first_slot = first; slots = slots; room = slots; first_byte = first'; bytes = size; read_only = false; closure = None } ∷ [] →
      memory_of values' bytes' places' closures scopes used' limit ≡ made class slots size (memory_of values bytes places closures scopes used limit)
  view_made values' bytes' places' class slots size first first' charge used' result ec is ok ev eb ef ef' ep =
      let fits : (nat_le (used + charge) limit ≡ true) × (used' ≡ used + charge) = charged_is result used limit charge used' is ok in
      let fits' : nat_le (used + object_charge slots size) limit ≡ true = rw ec at fits.0 in
      let after : used' ≡ used + object_charge slots size = rw ec at fits.1 in
      let o : map (object_of values' bytes') places' ≡ map (object_of values bytes) places ++ record { class = class; slots = replicate slots Nil; bytes = replicate size 0; capacity = slots; read_only = false; closure = None } ∷ [] =
      objects_added values values' bytes bytes' places places' scopes class first slots first' size false None h ev eb ef ef' ep in
      let s : map (scope_of values') scopes ≡ map (scope_of values) scopes = ap (λ (vs : List Value). map (scope_of vs) scopes) ev ∙ scopes_kept values (replicate slots Nil) (length bytes) places scopes h in
      rw (o, s, fits', after) refl

  pub view_literal : (values' : List Value) (bytes' : List ℕ) (places' : List Place) (class slots size first first' : ℕ) →
      values' ≡ values ++ replicate slots Nil → bytes' ≡ bytes ++ replicate size 0 → first ≡ length values → first' ≡ length bytes →
      places' ≡ places ++ record { class = class; first_slot = first; slots = slots; room = slots; first_byte = first'; bytes = size; read_only = true; closure = None } ∷ [] →
      memory_of values' bytes' places' closures scopes used limit ≡ literal_made class slots size (memory_of values bytes places closures scopes used limit)
  view_literal values' bytes' places' class slots size first first' ev eb ef ef' ep =
      let o : map (object_of values' bytes') places' ≡ map (object_of values bytes) places ++ record { class = class; slots = replicate slots Nil; bytes = replicate size 0; capacity = slots; read_only = true; closure = None } ∷ [] =
      objects_added values values' bytes bytes' places places' scopes class first slots first' size true None h ev eb ef ef' ep in
      let s : map (scope_of values') scopes ≡ map (scope_of values) scopes = ap (λ (vs : List Value). map (scope_of vs) scopes) ev ∙ scopes_kept values (replicate slots Nil) (length bytes) places scopes h in
      rw (o, s) refl

  pub view_scope : (values' : List Value) (scopes' : List ScopePlace) (code variables first used' : ℕ) (outer : Option ℕ) (result : Result ℕ HeapStop) →
      result ≡ cond (nat_le (used + (1 + variables)) limit) (Ok (used + (1 + variables))) (Err (Limit used (1 + variables))) → result ≡ Ok used' →
      values' ≡ values ++ replicate variables Nil → first ≡ length values →
      scopes' ≡ scopes ++ record { code = code; outer = outer; first = first; variables = variables } ∷ [] →
      memory_of values' bytes places closures scopes' used' limit ≡ scope_made code variables outer (memory_of values bytes places closures scopes used limit)
  view_scope values' scopes' code variables first used' outer result is ok ev ef ep =
      let fits : (nat_le (used + (1 + variables)) limit ≡ true) × (used' ≡ used + (1 + variables)) = charged_is result used limit (1 + variables) used' is ok in
      let s : map (scope_of values') scopes' ≡ map (scope_of values) scopes ++ record { code = code; outer = outer; variables = replicate variables Nil } ∷ [] = scopes_added values values' (length bytes) places scopes scopes' code first variables outer h ev ef ep in
      let o : map (object_of values' bytes) places ≡ map (object_of values bytes) places = kept ev in
      rw (o, s, fits.0, fits.1) refl
    where
      kept : values' ≡ values ++ replicate variables Nil → map (object_of values' bytes) places ≡ map (object_of values bytes) places
      kept e = ap (λ (vs : List Value). map (object_of vs bytes) places) e ∙ (rw (append-nil bytes) at (objects_kept values (replicate variables Nil) bytes [] places scopes h))

  -- where a place's runs end
  pub place_inside : (i : ℕ) (p : Place) → i < length places → p ≡ get_or places i p → (p.first_slot + p.room ≤ length values) × (p.slots ≤ p.room) × (p.first_byte + p.bytes ≤ length bytes)
  place_inside i p li is =
      let same : p ≡ place_at places i = is ∙ get_or_default places i p no_place li in
      rw same (h.inside i li, h.filled i li, h.bytes_inside i li)

  pub scope_inside : (i : ℕ) (p : ScopePlace) → i < length scopes → p ≡ get_or scopes i p → p.first + p.variables ≤ length values
  scope_inside i p li is =
      let same : p ≡ scope_place_at scopes i = is ∙ get_or_default scopes i p no_scope_place li in
      rw same (h.scope_inside i li)

  pub view_put : (i k : ℕ) (v : Value) (p : Place) → i < length places → p ≡ get_or places i p → k < p.slots →
      memory_of (set values (p.first_slot + k) v) bytes places closures scopes used limit ≡ with_store (with_slot i k v (memory_of values bytes places closures scopes used limit).store) (memory_of values bytes places closures scopes used limit)
  view_put i k v p li is lk =
      rw (objects_put values bytes places scopes h i k v p li is lk, scopes_put values bytes places scopes h i k v p li is lk) refl

  pub view_put_byte : (i k b : ℕ) (p : Place) → i < length places → p ≡ get_or places i p → k < p.bytes →
      memory_of values (set bytes (p.first_byte + k) b) places closures scopes used limit ≡ with_store (with_byte i k b (memory_of values bytes places closures scopes used limit).store) (memory_of values bytes places closures scopes used limit)
  view_put_byte i k b p li is lk = rw (objects_put_byte values bytes places scopes h i k b p li is lk) refl

  pub view_scope_put : (i k : ℕ) (v : Value) (p : ScopePlace) → i < length scopes → p ≡ get_or scopes i p → k < p.variables →
      memory_of (set values (p.first + k) v) bytes places closures scopes used limit ≡ with_store (with_variable i k v (memory_of values bytes places closures scopes used limit).store) (memory_of values bytes places closures scopes used limit)
  view_scope_put i k v p li is lk =
      rw (objects_put_variable values bytes places scopes h i k v p li is lk, scopes_put_variable values bytes places scopes h i k v p li is lk) refl

  pub view_grown : (middle values' : List Value) (i capacity n charge used' : ℕ) (p : Place) (result : Result ℕ HeapStop) →
      result ≡ cond (nat_le (used + charge) limit) (Ok (used + charge)) (Err (Limit used charge)) → result ≡ Ok used' →
      i < length places → p ≡ get_or places i p → p.slots ≤ capacity → n ≡ length values →
      middle ≡ values ++ take p.slots (drop p.first_slot values) → values' ≡ middle ++ replicate (capacity - p.slots) Nil →
      memory_of values' bytes (set places i (record { class = p.class; first_slot = n; slots = p.slots; room = capacity; first_byte = p.first_byte; bytes = p.bytes; read_only = p.read_only; closure = p.closure })) closures scopes used' limit ≡ grown i capacity charge (memory_of values bytes places closures scopes used limit)
  view_grown middle values' i capacity n charge used' p result is ok li ip fits new em ev =
      let room : (nat_le (used + charge) limit ≡ true) × (used' ≡ used + charge) = charged_is result used limit charge used' is ok in
      let all : values' ≡ (values ++ take p.slots (drop p.first_slot values)) ++ replicate (capacity - p.slots) Nil = rw em at ev in
      let one : values' ≡ values ++ (take p.slots (drop p.first_slot values) ++ replicate (capacity - p.slots) Nil) = all ∙ append_assoc values (take p.slots (drop p.first_slot values)) (replicate (capacity - p.slots) Nil) in
      let s : map (scope_of values') scopes ≡ map (scope_of values) scopes = ap (λ (vs : List Value). map (scope_of vs) scopes) one ∙ scopes_kept values (take p.slots (drop p.first_slot values) ++ replicate (capacity - p.slots) Nil) (length bytes) places scopes h in
      rw (objects_grown values bytes places scopes h values' i capacity n p li ip fits new all, s, room.0, room.1) refl

  pub view_not_grown : (i capacity charge used' : ℕ) (p : Place) (result : Result ℕ HeapStop) →
      result ≡ cond (nat_le (used + charge) limit) (Ok (used + charge)) (Err (Limit used charge)) → result ≡ Ok used' →
      i < length places → p ≡ get_or places i p → capacity < p.slots →
      memory_of values bytes places closures scopes used' limit ≡ grown i capacity charge (memory_of values bytes places closures scopes used limit)
  view_not_grown i capacity charge used' p result is ok li ip more =
      let room : (nat_le (used + charge) limit ≡ true) × (used' ≡ used + charge) = charged_is result used limit charge used' is ok in
      rw (room.0, room.1, ← objects_not_grown values bytes places scopes h i capacity p li ip more) refl

  pub view_resized : (values' : List Value) (i size : ℕ) (p : Place) → i < length places → p ≡ get_or places i p → size ≤ p.room → Cleared values values' (p.first_slot + p.slots) (size - p.slots) →
      memory_of values' bytes (set places i (record { class = p.class; first_slot = p.first_slot; slots = size; room = p.room; first_byte = p.first_byte; bytes = p.bytes; read_only = p.read_only; closure = p.closure })) closures scopes used limit ≡ with_store (with_length i size (memory_of values bytes places closures scopes used limit).store) (memory_of values bytes places closures scopes used limit)
  view_resized values' i size p li is fits c =
      rw (objects_resized values values' bytes places scopes h i size p li is fits c, scopes_resized values values' bytes places scopes h i size p li is fits c) refl
