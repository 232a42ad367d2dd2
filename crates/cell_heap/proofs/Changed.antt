-- What a write to one object or scope leaves of the others.
use Rattle.std.proofs.Common.{◌≡◌, ◌≢◌, ◌⊎◌, inl, inr, ℕ, ◌+◌, ◌<◌, ◌≤◌, List, length, map, set, refl, ap, ◌∙◌, arith}
use Rattle.std.proofs.lemmas.List.{map-set, set-set}
use Rattle.object_heap.specs.declared.value.Value.{Value}
use Rattle.object_heap.specs.Store.{Object, Scope}
use Rattle.cell_heap.specs.declared.place.Place.{Place}
use Rattle.cell_heap.specs.declared.place.ScopePlace.{ScopePlace}
use Rattle.cell_heap.specs.Flat.{object_of, scope_of, Apart, no_place, no_scope_place, place_at, scope_place_at}
use Rattle.cell_heap.proofs.Windows.{changed_one}

-- a cell of one run is outside each run that is apart from it
pub outside : (first size other others a : ℕ) → Apart first size other others → first ≤ a → a < first + size → (a < other) ⊎ (other + others ≤ a)
outside first size other others a (inl l) low high = inl (omega arith)
outside first size other others a (inr l) low high = inr (omega arith)

-- the objects where one place changed, and the cells of no other
pub objects_changed : (values values' : List Value) (bytes bytes' : List ℕ) (places : List Place) (i : ℕ) (q : Place) (o : Object) → i < length places → ((j : ℕ) → j < length places → j ≢ i → object_of values' bytes' (place_at places j) ≡ object_of values bytes (place_at places j)) → object_of values' bytes' q ≡ o → map (object_of values' bytes') (set places i q) ≡ set (map (object_of values bytes) places) i o
objects_changed values values' bytes bytes' places i q o li others this =
    let e : map (object_of values' bytes') places ≡ set (map (object_of values bytes) places) i (object_of values' bytes' (place_at places i)) = changed_one (object_of values' bytes') (object_of values bytes) places i no_place li others in
    rw (map-set (object_of values' bytes') places i q, e, set-set, this) refl

-- the scopes where one changed
pub scopes_changed : (values values' : List Value) (scopes : List ScopePlace) (i : ℕ) (s : Scope) → i < length scopes → ((j : ℕ) → j < length scopes → j ≢ i → scope_of values' (scope_place_at scopes j) ≡ scope_of values (scope_place_at scopes j)) → scope_of values' (scope_place_at scopes i) ≡ s → map (scope_of values') scopes ≡ set (map (scope_of values) scopes) i s
scopes_changed values values' scopes i s li others this =
    let e : map (scope_of values') scopes ≡ set (map (scope_of values) scopes) i (scope_of values' (scope_place_at scopes i)) = changed_one (scope_of values') (scope_of values) scopes i no_scope_place li others in
    e ∙ ap (λ (x : Scope). set (map (scope_of values) scopes) i x) this
