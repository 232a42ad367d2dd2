-- Another number of slots in an object's run.
use Rattle.std.proofs.Common.{◌≡◌, ◌≢◌, ◌⊎◌, inl, inr, ℕ, ◌+◌, ◌-◌, ◌<◌, ◌≤◌, min, List, ◌++◌, length, take, drop, map, set, get_or, replicate, refl, ap, sym, ◌∙◌, arith}
use Rattle.std.proofs.lemmas.Bool.{cases_lt, le-leb, lt-leb}
use Rattle.std.proofs.lemmas.List.{get_or_default, set-get_or, length-drop, length-take, length-take-le, length-append, length-replicate, ext_get_or, get_or-take, get_or-drop, get_or_append_left, get_or-append_right, get_or-replicate}
use Rattle.object_heap.specs.declared.value.Value.{Value}
use Rattle.object_heap.specs.declared.value.Value.TheVariants.{Nil}
use Rattle.object_heap.specs.Store.{Object, no_object, resized}
use Rattle.cell_heap.specs.declared.place.Place.{Place}
use Rattle.cell_heap.specs.declared.place.ScopePlace.{ScopePlace}
use Rattle.cell_heap.specs.Flat.{object_of, scope_of, Apart, Laid, no_place, no_scope_place, place_at, scope_place_at}
use Rattle.cell_heap.proofs.Windows.{same_map, get_or-map}
use Rattle.cell_heap.proofs.Changed.{objects_changed}

-- the cells after a run was made nil
pub record Cleared (xs ys : List Value) (first count : ℕ) : Type 0 where
  pub size : length ys ≡ length xs
  pub within : (k : ℕ) → first ≤ k → k < first + count → get_or ys k Nil ≡ Nil
  pub below : (k : ℕ) → k < first → get_or ys k Nil ≡ get_or xs k Nil
  pub above : (k : ℕ) → first + count ≤ k → get_or ys k Nil ≡ get_or xs k Nil

-- a window in which no cell changed
window_same : (xs ys : List Value) (first size : ℕ) → length ys ≡ length xs → first + size ≤ length xs → ((k : ℕ) → first ≤ k → k < first + size → get_or ys k Nil ≡ get_or xs k Nil) → take size (drop first ys) ≡ take size (drop first xs)
window_same xs ys first size same l h =
    let sx : length (take size (drop first xs)) ≡ size = length-take-le size (drop first xs) (omega (arith, length-drop first xs)) in
    let sy : length (take size (drop first ys)) ≡ size = length-take-le size (drop first ys) (omega (arith, length-drop first ys)) in
    ext_get_or Nil (take size (drop first ys)) (take size (drop first xs)) (omega arith) (λ k lk.
    let lk' : k < size = omega arith in
    rw (get_or-take size (drop first ys) k Nil lk', get_or-take size (drop first xs) k Nil lk', get_or-drop first ys k Nil, get_or-drop first xs k Nil) (h (first + k) (omega arith) (omega arith)))

-- the run itself, of so many slots
window_cleared : (xs ys : List Value) (first slots size : ℕ) → first + slots ≤ length xs → first + size ≤ length xs → Cleared xs ys (first + slots) (size - slots) → take size (drop first ys) ≡ take size (take slots (drop first xs)) ++ replicate (size - slots) Nil
window_cleared xs ys first slots size ls lz c =
    let sx : length (take slots (drop first xs)) ≡ slots = length-take-le slots (drop first xs) (omega (arith, length-drop first xs)) in
    let st : length (take size (take slots (drop first xs))) ≡ min size slots = rw sx at (length-take size (take slots (drop first xs))) in
    let sr : length (replicate (size - slots) Nil) ≡ size - slots = length-replicate (size - slots) Nil in
    let sa : length (take size (take slots (drop first xs)) ++ replicate (size - slots) Nil) ≡ length (take size (take slots (drop first xs))) + length (replicate (size - slots) Nil) = length-append (take size (take slots (drop first xs))) (replicate (size - slots) Nil) in
    let sy : length (take size (drop first ys)) ≡ size = length-take-le size (drop first ys) (omega (arith, length-drop first ys, c.size)) in
    ext_get_or Nil (take size (drop first ys)) (take size (take slots (drop first xs)) ++ replicate (size - slots) Nil) (omega arith) (λ k lk. at_cell k (omega arith) st (cases_lt k slots))
  where
    at_cell : (k : ℕ) → k < size → length (take size (take slots (drop first xs))) ≡ min size slots → (k < slots) ⊎ (slots ≤ k) → get_or (take size (drop first ys)) k Nil ≡ get_or (take size (take slots (drop first xs)) ++ replicate (size - slots) Nil) k Nil
    at_cell k lk st (inl l) =
        rw (get_or-take size (drop first ys) k Nil lk, get_or-drop first ys k Nil, get_or_append_left (take size (take slots (drop first xs))) (replicate (size - slots) Nil) Nil k (omega arith), get_or-take size (take slots (drop first xs)) k Nil lk, get_or-take slots (drop first xs) k Nil l, get_or-drop first xs k Nil)
        (c.below (first + k) (omega arith))
    at_cell k lk st (inr l) =
        rw (get_or-take size (drop first ys) k Nil lk, get_or-drop first ys k Nil, get_or-append_right (take size (take slots (drop first xs))) (replicate (size - slots) Nil) slots k Nil (omega arith) l, get_or-replicate (size - slots) (k - slots) Nil Nil (omega arith))
        (c.within (first + k) (omega arith) (omega arith))

module _ (values values' : List Value) (bytes : List ℕ) (places : List Place) (scopes : List ScopePlace) (h : Laid (length values) (length bytes) places scopes) where
  other_run : (first room slots size other others : ℕ) → slots ≤ room → size ≤ room → Apart first room other others → other + others ≤ length values → Cleared values values' (first + slots) (size - slots) → take others (drop other values') ≡ take others (drop other values)
  other_run first room slots size other others ls lz (inl a) l c = window_same values values' other others c.size l (λ k low high. c.above k (omega arith))
  other_run first room slots size other others ls lz (inr a) l c = window_same values values' other others c.size l (λ k low high. c.below k (omega arith))

  resize_at : (i size : ℕ) → i < length places → size ≤ (place_at places i).room → Cleared values values' ((place_at places i).first_slot + (place_at places i).slots) (size - (place_at places i).slots) →
      map (object_of values' bytes) (set places i (record { class = (place_at places i).class; first_slot = (place_at places i).first_slot; slots = size; room = (place_at places i).room; first_byte = (place_at places i).first_byte; bytes = (place_at places i).bytes; read_only = (place_at places i).read_only; closure = (place_at places i).closure }))
      ≡ set (map (object_of values bytes) places) i (resized size (object_of values bytes (place_at places i)))
  resize_at i size li fits c =
      let p : Place = place_at places i in
      let q : Place = record { class = (place_at places i).class; first_slot = (place_at places i).first_slot; slots = size; room = (place_at places i).room; first_byte = (place_at places i).first_byte; bytes = (place_at places i).bytes; read_only = (place_at places i).read_only; closure = (place_at places i).closure } in
      let d : length (drop (place_at places i).first_slot values) ≡ length values - (place_at places i).first_slot = length-drop (place_at places i).first_slot values in
      let long : length (take (place_at places i).slots (drop (place_at places i).first_slot values)) ≡ (place_at places i).slots = length-take-le (place_at places i).slots (drop (place_at places i).first_slot values) (omega (arith, d, h.inside i li, h.filled i li)) in
      let others : (j : ℕ) → j < length places → j ≢ i → object_of values' bytes (place_at places j) ≡ object_of values bytes (place_at places j) = λ j lj n.
      rw (other_run (place_at places i).first_slot (place_at places i).room (place_at places i).slots size (place_at places j).first_slot (place_at places j).slots (h.filled i li) fits (narrow (place_at places i).first_slot (place_at places i).room (place_at places j).first_slot (place_at places j).room (place_at places j).slots (h.filled j lj) (h.apart i j li lj (λ e. n (sym e)))) (omega (arith, h.inside j lj, h.filled j lj)) c) refl in
      let this : object_of values' bytes q ≡ resized size (object_of values bytes (place_at places i)) =
      rw (le-leb size (place_at places i).room fits, long, window_cleared values values' (place_at places i).first_slot (place_at places i).slots size (omega (arith, h.inside i li, h.filled i li)) (omega (arith, h.inside i li)) c) refl in
      objects_changed values values' bytes bytes places i q (resized size (object_of values bytes (place_at places i))) li others this
    where
      narrow : (first room other others slots : ℕ) → slots ≤ others → Apart first room other others → Apart first room other slots
      narrow first room other others slots l (inl a) = inl a
      narrow first room other others slots l (inr a) = inr (omega arith)

  pub objects_resized : (i size : ℕ) (p : Place) → i < length places → p ≡ get_or places i p → size ≤ p.room → Cleared values values' (p.first_slot + p.slots) (size - p.slots) →
      map (object_of values' bytes) (set places i (record { class = p.class; first_slot = p.first_slot; slots = size; room = p.room; first_byte = p.first_byte; bytes = p.bytes; read_only = p.read_only; closure = p.closure }))
      ≡ set (map (object_of values bytes) places) i (resized size (get_or (map (object_of values bytes) places) i no_object))
  objects_resized i size p li is fits c =
      let same : p ≡ place_at places i = is ∙ get_or_default places i p no_place li in
      let fits' : size ≤ (place_at places i).room = rw same at fits in
      let c' : Cleared values values' ((place_at places i).first_slot + (place_at places i).slots) (size - (place_at places i).slots) = rw same at c in
      rw (get_or-map (object_of values bytes) places i no_place no_object li, same) (resize_at i size li fits' c')

  scopes_resized_at : (i size : ℕ) → i < length places → size ≤ (place_at places i).room → Cleared values values' ((place_at places i).first_slot + (place_at places i).slots) (size - (place_at places i).slots) → map (scope_of values') scopes ≡ map (scope_of values) scopes
  scopes_resized_at i size li fits c =
      same_map (scope_of values') (scope_of values) scopes no_scope_place (λ j lj.
      rw (other_run (place_at places i).first_slot (place_at places i).room (place_at places i).slots size (scope_place_at scopes j).first (scope_place_at scopes j).variables (h.filled i li) fits (h.across i j li lj) (h.scope_inside j lj) c) refl)

  pub scopes_resized : (i size : ℕ) (p : Place) → i < length places → p ≡ get_or places i p → size ≤ p.room → Cleared values values' (p.first_slot + p.slots) (size - p.slots) → map (scope_of values') scopes ≡ map (scope_of values) scopes
  scopes_resized i size p li is fits c =
      let same : p ≡ place_at places i = is ∙ get_or_default places i p no_place li in
      let fits' : size ≤ (place_at places i).room = rw same at fits in
      let c' : Cleared values values' ((place_at places i).first_slot + (place_at places i).slots) (size - (place_at places i).slots) = rw same at c in
      scopes_resized_at i size li fits' c'

-- an object that has no room for so many slots
pub objects_not_resized : (values : List Value) (bytes : List ℕ) (places : List Place) (i size : ℕ) (p : Place) → i < length places → p ≡ get_or places i p → p.room < size →
    map (object_of values bytes) places ≡ set (map (object_of values bytes) places) i (resized size (get_or (map (object_of values bytes) places) i no_object))
objects_not_resized values bytes places i size p li is more =
    let same : p ≡ place_at places i = is ∙ get_or_default places i p no_place li in
    let more' : (place_at places i).room < size = rw same at more in
    let old : get_or (map (object_of values bytes) places) i no_object ≡ object_of values bytes (place_at places i) = get_or-map (object_of values bytes) places i no_place no_object li in
    let leb : resized size (object_of values bytes (place_at places i)) ≡ object_of values bytes (place_at places i) = rw (lt-leb size (place_at places i).room more') refl in
    let whole : resized size (get_or (map (object_of values bytes) places) i no_object) ≡ get_or (map (object_of values bytes) places) i no_object = ap (resized size) old ∙ (leb ∙ sym old) in
    sym (ap (λ (o : Object). set (map (object_of values bytes) places) i o) whole ∙ set-get_or (map (object_of values bytes) places) i no_object)
