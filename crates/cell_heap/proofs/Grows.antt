-- A new run of cells for an object's slots.
use Rattle.std.proofs.Common.{◌≡◌, ◌≢◌, ℕ, ◌+◌, ◌-◌, ◌<◌, ◌≤◌, List, ◌++◌, length, take, drop, map, set, get_or, replicate, refl, ap, sym, ◌∙◌, arith, append_assoc}
use Rattle.std.proofs.lemmas.Bool.{le-leb, lt-leb}
use Rattle.std.proofs.lemmas.List.{get_or_default, set-get_or, take_at, drop_at, length-drop, length-take-le, length-append, length-replicate}
use Rattle.object_heap.specs.declared.value.Value.{Value}
use Rattle.object_heap.specs.declared.value.Value.TheVariants.{Nil}
use Rattle.object_heap.specs.Store.{Object, no_object, regrown, with_capacity}
use Rattle.cell_heap.specs.declared.place.Place.{Place}
use Rattle.cell_heap.specs.declared.place.ScopePlace.{ScopePlace}
use Rattle.cell_heap.specs.Flat.{object_of, Laid, no_place, place_at}
use Rattle.cell_heap.proofs.Windows.{get_or-map, window-append}
use Rattle.cell_heap.proofs.Changed.{objects_changed}

-- a window that begins what was added at the end
window-begins : {A : Type 0} (cells run more : List A) (first size : ℕ) → first ≡ length cells → size ≡ length run → take size (drop first (cells ++ (run ++ more))) ≡ run
window-begins cells run more first size f s =
    rw (f, drop_at cells (run ++ more) (length cells) refl, take_at run more size (sym s)) refl

module _ (values : List Value) (bytes : List ℕ) (places : List Place) (scopes : List ScopePlace) (h : Laid (length values) (length bytes) places scopes) where
  grow_at : (i capacity n : ℕ) → i < length places → (place_at places i).slots ≤ capacity → n ≡ length values →
      map (object_of (values ++ (take (place_at places i).slots (drop (place_at places i).first_slot values) ++ replicate (capacity - (place_at places i).slots) Nil)) bytes) (set places i (record { class = (place_at places i).class; first_slot = n; slots = (place_at places i).slots; room = capacity; first_byte = (place_at places i).first_byte; bytes = (place_at places i).bytes; read_only = (place_at places i).read_only; closure = (place_at places i).closure }))
      ≡ set (map (object_of values bytes) places) i (regrown capacity (object_of values bytes (place_at places i)))
  grow_at i capacity n li fits is =
      let run : List Value = take (place_at places i).slots (drop (place_at places i).first_slot values) in
      let more : List Value = run ++ replicate (capacity - (place_at places i).slots) Nil in
      let q : Place = record { class = (place_at places i).class; first_slot = n; slots = (place_at places i).slots; room = capacity; first_byte = (place_at places i).first_byte; bytes = (place_at places i).bytes; read_only = (place_at places i).read_only; closure = (place_at places i).closure } in
      let d : length (drop (place_at places i).first_slot values) ≡ length values - (place_at places i).first_slot = length-drop (place_at places i).first_slot values in
      let size : length (take (place_at places i).slots (drop (place_at places i).first_slot values)) ≡ (place_at places i).slots = length-take-le (place_at places i).slots (drop (place_at places i).first_slot values) (omega (arith, d, h.inside i li, h.filled i li)) in
      let others : (j : ℕ) → j < length places → j ≢ i → object_of (values ++ more) bytes (place_at places j) ≡ object_of values bytes (place_at places j) = λ j lj k.
      rw (window-append values more (place_at places j).first_slot (place_at places j).slots (omega (arith, h.filled j lj, h.inside j lj))) refl in
      let this : object_of (values ++ more) bytes q ≡ with_capacity capacity (object_of values bytes (place_at places i)) =
      rw (window-begins values run (replicate (capacity - (place_at places i).slots) Nil) n (place_at places i).slots is (sym size)) refl in
      let leb : regrown capacity (object_of values bytes (place_at places i)) ≡ with_capacity capacity (object_of values bytes (place_at places i)) = rw (size, le-leb (place_at places i).slots capacity fits) refl in
      rw leb (objects_changed values (values ++ more) bytes bytes places i q (with_capacity capacity (object_of values bytes (place_at places i))) li others this)

  pub objects_grown : (values' : List Value) (i capacity n : ℕ) (p : Place) → i < length places → p ≡ get_or places i p → p.slots ≤ capacity → n ≡ length values →
      values' ≡ (values ++ take p.slots (drop p.first_slot values)) ++ replicate (capacity - p.slots) Nil →
      map (object_of values' bytes) (set places i (record { class = p.class; first_slot = n; slots = p.slots; room = capacity; first_byte = p.first_byte; bytes = p.bytes; read_only = p.read_only; closure = p.closure }))
      ≡ set (map (object_of values bytes) places) i (regrown capacity (get_or (map (object_of values bytes) places) i no_object))
  objects_grown values' i capacity n p li is fits new e =
      let same : p ≡ place_at places i = is ∙ get_or_default places i p no_place li in
      let fits' : (place_at places i).slots ≤ capacity = rw same at fits in
      rw (get_or-map (object_of values bytes) places i no_place no_object li, e, append_assoc, same) (grow_at i capacity n li fits' new)

  -- an object that has more slots already
  pub objects_not_grown : (i capacity : ℕ) (p : Place) → i < length places → p ≡ get_or places i p → capacity < p.slots →
      map (object_of values bytes) places ≡ set (map (object_of values bytes) places) i (regrown capacity (get_or (map (object_of values bytes) places) i no_object))
  objects_not_grown i capacity p li is more =
      let same : p ≡ place_at places i = is ∙ get_or_default places i p no_place li in
      let more' : capacity < (place_at places i).slots = rw same at more in
      let d : length (drop (place_at places i).first_slot values) ≡ length values - (place_at places i).first_slot = length-drop (place_at places i).first_slot values in
      let size : length (take (place_at places i).slots (drop (place_at places i).first_slot values)) ≡ (place_at places i).slots = length-take-le (place_at places i).slots (drop (place_at places i).first_slot values) (omega (arith, d, h.inside i li, h.filled i li)) in
      let old : get_or (map (object_of values bytes) places) i no_object ≡ object_of values bytes (place_at places i) = get_or-map (object_of values bytes) places i no_place no_object li in
      let leb : regrown capacity (object_of values bytes (place_at places i)) ≡ object_of values bytes (place_at places i) = rw (size, lt-leb (place_at places i).slots capacity more') refl in
      let whole : regrown capacity (get_or (map (object_of values bytes) places) i no_object) ≡ get_or (map (object_of values bytes) places) i no_object = ap (regrown capacity) old ∙ (leb ∙ sym old) in
      sym (ap (λ (o : Object). set (map (object_of values bytes) places) i o) whole ∙ set-get_or (map (object_of values bytes) places) i no_object)

-- how many cells there are then
pub length_grown : (values middle values' : List Value) (first slots capacity : ℕ) → first + slots ≤ length values → slots ≤ capacity → middle ≡ values ++ take slots (drop first values) → values' ≡ middle ++ replicate (capacity - slots) Nil → length values' ≡ length values + capacity
length_grown values middle values' first slots capacity inside fits em ev =
    let d : length (drop first values) ≡ length values - first = length-drop first values in
    let t : length (take slots (drop first values)) ≡ slots = length-take-le slots (drop first values) (omega arith) in
    let m : length middle ≡ length values + length (take slots (drop first values)) = ap length em ∙ length-append values (take slots (drop first values)) in
    let r : length (replicate (capacity - slots) Nil) ≡ capacity - slots = length-replicate (capacity - slots) Nil in
    let e : length values' ≡ length middle + length (replicate (capacity - slots) Nil) = ap length ev ∙ length-append middle (replicate (capacity - slots) Nil) in
    omega arith
