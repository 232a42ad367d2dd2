-- Rooms that are grown step by step.
use Rattle.std.proofs.Common.{◌≡◌, ℕ, zero, suc, ◌+◌, ◌-◌, ◌*◌, ◌<◌, ◌≤◌, ◌⊎◌, inl, inr, max, min, Bool, true, false, nat_le, refl, ap, sym, ◌∙◌, arith}
use Rattle.std.proofs.lemmas.Bool.{cases_lt, le-leb, lt-leb, leb-true, leb-false}
use Rattle.st_collections.specs.SequenceRows.{Room, grown_in, grown_to}

abbrev pick : Bool → Room → Room → Room
pick b r x = elim b [ true ↦ r | false ↦ x ]

-- the same choice of two rooms, where the second is the same whenever it is taken
choice_same : (b : Bool) (r x y : Room) → (b ≡ false → x ≡ y) → pick b r x ≡ pick b r y
choice_same true r x y h = refl
choice_same false r x y h = h refl

choice_first : (b : Bool) (r x : Room) → b ≡ true → pick b r x ≡ r
choice_first true r x e = refl
choice_first false r x e = cc

choice_second : (b : Bool) (r x : Room) → b ≡ false → pick b r x ≡ x
choice_second true r x e = cc
choice_second false r x e = refl

pub grown_done : (fuel size room cells : ℕ) → size ≤ room → grown_in fuel size room cells ≡ record { elements = room; cells = cells }
grown_done zero size room cells h = refl
grown_done (suc fuel) size room cells h = choice_first (nat_le size room) (record { elements = room; cells = cells }) (grown_in fuel size (max 4 (2 * room)) (cells + max 4 (2 * room))) (le-leb size room h)

grown_next : (fuel size room cells : ℕ) → room < size → grown_in (suc fuel) size room cells ≡ grown_in fuel size (max 4 (2 * room)) (cells + max 4 (2 * room))
grown_next fuel size room cells h = choice_second (nat_le size room) (record { elements = room; cells = cells }) (grown_in fuel size (max 4 (2 * room)) (cells + max 4 (2 * room))) (lt-leb size room h)

-- how often it may grow makes no difference where that is often enough
pub grown_enough : (f g size room cells : ℕ) → size ≤ room + f → size ≤ room + g → grown_in f size room cells ≡ grown_in g size room cells
grown_enough zero g size room cells hf hg = sym (grown_done g size room cells (omega arith))
grown_enough (suc f) zero size room cells hf hg = grown_done (suc f) size room cells (omega arith)
grown_enough (suc f) (suc g) size room cells hf hg =
    choice_same (nat_le size room) (record { elements = room; cells = cells }) (grown_in f size (max 4 (2 * room)) (cells + max 4 (2 * room))) (grown_in g size (max 4 (2 * room)) (cells + max 4 (2 * room)))
    (λ e. grown_enough f g size (max 4 (2 * room)) (cells + max 4 (2 * room)) (omega (arith, leb-false size room e)) (omega (arith, leb-false size room e)))

pub grown_more : (size room cells : ℕ) → room < size → grown_in (size - room) size room cells ≡ grown_in (size - max 4 (2 * room)) size (max 4 (2 * room)) (cells + max 4 (2 * room))
grown_more size room cells h =
    let e : size - room ≡ suc (size - room - 1) = omega arith in
    rw e (grown_next (size - room - 1) size room cells h ∙ grown_enough (size - room - 1) (size - max 4 (2 * room)) size (max 4 (2 * room)) (cells + max 4 (2 * room)) (omega arith) (omega arith))

-- what was paid before makes no difference to the room
rooms_same : (b : Bool) (r r' x x' : Room) → r.elements ≡ r'.elements → x.elements ≡ x'.elements → (pick b r x).elements ≡ (pick b r' x').elements
rooms_same true r r' x x' h k = h
rooms_same false r r' x x' h k = k

pub grown_elements : (f size room c c' : ℕ) → (grown_in f size room c).elements ≡ (grown_in f size room c').elements
grown_elements zero size room c c' = refl
grown_elements (suc f) size room c c' =
    rooms_same (nat_le size room) (record { elements = room; cells = c }) (record { elements = room; cells = c' }) (grown_in f size (max 4 (2 * room)) (c + max 4 (2 * room))) (grown_in f size (max 4 (2 * room)) (c' + max 4 (2 * room))) refl
    (grown_elements f size (max 4 (2 * room)) (c + max 4 (2 * room)) (c' + max 4 (2 * room)))

-- and none to the cells that are told, where as many were told before
cells_same : (b : Bool) (m : ℕ) (r r' x x' : Room) → min r.cells m ≡ min r'.cells m → min x.cells m ≡ min x'.cells m → min (pick b r x).cells m ≡ min (pick b r' x').cells m
cells_same true m r r' x x' h k = h
cells_same false m r r' x x' h k = k

min_more : (m c c' d : ℕ) → min c m ≡ min c' m → min (c + d) m ≡ min (c' + d) m
min_more m c c' d h = omega arith

pub grown_cells : (f m size room c c' : ℕ) → min c m ≡ min c' m → min (grown_in f size room c).cells m ≡ min (grown_in f size room c').cells m
grown_cells zero m size room c c' h = h
grown_cells (suc f) m size room c c' h =
    cells_same (nat_le size room) m (record { elements = room; cells = c }) (record { elements = room; cells = c' }) (grown_in f size (max 4 (2 * room)) (c + max 4 (2 * room))) (grown_in f size (max 4 (2 * room)) (c' + max 4 (2 * room))) h
    (grown_cells f m size (max 4 (2 * room)) (c + max 4 (2 * room)) (c' + max 4 (2 * room)) (min_more m c c' (max 4 (2 * room)) h))

-- one growth, as it is counted up to a most
step_elements : (m size room cells more room' cells' : ℕ) → more ≡ max 4 (2 * room) → room < size → size ≤ m → room' ≡ min more m → (more ≤ m) ⊎ (m < more) → min (grown_in (size - room') size room' cells').elements m ≡ min (grown_in (size - room) size room cells).elements m
step_elements m size room cells more room' cells' em h s er (inl low) =
    let e : room' ≡ more = omega arith in
    let next : grown_in (size - room) size room cells ≡ grown_in (size - more) size more (cells + more) = rw em (grown_more size room cells h) in
    rw (e, next) (ap (λ (k : ℕ). min k m) (grown_elements (size - more) size more cells' (cells + more)))
step_elements m size room cells more room' cells' em h s er (inr high) =
    let next : grown_in (size - room) size room cells ≡ grown_in (size - more) size more (cells + more) = rw em (grown_more size room cells h) in
    rw (next, grown_done (size - room') size room' cells' (omega arith), grown_done (size - more) size more (cells + more) (omega arith)) (omega arith)

step_cells : (m size room cells more room' cells' : ℕ) → more ≡ max 4 (2 * room) → room < size → size ≤ m → room' ≡ min more m → cells' ≡ min (cells + room') m → (more ≤ m) ⊎ (m < more) → min (grown_in (size - room') size room' cells').cells m ≡ min (grown_in (size - room) size room cells).cells m
step_cells m size room cells more room' cells' em h s er ec (inl low) =
    let e : room' ≡ more = omega arith in
    let next : grown_in (size - room) size room cells ≡ grown_in (size - more) size more (cells + more) = rw em (grown_more size room cells h) in
    let c : min cells' m ≡ min (cells + more) m = omega arith in
    rw (e, next) (grown_cells (size - more) m size more cells' (cells + more) c)
step_cells m size room cells more room' cells' em h s er ec (inr high) =
    let next : grown_in (size - room) size room cells ≡ grown_in (size - more) size more (cells + more) = rw em (grown_more size room cells h) in
    rw (next, grown_done (size - room') size room' cells' (omega arith), grown_done (size - more) size more (cells + more) (omega arith)) (omega arith)

pub grown_step : (m size room cells room' cells' : ℕ) → room < size → size ≤ m → room' ≡ min (max 4 (2 * room)) m → cells' ≡ min (cells + room') m → (min (grown_in (size - room') size room' cells').elements m ≡ min (grown_in (size - room) size room cells).elements m) × (min (grown_in (size - room') size room' cells').cells m ≡ min (grown_in (size - room) size room cells).cells m)
grown_step m size room cells room' cells' h s er ec =
    let side : (max 4 (2 * room) ≤ m) ⊎ (m < max 4 (2 * room)) = turned (cases_lt m (max 4 (2 * room))) in
    (step_elements m size room cells (max 4 (2 * room)) room' cells' refl h s er side, step_cells m size room cells (max 4 (2 * room)) room' cells' refl h s er ec side)
  where
    turned : {A B : Type 0} → A ⊎ B → B ⊎ A
    turned (inl a) = inr a
    turned (inr b) = inl b

-- the room that is counted after one growth
pub room_counted : (m room doubled room' : ℕ) → 4 ≤ m → doubled ≡ min (room * 2) m → room' ≡ max doubled 4 → room' ≡ min (max 4 (2 * room)) m
room_counted m room doubled room' h e f = omega arith

pub cells_counted : (m room cells cells' : ℕ) → room ≤ m → cells' ≡ min (cells + room) m → room ≤ cells'
cells_counted m room cells cells' h e = omega arith

-- room that is enough stays
pub grown_none : (size room : ℕ) → size ≤ room → grown_to size room ≡ record { elements = room; cells = 0 }
unfolding grown_to
grown_none size room h = grown_done size size room 0 h

holds_case : (b : Bool) (size : ℕ) (r x : Room) → (b ≡ true → size ≤ r.elements) → (b ≡ false → size ≤ x.elements) → size ≤ (pick b r x).elements
holds_case true size r x h k = h refl
holds_case false size r x h k = k refl

grown_holds : (fuel size room cells : ℕ) → size ≤ room + fuel → size ≤ (grown_in fuel size room cells).elements
grown_holds zero size room cells h = omega arith
grown_holds (suc fuel) size room cells h =
    holds_case (nat_le size room) size (record { elements = room; cells = cells }) (grown_in fuel size (max 4 (2 * room)) (cells + max 4 (2 * room))) (λ e. leb-true size room e)
    (λ e. grown_holds fuel size (max 4 (2 * room)) (cells + max 4 (2 * room)) (omega (arith, leb-false size room e)))

-- the room holds so many
pub grown_to_holds : (size room : ℕ) → size ≤ (grown_to size room).elements
unfolding grown_to
grown_to_holds size room = grown_holds size size room 0 (omega arith)
