-- A literal that is made: its object first, then its bytes or items one after another.
use Rattle.std.proofs.Common.{◌≡◌, ℕ, suc, ◌+◌, ◌-◌, ◌<◌, ◌≤◌, Bool, true, IsTrue, None, List, [], ◌∷◌, ◌++◌, take, drop, length, replicate, get_or, set, refl, ap, sym, ◌∙◌, arith, length-append}
use Rattle.std.proofs.lemmas.List.{get_or_at, set_at, append_assoc, append-nil, drop_all, length-take-le, take_all, take_more}
use Rattle.object_heap.specs.declared.value.Value.{Value}
use Rattle.object_heap.specs.declared.value.Value.TheVariants.{Nil}
use Rattle.object_heap.specs.Store.{Object, no_object, object_at, with_slot, with_byte, slot_written, byte_written}
use Rattle.object_heap.specs.Charges.{Memory, with_store, literal_made as blank_made, object_charge}
use Rattle.st_code.specs.Texts.{Text}
use Rattle.st_code.specs.Literals.{literal_string}
use Rattle.st_code.specs.Named.{Literal, ArrayLiteral}
use Rattle.st_code.specs.Written.{literal_row}
use Rattle.st_code.specs.Resolved.{Made, literals_made}
use Rattle.st_literals.specs.Cells.{literal_cells, row_cells, count_in}
use Rattle.st_literals.specs.Numbered.{objects_of, value_of, with_objects}
use Rattle.st_literals.proofs.Counted.{row-count, few-objects, item-count}

-- objects behind objects
pub objects-twice : (os ps : List Object) (m : Memory) → with_objects ps (with_objects os m) ≡ with_objects (os ++ ps) m
objects-twice os ps m = ap (λ (all : List Object). with_store (record { objects = all; closures = m.store.closures; scopes = m.store.scopes }) m) (append_assoc m.store.objects os ps)

pub no-objects : (m : Memory) → m ≡ with_objects [] m
no-objects m = ap (λ (all : List Object). with_store (record { objects = all; closures = m.store.closures; scopes = m.store.scopes }) m) (sym (append-nil m.store.objects))

-- another object in place of the first of those that are behind
set-here : (m : Memory) (o p : Object) (os : List Object) (n : ℕ) → n ≡ length m.store.objects → set (m.store.objects ++ o ∷ os) n p ≡ m.store.objects ++ p ∷ os
set-here m o p os n is = set_at m.store.objects o os p n (sym is)

here-is : (m : Memory) (o : Object) (os : List Object) (n : ℕ) → n ≡ length m.store.objects → object_at n (with_objects (o ∷ os) m).store ≡ o
here-is m o os n is = get_or_at m.store.objects o os no_object n (sym is)

-- ---- a text

abbrev pub text_of : Text → Object
text_of bytes = literal_string bytes

-- so many of its bytes are written
abbrev pub begun : Text → ℕ → Text
begun t i = take i t ++ replicate (length t - i) 0

abbrev pub with_text : Text → ℕ → Memory → Memory
with_text t i m = with_objects (literal_string (begun t i) ∷ []) m

pub text-first : (t : Text) (count : ℕ) (m : Memory) → count ≡ length t → blank_made 9 0 count m ≡ with_text t 0 m
text-first t count m is =
    let e : count ≡ length t - 0 = omega (arith, is) in
    ap (λ k. with_objects (literal_string (replicate k 0) ∷ []) m) e

bytes-next : (t : Text) (i b : ℕ) → i < length t → b ≡ get_or t i 0 → set (begun t i) i b ≡ begun t (i + 1)
bytes-next t i b low is =
    let left : length t - i ≡ suc (length t - (i + 1)) = omega (arith, low) in
    let rest : Text = replicate (length t - (i + 1)) 0 in
    let at : length (take i t) ≡ i = length-take-le i t (omega (arith, low)) in
    ap (λ k. set (take i t ++ replicate k 0) i b) left
    ∙ set_at (take i t) 0 rest b i at
    ∙ sym (append_assoc (take i t) (b ∷ []) rest)
    ∙ ap (λ (bs : Text). bs ++ rest) (ap (λ x. take i t ++ x ∷ []) is ∙ sym (take_more t i 0 low))

pub text-next : (t : Text) (i b n : ℕ) (m now next : Memory) → i < length t → b ≡ get_or t i 0 → n ≡ length m.store.objects → next ≡ with_store (with_byte n i b now.store) now → now ≡ with_text t i m → next ≡ with_text t (i + 1) m
text-next t i b n m now next low is number written sofar =
    let o : Object = literal_string (begun t i) in
    written
    ∙ ap (λ (x : Memory). with_store (with_byte n i b x.store) x) sofar
    ∙ ap (λ (p : Object). with_store (record { objects = set (m.store.objects ++ o ∷ []) n (byte_written i b p); closures = m.store.closures; scopes = m.store.scopes }) m) (here-is m o [] n number)
    ∙ ap (λ (os : List Object). with_store (record { objects = os; closures = m.store.closures; scopes = m.store.scopes }) m) (set-here m o (byte_written i b o) [] n number)
    ∙ ap (λ (bs : Text). with_objects (literal_string bs ∷ []) m) (bytes-next t i b low is)

pub text-end : (t : Text) (i : ℕ) (m now : Memory) → length t ≤ i → now ≡ with_text t i m → now ≡ with_objects (literal_string t ∷ []) m
text-end t i m now past sofar =
    let none : length t - i ≡ 0 = omega (arith, past) in
    sofar ∙ ap (λ (bs : Text). with_objects (literal_string bs ∷ []) m) (ap (λ k. take i t ++ replicate k 0) none ∙ append-nil (take i t) ∙ take_all i t past)

-- ---- an array

abbrev pub array_of : (count : ℕ) → List Value → Object
array_of count slots = record { class = 11; slots = slots; bytes = []; capacity = count; read_only = true; closure = None }

abbrev pub row_made : List Text → ℕ → List Literal → Made (List Value)
row_made names n ls = literals_made names n (literal_row ls)

-- so many items of an array are made, in memory that has this many objects before
pub record Filling (names : List Text) (m : Memory) (all : List Literal) (i : ℕ) (now : Memory) (reserved : Bool) (room_before room : ℕ) : Type 0 where
  pub values : List Value
  pub made : List Object
  pub spent : ℕ
  pub here : now ≡ with_objects (array_of (length all) (values ++ replicate (length all - i) Nil) ∷ made) m
  pub count : length values ≡ i
  pub item : values ++ (row_made names (suc (length m.store.objects) + length made) (drop i all)).item ≡ (row_made names (suc (length m.store.objects)) all).item
  pub objects : made ++ (row_made names (suc (length m.store.objects) + length made) (drop i all)).objects ≡ (row_made names (suc (length m.store.objects)) all).objects
  pub cells : spent + row_cells (literal_row (drop i all)) ≡ object_charge (length all) 0 + row_cells (literal_row all)
  pub few : suc (length made) ≤ spent
  pub left : IsTrue reserved → room ≡ room_before - spent

pub filling-first : (names : List Text) (m now : Memory) (all : List Literal) (count : ℕ) (reserved : Bool) (room_before room : ℕ) → count ≡ length all → now ≡ blank_made 11 count 0 m → (IsTrue reserved → room ≡ room_before - object_charge count 0) → Filling names m all 0 now reserved room_before room
filling-first names m now all count reserved room_before room is made left =
    let e : suc (length m.store.objects) + 0 ≡ suc (length m.store.objects) = omega arith in
    let whole : count ≡ length all - 0 = omega (arith, is) in
    record {
      values = [];
      made = [];
      spent = object_charge (length all) 0;
      here = made ∙ ap (λ k. with_objects (array_of k (replicate count Nil) ∷ []) m) is ∙ ap (λ k. with_objects (array_of (length all) (replicate k Nil) ∷ []) m) whole;
      count = refl;
      item = ap (λ k. (row_made names k all).item) e;
      objects = ap (λ k. (row_made names k all).objects) e;
      cells = refl;
      few = omega arith;
      left = λ r. left r ∙ ap (λ k. room_before - object_charge k 0) is;
    }

-- how many objects there are, which the next item is numbered on from
pub filling-number : {names : List Text} {m now : Memory} {all : List Literal} {i room_before room : ℕ} {reserved : Bool} → (f : Filling names m all i now reserved room_before room) → length now.store.objects ≡ suc (length m.store.objects) + length f.made
filling-number {m = m} {all = all} {i = i} f =
    ap (λ (x : Memory). length x.store.objects) f.here ∙ length-append m.store.objects (array_of (length all) (f.values ++ replicate (length all - i) Nil) ∷ f.made) ∙ omega arith

row-next : (names : List Text) (n : ℕ) (all : List Literal) (i : ℕ) (l : Literal) → drop i all ≡ l ∷ drop (i + 1) all → row_made names n (drop i all) ≡ row_made names n (l ∷ drop (i + 1) all)
row-next names n all i l is = ap (row_made names n) is

-- there is room for one more item
pub filling-few : {names : List Text} {m now : Memory} {all : List Literal} {i room_before room : ℕ} {reserved : Bool} {l : Literal} → (f : Filling names m all i now reserved room_before room)
    → drop i all ≡ l ∷ drop (i + 1) all → length m.store.objects + literal_cells (ArrayLiteral (literal_row all)) ≤ 2147483648 → length now.store.objects + literal_cells l ≤ 2147483648
filling-few {all = all} {i = i} {l = l} f at few =
    let cells : row_cells (literal_row (drop i all)) ≡ literal_cells l + row_cells (literal_row (drop (i + 1) all)) = ap (λ (ls : List Literal). row_cells (literal_row ls)) at in
    omega (arith, filling-number f, f.few, f.cells, cells, row-count all, few)

pub filling-room : {names : List Text} {m now : Memory} {all : List Literal} {i room_before room : ℕ} {reserved : Bool} {l : Literal} → (f : Filling names m all i now reserved room_before room)
    → drop i all ≡ l ∷ drop (i + 1) all → IsTrue reserved → literal_cells (ArrayLiteral (literal_row all)) ≤ room_before → literal_cells l ≤ room
filling-room {all = all} {i = i} {l = l} f at r fits =
    let cells : row_cells (literal_row (drop i all)) ≡ literal_cells l + row_cells (literal_row (drop (i + 1) all)) = ap (λ (ls : List Literal). row_cells (literal_row ls)) at in
    omega (arith, f.left r, f.cells, cells, row-count all, fits)

-- an item takes less than its array
pub filling-less : {names : List Text} {m now : Memory} {all : List Literal} {i room_before room : ℕ} {reserved : Bool} {l : Literal} → (f : Filling names m all i now reserved room_before room)
    → drop i all ≡ l ∷ drop (i + 1) all → literal_cells l < literal_cells (ArrayLiteral (literal_row all))
filling-less {all = all} {i = i} {l = l} f at =
    let cells : row_cells (literal_row (drop i all)) ≡ literal_cells l + row_cells (literal_row (drop (i + 1) all)) = ap (λ (ls : List Literal). row_cells (literal_row ls)) at in
    omega (arith, f.few, f.cells, cells, row-count all)

-- one more item
module _ (names : List Text) (m now after next : Memory) (all : List Literal) (i : ℕ) (reserved : Bool) (room_before room room_next : ℕ) (l : Literal) (v : Value) (n slot : ℕ) where
  pub filling-next : drop i all ≡ l ∷ drop (i + 1) all → i < length all → (f : Filling names m all i now reserved room_before room)
      → v ≡ value_of names (length now.store.objects) l → after ≡ with_objects (objects_of names (length now.store.objects) l) now → (IsTrue reserved → room_next ≡ room - literal_cells l)
      → n ≡ length m.store.objects → slot ≡ i → next ≡ with_store (with_slot n slot v after.store) after
      → Filling names m all (i + 1) next reserved room_before room_next
  filling-next at low f value made left number place written =
      let k : ℕ = suc (length m.store.objects) + length f.made in
      let from : length now.store.objects ≡ k = filling-number f in
      let os : List Object = objects_of names k l in
      let w : Value = value_of names k l in
      let rest : List Value = replicate (length all - (i + 1)) Nil in
      let o : Object = array_of (length all) (f.values ++ Nil ∷ rest) in
      let p : Object = array_of (length all) ((f.values ++ w ∷ []) ++ rest) in
      let more : length all - i ≡ suc (length all - (i + 1)) = omega (arith, low) in
      let before : now ≡ with_objects (o ∷ f.made) m = f.here ∙ ap (λ j. with_objects (array_of (length all) (f.values ++ replicate j Nil) ∷ f.made) m) more in
      let same : v ≡ w = value ∙ ap (λ j. value_of names j l) from in
      let both : after ≡ with_objects (o ∷ (f.made ++ os)) m =
      made ∙ ap (λ j. with_objects (objects_of names j l) now) from ∙ ap (λ (x : Memory). with_objects os x) before ∙ objects-twice (o ∷ f.made) os m in
      let slots : set (f.values ++ Nil ∷ rest) slot w ≡ (f.values ++ w ∷ []) ++ rest =
      set_at f.values Nil rest w slot (f.count ∙ sym place) ∙ sym (append_assoc f.values (w ∷ []) rest) in
      let behind : suc (length m.store.objects) + length (f.made ++ os) ≡ k + length os = omega (arith, length-append f.made os) in
      let row : row_made names k (drop i all) ≡ row_made names k (l ∷ drop (i + 1) all) = ap (row_made names k) at in
      let few : length os ≤ literal_cells l = few-objects names k l in
      let cells : row_cells (literal_row (drop i all)) ≡ literal_cells l + row_cells (literal_row (drop (i + 1) all)) = ap (λ (ls : List Literal). row_cells (literal_row ls)) at in
      record {
        values = f.values ++ w ∷ [];
        made = f.made ++ os;
        spent = f.spent + literal_cells l;
        here =
            written
            ∙ ap (λ (u : Value). with_store (with_slot n slot u after.store) after) same
            ∙ ap (λ (x : Memory). with_store (with_slot n slot w x.store) x) both
            ∙ ap (λ (q : Object). with_store (record { objects = set (m.store.objects ++ o ∷ (f.made ++ os)) n (slot_written slot w q); closures = m.store.closures; scopes = m.store.scopes }) m) (here-is m o (f.made ++ os) n number)
            ∙ ap (λ (qs : List Object). with_store (record { objects = qs; closures = m.store.closures; scopes = m.store.scopes }) m) (set-here m o (slot_written slot w o) (f.made ++ os) n number)
            ∙ ap (λ (vs : List Value). with_objects (array_of (length all) vs ∷ (f.made ++ os)) m) slots;
        count = length-append f.values (w ∷ []) ∙ omega (arith, f.count);
        item =
            ap (λ j. (f.values ++ w ∷ []) ++ (row_made names j (drop (i + 1) all)).item) behind
            ∙ append_assoc f.values (w ∷ []) (row_made names (k + length os) (drop (i + 1) all)).item
            ∙ sym (ap (λ (x : Made (List Value)). f.values ++ x.item) row) ∙ f.item;
        objects =
            ap (λ j. (f.made ++ os) ++ (row_made names j (drop (i + 1) all)).objects) behind
            ∙ append_assoc f.made os (row_made names (k + length os) (drop (i + 1) all)).objects
            ∙ sym (ap (λ (x : Made (List Value)). f.made ++ x.objects) row) ∙ f.objects;
        cells = omega (arith, f.cells, cells);
        few = omega (arith, f.few, few, length-append f.made os);
        left = λ r. left r ∙ omega (arith, f.left r);
      }

-- all items are made
pub filling-end : (names : List Text) (m now : Memory) (all : List Literal) (i : ℕ) (reserved : Bool) (room_before room : ℕ) → length all ≤ i → Filling names m all i now reserved room_before room
    → now ≡ with_objects (objects_of names (length m.store.objects) (ArrayLiteral (literal_row all))) m
filling-end names m now all i reserved room_before room past f =
    let n : ℕ = suc (length m.store.objects) in
    let none : drop i all ≡ [] = drop_all i all past in
    let items : f.values ≡ (row_made names n all).item = sym (append-nil f.values) ∙ sym (ap (λ (ls : List Literal). f.values ++ (row_made names (n + length f.made) ls).item) none) ∙ f.item in
    let objects : f.made ≡ (row_made names n all).objects = sym (append-nil f.made) ∙ sym (ap (λ (ls : List Literal). f.made ++ (row_made names (n + length f.made) ls).objects) none) ∙ f.objects in
    let size : length all ≡ length (row_made names n all).item = sym (item-count names n (literal_row all) ∙ row-count all) in
    let left : length all - i ≡ 0 = omega (arith, past) in
    f.here
    ∙ ap (λ j. with_objects (array_of (length all) (f.values ++ replicate j Nil) ∷ f.made) m) left
    ∙ ap (λ (vs : List Value). with_objects (array_of (length all) vs ∷ f.made) m) (append-nil f.values ∙ items)
    ∙ ap (λ (os : List Object). with_objects (array_of (length all) (row_made names n all).item ∷ os) m) objects
    ∙ ap (λ k. with_objects (array_of k (row_made names n all).item ∷ (row_made names n all).objects) m) size

pub filling-left : (names : List Text) (m now : Memory) (all : List Literal) (i : ℕ) (reserved : Bool) (room_before room : ℕ) → length all ≤ i → Filling names m all i now reserved room_before room
    → IsTrue reserved → room ≡ room_before - literal_cells (ArrayLiteral (literal_row all))
filling-left names m now all i reserved room_before room past f r =
    let none : row_cells (literal_row (drop i all)) ≡ 0 = ap (λ (ls : List Literal). row_cells (literal_row ls)) (drop_all i all past) in
    let size : count_in (literal_row all) ≡ length all = row-count all in
    omega (arith, f.left r, f.cells, none, size)
