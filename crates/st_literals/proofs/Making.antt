-- Literals and texts that are made one behind the other.
use Rattle.std.proofs.Common.{◌≡◌, ℕ, suc, ◌+◌, ◌-◌, ◌<◌, ◌≤◌, Bool, IsTrue, List, [], ◌∷◌, ◌++◌, map, drop, get_or, length, refl, ap, sym, ◌∙◌, arith, length-append}
use Rattle.std.proofs.lemmas.List.{append_assoc, append-nil, length-map}
use Rattle.object_heap.specs.Store.{Object}
use Rattle.std.proofs.Math.Seq.{drop-cons}
use Rattle.object_heap.specs.Charges.{Memory, new_memory}
use Rattle.object_heap.specs.declared.trouble.Trouble.{Trouble}
use Rattle.object_heap.specs.Troubles.{text_of}
use Rattle.st_tree.specs.declared.units.Unit.{Unit}
use Rattle.st_code.specs.Definitions.{RunLimits, program_of}
use Rattle.st_code.specs.Written.{named_units}
use Rattle.program_image.specs.Images.{image_names}
use Rattle.program_image.specs.Finding.{program_of_image}
use Rattle.st_literals.specs.Gathered.{units_literals}
use Rattle.st_literals.proofs.Numbering.{program-literals}
use Rattle.st_code.specs.Texts.{Text}
use Rattle.st_code.specs.Literals.{literal_string, trouble_literals}
use Rattle.st_code.specs.Named.{Literal}
use Rattle.st_literals.specs.Cells.{text_cells, literal_cells, cells_of, texts_cells}
use Rattle.st_literals.specs.Numbered.{objects_of, objects_from, with_objects, first_memory}
use Rattle.st_literals.proofs.Counted.{few-objects}
use Rattle.st_literals.proofs.Filling.{objects-twice, no-objects}

-- some literals are made behind the objects of a memory, and others are left
pub record MakingAll (names : List Text) (m : Memory) (all rest : List Literal) (now : Memory) (reserved : Bool) (room_before room : ℕ) : Type 0 where
  pub made : List Object
  pub spent : ℕ
  pub here : now ≡ with_objects made m
  pub objects : made ++ objects_from names (length m.store.objects + length made) rest ≡ objects_from names (length m.store.objects) all
  pub cells : spent + cells_of rest ≡ cells_of all
  pub few : length made ≤ spent
  pub left : IsTrue reserved → room ≡ room_before - spent

pub all-first : (names : List Text) (m : Memory) (all : List Literal) (reserved : Bool) (room : ℕ) → MakingAll names m all all m reserved room room
all-first names m all reserved room =
    let e : length m.store.objects + 0 ≡ length m.store.objects = omega arith in
    record { made = []; spent = 0; here = no-objects m; objects = ap (λ k. objects_from names k all) e; cells = omega arith; few = omega arith; left = λ r. omega arith }

pub all-number : {names : List Text} {m now : Memory} {all rest : List Literal} {reserved : Bool} {room_before room : ℕ} → (f : MakingAll names m all rest now reserved room_before room) → length now.store.objects ≡ length m.store.objects + length f.made
all-number {m = m} f = ap (λ (x : Memory). length x.store.objects) f.here ∙ length-append m.store.objects f.made

pub all-next : (names : List Text) (m now after : Memory) (all rest before : List Literal) (reserved : Bool) (room_before room room_next : ℕ) (l : Literal) → before ≡ l ∷ rest → (f : MakingAll names m all before now reserved room_before room)
    → after ≡ with_objects (objects_of names (length now.store.objects) l) now → (IsTrue reserved → room_next ≡ room - literal_cells l) → MakingAll names m all rest after reserved room_before room_next
all-next names m now after all rest before reserved room_before room room_next l at f made left =
    let k : ℕ = length m.store.objects + length f.made in
    let os : List Object = objects_of names k l in
    let few : length os ≤ literal_cells l = few-objects names k l in
    let e : length m.store.objects + length (f.made ++ os) ≡ k + length os = omega (arith, length-append f.made os) in
    record {
      made = f.made ++ os;
      spent = f.spent + literal_cells l;
      here = made ∙ ap (λ j. with_objects (objects_of names j l) now) (all-number f) ∙ ap (λ (x : Memory). with_objects os x) f.here ∙ objects-twice f.made os m;
      objects = ap (λ j. (f.made ++ os) ++ objects_from names j rest) e ∙ append_assoc f.made os (objects_from names (k + length os) rest) ∙ sym (ap (λ (ls : List Literal). f.made ++ objects_from names k ls) at) ∙ f.objects;
      cells = omega (arith, f.cells, ap cells_of at);
      few = omega (arith, f.few, few, length-append f.made os);
      left = λ r. left r ∙ omega (arith, f.left r);
    }

-- there is room for one more
pub all-few : {names : List Text} {m now : Memory} {all before rest : List Literal} {reserved : Bool} {room_before room : ℕ} {l : Literal} → (f : MakingAll names m all before now reserved room_before room) → before ≡ l ∷ rest
    → length m.store.objects + cells_of all ≤ 2147483648 → length now.store.objects + literal_cells l ≤ 2147483648
all-few f at few = omega (arith, all-number f, f.few, f.cells, ap cells_of at, few)

pub all-room : {names : List Text} {m now : Memory} {all before rest : List Literal} {reserved : Bool} {room_before room : ℕ} {l : Literal} → (f : MakingAll names m all before now reserved room_before room) → before ≡ l ∷ rest
    → IsTrue reserved → cells_of all ≤ room_before → literal_cells l ≤ room
all-room f at r fits = omega (arith, f.left r, f.cells, ap cells_of at, fits)

pub all-end : (names : List Text) (m now : Memory) (all rest : List Literal) (reserved : Bool) (room_before room : ℕ) → rest ≡ [] → MakingAll names m all rest now reserved room_before room → now ≡ with_objects (objects_from names (length m.store.objects) all) m
all-end names m now all rest reserved room_before room none f =
    f.here ∙ ap (λ (os : List Object). with_objects os m) (sym (append-nil f.made) ∙ sym (ap (λ (ls : List Literal). f.made ++ objects_from names (length m.store.objects + length f.made) ls) none) ∙ f.objects)

pub all-left : (names : List Text) (m now : Memory) (all rest : List Literal) (reserved : Bool) (room_before room : ℕ) → rest ≡ [] → MakingAll names m all rest now reserved room_before room → IsTrue reserved → room ≡ room_before - cells_of all
all-left names m now all rest reserved room_before room none f r = omega (arith, f.left r, f.cells, ap cells_of none)

-- ---- texts

pub record MakingTexts (m : Memory) (all rest : List Text) (now : Memory) (reserved : Bool) (room_before room : ℕ) : Type 0 where
  pub made : List Text
  pub spent : ℕ
  pub here : now ≡ with_objects (map literal_string made) m
  pub texts : made ++ rest ≡ all
  pub cells : spent + texts_cells rest ≡ texts_cells all
  pub few : length made ≤ spent
  pub left : IsTrue reserved → room ≡ room_before - spent

pub texts-first : (m : Memory) (all : List Text) (reserved : Bool) (room : ℕ) → MakingTexts m all all m reserved room room
texts-first m all reserved room = record { made = []; spent = 0; here = no-objects m; texts = refl; cells = omega arith; few = omega arith; left = λ r. omega arith }

pub texts-number : {m now : Memory} {all rest : List Text} {reserved : Bool} {room_before room : ℕ} → (f : MakingTexts m all rest now reserved room_before room) → length now.store.objects ≡ length m.store.objects + length f.made
texts-number {m = m} f = ap (λ (x : Memory). length x.store.objects) f.here ∙ length-append m.store.objects (map literal_string f.made) ∙ ap (λ k. length m.store.objects + k) (length-map f.made literal_string)

map-last : (ts : List Text) (t : Text) → map literal_string (ts ++ t ∷ []) ≡ map literal_string ts ++ literal_string t ∷ []
map-last [] t = refl
map-last (u ∷ ts) t = ap (λ (os : List Object). literal_string u ∷ os) (map-last ts t)

pub texts-few : {m now : Memory} {all before rest : List Text} {reserved : Bool} {room_before room : ℕ} {t : Text} → (f : MakingTexts m all before now reserved room_before room) → before ≡ t ∷ rest
    → length m.store.objects + texts_cells all ≤ 2147483648 → length now.store.objects + text_cells t ≤ 2147483648
texts-few f at few = omega (arith, texts-number f, f.few, f.cells, ap texts_cells at, few)

pub texts-room : {m now : Memory} {all before rest : List Text} {reserved : Bool} {room_before room : ℕ} {t : Text} → (f : MakingTexts m all before now reserved room_before room) → before ≡ t ∷ rest
    → IsTrue reserved → texts_cells all ≤ room_before → text_cells t ≤ room
texts-room f at r fits = omega (arith, f.left r, f.cells, ap texts_cells at, fits)

pub texts-next : (m now after : Memory) (all rest before : List Text) (reserved : Bool) (room_before room room_next : ℕ) (t : Text) → before ≡ t ∷ rest → (f : MakingTexts m all before now reserved room_before room)
    → after ≡ with_objects (literal_string t ∷ []) now → (IsTrue reserved → room_next ≡ room - text_cells t) → MakingTexts m all rest after reserved room_before room_next
texts-next m now after all rest before reserved room_before room room_next t at f made left =
    record {
      made = f.made ++ t ∷ [];
      spent = f.spent + text_cells t;
      here = made ∙ ap (λ (x : Memory). with_objects (literal_string t ∷ []) x) f.here ∙ objects-twice (map literal_string f.made) (literal_string t ∷ []) m ∙ ap (λ (os : List Object). with_objects os m) (sym (map-last f.made t));
      texts = append_assoc f.made (t ∷ []) rest ∙ sym (ap (λ (ts : List Text). f.made ++ ts) at) ∙ f.texts;
      cells = omega (arith, f.cells, ap texts_cells at);
      few = omega (arith, f.few, length-append f.made (t ∷ []));
      left = λ r. left r ∙ omega (arith, f.left r);
    }

pub texts-end : (m now : Memory) (all rest : List Text) (reserved : Bool) (room_before room : ℕ) → rest ≡ [] → MakingTexts m all rest now reserved room_before room → now ≡ with_objects (map literal_string all) m
texts-end m now all rest reserved room_before room none f =
    f.here ∙ ap (λ (ts : List Text). with_objects (map literal_string ts) m) (sym (append-nil f.made) ∙ sym (ap (λ (ts : List Text). f.made ++ ts) none) ∙ f.texts)

pub trouble-next : (xs : List Trouble) (i : ℕ) (d : Trouble) (t : Text) → i < length xs → t ≡ text_of (get_or xs i d) → map text_of (drop i xs) ≡ t ∷ map text_of (drop (i + 1) xs)
trouble-next xs i d t low is =
    let next : suc i ≡ i + 1 = omega arith in
    ap (map text_of) (drop-cons xs i d low) ∙ ap (λ (u : Text). u ∷ map text_of (drop (suc i) xs)) (sym is) ∙ ap (λ j. t ∷ map text_of (drop j xs)) next

-- ---- a whole heap

few-all : (names : List Text) (n : ℕ) (ls : List Literal) → length (objects_from names n ls) ≤ cells_of ls
few-all names n [] = omega arith
few-all names n (l ∷ ls) =
    let os : List Object = objects_of names n l in
    let rest : List Object = objects_from names (n + length os) ls in
    omega (arith, length-append os rest, few-objects names n l, few-all names (n + length os) ls)

pub heap-few : (names : List Text) (ls : List Literal) (m now : Memory) (limit cells texts room : ℕ) → m ≡ new_memory limit → now ≡ with_objects (objects_from names (length m.store.objects) ls) m
    → cells ≡ cells_of ls → room ≡ cells + texts → room ≤ 2147483648 → length now.store.objects + texts ≤ 2147483648
heap-few names ls m now limit cells texts room new made counted sum few =
    let none : length m.store.objects ≡ 0 = ap (λ (x : Memory). length x.store.objects) new in
    let size : length now.store.objects ≡ length m.store.objects + length (objects_from names (length m.store.objects) ls) = ap (λ (x : Memory). length x.store.objects) made ∙ length-append m.store.objects (objects_from names (length m.store.objects) ls) in
    omega (arith, none, size, few-all names (length m.store.objects) ls, counted, sum, few)

limit-is : (units : List Unit) (limits : RunLimits) → (program_of_image units limits).cell_limit ≡ limits.cells
unfolding program_of_image program_of
limit-is units limits = refl

pub heap-first : (units : List Unit) (limits : RunLimits) (names : List Text) (ls : List Literal) (m now last : Memory) (cells : ℕ) → m ≡ new_memory cells → now ≡ with_objects (objects_from names (length m.store.objects) ls) m → last ≡ with_objects trouble_literals now
    → names ≡ (image_names units).names → ls ≡ units_literals (named_units units) → limits.cells ≡ cells → last ≡ first_memory (program_of_image units limits)
heap-first units limits names ls m now last cells new made behind same all limit =
    behind ∙ ap (λ (x : Memory). with_objects trouble_literals x) (made ∙ ap (λ (x : Memory). with_objects (objects_from names (length x.store.objects) ls) x) new)
    ∙ ap (λ (ts : List Text). with_objects trouble_literals (with_objects (objects_from ts 0 ls) (new_memory cells))) same
    ∙ ap (λ (xs : List Literal). with_objects trouble_literals (with_objects (objects_from (image_names units).names 0 xs) (new_memory cells))) all
    ∙ ap (λ (os : List Object). record { store = record { objects = os; closures = []; scopes = [] }; used = 0; limit = cells }) (sym (program-literals units limits))
    ∙ ap (λ (k : ℕ). record { store = record { objects = (program_of_image units limits).literals; closures = []; scopes = [] }; used = 0; limit = k }) (sym limit ∙ sym (limit-is units limits))
