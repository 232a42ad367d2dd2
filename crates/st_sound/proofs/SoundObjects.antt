-- Objects that are made and changed stay sound, and so do stores that hold them.
use Rattle.std.proofs.Common.{◌≡◌, ℕ, zero, suc, ◌+◌, ◌-◌, ◌*◌, ◌/◌, ◌^◌, ◌<◌, ◌≤◌, ◌⊎◌, inl, inr, ℤ, nat_eq, length, get_or, remove, slice_set, List, [], ◌∷◌, ◌++◌, Option, None, Bool, true, false, eqb-true, true≢false, refl, sym, ap, subst, arith, if◌then◌else◌}
use Rattle.std.proofs.Math.Nat.{div-one, one-mul}
use Rattle.std.proofs.lemmas.List.Edits.{length-remove}
use Rattle.std.proofs.lemmas.Bool.{cases_lt}
use Rattle.object_heap.specs.declared.value.Value.{Value}
use Rattle.object_heap.specs.declared.value.Value.TheVariants.{Integer}
use Rattle.object_heap.specs.Store.{Store, Object, no_object, object_at, object_set, object_added, with_slot, with_byte}
use Rattle.st_code.specs.BuiltIns.{dictionary_class, interval_class}
use Rattle.st_collections.specs.Actions.{new_object, with_new}
use Rattle.st_collections.specs.Kinds.{size_at, interval_size}
use Rattle.st_collections.specs.SequenceRows.{grown_to, per_element, with_room, with_elements, without_element}
use Rattle.st_collections.proofs.Rooms.{grown_to_holds}
use Rattle.st_sound.specs.SoundStore.{SoundObject, SoundStore, is_free}

-- ---- classes

pub free_interval : (class : ℕ) → is_free class ≡ true → class ≡ interval_class → ⊥
free_interval class f e = let x : is_free interval_class ≡ true = subst (λ c. is_free c ≡ true) e f in true≢false (sym x)

pub free_dictionary : (class : ℕ) → is_free class ≡ true → class ≡ dictionary_class → ⊥
free_dictionary class f e = let x : is_free dictionary_class ≡ true = subst (λ c. is_free c ≡ true) e f in true≢false (sym x)

-- ---- new objects

pub no_object_sound : SoundObject no_object
no_object_sound =
    record {
      room = omega arith;
      measured = λ e. let none : ⊥ = omega (arith, e) in absurd none;
      writable = λ e. refl;
      slots_even = λ e. refl;
      room_even = λ e. refl;
    }

pub new_free : (class : ℕ) (slots : List Value) (bytes : List ℕ) → is_free class ≡ true → SoundObject (new_object class slots bytes)
new_free class slots bytes f =
    record {
      room = omega arith;
      measured = λ e. absurd (free_interval class f e);
      writable = λ e. refl;
      slots_even = λ e. absurd (free_dictionary class f e);
      room_even = λ e. absurd (free_dictionary class f e);
    }

empty_measured : size_at interval_class [] [] < 2 ^ 127
unfolding interval_size
empty_measured = omega arith

pub new_empty : (class : ℕ) → SoundObject (new_object class [] [])
new_empty class =
    record {
      room = omega arith;
      measured = λ e. empty_measured;
      writable = λ e. refl;
      slots_even = λ e. refl;
      room_even = λ e. refl;
    }

pub new_interval : (start stop by : ℤ) → interval_size start stop by < 2 ^ 127 → SoundObject (new_object interval_class (Integer start ∷ Integer stop ∷ Integer by ∷ []) [])
new_interval start stop by l =
    record {
      room = omega arith;
      measured = λ e. l;
      writable = λ e. refl;
      slots_even = λ e. let none : ⊥ = omega (arith, e) in absurd none;
      room_even = λ e. let none : ⊥ = omega (arith, e) in absurd none;
    }

-- an object with the slots and bytes of another
pub new_like : (o : Object) → SoundObject o → SoundObject (record { class = o.class; slots = o.slots; bytes = o.bytes; capacity = length o.slots; read_only = false; closure = None })
new_like o h = record { room = omega arith; measured = h.measured; writable = λ e. refl; slots_even = h.slots_even; room_even = h.slots_even }

-- a block
pub new_block : (class : ℕ) (closure : Option ℕ) → SoundObject (record { class = class; slots = []; bytes = []; capacity = 0; read_only = false; closure = closure })
new_block class closure =
    record {
      room = omega arith;
      measured = λ e. empty_measured;
      writable = λ e. refl;
      slots_even = λ e. refl;
      room_even = λ e. refl;
    }

-- ---- lists of objects

abbrev pub Each : List Object → Type 0
Each os = (n : ℕ) → SoundObject (get_or os n no_object)

each_rest : (o : Object) (os : List Object) → Each (o ∷ os) → Each os
each_rest o os h n = h (suc n)

added_each : (os : List Object) (o : Object) → Each os → SoundObject o → Each (os ++ o ∷ [])
added_each [] o h g zero = g
added_each [] o h g (suc n) = no_object_sound
added_each (q ∷ os) o h g zero = h zero
added_each (q ∷ os) o h g (suc n) = added_each os o (each_rest q os h) g n

set_each : (os : List Object) (m : ℕ) (o : Object) → Each os → SoundObject o → Each (slice_set os m o)
set_each [] m o h g n = no_object_sound
set_each (q ∷ os) zero o h g zero = g
set_each (q ∷ os) zero o h g (suc n) = h (suc n)
set_each (q ∷ os) (suc m) o h g zero = h zero
set_each (q ∷ os) (suc m) o h g (suc n) = set_each os m o (each_rest q os h) g n

-- one that is set twice
set_again : (os : List Object) (m : ℕ) (o o' : Object) → Each os → SoundObject o' → Each (slice_set (slice_set os m o) m o')
set_again [] m o o' h g n = no_object_sound
set_again (q ∷ os) zero o o' h g zero = g
set_again (q ∷ os) zero o o' h g (suc n) = h (suc n)
set_again (q ∷ os) (suc m) o o' h g zero = h zero
set_again (q ∷ os) (suc m) o o' h g (suc n) = set_again os m o o' (each_rest q os h) g n

pub set_read : (os : List Object) (m : ℕ) (o : Object) → m < length os → get_or (slice_set os m o) m no_object ≡ o
set_read [] m o l = let none : ⊥ = omega (arith, l) in absurd none
set_read (q ∷ os) zero o l = refl
set_read (q ∷ os) (suc m) o l = set_read os m o (omega (arith, l))

-- what has a class other than Object's is there
pub class_there : (os : List Object) (m : ℕ) → ((get_or os m no_object).class ≡ 0 → ⊥) → m < length os
class_there [] m h = absurd (h refl)
class_there (q ∷ os) zero h = omega arith
class_there (q ∷ os) (suc m) h = let l = class_there os m h in omega (arith, l)

set_length : (xs : List Value) (i : ℕ) (v : Value) → length (slice_set xs i v) ≡ length xs
set_length [] i v = refl
set_length (x ∷ xs) zero v = refl
set_length (x ∷ xs) (suc i) v = ap suc (set_length xs i v)

-- ---- stores

pub sound_added : (s : Store) (o : Object) → SoundStore s → SoundObject o → SoundStore (object_added o s)
sound_added s o h g = record { each = added_each s.objects o h.each g }

pub sound_set : (s : Store) (n : ℕ) (o : Object) → SoundStore s → SoundObject o → SoundStore (object_set n o s)
sound_set s n o h g = record { each = set_each s.objects n o h.each g }

pub sound_same : (s t : Store) → s.objects ≡ t.objects → SoundStore s → SoundStore t
sound_same s t e h = record { each = subst Each e h.each }

pub sound_new : (s : Store) (class : ℕ) (slots : List Value) (bytes : List ℕ) → SoundStore s → SoundObject (new_object class slots bytes) → SoundStore (with_new class slots bytes s)
unfolding with_new
sound_new s class slots bytes h g = sound_added s (new_object class slots bytes) h g

-- a slot of an object that is no Interval, and a byte of any
slot_object : (o : Object) (i : ℕ) (v : Value) → (o.class ≡ interval_class → ⊥) → SoundObject o → SoundObject (record { class = o.class; slots = slice_set o.slots i v; bytes = o.bytes; capacity = o.capacity; read_only = o.read_only; closure = o.closure })
slot_object o i v f h =
    let e = set_length o.slots i v in
    record {
      room = subst (λ n. n ≤ o.capacity) (sym e) h.room;
      measured = λ c. absurd (f c);
      writable = h.writable;
      slots_even = λ c. subst (λ n. n ≡ 2 * (n / 2)) (sym e) (h.slots_even c);
      room_even = h.room_even;
    }

pub sound_slot : (s : Store) (n i : ℕ) (v : Value) → SoundStore s → ((object_at n s).class ≡ interval_class → ⊥) → SoundStore (with_slot n i v s)
sound_slot s n i v h f = sound_set s n _ h (slot_object (object_at n s) i v f (h.each n))

byte_object : (o : Object) (i b : ℕ) → SoundObject o → SoundObject (record { class = o.class; slots = o.slots; bytes = slice_set o.bytes i b; capacity = o.capacity; read_only = o.read_only; closure = o.closure })
byte_object o i b h = record { room = h.room; measured = h.measured; writable = h.writable; slots_even = h.slots_even; room_even = h.room_even }

pub sound_byte : (s : Store) (n i b : ℕ) → SoundStore s → SoundStore (with_byte n i b s)
sound_byte s n i b h = sound_set s n _ h (byte_object (object_at n s) i b (h.each n))

-- ---- collections that grow and shrink

abbrev per : Bool → ℕ
per b = if b then 2 else 1

held_by : (b : Bool) (count capacity : ℕ) → (b ≡ true → count ≡ 2 * (count / 2)) → count ≤ per b * (grown_to (count / per b) (capacity / per b)).elements
held_by true count capacity h = let g = grown_to_holds (count / 2) (capacity / 2) in let e = h refl in omega (arith, g, e)
held_by false count capacity h = let g = grown_to_holds count capacity in rw (div-one count, div-one capacity, one-mul (grown_to count capacity).elements) g

double_even : (k x : ℕ) → k ≡ 2 → k * x ≡ 2 * (k * x / 2)
double_even k x e = subst (λ n. n * x ≡ 2 * (n * x / 2)) (sym e) (omega arith)

per_two : (class : ℕ) → class ≡ dictionary_class → per_element class ≡ 2
per_two class e = ap (λ c. per_element c) e

-- other slots, one by one or in pairs
pub sound_grown : (s : Store) (n : ℕ) (slots : List Value) → SoundStore s → ((object_at n s).class ≡ interval_class → ⊥) → ((object_at n s).class ≡ dictionary_class → length slots ≡ 2 * (length slots / 2)) → SoundStore (with_elements s n slots).store
unfolding with_elements
sound_grown s n slots h f g =
    let o = object_at n s in
    let c : (nat_eq o.class dictionary_class ≡ true → length slots ≡ 2 * (length slots / 2)) = λ e. g (eqb-true o.class dictionary_class e) in
    let x = h.each n in
    sound_set s n _ h
    record {
      room = held_by (nat_eq o.class dictionary_class) (length slots) o.capacity c;
      measured = λ e. absurd (f e);
      writable = x.writable;
      slots_even = g;
      room_even = λ e. double_even (per_element o.class) (grown_to (length slots / per_element o.class) (o.capacity / per_element o.class)).elements (per_two o.class e);
    }

-- a slot less, if it is there
remove_past : (xs : List Value) (i : ℕ) → length xs ≤ i → length (remove xs i) ≡ length xs
remove_past [] zero l = refl
remove_past [] (suc i) l = refl
remove_past (x ∷ xs) zero l = let none : ⊥ = omega (arith, l) in absurd none
remove_past (x ∷ xs) (suc i) l = ap suc (remove_past xs i (omega (arith, l)))

remove_one : (xs : List Value) (i : ℕ) → i < length xs → length (remove xs i) + 1 ≡ length xs
remove_one xs i l = length-remove xs i l

remove_less : (xs : List Value) (i : ℕ) → length (remove xs i) ≤ length xs
remove_less [] zero = omega arith
remove_less [] (suc i) = omega arith
remove_less (x ∷ xs) zero = omega arith
remove_less (x ∷ xs) (suc i) = let l = remove_less xs i in omega (arith, l)

pub sound_removed : (s : Store) (n i : ℕ) → SoundStore s → is_free (object_at n s).class ≡ true → SoundStore (without_element s n i)
unfolding without_element
sound_removed s n i h f =
    let o = object_at n s in
    let x = h.each n in
    let l = remove_less o.slots i in
    sound_set s n _ h
    record {
      room = omega (arith, l, x.room);
      measured = λ e. absurd (free_interval o.class f e);
      writable = x.writable;
      slots_even = λ e. absurd (free_dictionary o.class f e);
      room_even = x.room_even;
    }

-- ---- two slots less, of a Dictionary

-- the pair at an index from 1, or none past the last
pair_even : (xs : List Value) (i : ℕ) → length xs ≡ 2 * (length xs / 2) → length (remove (remove xs (2 * i - 1)) (2 * i - 2)) ≡ 2 * (length (remove (remove xs (2 * i - 1)) (2 * i - 2)) / 2)
pair_even xs i e = go (cases_lt (2 * i - 1) (length xs))
  where
    go : (2 * i - 1 < length xs) ⊎ (length xs ≤ 2 * i - 1) → length (remove (remove xs (2 * i - 1)) (2 * i - 2)) ≡ 2 * (length (remove (remove xs (2 * i - 1)) (2 * i - 2)) / 2)
    go (inl l) =
        let a = remove_one xs (2 * i - 1) l in
        let b = remove_one (remove xs (2 * i - 1)) (2 * i - 2) (omega (arith, a, e, l)) in
        omega (arith, a, b, e)
    go (inr l) =
        let a = remove_past xs (2 * i - 1) l in
        let b = remove_past (remove xs (2 * i - 1)) (2 * i - 2) (omega (arith, a, e, l)) in
        omega (arith, a, b, e)

-- the objects after one of them lost two slots
pair_object : (o : Object) (i : ℕ) → SoundObject o → o.class ≡ dictionary_class → SoundObject (with_room (with_room o (remove o.slots (2 * i - 1)) o.capacity) (remove (remove o.slots (2 * i - 1)) (2 * i - 2)) o.capacity)
pair_object o i h c =
    let a = remove_less o.slots (2 * i - 1) in
    let b = remove_less (remove o.slots (2 * i - 1)) (2 * i - 2) in
    record {
      room = omega (arith, a, b, h.room);
      measured = λ e. let none : ⊥ = omega (arith, c, e) in absurd none;
      writable = h.writable;
      slots_even = λ e. pair_even o.slots i (h.slots_even c);
      room_even = h.room_even;
    }

pub sound_pair_removed : (s : Store) (n i : ℕ) → SoundStore s → (object_at n s).class ≡ dictionary_class → SoundStore (without_element (without_element s n (2 * i - 1)) n (2 * i - 2))
unfolding without_element
sound_pair_removed s n i h c =
    let o = object_at n s in
    let o1 = with_room o (remove o.slots (2 * i - 1)) o.capacity in
    let there = class_there s.objects n (λ z. let none : ⊥ = omega (arith, c, z) in none) in
    let read = set_read s.objects n o1 there in
    let second : SoundObject (with_room (get_or (slice_set s.objects n o1) n no_object) (remove (get_or (slice_set s.objects n o1) n no_object).slots (2 * i - 2)) (get_or (slice_set s.objects n o1) n no_object).capacity) =
    subst (λ q. SoundObject (with_room q (remove q.slots (2 * i - 2)) q.capacity)) (sym read) (pair_object o i (h.each n) c) in
    record { each = set_again s.objects n o1 _ h.each second }
