-- What is read of slots or bytes is what stands at an index of the collection.
use Rattle.std.proofs.Common.{◌≡◌, ℕ, ◌-◌, ℤ, true, false, List, length, nat_eq, refl, arith}
use Rattle.std.specs.Prelude.{get_or}
use Rattle.std.proofs.lemmas.Bool.Decides.{nat_tests}
use Rattle.object_heap.specs.declared.value.Value.{Value}
use Rattle.object_heap.specs.declared.value.Value.TheVariants.{Nil, Object}
use Rattle.object_heap.specs.Store.{Store, object_at, slot_at}
use Rattle.st_code.specs.Program.{Program}
use Rattle.st_collections.specs.Kinds.{element, element_at, integer_of, natural_of, size_at, size_of}
use Rattle.st_sprint.specs.declared.places.Place.{Place}
use Rattle.st_sprint.specs.Places.{IsPlace, IsSlot, IsByte, IsStep, has_slots}

-- a class whose elements are its slots is none of the others
module _ (c : ℕ) (e : has_slots c ≡ true) where
  no_string : nat_eq c 9 ≡ false
  no_string = grind (arith, nat_tests)

  no_bytes : nat_eq c 12 ≡ false
  no_bytes = grind (arith, nat_tests)

  no_dictionary : nat_eq c 15 ≡ false
  no_dictionary = grind (arith, nat_tests)

  no_interval : nat_eq c 16 ≡ false
  no_interval = grind (arith, nat_tests)

  size_slots : (slots : List Value) (bytes : List ℕ) → size_at c slots bytes ≡ length slots
  size_slots slots bytes = rw (no_string, no_bytes, no_dictionary, no_interval) refl

  element_slots : (slots : List Value) (bytes : List ℕ) (i : ℕ) → element_at c slots bytes i ≡ get_or slots i Nil
  element_slots slots bytes i = rw (no_string, no_bytes, no_dictionary, no_interval) refl

pub slots_stand : (p : Program) (s : Store) (n : ℕ) (i : ℤ) (place : Place) → has_slots (object_at n s).class ≡ true → IsSlot (object_at n s).slots i place → IsPlace p s (Object n) i place
unfolding size_of element
slots_stand p s n i place e h =
    let o = object_at n s in
    rw (size_slots o.class e o.slots o.bytes, element_slots o.class e o.slots o.bytes (natural_of i - 1)) h

pub bytes_stand : (p : Program) (s : Store) (n : ℕ) (i : ℤ) (place : Place) → (object_at n s).class ≡ 9 → IsByte (object_at n s).bytes i place → IsPlace p s (Object n) i place
unfolding size_of element
bytes_stand p s n i place e h = rw e h

pub steps_stand : (p : Program) (s : Store) (n : ℕ) (i : ℤ) (place : Place) → (object_at n s).class ≡ 16 → IsStep (integer_of (slot_at n 0 s)) (integer_of (slot_at n 1 s)) (integer_of (slot_at n 2 s)) i place → IsPlace p s (Object n) i place
unfolding size_of element
steps_stand p s n i place e h = rw e h
