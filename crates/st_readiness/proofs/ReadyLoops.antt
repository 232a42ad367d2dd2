-- A loop that stands well in a sound store begins and goes on.
use Rattle.std.proofs.Common.{◌≡◌, ℕ, ◌*◌, ◌/◌, ◌%◌, ◌≤◌, ◌<◌, int_lt, T, Bool, true, false, not, nat_eq, nat_le, ◌&&◌, length, eqb-true, refl, arith}
use Rattle.std.proofs.lemmas.Bool.Decides.{nat_tests}
use Rattle.object_heap.specs.declared.value.Value.{Value}
use Rattle.object_heap.specs.declared.value.Value.TheVariants.{Object}
use Rattle.object_heap.specs.Store.{Store, object_at}
use Rattle.st_code.specs.BuiltIns.{set_class, dictionary_class, ordered_collection_class}
use Rattle.st_code.specs.Lookup.{level_of}
use Rattle.st_code.specs.Messages.{LoopMessage}
use Rattle.st_collections.specs.Actions.{LoopState}
use Rattle.st_collections.specs.Items.{is_measured}
use Rattle.st_collections.specs.Kinds.{integer_of}
use Rattle.st_collections.proofs.Conditions.{so_measured}
use Rattle.st_loops.specs.Requests.{HasElements, HasGathered, HasPairs, HasRoom, IsKept, IsReceiver}
use Rattle.st_loops.specs.Tests.{has_elements, has_gathered, has_pairs, has_room, may_change, may_keep}
use Rattle.st_sound.specs.Receivers.{is_listed, takes_loop}
use Rattle.st_sound.proofs.Meets.{values_measured, receivers_stand}
use Rattle.st_readiness.specs.Readiness.{LoopsMayBegin, LoopsGoOn}

both_hold : (a b : Bool) → a ≡ true → b ≡ true → (a && b) ≡ true
both_hold a b e f = cc

holds : (b : Bool) → T b → b ≡ true
holds true t = refl
holds false t = absurd t

-- ---- the tests in plain numbers

roomy_test : (class size room : ℕ) → 0 < class → size ≤ room → (not (nat_eq class 0) && nat_le size room) ≡ true
roomy_test class size room l e = grind (arith, nat_tests)

single_test : (class size room : ℕ) → class ≡ set_class → size ≤ room → (not (nat_eq class dictionary_class) && (not (nat_eq class 0) && nat_le size room)) ≡ true
single_test class size room c e = grind (arith, nat_tests)

even_rest : (n : ℕ) → n ≡ 2 * (n / 2) → n % 2 ≡ 0
even_rest n e = omega (arith, e)

paired_test : (class size room size_rest room_rest : ℕ) → class ≡ dictionary_class → size_rest ≡ 0 → room_rest ≡ 0 → size ≤ room → (nat_eq class dictionary_class && nat_eq size_rest 0 && nat_eq room_rest 0 && (not (nat_eq class 0) && nat_le size room)) ≡ true
paired_test class size room size_rest room_rest c e f l = grind (arith, nat_tests)

gathered_test : (class size room : ℕ) → class ≡ ordered_collection_class → size ≤ room → (nat_eq class ordered_collection_class && (not (nat_eq class 0) && nat_le size room)) ≡ true
gathered_test class size room c e = grind (arith, nat_tests)

listed_class : (class : ℕ) → is_listed class ≡ true → 0 < class
listed_class class e = grind (arith, nat_tests)

dictionary_there : (class : ℕ) → nat_eq class dictionary_class ≡ true → 0 < class
dictionary_there class e = grind (arith, nat_tests)

-- ---- receivers

module _ (s : Store) where
  elements_so : (r : Value) → nat_eq (level_of s r).class set_class ≡ true → HasElements s r → has_elements s r ≡ true
  unfolding level_of
  elements_so (Object n) e h = single_test (object_at n s).class (length (object_at n s).slots) (object_at n s).capacity (eqb-true (object_at n s).class set_class e) h.roomy.room
  elements_so r e h = refl

  pairs_so : (r : Value) → HasPairs s r → has_pairs s r ≡ true
  pairs_so (Object n) h =
      let o = object_at n s in
      paired_test o.class (length o.slots) o.capacity (length o.slots % 2) (o.capacity % 2) h.paired (even_rest (length o.slots) h.slots_even) (even_rest o.capacity h.room_even) h.roomy.room
  pairs_so r h = refl

  room_so : (r : Value) → 0 < (level_of s r).class → HasRoom s r → has_room s r ≡ true
  unfolding level_of
  room_so (Object n) l h = roomy_test (object_at n s).class (length (object_at n s).slots) (object_at n s).capacity l h.room
  room_so r l h = refl

  change_so : (m : LoopMessage) (r : Value) → takes_loop m (level_of s r).class ≡ true → IsReceiver s m r → may_change s m r ≡ true
  change_so LoopMessage.AddToSet r e h = elements_so r e h
  change_so LoopMessage.AtPut r e h = pairs_so r h
  change_so LoopMessage.AtIfAbsentPut r e h = pairs_so r h
  change_so LoopMessage.Remove r e h = room_so r (listed_class (level_of s r).class e) h
  change_so LoopMessage.RemoveIfAbsent r e h = room_so r (listed_class (level_of s r).class e) h
  change_so LoopMessage.RemoveKey r e h = room_so r (dictionary_there (level_of s r).class e) h
  change_so LoopMessage.RemoveKeyIfAbsent r e h = room_so r (dictionary_there (level_of s r).class e) h
  change_so m r e h = refl

  -- ---- what a loop keeps

  gathered_so : (v : Value) → HasGathered s v → has_gathered s v ≡ true
  gathered_so (Object n) h = gathered_test (object_at n s).class (length (object_at n s).slots) (object_at n s).capacity h.ordered h.roomy.room
  gathered_so v h = refl

  keep_so : (m : LoopMessage) (l : LoopState) → IsKept s m l → may_keep s m l ≡ true
  keep_so LoopMessage.Collect l h = gathered_so l.made h
  keep_so LoopMessage.Select l h = gathered_so l.made h
  keep_so LoopMessage.Reject l h = gathered_so l.made h
  keep_so LoopMessage.OccurrencesOf l h = holds (int_lt (integer_of l.made) l.index) h.lt
  keep_so m l h = refl

-- ---- the laws

pub loops_may_begin : LoopsMayBegin
loops_may_begin s h l g =
    both_hold (is_measured s l.receiver) (may_change s l.message l.receiver) (so_measured s l.receiver (values_measured s h l.receiver))
    (change_so s l.message l.receiver g.receiver (receivers_stand s h l.message l.receiver g.receiver))

pub loops_go_on : LoopsGoOn
loops_go_on s h l g = both_hold _ (may_keep s l.message l) (loops_may_begin s h l g) (keep_so s l.message l g.kept)
