-- What a sound store gives.
use Rattle.std.proofs.Common.{◌≡◌, ℕ, ◌<◌, nat_eq, ◌||◌, length, Bool, true, false, true≢false, eqb-true, refl, sym, subst, arith}
use Rattle.object_heap.specs.declared.value.Value.{Value}
use Rattle.object_heap.specs.declared.value.Value.TheVariants.{Object}
use Rattle.object_heap.specs.Store.{Store, object_at}
use Rattle.st_code.specs.BuiltIns.{ordered_collection_class, set_class, dictionary_class}
use Rattle.st_code.specs.Lookup.{level_of}
use Rattle.st_code.specs.Messages.{LoopMessage}
use Rattle.st_loops.specs.Growth.{IsRoomy}
use Rattle.st_loops.specs.Requests.{HasElements, HasPairs, HasRoom}
use Rattle.st_sound.specs.Receivers.{is_listed}
use Rattle.st_sound.specs.Requests.{OrderedAreOpen, ReceiversStand, ValuesAreMeasured}
use Rattle.st_sound.specs.SoundStore.{SoundStore, grows}
use Rattle.st_sound.proofs.SoundObjects.{class_there}

pub values_measured : ValuesAreMeasured
values_measured s h (Object n) = (h.each n).measured
values_measured s h v = tt

growing : (class other : ℕ) → class ≡ other → grows other ≡ true → grows class ≡ true
growing class other e g = subst (λ c. grows c ≡ true) (sym e) g

pub ordered_open : OrderedAreOpen
unfolding level_of
ordered_open s h (Object n) e = record { ordered = e; writable = (h.each n).writable (growing (object_at n s).class ordered_collection_class e refl); room = (h.each n).room }
ordered_open s h v e = tt

module _ (s : Store) (h : SoundStore s) where
  there : (n class : ℕ) → (object_at n s).class ≡ class → 0 < class → n < length s.objects
  there n class e l = class_there s.objects n (λ z. let none : ⊥ = omega (arith, e, l, z) in none)

  roomy : (n class : ℕ) → (object_at n s).class ≡ class → 0 < class → IsRoomy s n
  roomy n class e l = record { stands = there n class e l; room = (h.each n).room }

  pairs : (r : Value) → nat_eq (level_of s r).class dictionary_class ≡ true → HasPairs s r
  unfolding level_of
  pairs (Object n) e =
      let c = eqb-true (object_at n s).class dictionary_class e in
      record { roomy = roomy n dictionary_class c (omega arith); paired = c; slots_even = (h.each n).slots_even c; room_even = (h.each n).room_even c }
  pairs r e = tt

  paired_room : (r : Value) → nat_eq (level_of s r).class dictionary_class ≡ true → HasRoom s r
  unfolding level_of
  paired_room (Object n) e = roomy n dictionary_class (eqb-true (object_at n s).class dictionary_class e) (omega arith)
  paired_room r e = tt

  elements : (r : Value) → nat_eq (level_of s r).class set_class ≡ true → HasElements s r
  unfolding level_of
  elements (Object n) e =
      let c = eqb-true (object_at n s).class set_class e in
      record { roomy = roomy n set_class c (omega arith); single = λ d. let none : ⊥ = omega (arith, c, d) in none }
  elements r e = tt

  listed_room : (n : ℕ) (a b : Bool) → nat_eq (object_at n s).class ordered_collection_class ≡ a → nat_eq (object_at n s).class set_class ≡ b → (a || b) ≡ true → IsRoomy s n
  listed_room n true b e f g = roomy n ordered_collection_class (eqb-true (object_at n s).class ordered_collection_class e) (omega arith)
  listed_room n false true e f g = roomy n set_class (eqb-true (object_at n s).class set_class f) (omega arith)
  listed_room n false false e f g = absurd (true≢false (sym g))

  rooms : (r : Value) → is_listed (level_of s r).class ≡ true → HasRoom s r
  unfolding level_of
  rooms (Object n) e = listed_room n (nat_eq (object_at n s).class ordered_collection_class) (nat_eq (object_at n s).class set_class) refl refl e
  rooms r e = tt

pub receivers_stand : ReceiversStand
receivers_stand s h LoopMessage.AddToSet r e = elements s h r e
receivers_stand s h LoopMessage.AtPut r e = pairs s h r e
receivers_stand s h LoopMessage.AtIfAbsentPut r e = pairs s h r e
receivers_stand s h LoopMessage.Remove r e = rooms s h r e
receivers_stand s h LoopMessage.RemoveIfAbsent r e = rooms s h r e
receivers_stand s h LoopMessage.RemoveKey r e = paired_room s h r e
receivers_stand s h LoopMessage.RemoveKeyIfAbsent r e = paired_room s h r e
receivers_stand s h m r e = tt
