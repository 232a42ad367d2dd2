-- What was so of a loop is so in a later store, whose objects have the classes that they had.
use Rattle.std.proofs.Common.{◌≡◌, ℕ, zero, suc, ◌<◌, ◌≤◌, nat_eq, length, get_or, slice_set, List, [], ◌∷◌, Bool, true, false, true≢false, refl, sym, ap, ◌∙◌, subst, arith}
use Rattle.std.proofs.lemmas.List.{length-append, get_or_append_left}
use Rattle.object_heap.specs.declared.value.Value.{Value}
use Rattle.object_heap.specs.declared.value.Value.TheVariants.{Nil, True, False, Integer, Character, Symbol, Class, Meta, Transcript, Object}
use Rattle.object_heap.specs.Store.{Store, Object as HeapObject, no_object, object_at, object_set, object_added}
use Rattle.st_code.specs.BuiltIns.{set_class, dictionary_class}
use Rattle.st_code.specs.Lookup.{level_of}
use Rattle.st_code.specs.Messages.{LoopMessage}
use Rattle.st_collections.specs.Actions.{LoopState, with_new}
use Rattle.st_collections.specs.SequenceRows.{with_elements}
use Rattle.st_loops.specs.Requests.{HasGathered, IsKept}
use Rattle.st_sound.specs.Receivers.{is_listed, takes_loop}
use Rattle.st_sound.specs.SoundActions.{LoopStands}
use Rattle.st_sound.specs.SoundStore.{SoundStore}
use Rattle.st_sound.proofs.SoundObjects.{class_there}

pub record Later (s t : Store) : Type 0 where
  pub more : length s.objects ≤ length t.objects
  pub classes : (n : ℕ) → n < length s.objects → (object_at n t).class ≡ (object_at n s).class

-- ---- stores that are later

set_size : (os : List HeapObject) (n : ℕ) (o : HeapObject) → length (slice_set os n o) ≡ length os
set_size [] n o = refl
set_size (q ∷ os) zero o = refl
set_size (q ∷ os) (suc n) o = ap suc (set_size os n o)

set_class_of : (os : List HeapObject) (n m : ℕ) (o : HeapObject) → o.class ≡ (get_or os n no_object).class → (get_or (slice_set os n o) m no_object).class ≡ (get_or os m no_object).class
set_class_of [] n m o c = refl
set_class_of (q ∷ os) zero zero o c = c
set_class_of (q ∷ os) zero (suc m) o c = refl
set_class_of (q ∷ os) (suc n) zero o c = refl
set_class_of (q ∷ os) (suc n) (suc m) o c = set_class_of os n m o c

pub set_later : (s : Store) (n : ℕ) (o : HeapObject) → o.class ≡ (object_at n s).class → Later s (object_set n o s)
set_later s n o c = let e = set_size s.objects n o in record { more = omega (arith, e); classes = λ m l. set_class_of s.objects n m o c }

pub added_later : (s : Store) (o : HeapObject) → Later s (object_added o s)
added_later s o =
    let e = length-append s.objects (o ∷ []) in
    record { more = omega (arith, e); classes = λ n l. ap (λ (q : HeapObject). q.class) (get_or_append_left s.objects (o ∷ []) no_object n l) }

pub new_later : (s : Store) (class : ℕ) (slots : List Value) (bytes : List ℕ) → Later s (with_new class slots bytes s)
unfolding with_new
new_later s class slots bytes = added_later s _

pub elements_later : (s : Store) (n : ℕ) (slots : List Value) → Later s (with_elements s n slots).store
unfolding with_elements
elements_later s n slots = set_later s n _ refl

-- ---- receivers

module _ (s t : Store) (later : Later s t) where
  class_same : (n : ℕ) → ((object_at n s).class ≡ 0 → ⊥) → (object_at n t).class ≡ (object_at n s).class
  class_same n f = later.classes n (class_there s.objects n f)

  -- a test of classes that Object doesn't pass
  passes : (test : ℕ → Bool) → test 0 ≡ false → (r : Value) → test (level_of s r).class ≡ true → test (level_of t r).class ≡ true
  unfolding level_of
  passes test z (Object n) e =
      let there : (object_at n s).class ≡ 0 → ⊥ = λ c. true≢false (sym e ∙ ap test c ∙ z) in
      subst (λ c. test c ≡ true) (sym (class_same n there)) e
  passes test z Nil e = e
  passes test z True e = e
  passes test z False e = e
  passes test z (Integer n) e = e
  passes test z (Character c) e = e
  passes test z (Symbol n) e = e
  passes test z (Class c) e = e
  passes test z (Meta c) e = e
  passes test z Transcript e = e

  pub takes_later : (m : LoopMessage) (r : Value) → takes_loop m (level_of s r).class ≡ true → takes_loop m (level_of t r).class ≡ true
  takes_later LoopMessage.AddToSet r e = passes (λ c. nat_eq c set_class) refl r e
  takes_later LoopMessage.Remove r e = passes (λ c. is_listed c) refl r e
  takes_later LoopMessage.RemoveIfAbsent r e = passes (λ c. is_listed c) refl r e
  takes_later LoopMessage.AtPut r e = passes (λ c. nat_eq c dictionary_class) refl r e
  takes_later LoopMessage.AtIfAbsentPut r e = passes (λ c. nat_eq c dictionary_class) refl r e
  takes_later LoopMessage.RemoveKey r e = passes (λ c. nat_eq c dictionary_class) refl r e
  takes_later LoopMessage.RemoveKeyIfAbsent r e = passes (λ c. nat_eq c dictionary_class) refl r e
  takes_later m r e = refl

  -- ---- the collection that a loop makes

  gathered_later : SoundStore t → (made : Value) → HasGathered s made → HasGathered t made
  gathered_later h (Object n) g =
      let l = g.roomy.stands in
      let m = later.more in
      record { roomy = record { stands = omega (arith, l, m); room = (h.each n).room }; ordered = later.classes n l ∙ g.ordered }
  gathered_later h v g = tt

  pub kept_later : SoundStore t → (m : LoopMessage) (l : LoopState) → IsKept s m l → IsKept t m l
  kept_later h LoopMessage.Collect l k = gathered_later h l.made k
  kept_later h LoopMessage.Select l k = gathered_later h l.made k
  kept_later h LoopMessage.Reject l k = gathered_later h l.made k
  kept_later h LoopMessage.OccurrencesOf l k = k
  kept_later h m l k = tt

  pub loop_later : SoundStore t → (l : LoopState) → LoopStands s l → LoopStands t l
  loop_later h l g = record { receiver = takes_later l.message l.receiver g.receiver; kept = kept_later h l.message l g.kept }
