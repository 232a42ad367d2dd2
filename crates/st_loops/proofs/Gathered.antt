-- What stays true while a loop makes a collection.
use Rattle.std.proofs.Common.{◌≡◌, ℕ, ◌<◌, ◌≤◌, Bool, true, false, List, [], ◌∷◌, nat_eq, inl, inr, refl, ap, sym, ◌∙◌, arith, length}
use Rattle.std.proofs.lemmas.Bool.{cases_eq, cases_lt, eqb-true, eqb-false}
use Rattle.std.proofs.lemmas.List.{get_or_append_left, get_or_at, get_or_past, get_or-set_other, length-append}
use Rattle.st_collections.specs.Actions.{new_object, with_new}
use Rattle.object_heap.specs.declared.value.Value.{Value}
use Rattle.object_heap.specs.declared.value.Value.TheVariants.{Nil, True, False, Integer, Character, Symbol, Class, Meta, Transcript, Object}
use Rattle.object_heap.specs.Store.{Store, Object as HeapObject, no_object, object_added, object_at, object_set}
use Rattle.st_code.specs.Messages.{LoopMessage}
use Rattle.st_code.specs.BuiltIns.{dictionary_class, interval_class, ordered_collection_class}
use Rattle.st_collections.specs.Items.{IsMeasured}
use Rattle.st_collections.specs.SequenceRows.{with_elements}
use Rattle.st_collections.proofs.Gaps.{object_at_set}
use Rattle.st_loops.specs.Gathering.{gathers}
use Rattle.st_loops.specs.Growth.{IsSingle}
use Rattle.st_loops.specs.Requests.{IsGathered, IsReceiver}
use Rattle.st_loops.specs.Visits.{has_elements}

-- these loops go over elements, and change no receiver
pub gathers-elements : (m : LoopMessage) → gathers m ≡ true → has_elements m ≡ true
gathers-elements LoopMessage.WhileTrue e = cc
gathers-elements LoopMessage.WhileFalse e = cc
gathers-elements LoopMessage.TimesRepeat e = cc
gathers-elements LoopMessage.ToDo e = cc
gathers-elements LoopMessage.ToByDo e = cc
gathers-elements LoopMessage.Do e = cc
gathers-elements LoopMessage.DoSeparatedBy e = cc
gathers-elements LoopMessage.ReverseDo e = cc
gathers-elements LoopMessage.KeysAndValuesDo e = cc
gathers-elements LoopMessage.KeysDo e = cc
gathers-elements LoopMessage.InjectInto e = cc
gathers-elements LoopMessage.Detect e = cc
gathers-elements LoopMessage.DetectIfNone e = cc
gathers-elements LoopMessage.AnySatisfy e = cc
gathers-elements LoopMessage.AllSatisfy e = cc
gathers-elements LoopMessage.Collect e = refl
gathers-elements LoopMessage.Select e = refl
gathers-elements LoopMessage.Reject e = refl
gathers-elements LoopMessage.Includes e = cc
gathers-elements LoopMessage.OccurrencesOf e = cc
gathers-elements LoopMessage.IndexOf e = cc
gathers-elements LoopMessage.AddToSet e = cc
gathers-elements LoopMessage.Remove e = cc
gathers-elements LoopMessage.RemoveIfAbsent e = cc
gathers-elements LoopMessage.At e = cc
gathers-elements LoopMessage.AtIfAbsent e = cc
gathers-elements LoopMessage.AtPut e = cc
gathers-elements LoopMessage.AtIfAbsentPut e = cc
gathers-elements LoopMessage.IncludesKey e = cc
gathers-elements LoopMessage.RemoveKey e = cc
gathers-elements LoopMessage.RemoveKeyIfAbsent e = cc
gathers-elements LoopMessage.EqualElements e = cc
gathers-elements LoopMessage.NotEqual e = cc

pub gathers-receiver : (s : Store) (m : LoopMessage) (r : Value) → gathers m ≡ true → IsReceiver s m r
gathers-receiver s LoopMessage.WhileTrue r e = cc
gathers-receiver s LoopMessage.WhileFalse r e = cc
gathers-receiver s LoopMessage.TimesRepeat r e = cc
gathers-receiver s LoopMessage.ToDo r e = cc
gathers-receiver s LoopMessage.ToByDo r e = cc
gathers-receiver s LoopMessage.Do r e = cc
gathers-receiver s LoopMessage.DoSeparatedBy r e = cc
gathers-receiver s LoopMessage.ReverseDo r e = cc
gathers-receiver s LoopMessage.KeysAndValuesDo r e = cc
gathers-receiver s LoopMessage.KeysDo r e = cc
gathers-receiver s LoopMessage.InjectInto r e = cc
gathers-receiver s LoopMessage.Detect r e = cc
gathers-receiver s LoopMessage.DetectIfNone r e = cc
gathers-receiver s LoopMessage.AnySatisfy r e = cc
gathers-receiver s LoopMessage.AllSatisfy r e = cc
gathers-receiver s LoopMessage.Collect r e = tt
gathers-receiver s LoopMessage.Select r e = tt
gathers-receiver s LoopMessage.Reject r e = tt
gathers-receiver s LoopMessage.Includes r e = cc
gathers-receiver s LoopMessage.OccurrencesOf r e = cc
gathers-receiver s LoopMessage.IndexOf r e = cc
gathers-receiver s LoopMessage.AddToSet r e = cc
gathers-receiver s LoopMessage.Remove r e = cc
gathers-receiver s LoopMessage.RemoveIfAbsent r e = cc
gathers-receiver s LoopMessage.At r e = cc
gathers-receiver s LoopMessage.AtIfAbsent r e = cc
gathers-receiver s LoopMessage.AtPut r e = cc
gathers-receiver s LoopMessage.AtIfAbsentPut r e = cc
gathers-receiver s LoopMessage.IncludesKey r e = cc
gathers-receiver s LoopMessage.RemoveKey r e = cc
gathers-receiver s LoopMessage.RemoveKeyIfAbsent r e = cc
gathers-receiver s LoopMessage.EqualElements r e = cc
gathers-receiver s LoopMessage.NotEqual r e = cc

pub gathered-single : (s : Store) (n : ℕ) → IsGathered s n → IsSingle s n
gathered-single s n h = record { roomy = h.roomy; single = λ is. let e : ordered_collection_class ≡ dictionary_class = sym h.ordered ∙ is in omega arith }

-- a change to an object that is no Interval
changed_case : (b : Bool) (s : Store) (n k : ℕ) (o : HeapObject) → nat_eq k n ≡ b → n < length s.objects → (o.class ≡ interval_class → ⊥) → IsMeasured s (Object k) → IsMeasured (object_set n o s) (Object k)
changed_case true s n k o e stands other h =
    let same : k ≡ n = eqb-true k n e in
    let now : object_at k (object_set n o s) ≡ o = rw same (object_at_set n o s stands) in
    λ is. absurd (other (sym (ap (λ (x : HeapObject). x.class) now) ∙ is))
changed_case false s n k o e stands other h =
    let now : object_at k (object_set n o s) ≡ object_at k s = get_or-set_other s.objects n k o no_object (eqb-false k n e) in
    rw now h

changed_measured : (s : Store) (n k : ℕ) (o : HeapObject) → n < length s.objects → (o.class ≡ interval_class → ⊥) → IsMeasured s (Object k) → IsMeasured (object_set n o s) (Object k)
changed_measured s n k o stands other h = changed_case (nat_eq k n) s n k o refl stands other h

pub measured-grown : (s : Store) (n : ℕ) (slots : List Value) (r : Value) → IsGathered s n → IsMeasured s r → IsMeasured (with_elements s n slots).store r
unfolding with_elements
measured-grown s n slots (Object k) h e = changed_measured s n k _ h.roomy.stands (λ is. let e : ordered_collection_class ≡ interval_class = sym h.ordered ∙ is in omega arith) e
measured-grown s n slots Nil h e = tt
measured-grown s n slots True h e = tt
measured-grown s n slots False h e = tt
measured-grown s n slots (Integer i) h e = tt
measured-grown s n slots (Character i) h e = tt
measured-grown s n slots (Symbol i) h e = tt
measured-grown s n slots (Class i) h e = tt
measured-grown s n slots (Meta i) h e = tt
measured-grown s n slots Transcript h e = tt

-- ---- a new collection

added_low : (s : Store) (k : ℕ) (o : HeapObject) → k < length s.objects → object_at k (object_added o s) ≡ object_at k s
added_low s k o low = get_or_append_left s.objects (o ∷ []) no_object k low

added_class : (s : Store) (k : ℕ) (o : HeapObject) → length s.objects ≤ k → (o.class ≡ interval_class → ⊥) → (object_at k (object_added o s)).class ≡ interval_class → ⊥
added_class s k o high other is = elim (cases_eq k (length s.objects)) [
  | inl last ↦
      let now : object_at k (object_added o s) ≡ o = get_or_at s.objects o [] no_object k (sym last) in
      other (sym (ap (λ (x : HeapObject). x.class) now) ∙ is)
  | inr apart ↦
      let past : length (object_added o s).objects ≤ k = omega (arith, length-append s.objects (o ∷ [])) in
      let none : object_at k (object_added o s) ≡ no_object = get_or_past (object_added o s).objects k no_object past in
      let zeroth : 0 ≡ interval_class = sym (ap (λ (x : HeapObject). x.class) none) ∙ is in
      omega arith
]

added_measured : (s : Store) (k : ℕ) (o : HeapObject) → (o.class ≡ interval_class → ⊥) → IsMeasured s (Object k) → IsMeasured (object_added o s) (Object k)
added_measured s k o other h = elim (cases_lt k (length s.objects)) [
  | inl low ↦ rw (added_low s k o low) h
  | inr high ↦ λ is. absurd (added_class s k o high other is)
]

pub measured-added : (s : Store) (r : Value) → IsMeasured s r → IsMeasured (with_new ordered_collection_class [] [] s) r
unfolding with_new
measured-added s (Object k) h = added_measured s k (new_object ordered_collection_class [] []) (λ is. let e : ordered_collection_class ≡ interval_class = is in omega arith) h
measured-added s Nil h = tt
measured-added s True h = tt
measured-added s False h = tt
measured-added s (Integer i) h = tt
measured-added s (Character i) h = tt
measured-added s (Symbol i) h = tt
measured-added s (Class i) h = tt
measured-added s (Meta i) h = tt
measured-added s Transcript h = tt
