-- Stores in which each object has the slots that its class names.
use Rattle.std.proofs.Common.{◌≡◌, ℕ, zero, suc, ◌+◌, ◌-◌, ◌≤◌, length, get_or, take, replicate, slice_set, List, [], ◌∷◌, ◌++◌, true, false, refl, sym, ◌∙◌, subst, arith, true≢false}
use Rattle.std.proofs.lemmas.List.{length-append, length-replicate}
use Rattle.object_heap.specs.declared.value.Value.{Value}
use Rattle.object_heap.specs.declared.value.Value.TheVariants.{Nil, Class, Object}
use Rattle.object_heap.specs.declared.value.Closure.{Closure}
use Rattle.object_heap.specs.Store.{Store, Object as HeapObject, no_object, object_at, with_slot, with_byte}
use Rattle.st_code.specs.Program.{Program, body_at, class_at}
use Rattle.st_code.specs.BuiltIns.{exception_set_class}
use Rattle.st_code.specs.Messages.{LoopMessage}
use Rattle.st_collections.specs.Actions.{Action, Changes, Makes, Activates, Iterates, Raises, LoopState, Visit, Applies, Compares, Finishes, Lacks, Charges, with_new}
use Rattle.st_collections.specs.SequenceRows.{with_elements, without_element}
use Rattle.st_rules.specs.Rules.{exception_slots, with_exception}
use Rattle.st_rules.proofs.ValuesHave.{set_size}
use Rattle.st_variables.specs.Known.{InFile, Full, AllFull, KnowsVariables}

-- ---- what actions, loops and visits keep

-- a closure is of the class of its code
abbrev pub ClosureIs : Program → Closure → Type 0
ClosureIs p c = c.class ≡ (body_at p c.code).class

abbrev pub ClosuresAre : Program → List Closure → Type 0
ClosuresAre p [] = Unit {0}
ClosuresAre p (c ∷ closures) = ClosureIs p c × ClosuresAre p closures

-- no object of a class of the file, and no such class
abbrev pub NoObject : Program → Store → Value → Type 0
NoObject p s v = (n : ℕ) → v ≡ Object n → InFile p (object_at n s).class → ⊥

abbrev pub NoClass : Program → Value → Type 0
NoClass p v = (c : ℕ) → v ≡ Class c → InFile p c → ⊥

-- a loop that takes elements out of its receiver
abbrev pub MessageKeeps : Program → Store → LoopMessage → Value → Type 0
MessageKeeps p s LoopMessage.Remove r = NoObject p s r
MessageKeeps p s LoopMessage.RemoveIfAbsent r = NoObject p s r
MessageKeeps p s LoopMessage.RemoveKey r = NoObject p s r
MessageKeeps p s LoopMessage.RemoveKeyIfAbsent r = NoObject p s r
MessageKeeps p s m r = Unit {0}

abbrev pub LoopKeeps : Program → Store → LoopState → Type 0
LoopKeeps p s l = MessageKeeps p s l.message l.receiver

abbrev pub VisitKeeps : Program → Store → Visit → Type 0
VisitKeeps p s (Applies l v args) = LoopKeeps p s l
VisitKeeps p s (Compares l r v) = LoopKeeps p s l
VisitKeeps p s (Finishes v) = Unit {0}
VisitKeeps p s (Lacks l) = LoopKeeps p s l
VisitKeeps p s (Charges cells t v) = AllFull p t.objects × VisitKeeps p t v

abbrev pub ActionKeeps : Program → Store → Action → Type 0
ActionKeeps p s (Changes t v) = AllFull p t.objects
ActionKeeps p s (Makes cells t v) = AllFull p t.objects
ActionKeeps p s (Raises t e) = AllFull p t.objects
ActionKeeps p s (Activates c args) = ClosureIs p c
ActionKeeps p s (Iterates l) = LoopKeeps p s l
ActionKeeps p s a = Unit {0}

module _ (p : Program) (known : KnowsVariables p) where
  pub not_of_file : (class : ℕ) → class ≤ exception_set_class → InFile p class → ⊥
  not_of_file class l e = true≢false (sym e ∙ known.built_in class l)

  -- ---- lists of objects

  pub full_at : (os : List HeapObject) (n : ℕ) → AllFull p os → Full p (get_or os n no_object)
  full_at [] n h = λ e. absurd (not_of_file 0 (omega arith) e)
  full_at (o ∷ os) zero h = h.0
  full_at (o ∷ os) (suc n) h = full_at os n h.1

  pub full_append : (os qs : List HeapObject) → AllFull p os → AllFull p qs → AllFull p (os ++ qs)
  full_append [] qs h i = i
  full_append (o ∷ os) qs h i = (h.0, full_append os qs h.1 i)

  full_set : (os : List HeapObject) (n : ℕ) (o : HeapObject) → AllFull p os → Full p o → AllFull p (slice_set os n o)
  full_set [] n o h f = tt
  full_set (q ∷ os) zero o h f = (f, h.1)
  full_set (q ∷ os) (suc n) o h f = (h.0, full_set os n o h.1 f)

  -- ---- stores

  pub new_full : (class : ℕ) (slots : List Value) (bytes : List ℕ) (s : Store) → AllFull p s.objects → (InFile p class → (class_at p class).slots ≤ length slots) → AllFull p (with_new class slots bytes s).objects
  unfolding with_new
  new_full class slots bytes s h f = full_append s.objects _ h ((λ e. (refl, f e)), tt)

  pub built_full : (class : ℕ) (slots : List Value) (bytes : List ℕ) (s : Store) → AllFull p s.objects → class ≤ exception_set_class → AllFull p (with_new class slots bytes s).objects
  built_full class slots bytes s h l = new_full class slots bytes s h (λ e. absurd (not_of_file class l e))

  pub slot_full : (n i : ℕ) (v : Value) (s : Store) → AllFull p s.objects → AllFull p (with_slot n i v s).objects
  slot_full n i v s h =
      let o = object_at n s in
      full_set s.objects n _ h (λ e. let f = full_at s.objects n h e in (f.0, subst (λ k. (class_at p o.class).slots ≤ k) (sym (set_size o.slots i v)) f.1))

  pub byte_full : (n i byte : ℕ) (s : Store) → AllFull p s.objects → AllFull p (with_byte n i byte s).objects
  byte_full n i byte s h = full_set s.objects n _ h (λ e. full_at s.objects n h e)

  -- with no fewer slots
  pub elements_full : (n : ℕ) (slots : List Value) (s : Store) → AllFull p s.objects → length (object_at n s).slots ≤ length slots → AllFull p (with_elements s n slots).store.objects
  unfolding with_elements
  elements_full n slots s h l = full_set s.objects n _ h (λ e. let f = full_at s.objects n h e in (f.0, omega (arith, f.1, l)))

  -- with one less, where the object is of no class of the file
  pub removed_full : (n i : ℕ) (s : Store) → AllFull p s.objects → (InFile p (object_at n s).class → ⊥) → AllFull p (without_element s n i).objects
  unfolding without_element
  removed_full n i s h none = full_set s.objects n _ h (λ e. absurd (none e))

  -- an exception that is made at its signal point has the slots of its class
  slots_enough : (n : ℕ) (vs : List Value) → n ≤ length (take n (vs ++ replicate (n - length vs) Nil))
  slots_enough n vs =
      let a = length-append vs (replicate (n - length vs) Nil) in
      let b : length (replicate (n - length vs) Nil) ≡ n - length vs = length-replicate (n - length vs) Nil in
      taken n (vs ++ replicate (n - length vs) Nil) (omega (arith, a, b))
    where
      taken : (n : ℕ) (vs : List Value) → n ≤ length vs → n ≤ length (take n vs)
      taken zero vs l = omega arith
      taken (suc n) [] l = let none : ⊥ = omega (arith, l) in absurd none
      taken (suc n) (v ∷ vs) l = let i = taken n vs (omega (arith, l)) in omega (arith, i)

  exception_enough : (class : ℕ) (slots : List Value) → (class_at p class).slots ≤ length (exception_slots p class slots)
  unfolding exception_slots
  exception_enough class slots = slots_enough (class_at p class).slots slots

  pub exception_full : (class : ℕ) (slots : List Value) (s : Store) → AllFull p s.objects → AllFull p (with_exception p class slots s).objects
  unfolding with_exception
  exception_full class slots s h = new_full class (exception_slots p class slots) [] s h (λ e. exception_enough class slots)
