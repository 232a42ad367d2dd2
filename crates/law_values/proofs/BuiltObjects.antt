-- Objects that are made and changed stay built, and so do stores that hold them.
use Rattle.std.proofs.Common.{◌≡◌, ℕ, zero, suc, ◌<◌, ◌≤◌, inl, inr, ℤ, nat_eq, nat_abs, length, get_or, slice_set, List, [], ◌∷◌, ◌++◌, Option, Some, None, Bool, true, false, ◌||◌, true≢false, refl, sym, ap, ◌∙◌, subst, arith}
use Rattle.std.proofs.lemmas.List.{length-append, get_or_append_left}
use Rattle.object_heap.specs.declared.value.Value.{Value}
use Rattle.object_heap.specs.declared.value.Value.TheVariants.{Integer, Symbol, Object}
use Rattle.object_heap.specs.declared.value.Closure.{Closure}
use Rattle.object_heap.specs.Store.{Store, Object as HeapObject, no_object, object_at, object_set, object_added, block_object, block_added, with_slot, with_byte}
use Rattle.st_code.specs.BuiltIns.{fraction_class, array_class, interval_class, block_class, message_class}
use Rattle.st_code.specs.Program.{Program, class_at}
use Rattle.st_collections.specs.Actions.{new_object, with_new}
use Rattle.st_collections.specs.SequenceRows.{with_elements, without_element}
use Rattle.st_numbers.specs.declared.message.Number.{Number}
use Rattle.st_numbers.specs.Numbers.{IsProper}
use Rattle.law_values.specs.BuiltObjects.{is_one_of, bound_classes, fixed_classes, IsFraction, IsInterval, IsMessage, HasClosure, BuiltObject, BuiltStore}
use Rattle.law_values.specs.KnownBuilt.{KnowsBuilt}

-- ---- classes

abbrev pub is_bound : ℕ → Bool
is_bound class = is_one_of bound_classes class

abbrev pub is_fixed : ℕ → Bool
is_fixed class = is_one_of fixed_classes class

-- a test that one class fails and another passes
pub apart : (test : ℕ → Bool) (class other : ℕ) → test class ≡ false → test other ≡ true → class ≡ other → ⊥
apart test class other f t e = true≢false (sym t ∙ ap test (sym e) ∙ f)

pub fraction_apart : (class : ℕ) → is_bound class ≡ false → class ≡ fraction_class → ⊥
fraction_apart class f e = apart (λ c. is_bound c) class fraction_class f refl e

pub interval_apart : (class : ℕ) → is_bound class ≡ false → class ≡ interval_class → ⊥
interval_apart class f e = apart (λ c. is_bound c) class interval_class f refl e

pub block_apart : (class : ℕ) → is_bound class ≡ false → class ≡ block_class → ⊥
block_apart class f e = apart (λ c. is_bound c) class block_class f refl e

pub message_apart : (class : ℕ) → is_bound class ≡ false → class ≡ message_class → ⊥
message_apart class f e = apart (λ c. is_bound c) class message_class f refl e

-- what isn't fixed isn't bound
pub unbound : (class : ℕ) → is_fixed class ≡ false → is_bound class ≡ false
unbound class f = go (nat_eq class 6) (nat_eq class 16) (nat_eq class 18) (nat_eq class 19) _ f
  where
    go : (a b c d e : Bool) → (a || (b || (c || (d || e)))) ≡ false → (a || (b || (c || (d || false)))) ≡ false
    go true b c d e f = f
    go false true c d e f = f
    go false false true d e f = f
    go false false false true e f = f
    go false false false false e f = refl

module _ (p : Program) where
  -- ---- new objects

  pub unbound_object : (s : Store) (o : HeapObject) → is_bound o.class ≡ false → o.closure ≡ None → (is_fixed o.class ≡ true → length o.slots ≡ (class_at p o.class).slots) → o.class < length p.classes → BuiltObject p s o
  unbound_object s o f c g l =
      record {
        classed = l;
        counted = g;
        fraction = λ e. absurd (fraction_apart o.class f e);
        interval = λ e. absurd (interval_apart o.class f e);
        message = λ e. absurd (message_apart o.class f e);
        block = λ e. absurd (block_apart o.class f e);
        only_blocks = inl c;
      }

  pub free_object : (s : Store) (o : HeapObject) → is_fixed o.class ≡ false → o.closure ≡ None → o.class < length p.classes → BuiltObject p s o
  free_object s o f c l = unbound_object s o (unbound o.class f) c (λ e. absurd (true≢false (sym e ∙ f))) l

  pub no_object_built : (s : Store) → 0 < length p.classes → BuiltObject p s no_object
  no_object_built s l = free_object s no_object refl refl l

  -- a program has a class, where a store is built
  some_class : (s : Store) → BuiltStore p s → 0 < length p.classes
  some_class s h = let l = (h.each 0).classed in omega (arith, l)

  -- ---- later stores

  -- as many objects and closures or more, and each object of its class
  pub record Onward (s t : Store) : Type 0 where
    pub more : length s.objects ≤ length t.objects
    pub classes : (n : ℕ) → n < length s.objects → (object_at n t).class ≡ (object_at n s).class
    pub closures : length s.closures ≤ length t.closures

  there : (os : List HeapObject) (m : ℕ) → ((get_or os m no_object).class ≡ 0 → ⊥) → m < length os
  there [] m h = absurd (h refl)
  there (q ∷ os) zero h = omega arith
  there (q ∷ os) (suc m) h = let l = there os m h in omega (arith, l)

  array_on : (s t : Store) → Onward s t → (n : ℕ) → (object_at n s).class ≡ array_class → (object_at n t).class ≡ array_class
  array_on s t e n h = e.classes n (there s.objects n (λ z. let none : ⊥ = omega (arith, h, z) in none)) ∙ h

  message_on : (s t : Store) → Onward s t → (slots : List Value) → IsMessage s slots → IsMessage t slots
  message_on s t e (Symbol k ∷ Object n ∷ []) h = array_on s t e n h
  message_on s t e slots h = absurd h

  closure_on : (s t : Store) → Onward s t → (o : Option ℕ) → HasClosure s o → HasClosure t o
  closure_on s t e (Some k) h = let l = e.closures in omega (arith, h, l)
  closure_on s t e None h = h

  pub built_on : (s t : Store) → Onward s t → (o : HeapObject) → BuiltObject p s o → BuiltObject p t o
  built_on s t e o h =
      record {
        classed = h.classed;
        counted = h.counted;
        fraction = h.fraction;
        interval = h.interval;
        message = λ c. message_on s t e o.slots (h.message c);
        block = λ c. closure_on s t e o.closure (h.block c);
        only_blocks = h.only_blocks;
      }

  -- ---- stores that change

  added_all : (P : HeapObject → Type 0) → P no_object → (os : List HeapObject) (o : HeapObject) → ((n : ℕ) → P (get_or os n no_object)) → P o → (n : ℕ) → P (get_or (os ++ o ∷ []) n no_object)
  added_all P none [] o h g zero = g
  added_all P none [] o h g (suc n) = none
  added_all P none (q ∷ os) o h g zero = h zero
  added_all P none (q ∷ os) o h g (suc n) = added_all P none os o (λ m. h (suc m)) g n

  set_all : (P : HeapObject → Type 0) → P no_object → (os : List HeapObject) (m : ℕ) (o : HeapObject) → ((n : ℕ) → P (get_or os n no_object)) → P o → (n : ℕ) → P (get_or (slice_set os m o) n no_object)
  set_all P none [] m o h g n = none
  set_all P none (q ∷ os) zero o h g zero = g
  set_all P none (q ∷ os) zero o h g (suc n) = h (suc n)
  set_all P none (q ∷ os) (suc m) o h g zero = h zero
  set_all P none (q ∷ os) (suc m) o h g (suc n) = set_all P none os m o (λ k. h (suc k)) g n

  set_size : (os : List HeapObject) (n : ℕ) (o : HeapObject) → length (slice_set os n o) ≡ length os
  set_size [] n o = refl
  set_size (q ∷ os) zero o = refl
  set_size (q ∷ os) (suc n) o = ap suc (set_size os n o)

  set_class_of : (os : List HeapObject) (n m : ℕ) (o : HeapObject) → o.class ≡ (get_or os n no_object).class → (get_or (slice_set os n o) m no_object).class ≡ (get_or os m no_object).class
  set_class_of [] n m o c = refl
  set_class_of (q ∷ os) zero zero o c = c
  set_class_of (q ∷ os) zero (suc m) o c = refl
  set_class_of (q ∷ os) (suc n) zero o c = refl
  set_class_of (q ∷ os) (suc n) (suc m) o c = set_class_of os n m o c

  onward_set : (s : Store) (n : ℕ) (o : HeapObject) → o.class ≡ (object_at n s).class → Onward s (object_set n o s)
  onward_set s n o c = let e = set_size s.objects n o in record { more = omega (arith, e); classes = λ m l. set_class_of s.objects n m o c; closures = omega arith }

  onward_added : (s : Store) (o : HeapObject) → Onward s (object_added o s)
  onward_added s o =
      let e = length-append s.objects (o ∷ []) in
      record { more = omega (arith, e); classes = λ n l. ap (λ (q : HeapObject). q.class) (get_or_append_left s.objects (o ∷ []) no_object n l); closures = omega arith }

  onward_block : (s : Store) (class : ℕ) (c : Closure) → Onward s (block_added class c s)
  onward_block s class c =
      let o = block_object class (length s.closures) in
      let e = length-append s.objects (o ∷ []) in
      let f = length-append s.closures (c ∷ []) in
      record { more = omega (arith, e); classes = λ n l. ap (λ (q : HeapObject). q.class) (get_or_append_left s.objects (o ∷ []) no_object n l); closures = omega (arith, f) }

  pub built_added : (s : Store) (o : HeapObject) → BuiltStore p s → BuiltObject p s o → BuiltStore p (object_added o s)
  built_added s o h g =
      let t = object_added o s in
      let e = onward_added s o in
      record { each = added_all (λ q. BuiltObject p t q) (no_object_built t (some_class s h)) s.objects o (λ n. built_on s t e (object_at n s) (h.each n)) (built_on s t e o g) }

  pub built_set : (s : Store) (n : ℕ) (o : HeapObject) → BuiltStore p s → o.class ≡ (object_at n s).class → BuiltObject p s o → BuiltStore p (object_set n o s)
  built_set s n o h c g =
      let t = object_set n o s in
      let e = onward_set s n o c in
      record { each = set_all (λ q. BuiltObject p t q) (no_object_built t (some_class s h)) s.objects n o (λ m. built_on s t e (object_at m s) (h.each m)) (built_on s t e o g) }

  -- a new block
  block_built : (class_at p block_class).slots ≡ 0 → block_class < length p.classes → (s : Store) (c : Closure) → BuiltObject p (block_added block_class c s) (block_object block_class (length s.closures))
  block_built k l s c =
      let f = length-append s.closures (c ∷ []) in
      record {
        classed = l;
        counted = λ e. sym k;
        fraction = λ e. let none : ⊥ = omega (arith, e) in absurd none;
        interval = λ e. let none : ⊥ = omega (arith, e) in absurd none;
        message = λ e. let none : ⊥ = omega (arith, e) in absurd none;
        block = λ e. omega (arith, f);
        only_blocks = inr refl;
      }

  pub built_block : (class_at p block_class).slots ≡ 0 → block_class < length p.classes → (s : Store) (c : Closure) → BuiltStore p s → BuiltStore p (block_added block_class c s)
  built_block k l s c h =
      let t = block_added block_class c s in
      let e = onward_block s block_class c in
      record { each = added_all (λ q. BuiltObject p t q) (no_object_built t (some_class s h)) s.objects (block_object block_class (length s.closures)) (λ n. built_on s t e (object_at n s) (h.each n)) (block_built k l s c) }

  -- the same objects and closures
  pub built_same : (s t : Store) → t.objects ≡ s.objects → t.closures ≡ s.closures → BuiltStore p s → BuiltStore p t
  built_same s t e f h =
      let on : Onward s t = record { more = subst (λ os. length s.objects ≤ length os) (sym e) (omega arith); classes = λ n l. ap (λ os. (get_or os n no_object).class) e; closures = subst (λ cs. length s.closures ≤ length cs) (sym f) (omega arith) } in
      record { each = λ n. built_on s t on (object_at n t) (subst (λ os. BuiltObject p s (get_or os n no_object)) (sym e) (h.each n)) }

  -- ---- slots and bytes

  set_length : (xs : List Value) (i : ℕ) (v : Value) → length (slice_set xs i v) ≡ length xs
  set_length [] i v = refl
  set_length (x ∷ xs) zero v = refl
  set_length (x ∷ xs) (suc i) v = ap suc (set_length xs i v)

  slot_object : (s : Store) (o : HeapObject) (i : ℕ) (v : Value) → is_bound o.class ≡ false → BuiltObject p s o → BuiltObject p s (record { class = o.class; slots = slice_set o.slots i v; bytes = o.bytes; capacity = o.capacity; read_only = o.read_only; closure = o.closure })
  slot_object s o i v f h =
      record {
        classed = h.classed;
        counted = λ e. set_length o.slots i v ∙ h.counted e;
        fraction = λ e. absurd (fraction_apart o.class f e);
        interval = λ e. absurd (interval_apart o.class f e);
        message = λ e. absurd (message_apart o.class f e);
        block = h.block;
        only_blocks = h.only_blocks;
      }

  pub built_slot : (s : Store) (n i : ℕ) (v : Value) → BuiltStore p s → is_bound (object_at n s).class ≡ false → BuiltStore p (with_slot n i v s)
  built_slot s n i v h f = built_set s n _ h refl (slot_object s (object_at n s) i v f (h.each n))

  -- an object with the class, slots and closure of another
  pub like_object : (s : Store) (o o' : HeapObject) → o'.class ≡ o.class → o'.slots ≡ o.slots → o'.closure ≡ o.closure → BuiltObject p s o → BuiltObject p s o'
  like_object s o o' c x k h =
      record {
        classed = subst (λ i. i < length p.classes) (sym c) h.classed;
        counted = λ e. ap length x ∙ h.counted (ap (λ i. is_fixed i) (sym c) ∙ e) ∙ ap (λ i. (class_at p i).slots) (sym c);
        fraction = λ e. subst IsFraction (sym x) (h.fraction (sym c ∙ e));
        interval = λ e. subst IsInterval (sym x) (h.interval (sym c ∙ e));
        message = λ e. subst (IsMessage s) (sym x) (h.message (sym c ∙ e));
        block = λ e. subst (HasClosure s) (sym k) (h.block (sym c ∙ e));
        only_blocks = elim h.only_blocks [ inl n ↦ inl (k ∙ n) | inr b ↦ inr (c ∙ b) ];
      }

  pub built_byte : (s : Store) (n i b : ℕ) → BuiltStore p s → BuiltStore p (with_byte n i b s)
  built_byte s n i b h = built_set s n _ h refl (like_object s (object_at n s) _ refl refl refl (h.each n))

  -- other slots, of an object whose class has them free
  slots_object : (s : Store) (o o' : HeapObject) → o'.class ≡ o.class → o'.closure ≡ o.closure → is_fixed o.class ≡ false → BuiltObject p s o → BuiltObject p s o'
  slots_object s o o' c k f h =
      let g : is_fixed o'.class ≡ false = ap (λ i. is_fixed i) c ∙ f in
      let b = unbound o'.class g in
      record {
        classed = subst (λ i. i < length p.classes) (sym c) h.classed;
        counted = λ e. absurd (true≢false (sym e ∙ g));
        fraction = λ e. absurd (fraction_apart o'.class b e);
        interval = λ e. absurd (interval_apart o'.class b e);
        message = λ e. absurd (message_apart o'.class b e);
        block = λ e. absurd (block_apart o'.class b e);
        only_blocks = elim h.only_blocks [ inl n ↦ inl (k ∙ n) | inr e ↦ inr (c ∙ e) ];
      }

  pub built_grown : (s : Store) (n : ℕ) (slots : List Value) → BuiltStore p s → is_fixed (object_at n s).class ≡ false → BuiltStore p (with_elements s n slots).store
  unfolding with_elements
  built_grown s n slots h f = built_set s n _ h refl (slots_object s (object_at n s) _ refl refl f (h.each n))

  pub built_removed : (s : Store) (n i : ℕ) → BuiltStore p s → is_fixed (object_at n s).class ≡ false → BuiltStore p (without_element s n i)
  unfolding without_element
  built_removed s n i h f = built_set s n _ h refl (slots_object s (object_at n s) _ refl refl f (h.each n))

  class_removed : (s : Store) (n i m : ℕ) → (object_at m (without_element s n i)).class ≡ (object_at m s).class
  unfolding without_element
  class_removed s n i m = set_class_of s.objects n m _ refl

  pub built_pair_removed : (s : Store) (n i j : ℕ) → BuiltStore p s → is_fixed (object_at n s).class ≡ false → BuiltStore p (without_element (without_element s n i) n j)
  built_pair_removed s n i j h f = built_removed (without_element s n i) n j (built_removed s n i h f) (ap (λ c. is_fixed c) (class_removed s n i n) ∙ f)

  -- ---- new objects

  pub built_new : (s : Store) (class : ℕ) (slots : List Value) (bytes : List ℕ) → BuiltStore p s → BuiltObject p s (new_object class slots bytes) → BuiltStore p (with_new class slots bytes s)
  unfolding with_new
  built_new s class slots bytes h g = built_added s (new_object class slots bytes) h g

  module _ (known : KnowsBuilt p) where
    pub new_fraction : (s : Store) (n d : ℤ) → IsProper (Number.Fraction n d) → BuiltObject p s (new_object fraction_class (Integer n ∷ Integer d ∷ []) [])
    new_fraction s n d h =
        record {
          classed = omega (arith, known.classes);
          counted = λ e. sym known.fractions;
          fraction = λ e. h;
          interval = λ e. let none : ⊥ = omega (arith, e) in absurd none;
          message = λ e. let none : ⊥ = omega (arith, e) in absurd none;
          block = λ e. let none : ⊥ = omega (arith, e) in absurd none;
          only_blocks = inl refl;
        }

    pub new_interval : (s : Store) (start stop by : ℤ) → nat_eq (nat_abs by) 0 ≡ false → BuiltObject p s (new_object interval_class (Integer start ∷ Integer stop ∷ Integer by ∷ []) [])
    new_interval s start stop by h =
        record {
          classed = omega (arith, known.classes);
          counted = λ e. sym known.intervals;
          fraction = λ e. let none : ⊥ = omega (arith, e) in absurd none;
          interval = λ e. h;
          message = λ e. let none : ⊥ = omega (arith, e) in absurd none;
          block = λ e. let none : ⊥ = omega (arith, e) in absurd none;
          only_blocks = inl refl;
        }

    pub new_message : (s : Store) (selector n : ℕ) → (object_at n s).class ≡ array_class → BuiltObject p s (new_object message_class (Symbol selector ∷ Object n ∷ []) [])
    new_message s selector n h =
        record {
          classed = omega (arith, known.classes);
          counted = λ e. sym known.messages;
          fraction = λ e. let none : ⊥ = omega (arith, e) in absurd none;
          interval = λ e. let none : ⊥ = omega (arith, e) in absurd none;
          message = λ e. h;
          block = λ e. let none : ⊥ = omega (arith, e) in absurd none;
          only_blocks = inl refl;
        }
