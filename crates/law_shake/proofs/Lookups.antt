-- Lookup, kinds and texts under a renaming.
use Rattle.std.proofs.Common.{◌≡◌, ℕ, zero, suc, List, [], ◌∷◌, ◌++◌, map, drop, get_or, slice_get, Option, Some, None, Bool, ◌&&◌, nat_eq, refl, sym, ap, ◌∙◌, codes, if◌then◌else◌}
use Rattle.std.specs.Option.{option_map, option_and_then}
use Rattle.object_heap.specs.declared.value.Value.{Value}
use Rattle.object_heap.specs.declared.value.Value.TheVariants.{Nil, True, False, Integer, Character, Symbol, Class, Meta, Transcript, Object}
use Rattle.object_heap.specs.Store.{Store, Object as HeapObject, object_at, closure_at, no_object}
use Rattle.st_code.specs.Texts.{Text, symbol_text}
use Rattle.st_code.specs.Program.{Program, Side, OfInstance, OfClass, OfMeta, ClassRow, class_at, name_at, number_of}
use Rattle.st_code.specs.Messages.{Row}
use Rattle.st_code.specs.BuiltIns.{row_at, object_class, class_class, metaclass_class, exception_class, message_class, message_not_understood_class}
use Rattle.st_code.specs.Lookup.{Level, level, level_of, some_superclasses, superclasses, inherits, holds, walk, Found, UserMethod, BuiltIn, method_at, found_at, found_in, lookup, class_level, super_lookup, class_of, class_value, class_text, is_exception, is_plain, is_built_in}
use Rattle.st_collections.specs.Kinds.{same_value, is_a, bytes_of, slots_of, slot_of, integer_of, print_text, or_text, kept_message, unkept_text, exception_text}
use Rattle.law_shake.specs.Renaming.{Renaming, object, ren, rens, ren_object, ren_closure, ren_store, IsRenamed, sends_handles}
use Rattle.law_shake.proofs.Spreading.{map_read, map_get, read, placed_apart}

module _ (x : Renaming) where
  -- ---- stores

  pub object_read : (s : Store) (n : ℕ) → object_at (object x n) (ren_store x s) ≡ ren_object x (object_at n s)
  object_read s n = read (ren_object x) x.objects s.objects n no_object

  closure_from : (s : Store) (o : Option ℕ) → option_and_then (λ k. slice_get (map (ren_closure x) s.closures) k) o ≡ option_map (ren_closure x) (option_and_then (λ k. slice_get s.closures k) o)
  closure_from s None = refl
  closure_from s (Some k) = map_get (ren_closure x) s.closures k

  pub closure_read : (s : Store) (n : ℕ) → closure_at (object x n) (ren_store x s) ≡ option_map (ren_closure x) (closure_at n s)
  closure_read s n = ap (λ (o : HeapObject). option_and_then (λ k. slice_get (map (ren_closure x) s.closures) k) o.closure) (object_read s n) ∙ closure_from s (object_at n s).closure

  pub level_ren : (s : Store) (v : Value) → level_of (ren_store x s) (ren x v) ≡ level_of s v
  unfolding level_of
  level_ren s (Object n) = ap (λ (o : HeapObject). level OfInstance o.class) (object_read s n)
  level_ren s v = refl

  value_of_level : (l : Level) → ren x (class_value l) ≡ class_value l
  value_of_level l = go l.side
    where
      go : (side : Side) → ren x (elim side [ OfInstance ↦ Class l.class | OfClass ↦ Meta l.class | OfMeta ↦ Class metaclass_class ]) ≡ elim side [ OfInstance ↦ Class l.class | OfClass ↦ Meta l.class | OfMeta ↦ Class metaclass_class ]
      go OfInstance = refl
      go OfClass = refl
      go OfMeta = refl

  -- a class is no object
  pub class_same_value : (s : Store) (v : Value) → ren x (class_of s v) ≡ class_of s v
  unfolding class_of
  class_same_value s v = value_of_level (level_of s v)

  pub class_of_ren : (s : Store) (v : Value) → class_of (ren_store x s) (ren x v) ≡ class_of s v
  unfolding class_of
  class_of_ren s v = ap class_value (level_ren s v)

  pub is_a_ren : (s : Store) (c : ℕ) (v : Value) → is_a (ren_store x s) c (ren x v) ≡ is_a s c v
  unfolding is_a
  is_a_ren s c (Object n) = ap (λ (o : HeapObject). nat_eq o.class c) (object_read s n)
  is_a_ren s c v = refl

  pub slots_ren : (s : Store) (v : Value) → slots_of (ren_store x s) (ren x v) ≡ rens x (slots_of s v)
  unfolding slots_of
  slots_ren s (Object n) = ap (λ (o : HeapObject). o.slots) (object_read s n)
  slots_ren s v = refl

  pub slot_ren : (s : Store) (v : Value) (i : ℕ) → slot_of (ren_store x s) (ren x v) i ≡ ren x (slot_of s v i)
  unfolding slot_of
  slot_ren s v i = ap (λ vs. get_or vs i Nil) (slots_ren s v) ∙ map_read (ren x) (slots_of s v) i Nil

pub integer_ren : (x : Renaming) (v : Value) → integer_of (ren x v) ≡ integer_of v
integer_ren x (Integer n) = refl
integer_ren x v = refl

abbrev pub ren_found : Renaming → Found → Found
ren_found x (UserMethod code) = UserMethod (x.code code)
ren_found x (BuiltIn row) = BuiltIn row

module _ (x : Renaming) (q p : Program) (is : IsRenamed x q p) where
  -- ---- classes

  pub class_same : (c : ℕ) → class_at p c ≡ class_at q c
  unfolding class_at
  class_same c = ap (λ (rows : List ClassRow). class_at (record p { classes = rows }) c) is.classes

  above_same : (c n : ℕ) (o : Option ℕ) → ((a : ℕ) → some_superclasses p n a ≡ some_superclasses q n a) → (c ∷ elim o [ None ↦ [] | Some above ↦ some_superclasses p n above ]) ≡ (c ∷ elim o [ None ↦ [] | Some above ↦ some_superclasses q n above ])
  above_same c n None h = refl
  above_same c n (Some a) h = ap (λ cs. c ∷ cs) (h a)

  supers_same : (n c : ℕ) → some_superclasses p n c ≡ some_superclasses q n c
  supers_same zero c = refl
  supers_same (suc n) c =
      ap (λ (r : ClassRow). c ∷ elim r.superclass [ None ↦ [] | Some above ↦ some_superclasses p n above ]) (class_same c)
      ∙ above_same c n (class_at q c).superclass (supers_same n)

  superclasses_same : (c : ℕ) → superclasses p c ≡ superclasses q c
  unfolding superclasses
  superclasses_same c = supers_same (suc c) c

  pub inherits_same : (c ancestor : ℕ) → inherits p c ancestor ≡ inherits q c ancestor
  unfolding inherits
  inherits_same c ancestor = ap (λ cs. holds cs ancestor) (supers_same (suc c) c)

  pub walk_same : (l : Level) → walk p l ≡ walk q l
  unfolding walk
  walk_same l =
      ap (λ cs. elim l.side [
        | OfInstance ↦ map (level OfInstance) cs
        | OfClass ↦ map (level OfClass) cs ++ level OfInstance class_class ∷ level OfInstance object_class ∷ []
        | OfMeta ↦ level OfInstance metaclass_class ∷ level OfInstance object_class ∷ []
      ]) (superclasses_same l.class)

  -- ---- lookup

  found_by : (l : Level) (t : Text) (o : Option ℕ) → elim (option_map x.code o) [ Some code ↦ Some (UserMethod code) | None ↦ option_map BuiltIn (row_at l.class l.side t) ] ≡ option_map (ren_found x) (elim o [ Some code ↦ Some (UserMethod code) | None ↦ option_map BuiltIn (row_at l.class l.side t) ])
  found_by l t (Some code) = refl
  found_by l t None = built (row_at l.class l.side t)
    where
      built : (o : Option Row) → option_map BuiltIn o ≡ option_map (ren_found x) (option_map BuiltIn o)
      built None = refl
      built (Some row) = refl

  found_at_ren : (l : Level) (n : ℕ) → found_at p l (x.symbol n) ≡ option_map (ren_found x) (found_at q l n)
  unfolding found_at
  found_at_ren l n =
      ap (λ o. elim o [ Some code ↦ Some (UserMethod code) | None ↦ option_map BuiltIn (row_at l.class l.side (name_at p (x.symbol n))) ]) (is.methods l n)
      ∙ ap (λ t. elim (option_map x.code (method_at q.methods l n)) [ Some code ↦ Some (UserMethod code) | None ↦ option_map BuiltIn (row_at l.class l.side t) ]) (is.names n)
      ∙ found_by l (name_at q n) (method_at q.methods l n)

  found_or : (o : Option Found) (f g : Option Found) → f ≡ option_map (ren_found x) g → elim (option_map (ren_found x) o) [ Some found ↦ Some found | None ↦ f ] ≡ option_map (ren_found x) (elim o [ Some found ↦ Some found | None ↦ g ])
  found_or None f g h = h
  found_or (Some found) f g h = refl

  found_in_ren : (levels : List Level) (n : ℕ) → found_in p levels (x.symbol n) ≡ option_map (ren_found x) (found_in q levels n)
  unfolding found_in
  found_in_ren [] n = refl
  found_in_ren (l ∷ levels) n = ap (λ o. elim o [ Some found ↦ Some found | None ↦ found_in p levels (x.symbol n) ]) (found_at_ren l n) ∙ found_or (found_at q l n) _ _ (found_in_ren levels n)

  pub lookup_ren : (l : Level) (n : ℕ) → lookup p l (x.symbol n) ≡ option_map (ren_found x) (lookup q l n)
  unfolding lookup
  lookup_ren l n = ap (λ levels. found_in p levels (x.symbol n)) (walk_same l) ∙ found_in_ren (walk q l) n

  pub class_level_ren : (v : Value) → class_level (ren x v) ≡ class_level v
  class_level_ren (Class c) = refl
  class_level_ren (Meta c) = refl
  class_level_ren v = refl

  pub super_lookup_ren : (class : Value) (n : ℕ) → super_lookup p (ren x class) (x.symbol n) ≡ option_map (ren_found x) (super_lookup q class n)
  unfolding super_lookup
  super_lookup_ren class n =
      ap (λ l. found_in p (drop 1 (walk p l)) (x.symbol n)) (class_level_ren class)
      ∙ ap (λ levels. found_in p (drop 1 levels) (x.symbol n)) (walk_same (class_level class))
      ∙ found_in_ren (drop 1 (walk q (class_level class))) n

  -- ---- exceptions and their selectors

  pub is_exception_ren : (s : Store) (v : Value) → is_exception p (ren_store x s) (ren x v) ≡ is_exception q s v
  unfolding is_exception
  is_exception_ren s (Object n) = rw (object_read x s n) (inherits_same (object_at n s).class exception_class)
  is_exception_ren s v = refl

  built_in_ren : (o : Option Found) → is_built_in (option_map (ren_found x) o) ≡ is_built_in o
  built_in_ren None = refl
  built_in_ren (Some (UserMethod code)) = refl
  built_in_ren (Some (BuiltIn row)) = refl

  pub is_plain_ren : (s : Store) (v : Value) → is_plain p (ren_store x s) (ren x v) ≡ is_plain q s v
  unfolding is_plain
  is_plain_ren s v = rw (level_ren x s v, is.sent _ sends_handles, lookup_ren (level_of s v) (number_of q (codes "handles:"))) (built_in_ren (lookup q (level_of s v) (number_of q (codes "handles:"))))

  -- ---- texts

  pub bytes_ren : (s : Store) (v : Value) → bytes_of p (ren_store x s) (ren x v) ≡ bytes_of q s v
  unfolding bytes_of
  bytes_ren s (Symbol n) = ap Some (is.names n)
  bytes_ren s (Object n) = rw (object_read x s n) refl
  bytes_ren s v = refl

  pub print_ren : (s : Store) (v : Value) → print_text p (ren_store x s) (ren x v) ≡ print_text q s v
  unfolding print_text
  print_ren s (Symbol n) = rw (is.names n) refl
  print_ren s (Class c) = ap (λ (r : ClassRow). r.name) (class_same c)
  print_ren s (Meta c) = ap (λ (r : ClassRow). r.name ++ codes " class") (class_same c)
  print_ren s (Object n) = simp (object_read x s n, slot_ren x s (Object n) 0, slot_ren x s (Object n) 1, integer_ren x (slot_of s (Object n) 0), integer_ren x (slot_of s (Object n) 1), class_same)
  print_ren s v = refl

  class_text_ren : (v : Value) → class_text p (ren x v) ≡ class_text q v
  unfolding class_text
  class_text_ren (Class c) = ap (λ (r : ClassRow). r.name) (class_same c)
  class_text_ren (Meta c) = ap (λ (r : ClassRow). r.name ++ codes " class") (class_same c)
  class_text_ren v = refl

  class_of_same : (s : Store) (v : Value) → class_of (ren_store x s) (ren x v) ≡ ren x (class_of s v)
  class_of_same s v = class_of_ren x s v ∙ sym (class_same_value x s v)

  kept_ren : (s : Store) (v : Value) (t : Text) → kept_message p (ren_store x s) (ren x v) t ≡ kept_message q s v t
  kept_ren s (Symbol n) t = ap symbol_text (is.names n)
  kept_ren s v t = refl

  text_if : (b b' : Bool) (t t' u u' : Text) → b ≡ b' → t ≡ t' → u ≡ u' → (if b then t else u) ≡ (if b' then t' else u')
  text_if b b' t t' u u' e f g = cc

  both_if : (a a' b b' : Bool) → a ≡ a' → b ≡ b' → (a && b) ≡ (a' && b')
  both_if a a' b b' e f = cc

  unkept_ren : (s : Store) (n class : ℕ) → unkept_text p (ren_store x s) (object x n) class ≡ unkept_text q s n class
  unkept_ren s n class =
      text_if _ _ _ _ _ _
      (both_if _ _ _ _ (inherits_same class message_not_understood_class) (ap (is_a (ren_store x s) message_class) (slot_ren x s (Object n) 1) ∙ is_a_ren x s message_class (slot_of s (Object n) 1)))
      (ap (λ v. class_text p (class_of (ren_store x s) v) ++ codes " does not understand " ++ kept_message p (ren_store x s) (slot_of (ren_store x s) (slot_of (ren_store x s) (Object (object x n)) 1) 0) []) (slot_ren x s (Object n) 2)
      ∙ ap (λ v. class_text p v ++ codes " does not understand " ++ kept_message p (ren_store x s) (slot_of (ren_store x s) (slot_of (ren_store x s) (Object (object x n)) 1) 0) []) (class_of_same s (slot_of s (Object n) 2))
      ∙ ap (λ t. t ++ codes " does not understand " ++ kept_message p (ren_store x s) (slot_of (ren_store x s) (slot_of (ren_store x s) (Object (object x n)) 1) 0) []) (class_text_ren (class_of s (slot_of s (Object n) 2)))
      ∙ ap (λ v. class_text q (class_of s (slot_of s (Object n) 2)) ++ codes " does not understand " ++ kept_message p (ren_store x s) (slot_of (ren_store x s) v 0) []) (slot_ren x s (Object n) 1)
      ∙ ap (λ v. class_text q (class_of s (slot_of s (Object n) 2)) ++ codes " does not understand " ++ kept_message p (ren_store x s) v []) (slot_ren x s (slot_of s (Object n) 1) 0)
      ∙ ap (λ t. class_text q (class_of s (slot_of s (Object n) 2)) ++ codes " does not understand " ++ t) (kept_ren s (slot_of s (slot_of s (Object n) 1) 0) []))
      (ap (λ (r : ClassRow). r.name) (class_same class))

  pub exception_text_ren : (s : Store) (n : ℕ) → exception_text p (ren_store x s) (object x n) ≡ exception_text q s n
  unfolding exception_text
  exception_text_ren s n =
      ap (λ v. or_text (bytes_of p (ren_store x s) v) (unkept_text p (ren_store x s) (object x n) (object_at (object x n) (ren_store x s)).class)) (slot_ren x s (Object n) 0)
      ∙ ap (λ o. or_text o (unkept_text p (ren_store x s) (object x n) (object_at (object x n) (ren_store x s)).class)) (bytes_ren s (slot_of s (Object n) 0))
      ∙ ap (λ (o : HeapObject). or_text (bytes_of q s (slot_of s (Object n) 0)) (unkept_text p (ren_store x s) (object x n) o.class)) (object_read x s n)
      ∙ ap (or_text (bytes_of q s (slot_of s (Object n) 0))) (unkept_ren s n (object_at n s).class)

pub same_ren : (x : Renaming) → ((m n : ℕ) → nat_eq (x.symbol m) (x.symbol n) ≡ nat_eq m n) → (v w : Value) → same_value (ren x v) (ren x w) ≡ same_value v w
unfolding same_value
same_ren x h (Symbol m) (Symbol n) = h m n
same_ren x h (Object m) (Object n) = placed_apart x.objects m n
same_ren x h Nil Nil = refl
same_ren x h Nil w = refl
same_ren x h True True = refl
same_ren x h True w = refl
same_ren x h False False = refl
same_ren x h False w = refl
same_ren x h (Integer a) (Integer b) = refl
same_ren x h (Integer a) w = refl
same_ren x h (Character a) (Character b) = refl
same_ren x h (Character a) w = refl
same_ren x h (Symbol a) w = refl
same_ren x h (Class a) (Class b) = refl
same_ren x h (Class a) w = refl
same_ren x h (Meta a) (Meta b) = refl
same_ren x h (Meta a) w = refl
same_ren x h Transcript Transcript = refl
same_ren x h Transcript w = refl
same_ren x h (Object a) w = refl
